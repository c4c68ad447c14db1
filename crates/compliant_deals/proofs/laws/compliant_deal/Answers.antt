use Rattle.std.proofs.Common.{ℕ, List, ◌∙◌, length, arith}
use Rattle.dh_base.specs.declared.outcome.Outcome.TheVariants.{Commit}
use Rattle.escrow_book.specs.History.{if_commit_of}
use Rattle.ledger_rows.specs.Entries.{book_of}
use Rattle.joined_deals.specs.DealTexts.{account_of}
use Rattle.compliant_deals.specs.CommitLogs.{whole_log}
use Rattle.compliant_deals.proofs.Decided.{whole_decides}
use Rattle.compliant_deals.proofs.Seen.{due_is_named, due_is_listed, plan_signed}
use Rattle.compliant_deals.proofs.laws.compliant_deal.Goals as goal

pub returns-clause-accepted : goal.returns-clause-accepted
returns-clause-accepted c = λ deal ledger rows entries. c.compliant_front.ensures.accepted deal deal.steps ledger rows entries

pub returns-clause-owned : goal.returns-clause-owned
returns-clause-owned c = λ deal ledger rows entries. c.compliant_front.ensures.owned deal deal.steps ledger rows entries

pub returns-clause-validated : goal.returns-clause-validated
returns-clause-validated c = λ joined signed heard rows entries d s lt all signs hears. record {
  acts = plan_signed signed joined signs;
  seen = λ ledger asset due.
      let deal = joined.deal in
      let on = (due_is_named joined s ledger asset due).on in
      let done = all ledger on in
      let heard_here = hears ledger on in
      let owned = λ (x : List ℕ). c.compliant_front.ensures.owned deal deal.steps ledger (rows ledger) (entries ledger) joined.index x d s done lt in
      record {
        statement = heard_here.statement;
        kept = heard_here.kept;
        unsettled = heard_here.says.settled ∙ c.compliant_front.ensures.running deal deal.steps ledger (rows ledger) (entries ledger) d s done;
        moved = heard_here.says.moves ∙ c.compliant_front.ensures.moved deal deal.steps ledger (rows ledger) (entries ledger) joined.index d s done lt;
        lists = due_is_listed joined s ledger (if_commit_of (book_of (rows ledger) (entries ledger)) deal.id (account_of deal.parties joined.index)) heard_here.statement.rows heard_here.says.listed owned;
      };
}

pub returns-clause-decided : goal.returns-clause-decided
returns-clause-decided c = λ deal d. whole_decides deal.id (length deal.parties) (omega (arith, d.parties)) (c.first_decisive.ensures.some (whole_log deal.id (length deal.parties)) deal.id (length deal.parties) Commit).1
