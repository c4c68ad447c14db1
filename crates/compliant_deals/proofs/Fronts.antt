-- What holds behind each front of the steps.
use Rattle.std.proofs.Common.{◌≡◌, ℕ, ◌+◌, ◌-◌, ◌<◌, None, List, [], length, ap, sym, ◌∙◌, subst, arith}
use Rattle.escrow_book.specs.declared.change.Change.{Change}
use Rattle.escrow_book.specs.Opening.{Row}
use Rattle.escrow_book.specs.History.{History, if_abort_of, if_commit_of, moves_of, settlement_of}
use Rattle.escrow_book.specs.Reached.{started}
use Rattle.deal_core.specs.Deals.{DealTold}
use Rattle.deal_core.specs.DealText.{IsSpellable}
use Rattle.deal_core.specs.Kept.{IsDeal}
use Rattle.deal_core.specs.declared.step.Step.{Step}
use Rattle.clear_core.specs.Clearing.{need_of, incoming, outgoing, turns_of}
use Rattle.ledger_rows.specs.declared.entry.Entry.{Entry}
use Rattle.ledger_rows.specs.Entries.{book_of}
use Rattle.ledger_history.specs.Histories.{AreAccepted, IsHistory}
use Rattle.joined_deals.specs.DealTexts.{account_of}
use Rattle.compliant_deals.specs.Parts.{acts_on}
use Rattle.compliant_deals.specs.Complying.{ComplyTo}
use Rattle.compliant_deals.proofs.Stages.{book_with, IsStage}
use Rattle.compliant_deals.proofs.Doing.{changes_behind, needed, all_done}
use Rattle.compliant_deals.proofs.Keys.{acts_accepted, entries_make}

module _ (deal : DealTold) (front : List Step) (l : List ℕ) (rows : List Row) (entries : List Entry) (d : IsDeal deal) (s : IsSpellable deal) (c : ComplyTo deal front l rows entries) where
  abbrev pub changes : List Change
  changes = changes_behind deal d s l rows [] (acts_on deal l c.registrant front)

  pub book_is : book_of rows entries ≡ book_with rows changes
  book_is =
      let done = all_done deal d s l rows c.funded c.registrant c.party front c.later c.steps in
      ap (book_of rows) c.entries_are ∙ entries_make deal d s l rows [] c.key 0 (acts_on deal l c.registrant front) done.fine

  pub stage : IsStage deal d l rows changes (needed deal d s l rows) front
  stage = (all_done deal d s l rows c.funded c.registrant c.party front c.later c.steps).stage

  pub front_accepted : IsHistory l rows entries
  front_accepted =
      let done = all_done deal d s l rows c.funded c.registrant c.party front c.later c.steps in
      let all = acts_accepted deal d s l rows c.key (acts_on deal l c.registrant front) done.fine c.own_keys in
      record { good = c.funded.good; accepted = subst (λ (es : List Entry). AreAccepted l (started rows) [] es) (sym c.entries_are) all }

  pub front_running : settlement_of (book_of rows entries) deal.id ≡ None
  front_running = ap (λ (b : History). settlement_of b deal.id) book_is ∙ stage.running

  pub front_put_up : (k : ℕ) (x : List ℕ) → k < length deal.parties → if_abort_of (book_of rows entries) deal.id (account_of deal.parties k) x ≡ need_of deal.steps k l x
  front_put_up k x lt =
      let same = ap (λ (b : History). if_abort_of b deal.id (account_of deal.parties k) x) book_is in
      omega (arith, same, stage.escrows k x lt)

  pub front_owned : (k : ℕ) (x : List ℕ) → k < length deal.parties → if_commit_of (book_of rows entries) deal.id (account_of deal.parties k) x ≡ need_of deal.steps k l x + incoming front k l x - outgoing front k l x
  front_owned k x lt =
      let same = ap (λ (b : History). if_commit_of b deal.id (account_of deal.parties k) x) book_is in
      omega (arith, same, stage.escrows k x lt, stage.comes k x lt, stage.goes k x lt)

  pub front_moved : (k : ℕ) → k < length deal.parties → moves_of (book_of rows entries) deal.id (account_of deal.parties k) ≡ turns_of front k l
  front_moved k lt =
      let same = ap (λ (b : History). moves_of b deal.id (account_of deal.parties k)) book_is in
      omega (arith, same, stage.moves k lt)
