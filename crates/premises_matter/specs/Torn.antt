-- The loan's deal on two ledgers, where the one seat signs two lists of records.
use Rattle.std.specs.Prelude.{ℕ, if◌then◌else◌, List, [], ◌∷◌, None, Some, codes}
use Rattle.std.specs.List.{Contains}
use Rattle.std.specs.Str.{bytes_eq}
use Rattle.dh_base.specs.declared.id.Id.{Id}
use Rattle.dh_base.specs.declared.outcome.Outcome.TheVariants.{Commit, Abort}
use Rattle.act_text.specs.declared.act.Act.TheVariants.{StartDeal, Vote}
use Rattle.key_ring.specs.Making.{envelope_made}
use Rattle.cert_core.specs.Sets.{SetTold, id_of_set}
use Rattle.cert_core.specs.SeatTexts.{prefix_text}
use Rattle.clear_core.specs.declared.plan_act.PlanAct.TheVariants as plan
use Rattle.joined_deals.specs.DealTexts.{planned_text}
use Rattle.vote_log.specs.Entry.{Entry as Rec}
use Rattle.vote_log.specs.declared.kind.Kind.TheVariants as kind
use Rattle.vote_log.specs.Heads.{head_after}
use Rattle.claim_core.specs.declared.claim.Claim.{Claim}
use Rattle.claim_core.specs.Certificates.{Certifies}
use Rattle.compliant_deals.specs.CommitLogs.{start_of}
use Rattle.payoff.specs.Worlds.{World}
use Rattle.payoff.specs.Moments.{Moment, Accepts, Settles}
use Rattle.promise_met.specs.Loan.{ann, ben, seed, ident, the_set, coins, coin, the_text, the_deal}
use Rattle.promise_met.specs.Run.{new_ledger, accepts, enters, settling}

-- As `HasCertified`, but that one of two lists begins the other.
pub record HasEntered (w : World) (certified : List (List Rec)) : Type 0 where
  pub entered : (log : List Rec) (entry : Rec) → Contains certified log → Contains log entry
      → Contains w.entered entry
  pub claims : (claim : Claim) (set : SetTold) → Contains w.shown claim
      → Certifies w.genesis claim set → Contains certified claim.recs

abbrev pub notes : List ℕ
notes = codes "notes"

-- nobody has an agent
abbrev pub two_ledgers : World
two_ledgers = record {
  genesis = the_set;
  ledgers = λ name. if bytes_eq coins name then Some new_ledger
      else (if bytes_eq notes name then Some new_ledger else None);
  agents = λ own. None;
  pool = [];
  texts = [];
  shown = [];
  entered = [];
}

-- ---- the other list

abbrev pub abort_of : Id → ℕ → Rec
abort_of deal index = record { kind = kind.Abort; num = index; deal = deal }

abbrev pub abort_log : List Rec
abort_log = start_of the_deal.id 2 ∷ abort_of the_deal.id 1 ∷ []

abbrev pub abort_head : Id
abort_head = head_after (id_of_set the_set) abort_log

abbrev pub abort_claim : Claim
abort_claim = record {
  links = [];
  recs = abort_log;
  head = abort_head;
  sigs = record {
    seat = 0;
    env = envelope_made seed ident 1 0 (prefix_text (id_of_set the_set) 2 abort_head);
  } ∷ [];
}

-- One ledger is shown the one list, and the other ledger the other.
abbrev pub torn_run : List Moment
torn_run =
    accepts 0 plan.Register 0 ∷ accepts 1 (plan.Escrow coins coin 3) 0
    ∷ Accepts notes ann 0 (planned_text the_deal plan.Register)
    ∷ enters ben 2 (StartDeal the_text) ∷ enters ann 1 (Vote the_deal.id 0 Commit)
    ∷ enters ben 3 (Vote the_deal.id 1 Commit) ∷ enters ben 4 (Vote the_deal.id 1 Abort)
    ∷ settling
    ∷ Settles notes the_deal.id abort_claim (record { outcome = Abort; at = 1 }) ∷ []
