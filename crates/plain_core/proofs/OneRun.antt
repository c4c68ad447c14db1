-- What holds at every moment of a run.
use Rattle.std.specs.Option.{unwrap_or}
use Rattle.std.proofs.Common.{◌≡◌, ℕ, ◌+◌, ◌<◌, ◌≤◌, List, [], ◌∷◌, map, length, refl, sym, ap, subst, ◌∙◌, inl, inr, arith}
use Rattle.std.specs.Prelude.{Contains}
use Rattle.escrow_book.specs.Reached.{IsReached}
use Rattle.escrow_book.specs.Base.{greatest_turn}
use Rattle.plain_script.specs.BoundNames.{members_of}
use Rattle.plain_script.specs.Rules.{DeclareByRules}
use Rattle.plain_script.specs.declared.declaration.Declaration.{Declaration}
use Rattle.plain_script.specs.declared.event.Event.{Event}
use Rattle.plain_script.specs.declared.event.Event.TheVariants.{Register, Escrow, Transfer, Start, Commit, Abort, Claim}
use Rattle.plain_script.specs.OpeningRows.{rows_of}
use Rattle.plain_core.specs.Openings.{ledger_names}
use Rattle.plain_core.specs.Starts.{started_ledger, started_world}
use Rattle.plain_core.specs.Ledgers.{LedgerTold, World, Answer, at_ledger, register_answer, escrow_answer, transfer_answer, step_of}
use Rattle.plain_core.specs.declared.reply.Reply.{Reply}
use Rattle.plain_core.specs.declared.reply.Reply.TheVariants.{RefusedAct, RefusedClaim}
use Rattle.plain_core.specs.declared.act_refusal.ActRefusal.TheVariants.{UnknownDeal as UnknownAct}
use Rattle.plain_core.specs.declared.claim_refusal.ClaimRefusal.TheVariants.{UnknownDeal}
use Rattle.plain_core.proofs.GoodOpening.{good_opening}
use Rattle.plain_core.proofs.Finding.{contains_none, contains_cons, came_from}
use Rattle.plain_core.proofs.Following.{GrowthLaws, Follows, stays, register_quiet, escrow_quiet, transfer_quiet}
use Rattle.plain_core.proofs.Settling.{claim_follows, claim_at}

-- ---- every step goes on from what was

-- each ledger goes on from one that was there
abbrev pub GoOn : List LedgerTold → List LedgerTold → Type 0
GoOn before after = (ledger : LedgerTold) → Contains after ledger → (old : LedgerTold) × Contains before old × Follows old ledger

ledgers_stay : (ls : List LedgerTold) → GoOn ls ls
ledgers_stay ls ledger there = (ledger, there, stays ledger)

ledger_goes_on : (name : List ℕ) (f : LedgerTold → Answer) (unknown : Reply) (ls : List LedgerTold) → ((l : LedgerTold) → Follows l (f l).ledger) → GoOn ls (at_ledger name f unknown ls).ledgers
ledger_goes_on name f unknown ls follows ledger there =
    elim (came_from name f unknown ls ledger there) [
      | inl before ↦ (ledger, before, stays ledger)
      | inr found ↦ (found.0, found.2, subst (Follows found.0) (sym found.3) (follows found.0))
    ]

pub step_goes_on : GrowthLaws → (ds : List Declaration) → DeclareByRules [] ds → (world : World) (event : Event) → GoOn world.ledgers (step_of ds world event).world.ledgers
step_goes_on laws ds keep world (Register ledger deal party) = ledger_goes_on ledger (register_answer (members_of ds deal) deal party) (RefusedAct UnknownAct) world.ledgers (λ l. (register_quiet laws ds deal party keep l).follows)
step_goes_on laws ds keep world (Escrow ledger deal party asset amount) = ledger_goes_on ledger (escrow_answer deal party asset amount) (RefusedAct UnknownAct) world.ledgers (λ l. (escrow_quiet laws deal party asset amount l).follows)
step_goes_on laws ds keep world (Transfer ledger deal from turn to asset amount) = ledger_goes_on ledger (transfer_answer deal from (unwrap_or turn 0) to asset amount) (RefusedAct UnknownAct) world.ledgers (λ l. (transfer_quiet laws deal from (unwrap_or turn 0) to asset amount l).follows)
step_goes_on laws ds keep world (Start deal party) = ledgers_stay world.ledgers
step_goes_on laws ds keep world (Commit deal party) = ledgers_stay world.ledgers
step_goes_on laws ds keep world (Abort deal party) = ledgers_stay world.ledgers
step_goes_on laws ds keep world (Claim ledger deal len) = ledger_goes_on ledger (claim_at world deal (unwrap_or len 0)) (RefusedClaim UnknownDeal) world.ledgers (claim_follows laws world.log.entries deal (unwrap_or len 0))

-- ---- every ledger has a good history

-- the ledger has the script's opening rows, a history that a book reaches, and at most so many changes
pub record IsSound (ds : List Declaration) (n : ℕ) (ledger : LedgerTold) : Type 0 where
  pub opening : ledger.history.opening ≡ rows_of ds ledger.name
  pub reached : IsReached ledger.history
  pub few : length ledger.history.changes ≤ n

abbrev pub AreSound : List Declaration → ℕ → List LedgerTold → Type 0
AreSound ds n ledgers = (ledger : LedgerTold) → Contains ledgers ledger → IsSound ds n ledger

started_sound : (ds : List Declaration) → DeclareByRules [] ds → (names : List (List ℕ)) → AreSound ds 0 (map (started_ledger ds) names)
started_sound ds keep [] ledger there = absurd (contains_none ledger there)
started_sound ds keep (name ∷ names) ledger there =
    elim (contains_cons (started_ledger ds name) (map (started_ledger ds) names) ledger there) [
      | inl is ↦ subst (IsSound ds 0) is (record { opening = refl; reached = record { whole = refl; good = good_opening ds name keep; accepted = tt }; few = omega arith })
      | inr more ↦ started_sound ds keep names ledger more
    ]

pub start_sound : (ds : List Declaration) → DeclareByRules [] ds → AreSound ds 0 (started_world ds).ledgers
start_sound ds keep = started_sound ds keep (ledger_names ds)

pub step_sound : GrowthLaws → (ds : List Declaration) → DeclareByRules [] ds → (world : World) (event : Event) (n : ℕ) → n < greatest_turn → AreSound ds n world.ledgers → AreSound ds (n + 1) (step_of ds world event).world.ledgers
step_sound laws ds keep world event n room sound ledger there =
    let old = step_goes_on laws ds keep world event ledger there in
    let s = sound old.0 old.1 in
    record {
      opening = old.2.opening ∙ (s.opening ∙ ap (rows_of ds) (sym old.2.name));
      reached = old.2.reached s.reached (omega (arith, room, s.few));
      few = omega (arith, old.2.few, s.few);
    }
