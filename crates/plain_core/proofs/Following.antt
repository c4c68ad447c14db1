-- How a ledger goes on from an event: by one change at most, which its history accepts.
use Rattle.std.proofs.Common.{◌≡◌, ℕ, ◌+◌, ◌<◌, ◌≤◌, Bool, true, false, cond, Option, Some, None, is_some, List, [], ◌∷◌, map, length, refl, inl, inr, ◌⊎◌, arith, ap, subst}
use Rattle.std.specs.Prelude.{Contains, IsTrue}
use Rattle.std.proofs.lemmas.List.{length-append}
use Rattle.std.proofs.lemmas.List.Elements.{Contains-push_cases, Contains-append_left}
use Rattle.std.proofs.lemmas.List.Sums.{count_by-le-length}
use Rattle.dh_base.specs.declared.id.Id.{Id}
use Rattle.dh_base.specs.declared.outcome.Outcome.{Outcome}
use Rattle.escrow_book.specs.declared.change.Change.{Change}
use Rattle.escrow_book.specs.declared.change.Change.TheVariants.{Registered, Escrowed, Transferred, Settled}
use Rattle.escrow_book.specs.declared.fault.BookFault.{BookFault}
use Rattle.escrow_book.specs.Base.{Carried, carried_moves, greatest_turn}
use Rattle.escrow_book.specs.History.{History, with_change, parties_of, is_known, moves_of, is_move}
use Rattle.escrow_book.specs.Reached.{IsReached, are_parties, registered}
use Rattle.escrow_book.specs.Refused.{escrow_refusal, transfer_refusal, settle_refusal}
use Rattle.plain_script.specs.BoundNames.{members_of}
use Rattle.plain_script.specs.Rules.{DeclareByRules}
use Rattle.plain_script.specs.declared.declaration.Declaration.{Declaration}
use Rattle.plain_script.specs.Ids.{plain_id}
use Rattle.plain_core.specs.Ledgers.{LedgerTold, Answer, is_member, with_entry, accepts, refuses, act_refusal, act_answer, register_answer, escrow_answer, transfer_answer}
use Rattle.plain_core.specs.declared.reply.Reply.{Reply}
use Rattle.plain_core.specs.declared.reply.Reply.TheVariants.{Settled as IsSettled, Already, RefusedAct}
use Rattle.plain_core.specs.declared.act_refusal.ActRefusal.TheVariants.{NotAParty}
use Rattle.plain_core.proofs.Members.{members_are_parties}

-- what is known of histories: each change that nothing refuses is accepted
pub record GrowthLaws : Type 0 where
  pub register : (h : History) (d : Id) (parties : List Id) → IsReached h → parties_of h d ≡ None → IsTrue (are_parties parties) → IsReached (with_change h (Registered d parties))
  pub escrow : (h : History) (d p : Id) (x : List ℕ) (n : ℕ) → IsReached h → escrow_refusal h d p x n ≡ None → IsReached (with_change h (Escrowed d p x n))
  pub transfer : (h : History) (d from : Id) (turn : ℕ) (to : Id) (x : List ℕ) (n : ℕ) → IsReached h → moves_of h d from < greatest_turn → transfer_refusal h d from turn to x n ≡ None → IsReached (with_change h (Transferred d from to x n))
  pub settle : (h : History) (d : Id) (outcome : Outcome) → IsReached h → settle_refusal h d ≡ None → IsReached (with_change h (Settled d outcome))

-- the ledger goes on from the other by one change at most, which its history accepts
pub record Follows (old new : LedgerTold) : Type 0 where
  pub name : new.name ≡ old.name
  pub opening : new.history.opening ≡ old.history.opening
  pub few : length new.history.changes ≤ length old.history.changes + 1
  pub reached : IsReached old.history → length old.history.changes < greatest_turn → IsReached new.history
  pub keeps : (d : Id) (o : Outcome) → Contains old.history.changes (Settled d o) → Contains new.history.changes (Settled d o)

pub stays : (ledger : LedgerTold) → Follows ledger ledger
stays ledger = record { name = refl; opening = refl; few = omega arith; reached = λ reached few. reached; keeps = λ d o there. there }

pub takes : (ledger : LedgerTold) (change : Change) → (IsReached ledger.history → length ledger.history.changes < greatest_turn → IsReached (with_change ledger.history change)) → Follows ledger (with_entry ledger (with_change ledger.history change))
takes ledger change reached = record { name = refl; opening = refl; few = omega (arith, length-append ledger.history.changes (change ∷ [])); reached = reached; keeps = λ d o there. Contains-append_left ledger.history.changes (change ∷ []) (Settled d o) there }

-- ---- acts settle nothing

-- a settlement that stands in the one ledger stood in the other
abbrev pub SettlesNothing : (old new : LedgerTold) → Type 0
SettlesNothing old new = (d : Id) (o : Outcome) → Contains new.history.changes (Settled d o) → Contains old.history.changes (Settled d o)

abbrev pub TellsNoSettlement : Reply → Type 0
TellsNoSettlement reply = (o : Outcome) → reply ≡ IsSettled o → ⊥

-- the reply tells no outcome
abbrev pub IsSilent : Reply → Type 0
IsSilent (IsSettled o) = ⊥
IsSilent (Already o) = ⊥
IsSilent _ = Unit {0}

pub silent_settled : (reply : Reply) → IsSilent reply → TellsNoSettlement reply
silent_settled reply silent o e = subst IsSilent e silent

pub silent_again : (reply : Reply) → IsSilent reply → (o : Outcome) → reply ≡ Already o → ⊥
silent_again reply silent o e = subst IsSilent e silent

pub record IsQuiet (old : LedgerTold) (answer : Answer) : Type 0 where
  pub follows : Follows old answer.ledger
  pub settles : SettlesNothing old answer.ledger
  pub replies : IsSilent answer.reply

refused_quiet : (ledger : LedgerTold) (reply : Reply) → IsSilent reply → IsQuiet ledger (refuses ledger reply)
refused_quiet ledger reply none = record { follows = stays ledger; settles = λ d o there. there; replies = none }

-- the change settles no deal
abbrev LeavesOpen : Change → Type 0
LeavesOpen change = (d : Id) (o : Outcome) → change ≡ Settled d o → ⊥

taken_quiet : (ledger : LedgerTold) (change : Change) → LeavesOpen change → (IsReached ledger.history → length ledger.history.changes < greatest_turn → IsReached (with_change ledger.history change)) → IsQuiet ledger (accepts ledger (with_change ledger.history change))
taken_quiet ledger change other reached = record {
  follows = takes ledger change reached;
  settles = λ d o there. settled d o (Contains-push_cases ledger.history.changes change (Settled d o) there);
  replies = tt;
}
  where
    settled : (d : Id) (o : Outcome) → Contains ledger.history.changes (Settled d o) ⊎ (change ≡ Settled d o) → Contains ledger.history.changes (Settled d o)
    settled d o there = elim there [ inl before ↦ before | inr is ↦ absurd (other d o is) ]

-- ---- acts

no_parties : {T : Type 0} (o : Option T) → is_some o ≡ false → o ≡ None
no_parties None e = refl
no_parties (Some t) e = absurd cc

some_member : (members : List (List ℕ)) (party : List ℕ) → is_member members party ≡ true → 0 < length members
some_member [] party e = absurd cc
some_member (m ∷ ms) party e = omega arith

pub register_quiet : GrowthLaws → (ds : List Declaration) (deal party : List ℕ) → DeclareByRules [] ds → (ledger : LedgerTold) → IsQuiet ledger (register_answer (members_of ds deal) deal party ledger)
register_quiet laws ds deal party keep ledger = by (is_member (members_of ds deal) party) refl
  where
    ids : List Id
    ids = map plain_id (members_of ds deal)

    by_known : (b : Bool) → is_known ledger.history (plain_id deal) ≡ b → 0 < length (members_of ds deal) → IsQuiet ledger (accepts ledger (cond b ledger.history (with_change ledger.history (Registered (plain_id deal) ids))))
    by_known true known some = record { follows = record { name = refl; opening = refl; few = omega arith; reached = λ reached few. reached; keeps = λ d o there. there }; settles = λ d o there. there; replies = tt }
    by_known false unknown some =
        taken_quiet ledger (Registered (plain_id deal) ids) (λ d o e. cc) (λ reached few. laws.register ledger.history (plain_id deal) ids reached (no_parties (parties_of ledger.history (plain_id deal)) unknown) (members_are_parties ds deal keep some))

    by : (b : Bool) → is_member (members_of ds deal) party ≡ b → IsQuiet ledger (cond b (accepts ledger (registered ledger.history (plain_id deal) ids)) (refuses ledger (RefusedAct (NotAParty party))))
    by true member = by_known (is_known ledger.history (plain_id deal)) refl (some_member (members_of ds deal) party member)
    by false other = refused_quiet ledger (RefusedAct (NotAParty party)) tt

-- an act that the book refuses, or that its history accepts
act_quiet : (ledger : LedgerTold) (first second : List ℕ) (refusal : Option BookFault) (change : Change) → LeavesOpen change → (refusal ≡ None → IsReached ledger.history → length ledger.history.changes < greatest_turn → IsReached (with_change ledger.history change)) → IsQuiet ledger (act_answer ledger first second refusal (with_change ledger.history change))
act_quiet ledger first second (Some fault) change other reached = refused_quiet ledger (RefusedAct (act_refusal first second fault)) tt
act_quiet ledger first second None change other reached = taken_quiet ledger change other (reached refl)

pub escrow_quiet : GrowthLaws → (deal party asset : List ℕ) (amount : ℕ) (ledger : LedgerTold) → IsQuiet ledger (escrow_answer deal party asset amount ledger)
escrow_quiet laws deal party asset amount ledger =
    act_quiet ledger party party (escrow_refusal ledger.history (plain_id deal) (plain_id party) asset amount) (Escrowed (plain_id deal) (plain_id party) asset amount) (λ d o e. cc)
    (λ free reached few. laws.escrow ledger.history (plain_id deal) (plain_id party) asset amount reached free)

pub transfer_quiet : GrowthLaws → (deal from : List ℕ) (turn : ℕ) (to asset : List ℕ) (amount : ℕ) (ledger : LedgerTold) → IsQuiet ledger (transfer_answer deal from turn to asset amount ledger)
transfer_quiet laws deal from turn to asset amount ledger =
    act_quiet ledger from to (transfer_refusal ledger.history (plain_id deal) (plain_id from) turn (plain_id to) asset amount) (Transferred (plain_id deal) (plain_id from) (plain_id to) asset amount) (λ d o e. cc)
    (λ free reached few. laws.transfer ledger.history (plain_id deal) (plain_id from) turn (plain_id to) asset amount reached (omega (arith, few, ap (λ (base : Carried). carried_moves base (plain_id deal) (plain_id from)) reached.whole, count_by-le-length (is_move (plain_id deal) (plain_id from)) ledger.history.changes)) free)
