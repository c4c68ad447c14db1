-- What the ledger of a name answers, by its place.
use Rattle.std.proofs.Common.{◌≡◌, ℕ, zero, suc, ◌+◌, ◌<◌, ◌≤◌, Bool, true, false, not, cond, Some, None, Result, Ok, Err, List, [], ◌∷◌, length, get_or, set, position, refl, sym, ap, subst, ◌∙◌, arith}
use Rattle.std.specs.List.{position_or_len}
use Rattle.std.specs.Str.{bytes_eq}
use Rattle.std.proofs.lemmas.List.Quantifiers.{position-Some}
use Rattle.std.proofs.lemmas.Grind.{common_steps}
use Rattle.dh_base.specs.declared.failure.NoMemory.{NoMemory}
use Rattle.vote_log.specs.Log.{Log}
use Rattle.plain_core.specs.Given.{Gives, GivesStep}
use Rattle.plain_core.specs.Ledgers.{LedgerTold, World, Answer, behind, first_answers, at_ledger, with_ledgers}
use Rattle.plain_core.specs.declared.reply.Reply.{Reply}

abbrev pub is_named : List ℕ → LedgerTold → Bool
is_named name ledger = bytes_eq name ledger.name

at_place : (name : List ℕ) (f : LedgerTold → Answer) (unknown : Reply) (ls : List LedgerTold) (k : ℕ) (d : LedgerTold) → k < length ls → is_named name (get_or ls k d) ≡ true → ((j : ℕ) → j < k → is_named name (get_or ls j d) ≡ false) → at_ledger name f unknown ls ≡ record { reply = (f (get_or ls k d)).reply; ledgers = set ls k (f (get_or ls k d)).ledger }
at_place name f unknown [] k d lt here before = absurd (omega (arith, lt))
at_place name f unknown (l ∷ ls) zero d lt here before = ap (λ b. cond b (first_answers l ls (f l)) (behind l (at_ledger name f unknown ls))) here
at_place name f unknown (l ∷ ls) (suc k) d lt here before =
    ap (λ b. cond b (first_answers l ls (f l)) (behind l (at_ledger name f unknown ls))) (before 0 (omega arith))
    ∙ ap (behind l) (at_place name f unknown ls k d (omega (arith, lt)) here (λ j less. before (suc j) (omega (arith, less))))

beyond : (name : List ℕ) (ls : List LedgerTold) → position (is_named name) ls ≡ None → length ls ≤ position_or_len (is_named name) ls
beyond name ls e = grind (arith, common_steps)

none_named : (name : List ℕ) (f : LedgerTold → Answer) (unknown : Reply) (ls : List LedgerTold) → length ls ≤ position_or_len (is_named name) ls → at_ledger name f unknown ls ≡ record { reply = unknown; ledgers = ls }
none_named name f unknown [] far = refl
none_named name f unknown (l ∷ ls) far = by (is_named name l) refl (λ rest. none_named name f unknown ls rest)
  where
    by : (b : Bool) → is_named name l ≡ b → (length ls ≤ position_or_len (is_named name) ls → at_ledger name f unknown ls ≡ record { reply = unknown; ledgers = ls }) → at_ledger name f unknown (l ∷ ls) ≡ record { reply = unknown; ledgers = l ∷ ls }
    by true e more = absurd (omega (arith, subst (λ b. suc (length ls) ≤ cond (not b) (1 + position_or_len (is_named name) ls) 0) e far))
    by false e more =
        ap (λ b. cond b (first_answers l ls (f l)) (behind l (at_ledger name f unknown ls))) e
        ∙ ap (behind l) (more (omega (arith, subst (λ b. suc (length ls) ≤ cond (not b) (1 + position_or_len (is_named name) ls) 0) e far)))

at_nowhere : (name : List ℕ) (f : LedgerTold → Answer) (unknown : Reply) (ls : List LedgerTold) → position (is_named name) ls ≡ None → at_ledger name f unknown ls ≡ record { reply = unknown; ledgers = ls }
at_nowhere name f unknown ls none = none_named name f unknown ls (beyond name ls none)

abbrev world_of : List LedgerTold → Log → World
world_of ledgers log = record { ledgers = ledgers; log = log }

pub unknown_ledger : (name : List ℕ) (f : LedgerTold → Answer) (unknown : Reply) (world : World) → position (is_named name) world.ledgers ≡ None → with_ledgers world (at_ledger name f unknown world.ledgers) ≡ record { reply = unknown; world = world }
unknown_ledger name f unknown world none = ap (with_ledgers world) (at_nowhere name f unknown world.ledgers none)

pub ledger_answers : (name : List ℕ) (f : LedgerTold → Answer) (unknown : Reply) (ledgers : List LedgerTold) (log : Log) (k : ℕ) (old new : LedgerTold) (result : Result Reply NoMemory) (world : World) → world_of ledgers log ≡ world → position (is_named name) world.ledgers ≡ Some k → old ≡ get_or ledgers k old → Gives result new (f old) → GivesStep result (world_of (set ledgers k new) log) (with_ledgers world (at_ledger name f unknown world.ledgers))
ledger_answers name f unknown ledgers log k old new (Err error) world is found here gives = tt
ledger_answers name f unknown ledgers log k old new (Ok reply) world is found here gives =
    let at : position (is_named name) ledgers ≡ Some k = ap (λ (w : World). position (is_named name) w.ledgers) is ∙ found in
    let place = position-Some (is_named name) ledgers k old at in
    let same : at_ledger name f unknown ledgers ≡ record { reply = (f old).reply; ledgers = set ledgers k (f old).ledger } =
    at_place name f unknown ledgers k old place.0 place.1 place.2 ∙ ap (λ (l : LedgerTold). record { reply = (f l).reply; ledgers = set ledgers k (f l).ledger }) (sym here) in
    ap (λ (w : World). with_ledgers w (at_ledger name f unknown w.ledgers)) (sym is)
    ∙ (ap (with_ledgers (world_of ledgers log)) same ∙ ap (λ (a : Answer). with_ledgers (world_of ledgers log) (record { reply = a.reply; ledgers = set ledgers k a.ledger })) gives)
