-- Which deals can be voted on once a log has one more record.
use Rattle.std.proofs.Common.{◌≡◌, ℕ, Bool, true, false, cond, Option, Some, None, Result, Ok, Err, List, [], ◌∷◌, ◌++◌, length, refl, ap, sym, ◌∙◌, ◌⊎◌, inl, inr}
use Rattle.std.specs.Option.{option_map}
use Rattle.dh_base.specs.declared.id.Id.{Id}
use Rattle.vote_log.specs.declared.decision.Decision.{Decision}
use Rattle.vote_log.specs.declared.log_fault.LogFault.{LogFault}
use Rattle.vote_log.specs.Entry.{Entry}
use Rattle.vote_log.specs.declared.kind.Kind.TheVariants.{Start}
use Rattle.vote_log.specs.Deciding.{Started, is_of, is_start, first_start, followed, outcome_of}
use Rattle.vote_log.specs.Owed.{owed_of}
use Rattle.vote_log.specs.Admission.{parties_started, votable_by, votable_of, start_refusal, add_refusal}
use Rattle.vote_log.proofs.Ids.{bytes_eq-refl}
use Rattle.vote_log.proofs.Pushed.{start_with, start_push}
use Rattle.vote_log.proofs.Counted.{started_push}
use Rattle.vote_log.proofs.Decided.{stays}

-- a deal that can be voted on is started, of so many parties
votable_started : (start : Option Started) (decision : Option Decision) (n : ℕ) → votable_by start decision ≡ Ok n → option_map (λ (s : Started). s.parties) start ≡ Some n
votable_started None decision n e = absurd cc
votable_started (Some start) (Some decision) n e = absurd cc
votable_started (Some start) None n e = cc

pub votable_parties : (log : List Entry) (deal : Id) (n : ℕ) → votable_of log deal ≡ Ok n → parties_started log deal ≡ Some n
votable_parties log deal n e = votable_started (first_start log deal) (outcome_of log deal) n e

open_before : (start : Started) (now after : Option Decision) (n : ℕ) → ((d : Decision) → now ≡ Some d → after ≡ Some d) → votable_by (Some start) after ≡ Ok n → votable_by (Some start) now ≡ Ok n
open_before start None None n keeps e = e
open_before start None (Some d) n keeps e = absurd cc
open_before start (Some d) after n keeps e = absurd (let is = keeps d refl in let h = ap (votable_by (Some start)) (sym is) in cc (h, e))

votable_later : (deal : Id) (entry : Entry) (place : ℕ) (b : Bool) (after : Option Decision) (n : ℕ)
    → votable_by (cond b (Some (record { at = place; parties = entry.num; since = [] })) None) after ≡ Ok n → b ≡ true
votable_later deal entry place true after n e = refl
votable_later deal entry place false after n e = absurd cc

-- it could be voted on before, or the record starts it
pub votable_before : (log : List Entry) (deal : Id) (entry : Entry) (n : ℕ) → votable_of (log ++ entry ∷ []) deal ≡ Ok n → (votable_of log deal ≡ Ok n) ⊎ (is_start deal entry ≡ true)
votable_before log deal entry n e = go (first_start log deal) refl
  where
    go : (o : Option Started) → first_start log deal ≡ o → (votable_of log deal ≡ Ok n) ⊎ (is_start deal entry ≡ true)
    go (Some start) is =
        let after : votable_by (Some (followed start entry)) (outcome_of (log ++ entry ∷ []) deal) ≡ Ok n = ap (λ (s : Option Started). votable_by s (outcome_of (log ++ entry ∷ []) deal)) (sym (started_push log deal start entry is)) ∙ e in
        let same : (d : Option Decision) → votable_by (Some (followed start entry)) d ≡ votable_by (Some start) d = λ d. elim d as (λ d. votable_by (Some (followed start entry)) d ≡ votable_by (Some start) d) [ None ↦ refl | Some x ↦ refl ] in
        let before = open_before start (outcome_of log deal) (outcome_of (log ++ entry ∷ []) deal) n (λ d h. stays log (entry ∷ []) deal d h) (sym (same (outcome_of (log ++ entry ∷ []) deal)) ∙ after) in
        inl (ap (λ (s : Option Started). votable_by s (outcome_of log deal)) is ∙ before)
    go None is =
        let started : first_start (log ++ entry ∷ []) deal ≡ start_with deal (length log) None entry = start_push log deal entry ∙ ap (λ (s : Option Started). start_with deal (length log) s entry) is in
        inr (votable_later deal entry (length log) (is_start deal entry) (outcome_of (log ++ entry ∷ []) deal) n (ap (λ (s : Option Started). votable_by s (outcome_of (log ++ entry ∷ []) deal)) (sym started) ∙ e))

-- a deal that is started stays so
pub parties_push : (log : List Entry) (deal : Id) (entry : Entry) (n : ℕ) → parties_started log deal ≡ Some n → parties_started (log ++ entry ∷ []) deal ≡ Some n
parties_push log deal entry n e = go (first_start log deal) refl e
  where
    go : (o : Option Started) → first_start log deal ≡ o → option_map (λ (s : Started). s.parties) o ≡ Some n → parties_started (log ++ entry ∷ []) deal ≡ Some n
    go None is e = absurd cc
    go (Some start) is e = ap (option_map (λ (s : Started). s.parties)) (started_push log deal start entry is) ∙ e

start_free : (start : Option Started) (len owed limit parties : ℕ) → start_refusal start len owed limit parties ≡ None → start ≡ None
start_free None len owed limit parties e = refl
start_free (Some start) len owed limit parties e = absurd cc

-- a start that is taken is of a deal that was not started
pub start_is_first : (log : List Entry) (limit parties : ℕ) (deal : Id) → add_refusal log limit (record { kind = Start; num = parties; deal = deal }) ≡ None → first_start log deal ≡ None
start_is_first log limit parties deal e = start_free (first_start log deal) (length log) (owed_of log) limit parties e

-- and it is started then
pub start_pushed : (log : List Entry) (limit parties : ℕ) (deal : Id) → add_refusal log limit (record { kind = Start; num = parties; deal = deal }) ≡ None
    → parties_started (log ++ record { kind = Start; num = parties; deal = deal } ∷ []) deal ≡ Some parties
start_pushed log limit parties deal e =
    let entry : Entry = record { kind = Start; num = parties; deal = deal } in
    ap (option_map (λ (s : Started). s.parties))
    (start_push log deal entry
    ∙ (ap (λ (s : Option Started). start_with deal (length log) s entry) (start_is_first log limit parties deal e)
    ∙ ap (λ (b : Bool). cond b (Some (record { at = length log; parties = parties; since = [] })) None) (bytes_eq-refl deal)))
