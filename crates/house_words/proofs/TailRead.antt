-- What is spelled behind a keyword is read.
use Rattle.std.proofs.Common.{◌≡◌, ℕ, true, Option, Some, None, List, [], ◌∷◌, length, map, refl, ap, ◌∙◌, IsTrue}
use Rattle.std.specs.Prelude.{nat_le, codes}
use Rattle.std.specs.List.{list_all}
use Rattle.std.proofs.lemmas.Bool.{and_from}
use Rattle.dh_base.specs.Names.{is_name}
use Rattle.dh_base.specs.Spelled.{outcome_text}
use Rattle.dh_base.specs.declared.outcome.Outcome.{Outcome}
use Rattle.dh_base.specs.declared.outcome.Outcome.TheVariants.{Commit, Abort}
use Rattle.line_text.proofs.WordReading.{Words}
use Rattle.script_lines.specs.WordLists.{names_only}
use Rattle.house_words.specs.Spelled.{LineWord, Fixed, Named, Number, Amount, SpellWords, named_if_any}
use Rattle.house_words.specs.Tails.{one_name, two_names, three_names, three_names_amount, two_names_number_then, two_names_number, name_number_name, two_names_number_name, three_names_number_outcome, name_two_numbers, names_from, name_if_any}
use Rattle.house_words.specs.WordKinds.{one_of}
use Rattle.house_words.proofs.WordFronts.{IsFront, AreSpelled, IsSplit, split, end_of, name_read, amount_read, number_read, fixed_front}

-- ---- names

pub one_name_read : {x : List ℕ} {ws : Words} → AreSpelled (Named x ∷ []) ws → one_name ws ≡ Some x
unfolding one_name
one_name_read s =
    let a = split s in
    rw (name_read a.front, end_of a.behind) refl

pub two_names_read : {x y : List ℕ} {ws : Words} → AreSpelled (Named x ∷ Named y ∷ []) ws → two_names ws ≡ Some (x, y)
unfolding two_names
two_names_read s =
    let a = split s in
    let b = split a.behind in
    rw (name_read a.front, name_read b.front, end_of b.behind) refl

pub three_names_read : {x y z : List ℕ} {ws : Words} → AreSpelled (Named x ∷ Named y ∷ Named z ∷ []) ws → three_names ws ≡ Some (x, y, z)
unfolding three_names
three_names_read s =
    let a = split s in
    let b = split a.behind in
    let c = split b.behind in
    rw (name_read a.front, name_read b.front, name_read c.front, end_of c.behind) refl

-- ---- names with an amount, a number or an outcome

pub three_names_amount_read : {x y z : List ℕ} {n : ℕ} {ws : Words} → AreSpelled (Named x ∷ Named y ∷ Named z ∷ Amount n ∷ []) ws → three_names_amount ws ≡ Some (x, y, z, n)
unfolding three_names_amount
three_names_amount_read s =
    let a = split s in
    let b = split a.behind in
    let c = split b.behind in
    let d = split c.behind in
    rw (name_read a.front, name_read b.front, name_read c.front, amount_read d.front, end_of d.behind) refl

-- the words behind those that were read
pub record IsBehind {A : Type 0} (read : Words → Option (A × Words)) (x : A) (values : List LineWord) (ws : Words) : Type 0 where
  pub rest : Words
  pub taken : read ws ≡ Some (x, rest)
  pub behind : AreSpelled values rest

pub two_names_number_then_read : {x y : List ℕ} {n : Option ℕ} {values : List LineWord} {ws : Words} → AreSpelled (Named x ∷ Named y ∷ Number n ∷ values) ws → IsBehind two_names_number_then (x, y, n) values ws
unfolding two_names_number_then
two_names_number_then_read s =
    let a = split s in
    let b = split a.behind in
    let c = split b.behind in
    record { rest = c.rest; taken = rw (name_read a.front, name_read b.front, number_read c.front) refl; behind = c.behind }

pub two_names_number_read : {x y : List ℕ} {n : Option ℕ} {ws : Words} → AreSpelled (Named x ∷ Named y ∷ Number n ∷ []) ws → two_names_number ws ≡ Some (x, y, n)
unfolding two_names_number
two_names_number_read s =
    let a = two_names_number_then_read s in
    rw (a.taken, end_of a.behind) refl

pub name_number_name_read : {x y : List ℕ} {n : Option ℕ} {ws : Words} → AreSpelled (Named x ∷ Number n ∷ Named y ∷ []) ws → name_number_name ws ≡ Some (x, n, y)
unfolding name_number_name
name_number_name_read s =
    let a = split s in
    let b = split a.behind in
    let c = split b.behind in
    rw (name_read a.front, number_read b.front, name_read c.front, end_of c.behind) refl

pub two_names_number_name_read : {x y z : List ℕ} {n : Option ℕ} {ws : Words} → AreSpelled (Named x ∷ Named y ∷ Number n ∷ Named z ∷ []) ws → two_names_number_name ws ≡ Some (x, y, n, z)
unfolding two_names_number_name
two_names_number_name_read s =
    let a = two_names_number_then_read s in
    let b = split a.behind in
    rw (a.taken, name_read b.front, end_of b.behind) refl

outcome_again : (outcome : Outcome) (rest : Words) → one_of (codes "commit") Commit (codes "abort") Abort (outcome_text outcome ∷ rest) ≡ Some (outcome, rest)
unfolding one_of
outcome_again Commit rest = refl
outcome_again Abort rest = refl

pub outcome_read : (outcome : Outcome) {ws rest : Words} → IsFront (Fixed (outcome_text outcome)) ws rest → one_of (codes "commit") Commit (codes "abort") Abort ws ≡ Some (outcome, rest)
outcome_read outcome {rest = rest} f = ap (one_of (codes "commit") Commit (codes "abort") Abort) (fixed_front f) ∙ outcome_again outcome rest

pub three_names_number_outcome_read : (outcome : Outcome) {x y z : List ℕ} {n : Option ℕ} {ws : Words} → AreSpelled (Named x ∷ Named y ∷ Named z ∷ Number n ∷ Fixed (outcome_text outcome) ∷ []) ws → three_names_number_outcome ws ≡ Some (x, y, z, n, outcome)
unfolding three_names_number_outcome
three_names_number_outcome_read outcome s =
    let a = split s in
    let b = split a.behind in
    let c = split b.behind in
    let d = split c.behind in
    let o = split d.behind in
    rw (name_read a.front, name_read b.front, name_read c.front, number_read d.front, outcome_read outcome o.front, end_of o.behind) refl

pub name_two_numbers_read : {x : List ℕ} {m n : Option ℕ} {values : List LineWord} {ws : Words} → AreSpelled (Named x ∷ Number m ∷ Number n ∷ values) ws → IsBehind name_two_numbers (x, m, n) values ws
unfolding name_two_numbers
name_two_numbers_read s =
    let a = split s in
    let b = split a.behind in
    let c = split b.behind in
    record { rest = c.rest; taken = rw (name_read a.front, number_read b.front, number_read c.front) refl; behind = c.behind }

-- ---- any number of names

named_all : (names ws : Words) → SpellWords (map Named names) ws → (ws ≡ names) × (list_all is_name names ≡ true)
named_all [] [] s = (refl, refl)
named_all [] (w ∷ ws) s = absurd s
named_all (n ∷ ns) [] s = absurd s
named_all (n ∷ ns) (w ∷ ws) s =
    let behind = named_all ns ws s.1 in
    (ap (λ (v : List ℕ). v ∷ ws) s.0.1 ∙ ap (λ (vs : Words). n ∷ vs) behind.0, and_from (is_name n) (list_all is_name ns) s.0.0 behind.1)

pub names_read : (names ws : Words) → AreSpelled (map Named names) ws → names_only ws ≡ Some names
names_read names ws s =
    let all = named_all names ws s.by in
    ap names_only all.0 ∙ rw all.1 refl

pub names_from_read : (least : ℕ) (names ws : Words) → AreSpelled (map Named names) ws → IsTrue (nat_le least (length names)) → names_from least ws ≡ Some names
unfolding names_from
names_from_read least names ws s enough = rw (names_read names ws s, enough) refl

any_read : (x : Option (List ℕ)) (ws : Words) → SpellWords (named_if_any x) ws → name_if_any ws ≡ Some x
any_read None [] s = refl
any_read None (w ∷ ws) s = absurd s
any_read (Some name) [] s = absurd s
any_read (Some name) (w ∷ ws) s =
    let read : one_name (w ∷ ws) ≡ Some name = one_name_read (record { by = s }) in
    rw read refl

pub name_if_any_read : (x : Option (List ℕ)) (ws : Words) → AreSpelled (named_if_any x) ws → name_if_any ws ≡ Some x
name_if_any_read x ws s = any_read x ws s.by
