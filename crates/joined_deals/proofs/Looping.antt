-- What loops over lists keep.
use Rattle.std.proofs.Common.{◌≡◌, ℕ, zero, suc, ◌+◌, ◌<◌, ◌≤◌, ◌==◌, inl, inr, Bool, true, false, ◌||◌, cond, List, [], ◌∷◌, ◌++◌, length, drop, take, set, get_or, slice_get, Option, Some, None, arith, refl, sym, ap, ◌∙◌}
use Rattle.std.specs.List.{list_any, position_from}
use Rattle.std.specs.Option.{option_or}
use Rattle.std.specs.Str.{bytes_eq}
use Rattle.std.proofs.Math.Seq.{drop-cons}
use Rattle.std.proofs.lemmas.List.{drop_all}
use Rattle.std.proofs.lemmas.Option.{slice_get_within, get_or_from_slice_get, slice_get-get_or}
use Rattle.act_text.specs.declared.statement.HeldRow.{HeldRow}
use Rattle.act_text.specs.declared.statement.Statement.{Statement}
use Rattle.clear_core.specs.declared.pair.Pair.{Pair}
use Rattle.joined_deals.specs.declared.agent_fault.AgentFault.{AgentFault}
use Rattle.joined_deals.specs.Signed.{signs_at}
use Rattle.joined_deals.specs.Heard.{is_about, with_heard, listed_of}
use Rattle.joined_deals.specs.AgentCalls.{first_refusal}

-- an item and what is behind it
pub drop_item : {X : Type 0} (xs : List X) (k : ℕ) (x : X) → k < length xs → x ≡ get_or xs k x → drop k xs ≡ x ∷ drop (k + 1) xs
drop_item xs k x h is =
    let next : suc k ≡ k + 1 = omega arith in
    drop-cons xs k x h ∙ (ap (λ (y : _). y ∷ drop (suc k) xs) (sym is) ∙ ap (λ j. x ∷ drop j xs) next)

drop_at : {X : Type 0} (xs : List X) (k : ℕ) (x : X) → slice_get xs k ≡ Some x → drop k xs ≡ x ∷ drop (k + 1) xs
drop_at xs k x there = drop_item xs k x (slice_get_within xs k x there) (sym (get_or_from_slice_get xs k x x there))

-- ---- what keys have signed

module _ (texts : List (List ℕ)) (text : List ℕ) (q : ℕ) where
  abbrev test : List ℕ → Bool
  test other = bytes_eq other text

  at_key : (there : Option (List ℕ)) → slice_get texts q ≡ there → signs_at text there ≡ true → (other : List ℕ) × (slice_get texts q ≡ Some other) × (test other ≡ true)
  at_key None is passes = absurd (let e : false ≡ true = passes in cc)
  at_key (Some other) is passes = (other, is, passes)

  pub signs_here : signs_at text (slice_get texts q) ≡ true → list_any (λ other. bytes_eq other text) (drop q texts) ≡ list_any (λ other. bytes_eq other text) texts → true ≡ list_any (λ other. bytes_eq other text) texts
  signs_here passes same =
      let at = at_key (slice_get texts q) refl passes in
      sym (ap (λ (b : Bool). b || list_any test (drop (q + 1) texts)) at.2) ∙ (sym (ap (list_any test) (drop_at texts q at.0 at.1)) ∙ same)

  fails_at : (there : Option (List ℕ)) → q < length texts → slice_get texts q ≡ there → signs_at text there ≡ false → (other : List ℕ) × (slice_get texts q ≡ Some other) × (test other ≡ false)
  fails_at None h is fails = absurd (let e : None ≡ Some (get_or texts q []) = sym is ∙ slice_get-get_or texts q [] h in cc)
  fails_at (Some other) h is fails = (other, is, fails)

  pub signs_on : q < length texts → signs_at text (slice_get texts q) ≡ false → list_any (λ other. bytes_eq other text) (drop q texts) ≡ list_any (λ other. bytes_eq other text) texts → list_any (λ other. bytes_eq other text) (drop (q + 1) texts) ≡ list_any (λ other. bytes_eq other text) texts
  signs_on h fails same =
      let at = fails_at (slice_get texts q) h refl fails in
      sym (ap (λ (b : Bool). b || list_any test (drop (q + 1) texts)) at.2) ∙ (sym (ap (list_any test) (drop_at texts q at.0 at.1)) ∙ same)

  pub signs_end : length texts ≤ q → list_any (λ other. bytes_eq other text) (drop q texts) ≡ list_any (λ other. bytes_eq other text) texts → false ≡ list_any (λ other. bytes_eq other text) texts
  signs_end past same = sym (ap (list_any test) (drop_all q texts past)) ∙ same

-- ---- rows

row_case : HeldRow → List HeldRow → List ℕ → Bool → ℕ
row_case row rows asset same = cond same row.amount (listed_of rows asset)

pub listed_here : (rows : List HeldRow) (asset : List ℕ) (k : ℕ) (row : HeldRow) → k < length rows → row ≡ get_or rows k row → bytes_eq asset row.asset ≡ true → listed_of (drop k rows) asset ≡ listed_of rows asset → row.amount ≡ listed_of rows asset
unfolding row_case
listed_here rows asset k row h is same kept =
    sym (ap (row_case row (drop (k + 1) rows) asset) same) ∙ (sym (ap (λ (rs : List HeldRow). listed_of rs asset) (drop_item rows k row h is)) ∙ kept)

pub listed_on : (rows : List HeldRow) (asset : List ℕ) (k : ℕ) (row : HeldRow) → k < length rows → row ≡ get_or rows k row → bytes_eq asset row.asset ≡ false → listed_of (drop k rows) asset ≡ listed_of rows asset → listed_of (drop (k + 1) rows) asset ≡ listed_of rows asset
unfolding row_case
listed_on rows asset k row h is other kept =
    sym (ap (row_case row (drop (k + 1) rows) asset) other) ∙ (sym (ap (λ (rs : List HeldRow). listed_of rs asset) (drop_item rows k row h is)) ∙ kept)

-- ---- refusals

pub refused_here : (refusal : Pair → Option AgentFault) (pairs : List Pair) (k : ℕ) (pair : Pair) (fault : AgentFault) → k < length pairs → pair ≡ get_or pairs k pair → refusal pair ≡ Some fault → first_refusal refusal (drop k pairs) ≡ first_refusal refusal pairs → Some fault ≡ first_refusal refusal pairs
refused_here refusal pairs k pair fault h is found same =
    sym (ap (λ (o : Option AgentFault). option_or o (first_refusal refusal (drop (k + 1) pairs))) found) ∙ (sym (ap (first_refusal refusal) (drop_item pairs k pair h is)) ∙ same)

pub refused_on : (refusal : Pair → Option AgentFault) (pairs : List Pair) (k : ℕ) (pair : Pair) → k < length pairs → pair ≡ get_or pairs k pair → refusal pair ≡ None → first_refusal refusal (drop k pairs) ≡ first_refusal refusal pairs → first_refusal refusal (drop (k + 1) pairs) ≡ first_refusal refusal pairs
refused_on refusal pairs k pair h is none same =
    sym (ap (λ (o : Option AgentFault). option_or o (first_refusal refusal (drop (k + 1) pairs))) none) ∙ (sym (ap (first_refusal refusal) (drop_item pairs k pair h is)) ∙ same)

-- ---- a statement in place of another

case_of : Statement → List Statement → Statement → Bool → List Statement
case_of kept rest statement same = cond same (statement ∷ rest) (kept ∷ with_heard rest statement)

-- a place from one number on is as far from another
module _ (test : Statement → Bool) where
  from_next : (i k : ℕ) (heard : List Statement) → position_from test (i + 1) heard ≡ Some k → (j : ℕ) × (k ≡ j + 1) × (position_from test i heard ≡ Some j)
  from_next i k [] found = absurd (let e : None ≡ Some k = found in cc)
  from_next i k (first ∷ heard) found = go (test first) refl (from_next (i + 1) k heard) found
    where
      go : (b : Bool) → test first ≡ b → (position_from test (i + 1 + 1) heard ≡ Some k → (j : ℕ) × (k ≡ j + 1) × (position_from test (i + 1) heard ≡ Some j)) → cond b (Some (i + 1)) (position_from test (i + 1 + 1) heard) ≡ Some k → (j : ℕ) × (k ≡ j + 1) × (cond b (Some i) (position_from test (i + 1) heard) ≡ Some j)
      go true is rest e = (i, sym (let s : Some (i + 1) ≡ Some k = e in cc), refl)
      go false is rest e = rest e

  none_next : (i : ℕ) (heard : List Statement) → position_from test (i + 1) heard ≡ None → position_from test i heard ≡ None
  none_next i [] none = refl
  none_next i (first ∷ heard) none = go (test first) (none_next (i + 1) heard) none
    where
      go : (b : Bool) → (position_from test (i + 1 + 1) heard ≡ None → position_from test (i + 1) heard ≡ None) → cond b (Some (i + 1)) (position_from test (i + 1 + 1) heard) ≡ None → cond b (Some i) (position_from test (i + 1) heard) ≡ None
      go true rest e = absurd (let s : Some (i + 1) ≡ None = e in cc)
      go false rest e = rest e

set_first : (first : Statement) (heard : List Statement) (statement : Statement) (j k : ℕ) → k ≡ j + 1 → set (first ∷ heard) k statement ≡ first ∷ set heard j statement
set_first first heard statement j k is = ap (λ (n : ℕ). set (first ∷ heard) n statement) (next j k is)
  where
    next : (m n : ℕ) → n ≡ m + 1 → n ≡ suc m
    next m n e = omega arith

pub set_position : (heard : List Statement) (statement : Statement) (place : ℕ) → position_from (is_about statement.deal statement.ledger) 0 heard ≡ Some place → set heard place statement ≡ with_heard heard statement
unfolding case_of
set_position [] statement place found = absurd (let e : None ≡ Some place = found in cc)
set_position (first ∷ heard) statement place found = go (is_about statement.deal statement.ledger first) refl (set_position heard statement) found
  where
    go : (b : Bool) → is_about statement.deal statement.ledger first ≡ b → ((k : ℕ) → position_from (is_about statement.deal statement.ledger) 0 heard ≡ Some k → set heard k statement ≡ with_heard heard statement) → cond b (Some 0) (position_from (is_about statement.deal statement.ledger) 1 heard) ≡ Some place → set (first ∷ heard) place statement ≡ case_of first heard statement b
    go true is rest e = let at : place ≡ 0 = (let s : Some 0 ≡ Some place = e in cc) in ap (λ (n : ℕ). set (first ∷ heard) n statement) at
    go false is rest e =
        let at = from_next (is_about statement.deal statement.ledger) 0 place heard e in
        set_first first heard statement at.0 place at.1 ∙ ap (λ (t : List Statement). first ∷ t) (rest at.0 at.2)

pub push_position : (heard : List Statement) (statement : Statement) → position_from (is_about statement.deal statement.ledger) 0 heard ≡ None → heard ++ statement ∷ [] ≡ with_heard heard statement
unfolding case_of
push_position [] statement none = refl
push_position (first ∷ heard) statement none = go (is_about statement.deal statement.ledger first) (push_position heard statement) none
  where
    go : (b : Bool) → (position_from (is_about statement.deal statement.ledger) 0 heard ≡ None → heard ++ statement ∷ [] ≡ with_heard heard statement) → cond b (Some 0) (position_from (is_about statement.deal statement.ledger) 1 heard) ≡ None → (first ∷ heard) ++ statement ∷ [] ≡ case_of first heard statement b
    go true rest e = absurd (let s : Some 0 ≡ None = e in cc)
    go false rest e = ap (λ (t : List Statement). first ∷ t) (rest (none_next (is_about statement.deal statement.ledger) 0 heard e))
