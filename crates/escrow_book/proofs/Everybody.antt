-- The accounts of a history, each once.
use Rattle.std.proofs.Common.{◌≡◌, ℕ, ◌≤◌, Bool, true, false, ◌||◌, not, cond, List, [], ◌∷◌, ◌++◌, map, refl, ap, ◌∙◌, ⊎_elim, arith}
use Rattle.std.specs.List.{sum_by, list_all, flat_map}
use Rattle.std.proofs.lemmas.Bool.{or_cases, or_left, or_right, and_from, not_from_false}
use Rattle.std.proofs.lemmas.List.Sums.{sum_by-cons}
use Rattle.dh_base.specs.declared.id.Id.{Id}
use Rattle.escrow_book.specs.declared.change.Change.{Change}
use Rattle.escrow_book.specs.Opening.{Row}
use Rattle.dh_base.specs.Ids.{same_id}
use Rattle.escrow_book.specs.History.{History, is_in}
use Rattle.escrow_book.specs.Reached.{are_different}
use Rattle.escrow_book.specs.Conserved.{AreItsAccounts, named, are_in}
use Rattle.dh_base.proofs.SameIds.{id_from_same, same_id-self}

pub is_in-append : (q : Id) (xs ys : List Id) → is_in q (xs ++ ys) ≡ (is_in q xs || is_in q ys)
is_in-append q [] ys = refl
is_in-append q (x ∷ xs) ys = ap (λ b. same_id q x || b) (is_in-append q xs ys) ∙ or_assoc (same_id q x) (is_in q xs) (is_in q ys)
  where
    or_assoc : (a b c : Bool) → (a || (b || c)) ≡ ((a || b) || c)
    or_assoc true b c = refl
    or_assoc false b c = refl

-- the list without repetitions
abbrev pub once : List Id → List Id
once [] = []
once (p ∷ ps) = cond (is_in p (once ps)) (once ps) (p ∷ once ps)

once_different : (ps : List Id) → are_different (once ps) ≡ true
once_different [] = refl
once_different (p ∷ ps) = at (is_in p (once ps)) refl (once_different ps)
  where
    at : (b : Bool) → is_in p (once ps) ≡ b → are_different (once ps) ≡ true → are_different (cond b (once ps) (p ∷ once ps)) ≡ true
    at true e h = h
    at false e h = and_from (not (is_in p (once ps))) (are_different (once ps)) (not_from_false (is_in p (once ps)) e) h

once_keeps : (ps : List Id) (q : Id) → is_in q ps ≡ true → is_in q (once ps) ≡ true
once_keeps [] q e = e
once_keeps (p ∷ ps) q e =
    ⊎_elim
    (λ (same : same_id q p ≡ true). first (is_in p (once ps)) refl same)
    (λ (later : is_in q ps ≡ true). rest (is_in p (once ps)) (once_keeps ps q later))
    (or_cases (same_id q p) (is_in q ps) e)
  where
    first : (b : Bool) → is_in p (once ps) ≡ b → same_id q p ≡ true → is_in q (cond b (once ps) (p ∷ once ps)) ≡ true
    first true there same = ap (λ i. is_in i (once ps)) (id_from_same q p same) ∙ there
    first false out same = or_left (same_id q p) (is_in q (once ps)) same

    rest : (b : Bool) → is_in q (once ps) ≡ true → is_in q (cond b (once ps) (p ∷ once ps)) ≡ true
    rest true h = h
    rest false h = or_right (same_id q p) (is_in q (once ps)) h

all_in : (few accounts : List Id) → ((q : Id) → is_in q few ≡ true → is_in q accounts ≡ true) → are_in few accounts ≡ true
all_in [] accounts h = refl
all_in (p ∷ few) accounts h =
    and_from (is_in p accounts) (are_in few accounts) (h p (or_left (same_id p p) (is_in p few) (same_id-self p))) (all_in few accounts (λ q e. h q (or_right (same_id q p) (is_in q few) e)))

pub rows_in : (rows : List Row) (accounts : List Id) → ((q : Id) → is_in q (map (λ (row : Row). row.0) rows) ≡ true → is_in q accounts ≡ true) → list_all (λ row. is_in row.0 accounts) rows ≡ true
rows_in [] accounts h = refl
rows_in (row ∷ rows) accounts h =
    and_from (is_in row.0 accounts) (list_all (λ r. is_in r.0 accounts) rows) (h row.0 (or_left (same_id row.0 row.0) (is_in row.0 (map (λ (r : Row). r.0) rows)) (same_id-self row.0))) (rows_in rows accounts (λ q e. h q (or_right (same_id q row.0) (is_in q (map (λ (r : Row). r.0) rows)) e)))

changes_in : (changes : List Change) (accounts : List Id) → ((q : Id) → is_in q (flat_map named changes) ≡ true → is_in q accounts ≡ true) → list_all (λ c. are_in (named c) accounts) changes ≡ true
changes_in [] accounts h = refl
changes_in (c ∷ changes) accounts h =
    and_from (are_in (named c) accounts) (list_all (λ i. are_in (named i) accounts) changes)
    (all_in (named c) accounts (λ q e. h q (is_in-append q (named c) (flat_map named changes) ∙ or_left (is_in q (named c)) (is_in q (flat_map named changes)) e)))
    (changes_in changes accounts (λ q e. h q (is_in-append q (named c) (flat_map named changes) ∙ or_right (is_in q (named c)) (is_in q (flat_map named changes)) e)))

abbrev names : History → Id → List Id
names h p = p ∷ (map (λ (row : Row). row.0) h.opening ++ flat_map named h.changes)

-- the account and each that the history names
abbrev pub everybody : History → Id → List Id
everybody h p = once (names h p)

pub everybody_is_all : (h : History) (p : Id) → AreItsAccounts h (everybody h p)
everybody_is_all h p =
    let rows : List Id = map (λ (row : Row). row.0) h.opening in
    let changes : List Id = flat_map named h.changes in
    record {
      different = once_different (names h p);
      of_rows = rows_in h.opening (everybody h p) (λ q e. once_keeps (names h p) q (or_right (same_id q p) (is_in q (rows ++ changes)) (is_in-append q rows changes ∙ or_left (is_in q rows) (is_in q changes) e)));
      of_changes = changes_in h.changes (everybody h p) (λ q e. once_keeps (names h p) q (or_right (same_id q p) (is_in q (rows ++ changes)) (is_in-append q rows changes ∙ or_right (is_in q rows) (is_in q changes) e)));
    }

pub everybody_has : (h : History) (p : Id) → is_in p (everybody h p) ≡ true
everybody_has h p = once_keeps (names h p) p (or_left (same_id p p) (is_in p (map (λ (row : Row). row.0) h.opening ++ flat_map named h.changes)) (same_id-self p))

-- these accounts and each that the history names
abbrev pub everyone : History → List Id → List Id
everyone h more = once (more ++ (map (λ (row : Row). row.0) h.opening ++ flat_map named h.changes))

pub everyone_is_all : (h : History) (more : List Id) → AreItsAccounts h (everyone h more)
everyone_is_all h more =
    let rows : List Id = map (λ (row : Row). row.0) h.opening in
    let changes : List Id = flat_map named h.changes in
    record {
      different = once_different (more ++ (rows ++ changes));
      of_rows = rows_in h.opening (everyone h more) (λ q e. once_keeps (more ++ (rows ++ changes)) q (is_in-append q more (rows ++ changes) ∙ or_right (is_in q more) (is_in q (rows ++ changes)) (is_in-append q rows changes ∙ or_left (is_in q rows) (is_in q changes) e)));
      of_changes = changes_in h.changes (everyone h more) (λ q e. once_keeps (more ++ (rows ++ changes)) q (is_in-append q more (rows ++ changes) ∙ or_right (is_in q more) (is_in q (rows ++ changes)) (is_in-append q rows changes ∙ or_right (is_in q rows) (is_in q changes) e)));
    }

pub everyone_has : (h : History) (more : List Id) (q : Id) → is_in q more ≡ true → is_in q (everyone h more) ≡ true
everyone_has h more q e = once_keeps (more ++ (map (λ (row : Row). row.0) h.opening ++ flat_map named h.changes)) q (is_in-append q more (map (λ (row : Row). row.0) h.opening ++ flat_map named h.changes) ∙ or_left (is_in q more) (is_in q (map (λ (row : Row). row.0) h.opening ++ flat_map named h.changes)) e)

-- one account has no more than all together
pub one_within_all : (f : Id → ℕ) (accounts : List Id) (q : Id) → is_in q accounts ≡ true → f q ≤ sum_by f accounts
one_within_all f [] q e = absurd cc
one_within_all f (p ∷ accounts) q e =
    ⊎_elim
    (λ (same : same_id q p ≡ true). let one : f q ≡ f p = ap f (id_from_same q p same) in omega (arith, sum_by-cons f p accounts))
    (λ (later : is_in q accounts ≡ true). let rest : f q ≤ sum_by f accounts = one_within_all f accounts q later in omega (arith, sum_by-cons f p accounts))
    (or_cases (same_id q p) (is_in q accounts) e)
