-- The rows of a table that is there already are rows of cells, where it has the keeper's form.
use Rattle.std.proofs.Common.{◌≡◌, ◌&&◌, ◌||◌, ◌<ℤ◌, ℕ, ℤ, pos, negsuc, Bool, true, false, not, cond, List, [], ◌∷◌, ◌++◌, map, filter, length, codes, Ok, Err, IfOk, Some, None, refl, sym, ap, ap₂, subst, ◌∙◌, arith, inl, inr, Less}
use Rattle.std.proofs.lemmas.Int.{ints}
use Rattle.std.proofs.lemmas.Bool.{cases_Bool}
use Rattle.std.specs.List.{AllByRecursion, list_any, list_all}
use Rattle.std.specs.Ordering.{int_cmp, eq_by_cmp, is_eq, is_ne, is_lt, is_gt}
use Rattle.sqlite.specs.declared.types.Value.{Value}
use Rattle.sqlite.specs.declared.types.Value.TheVariants.{Null, Int, Real, Text, Blob}
use Rattle.sqlite.specs.Order.{Row, column, value_cmp}
use Rattle.sqlite.specs.Ops.{binary, is_true, from_truth, is_null}
use Rattle.sqlite.specs.Kind.TheVariants.{Integer, Blob as Bytes}
use Rattle.sqlite_sql.specs.declared.ops.BinaryOp.TheVariants.{Or}
use Rattle.sqlite_sql.specs.declared.ops.CompareOp.TheVariants.{Eq, Ne, Lt, Gt}
use Rattle.sqlite_value.specs.Keys.{plain, first_key}
use Rattle.sqlite_value.proofs.OrderLemmas.{value_cmp-Int}
use Rattle.sqlite_trees.specs.Tree.{Trees, rowid, IsTable}
use Rattle.sqlite_trees.specs.View.{is_int, IsShaped}
use Rattle.sqlite_trees.specs.declared.store.Shape.TheVariants.{Table}
use Rattle.sqlite_schema.specs.Rules.{is_of, are_typed, has_computed, passes, agree, differ, clashes}
use Rattle.sqlite_schema.specs.declared.schema.Constraint.TheVariants.{Datatype, NotNull, Unique}
use Rattle.sqlite_catalog.specs.Listing.{IsSound}
use Rattle.sqlite_rules.specs.Lists.{Has}
use Rattle.sqlite_keyed.specs.Keyed.{IsKeyedBy}
use Rattle.sqlite_keyed.specs.Rules.{AreApart}
use Rattle.keeper_sql.specs.Statements.{cell, the_schema, is_stray}
use Rattle.keeper_sql.specs.CellRows.{CellRow, cell_in, to_row, from_row, is_on, AreRowsOf}
use Rattle.keeper_sql.proofs.CellLists.{tests_as}
use Rattle.keeper_sql.proofs.Selecting.{truth_of}

both_true : (a b : Bool) → (a && b) ≡ true → (a ≡ true) × (b ≡ true)
both_true true b h = (refl, h)
both_true false b h = absurd cc

false_true : false ≡ true → ⊥
false_true e = absurd cc

ends_false : (a b c : Bool) → (a && (b && (c && false))) ≡ true → ⊥
ends_false true true true h = false_true h
ends_false true true false h = false_true h
ends_false true false c h = false_true h
ends_false false b c h = false_true h

-- ---- a row of the form

abbrev IsCellRow : Row → Type 0
IsCellRow row = row ≡ to_row (from_row row)

id_of : (v : Value) → is_int v ≡ true → (z : ℤ) × (v ≡ Int z)
id_of Null h = absurd (false_true h)
id_of (Int z) h = (z, refl)
id_of (Real x) h = absurd (false_true h)
id_of (Text t) h = absurd (false_true h)
id_of (Blob b) h = absurd (false_true h)

int_of : (v : Value) → is_of Integer v ≡ true → not (is_null v) ≡ true → (z : ℤ) × (v ≡ Int z)
int_of Null typed there = absurd (false_true there)
int_of (Int z) typed there = (z, refl)
int_of (Real x) typed there = absurd (false_true typed)
int_of (Text t) typed there = absurd (false_true typed)
int_of (Blob b) typed there = absurd (false_true typed)

blob_of : (v : Value) → is_of Bytes v ≡ true → not (is_null v) ≡ true → (bs : List ℕ) × (v ≡ Blob bs)
blob_of Null typed there = absurd (false_true there)
blob_of (Int z) typed there = absurd (false_true typed)
blob_of (Real x) typed there = absurd (false_true typed)
blob_of (Text t) typed there = absurd (false_true typed)
blob_of (Blob bs) typed there = (bs, refl)

either_truth : (a b : Bool) → (is_true (binary Or (from_truth (Some a)) (from_truth (Some b))) && true) ≡ (a || b)
unfolding binary
either_truth true true = refl
either_truth true false = refl
either_truth false true = refl
either_truth false false = refl

-- the selection asks for the rows whose number is below 0 or above 255
stray_is : (id z : ℤ) (key val : List ℕ) → is_stray (Int id ∷ Int z ∷ Blob key ∷ Blob val ∷ []) ≡ (is_lt (value_cmp (Int z) (Int (pos 0))) || is_gt (value_cmp (Int z) (Int (pos 255))))
unfolding binary value_cmp
stray_is id z key val = either_truth (is_lt (value_cmp (Int z) (Int (pos 0)))) (is_gt (value_cmp (Int z) (Int (pos 255))))

negative_below : (n : ℕ) → int_cmp (negsuc n) (pos 0) ≡ Less
negative_below n = grind (arith, ints)

or_left : (a b : Bool) → a ≡ true → (a || b) ≡ true
or_left true b h = refl
or_left false b h = absurd cc

numbered : (id z : ℤ) (key val : List ℕ) → is_stray (Int id ∷ Int z ∷ Blob key ∷ Blob val ∷ []) ≡ false → IsCellRow (Int id ∷ Int z ∷ Blob key ∷ Blob val ∷ [])
numbered id (pos n) key val stays = refl
numbered id (negsuc n) key val stays =
    let below : is_lt (value_cmp (Int (negsuc n)) (Int (pos 0))) ≡ true = ap is_lt (value_cmp-Int (negsuc n) (pos 0) ∙ negative_below n) in
    absurd (false_true (sym stays ∙ stray_is id (negsuc n) key val ∙ or_left _ _ below))

cell_row : (i t k v : Value) → is_int i ≡ true → is_of Integer t ≡ true → not (is_null t) ≡ true → is_of Bytes k ≡ true → not (is_null k) ≡ true → is_of Bytes v ≡ true → not (is_null v) ≡ true
    → is_stray (i ∷ t ∷ k ∷ v ∷ []) ≡ false → IsCellRow (i ∷ t ∷ k ∷ v ∷ [])
cell_row i t k v int tab tab_there key key_there val val_there stays =
    let a = id_of i int in
    let b = int_of t tab tab_there in
    let c = blob_of k key key_there in
    let d = blob_of v val val_there in
    let is : (i ∷ t ∷ k ∷ v ∷ []) ≡ (Int a.0 ∷ Int b.0 ∷ Blob c.0 ∷ Blob d.0 ∷ []) = λ j. a.1 j ∷ b.1 j ∷ c.1 j ∷ d.1 j ∷ [] in
    subst IsCellRow (sym is) (numbered a.0 b.0 c.0 d.0 (ap is_stray (sym is) ∙ stays))

form : (db : Trees) (row : Row) → is_int (rowid row) ≡ true → passes Datatype the_schema db cell row ≡ true → passes NotNull the_schema db cell row ≡ true → is_stray row ≡ false → IsCellRow row
form db [] int typed there stays = absurd (false_true int)
form db (i ∷ []) int typed there stays = absurd (false_true there)
form db (i ∷ t ∷ []) int typed there stays = (let h = both_true _ _ there in absurd (false_true h.1))
form db (i ∷ t ∷ k ∷ []) int typed there stays = (let h = both_true _ _ there in let g = both_true _ _ h.1 in absurd (false_true g.1))
form db (i ∷ t ∷ k ∷ v ∷ []) int typed there stays =
    let all = (both_true _ _ typed).0 in
    let first = both_true _ _ all in
    let second = both_true _ _ first.1 in
    let third = both_true _ _ second.1 in
    let here = both_true _ _ there in
    let next = both_true _ _ here.1 in
    let last = both_true _ _ next.1 in
    cell_row i t k v int first.0 here.0 second.0 next.0 third.0 last.0 stays
form db (i ∷ t ∷ k ∷ v ∷ w ∷ more) int typed there stays =
    let all = (both_true (are_typed cell.key 0 cell.columns (t ∷ k ∷ v ∷ w ∷ more)) (has_computed cell (i ∷ t ∷ k ∷ v ∷ w ∷ more)) typed).0 in
    absurd (ends_false (is_of Integer t) (is_of Bytes k) (is_of Bytes v) all)

-- ---- all rows

module _ (db : Trees) where
  forms : (rows : List Row) → AllByRecursion (λ r. is_int (rowid r) ≡ true) rows → AllByRecursion (λ r. passes Datatype the_schema db cell r ≡ true) rows
      → AllByRecursion (λ r. passes NotNull the_schema db cell r ≡ true) rows → filter is_stray rows ≡ [] → rows ≡ map to_row (map from_row rows)
  forms [] int typed there none = refl
  forms (r ∷ rows) int typed there none = elim (cases_Bool (is_stray r)) [
    | inl stray ↦ absurd (let e = rw stray at none in cc)
    | inr stays ↦
        let rest : filter is_stray rows ≡ [] = rw stays at none in
        let first : r ≡ to_row (from_row r) = form db r int.0 typed.0 there.0 stays in
        let later : rows ≡ map to_row (map from_row rows) = forms rows int.1 typed.1 there.1 rest in
        λ j. first j ∷ later j
  ]

-- ---- the rowids rise

less : (a b : ℤ) → value_cmp (Int a) (Int b) ≡ Less → a <ℤ b
less a b h = (let e : int_cmp a b ≡ Less = sym (value_cmp-Int a b) ∙ h in grind (arith, ints))

ids_above : (x : CellRow) (xs : List CellRow) → AllByRecursion (λ r. value_cmp (rowid (to_row x)) (rowid r) ≡ Less) (map to_row xs) → AllByRecursion (λ y. x.id <ℤ y.id) xs
ids_above x [] above = tt
ids_above x (y ∷ xs) above = (less x.id y.id above.0, ids_above x xs above.1)

keyed : (xs : List CellRow) → IsTable (map to_row xs) → IsKeyedBy (λ x. x.id) xs
keyed [] up = tt
keyed (x ∷ xs) up = (ids_above x xs up.0, keyed xs up.1)

-- ---- no two rows are of one cell

agree_is : (x y : CellRow) → agree plain (1 ∷ 2 ∷ []) (to_row x) (1 ∷ 2 ∷ []) (to_row y) ≡ is_on (cell_in y) x
unfolding binary value_cmp first_key
agree_is x y =
    ap₂ (λ a b. a && (b && true)) (truth_of (is_eq (value_cmp (Int (pos x.tab)) (Int (pos y.tab))))) (truth_of (is_eq (value_cmp (Blob x.key) (Blob y.key))))
    ∙ tests_as y.tab y.key x

differs : (a b : ℤ) → b <ℤ a → differ (Int a) (Int b) ≡ true
unfolding binary value_cmp
differs a b low = truth_of (is_ne (value_cmp (Int a) (Int b))) ∙ ap is_ne (value_cmp-Int a b) ∙ (let e : is_ne (int_cmp a b) ≡ true = grind (arith, ints) in e)

off_if : (a b : Bool) → (a && b) ≡ false → b ≡ true → a ≡ false
off_if true b h e = absurd (let c : true ≡ false = sym e ∙ h in cc)
off_if false b h e = refl

any_off : {X : Type 0} (f : X → Bool) (xs : List X) (x : X) → list_any f xs ≡ false → Has xs x → f x ≡ false
any_off f [] x none there = absurd there
any_off f (y ∷ ys) x none there = elim (cases_Bool (f y)) [
  | inl here ↦ absurd (let e = rw here at none in cc)
  | inr off ↦
      let rest : list_any f ys ≡ false = rw off at none in
      elim there [ inl is ↦ ap f is ∙ off | inr later ↦ any_off f ys x rest later ]
]

mapped : (xs : List CellRow) (x : CellRow) → Has xs x → Has (map to_row xs) (to_row x)
mapped [] x there = absurd there
mapped (y ∷ xs) x (inl is) = inl (ap to_row is)
mapped (y ∷ xs) x (inr later) = inr (mapped xs x later)

holds_at : {X : Type 0} (P : X → Type 0) (xs : List X) (x : X) → AllByRecursion P xs → Has xs x → P x
holds_at P [] x all there = absurd there
holds_at P (y ∷ xs) x all (inl is) = subst P (sym is) all.0
holds_at P (y ∷ xs) x all (inr later) = holds_at P xs x all.1 later

not_off : (b : Bool) → (not b && true) ≡ true → b ≡ false
not_off true h = absurd (false_true h)
not_off false h = refl

apart_by : (all : List CellRow) → AllByRecursion (λ r. clashes plain (1 ∷ 2 ∷ []) (map to_row all) r ≡ false) (map to_row all)
    → (x y : CellRow) → Has all x → Has all y → x.id <ℤ y.id → is_on (cell_in x) y ≡ false
apart_by all unique x y in_x in_y low =
    let none = holds_at (λ r. clashes plain (1 ∷ 2 ∷ []) (map to_row all) r ≡ false) (map to_row all) (to_row x) unique (mapped all x in_x) in
    let off = any_off (λ other. agree plain (1 ∷ 2 ∷ []) other (1 ∷ 2 ∷ []) (to_row x) && differ (rowid other) (rowid (to_row x))) (map to_row all) (to_row y) none (mapped all y in_y) in
    sym (agree_is y x) ∙ off_if _ _ off (differs y.id x.id low)

apart_later : (x : CellRow) (xs : List CellRow) → ((y : CellRow) → Has xs y → is_on (cell_in x) y ≡ false) → AllByRecursion (λ y. is_on (cell_in x) y ≡ false) xs
apart_later x [] h = tt
apart_later x (y ∷ xs) h = (h y (inl refl), apart_later x xs (λ z there. h z (inr there)))

apart_all : (xs : List CellRow) → IsKeyedBy (λ x. x.id) xs → ((x y : CellRow) → Has xs x → Has xs y → x.id <ℤ y.id → is_on (cell_in x) y ≡ false) → AreApart (λ a b. is_on (cell_in a) b) xs
apart_all [] up h = tt
apart_all (x ∷ xs) up h = (
  apart_later x xs (λ y there. h x y (inl refl) (inr there) (holds_at (λ y. x.id <ℤ y.id) xs y up.0 there)),
  apart_all xs up.1 (λ a b in_a in_b low. h a b (inr in_a) (inr in_b) low),
)

unique_of : (db : Trees) (rows : List Row) → AllByRecursion (λ r. passes Unique the_schema db cell r ≡ true) rows → AllByRecursion (λ r. clashes plain (1 ∷ 2 ∷ []) (db 0) r ≡ false) rows
unique_of db [] all = tt
unique_of db (r ∷ rows) all = (not_off (clashes plain (1 ∷ 2 ∷ []) (db 0) r) all.0, unique_of db rows all.1)

true_ints : (rows : List Row) → AllByRecursion (λ r. Rattle.std.proofs.Common.IsTrue (is_int (rowid r))) rows → AllByRecursion (λ r. is_int (rowid r) ≡ true) rows
true_ints [] all = tt
true_ints (r ∷ rows) all = (all.0, true_ints rows all.1)

-- the rows of the table, where no number is out of range
pub adopted_rows : (db : Trees) → IsSound the_schema db → IsShaped Table (db 0) → filter is_stray (db 0) ≡ [] → AreRowsOf (map from_row (db 0)) (db 0)
adopted_rows db sound shaped none =
    let rows = db 0 in
    let xs = map from_row rows in
    let typed : rows ≡ map to_row xs = forms db rows (true_ints rows shaped.1) (sound.obeys.rules Datatype).0 (sound.obeys.rules NotNull).0 none in
    let up : IsKeyedBy (λ x. x.id) xs = keyed xs (subst IsTable typed shaped.0) in
    let unique = unique_of db rows (sound.obeys.rules Unique).0 in
    let unique_here : AllByRecursion (λ r. clashes plain (1 ∷ 2 ∷ []) (map to_row xs) r ≡ false) (map to_row xs) = subst (λ (rs : List Row). AllByRecursion (λ r. clashes plain (1 ∷ 2 ∷ []) rs r ≡ false) rs) typed unique in
    record { typed = typed; keyed = up; apart = apart_all xs up (apart_by xs unique_here) }
