-- What the rows of a table list, by assets.
use Rattle.std.proofs.Common.{◌≡◌, ℕ, ◌+◌, ◌<◌, ◌==◌, ◌&&◌, Bool, true, false, cond, if◌then◌else◌, List, [], ◌∷◌, ◌++◌, map, length, take, drop, Option, Some, None, IsTrue, MatchOption, refl, sym, ap, subst, ◌∙◌, arith, inl, inr, ◌↔◌, zero, suc, get_or, drop-cons, append-nil}
use Rattle.std.specs.BTreeMap.{BTreeMap, get, IsOrdered, Updates}
use Rattle.std.specs.Cmp.Lexicographic.{slice_cmp, texts_ties, nat_list_cmp_total}
use Rattle.std.specs.List.{Contains}
use Rattle.std.specs.List.Sorted.{IsStrictlySortedBy}
use Rattle.std.specs.Option.{option_or}
use Rattle.std.specs.Ordering.{nat_cmp}
use Rattle.std.specs.Str.{bytes_eq}
use Rattle.std.proofs.lemmas.Bool.{cases_Bool, and_parts, eqb-true}
use Rattle.std.proofs.lemmas.List.{take_at, drop_at, take-append-drop}
use Rattle.std.proofs.lemmas.List.Elements.{Contains-append_right}
use Rattle.std.proofs.lemmas.Map.Lookups.{exact_bytes}
use Rattle.std.proofs.lemmas.Map.Views.{btree_map_get_iff}
use Rattle.std.proofs.lemmas.Slice.Eq.{bytes_eq-Decides}
use Rattle.act_text.specs.declared.statement.HeldRow.{HeldRow}
use Rattle.dh_base.specs.Fields.{name_field}
use Rattle.dh_base.specs.Names.{is_name}
use Rattle.keeper_core.specs.declared.row.Row.{Row}
use Rattle.ledger_rows.specs.RowKeys.{name_in}
use Rattle.ledger_rows.specs.Scanning.{amount_in, above_zero, listed_by, listed, AreInOrder, AreAmounts}

-- ---- the asset behind a front

same_number : (n : ℕ) → (n == n) ≡ true
same_number n = grind arith

both : (x y : Bool) → x ≡ true → y ≡ true → (x && y) ≡ true
both true y e f = f
both false y e f = absurd cc

-- what is read is a name, and what spells it
pub name_spelled : (field asset : List ℕ) → name_in field ≡ Some asset → IsTrue (is_name asset) × (field ≡ name_field asset)
name_spelled [] asset e = absurd cc
name_spelled (len ∷ text) asset e = go ((len == length text) && is_name text) refl e
  where
    go : (good : Bool) → ((len == length text) && is_name text) ≡ good → (if good then Some text else None) ≡ Some asset → IsTrue (is_name asset) × (len ∷ text ≡ name_field asset)
    go true is found =
        let parts = and_parts (len == length text) (is_name text) is in
        let same : text ≡ asset = cc in
        let number : len ≡ length text = eqb-true len (length text) parts.0 in
        (subst (λ (t : List ℕ). IsTrue (is_name t)) same parts.1, ap (λ (n : ℕ). n ∷ text) number ∙ ap name_field same)
    go false is found = absurd cc

-- what spells a name is read as it
pub name_read : (asset : List ℕ) → IsTrue (is_name asset) → name_in (name_field asset) ≡ Some asset
name_read asset named = ap (λ (b : Bool). if b then Some asset else None) (both (length asset == length asset) (is_name asset) (same_number (length asset)) named)

-- the key, where the front begins it
pub behind_front : (key front : List ℕ) → bytes_eq (take (length front) key) front ≡ true → key ≡ front ++ drop (length front) key
behind_front key front e = sym (take-append-drop (length front) key) ∙ ap (λ (t : List ℕ). t ++ drop (length front) key) ((bytes_eq-Decides (take (length front) key) front).0 e)

pub no_front : (key front asset : List ℕ) → bytes_eq (take (length front) key) front ≡ false → key ≡ front ++ name_field asset → ⊥
no_front key front asset e is =
    let same : take (length front) key ≡ front = ap (take (length front)) is ∙ take_at front (name_field asset) (length front) refl in
    let there : bytes_eq (take (length front) key) front ≡ true = (bytes_eq-Decides (take (length front) key) front).1 same in
    absurd cc

abbrev pub AssetBehind : List ℕ → List ℕ → Option (List ℕ) → Type 0
AssetBehind key front o =
    MatchOption o ((asset : List ℕ) → IsTrue (is_name asset) → key ≡ front ++ name_field asset → ⊥) (λ asset. IsTrue (is_name asset) × (key ≡ front ++ name_field asset))

pub asset_found : (key front rest : List ℕ) → bytes_eq (take (length front) key) front ≡ true → rest ≡ drop (length front) key → AssetBehind key front (name_in rest)
asset_found key front rest e is = go (name_in rest) refl
  where
    whole : key ≡ front ++ rest
    whole = behind_front key front e ∙ ap (λ (t : List ℕ). front ++ t) (sym is)

    go : (o : Option (List ℕ)) → name_in rest ≡ o → AssetBehind key front o
    go (Some asset) found =
        let spelled = name_spelled rest asset found in
        (spelled.0, whole ∙ ap (λ (t : List ℕ). front ++ t) spelled.1)
    go None none = λ asset named key_is.
        (let field : rest ≡ name_field asset = is ∙ ap (drop (length front)) key_is ∙ drop_at front (name_field asset) (length front) refl in
        let some : name_in rest ≡ Some asset = ap name_in field ∙ name_read asset named in
        absurd cc)

-- ---- what a row lists

front_same : (front one other : List ℕ) → front ++ name_field one ≡ front ++ name_field other → one ≡ other
front_same front one other e =
    let field : name_field one ≡ name_field other = sym (drop_at front (name_field one) (length front) refl) ∙ ap (drop (length front)) e ∙ drop_at front (name_field other) (length front) refl in
    ap (drop 1) field

positive : (n : ℕ) → (n ≡ 0 → ⊥) → above_zero n ≡ Some n
positive n some = elim (cases_Bool (n == 0)) [
  | inl e ↦ absurd (some (eqb-true n 0 e))
  | inr e ↦ ap (λ (b : Bool). if b then None else Some n) e
]

-- the row lists the one asset that stands in its key
pub lists_one : (front : List ℕ) (row : Row) (asset : List ℕ) (n : ℕ) → IsTrue (is_name asset) → row.key ≡ front ++ name_field asset → n ≡ amount_in row.val → (n ≡ 0 → ⊥) →
    (other : List ℕ) → listed_by front row other ≡ (if bytes_eq asset other then Some n else None)
lists_one front row asset n named key amount some other = elim (cases_Bool (bytes_eq asset other)) [
  | inl same ↦
      let is : asset ≡ other = (bytes_eq-Decides asset other).0 same in
      let spelled : bytes_eq row.key (front ++ name_field other) ≡ true = (bytes_eq-Decides row.key (front ++ name_field other)).1 (key ∙ ap (λ (a : List ℕ). front ++ name_field a) is) in
      ap (λ (b : Bool). if b then above_zero (amount_in row.val) else None) (both (is_name other) (bytes_eq row.key (front ++ name_field other)) (subst (λ (a : List ℕ). IsTrue (is_name a)) is named) spelled)
      ∙ ap above_zero (sym amount) ∙ positive n some ∙ sym (ap (λ (b : Bool). if b then Some n else None) same)
  | inr apart ↦
      let none : (is_name other && bytes_eq row.key (front ++ name_field other)) ≡ false = elim (cases_Bool (is_name other && bytes_eq row.key (front ++ name_field other))) [
        | inr e ↦ e
        | inl e ↦
            let parts = and_parts (is_name other) (bytes_eq row.key (front ++ name_field other)) e in
            let is : asset ≡ other = front_same front asset other (sym key ∙ (bytes_eq-Decides row.key (front ++ name_field other)).0 parts.1) in
            let there : bytes_eq asset other ≡ true = (bytes_eq-Decides asset other).1 is in
            absurd cc
      ] in
      ap (λ (b : Bool). if b then above_zero (amount_in row.val) else None) none ∙ sym (ap (λ (b : Bool). if b then Some n else None) apart)
]

-- a row with no such asset, or none of it, lists nothing
pub lists_none : (front : List ℕ) (row : Row) → ((asset : List ℕ) → IsTrue (is_name asset) → row.key ≡ front ++ name_field asset → ⊥) → (other : List ℕ) → listed_by front row other ≡ None
lists_none front row none other = elim (cases_Bool (is_name other && bytes_eq row.key (front ++ name_field other))) [
  | inr e ↦ ap (λ (b : Bool). if b then above_zero (amount_in row.val) else None) e
  | inl e ↦
      let parts = and_parts (is_name other) (bytes_eq row.key (front ++ name_field other)) e in
      absurd (none other parts.0 ((bytes_eq-Decides row.key (front ++ name_field other)).0 parts.1))
]

pub lists_zero : (front : List ℕ) (row : Row) → amount_in row.val ≡ 0 → (other : List ℕ) → listed_by front row other ≡ None
lists_zero front row nothing other = go (is_name other && bytes_eq row.key (front ++ name_field other))
  where
    go : (there : Bool) → (if there then above_zero (amount_in row.val) else None) ≡ None
    go true = ap above_zero nothing
    go false = refl

-- ---- the map of all rows

or_assoc : (x y z : Option ℕ) → option_or (option_or x y) z ≡ option_or x (option_or y z)
or_assoc None y z = refl
or_assoc (Some n) y z = refl

-- one row more
pub kept_on : (rest by had has all : Option ℕ) → option_or (option_or rest by) had ≡ all → has ≡ option_or by had → option_or rest has ≡ all
kept_on rest by had has all e is = ap (option_or rest) is ∙ sym (or_assoc rest by had) ∙ e

one_or : (here : Bool) (n : ℕ) (had : Option ℕ) → cond here (Some n) had ≡ option_or (if here then Some n else None) had
one_or true n had = refl
one_or false n had = refl

pub put_one : (front : List ℕ) (row : Row) (asset : List ℕ) (n : ℕ) (before after : BTreeMap (List ℕ) ℕ) → ((other : List ℕ) → listed_by front row other ≡ (if bytes_eq asset other then Some n else None)) →
    Updates (slice_cmp nat_cmp) before after asset (Some n) → (other : List ℕ) → get (slice_cmp nat_cmp) after other ≡ option_or (listed_by front row other) (get (slice_cmp nat_cmp) before other)
put_one front row asset n before after lists updates other =
    updates.0 other ∙ ap (λ (b : Bool). cond b (Some n) (get (slice_cmp nat_cmp) before other)) (sym (texts_ties asset other))
    ∙ one_or (bytes_eq asset other) n (get (slice_cmp nat_cmp) before other) ∙ ap (λ (o : Option ℕ). option_or o (get (slice_cmp nat_cmp) before other)) (sym (lists other))

-- where one row more has gone into the map
pub one_more : (front : List ℕ) (rows : List Row) (place : ℕ) (row : Row) (before after : BTreeMap (List ℕ) ℕ) → place < length rows → row ≡ get_or rows place row →
    ((other : List ℕ) → get (slice_cmp nat_cmp) after other ≡ option_or (listed_by front row other) (get (slice_cmp nat_cmp) before other)) →
    ((other : List ℕ) → option_or (listed front (drop place rows) other) (get (slice_cmp nat_cmp) before other) ≡ listed front rows other) →
    (other : List ℕ) → option_or (listed front (drop (place + 1) rows) other) (get (slice_cmp nat_cmp) after other) ≡ listed front rows other
one_more front rows place row before after within is more so_far other =
    let next : suc place ≡ place + 1 = omega arith in
    let parted : drop place rows ≡ row ∷ drop (place + 1) rows = drop-cons rows place row within ∙ (λ i. sym is i ∷ drop (next i) rows) in
    kept_on (listed front (drop (place + 1) rows) other) (listed_by front row other) (get (slice_cmp nat_cmp) before other) (get (slice_cmp nat_cmp) after other) (listed front rows other)
    (ap (λ (some : List Row). option_or (listed front some other) (get (slice_cmp nat_cmp) before other)) (sym parted) ∙ so_far other) (more other)

-- a row that lists nothing leaves the map
pub none_more : (front : List ℕ) (row : Row) (amounts : BTreeMap (List ℕ) ℕ) → ((other : List ℕ) → listed_by front row other ≡ None) → (other : List ℕ) →
    get (slice_cmp nat_cmp) amounts other ≡ option_or (listed_by front row other) (get (slice_cmp nat_cmp) amounts other)
none_more front row amounts none other = sym (ap (λ (o : Option ℕ). option_or o (get (slice_cmp nat_cmp) amounts other)) (none other))

-- ---- the amounts

abbrev pub row_with : List ℕ × ℕ → HeldRow
row_with e = record { asset = e.0; amount = e.1 }

-- what the loop has made of all entries
pub all_made : (held : List HeldRow) (rest begun entries : List (List ℕ × ℕ)) → held ++ map row_with rest ≡ map row_with begun → rest ≡ [] → begun ≡ entries → held ≡ map row_with entries
all_made held rest begun entries e none is = sym (append-nil held) ∙ ap (λ (es : List (List ℕ × ℕ)). held ++ map row_with es) (sym none) ∙ e ∙ ap (map row_with) is

assets_of : (entries : List (List ℕ × ℕ)) → map (λ (row : HeldRow). row.asset) (map row_with entries) ≡ map (λ e. e.0) entries
assets_of [] = refl
assets_of (e ∷ entries) = ap (λ (keys : List (List ℕ)). e.0 ∷ keys) (assets_of entries)

entry_of : (entries : List (List ℕ × ℕ)) (row : HeldRow) → Contains (map row_with entries) row → Contains entries (row.asset, row.amount)
entry_of [] row (k, lt, is) = absurd (omega arith)
entry_of (e ∷ entries) row (zero, lt, is) = (0, omega arith, (λ i. ((is i).asset, (is i).amount)))
entry_of (e ∷ entries) row (suc k, lt, is) = Contains-append_right (e ∷ []) entries (row.asset, row.amount) (entry_of entries row (k, omega arith, is))

row_of : (entries : List (List ℕ × ℕ)) (row : HeldRow) → Contains entries (row.asset, row.amount) → Contains (map row_with entries) row
row_of [] row (k, lt, is) = absurd (omega arith)
row_of (e ∷ entries) row (zero, lt, is) = (0, omega arith, ap row_with is)
row_of (e ∷ entries) row (suc k, lt, is) = Contains-append_right (row_with e ∷ []) (map row_with entries) row (row_of entries row (k, omega arith, is))

pub amounts_listed : (amount_of : List ℕ → Option ℕ) (amounts : BTreeMap (List ℕ) ℕ) (held : List HeldRow) → IsOrdered (slice_cmp nat_cmp) amounts → ((asset : List ℕ) → get (slice_cmp nat_cmp) amounts asset ≡ amount_of asset) →
    held ≡ map row_with amounts.entries → AreAmounts amount_of held
amounts_listed amount_of amounts held ordered same is = record {
  ascend = subst AreInOrder (sym is) (subst (λ (keys : List (List ℕ)). IsStrictlySortedBy (slice_cmp nat_cmp) keys) (sym (assets_of amounts.entries)) ordered);
  all = λ row. (
    (λ there. sym (same row.asset) ∙ (found row).1 (entry_of amounts.entries row (subst (λ (rows : List HeldRow). Contains rows row) is there))),
    (λ amount. subst (λ (rows : List HeldRow). Contains rows row) (sym is) (row_of amounts.entries row ((found row).0 (same row.asset ∙ amount)))),
  );
}
  where
    found : (row : HeldRow) → (get (slice_cmp nat_cmp) amounts row.asset ≡ Some row.amount) ↔ Contains amounts.entries (row.asset, row.amount)
    found row = btree_map_get_iff nat_list_cmp_total exact_bytes amounts ordered row.asset row.amount
