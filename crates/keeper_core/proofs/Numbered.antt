-- The slots of all tables, as one map from cells.
use Rattle.std.proofs.Common.{◌≡◌, ◌≢◌, ℕ, zero, suc, ◌+◌, ◌<◌, ◌≤◌, Bool, true, false, cond, List, [], ◌∷◌, ◌++◌, map, length, get_or, Option, Some, None, refl, sym, ap, ◌∙◌, arith, inl, inr}
use Rattle.std.specs.Option.{is_some}
use Rattle.std.specs.declared.cmp.Ordering.{Ordering}
use Rattle.std.specs.declared.cmp.Ordering.TheVariants.{Less, Equal, Greater}
use Rattle.std.specs.Ordering.{is_eq, eq_by_cmp, nat_cmp, ordering_then}
use Rattle.std.specs.Cmp.{IsTotalOrder, then_total, on_total, nat_cmp_total, tied_itself}
use Rattle.std.specs.Cmp.Lexicographic.{slice_cmp, nat_list_cmp_total}
use Rattle.std.specs.FinMap.{IsAntisymmetric, entries, get, get-entries, get-empty, empty, contains_key, insert, get-insert, from_entries, find, get-from_entries, same_map}
use Rattle.std.proofs.lemmas.Bool.{cases_Bool, cases_eq, cases_lt}
use Rattle.std.proofs.lemmas.List.{get_or_default}
use Rattle.std.proofs.lemmas.Map.Lookups.{exact_unsigned, exact_bytes, exact_pairs}
use Rattle.std.specs.Prelude.{slice_set}
use Rattle.keeper_core.specs.Tables.{Cell, cell_cmp}
use Rattle.keeper_core.specs.Slots.{Slot, TableSlots, Slots, held, with_room}
use Rattle.keeper_core.specs.Laying.{numbered, slot_in, HaveSameSlots}

pub cells_total : IsTotalOrder cell_cmp
cells_total = then_total (on_total (λ c. c.0) nat_cmp_total) (on_total (λ c. c.1) nat_list_cmp_total)

pub exact_cells : IsAntisymmetric cell_cmp
exact_cells = exact_pairs nat_cmp (slice_cmp nat_cmp) exact_unsigned exact_bytes

-- the slots of one table among cells
abbrev pub at_table : ℕ → List (List ℕ × Slot) → List (Cell × Slot)
at_table tab es = map (λ e. ((tab, e.0), e.1)) es

or_else : Option Slot → Option Slot → Option Slot
or_else (Some slot) other = Some slot
or_else None other = other

find_here : (tab : ℕ) (key : List ℕ) (es : List (List ℕ × Slot)) (rest : List (Cell × Slot)) → find cell_cmp (tab, key) (at_table tab es ++ rest) ≡ or_else (find (slice_cmp nat_cmp) key es) (find cell_cmp (tab, key) rest)
unfolding or_else
find_here tab key [] rest = refl
find_here tab key (e ∷ es) rest =
    ap (λ (r : Ordering). cond (is_eq (ordering_then r (slice_cmp nat_cmp key e.0))) (Some e.1) (find cell_cmp (tab, key) (at_table tab es ++ rest))) (tied_itself nat_cmp_total tab)
    ∙ elim (is_eq (slice_cmp nat_cmp key e.0)) as (λ b. cond b (Some e.1) (find cell_cmp (tab, key) (at_table tab es ++ rest)) ≡ or_else (cond b (Some e.1) (find (slice_cmp nat_cmp) key es)) (find cell_cmp (tab, key) rest)) [ true ↦ refl | false ↦ find_here tab key es rest ]

apart_then : (r s : Ordering) → is_eq r ≡ false → is_eq (ordering_then r s) ≡ false
apart_then Less s e = refl
apart_then Equal s e = absurd cc
apart_then Greater s e = refl

pub equal_of : (r : Ordering) → is_eq r ≡ true → r ≡ Equal
equal_of Less e = absurd cc
equal_of Equal e = refl
equal_of Greater e = absurd cc

apart_tables : (tab other : ℕ) → tab ≢ other → is_eq (nat_cmp tab other) ≡ false
apart_tables tab other ne =
    elim (cases_Bool (is_eq (nat_cmp tab other))) [
      | inl e ↦ absurd (ne (exact_unsigned tab other (equal_of _ e)))
      | inr e ↦ e
    ]

find_elsewhere : (tab other : ℕ) (key : List ℕ) (es : List (List ℕ × Slot)) (rest : List (Cell × Slot)) → tab ≢ other → find cell_cmp (tab, key) (at_table other es ++ rest) ≡ find cell_cmp (tab, key) rest
find_elsewhere tab other key [] rest ne = refl
find_elsewhere tab other key (e ∷ es) rest ne =
    rw (apart_then (nat_cmp tab other) (slice_cmp nat_cmp key e.0) (apart_tables tab other ne)) (find_elsewhere tab other key es rest ne)

find_before : (tab first : ℕ) (key : List ℕ) (tables : List TableSlots) → tab < first → find cell_cmp (tab, key) (numbered first tables) ≡ None
find_before tab first key [] lt = refl
find_before tab first key (slots ∷ tables) lt =
    find_elsewhere tab first key (entries slots) (numbered (suc first) tables) (λ e. absurd (omega arith)) ∙ find_before tab (suc first) key tables (omega arith)

or_none : (slot : Option Slot) → or_else slot None ≡ slot
unfolding or_else
or_none None = refl
or_none (Some slot) = refl

find_numbered : (tab first place : ℕ) (key : List ℕ) (tables : List TableSlots) → tab ≡ first + place → find cell_cmp (tab, key) (numbered first tables) ≡ slot_in tables place key
find_numbered tab first place key [] e = refl
find_numbered tab first zero key (slots ∷ tables) e =
    let is : tab ≡ first = omega arith in
    rw is (find_here first key (entries slots) (numbered (suc first) tables) ∙ ap (or_else (find (slice_cmp nat_cmp) key (entries slots))) (find_before first (suc first) key tables (omega arith)) ∙ or_none _ ∙ sym (get-entries slots key))
find_numbered tab first (suc place) key (slots ∷ tables) e =
    find_elsewhere tab first key (entries slots) (numbered (suc first) tables) (λ is. absurd (omega arith)) ∙ find_numbered tab (suc first) place key tables (omega arith)

-- what the map has at a cell
pub get_numbered : (tables : List TableSlots) (tab : ℕ) (key : List ℕ) → get (from_entries {R = cell_cmp} (numbered 0 tables)) (tab, key) ≡ slot_in tables tab key
get_numbered tables tab key = get-from_entries cells_total (numbered 0 tables) (tab, key) ∙ find_numbered tab 0 tab key tables (omega arith)

-- ---- tables that grow

pub slot_in-push_empty : (tables : List TableSlots) → HaveSameSlots tables (tables ++ empty ∷ [])
slot_in-push_empty [] zero key = get-empty (slice_cmp nat_cmp) key
slot_in-push_empty [] (suc tab) key = refl
slot_in-push_empty (slots ∷ tables) zero key = refl
slot_in-push_empty (slots ∷ tables) (suc tab) key = slot_in-push_empty tables tab key

pub same_slots_map : (before after : List TableSlots) → HaveSameSlots before after → from_entries {R = cell_cmp} (numbered 0 after) ≡ from_entries (numbered 0 before)
same_slots_map before after same = same_map cells_total exact_cells _ _ (λ cell. get_numbered after cell.0 cell.1 ∙ same cell.0 cell.1 ∙ sym (get_numbered before cell.0 cell.1))

-- ---- one table

slot_in-at : (tables : List TableSlots) (place : ℕ) (key : List ℕ) (slots : TableSlots) → place < length tables → ((d : TableSlots) → slots ≡ get_or tables place d) → slot_in tables place key ≡ get slots key
slot_in-at [] place key slots lt is = absurd (omega arith)
slot_in-at (first ∷ tables) zero key slots lt is = ap (λ (s : TableSlots). get s key) (sym (is first))
slot_in-at (first ∷ tables) (suc place) key slots lt is = slot_in-at tables place key slots (omega arith) is

slot_in-past : (tables : List TableSlots) (place : ℕ) (key : List ℕ) → length tables ≤ place → slot_in tables place key ≡ None
slot_in-past [] place key le = refl
slot_in-past (slots ∷ tables) zero key le = absurd (omega arith)
slot_in-past (slots ∷ tables) (suc place) key le = slot_in-past tables place key (omega arith)

module _ (tables items : List TableSlots) (view : Slots) (tab place : ℕ) (key : List ℕ) (seen : from_entries (numbered 0 tables) ≡ view) (same : items ≡ tables) (number : place ≡ tab) where
  as_slot_in : get view (tab, key) ≡ slot_in items place key
  as_slot_in = ap (λ (m : Slots). get m (tab, key)) (sym seen) ∙ get_numbered tables tab key ∙ ap (λ (ts : List TableSlots). slot_in ts tab key) (sym same) ∙ ap (λ (n : ℕ). slot_in items n key) (sym number)

  -- the slot of a key in a table that is there
  pub slot_there : (slots : TableSlots) → place < length items → ((d : TableSlots) → slots ≡ get_or items place d) → get view (tab, key) ≡ get slots key
  slot_there slots lt is = as_slot_in ∙ slot_in-at items place key slots lt is

  -- there is none behind the last table
  pub slot_past : length items ≤ place → get view (tab, key) ≡ None
  slot_past le = as_slot_in ∙ slot_in-past items place key le

  -- a key that has a slot is in a table that is there
  pub table_there : contains_key view (tab, key) ≡ true → place < length items
  table_there has =
      elim (cases_lt place (length items)) [
        | inl lt ↦ lt
        | inr le ↦ let h = sym (ap is_some (slot_past le)) ∙ has in absurd cc
      ]

-- ---- one table changed

slot_in-set_here : (tables : List TableSlots) (place : ℕ) (key : List ℕ) (slots : TableSlots) → place < length tables → slot_in (slice_set tables place slots) place key ≡ get slots key
slot_in-set_here [] place key slots lt = absurd (omega arith)
slot_in-set_here (first ∷ tables) zero key slots lt = refl
slot_in-set_here (first ∷ tables) (suc place) key slots lt = slot_in-set_here tables place key slots (omega arith)

slot_in-set_elsewhere : (tables : List TableSlots) (place tab : ℕ) (key : List ℕ) (slots : TableSlots) → tab ≢ place → slot_in (slice_set tables place slots) tab key ≡ slot_in tables tab key
slot_in-set_elsewhere [] place tab key slots ne = refl
slot_in-set_elsewhere (first ∷ tables) zero zero key slots ne = absurd (ne refl)
slot_in-set_elsewhere (first ∷ tables) zero (suc tab) key slots ne = refl
slot_in-set_elsewhere (first ∷ tables) (suc place) zero key slots ne = refl
slot_in-set_elsewhere (first ∷ tables) (suc place) (suc tab) key slots ne = slot_in-set_elsewhere tables place tab key slots (λ e. ne (ap suc e))

tied_cells : (place tab : ℕ) (key k : List ℕ) → place ≡ tab → eq_by_cmp cell_cmp (tab, k) (place, key) ≡ eq_by_cmp (slice_cmp nat_cmp) k key
tied_cells place tab key k e = rw e (ap (λ (r : Ordering). is_eq (ordering_then r (slice_cmp nat_cmp k key))) (tied_itself nat_cmp_total tab))

module _ (tables : List TableSlots) (view : Slots) (tab place : ℕ) (key : List ℕ) (old : TableSlots) (seen : from_entries (numbered 0 tables) ≡ view) (number : place ≡ tab) (lt : place < length tables) (is : old ≡ get_or tables place old) where
  old_at : (k : List ℕ) → slot_in tables place k ≡ get old k
  old_at k = slot_in-at tables place k old lt (λ d. is ∙ get_or_default tables place old d lt)

  -- a slot was written in its table
  pub after_write : (new : TableSlots) (slot : Slot) → new ≡ insert old key slot → from_entries (numbered 0 (slice_set tables place new)) ≡ insert view (tab, key) slot
  after_write new slot written = same_map cells_total exact_cells _ _ (λ cell. get_numbered (slice_set tables place new) cell.0 cell.1 ∙ at_cell cell ∙ sym (get-insert cells_total view (tab, key) slot cell))
    where
      as_old : (cell : Cell) → slot_in tables cell.0 cell.1 ≡ get view cell
      as_old cell = sym (get_numbered tables cell.0 cell.1) ∙ ap (λ (m : Slots). get m cell) seen

      at_cell : (cell : Cell) → slot_in (slice_set tables place new) cell.0 cell.1 ≡ cond (eq_by_cmp cell_cmp cell (tab, key)) (Some slot) (get view cell)
      at_cell cell = elim (cases_eq cell.0 place) [
        | inl here ↦
            let tied : eq_by_cmp cell_cmp cell (tab, key) ≡ eq_by_cmp (slice_cmp nat_cmp) cell.1 key = tied_cells tab cell.0 key cell.1 (sym (here ∙ number)) in
            let read : slot_in (slice_set tables place new) cell.0 cell.1 ≡ get new cell.1 = ap (λ (n : ℕ). slot_in (slice_set tables place new) n cell.1) here ∙ slot_in-set_here tables place cell.1 new lt in
            let before : get old cell.1 ≡ get view cell = sym (old_at cell.1) ∙ ap (λ (n : ℕ). slot_in tables n cell.1) (sym here) ∙ as_old cell in
            read ∙ ap (λ (m : TableSlots). get m cell.1) written ∙ get-insert nat_list_cmp_total old key slot cell.1 ∙ ap (cond (eq_by_cmp (slice_cmp nat_cmp) cell.1 key) (Some slot)) before ∙ ap (λ (b : Bool). cond b (Some slot) (get view cell)) (sym tied)
        | inr ne ↦
            let apart : eq_by_cmp cell_cmp cell (tab, key) ≡ false = apart_then (nat_cmp cell.0 tab) (slice_cmp nat_cmp cell.1 key) (apart_tables cell.0 tab (λ e. ne (e ∙ sym number))) in
            slot_in-set_elsewhere tables place cell.0 cell.1 new ne ∙ as_old cell ∙ ap (λ (b : Bool). cond b (Some slot) (get view cell)) (sym apart)
      ]

  seen_there : get view (tab, key) ≡ get old key
  seen_there = slot_there tables tables view tab place key seen refl number old lt (λ d. is ∙ get_or_default tables place old d lt)

  -- a table that stays
  pub after_same : (new : TableSlots) → new ≡ old → from_entries {R = cell_cmp} (numbered 0 (slice_set tables place new)) ≡ view
  after_same new same = same_slots_map tables (slice_set tables place new) (λ n k. elim (cases_eq n place) [
    | inl here ↦ rw here (slot_in-set_here tables place k new lt ∙ ap (λ (m : TableSlots). get m k) same ∙ sym (old_at k))
    | inr ne ↦ slot_in-set_elsewhere tables place n k new ne
  ]) ∙ seen

  -- room was made in a table
  pub after_room : (new : TableSlots) → new ≡ with_room old key → from_entries {R = cell_cmp} (numbered 0 (slice_set tables place new)) ≡ with_room view (tab, key)
  after_room new made = elim (cases_Bool (contains_key old key)) [
    | inl has ↦
        let same : new ≡ old = made ∙ (rw has refl) in
        let there : contains_key view (tab, key) ≡ true = ap is_some seen_there ∙ has in
        rw there (after_same new same)
    | inr none ↦
        let put : new ≡ insert old key None = made ∙ (rw none refl) in
        let missing : contains_key view (tab, key) ≡ false = ap is_some seen_there ∙ none in
        rw missing (after_write new None put)
  ]

  -- each key of the table holds what it held
  pub after_prune : (new : TableSlots) → ((k : List ℕ) → held (get new k) ≡ held (get old k)) → (cell : Cell) → held (get (from_entries {R = cell_cmp} (numbered 0 (slice_set tables place new))) cell) ≡ held (get view cell)
  after_prune new same cell =
      ap held (get_numbered (slice_set tables place new) cell.0 cell.1)
      ∙ elim (cases_eq cell.0 place) [
        | inl here ↦ rw here (ap held (slot_in-set_here tables place cell.1 new lt) ∙ same cell.1 ∙ sym (ap held (old_at cell.1)))
        | inr ne ↦ ap held (slot_in-set_elsewhere tables place cell.0 cell.1 new ne)
      ]
      ∙ sym (ap held (get_numbered tables cell.0 cell.1)) ∙ ap (λ (m : Slots). held (get m cell)) seen
