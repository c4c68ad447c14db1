-- No more deals end than acts have registered.
use Rattle.std.proofs.Common.{◌≡◌, ℕ, ◌+◌, ◌*◌, ◌≤◌, Bool, true, false, cond, if◌then◌else◌, List, [], ◌∷◌, ◌++◌, length, Option, Some, None, is_some, Result, Ok, Err, refl, sym, ap, subst, ◌∙◌, arith, inl, inr}
use Rattle.std.specs.List.{Contains, count_by, AllByRecursion}
use Rattle.std.specs.List.Sorted.{IsStrictlySortedBy}
use Rattle.std.specs.Option.{option_or}
use Rattle.std.proofs.lemmas.Bool.{cases_Bool}
use Rattle.std.proofs.lemmas.List.Sums.{sum_by-cons, sum_by-append}
use Rattle.dh_base.specs.declared.id.Id.{Id}
use Rattle.dh_base.specs.declared.outcome.Outcome.{Outcome}
use Rattle.dh_base.specs.Ids.{same_id}
use Rattle.dh_base.proofs.SameIds.{id_from_same}
use Rattle.act_text.specs.declared.act.Act.{Act}
use Rattle.act_text.specs.declared.act.Act.TheVariants.{Register, Pay, Escrow, Transfer, StartDeal, Vote}
use Rattle.act_text.specs.declared.act_fault.ActFault.{ActFault}
use Rattle.act_text.specs.declared.office.Office.TheVariants.{Ledger}
use Rattle.act_text.specs.ActReading.{act_of}
use Rattle.escrow_book.specs.Opening.{Row as OpeningRow}
use Rattle.escrow_book.specs.Reached.{IsReached}
use Rattle.keeper_core.specs.declared.row.Row.{Row}
use Rattle.keeper_core.specs.Tables.{Tables, rows_of}
use Rattle.keeper_core.proofs.OneListing.{Ascends, IsBefore, not_before_itself, behind, here, later_on}
use Rattle.keeper_core.proofs.Scanned.{scans_ascend, scans_list_the_map}
use Rattle.ledger_rows.specs.declared.entry.Entry.{Entry}
use Rattle.ledger_rows.specs.declared.entry.Entry.TheVariants.{Act as Accepted, Settlement}
use Rattle.ledger_rows.specs.Entries.{digest_of, registered_by_act, registered_by, registration_of, book_of}
use Rattle.ledger_rows.specs.LedgerTables.{deal_row, StandsFor}
use Rattle.ledger_rows.specs.RowKeys.{deal_tab}
use Rattle.ledger_rows.specs.RowValues.{registration_text, EntryFits}
use Rattle.ledger_rows.specs.Scanning.{is_settled_row, settled_rows, is_settlement}
use Rattle.ledger_rows.proofs.DealRows.{registration_with}
use Rattle.ledger_rows.proofs.OpenCounted.{deal_in, one_if, counts_same, counts_none, mapped_from}
use Rattle.ledger_rows.proofs.SettledCounted.{settled_counted}
use Rattle.ledger_acts.specs.LedgerStep.{is_act, acts_of}

-- ---- counts over rows

count_few : (p : Row → Bool) (rows : List Row) → count_by p rows ≤ length rows
count_few p [] = omega arith
count_few p (row ∷ rows) = omega (arith, sum_by-cons (λ (r : Row). one_if (p r)) row rows, at_most (p row), count_few p rows)
  where
    at_most : (b : Bool) → one_if b ≤ 1
    at_most true = omega arith
    at_most false = omega arith

count_all : (p : Row → Bool) (rows : List Row) → ((row : Row) → Contains rows row → p row ≡ true) → count_by p rows ≡ length rows
count_all p [] all = refl
count_all p (row ∷ rows) all =
    omega (arith, sum_by-cons (λ (r : Row). one_if (p r)) row rows, ap (λ (b : Bool). one_if b) (all row (here row rows)), count_all p rows (λ r there. all r (later_on row rows r there)))

count_sum : (p q r : Row → Bool) (rows : List Row) → ((row : Row) → one_if (p row) ≤ one_if (q row) + one_if (r row)) → count_by p rows ≤ count_by q rows + count_by r rows
count_sum p q r [] each = omega arith
count_sum p q r (row ∷ rows) each =
    omega (
      arith,
      sum_by-cons (λ (x : Row). one_if (p x)) row rows,
      sum_by-cons (λ (x : Row). one_if (q x)) row rows,
      sum_by-cons (λ (x : Row). one_if (r x)) row rows,
      each row,
      count_sum p q r rows each,
    )

-- ---- rows of registered deals

some_of : {A : Type 0} (o : Option A) (x : A) → o ≡ Some x → is_some o ≡ true
some_of None x e = absurd cc
some_of (Some y) x e = refl

one_of_two : {A : Type 0} (one other : Option A) → one_if (is_some (option_or one other)) ≤ one_if (is_some one) + one_if (is_some other)
one_of_two None other = omega arith
one_of_two (Some x) other = omega arith

abbrev of_deal : Id → Row → Bool
of_deal d row = same_id (deal_in row) d

-- one row at most is a deal's
one_deal : (d : Id) (rows : List Row) → Ascends rows → count_by (of_deal d) rows ≤ 1
unfolding IsStrictlySortedBy
one_deal d [] up = omega arith
one_deal d (first ∷ rows) up = go (same_id (deal_in first) d) refl (one_deal d rows up.1)
  where
    go : (own : Bool) → same_id (deal_in first) d ≡ own → count_by (of_deal d) rows ≤ 1 → count_by (of_deal d) (first ∷ rows) ≤ 1
    go false is later = omega (arith, sum_by-cons (λ (r : Row). one_if (of_deal d r)) first rows, ap (λ (b : Bool). one_if b) is, later)
    go true is later =
        let first_key : first.key ≡ d.0 = ap (λ (i : Id). i.0) (id_from_same (deal_in first) d is) in
        let none : count_by (of_deal d) rows ≡ 0 = counts_none (of_deal d) rows (λ r there. elim (cases_Bool (of_deal d r)) [
          | inr e ↦ e
          | inl e ↦
              let same : r.key ≡ first.key = ap (λ (i : Id). i.0) (id_from_same (deal_in r) d e) ∙ sym first_key in
              absurd (not_before_itself first.key (subst (λ (k : List ℕ). IsBefore first.key k) same (behind first.key rows r up.0 there)))
        ]) in
        omega (arith, sum_by-cons (λ (r : Row). one_if (of_deal d r)) first rows, ap (λ (b : Bool). one_if b) is, none)

abbrev by_entry : Entry → Row → Bool
by_entry e row = is_some (registered_by (deal_in row) e)

abbrev by_entries : List Entry → Row → Bool
by_entries entries row = is_some (registration_of entries (deal_in row))

-- an act registers one deal at most
one_by_entry : (rows : List Row) → Ascends rows → (e : Entry) → count_by (by_entry e) rows ≤ one_if (is_act e)
one_by_entry rows up (Settlement deal outcome) = omega (arith, counts_none (by_entry (Settlement deal outcome)) rows (λ r there. refl))
one_by_entry rows up (Accepted account q message) = go (act_of Ledger message)
  where
    some_if : (b : Bool) (x : Id × List ℕ) → is_some (if b then Some x else None) ≡ b
    some_if true x = refl
    some_if false x = refl

    go : (read : Result Act ActFault) → count_by (λ (row : Row). is_some (registered_by_act (deal_in row) account read)) rows ≤ 1
    go (Err fault) = omega (arith, counts_none (λ (row : Row). is_some (registered_by_act (deal_in row) account (Err fault))) rows (λ r there. refl))
    go (Ok (Register text)) =
        omega (
          arith,
          counts_same (λ (row : Row). is_some (registered_by_act (deal_in row) account (Ok (Register text)))) (of_deal (digest_of text)) rows (λ r there. some_if (same_id (deal_in r) (digest_of text)) (account, text)),
          one_deal (digest_of text) rows up,
        )
    go (Ok (Pay house ledger to asset amount)) = omega (arith, counts_none (λ (row : Row). is_some (registered_by_act (deal_in row) account (Ok (Pay house ledger to asset amount)))) rows (λ r there. refl))
    go (Ok (Escrow deal ledger asset amount)) = omega (arith, counts_none (λ (row : Row). is_some (registered_by_act (deal_in row) account (Ok (Escrow deal ledger asset amount)))) rows (λ r there. refl))
    go (Ok (Transfer deal ledger turn to asset amount)) = omega (arith, counts_none (λ (row : Row). is_some (registered_by_act (deal_in row) account (Ok (Transfer deal ledger turn to asset amount)))) rows (λ r there. refl))
    go (Ok (StartDeal text)) = omega (arith, counts_none (λ (row : Row). is_some (registered_by_act (deal_in row) account (Ok (StartDeal text)))) rows (λ r there. refl))
    go (Ok (Vote deal index choice)) = omega (arith, counts_none (λ (row : Row). is_some (registered_by_act (deal_in row) account (Ok (Vote deal index choice)))) rows (λ r there. refl))

registered_within : (rows : List Row) → Ascends rows → (entries : List Entry) → count_by (by_entries entries) rows ≤ acts_of entries
registered_within rows up [] = omega (arith, counts_none (by_entries []) rows (λ r there. refl))
registered_within rows up (e ∷ entries) =
    omega (
      arith,
      count_sum (by_entries (e ∷ entries)) (by_entry e) (by_entries entries) rows (λ row. one_of_two (registered_by (deal_in row) e) (registration_of entries (deal_in row))),
      one_by_entry rows up e,
      registered_within rows up entries,
      sum_by-cons (λ (x : Entry). cond (is_act x) 1 0) e entries,
    )

-- ---- over tables that stand for a history

entries_parted : (entries : List Entry) → length entries ≡ acts_of entries + count_by is_settlement entries
entries_parted [] = refl
entries_parted (e ∷ entries) =
    omega (arith, entries_parted entries, sum_by-cons (λ (x : Entry). cond (is_act x) 1 0) e entries, sum_by-cons (λ (x : Entry). one_if (is_settlement x)) e entries, one_kind e)
  where
    one_kind : (e : Entry) → cond {A = ℕ} (is_act e) 1 0 + one_if (is_settlement e) ≡ 1
    one_kind (Accepted account q message) = refl
    one_kind (Settlement deal outcome) = refl

pub acted_still : (tables : Tables) (opening : List OpeningRow) (entries : List Entry) → StandsFor tables opening entries → AllByRecursion EntryFits entries → IsReached (book_of opening entries) → length entries ≤ 2 * acts_of entries
acted_still tables opening entries stands fits reached =
    let rows = rows_of deal_tab tables in
    let up = scans_ascend deal_tab tables in
    let all : count_by (by_entries entries) rows ≡ length rows = count_all (by_entries entries) rows (λ row there.
    (let found : deal_row (book_of opening entries) entries row.key ≡ Some row.val = sym (stands.deals row.key) ∙ (scans_list_the_map deal_tab row tables).0 there in
    let by = mapped_from (λ (b : Id × List ℕ). registration_text (registration_with (book_of opening entries) (deal_in row) b)) (registration_of entries (deal_in row)) row.val found in
    some_of (registration_of entries (deal_in row)) by.0 by.1)) in
    let settled : settled_rows rows ≡ count_by is_settlement entries = settled_counted tables opening entries stands fits reached in
    omega (arith, all, settled, registered_within rows up entries, count_few is_settled_row rows, entries_parted entries)

pub acts_same : (entries : List Entry) (deal : Id) (outcome : Outcome) → acts_of (entries ++ Settlement deal outcome ∷ []) ≡ acts_of entries
acts_same entries deal outcome = omega (arith, sum_by-append (λ (e : Entry). cond (is_act e) 1 0) entries (Settlement deal outcome ∷ []))
