-- As many deals of an account are open by the rows as by the entries.
use Rattle.std.proofs.Common.{◌≡◌, ℕ, ◌+◌, ◌&&◌, not, Bool, true, false, if◌then◌else◌, List, [], ◌∷◌, ◌++◌, Option, Some, None, is_some, Result, Ok, Err, refl, sym, ap, subst, ◌∙◌, append-nil, append_assoc, arith, inl, inr}
use Rattle.std.specs.List.{Contains, count_by, AllByRecursion}
use Rattle.std.specs.List.Sorted.{IsStrictlySortedBy}
use Rattle.std.specs.Option.{option_map, option_or}
use Rattle.std.proofs.lemmas.Bool.{cases_Bool}
use Rattle.std.proofs.lemmas.List.Sums.{sum_by-cons}
use Rattle.dh_base.specs.declared.id.Id.{Id}
use Rattle.dh_base.specs.declared.outcome.Outcome.{Outcome}
use Rattle.dh_base.specs.Ids.{same_id}
use Rattle.dh_base.proofs.SameIds.{id_from_same, same_id-self}
use Rattle.act_text.specs.declared.act.Act.{Act}
use Rattle.act_text.specs.declared.act.Act.TheVariants.{Register, Pay, Escrow, Transfer, StartDeal, Vote}
use Rattle.act_text.specs.declared.act_fault.ActFault.{ActFault}
use Rattle.act_text.specs.declared.office.Office.TheVariants.{Ledger}
use Rattle.act_text.specs.ActReading.{act_of}
use Rattle.escrow_book.specs.Opening.{Row as OpeningRow}
use Rattle.escrow_book.specs.History.{History, settlement_of}
use Rattle.escrow_book.proofs.Lookups.{or_none, or_assoc}
use Rattle.keeper_core.specs.declared.row.Row.{Row}
use Rattle.keeper_core.specs.Tables.{Tables, rows_of}
use Rattle.keeper_core.proofs.OneListing.{Ascends, IsBefore, not_before_itself, behind, here, later_on}
use Rattle.keeper_core.proofs.Scanned.{contains_cases, scans_ascend, scans_list_the_map}
use Rattle.ledger_rows.specs.declared.entry.Entry.{Entry}
use Rattle.ledger_rows.specs.declared.entry.Entry.TheVariants.{Act as Accepted, Settlement}
use Rattle.ledger_rows.specs.declared.registration.Registration.{Registration}
use Rattle.ledger_rows.specs.Entries.{digest_of, registered_by_act, registered_by, registration_of, book_of}
use Rattle.ledger_rows.specs.LedgerTables.{deal_row, StandsFor}
use Rattle.ledger_rows.specs.OpenDeals.{deal_of, deal_by, is_new_open, open_behind, open_deals, is_open_if, is_open_by, is_open_row, open_rows}
use Rattle.ledger_rows.specs.RowKeys.{deal_tab}
use Rattle.ledger_rows.specs.RowReading.{first_formless}
use Rattle.ledger_rows.specs.RowValues.{registration_text, registration_in, EntryFits}
use Rattle.ledger_rows.proofs.DealRows.{registration_with, registrants_wide}
use Rattle.ledger_rows.proofs.RowsKept.{registrations_more}
use Rattle.ledger_rows.proofs.ValuesSpelled.{spelled_registration}

abbrev pub deal_in : Row → Id
deal_in row = record { 0 = row.key }

abbrev pub one_if : Bool → ℕ
one_if b = if b then 1 else 0

-- ---- counts over rows

pub counts_same : (p q : Row → Bool) (rows : List Row) → ((row : Row) → Contains rows row → p row ≡ q row) → count_by p rows ≡ count_by q rows
counts_same p q [] same = refl
counts_same p q (row ∷ rows) same =
    omega (
      arith,
      sum_by-cons (λ r. one_if (p r)) row rows,
      sum_by-cons (λ r. one_if (q r)) row rows,
      ap (λ (b : Bool). one_if b) (same row (here row rows)),
      counts_same p q rows (λ r there. same r (later_on row rows r there)),
    )

pub counts_add : (p q r : Row → Bool) (rows : List Row) → ((row : Row) → one_if (p row) ≡ one_if (q row) + one_if (r row)) → count_by p rows ≡ count_by q rows + count_by r rows
counts_add p q r [] each = refl
counts_add p q r (row ∷ rows) each =
    omega (
      arith,
      sum_by-cons (λ x. one_if (p x)) row rows,
      sum_by-cons (λ x. one_if (q x)) row rows,
      sum_by-cons (λ x. one_if (r x)) row rows,
      each row,
      counts_add p q r rows each,
    )

pub counts_none : (p : Row → Bool) (rows : List Row) → ((row : Row) → Contains rows row → p row ≡ false) → count_by p rows ≡ 0
counts_none p [] none = refl
counts_none p (row ∷ rows) none =
    omega (
      arith,
      sum_by-cons (λ r. one_if (p r)) row rows,
      ap (λ (b : Bool). one_if b) (none row (here row rows)),
      counts_none p rows (λ r there. none r (later_on row rows r there)),
    )

-- a row of another key is another deal's
other_deal : (row : Row) (d : Id) → (row.key ≡ d.0 → ⊥) → same_id (deal_in row) d ≡ false
other_deal row d apart = elim (cases_Bool (same_id (deal_in row) d)) [
  | inr e ↦ e
  | inl same ↦ absurd (apart (ap (λ (i : Id). i.0) (id_from_same (deal_in row) d same)))
]

-- of rows of different keys one at most is the deal's
pub counts_one : (d : Id) (p : Row → Bool) (rows : List Row) (row : Row) → Ascends rows → Contains rows row → row.key ≡ d.0 → count_by (λ r. same_id (deal_in r) d && p r) rows ≡ one_if (p row)
unfolding IsStrictlySortedBy
counts_one d p [] row up (k, lt, is) key = absurd (omega arith)
counts_one d p (first ∷ rows) row up there key = elim (contains_cases first row rows there) [
  | inl is ↦
      let first_key : first.key ≡ d.0 = ap (λ (r : Row). r.key) is ∙ key in
      let apart : (r : Row) → Contains rows r → r.key ≡ d.0 → ⊥ = λ r later same. not_before_itself first.key (subst (λ (k : List ℕ). IsBefore first.key k) (same ∙ sym first_key) (behind first.key rows r up.0 later)) in
      let none : count_by (λ r. same_id (deal_in r) d && p r) rows ≡ 0 =
      counts_none (λ r. same_id (deal_in r) d && p r) rows (λ r later. ap (λ (b : Bool). b && p r) (other_deal r d (apart r later))) in
      let test : (same_id (deal_in first) d && p first) ≡ p row = (λ i. its_own first d first_key i && p (is i)) in
      omega (arith, sum_by-cons (λ r. one_if (same_id (deal_in r) d && p r)) first rows, ap (λ (b : Bool). one_if b) test, none)
  | inr later ↦
      let apart : first.key ≡ d.0 → ⊥ = λ same. not_before_itself first.key (subst (λ (k : List ℕ). IsBefore first.key k) (key ∙ sym same) (behind first.key rows row up.0 later)) in
      let test : (same_id (deal_in first) d && p first) ≡ false = ap (λ (b : Bool). b && p first) (other_deal first d apart) in
      omega (arith, sum_by-cons (λ r. one_if (same_id (deal_in r) d && p r)) first rows, ap (λ (b : Bool). one_if b) test, counts_one d p rows row up.1 later key)
]
  where
    its_own : (r : Row) (d : Id) → r.key ≡ d.0 → same_id (deal_in r) d ≡ true
    its_own r d same = ap (λ (k : List ℕ). same_id (record { 0 = k }) d) same ∙ same_id-self d

-- ---- tests

and_false : (b : Bool) → (b && false) ≡ false
and_false true = refl
and_false false = refl

and_true : (b : Bool) → (b && true) ≡ b
and_true true = refl
and_true false = refl

some_of : {A B : Type 0} (f : A → B) (o : Option A) (y : B) → option_map f o ≡ Some y → is_some o ≡ true
some_of f None y e = absurd cc
some_of f (Some x) y e = refl

pub mapped_from : {A B : Type 0} (f : A → B) (o : Option A) (y : B) → option_map f o ≡ Some y → (x : A) × (o ≡ Some x) × (f x ≡ y)
mapped_from f None y e = absurd cc
mapped_from f (Some x) y e = (x, refl, cc)

either : (b : Bool) (o : Option Id) → o ≡ None → (if b then o else None) ≡ None
either true o none = none
either false o none = refl

-- ---- the entries of a history

registrations_apart : (before after : List Entry) (d : Id) → registration_of (before ++ after) d ≡ option_or (registration_of before d) (registration_of after d)
registrations_apart [] after d = refl
registrations_apart (e ∷ before) after d =
    ap (λ (o : Option (Id × List ℕ)). option_or (registered_by d e) o) (registrations_apart before after d) ∙ or_assoc (registered_by d e) (registration_of before d) (registration_of after d)

-- the registration is the first of the deal
first_here : (before rest : List Entry) (e : Entry) (d : Id) (by : Id × List ℕ) → registration_of before d ≡ None → registered_by d e ≡ Some by → registration_of (before ++ e ∷ rest) d ≡ Some by
first_here before rest e d by none is = registrations_apart before (e ∷ rest) d ∙ (λ i. option_or (none i) (option_or (is i) (registration_of rest d)))

module _ (tables : Tables) (opening : List OpeningRow) (entries : List Entry) (account : Id) (stands : StandsFor tables opening entries) (fits : AllByRecursion EntryFits entries) where
  abbrev book : History
  book = book_of opening entries

  abbrev rows : List Row
  rows = rows_of deal_tab tables

  -- what stands in a row
  listed : (row : Row) → Contains rows row → deal_row book entries row.key ≡ Some row.val
  listed row there = sym (stands.deals row.key) ∙ (scans_list_the_map deal_tab row tables).0 there

  formed : (row : Row) → Contains rows row → is_some (registration_in row.val) ≡ true
  formed row there =
      let d : Id = deal_in row in
      let by = mapped_from (λ (b : Id × List ℕ). registration_text (registration_with book d b)) (registration_of entries d) row.val (listed row there) in
      ap (λ (v : List ℕ). is_some (registration_in v)) (sym by.2) ∙ ap (λ (o : Option Registration). is_some o) (spelled_registration (registration_with book d by.0) (registrants_wide entries d by.0 fits by.1))

  all_formed : (some : List Row) → ((row : Row) → Contains some row → is_some (registration_in row.val) ≡ true) → first_formless registration_in some ≡ None
  all_formed [] each = refl
  all_formed (row ∷ some) each =
      ap (λ (b : Bool). if b then first_formless registration_in some else Some row) (each row (here row some)) ∙ all_formed some (λ r there. each r (later_on row some r there))

  -- the deal is open, and one of those entries registers it
  abbrev counted : List Entry → Row → Bool
  counted front row = is_open_row account row && is_some (registration_of front (deal_in row))

  all_counted : count_by (counted entries) rows ≡ open_rows account rows
  all_counted = counts_same (counted entries) (is_open_row account) rows (λ row there.
      ap (λ (b : Bool). is_open_row account row && b) (some_of (λ (b : Id × List ℕ). registration_text (registration_with book (deal_in row) b)) (registration_of entries (deal_in row)) row.val (listed row there)) ∙ and_true (is_open_row account row))

  none_counted : count_by (counted []) rows ≡ 0
  none_counted = counts_none (counted []) rows (λ row there. and_false (is_open_row account row))

  abbrev OneMore : List Entry → Entry → Type 0
  OneMore before e = count_by (counted (before ++ e ∷ [])) rows ≡ count_by (counted before) rows + one_if (is_new_open book before (deal_by account e))

  -- an entry that registers no deal that wasn't registered before
  same_count : (before : List Entry) (e : Entry) → ((d : Id) → is_some (registration_of (before ++ e ∷ []) d) ≡ is_some (registration_of before d)) → is_new_open book before (deal_by account e) ≡ false → OneMore before e
  same_count before e same old =
      let count = counts_same (counted (before ++ e ∷ [])) (counted before) rows (λ row there. ap (λ (b : Bool). is_open_row account row && b) (same (deal_in row))) in
      omega (arith, count, ap (λ (b : Bool). one_if b) old)

  quiet : (before : List Entry) (e : Entry) → ((d : Id) → registered_by d e ≡ None) → deal_by account e ≡ None → OneMore before e
  quiet before e none by_none = same_count before e
      (λ d. ap (λ (o : Option (Id × List ℕ)). is_some o) (registrations_more before e d ∙ ap (λ (o : Option (Id × List ℕ)). option_or (registration_of before d) o) (none d) ∙ or_none (registration_of before d)))
      (ap (λ (o : Option Id). is_new_open book before o) by_none)

  module _ (before rest : List Entry) (e : Entry) (owner : Id) (text : List ℕ) (whole : before ++ e ∷ rest ≡ entries)
      (registers : (k : Id) → registered_by k e ≡ (if same_id k (digest_of text) then Some (owner, text) else None))
      (by : deal_by account e ≡ (if same_id account owner then Some (digest_of text) else None)) where
    abbrev d : Id
    d = digest_of text

    abbrev by_if : Bool → Option (Id × List ℕ)
    by_if here = if here then Some (owner, text) else None

    at : (k : Id) (here : Bool) → same_id k d ≡ here → registration_of (before ++ e ∷ []) k ≡ option_or (registration_of before k) (by_if here)
    at k here is = registrations_more before e k ∙ ap (λ (o : Option (Id × List ℕ)). option_or (registration_of before k) o) (registers k ∙ ap by_if is)

    some_or : (o p : Option (Id × List ℕ)) → is_some o ≡ true → is_some (option_or o p) ≡ is_some o
    some_or None p is = absurd cc
    some_or (Some b) p is = refl

    -- where an entry before registers the deal
    again : is_some (registration_of before d) ≡ true → OneMore before e
    again known = same_count before e same (ap (λ (o : Option Id). is_new_open book before o) by ∙ old (same_id account owner) (is_some (settlement_of book d)) known)
      where
        same : (k : Id) → is_some (registration_of (before ++ e ∷ []) k) ≡ is_some (registration_of before k)
        same k = elim (cases_Bool (same_id k d)) [
          | inl is ↦
              let there : is_some (registration_of before k) ≡ true = ap (λ (i : Id). is_some (registration_of before i)) (id_from_same k d is) ∙ known in
              ap (λ (o : Option (Id × List ℕ)). is_some o) (at k true is) ∙ some_or (registration_of before k) (by_if true) there
          | inr other ↦ ap (λ (o : Option (Id × List ℕ)). is_some o) (at k false other ∙ or_none (registration_of before k))
        ]

        old : (own settled : Bool) → is_some (registration_of before d) ≡ true → is_new_open book before (if own then Some d else None) ≡ false
        old true settled is = go (is_some (settlement_of book d)) is
          where
            go : (ended : Bool) → is_some (registration_of before d) ≡ true → (if ended then false else if is_some (registration_of before d) then false else true) ≡ false
            go true is = refl
            go false is = ap (λ (b : Bool). if b then false else true) is
        old false settled is = refl

    -- where it is the first to register the deal
    module _ (none : registration_of before d ≡ None) where
      abbrev registration : Registration
      registration = registration_with book d (owner, text)

      abbrev row : Row
      row = record { key = d.0; val = registration_text registration }

      registered : registration_of entries d ≡ Some (owner, text)
      registered =
          ap (λ (es : List Entry). registration_of es d) (sym whole)
          ∙ first_here before rest e d (owner, text) none (registers d ∙ ap by_if (same_id-self d))

      there : Contains rows row
      there =
          (scans_list_the_map deal_tab row tables).1
          (stands.deals d.0 ∙ ap (λ (o : Option (Id × List ℕ)). option_map (λ (b : Id × List ℕ). registration_text (registration_with book d b)) o) registered)

      its_test : is_open_row account row ≡ is_open_by account registration
      its_test = ap (λ (o : Option Registration). is_open_if account o) (spelled_registration registration (registrants_wide entries d (owner, text) fits registered))

      each : (r : Row) → one_if (counted (before ++ e ∷ []) r) ≡ one_if (counted before r) + one_if (same_id (deal_in r) d && is_open_row account r)
      each r = elim (cases_Bool (same_id (deal_in r) d)) [
        | inl is ↦
            let unknown : registration_of before (deal_in r) ≡ None = ap (λ (i : Id). registration_of before i) (id_from_same (deal_in r) d is) ∙ none in
            let now : registration_of (before ++ e ∷ []) (deal_in r) ≡ Some (owner, text) = at (deal_in r) true is ∙ ap (λ (o : Option (Id × List ℕ)). option_or o (by_if true)) unknown in
            ap (λ (o : Option (Id × List ℕ)). one_if (is_open_row account r && is_some o)) now ∙ moved (is_open_row account r)
            ∙ sym (λ i. one_if (is_open_row account r && is_some (unknown i)) + one_if (is i && is_open_row account r))
        | inr other ↦
            ap (λ (o : Option (Id × List ℕ)). one_if (is_open_row account r && is_some o)) (at (deal_in r) false other ∙ or_none (registration_of before (deal_in r)))
            ∙ stayed (one_if (counted before r)) ∙ sym (λ i. one_if (counted before r) + one_if (other i && is_open_row account r))
      ]
        where
          moved : (b : Bool) → one_if (b && true) ≡ one_if (b && false) + one_if (true && b)
          moved true = omega arith
          moved false = omega arith

          stayed : (n : ℕ) → n ≡ n + one_if (false && is_open_row account r)
          stayed n = omega arith

      new_if : (own : Bool) (settled : Option Outcome) → settlement_of book d ≡ settled → one_if (own && not (is_some settled)) ≡ one_if (is_new_open book before (if own then Some d else None))
      new_if true None is = sym (λ i. one_if (if is_some (is i) then false else if is_some (none i) then false else true))
      new_if true (Some outcome) is = sym (λ i. one_if (if is_some (is i) then false else if is_some (registration_of before d) then false else true))
      new_if false settled is = refl

      first_time : OneMore before e
      first_time =
          let count = counts_add (counted (before ++ e ∷ [])) (counted before) (λ r. same_id (deal_in r) d && is_open_row account r) rows each in
          let one = counts_one d (is_open_row account) rows row (scans_ascend deal_tab tables) there refl in
          let test = ap (λ (b : Bool). one_if b) its_test in
          let new = new_if (same_id account owner) (settlement_of book d) refl ∙ ap (λ (o : Option Id). one_if (is_new_open book before o)) (sym by) in
          omega (arith, count, one, test, new)

    registration_counts : OneMore before e
    registration_counts = go (registration_of before d) refl
      where
        go : (o : Option (Id × List ℕ)) → registration_of before d ≡ o → OneMore before e
        go None is = first_time is
        go (Some b) is = again (ap (λ (o : Option (Id × List ℕ)). is_some o) is)

  one_more : (before rest : List Entry) (e : Entry) → before ++ e ∷ rest ≡ entries → OneMore before e
  one_more before rest (Settlement deal outcome) whole = quiet before (Settlement deal outcome) (λ d. refl) refl
  one_more before rest (Accepted owner q message) whole = go (act_of Ledger message) refl
    where
      no_act : (read : Result Act ActFault) → act_of Ledger message ≡ read → ((d : Id) → registered_by_act d owner read ≡ None) → deal_of read ≡ None → OneMore before (Accepted owner q message)
      no_act read is none no_deal = quiet before (Accepted owner q message)
          (λ d. ap (λ (r : Result Act ActFault). registered_by_act d owner r) is ∙ none d)
          (either (same_id account owner) (deal_of (act_of Ledger message)) (ap (λ (r : Result Act ActFault). deal_of r) is ∙ no_deal))

      go : (read : Result Act ActFault) → act_of Ledger message ≡ read → OneMore before (Accepted owner q message)
      go (Err fault) is = no_act (Err fault) is (λ d. refl) refl
      go (Ok (Register text)) is = registration_counts before rest (Accepted owner q message) owner text whole
          (λ k. ap (λ (r : Result Act ActFault). registered_by_act k owner r) is)
          (ap (λ (r : Result Act ActFault). if same_id account owner then deal_of r else None) is)
      go (Ok (Pay house ledger to asset amount)) is = no_act (Ok (Pay house ledger to asset amount)) is (λ d. refl) refl
      go (Ok (Escrow deal ledger asset amount)) is = no_act (Ok (Escrow deal ledger asset amount)) is (λ d. refl) refl
      go (Ok (Transfer deal ledger turn to asset amount)) is = no_act (Ok (Transfer deal ledger turn to asset amount)) is (λ d. refl) refl
      go (Ok (StartDeal text)) is = no_act (Ok (StartDeal text)) is (λ d. refl) refl
      go (Ok (Vote deal index choice)) is = no_act (Ok (Vote deal index choice)) is (λ d. refl) refl

  walk : (before rest : List Entry) → before ++ rest ≡ entries → count_by (counted entries) rows ≡ count_by (counted before) rows + open_behind book account before rest
  walk before [] whole =
      let same : entries ≡ before = sym whole ∙ append-nil before in
      ap (λ (es : List Entry). count_by (counted es) rows) same ∙ behind_all (count_by (counted before) rows)
    where
      behind_all : (n : ℕ) → n ≡ n + 0
      behind_all n = omega arith
  walk before (e ∷ rest) whole =
      let later = walk (before ++ e ∷ []) rest (append_assoc before (e ∷ []) rest ∙ whole) in
      let here = one_more before rest e whole in
      omega (arith, later, here)

  pub deals_counted : (first_formless registration_in rows ≡ None) × (open_rows account rows ≡ open_deals opening entries account)
  deals_counted = (all_formed rows formed, sym all_counted ∙ walk [] entries refl ∙ ap (λ (n : ℕ). n + open_behind book account [] entries) none_counted ∙ nothing_before (open_behind book account [] entries))
    where
      nothing_before : (n : ℕ) → 0 + n ≡ n
      nothing_before n = omega arith
