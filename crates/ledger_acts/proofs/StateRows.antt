-- What the rows of a ledger's tables say, where the tables stand for a history.
use Rattle.std.proofs.Common.{◌≡◌, ℕ, ◌+◌, ◌<◌, ◌≤◌, ◌^◌, ◌==◌, ◌&&◌, Bool, true, false, if◌then◌else◌, List, length, Option, Some, None, refl, sym, ap, ◌∙◌, arith}
use Rattle.std.specs.Option.{option_map}
use Rattle.std.specs.FinMap.{get}
use Rattle.std.proofs.lemmas.Bool.{eqb-true, eqb-false}
use Rattle.dh_base.specs.Amounts.{greatest_amount}
use Rattle.dh_base.specs.declared.id.Id.{Id}
use Rattle.dh_base.specs.Names.{is_name}
use Rattle.escrow_book.specs.Base.{greatest_turn}
use Rattle.escrow_book.specs.History.{History, free_of, if_commit_of, if_abort_of, moves_of}
use Rattle.escrow_book.proofs.Whole.{grown}
use Rattle.escrow_book.proofs.Steps.{base_of}
use Rattle.escrow_book.proofs.Bounds.{free_within, if_commit_within, if_abort_within}
use Rattle.keeper_core.specs.Tables.{Tables}
use Rattle.ledger_rows.specs.declared.entry.Entry.{Entry}
use Rattle.ledger_rows.specs.declared.free_amount.FreeAmount.{FreeAmount}
use Rattle.ledger_rows.specs.declared.hold.Hold.{Hold}
use Rattle.ledger_rows.specs.declared.move_count.MoveCount.{MoveCount}
use Rattle.ledger_rows.specs.declared.registration.Registration.{Registration}
use Rattle.ledger_rows.specs.RowKeys.{free_tab, hold_tab, moves_tab, free_key, hold_key, moves_key}
use Rattle.ledger_rows.specs.RowValues.{free_in, free_text, hold_in, hold_text, moves_in, moves_text}
use Rattle.ledger_rows.specs.RowReading.{row_of, form_refusal, amount_said, free_said, free_refusal, deal_said, deal_refusal, amounts_said, hold_said, hold_refusal, count_said, moves_said, moves_refusal}
use Rattle.ledger_rows.specs.Entries.{registration_of, book_of}
use Rattle.ledger_rows.specs.LedgerTables.{free_value, hold_of, hold_value, moves_value}
use Rattle.ledger_rows.proofs.ValuesSpelled.{spelled_free, spelled_hold, spelled_moves}
use Rattle.ledger_rows.proofs.DealRows.{registration_with, deal_says as row_says, deal_formed as row_formed}
use Rattle.ledger_rows.proofs.RowsKept.{free_row_is, hold_row_is, moves_row_is}
use Rattle.ledger_acts.specs.LedgerStep.{Opened}
use Rattle.ledger_acts.specs.LedgerState.{IsState}
use Rattle.ledger_acts.proofs.KnownDeals.{moves_within_acts}

above_zero : (n : ℕ) → (n == 0) ≡ false → 0 < n
above_zero n some = let not_zero : n ≡ 0 → ⊥ = eqb-false n 0 some in omega arith

-- ---- a row that stands, or none

abbrev row_if : {V : Type 0} → Bool → V → Option (Option V)
row_if none v = if none then Some None else Some (Some v)

formed_if : {V : Type 0} (tab : ℕ) (key : List ℕ) (none : Bool) (v : V) → form_refusal tab key (row_if none v) ≡ None
formed_if tab key true v = refl
formed_if tab key false v = refl

-- ---- free amounts

free_value_said : (n : ℕ) → n < 2 ^ 64 → row_of free_in (free_value n) ≡ row_if (n == 0) (record { amount = n })
free_value_said n small = go (n == 0) (above_zero n)
  where
    go : (none : Bool) → (none ≡ false → 0 < n) → row_of free_in (if none then None else Some (free_text (record { amount = n }))) ≡ row_if none (record { amount = n })
    go true some = refl
    go false some = ap (option_map Some) (spelled_free (record { amount = n }) (some refl, small))

amount_is : (n : ℕ) (none : Bool) → (none ≡ true → n ≡ 0) → option_map amount_said (row_if none (record { amount = n })) ≡ Some n
amount_is n true zero = ap (λ (k : ℕ). Some k) (sym (zero refl))
amount_is n false zero = refl

-- ---- holds

both_zero : (c a : Bool) → (c && a) ≡ true → (c ≡ true) × (a ≡ true)
both_zero true a e = (refl, e)
both_zero false a e = absurd cc

not_both : (commit abort : ℕ) → ((commit == 0) && (abort == 0)) ≡ false → 0 < commit + abort
not_both commit abort e = go (commit == 0) refl e
  where
    go : (c : Bool) → (commit == 0) ≡ c → (c && (abort == 0)) ≡ false → 0 < commit + abort
    go true zero rest = omega (arith, above_zero abort rest)
    go false some rest = omega (arith, above_zero commit some)

hold_value_said : (held : Hold) → held.commit < 2 ^ 64 → held.abort < 2 ^ 64 → row_of hold_in (hold_value held) ≡ row_if ((held.commit == 0) && (held.abort == 0)) held
hold_value_said held small small' = go ((held.commit == 0) && (held.abort == 0)) (not_both held.commit held.abort)
  where
    go : (none : Bool) → (none ≡ false → 0 < held.commit + held.abort) → row_of hold_in (if none then None else Some (hold_text held)) ≡ row_if none held
    go true some = refl
    go false some = ap (option_map Some) (spelled_hold held (some refl, small, small'))

amounts_are : (held : Hold) (none : Bool) → (none ≡ true → (held.commit ≡ 0) × (held.abort ≡ 0)) → option_map amounts_said (row_if none held) ≡ Some held
amounts_are held true zero = (let z = zero refl in (λ i. Some (record { commit = sym z.0 i; abort = sym z.1 i })))
amounts_are held false zero = refl

both_are_zero : (held : Hold) → ((held.commit == 0) && (held.abort == 0)) ≡ true → (held.commit ≡ 0) × (held.abort ≡ 0)
both_are_zero held e = (let b = both_zero (held.commit == 0) (held.abort == 0) e in (eqb-true held.commit 0 b.0, eqb-true held.abort 0 b.1))

-- ---- transfers

moves_value_said : (n : ℕ) → n < 2 ^ 32 → row_of moves_in (moves_value n) ≡ row_if (n == 0) (record { count = n })
moves_value_said n small = go (n == 0) (above_zero n)
  where
    go : (none : Bool) → (none ≡ false → 0 < n) → row_of moves_in (if none then None else Some (moves_text (record { count = n }))) ≡ row_if none (record { count = n })
    go true some = refl
    go false some = ap (option_map Some) (spelled_moves (record { count = n }) (some refl, small))

count_is : (n : ℕ) (none : Bool) → (none ≡ true → n ≡ 0) → option_map count_said (row_if none (record { count = n })) ≡ Some n
count_is n true zero = ap (λ (k : ℕ). Some k) (sym (zero refl))
count_is n false zero = refl

module _ (opened : Opened) (tables : Tables) (entries : List Entry) (is : IsState opened tables entries) where
  abbrev book : History
  book = book_of opened.rows entries

  pub free_says : (p : Id) (x : List ℕ) → length p.0 ≡ 32 → is_name x ≡ true → (free_said p x tables ≡ Some (free_of book p x)) × (free_refusal p x tables ≡ None)
  free_says p x wide named =
      let n = free_of book p x in
      let row : get tables (free_tab, free_key p x) ≡ free_value n = is.stands.free (free_key p x) ∙ free_row_is book p x wide named in
      let small : n < 2 ^ 64 = (let within : n ≤ greatest_amount = free_within (base_of book) book.changes (grown book is.reached) p x in omega arith) in
      let said : row_of free_in (get tables (free_tab, free_key p x)) ≡ row_if (n == 0) (record { amount = n }) = ap (λ (o : Option (List ℕ)). row_of free_in o) row ∙ free_value_said n small in
      (ap (λ (o : Option (Option FreeAmount)). option_map amount_said o) said ∙ amount_is n (n == 0) (eqb-true n 0), ap (λ (o : Option (Option FreeAmount)). form_refusal free_tab (free_key p x) o) said ∙ formed_if free_tab (free_key p x) (n == 0) (record { amount = n }))

  pub hold_small : (d p : Id) (x : List ℕ) → (if_commit_of book d p x < 2 ^ 64) × (if_abort_of book d p x < 2 ^ 64)
  hold_small d p x =
      let c : if_commit_of book d p x ≤ 18446744073709551615 = if_commit_within (base_of book) book.changes (grown book is.reached) d p x in
      let a : if_abort_of book d p x ≤ 18446744073709551615 = if_abort_within (base_of book) book.changes (grown book is.reached) d p x in
      (omega arith, omega arith)

  pub hold_says : (d p : Id) (x : List ℕ) → length d.0 ≡ 32 → length p.0 ≡ 32 → is_name x ≡ true → (hold_said d p x tables ≡ Some (hold_of book d p x)) × (hold_refusal d p x tables ≡ None)
  hold_says d p x wide wide' named =
      let held : Hold = hold_of book d p x in
      let none = (held.commit == 0) && (held.abort == 0) in
      let small = hold_small d p x in
      let row : get tables (hold_tab, hold_key d p x) ≡ hold_value held = is.stands.holds (hold_key d p x) ∙ hold_row_is book d p x wide wide' named in
      let said : row_of hold_in (get tables (hold_tab, hold_key d p x)) ≡ row_if none held = ap (λ (o : Option (List ℕ)). row_of hold_in o) row ∙ hold_value_said held small.0 small.1 in
      (ap (λ (o : Option (Option Hold)). option_map amounts_said o) said ∙ amounts_are held none (both_are_zero held), ap (λ (o : Option (Option Hold)). form_refusal hold_tab (hold_key d p x) o) said ∙ formed_if hold_tab (hold_key d p x) none held)

  pub moves_few : (d p : Id) → moves_of book d p < greatest_turn
  moves_few d p = omega (arith, moves_within_acts opened.rows entries d p, is.few)

  pub moves_say : (d p : Id) → length d.0 ≡ 32 → (moves_said d p tables ≡ Some (moves_of book d p)) × (moves_refusal d p tables ≡ None)
  moves_say d p wide =
      let n = moves_of book d p in
      let row : get tables (moves_tab, moves_key d p) ≡ moves_value n = is.stands.moves (moves_key d p) ∙ moves_row_is book d p wide in
      let small : n < 2 ^ 32 = (let few = moves_few d p in omega arith) in
      let said : row_of moves_in (get tables (moves_tab, moves_key d p)) ≡ row_if (n == 0) (record { count = n }) = ap (λ (o : Option (List ℕ)). row_of moves_in o) row ∙ moves_value_said n small in
      (ap (λ (o : Option (Option MoveCount)). option_map count_said o) said ∙ count_is n (n == 0) (eqb-true n 0), ap (λ (o : Option (Option MoveCount)). form_refusal moves_tab (moves_key d p) o) said ∙ formed_if moves_tab (moves_key d p) (n == 0) (record { count = n }))

  -- the deal as it is kept, by who registered it
  abbrev pub kept_as : Id → Id × List ℕ → Registration
  kept_as d by = registration_with book d by

  pub deal_says : (d : Id) → (deal_said d tables ≡ Some (option_map (kept_as d) (registration_of entries d))) × (deal_refusal d tables ≡ None)
  deal_says d = (row_says tables opened.rows entries d is.stands is.fits, row_formed tables opened.rows entries d is.stands is.fits)
