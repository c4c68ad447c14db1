-- Tables stand for the history with a settlement, once its changes are made.
use Rattle.std.proofs.Common.{◌≡◌, ℕ, ◌+◌, ◌<◌, ◌^◌, Bool, true, false, cond, if◌then◌else◌, List, [], ◌∷◌, ◌++◌, map, length, Option, Some, None, refl, sym, ap, ◌∙◌, inl, inr}
use Rattle.std.specs.Int.{w64}
use Rattle.std.specs.List.{AllByRecursion}
use Rattle.std.specs.Option.{option_map, option_or}
use Rattle.std.specs.FinMap.{get}
use Rattle.std.proofs.lemmas.Bool.{cases_Bool}
use Rattle.dh_base.specs.declared.id.Id.{Id}
use Rattle.dh_base.specs.declared.outcome.Outcome.{Outcome}
use Rattle.dh_base.specs.Ids.{same_id}
use Rattle.dh_base.specs.Names.{is_name}
use Rattle.dh_base.proofs.SameIds.{id_from_same, same_id-self}
use Rattle.escrow_book.specs.declared.change.Change.TheVariants.{Settled}
use Rattle.escrow_book.specs.Opening.{Row}
use Rattle.escrow_book.specs.History.{History, with_change, settlement_of, free_of}
use Rattle.escrow_book.proofs.Lookups.{or_none, settlement_push, settlement_kept}
use Rattle.escrow_book.proofs.Parts.{if_commit_untouched, if_abort_untouched, moves_untouched}
use Rattle.keeper_core.specs.Tables.{Cell, Tables}
use Rattle.keeper_core.specs.Batches.{after_batch, after_change}
use Rattle.keeper_core.specs.NumberedRows.{IsNumbered}
use Rattle.keeper_core.proofs.Batched.{at_itself}
use Rattle.ledger_rows.specs.declared.entry.Entry.{Entry}
use Rattle.ledger_rows.specs.declared.entry.Entry.TheVariants.{Settlement}
use Rattle.ledger_rows.specs.declared.registration.Registration.{Registration}
use Rattle.ledger_rows.specs.declared.used_key.UsedKey.{UsedKey}
use Rattle.ledger_rows.specs.RowKeys.{free_tab, deal_tab, hold_tab, moves_tab, used_tab, entry_tab, free_key, deal_key, first_id, number_in, is_used_key}
use Rattle.ledger_rows.specs.RowValues.{registration_text, used_text, entry_text}
use Rattle.ledger_rows.specs.RowChanges.{free_change, deal_change, entry_change}
use Rattle.ledger_rows.specs.Entries.{registration_of, book_of, signed_by, used_from}
use Rattle.ledger_rows.specs.LedgerTables.{free_value, free_row, hold_row, moves_row, deal_row, StandsFor}
use Rattle.ledger_rows.proofs.Cells.{same_cell, cell_is, change_at, free_at, picked, same_rows}
use Rattle.ledger_rows.proofs.Histories.{one_more}
use Rattle.ledger_rows.proofs.RowsKept.{free_row_is, kept_hold, kept_moves, registrations_more, kept_deal, entry_put}
use Rattle.ledger_claims.specs.declared.payees.Payee.{Payee}
use Rattle.ledger_claims.specs.Settling.{payout_changes, ending_changes}

-- ---- the payouts

-- another cell stays
pub payouts_spare : (book : History) (payees : List Payee) (tables : Tables) (cell : Cell) → ((key : List ℕ) → same_cell cell (free_tab, key) ≡ false) → get (after_batch (payout_changes book payees) tables) cell ≡ get tables cell
payouts_spare book [] tables cell other = refl
payouts_spare book (payee ∷ rest) tables cell other =
    let p = payee.hold.account in
    let x = payee.hold.asset in
    payouts_spare book rest (after_change (free_change p x (free_of book p x)) tables) cell other
    ∙ free_at p x (free_of book p x) tables cell ∙ ap (λ (b : Bool). cond b (free_value (free_of book p x)) (get tables cell)) (other (free_key p x))

-- what each payee can spend by one book is what it can by the other
abbrev pub ArePaid : History → History → List Payee → Type 0
ArePaid book later payees = AllByRecursion (λ (payee : Payee). free_of book payee.hold.account payee.hold.asset ≡ free_of later payee.hold.account payee.hold.asset) payees

-- its account and its asset have a spelling
pub record HasKey (payee : Payee) : Type 0 where
  pub wide : length payee.hold.account.0 ≡ 32
  pub named : is_name payee.hold.asset ≡ true

-- the key is no payee's
abbrev pub IsNoPayee : List ℕ → List Payee → Type 0
IsNoPayee key payees = AllByRecursion (λ (payee : Payee). same_cell (free_tab, key) (free_tab, free_key payee.hold.account payee.hold.asset) ≡ false) payees

-- where all other rows are those of the later book, all are
pub payouts_stand : (book later : History) (payees : List Payee) → ArePaid book later payees → AllByRecursion HasKey payees → (tables : Tables) →
    ((key : List ℕ) → IsNoPayee key payees → get tables (free_tab, key) ≡ free_row later key) → (key : List ℕ) → get (after_batch (payout_changes book payees) tables) (free_tab, key) ≡ free_row later key
payouts_stand book later [] paid keys tables others key = others key tt
payouts_stand book later (payee ∷ rest) paid keys tables others key =
    payouts_stand book later rest paid.1 keys.1 (after_change (free_change payee.hold.account payee.hold.asset (free_of book payee.hold.account payee.hold.asset)) tables) next_others key
  where
    next_others : (key : List ℕ) → IsNoPayee key rest → get (after_change (free_change payee.hold.account payee.hold.asset (free_of book payee.hold.account payee.hold.asset)) tables) (free_tab, key) ≡ free_row later key
    next_others key none =
        free_at payee.hold.account payee.hold.asset (free_of book payee.hold.account payee.hold.asset) tables (free_tab, key) ∙ picked _ _ _ _
        (λ is.
        let e : key ≡ free_key payee.hold.account payee.hold.asset = ap (λ (c : Cell). c.1) (cell_is (free_tab, key) (free_tab, free_key payee.hold.account payee.hold.asset) is) in
        ap (λ (n : ℕ). free_value n) paid.0 ∙ sym (free_row_is later payee.hold.account payee.hold.asset keys.0.wide keys.0.named) ∙ ap (λ (k : List ℕ). free_row later k) (sym e))
        (λ other. others key (other, none))

-- ---- the keys that have signed

used_same : (number : ℕ) (entries : List Entry) (deal : Id) (outcome : Outcome) (a : Id) (q : ℕ) → used_from number (entries ++ Settlement deal outcome ∷ []) a q ≡ used_from number entries a q
used_same number [] deal outcome a q = refl
used_same number (e ∷ entries) deal outcome a q = ap (option_or (signed_by number a q e)) (used_same (number + 1) entries deal outcome a q)

-- ---- the tables

module _ (tables : Tables) (opening : List Row) (entries : List Entry) (deal : Id) (outcome : Outcome) (registrant : Id) (text : List ℕ) (ended : Option Outcome) (book : History) (payees : List Payee)
    (stands : StandsFor tables opening entries) (few : length entries < 2 ^ 63) (registered : registration_of entries deal ≡ Some (registrant, text)) (is_open : settlement_of (book_of opening entries) deal ≡ None)
    (paid : ArePaid book (with_change (book_of opening entries) (Settled deal outcome)) payees) (keys : AllByRecursion HasKey payees)
    (others : (key : List ℕ) → IsNoPayee key payees → free_row (with_change (book_of opening entries) (Settled deal outcome)) key ≡ free_row (book_of opening entries) key) where
  abbrev h : History
  h = book_of opening entries

  abbrev later : History
  later = with_change h (Settled deal outcome)

  abbrev entry : Entry
  entry = Settlement deal outcome

  abbrev listed : List Entry
  listed = entries ++ entry ∷ []

  abbrev found : Registration
  found = record { registrant = registrant; settled = ended; text = text }

  abbrev now : Registration
  now = record { registrant = registrant; settled = Some outcome; text = text }

  abbrev one : Tables
  one = after_change (deal_change deal now) tables

  abbrev two : Tables
  two = after_change (entry_change (length entries + 1) entry) one

  abbrev three : Tables
  three = after_batch (payout_changes book payees) two

  later_book : book_of opening listed ≡ later
  later_book = one_more opening entries entry

  -- a cell of a table that no settlement changes
  stays : (cell : Cell) → ((key : List ℕ) → same_cell cell (free_tab, key) ≡ false) → ((key : List ℕ) → same_cell cell (entry_tab, key) ≡ false) → ((key : List ℕ) → same_cell cell (deal_tab, key) ≡ false) → get three cell ≡ get tables cell
  stays cell not_free not_entry not_deal =
      payouts_spare book payees two cell not_free
      ∙ change_at (entry_change (length entries + 1) entry) one cell ∙ ap (λ (b : Bool). cond b (Some (entry_text entry)) (get one cell)) (not_entry _)
      ∙ change_at (deal_change deal now) tables cell ∙ ap (λ (b : Bool). cond b (Some (registration_text now)) (get tables cell)) (not_deal _)

  free_two : (key : List ℕ) → get two (free_tab, key) ≡ get tables (free_tab, key)
  free_two key = change_at (entry_change (length entries + 1) entry) one (free_tab, key) ∙ change_at (deal_change deal now) tables (free_tab, key)

  free_three : (key : List ℕ) → get three (free_tab, key) ≡ free_row later key
  free_three = payouts_stand book later payees paid keys two (λ key none. free_two key ∙ stands.free key ∙ sym (others key none))

  -- ---- the deal

  registered_still : (d : Id) → registration_of listed d ≡ registration_of entries d
  registered_still d = registrations_more entries entry d ∙ or_none (registration_of entries d)

  ended_now : settlement_of later deal ≡ Some outcome
  ended_now = settlement_push h (Settled deal outcome) deal ∙ (λ i. option_or (is_open i) (if same_id-self deal i then Some outcome else None))

  row_here : deal_row later listed (deal_key deal) ≡ Some (registration_text now)
  row_here = (λ i. option_map (λ by. registration_text (record { registrant = by.0; settled = ended_now i; text = by.1 })) ((registered_still deal ∙ registered) i))

  -- another key is another deal
  other_deal : (key : List ℕ) → same_cell (deal_tab, key) (deal_tab, deal_key deal) ≡ false → same_id (record { 0 = key }) deal ≡ false
  other_deal key other = elim (cases_Bool (same_id (record { 0 = key }) deal)) [
    | inr e ↦ e
    | inl is ↦
        let same : key ≡ deal_key deal = ap (λ (i : Id). i.0) (id_from_same (record { 0 = key }) deal is) in
        let there : same_cell (deal_tab, key) (deal_tab, deal_key deal) ≡ true = ap (λ (k : List ℕ). same_cell (deal_tab, key) (deal_tab, k)) (sym same) ∙ at_itself (deal_tab, key) in
        absurd cc
  ]

  deals_three : (key : List ℕ) → get three (deal_tab, key) ≡ deal_row later listed key
  deals_three key =
      payouts_spare book payees two (deal_tab, key) (λ k. refl) ∙ change_at (entry_change (length entries + 1) entry) one (deal_tab, key)
      ∙ change_at (deal_change deal now) tables (deal_tab, key) ∙ picked _ _ _ _
      (λ is.
      let e : key ≡ deal_key deal = ap (λ (c : Cell). c.1) (cell_is (deal_tab, key) (deal_tab, deal_key deal) is) in
      sym row_here ∙ ap (λ (k : List ℕ). deal_row later listed k) (sym e))
      (λ other.
      let d : Id = record { 0 = key } in
      stands.deals key ∙ sym (kept_deal h later entries entry key refl (settlement_kept h (Settled deal outcome) d (ap (λ (b : Bool). if b then Some outcome else None) (other_deal key other)))))

  -- ---- the entries

  numbered_three : IsNumbered w64 entry_tab 1 (map entry_text listed) three
  numbered_three =
      same_rows entry_tab two three (λ key. payouts_spare book payees two (entry_tab, key) (λ k. refl))
      ∙ entry_put entries entry one few (same_rows entry_tab tables one (λ key. change_at (deal_change deal now) tables (entry_tab, key)) ∙ stands.numbered)

  -- ---- all tables

  pub settlement_stands : StandsFor (after_batch (ending_changes (length entries + 1) deal found outcome book payees) tables) opening listed
  settlement_stands = record {
    free = λ key. free_three key ∙ ap (λ (b : History). free_row b key) (sym later_book);
    deals = λ key. deals_three key ∙ ap (λ (b : History). deal_row b listed key) (sym later_book);
    holds = λ key. stays (hold_tab, key) (λ k. refl) (λ k. refl) (λ k. refl) ∙ stands.holds key
        ∙ sym (kept_hold h later key (λ d p x. (if_commit_untouched h (Settled deal outcome) d p x refl refl, if_abort_untouched h (Settled deal outcome) d p x refl))) ∙ ap (λ (b : History). hold_row b key) (sym later_book);
    moves = λ key. stays (moves_tab, key) (λ k. refl) (λ k. refl) (λ k. refl) ∙ stands.moves key
        ∙ sym (kept_moves h later key (λ d p. moves_untouched h (Settled deal outcome) d p refl)) ∙ ap (λ (b : History). moves_row b key) (sym later_book);
    used = λ key. stays (used_tab, key) (λ k. refl) (λ k. refl) (λ k. refl) ∙ stands.used key
        ∙ ap (λ (o : Option UsedKey). if is_used_key key then option_map used_text o else None) (sym (used_same 1 entries deal outcome (first_id key) (number_in key)));
    numbered = numbered_three;
  }

  -- a cell of no table of rows
  pub other_cells : (cell : Cell) → ((key : List ℕ) → same_cell cell (free_tab, key) ≡ false) → ((key : List ℕ) → same_cell cell (entry_tab, key) ≡ false) → ((key : List ℕ) → same_cell cell (deal_tab, key) ≡ false) →
      get (after_batch (ending_changes (length entries + 1) deal found outcome book payees) tables) cell ≡ get tables cell
  other_cells cell not_free not_entry not_deal = stays cell not_free not_entry not_deal
