-- As many deals have ended by the rows as by the entries.
use Rattle.std.proofs.Common.{◌≡◌, ℕ, ◌+◌, ◌&&◌, Bool, true, false, cond, if◌then◌else◌, List, [], ◌∷◌, ◌++◌, Option, Some, None, is_some, Result, Ok, Err, refl, sym, ap, subst, ◌∙◌, append-nil, append_assoc, arith}
use Rattle.std.specs.List.{Contains, count_by, AllByRecursion}
use Rattle.std.specs.Option.{option_map, option_or}
use Rattle.std.specs.FinMap.{get}
use Rattle.std.proofs.lemmas.List.Sums.{sum_by-append, sum_by-cons}
use Rattle.dh_base.specs.declared.id.Id.{Id}
use Rattle.dh_base.specs.declared.outcome.Outcome.{Outcome}
use Rattle.dh_base.specs.Ids.{same_id}
use Rattle.dh_base.proofs.SameIds.{id_from_same}
use Rattle.act_text.specs.declared.act.Act.{Act}
use Rattle.act_text.specs.declared.act.Act.TheVariants.{Register, Pay, Escrow, Transfer, StartDeal, Vote}
use Rattle.act_text.specs.declared.act_fault.ActFault.{ActFault}
use Rattle.act_text.specs.declared.office.Office.TheVariants.{Ledger}
use Rattle.act_text.specs.ActReading.{act_of}
use Rattle.escrow_book.specs.declared.change.Change.{Change}
use Rattle.escrow_book.specs.declared.change.Change.TheVariants.{Registered, Escrowed, Transferred, Paid, Settled}
use Rattle.escrow_book.specs.Base.{Carried}
use Rattle.escrow_book.specs.Opening.{Row as OpeningRow}
use Rattle.escrow_book.specs.History.{History, with_change, settlement, parties_of, settlement_of, is_known}
use Rattle.escrow_book.specs.Reached.{started, IsAccepted, AreAccepted, IsReached}
use Rattle.escrow_book.proofs.Accepting.{settle_accepted}
use Rattle.escrow_book.proofs.Lookups.{or_none, parties_stay, settlement_push}
use Rattle.escrow_book.proofs.Steps.{history, base_of}
use Rattle.keeper_core.specs.declared.row.Row.{Row}
use Rattle.keeper_core.specs.Tables.{Tables, rows_of}
use Rattle.keeper_core.proofs.Scanned.{scans_ascend, scans_list_the_map}
use Rattle.ledger_rows.specs.declared.entry.Entry.{Entry}
use Rattle.ledger_rows.specs.declared.entry.Entry.TheVariants.{Act as Accepted, Settlement}
use Rattle.ledger_rows.specs.Entries.{digest_of, parties_in, with_read, with_entry, with_entries, book_of, registration_of}
use Rattle.ledger_rows.specs.LedgerTables.{deal_row, StandsFor}
use Rattle.ledger_rows.specs.RowKeys.{deal_tab}
use Rattle.ledger_rows.specs.RowValues.{registration_text, registration_in, EntryFits}
use Rattle.ledger_rows.specs.Scanning.{is_settled_if, is_settled_row, settled_rows, is_settlement, SettledCounted}
use Rattle.ledger_rows.proofs.DealRows.{registration_with, registrants_wide}
use Rattle.ledger_rows.proofs.KnownDeals.{known_is_registered}
use Rattle.ledger_rows.proofs.OpenCounted.{deal_in, one_if, counts_same, counts_add, counts_none, counts_one, mapped_from}
use Rattle.ledger_rows.proofs.ValuesSpelled.{spelled_registration}

-- ---- changes that settle

abbrev is_ending : Change → Bool
is_ending (Settled deal outcome) = true
is_ending (Registered deal parties) = false
is_ending (Escrowed deal party asset amount) = false
is_ending (Transferred deal from to asset amount) = false
is_ending (Paid from to asset amount) = false

abbrev endings : List Change → ℕ
endings changes = count_by is_ending changes

one_ending : (changes : List Change) (c : Change) → endings (changes ++ c ∷ []) ≡ endings changes + one_if (is_ending c)
one_ending changes c =
    let parts : endings (changes ++ c ∷ []) ≡ endings changes + (0 + cond (is_ending c) 1 0) = sum_by-append (λ (x : Change). cond (is_ending x) 1 0) changes (c ∷ []) in
    parts ∙ ap (λ (n : ℕ). endings changes + n) (only (is_ending c))
  where
    only : (b : Bool) → 0 + cond b 1 0 ≡ one_if b
    only true = refl
    only false = refl

act_endings : (book : History) (account : Id) (read : Result Act ActFault) → endings (with_read book account read).changes ≡ endings book.changes
act_endings book account (Err fault) = refl
act_endings book account (Ok (Register text)) = go (is_known book (digest_of text))
  where
    go : (known : Bool) → endings (if known then book else with_change book (Registered (digest_of text) (parties_in text))).changes ≡ endings book.changes
    go true = refl
    go false = omega (arith, one_ending book.changes (Registered (digest_of text) (parties_in text)))
act_endings book account (Ok (Pay house ledger to asset amount)) = omega (arith, one_ending book.changes (Paid account to asset amount))
act_endings book account (Ok (Escrow deal ledger asset amount)) = omega (arith, one_ending book.changes (Escrowed deal account asset amount))
act_endings book account (Ok (Transfer deal ledger turn to asset amount)) = omega (arith, one_ending book.changes (Transferred deal account to asset amount))
act_endings book account (Ok (StartDeal text)) = refl
act_endings book account (Ok (Vote deal index choice)) = refl

entry_endings : (book : History) (e : Entry) → endings (with_entry book e).changes ≡ endings book.changes + one_if (is_settlement e)
entry_endings book (Accepted account q message) = omega (arith, act_endings book account (act_of Ledger message))
entry_endings book (Settlement deal outcome) = one_ending book.changes (Settled deal outcome)

-- as many changes settle as entries do
entries_endings : (book : History) (entries : List Entry) → endings (with_entries book entries).changes ≡ endings book.changes + count_by is_settlement entries
entries_endings book [] = omega arith
entries_endings book (e ∷ entries) = omega (arith, entries_endings (with_entry book e) entries, entry_endings book e, sum_by-cons (λ (x : Entry). one_if (is_settlement x)) e entries)

-- ---- tests

and_true : (b : Bool) → (b && true) ≡ b
and_true true = refl
and_true false = refl

some_value : {T : Type 0} (o : Option T) → is_some o ≡ true → (t : T) × (o ≡ Some t)
some_value None e = absurd cc
some_value (Some t) e = (t, refl)

settles_none : (change : Change) (k : Id) → is_ending change ≡ false → settlement k change ≡ None
settles_none (Settled deal outcome) k e = absurd cc
settles_none (Registered deal parties) k e = refl
settles_none (Escrowed deal party asset amount) k e = refl
settles_none (Transferred deal from to asset amount) k e = refl
settles_none (Paid from to asset amount) k e = refl

module _ (tables : Tables) (opening : List OpeningRow) (entries : List Entry) (stands : StandsFor tables opening entries) (fits : AllByRecursion EntryFits entries) (reached : IsReached (book_of opening entries)) where
  abbrev book : History
  book = book_of opening entries

  abbrev rows : List Row
  rows = rows_of deal_tab tables

  abbrev past : List Change → History
  past front = history (base_of book) front

  -- the deal of the row has ended by these changes
  abbrev ended_by : List Change → Row → Bool
  ended_by front row = is_some (settlement_of (past front) (deal_in row))

  abbrev Claim : List Change → Type 0
  Claim front = count_by (ended_by front) rows ≡ endings front

  start : Claim []
  start = counts_none (ended_by []) rows (λ row there. ap (λ (base : Carried). is_some (settlement_of (record { opening = book.opening; carried = base; changes = [] }) (deal_in row))) reached.whole)

  -- a deal that is known has a row
  its_row : (d : Id) → is_known book d ≡ true → (val : List ℕ) × Contains rows (record { key = d.0; val = val })
  its_row d known =
      let by = some_value (registration_of entries d) (sym (known_is_registered opening entries d) ∙ known) in
      let val = registration_text (registration_with book d by.0) in
      let there : get tables (deal_tab, d.0) ≡ Some val = stands.deals d.0 ∙ ap (option_map (λ (b : Id × List ℕ). registration_text (registration_with book d b))) by.1 in
      (val, (scans_list_the_map deal_tab (record { key = d.0; val = val }) tables).1 there)

  still_known : (front rest : List Change) (d : Id) → front ++ rest ≡ book.changes → is_known (past front) d ≡ true → is_known book d ≡ true
  still_known front rest d whole known =
      let parties = some_value (parties_of (past front) d) known in
      let stay = parties_stay (past front) rest d parties.0 parties.1 in
      ap (λ (changes : List Change). is_known (past changes) d) (sym whole) ∙ ap (λ (o : Option (List Id)). is_some o) stay

  quiet : (front : List Change) (c : Change) → is_ending c ≡ false → Claim front → Claim (front ++ c ∷ [])
  quiet front c none claim =
      let same = counts_same (ended_by (front ++ c ∷ [])) (ended_by front) rows (λ row there.
      ap (λ (o : Option Outcome). is_some o) (settlement_push (past front) c (deal_in row) ∙ ap (option_or (settlement_of (past front) (deal_in row))) (settles_none c (deal_in row) none) ∙ or_none (settlement_of (past front) (deal_in row)))) in
      omega (arith, same, claim, one_ending front c, ap one_if none)

  step : (front rest : List Change) (c : Change) → front ++ c ∷ rest ≡ book.changes → IsAccepted (past front) c → Claim front → Claim (front ++ c ∷ [])
  step front rest (Settled d outcome) whole accepted claim =
      let takes = settle_accepted (past front) d accepted in
      let row = its_row d (still_known front (Settled d outcome ∷ rest) d whole takes.known) in
      let one = counts_one d (λ r. true) rows (record { key = d.0; val = row.0 }) (scans_ascend deal_tab tables) row.1 refl in
      let all = counts_add (ended_by (front ++ Settled d outcome ∷ [])) (ended_by front) (λ r. same_id (deal_in r) d && true) rows (λ r. each takes.«open» r) in
      omega (arith, all, one, claim, one_ending front (Settled d outcome))
    where
      some_if : (k : Id) (here : Bool) → same_id k d ≡ here → settlement_of (past front) d ≡ None →
          one_if (is_some (option_or (settlement_of (past front) k) (if here then Some outcome else None))) ≡ one_if (is_some (settlement_of (past front) k)) + one_if (here && true)
      some_if k true is none =
          let at_k : settlement_of (past front) k ≡ None = ap (λ (i : Id). settlement_of (past front) i) (id_from_same k d is) ∙ none in
          ap (λ (o : Option Outcome). one_if (is_some (option_or o (Some outcome)))) at_k ∙ sym (ap (λ (o : Option Outcome). one_if (is_some o) + 1) at_k)
      some_if k false is none = ap (λ (o : Option Outcome). one_if (is_some o)) (or_none (settlement_of (past front) k)) ∙ omega arith

      each : settlement_of (past front) d ≡ None → (r : Row) → one_if (ended_by (front ++ Settled d outcome ∷ []) r) ≡ one_if (ended_by front r) + one_if (same_id (deal_in r) d && true)
      each none r = ap (λ (o : Option Outcome). one_if (is_some o)) (settlement_push (past front) (Settled d outcome) (deal_in r)) ∙ some_if (deal_in r) (same_id (deal_in r) d) refl none
  step front rest (Registered d parties) whole accepted claim = quiet front (Registered d parties) refl claim
  step front rest (Escrowed d p x n) whole accepted claim = quiet front (Escrowed d p x n) refl claim
  step front rest (Transferred d from to x n) whole accepted claim = quiet front (Transferred d from to x n) refl claim
  step front rest (Paid from to x n) whole accepted claim = quiet front (Paid from to x n) refl claim

  walk : (front rest : List Change) → front ++ rest ≡ book.changes → AreAccepted (past front) rest → Claim front → Claim (front ++ rest)
  walk front [] whole accepted claim = subst Claim (sym (append-nil front)) claim
  walk front (c ∷ rest) whole accepted claim =
      subst Claim (append_assoc front (c ∷ []) rest) (walk (front ++ c ∷ []) rest (append_assoc front (c ∷ []) rest ∙ whole) accepted.1 (step front rest c whole accepted.0 claim))

  -- by its row a deal has ended where it has by the whole book
  row_says : (row : Row) → Contains rows row → is_settled_row row ≡ ended_by book.changes row
  row_says row there =
      let d : Id = deal_in row in
      let found : deal_row book entries row.key ≡ Some row.val = sym (stands.deals row.key) ∙ (scans_list_the_map deal_tab row tables).0 there in
      let by = mapped_from (λ (b : Id × List ℕ). registration_text (registration_with book d b)) (registration_of entries d) row.val found in
      ap (λ (v : List ℕ). is_settled_if (registration_in v)) (sym by.2)
      ∙ ap is_settled_if (spelled_registration (registration_with book d by.0) (registrants_wide entries d by.0 fits by.1))

  counted : settled_rows rows ≡ count_by is_settlement entries
  counted =
      let whole = walk [] book.changes refl reached.accepted start in
      let same = counts_same is_settled_row (ended_by book.changes) rows row_says in
      omega (arith, same, whole, entries_endings (started opening) entries)

pub settled_counted : SettledCounted
settled_counted tables opening entries stands fits reached = counted tables opening entries stands fits reached
