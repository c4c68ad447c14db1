-- What every accepted act does to tables that stand for a history: its key has signed, and it is the next entry.
use Rattle.std.proofs.Common.{◌≡◌, ℕ, ◌+◌, ◌<◌, ◌^◌, List, [], ◌∷◌, ◌++◌, length, None, Result, Ok, sym, ap, ◌∙◌}
use Rattle.std.specs.FinMap.{get}
use Rattle.dh_base.specs.declared.id.Id.{Id}
use Rattle.act_text.specs.declared.act.Act.{Act}
use Rattle.act_text.specs.declared.act_fault.ActFault.{ActFault}
use Rattle.act_text.specs.declared.office.Office.TheVariants.{Ledger}
use Rattle.act_text.specs.ActReading.{act_of}
use Rattle.escrow_book.specs.declared.change.Change.{Change as BookChange}
use Rattle.escrow_book.specs.Opening.{Row}
use Rattle.escrow_book.specs.History.{History, with_change, settlement}
use Rattle.escrow_book.proofs.Lookups.{settlement_kept}
use Rattle.keeper_core.specs.declared.change.Change.{Change}
use Rattle.keeper_core.specs.Tables.{Cell, Tables}
use Rattle.keeper_core.specs.Batches.{after_batch, after_change}
use Rattle.ledger_rows.specs.declared.entry.Entry.{Entry}
use Rattle.ledger_rows.specs.declared.entry.Entry.TheVariants.{Act as Accepted}
use Rattle.ledger_rows.specs.RowKeys.{free_tab, deal_tab, hold_tab, moves_tab, used_tab, entry_tab, used_key}
use Rattle.ledger_rows.specs.RowChanges.{used_change, entry_change}
use Rattle.ledger_rows.specs.Entries.{with_act, registered_by_act, registered_by, book_of}
use Rattle.ledger_rows.specs.LedgerTables.{free_row, hold_row, moves_row, deal_row, used_row, StandsFor}
use Rattle.ledger_rows.specs.ActChanges.{IsNew, act_changes}
use Rattle.ledger_rows.proofs.Cells.{cell_is, change_at, picked, same_rows}
use Rattle.ledger_rows.proofs.RowsKept.{kept_deal, used_with, used_here, used_elsewhere, entry_put}
use Rattle.ledger_rows.proofs.Histories.{one_act_more}

-- The rows of amounts and deals are those of the book and the entries behind the act, and the other tables are as they were.
pub record Readied (tables two : Tables) (later : History) (listed : List Entry) : Type 0 where
  pub free : (key : List ℕ) → get two (free_tab, key) ≡ free_row later key
  pub holds : (key : List ℕ) → get two (hold_tab, key) ≡ hold_row later key
  pub moves : (key : List ℕ) → get two (moves_tab, key) ≡ moves_row later key
  pub deals : (key : List ℕ) → get two (deal_tab, key) ≡ deal_row later listed key
  pub used : (key : List ℕ) → get two (used_tab, key) ≡ get tables (used_tab, key)
  pub entries : (key : List ℕ) → get two (entry_tab, key) ≡ get tables (entry_tab, key)

module _ (tables two : Tables) (opening : List Row) (entries : List Entry) (account : Id) (q : ℕ) (message : List ℕ) (later : History)
    (stands : StandsFor tables opening entries) (new : IsNew entries account q) (few : length entries < 2 ^ 63)
    (more : book_of opening (entries ++ Accepted account q message ∷ []) ≡ later) (readied : Readied tables two later (entries ++ Accepted account q message ∷ [])) where
  abbrev entry : Entry
  entry = Accepted account q message

  abbrev used : Change
  used = used_change account q (used_with (length entries + 1) message)

  abbrev three : Tables
  three = after_change used two

  abbrev last : Change
  last = entry_change (length entries + 1) entry

  used_three : (key : List ℕ) → get three (used_tab, key) ≡ used_row (entries ++ entry ∷ []) key
  used_three key =
      change_at used two (used_tab, key) ∙ picked _ _ _ _
      (λ same.
      let e : key ≡ used_key account q = ap (λ (c : Cell). c.1) (cell_is (used_tab, key) (used_tab, used_key account q) same) in
      sym (used_here entries account q message new.wide new.small new.unused) ∙ ap (λ (k : List ℕ). used_row (entries ++ entry ∷ []) k) (sym e))
      (λ other. readied.used key ∙ stands.used key ∙ sym (used_elsewhere entries account q message key other))

  pub any_act_stands : StandsFor (after_batch (act_changes (length entries + 1) account q message) two) opening (entries ++ entry ∷ [])
  any_act_stands = record {
    free = λ key. change_at last three (free_tab, key) ∙ change_at used two (free_tab, key) ∙ readied.free key ∙ ap (λ (h : History). free_row h key) (sym more);
    deals = λ key. change_at last three (deal_tab, key) ∙ change_at used two (deal_tab, key) ∙ readied.deals key ∙ ap (λ (h : History). deal_row h (entries ++ entry ∷ []) key) (sym more);
    holds = λ key. change_at last three (hold_tab, key) ∙ change_at used two (hold_tab, key) ∙ readied.holds key ∙ ap (λ (h : History). hold_row h key) (sym more);
    moves = λ key. change_at last three (moves_tab, key) ∙ change_at used two (moves_tab, key) ∙ readied.moves key ∙ ap (λ (h : History). moves_row h key) (sym more);
    used = λ key. change_at last three (used_tab, key) ∙ used_three key;
    numbered = entry_put entries entry three few (same_rows entry_tab tables three (λ key. change_at used two (entry_tab, key) ∙ readied.entries key) ∙ stands.numbered);
  }

-- The rows of amounts are those of the book with the change, and the other tables are as they were.
pub record Prepared (tables two : Tables) (later : History) : Type 0 where
  pub free : (key : List ℕ) → get two (free_tab, key) ≡ free_row later key
  pub holds : (key : List ℕ) → get two (hold_tab, key) ≡ hold_row later key
  pub moves : (key : List ℕ) → get two (moves_tab, key) ≡ moves_row later key
  pub deals : (key : List ℕ) → get two (deal_tab, key) ≡ get tables (deal_tab, key)
  pub used : (key : List ℕ) → get two (used_tab, key) ≡ get tables (used_tab, key)
  pub entries : (key : List ℕ) → get two (entry_tab, key) ≡ get tables (entry_tab, key)

-- the same of an act that registers and settles no deal
module _ (tables two : Tables) (opening : List Row) (entries : List Entry) (account : Id) (q : ℕ) (message : List ℕ) (act : Act) (change : BookChange)
    (stands : StandsFor tables opening entries) (new : IsNew entries account q) (few : length entries < 2 ^ 63) (reads : act_of Ledger message ≡ Ok act)
    (is : with_act (book_of opening entries) account act ≡ with_change (book_of opening entries) change)
    (no_registration : (d : Id) → registered_by_act d account (Ok act) ≡ None) (no_settlement : (d : Id) → settlement d change ≡ None)
    (prepared : Prepared tables two (with_change (book_of opening entries) change)) where
  abbrev changed : History
  changed = with_change (book_of opening entries) change

  registers_none : (d : Id) → registered_by d (Accepted account q message) ≡ None
  registers_none d = ap (λ (r : Result Act ActFault). registered_by_act d account r) reads ∙ no_registration d

  deals_stay : (key : List ℕ) → get two (deal_tab, key) ≡ deal_row changed (entries ++ Accepted account q message ∷ []) key
  deals_stay key =
      let d : Id = record { 0 = key } in
      prepared.deals key ∙ stands.deals key
      ∙ sym (kept_deal (book_of opening entries) changed entries (Accepted account q message) key (registers_none d) (settlement_kept (book_of opening entries) change d (no_settlement d)))

  pub act_stands : StandsFor (after_batch (act_changes (length entries + 1) account q message) two) opening (entries ++ Accepted account q message ∷ [])
  act_stands =
      any_act_stands tables two opening entries account q message changed stands new few (one_act_more opening entries account q message act reads ∙ is)
      (record { free = prepared.free; holds = prepared.holds; moves = prepared.moves; deals = deals_stay; used = prepared.used; entries = prepared.entries })
