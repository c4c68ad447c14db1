-- Tables stand for the history with an accepted escrow, once its changes are made.
use Rattle.std.proofs.Common.{◌≡◌, ℕ, ◌+◌, ◌<◌, ◌^◌, Bool, true, false, cond, if◌then◌else◌, List, [], ◌∷◌, ◌++◌, length, None, Ok, refl, sym, ap, ◌∙◌, arith}
use Rattle.std.specs.FinMap.{get}
use Rattle.dh_base.specs.declared.id.Id.{Id}
use Rattle.dh_base.specs.Names.{is_name}
use Rattle.act_text.specs.declared.act.Act.TheVariants.{Escrow}
use Rattle.act_text.specs.declared.office.Office.TheVariants.{Ledger}
use Rattle.act_text.specs.ActReading.{act_of}
use Rattle.escrow_book.specs.declared.change.Change.{Change as BookChange}
use Rattle.escrow_book.specs.declared.change.Change.TheVariants.{Escrowed}
use Rattle.escrow_book.specs.Opening.{Row}
use Rattle.escrow_book.specs.History.{History, with_change, free_of}
use Rattle.escrow_book.specs.Reached.{IsReached}
use Rattle.escrow_book.specs.Refused.{escrow_refusal}
use Rattle.escrow_book.proofs.Whole.{grown}
use Rattle.escrow_book.proofs.Parts.{free_untouched, if_commit_untouched, if_abort_untouched, moves_untouched}
use Rattle.keeper_core.specs.Tables.{Cell, Tables}
use Rattle.keeper_core.specs.Batches.{after_batch, after_change}
use Rattle.ledger_rows.specs.declared.hold.Hold.{Hold}
use Rattle.ledger_rows.specs.declared.entry.Entry.{Entry}
use Rattle.ledger_rows.specs.declared.entry.Entry.TheVariants.{Act as Accepted}
use Rattle.ledger_rows.specs.RowKeys.{free_tab, deal_tab, hold_tab, moves_tab, used_tab, entry_tab, free_key, hold_key, first_id, behind_id, asset_in}
use Rattle.ledger_rows.specs.RowChanges.{free_change, hold_change}
use Rattle.ledger_rows.specs.Entries.{book_of}
use Rattle.ledger_rows.specs.LedgerTables.{free_value, free_row, hold_of, hold_value, hold_row, StandsFor}
use Rattle.ledger_rows.specs.ActChanges.{IsNew, act_changes, escrow_changes}
use Rattle.ledger_rows.proofs.Cells.{same_cell, cell_is, free_at, hold_at, picked}
use Rattle.ledger_rows.proofs.RowsKept.{free_row_is, kept_free, apart, hold_row_is, kept_hold_at, apart_hold, kept_moves}
use Rattle.ledger_rows.proofs.ActsStand.{Prepared, act_stands}

nothing_put : (here : Bool) (n : ℕ) → here ≡ false → 0 + (if here then n else 0) ≡ 0
nothing_put false n e = omega arith
nothing_put true n e = absurd cc

nothing_more : (here : Bool) (n : ℕ) → here ≡ false → (if here then n else 0) + 0 ≡ 0
nothing_more false n e = omega arith
nothing_more true n e = absurd cc

nothing_there : (here : Bool) (n : ℕ) → here ≡ false → (if here then n else 0) ≡ 0
nothing_there false n e = refl
nothing_there true n e = absurd cc

module _ (tables : Tables) (opening : List Row) (entries : List Entry) (party : Id) (q : ℕ) (message : List ℕ) (deal : Id) (ledger : List ℕ) (asset : List ℕ) (amount : ℕ)
    (stands : StandsFor tables opening entries) (reached : IsReached (book_of opening entries)) (new : IsNew entries party q) (reads : act_of Ledger message ≡ Ok (Escrow deal ledger asset amount))
    (wide : length deal.0 ≡ 32) (named : is_name asset ≡ true) (few : length entries < 2 ^ 63) (none : escrow_refusal (book_of opening entries) deal party asset amount ≡ None) where
  abbrev book : History
  book = book_of opening entries

  abbrev change : BookChange
  change = Escrowed deal party asset amount

  abbrev later : History
  later = with_change book change

  abbrev hold : Hold
  hold = hold_of later deal party asset

  -- the tables, change by change
  abbrev one : Tables
  one = after_change (free_change party asset (free_of later party asset)) tables

  abbrev two : Tables
  two = after_change (hold_change deal party asset hold) one

  others : (cell : Cell) → same_cell cell (hold_tab, hold_key deal party asset) ≡ false → same_cell cell (free_tab, free_key party asset) ≡ false → get two cell ≡ get tables cell
  others cell not_hold not_free =
      hold_at deal party asset hold one cell ∙ ap (λ (b : Bool). cond b (hold_value hold) (get one cell)) not_hold
      ∙ free_at party asset (free_of later party asset) tables cell ∙ ap (λ (b : Bool). cond b (free_value (free_of later party asset)) (get tables cell)) not_free

  free_two : (key : List ℕ) → get two (free_tab, key) ≡ free_row later key
  free_two key =
      hold_at deal party asset hold one (free_tab, key) ∙ free_at party asset (free_of later party asset) tables (free_tab, key) ∙ picked _ _ _ _
      (λ is.
      let e : key ≡ free_key party asset = ap (λ (c : Cell). c.1) (cell_is (free_tab, key) (free_tab, free_key party asset) is) in
      sym (free_row_is later party asset new.wide named) ∙ ap (λ (k : List ℕ). free_row later k) (sym e))
      (λ other. stands.free key ∙ sym (kept_free book later key (λ good. free_untouched book change (first_id key) (asset_in key) (grown book reached) none (nothing_put _ amount (apart key party asset good other)) refl)))

  same_hold : (key : List ℕ) → same_cell (hold_tab, key) (hold_tab, hold_key deal party asset) ≡ false → hold_row later key ≡ hold_row book key
  same_hold key other = kept_hold_at book later key (λ good.
      let d = first_id key in
      let p = first_id (behind_id key) in
      let x = asset_in (behind_id key) in
      let away = apart_hold key deal party asset good other in
      let commit = if_commit_untouched book change d p x (nothing_more _ amount away) refl in
      let abort = if_abort_untouched book change d p x (nothing_there _ amount away) in
      λ i. record { commit = commit i; abort = abort i })

  holds_two : (key : List ℕ) → get two (hold_tab, key) ≡ hold_row later key
  holds_two key =
      hold_at deal party asset hold one (hold_tab, key) ∙ picked _ _ _ _
      (λ is.
      let e : key ≡ hold_key deal party asset = ap (λ (c : Cell). c.1) (cell_is (hold_tab, key) (hold_tab, hold_key deal party asset) is) in
      sym (hold_row_is later deal party asset wide new.wide named) ∙ ap (λ (k : List ℕ). hold_row later k) (sym e))
      (λ other. free_at party asset (free_of later party asset) tables (hold_tab, key) ∙ stands.holds key ∙ sym (same_hold key other))

  prepared : Prepared tables two later
  prepared = record {
    free = free_two;
    holds = holds_two;
    moves = λ key. others (moves_tab, key) refl refl ∙ stands.moves key ∙ sym (kept_moves book later key (λ d p. moves_untouched book change d p refl));
    deals = λ key. others (deal_tab, key) refl refl;
    used = λ key. others (used_tab, key) refl refl;
    entries = λ key. others (entry_tab, key) refl refl;
  }

  pub escrow_stands : StandsFor (after_batch (escrow_changes deal party asset (free_of later party asset) hold (act_changes (length entries + 1) party q message)) tables) opening (entries ++ Accepted party q message ∷ [])
  escrow_stands = act_stands tables two opening entries party q message (Escrow deal ledger asset amount) change stands new few reads refl (λ d. refl) (λ d. refl) prepared
