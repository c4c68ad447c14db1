-- Tables stand for the history with an accepted transfer, once its changes are made.
use Rattle.std.proofs.Common.{◌≡◌, ℕ, ◌+◌, ◌<◌, ◌^◌, Bool, true, false, cond, if◌then◌else◌, List, [], ◌∷◌, ◌++◌, length, Ok, refl, sym, ap, ◌∙◌, arith}
use Rattle.std.specs.FinMap.{get}
use Rattle.dh_base.specs.declared.id.Id.{Id}
use Rattle.dh_base.specs.Names.{is_name}
use Rattle.act_text.specs.declared.act.Act.TheVariants.{Transfer}
use Rattle.act_text.specs.declared.office.Office.TheVariants.{Ledger}
use Rattle.act_text.specs.ActReading.{act_of}
use Rattle.escrow_book.specs.declared.change.Change.{Change as BookChange}
use Rattle.escrow_book.specs.declared.change.Change.TheVariants.{Transferred}
use Rattle.escrow_book.specs.Opening.{Row}
use Rattle.escrow_book.specs.History.{History, with_change, moves_of}
use Rattle.escrow_book.specs.Reached.{IsReached, IsAccepted}
use Rattle.escrow_book.proofs.Whole.{grown}
use Rattle.escrow_book.proofs.Parts.{free_untouched, if_commit_untouched, if_abort_untouched, moves_untouched}
use Rattle.keeper_core.specs.Tables.{Cell, Tables}
use Rattle.keeper_core.specs.Batches.{after_batch, after_change}
use Rattle.ledger_rows.specs.declared.hold.Hold.{Hold}
use Rattle.ledger_rows.specs.declared.entry.Entry.{Entry}
use Rattle.ledger_rows.specs.declared.entry.Entry.TheVariants.{Act as Accepted}
use Rattle.ledger_rows.specs.RowKeys.{free_tab, deal_tab, hold_tab, moves_tab, used_tab, entry_tab, hold_key, moves_key, first_id, behind_id, last_id, asset_in}
use Rattle.ledger_rows.specs.RowChanges.{hold_change, moves_change}
use Rattle.ledger_rows.specs.Entries.{book_of}
use Rattle.ledger_rows.specs.LedgerTables.{hold_of, hold_value, hold_row, moves_value, moves_row, StandsFor}
use Rattle.ledger_rows.specs.ActChanges.{IsNew, act_changes, transfer_changes}
use Rattle.ledger_rows.proofs.Cells.{same_cell, cell_is, hold_at, moves_at, picked}
use Rattle.ledger_rows.proofs.RowsKept.{kept_free, hold_row_is, kept_hold_at, apart_hold, moves_row_is, apart_moves}
use Rattle.ledger_rows.proofs.ActsStand.{Prepared, act_stands}

nothing_received : (here : Bool) (n : ℕ) → here ≡ false → 0 + (if here then n else 0) ≡ 0
nothing_received false n e = omega arith
nothing_received true n e = absurd cc

nothing_given : (here : Bool) (n : ℕ) → here ≡ false → (if here then n else 0) ≡ 0
nothing_given false n e = refl
nothing_given true n e = absurd cc

module _ (tables : Tables) (opening : List Row) (entries : List Entry) (from : Id) (q : ℕ) (message : List ℕ) (deal : Id) (ledger : List ℕ) (turn : ℕ) (to : Id) (asset : List ℕ) (amount : ℕ)
    (stands : StandsFor tables opening entries) (reached : IsReached (book_of opening entries)) (new : IsNew entries from q) (reads : act_of Ledger message ≡ Ok (Transfer deal ledger turn to asset amount))
    (wide : length deal.0 ≡ 32) (wide' : length to.0 ≡ 32) (named : is_name asset ≡ true) (few : length entries < 2 ^ 63) (accepted : IsAccepted (book_of opening entries) (Transferred deal from to asset amount)) where
  abbrev book : History
  book = book_of opening entries

  abbrev change : BookChange
  change = Transferred deal from to asset amount

  abbrev later : History
  later = with_change book change

  abbrev sender : Hold
  sender = hold_of later deal from asset

  abbrev receiver : Hold
  receiver = hold_of later deal to asset

  abbrev moves : ℕ
  moves = moves_of later deal from

  -- the tables, change by change
  abbrev one : Tables
  one = after_change (moves_change deal from moves) tables

  abbrev two : Tables
  two = after_change (hold_change deal from asset sender) one

  abbrev three : Tables
  three = after_change (hold_change deal to asset receiver) two

  others : (cell : Cell) → same_cell cell (hold_tab, hold_key deal to asset) ≡ false → same_cell cell (hold_tab, hold_key deal from asset) ≡ false → same_cell cell (moves_tab, moves_key deal from) ≡ false → get three cell ≡ get tables cell
  others cell not_to not_from not_moves =
      hold_at deal to asset receiver two cell ∙ ap (λ (b : Bool). cond b (hold_value receiver) (get two cell)) not_to
      ∙ hold_at deal from asset sender one cell ∙ ap (λ (b : Bool). cond b (hold_value sender) (get one cell)) not_from
      ∙ moves_at deal from moves tables cell ∙ ap (λ (b : Bool). cond b (moves_value moves) (get tables cell)) not_moves

  at_hold : (key : List ℕ) (p : Id) → length p.0 ≡ 32 → same_cell (hold_tab, key) (hold_tab, hold_key deal p asset) ≡ true → hold_value (hold_of later deal p asset) ≡ hold_row later key
  at_hold key p w is =
      let e : key ≡ hold_key deal p asset = ap (λ (c : Cell). c.1) (cell_is (hold_tab, key) (hold_tab, hold_key deal p asset) is) in
      sym (hold_row_is later deal p asset wide w named) ∙ ap (λ (k : List ℕ). hold_row later k) (sym e)

  same_hold : (key : List ℕ) → same_cell (hold_tab, key) (hold_tab, hold_key deal to asset) ≡ false → same_cell (hold_tab, key) (hold_tab, hold_key deal from asset) ≡ false → hold_row later key ≡ hold_row book key
  same_hold key not_to not_from = kept_hold_at book later key (λ good.
      let d = first_id key in
      let p = first_id (behind_id key) in
      let x = asset_in (behind_id key) in
      let commit = if_commit_untouched book change d p x (nothing_received _ amount (apart_hold key deal to asset good not_to)) (nothing_given _ amount (apart_hold key deal from asset good not_from)) in
      let abort = if_abort_untouched book change d p x refl in
      λ i. record { commit = commit i; abort = abort i })

  holds_three : (key : List ℕ) → get three (hold_tab, key) ≡ hold_row later key
  holds_three key =
      hold_at deal to asset receiver two (hold_tab, key) ∙ picked _ _ _ _ (λ is. at_hold key to wide' is)
      (λ not_to. hold_at deal from asset sender one (hold_tab, key) ∙ picked _ _ _ _ (λ is. at_hold key from new.wide is)
      (λ not_from. moves_at deal from moves tables (hold_tab, key) ∙ stands.holds key ∙ sym (same_hold key not_to not_from)))

  moves_three : (key : List ℕ) → get three (moves_tab, key) ≡ moves_row later key
  moves_three key =
      hold_at deal to asset receiver two (moves_tab, key) ∙ hold_at deal from asset sender one (moves_tab, key) ∙ moves_at deal from moves tables (moves_tab, key) ∙ picked _ _ _ _
      (λ is.
      let e : key ≡ moves_key deal from = ap (λ (c : Cell). c.1) (cell_is (moves_tab, key) (moves_tab, moves_key deal from) is) in
      sym (moves_row_is later deal from wide) ∙ ap (λ (k : List ℕ). moves_row later k) (sym e))
      (λ other. stands.moves key ∙ sym (ap (λ (n : ℕ). moves_value n) (moves_untouched book change (first_id key) (last_id key) (apart_moves key deal from other))))

  prepared : Prepared tables three later
  prepared = record {
    free = λ key. others (free_tab, key) refl refl refl ∙ stands.free key ∙ sym (kept_free book later key (λ good. free_untouched book change (first_id key) (asset_in key) (grown book reached) accepted refl refl));
    holds = holds_three;
    moves = moves_three;
    deals = λ key. others (deal_tab, key) refl refl refl;
    used = λ key. others (used_tab, key) refl refl refl;
    entries = λ key. others (entry_tab, key) refl refl refl;
  }

  pub transfer_stands : StandsFor (after_batch (transfer_changes deal from to asset moves sender receiver (act_changes (length entries + 1) from q message)) tables) opening (entries ++ Accepted from q message ∷ [])
  transfer_stands = act_stands tables three opening entries from q message (Transfer deal ledger turn to asset amount) change stands new few reads refl (λ d. refl) (λ d. refl) prepared
