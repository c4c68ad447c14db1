-- Tables stand for the history with an accepted payment, once its changes are made.
use Rattle.std.proofs.Common.{◌≡◌, ℕ, ◌+◌, ◌<◌, ◌^◌, Bool, true, false, cond, if◌then◌else◌, List, [], ◌∷◌, ◌++◌, length, None, Ok, refl, sym, ap, ◌∙◌, arith}
use Rattle.std.specs.FinMap.{get}
use Rattle.dh_base.specs.declared.id.Id.{Id}
use Rattle.dh_base.specs.Names.{is_name}
use Rattle.act_text.specs.declared.act.Act.TheVariants.{Pay}
use Rattle.act_text.specs.declared.office.Office.TheVariants.{Ledger}
use Rattle.act_text.specs.ActReading.{act_of}
use Rattle.escrow_book.specs.declared.change.Change.{Change as BookChange}
use Rattle.escrow_book.specs.declared.change.Change.TheVariants.{Paid}
use Rattle.escrow_book.specs.Opening.{Row}
use Rattle.escrow_book.specs.History.{History, with_change, free_of}
use Rattle.escrow_book.specs.Reached.{IsReached}
use Rattle.escrow_book.specs.Refused.{pay_refusal}
use Rattle.escrow_book.proofs.Whole.{grown}
use Rattle.escrow_book.proofs.Parts.{free_untouched, if_commit_untouched, if_abort_untouched, moves_untouched}
use Rattle.keeper_core.specs.Tables.{Cell, Tables}
use Rattle.keeper_core.specs.Batches.{after_batch, after_change}
use Rattle.ledger_rows.specs.declared.entry.Entry.{Entry}
use Rattle.ledger_rows.specs.declared.entry.Entry.TheVariants.{Act as Accepted}
use Rattle.ledger_rows.specs.RowKeys.{free_tab, deal_tab, hold_tab, moves_tab, used_tab, entry_tab, free_key, first_id, asset_in}
use Rattle.ledger_rows.specs.RowChanges.{free_change}
use Rattle.ledger_rows.specs.Entries.{book_of}
use Rattle.ledger_rows.specs.LedgerTables.{free_value, free_row, StandsFor}
use Rattle.ledger_rows.specs.ActChanges.{IsNew, act_changes, payment_changes}
use Rattle.ledger_rows.proofs.Cells.{same_cell, cell_is, free_at, picked}
use Rattle.ledger_rows.proofs.RowsKept.{free_row_is, kept_free, apart, kept_hold, kept_moves}
use Rattle.ledger_rows.proofs.ActsStand.{Prepared, act_stands}

no_payment : (here : Bool) (n : ℕ) → here ≡ false → (if here then n else 0) + 0 ≡ 0
no_payment false n e = omega arith
no_payment true n e = absurd cc

module _ (tables : Tables) (opening : List Row) (entries : List Entry) (from : Id) (q : ℕ) (message : List ℕ) (house : Id) (ledger : List ℕ) (to : Id) (asset : List ℕ) (amount : ℕ)
    (stands : StandsFor tables opening entries) (reached : IsReached (book_of opening entries)) (new : IsNew entries from q) (reads : act_of Ledger message ≡ Ok (Pay house ledger to asset amount))
    (wide : length to.0 ≡ 32) (named : is_name asset ≡ true) (few : length entries < 2 ^ 63) (none : pay_refusal (book_of opening entries) from to asset amount ≡ None) where
  abbrev book : History
  book = book_of opening entries

  abbrev change : BookChange
  change = Paid from to asset amount

  abbrev later : History
  later = with_change book change

  -- the tables, change by change
  abbrev one : Tables
  one = after_change (free_change from asset (free_of later from asset)) tables

  abbrev two : Tables
  two = after_change (free_change to asset (free_of later to asset)) one

  -- ---- free amounts

  stays : (key : List ℕ) → same_cell (free_tab, key) (free_tab, free_key from asset) ≡ false → same_cell (free_tab, key) (free_tab, free_key to asset) ≡ false → free_row later key ≡ free_row book key
  stays key not_from not_to = kept_free book later key (λ good.
      free_untouched book change (first_id key) (asset_in key) (grown book reached) none (no_payment _ amount (apart key from asset good not_from)) (no_payment _ amount (apart key to asset good not_to)))

  at_key : (key : List ℕ) (p : Id) → length p.0 ≡ 32 → same_cell (free_tab, key) (free_tab, free_key p asset) ≡ true → free_value (free_of later p asset) ≡ free_row later key
  at_key key p w same =
      let e : key ≡ free_key p asset = ap (λ (c : Cell). c.1) (cell_is (free_tab, key) (free_tab, free_key p asset) same) in
      sym (free_row_is later p asset w named) ∙ ap (λ (k : List ℕ). free_row later k) (sym e)

  free_two : (key : List ℕ) → get two (free_tab, key) ≡ free_row later key
  free_two key =
      free_at to asset (free_of later to asset) one (free_tab, key) ∙ picked _ _ _ _ (λ is. at_key key to wide is)
      (λ not_to. free_at from asset (free_of later from asset) tables (free_tab, key) ∙ picked _ _ _ _ (λ is. at_key key from new.wide is)
      (λ not_from. stands.free key ∙ sym (stays key not_from not_to)))

  others : (cell : Cell) → same_cell cell (free_tab, free_key to asset) ≡ false → same_cell cell (free_tab, free_key from asset) ≡ false → get two cell ≡ get tables cell
  others cell not_to not_from =
      free_at to asset (free_of later to asset) one cell ∙ ap (λ (b : Bool). cond b (free_value (free_of later to asset)) (get one cell)) not_to
      ∙ free_at from asset (free_of later from asset) tables cell ∙ ap (λ (b : Bool). cond b (free_value (free_of later from asset)) (get tables cell)) not_from

  prepared : Prepared tables two later
  prepared = record {
    free = free_two;
    holds = λ key. others (hold_tab, key) refl refl ∙ stands.holds key ∙ sym (kept_hold book later key (λ d p x. (if_commit_untouched book change d p x (omega arith) refl, if_abort_untouched book change d p x refl)));
    moves = λ key. others (moves_tab, key) refl refl ∙ stands.moves key ∙ sym (kept_moves book later key (λ d p. moves_untouched book change d p refl));
    deals = λ key. others (deal_tab, key) refl refl;
    used = λ key. others (used_tab, key) refl refl;
    entries = λ key. others (entry_tab, key) refl refl;
  }

  pub payment_stands : StandsFor (after_batch (payment_changes from to asset (free_of later from asset) (free_of later to asset) (act_changes (length entries + 1) from q message)) tables) opening (entries ++ Accepted from q message ∷ [])
  payment_stands = act_stands tables two opening entries from q message (Pay house ledger to asset amount) change stands new few reads refl (λ d. refl) (λ d. refl) prepared
