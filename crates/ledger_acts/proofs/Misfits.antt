-- A row that is named where rows make no part is one of them.
use Rattle.std.proofs.Common.{◌≡◌, ℕ, List, [], ◌∷◌, Option, Some, None, refl, sym, ap, arith}
use Rattle.std.specs.List.{slice_get}
use Rattle.std.specs.Option.{option_map, option_and_then, option_or}
use Rattle.sha2.specs.Sha256.{sha256}
use Rattle.dh_base.specs.declared.id.Id.{Id}
use Rattle.escrow_book.specs.declared.fault.BookFault.{BookFault}
use Rattle.escrow_book.specs.declared.fault.BookFault.TheVariants as book
use Rattle.escrow_book.specs.declared.part_fault.PartFault.{PartFault}
use Rattle.escrow_book.specs.declared.part_fault.PartFault.TheVariants as part
use Rattle.escrow_book.specs.declared.row.BookRow.{BookRow}
use Rattle.escrow_book.specs.PartRows.{no_rows, first_fault, part_of}
use Rattle.keeper_core.specs.declared.store_fault.StoreFault.TheVariants as store
use Rattle.ledger_acts.specs.declared.ledger_fault.LedgerFault.{LedgerFault}
use Rattle.ledger_acts.specs.declared.ledger_fault.LedgerFault.TheVariants.{Store}
use Rattle.ledger_acts.specs.declared.movement.Movement.{Movement}
use Rattle.ledger_acts.specs.LedgerStep.{first_of, by_book, full}
use Rattle.ledger_acts.specs.ByRows.{cell_of_row, place_of, FitsNoPart}
use Rattle.ledger_acts.specs.Movements.{book_refusal, naming, part_refusal, movement_refusal}

named : (rows : List BookRow) (place : ℕ) (o : Option BookRow) (tab : ℕ) (key : Id) → slice_get rows place ≡ o → option_and_then place_of (first_fault no_rows 0 rows) ≡ Some place → naming o ≡ Store (store.BadRow tab key) → FitsNoPart tab key
named rows place None tab key there first is = absurd cc
named rows place (Some row) tab key there first is =
    let digest : Id = record { 0 = sha256 (cell_of_row row).1 } in
    let fault : store.BadRow (cell_of_row row).0 digest ≡ store.BadRow tab key = (let h = is in cc) in
    let same_key : digest ≡ key = (let h = fault in cc) in
    record {
      rows = rows;
      place = place;
      row = row;
      first = first;
      there = there;
      of = (let h = fault in cc);
      named = sym (ap (λ (d : Id). d.0) same_key);
    }

no_book_row : (refusal : Option BookFault) (acts : ℕ) (tab : ℕ) (key : Id) → first_of (first_of (None ∷ by_book refusal ∷ []) ∷ full acts ∷ []) ≡ Some (Store (store.BadRow tab key)) → ⊥
no_book_row None acts tab key is = not_full (full acts) refl is
  where
    not_full : (o : Option LedgerFault) → full acts ≡ o → option_or o None ≡ Some (Store (store.BadRow tab key)) → ⊥
    not_full None e is = absurd cc
    not_full (Some fault) e is = grind (arith, e, is)
no_book_row (Some book.UnknownDeal) acts tab key is = absurd cc
no_book_row (Some (book.NotAParty account)) acts tab key is = absurd cc
no_book_row (Some (book.DealSettled outcome)) acts tab key is = absurd cc
no_book_row (Some (book.WrongTurn expected)) acts tab key is = absurd cc
no_book_row (Some book.ZeroOrSelf) acts tab key is = absurd cc
no_book_row (Some (book.Short held)) acts tab key is = absurd cc
no_book_row (Some book.NoMemory) acts tab key is = absurd cc

some_is : (one other : LedgerFault) → Some one ≡ Some other → one ≡ other
some_is one other e = cc

pub misfit_named : (movement : Movement) (acts : ℕ) (rows : List BookRow) (tab : ℕ) (key : Id) → movement_refusal movement acts rows ≡ Some (Store (store.BadRow tab key)) → FitsNoPart tab key
misfit_named movement acts rows tab key is = go (first_fault no_rows 0 rows) refl is
  where
    go : (o : Option PartFault) → first_fault no_rows 0 rows ≡ o → first_of (first_of (option_map (part_refusal rows) o ∷ by_book (book_refusal (part_of rows) movement) ∷ []) ∷ full acts ∷ []) ≡ Some (Store (store.BadRow tab key)) → FitsNoPart tab key
    go None e is = absurd (no_book_row (book_refusal (part_of rows) movement) acts tab key is)
    go (Some (part.BadRows place)) e is = named rows place (slice_get rows place) tab key refl (ap (option_and_then place_of) e) (some_is _ _ is)
    go (Some (part.SumTooLarge place)) e is = named rows place (slice_get rows place) tab key refl (ap (option_and_then place_of) e) (some_is _ _ is)
    go (Some part.NoMemory) e is = absurd cc
