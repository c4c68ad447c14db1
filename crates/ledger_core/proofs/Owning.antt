-- What a party has made and owns in a deal, by the rows and by the history.
use Rattle.std.proofs.Common.{◌≡◌, ℕ, ◌<◌, ◌≤◌, ◌^◌, ◌==◌, Bool, true, false, if◌then◌else◌, List, [], ◌++◌, length, Option, Some, None, Result, Ok, Err, refl, sym, ap, subst, ◌∙◌, arith}
use Rattle.std.specs.Option.{option_map}
use Rattle.std.proofs.lemmas.Bool.{eqb-true, eqb-false}
use Rattle.dh_base.specs.declared.id.Id.{Id}
use Rattle.act_text.specs.declared.statement.HeldRow.{HeldRow}
use Rattle.escrow_book.specs.Base.{greatest_turn}
use Rattle.escrow_book.specs.History.{History, if_commit_of, moves_of}
use Rattle.escrow_book.proofs.Bounds.{moves_within}
use Rattle.escrow_book.proofs.Steps.{base_of}
use Rattle.escrow_book.proofs.Whole.{grown}
use Rattle.keeper_core.specs.declared.store_fault.StoreFault.{StoreFault}
use Rattle.keeper_core.specs.Tables.{Tables}
use Rattle.keeper_core.specs.Knowing.{Known}
use Rattle.keeper_core.specs.Leaving.{done, of_store_fault, ended}
use Rattle.keeper_core.specs.Stepping.{WhereTold, IsReply, IsRefusal}
use Rattle.keeper_core.proofs.Leaving.{then_any}
use Rattle.keeper_core.proofs.Stepping.{was_told}
use Rattle.ledger_rows.specs.declared.entry.Entry.{Entry}
use Rattle.ledger_rows.specs.declared.move_count.MoveCount.{MoveCount}
use Rattle.ledger_rows.specs.Asking.{Asks}
use Rattle.ledger_rows.specs.Entries.{book_of}
use Rattle.ledger_rows.specs.LedgerTables.{moves_value}
use Rattle.ledger_rows.specs.RowKeys.{hold_tab, moves_tab, moves_key}
use Rattle.ledger_rows.specs.RowValues.{moves_in, moves_text}
use Rattle.ledger_rows.specs.RowReading.{Reads, LacksForm, row_of, form_refusal, count_said, moves_said, moves_refusal}
use Rattle.ledger_rows.specs.Scanning.{rows_in, scan_refusal, amount_at, some_of, AreAmounts}
use Rattle.ledger_rows.proofs.RowsKept.{moves_row_is}
use Rattle.ledger_rows.proofs.RowReads.{look_keeps}
use Rattle.ledger_rows.proofs.RowReads as reads
use Rattle.ledger_rows.proofs.ScansStand.{holds_scanned, hold_amounts}
use Rattle.ledger_rows.proofs.ValuesSpelled.{spelled_moves}
use Rattle.ledger_acts.specs.LedgerStep.{Opened}
use Rattle.ledger_acts.specs.LedgerState.{IsState}
use Rattle.ledger_core.specs.declared.asking.Owned.{Owned}
use Rattle.ledger_core.specs.Questions.{TellsBy}
use Rattle.ledger_core.specs.Statements.{AreOwned}
use Rattle.ledger_core.proofs.Spendable.{same_amounts}
use Rattle.ledger_core.proofs.Statements.{tells_where}

abbrev said_if : Bool → ℕ → Option (Option MoveCount)
said_if none n = if none then Some None else Some (Some (record { count = n }))

positive : (n : ℕ) → (n == 0) ≡ false → 0 < n
positive n some = let not_zero : n ≡ 0 → ⊥ = eqb-false n 0 some in omega arith

value_said : (n : ℕ) → n < 2 ^ 32 → row_of moves_in (moves_value n) ≡ said_if (n == 0) n
value_said n small = go (n == 0) (positive n)
  where
    go : (none : Bool) → (none ≡ false → 0 < n) → row_of moves_in (if none then None else Some (moves_text (record { count = n }))) ≡ said_if none n
    go true some = refl
    go false some = ap (option_map Some) (spelled_moves (record { count = n }) (some refl, small))

count_is : (key : List ℕ) (n : ℕ) → n < 2 ^ 32 → (option_map count_said (row_of moves_in (moves_value n)) ≡ Some n) × (form_refusal moves_tab key (row_of moves_in (moves_value n)) ≡ None)
count_is key n small = (ap (option_map count_said) (value_said n small) ∙ go (n == 0) (eqb-true n 0), ap (λ (o : Option (Option MoveCount)). form_refusal moves_tab key o) (value_said n small) ∙ formed (n == 0))
  where
    go : (none : Bool) → (none ≡ true → n ≡ 0) → option_map count_said (said_if none n) ≡ Some n
    go true is = ap (λ (k : ℕ). Some k) (sym (is refl))
    go false is = refl

    formed : (none : Bool) → form_refusal moves_tab key (said_if none n) ≡ None
    formed true = refl
    formed false = refl

some_same : (m n : ℕ) → Some m ≡ Some n → m ≡ n
some_same m n e = cc

module _ (deal party : Id) (wide : length deal.0 ≡ 32) (wide' : length party.0 ≡ 32) where
  abbrev pub Owns : Opened → List Entry → Owned → Type 0
  Owns opened entries = AreOwned (book_of opened.rows entries) deal party

  abbrev pub Told : Result Owned StoreFault → Known → Known → Type 0
  Told = TellsBy of_store_fault (λ entries. None) Owns

  module _ (opened : Opened) (entries : List Entry) (tables : Tables) (state : IsState opened tables entries) where
    abbrev book : History
    book = book_of opened.rows entries

    moves_are : (moves_said deal party tables ≡ Some (moves_of book deal party)) × (moves_refusal deal party tables ≡ None)
    moves_are =
        let within : moves_of book deal party ≤ greatest_turn = moves_within (base_of book) book.changes deal party (grown book state.reached) in
        let row = state.stands.moves (moves_key deal party) ∙ moves_row_is book deal party wide in
        let is = count_is (moves_key deal party) (moves_of book deal party) (omega (arith, within)) in
        (ap (λ (o : Option (List ℕ)). option_map count_said (row_of moves_in o)) row ∙ is.0, ap (λ (o : Option (List ℕ)). form_refusal moves_tab (moves_key deal party) (row_of moves_in o)) row ∙ is.1)

  pub moves_unread : (fault : StoreFault) (before after : Known) → Reads 1 (moves_said deal party) (moves_refusal deal party) LacksForm (Err fault) before after → Told (Err fault) before after
  moves_unread fault before after read =
      tells_where of_store_fault (λ entries. None) Owns (λ tables. IsRefusal (of_store_fault fault) (moves_refusal deal party tables) fault) (Err fault) before after read.leaves read.reply
      (λ opened entries tables state is. subst (λ (o : Option StoreFault). IsRefusal (of_store_fault fault) o fault) (moves_are opened entries tables state).1 is)

  module _ (moves : ℕ) (before mid after : Known) (read : Reads 1 (moves_said deal party) (moves_refusal deal party) LacksForm (Ok moves) before mid) where
    abbrev pub Scans : Result (List HeldRow) StoreFault → Type 0
    Scans result = Asks of_store_fault (rows_in hold_tab) (scan_refusal hold_tab) (λ tables. AreAmounts (amount_at hold_tab (deal.0 ++ party.0) tables)) result mid after

    abbrev pub Said : Result (List HeldRow) StoreFault → Tables → Type 0
    Said result tables = (moves_said deal party tables ≡ Some moves) × IsReply of_store_fault (scan_refusal hold_tab tables) (AreAmounts (amount_at hold_tab (deal.0 ++ party.0) tables)) result

    says : (result : Result (List HeldRow) StoreFault) → Scans result → WhereTold before after (Said result)
    says result scans = reads.told_both (λ tables. IsReply of_store_fault (moves_refusal deal party tables) (λ answer. moves_said deal party tables ≡ Some answer) (Ok moves)) (λ tables. IsReply of_store_fault (scan_refusal hold_tab tables) (AreAmounts (amount_at hold_tab (deal.0 ++ party.0) tables)) result) (Said result)
        before.tables mid.tables after.tables (look_keeps before mid read.leaves) (was_told [] (ended of_store_fault result) mid after scans.leaves) (λ tables one other. (one.1, other)) read.reply scans.reply

    pub rows_unread : (fault : StoreFault) → Scans (Err fault) → Told (Err fault) before after
    rows_unread fault scans =
        tells_where of_store_fault (λ entries. None) Owns (Said (Err fault)) (Err fault) before after (then_any [] (of_store_fault fault) before mid after read.leaves scans.leaves) (says (Err fault) scans)
        (λ opened entries tables state is. subst (λ (o : Option StoreFault). IsRefusal (of_store_fault fault) o fault) (holds_scanned tables opened.rows entries state.stands state.reached) is.1)

    pub owned : (rows : List HeldRow) → Scans (Ok rows) → Told (Ok (record { moves = moves; rows = rows })) before after
    owned rows scans =
        tells_where of_store_fault (λ entries. None) Owns (Said (Ok rows)) (Ok (record { moves = moves; rows = rows })) before after (then_any [] done before mid after read.leaves scans.leaves) (says (Ok rows) scans)
        (λ opened entries tables state is. (
          refl,
          record {
            moves = some_same moves (moves_of (book_of opened.rows entries) deal party) (sym is.0 ∙ (moves_are opened entries tables state).0);
            amounts = same_amounts (amount_at hold_tab (deal.0 ++ party.0) tables) (some_of (if_commit_of (book_of opened.rows entries) deal party)) rows (λ asset. hold_amounts tables opened.rows entries state.stands state.reached deal party asset wide wide') is.1.1;
          },
        ))
