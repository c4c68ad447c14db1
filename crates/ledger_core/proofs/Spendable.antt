-- What an account can spend, by the rows and by the history.
use Rattle.std.proofs.Common.{◌≡◌, ℕ, List, length, Option, None, Result, sym, ◌∙◌}
use Rattle.act_text.specs.declared.statement.HeldRow.{HeldRow}
use Rattle.dh_base.specs.declared.id.Id.{Id}
use Rattle.escrow_book.specs.History.{free_of}
use Rattle.keeper_core.specs.declared.store_fault.StoreFault.{StoreFault}
use Rattle.keeper_core.specs.Knowing.{Known}
use Rattle.keeper_core.specs.Leaving.{of_store_fault}
use Rattle.ledger_rows.specs.Asking.{Asks}
use Rattle.ledger_rows.specs.Entries.{book_of}
use Rattle.ledger_rows.specs.RowKeys.{free_tab}
use Rattle.ledger_rows.specs.Scanning.{rows_in, scan_refusal, amount_at, some_of, AreAmounts}
use Rattle.ledger_rows.proofs.ScansStand.{free_scanned, free_amounts}
use Rattle.ledger_core.specs.Questions.{TellsBy}
use Rattle.ledger_core.proofs.Asked.{tells}

-- amounts of one kind are those of another
pub same_amounts : (one other : List ℕ → Option ℕ) (rows : List HeldRow) → ((asset : List ℕ) → one asset ≡ other asset) → AreAmounts one rows → AreAmounts other rows
same_amounts one other rows same are = record {
  ascend = are.ascend;
  all = λ row. ((λ there. sym (same row.asset) ∙ (are.all row).0 there), (λ amount. (are.all row).1 (same row.asset ∙ amount)));
}

pub account_tells : (account : Id) → length account.0 ≡ 32 → (result : Result (List HeldRow) StoreFault) (before after : Known) →
    Asks of_store_fault (rows_in free_tab) (scan_refusal free_tab) (λ tables. AreAmounts (amount_at free_tab account.0 tables)) result before after →
    TellsBy of_store_fault (λ entries. None) (λ opened entries. AreAmounts (some_of (free_of (book_of opened.rows entries) account))) result before after
account_tells account wide = tells of_store_fault (rows_in free_tab) (scan_refusal free_tab) (λ tables. AreAmounts (amount_at free_tab account.0 tables)) (λ entries. None) (λ opened entries. AreAmounts (some_of (free_of (book_of opened.rows entries) account)))
    (λ opened entries tables state. free_scanned tables opened.rows entries state.stands state.reached)
    (λ opened entries tables rows state none are. same_amounts (amount_at free_tab account.0 tables) (some_of (free_of (book_of opened.rows entries) account)) rows (λ asset. free_amounts tables opened.rows entries state.stands state.reached account asset wide) are)
