use Rattle.std.proofs.Common.{None, ap, subst}
use Rattle.escrow_book.specs.History.{free_of}
use Rattle.keeper_core.specs.Knowing.{Known}
use Rattle.keeper_core.specs.Leaving.{of_store_fault}
use Rattle.ledger_rows.specs.Entries.{book_of}
use Rattle.ledger_rows.specs.Scanning.{some_of, AreAmounts}
use Rattle.ledger_core.specs.Ledgers.{LedgerTold}
use Rattle.ledger_core.specs.Questions.{TellsBy}
use Rattle.ledger_core.proofs.Spendable.{account_tells}
use Rattle.ledger_core.proofs.ledger.Ledger.account.Goals as goal

pub returns-clause-tells : goal.returns-clause-tells
returns-clause-tells g c =
    let account = c.args.account.now in
    let after = g.K.Keeper.known c.spendable.new.keeper in
    subst (λ (before : Known). TellsBy of_store_fault (λ entries. None) (λ opened entries. AreAmounts (some_of (free_of (book_of opened.rows entries) account))) c.spendable.result before after)
    (ap (λ (l : LedgerTold g.row.K.Denot). g.K.Keeper.known l.keeper) c.self.view_is)
    (account_tells account c.wide.ensures c.spendable.result (g.K.Keeper.known c.self.inside.keeper) after c.spendable.ensures.asks)
