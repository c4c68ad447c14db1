use Rattle.std.proofs.Common.{◌≡◌, ap, subst}
use Rattle.escrow_book.specs.History.{settlement_of}
use Rattle.keeper_core.specs.Knowing.{Known}
use Rattle.ledger_rows.specs.Entries.{book_of}
use Rattle.ledger_core.specs.AskFaults.{of_ask_fault}
use Rattle.ledger_core.specs.Ledgers.{LedgerTold}
use Rattle.ledger_core.specs.Questions.{TellsBy, unknown_deal}
use Rattle.ledger_core.proofs.Settled.{settlement_tells}
use Rattle.ledger_core.proofs.ledger.Ledger.settlement.Goals as goal

pub returns-clause-tells : goal.returns-clause-tells
returns-clause-tells g c =
    let deal = c.args.deal.now in
    let after = g.K.Keeper.known c.settlement_at.new.keeper in
    subst (λ (before : Known). TellsBy of_ask_fault (unknown_deal deal) (λ opened entries settled. settled ≡ settlement_of (book_of opened.rows entries) deal) c.settlement_at.result before after)
    (ap (λ (l : LedgerTold g.row.K.Denot). g.K.Keeper.known l.keeper) c.self.view_is)
    (settlement_tells deal c.settlement_at.result (g.K.Keeper.known c.self.inside.keeper) after c.settlement_at.ensures.asks)
