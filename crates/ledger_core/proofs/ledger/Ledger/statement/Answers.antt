use Rattle.std.proofs.Common.{rules, ◌≡◌, refl, sym, ap, subst, Result, Ok, Err}
use Rattle.act_text.specs.declared.statement.Statement.{Statement}
use Rattle.keeper_core.specs.Knowing.{Known}
use Rattle.ledger_rows.specs.Entries.{book_of}
use Rattle.ledger_core.specs.declared.ask_fault.AskFault.{AskFault}
use Rattle.ledger_core.specs.AskFaults.{of_ask_fault}
use Rattle.ledger_core.specs.Ledgers.{LedgerTold}
use Rattle.ledger_core.specs.Questions.{TellsBy}
use Rattle.ledger_core.specs.Statements.{statement_refusal, IsStanding, IsStatement}
use Rattle.ledger_core.proofs.Standings.{tells_refused, tells_on}
use Rattle.ledger_core.proofs.ledger.Ledger.statement.Goals as goal

pub returns-in_err-standing-clause-tells : goal.returns-in_err-standing-clause-tells
returns-in_err-standing-clause-tells g c =
    let deal = c.args.deal.now in
    let party = c.args.party.now in
    let after = g.K.Keeper.known c.standing_of.new.keeper in
    let fault = c.in_err-standing.field-0.0 in
    let told = rw c.in_err-standing.was at c.standing_of.ensures.tells in
    let is : c.from_residual.result ≡ Err fault = search rules in
    subst (λ (r : Result Statement AskFault). TellsBy of_ask_fault (statement_refusal deal party) (λ opened entries. IsStatement c.args.self.now deal party (book_of opened.rows entries)) r (g.K.Keeper.known c.args.self.now.keeper) after) (sym is)
    (subst (λ (before : Known). TellsBy {A = Statement} of_ask_fault (statement_refusal deal party) (λ opened entries. IsStatement c.args.self.now deal party (book_of opened.rows entries)) (Err fault) before after)
    (ap (λ (l : LedgerTold g.row.K.Denot). g.K.Keeper.known l.keeper) c.self.view_is)
    (tells_refused of_ask_fault (statement_refusal deal party) (λ opened entries. IsStanding (book_of opened.rows entries) deal party) (λ opened entries. IsStatement c.args.self.now deal party (book_of opened.rows entries)) fault (g.K.Keeper.known c.self.inside.keeper) after told))

pub returns-clause-tells : goal.returns-clause-tells
returns-clause-tells g c =
    let deal = c.args.deal.now in
    let party = c.args.party.now in
    let standing = c.in_ok-standing.standing in
    let after = g.K.Keeper.known c.standing_of.new.keeper in
    let told = rw c.in_ok-standing.was at c.standing_of.ensures.tells in
    let statement : Statement = record {
      house = c.self.inside.house;
      ledger = c.self.inside.name;
      deal = deal;
      party = party;
      at = c.self.inside.entries;
      moves = standing.owned.moves;
      rows = standing.owned.rows;
      settled = standing.settled;
    } in
    subst (λ (before : Known). TellsBy of_ask_fault (statement_refusal deal party) (λ opened entries. IsStatement c.args.self.now deal party (book_of opened.rows entries)) (Ok statement) before after)
    (ap (λ (l : LedgerTold g.row.K.Denot). g.K.Keeper.known l.keeper) c.self.view_is)
    (tells_on of_ask_fault (statement_refusal deal party) (λ opened entries. IsStanding (book_of opened.rows entries) deal party) (λ opened entries. IsStatement c.args.self.now deal party (book_of opened.rows entries)) standing statement (g.K.Keeper.known c.self.inside.keeper) after
    (λ opened entries stands. record {
      house = ap (λ (l : LedgerTold g.row.K.Denot). l.house) c.self.view_is;
      name = ap (λ (l : LedgerTold g.row.K.Denot). l.name) c.self.view_is;
      deal_is = refl;
      party_is = refl;
      at = ap (λ (l : LedgerTold g.row.K.Denot). l.entries) c.self.view_is;
      moves = stands.owned.moves;
      rows = stands.owned.amounts;
      settled = stands.settled;
    }) told)
