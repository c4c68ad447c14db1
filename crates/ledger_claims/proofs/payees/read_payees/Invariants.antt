use Rattle.std.proofs.Common.{drop}
use Rattle.ledger_claims.proofs.PayeesRead.{ReadSoFar}
use Rattle.ledger_claims.proofs.payees.read_payees.Given as goal

abbrev pub invariant-loop-hold : goal.invariant-loop-hold
invariant-loop-hold g l = ReadSoFar l.owned (drop l.hold-index l.owned) l.payees.items l.hold-index (g.K.Keeper.known l.fn.keeper) (g.K.Keeper.known l.keeper)
