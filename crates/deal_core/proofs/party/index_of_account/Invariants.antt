use Rattle.std.proofs.Common.{◌≡◌, drop}
use Rattle.deal_core.specs.Deals.{party_where, has_account, index_of_account}
use Rattle.deal_core.proofs.party.index_of_account.Given as goal

abbrev pub invariant-loop-index : goal.invariant-loop-index
invariant-loop-index l = party_where (has_account l.account) l.index (drop l.index l.parties) ≡ index_of_account l.parties l.account
