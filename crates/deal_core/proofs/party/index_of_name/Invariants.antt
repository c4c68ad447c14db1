use Rattle.std.proofs.Common.{◌≡◌, drop}
use Rattle.deal_core.specs.Deals.{party_where, is_named, index_of_name}
use Rattle.deal_core.proofs.party.index_of_name.Given as goal

abbrev pub invariant-loop-index : goal.invariant-loop-index
invariant-loop-index l = party_where (is_named l.name) l.index (drop l.index l.parties) ≡ index_of_name l.parties l.name
