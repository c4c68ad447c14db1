use Rattle.std.proofs.Common.{◌≡◌, ◌+◌, ◌++◌, map, length}
use Rattle.std.specs.List.{AllByRecursion}
use Rattle.std.specs.Vec.Iter.{into_iter_items, into_iter_len}
use Rattle.joined_deals.specs.Signed.{unsigned_in}
use Rattle.agent_core.specs.AgentTables.{IsOwn}
use Rattle.agent_core.specs.AgentRows.{row_of}
use Rattle.agent_core.proofs.loading.read_deals.Given as goal

abbrev pub invariant-loop-row : goal.invariant-loop-row
invariant-loop-row l = record {
  parted : l.fn.rows ≡ map row_of l.deals.items ++ into_iter_items l.row-iterator;
  behind : into_iter_len l.row-iterator ≡ length (into_iter_items l.row-iterator);
  own : AllByRecursion (IsOwn l.house l.account) l.deals.items;
  keys : l.left + (length l.signer.texts + unsigned_in l.signer.texts l.deals.items) ≡ l.signer.spec.size;
}
