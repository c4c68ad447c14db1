use Rattle.std.proofs.Common.{◌≡◌, ◌+◌, ◌-◌, ◌≤◌, ◌^◌, []}
use Rattle.keeper_core.specs.Knowing.{LooksAtMost}
use Rattle.keeper_core.specs.Leaving.{Leaves, done}
use Rattle.keeper_core.specs.Stepping.{WhereTold}
use Rattle.ledger_core.specs.Opens.{most_entries, CountsWithin}
use Rattle.ledger_core.proofs.opens.count_entries.Given as goal

abbrev pub invariant-loop-round : goal.invariant-loop-round
invariant-loop-round g l = record {
  halved : l.width ≡ 2 ^ (21 - l.round);
  few : l.count + l.width ≤ most_entries;
  looks : Leaves [] done (g.K.Keeper.known l.fn.keeper) (g.K.Keeper.known l.keeper);
  looked : WhereTold (g.K.Keeper.known l.fn.keeper) (g.K.Keeper.known l.keeper) (λ tables. LooksAtMost l.round (g.K.Keeper.known l.fn.keeper) (g.K.Keeper.known l.keeper));
  within : WhereTold (g.K.Keeper.known l.fn.keeper) (g.K.Keeper.known l.keeper) (CountsWithin l.count (l.count + l.width));
}
