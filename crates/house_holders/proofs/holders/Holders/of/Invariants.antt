use Rattle.std.proofs.Common.{◌≡◌, take}
use Rattle.house_holders.specs.Holders.{holders_of}
use Rattle.house_holders.proofs.holders.Holders.of.Given as goal

abbrev pub invariant-loop-declaration : goal.invariant-loop-declaration
invariant-loop-declaration l = l.listed.items ≡ holders_of (take l.declaration-index l.declarations)
