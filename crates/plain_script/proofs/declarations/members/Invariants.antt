use Rattle.std.proofs.Common.{◌≡◌, drop}
use Rattle.plain_script.specs.BoundNames.{members_of}
use Rattle.plain_script.proofs.declarations.members.Given as goal

abbrev pub invariant-loop-declaration : goal.invariant-loop-declaration
invariant-loop-declaration l = members_of (drop l.declaration-index l.declarations) l.deal ≡ members_of l.declarations l.deal
