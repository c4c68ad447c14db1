use Rattle.std.proofs.Common.{◌≡◌, take}
use Rattle.house_holders.specs.Compliant.{compliant_of}
use Rattle.house_holders.proofs.compliant.compliant_of.Given as goal

abbrev pub invariant-loop-holder : goal.invariant-loop-holder
invariant-loop-holder l = l.compliant.items ≡ compliant_of (take l.holder-index l.holders)
