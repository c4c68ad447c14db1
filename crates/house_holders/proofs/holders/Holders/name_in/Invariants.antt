use Rattle.std.proofs.Common.{◌≡◌, ◌++◌, take}
use Rattle.house_holders.specs.Holders.{directory_of}
use Rattle.house_holders.proofs.holders.Holders.name_in.Given as goal

abbrev pub invariant-loop-holder : goal.invariant-loop-holder
invariant-loop-holder l = l.directory ≡ l.fn.directory ++ directory_of (take l.holder-index l.self)
