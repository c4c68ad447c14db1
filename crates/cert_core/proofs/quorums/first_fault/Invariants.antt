use Rattle.std.proofs.Common.{◌≡◌, take, drop, []}
use Rattle.std.specs.List.{AllByRecursion}
use Rattle.cert_core.specs.Quorums.{Vouches, first_fault}
use Rattle.cert_core.proofs.quorums.first_fault.Given as goal

-- none of the signatures so far is at fault
abbrev pub invariant-loop-place : goal.invariant-loop-place
invariant-loop-place l =
    (first_fault l.accounts l.text (take l.place l.sigs) (drop l.place l.sigs) ≡ first_fault l.accounts l.text [] l.sigs)
    × AllByRecursion (Vouches l.accounts l.text) (take l.place l.sigs)
