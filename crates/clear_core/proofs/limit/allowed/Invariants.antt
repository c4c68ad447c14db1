use Rattle.std.proofs.Common.{◌≡◌, ◌≤◌, ◌*◌, take}
use Rattle.clear_core.specs.TermsKept.{allowed_of}
use Rattle.clear_core.proofs.limit.allowed.Given as goal

abbrev pub invariant-loop-limit : goal.invariant-loop-limit
invariant-loop-limit l = record {
  sum : l.sum ≡ allowed_of (take l.limit-index l.limits) l.ledger l.asset;
  small : l.sum ≤ 18446744073709551616 * l.limit-index;
}
