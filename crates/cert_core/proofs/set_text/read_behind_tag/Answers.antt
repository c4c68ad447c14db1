use Rattle.std.proofs.Common.{◌+◌, ◌*◌, [], take, sym}
use Rattle.cert_core.proofs.Accounts.{new-none_twice}
use Rattle.cert_core.proofs.set_text.read_behind_tag.Goals as goal

pub invariant_of-result : goal.invariant_of-result
invariant_of-result c =
    (c.if-f-gt-MOST_DEVIATING.false, new-none_twice [] (take (3 * c.from_be_bytes-f.result + 1) c.read_accounts-seats.result) (sym c.in-None.ensures.seat))
