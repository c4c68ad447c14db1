use Rattle.std.proofs.Common.{◌≡◌, ◌+◌, drop}
use Rattle.std.specs.List.{prefix_len}
use Rattle.joined_deals.specs.Signed.{is_signed}
use Rattle.joined_deals.proofs.signed.count_front.Given as goal

abbrev pub invariant-loop-place : goal.invariant-loop-place
invariant-loop-place l = l.place + prefix_len (is_signed l.signer.texts) (drop l.place l.texts) ≡ prefix_len (is_signed l.signer.texts) l.texts
