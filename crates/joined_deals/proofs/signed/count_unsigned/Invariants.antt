use Rattle.std.proofs.Common.{◌≡◌, ◌≤◌, take}
use Rattle.std.specs.List.{count_by}
use Rattle.joined_deals.specs.Signed.{is_unsigned}
use Rattle.joined_deals.proofs.signed.count_unsigned.Given as goal

abbrev pub invariant-loop-text : goal.invariant-loop-text
invariant-loop-text l = record {
  count : l.count ≡ count_by (is_unsigned l.signer.texts) (take l.text-index l.texts);
  few : l.count ≤ l.text-index;
}
