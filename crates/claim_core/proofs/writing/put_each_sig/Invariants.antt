use Rattle.std.proofs.Common.{◌≡◌, ◌++◌, take}
use Rattle.std.specs.List.{flat_map}
use Rattle.claim_core.specs.ClaimTexts.{sig_text}
use Rattle.claim_core.proofs.writing.put_each_sig.Given as goal

abbrev pub invariant-loop-sig : goal.invariant-loop-sig
invariant-loop-sig l = l.out.items ≡ l.fn.out.items ++ flat_map sig_text (take l.sig-index l.sigs)
