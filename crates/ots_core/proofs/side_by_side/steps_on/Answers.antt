use Rattle.std.proofs.Common.{◌≡◌, ◌+◌, ◌%◌, ◌^◌, ℕ, length, slice_index, ap, ◌∙◌, arith}
use Rattle.std.proofs.lemmas.Simd.{get_or-zip2, get_or-replicate}
use Rattle.ots_core.proofs.side_by_side.steps_on.Goals as goal

pub returns : goal.returns
returns c j lt =
    let long : length c.args.from ≡ 8 = c.fits-from.0 in
    get_or-zip2 _ c.args.from _ j 0 0 0 (omega arith) (omega arith) ∙ ap (λ (n : ℕ). (slice_index c.args.from j + n) % 2 ^ 32) (get_or-replicate 8 j c.args.steps 0 lt)
