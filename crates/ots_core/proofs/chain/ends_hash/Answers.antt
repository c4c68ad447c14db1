use Rattle.std.proofs.Common.{◌≡◌, ℕ, List, [], ◌++◌, get_or, length, map, ap, refl, subst, sym, ◌∙◌, arith}
use Rattle.std.proofs.lemmas.List.FromFn.{fill_by_all}
use Rattle.std.specs.Int.{w16, w32, to_be_bytes}
use Rattle.std.specs.List.{range_with_len, concat}
use Rattle.sha2.specs.Hashers.{Holds256}
use Rattle.ots_core.specs.Keys.{ends_hash}
use Rattle.ots_core.proofs.Ends.{ends-more}
use Rattle.ots_core.proofs.chain.ends_hash.Goals as goal

pub loop-i-preserved : goal.loop-i-preserved
loop-i-preserved c =
    let end : ℕ → List ℕ = λ i. get_or c.args.ends.now i [] in
    let head : List ℕ = c.args.ident.now ++ to_be_bytes w32 c.args.q ++ to_be_bytes w16 0x8080 in
    let before : List ℕ = head ++ concat (map end (range_with_len 0 c.loop-i.i)) in
    subst (λ (m : List ℕ). Holds256 c.update.new.self m) (ap (λ (t : List ℕ). before ++ t) c.as_slice.ensures ∙ ends-more end head c.loop-i.i) (c.update.ensures before c.loop-i.invariant)

pub returns : goal.returns
returns c =
    let ends = c.args.ends.now in
    let whole : length ends ≡ c.loop-i.i = omega arith in
    c.finalize.ensures _ c.loop-i.invariant
    ∙ ap (ends_hash c.args.ident.now c.args.q) (sym (fill_by_all (λ (i : ℕ). get_or ends i []) ends c.loop-i.i [] whole (λ i lt. refl)))
