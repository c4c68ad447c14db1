use Rattle.std.proofs.Common.{◌≡◌, ℕ, ◌+◌, ◌-◌, List, ◌∷◌, ◌++◌, length, drop, replicate, refl, ap, ◌∙◌, arith}
use Rattle.std.proofs.lemmas.List.{drop-replicate}
use Rattle.dh_base.specs.declared.id.Id.{Id}
use Rattle.plain_script.proofs.ids.plain_id.Goals as goal

-- an id of a length, characters and what stands behind them
abbrev made : ℕ → List ℕ → List ℕ → Id
made n text rest = record { 0 = n ∷ (text ++ rest) }

same_made : (n m : ℕ) (s t x y : List ℕ) → n ≡ m → s ≡ t → x ≡ y → made n s x ≡ made m t y
same_made n m s t x y a b c = rw (a, b, c) refl

pub returns : goal.returns
returns c =
    let text : List ℕ = c.as_bytes-text.result.now in
    let same : c.as_bytes-text.result.now ≡ c.args.name.now = c.as_bytes-text.ensures.characters in
    let len : length text ≡ length c.args.name.now = ap length same in
    let count : 1 + length text - 1 ≡ length text = omega arith in
    let zeros : drop (1 + length text - 1) (replicate 31 0) ≡ replicate (31 - length c.args.name.now) 0 = ap (λ k. drop k (replicate 31 0)) (count ∙ len) ∙ drop-replicate (length c.args.name.now) 31 0 in
    same_made (length text) (length c.args.name.now) c.copy_from_slice.new.self c.args.name.now (drop (1 + length text - 1) (replicate 31 0)) (replicate (31 - length c.args.name.now) 0) len (c.copy_from_slice.ensures.after ∙ same) zeros
