-- The order of pairs.
use Rattle.std.proofs.Common.{◌≡◌, ℕ, List, sym, ap, ◌∙◌, rules}
use Rattle.std.specs.Cmp.{IsTotalOrder}
use Rattle.std.specs.Cmp.Rules.{comparing}
use Rattle.std.specs.Cmp.Lexicographic.{slice_cmp}
use Rattle.std.specs.Ordering.{ordering_reverse, nat_cmp}
use Rattle.std.specs.declared.cmp.Ordering.TheVariants.{Less, Equal, Greater}
use Rattle.std.proofs.lemmas.Map.Lookups.{exact_bytes, exact_pairs}
use Rattle.clear_core.specs.Pairs.{pair_cmp}
use Rattle.clear_core.specs.declared.pair.Pair.{Pair}

pub pair_total : IsTotalOrder pair_cmp
pair_total = search (comparing, rules)

pub pair_exact : (a b : Pair) → pair_cmp a b ≡ Equal → a ≡ b
pair_exact a b e =
    let both : (a.ledger, a.asset) ≡ (b.ledger, b.asset) = exact_pairs (slice_cmp nat_cmp) (slice_cmp nat_cmp) exact_bytes exact_bytes (a.ledger, a.asset) (b.ledger, b.asset) e in
    ap (λ (p : List ℕ × List ℕ). record { ledger = p.0; asset = p.1 }) both

pub turned : (a b : Pair) → pair_cmp a b ≡ Greater → pair_cmp b a ≡ Less
turned a b e = pair_total.antisymm b a ∙ ap ordering_reverse e

pub not_before_itself : (pair : Pair) → pair_cmp pair pair ≡ Less → ⊥
not_before_itself pair e =
    let turned : pair_cmp pair pair ≡ ordering_reverse (pair_cmp pair pair) = pair_total.antisymm pair pair in
    let both : Less ≡ Greater = sym e ∙ (turned ∙ ap ordering_reverse e) in
    absurd cc
