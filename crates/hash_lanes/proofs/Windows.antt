-- The words of one lane.
use Rattle.std.proofs.Common.{◌≡◌, ℕ, ◌<◌, List, [], length, slice_index, slice_set, ap, ◌∙◌}
use Rattle.std.proofs.lemmas.List.{get_or-map, map-set, length-map}
use Rattle.hash_lanes.specs.Lanes.{lane_at, words}

pub words_at : (j : ℕ) (x : List (List ℕ)) (k : ℕ) → k < length x → slice_index (words j x) k ≡ lane_at x k j
words_at j x k lt = get_or-map (λ (v : List ℕ). slice_index v j) x k [] 0 lt

pub length-words : (j : ℕ) (x : List (List ℕ)) → length (words j x) ≡ length x
length-words j x = length-map x (λ (v : List ℕ). slice_index v j)

pub words-set : (j : ℕ) (x y : List (List ℕ)) (k : ℕ) (v : List ℕ) → y ≡ slice_set x k v → words j y ≡ slice_set (words j x) k (slice_index v j)
words-set j x y k v e = ap (words j) e ∙ map-set (λ (v : List ℕ). slice_index v j) x k v
