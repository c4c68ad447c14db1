-- One item more, of which something is picked or nothing.
use Rattle.std.proofs.Common.{◌≡◌, ℕ, ◌+◌, ◌<◌, List, [], ◌∷◌, ◌++◌, length, take, get_or, Option, Some, None, sym, ap, ◌∙◌}
use Rattle.std.specs.List.{filter_map, cons_option}
use Rattle.std.proofs.lemmas.List.{take_more, append-nil}
use Rattle.std.proofs.lemmas.List.Elements.{filter_map-append}

-- what is picked of one item more
picked : {X Y : Type 0} (h : X → Option Y) (xs : List X) (i : ℕ) (x : X) → i < length xs → x ≡ get_or xs i x → filter_map h (take (i + 1) xs) ≡ filter_map h (take i xs) ++ cons_option (h x) []
picked h xs i x less here =
    let taken : take (i + 1) xs ≡ take i xs ++ x ∷ [] = take_more xs i x less ∙ ap (λ y. take i xs ++ y ∷ []) (sym here) in
    ap (filter_map h) taken ∙ filter_map-append h (take i xs) (x ∷ [])

-- something is picked, and stands at the end
pub picks_more : {X Y : Type 0} (h : X → Option Y) (xs : List X) (i : ℕ) (x : X) (y : Y) (ys zs : List Y) → i < length xs → x ≡ get_or xs i x → ys ≡ filter_map h (take i xs) → h x ≡ Some y → zs ≡ ys ++ y ∷ [] → zs ≡ filter_map h (take (i + 1) xs)
picks_more h xs i x y ys zs less here so_far picks next =
    next ∙ (ap (λ t. t ++ y ∷ []) so_far ∙ (ap (λ p. filter_map h (take i xs) ++ cons_option p []) (sym picks) ∙ sym (picked h xs i x less here)))

-- nothing is picked
pub picks_none : {X Y : Type 0} (h : X → Option Y) (xs : List X) (i : ℕ) (x : X) (ys : List Y) → i < length xs → x ≡ get_or xs i x → ys ≡ filter_map h (take i xs) → h x ≡ None → ys ≡ filter_map h (take (i + 1) xs)
picks_none h xs i x ys less here so_far picks =
    so_far ∙ (sym (append-nil (filter_map h (take i xs))) ∙ (ap (λ p. filter_map h (take i xs) ++ cons_option p []) (sym picks) ∙ sym (picked h xs i x less here)))
