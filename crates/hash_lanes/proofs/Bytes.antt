-- The bytes of a value, from its words.
use Rattle.std.proofs.Common.{◌≡◌, ℕ, zero, suc, ◌+◌, ◌*◌, ◌<◌, ◌≤◌, List, [], ◌∷◌, ◌++◌, length, take, get_or, slice_index, refl, ap, sym, ◌∙◌, arith, append_assoc}
use Rattle.std.proofs.lemmas.List.{take_all, take_more}
use Rattle.std.proofs.lemmas.Nat.{be_bytes_4}
use Rattle.std.specs.Int.{w32, to_be_bytes}
use Rattle.sha2.specs.Sha256.{digest_bytes, word_at}

four_more : (v : List ℕ) (i : ℕ) → i + 4 ≤ length v
    → take (i + 4) v ≡ take i v ++ (slice_index v i ∷ slice_index v (i + 1) ∷ slice_index v (i + 2) ∷ slice_index v (i + 3) ∷ [])
four_more v i le =
    let e1 : take (i + 1) v ≡ take i v ++ slice_index v i ∷ [] = take_more v i 0 (omega arith) in
    let e2 : take (i + 2) v ≡ take (i + 1) v ++ slice_index v (i + 1) ∷ [] = ap (λ (n : ℕ). take n v) (omega arith) ∙ take_more v (i + 1) 0 (omega arith) in
    let e3 : take (i + 3) v ≡ take (i + 2) v ++ slice_index v (i + 2) ∷ [] = ap (λ (n : ℕ). take n v) (omega arith) ∙ take_more v (i + 2) 0 (omega arith) in
    let e4 : take (i + 4) v ≡ take (i + 3) v ++ slice_index v (i + 3) ∷ [] = ap (λ (n : ℕ). take n v) (omega arith) ∙ take_more v (i + 3) 0 (omega arith) in
    rw (e4, e3, e2, e1, append_assoc, append_assoc, append_assoc) refl

four_small : (a b c d : ℕ) → a < 256 → b < 256 → c < 256 → d < 256 → (i : ℕ) → get_or (a ∷ b ∷ c ∷ d ∷ []) i 0 < 256
four_small a b c d la lb lc ld zero = la
four_small a b c d la lb lc ld (suc zero) = lb
four_small a b c d la lb lc ld (suc (suc zero)) = lc
four_small a b c d la lb lc ld (suc (suc (suc zero))) = ld
four_small a b c d la lb lc ld (suc (suc (suc (suc n)))) = omega arith

word_bytes : (v : List ℕ) (i x : ℕ) → ((k : ℕ) → slice_index v k < 256) → x ≡ word_at v i
    → to_be_bytes w32 x ≡ slice_index v i ∷ slice_index v (i + 1) ∷ slice_index v (i + 2) ∷ slice_index v (i + 3) ∷ []
word_bytes v i x small e = be_bytes_4 _ x refl (four_small _ _ _ _ (small i) (small (i + 1)) (small (i + 2)) (small (i + 3))) e

-- the bytes of its first n words
first_bytes : (h v : List ℕ) (n : ℕ) → n ≤ 8 → length v ≡ 32 → ((k : ℕ) → slice_index v k < 256) → ((k : ℕ) → k < 8 → slice_index h k ≡ word_at v (4 * k))
    → digest_bytes h n ≡ take (4 * n) v
unfolding digest_bytes
first_bytes h v zero le long small words = refl
first_bytes h v (suc n) le long small words =
    let next : take (4 * n + 4) v ≡ take (4 * n) v ++ _ = four_more v (4 * n) (omega arith) in
    rw (first_bytes h v n (omega arith) long small words, word_bytes v (4 * n) (slice_index h n) small (words n (omega arith)))
    (sym next ∙ ap (λ (m : ℕ). take m v) (omega arith))

pub value_again : (h v : List ℕ) → length v ≡ 32 → ((k : ℕ) → slice_index v k < 256) → ((k : ℕ) → k < 8 → slice_index h k ≡ word_at v (4 * k)) → digest_bytes h 8 ≡ v
value_again h v long small words = first_bytes h v 8 (omega arith) long small words ∙ take_all 32 v (omega arith)
