-- Numbers in bytes, the highest first, are in the order of the numbers.
use Rattle.std.proofs.Common.{◌≡◌, ℕ, zero, suc, ◌+◌, ◌*◌, ◌^◌, ◌<◌, ◌%◌, refl, sym, ap, ◌∙◌, arith, inl, inr}
use Rattle.std.specs.Int.{Width, byte_len, byte_at, bytes_high_first, to_be_bytes}
use Rattle.std.specs.declared.cmp.Ordering.TheVariants.{Less, Equal}
use Rattle.std.specs.Ordering.{nat_cmp}
use Rattle.std.specs.Cmp.{nat_cmp_is}
use Rattle.std.specs.Cmp.Lexicographic.{slice_cmp}
use Rattle.std.proofs.Math.Arith.{mod-mul}
use Rattle.std.proofs.Math.Nat.{mod-lt, mod-one, mod-eq_of_lt, mul-le-mul_right, suc-mul, pow-suc, pow-succ'}
use Rattle.std.proofs.lemmas.Bool.{cases_order}

pub some : (k : ℕ) → 0 < 256 ^ k
some zero = omega arith
some (suc k) = omega (arith, some k, pow-suc 256 k)

-- the highest of the lowest bytes, and the rest
highest : (k n : ℕ) → n % 256 ^ suc k ≡ byte_at k n * 256 ^ k + n % 256 ^ k
highest zero n = omega (arith, mod-one n)
highest (suc k) n = ap (λ p. n % p) (pow-succ' 256 (suc k)) ∙ mod-mul n {m = 256} {c = 256 ^ suc k} (omega arith) (some (suc k))

above : (p x y l m : ℕ) → y < x → m < p → x * p + l < y * p + m → ⊥
above p x y l m lt small h = omega (arith, mul-le-mul_right p lt, suc-mul y p, h, small)

pub ascend : (k a b : ℕ) → a % 256 ^ k < b % 256 ^ k → slice_cmp nat_cmp (bytes_high_first k a) (bytes_high_first k b) ≡ Less
ascend zero a b h = absurd (omega (arith, h, mod-one b))
ascend (suc k) a b h = elim (cases_order (byte_at k a) (byte_at k b)) [
  | inl same ↦
      let tied : nat_cmp (byte_at k a) (byte_at k b) ≡ Equal = sym (nat_cmp_is (byte_at k a) (byte_at k b) Equal same) in
      let alike : byte_at k a * 256 ^ k ≡ byte_at k b * 256 ^ k = ap (λ x. x * 256 ^ k) same in
      rw tied (ascend k a b (omega (arith, h, highest k a, highest k b, alike)))
  | inr (inl less) ↦
      let first : nat_cmp (byte_at k a) (byte_at k b) ≡ Less = sym (nat_cmp_is (byte_at k a) (byte_at k b) Less less) in
      rw first refl
  | inr (inr more) ↦
      absurd (above (256 ^ k) (byte_at k a) (byte_at k b) (a % 256 ^ k) (b % 256 ^ k) more (mod-lt b (some k)) (omega (arith, h, highest k a, highest k b)))
]

-- numbers that the width holds
pub numbers_ascend : (width : Width) (a b : ℕ) → a < b → b < 256 ^ byte_len width → slice_cmp nat_cmp (to_be_bytes width a) (to_be_bytes width b) ≡ Less
numbers_ascend width a b h small =
    ascend (byte_len width) a b (omega (arith, h, mod-eq_of_lt {n = a} {m = 256 ^ byte_len width} (omega (arith, h, small)), mod-eq_of_lt {n = b} {m = 256 ^ byte_len width} small))
