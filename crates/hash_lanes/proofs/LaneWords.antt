-- A vector of eight lanes as a list, and what an operation on vectors is in a lane.
use Rattle.std.proofs.Common.{◌≡◌, Bool, false, cond, map, ◌≤◌, ℕ, ◌<◌, ◌-◌, ◌*◌, ◌/◌, ◌%◌, ◌^◌, List, length, slice_index, replicate, bit_and, bit_or, bit_xor, arith, refl, ap, ◌∙◌, Fits}
use Rattle.std.proofs.lemmas.Simd.{get_or-zip2, length-zip2, get_or-replicate, length-replicate, Each1-get_or, tops_compared, get_or-sel_l}
use Rattle.std.proofs.lemmas.Bool.{lt-ltb, le-ltb}
use Rattle.std.proofs.Math.Dec.{ltb}
use lib.Lanes.{sel_l, top}
use Rattle.std.specs.Simd.Lanes.{zip2, Each1}
use Rattle.std.specs.Int.{w32, rotate_right}
use Rattle.sha2.specs.Sha256.{add32, ch, maj}
use Rattle.hash_lanes.proofs.BitwiseChoice.{ch_by_bits, maj_by_bits}

-- eight lanes that are words
pub record AreWords (x : List ℕ) : Type 0 where
  pub eight : length x ≡ 8
  pub fit : Each1 (Fits w32) x

zip2_at : (f : ℕ → ℕ → ℕ) (x y : List ℕ) (j : ℕ) → length x ≡ 8 → length y ≡ 8 → j < 8 → slice_index (zip2 f x y) j ≡ f (slice_index x j) (slice_index y j)
zip2_at f x y j lx ly lt = get_or-zip2 f x y j 0 0 0 (omega arith) (omega arith)

length_zip2 : (f : ℕ → ℕ → ℕ) (x y : List ℕ) → length x ≡ 8 → length y ≡ 8 → length (zip2 f x y) ≡ 8
length_zip2 f x y lx ly = omega (arith, length-zip2 f x y (omega arith))

splat_at : (f : ℕ → ℕ → ℕ) (x : List ℕ) (k j : ℕ) → length x ≡ 8 → j < 8 → slice_index (zip2 f x (replicate 8 k)) j ≡ f (slice_index x j) k
splat_at f x k j lx lt = zip2_at f x (replicate 8 k) j lx (length-replicate 8 k) lt ∙ ap (f (slice_index x j)) (get_or-replicate 8 j k 0 lt)

length_splat : (f : ℕ → ℕ → ℕ) (x : List ℕ) (k : ℕ) → length x ≡ 8 → length (zip2 f x (replicate 8 k)) ≡ 8
length_splat f x k lx = length_zip2 f x (replicate 8 k) lx (length-replicate 8 k)

pub below : (x : List ℕ) (j : ℕ) → length x ≡ 8 → Each1 (Fits w32) x → j < 8 → slice_index x j < 2 ^ 32
below x j lx fit lt = let fits = Each1-get_or (Fits w32) x j 0 (omega arith) fit in omega arith

pub ch_lanes : (x y z : List ℕ) → length x ≡ 8 → length y ≡ 8 → length z ≡ 8 → Each1 (Fits w32) x → Each1 (Fits w32) y → Each1 (Fits w32) z → (j : ℕ) → j < 8
    → slice_index (zip2 bit_xor z (zip2 bit_and x (zip2 bit_xor y z))) j ≡ ch (slice_index x j) (slice_index y j) (slice_index z j)
ch_lanes x y z lx ly lz fx fy fz j lt =
    let inner = length_zip2 bit_xor y z ly lz in
    let middle = length_zip2 bit_and x (zip2 bit_xor y z) lx inner in
    rw (zip2_at bit_xor z (zip2 bit_and x (zip2 bit_xor y z)) j lz middle lt, zip2_at bit_and x (zip2 bit_xor y z) j lx inner lt, zip2_at bit_xor y z j ly lz lt)
    (ch_by_bits (slice_index x j) (slice_index y j) (slice_index z j) (below x j lx fx lt) (below y j ly fy lt) (below z j lz fz lt))

pub maj_lanes : (x y z : List ℕ) → length x ≡ 8 → length y ≡ 8 → length z ≡ 8 → (j : ℕ) → j < 8
    → slice_index (zip2 bit_xor y (zip2 bit_and (zip2 bit_xor x y) (zip2 bit_xor y z))) j ≡ maj (slice_index x j) (slice_index y j) (slice_index z j)
maj_lanes x y z lx ly lz j lt =
    let left = length_zip2 bit_xor x y lx ly in
    let right = length_zip2 bit_xor y z ly lz in
    let middle = length_zip2 bit_and (zip2 bit_xor x y) (zip2 bit_xor y z) left right in
    rw (
      zip2_at bit_xor y (zip2 bit_and (zip2 bit_xor x y) (zip2 bit_xor y z)) j ly middle lt,
      zip2_at bit_and (zip2 bit_xor x y) (zip2 bit_xor y z) j left right lt,
      zip2_at bit_xor x y j lx ly lt,
      zip2_at bit_xor y z j ly lz lt,
    )
    (maj_by_bits (slice_index x j) (slice_index y j) (slice_index z j))

pub shift_lanes : (x : List ℕ) (k : ℕ) → length x ≡ 8 → k < 32 → (j : ℕ) → j < 8
    → slice_index (zip2 (λ a n. a / 2 ^ n) x (replicate 8 k)) j ≡ slice_index x j / 2 ^ k
shift_lanes x k lx lt32 j lt = splat_at (λ a n. a / 2 ^ n) x k j lx lt

pub shift_left_lanes : (x : List ℕ) (k : ℕ) → length x ≡ 8 → k < 32 → (j : ℕ) → j < 8
    → slice_index (zip2 (λ a n. a * 2 ^ n % 2 ^ 32) x (replicate 8 k)) j ≡ slice_index x j * 2 ^ k % 2 ^ 32
shift_left_lanes x k lx lt32 j lt = splat_at (λ a n. a * 2 ^ n % 2 ^ 32) x k j lx lt

-- two shifts of each lane and an or are a rotation
pub rotate_lanes : (x : List ℕ) (k : ℕ) → length x ≡ 8 → 0 < k → k < 32 → (j : ℕ) → j < 8
    → slice_index (zip2 bit_or (zip2 (λ a n. a / 2 ^ n) x (replicate 8 k)) (zip2 (λ a n. a * 2 ^ n % 2 ^ 32) x (replicate 8 (32 - k)))) j ≡ rotate_right w32 (slice_index x j) k
rotate_lanes x k lx low high j lt =
    let right : k % 32 ≡ k = omega arith in
    let left : (32 - k) % 32 ≡ 32 - k = omega arith in
    let lr = length_splat (λ a n. a / 2 ^ n) x k lx in
    let ll = length_splat (λ a n. a * 2 ^ n % 2 ^ 32) x (32 - k) lx in
    zip2_at bit_or _ _ j lr ll lt ∙ rw (splat_at (λ a n. a / 2 ^ n) x k j lx lt, splat_at (λ a n. a * 2 ^ n % 2 ^ 32) x (32 - k) j lx lt, right, left) refl

-- the order in which the parts of T 1 are added
pub temp1_order : (h s c k w : ℕ) → add32 (add32 (add32 (add32 h k) w) c) s ≡ add32 (add32 (add32 (add32 h s) c) k) w
temp1_order h s c k w = omega arith

-- the choice by a comparison of lanes
module _ (at end first second : List ℕ) (la : length at ≡ 8) (le : length end ≡ 8) (lf : length first ≡ 8) (ls : length second ≡ 8) where
  chosen_at : (j : ℕ) → j < 8 → slice_index (sel_l (map (top 31) (zip2 (λ a b. cond (ltb a b) 4294967295 0) at end)) first second) j
      ≡ cond (ltb (slice_index at j) (slice_index end j)) (slice_index first j) (slice_index second j)
  chosen_at j lt =
      let tests = length-zip2 ltb at end (omega arith) in
      rw (tops_compared w32 ltb at end)
      (get_or-sel_l (zip2 ltb at end) first second j 0 (omega arith) (omega arith) (omega arith)
      ∙ ap (λ (b : Bool). cond b (slice_index first j) (slice_index second j)) (get_or-zip2 ltb at end j 0 0 false (omega arith) (omega arith)))

  pub chosen_below : (j : ℕ) → j < 8 → slice_index at j < slice_index end j
      → slice_index (sel_l (map (top 31) (zip2 (λ a b. cond (ltb a b) 4294967295 0) at end)) first second) j ≡ slice_index first j
  chosen_below j lt low = chosen_at j lt ∙ rw (lt-ltb (slice_index at j) (slice_index end j) low) refl

  pub chosen_else : (j : ℕ) → j < 8 → slice_index end j ≤ slice_index at j
      → slice_index (sel_l (map (top 31) (zip2 (λ a b. cond (ltb a b) 4294967295 0) at end)) first second) j ≡ slice_index second j
  chosen_else j lt high = chosen_at j lt ∙ rw (le-ltb (slice_index at j) (slice_index end j) high) refl
