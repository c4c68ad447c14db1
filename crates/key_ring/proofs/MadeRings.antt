-- What is made from a seed.
use Rattle.std.proofs.Common.{◌≡◌, ℕ, zero, suc, ◌+◌, ◌<◌, ◌≤◌, List, [], ◌++◌, length, get_or, map, refl, sym, ap, subst, arith}
use Rattle.std.specs.Int.{w16, to_be_bytes}
use Rattle.std.specs.List.{range_with_len, concat, AllByRecursion}
use Rattle.std.proofs.lemmas.List.FromFn.{length-map-range_with_len, get_or-map-range_with_len}
use Rattle.sha2.specs.Sha256.{sha256}
use Rattle.sha2.proofs.Facts256.{length-sha256}
use Rattle.ots_core.specs.Keys.{public_key_of, signature_of}
use Rattle.ots_core.specs.Validity.{IsOtsValid}
use Rattle.ots_core.proofs.Signed.{signed-valid}
use Rattle.key_ring.specs.Rings.{IsRing, ring_tag, ring_text}
use Rattle.key_ring.specs.Making.{ring_made, envelope_made}
use Rattle.key_ring.specs.Saying.{Says}

all-sized : (f : ℕ → List ℕ) → ((i : ℕ) → length (f i) ≡ 32) → (a n : ℕ) → AllByRecursion (λ key. length key ≡ 32) (map f (range_with_len a n))
all-sized f each a zero = tt
all-sized f each a (suc n) = (each a, all-sized f each (a + 1) n)

pub IsRing-made : (seed ident : List ℕ) (size : ℕ) → length ident ≡ 16 → 1 ≤ size → size ≤ 64 → IsRing (ring_made seed ident size)
unfolding ring_made
IsRing-made seed ident size len some few =
    let key : ℕ → List ℕ = λ q. public_key_of seed ident q in
    let count : length (map key (range_with_len 0 size)) ≡ size = length-map-range_with_len key 0 size in
    record { ident = len; some = omega arith; few = omega arith; each = all-sized key (λ q. length-sha256 _) 0 size }

pub text-made : (seed ident : List ℕ) (size : ℕ) → ring_text (ring_made seed ident size) ≡ ring_tag ++ ident ++ to_be_bytes w16 size ++ concat (map (λ q. public_key_of seed ident q) (range_with_len 0 size))
unfolding ring_made
text-made seed ident size =
    let key : ℕ → List ℕ = λ q. public_key_of seed ident q in
    ap (λ (n : ℕ). ring_tag ++ ident ++ to_be_bytes w16 n ++ concat (map key (range_with_len 0 size))) (length-map-range_with_len key 0 size)

pub count-made : (seed ident : List ℕ) (size : ℕ) → length (ring_made seed ident size).keys ≡ size
unfolding ring_made
count-made seed ident size = length-map-range_with_len (λ q. public_key_of seed ident q) 0 size

pub says-made : (seed ident message : List ℕ) (size q : ℕ) → length ident ≡ 16 → size ≤ 64 → q < size →
    Says (envelope_made seed ident size q message) (sha256 (ring_text (ring_made seed ident size))) q message
unfolding ring_made
says-made seed ident message size q len few lt =
    let key : ℕ → List ℕ = λ i. public_key_of seed ident i in
    let count : length (map key (range_with_len 0 size)) ≡ size = length-map-range_with_len key 0 size in
    let there : get_or (map key (range_with_len 0 size)) q [] ≡ key q = get_or-map-range_with_len key 0 size q q [] lt (omega arith) in
    record {
      has = record { ring = ring_made seed ident size; formed = IsRing-made seed ident size len (omega arith) few; spelled = refl };
      account_is = refl;
      q_is = refl;
      key = omega arith;
      message_is = refl;
      signed = subst (λ (k : List ℕ). IsOtsValid ident q k message (signature_of seed ident q message)) (sym there) (signed-valid seed ident message q);
    }
