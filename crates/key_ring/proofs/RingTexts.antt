-- The text of a ring is read as that ring, and no other text is.
use Rattle.std.proofs.Common.{◌≡◌, ℕ, zero, suc, ◌+◌, ◌*◌, ◌<◌, ◌≤◌, ◌==◌, ◌||◌, Bool, true, false, cond, ltb, List, [], ◌∷◌, ◌++◌, length, get_or, take, drop, Result, Ok, Err, refl, sym, ap, subst, ◌∙◌, append_assoc, arith, inl, inr, eq-eqb}
use Rattle.std.specs.Int.{w16, to_be_bytes, from_be_bytes}
use Rattle.std.specs.List.{concat}
use Rattle.std.proofs.lemmas.Bool.{cases_Bool, eqb-true, ltb-false, le-ltb}
use Rattle.std.proofs.lemmas.List.{drop_more, take_at, drop_at, take-append-drop, drop-drop, length-take-le, length-drop, length-append}
use Rattle.std.proofs.lemmas.Nat.{from_be_bytes-to_be_bytes_2}
use Rattle.dh_base.specs.Fields.{AreBytes}
use Rattle.dh_base.proofs.Fields.{bind_ok, wide16, AreBytes-take, AreBytes-drop}
use Rattle.ots_core.specs.SignatureText.{elements_of}
use Rattle.ots_core.proofs.SignatureTexts.{concat-elements, elements-concat, elements-sized, length-elements, length-concat-sized, get_or-elements}
use Rattle.key_ring.specs.Rings.{Ring, IsRing, ring_tag, ring_text, shared_len, said_keys, ring_size_of, ring_of}

-- ---- the tag

-- one byte more that is the tag's
pub shared-more : (tag text : List ℕ) (p : ℕ) → p < length tag → p < length text → get_or text p 0 ≡ get_or tag p 0 → shared_len (drop p tag) (drop p text) ≡ suc (shared_len (drop (p + 1) tag) (drop (p + 1) text))
shared-more tag text p in_tag in_text same =
    let test : (get_or tag p 0 == get_or text p 0) ≡ true = eq-eqb _ _ (sym same) in
    rw (drop_more tag p 0 in_tag, drop_more text p 0 in_text, test) refl

shared-front : (tag text : List ℕ) → length tag ≤ shared_len tag text → take (length tag) text ≡ tag
shared-front [] text le = refl
shared-front (t ∷ tag) [] le = absurd (omega arith)
shared-front (t ∷ tag) (b ∷ text) le =
    elim (cases_Bool (t == b)) [
      | inl same ↦
          let more : suc (length tag) ≤ suc (shared_len tag text) = rw same at le in
          let rest = shared-front tag text (omega arith) in
          let head : t ≡ b = eqb-true t b same in
          cc
      | inr other ↦ (let none : suc (length tag) ≤ 0 = rw other at le in absurd (omega arith))
    ]

-- ---- the size

passed : {A F : Type 0} (b : Bool) (d : F) (r : Result A F) (y : A) → cond b (Err d) r ≡ Ok y → (b ≡ false) × (r ≡ Ok y)
passed true d r y e = absurd cc
passed false d r y e = (refl, e)

-- The text has the tag, and that many keys.
pub record HasKeys (text : List ℕ) (size : ℕ) : Type 0 where
  pub tag : take 8 text ≡ ring_tag
  pub size_is : said_keys text ≡ size
  pub some : 1 ≤ size
  pub few : size ≤ 64
  pub whole : length text ≡ 26 + 32 * size

abbrev size_read : ℕ → Result ℕ ℕ
size_read n = Ok n

pub sized : (text : List ℕ) (size : ℕ) → ring_size_of text ≡ Ok size → HasKeys text size
unfolding ring_size_of
sized text size e =
    let first = passed (ltb (shared_len ring_tag text) 8) (shared_len ring_tag text) _ size e in
    let second = passed (ltb (length text) 26) (length text) _ size first.1 in
    let third = passed (said_keys text == 0 || ltb 64 (said_keys text)) 24 _ size second.1 in
    let fourth = passed (ltb (length text) (26 + 32 * said_keys text)) (length text) _ size third.1 in
    let fifth = passed (ltb (26 + 32 * said_keys text) (length text)) (26 + 32 * said_keys text) (size_read (said_keys text)) size fourth.1 in
    let is : said_keys text ≡ size = (let h : size_read (said_keys text) ≡ Ok size = fifth.1 in cc) in
    let shared : 8 ≤ shared_len ring_tag text = ltb-false _ _ first.0 in
    let low : 26 + 32 * said_keys text ≤ length text = ltb-false _ _ fourth.0 in
    let high : length text ≤ 26 + 32 * said_keys text = ltb-false _ _ fifth.0 in
    let range = or_false (said_keys text == 0) (ltb 64 (said_keys text)) third.0 in
    let few : said_keys text ≤ 64 = ltb-false 64 (said_keys text) range.1 in
    let some : 1 ≤ said_keys text = not_zero (said_keys text) range.0 in
    record { tag = shared-front ring_tag text shared; size_is = is; some = omega arith; few = omega arith; whole = omega arith }
  where
    or_false : (a b : Bool) → (a || b) ≡ false → (a ≡ false) × (b ≡ false)
    or_false true b h = absurd cc
    or_false false b h = (refl, h)

    not_zero : (n : ℕ) → (n == 0) ≡ false → 1 ≤ n
    not_zero zero h = absurd cc
    not_zero (suc n) h = omega arith

-- ---- rings

pub length-ring_text : (ring : Ring) → IsRing ring → length (ring_text ring) ≡ 26 + 32 * length ring.keys
length-ring_text ring is =
    omega (arith, length-append (ring_tag ++ ring.ident ++ to_be_bytes w16 (length ring.keys)) (concat ring.keys), length-append (ring_tag ++ ring.ident) (to_be_bytes w16 (length ring.keys)), length-append ring_tag ring.ident, length-concat-sized ring.keys is.each, is.ident)

-- what stands behind the tag, behind the ident and behind the number of keys
behind : (ring : Ring) → IsRing ring →
    (drop 8 (ring_text ring) ≡ ring.ident ++ (to_be_bytes w16 (length ring.keys) ++ concat ring.keys))
    × (drop 24 (ring_text ring) ≡ to_be_bytes w16 (length ring.keys) ++ concat ring.keys)
    × (drop 26 (ring_text ring) ≡ concat ring.keys)
behind ring is =
    let first : drop 8 (ring_text ring) ≡ ring.ident ++ (to_be_bytes w16 (length ring.keys) ++ concat ring.keys) = append_assoc ring.ident (to_be_bytes w16 (length ring.keys)) (concat ring.keys) in
    let second : drop 24 (ring_text ring) ≡ to_be_bytes w16 (length ring.keys) ++ concat ring.keys =
    sym (drop-drop 16 8 (ring_text ring)) ∙ ap (drop 16) first ∙ drop_at ring.ident (to_be_bytes w16 (length ring.keys) ++ concat ring.keys) 16 is.ident in
    (first, second, sym (drop-drop 2 24 (ring_text ring)) ∙ ap (drop 2) second)

pub said-ring_text : (ring : Ring) → IsRing ring → said_keys (ring_text ring) ≡ length ring.keys
said-ring_text ring is =
    ap (λ (t : List ℕ). from_be_bytes w16 (take 2 t)) (behind ring is).1 ∙ from_be_bytes-to_be_bytes_2 (length ring.keys) (omega (arith, is.few))

pub size-ring_text : (ring : Ring) → IsRing ring → ring_size_of (ring_text ring) ≡ Ok (length ring.keys)
unfolding ring_size_of
size-ring_text ring is =
    let said = said-ring_text ring is in
    let whole = length-ring_text ring is in
    let some : (length ring.keys == 0) ≡ false = grind (arith, is.some) in
    let few : ltb 64 (length ring.keys) ≡ false = le-ltb 64 (length ring.keys) is.few in
    let long : ltb (26 + 32 * length ring.keys) 26 ≡ false = le-ltb _ _ (omega arith) in
    let not_cut : ltb (26 + 32 * length ring.keys) (26 + 32 * length ring.keys) ≡ false = le-ltb _ _ (omega arith) in
    rw (said, whole, long, some, few, not_cut) refl

pub ring_of-text : (ring : Ring) → IsRing ring → ring_of (ring_text ring) ≡ Ok ring
ring_of-text ring is =
    let parts = behind ring is in
    let ident : take 16 (drop 8 (ring_text ring)) ≡ ring.ident = ap (take 16) parts.0 ∙ take_at ring.ident (to_be_bytes w16 (length ring.keys) ++ concat ring.keys) 16 is.ident in
    let keys : elements_of (length ring.keys) (drop 26 (ring_text ring)) ≡ ring.keys = ap (elements_of (length ring.keys)) parts.2 ∙ elements-concat ring.keys is.each in
    rw (size-ring_text ring is, ident, keys) refl

-- the ring of a text of that many keys
pub ring_in : ℕ → List ℕ → Ring
ring_in size text = record { ident = take 16 (drop 8 text); keys = elements_of size (drop 26 text) }

pub text-ring_in : (text : List ℕ) (size : ℕ) → AreBytes text → HasKeys text size → IsRing (ring_in size text) × (text ≡ ring_text (ring_in size text))
unfolding ring_in
text-ring_in text size are s =
    let count : length (elements_of size (drop 26 text)) ≡ size = length-elements size (drop 26 text) in
    let long : 32 * size ≤ length (drop 26 text) = omega (arith, length-drop 26 text, s.whole) in
    let is : IsRing (record { ident = take 16 (drop 8 text); keys = elements_of size (drop 26 text) }) = record {
      ident = length-take-le 16 (drop 8 text) (omega (arith, length-drop 8 text, s.whole));
      some = omega (arith, s.some);
      few = omega (arith, s.few);
      each = elements-sized size (drop 26 text) long;
    } in
    let number : to_be_bytes w16 (length (elements_of size (drop 26 text))) ≡ take 2 (drop 24 text) =
    ap (to_be_bytes w16) (count ∙ sym s.size_is) ∙ wide16.back (take 2 (drop 24 text)) (length-take-le 2 (drop 24 text) (omega (arith, length-drop 24 text, s.whole))) (AreBytes-take 2 (drop 24 text) (AreBytes-drop 24 text are)) in
    let keys : concat (elements_of size (drop 26 text)) ≡ drop 26 text = concat-elements size (drop 26 text) (omega (arith, length-drop 26 text, s.whole)) in
    let last : drop 24 text ≡ take 2 (drop 24 text) ++ drop 26 text = sym (take-append-drop 2 (drop 24 text)) ∙ ap (λ (t : List ℕ). take 2 (drop 24 text) ++ t) (drop-drop 2 24 text) in
    let middle : drop 8 text ≡ take 16 (drop 8 text) ++ drop 24 text = sym (take-append-drop 16 (drop 8 text)) ∙ ap (λ (t : List ℕ). take 16 (drop 8 text) ++ t) (drop-drop 16 8 text) in
    let spelled : take 2 (drop 24 text) ++ drop 26 text ≡ to_be_bytes w16 (length (elements_of size (drop 26 text))) ++ concat (elements_of size (drop 26 text)) =
    ap (λ (t : List ℕ). t ++ drop 26 text) (sym number) ∙ ap (λ (t : List ℕ). to_be_bytes w16 (length (elements_of size (drop 26 text))) ++ t) (sym keys) in
    let whole : text ≡ ring_tag ++ (take 16 (drop 8 text) ++ (to_be_bytes w16 (length (elements_of size (drop 26 text))) ++ concat (elements_of size (drop 26 text)))) =
    sym (take-append-drop 8 text) ∙ ap (λ (t : List ℕ). t ++ drop 8 text) s.tag ∙ ap (λ (t : List ℕ). ring_tag ++ t) (middle ∙ ap (λ (t : List ℕ). take 16 (drop 8 text) ++ t) (last ∙ spelled)) in
    (is, whole ∙ ap (λ (t : List ℕ). ring_tag ++ t) (sym (append_assoc (take 16 (drop 8 text)) (to_be_bytes w16 (length (elements_of size (drop 26 text)))) (concat (elements_of size (drop 26 text))))))

abbrev ring_read : Ring → Result Ring ℕ
ring_read ring = Ok ring

pub text-ring_of : (text : List ℕ) (ring : Ring) → AreBytes text → ring_of text ≡ Ok ring → IsRing ring × (text ≡ ring_text ring)
unfolding ring_in
text-ring_of text ring are e =
    let step = bind_ok (ring_size_of text) (λ size. ring_read (record { ident = take 16 (drop 8 text); keys = elements_of size (drop 26 text) })) ring e in
    let same : ring_in step.0 text ≡ ring = (let h : ring_read (ring_in step.0 text) ≡ Ok ring = step.2 in cc) in
    subst (λ (r : Ring). IsRing r × (text ≡ ring_text r)) same (text-ring_in text step.0 are (sized text step.0 step.1))

pub count-in : (size : ℕ) (text : List ℕ) → length (ring_in size text).keys ≡ size
unfolding ring_in
count-in size text = length-elements size (drop 26 text)

pub ident-in : (size : ℕ) (text : List ℕ) → (ring_in size text).ident ≡ take 16 (drop 8 text)
unfolding ring_in
ident-in size text = refl

-- the key of that number
pub key-in : (size : ℕ) (text : List ℕ) (q : ℕ) → q < size → get_or (ring_in size text).keys q [] ≡ take 32 (drop (26 + 32 * q) text)
unfolding ring_in
key-in size text q lt = get_or-elements size (drop 26 text) q lt ∙ ap (take 32) (drop-drop (32 * q) 26 text)
