-- How the texts that are not signed become fewer.
use Rattle.std.proofs.Common.{◌≡◌, ℕ, zero, suc, ◌+◌, ◌<◌, ◌≤◌, inl, inr, Bool, true, false, not, cond, List, [], ◌∷◌, ◌++◌, length, slice_get, Some, arith, refl, sym, ap, subst, ◌∙◌}
use Rattle.std.specs.List.{Contains, list_any, sum_by, count_by}
use Rattle.std.specs.Str.{bytes_eq}
use Rattle.std.proofs.lemmas.Bool.{cases_Bool}
use Rattle.std.proofs.lemmas.List.{length-append}
use Rattle.std.proofs.lemmas.List.Sums.{count_by-le-length, sum_by-append}
use Rattle.std.proofs.lemmas.Slice.Eq.{bytes_eq-Decides}
use Rattle.joined_deals.specs.DealTexts.{JoinedTold, texts_of}
use Rattle.joined_deals.specs.Signed.{is_signed, is_unsigned, unsigned_of, unsigned_in}
use Rattle.joined_deals.specs.Agents.{AgentTold, HasKeys, with_deal, with_signed}
use Rattle.joined_deals.proofs.Elements.{any_of, one_of_any, in_front, is_last, sum_le, sum_lt, stands_in}

same_text : (a b : List ℕ) → bytes_eq a b ≡ true → a ≡ b
same_text a b e = (bytes_eq-Decides a b).0 e

pub itself : (a : List ℕ) → bytes_eq a a ≡ true
itself a = (bytes_eq-Decides a a).1 refl

-- ---- what is signed

pub signed_stands : (signed : List (List ℕ)) (text : List ℕ) → is_signed signed text ≡ true → Contains signed text
signed_stands signed text e =
    let there = one_of_any (λ other. bytes_eq other text) signed e in
    subst (λ (t : List ℕ). Contains signed t) (same_text there.0 text there.2) there.1

pub stands_signed : (signed : List (List ℕ)) (text : List ℕ) → Contains signed text → is_signed signed text ≡ true
stands_signed signed text here = any_of (λ other. bytes_eq other text) signed text here (itself text)

pub not_there : (signed : List (List ℕ)) (text : List ℕ) → is_signed signed text ≡ false → Contains signed text → ⊥
not_there signed text fresh here = (let yes : true ≡ false = sym (stands_signed signed text here) ∙ fresh in absurd cc)

pub not_at : (signed : List (List ℕ)) (text : List ℕ) (q : ℕ) → is_signed signed text ≡ false → slice_get signed q ≡ Some text → ⊥
not_at signed text q fresh there = not_there signed text fresh (stands_in signed q text there)

-- ---- one more is signed

still_signed : (signed : List (List ℕ)) (text other : List ℕ) → is_signed signed other ≡ true → is_signed (signed ++ text ∷ []) other ≡ true
still_signed signed text other e = stands_signed (signed ++ text ∷ []) other (in_front signed (text ∷ []) other (signed_stands signed other e))

now_signed : (signed : List (List ℕ)) (text : List ℕ) → is_signed (signed ++ text ∷ []) text ≡ true
now_signed signed text = stands_signed (signed ++ text ∷ []) text (is_last signed text)

abbrev weight : List (List ℕ) → List ℕ → ℕ
weight signed text = cond (is_unsigned signed text) 1 0

less_weight : (signed : List (List ℕ)) (text other : List ℕ) → weight (signed ++ text ∷ []) other ≤ weight signed other
less_weight signed text other = go (is_signed signed other) (is_signed (signed ++ text ∷ []) other) refl refl
  where
    go : (before after : Bool) → is_signed signed other ≡ before → is_signed (signed ++ text ∷ []) other ≡ after → cond (not after) 1 0 ≤ cond (not before) 1 0
    go true true b a = omega arith
    go true false b a = absurd (let e : true ≡ false = sym (still_signed signed text other b) ∙ a in cc)
    go false true b a = omega arith
    go false false b a = omega arith

no_weight : (signed : List (List ℕ)) (text : List ℕ) → is_signed signed text ≡ false → weight (signed ++ text ∷ []) text < weight signed text
no_weight signed text fresh = rw (now_signed signed text, fresh) (omega arith)

fewer_of : (signed : List (List ℕ)) (text : List ℕ) (joined : JoinedTold) → unsigned_of (signed ++ text ∷ []) joined ≤ unsigned_of signed joined
fewer_of signed text joined = sum_le (weight (signed ++ text ∷ [])) (weight signed) (texts_of joined) (less_weight signed text)

one_less : (signed : List (List ℕ)) (text : List ℕ) (joined : JoinedTold) → is_signed signed text ≡ false → Contains (texts_of joined) text → unsigned_of (signed ++ text ∷ []) joined < unsigned_of signed joined
one_less signed text joined fresh here = sum_lt (weight (signed ++ text ∷ [])) (weight signed) (texts_of joined) text (less_weight signed text) here (no_weight signed text fresh)

pub one_less_in : (signed : List (List ℕ)) (text : List ℕ) (deals : List JoinedTold) (joined : JoinedTold) → is_signed signed text ≡ false → Contains deals joined → Contains (texts_of joined) text → unsigned_in (signed ++ text ∷ []) deals < unsigned_in signed deals
one_less_in signed text deals joined fresh within here = sum_lt (unsigned_of (signed ++ text ∷ [])) (unsigned_of signed) deals joined (fewer_of signed text) within (one_less signed text joined fresh here)

-- ---- the keys suffice

pub keys_with_deal : (agent : AgentTold) (joined : JoinedTold) → length agent.signed + unsigned_in agent.signed agent.joined + length (texts_of joined) ≤ agent.size → HasKeys (with_deal agent joined)
keys_with_deal agent joined keys =
    let both = sum_by-append (unsigned_of agent.signed) agent.joined (joined ∷ []) in
    let few = count_by-le-length (is_unsigned agent.signed) (texts_of joined) in
    omega (arith, keys, both, few)

pub keys_with_signed : (agent : AgentTold) (text : List ℕ) (joined : JoinedTold) → HasKeys agent → is_signed agent.signed text ≡ false → Contains agent.joined joined → Contains (texts_of joined) text → HasKeys (with_signed agent text)
keys_with_signed agent text joined keys fresh within here =
    let less = one_less_in agent.signed text agent.joined joined fresh within here in
    let more = length-append agent.signed (text ∷ []) in
    omega (arith, keys, less, more)

-- a text of a joined deal that is not signed has a key
pub has_key : (agent : AgentTold) (text : List ℕ) (joined : JoinedTold) → HasKeys agent → is_signed agent.signed text ≡ false → Contains agent.joined joined → Contains (texts_of joined) text → length agent.signed < agent.size
has_key agent text joined keys fresh within here =
    let less = one_less_in agent.signed text agent.joined joined fresh within here in
    omega (arith, keys, less)
