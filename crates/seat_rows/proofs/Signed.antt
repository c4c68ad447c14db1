-- A search for a text among those that keys have signed.
use Rattle.std.proofs.Common.{◌≡◌, ℕ, zero, suc, ◌+◌, ◌<◌, Bool, true, false, cond, List, [], ◌∷◌, length, drop, slice_get, Option, Some, None, is_some, refl, sym, ap, ◌∙◌, arith}
use Rattle.std.specs.List.{position_from}
use Rattle.std.specs.Str.{bytes_eq}
use Rattle.seat_rows.specs.SeatTexts.{is_text}

drop_here : {X : Type 0} (q : ℕ) (xs : List X) (x : X) → slice_get xs q ≡ Some x → drop q xs ≡ x ∷ drop (q + 1) xs
drop_here q [] x e = absurd cc
drop_here zero (y ∷ xs) x e = let same : y ≡ x = cc in ap (λ first. first ∷ xs) same
drop_here (suc q) (y ∷ xs) x e = drop_here q xs x e ∙ ap (λ (n : ℕ). x ∷ drop n (y ∷ xs)) (let step : suc (q + 1) ≡ suc q + 1 = omega arith in step)

module _ (texts : List (List ℕ)) (text : List ℕ) where
  abbrev search_from : ℕ → Option ℕ
  search_from q = position_from (λ signed. bytes_eq signed text) q (drop q texts)

  search_at : (q : ℕ) (signed : List ℕ) → slice_get texts q ≡ Some signed → search_from q ≡ cond (bytes_eq signed text) (Some q) (search_from (q + 1))
  search_at q signed here = ap (position_from (λ signed. bytes_eq signed text) q) (drop_here q texts signed here)

  pub found_here : (q : ℕ) (o : Option (List ℕ)) → slice_get texts q ≡ o → is_text o text ≡ true → search_from q ≡ Some q
  found_here q None here is = absurd cc
  found_here q (Some signed) here is = search_at q signed here ∙ ap (λ (b : Bool). cond b (Some q) (search_from (q + 1))) is

  pub goes_on : (q : ℕ) (o : Option (List ℕ)) → slice_get texts q ≡ o → is_some o ≡ true → is_text o text ≡ false → search_from (q + 1) ≡ search_from q
  goes_on q None here some is = absurd cc
  goes_on q (Some signed) here some is = sym (search_at q signed here ∙ ap (λ (b : Bool). cond b (Some q) (search_from (q + 1))) is)

pub there_is : (texts : List (List ℕ)) (q : ℕ) → q < length texts → is_some (slice_get texts q) ≡ true
there_is [] q within = absurd (omega arith)
there_is (text ∷ texts) zero within = refl
there_is (text ∷ texts) (suc q) within = there_is texts q (omega arith)
