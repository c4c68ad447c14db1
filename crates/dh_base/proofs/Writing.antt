-- One piece more of what is written.
use Rattle.std.proofs.Common.{◌≡◌, ℕ, zero, suc, ◌+◌, ◌<◌, List, [], ◌∷◌, ◌++◌, length, take, get_or, Some, None, refl, ap, sym, ◌∙◌, add-one, append-nil}
use Rattle.std.specs.declared.fmt.Formatter.{Formatter}
use Rattle.std.specs.Fmt.{HasWritten}
use Rattle.std.specs.List.{flat_map}
use Rattle.std.specs.Prelude.{slice_get}
use Rattle.std.proofs.Output.{has_written_append, has_written_of_eq}
use Rattle.std.proofs.lemmas.List.{take_more, flat_map_more}
use Rattle.dh_base.specs.Spelled.{hex_text, hex_byte}
use Rattle.dh_base.specs.Refusals.{Told, told_text, held_text, refusal_front}

pub hex_more : {W : Type 0} (took : W → List ℕ → W → Type 0) (f g h : Formatter W) (bytes : List ℕ) (i : ℕ) → HasWritten took f (hex_text (take i bytes)) g → i < length bytes → HasWritten took g (hex_byte (get_or bytes i 0)) h → HasWritten took f (hex_text (take (i + 1) bytes)) h
hex_more took f g h bytes i so_far less next =
    let more : hex_text (take i bytes) ++ hex_byte (get_or bytes i 0) ≡ hex_text (take (i + 1) bytes) = flat_map_more hex_byte [] (take i bytes) (get_or bytes i 0) ∙ ap hex_text (sym (take_more bytes i 0 less)) in
    has_written_of_eq took _ _ _ _ more (has_written_append took _ _ _ _ _ so_far next)

take_got : {X : Type 0} (xs : List X) (i : ℕ) (x : X) → Some x ≡ slice_get xs i → take (suc i) xs ≡ take i xs ++ x ∷ []
take_got [] i x e = absurd cc
take_got (y ∷ ys) zero x e = cc
take_got (y ∷ ys) (suc i) x e = ap (λ zs. y ∷ zs) (take_got ys i x e)

take_none : {X : Type 0} (xs : List X) (i : ℕ) → None ≡ slice_get xs i → take (suc i) xs ≡ take i xs
take_none [] zero e = refl
take_none [] (suc i) e = refl
take_none (y ∷ ys) zero e = absurd cc
take_none (y ∷ ys) (suc i) e = ap (λ zs. y ∷ zs) (take_none ys i e)

-- the text of each item, behind a front, with the item at a place written next
pub text_more : {X W : Type 0} (text : X → List ℕ) (took : W → List ℕ → W → Type 0) (f g h : Formatter W) (front : List ℕ) (xs : List X) (i : ℕ) (x : X) → Some x ≡ slice_get xs i → HasWritten took f (front ++ flat_map text (take i xs)) g → HasWritten took g (text x) h → HasWritten took f (front ++ flat_map text (take (i + 1) xs)) h
text_more {X} {W} text took f g h front xs i x there so_far next =
    let more : (front ++ flat_map text (take i xs)) ++ text x ≡ front ++ flat_map text (take (i + 1) xs) = flat_map_more text front (take i xs) x ∙ ap (λ (ys : List X). front ++ flat_map text ys) (sym (rw add-one (take_got xs i x there))) in
    has_written_of_eq took _ _ _ _ more (has_written_append took _ _ _ _ _ so_far next)

-- the same where there is no such item
pub text_none : {X W : Type 0} (text : X → List ℕ) (took : W → List ℕ → W → Type 0) (f g : Formatter W) (front : List ℕ) (xs : List X) (i : ℕ) → None ≡ slice_get xs i → HasWritten took f (front ++ flat_map text (take i xs)) g → HasWritten took f (front ++ flat_map text (take (i + 1) xs)) g
text_none {X} {W} text took f g front xs i none so_far =
    has_written_of_eq took _ _ _ _ (ap (λ (ys : List X). front ++ flat_map text ys) (sym (rw add-one (take_none xs i none)))) so_far

-- ---- the text of a refusal, which grows by one that it holds

pub front_of_none : (n : ℕ) (tolds : List Told) → None ≡ slice_get tolds 0 → [] ≡ refusal_front n tolds
front_of_none n [] e = refl
front_of_none n (own ∷ held) e = absurd cc

pub front_of_own : (tolds : List Told) (own : Told) → Some own ≡ slice_get tolds 0 → told_text own ≡ refusal_front 0 tolds
front_of_own [] own e = absurd cc
front_of_own (first ∷ held) own e =
    let is : own ≡ first = cc in
    ap told_text is ∙ sym (append-nil (told_text first))

pub front_more : {W : Type 0} (took : W → List ℕ → W → Type 0) (f g h : Formatter W) (tolds : List Told) (i : ℕ) (next : Told) → Some next ≡ slice_get tolds (i + 1) → HasWritten took f (refusal_front i tolds) g → HasWritten took g (held_text next) h → HasWritten took f (refusal_front (i + 1) tolds) h
front_more {W} took f g h [] i next there so_far written = absurd cc
front_more {W} took f g h (own ∷ held) i next there so_far written =
    text_more held_text took f g h (told_text own) held i next (rw add-one at there) so_far written

pub front_none : {W : Type 0} (took : W → List ℕ → W → Type 0) (f g : Formatter W) (tolds : List Told) (i : ℕ) → None ≡ slice_get tolds (i + 1) → HasWritten took f (refusal_front i tolds) g → HasWritten took f (refusal_front (i + 1) tolds) g
front_none {W} took f g [] i none so_far = so_far
front_none {W} took f g (own ∷ held) i none so_far =
    text_none held_text took f g (told_text own) held i (rw add-one at none) so_far
