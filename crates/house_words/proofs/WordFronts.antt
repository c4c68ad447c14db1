-- What each reader of a word takes, and that it takes again what was spelled.
use Rattle.std.proofs.Common.{◌≡◌, ℕ, ◌<◌, ◌^◌, Bool, true, false, cond, ltb, Option, Some, None, List, [], ◌∷◌, refl, sym, ap, subst, ◌∙◌, arith}
use Rattle.std.specs.Str.{bytes_eq}
use Rattle.std.proofs.lemmas.Bool.{ltb-true, ltb-false, lt-ltb, le-ltb}
use Rattle.std.proofs.lemmas.Slice.Eq.{bytes_eq-Decides}
use Rattle.line_text.specs.Numbers.{number_of, in_64_bits}
use Rattle.line_text.specs.Reading.{◌>>=◌, name_word, amount_word, number_word, number_u32_word}
use Rattle.line_text.specs.declared.number.Number.{Number}
use Rattle.line_text.specs.declared.number.Number.TheVariants.{Fits, Exceeds}
use Rattle.line_text.proofs.Decimals.{number_of-decimal, decimal-number_of}
use Rattle.line_text.proofs.WordReading.{Words, bind_some, some_is, name_taken, name_again, amount_taken, amount_again}
use Rattle.script_lines.proofs.NumberWords.{number_taken, number_again}
use Rattle.house_words.specs.Spelled.{LineWord, Fixed, Named, Number as Number32, LongNumber, Amount, SpellsLongNumber, SpellsWord, SpellWords}
use Rattle.house_words.specs.WordKinds.{one_of, in_u64, number_u64_word}

-- the first of the words spells the value, and these are the words behind it
pub record IsFront (value : LineWord) (ws rest : Words) : Type 0 where
  pub word : List ℕ
  pub words : ws ≡ word ∷ rest
  pub spells : SpellsWord value word

-- the words spell the values
pub record AreSpelled (values : List LineWord) (ws : Words) : Type 0 where
  pub by : SpellWords values ws

pub front_spells : {value : LineWord} {values : List LineWord} {ws rest : Words} → IsFront value ws rest → AreSpelled values rest → AreSpelled (value ∷ values) ws
front_spells {value = value} {values = values} f s = record { by = subst (SpellWords (value ∷ values)) (sym f.words) (f.spells, s.by) }

pub end_spells : {ws : Words} → ws ≡ [] → AreSpelled [] ws
end_spells e = record { by = subst (SpellWords []) (sym e) tt }

-- the words behind the first, of words that spell values
pub record IsSplit (value : LineWord) (values : List LineWord) (ws : Words) : Type 0 where
  pub rest : Words
  pub front : IsFront value ws rest
  pub behind : AreSpelled values rest

split_words : (value : LineWord) (values : List LineWord) (ws : Words) → SpellWords (value ∷ values) ws → IsSplit value values ws
split_words value values [] s = absurd s
split_words value values (w ∷ ws) s = record { rest = ws; front = record { word = w; words = refl; spells = s.0 }; behind = record { by = s.1 } }

pub split : {value : LineWord} {values : List LineWord} {ws : Words} → AreSpelled (value ∷ values) ws → IsSplit value values ws
split {value = value} {values = values} {ws = ws} s = split_words value values ws s.by

no_words : (ws : Words) → SpellWords [] ws → ws ≡ []
no_words [] s = refl
no_words (w ∷ ws) s = absurd s

pub end_of : {ws : Words} → AreSpelled [] ws → ws ≡ []
end_of {ws = ws} s = no_words ws s.by

-- ---- names, amounts, numbers of 32 bits

pub name_front : (ws : Words) (x : List ℕ × Words) → name_word ws ≡ Some x → IsFront (Named x.0) ws x.1
name_front ws x e =
    let t = name_taken ws x e in
    record { word = x.0; words = t.0; spells = (t.1, refl) }

pub name_read : {name : List ℕ} {ws rest : Words} → IsFront (Named name) ws rest → name_word ws ≡ Some (name, rest)
name_read {name = name} {rest = rest} f = ap name_word (f.words ∙ ap (λ (w : List ℕ). w ∷ rest) f.spells.1) ∙ name_again name rest f.spells.0

pub amount_front : (ws : Words) (x : ℕ × Words) → amount_word ws ≡ Some x → IsFront (Amount x.0) ws x.1
amount_front ws x e =
    let t = amount_taken ws x e in
    record { word = _; words = t.0; spells = (t.1, refl) }

pub amount_read : {amount : ℕ} {ws rest : Words} → IsFront (Amount amount) ws rest → amount_word ws ≡ Some (amount, rest)
amount_read {amount = amount} {rest = rest} f = ap amount_word (f.words ∙ ap (λ (w : List ℕ). w ∷ rest) f.spells.1) ∙ amount_again amount rest f.spells.0

pub number_front : (ws : Words) (x : Option ℕ × Words) → number_u32_word ws ≡ Some x → IsFront (Number32 x.0) ws x.1
number_front ws x e =
    let t = number_taken ws x e in
    record { word = t.0; words = t.1; spells = t.2 }

pub number_read : {number : Option ℕ} {ws rest : Words} → IsFront (Number32 number) ws rest → number_u32_word ws ≡ Some (number, rest)
number_read {number = number} {rest = rest} f = ap number_u32_word f.words ∙ number_again number f.word rest f.spells

-- ---- numbers of 64 bits

long_spells : (w : List ℕ) (n : ℕ) → number_of w ≡ Some n → SpellsLongNumber (in_u64 (in_64_bits n)) w
long_spells w n e = by_size (ltb n (2 ^ 64)) refl
  where
    by_size : (b : Bool) → ltb n (2 ^ 64) ≡ b → SpellsLongNumber (in_u64 (cond b (Fits n) Exceeds)) w
    by_size true h =
        let small : n < 2 ^ 64 = ltb-true n (2 ^ 64) h in
        (small, decimal-number_of w n e small)
    by_size false h = (n, ltb-false n (2 ^ 64) h, e)

pub long_front : (ws : Words) (x : Option ℕ × Words) → number_u64_word ws ≡ Some x → IsFront (LongNumber x.0) ws x.1
unfolding number_u64_word number_word
long_front [] x e = absurd cc
long_front (w ∷ ws) x e =
    let b = bind_some (number_of w >>= λ n. Some (in_64_bits n, ws)) (λ (number : Number × Words). Some (in_u64 number.0, number.1)) x e in
    let a = bind_some (number_of w) (λ n. Some (in_64_bits n, ws)) b.0 b.1 in
    let inner : (in_64_bits a.0, ws) ≡ b.0 = some_is (in_64_bits a.0, ws) b.0 a.2 in
    let outer : (in_u64 b.0.0, b.0.1) ≡ x = some_is (in_u64 b.0.0, b.0.1) x b.2 in
    let whole : (in_u64 (in_64_bits a.0), ws) ≡ x = ap (λ (p : Number × Words). (in_u64 p.0, p.1)) inner ∙ outer in
    subst (λ (p : Option ℕ × Words). IsFront (LongNumber p.0) (w ∷ ws) p.1) whole (record { word = w; words = refl; spells = long_spells w a.0 a.1 })

long_again : (o : Option ℕ) (w : List ℕ) (rest : Words) → SpellsLongNumber o w → number_u64_word (w ∷ rest) ≡ Some (o, rest)
unfolding number_u64_word number_word
long_again None w rest h = rw (h.2, le-ltb h.0 (2 ^ 64) h.1) refl
long_again (Some n) w rest h =
    let read : number_of w ≡ Some n = ap number_of h.1 ∙ number_of-decimal n h.0 in
    rw (read, lt-ltb n (2 ^ 64) h.0) refl

pub long_read : {number : Option ℕ} {ws rest : Words} → IsFront (LongNumber number) ws rest → number_u64_word ws ≡ Some (number, rest)
long_read {number = number} {rest = rest} f = ap number_u64_word f.words ∙ long_again number f.word rest f.spells

-- ---- one of two texts

spelled_one : {A : Type 0} (value : A → LineWord) (text : List ℕ) (x : A) (w : List ℕ) (ws : Words) (r : A × Words) → value x ≡ Fixed text → bytes_eq w text ≡ true → Some (x, ws) ≡ Some r → IsFront (value r.0) (w ∷ ws) r.1
spelled_one {A = A} value text x w ws r is h e =
    let front : IsFront (Fixed text) (w ∷ ws) ws = record { word = w; words = refl; spells = (bytes_eq-Decides w text).0 h } in
    subst (λ (p : A × Words). IsFront (value p.0) (w ∷ ws) p.1) (some_is (x, ws) r e) (subst (λ (v : LineWord). IsFront v (w ∷ ws) ws) (sym is) front)

pub one_front : {A : Type 0} (value : A → LineWord) (text : List ℕ) (x : A) (other : List ℕ) (y : A) (ws : Words) (r : A × Words) → value x ≡ Fixed text → value y ≡ Fixed other → one_of text x other y ws ≡ Some r → IsFront (value r.0) ws r.1
unfolding one_of
one_front value text x other y [] r is also e = absurd cc
one_front value text x other y (w ∷ ws) r is also e = by_first (bytes_eq w text) refl e
  where
    by_second : (b : Bool) → bytes_eq w other ≡ b → cond b (Some (y, ws)) None ≡ Some r → IsFront (value r.0) (w ∷ ws) r.1
    by_second true h e = spelled_one value other y w ws r also h e
    by_second false h e = absurd cc

    by_first : (b : Bool) → bytes_eq w text ≡ b → cond b (Some (x, ws)) (cond (bytes_eq w other) (Some (y, ws)) None) ≡ Some r → IsFront (value r.0) (w ∷ ws) r.1
    by_first true h e = spelled_one value text x w ws r is h e
    by_first false h e = by_second (bytes_eq w other) refl e

pub fixed_front : {text : List ℕ} {ws rest : Words} → IsFront (Fixed text) ws rest → ws ≡ text ∷ rest
fixed_front {rest = rest} f = f.words ∙ ap (λ (w : List ℕ). w ∷ rest) f.spells

-- ---- what stands behind a text, and what is made of it

pub fixed_spells : (text : List ℕ) {values : List LineWord} {ws : Words} → AreSpelled values ws → AreSpelled (Fixed text ∷ values) (text ∷ ws)
fixed_spells text s = record { by = (refl, s.by) }

pub made : {X Y : Type 0} (P : Y → Type 0) (make : X → Y) (o : Option X) (y : Y) → ((x : X) → o ≡ Some x → P (make x)) → (o >>= λ x. Some (make x)) ≡ Some y → P y
made P make o y found e =
    let a = bind_some o (λ x. Some (make x)) y e in
    subst P (some_is (make a.0) y a.2) (found a.0 a.1)
