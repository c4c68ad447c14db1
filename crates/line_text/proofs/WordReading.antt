-- What each reader of a word takes, and that it takes again what was spelled.
use Rattle.std.proofs.Common.{◌≡◌, ℕ, ◌<◌, ◌^◌, ltb, Option, Some, None, List, [], ◌∷◌, refl, sym, ap, subst, ◌∙◌, arith, IsTrue}
use Rattle.std.specs.Fmt.{decimal}
use Rattle.std.proofs.lemmas.Bool.{ltb-true, lt-ltb}
use Rattle.std.proofs.lemmas.Option.{cond_some}
use Rattle.dh_base.specs.Names.{is_name}
use Rattle.dh_base.specs.Spelled.{hex_text}
use Rattle.dh_base.specs.declared.id.Id.{Id}
use Rattle.line_text.specs.Numbers.{number_of, amount_of}
use Rattle.line_text.specs.IdWords.{is_id, bytes_of_hex, id_of, IsId}
use Rattle.line_text.specs.Reading.{◌>>=◌, name_word, amount_word, id_word, ended}
use Rattle.line_text.proofs.Decimals.{number_of-decimal, decimal-number_of}
use Rattle.line_text.proofs.HexWords.{id_again}
use Rattle.line_text.proofs.HexAgain.{bytes_again, id_is}

abbrev pub Words : Type 0
Words = List (List ℕ)

-- the value of a step that gave one
pub bind_some : {A B : Type 0} (o : Option A) (f : A → Option B) (y : B) → (o >>= f) ≡ Some y → (x : A) × (o ≡ Some x) × (f x ≡ Some y)
bind_some None f y e = absurd cc
bind_some (Some x) f y e = (x, refl, e)

pub some_is : {A : Type 0} (x y : A) → Some x ≡ Some y → x ≡ y
some_is x y e = cc

-- one word more in front
pub one_more : (w : List ℕ) (ws rest all : Words) → ws ≡ w ∷ rest → rest ≡ all → ws ≡ w ∷ all
one_more w ws rest all e f = e ∙ ap (λ (v : Words). w ∷ v) f

pub read_end : {A : Type 0} (ws : Words) (x y : A) → ended ws x ≡ Some y → (ws ≡ []) × (x ≡ y)
read_end [] x y e = (refl, some_is x y e)
read_end (w ∷ ws) x y e = absurd cc

-- ---- names

pub name_taken : (ws : Words) (x : List ℕ × Words) → name_word ws ≡ Some x → (ws ≡ x.0 ∷ x.1) × IsTrue (is_name x.0)
unfolding name_word
name_taken [] x e = absurd cc
name_taken (w ∷ ws) x e =
    let c = cond_some (is_name w) (w, ws) x e in
    subst (λ (p : List ℕ × Words). (w ∷ ws ≡ p.0 ∷ p.1) × IsTrue (is_name p.0)) c.1 (refl, c.0)

pub name_again : (name : List ℕ) (rest : Words) → IsTrue (is_name name) → name_word (name ∷ rest) ≡ Some (name, rest)
unfolding name_word
name_again name rest h = rw h refl

-- ---- amounts

pub amount_taken : (ws : Words) (x : ℕ × Words) → amount_word ws ≡ Some x → (ws ≡ decimal x.0 ∷ x.1) × (x.0 < 2 ^ 63)
unfolding amount_word
amount_taken [] x e = absurd cc
amount_taken (w ∷ ws) x e =
    let a = bind_some (number_of w) (λ n. amount_of n >>= λ amount. Some (amount, ws)) x e in
    let b = bind_some (amount_of a.0) (λ amount. Some (amount, ws)) x a.2 in
    let c = cond_some (ltb a.0 (2 ^ 63)) a.0 b.0 b.1 in
    let small : a.0 < 2 ^ 63 = ltb-true a.0 (2 ^ 63) c.0 in
    let word : w ≡ decimal a.0 = decimal-number_of w a.0 a.1 (omega arith) in
    let whole : (a.0, ws) ≡ x = ap (λ n. (n, ws)) c.1 ∙ some_is (b.0, ws) x b.2 in
    subst (λ (p : ℕ × Words). (w ∷ ws ≡ decimal p.0 ∷ p.1) × (p.0 < 2 ^ 63)) whole (ap (λ (v : List ℕ). v ∷ ws) word, small)

pub amount_again : (n : ℕ) (rest : Words) → n < 2 ^ 63 → amount_word (decimal n ∷ rest) ≡ Some (n, rest)
unfolding amount_word
amount_again n rest small = rw (number_of-decimal n (omega arith), lt-ltb n (2 ^ 63) small) refl

-- ---- ids

pub id_taken : (ws : Words) (x : Id × Words) → id_word ws ≡ Some x → ws ≡ hex_text x.0.0 ∷ x.1
unfolding id_word
id_taken [] x e = absurd cc
id_taken (w ∷ ws) x e =
    let a = bind_some (id_of w) (λ id. Some (id, ws)) x e in
    let c = cond_some (is_id w) (record { 0 = bytes_of_hex w }) a.0 a.1 in
    let word : w ≡ hex_text a.0.0 = sym (id_again w c.0) ∙ ap (λ (id : Id). hex_text id.0) c.1 in
    subst (λ (p : Id × Words). w ∷ ws ≡ hex_text p.0.0 ∷ p.1) (some_is (a.0, ws) x a.2) (ap (λ (v : List ℕ). v ∷ ws) word)

pub id_word_again : (id : Id) (rest : Words) → IsId id → id_word (hex_text id.0 ∷ rest) ≡ Some (id, rest)
unfolding id_word
id_word_again id rest h = rw (id_is id h) (ap (λ (bytes : List ℕ). Some (record { 0 = bytes }, rest)) (bytes_again id.0 h.1))
