-- What is read of a holder is spelled, and what is spelled is read.
use Rattle.std.proofs.Common.{◌≡◌, ℕ, Option, Some, None, List, [], ◌∷◌, refl, ap, subst, ◌∙◌}
use Rattle.std.specs.Prelude.{codes}
use Rattle.line_text.specs.Reading.{name_word, number_u32_word}
use Rattle.line_text.proofs.WordReading.{Words, bind_some, some_is, read_end}
use Rattle.house_words.specs.Spelled.{LineWord, Fixed, Named, Number}
use Rattle.house_words.specs.WordKinds.{one_of}
use Rattle.house_words.proofs.WordFronts.{IsFront, AreSpelled, front_spells, end_spells, split, end_of, name_front, name_read, number_front, number_read, one_front, fixed_front}
use Rattle.house_grammar.specs.Holders.{ring_or_tree, size_word, name_conduct_size}
use Rattle.house_grammar.specs.Spelling.{conduct_text, size_value}
use Rattle.house_grammar.specs.declared.holder_line.Conduct.{Conduct}
use Rattle.house_grammar.specs.declared.holder_line.Conduct.TheVariants.{Honest, Deviant}
use Rattle.house_grammar.specs.declared.holder_line.KeySize.{KeySize}
use Rattle.house_grammar.specs.declared.holder_line.KeySize.TheVariants.{Ring, TreeOfHeight5, TreeOfHeight10}

size_front : (ws : Words) (x : KeySize × Words) → size_word ws ≡ Some x → IsFront (size_value x.0) ws x.1
unfolding size_word
size_front ws x e = by_number (number_u32_word ws) refl e
  where
    by_number : (o : Option (Option ℕ × Words)) → number_u32_word ws ≡ o → ring_or_tree o (one_of (codes "t5") TreeOfHeight5 (codes "t6") TreeOfHeight10 ws) ≡ Some x → IsFront (size_value x.0) ws x.1
    by_number (Some n) h f = subst (λ (p : KeySize × Words). IsFront (size_value p.0) ws p.1) (some_is (Ring n.0, n.1) x f) (number_front ws n h)
    by_number None h f = one_front size_value (codes "t5") TreeOfHeight5 (codes "t6") TreeOfHeight10 ws x refl refl f

tree_5 : (rest : Words) → size_word (codes "t5" ∷ rest) ≡ Some (TreeOfHeight5, rest)
unfolding size_word number_u32_word one_of
tree_5 rest = refl

tree_10 : (rest : Words) → size_word (codes "t6" ∷ rest) ≡ Some (TreeOfHeight10, rest)
unfolding size_word number_u32_word one_of
tree_10 rest = refl

size_read : (size : KeySize) (ws rest : Words) → IsFront (size_value size) ws rest → size_word ws ≡ Some (size, rest)
unfolding size_word
size_read (Ring n) ws rest f =
    let read : number_u32_word ws ≡ Some (n, rest) = number_read f in
    rw read refl
size_read TreeOfHeight5 ws rest f = ap size_word (fixed_front f) ∙ tree_5 rest
size_read TreeOfHeight10 ws rest f = ap size_word (fixed_front f) ∙ tree_10 rest

conduct_again : (conduct : Conduct) (rest : Words) → one_of (codes "honest") Honest (codes "deviant") Deviant (conduct_text conduct ∷ rest) ≡ Some (conduct, rest)
unfolding one_of
conduct_again Honest rest = refl
conduct_again Deviant rest = refl

pub name_conduct_size_found : (ws : Words) (x : List ℕ × Conduct × KeySize) → name_conduct_size ws ≡ Some x → AreSpelled (Named x.0 ∷ Fixed (conduct_text x.1) ∷ size_value x.2 ∷ []) ws
unfolding name_conduct_size
name_conduct_size_found ws x e =
    let a = bind_some (name_word ws) _ x e in
    let b = bind_some (one_of (codes "honest") Honest (codes "deviant") Deviant a.0.1) _ x a.2 in
    let c = bind_some (size_word b.0.1) _ x b.2 in
    let z = read_end c.0.1 (a.0.0, b.0.0, c.0.0) x c.2 in
    subst (λ (n : List ℕ × Conduct × KeySize). AreSpelled (Named n.0 ∷ Fixed (conduct_text n.1) ∷ size_value n.2 ∷ []) ws) z.1
    (front_spells (name_front ws a.0 a.1)
    (front_spells (one_front (λ (d : Conduct). Fixed (conduct_text d)) (codes "honest") Honest (codes "deviant") Deviant a.0.1 b.0 refl refl b.1)
    (front_spells (size_front b.0.1 c.0 c.1) (end_spells z.0))))

pub name_conduct_size_read : (name : List ℕ) (conduct : Conduct) (size : KeySize) (ws : Words) → AreSpelled (Named name ∷ Fixed (conduct_text conduct) ∷ size_value size ∷ []) ws → name_conduct_size ws ≡ Some (name, conduct, size)
unfolding name_conduct_size
name_conduct_size_read name conduct size ws s =
    let a = split s in
    let b = split a.behind in
    let c = split b.behind in
    let read : one_of (codes "honest") Honest (codes "deviant") Deviant a.rest ≡ Some (conduct, b.rest) = ap (one_of (codes "honest") Honest (codes "deviant") Deviant) (fixed_front b.front) ∙ conduct_again conduct b.rest in
    rw (name_read a.front, read, size_read size b.rest c.rest c.front, end_of c.behind) refl
