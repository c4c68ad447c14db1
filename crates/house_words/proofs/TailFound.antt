-- What is read of the words behind a keyword is spelled by them.
use Rattle.std.proofs.Common.{◌≡◌, ℕ, true, cond, Option, Some, None, List, [], ◌∷◌, length, map, refl, sym, ap, subst, ◌∙◌, IsTrue}
use Rattle.std.specs.Prelude.{nat_le, codes}
use Rattle.std.specs.List.{list_all}
use Rattle.std.proofs.lemmas.Bool.{and_parts}
use Rattle.std.proofs.lemmas.Option.{cond_some}
use Rattle.dh_base.specs.Names.{is_name}
use Rattle.dh_base.specs.Spelled.{outcome_text}
use Rattle.dh_base.specs.declared.outcome.Outcome.{Outcome}
use Rattle.dh_base.specs.declared.outcome.Outcome.TheVariants.{Commit, Abort}
use Rattle.line_text.specs.Reading.{◌>>=◌, name_word, amount_word, number_u32_word, ended}
use Rattle.line_text.proofs.WordReading.{Words, bind_some, some_is, read_end}
use Rattle.script_lines.specs.WordLists.{names_only}
use Rattle.house_words.specs.Spelled.{LineWord, Fixed, Named, Number, Amount, SpellWords, named_if_any}
use Rattle.house_words.specs.Tails.{one_name, two_names, three_names, three_names_amount, two_names_number_then, two_names_number, name_number_name, two_names_number_name, three_names_number_outcome, name_two_numbers, names_from, name_if_any}
use Rattle.house_words.specs.WordKinds.{one_of}
use Rattle.house_words.proofs.WordFronts.{AreSpelled, front_spells, end_spells, name_front, amount_front, number_front, one_front}

-- ---- names

pub one_name_found : (ws : Words) (x : List ℕ) → one_name ws ≡ Some x → AreSpelled (Named x ∷ []) ws
unfolding one_name
one_name_found ws x e =
    let a = bind_some (name_word ws) _ x e in
    let z = read_end a.0.1 a.0.0 x a.2 in
    subst (λ (n : List ℕ). AreSpelled (Named n ∷ []) ws) z.1 (front_spells (name_front ws a.0 a.1) (end_spells z.0))

pub two_names_found : (ws : Words) (x : List ℕ × List ℕ) → two_names ws ≡ Some x → AreSpelled (Named x.0 ∷ Named x.1 ∷ []) ws
unfolding two_names
two_names_found ws x e =
    let a = bind_some (name_word ws) _ x e in
    let b = bind_some (name_word a.0.1) _ x a.2 in
    let z = read_end b.0.1 (a.0.0, b.0.0) x b.2 in
    subst (λ (n : List ℕ × List ℕ). AreSpelled (Named n.0 ∷ Named n.1 ∷ []) ws) z.1
    (front_spells (name_front ws a.0 a.1) (front_spells (name_front _ b.0 b.1) (end_spells z.0)))

pub three_names_found : (ws : Words) (x : List ℕ × List ℕ × List ℕ) → three_names ws ≡ Some x → AreSpelled (Named x.0 ∷ Named x.1 ∷ Named x.2 ∷ []) ws
unfolding three_names
three_names_found ws x e =
    let a = bind_some (name_word ws) _ x e in
    let b = bind_some (name_word a.0.1) _ x a.2 in
    let c = bind_some (name_word b.0.1) _ x b.2 in
    let z = read_end c.0.1 (a.0.0, b.0.0, c.0.0) x c.2 in
    subst (λ (n : List ℕ × List ℕ × List ℕ). AreSpelled (Named n.0 ∷ Named n.1 ∷ Named n.2 ∷ []) ws) z.1
    (front_spells (name_front ws a.0 a.1) (front_spells (name_front _ b.0 b.1) (front_spells (name_front _ c.0 c.1) (end_spells z.0))))

-- ---- names with an amount, a number or an outcome

pub three_names_amount_found : (ws : Words) (x : List ℕ × List ℕ × List ℕ × ℕ) → three_names_amount ws ≡ Some x → AreSpelled (Named x.0 ∷ Named x.1 ∷ Named x.2 ∷ Amount x.3 ∷ []) ws
unfolding three_names_amount
three_names_amount_found ws x e =
    let a = bind_some (name_word ws) _ x e in
    let b = bind_some (name_word a.0.1) _ x a.2 in
    let c = bind_some (name_word b.0.1) _ x b.2 in
    let d = bind_some (amount_word c.0.1) _ x c.2 in
    let z = read_end d.0.1 (a.0.0, b.0.0, c.0.0, d.0.0) x d.2 in
    subst (λ (n : List ℕ × List ℕ × List ℕ × ℕ). AreSpelled (Named n.0 ∷ Named n.1 ∷ Named n.2 ∷ Amount n.3 ∷ []) ws) z.1
    (front_spells (name_front ws a.0 a.1) (front_spells (name_front _ b.0 b.1) (front_spells (name_front _ c.0 c.1) (front_spells (amount_front _ d.0 d.1) (end_spells z.0)))))

pub two_names_number_then_found : (ws : Words) (x : (List ℕ × List ℕ × Option ℕ) × Words) → two_names_number_then ws ≡ Some x → (values : List LineWord) → AreSpelled values x.1 → AreSpelled (Named x.0.0 ∷ Named x.0.1 ∷ Number x.0.2 ∷ values) ws
unfolding two_names_number_then
two_names_number_then_found ws x e values =
    let a = bind_some (name_word ws) _ x e in
    let b = bind_some (name_word a.0.1) _ x a.2 in
    let c = bind_some (number_u32_word b.0.1) _ x b.2 in
    subst (λ (n : (List ℕ × List ℕ × Option ℕ) × Words). AreSpelled values n.1 → AreSpelled (Named n.0.0 ∷ Named n.0.1 ∷ Number n.0.2 ∷ values) ws) (some_is ((a.0.0, b.0.0, c.0.0), c.0.1) x c.2)
    (λ behind. front_spells (name_front ws a.0 a.1) (front_spells (name_front _ b.0 b.1) (front_spells (number_front _ c.0 c.1) behind)))

pub two_names_number_found : (ws : Words) (x : List ℕ × List ℕ × Option ℕ) → two_names_number ws ≡ Some x → AreSpelled (Named x.0 ∷ Named x.1 ∷ Number x.2 ∷ []) ws
unfolding two_names_number
two_names_number_found ws x e =
    let a = bind_some (two_names_number_then ws) _ x e in
    let z = read_end a.0.1 a.0.0 x a.2 in
    subst (λ (n : List ℕ × List ℕ × Option ℕ). AreSpelled (Named n.0 ∷ Named n.1 ∷ Number n.2 ∷ []) ws) z.1
    (two_names_number_then_found ws a.0 a.1 [] (end_spells z.0))

pub name_number_name_found : (ws : Words) (x : List ℕ × Option ℕ × List ℕ) → name_number_name ws ≡ Some x → AreSpelled (Named x.0 ∷ Number x.1 ∷ Named x.2 ∷ []) ws
unfolding name_number_name
name_number_name_found ws x e =
    let a = bind_some (name_word ws) _ x e in
    let b = bind_some (number_u32_word a.0.1) _ x a.2 in
    let c = bind_some (name_word b.0.1) _ x b.2 in
    let z = read_end c.0.1 (a.0.0, b.0.0, c.0.0) x c.2 in
    subst (λ (n : List ℕ × Option ℕ × List ℕ). AreSpelled (Named n.0 ∷ Number n.1 ∷ Named n.2 ∷ []) ws) z.1
    (front_spells (name_front ws a.0 a.1) (front_spells (number_front _ b.0 b.1) (front_spells (name_front _ c.0 c.1) (end_spells z.0))))

pub two_names_number_name_found : (ws : Words) (x : List ℕ × List ℕ × Option ℕ × List ℕ) → two_names_number_name ws ≡ Some x → AreSpelled (Named x.0 ∷ Named x.1 ∷ Number x.2 ∷ Named x.3 ∷ []) ws
unfolding two_names_number_name
two_names_number_name_found ws x e =
    let a = bind_some (two_names_number_then ws) _ x e in
    let b = bind_some (name_word a.0.1) _ x a.2 in
    let z = read_end b.0.1 (a.0.0.0, a.0.0.1, a.0.0.2, b.0.0) x b.2 in
    subst (λ (n : List ℕ × List ℕ × Option ℕ × List ℕ). AreSpelled (Named n.0 ∷ Named n.1 ∷ Number n.2 ∷ Named n.3 ∷ []) ws) z.1
    (two_names_number_then_found ws a.0 a.1 _ (front_spells (name_front _ b.0 b.1) (end_spells z.0)))

pub three_names_number_outcome_found : (ws : Words) (x : List ℕ × List ℕ × List ℕ × Option ℕ × Outcome) → three_names_number_outcome ws ≡ Some x → AreSpelled (Named x.0 ∷ Named x.1 ∷ Named x.2 ∷ Number x.3 ∷ Fixed (outcome_text x.4) ∷ []) ws
unfolding three_names_number_outcome
three_names_number_outcome_found ws x e =
    let a = bind_some (name_word ws) _ x e in
    let b = bind_some (name_word a.0.1) _ x a.2 in
    let c = bind_some (name_word b.0.1) _ x b.2 in
    let d = bind_some (number_u32_word c.0.1) _ x c.2 in
    let o = bind_some (one_of (codes "commit") Commit (codes "abort") Abort d.0.1) _ x d.2 in
    let z = read_end o.0.1 (a.0.0, b.0.0, c.0.0, d.0.0, o.0.0) x o.2 in
    subst (λ (n : List ℕ × List ℕ × List ℕ × Option ℕ × Outcome). AreSpelled (Named n.0 ∷ Named n.1 ∷ Named n.2 ∷ Number n.3 ∷ Fixed (outcome_text n.4) ∷ []) ws) z.1
    (front_spells (name_front ws a.0 a.1) (front_spells (name_front _ b.0 b.1) (front_spells (name_front _ c.0 c.1) (front_spells (number_front _ d.0 d.1) (front_spells (one_front (λ (v : Outcome). Fixed (outcome_text v)) (codes "commit") Commit (codes "abort") Abort d.0.1 o.0 refl refl o.1) (end_spells z.0))))))

pub name_two_numbers_found : (ws : Words) (x : (List ℕ × Option ℕ × Option ℕ) × Words) → name_two_numbers ws ≡ Some x → (values : List LineWord) → AreSpelled values x.1 → AreSpelled (Named x.0.0 ∷ Number x.0.1 ∷ Number x.0.2 ∷ values) ws
unfolding name_two_numbers
name_two_numbers_found ws x e values =
    let a = bind_some (name_word ws) _ x e in
    let b = bind_some (number_u32_word a.0.1) _ x a.2 in
    let c = bind_some (number_u32_word b.0.1) _ x b.2 in
    subst (λ (n : (List ℕ × Option ℕ × Option ℕ) × Words). AreSpelled values n.1 → AreSpelled (Named n.0.0 ∷ Number n.0.1 ∷ Number n.0.2 ∷ values) ws) (some_is ((a.0.0, b.0.0, c.0.0), c.0.1) x c.2)
    (λ behind. front_spells (name_front ws a.0 a.1) (front_spells (number_front _ b.0 b.1) (front_spells (number_front _ c.0 c.1) behind)))

-- ---- any number of names

all_named : (ws : Words) → list_all is_name ws ≡ true → SpellWords (map Named ws) ws
all_named [] h = tt
all_named (w ∷ ws) h =
    let parts = and_parts (is_name w) (list_all is_name ws) h in
    ((parts.0, refl), all_named ws parts.1)

pub names_found : (ws names : Words) → names_only ws ≡ Some names → AreSpelled (map Named names) ws
names_found ws names e =
    let c = cond_some (list_all is_name ws) ws names e in
    record { by = subst (λ (ns : Words). SpellWords (map Named ns) ws) c.1 (all_named ws c.0) }

pub names_from_found : (least : ℕ) (ws names : Words) → names_from least ws ≡ Some names → AreSpelled (map Named names) ws × IsTrue (nat_le least (length names))
unfolding names_from
names_from_found least ws names e =
    let a = bind_some (names_only ws) (λ names. cond (nat_le least (length names)) (Some names) None) names e in
    let c = cond_some (nat_le least (length a.0)) a.0 names a.2 in
    subst (λ (ns : Words). AreSpelled (map Named ns) ws × IsTrue (nat_le least (length ns))) c.1 (names_found ws a.0 a.1, c.0)

pub name_if_any_found : (ws : Words) (x : Option (List ℕ)) → name_if_any ws ≡ Some x → AreSpelled (named_if_any x) ws
name_if_any_found [] x e = subst (λ (o : Option (List ℕ)). AreSpelled (named_if_any o) []) (some_is None x e) (end_spells refl)
name_if_any_found (w ∷ ws) x e =
    let a = bind_some (one_name (w ∷ ws)) (λ name. Some (Some name)) x e in
    subst (λ (o : Option (List ℕ)). AreSpelled (named_if_any o) (w ∷ ws)) (some_is (Some a.0) x a.2) (one_name_found (w ∷ ws) a.0 a.1)
