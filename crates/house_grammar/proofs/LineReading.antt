-- A line and what it says.
use Rattle.std.proofs.Common.{◌≡◌, ◌≢◌, ℕ, true, Bool, false, cond, Option, Some, None, List, [], ◌∷◌, refl, sym, ap, subst, ◌∙◌, IsTrue}
use Rattle.std.specs.Prelude.{codes, option_map}
use Rattle.std.specs.Str.{bytes_eq}
use Rattle.std.proofs.lemmas.Slice.Eq.{bytes_eq-Decides}
use Rattle.line_text.specs.Bytes.{lacks}
use Rattle.line_text.specs.Reading.{ended}
use Rattle.line_text.specs.Words.{words_of}
use Rattle.line_text.proofs.Joining.{words_of-spelled, spelled-words_of}
use Rattle.line_text.proofs.Plain.{lacks-spelled_words}
use Rattle.line_text.proofs.PlainWords.{AllPlain, no_spaces, no_feeds}
use Rattle.line_text.proofs.WordReading.{Words, some_is, read_end}
use Rattle.house_words.specs.Keywords.{declaration_keyword, building_keyword, event_keyword}
use Rattle.house_words.specs.Spelled.{Fixed}
use Rattle.house_words.proofs.KeywordTexts.{declaration_is, building_is, event_is}
use Rattle.house_words.proofs.PlainValues.{values_plain}
use Rattle.house_words.proofs.WordFronts.{AreSpelled, split, end_of, end_spells, fixed_spells, fixed_front}
use Rattle.house_words.specs.declared.keyword.DeclarationKeyword.{DeclarationKeyword}
use Rattle.house_words.specs.declared.keyword.BuildingKeyword.{BuildingKeyword}
use Rattle.house_words.specs.declared.keyword.EventKeyword.{EventKeyword}
use Rattle.house_grammar.specs.Said.{bare_line, by_keyword, line_of_words, line_said}
use Rattle.house_grammar.specs.SaidDeclarations.{declaration_after}
use Rattle.house_grammar.specs.SaidBuildings.{building_after}
use Rattle.house_grammar.specs.SaidEvents.{event_after}
use Rattle.house_grammar.specs.Spelling.{declaration_words, building_words, event_words, line_words, has_enough, SpellsLine}
use Rattle.house_grammar.specs.declared.house_line.HouseLine.{HouseLine}
use Rattle.house_grammar.specs.declared.house_line.HouseLine.TheVariants.{House, Declare, Begin, Build, Happen}
use Rattle.house_grammar.proofs.DeclarationReading.{declaration_found, declaration_read}
use Rattle.house_grammar.proofs.BuildingReading.{building_found, building_read}
use Rattle.house_grammar.proofs.EventReading.{event_found, event_read}
use Rattle.house_grammar.proofs.PlainLines.{line_plain}

-- the words say the line
abbrev Says : HouseLine → Words → Type 0
Says line words = IsTrue (has_enough line) × AreSpelled (line_words line) words

-- ---- what is read

mapped : {A B : Type 0} (make : A → B) (o : Option A) (y : B) → option_map make o ≡ Some y → (x : A) × (o ≡ Some x) × (make x ≡ y)
mapped make None y e = absurd cc
mapped make (Some x) y e = (x, refl, some_is (make x) y e)

keyed : {K A : Type 0} (P : A → Type 0) (o : Option K) (read : K → Option A) (other : Option A) (x : A) → ((k : K) → o ≡ Some k → read k ≡ Some x → P x) → (other ≡ Some x → P x) → by_keyword o read other ≡ Some x → P x
keyed P (Some k) read other x f g e = f k refl e
keyed P None read other x f g e = g e

declared : (w : List ℕ) (ws : Words) (line : HouseLine) (k : DeclarationKeyword) → declaration_keyword w ≡ Some k → option_map Declare (declaration_after k ws) ≡ Some line → Says line (w ∷ ws)
declared w ws line k is e =
    let m = mapped Declare (declaration_after k ws) line e in
    let found = declaration_found k ws m.0 m.1 in
    subst (λ (l : HouseLine). Says l (w ∷ ws)) m.2 (found.0, subst (λ (v : List ℕ). AreSpelled (declaration_words m.0) (v ∷ ws)) (sym (declaration_is w k is)) found.1)

built : (w : List ℕ) (ws : Words) (line : HouseLine) (k : BuildingKeyword) → building_keyword w ≡ Some k → option_map Build (building_after k ws) ≡ Some line → Says line (w ∷ ws)
built w ws line k is e =
    let m = mapped Build (building_after k ws) line e in
    subst (λ (l : HouseLine). Says l (w ∷ ws)) m.2 (refl, subst (λ (v : List ℕ). AreSpelled (building_words m.0) (v ∷ ws)) (sym (building_is w k is)) (building_found k ws m.0 m.1))

happened : (w : List ℕ) (ws : Words) (line : HouseLine) (k : EventKeyword) → event_keyword w ≡ Some k → option_map Happen (event_after k ws) ≡ Some line → Says line (w ∷ ws)
happened w ws line k is e =
    let m = mapped Happen (event_after k ws) line e in
    subst (λ (l : HouseLine). Says l (w ∷ ws)) m.2 (refl, subst (λ (v : List ℕ). AreSpelled (event_words m.0) (v ∷ ws)) (sym (event_is w k is)) (event_found k ws m.0 m.1))

bare_says : (w text : List ℕ) (ws : Words) (bare line : HouseLine) → bytes_eq w text ≡ true → Says bare (text ∷ []) → ended ws bare ≡ Some line → Says line (w ∷ ws)
bare_says w text ws bare line h says e =
    let z = read_end ws bare line e in
    let same : text ∷ [] ≡ w ∷ ws = ap (λ (v : List ℕ). v ∷ []) (sym ((bytes_eq-Decides w text).0 h)) ∙ ap (λ (v : Words). w ∷ v) (sym z.0) in
    subst (λ (l : HouseLine). Says l (w ∷ ws)) z.1 (subst (λ (v : Words). Says bare v) same says)

bare_found : (w : List ℕ) (ws : Words) (line : HouseLine) → bare_line w ws ≡ Some line → Says line (w ∷ ws)
bare_found w ws line e = by_house (bytes_eq w (codes "house")) refl e
  where
    by_begin : (b : Bool) → bytes_eq w (codes "begin") ≡ b → cond b (ended ws Begin) None ≡ Some line → Says line (w ∷ ws)
    by_begin true h e = bare_says w (codes "begin") ws Begin line h (refl, fixed_spells (codes "begin") (end_spells refl)) e
    by_begin false h e = absurd cc

    by_house : (b : Bool) → bytes_eq w (codes "house") ≡ b → cond b (ended ws House) (cond (bytes_eq w (codes "begin")) (ended ws Begin) None) ≡ Some line → Says line (w ∷ ws)
    by_house true h e = bare_says w (codes "house") ws House line h (refl, fixed_spells (codes "house") (end_spells refl)) e
    by_house false h e = by_begin (bytes_eq w (codes "begin")) refl e

words_found : (words : Words) (line : HouseLine) → line_of_words words ≡ Some line → Says line words
unfolding line_of_words
words_found [] line e = absurd cc
words_found (w ∷ ws) line e =
    let P : HouseLine → Type 0 = λ l. Says l (w ∷ ws) in
    keyed P (declaration_keyword w) _ _ line (declared w ws line)
    (λ rest. keyed P (building_keyword w) _ _ line (built w ws line)
    (λ rest. keyed P (event_keyword w) _ _ line (happened w ws line) (bare_found w ws line) rest) rest) e

-- ---- what is spelled

house_front : line_of_words (codes "house" ∷ []) ≡ Some House
unfolding line_of_words declaration_keyword building_keyword event_keyword
house_front = refl

begin_front : line_of_words (codes "begin" ∷ []) ≡ Some Begin
unfolding line_of_words declaration_keyword building_keyword event_keyword
begin_front = refl

words_read : (line : HouseLine) (words : Words) → Says line words → line_of_words words ≡ Some line
words_read House words h =
    let a = split h.1 in
    ap line_of_words (fixed_front a.front ∙ ap (λ (v : Words). codes "house" ∷ v) (end_of a.behind)) ∙ house_front
words_read (Declare d) words h = declaration_read d words h
words_read Begin words h =
    let a = split h.1 in
    ap line_of_words (fixed_front a.front ∙ ap (λ (v : Words). codes "begin" ∷ v) (end_of a.behind)) ∙ begin_front
words_read (Build b) words h = building_read b words h.1
words_read (Happen e) words h = event_read e words h.1

no_line : (line : HouseLine) → line_of_words [] ≡ Some line → ⊥
unfolding line_of_words
no_line line e = absurd cc

-- a line has a word
some_words : (line : HouseLine) (words : Words) → Says line words → words ≢ []
some_words line words h none = no_line line (ap line_of_words (sym none) ∙ words_read line words h)

-- ---- the two ways

says_plain : (line : HouseLine) (words : Words) → Says line words → AllPlain words
says_plain line words h = values_plain (line_words line) words (line_plain line) h.1.by

pub line_only : (line : HouseLine) (text : List ℕ) → SpellsLine line text → line_said text ≡ Some line
line_only line text h =
    let says : Says line h.words = (h.enough, record { by = h.spelled }) in
    let words : words_of text ≡ h.words = ap words_of h.text_is ∙ words_of-spelled h.words (some_words line h.words says) (no_spaces h.words (says_plain line h.words says)) in
    ap line_of_words words ∙ words_read line h.words says

pub line_found : (text : List ℕ) (line : HouseLine) → line_said text ≡ Some line → SpellsLine line text
line_found text line e =
    let says = words_found (words_of text) line e in
    record { enough = says.0; words = words_of text; spelled = says.1.by; text_is = sym (spelled-words_of text) }

pub line_lacks : (line : HouseLine) (text : List ℕ) → SpellsLine line text → IsTrue (lacks 10 text)
line_lacks line text h =
    let says : Says line h.words = (h.enough, record { by = h.spelled }) in
    subst (λ (l : List ℕ). IsTrue (lacks 10 l)) (sym h.text_is) (lacks-spelled_words h.words (no_feeds h.words (says_plain line h.words says)))
