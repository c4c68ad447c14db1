-- What is read of a text is spelled by it.
use Rattle.std.proofs.Common.{◌≡◌, ℕ, ◌+◌, ◌≤◌, Bool, true, false, cond, not, ◌&&◌, map, ◌⊎◌, inl, inr, Option, Some, None, List, [], ◌∷◌, ◌++◌, length, Result, Ok, Err, arith, append_assoc, refl, sym, ap, subst, ◌∙◌}
use Rattle.std.specs.Prelude.{codes, is_some}
use Rattle.std.specs.Fmt.{decimal}
use Rattle.std.proofs.lemmas.Bool.{leb-true, and_parts, not-false, not-true}
use Rattle.std.proofs.lemmas.List.{append-nil}
use Rattle.std.proofs.lemmas.List.Concat.{flat_map-append}
use Rattle.dh_base.specs.Spelled.{hex_text}
use Rattle.dh_base.specs.declared.id.Id.{Id}
use Rattle.line_text.specs.Lines.{Line, lines_of, line_bytes, joined_lines, spelled_lines}
use Rattle.line_text.specs.Words.{words_of, spelled_words}
use Rattle.deal_core.specs.DealText.{party_name, party_words, step_words}
use Rattle.deal_core.specs.Said.{said_by, said_of_words}
use Rattle.deal_core.specs.Drafts.{Draft, no_lines, is_empty, said_fault, step_fault, index_in, with_indices, with_line, line_fault, after_line, is_whole, whole, unless, lines_in, reading_behind, reading_of}
use Rattle.deal_core.specs.Reading.{IsWholeText}
use Rattle.deal_core.specs.declared.party.Party.{Party}
use Rattle.deal_core.specs.declared.step.Step.{Step}
use Rattle.deal_core.specs.declared.deal_line.NamedStep.{NamedStep}
use Rattle.deal_core.specs.declared.deal_line.DealLine.{DealLine}
use Rattle.deal_core.specs.declared.deal_line.DealLine.TheVariants as line
use Rattle.deal_core.specs.declared.deal_fault.DealFault.{DealFault}
use Rattle.deal_core.specs.declared.deal_fault.DealFault.TheVariants.{BadLine}
use Rattle.deal_core.proofs.Drafting.{good_step, name_found}
use Rattle.line_text.proofs.Faults.{unbroken}
use Rattle.line_text.proofs.Joining.{joined-lines_of, spelled-words_of}
use Rattle.line_text.proofs.WordReading.{Words}
use Rattle.deal_core.proofs.SaidReading.{said_words, words_found}

-- ---- the lines of a draft

abbrev head_words : Option (List ℕ) → List Words
head_words None = []
head_words (Some name) = (codes "deal" ∷ name ∷ []) ∷ []

abbrev house_words : Option Id → List Words
house_words None = []
house_words (Some house) = (codes "house" ∷ hex_text house.0 ∷ []) ∷ []

abbrev body_words : List Party → List Step → List Words
body_words parties steps = map party_words parties ++ map (step_words parties) steps

abbrev pub draft_words : Draft → List Words
draft_words draft = head_words draft.name ++ (house_words draft.house ++ body_words draft.parties draft.steps)

abbrev pub draft_text : Draft → List ℕ
draft_text draft = spelled_lines (map spelled_words (draft_words draft))

-- the lines stand in their order
abbrev Stand : Option (List ℕ) → Option Id → List Party → List Step → Type 0
Stand None house parties steps = (house ≡ None) × (parties ≡ []) × (steps ≡ [])
Stand (Some name) None parties steps = (parties ≡ []) × (steps ≡ [])
Stand (Some name) (Some house) parties steps = (steps ≡ []) ⊎ (2 ≤ length parties)

abbrev pub IsOrdered : Draft → Type 0
IsOrdered draft = Stand draft.name draft.house draft.parties draft.steps

-- ---- one line more

record IsLonger (draft : Draft) (said : DealLine) : Type 0 where
  ordered : IsOrdered (with_line draft said)
  words : draft_words (with_line draft said) ≡ draft_words draft ++ said_words said ∷ []

empty_is : {X : Type 0} (xs : List X) → is_empty xs ≡ true → xs ≡ []
empty_is [] h = refl
empty_is (x ∷ xs) h = absurd cc

map_push : {X Y : Type 0} (f : X → Y) (xs : List X) (x : X) → map f (xs ++ x ∷ []) ≡ map f xs ++ f x ∷ []
map_push f [] x = refl
map_push f (y ∷ ys) x = ap (λ (zs : List _). f y ∷ zs) (map_push f ys x)

deal_longer : (draft : Draft) (name : List ℕ) → IsOrdered draft → is_some draft.name ≡ false → IsLonger draft (line.Deal name)
deal_longer draft name h none = by_name draft.name draft.house draft.parties draft.steps h none
  where
    by_name : (n : Option (List ℕ)) (house : Option Id) (parties : List Party) (steps : List Step) → Stand n house parties steps → is_some n ≡ false → IsLonger (record { name = n; house = house; parties = parties; steps = steps }) (line.Deal name)
    by_name None house parties steps h none = rw (h.0, h.1, h.2) (record { ordered = (refl, refl); words = refl })
    by_name (Some n) house parties steps h none = absurd cc

house_longer : (draft : Draft) (house : Id) → IsOrdered draft → is_some draft.name ≡ true → is_some draft.house ≡ false → IsLonger draft (line.House house)
house_longer draft house h named none = by_house draft.name draft.house draft.parties draft.steps h named none
  where
    by_house : (n : Option (List ℕ)) (o : Option Id) (parties : List Party) (steps : List Step) → Stand n o parties steps → is_some n ≡ true → is_some o ≡ false → IsLonger (record { name = n; house = o; parties = parties; steps = steps }) (line.House house)
    by_house None o parties steps h named none = absurd cc
    by_house (Some n) (Some o) parties steps h named none = absurd cc
    by_house (Some n) None parties steps h named none = rw (h.0, h.1) (record { ordered = inl refl; words = refl })

party_longer : (draft : Draft) (party : Party) → IsOrdered draft → is_some draft.house ≡ true → draft.steps ≡ [] → IsLonger draft (line.Party party)
party_longer draft party h housed none = by_house draft.name draft.house draft.parties draft.steps h housed none
  where
    by_house : (n : Option (List ℕ)) (o : Option Id) (parties : List Party) (steps : List Step) → Stand n o parties steps → is_some o ≡ true → steps ≡ [] → IsLonger (record { name = n; house = o; parties = parties; steps = steps }) (line.Party party)
    by_house None o parties steps h housed none = absurd (let e : is_some o ≡ false = ap is_some h.0 in cc)
    by_house (Some n) None parties steps h housed none = absurd cc
    by_house (Some n) (Some o) parties steps h housed none =
        rw none (record {
          ordered = inl refl;
          words = ap (λ (ws : List Words). head_words (Some n) ++ (house_words (Some o) ++ ws)) (append-nil (map party_words (parties ++ party ∷ [])) ∙ (map_push party_words parties party ∙ ap (λ (ws : List Words). ws ++ party_words party ∷ []) (sym (append-nil (map party_words parties)))));
        })

step_longer : (n : ℕ) (draft : Draft) (step : NamedStep) → IsOrdered draft → 2 ≤ length draft.parties → step_fault n draft.parties draft.steps step ≡ None → IsLonger draft (line.Step step)
step_longer n draft step h enough none = by_house draft.name draft.house draft.parties draft.steps h enough none
  where
    by_house : (m : Option (List ℕ)) (o : Option Id) (parties : List Party) (steps : List Step) → Stand m o parties steps → 2 ≤ length parties → step_fault n parties steps step ≡ None → IsLonger (record { name = m; house = o; parties = parties; steps = steps }) (line.Step step)
    by_house None o parties steps h enough none = absurd (omega (arith, enough, ap length h.1))
    by_house (Some m) None parties steps h enough none = absurd (omega (arith, enough, ap length h.0))
    by_house (Some m) (Some o) parties steps h enough none =
        let good = good_step n parties steps step none in
        let from = name_found parties step.from good.from in
        let to = name_found parties step.to good.to in
        let here : step_words parties (with_indices parties step) ≡ said_words (line.Step step) =
        ap (λ (f : List ℕ). codes "step" ∷ f ∷ party_name parties (index_in parties step.to) ∷ step.ledger ∷ step.asset ∷ decimal step.amount ∷ []) from.1 ∙ ap (λ (t : List ℕ). codes "step" ∷ step.from ∷ t ∷ step.ledger ∷ step.asset ∷ decimal step.amount ∷ []) to.1 in
        let body : body_words parties (steps ++ with_indices parties step ∷ []) ≡ body_words parties steps ++ said_words (line.Step step) ∷ [] =
        ap (λ (ws : List Words). map party_words parties ++ ws) (map_push (step_words parties) steps (with_indices parties step) ∙ ap (λ (w : Words). map (step_words parties) steps ++ w ∷ []) here) ∙ sym (append_assoc (map party_words parties) (map (step_words parties) steps) (said_words (line.Step step) ∷ [])) in
        record {
          ordered = inr enough;
          words = ap (λ (ws : List Words). head_words (Some m) ++ (house_words (Some o) ++ ws)) body;
        }

said_longer : (draft : Draft) (said : DealLine) → IsOrdered draft → said_fault draft (Some said) ≡ None → IsLonger draft said
said_longer draft (line.Deal name) h none =
    let a = unbroken _ _ _ none in
    deal_longer draft name h (not-true (is_some draft.name) (not-false _ a.0))
said_longer draft (line.House house) h none =
    let a = unbroken _ _ _ none in
    let b = and_parts _ _ (not-false _ a.0) in
    house_longer draft house h b.0 (not-true (is_some draft.house) b.1)
said_longer draft (line.Party party) h none =
    let a = unbroken _ _ _ none in
    let b = and_parts _ _ (not-false _ a.0) in
    party_longer draft party h b.0 (empty_is draft.steps b.1)
said_longer draft (line.Step step) h none =
    let a = unbroken _ _ _ none in
    step_longer _ draft step h (leb-true 2 (length draft.parties) (not-false _ a.0)) a.1

-- ---- all lines

abbrev line_text : Words → List ℕ
line_text words = spelled_words words ++ 10 ∷ []

text_longer : (draft : Draft) (said : DealLine) → IsLonger draft said → draft_text (with_line draft said) ≡ draft_text draft ++ line_text (said_words said)
text_longer draft said h =
    let lines : map spelled_words (draft_words (with_line draft said)) ≡ map spelled_words (draft_words draft) ++ spelled_words (said_words said) ∷ [] = ap (map spelled_words) h.words ∙ map_push spelled_words (draft_words draft) (said_words said) in
    ap spelled_lines lines ∙ (flat_map-append (λ (line : List ℕ). line ++ 10 ∷ []) (map spelled_words (draft_words draft)) (spelled_words (said_words said) ∷ []) ∙ ap (λ (bytes : List ℕ). draft_text draft ++ bytes) (append-nil (line_text (said_words said))))

line_said : (l : Line) (said : DealLine) → said_by l ≡ Some said → line_bytes l ≡ line_text (said_words said)
line_said l said e = by_end l.ended refl e
  where
    by_end : (b : Bool) → l.ended ≡ b → cond b (said_of_words (words_of l.text)) None ≡ Some said → line_bytes l ≡ line_text (said_words said)
    by_end false f e = absurd cc
    by_end true f e =
        let words : words_of l.text ≡ said_words said = words_found (words_of l.text) said e in
        let text : l.text ≡ spelled_words (said_words said) = sym (spelled-words_of l.text) ∙ ap spelled_words words in
        ap (λ b. l.text ++ cond b (10 ∷ []) []) f ∙ ap (λ (t : List ℕ). t ++ 10 ∷ []) text

unless_ok : (fault : Option DealFault) (rest : Result Draft DealFault) (d : Draft) → unless fault rest ≡ Ok d → (fault ≡ None) × (rest ≡ Ok d)
unless_ok None rest d e = (refl, e)
unless_ok (Some fault) rest d e = absurd cc

whole_ok : (draft d : Draft) → whole draft ≡ Ok d → (is_whole draft ≡ true) × (draft ≡ d)
whole_ok draft d e = by_test (is_whole draft) refl e
  where
    by_test : (b : Bool) → is_whole draft ≡ b → cond b (Ok draft) (Err (BadLine (lines_in draft + 1))) ≡ Ok d → (is_whole draft ≡ true) × (draft ≡ d)
    by_test true f e = (f, cc)
    by_test false f e = absurd cc

-- the draft d is read from the lines behind the draft
pub record IsReadFrom (draft : Draft) (lines : List Line) (d : Draft) : Type 0 where
  pub ordered : IsOrdered d
  pub whole : is_whole d ≡ true
  pub text : draft_text d ≡ draft_text draft ++ joined_lines lines

pub read_found : (draft : Draft) (lines : List Line) (d : Draft) → IsOrdered draft → reading_behind draft lines ≡ Ok d → IsReadFrom draft lines d
read_found draft [] d h e =
    let w = whole_ok draft d e in
    record {
      ordered = subst IsOrdered w.1 h;
      whole = ap is_whole (sym w.1) ∙ w.0;
      text = ap draft_text (sym w.1) ∙ sym (append-nil (draft_text draft));
    }
read_found draft (l ∷ lines) d h e =
    let u = unless_ok (line_fault draft l) (reading_behind (after_line draft l) lines) d e in
    by_said (said_by l) refl u.0 (λ ordered. read_found (after_line draft l) lines d ordered u.1)
  where
    by_said : (o : Option DealLine) → said_by l ≡ o → said_fault draft o ≡ None → (IsOrdered (after_line draft l) → IsReadFrom (after_line draft l) lines d) → IsReadFrom draft (l ∷ lines) d
    by_said None f none rest = absurd cc
    by_said (Some said) f none rest =
        let longer = said_longer draft said h none in
        let next : after_line draft l ≡ with_line draft said = rw f refl in
        let r = rest (subst IsOrdered (sym next) longer.ordered) in
        record {
          ordered = r.ordered;
          whole = r.whole;
          text = r.text ∙ (ap (λ (x : Draft). draft_text x ++ joined_lines lines) next ∙ (ap (λ (bytes : List ℕ). bytes ++ joined_lines lines) (text_longer draft said longer) ∙ (append_assoc (draft_text draft) (line_text (said_words said)) (joined_lines lines) ∙ ap (λ (bytes : List ℕ). draft_text draft ++ (bytes ++ joined_lines lines)) (sym (line_said l said f)))));
        }

-- what is read of a text is spelled by it
pub text_found : (text : List ℕ) (d : Draft) → reading_of text ≡ Ok d → IsReadFrom no_lines (lines_of text) d × (text ≡ draft_text d)
text_found text d e =
    let r = read_found no_lines (lines_of text) d (refl, refl, refl) e in
    (r, sym (r.text ∙ joined-lines_of text))

whole_is : (d : Draft) (text : List ℕ) → IsOrdered d → is_whole d ≡ true → text ≡ draft_text d → IsWholeText d text
whole_is d text h w t = by_parts d.name d.house d.parties d.steps h w t
  where
    by_parts : (n : Option (List ℕ)) (o : Option Id) (parties : List Party) (steps : List Step) → Stand n o parties steps → (is_some n && (is_some o && not (is_empty steps))) ≡ true → text ≡ draft_text (record { name = n; house = o; parties = parties; steps = steps }) → IsWholeText (record { name = n; house = o; parties = parties; steps = steps }) text
    by_parts None o parties steps h w t = absurd cc
    by_parts (Some n) None parties steps h w t = absurd cc
    by_parts (Some n) (Some o) parties [] h w t = absurd cc
    by_parts (Some n) (Some o) parties (step ∷ steps) h w t = record {
      name = n;
      house = o;
      named = refl;
      housed = refl;
      parties = elim h [ inl none ↦ absurd cc | inr enough ↦ enough ];
      steps = omega arith;
      spelled = λ id. t;
    }

pub found : (text : List ℕ) (d : Draft) → reading_of text ≡ Ok d → IsWholeText d text
found text d e =
    let f = text_found text d e in
    whole_is d text f.0.ordered f.0.whole f.1
