-- What a line that builds says is spelled by its words, and what is spelled so is read.
use Rattle.std.proofs.Common.{◌≡◌, ℕ, Bool, true, false, cond, Option, Some, None, List, [], ◌∷◌, refl, ap, sym, subst, ◌∙◌}
use Rattle.std.specs.Prelude.{codes, option_map}
use Rattle.std.specs.Str.{bytes_eq}
use Rattle.std.proofs.lemmas.Slice.Eq.{bytes_eq-Decides}
use Rattle.dh_base.specs.Spelled.{outcome_text}
use Rattle.dh_base.specs.declared.outcome.Outcome.{Outcome}
use Rattle.line_text.specs.Reading.{◌>>=◌, name_word, amount_word, ended}
use Rattle.line_text.proofs.WordReading.{Words, bind_some, some_is, read_end}
use Rattle.house_words.specs.Keywords.{building_text}
use Rattle.house_words.specs.Spelled.{LineWord, Fixed, Named, Number, Amount}
use Rattle.house_words.specs.Tails.{one_name, two_names, two_names_number, name_number_name, three_names_number_outcome, two_names_number_then}
use Rattle.house_words.specs.WordKinds.{one_of}
use Rattle.house_words.proofs.TailFound.{one_name_found, two_names_found, two_names_number_found, name_number_name_found, three_names_number_outcome_found, two_names_number_then_found}
use Rattle.house_words.proofs.TailRead.{one_name_read, two_names_read, two_names_number_read, name_number_name_read, three_names_number_outcome_read, two_names_number_then_read}
use Rattle.house_words.proofs.WordFronts.{AreSpelled, front_spells, end_spells, split, end_of, name_front, name_read, amount_front, amount_read, one_front, fixed_spells, fixed_front, made}
use Rattle.house_words.specs.declared.keyword.BuildingKeyword.{BuildingKeyword}
use Rattle.house_words.specs.declared.keyword.BuildingKeyword.TheVariants as build
use Rattle.house_grammar.specs.Said.{line_of_words}
use Rattle.house_grammar.specs.SaidTexts.{forged_text}
use Rattle.house_grammar.specs.SaidBuildings.{forge_after, record_line, record_after, term_after, building_after}
use Rattle.house_grammar.specs.Spelling.{side_text, text_words, record_words, building_words}
use Rattle.house_grammar.specs.declared.building.Building.{Building}
use Rattle.house_grammar.specs.declared.building.Building.TheVariants.{Forge, Flip, Log, Record, Take, Claim, Cut, Link, LinkBy, By, Term, StatusClaim}
use Rattle.house_grammar.specs.declared.building.TermSide.{TermSide}
use Rattle.house_grammar.specs.declared.building.TermSide.TheVariants.{Give, Get}
use Rattle.house_grammar.specs.declared.forged_text.ForgedText.{ForgedText}
use Rattle.house_grammar.specs.declared.house_line.HouseLine.TheVariants.{Build}
use Rattle.house_grammar.specs.declared.record_line.RecordLine.{RecordLine}
use Rattle.house_grammar.specs.declared.record_line.RecordLine.TheVariants as record_of
use Rattle.house_grammar.proofs.KeywordFronts.{building_front}
use Rattle.house_grammar.proofs.TextReading.{text_found, text_read}

abbrev pub Builds : Building → Words → Type 0
Builds building words = AreSpelled (building_words building) words

-- ---- records

-- a word that is the text, or what the words behind say
by_text : {A : Type 0} (P : A → Type 0) (w text : List ℕ) (here other : Option A) (x : A) → (w ≡ text → here ≡ Some x → P x) → (other ≡ Some x → P x) → cond (bytes_eq w text) here other ≡ Some x → P x
by_text P w text here other x f g e = by_test (bytes_eq w text) refl e
  where
    by_test : (b : Bool) → bytes_eq w text ≡ b → cond b here other ≡ Some x → P x
    by_test true h e = f ((bytes_eq-Decides w text).0 h) e
    by_test false h e = g e

start_found : (ws : Words) (x : RecordLine) → (one_name ws >>= λ deal. Some (record_of.Start deal)) ≡ Some x → AreSpelled (record_words x) (codes "start" ∷ ws)
start_found ws x e = made (λ y. AreSpelled (record_words y) (codes "start" ∷ ws)) (λ (s : List ℕ). record_of.Start s) (one_name ws) x (λ s h. fixed_spells (codes "start") (one_name_found ws s h)) e

commit_found : (ws : Words) (x : RecordLine) → (two_names ws >>= λ s. Some (record_of.Commit s.0 s.1)) ≡ Some x → AreSpelled (record_words x) (codes "commit" ∷ ws)
commit_found ws x e = made (λ y. AreSpelled (record_words y) (codes "commit" ∷ ws)) (λ (s : List ℕ × List ℕ). record_of.Commit s.0 s.1) (two_names ws) x (λ s h. fixed_spells (codes "commit") (two_names_found ws s h)) e

abort_found : (ws : Words) (x : RecordLine) → (two_names ws >>= λ s. Some (record_of.Abort s.0 s.1)) ≡ Some x → AreSpelled (record_words x) (codes "abort" ∷ ws)
abort_found ws x e = made (λ y. AreSpelled (record_words y) (codes "abort" ∷ ws)) (λ (s : List ℕ × List ℕ). record_of.Abort s.0 s.1) (two_names ws) x (λ s h. fixed_spells (codes "abort") (two_names_found ws s h)) e

line_found : (words : Words) (x : RecordLine) → record_line words ≡ Some x → AreSpelled (record_words x) words
unfolding record_line
line_found [] x e = absurd cc
line_found (w ∷ ws) x e =
    let P : RecordLine → Type 0 = λ y. AreSpelled (record_words y) (w ∷ ws) in
    let back = λ (text : List ℕ) (same : w ≡ text) (s : AreSpelled (record_words x) (text ∷ ws)). subst (λ (v : List ℕ). AreSpelled (record_words x) (v ∷ ws)) (sym same) s in
    by_text P w (codes "start") _ _ x (λ same h. back (codes "start") same (start_found ws x h))
    (λ other. by_text P w (codes "commit") _ _ x (λ same h. back (codes "commit") same (commit_found ws x h))
    (λ other. by_text P w (codes "abort") _ _ x (λ same h. back (codes "abort") same (abort_found ws x h)) (λ none. absurd cc) other) other) e

start_front : (ws : Words) → record_line (codes "start" ∷ ws) ≡ (one_name ws >>= λ deal. Some (record_of.Start deal))
unfolding record_line
start_front ws = refl

commit_front : (ws : Words) → record_line (codes "commit" ∷ ws) ≡ (two_names ws >>= λ s. Some (record_of.Commit s.0 s.1))
unfolding record_line
commit_front ws = refl

abort_front : (ws : Words) → record_line (codes "abort" ∷ ws) ≡ (two_names ws >>= λ s. Some (record_of.Abort s.0 s.1))
unfolding record_line
abort_front ws = refl

line_read : (x : RecordLine) (words : Words) → AreSpelled (record_words x) words → record_line words ≡ Some x
line_read (record_of.Start deal) words s =
    let a = split s in
    ap record_line (fixed_front a.front) ∙ (start_front a.rest ∙ rw (one_name_read a.behind) refl)
line_read (record_of.Commit deal party) words s =
    let a = split s in
    ap record_line (fixed_front a.front) ∙ (commit_front a.rest ∙ rw (two_names_read a.behind) refl)
line_read (record_of.Abort deal party) words s =
    let a = split s in
    ap record_line (fixed_front a.front) ∙ (abort_front a.rest ∙ rw (two_names_read a.behind) refl)

-- ---- what is read

forge_found : (ws : Words) (x : Building) → forge_after ws ≡ Some x → Builds x (codes "forge" ∷ ws)
unfolding forge_after
forge_found ws x e =
    let a = bind_some (two_names_number_then ws) _ x e in
    let b = bind_some (forged_text a.0.1) (λ text. Some (Forge a.0.0.0 a.0.0.1 a.0.0.2 text)) x a.2 in
    subst (λ (y : Building). Builds y (codes "forge" ∷ ws)) (some_is (Forge a.0.0.0 a.0.0.1 a.0.0.2 b.0) x b.2)
    (fixed_spells (codes "forge") (two_names_number_then_found ws a.0 a.1 (text_words b.0) (text_found a.0.1 b.0 b.1)))

record_found : (ws : Words) (x : Building) → record_after ws ≡ Some x → Builds x (codes "rec" ∷ ws)
unfolding record_after
record_found ws x e =
    let a = bind_some (name_word ws) _ x e in
    let b = bind_some (record_line a.0.1) (λ line. Some (Record a.0.0 line)) x a.2 in
    subst (λ (y : Building). Builds y (codes "rec" ∷ ws)) (some_is (Record a.0.0 b.0) x b.2)
    (fixed_spells (codes "rec") (front_spells (name_front ws a.0 a.1) (line_found a.0.1 b.0 b.1)))

term_found : (ws : Words) (x : Building) → term_after ws ≡ Some x → Builds x (codes "term" ∷ ws)
unfolding term_after
term_found ws x e =
    let a = bind_some (name_word ws) _ x e in
    let b = bind_some (one_of (codes "give") Give (codes "get") Get a.0.1) _ x a.2 in
    let l = bind_some (name_word b.0.1) _ x b.2 in
    let s = bind_some (name_word l.0.1) _ x l.2 in
    let m = bind_some (amount_word s.0.1) _ x s.2 in
    let z = read_end m.0.1 (Term a.0.0 b.0.0 l.0.0 s.0.0 m.0.0) x m.2 in
    subst (λ (y : Building). Builds y (codes "term" ∷ ws)) z.1
    (fixed_spells (codes "term")
    (front_spells (name_front ws a.0 a.1)
    (front_spells (one_front (λ (d : TermSide). Fixed (side_text d)) (codes "give") Give (codes "get") Get a.0.1 b.0 refl refl b.1)
    (front_spells (name_front _ l.0 l.1) (front_spells (name_front _ s.0 s.1) (front_spells (amount_front _ m.0 m.1) (end_spells z.0)))))))

pub building_found : (k : BuildingKeyword) (ws : Words) (x : Building) → building_after k ws ≡ Some x → Builds x (building_text k ∷ ws)
building_found build.Forge ws x e = forge_found ws x e
building_found build.Flip ws x e = made (λ y. Builds y (codes "flip" ∷ ws)) (λ (s : List ℕ × List ℕ). Flip s.0 s.1) (two_names ws) x (λ s h. fixed_spells (codes "flip") (two_names_found ws s h)) e
building_found build.Log ws x e = made (λ y. Builds y (codes "log" ∷ ws)) (λ (s : List ℕ). Log s) (one_name ws) x (λ s h. fixed_spells (codes "log") (one_name_found ws s h)) e
building_found build.Record ws x e = record_found ws x e
building_found build.Take ws x e = made (λ y. Builds y (codes "take" ∷ ws)) (λ (s : List ℕ × List ℕ × Option ℕ). Take s.0 s.1 s.2) (two_names_number ws) x (λ s h. fixed_spells (codes "take") (two_names_number_found ws s h)) e
building_found build.Claim ws x e = made (λ y. Builds y (codes "claim" ∷ ws)) (λ (s : List ℕ × List ℕ). Claim s.0 s.1) (two_names ws) x (λ s h. fixed_spells (codes "claim") (two_names_found ws s h)) e
building_found build.Cut ws x e = made (λ y. Builds y (codes "cut" ∷ ws)) (λ (s : List ℕ). Cut s) (one_name ws) x (λ s h. fixed_spells (codes "cut") (one_name_found ws s h)) e
building_found build.Link ws x e = made (λ y. Builds y (codes "link" ∷ ws)) (λ (s : List ℕ × List ℕ × Option ℕ). Link s.0 s.1 s.2) (two_names_number ws) x (λ s h. fixed_spells (codes "link") (two_names_number_found ws s h)) e
building_found build.LinkBy ws x e = made (λ y. Builds y (codes "linkby" ∷ ws)) (λ (s : List ℕ × Option ℕ × List ℕ). LinkBy s.0 s.1 s.2) (name_number_name ws) x (λ s h. fixed_spells (codes "linkby") (name_number_name_found ws s h)) e
building_found build.By ws x e = made (λ y. Builds y (codes "by" ∷ ws)) (λ (s : List ℕ × Option ℕ × List ℕ). By s.0 s.1 s.2) (name_number_name ws) x (λ s h. fixed_spells (codes "by") (name_number_name_found ws s h)) e
building_found build.Term ws x e = term_found ws x e
building_found build.StatusClaim ws x e = made (λ y. Builds y (codes "sclaim" ∷ ws)) (λ (s : List ℕ × List ℕ × List ℕ × Option ℕ × Outcome). StatusClaim s.0 s.1 s.2 s.3 s.4) (three_names_number_outcome ws) x (λ s h. fixed_spells (codes "sclaim") (three_names_number_outcome_found ws s h)) e

-- ---- what is spelled

begun : (k : BuildingKeyword) {values : List LineWord} {words : Words} (x : Building) → AreSpelled (Fixed (building_text k) ∷ values) words → ((rest : Words) → AreSpelled values rest → building_after k rest ≡ Some x) → line_of_words words ≡ Some (Build x)
begun k x s read =
    let a = split s in
    ap line_of_words (fixed_front a.front) ∙ (building_front k a.rest ∙ ap (option_map Build) (read a.rest a.behind))

forge_read : (envelope holder : List ℕ) (key : Option ℕ) (text : ForgedText) (ws : Words) → AreSpelled (Named envelope ∷ Named holder ∷ Number key ∷ text_words text) ws → forge_after ws ≡ Some (Forge envelope holder key text)
unfolding forge_after
forge_read envelope holder key text ws s =
    let a = two_names_number_then_read s in
    rw (a.taken, text_read text a.rest a.behind) refl

record_read : (log : List ℕ) (line : RecordLine) (ws : Words) → AreSpelled (Named log ∷ record_words line) ws → record_after ws ≡ Some (Record log line)
unfolding record_after
record_read log line ws s =
    let a = split s in
    rw (name_read a.front, line_read line a.rest a.behind) refl

side_again : (side : TermSide) (rest : Words) → one_of (codes "give") Give (codes "get") Get (side_text side ∷ rest) ≡ Some (side, rest)
unfolding one_of
side_again Give rest = refl
side_again Get rest = refl

term_read : (terms : List ℕ) (side : TermSide) (ledger asset : List ℕ) (amount : ℕ) (ws : Words) → AreSpelled (Named terms ∷ Fixed (side_text side) ∷ Named ledger ∷ Named asset ∷ Amount amount ∷ []) ws → term_after ws ≡ Some (Term terms side ledger asset amount)
unfolding term_after
term_read terms side ledger asset amount ws s =
    let a = split s in
    let b = split a.behind in
    let l = split b.behind in
    let t = split l.behind in
    let m = split t.behind in
    let read : one_of (codes "give") Give (codes "get") Get a.rest ≡ Some (side, b.rest) = ap (one_of (codes "give") Give (codes "get") Get) (fixed_front b.front) ∙ side_again side b.rest in
    rw (name_read a.front, read, name_read l.front, name_read t.front, amount_read m.front, end_of m.behind) refl

pub building_read : (x : Building) (words : Words) → Builds x words → line_of_words words ≡ Some (Build x)
building_read (Forge envelope holder key text) words s = begun build.Forge (Forge envelope holder key text) s (λ rest r. forge_read envelope holder key text rest r)
building_read (Flip flipped envelope) words s = begun build.Flip (Flip flipped envelope) s (λ rest r. rw (two_names_read r) refl)
building_read (Log log) words s = begun build.Log (Log log) s (λ rest r. rw (one_name_read r) refl)
building_read (Record log line) words s = begun build.Record (Record log line) s (λ rest r. record_read log line rest r)
building_read (Take log seat len) words s = begun build.Take (Take log seat len) s (λ rest r. rw (two_names_number_read r) refl)
building_read (Claim claim log) words s = begun build.Claim (Claim claim log) s (λ rest r. rw (two_names_read r) refl)
building_read (Cut claim) words s = begun build.Cut (Cut claim) s (λ rest r. rw (one_name_read r) refl)
building_read (Link claim set len) words s = begun build.Link (Link claim set len) s (λ rest r. rw (two_names_number_read r) refl)
building_read (LinkBy claim seat envelope) words s = begun build.LinkBy (LinkBy claim seat envelope) s (λ rest r. rw (name_number_name_read r) refl)
building_read (By claim seat envelope) words s = begun build.By (By claim seat envelope) s (λ rest r. rw (name_number_name_read r) refl)
building_read (Term terms side ledger asset amount) words s = begun build.Term (Term terms side ledger asset amount) s (λ rest r. term_read terms side ledger asset amount rest r)
building_read (StatusClaim claim deal log len outcome) words s = begun build.StatusClaim (StatusClaim claim deal log len outcome) s (λ rest r. rw (three_names_number_outcome_read outcome r) refl)
