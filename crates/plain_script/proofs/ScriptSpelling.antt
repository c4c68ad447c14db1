-- Scripts and their one spelling.
use Rattle.std.proofs.Common.{◌≡◌, ℕ, ◌+◌, ◌≤◌, Bool, true, false, cond, ◌||◌, ltb, map, Option, Some, None, List, [], ◌∷◌, ◌++◌, length, Ok, Err, refl, sym, ap, subst, ◌∙◌, inl, inr, ◌⊎◌, IsTrue}
use Rattle.std.specs.List.{list_any, flat_map, onto_first, AllByRecursion}
use Rattle.std.proofs.lemmas.Bool.{cases_Bool, eqb-true, ltb-false, le-ltb, both_ways}
use Rattle.line_text.specs.Bytes.{lacks}
use Rattle.line_text.specs.Lines.{AreLines, Line, lines_of, ended_line, joined_lines, spelled_lines, is_passed_over}
use Rattle.line_text.specs.Words.{words_of}
use Rattle.plain_script.specs.Said.{keyword_of, statement_of, statement_of_words}
use Rattle.plain_script.specs.Rules.{declarations_of, is_begin}
use Rattle.script_lines.specs.LineRules.{most_bytes}
use Rattle.script_lines.specs.Refusals.{Refused, first_refused, unless_refused}
use Rattle.plain_script.specs.Reading.{ScriptTold, statements_by, statements_of, events_from, events_at, line_rule, says_nothing, reading_whole, reading_of}
use Rattle.plain_script.specs.Fronts.{Front, front_of, front_after}
use Rattle.plain_script.specs.Spelling.{Spells, ScriptLine, Passed, Says, SpellsLine, SpellLines, SpellScript, says, IsInOrder, events_told, happening, IsScriptOf, IsReadAs}
use Rattle.plain_script.specs.declared.declaration.Declaration.{Declaration}
use Rattle.plain_script.specs.declared.event.Event.{Event}
use Rattle.plain_script.specs.declared.numbered.Numbered.{Numbered}
use Rattle.plain_script.specs.declared.statement.Statement.{Statement}
use Rattle.plain_script.specs.declared.statement.Statement.TheVariants.{Plain, Declare, Begin, Happen}
use Rattle.script_lines.specs.declared.rule.ScriptRule.TheVariants.{BadLine, TooLarge}
use Rattle.script_lines.proofs.FirstLine.{kept_all, all_kept}
use Rattle.line_text.proofs.WordReading.{some_is}
use Rattle.line_text.proofs.Joining.{lines_of-spelled, AreLines-lines_of, joined-lines_of}
use Rattle.plain_script.proofs.PlainWords.{line_only, line_found, line_lacks}
use Rattle.plain_script.proofs.Orders.{Keeps, keeps_from, one_line, head_is, AreDeclared, happened_by, happening_lines, ordered, ordered_declare, ordered_happen, ordered_begins, unbegun}

abbrev Texts : Type 0
Texts = List (List ℕ)

abbrev NoFeeds : List Line → Type 0
NoFeeds lines = AllByRecursion (λ line. IsTrue (lacks 10 line.text)) lines

no_feeds : (lines : List Line) → AreLines lines → NoFeeds lines
no_feeds [] h = tt
no_feeds (line ∷ []) h = (h.0, tt)
no_feeds (line ∷ next ∷ lines) h = (h.0, no_feeds (next ∷ lines) h.2)

joined_ended : (texts : Texts) → joined_lines (map ended_line texts) ≡ spelled_lines texts
joined_ended [] = refl
joined_ended (t ∷ ts) = ap (λ (bytes : List ℕ). (t ++ 10 ∷ []) ++ bytes) (joined_ended ts)

-- ---- from the lines to their spelling

-- lines of a script that the lines of a text spell
record AreSpelled (before : ℕ) (lines : List Line) : Type 0 where
  told : List ScriptLine
  texts : Texts
  spelled : SpellLines told texts
  lines_are : lines ≡ map ended_line texts
  statements : flat_map says told ≡ statements_of lines
  events : events_told before told ≡ events_from before lines

spelled_more : (before : ℕ) (line : Line) (lines : List Line) (told : ScriptLine) → SpellsLine told line.text → line.ended ≡ true → says told ≡ statements_by line → AreSpelled (before + 1) lines → AreSpelled before (line ∷ lines)
spelled_more before line lines told here ended says_it rest =
    let line_is : line ≡ ended_line line.text = ap (λ (b : Bool). record { text = line.text; ended = b }) ended in
    record {
      told = told ∷ rest.told;
      texts = line.text ∷ rest.texts;
      spelled = (here, rest.spelled);
      lines_are = ap (λ (l : Line). l ∷ lines) line_is ∙ ap (λ (ls : List Line). ended_line line.text ∷ ls) rest.lines_are;
      statements = ap (λ (ss : List Statement). ss ++ flat_map says rest.told) says_it ∙ ap (λ (ss : List Statement). statements_by line ++ ss) rest.statements;
      events = ap (λ (ss : List Statement). flat_map (events_at (before + 1)) ss ++ events_told (before + 1) rest.told) says_it ∙ ap (λ (es : List Numbered). flat_map (events_at (before + 1)) (statements_by line) ++ es) rest.events;
    }

are_spelled : (before : ℕ) (front : Front) (lines : List Line) → Keeps front lines → NoFeeds lines → AreSpelled before lines
are_spelled before front [] keeps feeds = record { told = []; texts = []; spelled = tt; lines_are = refl; statements = refl; events = refl }
are_spelled before front (line ∷ lines) keeps feeds =
    let rest = are_spelled (before + 1) (front_after front line) lines keeps.1 feeds.1 in
    elim (one_line front line keeps.0) [
      | inl passed ↦ spelled_more before line lines (Passed line.text) (refl, passed.passed, feeds.0) passed.ended (sym passed.nothing) rest
      | inr said ↦ spelled_more before line lines (Says said.0) (line_found line.text said.0 said.1.said) said.1.ended (sym said.1.one) rest
    ]

-- ---- what was read

pub within : (script : List ℕ) (told : ScriptTold) → reading_of script ≡ Ok told → (length script ≤ most_bytes) × (unless_refused (first_refused line_rule [] (lines_of script)) (reading_whole (lines_of script)) ≡ Ok told)
within script told e = by_size (ltb most_bytes (length script)) refl e
  where
    by_size : (b : Bool) → ltb most_bytes (length script) ≡ b → cond b (Err (record { line = 0; rule = TooLarge })) (unless_refused (first_refused line_rule [] (lines_of script)) (reading_whole (lines_of script))) ≡ Ok told → (length script ≤ most_bytes) × (unless_refused (first_refused line_rule [] (lines_of script)) (reading_whole (lines_of script)) ≡ Ok told)
    by_size true h f = absurd cc
    by_size false h f = (ltb-false most_bytes (length script) h, f)

pub unrefused : (lines : List Line) (refused : Option Refused) (told : ScriptTold) → unless_refused refused (reading_whole lines) ≡ Ok told → (refused ≡ None) × (reading_whole lines ≡ Ok told)
unrefused lines None told e = (refl, e)
unrefused lines (Some r) told e = absurd cc

pub chosen_ok : (b : Bool) (x told : ScriptTold) (r : Refused) → cond b (Ok x) (Err r) ≡ Ok told → (b ≡ true) × (x ≡ told)
chosen_ok true x told r e = (refl, cc)
chosen_ok false x told r e = absurd cc

in_order_same : (ss ts : List Statement) (ds : List Declaration) (es : List Event) → ss ≡ ts → IsInOrder ts ds es → IsInOrder ss ds es
in_order_same ss ts ds es e h = subst (λ (us : List Statement). IsInOrder us ds es) (sym e) h

-- statements in order, where these end with `begin` or are none
ordered_is : (ss : List Statement) → (ss ≡ []) ⊎ ((ts : List Statement) × (ss ≡ Plain ∷ ts) × AreDeclared ts) → (says_nothing ss || list_any is_begin ss) ≡ true → IsInOrder ss (declarations_of ss) (flat_map happened_by ss)
ordered_is ss form whole =
    elim form [
      | inl none ↦ subst (λ (us : List Statement). IsInOrder us (declarations_of us) (flat_map happened_by us)) (sym none) (refl, refl)
      | inr some ↦
          elim some.2.rest [
            | inl unended ↦
                let all : ss ≡ Plain ∷ map Declare some.2.declarations = some.1 ∙ ap (λ (us : List Statement). Plain ∷ us) unended in
                let none : (says_nothing ss || list_any is_begin ss) ≡ false = ap (λ (us : List Statement). says_nothing us || list_any is_begin us) all ∙ unbegun some.2.declarations in
                absurd (both_ways (says_nothing ss || list_any is_begin ss) none whole)
            | inr ended ↦
                let ds : List Declaration = some.2.declarations in
                let es : List Event = ended.0 in
                let all : ss ≡ ordered ds es = some.1 ∙ ap (λ (us : List Statement). Plain ∷ us) ended.1 in
                let there : ordered ds es ≡ Plain ∷ (map Declare (declarations_of (ordered ds es)) ++ Begin ∷ map Happen (flat_map happened_by (ordered ds es))) =
                sym (ap (λ (xs : List Declaration). ordered xs (flat_map happened_by (ordered ds es))) (ordered_declare ds es) ∙ ap (ordered ds) (ordered_happen ds es)) in
                subst (λ (us : List Statement). IsInOrder us (declarations_of us) (flat_map happened_by us)) (sym all) there
          ]
    ]

pub was_read : (script : List ℕ) (told : ScriptTold) → reading_of script ≡ Ok told → (lines : List ScriptLine) × IsReadAs script lines told
was_read script told e =
    let a = within script told e in
    let lines : List Line = lines_of script in
    let b = unrefused lines (first_refused line_rule [] lines) told a.1 in
    let keeps : Keeps (front_of []) lines = keeps_from [] lines b.0 in
    let s = are_spelled 0 (front_of []) lines keeps (no_feeds lines (AreLines-lines_of script)) in
    let c = chosen_ok (says_nothing (statements_of lines) || list_any is_begin (statements_of lines)) (record { declarations = declarations_of (statements_of lines); events = events_from 0 lines }) told (record { line = length lines + 1; rule = BadLine }) b.1 in
    let order : IsInOrder (statements_of lines) (declarations_of (statements_of lines)) (map happening (events_from 0 lines)) =
    subst (λ (es : List Event). IsInOrder (statements_of lines) (declarations_of (statements_of lines)) es) (sym (happening_lines 0 lines)) (ordered_is (statements_of lines) (head_is (front_of []) lines refl keeps) c.0) in
    let spelled_order : IsInOrder (flat_map says s.told) (declarations_of (statements_of lines)) (map happening (events_from 0 lines)) = in_order_same (flat_map says s.told) (statements_of lines) (declarations_of (statements_of lines)) (map happening (events_from 0 lines)) s.statements order in
    let tells : IsScriptOf s.told (record { declarations = declarations_of (statements_of lines); events = events_from 0 lines }) = record { order = spelled_order; events = sym s.events } in (
      s.told,
      record {
        spelled = record { texts = s.texts; spelled = s.spelled; script_is = sym (joined-lines_of script) ∙ (ap joined_lines s.lines_are ∙ joined_ended s.texts) };
        tells = subst (IsScriptOf s.told) c.1 tells;
        kept = all_kept line_rule lines b.0;
        small = a.0;
      },
    )

-- ---- from the spelling to the lines

hash_says_nothing : (ws : Texts) → statement_of_words (onto_first 35 ws) ≡ None
unfolding keyword_of
hash_says_nothing [] = refl
hash_says_nothing (w ∷ ws) = refl

comment_says_nothing : (text : List ℕ) → is_passed_over text ≡ true → statement_of text ≡ None
unfolding keyword_of
comment_says_nothing [] e = refl
comment_says_nothing (c ∷ cs) e = ap (λ (b : ℕ). statement_of (b ∷ cs)) (eqb-true c 35 e) ∙ hash_says_nothing (words_of cs)

not_passed : (s : Statement) (text : List ℕ) → Spells s text → is_passed_over text ≡ false
not_passed s text h =
    elim (cases_Bool (is_passed_over text)) [
      | inl passed ↦ absurd (let none : None ≡ Some s = sym (comment_says_nothing text passed) ∙ line_only s text h in cc)
      | inr said ↦ said
    ]

line_says : (line : ScriptLine) (text : List ℕ) → SpellsLine line text → statements_by (ended_line text) ≡ says line
line_says (Passed passed) text h = rw h.1 refl
line_says (Says s) text h = rw (not_passed s text h, line_only s text h) refl

line_feeds : (line : ScriptLine) (text : List ℕ) → SpellsLine line text → IsTrue (lacks 10 text)
line_feeds (Passed passed) text h = h.2
line_feeds (Says s) text h = line_lacks s text h

all_feeds : (lines : List ScriptLine) (texts : Texts) → SpellLines lines texts → AllByRecursion (λ text. IsTrue (lacks 10 text)) texts
all_feeds [] [] h = tt
all_feeds [] (t ∷ ts) h = absurd h
all_feeds (l ∷ ls) [] h = absurd h
all_feeds (l ∷ ls) (t ∷ ts) h = (line_feeds l t h.0, all_feeds ls ts h.1)

all_say : (lines : List ScriptLine) (texts : Texts) → SpellLines lines texts → statements_of (map ended_line texts) ≡ flat_map says lines
all_say [] [] h = refl
all_say [] (t ∷ ts) h = absurd h
all_say (l ∷ ls) [] h = absurd h
all_say (l ∷ ls) (t ∷ ts) h = ap (λ (ss : List Statement). ss ++ statements_of (map ended_line ts)) (line_says l t h.0) ∙ ap (λ (ss : List Statement). says l ++ ss) (all_say ls ts h.1)

all_tell : (before : ℕ) (lines : List ScriptLine) (texts : Texts) → SpellLines lines texts → events_from before (map ended_line texts) ≡ events_told before lines
all_tell before [] [] h = refl
all_tell before [] (t ∷ ts) h = absurd h
all_tell before (l ∷ ls) [] h = absurd h
all_tell before (l ∷ ls) (t ∷ ts) h =
    ap (λ (ss : List Statement). flat_map (events_at (before + 1)) ss ++ events_from (before + 1) (map ended_line ts)) (line_says l t h.0) ∙ ap (λ (es : List Numbered). flat_map (events_at (before + 1)) (says l) ++ es) (all_tell (before + 1) ls ts h.1)

pub script_lines : (lines : List ScriptLine) (script : List ℕ) → (s : SpellScript lines script) → lines_of script ≡ map ended_line s.texts
script_lines lines script s = ap lines_of s.script_is ∙ lines_of-spelled s.texts (all_feeds lines s.texts s.spelled)

-- statements in order are whole, and declare and tell what their order says
record AreWhole (ss : List Statement) (ds : List Declaration) : Type 0 where
  whole : (says_nothing ss || list_any is_begin ss) ≡ true
  declared : declarations_of ss ≡ ds

whole_is : (ss : List Statement) (ds : List Declaration) (es : List Event) → IsInOrder ss ds es → AreWhole ss ds
whole_is [] ds es h = record { whole = refl; declared = sym h.0 }
whole_is (s ∷ ss) ds es h = record { whole = ap (list_any is_begin) h ∙ ordered_begins ds es; declared = ap declarations_of h ∙ ordered_declare ds es }

pub is_read : (script : List ℕ) (lines : List ScriptLine) (told : ScriptTold) → IsReadAs script lines told → reading_of script ≡ Ok told
is_read script lines told h =
    let s : SpellScript lines script = h.spelled in
    let kept : first_refused line_rule [] (lines_of script) ≡ None = kept_all line_rule (lines_of script) h.kept in
    let are : lines_of script ≡ map ended_line s.texts = script_lines lines script s in
    let statements : statements_of (lines_of script) ≡ flat_map says lines = ap statements_of are ∙ all_say lines s.texts s.spelled in
    let events : events_from 0 (lines_of script) ≡ told.events = ap (events_from 0) are ∙ (all_tell 0 lines s.texts s.spelled ∙ sym h.tells.events) in
    let w = whole_is (flat_map says lines) told.declarations (map happening told.events) h.tells.order in
    let whole : (says_nothing (statements_of (lines_of script)) || list_any is_begin (statements_of (lines_of script))) ≡ true = ap (λ (ss : List Statement). says_nothing ss || list_any is_begin ss) statements ∙ w.whole in
    let declared : declarations_of (statements_of (lines_of script)) ≡ told.declarations = ap declarations_of statements ∙ w.declared in
    let fits : ltb most_bytes (length script) ≡ false = le-ltb most_bytes (length script) h.small in
    let last : reading_whole (lines_of script) ≡ Ok told = rw (whole, declared, events) refl in
    rw fits (ap (λ (r : Option Refused). unless_refused r (reading_whole (lines_of script))) kept ∙ last)

-- ---- one spelling

line_same : (l k : ScriptLine) (text : List ℕ) → SpellsLine l text → SpellsLine k text → l ≡ k
line_same (Passed p) (Passed q) text h i = ap Passed (sym h.0 ∙ i.0)
line_same (Passed p) (Says s) text h i = absurd (both_ways (is_passed_over text) (not_passed s text i) h.1)
line_same (Says s) (Passed q) text h i = absurd (both_ways (is_passed_over text) (not_passed s text h) i.1)
line_same (Says s) (Says t) text h i = ap Says (some_is s t (sym (line_only s text h) ∙ line_only t text i))

lines_same : (ls ks : List ScriptLine) (texts : Texts) → SpellLines ls texts → SpellLines ks texts → ls ≡ ks
lines_same [] [] [] h i = refl
lines_same [] [] (t ∷ ts) h i = refl
lines_same [] (k ∷ ks) [] h i = absurd i
lines_same [] (k ∷ ks) (t ∷ ts) h i = absurd h
lines_same (l ∷ ls) ks [] h i = absurd h
lines_same (l ∷ ls) [] (t ∷ ts) h i = absurd i
lines_same (l ∷ ls) (k ∷ ks) (t ∷ ts) h i = ap (λ (x : ScriptLine). x ∷ ls) (line_same l k t h.0 i.0) ∙ ap (λ (xs : List ScriptLine). k ∷ xs) (lines_same ls ks ts h.1 i.1)

texts_of : (texts : Texts) → map (λ (l : Line). l.text) (map ended_line texts) ≡ texts
texts_of [] = refl
texts_of (t ∷ ts) = ap (λ (us : Texts). t ∷ us) (texts_of ts)

pub one_spelling : (script : List ℕ) (ls ks : List ScriptLine) → SpellScript ls script → SpellScript ks script → ls ≡ ks
one_spelling script ls ks a b =
    let lines : map ended_line a.texts ≡ map ended_line b.texts = sym (script_lines ls script a) ∙ script_lines ks script b in
    let texts : a.texts ≡ b.texts = sym (texts_of a.texts) ∙ (ap (λ (xs : List Line). map (λ (l : Line). l.text) xs) lines ∙ texts_of b.texts) in
    lines_same ls ks b.texts (subst (SpellLines ls) texts a.spelled) b.spelled
