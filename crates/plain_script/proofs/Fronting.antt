-- The front of a script with one line more, and what reading gives when no line is left.
use Rattle.std.proofs.Common.{◌≡◌, ℕ, suc, ◌+◌, ◌≤◌, Bool, true, false, cond, ◌||◌, Option, Some, None, List, [], ◌∷◌, ◌++◌, length, Err, refl, sym, ap, subst, ◌∙◌, arith, append_assoc}
use Rattle.std.specs.List.{list_any, flat_map}
use Rattle.std.proofs.lemmas.List.{append-nil, length_push, length-append}
use Rattle.std.proofs.lemmas.List.Concat.{flat_map-append}
use Rattle.std.proofs.lemmas.List.Folds.{list_any-append}
use Rattle.std.specs.Option.{option_to_list}
use Rattle.line_text.specs.Lines.{Line, lines_of}
use Rattle.plain_script.specs.Rules.{place_after, declarations_of, declared_by, is_begin}
use Rattle.script_lines.specs.LineRules.{passes_over}
use Rattle.script_lines.specs.Refusals.{first_refused, unless_refused}
use Rattle.script_lines.proofs.ReadTo.{IsReadTo, lines_few, before_few, starts as starts_to, goes_on as goes_on_to, refuses as refuses_to, ends as ends_to}
use Rattle.plain_script.specs.Reading.{said_by, statements_by, statements_of, events_from, events_at, line_rule, reading_whole}
use Rattle.plain_script.specs.Fronts.{Front, front_of, rule_behind, next_place, stated, stated_all, past_line, front_after}
use Rattle.plain_script.specs.Answers.{whole_of}
use Rattle.plain_script.specs.declared.numbered.Numbered.{Numbered}
use Rattle.plain_script.specs.declared.declaration.Declaration.{Declaration}
use Rattle.plain_script.specs.declared.statement.Statement.{Statement}
use Rattle.plain_script.specs.declared.statement.Statement.TheVariants.{Plain, House, Declare, Begin, Happen}
use Rattle.script_lines.specs.declared.rule.ScriptRule.{ScriptRule}
use Rattle.script_lines.specs.declared.place.Place.{Place}
use Rattle.script_lines.specs.declared.place.Place.TheVariants.{Declarations, Events}

-- ---- one line more

place_push : (ss : List Statement) (s : Statement) → place_after (ss ++ s ∷ []) ≡ next_place (place_after ss) s
place_push [] s = elim (is_begin s) as (λ b. cond (b || false) Events Declarations ≡ cond b Events Declarations) [ true ↦ refl | false ↦ refl ]
place_push (t ∷ ts) s =
    list_case (list_any is_begin (t ∷ ts)) refl
  where
    any_push : list_any is_begin ((t ∷ ts) ++ s ∷ []) ≡ (list_any is_begin (t ∷ ts) || (is_begin s || false))
    any_push = list_any-append is_begin (t ∷ ts) (s ∷ [])

    list_case : (b : Bool) → list_any is_begin (t ∷ ts) ≡ b → cond (list_any is_begin ((t ∷ ts) ++ s ∷ [])) Events Declarations ≡ next_place (cond (list_any is_begin (t ∷ ts)) Events Declarations) s
    list_case true e = rw (any_push, e) refl
    list_case false e = rw (any_push, e) (elim (is_begin s) as (λ b. cond (b || false) Events Declarations ≡ cond b Events Declarations) [ true ↦ refl | false ↦ refl ])

-- a front of these parts
abbrev made : ℕ → Place → List Declaration → List Numbered → Front
made number place declarations events = record { number = number; place = place; declarations = declarations; events = events }

made_same : (n : ℕ) (p q : Place) (ds es : List Declaration) (xs ys : List Numbered) → p ≡ q → ds ≡ es → xs ≡ ys → made n p ds xs ≡ made n q es ys
made_same n p q ds es xs ys a b c = rw (a, b, c) refl

declarations_push : (ss : List Statement) (s : Statement) → declarations_of (ss ++ s ∷ []) ≡ declarations_of ss ++ declared_by s
declarations_push ss s = flat_map-append declared_by ss (s ∷ []) ∙ ap (λ (ds : List Declaration). declarations_of ss ++ ds) (append-nil (declared_by s))

-- the statements of a line, stated one after another
stated_more : (n : ℕ) (ss : List Statement) (events : List Numbered) (ts : List Statement) → made n (place_after (ss ++ ts)) (declarations_of (ss ++ ts)) (events ++ flat_map (events_at (n + 1)) ts) ≡ stated_all (made n (place_after ss) (declarations_of ss) events) ts
stated_more n ss events [] = made_same n _ _ _ _ _ _ (ap place_after (append-nil ss)) (ap declarations_of (append-nil ss)) (append-nil events)
stated_more n ss events (t ∷ ts) =
    let joined : ss ++ t ∷ ts ≡ (ss ++ t ∷ []) ++ ts = sym (append_assoc ss (t ∷ []) ts) in
    let events_joined : events ++ (events_at (n + 1) t ++ flat_map (events_at (n + 1)) ts) ≡ (events ++ events_at (n + 1) t) ++ flat_map (events_at (n + 1)) ts = sym (append_assoc events (events_at (n + 1) t) (flat_map (events_at (n + 1)) ts)) in
    let first : made n (place_after (ss ++ t ∷ [])) (declarations_of (ss ++ t ∷ [])) (events ++ events_at (n + 1) t) ≡ stated (made n (place_after ss) (declarations_of ss) events) t = made_same n _ _ _ _ _ _ (place_push ss t) (declarations_push ss t) refl in
    made_same n _ _ _ _ _ _ (ap place_after joined) (ap declarations_of joined) events_joined
    ∙ (stated_more n (ss ++ t ∷ []) (events ++ events_at (n + 1) t) ts ∙ ap (λ (f : Front). stated_all f ts) first)

events_push : (n : ℕ) (lines : List Line) (line : Line) → events_from n (lines ++ line ∷ []) ≡ events_from n lines ++ flat_map (events_at ((n + length lines) + 1)) (statements_by line)
events_push n [] line = append-nil (flat_map (events_at (n + 1)) (statements_by line)) ∙ ap (λ k. flat_map (events_at (k + 1)) (statements_by line)) (omega arith)
events_push n (l ∷ ls) line =
    let number : (n + 1) + length ls ≡ n + suc (length ls) = omega arith in
    let more : events_from (n + 1) (ls ++ line ∷ []) ≡ events_from (n + 1) ls ++ flat_map (events_at ((n + suc (length ls)) + 1)) (statements_by line) = events_push (n + 1) ls line ∙ ap (λ k. events_from (n + 1) ls ++ flat_map (events_at (k + 1)) (statements_by line)) number in
    ap (λ (es : List Numbered). flat_map (events_at (n + 1)) (statements_by l) ++ es) more
    ∙ sym (append_assoc (flat_map (events_at (n + 1)) (statements_by l)) (events_from (n + 1) ls) (flat_map (events_at ((n + suc (length ls)) + 1)) (statements_by line)))

statements_push : (lines : List Line) (line : Line) → statements_of (lines ++ line ∷ []) ≡ statements_of lines ++ statements_by line
statements_push lines line = flat_map-append statements_by lines (line ∷ []) ∙ ap (λ (ss : List Statement). statements_of lines ++ ss) (append-nil (statements_by line))

pub front_push : (lines : List Line) (line : Line) → front_of (lines ++ line ∷ []) ≡ front_after (front_of lines) line
front_push lines line =
    let ss : List Statement = statements_of lines in
    let ts : List Statement = statements_by line in
    let n : ℕ = length lines in
    let start : n + 1 ≡ (0 + n) + 1 = omega arith in
    let events : events_from 0 (lines ++ line ∷ []) ≡ events_from 0 lines ++ flat_map (events_at (n + 1)) ts = events_push 0 lines line ∙ ap (λ k. events_from 0 lines ++ flat_map (events_at k) ts) (sym start) in
    let parts : made n (place_after (statements_of (lines ++ line ∷ []))) (declarations_of (statements_of (lines ++ line ∷ []))) (events_from 0 (lines ++ line ∷ [])) ≡ stated_all (front_of lines) ts = made_same n _ _ _ _ _ _ (ap place_after (statements_push lines line)) (ap declarations_of (statements_push lines line)) events ∙ stated_more n ss (events_from 0 lines) ts in
    ap (λ k. made k (place_after (statements_of (lines ++ line ∷ []))) (declarations_of (statements_of (lines ++ line ∷ []))) (events_from 0 (lines ++ line ∷ []))) (length_push lines line)
    ∙ ap past_line parts

-- ---- as many events as lines at most

statement_few : (n : ℕ) (s : Statement) → length (events_at n s) ≤ 1
statement_few n Plain = omega arith
statement_few n House = omega arith
statement_few n (Declare d) = omega arith
statement_few n Begin = omega arith
statement_few n (Happen e) = omega arith

said_few : (n : ℕ) (said : Option Statement) → length (flat_map (events_at n) (option_to_list said)) ≤ 1
said_few n None = omega arith
said_few n (Some s) = subst (λ k. k ≤ 1) (ap length (sym (append-nil (events_at n s)))) (statement_few n s)

line_few : (n : ℕ) (line : Line) → length (flat_map (events_at n) (statements_by line)) ≤ 1
line_few n line = elim (passes_over line) as (λ b. length (flat_map (events_at n) (cond b [] (option_to_list (said_by line)))) ≤ 1) [ true ↦ omega arith | false ↦ said_few n (said_by line) ]

pub events_few : (n : ℕ) (lines : List Line) → length (events_from n lines) ≤ length lines
events_few n [] = omega arith
events_few n (line ∷ lines) = omega (arith, length-append (flat_map (events_at (n + 1)) (statements_by line)) (events_from (n + 1) lines), line_few (n + 1) line, events_few (n + 1) lines)

-- ---- no line left

pub whole_is : (lines : List Line) → reading_whole lines ≡ whole_of (front_of lines)
whole_is lines = by_statements (statements_of lines) refl
  where
    by_statements : (ss : List Statement) → statements_of lines ≡ ss → reading_whole lines ≡ whole_of (front_of lines)
    by_statements [] e = rw e refl
    by_statements (s ∷ ss) e = by_begin (list_any is_begin (s ∷ ss)) refl
      where
        by_begin : (b : Bool) → list_any is_begin (s ∷ ss) ≡ b → reading_whole lines ≡ whole_of (front_of lines)
        by_begin true f = rw (e, f) refl
        by_begin false f = rw (e, f) refl

-- ---- the loop over the lines

-- the rule of a line behind a front
abbrev pub line_rule_at : Front → Line → Option ScriptRule
line_rule_at front line = rule_behind front line

-- the lines before those left, and what they come to
abbrev pub IsRead : List Line → List Line → Front → Type 0
IsRead all left front = IsReadTo line_rule front_of all left front

pub starts : (all left : List Line) (front : Front) → left ≡ all → front ≡ front_of [] → IsRead all left front
starts all left front e f = starts_to line_rule front_of all left front e f

pub few_events : (all left : List Line) (front : Front) → IsRead all left front → length front.events ≤ front.number
few_events all left front r = subst (λ (f : Front). length f.events ≤ f.number) (sym r.front_is) (events_few 0 r.before)

pub goes_on : (all left : List Line) (front : Front) (line : Line) (rest : List Line) (after : Front) → IsRead all left front → left ≡ line ∷ rest → line_rule_at front line ≡ None → after ≡ front_after front line → IsRead all rest after
goes_on all left front line rest after r is none next = goes_on_to line_rule front_of rule_behind front_after (λ before line. refl) front_push all left front line rest after r is none next

pub refuses : (all left : List Line) (front : Front) (line : Line) (rest : List Line) (rule : ScriptRule) → IsRead all left front → left ≡ line ∷ rest → line_rule_at front line ≡ Some rule → unless_refused (first_refused line_rule [] all) (reading_whole all) ≡ Err (record { line = front.number + 1; rule = rule })
refuses all left front line rest rule r is some = refuses_to line_rule front_of rule_behind (λ before line. refl) all left front line rest rule front.number (reading_whole all) r is some (sym (ap (λ (f : Front). f.number) r.front_is))

pub ends : (all left : List Line) (front : Front) → IsRead all left front → left ≡ [] → unless_refused (first_refused line_rule [] all) (reading_whole all) ≡ whole_of front
ends all left front r none =
    let found = ends_to line_rule front_of all left front (reading_whole all) r none in
    found.1 ∙ (ap reading_whole (sym found.0) ∙ (whole_is r.before ∙ ap whole_of (sym r.front_is)))

-- the number of a front is small where the script is
pub number_small : (text : List ℕ) (left : List Line) (front : Front) → IsRead (lines_of text) left front → front.number + length left ≤ length text
number_small text left front r =
    omega (arith, before_few line_rule front_of text left front r, ap (λ (f : Front). f.number) r.front_is)
