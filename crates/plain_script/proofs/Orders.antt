-- The order of a script's lines, from the rules that they keep.
use Rattle.std.proofs.Common.{◌≡◌, ℕ, ◌+◌, Bool, true, false, cond, leb, map, Option, Some, None, List, [], ◌∷◌, ◌++◌, length, refl, sym, ap, subst, ◌∙◌, inl, inr, ◌⊎◌}
use Rattle.std.specs.List.{list_any, flat_map}
use Rattle.std.proofs.lemmas.Bool.{and_parts, cases_Bool, cond-false}
use Rattle.std.proofs.lemmas.List.{map-append}
use Rattle.std.proofs.lemmas.List.Concat.{flat_map-append}
use Rattle.std.specs.Option.{option_to_list}
use Rattle.line_text.specs.Lines.{Line, is_passed_over}
use Rattle.plain_script.specs.Said.{statement_of}
use Rattle.plain_script.specs.Rules.{declarations_of, declared_by, is_begin, statement_rule, said_rule}
use Rattle.script_lines.specs.LineRules.{passes_over}
use Rattle.script_lines.specs.Refusals.{Refused, at_line, first_refused}
use Rattle.script_lines.proofs.Lesser.{lesser_none}
use Rattle.plain_script.specs.Reading.{said_by, statements_by, statements_of, events_from, events_at, line_rule}
use Rattle.plain_script.specs.Fronts.{Front, front_of, rule_behind, next_place, front_after}
use Rattle.plain_script.specs.Spelling.{happening}
use Rattle.plain_script.specs.declared.declaration.Declaration.{Declaration}
use Rattle.plain_script.specs.declared.event.Event.{Event}
use Rattle.plain_script.specs.declared.statement.Statement.{Statement}
use Rattle.plain_script.specs.declared.statement.Statement.TheVariants.{Plain, House, Declare, Begin, Happen}
use Rattle.script_lines.specs.declared.rule.ScriptRule.{ScriptRule}
use Rattle.script_lines.specs.declared.place.Place.{Place}
use Rattle.script_lines.specs.declared.place.Place.TheVariants.{Head, Declarations, Events}
use Rattle.plain_script.proofs.Fronting.{front_push}

-- no line breaks a rule behind a front
abbrev pub Keeps : Front → List Line → Type 0
Keeps front [] = Unit {0}
Keeps front (line ∷ lines) = (rule_behind front line ≡ None) × Keeps (front_after front line) lines

pub at_line_none : (n : ℕ) (rule : Option ScriptRule) (later : Option Refused) → at_line n rule later ≡ None → (rule ≡ None) × (later ≡ None)
at_line_none n None later e = (refl, e)
at_line_none n (Some rule) later e = absurd cc

pub keeps_from : (before lines : List Line) → first_refused line_rule before lines ≡ None → Keeps (front_of before) lines
keeps_from before [] e = tt
keeps_from before (line ∷ lines) e =
    let h = at_line_none (length before + 1) (line_rule before line) (first_refused line_rule (before ++ line ∷ []) lines) e in
    (h.0, subst (λ (f : Front). Keeps f lines) (front_push before line) (keeps_from (before ++ line ∷ []) lines h.1))

-- ---- one line

-- the line has its end, and is passed over
pub record IsPassed (line : Line) : Type 0 where
  pub ended : line.ended ≡ true
  pub passed : is_passed_over line.text ≡ true
  pub nothing : statements_by line ≡ []

-- the line has its end, and says this, which breaks no rule behind the front
pub record IsSaid (front : Front) (line : Line) (s : Statement) : Type 0 where
  pub ended : line.ended ≡ true
  pub said : statement_of line.text ≡ Some s
  pub one : statements_by line ≡ s ∷ []
  pub kept : statement_rule front.place front.declarations s ≡ None

said_none : (n : ℕ) (p : Place) (ds : List Declaration) (said : Option Statement) → said_rule n p ds said ≡ None → (s : Statement) × (said ≡ Some s) × (statement_rule p ds s ≡ None)
said_none n p ds None e = absurd cc
said_none n p ds (Some s) e = (s, refl, lesser_none (statement_rule p ds s) _ e)

said_ended : (ended : Bool) (o : Option Statement) (s : Statement) → cond ended o None ≡ Some s → (ended ≡ true) × (o ≡ Some s)
said_ended true o s e = (refl, e)
said_ended false o s e = absurd cc

pub one_line : (front : Front) (line : Line) → rule_behind front line ≡ None → IsPassed line ⊎ ((s : Statement) × IsSaid front line s)
one_line front line e =
    elim (cases_Bool (passes_over line)) [
      | inl passed ↦
          let parts = and_parts line.ended (is_passed_over line.text) passed in
          inl (record { ended = parts.0; passed = parts.1; nothing = rw passed refl })
      | inr said ↦
          let rule : said_rule front.number front.place front.declarations (said_by line) ≡ None = sym (cond-false (passes_over line) None (said_rule front.number front.place front.declarations (said_by line)) said) ∙ e in
          let s = said_none front.number front.place front.declarations (said_by line) rule in
          let parts = said_ended line.ended (statement_of line.text) s.0 s.1 in
          inr (s.0, record { ended = parts.0; said = parts.1; one = cond-false (passes_over line) [] (option_to_list (said_by line)) said ∙ ap option_to_list s.1; kept = s.2 })
    ]

-- ---- the order

place_passed : (front : Front) (line : Line) → statements_by line ≡ [] → (front_after front line).place ≡ front.place
place_passed front line e = rw e refl

place_said : (front : Front) (line : Line) (s : Statement) → statements_by line ≡ s ∷ [] → (front_after front line).place ≡ next_place front.place s
place_said front line s e = rw e refl

statements_passed : (line : Line) (lines : List Line) → statements_by line ≡ [] → statements_of (line ∷ lines) ≡ statements_of lines
statements_passed line lines e = ap (λ (ss : List Statement). ss ++ statements_of lines) e

statements_said : (line : Line) (lines : List Line) (s : Statement) → statements_by line ≡ s ∷ [] → statements_of (line ∷ lines) ≡ s ∷ statements_of lines
statements_said line lines s e = ap (λ (ss : List Statement). ss ++ statements_of lines) e

event_there : (ds : List Declaration) (s : Statement) → statement_rule Events ds s ≡ None → (e : Event) × (s ≡ Happen e)
event_there ds Plain e = absurd cc
event_there ds House e = absurd cc
event_there ds (Declare d) e = absurd cc
event_there ds Begin e = absurd cc
event_there ds (Happen event) e = (event, refl)

declaration_there : (ds : List Declaration) (s : Statement) → statement_rule Declarations ds s ≡ None → (s ≡ Begin) ⊎ ((d : Declaration) × (s ≡ Declare d))
declaration_there ds Plain e = absurd cc
declaration_there ds House e = absurd cc
declaration_there ds (Declare d) e = inr (d, refl)
declaration_there ds Begin e = inl refl
declaration_there ds (Happen event) e = absurd cc

head_there : (ds : List Declaration) (s : Statement) → statement_rule Head ds s ≡ None → s ≡ Plain
head_there ds Plain e = refl
head_there ds House e = absurd cc
head_there ds (Declare d) e = absurd cc
head_there ds Begin e = absurd cc
head_there ds (Happen event) e = absurd cc

rule_at_place : (front : Front) (p : Place) (s : Statement) → front.place ≡ p → statement_rule front.place front.declarations s ≡ None → statement_rule p front.declarations s ≡ None
rule_at_place front p s at e = ap (λ (q : Place). statement_rule q front.declarations s) (sym at) ∙ e

AreEvents : List Statement → Type 0
AreEvents ss = (es : List Event) × (ss ≡ map Happen es)

events_there : (front : Front) (lines : List Line) → front.place ≡ Events → Keeps front lines → (es : List Event) × (statements_of lines ≡ map Happen es)
events_there front [] at h = ([], refl)
events_there front (line ∷ lines) at h =
    elim (one_line front line h.0) [
      | inl passed ↦
          let rest = events_there (front_after front line) lines (place_passed front line passed.nothing ∙ at) h.1 in
          (rest.0, statements_passed line lines passed.nothing ∙ rest.1)
      | inr said ↦
          let s : Statement = said.0 in
          let e = event_there front.declarations s (rule_at_place front Events s at said.1.kept) in
          let next : (front_after front line).place ≡ Events = place_said front line s said.1.one ∙ ap (λ (p : Place). next_place p s) at in
          let rest = events_there (front_after front line) lines next h.1 in
          (e.0 ∷ rest.0, statements_said line lines s said.1.one ∙ (ap (λ (t : Statement). t ∷ statements_of lines) e.1 ∙ ap (λ (ss : List Statement). Happen e.0 ∷ ss) rest.1))
    ]

-- declarations, and maybe `begin` and events behind them
pub record AreDeclared (ss : List Statement) : Type 0 where
  pub declarations : List Declaration
  pub rest : (ss ≡ map Declare declarations) ⊎ ((es : List Event) × (ss ≡ map Declare declarations ++ Begin ∷ map Happen es))

declared_more : (d : Declaration) (ss : List Statement) → AreDeclared ss → AreDeclared (Declare d ∷ ss)
declared_more d ss h =
    record {
      declarations = d ∷ h.declarations;
      rest = elim h.rest [ inl e ↦ inl (ap (λ (ts : List Statement). Declare d ∷ ts) e) | inr e ↦ inr (e.0, ap (λ (ts : List Statement). Declare d ∷ ts) e.1) ];
    }

declarations_there : (front : Front) (lines : List Line) → front.place ≡ Declarations → Keeps front lines → AreDeclared (statements_of lines)
declarations_there front [] at h = record { declarations = []; rest = inl refl }
declarations_there front (line ∷ lines) at h =
    elim (one_line front line h.0) [
      | inl passed ↦ subst AreDeclared (sym (statements_passed line lines passed.nothing)) (declarations_there (front_after front line) lines (place_passed front line passed.nothing ∙ at) h.1)
      | inr said ↦
          let s : Statement = said.0 in
          let next : (front_after front line).place ≡ next_place Declarations s = place_said front line s said.1.one ∙ ap (λ (p : Place). next_place p s) at in
          let whole : statements_of (line ∷ lines) ≡ s ∷ statements_of lines = statements_said line lines s said.1.one in
          elim (declaration_there front.declarations s (rule_at_place front Declarations s at said.1.kept)) [
            | inl begins ↦
                let rest = events_there (front_after front line) lines (next ∙ ap (next_place Declarations) begins) h.1 in
                record { declarations = []; rest = inr (rest.0, whole ∙ (ap (λ (t : Statement). t ∷ statements_of lines) begins ∙ ap (λ (ss : List Statement). Begin ∷ ss) rest.1)) }
            | inr d ↦
                let rest = declarations_there (front_after front line) lines (next ∙ ap (next_place Declarations) d.1) h.1 in
                subst AreDeclared (sym (whole ∙ ap (λ (t : Statement). t ∷ statements_of lines) d.1)) (declared_more d.0 (statements_of lines) rest)
          ]
    ]

pub head_is : (front : Front) (lines : List Line) → front.place ≡ Head → Keeps front lines → (statements_of lines ≡ []) ⊎ ((ss : List Statement) × (statements_of lines ≡ Plain ∷ ss) × AreDeclared ss)
head_is front [] at h = inl refl
head_is front (line ∷ lines) at h =
    elim (one_line front line h.0) [
      | inl passed ↦
          elim (head_is (front_after front line) lines (place_passed front line passed.nothing ∙ at) h.1) [
            | inl none ↦ inl (statements_passed line lines passed.nothing ∙ none)
            | inr some ↦ inr (some.0, statements_passed line lines passed.nothing ∙ some.1, some.2)
          ]
      | inr said ↦
          let s : Statement = said.0 in
          let plain : s ≡ Plain = head_there front.declarations s (rule_at_place front Head s at said.1.kept) in
          let next : (front_after front line).place ≡ Declarations = place_said front line s said.1.one ∙ (ap (λ (p : Place). next_place p s) at ∙ ap (next_place Head) plain) in
          inr (statements_of lines, statements_said line lines s said.1.one ∙ ap (λ (t : Statement). t ∷ statements_of lines) plain, declarations_there (front_after front line) lines next h.1)
    ]

-- ---- what statements in order declare and tell

abbrev pub happened_by : Statement → List Event
happened_by Plain = []
happened_by House = []
happened_by (Declare d) = []
happened_by Begin = []
happened_by (Happen e) = e ∷ []

happening_one : (n : ℕ) (s : Statement) → map happening (events_at n s) ≡ happened_by s
happening_one n Plain = refl
happening_one n House = refl
happening_one n (Declare d) = refl
happening_one n Begin = refl
happening_one n (Happen e) = refl

happening_all : (n : ℕ) (ss : List Statement) → map happening (flat_map (events_at n) ss) ≡ flat_map happened_by ss
happening_all n [] = refl
happening_all n (s ∷ ss) = map-append happening (events_at n s) (flat_map (events_at n) ss) ∙ rw (happening_one n s, happening_all n ss) refl

pub happening_lines : (n : ℕ) (lines : List Line) → map happening (events_from n lines) ≡ flat_map happened_by (statements_of lines)
happening_lines n [] = refl
happening_lines n (line ∷ lines) =
    map-append happening (flat_map (events_at (n + 1)) (statements_by line)) (events_from (n + 1) lines)
    ∙ rw (happening_all (n + 1) (statements_by line), happening_lines (n + 1) lines) (sym (flat_map-append happened_by (statements_by line) (statements_of lines)))

-- the statements of a script in order
abbrev pub ordered : List Declaration → List Event → List Statement
ordered ds es = Plain ∷ (map Declare ds ++ Begin ∷ map Happen es)

nothing_declared : (es : List Event) → flat_map declared_by (map Happen es) ≡ []
nothing_declared [] = refl
nothing_declared (e ∷ es) = nothing_declared es

pub ordered_declare : (ds : List Declaration) (es : List Event) → declarations_of (ordered ds es) ≡ ds
ordered_declare [] es = nothing_declared es
ordered_declare (d ∷ ds) es = ap (λ (xs : List Declaration). d ∷ xs) (ordered_declare ds es)

events_happen : (es : List Event) → flat_map happened_by (map Happen es) ≡ es
events_happen [] = refl
events_happen (e ∷ es) = ap (λ (xs : List Event). e ∷ xs) (events_happen es)

pub ordered_happen : (ds : List Declaration) (es : List Event) → flat_map happened_by (ordered ds es) ≡ es
ordered_happen [] es = events_happen es
ordered_happen (d ∷ ds) es = ordered_happen ds es

pub ordered_begins : (ds : List Declaration) (es : List Event) → list_any is_begin (ordered ds es) ≡ true
ordered_begins [] es = refl
ordered_begins (d ∷ ds) es = ordered_begins ds es

pub unbegun : (ds : List Declaration) → list_any is_begin (Plain ∷ map Declare ds) ≡ false
unbegun [] = refl
unbegun (d ∷ ds) = unbegun ds
