-- What is read keeps the rules of declarations, and has few events.
use Rattle.std.proofs.Common.{◌≡◌, ℕ, ◌+◌, ◌-◌, ◌^◌, ◌<◌, ◌||◌, None, List, [], ◌∷◌, ◌++◌, length, Ok, sym, subst, inl, inr, arith, append_assoc}
use Rattle.std.specs.List.{list_any}
use Rattle.std.proofs.lemmas.List.{append-nil}
use Rattle.line_text.specs.Lines.{Line, lines_of}
use Rattle.plain_script.specs.Rules.{declarations_of, declared_by, is_begin, statement_rule, DeclareByRules}
use Rattle.script_lines.specs.Refusals.{first_refused}
use Rattle.plain_script.specs.Reading.{ScriptTold, statements_of, events_from, line_rule, says_nothing, reading_of}
use Rattle.plain_script.specs.Fronts.{Front, front_of, rule_behind, front_after}
use Rattle.plain_script.specs.declared.declaration.Declaration.{Declaration}
use Rattle.plain_script.specs.declared.statement.Statement.{Statement}
use Rattle.plain_script.specs.declared.statement.Statement.TheVariants.{Plain, House, Declare, Begin, Happen}
use Rattle.script_lines.specs.declared.place.Place.{Place}
use Rattle.script_lines.specs.declared.place.Place.TheVariants.{Head, Declarations, Events}
use Rattle.script_lines.specs.declared.rule.ScriptRule.TheVariants.{BadLine}
use Rattle.plain_script.proofs.Opened.{rules_push}
use Rattle.plain_script.proofs.Orders.{one_line, at_line_none}
use Rattle.plain_script.proofs.Fronting.{front_push, events_few}
use Rattle.script_lines.proofs.ReadTo.{lines_few}
use Rattle.plain_script.proofs.ScriptSpelling.{within, unrefused, chosen_ok}

-- a statement that breaks no rule leaves declarations that keep the rules
stated_rules : (place : Place) (ds : List Declaration) (s : Statement) → DeclareByRules [] ds → statement_rule place ds s ≡ None → DeclareByRules [] (ds ++ declared_by s)
stated_rules Declarations ds (Declare d) keep none = rules_push [] ds d keep none
stated_rules Head ds (Declare d) keep none = absurd cc
stated_rules Events ds (Declare d) keep none = absurd cc
stated_rules place ds Plain keep none = subst (DeclareByRules []) (sym (append-nil ds)) keep
stated_rules place ds House keep none = subst (DeclareByRules []) (sym (append-nil ds)) keep
stated_rules place ds Begin keep none = subst (DeclareByRules []) (sym (append-nil ds)) keep
stated_rules place ds (Happen e) keep none = subst (DeclareByRules []) (sym (append-nil ds)) keep

line_keeps : (front : Front) (line : Line) → DeclareByRules [] front.declarations → rule_behind front line ≡ None → DeclareByRules [] (front_after front line).declarations
line_keeps front line keep none =
    elim (one_line front line none) [
      | inl passed ↦ rw passed.nothing keep
      | inr said ↦ rw said.1.one (stated_rules front.place front.declarations said.0 keep said.1.kept)
    ]

rules_from : (before rest : List Line) → DeclareByRules [] (declarations_of (statements_of before)) → first_refused line_rule before rest ≡ None → DeclareByRules [] (declarations_of (statements_of (before ++ rest)))
rules_from before [] keep none = subst (λ (ls : List Line). DeclareByRules [] (declarations_of (statements_of ls))) (sym (append-nil before)) keep
rules_from before (line ∷ rest) keep none =
    let here = at_line_none (length before + 1) (line_rule before line) (first_refused line_rule (before ++ line ∷ []) rest) none in
    let next : DeclareByRules [] (front_of (before ++ line ∷ [])).declarations = subst (λ (f : Front). DeclareByRules [] f.declarations) (sym (front_push before line)) (line_keeps (front_of before) line keep here.0) in
    subst (λ (ls : List Line). DeclareByRules [] (declarations_of (statements_of ls))) (append_assoc before (line ∷ []) rest) (rules_from (before ++ line ∷ []) rest next here.1)

-- no line is refused, and what is read is what the lines say
read_lines : (script : List ℕ) (told : ScriptTold) → reading_of script ≡ Ok told → (first_refused line_rule [] (lines_of script) ≡ None) × (record { declarations = declarations_of (statements_of (lines_of script)); events = events_from 0 (lines_of script) } ≡ told)
read_lines script told e =
    let lines : List Line = lines_of script in
    let b = unrefused lines (first_refused line_rule [] lines) told (within script told e).1 in
    (b.0, (chosen_ok (says_nothing (statements_of lines) || list_any is_begin (statements_of lines)) (record { declarations = declarations_of (statements_of lines); events = events_from 0 lines }) told (record { line = length lines + 1; rule = BadLine }) b.1).1)

pub declared_good : (script : List ℕ) (told : ScriptTold) → reading_of script ≡ Ok told → DeclareByRules [] told.declarations
declared_good script told e =
    let read = read_lines script told e in
    subst (λ (t : ScriptTold). DeclareByRules [] t.declarations) read.1 (rules_from [] (lines_of script) tt read.0)

pub few_happen : (script : List ℕ) (told : ScriptTold) → reading_of script ≡ Ok told → length told.events < 2 ^ 32 - 1
few_happen script told e =
    let small = (within script told e).0 in
    subst (λ (t : ScriptTold). length t.events < 2 ^ 32 - 1) (read_lines script told e).1 (omega (arith, small, lines_few script, events_few 0 (lines_of script)))
