-- The line that is refused is the first one that breaks a rule.
use Rattle.std.proofs.Common.{◌≡◌, ℕ, zero, suc, ◌+◌, ◌<◌, Option, Some, None, List, [], ◌∷◌, ◌++◌, length, take, refl, sym, ap, ◌∙◌, arith, append_assoc}
use Rattle.std.specs.Prelude.{slice_get, option_and_then}
use Rattle.std.proofs.lemmas.List.{append-nil, length_push}
use Rattle.line_text.specs.Lines.{Line}
use Rattle.script_lines.specs.Refusals.{Refused, LineRule, at_line, first_refused}
use Rattle.script_lines.specs.declared.rule.ScriptRule.{ScriptRule}

-- the rule that a line of those left breaks, by its position among them
abbrev rule_from : LineRule → List Line → List Line → ℕ → Option ScriptRule
rule_from lr before rest k = option_and_then (lr (before ++ take k rest)) (slice_get rest k)

rule_next : (lr : LineRule) → (before : List Line) (line : Line) (rest : List Line) (k : ℕ) → rule_from lr (before ++ line ∷ []) rest k ≡ rule_from lr before (line ∷ rest) (suc k)
rule_next lr before line rest k = ap (λ (ls : List Line). option_and_then (lr ls) (slice_get rest k)) (append_assoc before (line ∷ []) (take k rest))

rule_here : (lr : LineRule) → (before : List Line) (line : Line) (rest : List Line) → rule_from lr before (line ∷ rest) 0 ≡ lr before line
rule_here lr before line rest = ap (λ (ls : List Line). lr ls line) (append-nil before)

-- what the rule of a line and the refusal behind it come to

record IsFirstFrom (lr : LineRule) (before rest : List Line) (refused : Refused) : Type 0 where
  at : ℕ
  line : refused.line ≡ length before + at + 1
  breaks : rule_from lr before rest at ≡ Some refused.rule
  earlier : (j : ℕ) → j < at → rule_from lr before rest j ≡ None

none_first : (lr : LineRule) → (before rest : List Line) → ((k : ℕ) → rule_from lr before rest k ≡ None) → first_refused lr before rest ≡ None
none_first lr before [] h = refl
none_first lr before (line ∷ rest) h =
    let here : lr before line ≡ None = sym (rule_here lr before line rest) ∙ h 0 in
    let later : first_refused lr (before ++ line ∷ []) rest ≡ None = none_first lr (before ++ line ∷ []) rest (λ k. rule_next lr before line rest k ∙ h (suc k)) in
    rw (here, later) refl

first_none : (lr : LineRule) → (before rest : List Line) → first_refused lr before rest ≡ None → (k : ℕ) → rule_from lr before rest k ≡ None
first_none lr before [] e k = refl
first_none lr before (line ∷ rest) e k = by_rule (lr before line) refl (first_none lr (before ++ line ∷ []) rest) k
  where
    by_rule : (o : Option ScriptRule) → lr before line ≡ o → (first_refused lr (before ++ line ∷ []) rest ≡ None → (k : ℕ) → rule_from lr (before ++ line ∷ []) rest k ≡ None) → (k : ℕ) → rule_from lr before (line ∷ rest) k ≡ None
    by_rule None here more zero = rule_here lr before line rest ∙ here
    by_rule None here more (suc k) = sym (rule_next lr before line rest k) ∙ more (sym (ap (λ (o : Option ScriptRule). at_line (length before + 1) o (first_refused lr (before ++ line ∷ []) rest)) here) ∙ e) k
    by_rule (Some rule) here more k = absurd (let f : at_line (length before + 1) (Some rule) (first_refused lr (before ++ line ∷ []) rest) ≡ None = sym (ap (λ (o : Option ScriptRule). at_line (length before + 1) o (first_refused lr (before ++ line ∷ []) rest)) here) ∙ e in cc)

some_is : (r : Refused) (s : Refused) → Some r ≡ Some s → r ≡ s
some_is r s e = cc

first_some : (lr : LineRule) → (before rest : List Line) (r : Refused) → first_refused lr before rest ≡ Some r → IsFirstFrom lr before rest r
first_some lr before [] r e = absurd cc
first_some lr before (line ∷ rest) r e = by_rule (lr before line) refl (first_some lr (before ++ line ∷ []) rest r)
  where
    by_rule : (o : Option ScriptRule) → lr before line ≡ o → (first_refused lr (before ++ line ∷ []) rest ≡ Some r → IsFirstFrom lr (before ++ line ∷ []) rest r) → IsFirstFrom lr before (line ∷ rest) r
    by_rule None here more =
        let later : first_refused lr (before ++ line ∷ []) rest ≡ Some r = sym (ap (λ (o : Option ScriptRule). at_line (length before + 1) o (first_refused lr (before ++ line ∷ []) rest)) here) ∙ e in
        let found = more later in
        record {
          at = suc found.at;
          line = omega (arith, found.line, length_push before line);
          breaks = sym (rule_next lr before line rest found.at) ∙ found.breaks;
          earlier = λ j. elim j as (λ j. j < suc found.at → rule_from lr before (line ∷ rest) j ≡ None) [ zero ↦ λ h. rule_here lr before line rest ∙ here | suc i ↦ λ h. sym (rule_next lr before line rest i) ∙ found.earlier i (omega arith) ];
        }
    by_rule (Some rule) here more =
        let same : record { line = length before + 1; rule = rule } ≡ r = some_is (record { line = length before + 1; rule = rule }) r (sym (ap (λ (o : Option ScriptRule). at_line (length before + 1) o (first_refused lr (before ++ line ∷ []) rest)) here) ∙ e) in
        record {
          at = 0;
          line = sym (ap (λ (x : Refused). x.line) same) ∙ omega arith;
          breaks = rule_here lr before line rest ∙ (here ∙ ap (λ (x : Refused). Some x.rule) same);
          earlier = λ j h. absurd (omega arith);
        }

some_first : (lr : LineRule) → (before rest : List Line) (k : ℕ) (rule : ScriptRule) → rule_from lr before rest k ≡ Some rule → ((j : ℕ) → j < k → rule_from lr before rest j ≡ None) → first_refused lr before rest ≡ Some (record { line = length before + k + 1; rule = rule })
some_first lr before [] k rule e earlier = absurd cc
some_first lr before (line ∷ rest) zero rule e earlier =
    let here : lr before line ≡ Some rule = sym (rule_here lr before line rest) ∙ e in
    let number : length before + 1 ≡ length before + 0 + 1 = omega arith in
    rw here (ap (λ n. Some (record { line = n; rule = rule })) number)
some_first lr before (line ∷ rest) (suc k) rule e earlier =
    let here : lr before line ≡ None = sym (rule_here lr before line rest) ∙ earlier 0 (omega arith) in
    let later = some_first lr (before ++ line ∷ []) rest k rule (rule_next lr before line rest k ∙ e) (λ j h. rule_next lr before line rest j ∙ earlier (suc j) (omega arith)) in
    let number : length (before ++ line ∷ []) + k + 1 ≡ length before + suc k + 1 = omega (arith, length_push before line) in
    rw here (later ∙ ap (λ n. Some (record { line = n; rule = rule })) number)

-- for all lines of a script

pub kept_all : (lr : LineRule) → (lines : List Line) → ((k : ℕ) → rule_from lr [] lines k ≡ None) → first_refused lr [] lines ≡ None
kept_all lr lines h = none_first lr [] lines h

pub all_kept : (lr : LineRule) → (lines : List Line) → first_refused lr [] lines ≡ None → (k : ℕ) → rule_from lr [] lines k ≡ None
all_kept lr lines e = first_none lr [] lines e

pub refused_first : (lr : LineRule) → (lines : List Line) (k : ℕ) (rule : ScriptRule) → (rule_from lr [] lines k ≡ Some rule) × ((j : ℕ) → j < k → rule_from lr [] lines j ≡ None) → first_refused lr [] lines ≡ Some (record { line = k + 1; rule = rule })
refused_first lr lines k rule h =
    let number : 0 + k + 1 ≡ k + 1 = omega arith in
    some_first lr [] lines k rule h.0 h.1 ∙ ap (λ n. Some (record { line = n; rule = rule })) number

pub first_refused_at : (lr : LineRule) → (lines : List Line) (r : Refused) → first_refused lr [] lines ≡ Some r → (k : ℕ) × (r.line ≡ k + 1) × (rule_from lr [] lines k ≡ Some r.rule) × ((j : ℕ) → j < k → rule_from lr [] lines j ≡ None)
first_refused_at lr lines r e =
    let found = first_some lr [] lines r e in
    (found.at, omega (arith, found.line), found.breaks, found.earlier)

pub first_refused_is : (lr : LineRule) → (lines : List Line) (k : ℕ) (rule : ScriptRule) → first_refused lr [] lines ≡ Some (record { line = k + 1; rule = rule }) → (rule_from lr [] lines k ≡ Some rule) × ((j : ℕ) → j < k → rule_from lr [] lines j ≡ None)
first_refused_is lr lines k rule e =
    let found = first_some lr [] lines (record { line = k + 1; rule = rule }) e in
    let same : found.at ≡ k = omega (arith, found.line) in
    (ap (rule_from lr [] lines) (sym same) ∙ found.breaks, λ j h. found.earlier j (omega arith))
