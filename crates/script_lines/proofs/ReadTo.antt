-- Reading a script line by line: what the lines before come to, and which line is refused.
use Rattle.std.proofs.Common.{◌≡◌, ℕ, suc, ◌+◌, ◌≤◌, Bool, true, false, cond, ◌==◌, Option, Some, None, Result, Ok, Err, List, [], ◌∷◌, ◌++◌, length, refl, sym, ap, ◌∙◌, arith, append_assoc}
use Rattle.std.proofs.lemmas.List.{append-nil, length-append}
use Rattle.line_text.specs.Lines.{Line, lines_of, onto_first_line}
use Rattle.script_lines.specs.Refusals.{Refused, LineRule, at_line, first_refused, unless_refused}
use Rattle.script_lines.specs.declared.rule.ScriptRule.{ScriptRule}

-- the lines before those left, and what they come to
pub record IsReadTo {F : Type 0} (lr : LineRule) (front_of : List Line → F) (all left : List Line) (front : F) : Type 0 where
  pub before : List Line
  pub front_is : front ≡ front_of before
  pub whole : before ++ left ≡ all
  pub so_far : first_refused lr before left ≡ first_refused lr [] all

pub starts : {F : Type 0} (lr : LineRule) (front_of : List Line → F) (all left : List Line) (front : F) → left ≡ all → front ≡ front_of [] → IsReadTo lr front_of all left front
starts lr front_of all left front e f = record { before = []; front_is = f; whole = e; so_far = ap (first_refused lr []) e }

at_none : (n : ℕ) (rule : Option ScriptRule) (later : Option Refused) → rule ≡ None → at_line n rule later ≡ later
at_none n rule later e = rw e refl

at_some : (n : ℕ) (rule : Option ScriptRule) (r : ScriptRule) (later : Option Refused) → rule ≡ Some r → at_line n rule later ≡ Some (record { line = n; rule = r })
at_some n rule r later e = rw e refl

-- a line that breaks no rule
pub goes_on : {F : Type 0} (lr : LineRule) (front_of : List Line → F) (rule_behind : F → Line → Option ScriptRule) (after : F → Line → F) → ((before : List Line) (line : Line) → lr before line ≡ rule_behind (front_of before) line) → ((before : List Line) (line : Line) → front_of (before ++ line ∷ []) ≡ after (front_of before) line) → (all left : List Line) (front : F) (line : Line) (rest : List Line) (next : F) → IsReadTo lr front_of all left front → left ≡ line ∷ rest → rule_behind front line ≡ None → next ≡ after front line → IsReadTo lr front_of all rest next
goes_on {F = F} lr front_of rule_behind after by_front push all left front line rest next r is none then =
    let rule : lr r.before line ≡ None = by_front r.before line ∙ (ap (λ (f : F). rule_behind f line) (sym r.front_is) ∙ none) in
    record {
      before = r.before ++ line ∷ [];
      front_is = then ∙ (ap (λ (f : F). after f line) r.front_is ∙ sym (push r.before line));
      whole = append_assoc r.before (line ∷ []) rest ∙ (ap (λ (ls : List Line). r.before ++ ls) (sym is) ∙ r.whole);
      so_far = sym (at_none (length r.before + 1) (lr r.before line) (first_refused lr (r.before ++ line ∷ []) rest) rule) ∙ (ap (first_refused lr r.before) (sym is) ∙ r.so_far);
    }

-- a line that breaks a rule
pub refuses : {F A : Type 0} (lr : LineRule) (front_of : List Line → F) (rule_behind : F → Line → Option ScriptRule) → ((before : List Line) (line : Line) → lr before line ≡ rule_behind (front_of before) line) → (all left : List Line) (front : F) (line : Line) (rest : List Line) (rule : ScriptRule) (number : ℕ) (whole : Result A Refused) → (r : IsReadTo lr front_of all left front) → left ≡ line ∷ rest → rule_behind front line ≡ Some rule → length r.before ≡ number → unless_refused (first_refused lr [] all) whole ≡ Err (record { line = number + 1; rule = rule })
refuses {F = F} lr front_of rule_behind by_front all left front line rest rule number whole r is some counted =
    let here : lr r.before line ≡ Some rule = by_front r.before line ∙ (ap (λ (f : F). rule_behind f line) (sym r.front_is) ∙ some) in
    let found : first_refused lr [] all ≡ Some (record { line = length r.before + 1; rule = rule }) = sym r.so_far ∙ (ap (first_refused lr r.before) is ∙ at_some (length r.before + 1) (lr r.before line) rule (first_refused lr (r.before ++ line ∷ []) rest) here) in
    ap (λ (o : Option Refused). unless_refused o whole) found ∙ ap (λ k. Err (record { line = k + 1; rule = rule })) counted

-- no line is left
pub ends : {F A : Type 0} (lr : LineRule) (front_of : List Line → F) (all left : List Line) (front : F) (whole : Result A Refused) → (r : IsReadTo lr front_of all left front) → left ≡ [] → (r.before ≡ all) × (unless_refused (first_refused lr [] all) whole ≡ whole)
ends lr front_of all left front whole r none =
    let found : first_refused lr [] all ≡ None = sym r.so_far ∙ ap (first_refused lr r.before) none in
    (sym (append-nil r.before) ∙ (ap (λ (ls : List Line). r.before ++ ls) (sym none) ∙ r.whole), ap (λ (o : Option Refused). unless_refused o whole) found)

-- ---- a text has as many bytes as lines at least

pub lines_few : (text : List ℕ) → length (lines_of text) ≤ length text
lines_few [] = omega arith
lines_few (c ∷ cs) = at (c == 10) (lines_of cs) (lines_few cs)
  where
    at : (b : Bool) (ls : List Line) → length ls ≤ length cs → length (cond b (record { text = []; ended = true } ∷ ls) (onto_first_line c ls)) ≤ suc (length cs)
    at true ls h = omega arith
    at false [] h = omega arith
    at false (l ∷ ls) h = omega arith

-- the lines before and those left are few where the text is short
pub before_few : {F : Type 0} (lr : LineRule) (front_of : List Line → F) (text : List ℕ) (left : List Line) (front : F) → (r : IsReadTo lr front_of (lines_of text) left front) → length r.before + length left ≤ length text
before_few lr front_of text left front r = omega (arith, lines_few text, ap length r.whole, length-append r.before left)
