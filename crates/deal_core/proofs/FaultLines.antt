-- The fault of a line tells the number of the line.
use Rattle.std.proofs.Common.{◌≡◌, ℕ, zero, suc, ◌+◌, ◌-◌, ◌^◌, Bool, true, false, not, ◌&&◌, ◌||◌, ◌==◌, ltb, leb, Option, Some, None, List, [], ◌∷◌, length, arith, refl, ap, ◌∙◌}
use Rattle.std.specs.List.{list_any}
use Rattle.std.specs.Str.{bytes_eq}
use Rattle.line_text.specs.Lines.{Line}
use Rattle.deal_core.specs.Deals.{is_named, has_account, total_of}
use Rattle.line_text.specs.Faults.{broken_if}
use Rattle.deal_core.specs.Drafts.{Draft, is_party, is_ninth, may_stand, rule_fault, said_fault, lines_in, after_line}
use Rattle.deal_core.specs.Said.{said_by}
use Rattle.deal_core.specs.Positions.{IsFirstFault, line_told}
use Rattle.deal_core.specs.declared.deal_fault.DealFault.{DealFault}
use Rattle.deal_core.specs.declared.deal_fault.DealFault.TheVariants.{BadLine, PartyTwice, UnknownParty, SelfStep, ZeroAmount, TooMany, SumTooLarge}
use Rattle.deal_core.specs.declared.deal_line.DealLine.{DealLine}
use Rattle.deal_core.specs.declared.deal_line.DealLine.TheVariants as line
use Rattle.deal_core.proofs.FirstFault.{line_more}

-- a test that found the fault, or one behind it, tells this number
test_tells : (n : ℕ) (broken : Bool) (first : DealFault) (other : Option DealFault) (fault : DealFault) → line_told first ≡ Some n → (other ≡ Some fault → line_told fault ≡ Some n) → broken_if broken first other ≡ Some fault → line_told fault ≡ Some n
test_tells n true first other fault told rest e = ap line_told (let same : fault ≡ first = cc in same) ∙ told
test_tells n false first other fault told rest e = rest e

none_tells : (n : ℕ) (fault : DealFault) → None ≡ Some fault → line_told fault ≡ Some n
none_tells n fault e = absurd cc

two_tests : (n : ℕ) (a b : Bool) (fault : DealFault) → broken_if a (PartyTwice n) (broken_if b (TooMany n) None) ≡ Some fault → line_told fault ≡ Some n
two_tests n a b fault = test_tells n a (PartyTwice n) (broken_if b (TooMany n) None) fault refl (test_tells n b (TooMany n) None fault refl (none_tells n fault))

abbrev last_tests : ℕ → Bool → Bool → Bool → Option DealFault
last_tests n c d e = broken_if c (ZeroAmount n) (broken_if d (TooMany n) (broken_if e (SumTooLarge n) None))

three_tests : (n : ℕ) (c d e : Bool) (fault : DealFault) → last_tests n c d e ≡ Some fault → line_told fault ≡ Some n
three_tests n c d e fault =
    test_tells n c (ZeroAmount n) (broken_if d (TooMany n) (broken_if e (SumTooLarge n) None)) fault refl
    (test_tells n d (TooMany n) (broken_if e (SumTooLarge n) None) fault refl (test_tells n e (SumTooLarge n) None fault refl (none_tells n fault)))

five_tests : (n : ℕ) (a b c d e : Bool) (fault : DealFault) → broken_if a (UnknownParty n) (broken_if b (SelfStep n) (last_tests n c d e)) ≡ Some fault → line_told fault ≡ Some n
five_tests n a b c d e fault =
    test_tells n a (UnknownParty n) (broken_if b (SelfStep n) (last_tests n c d e)) fault refl
    (test_tells n b (SelfStep n) (last_tests n c d e) fault refl (three_tests n c d e fault))

rule_tells : (n : ℕ) (draft : Draft) (said : DealLine) (fault : DealFault) → rule_fault n draft said ≡ Some fault → line_told fault ≡ Some n
rule_tells n draft (line.Deal name) fault e = none_tells n fault e
rule_tells n draft (line.House house) fault e = none_tells n fault e
rule_tells n draft (line.Party party) fault e =
    two_tests n (list_any (is_named party.name) draft.parties || list_any (has_account party.account) draft.parties) (leb 16 (length draft.parties)) fault e
rule_tells n draft (line.Step step) fault e =
    five_tests n (not (is_party draft.parties step.from && is_party draft.parties step.to)) (bytes_eq step.from step.to) (step.amount == 0)
    (leb 64 (length draft.steps) || is_ninth draft.steps step.ledger) (ltb (2 ^ 63 - 1) (total_of draft.steps step.ledger step.asset + step.amount)) fault e

said_tells : (draft : Draft) (said : Option DealLine) (fault : DealFault) → said_fault draft said ≡ Some fault → line_told fault ≡ Some (lines_in draft + 1)
said_tells draft None fault e = ap line_told (let same : fault ≡ BadLine (lines_in draft + 1) = cc in same)
said_tells draft (Some said) fault e =
    test_tells (lines_in draft + 1) (not (may_stand draft said)) (BadLine (lines_in draft + 1)) (rule_fault (lines_in draft + 1) draft said) fault refl (rule_tells (lines_in draft + 1) draft said fault) e

tells_first : (draft : Draft) (lines : List Line) (k : ℕ) (fault : DealFault) → IsFirstFault draft lines k fault → line_told fault ≡ Some (lines_in draft + k + 1)
tells_first draft [] zero fault h = absurd (let e : None ≡ Some fault = h.0 in cc)
tells_first draft [] (suc k) fault h = absurd (let e : None ≡ Some fault = h.0 in cc)
tells_first draft (l ∷ lines) zero fault h =
    said_tells draft (said_by l) fault h.0 ∙ ap (λ n. Some n) (let e : lines_in draft + 1 ≡ lines_in draft + 0 + 1 = omega arith in e)
tells_first draft (l ∷ lines) (suc k) fault h =
    let more : lines_in (after_line draft l) ≡ lines_in draft + 1 = line_more draft l (h.1 0 (omega arith)) in
    let same : lines_in (after_line draft l) + k + 1 ≡ lines_in draft + suc k + 1 = omega (arith, more) in
    tells_first (after_line draft l) lines k fault (h.0, λ j lt. h.1 (suc j) (omega (arith, lt))) ∙ ap (λ n. Some n) same

-- behind no lines the number is that of the position
pub line_of_first : (draft : Draft) (lines : List Line) (k : ℕ) (fault : DealFault) → lines_in draft ≡ 0 → IsFirstFault draft lines k fault → line_told fault ≡ Some (k + 1)
line_of_first draft lines k fault none h =
    let same : lines_in draft + k + 1 ≡ k + 1 = omega (arith, none) in
    tells_first draft lines k fault h ∙ ap (λ n. Some n) same
