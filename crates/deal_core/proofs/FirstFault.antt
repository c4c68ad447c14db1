-- Reading answers the fault of the first line that has one, or of the line that is lacking behind the last.
use Rattle.std.proofs.Common.{◌≡◌, ℕ, zero, suc, ◌+◌, ◌<◌, ◌⊎◌, inl, inr, Bool, true, false, cond, Option, Some, None, List, [], ◌∷◌, length, Result, Ok, Err, arith, refl, sym, ap, ◌∙◌}
use Rattle.std.specs.Prelude.{is_some}
use Rattle.std.proofs.lemmas.List.{length_push}
use Rattle.std.proofs.lemmas.Bool.{and_parts, not-false, not-true}
use Rattle.line_text.specs.Lines.{Line, lines_of}
use Rattle.deal_core.specs.Drafts.{Draft, no_lines, one_if, lines_in, said_fault, with_indices, with_said, line_fault, after_line, is_whole, whole, unless, reading_behind, reading_of}
use Rattle.deal_core.specs.Said.{said_by}
use Rattle.deal_core.specs.Positions.{after_lines, fault_at, IsFirstFault, LacksLine, IsFaultOfLines}
use Rattle.deal_core.specs.declared.deal_fault.DealFault.{DealFault}
use Rattle.deal_core.specs.declared.deal_fault.DealFault.TheVariants.{BadLine}
use Rattle.deal_core.specs.declared.deal_line.DealLine.{DealLine}
use Rattle.deal_core.specs.declared.deal_line.DealLine.TheVariants as line
use Rattle.line_text.proofs.Faults.{unbroken}

unless_some : (o : Option DealFault) (fault : DealFault) (rest : Result Draft DealFault) → o ≡ Some fault → unless o rest ≡ Err fault
unless_some o fault rest e = rw e refl

unless_none : (o : Option DealFault) (rest : Result Draft DealFault) → o ≡ None → unless o rest ≡ rest
unless_none o rest e = rw e refl

-- ---- the lines of a draft

not_yet : (o : Bool) → o ≡ false → one_if o ≡ 0
not_yet o e = rw e refl

-- what is said without a fault is a line more
said_more : (draft : Draft) (said : Option DealLine) → said_fault draft said ≡ None → lines_in (with_said draft said) ≡ lines_in draft + 1
said_more draft None none = absurd cc
said_more draft (Some (line.Deal name)) none =
    let new : is_some draft.name ≡ false = not-true _ (not-false _ (unbroken _ _ _ none).0) in
    omega (arith, not_yet (is_some draft.name) new)
said_more draft (Some (line.House house)) none =
    let new : is_some draft.house ≡ false = not-true _ (and_parts _ _ (not-false _ (unbroken _ _ _ none).0)).1 in
    omega (arith, not_yet (is_some draft.house) new)
said_more draft (Some (line.Party party)) none = omega (arith, length_push draft.parties party)
said_more draft (Some (line.Step step)) none = omega (arith, length_push draft.steps (with_indices draft.parties step))

pub line_more : (draft : Draft) (l : Line) → line_fault draft l ≡ None → lines_in (after_line draft l) ≡ lines_in draft + 1
line_more draft l none = said_more draft (said_by l) none

-- ---- from the fault to reading

first_read : (draft : Draft) (lines : List Line) (k : ℕ) (fault : DealFault) → IsFirstFault draft lines k fault → reading_behind draft lines ≡ Err fault
first_read draft [] zero fault h = absurd (let e : None ≡ Some fault = h.0 in cc)
first_read draft [] (suc k) fault h = absurd (let e : None ≡ Some fault = h.0 in cc)
first_read draft (l ∷ lines) zero fault h = unless_some (line_fault draft l) fault (reading_behind (after_line draft l) lines) h.0
first_read draft (l ∷ lines) (suc k) fault h =
    unless_none (line_fault draft l) (reading_behind (after_line draft l) lines) (h.1 0 (omega arith))
    ∙ first_read (after_line draft l) lines k fault (h.0, λ j lt. h.1 (suc j) (omega (arith, lt)))

-- where no line has a fault, all are read, and each makes the draft a line longer
all_read : (draft : Draft) (lines : List Line) → ((k : ℕ) → fault_at draft lines k ≡ None) → (reading_behind draft lines ≡ whole (after_lines draft lines)) × (lines_in (after_lines draft lines) ≡ lines_in draft + length lines)
all_read draft [] none = (refl, omega arith)
all_read draft (l ∷ lines) none =
    let rest = all_read (after_line draft l) lines (λ k. none (suc k)) in
    (unless_none (line_fault draft l) (reading_behind (after_line draft l) lines) (none 0) ∙ rest.0, omega (arith, rest.1, line_more draft l (none 0)))

lacking : (draft : Draft) → is_whole draft ≡ false → whole draft ≡ Err (BadLine (lines_in draft + 1))
lacking draft e = rw e refl

pub lines_fault : (text : List ℕ) (fault : DealFault) → IsFaultOfLines text fault → reading_of text ≡ Err fault
lines_fault text fault (inl h) = first_read no_lines (lines_of text) h.0 fault h.1
lines_fault text fault (inr h) =
    let all = all_read no_lines (lines_of text) h.0 in
    let number : lines_in (after_lines no_lines (lines_of text)) + 1 ≡ length (lines_of text) + 1 = omega (arith, all.1) in
    all.0 ∙ (lacking (after_lines no_lines (lines_of text)) h.1 ∙ (ap (λ n. Err (BadLine n)) number ∙ ap (λ (f : DealFault). Err f) (sym h.2)))

-- ---- from reading to the fault

-- the first line that has a fault; or none has one, and what all come to isn't whole
IsStopped : Draft → List Line → DealFault → Type 0
IsStopped draft lines fault =
    ((k : ℕ) × IsFirstFault draft lines k fault) ⊎ (((k : ℕ) → fault_at draft lines k ≡ None) × (whole (after_lines draft lines) ≡ Err fault))

nothing_there : (draft : Draft) (k : ℕ) → fault_at draft [] k ≡ None
nothing_there draft zero = refl
nothing_there draft (suc k) = refl

err_is : (f g : DealFault) (rest : Result Draft DealFault) → unless (Some f) rest ≡ Err g → f ≡ g
err_is f g rest e = cc

stopped : (draft : Draft) (lines : List Line) (fault : DealFault) → reading_behind draft lines ≡ Err fault → IsStopped draft lines fault
unfolding IsStopped
stopped draft [] fault e = inr (nothing_there draft, e)
stopped draft (l ∷ lines) fault e = by_fault (stopped (after_line draft l) lines fault) (line_fault draft l) refl e
  where
    none_before : (k : ℕ) → line_fault draft l ≡ None → ((j : ℕ) → j < k → fault_at (after_line draft l) lines j ≡ None) → (j : ℕ) → j < suc k → fault_at draft (l ∷ lines) j ≡ None
    none_before k here later zero lt = here
    none_before k here later (suc j) lt = later j (omega (arith, lt))

    none_at : line_fault draft l ≡ None → ((k : ℕ) → fault_at (after_line draft l) lines k ≡ None) → (k : ℕ) → fault_at draft (l ∷ lines) k ≡ None
    none_at here later zero = here
    none_at here later (suc k) = later k

    by_fault : (reading_behind (after_line draft l) lines ≡ Err fault → IsStopped (after_line draft l) lines fault) → (o : Option DealFault) → line_fault draft l ≡ o → unless o (reading_behind (after_line draft l) lines) ≡ Err fault → IsStopped draft (l ∷ lines) fault
    by_fault later (Some f) here e =
        inl (0, (here ∙ ap (λ (g : DealFault). Some g) (err_is f fault (reading_behind (after_line draft l) lines) e), λ j lt. absurd (omega (arith, lt))))
    by_fault later None here e =
        elim (later e) [
          | inl first ↦ inl (suc first.0, (first.1.0, none_before first.0 here first.1.1))
          | inr all ↦ inr (none_at here all.0, all.1)
        ]

not_whole : (draft : Draft) (fault : DealFault) → whole draft ≡ Err fault → (is_whole draft ≡ false) × (fault ≡ BadLine (lines_in draft + 1))
not_whole draft fault e = by_test (is_whole draft) refl e
  where
    by_test : (b : Bool) → is_whole draft ≡ b → cond b (Ok draft) (Err (BadLine (lines_in draft + 1))) ≡ Err fault → (is_whole draft ≡ false) × (fault ≡ BadLine (lines_in draft + 1))
    by_test true f e = absurd cc
    by_test false f e = (f, cc)

lacks_line : (lines : List Line) (fault : DealFault) → ((k : ℕ) → fault_at no_lines lines k ≡ None) → whole (after_lines no_lines lines) ≡ Err fault → LacksLine lines fault
lacks_line lines fault none e =
    let w = not_whole (after_lines no_lines lines) fault e in
    let number : lines_in (after_lines no_lines lines) + 1 ≡ length lines + 1 = omega (arith, (all_read no_lines lines none).1) in
    (none, w.0, w.1 ∙ ap (λ n. BadLine n) number)

pub fault_of_lines : (text : List ℕ) (fault : DealFault) → reading_of text ≡ Err fault → IsFaultOfLines text fault
unfolding IsStopped
fault_of_lines text fault e =
    elim (stopped no_lines (lines_of text) fault e) [ inl first ↦ inl first | inr all ↦ inr (lacks_line (lines_of text) fault all.0 all.1) ]
