-- Which line of a deal's text has the first fault, by its position.
use Rattle.std.specs.Prelude.{ℕ, ◌≡◌, ◌+◌, ◌<◌, ◌⊎◌, false, List, length, take, slice_get, fold, Option, Some, None, option_and_then}
use Rattle.line_text.specs.Lines.{Line, lines_of}
use Rattle.deal_core.specs.Drafts.{Draft, no_lines, line_fault, after_line, is_whole}
use Rattle.deal_core.specs.declared.deal_fault.DealFault.{DealFault}
use Rattle.deal_core.specs.declared.deal_fault.DealFault.TheVariants.{BadLine, PartyTwice, UnknownParty, SelfStep, ZeroAmount, TooMany, SumTooLarge, NotConnected, NoMemory}

-- what lines come to, behind a draft
abbrev pub after_lines : Draft → List Line → Draft
after_lines draft lines = fold after_line draft lines

-- the fault of the line at a position from 0, behind the lines before it; none where no line stands
-- there
abbrev pub fault_at : Draft → List Line → ℕ → Option DealFault
fault_at draft lines k =
    option_and_then (line_fault (after_lines draft (take k lines))) (slice_get lines k)

-- the line at the position has the fault, and no line before it has one
abbrev pub IsFirstFault : Draft → List Line → ℕ → DealFault → Type 0
IsFirstFault draft lines k fault =
    (fault_at draft lines k ≡ Some fault) × ((j : ℕ) → j < k → fault_at draft lines j ≡ None)

-- no line has a fault, but they lack something that a deal has: the fault is that of the line
-- behind the last
abbrev pub LacksLine : List Line → DealFault → Type 0
LacksLine lines fault =
    ((k : ℕ) → fault_at no_lines lines k ≡ None) × (is_whole (after_lines no_lines lines) ≡ false)
    × (fault ≡ BadLine (length lines + 1))

-- the fault of a text's lines: that of the first line that has one, or that of the line which is
-- lacking
abbrev pub IsFaultOfLines : List ℕ → DealFault → Type 0
IsFaultOfLines text fault =
    ((k : ℕ) × IsFirstFault no_lines (lines_of text) k fault) ⊎ LacksLine (lines_of text) fault

-- the number of the line that a fault tells
abbrev pub line_told : DealFault → Option ℕ
line_told (BadLine line) = Some line
line_told (PartyTwice line) = Some line
line_told (UnknownParty line) = Some line
line_told (SelfStep line) = Some line
line_told (ZeroAmount line) = Some line
line_told (TooMany line) = Some line
line_told (SumTooLarge line) = Some line
line_told (NotConnected party) = None
line_told NoMemory = None
