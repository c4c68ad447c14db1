-- What a command answers to an input: how it ends, and the text that it writes.
use Rattle.std.specs.Prelude.{ℕ, ◌≡◌, ◌≤◌, ◌<◌, true, false, List, [], ◌∷◌, ◌++◌, length, Ok, Err, codes}
use Rattle.dh_base.specs.Refusals.{refusal_text}
use Rattle.deal_core.specs.Deals.{DealTold}
use Rattle.deal_core.specs.DealFaults.{deal_fault_told}
use Rattle.deal_core.specs.Reading.{IsTextOf, IsFaultOf}
use Rattle.deal_core.specs.declared.deal_fault.DealFault.{DealFault}
use Rattle.deal_core.specs.declared.deal_fault.DealFault.TheVariants.{NoMemory as OutOfMemory}
use Rattle.clear_core.specs.Summaries.{clearing_of}
use Rattle.script_lines.specs.RuleNames.{refused_text}
use Rattle.script_lines.specs.declared.rule.ScriptRule.{ScriptRule}
use Rattle.script_lines.specs.declared.rule.ScriptRule.TheVariants.{TooLarge}
use Rattle.script_lines.specs.LineRules.{most_bytes}
use Rattle.plain_core.specs.Reports.{rehearsal_of}
use Rattle.deal_desk.specs.declared.command.Command.{Command}
use Rattle.deal_desk.specs.declared.command.Command.TheVariants.{Clear, Rehearse}
use Rattle.deal_desk.specs.declared.ending.Ending.{Ending}
use Rattle.deal_desk.specs.declared.ending.Ending.TheVariants.{Done, Usage, Refused, RefusedDeal, InputFailed, OutputFailed, NoMemory}

-- the line that tells the line and the rule for which an input is refused
abbrev pub refused_line : ℕ → ScriptRule → List ℕ
refused_line line rule = refused_text line rule ++ 10 ∷ []

-- the line that tells for which fault an input is no deal's text
abbrev pub refused_deal_line : DealFault → List ℕ
refused_deal_line fault = codes "refused " ++ refusal_text (deal_fault_told fault) ++ 10 ∷ []

-- what can't be
abbrev pub Never : Type 0
Never = true ≡ false

-- What `clear` answers. An input of too many bytes is refused as a whole, whatever it says.
abbrev pub IsCleared : (input : List ℕ) → Ending → (text : List ℕ) → Type 0
IsCleared input Done text =
    (length input ≤ most_bytes)
    × (deal : DealTold) × IsTextOf deal input × (text ≡ clearing_of deal)
IsCleared input Usage text = Never
IsCleared input (Refused line rule) text =
    (most_bytes < length input) × (line ≡ 0) × (rule ≡ TooLarge) × (text ≡ refused_line line rule)
IsCleared input (RefusedDeal fault) text =
    (length input ≤ most_bytes) × (fault ≡ OutOfMemory → ⊥)
    × IsFaultOf input fault × (text ≡ refused_deal_line fault)
IsCleared input InputFailed text = Never
IsCleared input OutputFailed text = Never
IsCleared input NoMemory text = Never

-- what `rehearse` answers
abbrev pub IsRehearsed : (input : List ℕ) → Ending → (text : List ℕ) → Type 0
IsRehearsed input Done text = rehearsal_of input ≡ Ok text
IsRehearsed input Usage text = Never
IsRehearsed input (Refused line rule) text =
    (rehearsal_of input ≡ Err (record { line = line; rule = rule }))
    × (text ≡ refused_line line rule)
IsRehearsed input (RefusedDeal fault) text = Never
IsRehearsed input InputFailed text = Never
IsRehearsed input OutputFailed text = Never
IsRehearsed input NoMemory text = Never

-- The command answers the whole input with this text, and ends so once it is written.
abbrev pub IsAnswer : Command → (input : List ℕ) → Ending → (text : List ℕ) → Type 0
IsAnswer Clear input ending text = IsCleared input ending text
IsAnswer Rehearse input ending text = IsRehearsed input ending text

-- This is the answer to the input, and there is no other.
abbrev pub IsTheAnswer : Command → (input : List ℕ) → Ending → (text : List ℕ) → Type 0
IsTheAnswer command input ending text =
    IsAnswer command input ending text
    × ((other : Ending) (told : List ℕ) → IsAnswer command input other told →
    (other ≡ ending) × (told ≡ text))
