-- What rehearsing answers, unless memory runs out.
use Rattle.std.specs.Prelude.{ℕ, ◌≡◌, List, Result, Ok, Err}
use Rattle.script_lines.specs.Refusals.{Refused}
use Rattle.script_lines.specs.Refusals.{Halts}
use Rattle.script_lines.specs.declared.halt.ScriptHalt.{ScriptHalt}
use Rattle.plain_core.specs.Ledgers.{World}
use Rattle.plain_core.specs.Reports.{Report, told_behind}

-- The event happened, with its line behind the text before it, or it was refused.
abbrev pub Happens : {T : Type 0} → Result T ScriptHalt → (before after : List ℕ) → World
    → Result Report Refused → Type 0
Happens (Ok done) before after world step =
    told_behind before step ≡ Ok (record { text = after; world = world })
Happens (Err halt) before after world step = Halts halt step

-- the text and the world are those of the run
abbrev pub GivesRun : Result World ScriptHalt → List ℕ → Result Report Refused → Type 0
GivesRun (Ok world) text run = run ≡ Ok (record { text = text; world = world })
GivesRun (Err halt) text run = Halts halt run

-- the text is the report
abbrev pub GivesReport : Result (List ℕ) ScriptHalt → Result (List ℕ) Refused → Type 0
GivesReport (Ok text) report = report ≡ Ok text
GivesReport (Err halt) report = Halts halt report
