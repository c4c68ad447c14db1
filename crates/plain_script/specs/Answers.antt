-- What reading a script answers.
use Rattle.std.specs.Prelude.{◌≡◌, ◌+◌, Result, Ok, Err}
use Rattle.script_lines.specs.Refusals.{Refused, Halts}
use Rattle.plain_script.specs.Reading.{ScriptTold}
use Rattle.plain_script.specs.Fronts.{Front}
use Rattle.script_lines.specs.declared.halt.ScriptHalt.{ScriptHalt}
use Rattle.plain_script.specs.declared.script.Script.{Script}
use Rattle.script_lines.specs.declared.place.Place.{Place}
use Rattle.script_lines.specs.declared.place.Place.TheVariants.{Head, Declarations, Events}
use Rattle.script_lines.specs.declared.rule.ScriptRule.TheVariants.{BadLine}

abbrev pub script_told : Script → ScriptTold
script_told script = record { declarations = script.declarations; events = script.events }

-- the answer is what reading gives, unless memory ran out
abbrev pub Answers : Result Script ScriptHalt → Result ScriptTold Refused → Type 0
Answers (Ok script) read = read ≡ Ok (script_told script)
Answers (Err halt) read = Halts halt read

-- the script of a front where no line is left: declarations that no `begin` ends are no script
abbrev pub whole_at : Place → Front → Result ScriptTold Refused
whole_at Head front = Ok (record { declarations = front.declarations; events = front.events })
whole_at Declarations front = Err (record { line = front.number + 1; rule = BadLine })
whole_at Events front = Ok (record { declarations = front.declarations; events = front.events })

abbrev pub whole_of : Front → Result ScriptTold Refused
whole_of front = whole_at front.place front
