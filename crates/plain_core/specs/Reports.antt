-- What a plain script reports: a line for each event, and then the final tables.
use Rattle.std.specs.Prelude.{ℕ, Bool, true, false, nat_lt, if◌then◌else◌, List, [], ◌∷◌, ◌++◌, length, Option, Some, None, is_none, Result, Ok, Err}
use Rattle.std.specs.Fmt.{decimal}
use Rattle.script_lines.specs.Refusals.{Refused}
use Rattle.plain_script.specs.Reading.{ScriptTold, reading_of}
use Rattle.plain_script.specs.declared.declaration.Declaration.{Declaration}
use Rattle.plain_script.specs.declared.event.Event.{Event}
use Rattle.plain_script.specs.declared.event.Event.TheVariants.{Register, Escrow, Transfer, Start, Commit, Abort, Claim}
use Rattle.plain_script.specs.declared.numbered.Numbered.{Numbered}
use Rattle.script_lines.specs.declared.rule.ScriptRule.TheVariants.{OutOfRange}
use Rattle.plain_core.specs.Replies.{reply_text}
use Rattle.plain_core.specs.Starts.{started_world}
use Rattle.plain_core.specs.Tables.{tables_text}
use Rattle.plain_core.specs.Ledgers.{World, step_of}
use Rattle.plain_core.specs.declared.reply.Reply.{Reply}

-- A turn or a length exceeds 32 bits, or a length exceeds the log.
abbrev pub exceeds : ℕ → Option ℕ → Bool
exceeds most None = true
exceeds most (Some n) = nat_lt most n

abbrev pub is_out_of_range : World → Event → Bool
is_out_of_range world (Register ledger deal party) = false
is_out_of_range world (Escrow ledger deal party asset amount) = false
is_out_of_range world (Transfer ledger deal from turn to asset amount) = is_none turn
is_out_of_range world (Start deal party) = false
is_out_of_range world (Commit deal party) = false
is_out_of_range world (Abort deal party) = false
is_out_of_range world (Claim ledger deal len) = exceeds (length world.log.entries) len

-- the lines of events, and the world behind them
pub record Report : Type 0 where
  pub text : List ℕ
  pub world : World

-- the number of the event's line and the reply, with a space between them
abbrev pub reply_line : ℕ → Reply → List ℕ
reply_line line reply = decimal line ++ (32 ∷ reply_text reply) ++ 10 ∷ []

-- the report with this text before it
abbrev pub told_behind : List ℕ → Result Report Refused → Result Report Refused
told_behind text (Err refused) = Err refused
told_behind text (Ok report) = Ok (record { text = text ++ report.text; world = report.world })

-- what one event comes to
abbrev pub happened_of : List Declaration → World → Numbered → Result Report Refused
happened_of ds world happened =
    if is_out_of_range world happened.event
    then Err (record { line = happened.line; rule = OutOfRange })
    else Ok (record {
      text = reply_line happened.line (step_of ds world happened.event).reply;
      world = (step_of ds world happened.event).world;
    })

-- the report goes on in the world that it left
abbrev pub goes_on : Result Report Refused → (World → Result Report Refused) → Result Report Refused
goes_on (Err refused) more = Err refused
goes_on (Ok report) more = told_behind report.text (more report.world)

abbrev pub run_from : List Declaration → World → List Numbered → Result Report Refused
run_from ds world [] = Ok (record { text = []; world = world })
run_from ds world (happened ∷ rest) =
    goes_on (happened_of ds world happened) (λ next. run_from ds next rest)

-- the whole report
abbrev pub whole_report : List Declaration → Result Report Refused → Result (List ℕ) Refused
whole_report ds (Err refused) = Err refused
whole_report ds (Ok report) = Ok (report.text ++ tables_text ds report.world)

abbrev pub report_of : ScriptTold → Result (List ℕ) Refused
report_of script =
    whole_report script.declarations
    (run_from script.declarations (started_world script.declarations) script.events)

abbrev pub report_behind : Result ScriptTold Refused → Result (List ℕ) Refused
report_behind (Err refused) = Err refused
report_behind (Ok script) = report_of script

-- what a rehearsal of the script answers
abbrev pub rehearsal_of : List ℕ → Result (List ℕ) Refused
rehearsal_of script = report_behind (reading_of script)
