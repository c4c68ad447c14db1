-- How a run of the program ends, and what then holds.
use Rattle.std.specs.Prelude.{ℕ, ◌≡◌, ◌⊎◌, List, [], ◌∷◌, ◌++◌, take, Option, Some, None, IfSome, codes}
use Rattle.std.specs.Io.KnownBytes.{Appends}
use Rattle.dh_base.specs.Faults.{HasRisen}
use Rattle.dh_base.specs.Outside.{Seen, Gained}
use Rattle.plain_core.specs.OneLog.{TellsOneLog}
use Rattle.deal_desk.specs.Answers.{Never, IsTheAnswer}
use Rattle.deal_desk.specs.Commands.{command_of}
use Rattle.deal_desk.specs.Inputs.{unread, GaveFront}
use Rattle.deal_desk.specs.declared.command.Command.{Command}
use Rattle.deal_desk.specs.declared.command.Command.TheVariants.{Rehearse}
use Rattle.deal_desk.specs.declared.ending.Ending.{Ending}
use Rattle.deal_desk.specs.declared.ending.Ending.TheVariants.{Done, Usage, Refused, RefusedDeal, InputFailed, OutputFailed, NoMemory}

abbrev pub status_of : Ending → ℕ
status_of Done = 0
status_of Usage = 1
status_of (Refused line rule) = 2
status_of (RefusedDeal fault) = 2
status_of InputFailed = 3
status_of OutputFailed = 4
status_of NoMemory = 7

abbrev pub usage_text : List ℕ
usage_text =
    codes "usage: deal_desk clear | rehearse | fair N SEED | ledger | seat | board | agent | live"
    ++ 10 ∷ []

-- the sink gained exactly the text, and no write failed
abbrev pub Wrote : Seen → List ℕ → Seen → Type 0
Wrote before text after = Gained before text after

-- the sink gained the first bytes of the text, however many
abbrev pub WroteFront : Seen → List ℕ → Seen → Type 0
WroteFront before text after = (n : ℕ) × Appends before.written after.written (take n text)

-- The text was written and the run ends as is wanted, or the sink failed on the way.
abbrev pub Says : (wanted ending : Ending) → Seen → List ℕ → Seen → Type 0
Says wanted ending before text after =
    ((ending ≡ wanted) × Wrote before text after)
    ⊎ ((ending ≡ OutputFailed) × HasRisen before.faults after.faults × WroteFront before text after)

-- the whole answer was written by which the command ends so
abbrev pub WroteAnswer : Command → List ℕ → Ending → (before after : Seen) → Type 0
WroteAnswer command input ending before after =
    (text : List ℕ) × IsTheAnswer command input ending text × Wrote before text after

-- first bytes of the answer were written
abbrev pub WroteAnswerFront : Command → List ℕ → (before after : Seen) → Type 0
WroteAnswerFront command input before after =
    (ending : Ending) × (text : List ℕ)
    × IsTheAnswer command input ending text × WroteFront before text after

-- What is written for an input that was read: the whole answer, first bytes of it where the sink
-- failed, and nothing where memory ran out.
abbrev pub IsTold : Command → Ending → List ℕ → (before after : Seen) → Type 0
IsTold command Done input before after = WroteAnswer command input Done before after
IsTold command Usage input before after = Never
IsTold command (Refused line rule) input before after =
    WroteAnswer command input (Refused line rule) before after
IsTold command (RefusedDeal fault) input before after =
    WroteAnswer command input (RefusedDeal fault) before after
IsTold command InputFailed input before after = Never
IsTold command OutputFailed input before after =
    HasRisen before.faults after.faults × WroteAnswerFront command input before after
IsTold command NoMemory input before after = after ≡ before

-- The input was read to its end, or to one byte more than an input may have, and what it told was
-- answered so.
abbrev pub Answered : Command → Ending → (input input_after output output_after : Seen) → Type 0
Answered command ending input input_after output output_after = IfSome input.left (λ all.
    (input_after.left ≡ Some (unread all)) × WroteAnswer command all ending output output_after)

-- How a command ends. It answers all bytes that the source told. Where it did its work, the source
-- was read to its end; where the input is refused or a writing fails, to its end or to one byte
-- more than an input may have. No ending takes more of it.
abbrev pub IsCarriedOut : Command → Ending → (input input_after output output_after : Seen) → Type 0
IsCarriedOut command Done input input_after output output_after = IfSome input.left (λ all.
    (input_after.left ≡ Some []) × WroteAnswer command all Done output output_after)
IsCarriedOut command Usage input input_after output output_after = Never
IsCarriedOut command (Refused line rule) input input_after output output_after =
    Answered command (Refused line rule) input input_after output output_after
IsCarriedOut command (RefusedDeal fault) input input_after output output_after =
    Answered command (RefusedDeal fault) input input_after output output_after
IsCarriedOut command InputFailed input input_after output output_after =
    HasRisen input.faults input_after.faults
    × GaveFront input.left input_after.left × (output_after ≡ output)
IsCarriedOut command OutputFailed input input_after output output_after =
    HasRisen output.faults output_after.faults
    × IfSome input.left (λ all.
    (input_after.left ≡ Some (unread all)) × WroteAnswerFront command all output output_after)
IsCarriedOut command NoMemory input input_after output output_after =
    GaveFront input.left input_after.left × (output_after ≡ output)

-- Words that ask for no command have the usage line, and the source is left alone.
abbrev pub IsEnding :
    Option Command → Ending → (input input_after output output_after : Seen) → Type 0
IsEnding (Some command) ending input input_after output output_after =
    IsCarriedOut command ending input input_after output output_after
IsEnding None ending input input_after output output_after =
    (input_after ≡ input) × Says Usage ending output usage_text output_after

-- The run ended in one of these ways, and the status tells which.
abbrev pub IsEnded :
    ℕ → List (List ℕ) → (input input_after output output_after : Seen) → Type 0
IsEnded status words input input_after output output_after =
    (ending : Ending) × (status ≡ status_of ending)
    × IsEnding (command_of words) ending input input_after output output_after

-- Where the answer to `rehearse` is 0, what was written is the report of a run of the script, and
-- in this run all ledgers follow the one log.
abbrev pub KeepsOneLog : ℕ → List (List ℕ) → Seen → (before after : Seen) → Type 0
KeepsOneLog status words input before after =
    status ≡ 0 → command_of words ≡ Some Rehearse →
    IfSome input.left (λ script.
    (report : List ℕ) × IsTheAnswer Rehearse script Done report
    × Wrote before report after × TellsOneLog script report)
