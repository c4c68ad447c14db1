-- A report that was written is that of a run in which all ledgers follow the one log.
use Rattle.std.proofs.Common.{◌≡◌, ℕ, List, [], Option, Some, None, IfSome, ◌∙◌, arith}
use Rattle.dh_base.specs.Outside.{Seen}
use Rattle.deal_desk.specs.Commands.{command_of}
use Rattle.deal_desk.specs.Answers.{IsTheAnswer}
use Rattle.deal_desk.specs.Endings.{status_of, Wrote, WroteAnswer, IsCarriedOut, KeepsOneLog}
use Rattle.deal_desk.specs.declared.command.Command.{Command}
use Rattle.deal_desk.specs.declared.command.Command.TheVariants.{Clear, Rehearse}
use Rattle.deal_desk.specs.declared.ending.Ending.{Ending}
use Rattle.deal_desk.specs.declared.ending.Ending.TheVariants.{Done, Usage, Refused, RefusedDeal, InputFailed, OutputFailed, NoMemory}
use Rattle.plain_core.specs.OneLog.{TellsOneLog}
use Rattle.plain_core.proofs.Told.{one_log}

abbrev Reports : Option (List ℕ) → Option (List ℕ) → Seen → Seen → Type 0
Reports left left_after output output_after = IfSome left (λ script. (left_after ≡ Some []) × WroteAnswer Rehearse script Done output output_after)

reported_keeps : (left left_after : Option (List ℕ)) (output output_after : Seen) → Reports left left_after output output_after → IfSome left (λ script. (report : List ℕ) × IsTheAnswer Rehearse script Done report × Wrote output report output_after × TellsOneLog script report)
reported_keeps None left_after output output_after ended = tt
reported_keeps (Some script) left_after output output_after ended = (ended.1.0, ended.1.1, ended.1.2, one_log script ended.1.0 ended.1.1.0)

rehearsed_keeps : (ending : Ending) (status : ℕ) (words : List (List ℕ)) (input input_after : Seen) (output output_after : Seen) → status ≡ status_of ending → IsCarriedOut Rehearse ending input input_after output output_after → KeepsOneLog status words input output output_after
rehearsed_keeps Done status words input input_after output output_after is ended = λ none asked. reported_keeps input.left input_after.left output output_after ended
rehearsed_keeps Usage status words input input_after output output_after is ended = λ none asked. absurd (omega (arith, is, none))
rehearsed_keeps (Refused line rule) status words input input_after output output_after is ended = λ none asked. absurd (omega (arith, is, none))
rehearsed_keeps (RefusedDeal fault) status words input input_after output output_after is ended = λ none asked. absurd (omega (arith, is, none))
rehearsed_keeps InputFailed status words input input_after output output_after is ended = λ none asked. absurd (omega (arith, is, none))
rehearsed_keeps OutputFailed status words input input_after output output_after is ended = λ none asked. absurd (omega (arith, is, none))
rehearsed_keeps NoMemory status words input input_after output output_after is ended = λ none asked. absurd (omega (arith, is, none))

clear_is_not_rehearse : Some Clear ≡ Some Rehearse → ⊥
clear_is_not_rehearse e = cc

-- a command that was carried out keeps the promise, whatever words asked for it
pub carried_out_keeps : (command : Command) (ending : Ending) (status : ℕ) (words : List (List ℕ)) (input input_after : Seen) (output output_after : Seen) → Some command ≡ command_of words → status ≡ status_of ending → IsCarriedOut command ending input input_after output output_after → KeepsOneLog status words input output output_after
carried_out_keeps Clear ending status words input input_after output output_after found is ended = λ none asked. absurd (clear_is_not_rehearse (found ∙ asked))
carried_out_keeps Rehearse ending status words input input_after output output_after found is ended = rehearsed_keeps ending status words input input_after output output_after is ended
