-- What a command answers to the bytes that were read is what it answers to all bytes that were told.
use Rattle.std.proofs.Common.{◌≡◌, ◌≢◌, ℕ, ◌≤◌, ◌<◌, Bool, true, false, cond, nat_lt, List, [], length, take, Option, Some, None, Result, Ok, Err, refl, sym, ap, subst, ◌∙◌, arith}
use Rattle.std.proofs.lemmas.Bool.{ltb-false, ltb-true, lt-ltb}
use Rattle.std.proofs.lemmas.List.{length-take, length-take-le, take_all}
use Rattle.std.proofs.Math.ListN.{drop_of_length-le}
use Rattle.script_lines.specs.LineRules.{most_bytes}
use Rattle.script_lines.specs.Refusals.{Refused}
use Rattle.plain_script.specs.Reading.{ScriptTold, reading_of}
use Rattle.script_lines.specs.declared.rule.ScriptRule.TheVariants.{TooLarge}
use Rattle.plain_core.specs.Reports.{report_behind, rehearsal_of}
use Rattle.deal_desk.specs.Answers.{IsCleared, IsRehearsed, IsAnswer}
use Rattle.dh_base.specs.Outside.{Seen}
use Rattle.deal_desk.specs.Commands.{command_of}
use Rattle.deal_desk.specs.Endings.{WroteAnswer, WroteAnswerFront, usage_text, Says, IsTold, IsCarriedOut, IsEnding}
use Rattle.deal_desk.proofs.OneAnswer.{the_answer}
use Rattle.deal_desk.specs.Inputs.{most_read, unread, WasRead, GaveFront}
use Rattle.deal_desk.specs.declared.command.Command.{Command}
use Rattle.deal_desk.specs.declared.command.Command.TheVariants.{Clear, Rehearse}
use Rattle.deal_desk.specs.declared.ending.Ending.{Ending}
use Rattle.deal_desk.specs.declared.ending.Ending.TheVariants.{Done, Usage, Refused as RefusedEnding, RefusedDeal, InputFailed, OutputFailed, NoMemory}

first_of : {A : Type 0} (b : Bool) (x y : A) → b ≡ true → cond b x y ≡ x
first_of b x y e = ap (λ c. cond c x y) e

too_large : (script : List ℕ) → nat_lt most_bytes (length script) ≡ true → reading_of script ≡ Err (record { line = 0; rule = TooLarge })
too_large script e = first_of (nat_lt most_bytes (length script)) (Err (record { line = 0; rule = TooLarge })) _ e

-- what stands behind the bytes that are read at most changes nothing
pub same_rehearsal : (all : List ℕ) → rehearsal_of (take most_read all) ≡ rehearsal_of all
same_rehearsal all = by (nat_lt most_bytes (length all)) refl
  where
    by : (b : Bool) → nat_lt most_bytes (length all) ≡ b → rehearsal_of (take most_read all) ≡ rehearsal_of all
    by true e =
        ap (λ (r : Result ScriptTold Refused). report_behind r)
        (too_large (take most_read all) (lt-ltb most_bytes (length (take most_read all)) (omega (arith, length-take-le most_read all (ltb-true most_bytes (length all) e)))) ∙ sym (too_large all e))
    by false e = ap rehearsal_of (take_all most_read all (omega (arith, ltb-false most_bytes (length all) e)))

no_text : (text : List ℕ) (refused : Refused) → ◌≢◌ {A = Result (List ℕ) Refused} (Err refused) (Ok text)
no_text text refused e = cc

reported_short : (bytes text : List ℕ) → rehearsal_of bytes ≡ Ok text → length bytes ≤ most_bytes
reported_short bytes text told = by (nat_lt most_bytes (length bytes)) refl
  where
    by : (b : Bool) → nat_lt most_bytes (length bytes) ≡ b → length bytes ≤ most_bytes
    by true e = absurd (no_text text (record { line = 0; rule = TooLarge }) (sym (ap (λ (r : Result ScriptTold Refused). report_behind r) (too_large bytes e)) ∙ told))
    by false e = ltb-false most_bytes (length bytes) e

-- ---- answers

true_not_false : true ≢ false
true_not_false e = cc

-- bytes that are not too many are all
all_read : (all : List ℕ) → length (take most_read all) ≤ most_bytes → take most_read all ≡ all
all_read all small = take_all most_read all (omega (arith, length-take most_read all, small))

still_too_large : (all : List ℕ) → most_bytes < length (take most_read all) → most_bytes < length all
still_too_large all large = omega (arith, length-take most_read all, large)

cleared_of_all : (all : List ℕ) (ending : Ending) (text : List ℕ) → IsCleared (take most_read all) ending text → IsCleared all ending text
cleared_of_all all Done text told = subst (λ (bytes : List ℕ). IsCleared bytes Done text) (all_read all told.0) told
cleared_of_all all Usage text told = told
cleared_of_all all (RefusedEnding line rule) text told = (still_too_large all told.0, told.1, told.2, told.3)
cleared_of_all all (RefusedDeal fault) text told = subst (λ (bytes : List ℕ). IsCleared bytes (RefusedDeal fault) text) (all_read all told.0) told
cleared_of_all all InputFailed text told = told
cleared_of_all all OutputFailed text told = told
cleared_of_all all NoMemory text told = told

rehearsed_of_all : (all : List ℕ) (ending : Ending) (text : List ℕ) → IsRehearsed (take most_read all) ending text → IsRehearsed all ending text
rehearsed_of_all all Done text told = sym (same_rehearsal all) ∙ told
rehearsed_of_all all Usage text told = told
rehearsed_of_all all (RefusedEnding line rule) text told = (sym (same_rehearsal all) ∙ told.0, told.1)
rehearsed_of_all all (RefusedDeal fault) text told = told
rehearsed_of_all all InputFailed text told = told
rehearsed_of_all all OutputFailed text told = told
rehearsed_of_all all NoMemory text told = told

answer_of_all : (command : Command) (all bytes : List ℕ) (ending : Ending) (text : List ℕ) → bytes ≡ take most_read all → IsAnswer command bytes ending text → IsAnswer command all ending text
answer_of_all Clear all bytes ending text read told = cleared_of_all all ending text (subst (λ (b : List ℕ). IsCleared b ending text) read told)
answer_of_all Rehearse all bytes ending text read told = rehearsed_of_all all ending text (subst (λ (b : List ℕ). IsRehearsed b ending text) read told)

done_short : (command : Command) (all text : List ℕ) → IsAnswer command all Done text → length all ≤ most_bytes
done_short Clear all text told = told.0
done_short Rehearse all text told = reported_short all text told

-- ---- endings

wrote_of_all : (command : Command) (all bytes : List ℕ) (ending : Ending) (before after : Seen) → bytes ≡ take most_read all → WroteAnswer command bytes ending before after → WroteAnswer command all ending before after
wrote_of_all command all bytes ending before after read told =
    (told.0, the_answer command all ending told.0 (answer_of_all command all bytes ending told.0 read told.1.0), told.2)

front_of_all : (command : Command) (all bytes : List ℕ) (before after : Seen) → bytes ≡ take most_read all → WroteAnswerFront command bytes before after → WroteAnswerFront command all before after
front_of_all command all bytes before after read told =
    (told.0, told.1, the_answer command all told.0 told.1 (answer_of_all command all bytes told.0 told.1 read told.2.0), told.3)

none_unread : (all : List ℕ) → length all ≤ most_bytes → Some (unread all) ≡ Some []
none_unread all small = ap Some (drop_of_length-le all {i = most_read} (omega (arith, small)))

whole_front : (left left_after : Option (List ℕ)) (bytes : List ℕ) → WasRead left bytes left_after → GaveFront left left_after
whole_front None left_after bytes read = tt
whole_front (Some all) left_after bytes read = (most_read, omega arith, read.1)

pub read_and_told : (command : Command) (ending : Ending) (input input_after : Seen) (output output_after : Seen) (bytes all_bytes : List ℕ) → all_bytes ≡ bytes → WasRead input.left bytes input_after.left → IsTold command ending all_bytes output output_after → IsCarriedOut command ending input input_after output output_after
read_and_told command ending input input_after output output_after bytes all_bytes is read told =
    by ending input.left read (subst (λ (b : List ℕ). IsTold command ending b output output_after) is told)
  where
    by : (e : Ending) (left : Option (List ℕ)) → WasRead left bytes input_after.left → IsTold command e bytes output output_after → IsCarriedOut command e (record input { left = left }) input_after output output_after
    by Done None r t = tt
    by Done (Some all) r t =
        (r.1 ∙ none_unread all (done_short command all t.0 (answer_of_all command all bytes Done t.0 r.0 t.1.0)), wrote_of_all command all bytes Done output output_after r.0 t)
    by Usage left r t = absurd (true_not_false t)
    by (RefusedEnding line rule) None r t = tt
    by (RefusedEnding line rule) (Some all) r t = (r.1, wrote_of_all command all bytes (RefusedEnding line rule) output output_after r.0 t)
    by (RefusedDeal fault) None r t = tt
    by (RefusedDeal fault) (Some all) r t = (r.1, wrote_of_all command all bytes (RefusedDeal fault) output output_after r.0 t)
    by InputFailed left r t = absurd (true_not_false t)
    by OutputFailed None r t = (t.0, tt)
    by OutputFailed (Some all) r t = (t.0, (r.1, front_of_all command all bytes output output_after r.0 t.1))
    by NoMemory left r t = (whole_front left input_after.left bytes r, t)

-- other words have the usage line
pub usage_told : (words : List (List ℕ)) (ending : Ending) (input : Seen) (output output_after : Seen) (text : List ℕ) → None ≡ command_of words → text ≡ usage_text → Says Usage ending output text output_after → IsEnding (command_of words) ending input input output output_after
usage_told words ending input output output_after text other is says =
    subst (λ (command : Option Command). IsEnding command ending input input output output_after) other (refl, subst (λ (t : List ℕ). Says Usage ending output t output_after) is says)
