-- An input has one answer.
use Rattle.std.proofs.Common.{◌≡◌, ℕ, inl, inr, true, false, List, Result, Ok, Err, IfOk, refl, sym, ap, ◌∙◌, arith}
use Rattle.deal_core.specs.Deals.{DealTold}
use Rattle.deal_core.specs.Reading.{IsTextOf, IsFaultOf}
use Rattle.deal_core.specs.declared.deal_fault.DealFault.{DealFault}
use Rattle.deal_core.specs.declared.deal_fault.DealFault.TheVariants.{NoMemory as OutOfMemory}
use Rattle.deal_core.proofs.OneAnswer.{one_answer as one_reading}
use Rattle.clear_core.specs.Summaries.{clearing_of}
use Rattle.script_lines.specs.Refusals.{Refused as RefusedAt}
use Rattle.deal_desk.specs.Answers.{refused_line, refused_deal_line, IsCleared, IsRehearsed, IsAnswer, IsTheAnswer}
use Rattle.deal_desk.specs.declared.answer.Answer.{Answer}
use Rattle.deal_desk.specs.declared.command.Command.{Command}
use Rattle.deal_desk.specs.declared.command.Command.TheVariants.{Clear, Rehearse}
use Rattle.deal_desk.specs.declared.ending.Ending.{Ending}
use Rattle.deal_desk.specs.declared.ending.Ending.TheVariants.{Done, Usage, Refused, RefusedDeal, InputFailed, OutputFailed, NoMemory}

never : {P : Type 0} → true ≡ false → P
never e = absurd (let clash : true ≡ false = e in cc)

-- ---- reading a deal's text

one_deal : (text : List ℕ) (deal other : DealTold) → IsTextOf deal text → IsTextOf other text → other ≡ deal
one_deal text deal other h k = elim (one_reading text (Ok deal) (Ok other) h k) [
  | inl same ↦ cc
  | inr (inl out) ↦ absurd cc
  | inr (inr out) ↦ absurd cc
]

no_fault : {P : Type 0} (text : List ℕ) (deal : DealTold) (fault : DealFault) → (fault ≡ OutOfMemory → ⊥) → IsTextOf deal text → IsFaultOf text fault → P
no_fault text deal fault some h k = elim (one_reading text (Ok deal) (Err fault) h k) [
  | inl same ↦ absurd cc
  | inr (inl out) ↦ absurd cc
  | inr (inr out) ↦ absurd (some cc)
]

one_fault : (text : List ℕ) (fault other : DealFault) → (fault ≡ OutOfMemory → ⊥) → (other ≡ OutOfMemory → ⊥) → IsFaultOf text fault → IsFaultOf text other → other ≡ fault
one_fault text fault other some some' h k = elim (one_reading text (Err fault) (Err other) h k) [
  | inl same ↦ cc
  | inr (inl out) ↦ absurd (some cc)
  | inr (inr out) ↦ absurd (some' cc)
]

-- ---- the commands

cleared : (input : List ℕ) (ending : Ending) (text : List ℕ) → IsCleared input ending text → (other : Ending) (told : List ℕ) → IsCleared input other told → (other ≡ ending) × (told ≡ text)
cleared input Done text (small, deal, is, says) Done told (small', deal', is', says') =
    (refl, says' ∙ (ap (λ (d : DealTold). clearing_of d) (one_deal input deal deal' is is') ∙ sym says))
cleared input Done text (small, deal, is, says) (Refused line rule) told (large, is_line, is_rule, says') = absurd (omega (arith, small, large))
cleared input Done text (small, deal, is, says) (RefusedDeal fault) told (small', some, is', says') = no_fault input deal fault some is is'
cleared input (Refused line rule) text (large, zero_line, is_rule, says) Done told (small, deal, is, says') = absurd (omega (arith, small, large))
cleared input (Refused line rule) text (large, zero_line, is_rule, says) (Refused line' rule') told (large', zero_line', is_rule', says') =
    let line_is : line' ≡ line = zero_line' ∙ sym zero_line in
    let rule_is : rule' ≡ rule = is_rule' ∙ sym is_rule in
    ((λ i. Refused (line_is i) (rule_is i)), says' ∙ ((λ i. refused_line (line_is i) (rule_is i)) ∙ sym says))
cleared input (Refused line rule) text (large, zero_line, is_rule, says) (RefusedDeal fault) told (small, some, is, says') = absurd (omega (arith, small, large))
cleared input (RefusedDeal fault) text (small, some, is, says) Done told (small', deal, is', says') = no_fault input deal fault some is' is
cleared input (RefusedDeal fault) text (small, some, is, says) (Refused line rule) told (large, is_line, is_rule, says') = absurd (omega (arith, small, large))
cleared input (RefusedDeal fault) text (small, some, is, says) (RefusedDeal fault') told (small', some', is', says') =
    let same : fault' ≡ fault = one_fault input fault fault' some some' is is' in
    (ap (λ (f : DealFault). RefusedDeal f) same, says' ∙ (ap (λ (f : DealFault). refused_deal_line f) same ∙ sym says))
cleared input Usage text h other told k = never h
cleared input InputFailed text h other told k = never h
cleared input OutputFailed text h other told k = never h
cleared input NoMemory text h other told k = never h
cleared input Done text h Usage told k = never k
cleared input Done text h InputFailed told k = never k
cleared input Done text h OutputFailed told k = never k
cleared input Done text h NoMemory told k = never k
cleared input (Refused line rule) text h Usage told k = never k
cleared input (Refused line rule) text h InputFailed told k = never k
cleared input (Refused line rule) text h OutputFailed told k = never k
cleared input (Refused line rule) text h NoMemory told k = never k
cleared input (RefusedDeal fault) text h Usage told k = never k
cleared input (RefusedDeal fault) text h InputFailed told k = never k
cleared input (RefusedDeal fault) text h OutputFailed told k = never k
cleared input (RefusedDeal fault) text h NoMemory told k = never k

one_text : {text other : List ℕ} → ◌≡◌ {A = Result (List ℕ) RefusedAt} (Ok text) (Ok other) → text ≡ other
one_text e = cc

no_text : (text : List ℕ) (refused : RefusedAt) → ◌≡◌ {A = Result (List ℕ) RefusedAt} (Err refused) (Ok text) → ⊥
no_text text refused e = cc

one_refusal : {refused other : RefusedAt} → ◌≡◌ {A = Result (List ℕ) RefusedAt} (Err refused) (Err other) → refused ≡ other
one_refusal e = cc

rehearsed : (input : List ℕ) (ending : Ending) (text : List ℕ) → IsRehearsed input ending text → (other : Ending) (told : List ℕ) → IsRehearsed input other told → (other ≡ ending) × (told ≡ text)
rehearsed input Done text h Done told k = (refl, one_text (sym k ∙ h))
rehearsed input Done text h (Refused line rule) told k = absurd (no_text text (record { line = line; rule = rule }) (sym k.0 ∙ h))
rehearsed input (Refused line rule) text h Done told k = absurd (no_text told (record { line = line; rule = rule }) (sym h.0 ∙ k))
rehearsed input (Refused line rule) text h (Refused line' rule') told k =
    let same : record { line = line'; rule = rule' } ≡ record { line = line; rule = rule } = one_refusal (sym k.0 ∙ h.0) in
    (ap (λ (r : RefusedAt). Refused r.line r.rule) same, k.1 ∙ (ap (λ (r : RefusedAt). refused_line r.line r.rule) same ∙ sym h.1))
rehearsed input Usage text h other told k = never h
rehearsed input (RefusedDeal fault) text h other told k = never h
rehearsed input InputFailed text h other told k = never h
rehearsed input OutputFailed text h other told k = never h
rehearsed input NoMemory text h other told k = never h
rehearsed input Done text h Usage told k = never k
rehearsed input Done text h (RefusedDeal fault) told k = never k
rehearsed input Done text h InputFailed told k = never k
rehearsed input Done text h OutputFailed told k = never k
rehearsed input Done text h NoMemory told k = never k
rehearsed input (Refused line rule) text h Usage told k = never k
rehearsed input (Refused line rule) text h (RefusedDeal fault) told k = never k
rehearsed input (Refused line rule) text h InputFailed told k = never k
rehearsed input (Refused line rule) text h OutputFailed told k = never k
rehearsed input (Refused line rule) text h NoMemory told k = never k

one_answer : (command : Command) (input : List ℕ) (ending : Ending) (text : List ℕ) → IsAnswer command input ending text → (other : Ending) (told : List ℕ) → IsAnswer command input other told → (other ≡ ending) × (told ≡ text)
one_answer Clear input ending text h = cleared input ending text h
one_answer Rehearse input ending text h = rehearsed input ending text h

-- an answer is the only one
pub the_answer : (command : Command) (input : List ℕ) (ending : Ending) (text : List ℕ) → IsAnswer command input ending text → IsTheAnswer command input ending text
the_answer command input ending text is = (is, one_answer command input ending text is)

pub given_is_the : {E : Type 0} (command : Command) (input : List ℕ) (given : Result Answer E) → IfOk given (λ answer. IsAnswer command input answer.ending answer.text) → IfOk given (λ answer. IsTheAnswer command input answer.ending answer.text)
given_is_the command input (Ok answer) is = the_answer command input answer.ending answer.text is
given_is_the command input (Err error) is = tt
