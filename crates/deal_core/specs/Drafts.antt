-- What the lines of a deal's text come to, line by line, and the fault of each.
use Rattle.std.specs.Prelude.{ℕ, ◌+◌, ◌-◌, ◌^◌, Bool, true, false, not, ◌&&◌, ◌||◌, ◌==◌, nat_le, nat_lt, if◌then◌else◌, List, [], ◌∷◌, ◌++◌, length, map, Option, Some, None, is_some, Result, Ok, Err}
use Rattle.std.specs.List.{list_any}
use Rattle.std.specs.Option.{unwrap_or}
use Rattle.std.specs.Str.{bytes_eq}
use Rattle.dh_base.specs.declared.id.Id.{Id}
use Rattle.dh_base.specs.Limits.{most_parties}
use Rattle.line_text.specs.Faults.{broken_if}
use Rattle.line_text.specs.Lines.{Line, lines_of}
use Rattle.deal_core.specs.Deals.{is_named, has_account, index_of_name, total_of}
use Rattle.deal_core.specs.Kept.{is_on, ledger_count}
use Rattle.deal_core.specs.Limits.{most_steps, most_ledgers}
use Rattle.deal_core.specs.Said.{said_by}
use Rattle.deal_core.specs.declared.party.Party.{Party}
use Rattle.deal_core.specs.declared.step.Step.{Step}
use Rattle.deal_core.specs.declared.deal_line.NamedStep.{NamedStep}
use Rattle.deal_core.specs.declared.deal_line.DealLine.{DealLine}
use Rattle.deal_core.specs.declared.deal_line.DealLine.TheVariants as line
use Rattle.deal_core.specs.declared.deal_fault.DealFault.{DealFault}
use Rattle.deal_core.specs.declared.deal_fault.DealFault.TheVariants.{BadLine, PartyTwice, UnknownParty, SelfStep, ZeroAmount, TooMany, SumTooLarge}

-- what the lines so far say
pub record Draft : Type 0 where
  pub name : Option (List ℕ)
  pub house : Option Id
  pub parties : List Party
  pub steps : List Step

abbrev pub no_lines : Draft
no_lines = record { name = None; house = None; parties = []; steps = [] }

abbrev pub one_if : Bool → ℕ
one_if b = if b then 1 else 0

-- how many lines that is
abbrev pub lines_in : Draft → ℕ
lines_in draft =
    one_if (is_some draft.name)
    + (one_if (is_some draft.house) + (length draft.parties + length draft.steps))

abbrev pub is_empty : {X : Type 0} → List X → Bool
is_empty [] = true
is_empty (x ∷ xs) = false

-- ---- which fault a line has

-- The number of the line is n.
abbrev pub party_fault : ℕ → List Party → Party → Option DealFault
party_fault n parties party =
    broken_if
    (list_any (is_named party.name) parties || list_any (has_account party.account) parties)
    (PartyTwice n)
    (broken_if (nat_le most_parties (length parties)) (TooMany n) None)

-- the step is on a ledger of its own, behind steps on eight others
abbrev pub is_ninth : List Step → List ℕ → Bool
is_ninth steps ledger = not (is_on steps ledger) && nat_le most_ledgers (ledger_count steps)

abbrev pub is_party : List Party → List ℕ → Bool
is_party parties name = list_any (is_named name) parties

abbrev pub step_fault : ℕ → List Party → List Step → NamedStep → Option DealFault
step_fault n parties steps step =
    broken_if (not (is_party parties step.from && is_party parties step.to)) (UnknownParty n)
    (broken_if (bytes_eq step.from step.to) (SelfStep n)
    (broken_if (step.amount == 0) (ZeroAmount n)
    (broken_if (nat_le most_steps (length steps) || is_ninth steps step.ledger) (TooMany n)
    (broken_if (nat_lt (2 ^ 63 - 1) (total_of steps step.ledger step.asset + step.amount))
    (SumTooLarge n) None))))

-- a line of this kind may stand behind the draft
abbrev pub may_stand : Draft → DealLine → Bool
may_stand draft (line.Deal name) = not (is_some draft.name)
may_stand draft (line.House house) = is_some draft.name && not (is_some draft.house)
may_stand draft (line.Party party) = is_some draft.house && is_empty draft.steps
may_stand draft (line.Step step) = nat_le 2 (length draft.parties)

abbrev pub rule_fault : ℕ → Draft → DealLine → Option DealFault
rule_fault n draft (line.Deal name) = None
rule_fault n draft (line.House house) = None
rule_fault n draft (line.Party party) = party_fault n draft.parties party
rule_fault n draft (line.Step step) = step_fault n draft.parties draft.steps step

abbrev pub said_fault : Draft → Option DealLine → Option DealFault
said_fault draft None = Some (BadLine (lines_in draft + 1))
said_fault draft (Some said) =
    broken_if (not (may_stand draft said)) (BadLine (lines_in draft + 1))
    (rule_fault (lines_in draft + 1) draft said)

-- ---- one line more

abbrev pub index_in : List Party → List ℕ → ℕ
index_in parties name = unwrap_or (index_of_name parties name) 0

abbrev pub with_indices : List Party → NamedStep → Step
with_indices parties step = record {
  from = index_in parties step.from;
  to = index_in parties step.to;
  ledger = step.ledger;
  asset = step.asset;
  amount = step.amount;
}

abbrev pub with_line : Draft → DealLine → Draft
with_line draft (line.Deal name) = record draft { name = Some name }
with_line draft (line.House house) = record draft { house = Some house }
with_line draft (line.Party party) = record draft { parties = draft.parties ++ party ∷ [] }
with_line draft (line.Step step) =
    record draft { steps = draft.steps ++ with_indices draft.parties step ∷ [] }

abbrev pub with_said : Draft → Option DealLine → Draft
with_said draft None = draft
with_said draft (Some said) = with_line draft said

-- ---- all lines

abbrev pub line_fault : Draft → Line → Option DealFault
line_fault draft line = said_fault draft (said_by line)

abbrev pub after_line : Draft → Line → Draft
after_line draft line = with_said draft (said_by line)

-- a deal has its name, its house, and a step at least
abbrev pub is_whole : Draft → Bool
is_whole draft = is_some draft.name && (is_some draft.house && not (is_empty draft.steps))

-- where no line is left
abbrev pub whole : Draft → Result Draft DealFault
whole draft = if is_whole draft then Ok draft else Err (BadLine (lines_in draft + 1))

abbrev pub unless : Option DealFault → Result Draft DealFault → Result Draft DealFault
unless None rest = rest
unless (Some fault) rest = Err fault

-- the first fault of the lines behind the draft, or what all come to
abbrev pub reading_behind : Draft → List Line → Result Draft DealFault
reading_behind draft [] = whole draft
reading_behind draft (line ∷ lines) =
    unless (line_fault draft line) (reading_behind (after_line draft line) lines)

-- what reading a text gives, aside from whether the deal is connected
abbrev pub reading_of : List ℕ → Result Draft DealFault
reading_of text = reading_behind no_lines (lines_of text)

-- ---- the parties

abbrev pub accounts_in : Result Draft DealFault → List Id
accounts_in (Ok draft) = map (λ (party : Party). party.account) draft.parties
accounts_in (Err fault) = []

-- the accounts of the parties of a deal, by its text
abbrev pub parties_in : List ℕ → List Id
parties_in text = accounts_in (reading_of text)
