-- In no text of a line stands a space or a line feed.
use Rattle.std.proofs.Common.{◌≡◌, ℕ, true, Option, Some, None, List, [], ◌∷◌, refl}
use Rattle.std.specs.List.{list_all}
use Rattle.dh_base.specs.Spelled.{outcome_text}
use Rattle.dh_base.specs.declared.outcome.Outcome.{Outcome}
use Rattle.dh_base.specs.declared.outcome.Outcome.TheVariants as outcome_is
use Rattle.house_words.specs.Spelled.{LineWord, Fixed, named_if_any}
use Rattle.house_words.proofs.PlainValues.{is_plain_value, named_plain}
use Rattle.house_grammar.specs.Spelling.{conduct_text, side_text, stop_text, size_value, declaration_words, text_words, record_words, building_words, event_words, line_words}
use Rattle.house_grammar.specs.declared.building.Building.{Building}
use Rattle.house_grammar.specs.declared.building.Building.TheVariants as build
use Rattle.house_grammar.specs.declared.building.TermSide.{TermSide}
use Rattle.house_grammar.specs.declared.building.TermSide.TheVariants.{Give, Get}
use Rattle.house_grammar.specs.declared.declaration.Declaration.{Declaration}
use Rattle.house_grammar.specs.declared.declaration.Declaration.TheVariants as declare
use Rattle.house_grammar.specs.declared.event.Event.{Event}
use Rattle.house_grammar.specs.declared.event.Event.TheVariants as happen
use Rattle.house_grammar.specs.declared.event.StopSide.{StopSide}
use Rattle.house_grammar.specs.declared.event.StopSide.TheVariants.{Before, After}
use Rattle.house_grammar.specs.declared.forged_text.ForgedText.{ForgedText}
use Rattle.house_grammar.specs.declared.forged_text.ForgedText.TheVariants as say
use Rattle.house_grammar.specs.declared.holder_line.Conduct.{Conduct}
use Rattle.house_grammar.specs.declared.holder_line.Conduct.TheVariants.{Honest, Deviant}
use Rattle.house_grammar.specs.declared.holder_line.KeySize.{KeySize}
use Rattle.house_grammar.specs.declared.holder_line.KeySize.TheVariants.{Ring, TreeOfHeight5, TreeOfHeight10}
use Rattle.house_grammar.specs.declared.house_line.HouseLine.{HouseLine}
use Rattle.house_grammar.specs.declared.house_line.HouseLine.TheVariants.{House, Declare, Begin, Build, Happen}
use Rattle.house_grammar.specs.declared.record_line.RecordLine.{RecordLine}
use Rattle.house_grammar.specs.declared.record_line.RecordLine.TheVariants as enter

abbrev ArePlain : List LineWord → Type 0
ArePlain values = list_all is_plain_value values ≡ true

outcome_plain : (outcome : Outcome) → ArePlain (Fixed (outcome_text outcome) ∷ [])
outcome_plain outcome_is.Commit = refl
outcome_plain outcome_is.Abort = refl

side_plain : (side : TermSide) → ArePlain (Fixed (side_text side) ∷ [])
side_plain Give = refl
side_plain Get = refl

stop_plain : (side : StopSide) → ArePlain (Fixed (stop_text side) ∷ [])
stop_plain Before = refl
stop_plain After = refl

size_plain : (size : KeySize) → ArePlain (size_value size ∷ [])
size_plain (Ring count) = refl
size_plain TreeOfHeight5 = refl
size_plain TreeOfHeight10 = refl

holder_plain : (conduct : Conduct) (size : KeySize) → ArePlain (Fixed (conduct_text conduct) ∷ size_value size ∷ [])
holder_plain Honest size = size_plain size
holder_plain Deviant size = size_plain size

any_plain : (name : Option (List ℕ)) → ArePlain (named_if_any name)
any_plain None = refl
any_plain (Some name) = refl

declaration_plain : (x : Declaration) → ArePlain (declaration_words x)
declaration_plain (declare.Party name conduct size) = holder_plain conduct size
declaration_plain (declare.Seat name conduct size) = holder_plain conduct size
declaration_plain (declare.Set name epoch faults seats) = named_plain seats
declaration_plain (declare.Ledger name) = refl
declaration_plain (declare.Open ledger asset party amount) = refl
declaration_plain (declare.Deal name parties) = named_plain parties
declaration_plain (declare.Step deal from to ledger asset amount) = refl

text_plain : (x : ForgedText) → ArePlain (text_words x)
text_plain (say.Register deal) = refl
text_plain (say.Pay ledger to asset amount) = refl
text_plain (say.Escrow deal ledger asset amount) = refl
text_plain (say.Transfer deal ledger turn to asset amount) = refl
text_plain (say.Start deal) = refl
text_plain (say.Vote deal vote) = outcome_plain vote
text_plain (say.Prefix set log) = refl
text_plain (say.Handover set log next) = refl
text_plain (say.Status set deal log len outcome) = outcome_plain outcome
text_plain (say.Bytes message) = refl

record_plain : (x : RecordLine) → ArePlain (record_words x)
record_plain (enter.Start deal) = refl
record_plain (enter.Commit deal party) = refl
record_plain (enter.Abort deal party) = refl

building_plain : (x : Building) → ArePlain (building_words x)
building_plain (build.Forge envelope holder key text) = text_plain text
building_plain (build.Flip flipped envelope) = refl
building_plain (build.Log log) = refl
building_plain (build.Record log line) = record_plain line
building_plain (build.Take log seat len) = refl
building_plain (build.Claim claim log) = refl
building_plain (build.Cut claim) = refl
building_plain (build.Link claim set len) = refl
building_plain (build.LinkBy claim seat envelope) = refl
building_plain (build.By claim seat envelope) = refl
building_plain (build.Term terms side ledger asset amount) = side_plain side
building_plain (build.StatusClaim claim deal log len outcome) = outcome_plain outcome

event_plain : (x : Event) → ArePlain (event_words x)
event_plain (happen.Deliver ledger envelope) = refl
event_plain (happen.Show ledger deal claim) = refl
event_plain (happen.Ask statement ledger deal party) = refl
event_plain (happen.Join party deal deadline terms) = any_plain terms
event_plain (happen.Next party deal envelope) = refl
event_plain (happen.Again party deal act envelope) = refl
event_plain (happen.Start party deal envelope) = refl
event_plain (happen.Commit party deal envelope) = refl
event_plain (happen.Abort party deal envelope) = refl
event_plain (happen.Tick party deal time envelope) = refl
event_plain (happen.Hear party statement) = refl
event_plain (happen.Enter seat at envelope) = refl
event_plain (happen.Prefix seat len envelope) = refl
event_plain (happen.Handover seat set len envelope) = refl
event_plain (happen.Install seat claim deals) = named_plain deals
event_plain (happen.Fail node) = refl
event_plain (happen.Stop node side) = stop_plain side
event_plain (happen.Reopen node) = refl
event_plain (happen.Status seat deal envelope) = refl

pub line_plain : (line : HouseLine) → ArePlain (line_words line)
line_plain House = refl
line_plain (Declare d) = declaration_plain d
line_plain Begin = refl
line_plain (Build b) = building_plain b
line_plain (Happen e) = event_plain e
