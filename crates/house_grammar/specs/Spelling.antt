-- The spelling of lines.
use Rattle.std.specs.Prelude.{ℕ, ◌≡◌, Bool, true, nat_le, IsTrue, List, [], ◌∷◌, length, map, codes}
use Rattle.dh_base.specs.Spelled.{outcome_text}
use Rattle.line_text.specs.Words.{spelled_words}
use Rattle.house_words.specs.Spelled.{LineWord, Fixed, Named, Number, LongNumber, Amount, Hexadecimal, SpellWords, named_if_any}
use Rattle.house_grammar.specs.declared.building.Building.{Building}
use Rattle.house_grammar.specs.declared.building.Building.TheVariants as build
use Rattle.house_grammar.specs.declared.building.TermSide.{TermSide}
use Rattle.house_grammar.specs.declared.building.TermSide.TheVariants.{Give, Get}
use Rattle.house_grammar.specs.declared.declaration.Declaration.{Declaration}
use Rattle.house_grammar.specs.declared.declaration.Declaration.TheVariants as declare
use Rattle.house_grammar.specs.declared.event.Event.{Event}
use Rattle.house_grammar.specs.declared.event.Event.TheVariants as happen
use Rattle.house_grammar.specs.declared.event.StopSide.{StopSide}
use Rattle.house_grammar.specs.declared.event.StopSide.TheVariants.{Before, After}
use Rattle.house_grammar.specs.declared.forged_text.ForgedText.{ForgedText}
use Rattle.house_grammar.specs.declared.forged_text.ForgedText.TheVariants as say
use Rattle.house_grammar.specs.declared.holder_line.Conduct.{Conduct}
use Rattle.house_grammar.specs.declared.holder_line.Conduct.TheVariants.{Honest, Deviant}
use Rattle.house_grammar.specs.declared.holder_line.KeySize.{KeySize}
use Rattle.house_grammar.specs.declared.holder_line.KeySize.TheVariants.{Ring, TreeOfHeight5, TreeOfHeight10}
use Rattle.house_grammar.specs.declared.house_line.HouseLine.{HouseLine}
use Rattle.house_grammar.specs.declared.house_line.HouseLine.TheVariants.{House, Declare, Begin, Build, Happen}
use Rattle.house_grammar.specs.declared.record_line.RecordLine.{RecordLine}
use Rattle.house_grammar.specs.declared.record_line.RecordLine.TheVariants as enter

-- ---- the words of a line

abbrev pub conduct_text : Conduct → List ℕ
conduct_text Honest = codes "honest"
conduct_text Deviant = codes "deviant"

abbrev pub side_text : TermSide → List ℕ
side_text Give = codes "give"
side_text Get = codes "get"

abbrev pub stop_text : StopSide → List ℕ
stop_text Before = codes "before"
stop_text After = codes "after"

abbrev pub size_value : KeySize → LineWord
size_value (Ring count) = Number count
size_value TreeOfHeight5 = Fixed (codes "t5")
size_value TreeOfHeight10 = Fixed (codes "t6")

abbrev pub declaration_words : Declaration → List LineWord
declaration_words (declare.Party name conduct size) =
    Fixed (codes "party") ∷ Named name ∷ Fixed (conduct_text conduct) ∷ size_value size ∷ []
declaration_words (declare.Seat name conduct size) =
    Fixed (codes "seat") ∷ Named name ∷ Fixed (conduct_text conduct) ∷ size_value size ∷ []
declaration_words (declare.Set name epoch faults seats) =
    Fixed (codes "set") ∷ Named name ∷ Number epoch ∷ Number faults ∷ map Named seats
declaration_words (declare.Ledger name) = Fixed (codes "ledger") ∷ Named name ∷ []
declaration_words (declare.Open ledger asset party amount) =
    Fixed (codes "open") ∷ Named ledger ∷ Named asset ∷ Named party ∷ Amount amount ∷ []
declaration_words (declare.Deal name parties) =
    Fixed (codes "deal") ∷ Named name ∷ map Named parties
declaration_words (declare.Step deal from to ledger asset amount) =
    Fixed (codes "step") ∷ Named deal ∷ Named from ∷ Named to ∷ Named ledger ∷ Named asset
    ∷ Amount amount ∷ []

abbrev pub text_words : ForgedText → List LineWord
text_words (say.Register deal) = Fixed (codes "register") ∷ Named deal ∷ []
text_words (say.Pay ledger to asset amount) =
    Fixed (codes "pay") ∷ Named ledger ∷ Named to ∷ Named asset ∷ Amount amount ∷ []
text_words (say.Escrow deal ledger asset amount) =
    Fixed (codes "escrow") ∷ Named deal ∷ Named ledger ∷ Named asset ∷ Amount amount ∷ []
text_words (say.Transfer deal ledger turn to asset amount) =
    Fixed (codes "transfer") ∷ Named deal ∷ Named ledger ∷ Number turn ∷ Named to ∷ Named asset
    ∷ Amount amount ∷ []
text_words (say.Start deal) = Fixed (codes "start") ∷ Named deal ∷ []
text_words (say.Vote deal vote) =
    Fixed (codes "vote") ∷ Named deal ∷ Fixed (outcome_text vote) ∷ []
text_words (say.Prefix set log) = Fixed (codes "prefix") ∷ Named set ∷ Named log ∷ []
text_words (say.Handover set log next) =
    Fixed (codes "handover") ∷ Named set ∷ Named log ∷ Named next ∷ []
text_words (say.Status set deal log len outcome) =
    Fixed (codes "status") ∷ Named set ∷ Named deal ∷ Named log ∷ Number len
    ∷ Fixed (outcome_text outcome) ∷ []
text_words (say.Bytes message) = Fixed (codes "bytes") ∷ Hexadecimal message ∷ []

abbrev pub record_words : RecordLine → List LineWord
record_words (enter.Start deal) = Fixed (codes "start") ∷ Named deal ∷ []
record_words (enter.Commit deal party) =
    Fixed (codes "commit") ∷ Named deal ∷ Named party ∷ []
record_words (enter.Abort deal party) = Fixed (codes "abort") ∷ Named deal ∷ Named party ∷ []

abbrev pub building_words : Building → List LineWord
building_words (build.Forge envelope holder key text) =
    Fixed (codes "forge") ∷ Named envelope ∷ Named holder ∷ Number key ∷ text_words text
building_words (build.Flip flipped envelope) =
    Fixed (codes "flip") ∷ Named flipped ∷ Named envelope ∷ []
building_words (build.Log log) = Fixed (codes "log") ∷ Named log ∷ []
building_words (build.Record log line) = Fixed (codes "rec") ∷ Named log ∷ record_words line
building_words (build.Take log seat len) =
    Fixed (codes "take") ∷ Named log ∷ Named seat ∷ Number len ∷ []
building_words (build.Claim claim log) =
    Fixed (codes "claim") ∷ Named claim ∷ Named log ∷ []
building_words (build.Cut claim) = Fixed (codes "cut") ∷ Named claim ∷ []
building_words (build.Link claim set len) =
    Fixed (codes "link") ∷ Named claim ∷ Named set ∷ Number len ∷ []
building_words (build.LinkBy claim seat envelope) =
    Fixed (codes "linkby") ∷ Named claim ∷ Number seat ∷ Named envelope ∷ []
building_words (build.By claim seat envelope) =
    Fixed (codes "by") ∷ Named claim ∷ Number seat ∷ Named envelope ∷ []
building_words (build.Term terms side ledger asset amount) =
    Fixed (codes "term") ∷ Named terms ∷ Fixed (side_text side) ∷ Named ledger ∷ Named asset
    ∷ Amount amount ∷ []
building_words (build.StatusClaim claim deal log len outcome) =
    Fixed (codes "sclaim") ∷ Named claim ∷ Named deal ∷ Named log ∷ Number len
    ∷ Fixed (outcome_text outcome) ∷ []

abbrev pub event_words : Event → List LineWord
event_words (happen.Deliver ledger envelope) =
    Fixed (codes "deliver") ∷ Named ledger ∷ Named envelope ∷ []
event_words (happen.Show ledger deal claim) =
    Fixed (codes "show") ∷ Named ledger ∷ Named deal ∷ Named claim ∷ []
event_words (happen.Ask statement ledger deal party) =
    Fixed (codes "ask") ∷ Named statement ∷ Named ledger ∷ Named deal ∷ Named party ∷ []
event_words (happen.Join party deal deadline terms) =
    Fixed (codes "join") ∷ Named party ∷ Named deal ∷ LongNumber deadline ∷ named_if_any terms
event_words (happen.Next party deal envelope) =
    Fixed (codes "next") ∷ Named party ∷ Named deal ∷ Named envelope ∷ []
event_words (happen.Again party deal act envelope) =
    Fixed (codes "again") ∷ Named party ∷ Named deal ∷ Number act ∷ Named envelope ∷ []
event_words (happen.Start party deal envelope) =
    Fixed (codes "start") ∷ Named party ∷ Named deal ∷ Named envelope ∷ []
event_words (happen.Commit party deal envelope) =
    Fixed (codes "commit") ∷ Named party ∷ Named deal ∷ Named envelope ∷ []
event_words (happen.Abort party deal envelope) =
    Fixed (codes "abort") ∷ Named party ∷ Named deal ∷ Named envelope ∷ []
event_words (happen.Tick party deal time envelope) =
    Fixed (codes "tick") ∷ Named party ∷ Named deal ∷ LongNumber time ∷ Named envelope ∷ []
event_words (happen.Hear party statement) =
    Fixed (codes "hear") ∷ Named party ∷ Named statement ∷ []
event_words (happen.Enter seat at envelope) =
    Fixed (codes "enter") ∷ Named seat ∷ Number at ∷ Named envelope ∷ []
event_words (happen.Prefix seat len envelope) =
    Fixed (codes "prefix") ∷ Named seat ∷ Number len ∷ Named envelope ∷ []
event_words (happen.Handover seat set len envelope) =
    Fixed (codes "handover") ∷ Named seat ∷ Named set ∷ Number len ∷ Named envelope ∷ []
event_words (happen.Install seat claim deals) =
    Fixed (codes "install") ∷ Named seat ∷ Named claim ∷ map Named deals
event_words (happen.Fail node) = Fixed (codes "fail") ∷ Named node ∷ []
event_words (happen.Stop node side) =
    Fixed (codes "stop") ∷ Named node ∷ Fixed (stop_text side) ∷ []
event_words (happen.Reopen node) = Fixed (codes "reopen") ∷ Named node ∷ []
event_words (happen.Status seat deal envelope) =
    Fixed (codes "status") ∷ Named seat ∷ Named deal ∷ Named envelope ∷ []

abbrev pub line_words : HouseLine → List LineWord
line_words House = Fixed (codes "house") ∷ []
line_words (Declare declaration) = declaration_words declaration
line_words Begin = Fixed (codes "begin") ∷ []
line_words (Build building) = building_words building
line_words (Happen event) = event_words event

-- ---- what has a spelling: a set has a seat, and a deal has two parties

abbrev pub declares_enough : Declaration → Bool
declares_enough (declare.Party name conduct size) = true
declares_enough (declare.Seat name conduct size) = true
declares_enough (declare.Set name epoch faults seats) = nat_le 1 (length seats)
declares_enough (declare.Ledger name) = true
declares_enough (declare.Open ledger asset party amount) = true
declares_enough (declare.Deal name parties) = nat_le 2 (length parties)
declares_enough (declare.Step deal from to ledger asset amount) = true

abbrev pub has_enough : HouseLine → Bool
has_enough House = true
has_enough (Declare declaration) = declares_enough declaration
has_enough Begin = true
has_enough (Build building) = true
has_enough (Happen event) = true

-- the text spells the line: its words with one space between each two
pub record SpellsLine (line : HouseLine) (text : List ℕ) : Type 0 where
  pub enough : IsTrue (has_enough line)
  pub words : List (List ℕ)
  pub spelled : SpellWords (line_words line) words
  pub text_is : text ≡ spelled_words words
