-- What a line that builds says, read from its words.
use Rattle.std.specs.Prelude.{ℕ, if◌then◌else◌, List, [], ◌∷◌, Option, Some, None, codes}
use Rattle.std.specs.Str.{bytes_eq}
use Rattle.line_text.specs.Reading.{◌>>=◌, name_word, amount_word, ended}
use Rattle.house_grammar.specs.SaidTexts.{forged_text}
use Rattle.house_words.specs.Tails.{one_name, two_names, two_names_number, two_names_number_then, name_number_name, three_names_number_outcome}
use Rattle.house_words.specs.WordKinds.{one_of}
use Rattle.house_grammar.specs.declared.building.Building.{Building}
use Rattle.house_grammar.specs.declared.building.Building.TheVariants.{Forge, Flip, Log, Record, Take, Claim, Cut, Link, LinkBy, By, Term, StatusClaim}
use Rattle.house_grammar.specs.declared.building.TermSide.{TermSide}
use Rattle.house_grammar.specs.declared.building.TermSide.TheVariants.{Give, Get}
use Rattle.house_words.specs.declared.keyword.BuildingKeyword.{BuildingKeyword}
use Rattle.house_words.specs.declared.keyword.BuildingKeyword.TheVariants as build
use Rattle.house_grammar.specs.declared.record_line.RecordLine.{RecordLine}
use Rattle.house_grammar.specs.declared.record_line.RecordLine.TheVariants as record_of

unfoldable pub forge_after : List (List ℕ) → Option Building
forge_after ws = do
  head ← two_names_number_then ws
  text ← forged_text head.1
  Some (Forge head.0.0 head.0.1 head.0.2 text)

unfoldable pub record_line : List (List ℕ) → Option RecordLine
record_line [] = None
record_line (word ∷ ws) =
    if bytes_eq word (codes "start") then (one_name ws >>= λ deal. Some (record_of.Start deal))
    else if bytes_eq word (codes "commit")
    then (two_names ws >>= λ s. Some (record_of.Commit s.0 s.1))
    else if bytes_eq word (codes "abort")
    then (two_names ws >>= λ s. Some (record_of.Abort s.0 s.1))
    else None

unfoldable pub record_after : List (List ℕ) → Option Building
record_after ws = do
  log ← name_word ws
  line ← record_line log.1
  Some (Record log.0 line)

unfoldable pub term_after : List (List ℕ) → Option Building
term_after ws = do
  terms ← name_word ws
  side ← one_of (codes "give") Give (codes "get") Get terms.1
  ledger ← name_word side.1
  asset ← name_word ledger.1
  amount ← amount_word asset.1
  ended amount.1 (Term terms.0 side.0 ledger.0 asset.0 amount.0)

abbrev pub building_after : BuildingKeyword → List (List ℕ) → Option Building
building_after build.Forge ws = forge_after ws
building_after build.Flip ws = two_names ws >>= λ s. Some (Flip s.0 s.1)
building_after build.Log ws = one_name ws >>= λ log. Some (Log log)
building_after build.Record ws = record_after ws
building_after build.Take ws = two_names_number ws >>= λ s. Some (Take s.0 s.1 s.2)
building_after build.Claim ws = two_names ws >>= λ s. Some (Claim s.0 s.1)
building_after build.Cut ws = one_name ws >>= λ claim. Some (Cut claim)
building_after build.Link ws = two_names_number ws >>= λ s. Some (Link s.0 s.1 s.2)
building_after build.LinkBy ws = name_number_name ws >>= λ s. Some (LinkBy s.0 s.1 s.2)
building_after build.By ws = name_number_name ws >>= λ s. Some (By s.0 s.1 s.2)
building_after build.Term ws = term_after ws
building_after build.StatusClaim ws =
    three_names_number_outcome ws >>= λ s. Some (StatusClaim s.0 s.1 s.2 s.3 s.4)
