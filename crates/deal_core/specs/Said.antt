-- What a line of a deal's text says, read from its words.
use Rattle.std.specs.Prelude.{ℕ, if◌then◌else◌, List, [], ◌∷◌, Option, Some, None, codes}
use Rattle.std.specs.Str.{bytes_eq}
use Rattle.line_text.specs.Lines.{Line}
use Rattle.line_text.specs.Words.{words_of}
use Rattle.line_text.specs.Reading.{◌>>=◌, name_word, amount_word, id_word, ended}
use Rattle.deal_core.specs.declared.deal_line.DealLine.{DealLine}
use Rattle.deal_core.specs.declared.deal_line.DealLine.TheVariants.{Deal, House, Party, Step}

unfoldable pub deal_after : List (List ℕ) → Option DealLine
deal_after words = do
  name ← name_word words
  ended name.1 (Deal name.0)

unfoldable pub house_after : List (List ℕ) → Option DealLine
house_after words = do
  house ← id_word words
  ended house.1 (House house.0)

unfoldable pub party_after : List (List ℕ) → Option DealLine
party_after words = do
  name ← name_word words
  account ← id_word name.1
  ended account.1 (Party (record { name = name.0; account = account.0 }))

unfoldable pub step_after : List (List ℕ) → Option DealLine
step_after words = do
  from ← name_word words
  to ← name_word from.1
  ledger ← name_word to.1
  asset ← name_word ledger.1
  amount ← amount_word asset.1
  ended amount.1 (Step (record {
    from = from.0;
    to = to.0;
    ledger = ledger.0;
    asset = asset.0;
    amount = amount.0;
  }))

-- what stands behind the first word
abbrev pub said_after : List ℕ → List (List ℕ) → Option DealLine
said_after word words =
    if bytes_eq word (codes "deal") then deal_after words
    else if bytes_eq word (codes "house") then house_after words
    else if bytes_eq word (codes "party") then party_after words
    else if bytes_eq word (codes "step") then step_after words
    else None

abbrev pub said_of_words : List (List ℕ) → Option DealLine
said_of_words [] = None
said_of_words (word ∷ words) = said_after word words

-- what a line says; a line that no line feed ends says nothing
abbrev pub said_by : Line → Option DealLine
said_by line = if line.ended then said_of_words (words_of line.text) else None
