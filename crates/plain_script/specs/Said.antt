-- What a line of a plain script says, read from its words.
use Rattle.std.specs.Prelude.{ℕ, if◌then◌else◌, List, [], ◌∷◌, Option, Some, None, codes}
use Rattle.std.specs.Option.{option_map}
use Rattle.std.specs.Str.{bytes_eq}
use Rattle.line_text.specs.Words.{words_of}
use Rattle.line_text.specs.Reading.{◌>>=◌, name_word, amount_word, number_u32_word, ended}
use Rattle.script_lines.specs.WordLists.{names_only}
use Rattle.plain_script.specs.declared.keyword.Keyword.{Keyword}
use Rattle.plain_script.specs.declared.keyword.Keyword.TheVariants as key
use Rattle.plain_script.specs.declared.declaration.Declaration.{Declaration}
use Rattle.plain_script.specs.declared.declaration.Declaration.TheVariants.{Ledger, Open, Deal}
use Rattle.plain_script.specs.declared.event.Event.{Event}
use Rattle.plain_script.specs.declared.event.Event.TheVariants.{Register, Escrow, Transfer, Start, Commit, Abort, Claim}
use Rattle.plain_script.specs.declared.statement.Statement.{Statement}
use Rattle.plain_script.specs.declared.statement.Statement.TheVariants.{Plain, House, Declare, Begin, Happen}

-- the word with which a line begins
abbrev pub keyword_text : Keyword → List ℕ
keyword_text key.Plain = codes "plain"
keyword_text key.House = codes "house"
keyword_text key.Begin = codes "begin"
keyword_text key.Ledger = codes "ledger"
keyword_text key.Open = codes "open"
keyword_text key.Deal = codes "deal"
keyword_text key.Register = codes "register"
keyword_text key.Escrow = codes "escrow"
keyword_text key.Transfer = codes "transfer"
keyword_text key.Start = codes "start"
keyword_text key.Commit = codes "commit"
keyword_text key.Abort = codes "abort"
keyword_text key.Claim = codes "claim"

-- the keywords that open a part of the script or declare
abbrev pub opening_keyword : List ℕ → Option Keyword
opening_keyword word =
    if bytes_eq word (codes "plain") then Some key.Plain
    else if bytes_eq word (codes "house") then Some key.House
    else if bytes_eq word (codes "begin") then Some key.Begin
    else if bytes_eq word (codes "ledger") then Some key.Ledger
    else if bytes_eq word (codes "open") then Some key.Open
    else if bytes_eq word (codes "deal") then Some key.Deal
    else None

-- the keywords of events
abbrev pub event_keyword : List ℕ → Option Keyword
event_keyword word =
    if bytes_eq word (codes "register") then Some key.Register
    else if bytes_eq word (codes "escrow") then Some key.Escrow
    else if bytes_eq word (codes "transfer") then Some key.Transfer
    else if bytes_eq word (codes "start") then Some key.Start
    else if bytes_eq word (codes "commit") then Some key.Commit
    else if bytes_eq word (codes "abort") then Some key.Abort
    else if bytes_eq word (codes "claim") then Some key.Claim
    else None

abbrev pub either_keyword : Option Keyword → Option Keyword → Option Keyword
either_keyword (Some k) other = Some k
either_keyword None other = other

unfoldable pub keyword_of : List ℕ → Option Keyword
keyword_of word = either_keyword (opening_keyword word) (event_keyword word)

-- ---- what stands behind each keyword

unfoldable pub ledger_after : List (List ℕ) → Option Declaration
ledger_after ws = do
  name ← name_word ws
  ended name.1 (Ledger name.0)

unfoldable pub open_after : List (List ℕ) → Option Declaration
open_after ws = do
  ledger ← name_word ws
  asset ← name_word ledger.1
  party ← name_word asset.1
  amount ← amount_word party.1
  ended amount.1 (Open ledger.0 asset.0 party.0 amount.0)

unfoldable pub deal_after : List (List ℕ) → Option Declaration
deal_after ws = do
  name ← name_word ws
  parties ← names_only name.1
  Some (Deal name.0 parties)

unfoldable pub register_after : List (List ℕ) → Option Event
register_after ws = do
  ledger ← name_word ws
  deal ← name_word ledger.1
  party ← name_word deal.1
  ended party.1 (Register ledger.0 deal.0 party.0)

unfoldable pub escrow_after : List (List ℕ) → Option Event
escrow_after ws = do
  ledger ← name_word ws
  deal ← name_word ledger.1
  party ← name_word deal.1
  asset ← name_word party.1
  amount ← amount_word asset.1
  ended amount.1 (Escrow ledger.0 deal.0 party.0 asset.0 amount.0)

unfoldable pub transfer_after : List (List ℕ) → Option Event
transfer_after ws = do
  ledger ← name_word ws
  deal ← name_word ledger.1
  from ← name_word deal.1
  turn ← number_u32_word from.1
  to ← name_word turn.1
  asset ← name_word to.1
  amount ← amount_word asset.1
  ended amount.1 (Transfer ledger.0 deal.0 from.0 turn.0 to.0 asset.0 amount.0)

-- a start or a vote: a deal and a party
unfoldable pub log_after : (List ℕ → List ℕ → Event) → List (List ℕ) → Option Event
log_after event ws = do
  deal ← name_word ws
  party ← name_word deal.1
  ended party.1 (event deal.0 party.0)

unfoldable pub claim_after : List (List ℕ) → Option Event
claim_after ws = do
  ledger ← name_word ws
  deal ← name_word ledger.1
  len ← number_u32_word deal.1
  ended len.1 (Claim ledger.0 deal.0 len.0)

abbrev pub statement_after : Keyword → List (List ℕ) → Option Statement
statement_after key.Plain ws = ended ws Plain
statement_after key.House ws = ended ws House
statement_after key.Begin ws = ended ws Begin
statement_after key.Ledger ws = option_map Declare (ledger_after ws)
statement_after key.Open ws = option_map Declare (open_after ws)
statement_after key.Deal ws = option_map Declare (deal_after ws)
statement_after key.Register ws = option_map Happen (register_after ws)
statement_after key.Escrow ws = option_map Happen (escrow_after ws)
statement_after key.Transfer ws = option_map Happen (transfer_after ws)
statement_after key.Start ws = option_map Happen (log_after Start ws)
statement_after key.Commit ws = option_map Happen (log_after Commit ws)
statement_after key.Abort ws = option_map Happen (log_after Abort ws)
statement_after key.Claim ws = option_map Happen (claim_after ws)

abbrev pub statement_of_words : List (List ℕ) → Option Statement
statement_of_words [] = None
statement_of_words (word ∷ ws) = keyword_of word >>= λ keyword. statement_after keyword ws

-- what the line says, or none where it has no line's form
abbrev pub statement_of : List ℕ → Option Statement
statement_of line = statement_of_words (words_of line)
