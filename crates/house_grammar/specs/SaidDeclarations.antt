-- What a line that declares says, read from its words.
use Rattle.std.specs.Prelude.{ℕ, List, Option, Some}
use Rattle.line_text.specs.Reading.{◌>>=◌, name_word, amount_word, ended}
use Rattle.house_words.specs.Tails.{one_name, three_names_amount, name_two_numbers, names_from}
use Rattle.house_grammar.specs.Holders.{name_conduct_size}
use Rattle.house_grammar.specs.declared.declaration.Declaration.{Declaration}
use Rattle.house_grammar.specs.declared.declaration.Declaration.TheVariants.{Party, Seat, Set, Ledger, Open, Deal, Step}
use Rattle.house_words.specs.declared.keyword.DeclarationKeyword.{DeclarationKeyword}
use Rattle.house_words.specs.declared.keyword.DeclarationKeyword.TheVariants as declare

-- a set has one seat at least
unfoldable pub set_after : List (List ℕ) → Option Declaration
set_after ws = do
  head ← name_two_numbers ws
  seats ← names_from 1 head.1
  Some (Set head.0.0 head.0.1 head.0.2 seats)

-- a deal has two parties at least
unfoldable pub deal_after : List (List ℕ) → Option Declaration
deal_after ws = do
  name ← name_word ws
  parties ← names_from 2 name.1
  Some (Deal name.0 parties)

unfoldable pub step_after : List (List ℕ) → Option Declaration
step_after ws = do
  deal ← name_word ws
  from ← name_word deal.1
  to ← name_word from.1
  ledger ← name_word to.1
  asset ← name_word ledger.1
  amount ← amount_word asset.1
  ended amount.1 (Step deal.0 from.0 to.0 ledger.0 asset.0 amount.0)

abbrev pub declaration_after : DeclarationKeyword → List (List ℕ) → Option Declaration
declaration_after declare.Party ws = name_conduct_size ws >>= λ s. Some (Party s.0 s.1 s.2)
declaration_after declare.Seat ws = name_conduct_size ws >>= λ s. Some (Seat s.0 s.1 s.2)
declaration_after declare.Set ws = set_after ws
declaration_after declare.Ledger ws = one_name ws >>= λ name. Some (Ledger name)
declaration_after declare.Open ws = three_names_amount ws >>= λ s. Some (Open s.0 s.1 s.2 s.3)
declaration_after declare.Deal ws = deal_after ws
declaration_after declare.Step ws = step_after ws
