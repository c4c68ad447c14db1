-- What a forged envelope says, read from the words of its text.
use Rattle.std.specs.Prelude.{ℕ, List, [], ◌∷◌, Option, Some, None, codes}
use Rattle.dh_base.specs.declared.outcome.Outcome.{Outcome}
use Rattle.dh_base.specs.declared.outcome.Outcome.TheVariants as outcome
use Rattle.line_text.specs.Reading.{◌>>=◌, first_word, name_word, amount_word, number_u32_word, ended}
use Rattle.house_words.specs.Keywords.{text_keyword}
use Rattle.house_words.specs.Tails.{one_name, two_names, three_names, three_names_amount, three_names_number_outcome}
use Rattle.house_words.specs.WordKinds.{one_of, hex_bytes}
use Rattle.house_grammar.specs.declared.forged_text.ForgedText.{ForgedText}
use Rattle.house_grammar.specs.declared.forged_text.ForgedText.TheVariants.{Register, Pay, Escrow, Transfer, Start, Vote, Prefix, Handover, Status, Bytes}
use Rattle.house_words.specs.declared.keyword.TextKeyword.{TextKeyword}
use Rattle.house_words.specs.declared.keyword.TextKeyword.TheVariants as say

unfoldable pub transfer_after : List (List ℕ) → Option ForgedText
transfer_after ws = do
  deal ← name_word ws
  ledger ← name_word deal.1
  turn ← number_u32_word ledger.1
  to ← name_word turn.1
  asset ← name_word to.1
  amount ← amount_word asset.1
  ended amount.1 (Transfer deal.0 ledger.0 turn.0 to.0 asset.0 amount.0)

unfoldable pub vote_after : List (List ℕ) → Option ForgedText
vote_after ws = do
  deal ← name_word ws
  vote ← one_of (codes "commit") outcome.Commit (codes "abort") outcome.Abort deal.1
  ended vote.1 (Vote deal.0 vote.0)

unfoldable pub bytes_after : List (List ℕ) → Option ForgedText
bytes_after ws = do
  word ← first_word ws
  message ← hex_bytes word.0
  ended word.1 (Bytes message)

abbrev pub text_after : TextKeyword → List (List ℕ) → Option ForgedText
text_after say.Register ws = one_name ws >>= λ deal. Some (Register deal)
text_after say.Pay ws = three_names_amount ws >>= λ s. Some (Pay s.0 s.1 s.2 s.3)
text_after say.Escrow ws = three_names_amount ws >>= λ s. Some (Escrow s.0 s.1 s.2 s.3)
text_after say.Transfer ws = transfer_after ws
text_after say.Start ws = one_name ws >>= λ deal. Some (Start deal)
text_after say.Vote ws = vote_after ws
text_after say.Prefix ws = two_names ws >>= λ s. Some (Prefix s.0 s.1)
text_after say.Handover ws = three_names ws >>= λ s. Some (Handover s.0 s.1 s.2)
text_after say.Status ws = three_names_number_outcome ws >>= λ s. Some (Status s.0 s.1 s.2 s.3 s.4)
text_after say.Bytes ws = bytes_after ws

unfoldable pub forged_text : List (List ℕ) → Option ForgedText
forged_text ws = do
  word ← first_word ws
  keyword ← text_keyword word.0
  text_after keyword word.1
