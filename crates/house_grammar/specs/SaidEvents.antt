-- What a line that happens says, read from its words.
use Rattle.std.specs.Prelude.{ℕ, List, Option, Some, codes}
use Rattle.line_text.specs.Reading.{◌>>=◌, name_word, ended}
use Rattle.script_lines.specs.WordLists.{names_only}
use Rattle.house_words.specs.Tails.{one_name, two_names, three_names, name_number_name, two_names_number_name, name_if_any}
use Rattle.house_words.specs.WordKinds.{one_of, number_u64_word}
use Rattle.house_grammar.specs.declared.event.Event.{Event}
use Rattle.house_grammar.specs.declared.event.Event.TheVariants.{Deliver, Show, Ask, Join, Next, Again, Start, Commit, Abort, Tick, Hear, Enter, Prefix, Handover, Install, Fail, Stop, Reopen, Status}
use Rattle.house_grammar.specs.declared.event.StopSide.{StopSide}
use Rattle.house_grammar.specs.declared.event.StopSide.TheVariants.{Before, After}
use Rattle.house_words.specs.declared.keyword.EventKeyword.{EventKeyword}
use Rattle.house_words.specs.declared.keyword.EventKeyword.TheVariants as happen

unfoldable pub ask_after : List (List ℕ) → Option Event
ask_after ws = do
  statement ← name_word ws
  ledger ← name_word statement.1
  deal ← name_word ledger.1
  party ← name_word deal.1
  ended party.1 (Ask statement.0 ledger.0 deal.0 party.0)

unfoldable pub join_after : List (List ℕ) → Option Event
join_after ws = do
  party ← name_word ws
  deal ← name_word party.1
  deadline ← number_u64_word deal.1
  terms ← name_if_any deadline.1
  Some (Join party.0 deal.0 deadline.0 terms)

unfoldable pub tick_after : List (List ℕ) → Option Event
tick_after ws = do
  party ← name_word ws
  deal ← name_word party.1
  time ← number_u64_word deal.1
  envelope ← name_word time.1
  ended envelope.1 (Tick party.0 deal.0 time.0 envelope.0)

unfoldable pub install_after : List (List ℕ) → Option Event
install_after ws = do
  seat ← name_word ws
  claim ← name_word seat.1
  deals ← names_only claim.1
  Some (Install seat.0 claim.0 deals)

unfoldable pub stop_after : List (List ℕ) → Option Event
stop_after ws = do
  node ← name_word ws
  side ← one_of (codes "before") Before (codes "after") After node.1
  ended side.1 (Stop node.0 side.0)

abbrev pub event_after : EventKeyword → List (List ℕ) → Option Event
event_after happen.Deliver ws = two_names ws >>= λ s. Some (Deliver s.0 s.1)
event_after happen.Show ws = three_names ws >>= λ s. Some (Show s.0 s.1 s.2)
event_after happen.Ask ws = ask_after ws
event_after happen.Join ws = join_after ws
event_after happen.Next ws = three_names ws >>= λ s. Some (Next s.0 s.1 s.2)
event_after happen.Again ws = two_names_number_name ws >>= λ s. Some (Again s.0 s.1 s.2 s.3)
event_after happen.Start ws = three_names ws >>= λ s. Some (Start s.0 s.1 s.2)
event_after happen.Commit ws = three_names ws >>= λ s. Some (Commit s.0 s.1 s.2)
event_after happen.Abort ws = three_names ws >>= λ s. Some (Abort s.0 s.1 s.2)
event_after happen.Tick ws = tick_after ws
event_after happen.Hear ws = two_names ws >>= λ s. Some (Hear s.0 s.1)
event_after happen.Enter ws = name_number_name ws >>= λ s. Some (Enter s.0 s.1 s.2)
event_after happen.Prefix ws = name_number_name ws >>= λ s. Some (Prefix s.0 s.1 s.2)
event_after happen.Handover ws = two_names_number_name ws >>= λ s. Some (Handover s.0 s.1 s.2 s.3)
event_after happen.Install ws = install_after ws
event_after happen.Fail ws = one_name ws >>= λ node. Some (Fail node)
event_after happen.Stop ws = stop_after ws
event_after happen.Reopen ws = one_name ws >>= λ node. Some (Reopen node)
event_after happen.Status ws = three_names ws >>= λ s. Some (Status s.0 s.1 s.2)
