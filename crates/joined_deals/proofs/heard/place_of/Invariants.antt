use Rattle.std.proofs.Common.{◌≡◌, drop}
use Rattle.std.specs.List.{position_from}
use Rattle.joined_deals.specs.Heard.{is_about}
use Rattle.joined_deals.proofs.heard.place_of.Given as goal

abbrev pub invariant-loop-place : goal.invariant-loop-place
invariant-loop-place l = position_from (is_about l.deal l.ledger) l.place (drop l.place l.heard) ≡ position_from (is_about l.deal l.ledger) 0 l.heard
