use Rattle.std.proofs.Common.{◌≡◌, drop}
use Rattle.std.specs.List.{find}
use Rattle.joined_deals.specs.Heard.{is_about}
use Rattle.joined_deals.proofs.heard.kept_of.Given as goal

abbrev pub invariant-loop-statement : goal.invariant-loop-statement
invariant-loop-statement l = find (is_about l.deal l.ledger) (drop l.statement-index l.heard) ≡ find (is_about l.deal l.ledger) l.heard
