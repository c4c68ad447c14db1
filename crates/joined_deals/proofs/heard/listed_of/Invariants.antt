use Rattle.std.proofs.Common.{◌≡◌, drop}
use Rattle.joined_deals.specs.Heard.{listed_of}
use Rattle.joined_deals.proofs.heard.listed_of.Given as goal

abbrev pub invariant-loop-row : goal.invariant-loop-row
invariant-loop-row l = listed_of (drop l.row-index l.rows) l.asset ≡ listed_of l.rows l.asset
