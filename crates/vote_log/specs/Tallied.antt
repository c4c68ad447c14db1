-- A log with the tallies that its code keeps.
use Rattle.std.specs.Prelude.{ℕ, Option, List}
use Rattle.std.specs.declared.cmp.Ordering.{Ordering}
use Rattle.std.specs.BTreeMap.{get}
use Rattle.std.specs.Ordering.{nat_cmp}
use Rattle.std.specs.Cmp.Lexicographic.{slice_cmp}
use Rattle.dh_base.specs.declared.id.Id.{Id}
use Rattle.vote_log.specs.declared.tally.Tally.{Tally}
use Rattle.vote_log.specs.declared.tallies.Tallies.{Tallies}
use Rattle.vote_log.specs.Entry.{Entry}
use Rattle.vote_log.specs.Log.{IsKept}
use Rattle.vote_log.specs.Tallies.{StandsFor}

-- ids go by their bytes
abbrev pub id_cmp : Id → Id → Ordering
id_cmp a b = slice_cmp nat_cmp a.0 b.0

-- the tally that is kept of a deal
abbrev pub tally_at : Tallies → Id → Option Tally
tally_at tallies deal = get id_cmp tallies.by_deal deal

-- each deal that the log starts has its tally, and no other deal has one
abbrev pub AllStand : List Entry → Tallies → Type 0
AllStand log tallies = (deal : Id) → StandsFor log deal (tally_at tallies deal)

-- the log is reached under its limit, and what is kept beside it is counted from it
pub record IsTallied (entries : List Entry) (limit owed : ℕ) (tallies : Tallies) : Type 0 where
  pub kept : IsKept entries limit owed
  pub stand : AllStand entries tallies
