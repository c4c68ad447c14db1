-- What a history begins with: the free amounts, and what is carried along of deals that began
-- before. A whole book carries nothing; a part of a book carries the deals that it touches, what
-- its parties hold there, and their moves.
use Rattle.std.specs.Prelude.{ℕ, ◌^◌, ◌-◌, ◌+◌, ◌<◌, ◌≤◌, ◌≡◌, max, Bool, true, ◌&&◌, if◌then◌else◌, Option, is_some, List, [], ◌∷◌, ◌++◌}
use Rattle.std.specs.List.{sum_by, find, AllByRecursion}
use Rattle.std.specs.Option.{option_map, option_and_then, option_map_or}
use Rattle.std.specs.Str.{bytes_eq}
use Rattle.dh_base.specs.declared.id.Id.{Id}
use Rattle.dh_base.specs.declared.outcome.Outcome.{Outcome}
use Rattle.dh_base.specs.declared.outcome.Outcome.TheVariants.{Commit, Abort}
use Rattle.escrow_book.specs.declared.known_deal.KnownDeal.{KnownDeal}
use Rattle.escrow_book.specs.declared.row.HoldRow.{HoldRow}
use Rattle.escrow_book.specs.declared.row.MovesRow.{MovesRow}
use Rattle.dh_base.specs.Amounts.{greatest_amount}
use Rattle.escrow_book.specs.Opening.{Row, total_of}
use Rattle.dh_base.specs.Ids.{same_id}

pub record Carried : Type 0 where
  pub deals : List KnownDeal
  pub holds : List HoldRow
  pub moves : List MovesRow

abbrev pub nothing_carried : Carried
nothing_carried = record { deals = []; holds = []; moves = [] }

-- free amounts, and what is carried beside them
abbrev pub Base : Type 0
Base = List Row × Carried

abbrev pub find_deal : List KnownDeal → Id → Option KnownDeal
find_deal deals deal = find (λ known. same_id deal known.deal) deals

-- the parties of the deal, where it is carried
abbrev pub carried_parties : Carried → Id → Option (List Id)
carried_parties base deal =
    option_map (λ (known : KnownDeal). known.parties) (find_deal base.deals deal)

-- the outcome of the deal, where it is carried as settled
abbrev pub carried_outcome : Carried → Id → Option Outcome
carried_outcome base deal =
    option_and_then (λ (known : KnownDeal). known.outcome) (find_deal base.deals deal)

abbrev pub is_hold : Id → Id → List ℕ → HoldRow → Bool
is_hold deal party asset row =
    same_id deal row.deal && (same_id party row.account && bytes_eq asset row.asset)

abbrev pub is_moves : Id → Id → MovesRow → Bool
is_moves deal party row = same_id deal row.deal && same_id party row.account

-- a party has made fewer transfers than a turn can count
abbrev pub greatest_turn : ℕ
greatest_turn = 2 ^ 32 - 1

-- what the party is carried with: the row that stands first, and 0 where there is none
abbrev pub carried_commit : Carried → Id → Id → List ℕ → ℕ
carried_commit base deal party asset =
    option_map_or (λ (row : HoldRow). row.commit) (find (is_hold deal party asset) base.holds) 0

abbrev pub carried_abort : Carried → Id → Id → List ℕ → ℕ
carried_abort base deal party asset =
    option_map_or (λ (row : HoldRow). row.abort) (find (is_hold deal party asset) base.holds) 0

abbrev pub carried_payout : Carried → Id → Outcome → Id → List ℕ → ℕ
carried_payout base deal Commit party asset = carried_commit base deal party asset
carried_payout base deal Abort party asset = carried_abort base deal party asset

abbrev pub carried_moves : Carried → Id → Id → ℕ
carried_moves base deal party =
    option_map_or (λ (row : MovesRow). row.moves) (find (is_moves deal party) base.moves) 0

-- what the rows of the deal hold of the asset together
abbrev pub hold_commit : Id → List ℕ → HoldRow → ℕ
hold_commit deal asset row =
    if same_id deal row.deal && bytes_eq asset row.asset then row.commit else 0

abbrev pub hold_abort : Id → List ℕ → HoldRow → ℕ
hold_abort deal asset row =
    if same_id deal row.deal && bytes_eq asset row.asset then row.abort else 0

abbrev pub most_of : List HoldRow → Id → List ℕ → ℕ
most_of holds deal asset =
    max (sum_by (hold_commit deal asset) holds) (sum_by (hold_abort deal asset) holds)

abbrev pub held_most : Carried → Id → List ℕ → ℕ
held_most base deal asset = most_of base.holds deal asset

-- what the deal holds of the asset at most, while it isn't settled
abbrev pub most_if_open : KnownDeal → List HoldRow → List ℕ → ℕ
most_if_open known holds asset = if is_some known.outcome then 0 else most_of holds known.deal asset

abbrev pub open_most : Carried → List ℕ → KnownDeal → ℕ
open_most base asset known = most_if_open known base.holds asset

-- the free amounts and, for each deal that isn't settled, the greater of what it holds on either
-- end
abbrev pub base_total : List Row → Carried → List ℕ → ℕ
base_total rows base asset = total_of rows asset + sum_by (open_most base asset) base.deals

-- what there is of the row's asset with the row
abbrev pub total_with_free : Base → Row → ℕ
total_with_free base row = base_total (base.0 ++ row ∷ []) base.1 row.1

-- what there is of the hold's asset with the hold
abbrev pub total_with_hold : Base → HoldRow → ℕ
total_with_hold base hold =
    base_total base.0 (record base.1 { holds = base.1.holds ++ hold ∷ [] }) hold.asset

-- no asset is there above the greatest amount, each hold is of a carried deal, and its amounts and
-- the moves fit
pub record IsGoodBase (rows : List Row) (base : Carried) : Type 0 where
  pub total : (asset : List ℕ) → base_total rows base asset ≤ greatest_amount
  pub known : AllByRecursion (λ (row : HoldRow). is_some (find_deal base.deals row.deal)
      ≡ true) base.holds
  pub fits : AllByRecursion (λ (row : HoldRow). (row.commit < 2 ^ 64)
      × (row.abort < 2 ^ 64)) base.holds
  pub moves : AllByRecursion (λ (row : MovesRow). row.moves < greatest_turn) base.moves
