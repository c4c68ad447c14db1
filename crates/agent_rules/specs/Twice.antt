-- What a ledger accepts of a party that signs its escrow under two keys.
use Rattle.std.specs.Prelude.{ℕ, ◌<◌, ◌≤◌, ◌+◌, IsTrue, List, [], ◌∷◌, map, length}
use Rattle.deal_core.specs.Deals.{DealTold}
use Rattle.clear_core.specs.Clearing.{need_of}
use Rattle.clear_core.specs.declared.plan_act.PlanAct.{PlanAct}
use Rattle.clear_core.specs.declared.plan_act.PlanAct.TheVariants.{Register, Escrow}
use Rattle.escrow_book.specs.Opening.{Row, opening_of, is_good_opening}
use Rattle.ledger_rows.specs.declared.entry.Entry.{Entry}
use Rattle.joined_deals.specs.DealTexts.{account_of, planned_text}
use Rattle.compliant_deals.specs.Parts.{PartyAct, act_by}
use Rattle.compliant_deals.specs.Complying.{entries_from}

-- the party needs some of the asset on the ledger, and can spend that twice
pub record CanEscrowTwice (deal : DealTold) (party : ℕ) (ledger asset : List ℕ)
    (rows : List Row) : Type 0 where
  pub within : party < length deal.parties
  pub needs : 0 < need_of deal.steps party ledger asset
  pub good : IsTrue (is_good_opening rows)
  pub has : need_of deal.steps party ledger asset + need_of deal.steps party ledger asset
      ≤ opening_of rows (account_of deal.parties party) asset

-- the escrow of its plan
abbrev pub need_act : DealTold → ℕ → List ℕ → List ℕ → PlanAct
need_act deal party ledger asset =
    Escrow ledger asset (need_of deal.steps party ledger asset)

-- it registers the deal, and escrows its need, and the same again
abbrev pub acts_twice : DealTold → ℕ → List ℕ → List ℕ → List PartyAct
acts_twice deal party ledger asset =
    act_by party Register ∷ act_by party (need_act deal party ledger asset)
    ∷ act_by party (need_act deal party ledger asset) ∷ []

-- the key of the act at a place is that of the same number
abbrev pub own_key : ℕ → ℕ
own_key place = place

-- what the ledger then has, and the texts that the keys have signed
abbrev pub entries_twice : DealTold → ℕ → List ℕ → List ℕ → List Entry
entries_twice deal party ledger asset =
    entries_from deal own_key 0 (acts_twice deal party ledger asset)

abbrev pub texts_twice : DealTold → ℕ → List ℕ → List ℕ → List (List ℕ)
texts_twice deal party ledger asset =
    map (λ done. planned_text deal done.act) (acts_twice deal party ledger asset)
