-- Histories of a ledger on which all parties of a deal do their parts.
use Rattle.std.specs.Prelude.{ℕ, suc, ◌≡◌, ◌<◌, ◌≤◌, IsTrue, Some, List, [], ◌∷◌, ◌++◌, length, slice_get}
use Rattle.deal_core.specs.Deals.{DealTold}
use Rattle.deal_core.specs.Kept.{is_on}
use Rattle.deal_core.specs.declared.step.Step.{Step}
use Rattle.clear_core.specs.Clearing.{need_of}
use Rattle.escrow_book.specs.Opening.{Row, opening_of, is_good_opening}
use Rattle.ledger_rows.specs.declared.entry.Entry.{Entry}
use Rattle.ledger_rows.specs.declared.entry.Entry.TheVariants.{Act as Accepted}
use Rattle.joined_deals.specs.DealTexts.{account_of, planned_text}
use Rattle.compliant_deals.specs.Parts.{PartyAct, acts_on}

-- the act as the ledger's entry, under that key number of the party's account
abbrev pub entry_of : DealTold → PartyAct → ℕ → Entry
entry_of deal done q = Accepted (account_of deal.parties done.party) q (planned_text deal done.act)

-- the acts as entries, where the first of them stands at that place, and `key` gives the key number
-- of each place
abbrev pub entries_from : DealTold → (ℕ → ℕ) → ℕ → List PartyAct → List Entry
entries_from deal key place [] = []
entries_from deal key place (done ∷ acts) =
    entry_of deal done (key place) ∷ entries_from deal key (suc place) acts

-- each act of a party is under a key number of its own
abbrev pub HaveOwnKeys : (ℕ → ℕ) → List PartyAct → Type 0
HaveOwnKeys key acts = (place other : ℕ) (one two : PartyAct) → slice_get acts place ≡ Some one
    → slice_get acts other ≡ Some two → one.party ≡ two.party → key place ≡ key other
    → place ≡ other

-- the opening is good, and each party has what it needs on the ledger
pub record IsFunded (deal : DealTold) (ledger : List ℕ) (rows : List Row) : Type 0 where
  pub good : IsTrue (is_good_opening rows)
  pub covers : (party : ℕ) (asset : List ℕ) → party < length deal.parties
      → need_of deal.steps party ledger asset
      ≤ opening_of rows (account_of deal.parties party) asset

-- Over an opening that funds the deal, the entries are those of its parties up to the end of these
-- first steps, each under a key number of its own.
pub record ComplyTo (deal : DealTold) (front : List Step) (ledger : List ℕ) (rows : List Row)
    (entries : List Entry) : Type 0 where
  pub funded : IsFunded deal ledger rows
  pub registrant : ℕ
  pub party : registrant < length deal.parties
  pub later : List Step
  pub steps : front ++ later ≡ deal.steps
  pub key : ℕ → ℕ
  pub own_keys : HaveOwnKeys key (acts_on deal ledger registrant front)
  pub entries_are : entries ≡ entries_from deal key 0 (acts_on deal ledger registrant front)

-- all parties have done all of their parts there
abbrev pub Comply : DealTold → List ℕ → List Row → List Entry → Type 0
Comply deal ledger rows entries = ComplyTo deal deal.steps ledger rows entries

-- They have on each ledger that the steps name, with these openings and histories by their names.
abbrev pub ComplyOnEach : DealTold → (List ℕ → List Row) → (List ℕ → List Entry) → Type 0
ComplyOnEach deal rows entries = (ledger : List ℕ) → IsTrue (is_on deal.steps ledger)
    → Comply deal ledger (rows ledger) (entries ledger)
