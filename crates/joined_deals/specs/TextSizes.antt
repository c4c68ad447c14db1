-- How long the texts are that a party signs: an envelope takes each of them.
use Rattle.std.specs.Prelude.{ℕ, ◌≡◌, ◌≤◌, List, length, IsTrue}
use Rattle.std.specs.List.{AllByRecursion}
use Rattle.dh_base.specs.Names.{is_name}
use Rattle.deal_core.specs.Deals.{DealTold}
use Rattle.deal_core.specs.declared.party.Party.{Party}
use Rattle.deal_core.specs.declared.step.Step.{Step}

-- the most bytes of a deal's text, and some more
abbrev pub most_deal_text : ℕ
most_deal_text = 8000

-- the most bytes of the message of an envelope
abbrev pub most_text : ℕ
most_text = 16384

abbrev pub AreShort : List (List ℕ) → Type 0
AreShort texts = AllByRecursion (λ text. length text ≤ most_text) texts

-- names of parties are names, and accounts have 32 bytes
abbrev pub AreNamed : List Party → Type 0
AreNamed parties =
    AllByRecursion (λ party. IsTrue (is_name party.name) × (length party.account.0 ≡ 32)) parties

-- names of ledgers and assets are names
abbrev pub AreOnNames : List Step → Type 0
AreOnNames steps =
    AllByRecursion (λ step. IsTrue (is_name step.ledger) × IsTrue (is_name step.asset)) steps

-- all names of the deal are names, and its ids have 32 bytes
pub record HasNames (deal : DealTold) : Type 0 where
  pub name : IsTrue (is_name deal.name)
  pub house : length deal.house.0 ≡ 32
  pub parties : AreNamed deal.parties
  pub steps : AreOnNames deal.steps
