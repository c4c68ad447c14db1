-- The text of a deal: a line for its name, one for its house, one for each party and one for each
-- step.
use Rattle.std.specs.Prelude.{ℕ, IsTrue, List, [], ◌∷◌, ◌++◌, map, codes, Option, Some, None}
use Rattle.std.specs.List.{slice_get, AllByRecursion}
use Rattle.std.specs.Fmt.{decimal}
use Rattle.dh_base.specs.Names.{is_name}
use Rattle.dh_base.specs.Spelled.{hex_text}
use Rattle.line_text.specs.IdWords.{IsId}
use Rattle.line_text.specs.Lines.{spelled_lines}
use Rattle.line_text.specs.Words.{spelled_words}
use Rattle.deal_core.specs.Deals.{DealTold}
use Rattle.deal_core.specs.declared.party.Party.{Party}
use Rattle.deal_core.specs.declared.step.Step.{Step}

abbrev pub name_in : Option Party → List ℕ
name_in None = []
name_in (Some party) = party.name

-- the name of the party of an index
abbrev pub party_name : List Party → ℕ → List ℕ
party_name parties index = name_in (slice_get parties index)

abbrev pub party_words : Party → List (List ℕ)
party_words party = codes "party" ∷ party.name ∷ hex_text party.account.0 ∷ []

abbrev pub step_words : List Party → Step → List (List ℕ)
step_words parties step =
    codes "step" ∷ party_name parties step.from ∷ party_name parties step.to ∷ step.ledger
    ∷ step.asset ∷ decimal step.amount ∷ []

-- the words of each line
abbrev pub deal_words : DealTold → List (List (List ℕ))
deal_words deal =
    (codes "deal" ∷ deal.name ∷ []) ∷ (codes "house" ∷ hex_text deal.house.0 ∷ [])
    ∷ (map party_words deal.parties ++ map (step_words deal.parties) deal.steps)

-- lines of these words, each ended by a line feed
abbrev pub lines_text : List (List (List ℕ)) → List ℕ
lines_text lines = spelled_lines (map spelled_words lines)

abbrev pub deal_text : DealTold → List ℕ
deal_text deal = lines_text (deal_words deal)

-- ---- what has a spelling: names are names, and ids are 32 bytes

pub record IsSpellable (deal : DealTold) : Type 0 where
  pub name : IsTrue (is_name deal.name)
  pub house : IsId deal.house
  pub parties :
      AllByRecursion (λ party. IsTrue (is_name party.name) × IsId party.account) deal.parties
  pub steps :
      AllByRecursion (λ step. IsTrue (is_name step.ledger) × IsTrue (is_name step.asset)) deal.steps
