-- The texts of deals: a line for the name, one for the house, one for each party and one for each
-- step.
use Rattle.std.specs.Prelude.{ℕ, if◌then◌else◌, List, [], ◌∷◌, ◌++◌, codes, Option, Some, None}
use Rattle.std.specs.Fmt.{decimal}
use Rattle.std.specs.List.{flat_map, filter_map}
use Rattle.std.specs.Str.{bytes_eq}
use Rattle.sha2.specs.Sha256.{sha256}
use Rattle.dh_base.specs.declared.id.Id.{Id}
use Rattle.dh_base.specs.Spelled.{hex_text}
use Rattle.house_grammar.specs.declared.declaration.Declaration.{Declaration}
use Rattle.house_grammar.specs.declared.declaration.Declaration.TheVariants.{Deal, Step}
use Rattle.house_holders.specs.Holders.{HolderTold, account_named}
use Rattle.house_texts.specs.declared.deals.DealText.{DealText}

abbrev pub party_line : List HolderTold → List ℕ → List ℕ
party_line holders party =
    codes "party " ++ party ++ (32 ∷ hex_text (account_named holders party).0) ++ 10 ∷ []

abbrev pub step_words : List ℕ → List ℕ → List ℕ → List ℕ → ℕ → List ℕ
step_words from to ledger asset amount =
    codes "step " ++ from ++ (32 ∷ to) ++ (32 ∷ ledger) ++ (32 ∷ asset) ++ (32 ∷ decimal amount)
    ++ 10 ∷ []

-- nothing for what is no step of the deal
abbrev pub step_line : List ℕ → Declaration → List ℕ
step_line deal (Step within from to ledger asset amount) =
    if bytes_eq deal within then step_words from to ledger asset amount else []
step_line deal _ = []

abbrev pub deal_head : Id → List ℕ → List ℕ
deal_head house deal =
    codes "deal " ++ deal ++ (10 ∷ codes "house ") ++ hex_text house.0 ++ 10 ∷ []

-- the text of the deal of these parties
abbrev pub deal_text : List Declaration → List HolderTold → Id → List ℕ → List (List ℕ) → List ℕ
deal_text ds holders house deal parties =
    deal_head house deal ++ flat_map (party_line holders) parties ++ flat_map (step_line deal) ds

-- a deal has the digest of its text as id
abbrev pub deal_named : List ℕ → List ℕ → DealText
deal_named name text = record { name = name; id = record { 0 = sha256 text }; text = text }

-- the deal that a line declares
abbrev pub deal_by : List Declaration → List HolderTold → Id → Declaration → Option DealText
deal_by ds holders house (Deal name parties) =
    Some (deal_named name (deal_text ds holders house name parties))
deal_by ds holders house _ = None

abbrev pub deals_of : List Declaration → List HolderTold → Id → List DealText
deals_of ds holders house = filter_map (deal_by ds holders house) ds
