-- What a house's declarations make of it.
use Rattle.std.specs.Prelude.{ℕ, List, ◌++◌, map, Option}
use Rattle.std.specs.List.{find}
use Rattle.std.specs.Str.{bytes_eq}
use Rattle.cert_core.specs.Sets.{SetTold, id_of_set}
use Rattle.dh_base.specs.declared.id.Id.{Id}
use Rattle.holder_names.specs.Directories.{Listed}
use Rattle.house_grammar.specs.declared.declaration.Declaration.{Declaration}
use Rattle.house_holders.specs.Holders.{HolderTold, holders_of, directory_of}
use Rattle.house_texts.specs.declared.deals.DealText.{DealText}
use Rattle.house_texts.specs.Genesis.{genesis_set}
use Rattle.house_texts.specs.Deals.{deals_of}

-- what stays as it is while things happen: the holders, the first set and the id of the house, and
-- the deals
pub record SettingTold : Type 0 where
  pub holders : List HolderTold
  pub genesis : SetTold
  pub house : Id
  pub deals : List DealText

abbrev pub setting_with : List Declaration → List HolderTold → SetTold → SettingTold
setting_with ds holders genesis =
    record {
      holders = holders;
      genesis = genesis;
      house = id_of_set genesis;
      deals = deals_of ds holders (id_of_set genesis);
    }

abbrev pub setting_of : List Declaration → SettingTold
setting_of ds = setting_with ds (holders_of ds) (genesis_set (holders_of ds) ds)

abbrev pub deal_found : SettingTold → List ℕ → Option DealText
deal_found setting name = find (λ (deal : DealText). bytes_eq name deal.name) setting.deals

abbrev pub deal_entries : List DealText → List Listed
deal_entries deals = map (λ (deal : DealText). (deal.id, deal.name)) deals

-- by which names accounts and deals are printed
abbrev pub listed_of : SettingTold → List Listed
listed_of setting = directory_of setting.holders ++ deal_entries setting.deals
