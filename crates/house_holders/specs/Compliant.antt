-- The holders that keep to their program, and what their keepers have at first.
use Rattle.std.specs.Prelude.{ℕ, false, List, Option, Some, None}
use Rattle.std.proofs.Common.{refl}
use Rattle.std.specs.Coded.{Coded, code_by, coded×, coded_ℕ, coded_list}
use Rattle.std.specs.List.{filter_map}
use Rattle.std.specs.FinMap.{empty}
use Rattle.dh_base.specs.declared.id.Id.{Id}
use Rattle.dh_base.specs.contracts.id.Id as id
use Rattle.keeper_core.specs.Memory.{KeeperTold, keeper_code}
use Rattle.house_grammar.specs.declared.holder_line.Conduct.{Conduct}
use Rattle.house_grammar.specs.declared.holder_line.Conduct.TheVariants.{Honest, Deviant}
use Rattle.house_holders.specs.Holders.{HolderTold}

-- a holder that keeps to its program, with its keeper
pub record CompliantTold : Type 0 where
  pub name : List ℕ
  pub account : Id
  pub keeper : KeeperTold

-- such a holder is stored as the tuple of its fields
abbrev pub compliant_code : Coded CompliantTold
compliant_code = code_by (List ℕ × (Id × KeeperTold))
    (coded× (coded_list coded_ℕ) (coded× id.the_row.coded keeper_code))
    (λ h. (h.name, (h.account, h.keeper)))
    (λ p. record { name = p.0; account = p.1.0; keeper = p.1.1 })
    (λ _. refl)

-- a keeper of no rows, which runs and is not armed
abbrev pub new_keeper : KeeperTold
new_keeper =
    record { tables = empty; armed = None; stopped = false; faults = 0; looked = 0 }

abbrev pub compliant_if : HolderTold → Conduct → Option CompliantTold
compliant_if holder Honest =
    Some (record { name = holder.name; account = holder.account; keeper = new_keeper })
compliant_if holder Deviant = None

abbrev pub compliant_by : HolderTold → Option CompliantTold
compliant_by holder = compliant_if holder holder.conduct

-- in the order of the holders
abbrev pub compliant_of : List HolderTold → List CompliantTold
compliant_of holders = filter_map compliant_by holders
