-- The names of the ledgers and deals that a script declares.
use Rattle.std.specs.Prelude.{ℕ, List, [], ◌∷◌}
use Rattle.std.specs.List.{flat_map}
use Rattle.plain_script.specs.declared.declaration.Declaration.{Declaration}
use Rattle.plain_script.specs.declared.declaration.Declaration.TheVariants.{Ledger, Open, Deal}

-- the ledgers' names, in the order of their lines
abbrev pub ledgers_by : Declaration → List (List ℕ)
ledgers_by (Ledger name) = name ∷ []
ledgers_by (Open ledger asset party amount) = []
ledgers_by (Deal name parties) = []

abbrev pub ledger_names : List Declaration → List (List ℕ)
ledger_names ds = flat_map ledgers_by ds

abbrev pub deals_by : Declaration → List (List ℕ)
deals_by (Ledger name) = []
deals_by (Open ledger asset party amount) = []
deals_by (Deal name parties) = name ∷ []

abbrev pub deal_names : List Declaration → List (List ℕ)
deal_names ds = flat_map deals_by ds
