-- With what the ledgers of a house open.
use Rattle.std.specs.Prelude.{ℕ, if◌then◌else◌, List, [], ◌∷◌, Option, Some, None}
use Rattle.std.specs.List.{flat_map, filter_map}
use Rattle.std.specs.Str.{bytes_eq}
use Rattle.cert_core.specs.Sets.{SetTold}
use Rattle.house_grammar.specs.declared.declaration.Declaration.{Declaration}
use Rattle.house_grammar.specs.declared.declaration.Declaration.TheVariants.{Ledger, Open}
use Rattle.house_holders.specs.Holders.{HolderTold, account_named}
use Rattle.ledger_core.specs.declared.opening.OpenRow.{OpenRow}
use Rattle.ledger_core.specs.declared.opening.Opening.{Opening}

-- the row that a line opens on the ledger
abbrev pub open_by : List HolderTold → List ℕ → Declaration → Option OpenRow
open_by holders ledger (Open on asset party amount) =
    if bytes_eq ledger on
    then Some (record { asset = asset; account = account_named holders party; amount = amount })
    else None
open_by holders ledger _ = None

abbrev pub opening_rows : List Declaration → List HolderTold → List ℕ → List OpenRow
opening_rows ds holders ledger = filter_map (open_by holders ledger) ds

abbrev pub opening_of : List Declaration → List HolderTold → SetTold → List ℕ → Opening
opening_of ds holders genesis ledger =
    record { name = ledger; genesis = genesis; rows = opening_rows ds holders ledger }

abbrev pub ledger_by : Declaration → List (List ℕ)
ledger_by (Ledger name) = name ∷ []
ledger_by _ = []

-- the ledgers, in the order of their lines
abbrev pub ledger_names : List Declaration → List (List ℕ)
ledger_names ds = flat_map ledger_by ds
