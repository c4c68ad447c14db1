-- What declarations bind, and the opening rows that they make.
use Rattle.std.specs.Prelude.{ℕ, Bool, true, false, ◌&&◌, ◌||◌, if◌then◌else◌, ◌==◌, List, [], ◌∷◌, length, sum_by, fold}
use Rattle.std.specs.List.{list_any, flat_map}
use Rattle.std.specs.Str.{bytes_eq}
use Rattle.std.specs.Ordering.{nat_cmp}
use Rattle.std.specs.Cmp.Lexicographic.{slice_cmp}
use Rattle.std.specs.BTreeSet.{insert_key}
use Rattle.plain_script.specs.declared.declaration.Declaration.{Declaration}
use Rattle.plain_script.specs.declared.declaration.Declaration.TheVariants.{Ledger, Open, Deal}

abbrev pub is_ledger_named : List ℕ → Declaration → Bool
is_ledger_named name (Ledger ledger) = bytes_eq name ledger
is_ledger_named name (Open ledger asset party amount) = false
is_ledger_named name (Deal deal parties) = false

abbrev pub is_deal_named : List ℕ → Declaration → Bool
is_deal_named name (Ledger ledger) = false
is_deal_named name (Open ledger asset party amount) = false
is_deal_named name (Deal deal parties) = bytes_eq name deal

-- the parties that a declaration names
abbrev pub parties_named : Declaration → List (List ℕ)
parties_named (Ledger ledger) = []
parties_named (Open ledger asset party amount) = party ∷ []
parties_named (Deal deal parties) = parties

abbrev pub is_ledger : List Declaration → List ℕ → Bool
is_ledger ds name = list_any (is_ledger_named name) ds

abbrev pub is_deal : List Declaration → List ℕ → Bool
is_deal ds name = list_any (is_deal_named name) ds

-- the ascending names, with further names at their places, each once
abbrev pub with_names : List (List ℕ) → List (List ℕ) → List (List ℕ)
with_names ascending names = fold (insert_key (slice_cmp nat_cmp)) ascending names

-- names in ascending order, each once
abbrev pub in_order : List (List ℕ) → List (List ℕ)
in_order names = with_names [] names

-- No name stands twice: in order, each once, the names are as many.
abbrev pub are_different : List (List ℕ) → Bool
are_different names = length (in_order names) == length names

abbrev pub parties_of : List Declaration → List (List ℕ)
parties_of ds = in_order (flat_map parties_named ds)

abbrev pub is_party : List Declaration → List ℕ → Bool
is_party ds name = list_any (bytes_eq name) (parties_of ds)

-- the parties of the deal of this name, in their order; none where there is no such deal
abbrev pub members_of : List Declaration → List ℕ → List (List ℕ)
members_of [] deal = []
members_of (Ledger name ∷ ds) deal = members_of ds deal
members_of (Open ledger asset party amount ∷ ds) deal = members_of ds deal
members_of (Deal name parties ∷ ds) deal =
    if bytes_eq deal name then parties else members_of ds deal

-- the name of a ledger or of a deal
abbrev pub is_thing : List Declaration → List ℕ → Bool
is_thing ds name = is_ledger ds name || is_deal ds name

abbrev pub is_bound : List Declaration → List ℕ → Bool
is_bound ds name = is_thing ds name || is_party ds name

abbrev pub is_ledger_line : Declaration → Bool
is_ledger_line (Ledger ledger) = true
is_ledger_line (Open ledger asset party amount) = false
is_ledger_line (Deal deal parties) = false

abbrev pub is_deal_line : Declaration → Bool
is_deal_line (Ledger ledger) = false
is_deal_line (Open ledger asset party amount) = false
is_deal_line (Deal deal parties) = true

abbrev pub is_opening_line : Declaration → Bool
is_opening_line (Ledger ledger) = false
is_opening_line (Open ledger asset party amount) = true
is_opening_line (Deal deal parties) = false

-- ---- opening rows

-- an opening row of the ledger
abbrev pub opens_on : List ℕ → Declaration → Bool
opens_on on (Ledger ledger) = false
opens_on on (Open ledger asset party amount) = bytes_eq on ledger
opens_on on (Deal deal parties) = false

-- an opening row of the ledger, for this asset
abbrev pub opens_asset : List ℕ → List ℕ → Declaration → Bool
opens_asset on of (Ledger ledger) = false
opens_asset on of (Open ledger asset party amount) = bytes_eq on ledger && bytes_eq of asset
opens_asset on of (Deal deal parties) = false

-- an opening row of the ledger, for this asset and party
abbrev pub opens_row : List ℕ → List ℕ → List ℕ → Declaration → Bool
opens_row on of by (Ledger ledger) = false
opens_row on of by (Open ledger asset party amount) =
    bytes_eq on ledger && (bytes_eq of asset && bytes_eq by party)
opens_row on of by (Deal deal parties) = false

abbrev pub amount_opened : Declaration → ℕ
amount_opened (Ledger ledger) = 0
amount_opened (Open ledger asset party amount) = amount
amount_opened (Deal deal parties) = 0

-- what the declaration opens of the asset on the ledger
abbrev pub opened_by : List ℕ → List ℕ → Declaration → ℕ
opened_by ledger asset d = if opens_asset ledger asset d then amount_opened d else 0

-- what the rows of the ledger open of the asset
abbrev pub opened_of : List Declaration → List ℕ → List ℕ → ℕ
opened_of ds ledger asset = sum_by (opened_by ledger asset) ds
