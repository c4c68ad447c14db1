-- What is printed for the rows of a ledger's keeper.
use Rattle.std.specs.Prelude.{ℕ, ◌==◌, if◌then◌else◌, List, [], ◌∷◌, ◌++◌, codes, Option, Some, None}
use Rattle.std.specs.List.{filter_map}
use Rattle.std.specs.Fmt.{decimal}
use Rattle.dh_base.specs.Ids.{same_id}
use Rattle.dh_base.specs.Spelled.{outcome_text}
use Rattle.dh_base.specs.declared.outcome.Outcome.{Outcome}
use Rattle.dh_base.specs.declared.outcome.Outcome.TheVariants.{Commit, Abort}
use Rattle.holder_names.specs.Directories.{Listed, printed_of}
use Rattle.house_tables.specs.declared.rows.FreeRow.{FreeRow}
use Rattle.house_tables.specs.declared.rows.HoldRow.{HoldRow}
use Rattle.house_tables.specs.declared.rows.DealRow.{DealRow}
use Rattle.house_tables.specs.Lines.{in_order_text}

-- what an account can spend of an asset
abbrev pub free_line : List Listed → FreeRow → List ℕ
free_line listed row =
    codes "free " ++ row.asset ++ (32 ∷ printed_of listed row.account)
    ++ (32 ∷ decimal row.amount) ++ 10 ∷ []

-- what a party owns of an asset in an open deal, if the deal commits and if it aborts
abbrev pub hold_line : List Listed → HoldRow → List ℕ
hold_line listed row =
    codes "hold " ++ printed_of listed row.deal ++ (32 ∷ row.asset)
    ++ (32 ∷ printed_of listed row.account) ++ (32 ∷ decimal row.commit)
    ++ (32 ∷ decimal row.abort) ++ 10 ∷ []

-- what a party was paid of an asset by a deal, if it was anything
abbrev pub paid_line : List Listed → HoldRow → ℕ → Option (List ℕ)
paid_line listed row amount =
    if amount == 0 then None
    else Some (codes "paid " ++ printed_of listed row.deal ++ (32 ∷ row.asset)
    ++ (32 ∷ printed_of listed row.account) ++ (32 ∷ decimal amount) ++ 10 ∷ [])

-- a settled deal has paid what the parties owned by its outcome
abbrev pub party_line : List Listed → Option Outcome → HoldRow → Option (List ℕ)
party_line listed None row = Some (hold_line listed row)
party_line listed (Some Commit) row = paid_line listed row row.commit
party_line listed (Some Abort) row = paid_line listed row row.abort

abbrev pub party_line_in : List Listed → DealRow → HoldRow → Option (List ℕ)
party_line_in listed deal row =
    if same_id deal.deal row.deal then party_line listed deal.settled row else None

abbrev pub standing_text : Option Outcome → List ℕ
standing_text None = codes "open"
standing_text (Some outcome) = outcome_text outcome

-- how the deal stands
abbrev pub deal_head : List Listed → DealRow → List ℕ
deal_head listed row =
    codes "deal " ++ printed_of listed row.deal ++ (32 ∷ standing_text row.settled) ++ 10 ∷ []

-- how the deal stands, and then what its parties own or were paid
abbrev pub deal_text : List Listed → List HoldRow → DealRow → List ℕ
deal_text listed holds deal =
    deal_head listed deal ++ in_order_text (filter_map (party_line_in listed deal) holds)
