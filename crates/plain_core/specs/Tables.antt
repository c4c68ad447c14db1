-- The final tables of a report. Every order is that of the printed text.
use Rattle.std.specs.Prelude.{ℕ, ◌||◌, nat_lt, if◌then◌else◌, List, [], ◌∷◌, ◌++◌, map, Option, Some, None, codes}
use Rattle.std.specs.List.{flat_map, find}
use Rattle.std.specs.Str.{bytes_eq}
use Rattle.std.specs.Fmt.{decimal}
use Rattle.dh_base.specs.Spelled.{outcome_text}
use Rattle.dh_base.specs.declared.outcome.Outcome.{Outcome}
use Rattle.escrow_book.specs.History.{History, is_known, settlement_of, free_of, if_commit_of, if_abort_of, payout_of}
use Rattle.plain_script.specs.BoundNames.{in_order, parties_of, members_of}
use Rattle.plain_script.specs.declared.declaration.Declaration.{Declaration}
use Rattle.plain_script.specs.Ids.{plain_id}
use Rattle.plain_core.specs.Openings.{deal_names}
use Rattle.plain_core.specs.Ledgers.{LedgerTold, World}
use Rattle.plain_core.specs.declared.tables.Rows.{Rows}
use Rattle.plain_core.specs.declared.tables.Rows.TheVariants.{Free, Held, Paid}

-- ---- rows

-- what the account can spend of the asset, where that is anything
abbrev pub free_row : List ℕ → List ℕ → ℕ → List ℕ
free_row asset account amount =
    if nat_lt 0 amount
    then codes "free " ++ asset ++ (32 ∷ account) ++ (32 ∷ decimal amount) ++ 10 ∷ [] else []

-- what the party owns in the deal of the asset if the deal commits and if it aborts, where either
-- is anything
abbrev pub hold_row : List ℕ → List ℕ → List ℕ → ℕ → ℕ → List ℕ
hold_row deal asset party commit abort =
    if nat_lt 0 commit || nat_lt 0 abort
    then codes "hold " ++ deal ++ (32 ∷ asset) ++ (32 ∷ party) ++ (32 ∷ decimal commit)
    ++ (32 ∷ decimal abort) ++ 10 ∷ []
    else []

-- what the party was paid of the asset when the deal ended, where that is anything
abbrev pub paid_row : List ℕ → List ℕ → List ℕ → ℕ → List ℕ
paid_row deal asset party amount =
    if nat_lt 0 amount
    then codes "paid " ++ deal ++ (32 ∷ asset) ++ (32 ∷ party) ++ (32 ∷ decimal amount)
    ++ 10 ∷ [] else []

-- the row of that kind which a ledger has for an asset and a party
abbrev pub row_text : Rows → History → List ℕ → List ℕ → List ℕ
row_text Free h asset party = free_row asset party (free_of h (plain_id party) asset)
row_text (Held deal) h asset party =
    hold_row deal asset party (if_commit_of h (plain_id deal) (plain_id party) asset)
    (if_abort_of h (plain_id deal) (plain_id party) asset)
row_text (Paid deal outcome) h asset party =
    paid_row deal asset party (payout_of h (plain_id deal) outcome (plain_id party) asset)

-- the rows of that kind, by asset and then by party
abbrev pub rows_text : Rows → History → List (List ℕ) → List (List ℕ) → List ℕ
rows_text rows h assets parties =
    flat_map (λ asset. flat_map (row_text rows h asset) parties) assets

-- the assets of a ledger are those of its opening rows
abbrev pub assets_of : History → List (List ℕ)
assets_of h = in_order (map (λ row. row.1) h.opening)

-- ---- deals

-- an open deal with what is held in it, or a settled one with what was paid
abbrev pub deal_lines : History → List (List ℕ) → List ℕ → List (List ℕ) → Option Outcome → List ℕ
deal_lines h assets deal members None =
    codes "deal " ++ deal ++ codes " open" ++ (10 ∷ []) ++ rows_text (Held deal) h assets members
deal_lines h assets deal members (Some outcome) =
    codes "deal " ++ deal ++ (32 ∷ outcome_text outcome) ++ (10 ∷ [])
    ++ rows_text (Paid deal outcome) h assets members

-- nothing for a deal that isn't registered here
abbrev pub deal_text : List Declaration → History → List (List ℕ) → List ℕ → List ℕ
deal_text ds h assets deal =
    if is_known h (plain_id deal)
    then deal_lines h assets deal (in_order (members_of ds deal)) (settlement_of h (plain_id deal))
    else []

-- ---- ledgers

abbrev pub ledger_text : List Declaration → LedgerTold → List ℕ
ledger_text ds ledger =
    codes "ledger " ++ ledger.name ++ (10 ∷ [])
    ++ rows_text Free ledger.history (assets_of ledger.history) (parties_of ds)
    ++ flat_map (deal_text ds ledger.history (assets_of ledger.history)) (in_order (deal_names ds))

abbrev pub found_text : List Declaration → Option LedgerTold → List ℕ
found_text ds None = []
found_text ds (Some ledger) = ledger_text ds ledger

abbrev pub named_text : List Declaration → List LedgerTold → List ℕ → List ℕ
named_text ds ledgers name = found_text ds (find (λ ledger. bytes_eq name ledger.name) ledgers)

-- the ledgers in the order of their names
abbrev pub tables_text : List Declaration → World → List ℕ
tables_text ds world =
    flat_map (named_text ds world.ledgers) (in_order (map (λ ledger. ledger.name) world.ledgers))
