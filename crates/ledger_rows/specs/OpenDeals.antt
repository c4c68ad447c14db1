-- The deals that an account has registered and that aren't settled, by entries and by rows.
use Rattle.std.specs.Prelude.{ℕ, ◌≡◌, ◌+◌, Bool, true, false, not, ◌&&◌, if◌then◌else◌, List, [], ◌∷◌, ◌++◌, Option, Some, None, is_some, Result, Ok}
use Rattle.std.specs.List.{count_by, AllByRecursion}
use Rattle.std.specs.Option.{option_map, option_or}
use Rattle.dh_base.specs.declared.id.Id.{Id}
use Rattle.dh_base.specs.Ids.{same_id}
use Rattle.act_text.specs.declared.act.Act.{Act}
use Rattle.act_text.specs.declared.act.Act.TheVariants.{Register}
use Rattle.act_text.specs.declared.act_fault.ActFault.{ActFault}
use Rattle.act_text.specs.declared.office.Office.TheVariants.{Ledger}
use Rattle.act_text.specs.ActReading.{act_of}
use Rattle.escrow_book.specs.Opening.{Row as OpeningRow}
use Rattle.escrow_book.specs.History.{History, settlement_of}
use Rattle.keeper_core.specs.declared.row.Row.{Row}
use Rattle.keeper_core.specs.declared.store_fault.StoreFault.{StoreFault}
use Rattle.keeper_core.specs.Tables.{Tables, rows_of}
use Rattle.ledger_rows.specs.declared.entry.Entry.{Entry}
use Rattle.ledger_rows.specs.declared.entry.Entry.TheVariants.{Act as Accepted, Settlement}
use Rattle.ledger_rows.specs.declared.registration.Registration.{Registration}
use Rattle.ledger_rows.specs.Entries.{digest_of, registration_of, book_of}
use Rattle.ledger_rows.specs.LedgerTables.{StandsFor}
use Rattle.ledger_rows.specs.RowKeys.{deal_tab}
use Rattle.ledger_rows.specs.RowReading.{first_formless, forms_refusal, deal_said, deal_refusal}
use Rattle.ledger_rows.specs.RowValues.{registration_in, EntryFits}

-- ---- by the entries

abbrev pub deal_of : Result Act ActFault → Option Id
deal_of (Ok (Register text)) = Some (digest_of text)
deal_of _ = None

-- the deal that the entry registers, if it is an act of the account
abbrev pub deal_by : Id → Entry → Option Id
deal_by account (Accepted owner q message) =
    if same_id account owner then deal_of (act_of Ledger message) else None
deal_by account (Settlement deal outcome) = None

-- the deal isn't settled, and no entry of those before registers it
abbrev pub is_new_open : History → List Entry → Option Id → Bool
is_new_open later before None = false
is_new_open later before (Some deal) =
    if is_some (settlement_of later deal) then false
    else if is_some (registration_of before deal) then false else true

-- how many deals the account has registered that aren't settled
abbrev pub open_behind : History → Id → List Entry → List Entry → ℕ
open_behind later account before [] = 0
open_behind later account before (entry ∷ entries) =
    (if is_new_open later before (deal_by account entry) then 1 else 0)
    + open_behind later account (before ++ entry ∷ []) entries

abbrev pub open_deals : List OpeningRow → List Entry → Id → ℕ
open_deals opening entries account = open_behind (book_of opening entries) account [] entries

-- ---- by the rows

-- the account has registered the deal, and it isn't settled
abbrev pub is_open_by : Id → Registration → Bool
is_open_by account deal = same_id account deal.registrant && not (is_some deal.settled)

abbrev pub is_open_if : Id → Option Registration → Bool
is_open_if account None = false
is_open_if account (Some deal) = is_open_by account deal

abbrev pub is_open_row : Id → Row → Bool
is_open_row account row = is_open_if account (registration_in row.val)

abbrev pub open_rows : Id → List Row → ℕ
open_rows account rows = count_by (is_open_row account) rows

-- ---- by the tables

abbrev pub open_said : Id → Tables → Option ℕ
open_said account tables = Some (open_rows account (rows_of deal_tab tables))

-- the first row of a deal that lacks its form
abbrev pub deals_refusal : Tables → Option StoreFault
deals_refusal tables = forms_refusal registration_in deal_tab (rows_of deal_tab tables)

-- how many deals are open, unless the deal is registered
abbrev pub unless_registered : ℕ → Option Registration → Option ℕ
unless_registered held None = Some held
unless_registered held (Some deal) = None

abbrev pub room_said : Id → Id → Tables → Option (Option ℕ)
room_said account deal tables =
    option_map (unless_registered (open_rows account (rows_of deal_tab tables)))
    (deal_said deal tables)

-- the refusal, unless the deal is registered
abbrev pub refused_unless : Option StoreFault → Option (Option Registration) → Option StoreFault
refused_unless refusal (Some None) = refusal
refused_unless refusal _ = None

-- The other deals are gone through only where the deal is unknown.
abbrev pub room_refusal : Id → Tables → Option StoreFault
room_refusal deal tables =
    option_or (deal_refusal deal tables)
    (refused_unless (deals_refusal tables) (deal_said deal tables))

-- Where tables stand for a history of entries that have a spelling, each row of a deal has its
-- form, and as many deals of an account are open by the rows as by the entries.
abbrev pub OpenDealsCounted : Type 0
OpenDealsCounted = (tables : Tables) (opening : List OpeningRow) (entries : List Entry)
    (account : Id) →
    StandsFor tables opening entries → AllByRecursion EntryFits entries →
    (first_formless registration_in (rows_of deal_tab tables) ≡ None)
    × (open_rows account (rows_of deal_tab tables) ≡ open_deals opening entries account)
