-- What the rows of an agent are read as, and which of them lack their form.
use Rattle.std.specs.Prelude.{ℕ, ◌≡◌, ◌⊎◌, ◌+◌, ◌<◌, ◌≤◌, ◌^◌, ◌==◌, ◌&&◌, Bool, false, if◌then◌else◌, List, [], ◌∷◌, ◌++◌, map, length, drop, slice_index, Option, Some, None, IfSome}
use Rattle.std.specs.Option.{option_map}
use Rattle.std.specs.List.{AllByRecursion}
use Rattle.std.specs.FinMap.{get}
use Rattle.sha2.specs.Sha256.{sha256}
use Rattle.dh_base.specs.declared.id.Id.{Id}
use Rattle.dh_base.specs.Ids.{same_id}
use Rattle.keeper_core.specs.declared.row.Row.{Row}
use Rattle.keeper_core.specs.declared.store_fault.StoreFault.{StoreFault}
use Rattle.keeper_core.specs.declared.store_fault.StoreFault.TheVariants.{Keeper, BadRow, NoMemory}
use Rattle.keeper_core.specs.StoreFaults.{bad_row_of}
use Rattle.keeper_core.specs.Tables.{Tables, rows_of}
use Rattle.key_ring.specs.UsedTexts as used
use Rattle.deal_core.specs.Reading.{IsTextOf}
use Rattle.deal_core.specs.DealText.{deal_text}
use Rattle.joined_deals.specs.DealTexts.{JoinedTold}
use Rattle.joined_deals.specs.Signed.{unsigned_of, unsigned_in}
use Rattle.agent_core.specs.declared.agent_open_fault.AgentOpenFault.{AgentOpenFault}
use Rattle.agent_core.specs.declared.agent_open_fault.AgentOpenFault.TheVariants.{OtherAgent, Store}
use Rattle.agent_core.specs.declared.loading.KeptDeal.{KeptDeal}
use Rattle.agent_core.specs.declared.rows.AgentRows.{AgentRows}
use Rattle.agent_core.specs.AgentTables.{form_tab, deal_tab, form_key, kept_text, identity_of, IsOwn}

-- ---- the row that names an agent

-- the identity of an agent, behind the form of the tables and the role of an agent
abbrev pub form_in : List ℕ → Option Id
form_in val =
    if (length val == 34) && ((slice_index val 0 == 1) && (slice_index val 1 == 3))
    then Some (record { 0 = drop 2 val }) else None

-- the identity that the row says, and that there is no row; or that the row lacks its form
abbrev pub said_by : Option (List ℕ) → Option (Option Id)
said_by None = Some None
said_by (Some val) = option_map Some (form_in val)

abbrev pub form_said : Tables → Option (Option Id)
form_said tables = said_by (get tables (form_tab, form_key))

-- the agent, if there is a row of it
abbrev pub named_if : Id → Bool → Option (Option Id)
named_if identity named = Some (if named then Some identity else None)

-- The row lacks its form, or names another agent.
abbrev pub IsFormFault : Id → Option (List ℕ) → AgentOpenFault → Type 0
IsFormFault identity form (OtherAgent kept) =
    (said_by form ≡ Some (Some kept)) × (same_id kept identity ≡ false)
IsFormFault identity form (Store fault) = (fault ≡ bad_row_of form_tab form_key)
    × (val : List ℕ) × (form ≡ Some val) × (form_in val ≡ None)

-- ---- rows of joined deals

-- the fault is the keeper's, or want of memory
abbrev pub IsStoreOnly : StoreFault → Type 0
IsStoreOnly Keeper = Unit {0}
IsStoreOnly (BadRow tab key) = ⊥
IsStoreOnly NoMemory = Unit {0}

abbrev pub IsStoreOpenFault : AgentOpenFault → Type 0
IsStoreOpenFault (OtherAgent kept) = ⊥
IsStoreOpenFault (Store fault) = IsStoreOnly fault

abbrev pub rows_in : Tables → AgentRows
rows_in tables =
    record { form = get tables (form_tab, form_key); deals = rows_of deal_tab tables }

abbrev pub row_of : JoinedTold → Row
row_of joined = record { key = joined.deal.id.0; val = kept_text joined }

-- The bytes are those of a deal that is read from its text.
pub record IsKeptDeal (val : List ℕ) (kept : KeptDeal) : Type 0 where
  pub read : IsTextOf kept.deal (deal_text kept.deal)
  pub spelled : (index : ℕ) →
      val ≡ kept_text (record { deal = kept.deal; index = index; deadline = kept.deadline })
  pub small : kept.deadline < 2 ^ 64

-- They are those of no deal.
abbrev pub IsNoKeptDeal : List ℕ → Type 0
IsNoKeptDeal val = (joined : JoinedTold) → IsTextOf joined.deal (deal_text joined.deal)
    → val ≡ kept_text joined → ⊥

-- The row is that of the deal, which is the agent's own.
abbrev pub IsRowOf : Id → Id → Row → JoinedTold → Type 0
IsRowOf house account row joined = IsOwn house account joined × (row ≡ row_of joined)

-- It is that of none.
abbrev pub IsNoRow : Id → Id → Row → Type 0
IsNoRow house account row = (joined : JoinedTold) → IsRowOf house account row joined → ⊥

-- It is that of a deal for which so many keys don't suffice.
pub record IsShort (house account : Id) (signed : List (List ℕ)) (left : ℕ) (row : Row) :
    Type 0 where
  pub joined : JoinedTold
  pub of : IsRowOf house account row joined
  pub short : left < unsigned_of signed joined

-- The row is that of the deal, for which so many keys suffice.
abbrev pub IsFitting : Id → Id → List (List ℕ) → ℕ → Row → JoinedTold → Type 0
IsFitting house account signed left row joined =
    IsRowOf house account row joined × (unsigned_of signed joined ≤ left)

-- It is that of no such deal.
abbrev pub IsUnfit : Id → Id → List (List ℕ) → ℕ → Row → Type 0
IsUnfit house account signed left row =
    IsNoRow house account row ⊎ IsShort house account signed left row

-- The rows are those of the deals, which are the agent's own.
pub record AreRowsOf (house account : Id) (rows : List Row) (deals : List JoinedTold) :
    Type 0 where
  pub rows_are : rows ≡ map row_of deals
  pub own : AllByRecursion (IsOwn house account) deals

-- Behind rows of deals the first row that is that of none, or for which the keys don't suffice.
pub record IsDealAmiss (house account : Id) (size : ℕ) (signed : List (List ℕ)) (rows : List Row)
    (row : Row) : Type 0 where
  pub deals : List JoinedTold
  pub behind : List Row
  pub parted : rows ≡ map row_of deals ++ row ∷ behind
  pub own : AllByRecursion (IsOwn house account) deals
  pub left : ℕ
  pub left_is : left + (length signed + unsigned_in signed deals) ≡ size
  pub amiss : IsUnfit house account signed left row

abbrev pub IsDealFault : Id → Id → ℕ → List (List ℕ) → List Row → StoreFault → Type 0
IsDealFault house account size signed rows Keeper = ⊥
IsDealFault house account size signed rows NoMemory = Unit {0}
IsDealFault house account size signed rows (BadRow tab digest) = (tab ≡ deal_tab)
    × (row : Row) × (digest.0 ≡ sha256 row.key) × IsDealAmiss house account size signed rows row

-- ---- rows that an agent finds amiss

-- the row that names an agent has not its form
abbrev pub IsNoForm : ℕ → Row → Type 0
IsNoForm tab row = (tab ≡ form_tab) × (row.key ≡ form_key) × (form_in row.val ≡ None)

-- the tables name no other agent
abbrev pub NamesNoOther : Id → Tables → Type 0
NamesNoOther identity tables = (named : Bool) × (form_said tables ≡ named_if identity named)

-- A row of a joined deal that lacks its form, or for which the keys don't suffice.
pub record LacksDeal (house account : Id) (size : ℕ) (told : Option Tables) (row : Row) :
    Type 0 where
  pub signed : List (List ℕ)
  pub signs : IfSome told (λ tables. used.StandsFor tables signed)
  pub rows : List Row
  pub lists : IfSome told (λ tables. rows ≡ rows_of deal_tab tables)
  pub amiss : IsDealAmiss house account size signed rows row

-- A row of signed texts or of joined deals that an agent with a ring of that size finds amiss.
abbrev pub LacksItsForm : Id → Id → ℕ → Option Tables → ℕ → Row → Type 0
LacksItsForm house account size told tab row =
    used.LacksForm size told tab row
    ⊎ ((tab ≡ deal_tab) × LacksDeal house account size told row)

-- These are looked at only where the tables name no other agent.
abbrev pub LacksForm : Id → Id → ℕ → Option Tables → ℕ → Row → Type 0
LacksForm house account size told tab row = IsNoForm tab row
    ⊎ (IfSome told (NamesNoOther (identity_of house account))
    × LacksItsForm house account size told tab row)
