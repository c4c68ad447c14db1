-- What an agent loads, and why it does not.
use Rattle.std.proofs.Common.{◌≡◌, ℕ, ◌+◌, ◌≤◌, Bool, true, List, [], ◌∷◌, length, Option, Some, None, IfSome, IsErrAnd, Result, Ok, Err, IfErr, refl, sym, ap, subst, ◌∙◌, arith}
use Rattle.std.specs.FinMap.{get}
use Rattle.sha2.specs.Sha256.{sha256}
use Rattle.dh_base.specs.declared.id.Id.{Id}
use Rattle.keeper_core.specs.declared.keep_fault.KeepFault.{KeepFault}
use Rattle.keeper_core.specs.declared.keep_fault.KeepFault.TheVariants as keep
use Rattle.keeper_core.specs.declared.row.Row.{Row}
use Rattle.keeper_core.specs.declared.store_fault.StoreFault.{StoreFault}
use Rattle.keeper_core.specs.declared.store_fault.StoreFault.TheVariants as store
use Rattle.keeper_core.specs.Tables.{Tables, rows_of}
use Rattle.keeper_core.specs.Knowing.{Known}
use Rattle.keeper_core.specs.Leaving.{Ended, done, failed, starved, refused, of_store_fault, Leaves}
use Rattle.keeper_core.specs.StoreFaults.{HasCause, store_fault_of}
use Rattle.keeper_core.proofs.Leaving.{then_any, read_and}
use Rattle.key_ring.specs.declared.key_spec.KeySpec.{KeySpec}
use Rattle.key_ring.specs.Rings.{ring_text}
use Rattle.key_ring.specs.Making.{ring_made}
use Rattle.key_ring.specs.Signers.{SignerTold}
use Rattle.key_ring.specs.UsedTexts as used
use Rattle.joined_deals.specs.DealTexts.{JoinedTold}
use Rattle.joined_deals.specs.Signed.{unsigned_in}
use Rattle.agent_core.specs.declared.agent_open_fault.AgentOpenFault.{AgentOpenFault}
use Rattle.agent_core.specs.declared.agent_open_fault.AgentOpenFault.TheVariants.{OtherAgent, Store}
use Rattle.agent_core.specs.declared.loading.Loaded.{Loaded}
use Rattle.agent_core.specs.declared.rows.AgentRows.{AgentRows}
use Rattle.agent_core.specs.AgentOpenFaults.{of_open_fault}
use Rattle.agent_core.specs.AgentTables.{form_tab, deal_tab, form_key, identity_of, form_changes}
use Rattle.agent_core.specs.AgentSeen.{KeepsUp}
use Rattle.agent_core.specs.AgentRows.{said_by, form_said, named_if, IsFormFault, IsStoreOnly, IsStoreOpenFault, rows_in, AreRowsOf, IsDealFault, NamesNoOther}
use Rattle.agent_core.specs.AgentOpens.{account_for, IsLoaded, OpenCause}
use Rattle.agent_core.proofs.Backing.{still_backed}
use Rattle.agent_core.proofs.Doing.{refused_not_failed}
use Rattle.agent_core.proofs.Reading.{keeps_map, carry, told_on, deal_cause, sign_cause, form_cause, names, free_of, other_cause}

-- ---- the account of the ring

pub account_is : (spec : KeySpec) (ring : List ℕ) (account : Id) → ring ≡ ring_text (ring_made spec.seed spec.ident spec.size) → account.0 ≡ sha256 ring → account ≡ account_for spec
account_is spec ring account text digest = (let same = digest ∙ ap sha256 text in (λ i. record { 0 = same i }))

-- ---- how a fault of rows ends the call

pub form_ends : (identity : Id) (form : Option (List ℕ)) (fault : AgentOpenFault) → IsFormFault identity form fault → of_open_fault fault ≡ refused
form_ends identity form (OtherAgent kept) amiss = refl
form_ends identity form (Store fault) amiss = ap of_store_fault amiss.0

pub form_read : (identity : Id) (form : Option (List ℕ)) (fault : AgentOpenFault) (before mid : Known) → IsFormFault identity form fault → Leaves [] done before mid → Leaves [] (of_open_fault fault) before mid
form_read identity form fault before mid amiss read =
    read_and (of_open_fault fault) before mid (refused_not_failed (of_open_fault fault) (form_ends identity form fault amiss)) read

deal_not_failed : (house account : Id) (size : ℕ) (signed : List (List ℕ)) (rows : List Row) (fault : StoreFault) → IsDealFault house account size signed rows fault → of_store_fault fault ≡ failed → ⊥
deal_not_failed house account size signed rows store.Keeper amiss e = absurd amiss
deal_not_failed house account size signed rows (store.BadRow tab key) amiss e = (let s : refused ≡ failed = e in absurd cc)
deal_not_failed house account size signed rows store.NoMemory amiss e = (let s : starved ≡ failed = e in absurd cc)

pub deal_read : (house account : Id) (size : ℕ) (signed : List (List ℕ)) (rows : List Row) (fault : StoreFault) (before mid after : Known) → IsDealFault house account size signed rows fault → Leaves [] done before mid → Leaves [] done mid after → Leaves [] (of_store_fault fault) before after
deal_read house account size signed rows fault before mid after amiss one two =
    read_and (of_store_fault fault) before after (deal_not_failed house account size signed rows fault amiss) (then_any [] done before mid after one two)

pub starved_read : (before mid : Known) → Leaves [] done before mid → Leaves [] starved before mid
starved_read before mid read = read_and starved before mid (λ e. (let s : starved ≡ failed = e in absurd cc)) read

-- ---- why nothing is opened

pub only_store : (spec : KeySpec) (house : Id) (told : Option Tables) (fault : StoreFault) → IsStoreOnly fault → OpenCause spec house told (Store fault)
only_store spec house told store.Keeper only = tt
only_store spec house told (store.BadRow tab key) only = absurd only
only_store spec house told store.NoMemory only = tt

-- by the rows that were read
module _ (spec : KeySpec) (house : Id) (rows : AgentRows) (mid : Known) (are : IfSome mid.tables (λ tables. rows ≡ rows_in tables)) where
  abbrev identity : Id
  identity = identity_of house (account_for spec)

  form_there : IfSome mid.tables (λ tables. rows.form ≡ get tables (form_tab, form_key))
  form_there = told_on (λ tables. rows ≡ rows_in tables) (λ tables. rows.form ≡ get tables (form_tab, form_key)) mid.tables (λ tables is. ap (λ (r : AgentRows). r.form) is) are

  deals_there : IfSome mid.tables (λ tables. rows.deals ≡ rows_of deal_tab tables)
  deals_there = told_on (λ tables. rows ≡ rows_in tables) (λ tables. rows.deals ≡ rows_of deal_tab tables) mid.tables (λ tables is. ap (λ (r : AgentRows). r.deals) is) are

  form_caused : (fault : AgentOpenFault) → IsFormFault identity rows.form fault → OpenCause spec house mid.tables fault
  form_caused (OtherAgent kept) amiss = other_cause identity kept mid.tables rows.form form_there amiss
  form_caused (Store fault) amiss = form_cause house (account_for spec) spec.size mid.tables rows.form fault form_there amiss

  pub form_why : (account : Id) → account ≡ account_for spec → (fault : AgentOpenFault) → IsFormFault (identity_of house account) rows.form fault → OpenCause spec house mid.tables fault
  form_why account is fault amiss = form_caused fault (subst (λ (a : Id). IsFormFault (identity_of house a) rows.form fault) is amiss)

  -- the tables name the agent, or none
  module _ (named : Bool) (said : said_by rows.form ≡ named_if identity named) (after : Known) (how : Ended) (left : Leaves [] how mid after) where
    says_then : IfSome after.tables (λ tables. form_said tables ≡ named_if identity named)
    says_then = carry (λ tables. form_said tables ≡ named_if identity named) mid.tables after.tables (keeps_map how mid after left) (names house (account_for spec) spec.size mid.tables rows.form named form_there said)

    lists_then : IfSome after.tables (λ tables. rows.deals ≡ rows_of deal_tab tables)
    lists_then = carry (λ tables. rows.deals ≡ rows_of deal_tab tables) mid.tables after.tables (keeps_map how mid after left) deals_there

    abbrev Free : Type 0
    Free = IfSome after.tables (NamesNoOther identity)

    free_then : Free
    free_then = free_of house (account_for spec) spec.size after.tables named says_then

    pub sign_why : (fault : StoreFault) → HasCause (used.LacksForm spec.size after.tables) after.tables fault → OpenCause spec house after.tables (Store fault)
    sign_why fault is = sign_cause house (account_for spec) spec.size after.tables fault free_then is

    pub deal_why : (signed : List (List ℕ)) (fault : StoreFault) → IfSome after.tables (λ tables. used.StandsFor tables signed) → IsDealFault house (account_for spec) spec.size signed rows.deals fault → OpenCause spec house after.tables (Store fault)
    deal_why signed fault signs amiss = deal_cause house (account_for spec) spec.size after.tables signed rows.deals fault free_then signs lists_then amiss

    -- what is loaded
    pub all_loaded : (loaded : Loaded) → loaded.state.signer.spec ≡ spec → loaded.state.account ≡ account_for spec → loaded.state.house ≡ house → loaded.state.heard.items ≡ [] → loaded.named ≡ named
        → IfSome after.tables (λ tables. used.StandsFor tables loaded.state.signer.texts) → used.IsBacked after loaded.state.signer.texts
        → AreRowsOf house (account_for spec) rows.deals loaded.state.deals.items
        → length loaded.state.signer.texts + unsigned_in loaded.state.signer.texts loaded.state.deals.items ≤ loaded.state.signer.spec.size
        → IsLoaded spec house after loaded
    all_loaded loaded spec_is account housed heard is signed backed deals keys = record {
      spec_is = spec_is;
      account = account;
      housed = housed;
      heard = heard;
      named = subst (λ (b : Bool). IfSome after.tables (λ tables. form_said tables ≡ named_if identity b)) (sym is) says_then;
      signed = signed;
      backed = backed;
      rows = told_on (λ tables. rows.deals ≡ rows_of deal_tab tables) (λ tables. AreRowsOf house (account_for spec) (rows_of deal_tab tables) loaded.state.deals.items) after.tables (λ tables there. subst (λ (rs : List Row). AreRowsOf house (account_for spec) rs loaded.state.deals.items) there deals) lists_then;
      keys = keys;
    }

-- ---- what an opened agent keeps to

module _ (spec : KeySpec) (house : Id) (loaded : Loaded) (known : Known) (l : IsLoaded spec house known loaded) where
  account_kept : loaded.state.account.0 ≡ sha256 (ring_text (ring_made loaded.state.signer.spec.seed loaded.state.signer.spec.ident loaded.state.signer.spec.size))
  account_kept = ap (λ (id : Id). id.0) l.account ∙ sym (ap (λ (s : KeySpec). sha256 (ring_text (ring_made s.seed s.ident s.size))) l.spec_is)

  pub keeps_up : KeepsUp known loaded.state
  keeps_up = record { backed = l.backed; account = account_kept; keys = l.keys }

  pub keeps_named : (after : Known) → Leaves (form_changes house loaded.state.account ∷ []) done known after → KeepsUp after loaded.state
  keeps_named after left = record {
    backed = still_backed (form_changes house loaded.state.account) loaded.state.signer.texts ((λ e. omega (arith, e)), tt) done known after left l.backed;
    account = account_kept;
    keys = l.keys;
  }

-- the agent was not named
pub unnamed_why : (spec : KeySpec) (house : Id) (told : Option Tables) (fault : AgentOpenFault) → IsStoreOpenFault fault → OpenCause spec house told fault
unnamed_why spec house told (OtherAgent kept) only = absurd only
unnamed_why spec house told (Store fault) only = only_store spec house told fault only
