-- Reading the rows of an agent, and why one is amiss.
use Rattle.std.proofs.Common.{◌≡◌, ◌⊎◌, inl, inr, ℕ, ◌+◌, ◌<◌, ◌≤◌, Bool, true, false, List, [], ◌∷◌, ◌++◌, map, length, Option, Some, None, IfSome, Result, Ok, Err, refl, sym, ap, subst, ◌∙◌, append_assoc, arith}
use Rattle.std.specs.List.{Contains, AllByRecursion}
use Rattle.std.specs.FinMap.{get}
use Rattle.std.proofs.lemmas.List.{map-append}
use Rattle.sha2.specs.Sha256.{sha256}
use Rattle.dh_base.specs.declared.id.Id.{Id}
use Rattle.dh_base.specs.Ids.{same_id}
use Rattle.clear_core.proofs.Moved.{at_head}
use Rattle.keeper_core.specs.declared.row.Row.{Row}
use Rattle.keeper_core.specs.declared.store_fault.StoreFault.{StoreFault}
use Rattle.keeper_core.specs.declared.store_fault.StoreFault.TheVariants as store
use Rattle.keeper_core.specs.Tables.{Tables, rows_of}
use Rattle.keeper_core.specs.Knowing.{Known}
use Rattle.keeper_core.specs.Leaving.{Ended, done, failed, starved, refused, KeepsTold, Halts, Leaves}
use Rattle.keeper_core.specs.StoreFaults.{bad_row_of, HasCause, IsBadRow}
use Rattle.keeper_core.proofs.Leaving.{applies_same, none_made, is_told, not_told}
use Rattle.keeper_core.proofs.Scanned.{scans_list_the_map}
use Rattle.key_ring.specs.UsedTexts as used
use Rattle.joined_deals.specs.DealTexts.{JoinedTold}
use Rattle.joined_deals.specs.Signed.{unsigned_in}
use Rattle.joined_deals.proofs.Elements.{in_back}
use Rattle.agent_core.specs.declared.agent_open_fault.AgentOpenFault.{AgentOpenFault}
use Rattle.agent_core.specs.declared.agent_open_fault.AgentOpenFault.TheVariants.{OtherAgent, Store}
use Rattle.agent_core.specs.AgentTables.{form_tab, deal_tab, form_key, identity_of, IsOwn}
use Rattle.agent_core.specs.AgentRows.{form_in, said_by, form_said, named_if, IsFormFault, row_of, IsRowOf, IsUnfit, IsDealAmiss, IsDealFault, NamesNoOther, LacksForm}
use Rattle.agent_core.specs.AgentOpens.{account_for, OpenCause}

-- ---- deals, one row after another

pub deal_taken : (rows rest more : List Row) (deals after : List JoinedTold) (row : Row) (joined : JoinedTold) → rows ≡ map row_of deals ++ rest → rest ≡ row ∷ more → row ≡ row_of joined → after ≡ deals ++ joined ∷ [] → rows ≡ map row_of after ++ more
deal_taken rows rest more deals after row joined parted next is pushed =
    parted
    ∙ ap (λ (rs : List Row). map row_of deals ++ rs) (next ∙ ap (λ (r : Row). r ∷ more) is)
    ∙ sym (append_assoc (map row_of deals) (row_of joined ∷ []) more)
    ∙ ap (λ (rs : List Row). rs ++ more) (sym (map-append row_of deals (joined ∷ [])))
    ∙ ap (λ (ds : List JoinedTold). map row_of ds ++ more) (sym pushed)

pub all_more : {X : Type 0} (P : X → Type 0) (xs : List X) (x : X) → AllByRecursion P xs → P x → AllByRecursion P (xs ++ x ∷ [])
all_more P [] x all one = (one, tt)
all_more P (y ∷ xs) x all one = (all.0, all_more P xs x all.1 one)

pub deal_refused : (house account : Id) (size left : ℕ) (signed : List (List ℕ)) (rows rest more : List Row) (deals : List JoinedTold) (row : Row) → rows ≡ map row_of deals ++ rest → rest ≡ row ∷ more → AllByRecursion (IsOwn house account) deals → left + (length signed + unsigned_in signed deals) ≡ size
    → IsUnfit house account signed left row → IsDealFault house account size signed rows (bad_row_of deal_tab row.key)
deal_refused house account size left signed rows rest more deals row parted next own keys unfit =
    (refl, row, refl, record { deals = deals; behind = more; parted = parted ∙ ap (λ (rs : List Row). map row_of deals ++ rs) next; own = own; left = left; left_is = keys; amiss = unfit })

-- ---- what is told later

pub keeps_map : (how : Ended) (before after : Known) → Leaves [] how before after → KeepsTold before.tables after.tables
keeps_map done before after l = applies_same before.tables after.tables l.applies
keeps_map failed before after l = none_made (Halts before after) before.tables after.tables l.front
keeps_map starved before after l = none_made ⊥ before.tables after.tables l.front
keeps_map refused before after l = l.unchanged

pub carry : (P : Tables → Type 0) (before after : Option Tables) → KeepsTold before after → IfSome before P → IfSome after P
carry P before None keeps holds = tt
carry P None (Some later) keeps holds = absurd (not_told later keeps)
carry P (Some tables) (Some later) keeps holds = subst P (sym (is_told later tables keeps)) holds

pub told_on : (P Q : Tables → Type 0) (told : Option Tables) → ((tables : Tables) → P tables → Q tables) → IfSome told P → IfSome told Q
told_on P Q None on holds = tt
told_on P Q (Some tables) on holds = on tables holds

told_two : (P Q R : Tables → Type 0) (told : Option Tables) → ((tables : Tables) → P tables → Q tables → R tables) → IfSome told P → IfSome told Q → IfSome told R
told_two P Q R None on p q = tt
told_two P Q R (Some tables) on p q = on tables p q

-- ---- why a row is amiss

module _ (house account : Id) (size : ℕ) (told : Option Tables) where
  abbrev Lacks : ℕ → Row → Type 0
  Lacks = LacksForm house account size told

  abbrev Free : Type 0
  Free = IfSome told (NamesNoOther (identity_of house account))

  listed : (rows before behind : List Row) (row : Row) → IfSome told (λ tables. rows ≡ rows_of deal_tab tables) → rows ≡ before ++ row ∷ behind → IfSome told (λ tables. get tables (deal_tab, row.key) ≡ Some row.val)
  listed rows before behind row lists parted =
      told_on (λ tables. rows ≡ rows_of deal_tab tables) (λ tables. get tables (deal_tab, row.key) ≡ Some row.val) told
      (λ tables is. (scans_list_the_map deal_tab row tables).0 (subst (λ (rs : List Row). Contains rs row) (sym parted ∙ is) (in_back before (row ∷ behind) row (at_head row behind)))) lists

  -- a row of a deal
  pub deal_cause : (signed : List (List ℕ)) (rows : List Row) (fault : StoreFault) → Free → IfSome told (λ tables. used.StandsFor tables signed) → IfSome told (λ tables. rows ≡ rows_of deal_tab tables) → IsDealFault house account size signed rows fault → HasCause Lacks told fault
  deal_cause signed rows store.Keeper free signs lists is = absurd is
  deal_cause signed rows store.NoMemory free signs lists is = tt
  deal_cause signed rows (store.BadRow tab digest) free signs lists (is_tab, row, named, amiss) = record {
    row = row;
    named = named;
    lacks = inr (free, inr (is_tab, record { signed = signed; signs = signs; rows = rows; lists = lists; amiss = amiss }));
    stands = subst (λ (t : ℕ). IfSome told (λ tables. get tables (t, row.key) ≡ Some row.val)) (sym is_tab) (listed rows (map row_of amiss.deals) amiss.behind row lists amiss.parted);
  }

  -- a row of a text that is signed
  pub sign_cause : (fault : StoreFault) → Free → HasCause (used.LacksForm size told) told fault → HasCause Lacks told fault
  sign_cause store.Keeper free is = tt
  sign_cause store.NoMemory free is = tt
  sign_cause (store.BadRow tab digest) free is = record { row = is.row; named = is.named; lacks = inr (free, inl is.lacks); stands = is.stands }

  -- the row that names an agent
  pub form_cause : (form : Option (List ℕ)) (fault : StoreFault) → IfSome told (λ tables. form ≡ get tables (form_tab, form_key)) → IsFormFault (identity_of house account) form (Store fault) → HasCause Lacks told fault
  form_cause form fault there (is, val, has, none) =
      subst (λ (f : StoreFault). HasCause Lacks told f) (sym is) (record {
        row = record { key = form_key; val = val };
        named = refl;
        lacks = inl (refl, refl, none);
        stands = told_on (λ tables. form ≡ get tables (form_tab, form_key)) (λ tables. get tables (form_tab, form_key) ≡ Some val) told (λ tables e. sym e ∙ has) there;
      })

  -- the tables name this agent, or none
  pub names : (form : Option (List ℕ)) (named : Bool) → IfSome told (λ tables. form ≡ get tables (form_tab, form_key)) → said_by form ≡ named_if (identity_of house account) named → IfSome told (λ tables. form_said tables ≡ named_if (identity_of house account) named)
  names form named there said =
      told_on (λ tables. form ≡ get tables (form_tab, form_key)) (λ tables. form_said tables ≡ named_if (identity_of house account) named) told (λ tables e. ap said_by (sym e) ∙ said) there

  pub free_of : (named : Bool) → IfSome told (λ tables. form_said tables ≡ named_if (identity_of house account) named) → Free
  free_of named says = told_on (λ tables. form_said tables ≡ named_if (identity_of house account) named) (NamesNoOther (identity_of house account)) told (λ tables e. (named, e)) says

-- another agent's tables
pub other_cause : (identity kept : Id) (told : Option Tables) (form : Option (List ℕ)) → IfSome told (λ tables. form ≡ get tables (form_tab, form_key)) → IsFormFault identity form (OtherAgent kept) → IfSome told (λ tables. form_said tables ≡ Some (Some kept)) × (same_id kept identity ≡ false)
other_cause identity kept told form there (said, other) =
    (told_on (λ tables. form ≡ get tables (form_tab, form_key)) (λ tables. form_said tables ≡ Some (Some kept)) told (λ tables e. ap said_by (sym e) ∙ said) there, other)
