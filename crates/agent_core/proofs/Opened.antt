-- What opening an agent does.
use Rattle.std.proofs.Common.{◌≡◌, ◌⊎◌, inl, inr, ℕ, ◌+◌, ◌<◌, ◌≤◌, ◌==◌, ◌&&◌, Bool, true, false, if◌then◌else◌, List, [], ◌∷◌, map, length, drop, slice_index, Option, Some, None, IfSome, IsSome, Result, Ok, Err, refl, sym, ap, subst, ◌∙◌, arith}
use Rattle.std.specs.Int.{w32}
use Rattle.std.specs.List.{Contains}
use Rattle.std.specs.Option.{option_map}
use Rattle.std.specs.FinMap.{get, empty, get-empty}
use Rattle.std.proofs.lemmas.Bool.{eqb-true}
use Rattle.dh_base.specs.declared.id.Id.{Id}
use Rattle.dh_base.specs.Ids.{same_id}
use Rattle.dh_base.proofs.SameIds.{same_id-self}
use Rattle.clear_core.proofs.Moved.{at_head}
use Rattle.keeper_core.specs.declared.change.Change.{Change}
use Rattle.keeper_core.specs.declared.row.Row.{Row}
use Rattle.keeper_core.specs.declared.store_fault.StoreFault.TheVariants as store
use Rattle.keeper_core.specs.Tables.{Tables, cell_cmp, rows_of}
use Rattle.keeper_core.specs.Batches.{after_batch}
use Rattle.keeper_core.specs.Knowing.{Known}
use Rattle.keeper_core.specs.Leaving.{Ended, done, failed, starved, refused, ended, after_batches, KeepsTold, Applies, Leaves}
use Rattle.keeper_core.specs.NumberedRows.{numbered_rows}
use Rattle.keeper_core.specs.Stepping.{IsRefusal, IsReply, Backs, LeavesBy}
use Rattle.keeper_core.proofs.Batched.{at_itself}
use Rattle.keeper_core.proofs.Leaving.{is_told, not_told, read_and}
use Rattle.keeper_core.proofs.OtherTables.{other_tables_stay}
use Rattle.keeper_core.proofs.Scanned.{scans_list_the_map}
use Rattle.keeper_core.proofs.Stepping.{was_told, reads_leave, call_leaves}
use Rattle.key_ring.specs.declared.key_spec.KeySpec.{KeySpec}
use Rattle.key_ring.specs.UsedTexts as used
use Rattle.joined_deals.specs.DealTexts.{JoinedTold}
use Rattle.joined_deals.specs.Agents.{AgentTold, HasKeys, IsOpenedAgain}
use Rattle.joined_deals.specs.AgentSteps.{IsFirst}
use Rattle.agent_core.specs.declared.agent_open_fault.AgentOpenFault.{AgentOpenFault}
use Rattle.agent_core.specs.declared.agent_open_fault.AgentOpenFault.TheVariants.{OtherAgent, Store}
use Rattle.agent_core.specs.declared.loading.Loaded.{Loaded}
use Rattle.agent_core.specs.declared.state.AgentState.{AgentState}
use Rattle.agent_core.specs.AgentOpenFaults.{of_open_fault}
use Rattle.agent_core.specs.AgentSeen.{agent_in}
use Rattle.agent_core.specs.AgentTables.{form_tab, deal_tab, form_key, identity_of, form_text, form_changes, IsState}
use Rattle.agent_core.specs.AgentRows.{form_in, said_by, form_said, named_if, row_of, AreRowsOf, LacksForm}
use Rattle.agent_core.specs.AgentOpens.{account_for, IsAgentOf, IsLoaded, batches_for, open_batches, OpenCause, IsOpened, Opens}
use Rattle.agent_core.proofs.Doing.{store_not_done}
use Rattle.agent_core.proofs.Opening.{deals_stand, are_own}
use Rattle.agent_core.proofs.Reading.{keeps_map, carry, told_on}
use Rattle.agent_core.proofs.Reopened.{says, none_lacks, opened_again}
use Rattle.agent_core.proofs.Signed.{put_at}

pub open_not_done : (fault : AgentOpenFault) → of_open_fault fault ≡ done → ⊥
open_not_done (OtherAgent kept) e = (let s : refused ≡ done = e in absurd cc)
open_not_done (Store fault) e = store_not_done fault e

told_two : (P Q R : Tables → Type 0) (told : Option Tables) → ((tables : Tables) → P tables → Q tables → R tables) → IfSome told P → IfSome told Q → IfSome told R
told_two P Q R None on p q = tt
told_two P Q R (Some tables) on p q = on tables p q

-- what holds of the map then holds of the map before
told_before : (P : Tables → Type 0) (before after : Option Tables) → KeepsTold before after → IfSome after P → IfSome after (λ _. IfSome before P)
told_before P before None keeps holds = tt
told_before P None (Some later) keeps holds = absurd (not_told later keeps)
told_before P (Some tables) (Some later) keeps holds = subst P (is_told later tables keeps) holds

-- ---- the row that names the agent

form_spelled : (val : List ℕ) (id : Id) → form_in val ≡ Some id → val ≡ 1 ∷ 3 ∷ id.0
form_spelled [] id e = absurd (let s : None ≡ Some id = e in cc)
form_spelled (x ∷ []) id e = absurd (let s : None ≡ Some id = e in cc)
form_spelled (x ∷ y ∷ rest) id e = go (length (x ∷ y ∷ rest) == 34) (x == 1) (y == 3) refl refl e
  where
    go : (long first second : Bool) → (x == 1) ≡ first → (y == 3) ≡ second → (if long && (first && second) then Some (record { 0 = rest }) else None) ≡ Some id → x ∷ y ∷ rest ≡ 1 ∷ 3 ∷ id.0
    go true true true fx fy s = (let same : rest ≡ id.0 = ap (λ (i : Id). i.0) (let o : Some (record { 0 = rest }) ≡ Some id = s in cc) in (λ i. eqb-true x 1 fx i ∷ eqb-true y 3 fy i ∷ same i))
    go true true false fx fy s = absurd (let o : None ≡ Some id = s in cc)
    go true false second fx fy s = absurd (let o : None ≡ Some id = s in cc)
    go false first second fx fy s = absurd (let o : None ≡ Some id = s in cc)

some_said : (form : Option (List ℕ)) (id : Id) → said_by form ≡ Some (Some id) → form ≡ Some (1 ∷ 3 ∷ id.0)
some_said None id e = absurd (let s : Some None ≡ Some (Some id) = e in cc)
some_said (Some val) id e = go (form_in val) refl e
  where
    go : (o : Option Id) → form_in val ≡ o → option_map Some o ≡ Some (Some id) → Some val ≡ Some (1 ∷ 3 ∷ id.0)
    go None is s = absurd (let n : None ≡ Some (Some id) = s in cc)
    go (Some other) is s = (let same : other ≡ id = cc in ap Some (form_spelled val id (is ∙ ap Some same)))

-- ---- the state

module _ (spec : KeySpec) (house : Id) (state : AgentState) (account : state.account ≡ account_for spec) (housed : state.house ≡ house) (tables : Tables) where
  rows_own : AreRowsOf house (account_for spec) (rows_of deal_tab tables) state.deals.items → AreRowsOf state.house state.account (rows_of deal_tab tables) state.deals.items
  rows_own rows =
      subst (λ (a : Id). AreRowsOf state.house a (rows_of deal_tab tables) state.deals.items) (sym account)
      (subst (λ (h : Id). AreRowsOf h (account_for spec) (rows_of deal_tab tables) state.deals.items) (sym housed) rows)

  pub state_of : get tables (form_tab, form_key) ≡ Some (form_text house (account_for spec)) → used.StandsFor tables state.signer.texts → AreRowsOf house (account_for spec) (rows_of deal_tab tables) state.deals.items → HasKeys (agent_in state) → IsState tables (agent_in state)
  state_of form signed rows keys = record {
    stands = record {
      form = form ∙ sym (λ i. Some (form_text (housed i) (account i)));
      used = signed;
      deals = deals_stand state.house state.account tables state.deals.items (rows_own rows);
    };
    own = are_own state.house state.account tables state.deals.items (rows_own rows);
    keys = keys;
  }

-- ---- nothing is opened by what was read

module _ (spec : KeySpec) (house : Id) (agent : AgentTold) (of : IsAgentOf spec house agent) where
  same_identity : identity_of agent.house agent.account ≡ identity_of house (account_for spec)
  same_identity = (λ i. identity_of (of.housed i) (of.account i))

  never : (told : Option Tables) (fault : AgentOpenFault) → OpenCause spec house told fault → IfSome told (λ tables. IsState tables agent) → IfSome told (λ _. IsRefusal (of_open_fault fault) None fault)
  never None fault cause state = tt
  never (Some tables) (OtherAgent kept) (said, other) state =
      let own : Some (Some kept) ≡ Some (Some (identity_of house (account_for spec))) = sym said ∙ (says tables agent.house agent.account state.stands.form ∙ ap (λ (i : Id). Some (Some i)) same_identity) in
      let same : kept ≡ identity_of house (account_for spec) = cc in
      let yes : same_id kept (identity_of house (account_for spec)) ≡ true = subst (λ (i : Id). same_id i (identity_of house (account_for spec)) ≡ true) (sym same) (same_id-self (identity_of house (account_for spec))) in
      absurd (let e : true ≡ false = sym yes ∙ other in cc)
  never (Some tables) (Store store.Keeper) cause state = tt
  never (Some tables) (Store store.NoMemory) cause state = tt
  never (Some tables) (Store (store.BadRow tab key)) cause state =
      let lacks : LacksForm agent.house agent.account agent.size (Some tables) tab cause.row =
      subst (λ (h : Id). LacksForm h agent.account agent.size (Some tables) tab cause.row) (sym of.housed)
      (subst (λ (a : Id). LacksForm house a agent.size (Some tables) tab cause.row) (sym of.account)
      (subst (λ (n : ℕ). LacksForm house (account_for spec) n (Some tables) tab cause.row) (sym of.size) cause.lacks)) in
      absurd (none_lacks tables agent state tab cause.row cause.stands lacks)

pub opens_unread : (spec : KeySpec) (house : Id) (fault : AgentOpenFault) (before after : Known) → Leaves [] (of_open_fault fault) before after → OpenCause spec house after.tables fault → Opens spec house (Err fault) before after
opens_unread spec house fault before after read cause = record {
  leaves = reads_leave (open_batches spec house) (of_open_fault fault) before after (open_not_done fault) read;
  opened = tt;
  kept = λ agent of backs. (let at = carry (λ tables. IsState tables agent) before.tables after.tables (keeps_map (of_open_fault fault) before after read) backs in (never spec house agent of after.tables fault cause at, at));
  empty = λ is. tt;
}

-- ---- what was read is opened

module _ (spec : KeySpec) (house : Id) (loaded : Loaded) (before mid : Known) (l : IsLoaded spec house mid loaded) (read : Leaves [] done before mid) where
  abbrev agent : AgentTold
  agent = agent_in loaded.state

  abbrev identity : Id
  identity = identity_of house (account_for spec)

  of : IsAgentOf spec house agent
  of = record { account = l.account; size = ap (λ (s : KeySpec). s.size) l.spec_is; housed = l.housed }

  keeps : KeepsTold before.tables mid.tables
  keeps = keeps_map done before mid read

  empty_then : before.tables ≡ Some empty → IfSome mid.tables (λ tables. tables ≡ empty)
  empty_then is = carry (λ tables. tables ≡ empty) before.tables mid.tables keeps (subst (λ (o : Option Tables). IfSome o (λ tables. tables ≡ empty)) (sym is) refl)

  empty_says : form_said empty ≡ Some None
  empty_says = ap said_by (get-empty cell_cmp (form_tab, form_key))

  -- ---- the tables name the agent

  module _ (named : loaded.named ≡ true) where
    named_there : IfSome mid.tables (λ tables. form_said tables ≡ named_if identity true)
    named_there = subst (λ (b : Bool). IfSome mid.tables (λ tables. form_said tables ≡ named_if identity b)) named l.named

    state_there : IfSome mid.tables (λ tables. IsState tables agent)
    state_there =
        told_two (λ tables. form_said tables ≡ named_if identity true) (λ tables. used.StandsFor tables loaded.state.signer.texts × AreRowsOf house (account_for spec) (rows_of deal_tab tables) loaded.state.deals.items) (λ tables. IsState tables agent) mid.tables
        (λ tables says both. state_of spec house loaded.state l.account l.housed tables (some_said (get tables (form_tab, form_key)) identity says) both.0 both.1 l.keys) named_there
        (told_two (λ tables. used.StandsFor tables loaded.state.signer.texts) (λ tables. AreRowsOf house (account_for spec) (rows_of deal_tab tables) loaded.state.deals.items) _ mid.tables (λ tables s r. (s, r)) l.signed l.rows)

    again : (other : AgentTold) → IsAgentOf spec house other → IfSome mid.tables (λ tables. IsState tables other) → IfSome mid.tables (λ _. IsReply of_open_fault None (IsOpenedAgain other) (Ok agent))
    again other of_other at =
        told_two (λ tables. IsState tables other) (λ tables. IsState tables agent) (λ _. IsReply of_open_fault None (IsOpenedAgain other) (Ok agent)) mid.tables
        (λ tables one two. (refl, opened_again tables other agent one two (of_other.account ∙ sym of.account) (of_other.size ∙ sym of.size) (of_other.housed ∙ sym of.housed) l.heard)) at state_there

    pub opens_named : Opens spec house (Ok agent) before mid
    opens_named = record {
      leaves = record {
        batches = [];
        made = told_before (λ tables. [] ≡ open_batches spec house tables) before.tables mid.tables keeps (told_on (λ tables. form_said tables ≡ named_if identity true) (λ tables. [] ≡ open_batches spec house tables) mid.tables (λ tables says. sym (ap (batches_for house (account_for spec)) says)) named_there);
        leaves = read;
      };
      opened = record { of = of; state = state_there; heard = l.heard };
      kept = λ other of_other backs. (let at = carry (λ tables. IsState tables other) before.tables mid.tables keeps backs in (again other of_other at, at));
      empty = λ is. told_two (λ tables. tables ≡ empty) (λ tables. form_said tables ≡ named_if identity true) (λ _. IsFirst agent) mid.tables
          (λ tables none says. absurd (let e : Some None ≡ Some (Some identity) = sym empty_says ∙ (sym (ap form_said none) ∙ says) in cc)) (empty_then is) named_there;
    }

  -- ---- the tables name none

  module _ (unnamed : loaded.named ≡ false) where
    none_there : IfSome mid.tables (λ tables. form_said tables ≡ Some None)
    none_there = subst (λ (b : Bool). IfSome mid.tables (λ tables. form_said tables ≡ named_if identity b)) unnamed l.named

    abbrev changes : List Change
    changes = form_changes house loaded.state.account

    commits : IfSome mid.tables (λ _. IfSome before.tables (λ tables. changes ∷ [] ≡ open_batches spec house tables))
    commits =
        told_before (λ tables. changes ∷ [] ≡ open_batches spec house tables) before.tables mid.tables keeps
        (told_on (λ tables. form_said tables ≡ Some None) (λ tables. changes ∷ [] ≡ open_batches spec house tables) mid.tables
        (λ tables says. ap (λ (a : Id). form_changes house a ∷ []) l.account ∙ sym (ap (batches_for house (account_for spec)) says)) none_there)

    no_state : (other : AgentTold) → Backs IsState before.tables other → IfSome mid.tables (λ _. ⊥)
    no_state other backs =
        told_two (λ tables. IsState tables other) (λ tables. form_said tables ≡ Some None) (λ _. ⊥) mid.tables
        (λ tables state none. (let e : Some (Some (identity_of other.house other.account)) ≡ Some None = sym (says tables other.house other.account state.stands.form) ∙ none in absurd cc))
        (carry (λ tables. IsState tables other) before.tables mid.tables keeps backs) none_there

    absurd_then : (X : Type 0) (one two : Option Tables) → IfSome two (λ _. IsSome one) → IfSome one (λ _. ⊥) → IfSome two (λ _. X)
    absurd_then X one None told never = tt
    absurd_then X None (Some later) told never = absurd cc
    absurd_then X (Some tables) (Some later) told never = absurd never

    backs_then : (other : AgentTold) (one two : Option Tables) → IfSome two (λ _. IsSome one) → IfSome one (λ _. ⊥) → IfSome two (λ tables. IsState tables other)
    backs_then other one None told never = tt
    backs_then other None (Some later) told never = absurd cc
    backs_then other (Some tables) (Some later) told never = absurd never

    -- for want of memory
    pub opens_starved : Opens spec house (Err (Store store.NoMemory)) before mid
    opens_starved = record {
      leaves = reads_leave (open_batches spec house) starved before mid (λ e. (let s : starved ≡ done = e in absurd cc)) (read_and starved before mid (λ e. (let s : starved ≡ failed = e in absurd cc)) read);
      opened = tt;
      kept = λ other of_other backs. (let never = no_state other backs in let told = was_told [] done mid mid (same_done mid) in (absurd_then _ mid.tables mid.tables told never, backs_then other mid.tables mid.tables told never));
      empty = λ is. tt;
    }
      where
        same_done : (known : Known) → Leaves [] done known known
        same_done known = record { applies = same_map known.tables; quiet = refl; runs = tt }
          where
            same_map : (told : Option Tables) → Applies told [] told
            same_map None = tt
            same_map (Some tables) = refl

    module _ (after : Known) where
      pub opens_failed : (fault : AgentOpenFault) → Leaves (changes ∷ []) (of_open_fault fault) mid after → Opens spec house (Err fault) before after
      opens_failed fault left = record {
        leaves = call_leaves (open_batches spec house) (changes ∷ []) (of_open_fault fault) before mid after read left commits;
        opened = tt;
        kept = λ other of_other backs. (let never = no_state other backs in let told = was_told (changes ∷ []) (of_open_fault fault) mid after left in (absurd_then _ mid.tables after.tables told never, backs_then other mid.tables after.tables told never));
        empty = λ is. tt;
      }

      module _ (left : Leaves (changes ∷ []) done mid after) where
        state_by : (tables : Tables) → used.StandsFor tables loaded.state.signer.texts → AreRowsOf house (account_for spec) (rows_of deal_tab tables) loaded.state.deals.items → IsState (after_batch changes tables) agent
        state_by tables signed rows =
            state_of spec house loaded.state l.account l.housed (after_batch changes tables)
            (put_at form_tab form_key (form_text house loaded.state.account) tables (form_tab, form_key) ∙ (λ i. Some (form_text house (l.account i))))
            (other_tables_stay used.used_tab changes tables ((λ e. omega (arith, e)), tt) ∙ signed)
            (record { rows_are = other_tables_stay deal_tab changes tables ((λ e. omega (arith, e)), tt) ∙ rows.rows_are; own = rows.own })
            l.keys

        committed : (P : Tables → Type 0) (one two : Option Tables) → Applies one (changes ∷ []) two → ((tables : Tables) → one ≡ Some tables → P (after_batch changes tables)) → IfSome two P
        committed P one None applies holds = tt
        committed P None (Some later) applies holds = absurd (not_told later applies)
        committed P (Some tables) (Some later) applies holds = subst P (sym (is_told later (after_batch changes tables) applies)) (holds tables refl)

        at_told : (P : Tables → Type 0) (told : Option Tables) (tables : Tables) → told ≡ Some tables → IfSome told P → P tables
        at_told P told tables is holds = subst (λ (o : Option Tables). IfSome o P) is holds

        state_then : IfSome after.tables (λ tables. IsState tables agent)
        state_then = committed (λ tables. IsState tables agent) mid.tables after.tables left.applies (λ tables is. state_by tables (at_told (λ t. used.StandsFor t loaded.state.signer.texts) mid.tables tables is l.signed) (at_told (λ t. AreRowsOf house (account_for spec) (rows_of deal_tab t) loaded.state.deals.items) mid.tables tables is l.rows))

        no_rows : (tab : ℕ) (rows : List Row) → rows_of tab empty ≡ rows → rows ≡ []
        no_rows tab [] is = refl
        no_rows tab (row ∷ more) is =
            let got = (scans_list_the_map tab row empty).0 (subst (λ (rs : List Row). Contains rs row) (sym is) (at_head row more)) in
            absurd (let e : None ≡ Some row.val = sym (get-empty cell_cmp (tab, row.key)) ∙ got in cc)

        no_texts : (texts : List (List ℕ)) → [] ≡ numbered_rows w32 0 texts → texts ≡ []
        no_texts [] e = refl
        no_texts (text ∷ texts) e = absurd cc

        no_deals : (deals : List JoinedTold) → [] ≡ map row_of deals → deals ≡ []
        no_deals [] e = refl
        no_deals (joined ∷ deals) e = absurd cc

        first_by : (tables : Tables) → mid.tables ≡ Some tables → tables ≡ empty → IsFirst agent
        first_by tables is none =
            let signed = at_told (λ t. used.StandsFor t loaded.state.signer.texts) mid.tables tables is l.signed in
            let rows = at_told (λ t. AreRowsOf house (account_for spec) (rows_of deal_tab t) loaded.state.deals.items) mid.tables tables is l.rows in
            record {
              joined = no_deals loaded.state.deals.items (sym (no_rows deal_tab (rows_of deal_tab tables) (sym (ap (rows_of deal_tab) none))) ∙ rows.rows_are);
              signed = no_texts loaded.state.signer.texts (sym (no_rows used.used_tab (rows_of used.used_tab tables) (sym (ap (rows_of used.used_tab) none))) ∙ signed);
              heard = l.heard;
            }

        pub opens_first : Opens spec house (Ok agent) before after
        opens_first = record {
          leaves = call_leaves (open_batches spec house) (changes ∷ []) done before mid after read left commits;
          opened = record { of = of; state = state_then; heard = l.heard };
          kept = λ other of_other backs. (let never = no_state other backs in let told = was_told (changes ∷ []) done mid after left in (absurd_then _ mid.tables after.tables told never, backs_then other mid.tables after.tables told never));
          empty = λ is. committed (λ _. IsFirst agent) mid.tables after.tables left.applies (λ tables here. first_by tables here (at_told (λ t. t ≡ empty) mid.tables tables here (empty_then is)));
        }
