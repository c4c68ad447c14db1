-- What was kept is opened.
use Rattle.std.proofs.Common.{◌≡◌, ◌⊎◌, inl, inr, ℕ, ◌+◌, ◌<◌, ◌≤◌, ◌==◌, ◌&&◌, Bool, true, false, if◌then◌else◌, List, [], ◌∷◌, ◌++◌, map, length, Option, Some, None, IfSome, IsSome, Result, Ok, Err, refl, sym, ap, subst, ◌∙◌, arith, append_assoc}
use Rattle.std.specs.List.{Contains, AllByRecursion}
use Rattle.std.specs.List.Sorted.{IsStrictlySortedBy}
use Rattle.std.specs.Option.{option_map}
use Rattle.std.specs.Ordering.{nat_cmp}
use Rattle.std.specs.Cmp.Lexicographic.{slice_cmp}
use Rattle.std.specs.FinMap.{get, empty, get-empty}
use Rattle.std.proofs.lemmas.List.{map-append}
use Rattle.std.proofs.lemmas.List.Sums.{sum_by-append}
use Rattle.std.proofs.lemmas.Slice.Eq.{bytes_eq-Decides}
use Rattle.sha2.proofs.Facts256.{length-sha256}
use Rattle.dh_base.specs.declared.id.Id.{Id}
use Rattle.dh_base.specs.Ids.{same_id}
use Rattle.dh_base.proofs.SameIds.{same_id-self}
use Rattle.keeper_core.specs.declared.change.Change.{Change}
use Rattle.keeper_core.specs.declared.row.Row.{Row}
use Rattle.keeper_core.specs.declared.store_fault.StoreFault.{StoreFault}
use Rattle.keeper_core.specs.declared.store_fault.StoreFault.TheVariants as store
use Rattle.keeper_core.specs.Tables.{Tables, cell_cmp, rows_of}
use Rattle.keeper_core.specs.Knowing.{Known}
use Rattle.keeper_core.specs.Leaving.{Ended, done, failed, starved, refused, ended, of_store_fault, after_batches, KeepsTold, Leaves}
use Rattle.keeper_core.specs.Stepping.{IsRefusal, IsReply, Backs, LeavesBy, WhereTold}
use Rattle.keeper_core.specs.StoreFaults.{HasCause, IsBadRow}
use Rattle.keeper_core.proofs.Leaving.{is_told, not_told}
use Rattle.keeper_core.proofs.OtherTables.{other_tables_stay}
use Rattle.keeper_core.proofs.Scanned.{scans_list_the_map, scans_ascend}
use Rattle.keeper_core.proofs.Stepping.{was_told, unmoved_or_stopped}
use Rattle.key_ring.proofs.Reloaded.{none_amiss, one_list}
use Rattle.key_ring.specs.UsedTexts as used
use Rattle.joined_deals.specs.DealTexts.{JoinedTold}
use Rattle.joined_deals.specs.Signed.{unsigned_of, unsigned_in}
use Rattle.joined_deals.specs.Agents.{AgentTold, is_of_id, deal_joined, HasKeys, IsOpenedAgain}
use Rattle.joined_deals.proofs.Elements.{in_front, each_of, found_in, old_or_last}
use Rattle.agent_core.specs.AgentTables.{form_tab, deal_tab, form_key, identity_of, form_text, kept_text, kept_at, StandsFor, IsOwn, AreOwn, IsState}
use Rattle.agent_core.specs.AgentRows.{form_in, said_by, form_said, named_if, row_of, IsRowOf, IsNoRow, IsShort, IsUnfit, IsDealAmiss, LacksDeal, LacksItsForm, LacksForm}
use Rattle.agent_core.specs.AgentOpens.{IsAgentOf, account_for}
use Rattle.agent_core.proofs.Apart.{AreApart, sum_of_part, deals_apart}
use Rattle.agent_core.proofs.KeptDeals.{one_own}
use Rattle.agent_core.proofs.Opening.{in_map}

-- ---- the row that names the agent

reads_form : (house account : Id) → form_in (form_text house account) ≡ Some (identity_of house account)
reads_form house account =
    let wide = length-sha256 (house.0 ++ account.0) in
    let long : length (form_text house account) ≡ 34 = omega (arith, wide) in
    ap (λ (n : ℕ). if (n == 34) && true then Some (identity_of house account) else None) long

pub says : (tables : Tables) (house account : Id) → get tables (form_tab, form_key) ≡ Some (form_text house account) → form_said tables ≡ named_if (identity_of house account) true
says tables house account there = ap said_by there ∙ ap (λ (o : Option Id). option_map Some o) (reads_form house account)

-- ---- deals of one map

some_kept : (o : Option JoinedTold) (val : List ℕ) → option_map kept_text o ≡ Some val → (joined : JoinedTold) × (o ≡ Some joined) × (kept_text joined ≡ val)
some_kept None val e = absurd (let s : None ≡ Some val = e in cc)
some_kept (Some joined) val e = (joined, refl, (let s : Some (kept_text joined) ≡ Some val = e in cc))

module _ (tables : Tables) (agent : AgentTold) (state : IsState tables agent) where
  -- an own deal that stands in the map is joined
  pub joined_there : (joined : JoinedTold) → IsOwn agent.house agent.account joined → get tables (deal_tab, joined.deal.id.0) ≡ Some (kept_text joined) → Contains agent.joined joined
  joined_there joined own there =
      let k = some_kept (deal_joined agent.joined joined.deal.id) (kept_text joined) (sym (state.stands.deals joined.deal.id.0) ∙ there) in
      let within : Contains agent.joined k.0 = (found_in (is_of_id joined.deal.id) agent.joined k.0 k.1).0 in
      subst (λ (j : JoinedTold). Contains agent.joined j) (one_own agent.house agent.account k.0 joined (state.own.each k.0 within) own k.2) within

  -- a joined deal stands in the map
  pub there : (joined : JoinedTold) → Contains agent.joined joined → get tables (deal_tab, joined.deal.id.0) ≡ Some (kept_text joined)
  there joined within = state.stands.deals joined.deal.id.0 ∙ ap (λ (o : Option JoinedTold). option_map kept_text o) (state.own.one joined within)

  -- ---- no row is amiss

  no_row : (row : Row) → get tables (deal_tab, row.key) ≡ Some row.val → IsNoRow agent.house agent.account row → ⊥
  no_row row got none =
      let k = some_kept (deal_joined agent.joined (record { 0 = row.key })) row.val (sym (state.stands.deals row.key) ∙ got) in
      let found = found_in (is_of_id (record { 0 = row.key })) agent.joined k.0 k.1 in
      let key : row.key ≡ k.0.deal.id.0 = (bytes_eq-Decides row.key k.0.deal.id.0).0 found.1 in
      none k.0 (state.own.each k.0 found.0, (λ i. record { key = key i; val = sym k.2 i }))

  module _ (deals : List JoinedTold) (behind : List Row) (row : Row) (parted : rows_of deal_tab tables ≡ map row_of deals ++ row ∷ behind) (own : AllByRecursion (IsOwn agent.house agent.account) deals) where
    keys_sorted : (ds : List JoinedTold) (more : List Row) → rows_of deal_tab tables ≡ map row_of ds ++ more → AreApart ds
    keys_sorted ds more is = deals_apart ds more (subst (λ (rows : List Row). IsStrictlySortedBy (slice_cmp nat_cmp) (map (λ (r : Row). r.key) rows)) is (scans_ascend deal_tab tables))

    module _ (joined : JoinedTold) (mine : IsOwn agent.house agent.account joined) (row_is : row ≡ row_of joined) where
      all_parted : rows_of deal_tab tables ≡ map row_of (deals ++ joined ∷ []) ++ behind
      all_parted =
          parted ∙ ap (λ (r : Row). map row_of deals ++ r ∷ behind) row_is
          ∙ sym (append_assoc (map row_of deals) (row_of joined ∷ []) behind)
          ∙ ap (λ (rows : List Row). rows ++ behind) (sym (map-append row_of deals (joined ∷ [])))

      each_own : (d : JoinedTold) → Contains (deals ++ joined ∷ []) d → IsOwn agent.house agent.account d
      each_own d here = elim (old_or_last deals joined d here) [
        | inl old ↦ each_of (IsOwn agent.house agent.account) deals own d old
        | inr is ↦ subst (λ (j : JoinedTold). IsOwn agent.house agent.account j) is mine
      ]

      each_row : (d : JoinedTold) → Contains (deals ++ joined ∷ []) d → Contains (rows_of deal_tab tables) (row_of d)
      each_row d here = subst (λ (rows : List Row). Contains rows (row_of d)) (sym all_parted) (in_front_of (deals ++ joined ∷ []) behind d here)
        where
          in_front_of : (ds : List JoinedTold) (more : List Row) (d : JoinedTold) → Contains ds d → Contains (map row_of ds ++ more) (row_of d)
          in_front_of ds more d here = in_front (map row_of ds) more (row_of d) (in_map row_of ds d here)

      within : (d : JoinedTold) → Contains (deals ++ joined ∷ []) d → Contains agent.joined d
      within d here = joined_there d (each_own d here) ((scans_list_the_map deal_tab (row_of d) tables).0 (each_row d here))

      enough : (left : ℕ) → left + (length agent.signed + unsigned_in agent.signed deals) ≡ agent.size → left < unsigned_of agent.signed joined → ⊥
      enough left left_is short =
          let part = sum_of_part (unsigned_of agent.signed) (deals ++ joined ∷ []) agent.joined (keys_sorted (deals ++ joined ∷ []) behind all_parted) within in
          let both = sum_by-append (unsigned_of agent.signed) deals (joined ∷ []) in
          omega (arith, part, both, left_is, short, state.keys)

    pub none_unfit : (left : ℕ) → left + (length agent.signed + unsigned_in agent.signed deals) ≡ agent.size → get tables (deal_tab, row.key) ≡ Some row.val → IsUnfit agent.house agent.account agent.signed left row → ⊥
    none_unfit left left_is got (inl none) = no_row row got none
    none_unfit left left_is got (inr s) = enough s.joined s.of.0 s.of.1 left left_is s.short

  pub none_lacks : (tab : ℕ) (row : Row) → get tables (tab, row.key) ≡ Some row.val → LacksForm agent.house agent.account agent.size (Some tables) tab row → ⊥
  none_lacks tab row got (inl (is_tab, is_key, none)) =
      let at : get tables (form_tab, form_key) ≡ Some row.val = subst (λ (t : ℕ). get tables (t, form_key) ≡ Some row.val) is_tab (subst (λ (k : List ℕ). get tables (tab, k) ≡ Some row.val) is_key got) in
      let val : row.val ≡ form_text agent.house agent.account = (let e : Some row.val ≡ Some (form_text agent.house agent.account) = sym at ∙ state.stands.form in cc) in
      (let e : None ≡ Some (identity_of agent.house agent.account) = sym none ∙ (ap form_in val ∙ reads_form agent.house agent.account) in absurd cc)
  none_lacks tab row got (inr (free, inl (is_tab, rows, lists, first))) = none_amiss tables agent.signed agent.size row state.stands.used (omega (arith, state.keys)) (refl, rows, lists, first)
  none_lacks tab row got (inr (free, inr (is_tab, l))) =
      let same : l.signed ≡ agent.signed = one_list tables l.signed agent.signed l.signs state.stands.used in
      let amiss : IsDealAmiss agent.house agent.account agent.size agent.signed l.rows row = subst (λ (ts : List (List ℕ)). IsDealAmiss agent.house agent.account agent.size ts l.rows row) same l.amiss in
      let here : get tables (deal_tab, row.key) ≡ Some row.val = subst (λ (t : ℕ). get tables (t, row.key) ≡ Some row.val) is_tab got in
      none_unfit amiss.deals amiss.behind row (sym l.lists ∙ amiss.parted) amiss.own amiss.left amiss.left_is here amiss.amiss

-- ---- the agent again

module _ (tables : Tables) (agent next : AgentTold) (state : IsState tables agent) (again : IsState tables next) (account : agent.account ≡ next.account) (size : agent.size ≡ next.size) (house : agent.house ≡ next.house) where
  forth : (joined : JoinedTold) → Contains agent.joined joined → Contains next.joined joined
  forth joined within =
      joined_there tables next again joined
      (subst (λ (h : Id). IsOwn h next.account joined) house (subst (λ (a : Id). IsOwn agent.house a joined) account (state.own.each joined within)))
      (there tables agent state joined within)

  back : (joined : JoinedTold) → Contains next.joined joined → Contains agent.joined joined
  back joined within =
      joined_there tables agent state joined
      (subst (λ (h : Id). IsOwn h agent.account joined) (sym house) (subst (λ (a : Id). IsOwn next.house a joined) (sym account) (again.own.each joined within)))
      (there tables next again joined within)

  pub opened_again : next.heard ≡ [] → IsOpenedAgain agent next
  opened_again heard = record {
    next_is = λ i. record {
      account = sym account i;
      size = sym size i;
      house = sym house i;
      joined = next.joined;
      signed = one_list tables next.signed agent.signed again.stands.used state.stands.used i;
      heard = heard i;
    };
    deals = λ joined. (forth joined, back joined);
    keys = again.keys;
  }
