-- What an agent does that joins a deal.
use Rattle.std.proofs.Common.{◌≡◌, ◌⊎◌, inl, inr, ℕ, ◌+◌, ◌<◌, ◌≤◌, ◌^◌, Bool, true, false, cond, not, if◌then◌else◌, List, [], ◌∷◌, ◌++◌, length, Option, Some, None, is_some, is_none, IfOk, IfErr, Result, Ok, Err, OnOk, OnErr, refl, sym, ap, subst, ◌∙◌, arith}
use Rattle.std.specs.List.{Contains, find}
use Rattle.std.specs.Option.{option_map, option_or}
use Rattle.std.specs.declared.vec.Vec.{Vec}
use Rattle.std.specs.declared.alloc.Global.{Global}
use Rattle.std.specs.Ordering.{eq_by_cmp}
use Rattle.std.specs.FinMap.{get}
use Rattle.std.proofs.lemmas.Bool.{cases_Bool}
use Rattle.std.proofs.lemmas.Slice.Eq.{bytes_eq-Decides}
use Rattle.dh_base.specs.declared.id.Id.{Id}
use Rattle.dh_base.specs.Ids.{same_id}
use Rattle.dh_base.proofs.SameIds.{same_id-self}
use Rattle.clear_core.specs.declared.terms.Terms.{Terms}
use Rattle.deal_core.specs.Deals.{index_of_account}
use Rattle.deal_core.specs.Reading.{IsTextOf}
use Rattle.keeper_core.specs.Tables.{Cell, cell_cmp, Tables}
use Rattle.keeper_core.specs.Batches.{after_change, after_batch}
use Rattle.keeper_core.specs.Knowing.{Known}
use Rattle.keeper_core.specs.Leaving.{ended, after_batches, failed, Leaves}
use Rattle.keeper_core.proofs.Batched.{at_itself}
use Rattle.keeper_core.proofs.Numbered.{exact_cells, equal_of}
use Rattle.keeper_core.proofs.OtherTables.{other_tables_stay}
use Rattle.key_ring.specs.UsedTexts as used
use Rattle.key_ring.specs.Signers.{signer_account}
use Rattle.joined_deals.specs.DealTexts.{JoinedTold}
use Rattle.joined_deals.specs.declared.agent_fault.AgentFault.{AgentFault}
use Rattle.joined_deals.specs.declared.agent_fault.AgentFault.TheVariants as fault
use Rattle.joined_deals.specs.AgentFaults.{of_agent_fault}
use Rattle.joined_deals.specs.Agents.{AgentTold, is_of_id, deal_joined, HasKeys, with_deal}
use Rattle.joined_deals.specs.AgentCalls.{early_refusal, IsStoreOnly, IsJoinFault, IsJoinable}
use Rattle.joined_deals.proofs.Counted.{keys_with_deal}
use Rattle.joined_deals.proofs.Elements.{old_or_last}
use Rattle.joined_deals.proofs.Validating.{passes, not_false}
use Rattle.agent_core.specs.declared.state.AgentState.{AgentState}
use Rattle.agent_core.specs.AgentSeen.{AgentSeen, agent_in, seen_in, KeepsUp}
use Rattle.agent_core.specs.AgentTables.{form_tab, deal_tab, kept_text, kept_at, StandsFor, IsOwn, AreOwn, IsState, deal_changes}
use Rattle.agent_core.specs.AgentDoes.{Does, JoinsDeal, RefusesDeal, JoinsOrNot}
use Rattle.agent_core.proofs.Doing.{does, in_place}
use Rattle.agent_core.proofs.Signed.{put_at}
use Rattle.agent_core.proofs.Backing.{still_backed}

-- ---- finding among one deal more

find_more : {X : Type 0} (test : X → Bool) (xs : List X) (y : X) → find test (xs ++ y ∷ []) ≡ option_or (find test xs) (cond (test y) (Some y) None)
find_more test [] y = refl
find_more test (x ∷ xs) y = go (test x) (find_more test xs y)
  where
    go : (b : Bool) → find test (xs ++ y ∷ []) ≡ option_or (find test xs) (cond (test y) (Some y) None) → cond b (Some x) (find test (xs ++ y ∷ [])) ≡ option_or (cond b (Some x) (find test xs)) (cond (test y) (Some y) None)
    go true rest = refl
    go false rest = rest

or_none : (o : Option JoinedTold) → option_map kept_text (option_or o None) ≡ option_map kept_text o
or_none None = refl
or_none (Some j) = refl

same_key : (a b : List ℕ) → eq_by_cmp cell_cmp (deal_tab, a) (deal_tab, b) ≡ true → a ≡ b
same_key a b same = (let cell = exact_cells (deal_tab, a) (deal_tab, b) (equal_of _ same) in ap (λ (c : Cell). c.1) cell)

other_key : (a b : List ℕ) → same_id (record { 0 = a }) (record { 0 = b }) ≡ false → eq_by_cmp cell_cmp (deal_tab, a) (deal_tab, b) ≡ false
other_key a b differ = elim (cases_Bool (eq_by_cmp cell_cmp (deal_tab, a) (deal_tab, b))) [
  | inl same ↦ (let yes : true ≡ false = sym ((bytes_eq-Decides a b).1 (same_key a b same)) ∙ differ in absurd cc)
  | inr other ↦ other
]

module _ (tables : Tables) (agent : AgentTold) (joined : JoinedTold) (state : IsState tables agent) (fresh : deal_joined agent.joined joined.deal.id ≡ None) (own : IsOwn agent.house agent.account joined) (keys : HasKeys (with_deal agent joined)) where
  abbrev later : Tables
  later = after_batch (deal_changes joined) tables

  -- what stands under a key then
  at_key : (key : List ℕ) → get later (deal_tab, key) ≡ kept_at (agent.joined ++ joined ∷ []) key
  at_key key = put_at deal_tab joined.deal.id.0 (kept_text joined) tables (deal_tab, key) ∙ sym (ap (option_map kept_text) (find_more (is_of_id (record { 0 = key })) agent.joined joined) ∙ go (cases_Bool (same_id (record { 0 = key }) joined.deal.id)))
    where
      go : (same_id (record { 0 = key }) joined.deal.id ≡ true) ⊎ (same_id (record { 0 = key }) joined.deal.id ≡ false)
          → option_map kept_text (option_or (deal_joined agent.joined (record { 0 = key })) (cond (same_id (record { 0 = key }) joined.deal.id) (Some joined) None))
          ≡ cond (eq_by_cmp cell_cmp (deal_tab, key) (deal_tab, joined.deal.id.0)) (Some (kept_text joined)) (get tables (deal_tab, key))
      go (inl same) =
          let key_is : key ≡ joined.deal.id.0 = (bytes_eq-Decides key joined.deal.id.0).0 same in
          subst (λ (k : List ℕ). option_map kept_text (option_or (deal_joined agent.joined (record { 0 = k })) (cond (same_id (record { 0 = k }) joined.deal.id) (Some joined) None)) ≡ cond (eq_by_cmp cell_cmp (deal_tab, k) (deal_tab, joined.deal.id.0)) (Some (kept_text joined)) (get tables (deal_tab, k))) (sym key_is)
          (ap (λ (o : Option JoinedTold). option_map kept_text (option_or o (cond (same_id joined.deal.id joined.deal.id) (Some joined) None))) fresh
          ∙ ap (λ (b : Bool). option_map kept_text (cond b (Some joined) None)) (same_id-self joined.deal.id)
          ∙ sym (ap (λ (b : Bool). cond b (Some (kept_text joined)) (get tables (deal_tab, joined.deal.id.0))) (at_itself (deal_tab, joined.deal.id.0))))
      go (inr other) =
          ap (λ (b : Bool). option_map kept_text (option_or (deal_joined agent.joined (record { 0 = key })) (cond b (Some joined) None))) other
          ∙ or_none (deal_joined agent.joined (record { 0 = key }))
          ∙ sym (state.stands.deals key)
          ∙ sym (ap (λ (b : Bool). cond b (Some (kept_text joined)) (get tables (deal_tab, key))) (other_key key joined.deal.id.0 other))

  found_last : deal_joined (agent.joined ++ joined ∷ []) joined.deal.id ≡ Some joined
  found_last =
      find_more (is_of_id joined.deal.id) agent.joined joined
      ∙ ap (λ (o : Option JoinedTold). option_or o (cond (same_id joined.deal.id joined.deal.id) (Some joined) None)) fresh
      ∙ ap (λ (b : Bool). cond b (Some joined) None) (same_id-self joined.deal.id)

  found_old : (j : JoinedTold) → deal_joined agent.joined j.deal.id ≡ Some j → deal_joined (agent.joined ++ joined ∷ []) j.deal.id ≡ Some j
  found_old j found = find_more (is_of_id j.deal.id) agent.joined joined ∙ ap (λ (o : Option JoinedTold). option_or o (cond (same_id j.deal.id joined.deal.id) (Some joined) None)) found

  pub state_joined : IsState later (with_deal agent joined)
  state_joined = record {
    stands = record {
      form = put_at deal_tab joined.deal.id.0 (kept_text joined) tables (form_tab, _) ∙ state.stands.form;
      used = other_tables_stay used.used_tab (deal_changes joined) tables ((λ e. omega (arith, e)), tt) ∙ state.stands.used;
      deals = at_key;
    };
    own = record {
      each = λ j there. elim (old_or_last agent.joined joined j there) [
        | inl old ↦ state.own.each j old
        | inr is ↦ subst (λ (k : JoinedTold). IsOwn agent.house agent.account k) is own
      ];
      one = λ j there. elim (old_or_last agent.joined joined j there) [
        | inl old ↦ found_old j (state.own.one j old)
        | inr is ↦ subst (λ (k : JoinedTold). deal_joined (agent.joined ++ joined ∷ []) k.deal.id ≡ Some k) is found_last
      ];
    };
    keys = keys;
  }

-- ---- a deal that may be joined

module _ (agent : AgentTold) (text : List ℕ) (terms : Terms) (joined : JoinedTold) (j : IsJoinable agent text terms joined) where
  first : (not (same_id joined.deal.house agent.house) ≡ false) × ((if is_some (deal_joined agent.joined joined.deal.id) then Some fault.JoinedAlready else if is_none (index_of_account joined.deal.parties agent.account) then Some fault.NotAParty else None) ≡ None)
  first = passes (not (same_id joined.deal.house agent.house)) (fault.OtherHouse joined.deal.house) _ j.offered.free

  none_of : {A : Type 0} (o : Option A) → is_some o ≡ false → o ≡ None
  none_of None e = refl
  none_of (Some x) e = absurd (let s : true ≡ false = e in cc)

  pub is_fresh : deal_joined agent.joined joined.deal.id ≡ None
  is_fresh = none_of (deal_joined agent.joined joined.deal.id) (passes (is_some (deal_joined agent.joined joined.deal.id)) fault.JoinedAlready _ first.1).0

  pub is_own : joined.deadline < 2 ^ 64 → IsOwn agent.house agent.account joined
  is_own small = record {
    read = subst (λ (t : List ℕ). IsTextOf joined.deal t) j.offered.read.spelled j.offered.read;
    small = small;
    housed = ap (λ (bytes : List ℕ). record { 0 = bytes }) ((bytes_eq-Decides joined.deal.house.0 agent.house.0).0 (not_false (same_id joined.deal.house agent.house) first.0));
    party = j.offered.party;
  }

  pub keys_then : HasKeys (with_deal agent joined)
  keys_then = keys_with_deal agent joined j.keys

-- ---- the call

module _ {K : Type 0} (text : List ℕ) (terms : Terms) (keeper later : K) (state : AgentState) (joined : JoinedTold) (deals : Vec JoinedTold Global) (before after : Known) (j : IsJoinable (agent_in state) text terms joined) (small : joined.deadline < 2 ^ 64) where
  abbrev seen : AgentSeen K
  seen = seen_in keeper state

  abbrev now : AgentSeen K
  now = seen_in later (record state { deals = deals })

  onward : (tables : Tables) → IsState tables (agent_in state) → ◌≡◌ {A = Option AgentFault} None None → IsState (after_batches (deal_changes joined ∷ []) tables) (with_deal (agent_in state) joined)
  onward tables stands none = state_joined tables (agent_in state) joined stands (is_fresh (agent_in state) text terms joined j) (is_own (agent_in state) text terms joined j small) (keys_then (agent_in state) text terms joined j)

  moved : deals.items ≡ state.deals.items ++ joined ∷ [] → now ≡ record seen { keeper = later; agent = with_deal (agent_in state) joined }
  moved e = ap (λ (items : List JoinedTold). record seen { keeper = later; agent = record (agent_in state) { joined = items } }) e

  same : deals.items ≡ state.deals.items → now ≡ record seen { keeper = later }
  same e = ap (λ (items : List JoinedTold). record seen { keeper = later; agent = record (agent_in state) { joined = items } }) e

  done_so : (result : Result Id AgentFault) → IfOk result (λ id. id ≡ joined.deal.id) → OnOk result (deals.items ≡ state.deals.items ++ joined ∷ []) → OnErr result (deals.items ≡ state.deals.items) → Leaves (deal_changes joined ∷ []) (ended of_agent_fault result) before after → IfErr result IsStoreOnly
      → Does None (λ id. id ≡ joined.deal.id) (with_deal (agent_in state) joined) (deal_changes joined ∷ []) seen now result before after
  done_so (Ok id) named kept unmoved leaves only = does None (λ x. x ≡ joined.deal.id) (with_deal (agent_in state) joined) (deal_changes joined ∷ []) seen now before after tt onward (Ok id) (refl, named) (moved kept) tt leaves
  done_so (Err f) named kept unmoved leaves only = does None (λ x. x ≡ joined.deal.id) (with_deal (agent_in state) joined) (deal_changes joined ∷ []) seen now before after tt onward (Err f) (in_place None f only) tt (same unmoved) leaves

  pub joins : (result : Result Id AgentFault) → IfOk result (λ id. id ≡ joined.deal.id) → OnOk result (deals.items ≡ state.deals.items ++ joined ∷ []) → OnErr result (deals.items ≡ state.deals.items) → Leaves (deal_changes joined ∷ []) (ended of_agent_fault result) before after → IfErr result IsStoreOnly
      → JoinsOrNot text terms seen now result before after
  joins result named kept unmoved leaves only = inl (record { joined = joined; joinable = j; does = done_so result named kept unmoved leaves only })

  pub keeps : (result : Result Id AgentFault) → KeepsUp before state → OnOk result (deals.items ≡ state.deals.items ++ joined ∷ []) → OnErr result (deals.items ≡ state.deals.items) → Leaves (deal_changes joined ∷ []) (ended of_agent_fault result) before after → KeepsUp after (record state { deals = deals })
  keeps (Ok id) up kept unmoved leaves = record {
    backed = still_backed (deal_changes joined) state.signer.texts ((λ e. omega (arith, e)), tt) (ended {A = Id} of_agent_fault (Ok id)) before after leaves up.backed;
    account = up.account;
    keys = subst (λ (items : List JoinedTold). HasKeys (record (agent_in state) { joined = items })) (sym kept) (keys_then (agent_in state) text terms joined j);
  }
  keeps (Err f) up kept unmoved leaves = record {
    backed = still_backed (deal_changes joined) state.signer.texts ((λ e. omega (arith, e)), tt) (of_agent_fault f) before after leaves up.backed;
    account = up.account;
    keys = subst (λ (items : List JoinedTold). HasKeys (record (agent_in state) { joined = items })) (sym unmoved) up.keys;
  }

-- a deal that is not joined
pub refuses : {K : Type 0} (text : List ℕ) (terms : Terms) (old : AgentSeen K) (f : AgentFault) (known : Known) → IsJoinFault old.agent text terms f → (of_agent_fault f ≡ failed → ⊥) → JoinsOrNot text terms old old (Err f) known known
refuses text terms old f known cause unfailed = inr (record { fault = f; answer = refl; cause = cause; unfailed = unfailed; same = refl })
