-- What an agent does that signs a text of a joined deal.
use Rattle.std.proofs.Common.{◌≡◌, ℕ, ◌+◌, ◌<◌, ◌≤◌, ◌^◌, Bool, true, false, cond, ◌||◌, if◌then◌else◌, List, [], ◌∷◌, ◌++◌, length, Option, Some, None, is_some, is_none, IfOk, IfErr, Result, Ok, Err, OnOk, OnErr, refl, sym, ap, subst, ◌∙◌, arith}
use Rattle.std.specs.Int.{w32, to_be_bytes}
use Rattle.std.specs.List.{Contains, list_any, position_from}
use Rattle.std.specs.Option.{option_map, option_and_then}
use Rattle.std.specs.Str.{bytes_eq}
use Rattle.std.specs.Ordering.{eq_by_cmp}
use Rattle.std.specs.FinMap.{get, insert, get-insert}
use Rattle.dh_base.specs.declared.id.Id.{Id}
use Rattle.keeper_core.specs.declared.change.Change.{Change}
use Rattle.keeper_core.specs.declared.change.Change.TheVariants.{Put}
use Rattle.keeper_core.specs.Tables.{Cell, cell_cmp, Tables}
use Rattle.keeper_core.specs.Batches.{after_change}
use Rattle.keeper_core.specs.Knowing.{Known}
use Rattle.keeper_core.specs.Leaving.{ended, after_batches, Leaves}
use Rattle.keeper_core.specs.NumberedRows.{IsNumbered}
use Rattle.keeper_core.specs.Stepping.{AtMostOne}
use Rattle.keeper_core.proofs.Numbered.{cells_total}
use Rattle.keeper_core.proofs.NumberedOn.{numbers_on}
use Rattle.key_ring.specs.declared.envelope.Envelope.{Envelope}
use Rattle.key_ring.specs.declared.key_spec.KeySpec.{KeySpec}
use Rattle.key_ring.specs.Signers.{SignerTold, signer_account, key_of, key_for, envelope_by, with_text as with_key, after_signing}
use Rattle.key_ring.specs.UsedTexts.{IsBacked, kept_change, batches_for}
use Rattle.key_ring.specs.UsedTexts as used
use Rattle.joined_deals.specs.DealTexts.{JoinedTold, texts_of}
use Rattle.joined_deals.specs.declared.agent_fault.AgentFault.{AgentFault}
use Rattle.joined_deals.specs.declared.agent_fault.AgentFault.TheVariants.{NotJoined}
use Rattle.joined_deals.specs.AgentFaults.{of_agent_fault}
use Rattle.joined_deals.specs.Signed.{is_signed}
use Rattle.joined_deals.specs.Agents.{AgentTold, is_of_id, deal_joined, HasKeys, with_signed}
use Rattle.joined_deals.specs.AgentCalls.{IsStoreOnly, if_joined, with_text, signed_if}
use Rattle.joined_deals.proofs.Counted.{keys_with_signed, has_key}
use Rattle.joined_deals.proofs.Elements.{found_in}
use Rattle.agent_core.specs.declared.state.AgentState.{AgentState}
use Rattle.agent_core.specs.declared.wanted.Wanted.{Wanted}
use Rattle.agent_core.specs.WantedTexts.{wanted_text, wanted_in, wanted_refusal}
use Rattle.agent_core.specs.AgentSeen.{AgentSeen, agent_in, seen_in, KeepsUp, signer_of, envelope_for}
use Rattle.agent_core.specs.AgentTables.{form_tab, deal_tab, StandsFor, AreOwn, IsState}
use Rattle.agent_core.specs.AgentDoes.{Does, Gives, batches_if, IsEnvelope}
use Rattle.agent_core.proofs.Doing.{does, in_place}
use Rattle.agent_core.proofs.Wanting.{is_text_of}

-- ---- which texts are signed, told in two ways

signed_from : (texts : List (List ℕ)) (text : List ℕ) (i : ℕ) → list_any (λ other. bytes_eq other text) texts ≡ is_some (position_from (λ signed. bytes_eq signed text) i texts)
signed_from [] text i = refl
signed_from (first ∷ texts) text i = go (bytes_eq first text) (list_any (λ other. bytes_eq other text) texts) (position_from (λ signed. bytes_eq signed text) (i + 1) texts) (signed_from texts text (i + 1))
  where
    go : (b any : Bool) (later : Option ℕ) → any ≡ is_some later → b || any ≡ is_some (cond b (Some i) later)
    go true any later same = refl
    go false any later same = same

pub signed_key : (signer : SignerTold) (text : List ℕ) → is_signed signer.texts text ≡ is_some (key_of signer text)
signed_key signer text = signed_from signer.texts text 0

pub unsigned : (signer : SignerTold) (text : List ℕ) → key_of signer text ≡ None → is_signed signer.texts text ≡ false
unsigned signer text none = signed_key signer text ∙ ap (λ (o : Option ℕ). is_some o) none

-- ---- tables

-- a row that is put
pub put_at : (tab : ℕ) (key val : List ℕ) (tables : Tables) (cell : Cell) → get (after_change (Put tab key val) tables) cell ≡ cond (eq_by_cmp cell_cmp cell (tab, key)) (Some val) (get tables cell)
put_at tab key val tables cell = get-insert cells_total tables (tab, key) val cell

module _ (spec : KeySpec) (tables : Tables) (agent : AgentTold) (text : List ℕ) (state : IsState tables agent) (small : length agent.signed < 2 ^ 32) where
  abbrev signer : SignerTold
  signer = record { spec = spec; texts = agent.signed }

  abbrev batches : Bool → List (List Change)
  batches signed = if signed then [] else (kept_change signer text ∷ []) ∷ []

  abbrev later : Bool → AgentTold
  later signed = if signed then agent else with_signed agent text

  by : (signed : Bool) → HasKeys (later signed) → IsState (after_batches (batches signed) tables) (later signed)
  by true keys = state
  by false keys = record {
    stands = record {
      form = put_at used.used_tab (to_be_bytes w32 (length agent.signed)) text tables (form_tab, _) ∙ state.stands.form;
      used = subst (λ (n : ℕ). IsNumbered w32 used.used_tab 0 (agent.signed ++ text ∷ []) (insert tables (used.used_tab, to_be_bytes w32 n) text)) (omega arith)
          (numbers_on w32 used.used_tab 0 agent.signed text tables state.stands.used (omega (arith, small)));
      deals = λ key. put_at used.used_tab (to_be_bytes w32 (length agent.signed)) text tables (deal_tab, key) ∙ state.stands.deals key;
    };
    own = state.own;
    keys = keys;
  }

  -- behind a text that is signed
  pub state_signed : HasKeys (with_text agent text) → IsState (after_batches (batches_for signer text) tables) (with_text agent text)
  state_signed keys =
      let same = signed_key signer text in
      subst (λ (signed : Bool). IsState (after_batches (batches_for signer text) tables) (later signed)) (sym same)
      (by (is_some (key_of signer text)) (subst (λ (signed : Bool). HasKeys (later signed)) same keys))

-- ---- keys

pub keys_signed : (agent : AgentTold) (text : List ℕ) (joined : JoinedTold) → HasKeys agent → Contains agent.joined joined → Contains (texts_of joined) text → HasKeys (with_text agent text)
keys_signed agent text joined keys within here = go (is_signed agent.signed text) refl
  where
    go : (signed : Bool) → is_signed agent.signed text ≡ signed → HasKeys (if signed then agent else with_signed agent text)
    go true is = keys
    go false is = keys_with_signed agent text joined keys is within here

module _ (state : AgentState) (deal : Id) (wanted : Wanted) (joined : JoinedTold) (text : List ℕ) (keys : HasKeys (agent_in state)) (found : deal_joined state.deals.items deal ≡ Some joined) (is : wanted_text wanted joined ≡ Some text) where
  within : Contains state.deals.items joined
  within = (found_in (is_of_id deal) state.deals.items joined found).0

  here : Contains (texts_of joined) text
  here = is_text_of wanted joined text is

  -- a text that is not signed has a key
  pub room : key_of state.signer text ≡ None → length state.signer.texts < state.signer.spec.size
  room none = has_key (agent_in state) text joined keys (unsigned state.signer text none) within here

  pub keys_then : HasKeys (with_text (agent_in state) text)
  keys_then = keys_signed (agent_in state) text joined keys within here

  module _ {K : Type 0} (keeper later : K) (signer : SignerTold) (before after : Known) (small : length state.signer.texts < 2 ^ 32) where
    abbrev seen : AgentSeen K
    seen = seen_in keeper state

    abbrev now : AgentSeen K
    now = seen_in later (record state { signer = signer })

    text_is : wanted_in (agent_in state) deal wanted ≡ Some text
    text_is = ap (λ (o : Option JoinedTold). option_and_then (wanted_text wanted) o) found ∙ is

    free : wanted_refusal (agent_in state) deal wanted ≡ None
    free =
        ap (λ (o : Option JoinedTold). if_joined o (λ j. if is_none (wanted_text wanted j) then Some NotJoined else None)) found
        ∙ ap (λ (o : Option (List ℕ)). if is_none o then Some NotJoined else None) is

    few : (signed : Bool) → AtMostOne (if signed then [] else (kept_change state.signer text ∷ []) ∷ [])
    few true = tt
    few false = tt

    moved_by : (signed : Bool) → seen_in later (record state { signer = if signed then state.signer else with_key state.signer text }) ≡ record seen { keeper = later; agent = if signed then agent_in state else with_signed (agent_in state) text }
    moved_by true = refl
    moved_by false = refl

    moved : signer ≡ after_signing state.signer text → now ≡ record seen { keeper = later; agent = with_text (agent_in state) text }
    moved signed =
        ap (λ (s : SignerTold). seen_in later (record state { signer = s })) signed
        ∙ subst (λ (b : Bool). seen_in later (record state { signer = after_signing state.signer text }) ≡ record seen { keeper = later; agent = if b then agent_in state else with_signed (agent_in state) text }) (sym (signed_key state.signer text)) (moved_by (is_some (key_of state.signer text)))

    abbrev IsGiven : Result Envelope AgentFault → Type 0
    IsGiven result = Gives None (IsEnvelope seen (Some text)) (Some text) seen now result before after

    onward : (tables : Tables) → IsState tables (agent_in state) → ◌≡◌ {A = Option AgentFault} None None → IsState (after_batches (batches_for state.signer text) tables) (with_text (agent_in state) text)
    onward tables stands none = state_signed state.signer.spec tables (agent_in state) text stands small keys_then

    given : (result : Result Envelope AgentFault) → IfOk result (λ env. env ≡ envelope_by state.signer (key_for state.signer text) text) → OnOk result (signer ≡ after_signing state.signer text) → OnErr result (signer ≡ state.signer) → Leaves (batches_for state.signer text) (ended of_agent_fault result) before after → IfErr result IsStoreOnly → IsGiven result
    given (Ok env) made signed same leaves only =
        does None (IsEnvelope seen (Some text)) (signed_if (agent_in state) (Some text)) (batches_if seen (Some text)) seen now before after (few (is_some (key_of state.signer text))) onward (Ok env) (refl, ap Some made) (moved signed) tt leaves
    given (Err fault) made signed same leaves only =
        does None (IsEnvelope seen (Some text)) (signed_if (agent_in state) (Some text)) (batches_if seen (Some text)) seen now before after (few (is_some (key_of state.signer text))) onward (Err fault) (in_place None fault only) tt (ap (λ (s : SignerTold). seen_in later (record state { signer = s })) same) leaves

    -- what the call gives
    pub gives : (result : Result Envelope AgentFault) → IfOk result (λ env. env ≡ envelope_by state.signer (key_for state.signer text) text) → OnOk result (signer ≡ after_signing state.signer text) → OnErr result (signer ≡ state.signer) → Leaves (batches_for state.signer text) (ended of_agent_fault result) before after → IfErr result IsStoreOnly
        → Gives (wanted_refusal (agent_in state) deal wanted) (IsEnvelope seen (wanted_in (agent_in state) deal wanted)) (wanted_in (agent_in state) deal wanted) seen now result before after
    gives result made signed same leaves only =
        subst (λ (refusal : Option AgentFault). Gives refusal (IsEnvelope seen (wanted_in (agent_in state) deal wanted)) (wanted_in (agent_in state) deal wanted) seen now result before after) (sym free)
        (subst (λ (t : Option (List ℕ)). Gives None (IsEnvelope seen t) t seen now result before after) (sym text_is) (given result made signed same leaves only))

    -- what is kept to
    same_ring : (signed : Bool) → signer_account (if signed then state.signer else with_key state.signer text) ≡ signer_account state.signer
    same_ring true = refl
    same_ring false = refl

    keys_by : (signed : Bool) → is_signed state.signer.texts text ≡ signed → HasKeys (agent_in (record state { signer = if signed then state.signer else with_key state.signer text }))
    keys_by true e = keys
    keys_by false e = keys_with_signed (agent_in state) text joined keys e within here

    pub keeps : (result : Result Envelope AgentFault) → KeepsUp before state → OnOk result (signer ≡ after_signing state.signer text) → OnErr result (signer ≡ state.signer) → IsBacked after signer.texts → KeepsUp after (record state { signer = signer })
    keeps (Ok env) kept signed same backed = record {
      backed = backed;
      account = kept.account ∙ sym (ap (λ (s : SignerTold). signer_account s) signed ∙ same_ring (is_some (key_of state.signer text)));
      keys = subst (λ (s : SignerTold). HasKeys (agent_in (record state { signer = s }))) (sym signed) (keys_by (is_some (key_of state.signer text)) (signed_key state.signer text));
    }
    keeps (Err fault) kept signed same backed = record {
      backed = backed;
      account = kept.account ∙ sym (ap (λ (s : SignerTold). signer_account s) same);
      keys = subst (λ (s : SignerTold). HasKeys (agent_in (record state { signer = s }))) (sym same) keys;
    }
