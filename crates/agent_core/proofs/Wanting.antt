-- Texts of a joined deal that are wanted.
use Rattle.std.proofs.Common.{◌≡◌, ℕ, zero, suc, ◌+◌, ◌<◌, ◌≤◌, Bool, true, false, cond, nat_lt, if◌then◌else◌, List, [], ◌∷◌, ◌++◌, map, length, slice_get, Option, Some, None, is_none, refl, sym, ap, subst, ◌∙◌, arith}
use Rattle.std.specs.List.{Contains, prefix_len}
use Rattle.std.specs.Option.{option_map, option_and_then}
use Rattle.std.proofs.lemmas.Bool.{ltb-true}
use Rattle.std.proofs.lemmas.Option.{slice_get-map}
use Rattle.dh_base.specs.declared.id.Id.{Id}
use Rattle.dh_base.specs.declared.outcome.Outcome.TheVariants.{Commit, Abort}
use Rattle.clear_core.specs.declared.plan_act.PlanAct.{PlanAct}
use Rattle.joined_deals.specs.DealTexts.{JoinedTold, planned_text, plan_of_deal, plan_texts, start_text, vote_text, texts_of}
use Rattle.joined_deals.specs.declared.agent_fault.AgentFault.{AgentFault}
use Rattle.joined_deals.specs.declared.agent_fault.AgentFault.TheVariants.{NotJoined, NotIssued}
use Rattle.joined_deals.specs.Signed.{is_signed, issued_of}
use Rattle.joined_deals.specs.Agents.{AgentTold, deal_joined}
use Rattle.joined_deals.specs.AgentCalls.{if_joined, refusal_in, unjoined, again_refusal, next_text, next_in, is_waiting, tick_in, vote_in}
use Rattle.joined_deals.proofs.Elements.{stands_in}
use Rattle.joined_deals.proofs.TextsApart.{has_start, has_vote, has_act}
use Rattle.agent_core.specs.declared.state.Due.{Due}
use Rattle.agent_core.specs.declared.wanted.Wanted.{Wanted}
use Rattle.agent_core.specs.declared.wanted.Wanted.TheVariants.{Act, Start, Vote}
use Rattle.agent_core.specs.WantedTexts.{wanted_text, wanted_in, wanted_refusal}
use Rattle.agent_core.specs.AgentSeen.{act_in, IsDue}

-- a wanted text is one of the deal's
pub is_text_of : (wanted : Wanted) (joined : JoinedTold) (text : List ℕ) → wanted_text wanted joined ≡ Some text → Contains (texts_of joined) text
is_text_of (Act k) joined text is = has_act joined text (stands_in (plan_texts joined) k text is)
is_text_of Start joined text is = (let e : Some (start_text joined) ≡ Some text = is in let same : start_text joined ≡ text = cc in subst (λ (t : List ℕ). Contains (texts_of joined) t) same (has_start joined))
is_text_of (Vote choice) joined text is = (let e : Some (vote_text joined choice) ≡ Some text = is in let same : vote_text joined choice ≡ text = cc in subst (λ (t : List ℕ). Contains (texts_of joined) t) same (has_vote joined choice))

-- where a text is wanted that there is, nothing refuses it
pub wanted_free : (agent : AgentTold) (deal : Id) (wanted : Wanted) (text : List ℕ) → wanted_in agent deal wanted ≡ Some text → wanted_refusal agent deal wanted ≡ None
wanted_free agent deal wanted text = go (deal_joined agent.joined deal)
  where
    go : (o : Option JoinedTold) → option_and_then (wanted_text wanted) o ≡ Some text → if_joined o (λ j. if is_none (wanted_text wanted j) then Some NotJoined else None) ≡ None
    go None is = absurd (let e : None ≡ Some text = is in cc)
    go (Some joined) is = ap (λ (o : Option (List ℕ)). if is_none o then Some NotJoined else None) is

-- a deal in which nothing is refused is joined
pub is_joined : (agent : AgentTold) (deal : Id) (refusal : JoinedTold → Option AgentFault) → refusal_in agent deal refusal ≡ None → unjoined agent deal ≡ None
is_joined agent deal refusal = go (deal_joined agent.joined deal)
  where
    go : (o : Option JoinedTold) → if_joined o refusal ≡ None → if_joined o (λ j. None) ≡ None
    go None is = absurd (let e : Some NotJoined ≡ None = is in cc)
    go (Some joined) is = refl

-- ---- the next act

pub is_due : (agent : AgentTold) (deal : Id) (joined : JoinedTold) (due : Due) → deal_joined agent.joined deal ≡ Some joined → due.place ≡ issued_of agent.signed joined → slice_get (plan_of_deal joined) due.place ≡ Some due.act → IsDue agent deal due
is_due agent deal joined due found place there =
    let text : slice_get (plan_texts joined) due.place ≡ Some (planned_text joined.deal due.act) = slice_get-map (planned_text joined.deal) (plan_of_deal joined) due.place ∙ ap (λ (o : Option PlanAct). option_map (planned_text joined.deal) o) there in
    record {
      act = ap (λ (o : Option JoinedTold). option_and_then (λ (j : JoinedTold). slice_get (plan_of_deal j) (issued_of agent.signed j)) o) found ∙ (ap (λ (n : ℕ). slice_get (plan_of_deal joined) n) (sym place) ∙ there);
      text = planned_text joined.deal due.act;
      wanted = ap (λ (o : Option JoinedTold). option_and_then (wanted_text (Act due.place)) o) found ∙ text;
      next = ap (λ (o : Option JoinedTold). option_and_then (next_text agent) o) found ∙ (ap (λ (n : ℕ). slice_get (plan_texts joined) n) (sym place) ∙ text);
    }

-- all acts are signed
pub none_due : (agent : AgentTold) (deal : Id) (joined : JoinedTold) (place : ℕ) → deal_joined agent.joined deal ≡ Some joined → place ≡ issued_of agent.signed joined → slice_get (plan_of_deal joined) place ≡ None → next_in agent deal ≡ None
none_due agent deal joined place found is none =
    ap (λ (o : Option JoinedTold). option_and_then (next_text agent) o) found
    ∙ (ap (λ (n : ℕ). slice_get (plan_texts joined) n) (sym is) ∙ (slice_get-map (planned_text joined.deal) (plan_of_deal joined) place ∙ ap (λ (o : Option PlanAct). option_map (planned_text joined.deal) o) none))

pub unjoined_next : (agent : AgentTold) (deal : Id) → deal_joined agent.joined deal ≡ None → next_in agent deal ≡ None
unjoined_next agent deal none = ap (λ (o : Option JoinedTold). option_and_then (next_text agent) o) none

-- ---- an act that is signed

-- what stands in the front part of a list passes the test
front_passes : {X : Type 0} (test : X → Bool) (xs : List X) (k : ℕ) → k < prefix_len test xs → (x : X) × (slice_get xs k ≡ Some x) × (test x ≡ true)
front_passes test [] k h = absurd (omega (arith, h))
front_passes test (x ∷ xs) k h = go (test x) refl k h (front_passes test xs)
  where
    go : (b : Bool) → test x ≡ b → (k : ℕ) → k < cond b (1 + prefix_len test xs) 0 → ((j : ℕ) → j < prefix_len test xs → (y : _) × (slice_get xs j ≡ Some y) × (test y ≡ true)) → (y : _) × (slice_get (x ∷ xs) k ≡ Some y) × (test y ≡ true)
    go true is zero h rest = (x, refl, is)
    go true is (suc j) h rest = rest j (omega (arith, h))
    go false is k h rest = absurd (omega (arith, h))

abbrev pub IsGivenBefore : AgentTold → Id → ℕ → Type 0
IsGivenBefore agent deal k = (text : List ℕ) × (wanted_in agent deal (Act k) ≡ Some text) × (is_signed agent.signed text ≡ true)

pub given_before : (agent : AgentTold) (deal : Id) (k : ℕ) → again_refusal agent deal k ≡ None → IsGivenBefore agent deal k
given_before agent deal k = go (deal_joined agent.joined deal)
  where
    issued : (b : Bool) (n : ℕ) → (if b then None else Some (NotIssued n)) ≡ None → b ≡ true
    issued true n e = refl
    issued false n e = absurd (let s : Some (NotIssued n) ≡ None = e in cc)

    go : (o : Option JoinedTold) → if_joined o (λ (j : JoinedTold). if nat_lt k (issued_of agent.signed j) then None else Some (NotIssued (issued_of agent.signed j))) ≡ None
        → (text : List ℕ) × (option_and_then (wanted_text (Act k)) o ≡ Some text) × (is_signed agent.signed text ≡ true)
    go None is = absurd (let e : Some NotJoined ≡ None = is in cc)
    go (Some joined) is =
        front_passes (is_signed agent.signed) (plan_texts joined) k
        (ltb-true k (issued_of agent.signed joined) (issued (nat_lt k (issued_of agent.signed joined)) (issued_of agent.signed joined) is))

-- ---- the deadline

pub waits : (agent : AgentTold) (deal : Id) (now : ℕ) (b : Bool) → option_map (λ (j : JoinedTold). is_waiting agent j now) (deal_joined agent.joined deal) ≡ Some b → (unjoined agent deal ≡ None) × (tick_in agent deal now ≡ (if b then None else vote_in agent deal Abort))
waits agent deal now b = go (deal_joined agent.joined deal)
  where
    told : (joined : JoinedTold) (w c : Bool) → Some w ≡ Some c → (if w then None else Some (vote_text joined Abort)) ≡ (if c then None else Some (vote_text joined Abort))
    told joined w c e = (let same : w ≡ c = cc in ap (λ (x : Bool). if x then None else Some (vote_text joined Abort)) same)

    go : (o : Option JoinedTold) → option_map (λ (j : JoinedTold). is_waiting agent j now) o ≡ Some b
        → (if_joined o (λ j. None) ≡ None) × (option_and_then (λ (j : JoinedTold). if is_waiting agent j now then None else Some (vote_text j Abort)) o ≡ (if b then None else option_and_then (λ (j : JoinedTold). Some (vote_text j Abort)) o))
    go None is = absurd (let e : None ≡ Some b = is in cc)
    go (Some joined) is = (refl, told joined (is_waiting agent joined now) b is)

pub not_joined : (agent : AgentTold) (deal : Id) (test : JoinedTold → Bool) → option_map test (deal_joined agent.joined deal) ≡ None → unjoined agent deal ≡ Some NotJoined
not_joined agent deal test = go (deal_joined agent.joined deal)
  where
    go : (o : Option JoinedTold) → option_map test o ≡ None → if_joined o (λ j. None) ≡ Some NotJoined
    go None is = refl
    go (Some joined) is = absurd (let e : Some (test joined) ≡ None = is in cc)
