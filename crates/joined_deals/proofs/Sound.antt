-- Each step of an agent keeps it sound.
use Rattle.std.proofs.Common.{◌≡◌, ℕ, zero, suc, ◌+◌, ◌<◌, ◌≤◌, ◌⊎◌, inl, inr, Bool, true, false, ◌||◌, List, [], ◌∷◌, ◌++◌, length, slice_get, Option, Some, None, arith, refl, sym, ap, subst, ◌∙◌}
use Rattle.std.specs.List.{Contains, find}
use Rattle.std.proofs.lemmas.Slice.Eq.{bytes_eq-Decides}
use Rattle.std.specs.Str.{bytes_eq}
use Rattle.dh_base.specs.declared.outcome.Outcome.{Outcome}
use Rattle.dh_base.specs.declared.outcome.Outcome.TheVariants.{Commit, Abort}
use Rattle.dh_base.specs.declared.id.Id.{Id}
use Rattle.dh_base.specs.Ids.{same_id}
use Rattle.deal_core.specs.Kept.{IsDeal}
use Rattle.clear_core.proofs.Moved.{none_in_empty}
use Rattle.joined_deals.specs.DealTexts.{JoinedTold, plan_texts, start_text, vote_text, texts_of}
use Rattle.joined_deals.specs.Signed.{is_signed, has_voted}
use Rattle.act_text.specs.declared.statement.Statement.{Statement}
use Rattle.joined_deals.specs.Heard.{with_heard}
use Rattle.joined_deals.specs.Agents.{AgentTold, is_of_id, deal_joined, HasKeys, AreSameDeals, with_deal, with_signed, with_statement, IsOpenedAgain}
use Rattle.joined_deals.specs.AgentSteps.{Joins, IsPlannedAct, IsValidCommit, MaySignIn, act, start, commit, abort, Signs, Hears, AgentStep, joins, signs, hears, reopens, stays, AreSteps, last_of, IsFirst}
use Rattle.joined_deals.specs.AgentLaws.{IsMeant, IsJoinedRight, IsSound, StaysSound}
use Rattle.joined_deals.proofs.Elements.{old_or_last, in_front, is_last, place_in, none_found, stands_in}
use Rattle.joined_deals.proofs.TextsApart.{no_start_planned, no_vote_planned, start_no_vote, votes_differ, one_id, has_start, has_vote, has_act}
use Rattle.joined_deals.proofs.Counted.{not_there, not_at, stands_signed, keys_with_deal, keys_with_signed}

-- ---- a deal is joined

-- no joined deal has the id
no_other : (deals : List JoinedTold) (id : Id) → deal_joined deals id ≡ None → (joined : JoinedTold) → Contains deals joined → id ≡ joined.deal.id → ⊥
no_other deals id none joined here same =
    let fails = none_found (is_of_id id) deals none joined here in
    let passes = (bytes_eq-Decides id.0 joined.deal.id.0).1 (ap (λ (i : Id). i.0) same) in
    (let e : true ≡ false = sym passes ∙ fails in absurd cc)

module _ (agent : AgentTold) (s : IsSound agent) where
  right_of : (joined : JoinedTold) → Contains agent.joined joined → IsDeal joined.deal
  right_of joined here = (s.deals joined here).deal

  -- a text of a deal that is signed is that of a joined deal with its id
  text_of_joined : (joined : JoinedTold) (text : List ℕ) → IsDeal joined.deal → Contains (texts_of joined) text → Contains agent.signed text → (other : JoinedTold) × Contains agent.joined other × (joined.deal.id ≡ other.deal.id)
  text_of_joined joined text kept here there =
      let m = s.meant text there in
      (m.joined, m.within, one_id joined m.joined text kept (right_of m.joined m.within) here m.text_of)

  -- two joined deals that share a text are one
  one_of_text : (joined other : JoinedTold) (text : List ℕ) → Contains agent.joined joined → Contains agent.joined other → Contains (texts_of joined) text → Contains (texts_of other) text → joined ≡ other
  one_of_text joined other text a b here there = s.one_deal joined other a b (one_id joined other text (right_of joined a) (right_of other b) here there)

  module _ (next : AgentTold) (j : Joins agent next) where
    fresh_deal : (joined : JoinedTold) → Contains agent.joined joined → j.joined.deal.id ≡ joined.deal.id → ⊥
    fresh_deal = no_other agent.joined j.joined.deal.id j.fresh

    -- none of its texts is signed
    none_signed : (text : List ℕ) → Contains (texts_of j.joined) text → Contains agent.signed text → ⊥
    none_signed text here there = let t = text_of_joined j.joined text j.deal here there in fresh_deal t.0 t.1 t.2

    with_sound : IsSound (with_deal agent j.joined)
    with_sound = record {
      keys = keys_with_deal agent j.joined j.keys;
      deals = λ joined here. elim (old_or_last agent.joined j.joined joined here) [
        | inl old ↦ (let r = s.deals joined old in record { deal = r.deal; house = r.house; party = r.party })
        | inr is ↦ subst (λ (k : JoinedTold). IsJoinedRight (with_deal agent j.joined) k) is (record { deal = j.deal; house = j.house; party = j.party })
      ];
      one_deal = λ joined other a b same. elim (old_or_last agent.joined j.joined joined a) [
        | inl old ↦ elim (old_or_last agent.joined j.joined other b) [
          | inl known ↦ s.one_deal joined other old known same
          | inr is ↦ absurd (fresh_deal joined old (ap (λ (k : JoinedTold). k.deal.id) is ∙ sym same))
        ]
        | inr is ↦ elim (old_or_last agent.joined j.joined other b) [
          | inl known ↦ absurd (fresh_deal other known (ap (λ (k : JoinedTold). k.deal.id) is ∙ same))
          | inr two ↦ sym is ∙ two
        ]
      ];
      meant = λ text there. (let m = s.meant text there in record { joined = m.joined; within = in_front agent.joined (j.joined ∷ []) m.joined m.within; text_of = m.text_of });
      one_key = s.one_key;
      acts_first = λ joined choice q r text here vote planned in_plan. elim (old_or_last agent.joined j.joined joined here) [
        | inl old ↦ s.acts_first joined choice q r text old vote planned in_plan
        | inr is ↦ absurd (none_signed (vote_text j.joined choice) (has_vote j.joined choice) (subst (λ (k : JoinedTold). Contains agent.signed (vote_text k choice)) (sym is) (stands_in agent.signed q (vote_text joined choice) vote)))
      ];
      commit_first = λ joined q r here aborts commits. elim (old_or_last agent.joined j.joined joined here) [
        | inl old ↦ s.commit_first joined q r old aborts commits
        | inr is ↦ absurd (none_signed (vote_text j.joined Abort) (has_vote j.joined Abort) (subst (λ (k : JoinedTold). Contains agent.signed (vote_text k Abort)) (sym is) (stands_in agent.signed q (vote_text joined Abort) aborts)))
      ];
    }

  -- ---- a text is signed

  module _ (text : List ℕ) (joined : JoinedTold) (within : Contains agent.joined joined) (may : MaySignIn agent joined text) (fresh : is_signed agent.signed text ≡ false) where
    in_texts : MaySignIn agent joined text → Contains (texts_of joined) text
    in_texts (act planned) = has_act joined text planned.planned
    in_texts (start is) = subst (λ (t : List ℕ). Contains (texts_of joined) t) (sym is) (has_start joined)
    in_texts (commit valid) = subst (λ (t : List ℕ). Contains (texts_of joined) t) (sym valid.text_is) (has_vote joined Commit)
    in_texts (abort is) = subst (λ (t : List ℕ). Contains (texts_of joined) t) (sym is) (has_vote joined Abort)

    voted_at : (other : JoinedTold) (choice : Outcome) → is_signed agent.signed (vote_text other choice) ≡ true → has_voted agent.signed other ≡ true
    voted_at other Commit e = ap (λ (b : Bool). b || is_signed agent.signed (vote_text other Abort)) e
    voted_at other Abort e = ap (λ (b : Bool). is_signed agent.signed (vote_text other Commit) || b) e ∙ or_true (is_signed agent.signed (vote_text other Commit))
      where
        or_true : (b : Bool) → b || true ≡ true
        or_true true = refl
        or_true false = refl

    -- an act is not signed behind a vote of its deal
    no_act_behind : MaySignIn agent joined text → (other : JoinedTold) (choice : Outcome) → Contains agent.joined other → Contains agent.signed (vote_text other choice) → Contains (plan_texts other) text → ⊥
    no_act_behind (act planned) other choice here voted in_plan =
        let same = one_of_text joined other text within here (has_act joined text planned.planned) (has_act other text in_plan) in
        let not_voted : has_voted agent.signed other ≡ false = subst (λ (k : JoinedTold). has_voted agent.signed k ≡ false) same planned.not_voted in
        (let e : true ≡ false = sym (voted_at other choice (stands_signed agent.signed (vote_text other choice) voted)) ∙ not_voted in absurd cc)
    no_act_behind (start is) other choice here voted in_plan = no_start_planned other joined (subst (λ (t : List ℕ). Contains (plan_texts other) t) is in_plan)
    no_act_behind (commit valid) other choice here voted in_plan = no_vote_planned other joined Commit (subst (λ (t : List ℕ). Contains (plan_texts other) t) valid.text_is in_plan)
    no_act_behind (abort is) other choice here voted in_plan = no_vote_planned other joined Abort (subst (λ (t : List ℕ). Contains (plan_texts other) t) is in_plan)

    -- nor a commit behind an abort
    no_commit_behind : MaySignIn agent joined text → (other : JoinedTold) → Contains agent.joined other → Contains agent.signed (vote_text other Abort) → text ≡ vote_text other Commit → ⊥
    no_commit_behind (act planned) other here aborted is = no_vote_planned joined other Commit (subst (λ (t : List ℕ). Contains (plan_texts joined) t) is planned.planned)
    no_commit_behind (start was) other here aborted is = start_no_vote joined other Commit (sym was ∙ is)
    no_commit_behind (commit valid) other here aborted is =
        let same = one_of_text joined other text within here (in_texts (commit valid)) (subst (λ (t : List ℕ). Contains (texts_of other) t) (sym is) (has_vote other Commit)) in
        not_there agent.signed (vote_text other Abort) (subst (λ (k : JoinedTold). is_signed agent.signed (vote_text k Abort) ≡ false) same valid.not_aborted) aborted
    no_commit_behind (abort was) other here aborted is =
        let same = one_of_text joined other text within here (in_texts (abort was)) (subst (λ (t : List ℕ). Contains (texts_of other) t) (sym is) (has_vote other Commit)) in
        votes_differ other (sym is ∙ was ∙ ap (λ (k : JoinedTold). vote_text k Abort) same)

    signed_sound : IsSound (with_signed agent text)
    signed_sound = record {
      keys = keys_with_signed agent text joined s.keys fresh within (in_texts may);
      deals = λ other here. (let r = s.deals other here in record { deal = r.deal; house = r.house; party = r.party });
      one_deal = s.one_deal;
      meant = λ t there. elim (old_or_last agent.signed text t there) [
        | inl old ↦ (let m = s.meant t old in record { joined = m.joined; within = m.within; text_of = m.text_of })
        | inr is ↦ record { joined = joined; within = within; text_of = subst (λ (u : List ℕ). Contains (texts_of joined) u) is (in_texts may) }
      ];
      one_key = λ q r t a b. elim (place_in agent.signed text t q a) [
        | inl old ↦ elim (place_in agent.signed text t r b) [
          | inl known ↦ s.one_key q r t old.1 known.1
          | inr last ↦ absurd (not_at agent.signed text q fresh (old.1 ∙ ap Some (sym last.1)))
        ]
        | inr last ↦ elim (place_in agent.signed text t r b) [
          | inl known ↦ absurd (not_at agent.signed text r fresh (known.1 ∙ ap Some (sym last.1)))
          | inr two ↦ last.0 ∙ sym two.0
        ]
      ];
      acts_first = λ other choice q r t here vote planned in_plan. elim (place_in agent.signed text (vote_text other choice) q vote) [
        | inl old ↦ elim (place_in agent.signed text t r planned) [
          | inl known ↦ s.acts_first other choice q r t here old.1 known.1 in_plan
          | inr last ↦ absurd (no_act_behind may other choice here (stands_in agent.signed q (vote_text other choice) old.1) (subst (λ (u : List ℕ). Contains (plan_texts other) u) (sym last.1) in_plan))
        ]
        | inr is ↦ elim (place_in agent.signed text t r planned) [
          | inl known ↦ omega (arith, is.0, known.0)
          | inr last ↦ absurd (no_vote_planned other other choice (subst (λ (u : List ℕ). Contains (plan_texts other) u) (sym last.1 ∙ is.1) in_plan))
        ]
      ];
      commit_first = λ other q r here aborts commits. elim (place_in agent.signed text (vote_text other Abort) q aborts) [
        | inl old ↦ elim (place_in agent.signed text (vote_text other Commit) r commits) [
          | inl known ↦ s.commit_first other q r here old.1 known.1
          | inr last ↦ absurd (no_commit_behind may other here (stands_in agent.signed q (vote_text other Abort) old.1) last.1)
        ]
        | inr is ↦ elim (place_in agent.signed text (vote_text other Commit) r commits) [
          | inl known ↦ omega (arith, is.0, known.0)
          | inr last ↦ absurd (votes_differ other (sym last.1 ∙ is.1))
        ]
      ];
    }

  -- ---- the same deals, in whatever order, whatever is heard

  module _ (deals : List JoinedTold) (heard : List Statement) (same : AreSameDeals agent.joined deals) (keys : HasKeys (record agent { joined = deals; heard = heard })) where
    abbrev changed : AgentTold
    changed = record agent { joined = deals; heard = heard }

    back : (joined : JoinedTold) → Contains deals joined → Contains agent.joined joined
    back joined here = (same joined).1 here

    changed_sound : IsSound changed
    changed_sound = record {
      keys = keys;
      deals = λ joined here. (let r = s.deals joined (back joined here) in record { deal = r.deal; house = r.house; party = r.party });
      one_deal = λ joined other a b. s.one_deal joined other (back joined a) (back other b);
      meant = λ text there. (let m = s.meant text there in record { joined = m.joined; within = (same m.joined).0 m.within; text_of = m.text_of });
      one_key = s.one_key;
      acts_first = λ joined choice q r text here. s.acts_first joined choice q r text (back joined here);
      commit_first = λ joined q r here. s.commit_first joined q r (back joined here);
    }

same_deals : (deals : List JoinedTold) → AreSameDeals deals deals
same_deals deals joined = ((λ here. here), (λ here. here))

pub step_sound : (agent next : AgentTold) → AgentStep agent next → IsSound agent → IsSound next
step_sound agent next (joins j) s =
    subst IsSound (sym j.next_is) (with_sound agent s next j)
step_sound agent next (signs t) s = subst IsSound (sym t.next_is) (signed_sound agent s t.text t.joined t.within t.may t.fresh)
step_sound agent next (hears h) s =
    subst IsSound (sym h.next_is) (changed_sound agent s agent.joined (with_heard agent.heard h.statement) (same_deals agent.joined) s.keys)
step_sound agent next (reopens o) s =
    subst IsSound (sym o.next_is) (changed_sound agent s next.joined [] o.deals (subst HasKeys o.next_is o.keys))
step_sound agent next (stays same) s = subst IsSound (sym same) s

-- ---- the first agent

first_sound : (agent : AgentTold) → IsFirst agent → IsSound agent
first_sound agent first =
    subst IsSound (sym is) (record {
      keys = omega arith;
      deals = λ joined here. absurd (none_in_empty joined here);
      one_deal = λ joined other here. absurd (none_in_empty joined here);
      meant = λ text here. absurd (none_in_empty text here);
      one_key = λ q r text there. absurd (nothing_at q text there);
      acts_first = λ joined choice q r text here. absurd (none_in_empty joined here);
      commit_first = λ joined q r here. absurd (none_in_empty joined here);
    })
  where
    nothing_at : (q : ℕ) (text : List ℕ) → slice_get {X = List ℕ} [] q ≡ Some text → ⊥
    nothing_at q text there = none_in_empty text (stands_in [] q text there)

    is : agent ≡ record agent { joined = []; signed = []; heard = [] }
    is = (λ i. record agent { joined = first.joined i; signed = first.signed i; heard = first.heard i })

all_sound : (agent : AgentTold) (more : List AgentTold) → IsSound agent → AreSteps agent more → IsSound (last_of agent more)
all_sound agent [] s steps = s
all_sound agent (next ∷ more) s steps = all_sound next more (step_sound agent next steps.0 s) steps.1

pub stays_sound : StaysSound
stays_sound agent more first steps = all_sound agent more (first_sound agent first) steps
