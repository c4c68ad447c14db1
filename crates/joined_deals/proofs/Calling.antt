-- What a call changes is a step of the agent.
use Rattle.std.proofs.Common.{◌≡◌, ℕ, ◌+◌, ◌<◌, ◌≤◌, Bool, true, false, not, ◌||◌, nat_lt, if◌then◌else◌, List, [], ◌∷◌, ◌++◌, length, slice_get, Option, Some, None, is_some, is_none, arith, refl, sym, ap, subst, ◌∙◌}
use Rattle.std.specs.List.{Contains}
use Rattle.std.specs.Option.{option_and_then}
use Rattle.std.proofs.lemmas.Bool.{ltb-false}
use Rattle.std.proofs.lemmas.Slice.Eq.{bytes_eq-Decides}
use Rattle.dh_base.specs.declared.id.Id.{Id}
use Rattle.dh_base.specs.declared.outcome.Outcome.TheVariants.{Commit, Abort}
use Rattle.dh_base.specs.Ids.{same_id}
use Rattle.act_text.specs.declared.statement.Statement.{Statement}
use Rattle.clear_core.specs.declared.terms.Terms.{Terms}
use Rattle.deal_core.specs.Deals.{DealTold, index_of_account}
use Rattle.deal_core.specs.Kept.{is_on}
use Rattle.joined_deals.specs.declared.agent_fault.AgentFault.{AgentFault}
use Rattle.joined_deals.specs.declared.agent_fault.AgentFault.TheVariants as fault
use Rattle.joined_deals.specs.DealTexts.{JoinedTold, plan_texts, start_text, vote_text, texts_of}
use Rattle.joined_deals.specs.Signed.{is_signed, has_voted, issued_of}
use Rattle.joined_deals.specs.Heard.{kept_of}
use Rattle.joined_deals.specs.Agents.{AgentTold, is_of_id, deal_joined, with_deal, with_signed, with_statement}
use Rattle.joined_deals.specs.AgentSteps.{Joins, MaySignIn, act, start, commit, abort, Signs, Hears, AgentStep, joins, signs, hears, reopens, stays}
use Rattle.joined_deals.specs.AgentCalls.{early_refusal, IsOffered, IsJoinable, if_joined, unjoined, next_refusal, next_text, invalid, commit_refusal, is_waiting, hear_refusal, with_text, signed_if, start_in, vote_in, next_in, tick_in, newer_than, newer_kept, heard_if}
use Rattle.joined_deals.specs.AgentLaws.{CallsAreSteps}
use Rattle.joined_deals.proofs.Elements.{found_in, stands_in}
use Rattle.joined_deals.proofs.Validating.{passes, not_false, validated}

one_id : (a b : Id) → same_id a b ≡ true → a ≡ b
one_id a b same = ap (λ (bytes : List ℕ). record { 0 = bytes }) ((bytes_eq-Decides a.0 b.0).0 same)

none_of : {A : Type 0} (o : Option A) → is_some o ≡ false → o ≡ None
none_of None e = refl
none_of (Some x) e = absurd (let s : true ≡ false = e in cc)

-- ---- joining

join_step : (agent : AgentTold) (text : List ℕ) (terms : Terms) (joined : JoinedTold) → IsJoinable agent text terms joined → AgentStep agent (with_deal agent joined)
join_step agent text terms joined j =
    let offered = j.offered in
    let deal = joined.deal in
    let first = passes (not (same_id deal.house agent.house)) (fault.OtherHouse deal.house) (if is_some (deal_joined agent.joined deal.id) then Some fault.JoinedAlready else if is_none (index_of_account deal.parties agent.account) then Some fault.NotAParty else None) offered.free in
    let second = passes (is_some (deal_joined agent.joined deal.id)) fault.JoinedAlready (if is_none (index_of_account deal.parties agent.account) then Some fault.NotAParty else None) first.1 in
    joins (record {
      joined = joined;
      terms = terms;
      deal = offered.read.kept;
      house = one_id deal.house agent.house (not_false (same_id deal.house agent.house) first.0);
      fresh = none_of (deal_joined agent.joined deal.id) second.0;
      party = offered.party;
      kept = j.checks;
      keys = j.keys;
      next_is = refl;
    })

-- ---- signing

signing : (agent : AgentTold) (text : List ℕ) (joined : JoinedTold) → Contains agent.joined joined → (is_signed agent.signed text ≡ false → MaySignIn agent joined text) → AgentStep agent (with_text agent text)
signing agent text joined within may = go (is_signed agent.signed text) refl
  where
    go : (b : Bool) → is_signed agent.signed text ≡ b → AgentStep agent (if b then agent else with_signed agent text)
    go true is = stays refl
    go false is = signs (record { text = text; joined = joined; within = within; may = may is; fresh = is; next_is = refl })

module _ (agent : AgentTold) (deal : Id) where
  within : (joined : JoinedTold) → deal_joined agent.joined deal ≡ Some joined → Contains agent.joined joined
  within joined found = (found_in (is_of_id deal) agent.joined joined found).0

  start_step : unjoined agent deal ≡ None → AgentStep agent (signed_if agent (start_in agent deal))
  start_step = go (deal_joined agent.joined deal) refl
    where
      go : (o : Option JoinedTold) → deal_joined agent.joined deal ≡ o → if_joined o (λ joined. None) ≡ None → AgentStep agent (signed_if agent (option_and_then (λ joined. Some (start_text joined)) o))
      go None is none = absurd (let e : Some fault.NotJoined ≡ None = none in cc)
      go (Some joined) is none = signing agent (start_text joined) joined (within joined is) (λ fresh. start refl)

  abort_step : unjoined agent deal ≡ None → AgentStep agent (signed_if agent (vote_in agent deal Abort))
  abort_step = go (deal_joined agent.joined deal) refl
    where
      go : (o : Option JoinedTold) → deal_joined agent.joined deal ≡ o → if_joined o (λ joined. None) ≡ None → AgentStep agent (signed_if agent (option_and_then (λ joined. Some (vote_text joined Abort)) o))
      go None is none = absurd (let e : Some fault.NotJoined ≡ None = none in cc)
      go (Some joined) is none = signing agent (vote_text joined Abort) joined (within joined is) (λ fresh. abort refl)

  tick_step : (now : ℕ) → unjoined agent deal ≡ None → AgentStep agent (signed_if agent (tick_in agent deal now))
  tick_step now = go (deal_joined agent.joined deal) refl
    where
      by_time : (joined : JoinedTold) → Contains agent.joined joined → (waits : Bool) → AgentStep agent (signed_if agent (if waits then None else Some (vote_text joined Abort)))
      by_time joined here true = stays refl
      by_time joined here false = signing agent (vote_text joined Abort) joined here (λ fresh. abort refl)

      go : (o : Option JoinedTold) → deal_joined agent.joined deal ≡ o → if_joined o (λ joined. None) ≡ None → AgentStep agent (signed_if agent (option_and_then (λ joined. if is_waiting agent joined now then None else Some (vote_text joined Abort)) o))
      go None is none = absurd (let e : Some fault.NotJoined ≡ None = none in cc)
      go (Some joined) is none = by_time joined (within joined is) (is_waiting agent joined now)

  next_step : next_refusal agent deal ≡ None → AgentStep agent (signed_if agent (next_in agent deal))
  next_step = go (deal_joined agent.joined deal) refl
    where
      by_text : (joined : JoinedTold) → Contains agent.joined joined → has_voted agent.signed joined ≡ false → (o : Option (List ℕ)) → next_text agent joined ≡ o → AgentStep agent (signed_if agent o)
      by_text joined here free None is = stays refl
      by_text joined here free (Some text) is = signing agent text joined here (λ fresh. act (record { planned = stands_in (plan_texts joined) (issued_of agent.signed joined) text is; not_voted = free }))

      go : (o : Option JoinedTold) → deal_joined agent.joined deal ≡ o → if_joined o (λ joined. if has_voted agent.signed joined then Some fault.Voted else None) ≡ None → AgentStep agent (signed_if agent (option_and_then (next_text agent) o))
      go None is none = absurd (let e : Some fault.NotJoined ≡ None = none in cc)
      go (Some joined) is none = by_text joined (within joined is) (passes (has_voted agent.signed joined) fault.Voted None none).0 (next_text agent joined) refl

  commit_step : commit_refusal agent deal ≡ None → AgentStep agent (signed_if agent (vote_in agent deal Commit))
  commit_step = go (deal_joined agent.joined deal) refl
    where
      unless_signed : (joined : JoinedTold) (b : Bool) → b ≡ false → (if b then None else invalid agent joined) ≡ None → invalid agent joined ≡ None
      unless_signed joined true e none = absurd (let s : true ≡ false = e in cc)
      unless_signed joined false e none = none

      go : (o : Option JoinedTold) → deal_joined agent.joined deal ≡ o → if_joined o (λ joined. if is_signed agent.signed (vote_text joined Abort) then Some fault.AbortSigned else if is_signed agent.signed (vote_text joined Commit) then None else invalid agent joined) ≡ None → AgentStep agent (signed_if agent (option_and_then (λ joined. Some (vote_text joined Commit)) o))
      go None is none = absurd (let e : Some fault.NotJoined ≡ None = none in cc)
      go (Some joined) is none =
          let free = passes (is_signed agent.signed (vote_text joined Abort)) fault.AbortSigned (if is_signed agent.signed (vote_text joined Commit) then None else invalid agent joined) none in
          signing agent (vote_text joined Commit) joined (within joined is)
          (λ fresh. commit (record {
            text_is = refl;
            validated = validated agent joined (unless_signed joined (is_signed agent.signed (vote_text joined Commit)) fresh free.1);
            not_aborted = free.0;
          }))

-- ---- hearing

newest : (statement : Statement) (o : Option Statement) → newer_than statement o ≡ None → (kept : Statement) → o ≡ Some kept → kept.at ≤ statement.at
newest statement None none kept is = absurd (let e : None ≡ Some kept = is in cc)
newest statement (Some other) none kept is =
    let same : other ≡ kept = (let e : Some other ≡ Some kept = is in cc) in
    subst (λ (s : Statement). s.at ≤ statement.at) same (ltb-false statement.at other.at (no_more (nat_lt statement.at other.at) none))
  where
    no_more : (b : Bool) → (if b then Some other.at else None) ≡ None → b ≡ false
    no_more true e = absurd (let s : Some other.at ≡ None = e in cc)
    no_more false e = refl

abbrev of_joined : AgentTold → Statement → JoinedTold → Option AgentFault
of_joined agent statement joined = if not (same_id statement.party agent.account) then Some (fault.NotMine statement.party) else if is_on joined.deal.steps statement.ledger then None else Some (fault.NotOfDeal statement.ledger)

hear_step : (agent : AgentTold) (statement : Statement) → hear_refusal agent statement ≡ None → AgentStep agent (heard_if agent statement (newer_kept agent statement))
hear_step agent statement none =
    let first = passes (not (same_id statement.house agent.house)) (fault.OtherHouse statement.house) (if_joined (deal_joined agent.joined statement.deal) (of_joined agent statement)) none in
    go (one_id statement.house agent.house (not_false (same_id statement.house agent.house) first.0)) (deal_joined agent.joined statement.deal) refl first.1
  where
    on_it : (b : Bool) → (if b then None else Some (fault.NotOfDeal statement.ledger)) ≡ None → b ≡ true
    on_it true e = refl
    on_it false e = absurd (let s : Some (fault.NotOfDeal statement.ledger) ≡ None = e in cc)

    by_age : statement.house ≡ agent.house → (joined : JoinedTold) → deal_joined agent.joined statement.deal ≡ Some joined → statement.party ≡ agent.account → is_on joined.deal.steps statement.ledger ≡ true → (o : Option ℕ) → newer_kept agent statement ≡ o → AgentStep agent (heard_if agent statement o)
    by_age house joined found party on None is = hears (record {
      statement = statement;
      joined = joined;
      found = found;
      house = house;
      party = party;
      on = on;
      newer = newest statement (kept_of agent.heard statement.deal statement.ledger) is;
      next_is = refl;
    })
    by_age house joined found party on (Some at) is = stays refl

    go : statement.house ≡ agent.house → (o : Option JoinedTold) → deal_joined agent.joined statement.deal ≡ o → if_joined o (of_joined agent statement) ≡ None → AgentStep agent (heard_if agent statement (newer_kept agent statement))
    go house None is e = absurd (let s : Some fault.NotJoined ≡ None = e in cc)
    go house (Some joined) is e =
        let mine = passes (not (same_id statement.party agent.account)) (fault.NotMine statement.party) (if is_on joined.deal.steps statement.ledger then None else Some (fault.NotOfDeal statement.ledger)) e in
        by_age house joined is (one_id statement.party agent.account (not_false (same_id statement.party agent.account) mine.0)) (on_it (is_on joined.deal.steps statement.ledger) mine.1) (newer_kept agent statement) refl

pub calls_step : CallsAreSteps
calls_step = record {
  joins = join_step;
  next = next_step;
  starts = start_step;
  commits = commit_step;
  aborts = abort_step;
  ticks = λ agent deal now. tick_step agent deal now;
  hears = hear_step;
}
