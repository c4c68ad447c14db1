-- A deal that commits was committed to by each compliant party of it.
use Rattle.std.proofs.Common.{◌≡◌, ℕ, Some, Ok, List, length, Contains, slice_get, ap, sym, ◌∙◌, subst, arith}
use Rattle.dh_base.specs.declared.id.Id.{Id}
use Rattle.dh_base.specs.declared.outcome.Outcome.{Outcome}
use Rattle.dh_base.specs.declared.outcome.Outcome.TheVariants as out
use Rattle.act_text.specs.declared.act.Act.{Act}
use Rattle.act_text.specs.declared.act.Act.TheVariants.{Vote}
use Rattle.act_text.specs.declared.office.Office.{Office}
use Rattle.act_text.specs.declared.office.Office.TheVariants.{Log}
use Rattle.act_text.specs.ActTexts.{act_text}
use Rattle.act_text.specs.ActReading.{act_of}
use Rattle.deal_core.specs.Deals.{DealTold, index_of_account}
use Rattle.ledger_rows.specs.declared.entry.Entry.{Entry}
use Rattle.vote_log.specs.declared.kind.Kind.TheVariants.{Start, Commit}
use Rattle.vote_log.specs.Entry.{Entry as Rec}
use Rattle.vote_log.specs.Deciding.{outcome_of}
use Rattle.vote_log.specs.Places.{IsFirstDecisive}
use Rattle.payoff.specs.Agents.{AgentState}
use Rattle.payoff.specs.Worlds.{World, HasOneText, IsRead}
use Rattle.payoff.specs.Promise.{HasCertified, IsSettledIn, IsCompliantIn, HasCommitted}
use Rattle.payoff.proofs.Lists.{every_at, get_contains}
use Rattle.payoff.proofs.Acts.{one_act}
use Rattle.payoff.proofs.Deals.{one_deal, index_below, one_account}
use Rattle.payoff.proofs.Facts.{IsBacked, IsMeantBy, IsMeantText, IsStarted, IsMeantVote, IsRecordKept, Kept}
use Rattle.payoff.proofs.Settlements.{decided, decision_is, IsTheDeal, the_deal, front_before}

abbrev pub DecisiveLaw : Type 0
DecisiveLaw = (log : List Rec) (deal : Id) (place : ℕ) (outcome : Outcome) → outcome_of log deal ≡ Some (record { outcome = outcome; at = place }) → IsFirstDecisive log deal place outcome

-- what a kept text says is meant
pub meant_act : (w : World) → Kept w → (office : Office) (p : Id) (g : AgentState) (q : ℕ) (message : List ℕ) (act : Act) → w.agents p ≡ Some g → slice_get g.texts q ≡ Some message → act_of office message ≡ Ok act → IsMeantBy w p g act
meant_act w kept office p g q message act runs signed reads =
    let m : IsMeantText w p g message = every_at (IsMeantText w p g) g.texts message (kept.agents p g runs).meant (get_contains g.texts q message signed) in
    let same : act ≡ m.act = one_act office message act m.act m.bytes reads m.fits m.spelled in
    subst (IsMeantBy w p g) (sym same) m.meant

-- a record of a certified list was meant
kept_record : (w : World) (certified : List (List Rec)) → HasCertified w certified → Kept w → (log : List Rec) (place : ℕ) (entry : Rec) → Contains certified log → slice_get log place ≡ Some entry → IsRecordKept w entry
kept_record w certified has kept log place entry cx here = every_at (IsRecordKept w) w.entered entry kept.records (has.entered log entry cx (get_contains log place entry here))

-- a start is of the deal, with all its parties
started_size : (w : World) → HasOneText w → (parties : ℕ) (id : Id) (deal : DealTold) → IsTheDeal w id deal → IsStarted w parties id → parties ≡ length deal.parties
started_size w one parties id deal the s =
    let whole : s.deal ≡ deal = one_deal w s.deal deal one s.read the.read (s.named ∙ sym the.named) in
    s.size ∙ ap (λ (t : DealTold). length t.parties) whole

-- a vote is that of the deal's party of that index
voter_is : (w : World) → HasOneText w → (index : ℕ) (id account : Id) (deal : DealTold) → IsTheDeal w id deal → index_of_account deal.parties account ≡ Some index → (v : IsMeantVote w index id) → v.account ≡ account
voter_is w one index id account deal the party v =
    let same : v.deal ≡ deal = one_deal w v.deal deal one v.read the.read (v.named ∙ sym the.named) in
    let own : index_of_account deal.parties v.account ≡ Some index = subst (λ (t : DealTold). index_of_account t.parties v.account ≡ Some index) same v.party in
    one_account v.account account deal.parties index own party

-- the signed commit of a compliant party
pub record IsVoted (w : World) (agent : AgentState) (id : Id) (index : ℕ) : Type 0 where
  pub q : ℕ
  pub message : List ℕ
  pub signed : slice_get agent.texts q ≡ Some message
  pub reads : act_of Log message ≡ Ok (Vote id index out.Commit)
  pub spelled : message ≡ act_text (Vote id index out.Commit)

pub voted : DecisiveLaw → (w : World) (certified : List (List Rec)) → HasCertified w certified → Kept w → HasOneText w
    → (name : List ℕ) (id : Id) (index : ℕ) (account : Id) (before : List Entry) → IsSettledIn w name id out.Commit before → (c : IsCompliantIn w before id index account) → IsVoted w c.agent id index
voted decisive w certified has kept one name id index account before s c =
    let the = the_deal w kept name before id index account (front_before w name id out.Commit before s) c in
    let x = decided w kept name id out.Commit before s in
    let recs = x.claim.recs in
    let cx : Contains certified recs = has.claims x.claim x.set x.shown x.certifies in
    let first = (decisive recs id x.decision.at out.Commit (decision_is w id out.Commit x)).here in
    let started : IsStarted w first.parties id = kept_record w certified has kept recs first.start (record { kind = Start; num = first.parties; deal = id }) cx first.first.here in
    let size : first.parties ≡ length c.deal.parties = started_size w one first.parties id c.deal the started in
    let below = index_below account c.deal.parties index c.party in
    let place = first.complete index (omega (arith, size, below)) in
    let vote : IsMeantVote w index id = kept_record w certified has kept recs place.0 (record { kind = Commit; num = index; deal = id }) cx place.3 in
    let by : vote.account ≡ account = voter_is w one index id account c.deal the c.party vote in
    record {
      q = vote.q;
      message = vote.message;
      signed = vote.signed c.agent (ap w.agents by ∙ c.complies);
      reads = vote.reads;
      spelled = vote.spelled;
    }

-- what stands behind that vote, of the registered deal
pub record IsBehind (w : World) (account : Id) (agent : AgentState) (id : Id) (index : ℕ) (deal : DealTold) : Type 0 where
  pub backed : IsBacked w account agent id index
  pub same : backed.deal ≡ deal

pub behind : (w : World) → Kept w → HasOneText w → (account : Id) (agent : AgentState) (id : Id) (index : ℕ) (deal : DealTold) → w.agents account ≡ Some agent → IsTheDeal w id deal → IsVoted w agent id index → IsBehind w account agent id index deal
behind w kept one account agent id index deal runs the v =
    let b : IsBacked w account agent id index = meant_act w kept Log account agent v.q v.message (Vote id index out.Commit) runs v.signed v.reads in
    let read = every_at (IsRead w) agent.joined b.deal (kept.agents account agent runs).joined b.within.joined in
    record { backed = b; same = one_deal w b.deal deal one read the.read (b.named ∙ sym the.named) }

pub committed : (w : World) → Kept w → HasOneText w → (account : Id) (agent : AgentState) (id : Id) (index : ℕ) (deal : DealTold) → w.agents account ≡ Some agent → IsTheDeal w id deal → IsVoted w agent id index → HasCommitted agent deal id index
committed w kept one account agent id index deal runs the v =
    let b = behind w kept one account agent id index deal runs the v in
    record {
      joined = subst (λ (t : DealTold). Contains agent.joined t) b.same b.backed.within.joined;
      signed = subst (λ (text : List ℕ). Contains agent.texts text) v.spelled (get_contains agent.texts v.q v.message v.signed);
    }
