-- A claim that certifies records in which an open deal is decided settles it so.
use Rattle.std.proofs.Common.{◌≡◌, ◌⊎◌, ℕ, Option, Some, None, Result, Ok, Err, refl, sym, ap, subst, inl, inr, ◌∙◌}
use Rattle.dh_base.specs.declared.id.Id.{Id}
use Rattle.dh_base.specs.declared.outcome.Outcome.{Outcome}
use Rattle.cert_core.specs.Sets.{SetTold}
use Rattle.claim_core.specs.declared.claim.Claim.{Claim}
use Rattle.claim_core.specs.Certificates.{Certifies}
use Rattle.keeper_core.specs.declared.store_fault.StoreFault.{StoreFault}
use Rattle.keeper_core.specs.Tables.{Tables}
use Rattle.keeper_core.specs.Knowing.{Known}
use Rattle.keeper_core.specs.Leaving.{Ended, done, failed, starved, refused, of_store_fault}
use Rattle.keeper_core.specs.Stepping.{IsRefusal, IsReply}
use Rattle.ledger_rows.specs.declared.registration.Registration.{Registration}
use Rattle.ledger_rows.specs.RowReading.{Reads, LacksForm, deal_said, deal_refusal}
use Rattle.ledger_rows.proofs.DealRows.{deal_formed}
use Rattle.ledger_acts.specs.LedgerState.{IsState}
use Rattle.ledger_acts.proofs.Answering.{store_not_done}
use Rattle.vote_log.specs.declared.decision.Decision.{Decision}
use Rattle.vote_log.specs.Deciding.{outcome_of}
use Rattle.ledger_claims.specs.declared.claim_reply.ClaimReply.{ClaimReply}
use Rattle.ledger_claims.specs.declared.claim_reply.ClaimReply.TheVariants.{Settled}
use Rattle.ledger_claims.specs.declared.show_fault.ShowFault.{ShowFault}
use Rattle.ledger_claims.specs.declared.show_fault.ShowFault.TheVariants.{UnknownDeal, Store}
use Rattle.ledger_claims.specs.ClaimStep.{decided_by, standing_of, reply_by}
use Rattle.ledger_claims.specs.Claiming.{standing_said, refusal_in, claim_refusal, IsClaimAnswer, ClaimsByRows, IsSettledBy, AcceptsClaim}
use Rattle.ledger_claims.specs.ShowFaults.{of_show_fault}
use Rattle.ledger_claims.proofs.ClaimCalls.{show_not_done}
use Rattle.ledger_claims.proofs.ClaimSteps.{told_standing, agrees, standing_is}

-- ---- what is left where nothing refuses

no_refusal : {F : Type 0} (how : Ended) (fault : F) → (how ≡ done → ⊥) → IsRefusal how None fault → (how ≡ failed) ⊎ (how ≡ starved)
no_refusal done fault not_done is = absurd is
no_refusal failed fault not_done is = inl refl
no_refusal starved fault not_done is = inr refl
no_refusal refused fault not_done is = absurd cc

abbrev answered : ClaimReply → Result ClaimReply ShowFault
answered reply = Ok reply

abbrev pub decides_so : Outcome → Result Outcome ShowFault
decides_so outcome = Ok outcome

answer_is : (one other : ClaimReply) → answered one ≡ Ok other → one ≡ other
answer_is one other e = cc

module _ (genesis : SetTold) (deal : Id) (claim : Claim) where
  -- a row of a deal that has its form fails no call
  pub accepts_unread : (fault : StoreFault) (before after : Known) → Reads 1 (deal_said deal) (deal_refusal deal) LacksForm (Err fault) before after → AcceptsClaim genesis deal claim (Err (Store fault)) before after
  accepts_unread fault before after r opened entries decision stands wide decides =
      told_standing _ _ (λ tables. IsState opened tables entries) before.tables after.tables
      (λ tables is refuses. no_refusal (of_store_fault fault) fault (store_not_done fault)
      (subst (λ (o : Option StoreFault). IsRefusal (of_store_fault fault) o fault) (deal_formed tables opened.rows entries deal is.stands is.fits) refuses)) stands r.reply

  module _ (said : Option Registration) (before after : Known) (r : Reads 1 (deal_said deal) (deal_refusal deal) LacksForm (Ok said) before after) where
    -- an open deal's row says so
    clash : (result : Result ClaimReply ShowFault) → (standing_said (Some said) ≡ Some None → ⊥) → AcceptsClaim genesis deal claim result before after
    clash result never opened entries decision stands wide decides =
        told_standing _ _ (λ tables. IsState opened tables entries) before.tables after.tables
        (λ tables is ok. absurd (never (ap standing_said (sym ok.1) ∙ standing_is genesis deal claim opened entries tables is ∙ decides.is_open))) stands r.reply

  pub accepts_unknown : (before after : Known) → Reads 1 (deal_said deal) (deal_refusal deal) LacksForm (Ok None) before after → AcceptsClaim genesis deal claim (Err UnknownDeal) before after
  accepts_unknown before after r = clash None before after r (Err UnknownDeal) (λ e. absurd cc)

  pub accepts_ended : (found : Registration) (outcome : Outcome) (answer : ClaimReply) (before after : Known) → found.settled ≡ Some outcome → Reads 1 (deal_said deal) (deal_refusal deal) LacksForm (Ok (Some found)) before after → AcceptsClaim genesis deal claim (Ok answer) before after
  accepts_ended found outcome answer before after ended r = clash (Some found) before after r (Ok answer) (λ e. never found.settled ended e)
    where
      never : (o : Option Outcome) → o ≡ Some outcome → Some o ≡ Some None → ⊥
      never None e f = absurd cc
      never (Some other) e f = absurd cc

  -- where the claim is decided on, and nothing is decided
  pub accepts_undecided : (fault : ShowFault) (before after : Known) → ((set : SetTold) (decision : Decision) → Certifies genesis claim set → outcome_of claim.recs deal ≡ Some decision → Err fault ≡ Ok decision.outcome) → AcceptsClaim genesis deal claim (Err fault) before after
  accepts_undecided fault before after never opened entries decision stands wide decides = absurd (let e = never decides.set decision decides.certifies decides.outcome in cc)

  -- where it is decided
  pub accepts_by : (number : ℕ) (outcome : Outcome) (result : Result ClaimReply ShowFault) (before after : Known) → decided_by genesis deal claim ≡ Ok outcome →
      ((set : SetTold) (decision : Decision) → Certifies genesis claim set → outcome_of claim.recs deal ≡ Some decision → decides_so outcome ≡ Ok decision.outcome) →
      ClaimsByRows genesis number deal claim result before after → AcceptsClaim genesis deal claim result before after
  accepts_by number outcome result before after decided same by opened entries decision stands wide decides =
      told_standing _ _ (λ tables. IsState opened tables entries) before.tables after.tables (λ tables is replied. settles tables is result replied) stands by.reply
    where
      reply_is : reply_by (standing_of opened entries deal) (decided_by genesis deal claim) ≡ Ok (Settled decision.outcome)
      reply_is = (λ i. reply_by (decides.is_open i) ((decided ∙ same decides.set decision decides.certifies decides.outcome) i))

      settles : (tables : Tables) → IsState opened tables entries → (reply : Result ClaimReply ShowFault) →
          IsReply of_show_fault (claim_refusal deal (decided_by genesis deal claim) tables) (IsClaimAnswer deal (decided_by genesis deal claim) tables) reply → IsSettledBy decision.outcome reply
      settles tables is (Ok answer) replied =
          answer_is answer (Settled decision.outcome) (replied.1 ∙ ap (λ (o : Option (Option Outcome)). reply_by o (decided_by genesis deal claim)) (standing_is genesis deal claim opened entries tables is) ∙ reply_is)
      settles tables is (Err fault) replied =
          let none : claim_refusal deal (decided_by genesis deal claim) tables ≡ None = agrees genesis deal claim opened entries tables is wide ∙ ap refusal_in reply_is in
          no_refusal (of_show_fault fault) fault (show_not_done fault) (subst (λ (o : Option ShowFault). IsRefusal (of_show_fault fault) o fault) none replied)
