-- A claim by the rows: what each of its endings answers and leaves.
use Rattle.std.proofs.Common.{◌≡◌, ℕ, List, [], length, Option, Some, None, is_some, if◌then◌else◌, Result, Ok, Err, refl, sym, ap, subst, ◌∙◌, arith}
use Rattle.std.specs.Option.{option_map, option_or}
use Rattle.dh_base.specs.declared.id.Id.{Id}
use Rattle.dh_base.specs.declared.outcome.Outcome.{Outcome}
use Rattle.cert_core.specs.Sets.{SetTold}
use Rattle.claim_core.specs.declared.certificate.Certified.{Certified}
use Rattle.claim_core.specs.declared.claim.Claim.{Claim}
use Rattle.claim_core.specs.declared.claim_fault.ClaimFault.{ClaimFault}
use Rattle.claim_core.specs.FirstBroken.{certified_of}
use Rattle.keeper_core.specs.declared.change.Change.{Change}
use Rattle.keeper_core.specs.declared.store_fault.StoreFault.{StoreFault}
use Rattle.keeper_core.specs.Tables.{Tables}
use Rattle.keeper_core.specs.Knowing.{Known, LooksAtMost}
use Rattle.keeper_core.specs.Leaving.{Ended, done, failed, starved, refused, of_store_fault, Leaves}
use Rattle.keeper_core.specs.Stepping.{LeavesBy, IsRefusal, commits_unless}
use Rattle.keeper_core.proofs.Leaving.{read_and, not_asked, then_any}
use Rattle.keeper_core.proofs.Stepping.{was_told, reads_leave, call_leaves}
use Rattle.ledger_rows.specs.declared.registration.Registration.{Registration}
use Rattle.ledger_rows.specs.RowReading.{Reads, LacksForm, deal_said, deal_refusal}
use Rattle.ledger_rows.proofs.RowReads.{look_keeps, told_both}
use Rattle.ledger_acts.proofs.Answering.{store_not_done, read_cause, told_always, told_on}
use Rattle.vote_log.specs.declared.decision.Decision.{Decision}
use Rattle.vote_log.specs.Deciding.{outcome_of}
use Rattle.ledger_claims.specs.declared.claim_reply.ClaimReply.TheVariants.{Settled, Already}
use Rattle.ledger_claims.specs.declared.show_fault.ShowFault.{ShowFault}
use Rattle.ledger_claims.specs.declared.show_fault.ShowFault.TheVariants.{UnknownDeal, BadClaim, Undecided, Store}
use Rattle.ledger_claims.specs.ByTables.{ShowCause}
use Rattle.ledger_claims.specs.ClaimStep.{decided, decided_by, reply_by}
use Rattle.ledger_claims.specs.Claiming.{open_refusal, open_batches, ended_or, none_or, said_refusal, said_batches, claim_refusal, claim_batches, standing_said, IsClaimAnswer, ClaimsByRows}
use Rattle.ledger_claims.specs.Payees.{beside_twice}
use Rattle.ledger_claims.specs.Settling.{settling_refusal, settling_batches, SettlesByRows}
use Rattle.ledger_claims.specs.ShowFaults.{of_show_fault}

-- ---- faults

pub show_not_done : (fault : ShowFault) → of_show_fault fault ≡ done → ⊥
show_not_done UnknownDeal e = absurd cc
show_not_done (BadClaim fault) e = absurd cc
show_not_done (Undecided len) e = absurd cc
show_not_done (Store fault) e = store_not_done fault e

-- the fault of a row, as the ledger's
stored : (how : Ended) (rest : Option ShowFault) (refusal : Option StoreFault) (fault : StoreFault) → IsRefusal how refusal fault → IsRefusal how (option_or (option_map Store refusal) rest) (Store fault)
stored done rest refusal fault is = is
stored failed rest refusal fault is = tt
stored starved rest refusal fault is = tt
stored refused rest refusal fault is = ap (λ (o : Option StoreFault). option_or (option_map Store o) rest) is

wrapped : (how : Ended) (refusal : Option StoreFault) (fault : StoreFault) → IsRefusal how refusal fault → IsRefusal how (option_map Store refusal) (Store fault)
wrapped done refusal fault is = is
wrapped failed refusal fault is = tt
wrapped starved refusal fault is = tt
wrapped refused refusal fault is = ap (option_map Store) is

-- why a certificate decides nothing is no fault of rows
pub record IsPlain (fault : ShowFault) : Type 0 where
  pub how : of_show_fault fault ≡ refused
  pub cause : (told : Option Tables) → ShowCause told fault

pub plain_by : (told : Result Certified ClaimFault) (len : ℕ) (decision : Option Decision) (fault : ShowFault) → decided told len decision ≡ Err fault → IsPlain fault
plain_by (Err broken) len decision fault e = subst IsPlain (let same : BadClaim broken ≡ fault = cc in same) (record { how = refl; cause = λ told. tt })
plain_by (Ok told) len None fault e = subst IsPlain (let same : Undecided len ≡ fault = cc in same) (record { how = refl; cause = λ told. tt })
plain_by (Ok told) len (Some decision) fault e = absurd cc

-- ---- the endings

module _ (genesis : SetTold) (number : ℕ) (deal : Id) (claim : Claim) where
  abbrev by_claim : Result Outcome ShowFault
  by_claim = decided_by genesis deal claim

  abbrev Reading : Result (Option Registration) StoreFault → Known → Known → Type 0
  Reading = Reads 1 (deal_said deal) (deal_refusal deal) LacksForm

  abbrev refusal : Tables → Option ShowFault
  refusal = claim_refusal deal (decided_by genesis deal claim)

  abbrev batches : Tables → List (List Change)
  batches = claim_batches number deal (decided_by genesis deal claim)

  abbrev commits : Tables → List (List Change)
  commits = commits_unless (claim_refusal deal (decided_by genesis deal claim)) (claim_batches number deal (decided_by genesis deal claim))

  few_looks : (before after : Known) → LooksAtMost 1 before after → (tables : Tables) → LooksAtMost (beside_twice 8 tables) before after
  few_looks before after looked tables = (looked.0, omega (arith, looked.1))

  -- by what the row says
  by_said : (said : Option Registration) (tables : Tables) → deal_refusal deal tables ≡ None → deal_said deal tables ≡ Some said →
      (refusal tables ≡ said_refusal deal by_claim tables (Some said)) × (batches tables ≡ said_batches number deal by_claim tables (Some said))
  by_said said tables formed says = (
    λ i. option_or (option_map Store (formed i)) (said_refusal deal by_claim tables (says i)),
    λ i. said_batches number deal by_claim tables (says i),
  )

  pub deal_unread : (fault : StoreFault) (before after : Known) → Reading (Err fault) before after → ClaimsByRows genesis number deal claim (Err (Store fault)) before after
  deal_unread fault before after r = record {
    leaves = reads_leave commits (of_store_fault fault) before after (store_not_done fault) r.leaves;
    reply = told_on _ _ before.tables after.tables (λ tables is. stored (of_store_fault fault) (said_refusal deal by_claim tables (deal_said deal tables)) (deal_refusal deal tables) fault is) r.reply;
    cause = read_cause after.tables fault r.cause;
    looked = told_always _ before.tables after.tables (few_looks before after r.looked);
  }

  pub deal_unknown : (before after : Known) → Reading (Ok None) before after → ClaimsByRows genesis number deal claim (Err UnknownDeal) before after
  deal_unknown before after r = record {
    leaves = reads_leave commits refused before after (λ e. absurd cc) (read_and refused before after (λ e. absurd cc) r.leaves);
    reply = told_on _ _ before.tables after.tables (λ tables ok. (by_said None tables ok.0 ok.1).0) r.reply;
    cause = tt;
    looked = told_always _ before.tables after.tables (few_looks before after r.looked);
  }

  module _ (found : Registration) where
    -- where the deal has ended
    pub deal_ended : (outcome : Outcome) (before after : Known) → found.settled ≡ Some outcome → Reading (Ok (Some found)) before after → ClaimsByRows genesis number deal claim (Ok (Already outcome)) before after
    deal_ended outcome before after ended r = record {
      leaves = call_leaves commits [] done before after after r.leaves (not_asked done [] after (λ e. absurd cc) (λ e. refl)) (told_on _ _ before.tables after.tables (λ tables ok. sym (nothing tables ok.0 ok.1)) r.reply);
      reply = told_on _ _ before.tables after.tables (λ tables ok. (ended_refusal tables ok.0 ok.1, answer tables ok.1)) r.reply;
      cause = tt;
      looked = told_always _ before.tables after.tables (few_looks before after r.looked);
    }
      where
        ended_refusal : (tables : Tables) → deal_refusal deal tables ≡ None → deal_said deal tables ≡ Some (Some found) → refusal tables ≡ None
        ended_refusal tables formed says = (by_said (Some found) tables formed says).0 ∙ ap (λ (o : Option Outcome). ended_or o (open_refusal by_claim (settling_refusal deal found tables))) ended

        nothing : (tables : Tables) → deal_refusal deal tables ≡ None → deal_said deal tables ≡ Some (Some found) → commits tables ≡ []
        nothing tables formed says =
            (λ i. if is_some (ended_refusal tables formed says i) then [] else batches tables) ∙ (by_said (Some found) tables formed says).1
            ∙ ap (λ (o : Option Outcome). none_or o (open_batches by_claim (λ outcome. settling_batches number deal found outcome tables))) ended

        answer : (tables : Tables) → deal_said deal tables ≡ Some (Some found) → IsClaimAnswer deal by_claim tables (Already outcome)
        answer tables says = sym ((λ i. reply_by (standing_said (says i)) by_claim) ∙ ap (λ (o : Option Outcome). reply_by (Some o) by_claim) ended)

    -- where it is open
    module _ (is_open : found.settled ≡ None) where
      open_by : (tables : Tables) → deal_refusal deal tables ≡ None → deal_said deal tables ≡ Some (Some found) → refusal tables ≡ open_refusal by_claim (settling_refusal deal found tables)
      open_by tables formed says = (by_said (Some found) tables formed says).0 ∙ ap (λ (o : Option Outcome). ended_or o (open_refusal by_claim (settling_refusal deal found tables))) is_open

      pub claim_decides_nothing : (fault : ShowFault) (before after : Known) → by_claim ≡ Err fault → Reading (Ok (Some found)) before after → ClaimsByRows genesis number deal claim (Err fault) before after
      claim_decides_nothing fault before after none r =
          let plain = plain_by (certified_of genesis claim) (length claim.recs) (outcome_of claim.recs deal) fault none in
          let how = plain.how in
          record {
            leaves = reads_leave commits (of_show_fault fault) before after (show_not_done fault)
                (subst (λ (h : Ended). Leaves [] h before after) (sym how) (read_and refused before after (λ e. absurd cc) r.leaves));
            reply = told_on _ _ before.tables after.tables (λ tables ok. subst (λ (h : Ended). IsRefusal h (refusal tables) fault) (sym how)
                (open_by tables ok.0 ok.1 ∙ ap (λ (d : Result Outcome ShowFault). open_refusal d (settling_refusal deal found tables)) none)) r.reply;
            cause = plain.cause after.tables;
            looked = told_always _ before.tables after.tables (few_looks before after r.looked);
          }

      -- and the claim decides it
      module _ (outcome : Outcome) (before mid after : Known) (decides : by_claim ≡ Ok outcome) (r : Reading (Ok (Some found)) before mid) where
        whole : (tables : Tables) → deal_refusal deal tables ≡ None → deal_said deal tables ≡ Some (Some found) → refusal tables ≡ option_map Store (settling_refusal deal found tables)
        whole tables formed says = open_by tables formed says ∙ ap (λ (d : Result Outcome ShowFault). open_refusal d (settling_refusal deal found tables)) decides

        both_refuse : (o : Option StoreFault) (bs : List (List Change)) → (if is_some (option_map Store o) then [] else bs) ≡ (if is_some o then [] else bs)
        both_refuse None bs = refl
        both_refuse (Some fault) bs = refl

        same_commits : (tables : Tables) → deal_refusal deal tables ≡ None → deal_said deal tables ≡ Some (Some found) → commits tables ≡ commits_unless (settling_refusal deal found) (settling_batches number deal found outcome) tables
        same_commits tables formed says =
            (λ i. if is_some (whole tables formed says i) then [] else batches tables) ∙ both_refuse (settling_refusal deal found tables) (batches tables)
            ∙ ap (λ (bs : List (List Change)). if is_some (settling_refusal deal found tables) then [] else bs)
            ((by_said (Some found) tables formed says).1 ∙ ap (λ (o : Option Outcome). none_or o (open_batches by_claim (λ o. settling_batches number deal found o tables))) is_open
            ∙ ap (λ (d : Result Outcome ShowFault). open_batches d (λ o. settling_batches number deal found o tables)) decides)

        leaves_then : (how : Ended) → LeavesBy (commits_unless (settling_refusal deal found) (settling_batches number deal found outcome)) how mid after → LeavesBy commits how before after
        leaves_then how l = record {
          batches = l.batches;
          made = told_both _ _ _ before.tables mid.tables after.tables (look_keeps before mid r.leaves) (was_told l.batches how mid after l.leaves) (λ tables ok is. is ∙ sym (same_commits tables ok.0 ok.1)) r.reply l.made;
          leaves = then_any l.batches how before mid after r.leaves l.leaves;
        }

        more_looks : (tables : Tables) → LooksAtMost (beside_twice 1 tables) mid after → LooksAtMost (beside_twice 8 tables) before after
        more_looks tables within = (omega (arith, r.looked.0, within.0), omega (arith, r.looked.1, within.1))

        pub unsettled : (fault : StoreFault) → SettlesByRows number deal found outcome (Err fault) mid after → ClaimsByRows genesis number deal claim (Err (Store fault)) before after
        unsettled fault s =
            let keeps = look_keeps before mid r.leaves in
            let told = was_told s.leaves.batches (of_store_fault fault) mid after s.leaves.leaves in
            record {
              leaves = leaves_then (of_store_fault fault) s.leaves;
              reply = told_both _ _ _ before.tables mid.tables after.tables keeps told
                  (λ tables ok is. subst (λ (o : Option ShowFault). IsRefusal (of_store_fault fault) o (Store fault)) (sym (whole tables ok.0 ok.1)) (wrapped (of_store_fault fault) (settling_refusal deal found tables) fault is)) r.reply s.reply;
              cause = s.cause;
              looked = told_both _ _ _ before.tables mid.tables after.tables keeps told (λ tables ok within. more_looks tables within) r.reply s.looked;
            }

        pub settled : SettlesByRows number deal found outcome (Ok tt) mid after → ClaimsByRows genesis number deal claim (Ok (Settled outcome)) before after
        settled s =
            let keeps = look_keeps before mid r.leaves in
            let told = was_told s.leaves.batches done mid after s.leaves.leaves in
            record {
              leaves = leaves_then done s.leaves;
              reply = told_both _ _ _ before.tables mid.tables after.tables keeps told
                  (λ tables ok is. (
                    whole tables ok.0 ok.1 ∙ ap (option_map Store) is.0,
                    sym ((λ i. reply_by (standing_said (ok.1 i)) by_claim) ∙ (λ i. reply_by (Some (is_open i)) (decides i))),
                  )) r.reply s.reply;
              cause = tt;
              looked = told_both _ _ _ before.tables mid.tables after.tables keeps told (λ tables ok within. more_looks tables within) r.reply s.looked;
            }
