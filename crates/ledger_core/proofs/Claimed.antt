-- Behind a claim a ledger is at the later entries.
use Rattle.std.proofs.Common.{◌≡◌, ℕ, ◌+◌, ◌-◌, ◌<◌, ◌≤◌, ◌*◌, ◌^◌, List, [], ◌∷◌, ◌++◌, length, Option, Some, None, IfSome, OnOk, Result, Ok, Err, refl, sym, ap, subst, ◌∙◌, arith}
use Rattle.std.proofs.lemmas.List.{length-append}
use Rattle.dh_base.specs.declared.id.Id.{Id}
use Rattle.cert_core.specs.Sets.{SetTold}
use Rattle.claim_core.specs.declared.claim.Claim.{Claim}
use Rattle.keeper_core.specs.Tables.{Tables}
use Rattle.keeper_core.specs.Knowing.{Known}
use Rattle.keeper_core.specs.Stepping.{IsReply, Backs}
use Rattle.ledger_rows.specs.declared.entry.Entry.{Entry}
use Rattle.ledger_rows.specs.declared.entry.Entry.TheVariants.{Settlement}
use Rattle.ledger_acts.specs.LedgerStep.{Opened, acts_of}
use Rattle.ledger_acts.specs.LedgerState.{IsState}
use Rattle.ledger_claims.specs.declared.claim_reply.ClaimReply.{ClaimReply}
use Rattle.ledger_claims.specs.declared.claim_reply.ClaimReply.TheVariants.{Settled, Already}
use Rattle.ledger_claims.specs.declared.show_fault.ShowFault.{ShowFault}
use Rattle.ledger_claims.specs.ClaimStep.{entries_with}
use Rattle.ledger_claims.specs.Claiming.{refusal_in, StepsByClaim, ClaimsByStep, AcceptsClaim}
use Rattle.ledger_claims.specs.ShowFaults.{of_show_fault}
use Rattle.ledger_claims.proofs.SettledFew.{acts_same}
use Rattle.ledger_core.specs.Claims.{next_number, with_reply, StepsFromClaim, ClaimsFrom}
use Rattle.ledger_core.specs.Ledgers.{LedgerTold, IsAt}
use Rattle.ledger_core.proofs.Submitting.{both_told}

module _ {K : Type 0} (opened : Opened) (entries : List Entry) (old : LedgerTold K) (at_old : IsAt opened entries old) (tables : Tables) (state : IsState opened tables entries) where
  next_is : next_number old ≡ length entries + 1
  next_is = (let few = state.few in let acted = state.acted in let is = at_old.length_is in omega arith)

  -- behind an answer
  at_later : (now : LedgerTold K) (k : K) (deal : Id) (answer : ClaimReply) → now ≡ with_reply (record old { keeper = k }) answer → IsAt opened (entries_with entries deal (Ok answer)) now
  at_later now k deal (Already outcome) is =
      subst (λ (l : LedgerTold K). IsAt opened entries l) (sym is) (record { name = at_old.name; house = at_old.house; length_is = at_old.length_is; acts_is = at_old.acts_is })
  at_later now k deal (Settled outcome) is =
      subst (λ (l : LedgerTold K). IsAt opened (entries ++ Settlement deal outcome ∷ []) l) (sym is) (record {
        name = at_old.name;
        house = at_old.house;
        length_is = next_is ∙ sym (length-append entries (Settlement deal outcome ∷ []));
        acts_is = at_old.acts_is ∙ sym (acts_same entries deal outcome);
      })

ok_of : (reply : Result ClaimReply ShowFault) (answer : ClaimReply) (after : Option Tables) (later : Tables) → after ≡ Some later → IfSome after (λ _. IsReply of_show_fault (refusal_in reply) (λ (a : ClaimReply). reply ≡ Ok a) (Ok answer)) → reply ≡ Ok answer
ok_of reply answer after later told is = (subst (λ (t : Option Tables). IfSome t (λ _. IsReply of_show_fault (refusal_in reply) (λ (a : ClaimReply). reply ≡ Ok a) (Ok answer))) told is).1

-- a claim is accepted by the ledger's own set and keeper, where it is by equal ones
pub own_accepted : (genesis own : SetTold) (deal : Id) (claim : Claim) (result : Result ClaimReply ShowFault) (start before after : Known) → genesis ≡ own → start ≡ before → AcceptsClaim genesis deal claim result start after → AcceptsClaim own deal claim result before after
own_accepted genesis own deal claim result start before after set_is start_is accepts =
    subst (λ (s : SetTold). AcceptsClaim s deal claim result before after) set_is
    (subst (λ (known : Known). AcceptsClaim genesis deal claim result known after) start_is accepts)

-- a call that was made with the ledger's own set, number and keeper
module _ {K : Type 0} (old : LedgerTold K) (deal : Id) (claim : Claim) (before after : Known) (wide : length deal.0 ≡ 32)
    (genesis : SetTold) (number : ℕ) (start : Known) (set_is : genesis ≡ old.genesis) (number_is : number ≡ next_number old) (start_is : start ≡ before) where
  as_own : (result : Result ClaimReply ShowFault) → ClaimsByStep genesis number deal claim result start after → ClaimsByStep old.genesis (next_number old) deal claim result before after
  as_own result step =
      subst (λ (s : SetTold). ClaimsByStep s (next_number old) deal claim result before after) set_is
      (subst (λ (n : ℕ). ClaimsByStep genesis n deal claim result before after) number_is
      (subst (λ (known : Known). ClaimsByStep genesis number deal claim result known after) start_is step))

  pub refused_claim : (now : LedgerTold K) (fault : ShowFault) → ClaimsByStep genesis number deal claim (Err fault) start after → ClaimsFrom old now deal claim (Err fault) before after
  refused_claim now fault step opened entries backs at_old = both_told before after _ (λ tables later told told'.
      let state : IsState opened tables entries = subst (λ (t : Option Tables). Backs (IsState opened) t entries) told backs in
      record { steps = as_own (Err fault) step opened entries backs (next_is opened entries old at_old tables state) wide; moved = tt })

  pub answered_claim : (now : LedgerTold K) (k : K) (answer : ClaimReply) → now ≡ with_reply (record old { keeper = k }) answer → ClaimsByStep genesis number deal claim (Ok answer) start after → ClaimsFrom old now deal claim (Ok answer) before after
  answered_claim now k answer is step opened entries backs at_old = both_told before after _ (λ tables later told told'.
      let state : IsState opened tables entries = subst (λ (t : Option Tables). Backs (IsState opened) t entries) told backs in
      let stepped : StepsByClaim old.genesis opened entries deal claim (Ok answer) before after = as_own (Ok answer) step opened entries backs (next_is opened entries old at_old tables state) wide in
      let replied : stepped.reply ≡ Ok answer = ok_of stepped.reply answer after.tables later told' stepped.replies.reply in
      record {
        steps = stepped;
        moved = subst (λ (es : List Entry). IsAt opened es now) (sym (stepped.step.behind ∙ ap (λ (r : Result ClaimReply ShowFault). entries_with entries deal r) replied)) (at_later opened entries old at_old tables state now k deal answer is);
      })
