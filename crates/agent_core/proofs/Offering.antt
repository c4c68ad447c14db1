-- Why a deal is not joined, and that it may be.
use Rattle.std.proofs.Common.{◌≡◌, ◌⊎◌, inl, inr, ℕ, ◌+◌, ◌-◌, ◌<◌, ◌≤◌, Bool, true, false, not, if◌then◌else◌, List, length, Option, Some, None, is_some, is_none, Ok, Err, refl, sym, ap, subst, ◌∙◌, arith}
use Rattle.dh_base.specs.declared.id.Id.{Id}
use Rattle.dh_base.specs.Ids.{same_id}
use Rattle.clear_core.specs.TermsKept.{ChecksTerms}
use Rattle.clear_core.specs.declared.term_fault.TermFault.{TermFault}
use Rattle.clear_core.specs.declared.terms.Terms.{Terms}
use Rattle.deal_core.specs.Deals.{DealTold, index_of_account}
use Rattle.deal_core.specs.Reading.{IsTextOf, IsFaultOf}
use Rattle.deal_core.specs.declared.deal_fault.DealFault.{DealFault}
use Rattle.deal_core.specs.declared.deal_fault.DealFault.TheVariants as deal
use Rattle.keeper_core.specs.Leaving.{Ended, failed, starved, refused}
use Rattle.joined_deals.specs.DealTexts.{JoinedTold, texts_of}
use Rattle.joined_deals.specs.TextsKept.{joined_told}
use Rattle.joined_deals.specs.declared.agent_fault.AgentFault.{AgentFault}
use Rattle.joined_deals.specs.declared.agent_fault.AgentFault.TheVariants as fault
use Rattle.joined_deals.specs.AgentFaults.{of_agent_fault, agent_fault_of_deal}
use Rattle.joined_deals.specs.Signed.{unsigned_in}
use Rattle.joined_deals.specs.Agents.{AgentTold, deal_joined, HasKeys}
use Rattle.joined_deals.specs.AgentCalls.{early_refusal, IsJoinFault, IsOffered, IsJoinable}
use Rattle.joined_deals.proofs.PlanSizes.{length_texts}
use Rattle.agent_core.specs.declared.joining.Offer.{Offer}
use Rattle.agent_core.specs.Offers.{IsOffer}

-- ---- the text

pub unread : (agent : AgentTold) (text : List ℕ) (terms : Terms) (f : DealFault) → IsFaultOf text f → IsJoinFault agent text terms (agent_fault_of_deal f)
unread agent text terms (deal.BadLine line) is = is
unread agent text terms (deal.PartyTwice line) is = is
unread agent text terms (deal.UnknownParty line) is = is
unread agent text terms (deal.SelfStep line) is = is
unread agent text terms (deal.ZeroAmount line) is = is
unread agent text terms (deal.TooMany line) is = is
unread agent text terms (deal.SumTooLarge line) is = is
unread agent text terms (deal.NotConnected party) is = is
unread agent text terms deal.NoMemory is = tt

ends_refused : refused ≡ failed → ⊥
ends_refused e = absurd cc

ends_starved : starved ≡ failed → ⊥
ends_starved e = absurd cc

pub unread_unfailed : (f : DealFault) → of_agent_fault (agent_fault_of_deal f) ≡ failed → ⊥
unread_unfailed (deal.BadLine line) e = ends_refused e
unread_unfailed (deal.PartyTwice line) e = ends_refused e
unread_unfailed (deal.UnknownParty line) e = ends_refused e
unread_unfailed (deal.SelfStep line) e = ends_refused e
unread_unfailed (deal.ZeroAmount line) e = ends_refused e
unread_unfailed (deal.TooMany line) e = ends_refused e
unread_unfailed (deal.SumTooLarge line) e = ends_refused e
unread_unfailed (deal.NotConnected party) e = ends_refused e
unread_unfailed deal.NoMemory e = ends_starved e

-- ---- before the terms

module _ (agent : AgentTold) (told : DealTold) (f : AgentFault) where
  abbrev IsOneOf : Type 0
  IsOneOf = (f ≡ fault.OtherHouse told.house) ⊎ ((f ≡ fault.JoinedAlready) ⊎ (f ≡ fault.NotAParty))

  third : (b : Bool) → (if b then Some fault.NotAParty else None) ≡ Some f → f ≡ fault.NotAParty
  third true e = (let s : Some fault.NotAParty ≡ Some f = e in let same : fault.NotAParty ≡ f = cc in sym same)
  third false e = absurd (let s : None ≡ Some f = e in cc)

  second : (b : Bool) → (if b then Some fault.JoinedAlready else if is_none (index_of_account told.parties agent.account) then Some fault.NotAParty else None) ≡ Some f → (f ≡ fault.JoinedAlready) ⊎ (f ≡ fault.NotAParty)
  second true e = inl (let s : Some fault.JoinedAlready ≡ Some f = e in let same : fault.JoinedAlready ≡ f = cc in sym same)
  second false e = inr (third (is_none (index_of_account told.parties agent.account)) e)

  first : (b : Bool) → (if b then Some (fault.OtherHouse told.house) else if is_some (deal_joined agent.joined told.id) then Some fault.JoinedAlready else if is_none (index_of_account told.parties agent.account) then Some fault.NotAParty else None) ≡ Some f → IsOneOf
  first true e = inl (let s : Some (fault.OtherHouse told.house) ≡ Some f = e in let same : fault.OtherHouse told.house ≡ f = cc in sym same)
  first false e = inr (second (is_some (deal_joined agent.joined told.id)) e)

  early_is : early_refusal agent told ≡ Some f → IsOneOf
  early_is e = first (not (same_id told.house agent.house)) e

  pub early_cause : (text : List ℕ) (terms : Terms) → IsTextOf told text → early_refusal agent told ≡ Some f → IsJoinFault agent text terms f
  early_cause text terms read e = elim (early_is e) [
    | inl is ↦ subst (λ (g : AgentFault). IsJoinFault agent text terms g) (sym is) (record { deal = told; read = read; refused = e ∙ ap Some is })
    | inr (inl is) ↦ subst (λ (g : AgentFault). IsJoinFault agent text terms g) (sym is) (record { deal = told; read = read; refused = e ∙ ap Some is })
    | inr (inr is) ↦ subst (λ (g : AgentFault). IsJoinFault agent text terms g) (sym is) (record { deal = told; read = read; refused = e ∙ ap Some is })
  ]

  pub early_unfailed : early_refusal agent told ≡ Some f → of_agent_fault f ≡ failed → ⊥
  early_unfailed e = elim (early_is e) [
    | inl is ↦ λ s. ends_refused (sym (ap of_agent_fault is) ∙ s)
    | inr (inl is) ↦ λ s. ends_refused (sym (ap of_agent_fault is) ∙ s)
    | inr (inr is) ↦ λ s. ends_refused (sym (ap of_agent_fault is) ∙ s)
  ]

-- where nothing is refused the account is a party
pub party_there : (agent : AgentTold) (told : DealTold) → early_refusal agent told ≡ None → index_of_account told.parties agent.account ≡ None → ⊥
party_there agent told free none = go (not (same_id told.house agent.house)) (is_some (deal_joined agent.joined told.id)) (is_none (index_of_account told.parties agent.account)) (ap (λ (o : Option ℕ). is_none o) none) free
  where
    go : (first second third : Bool) → third ≡ true → (if first then Some (fault.OtherHouse told.house) else if second then Some fault.JoinedAlready else if third then Some fault.NotAParty else None) ≡ None → ⊥
    go true second third is e = (let s : Some (fault.OtherHouse told.house) ≡ None = e in absurd cc)
    go false true third is e = (let s : Some fault.JoinedAlready ≡ None = e in absurd cc)
    go false false true is e = (let s : Some fault.NotAParty ≡ None = e in absurd cc)
    go false false false is e = (let s : false ≡ true = is in absurd cc)

-- ---- the terms and the keys

module _ (agent : AgentTold) (text : List ℕ) (terms : Terms) (offer : Offer) (is : IsOffer agent text offer) where
  abbrev joined : JoinedTold
  joined = joined_told offer.deal offer.index terms.deadline

  offered : IsOffered agent text terms joined
  offered = record { read = is.read; free = is.free; party = is.party; deadline = refl }

  pub breaks : (broken : TermFault) → ChecksTerms offer.deal.steps offer.index terms (Err broken) → IsJoinFault agent text terms (fault.Terms broken)
  breaks broken checks = record { joined = joined; offered = offered; checks = checks }

  pub short : (left needed : ℕ) → HasKeys agent → ChecksTerms offer.deal.steps offer.index terms (Ok tt) → left ≡ agent.size - length agent.signed - unsigned_in agent.signed agent.joined → needed ≡ length (texts_of joined) → left < needed → IsJoinFault agent text terms (fault.KeysShort left needed)
  short left needed keys checks left_is needed_is less = record {
    joined = joined;
    offered = offered;
    checks = checks;
    left_is = omega (arith, keys, left_is);
    needed_is = needed_is;
    short = less;
  }

  pub joinable : (left needed : ℕ) → ChecksTerms offer.deal.steps offer.index terms (Ok tt) → left ≡ agent.size - length agent.signed - unsigned_in agent.signed agent.joined → needed ≡ length (texts_of joined) → needed ≤ left → IsJoinable agent text terms joined
  joinable left needed checks left_is needed_is enough = record {
    offered = offered;
    checks = checks;
    keys = omega (arith, left_is, needed_is, enough, length_texts joined);
  }
