-- What both runs have: the ledger up to Ben's escrow, and what the seat enters.
use Rattle.std.proofs.Common.{◌≡◌, ℕ, zero, suc, ◌+◌, ◌<◌, ◌≤◌, cond, Option, Some, None, is_some, List, [], ◌∷◌, ◌++◌, slice_get, refl, ap, sym, ◌∙◌, subst, arith}
use Rattle.std.specs.Option.{option_or, option_map}
use Rattle.dh_base.specs.declared.id.Id.{Id}
use Rattle.dh_base.specs.declared.outcome.Outcome.TheVariants.{Commit}
use Rattle.escrow_book.specs.declared.fault.BookFault.TheVariants.{UnknownDeal, DealSettled}
use Rattle.escrow_book.specs.Opening.{opening_of}
use Rattle.escrow_book.specs.History.{History, if_commit_of, payout_of}
use Rattle.escrow_book.specs.Refused.{settle_refusal}
use Rattle.clear_core.specs.Clearing.{need_of, due_of}
use Rattle.ledger_rows.specs.declared.entry.Entry.{Entry}
use Rattle.ledger_rows.specs.Entries.{book_of}
use Rattle.ledger_history.specs.Histories.{IsHistory}
use Rattle.joined_deals.specs.DealTexts.{account_of}
use Rattle.compliant_deals.specs.Parts.{PartyAct, acts_on}
use Rattle.compliant_deals.specs.Complying.{HaveOwnKeys, ComplyTo}
use Rattle.compliant_deals.proofs.Fronts.{book_is, stage, front_accepted, front_owned}
use Rattle.payoff.proofs.Lists.{same_some}
use Rattle.promise_met.specs.Loan.{ann, coins, coin, the_deal, rows, key, register_entry}
use Rattle.promise_met.proofs.Dealing.{deal_is, spellable, comply}
use Rattle.premises_matter.specs.Misled.{unlent_entries}
use Rattle.premises_matter.specs.Torn.{notes}

-- what is found is the one that is there
pub found : {X : Type 0} (P : X → Type 0) (x y : X) → Some x ≡ Some y → P x → P y
found P x y e p = subst P (same_some x y e) p

pub nobody : {X : Type 0} (P : Type 0) (x : X) → None ≡ Some x → P
nobody P x e = absurd cc

-- ---- the ledger of the coins, up to Ben's escrow

same_act : (x y : PartyAct) → Some x ≡ Some y → x ≡ y
same_act x y e = cc

-- parties 0 and 1 act
party_at : (place : ℕ) (done : PartyAct) → slice_get (acts_on the_deal coins 0 []) place ≡ Some done → done.party ≡ place
party_at zero done there = sym (ap (λ (p : PartyAct). p.party) (same_act _ done there))
party_at (suc zero) done there = sym (ap (λ (p : PartyAct). p.party) (same_act _ done there))
party_at (suc (suc place)) done there = absurd (let e : None ≡ Some done = there in cc)

own_keys : HaveOwnKeys key (acts_on the_deal coins 0 [])
own_keys place other one two here there party same = sym (party_at place one here) ∙ (party ∙ party_at other two there)

pub unlent : ComplyTo the_deal [] coins rows unlent_entries
unlent = record {
  funded = comply.funded;
  registrant = 0;
  party = omega arith;
  later = the_deal.steps;
  steps = refl;
  key = key;
  own_keys = own_keys;
  entries_are = refl;
}

pub settles_unlent : settle_refusal (book_of rows unlent_entries) the_deal.id ≡ None
settles_unlent =
    let st = stage the_deal [] coins rows unlent_entries deal_is spellable unlent in
    let same = book_is the_deal [] coins rows unlent_entries deal_is spellable unlent in
    ap (λ (b : History). settle_refusal b the_deal.id) same
    ∙ (λ i. option_or (cond (is_some (st.known i)) None (Some UnknownDeal)) (option_or (option_map DealSettled (st.running i)) None))

pub unlent_lost : payout_of (book_of rows unlent_entries) the_deal.id Commit ann coin < due_of the_deal.steps 0 coins coin
unlent_lost =
    let owned : if_commit_of (book_of rows unlent_entries) the_deal.id ann coin ≡ 0 = front_owned the_deal [] coins rows unlent_entries deal_is spellable unlent 0 coin (omega arith) in
    let due : due_of the_deal.steps 0 coins coin ≡ 2 = refl in
    omega (arith, owned, due)

-- ---- the other ledger, with the registration alone

registered_keys : HaveOwnKeys key (acts_on the_deal notes 0 [])
registered_keys zero zero one two here there party same = refl
registered_keys zero (suc other) one two here there party same = absurd (let e : None ≡ Some two = there in cc)
registered_keys (suc place) other one two here there party same = absurd (let e : None ≡ Some one = here in cc)

none_needed : (party : ℕ) (asset : List ℕ) → party < 2 → need_of the_deal.steps party notes asset ≤ opening_of rows (account_of the_deal.parties party) asset
none_needed zero asset lt = let none : need_of the_deal.steps 0 notes asset ≡ 0 = refl in omega (arith, none)
none_needed (suc zero) asset lt = let none : need_of the_deal.steps 1 notes asset ≡ 0 = refl in omega (arith, none)
none_needed (suc (suc party)) asset lt = absurd (omega (arith, lt))

pub noted : ComplyTo the_deal [] notes rows (register_entry ∷ [])
noted = record {
  funded = record { good = refl; covers = none_needed };
  registrant = 0;
  party = omega arith;
  later = the_deal.steps;
  steps = refl;
  key = key;
  own_keys = registered_keys;
  entries_are = refl;
}

pub noted_history : IsHistory notes rows (register_entry ∷ [])
noted_history = front_accepted the_deal [] notes rows (register_entry ∷ []) deal_is spellable noted

pub settles_noted : settle_refusal (book_of rows (register_entry ∷ [])) the_deal.id ≡ None
settles_noted =
    let st = stage the_deal [] notes rows (register_entry ∷ []) deal_is spellable noted in
    let same = book_is the_deal [] notes rows (register_entry ∷ []) deal_is spellable noted in
    ap (λ (b : History). settle_refusal b the_deal.id) same
    ∙ (λ i. option_or (cond (is_some (st.known i)) None (Some UnknownDeal)) (option_or (option_map DealSettled (st.running i)) None))
