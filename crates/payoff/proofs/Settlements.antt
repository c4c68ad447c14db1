-- Settlements follow the certified lists, so no two differ.
use Rattle.std.proofs.Common.{◌≡◌, ℕ, Bool, true, false, cond, Option, Some, None, Result, Ok, Err, List, [], ◌∷◌, ◌++◌, Contains, refl, ap, sym, ◌∙◌, subst, ⊎_elim}
use Rattle.std.specs.List.{AllByRecursion}
use Rattle.std.specs.Option.{option_or}
use Rattle.std.proofs.lemmas.List.Elements.{Contains-append_right}
use mathlib.Core.List.{IsPrefix}
use Rattle.dh_base.specs.declared.id.Id.{Id}
use Rattle.dh_base.specs.Ids.{same_id}
use Rattle.dh_base.specs.declared.outcome.Outcome.{Outcome}
use Rattle.act_text.specs.declared.act.Act.{Act}
use Rattle.act_text.specs.declared.act.Act.TheVariants.{Register, Pay, Escrow, Transfer, StartDeal, Vote}
use Rattle.act_text.specs.declared.act_fault.ActFault.{ActFault}
use Rattle.act_text.specs.declared.office.Office.TheVariants.{Ledger}
use Rattle.act_text.specs.ActReading.{act_of}
use Rattle.deal_core.specs.Deals.{DealTold}
use Rattle.deal_core.specs.Reading.{IsTextOf}
use Rattle.ledger_rows.specs.declared.entry.Entry.{Entry}
use Rattle.ledger_rows.specs.declared.entry.Entry.TheVariants.{Act as Accepted, Settlement}
use Rattle.ledger_rows.specs.Entries.{digest_of, registered_by_act, registered_by, registration_of}
use Rattle.vote_log.specs.declared.decision.Decision.{Decision}
use Rattle.vote_log.specs.Entry.{Entry as Rec}
use Rattle.vote_log.specs.Deciding.{outcome_of}
use Rattle.vote_log.proofs.Ids.{same_from_bytes}
use Rattle.payoff.specs.Worlds.{World, IsRead}
use Rattle.payoff.specs.Moments.{texts_read}
use Rattle.payoff.specs.Promise.{HasCertified, IsLongest, IsSettledIn, IsFrontIn, IsCompliantIn}
use Rattle.payoff.proofs.Lists.{every_at, at_head, same_some, begins_same}
use Rattle.payoff.proofs.Facts.{IsDecided, IsEntryKept, Kept}

-- ---- the claim behind a settlement

settlement_there : (w : World) (name : List ℕ) (d : Id) (outcome : Outcome) (before : List Entry) (s : IsSettledIn w name d outcome before) → Contains s.ledger.entries (Settlement d outcome)
settlement_there w name d outcome before s =
    subst (λ (h : List Entry). Contains h (Settlement d outcome)) s.parts (Contains-append_right before (Settlement d outcome ∷ s.rest) (Settlement d outcome) (at_head (Settlement d outcome) s.rest))

pub decided : (w : World) → Kept w → (name : List ℕ) (d : Id) (outcome : Outcome) (before : List Entry) → IsSettledIn w name d outcome before → IsDecided w d outcome
decided w kept name d outcome before s =
    every_at (IsEntryKept w) s.ledger.entries (Settlement d outcome) (kept.entries name s.ledger s.here) (settlement_there w name d outcome before s)

pub decision_is : (w : World) (d : Id) (outcome : Outcome) (x : IsDecided w d outcome) → outcome_of x.claim.recs d ≡ Some (record { outcome = outcome; at = x.decision.at })
decision_is w d outcome x = x.decides ∙ ap (λ (o : Outcome). let y : Decision = record { outcome = o; at = x.decision.at } in Some y) x.is

abbrev pub StaysLaw : Type 0
StaysLaw = (log more : List Rec) (deal : Id) (decision : Decision) → outcome_of log deal ≡ Some decision → outcome_of (log ++ more) deal ≡ Some decision

on : StaysLaw → (x y : List Rec) (d : Id) (decision : Decision) → IsPrefix x y → outcome_of x d ≡ Some decision → outcome_of y d ≡ Some decision
on stays x y d decision p e = ap (λ l. outcome_of l d) (sym p.1) ∙ stays x p.0 d decision e

module _ (stays : StaysLaw) (w : World) (certified : List (List Rec)) (has : HasCertified w certified) where
  one_decision : (x y : List Rec) (d : Id) (a b : Decision) → Contains certified x → Contains certified y → outcome_of x d ≡ Some a → outcome_of y d ≡ Some b → a ≡ b
  one_decision x y d a b cx cy ex ey =
      ⊎_elim
      (λ (p : IsPrefix x y). same_some a b (sym (on stays x y d a p ex) ∙ ey))
      (λ (p : IsPrefix y x). same_some a b (sym ex ∙ on stays y x d b p ey))
      (has.one_log x y cx cy)

  certified_claim : (d : Id) (outcome : Outcome) (x : IsDecided w d outcome) → Contains certified x.claim.recs
  certified_claim d outcome x = has.claims x.claim x.set x.shown x.certifies

  pub agree : Kept w → (name other : List ℕ) (d : Id) (outcome second : Outcome) (before earlier : List Entry) → IsSettledIn w name d outcome before → IsSettledIn w other d second earlier → outcome ≡ second
  agree kept name other d outcome second before earlier s t =
      let x = decided w kept name d outcome before s in
      let y = decided w kept other d second earlier t in
      let same : x.decision ≡ y.decision = one_decision x.claim.recs y.claim.recs d x.decision y.decision (certified_claim d outcome x) (certified_claim d second y) x.decides y.decides in
      sym x.is ∙ (ap (λ (o : Decision). o.outcome) same ∙ y.is)

  pub by_log : Kept w → (name : List ℕ) (d : Id) (outcome : Outcome) (before : List Entry) (log : List Rec) → IsSettledIn w name d outcome before → IsLongest certified log → (at : ℕ) × (outcome_of log d ≡ Some (record { outcome = outcome; at = at }))
  by_log kept name d outcome before log s longest =
      let x = decided w kept name d outcome before s in
      let cx = certified_claim d outcome x in
      let e = decision_is w d outcome x in (
        x.decision.at,
        ⊎_elim
            (λ (p : IsPrefix x.claim.recs log). on stays x.claim.recs log d (record { outcome = outcome; at = x.decision.at }) p e)
            (λ (p : IsPrefix log x.claim.recs). ap (λ (l : List Rec). outcome_of l d) (begins_same log x.claim.recs p (longest.longest x.claim.recs cx)) ∙ e)
            (has.one_log x.claim.recs log cx longest.certified_is),
      )

-- ---- the text that a history registers

record IsRegistered (w : World) (id : Id) (text : List ℕ) : Type 0 where
  pub carried : Contains w.texts text
  pub named : id ≡ digest_of text

by_read : (w : World) (id a : Id) (r : Result Act ActFault) (by : Id × List ℕ) → registered_by_act id a r ≡ Some by → AllByRecursion (Contains w.texts) (texts_read r) → IsRegistered w id by.1
by_read w id a (Err fault) by e all = absurd cc
by_read w id a (Ok (Pay house l to x n)) by e all = absurd cc
by_read w id a (Ok (Escrow d l x n)) by e all = absurd cc
by_read w id a (Ok (Transfer d l t to x n)) by e all = absurd cc
by_read w id a (Ok (StartDeal text)) by e all = absurd cc
by_read w id a (Ok (Vote d k choice)) by e all = absurd cc
by_read w id a (Ok (Register text)) by e all = by_test (same_id id (digest_of text)) refl e
  where
    by_test : (b : Bool) → same_id id (digest_of text) ≡ b → cond b (Some (a, text)) None ≡ Some by → IsRegistered w id by.1
    by_test false is e = absurd cc
    by_test true is e =
        let same : ◌≡◌ {A = Id × List ℕ} (a, text) by = same_some (a, text) by e in
        subst (λ (p : Id × List ℕ). IsRegistered w id p.1) same (record { carried = all.0; named = same_from_bytes id (digest_of text) is })

by_entry : (w : World) (id : Id) (entry : Entry) (by : Id × List ℕ) → IsEntryKept w entry → registered_by id entry ≡ Some by → IsRegistered w id by.1
by_entry w id (Accepted a q message) by kept e = by_read w id a (act_of Ledger message) by e kept.carried
by_entry w id (Settlement d outcome) by kept e = absurd cc

by_entries : (w : World) (id : Id) (entries : List Entry) (by : Id × List ℕ) → AllByRecursion (IsEntryKept w) entries → registration_of entries id ≡ Some by → IsRegistered w id by.1
by_entries w id [] by all e = absurd cc
by_entries w id (entry ∷ entries) by all e = by_first (by_entries w id entries by all.1) (registered_by id entry) refl e
  where
    by_first : (registration_of entries id ≡ Some by → IsRegistered w id by.1) → (o : Option (Id × List ℕ)) → registered_by id entry ≡ o → option_or o (registration_of entries id) ≡ Some by → IsRegistered w id by.1
    by_first later None is e = later e
    by_first later (Some first) is e = by_entry w id entry by all.0 (is ∙ e)

front_all : {A : Type 0} (P : A → Type 0) (xs ys : List A) → AllByRecursion P (xs ++ ys) → AllByRecursion P xs
front_all P [] ys a = tt
front_all P (x ∷ xs) ys a = (a.0, front_all P xs ys a.1)

-- the registered deal was read from a carried text, and has the id
pub record IsTheDeal (w : World) (id : Id) (deal : DealTold) : Type 0 where
  pub read : IsRead w deal
  pub named : deal.id ≡ id

pub the_deal : (w : World) → Kept w → (name : List ℕ) (front : List Entry) (id : Id) (index : ℕ) (account : Id) → IsFrontIn w name front → (c : IsCompliantIn w front id index account) → IsTheDeal w id c.deal
the_deal w kept name front id index account f c =
    let all = front_all (IsEntryKept w) front f.rest (subst (AllByRecursion (IsEntryKept w)) (sym f.parts) (kept.entries name f.ledger f.here)) in
    let r = by_entries w id front (c.registrant, c.text) all c.registered in
    record {
      read = record {
        read = subst (IsTextOf c.deal) c.reads.spelled c.reads;
        carried = subst (λ (t : List ℕ). Contains w.texts t) c.reads.spelled r.carried;
      };
      named = ap (λ (bytes : List ℕ). let i : Id = record { 0 = bytes } in i) c.reads.kept.id ∙ (ap digest_of (sym c.reads.spelled) ∙ sym r.named);
    }

pub front_before : (w : World) (name : List ℕ) (d : Id) (outcome : Outcome) (before : List Entry) → IsSettledIn w name d outcome before → IsFrontIn w name before
front_before w name d outcome before s = record { ledger = s.ledger; here = s.here; rest = Settlement d outcome ∷ s.rest; parts = s.parts }
