-- One id has one deal, and one index one account.
use Rattle.std.proofs.Common.{◌≡◌, ℕ, suc, ◌+◌, ◌<◌, Bool, true, false, cond, Some, Result, Ok, List, [], ◌∷◌, length, slice_get, refl, ap, sym, ◌∙◌, arith}
use Rattle.std.proofs.lemmas.List.{length-map}
use Rattle.sha2.specs.Sha256.{sha256}
use Rattle.dh_base.specs.declared.id.Id.{Id}
use Rattle.deal_core.specs.declared.party.Party.{Party}
use Rattle.deal_core.specs.declared.deal_fault.DealFault.{DealFault}
use Rattle.deal_core.specs.Deals.{DealTold, party_where, has_account, index_of_account}
use Rattle.deal_core.specs.DealText.{deal_text}
use Rattle.deal_core.specs.Drafts.{Draft, reading_of, accounts_in, parties_in}
use Rattle.deal_core.specs.Reading.{IsTextOf, draft_of}
use Rattle.vote_log.proofs.Ids.{same_from_bytes}
use Rattle.payoff.specs.Worlds.{World, HasOneText, IsRead}
use Rattle.payoff.proofs.Lists.{same_some}

draft_is : (x y : Draft) → ◌≡◌ {A = Result Draft DealFault} (Ok x) (Ok y) → x ≡ y
draft_is x y e = cc

same_deal : (s t : DealTold) → draft_of s ≡ draft_of t → s.id ≡ t.id → s ≡ t
same_deal s t e id =
    let name : s.name ≡ t.name = same_some s.name t.name (ap (λ (d : Draft). d.name) e) in
    let house : s.house ≡ t.house = same_some s.house t.house (ap (λ (d : Draft). d.house) e) in
    let parties : s.parties ≡ t.parties = ap (λ (d : Draft). d.parties) e in
    let steps : s.steps ≡ t.steps = ap (λ (d : Draft). d.steps) e in
    λ i. record { id = id i; house = house i; name = name i; parties = parties i; steps = steps i }

pub one_deal : (w : World) (s t : DealTold) → HasOneText w → IsRead w s → IsRead w t → s.id ≡ t.id → s ≡ t
one_deal w s t one rs rt same =
    let hashes : sha256 (deal_text s) ≡ sha256 (deal_text t) = sym rs.read.kept.id ∙ (ap (λ (i : Id). i.0) same ∙ rt.read.kept.id) in
    let texts : deal_text s ≡ deal_text t = one (deal_text s) (deal_text t) rs.carried rt.carried hashes in
    same_deal s t (draft_is (draft_of s) (draft_of t) (sym rs.read.read ∙ (ap reading_of texts ∙ rt.read.read))) same

-- a text has as many parties as its deal
pub so_many : (deal : DealTold) (text : List ℕ) → IsTextOf deal text → length (parties_in text) ≡ length deal.parties
so_many deal text is = ap (λ (r : Result Draft DealFault). length (accounts_in r)) is.read ∙ length-map deal.parties (λ (party : Party). party.account)

-- ---- indices

record IsThere (account : Id) (parties : List Party) (first index : ℕ) : Type 0 where
  party : Party
  place : ℕ
  here : slice_get parties place ≡ Some party
  is : party.account ≡ account
  within : place < length parties
  counted : first + place ≡ index

there : (account : Id) (parties : List Party) (first index : ℕ) → party_where (has_account account) first parties ≡ Some index → IsThere account parties first index
there account [] first index e = absurd cc
there account (party ∷ parties) first index e = by_test (there account parties (first + 1) index) (has_account account party) refl e
  where
    by_test : (party_where (has_account account) (first + 1) parties ≡ Some index → IsThere account parties (first + 1) index) → (b : Bool) → has_account account party ≡ b → cond b (Some first) (party_where (has_account account) (first + 1) parties) ≡ Some index → IsThere account (party ∷ parties) first index
    by_test ih true is e = record { party = party; place = 0; here = refl; is = sym (same_from_bytes account party.account is); within = omega arith; counted = omega (arith, same_some first index e) }
    by_test ih false is e =
        let r = ih e in
        record { party = r.party; place = suc r.place; here = r.here; is = r.is; within = omega (arith, r.within); counted = omega (arith, r.counted) }

pub index_below : (account : Id) (parties : List Party) (index : ℕ) → index_of_account parties account ≡ Some index → index < length parties
index_below account parties index e = let r = there account parties 0 index e in omega (arith, r.within, r.counted)

pub one_account : (account other : Id) (parties : List Party) (index : ℕ) → index_of_account parties account ≡ Some index → index_of_account parties other ≡ Some index → account ≡ other
one_account account other parties index e f =
    let r = there account parties 0 index e in
    let s = there other parties 0 index f in
    let places : r.place ≡ s.place = omega (arith, r.counted, s.counted) in
    let same : r.party ≡ s.party = same_some r.party s.party (sym r.here ∙ (ap (slice_get parties) places ∙ s.here)) in
    sym r.is ∙ (ap (λ (party : Party). party.account) same ∙ s.is)
