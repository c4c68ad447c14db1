-- A text has one deal, and reading answers it.
use Rattle.std.proofs.Common.{◌≡◌, ℕ, ◌<◌, List, length, Result, Ok, Err, arith, refl, sym, ap, subst, ◌∙◌}
use Rattle.std.specs.Prelude.{MatchResult}
use Rattle.sha2.specs.Sha256.{sha256}
use Rattle.dh_base.specs.declared.id.Id.{Id}
use Rattle.deal_core.specs.Deals.{DealTold, IsFirstApart}
use Rattle.deal_core.specs.DealText.{deal_text}
use Rattle.deal_core.specs.Kept.{IsDeal}
use Rattle.deal_core.specs.Drafts.{Draft, reading_of}
use Rattle.deal_core.specs.Reading.{draft_of, IsApart, Answers}
use Rattle.deal_core.specs.declared.deal_fault.DealFault.{DealFault}
use Rattle.deal_core.specs.declared.deal_fault.DealFault.TheVariants.{BadLine, PartyTwice, UnknownParty, SelfStep, ZeroAmount, TooMany, SumTooLarge, NotConnected, NoMemory}
use Rattle.deal_core.specs.declared.party.Party.{Party}
use Rattle.deal_core.specs.declared.step.Step.{Step}
use Rattle.line_text.proofs.WordReading.{some_is}

pub ok_same : (d e : Draft) (r : Result Draft DealFault) → r ≡ Ok d → r ≡ Ok e → d ≡ e
ok_same d e r f g = cc

deal_same : (d deal : DealTold) → d.id.0 ≡ deal.id.0 → draft_of d ≡ draft_of deal → d ≡ deal
deal_same d deal id draft =
    let ids : d.id ≡ deal.id = ap (λ (bytes : List ℕ). record { 0 = bytes }) id in
    let house : d.house ≡ deal.house = some_is d.house deal.house (ap (λ (x : Draft). x.house) draft) in
    let name : d.name ≡ deal.name = some_is d.name deal.name (ap (λ (x : Draft). x.name) draft) in
    let parties : d.parties ≡ deal.parties = ap (λ (x : Draft). x.parties) draft in
    let steps : d.steps ≡ deal.steps = ap (λ (x : Draft). x.steps) draft in
    ap (λ (x : Id). record { id = x; house = d.house; name = d.name; parties = d.parties; steps = d.steps }) ids
    ∙ (ap (λ (x : Id). record { id = deal.id; house = x; name = d.name; parties = d.parties; steps = d.steps }) house
    ∙ (ap (λ (x : List ℕ). record { id = deal.id; house = deal.house; name = x; parties = d.parties; steps = d.steps }) name
    ∙ (ap (λ (x : List Party). record { id = deal.id; house = deal.house; name = deal.name; parties = x; steps = d.steps }) parties
    ∙ ap (λ (x : List Step). record { id = deal.id; house = deal.house; name = deal.name; parties = deal.parties; steps = x }) steps)))

not_apart : (text : List ℕ) (deal : DealTold) (party : ℕ) → IsDeal deal → reading_of text ≡ Ok (draft_of deal) → IsApart text party → ⊥
not_apart text deal party kept read a =
    let same : a.draft ≡ draft_of deal = ok_same a.draft (draft_of deal) (reading_of text) a.read read in
    let first : IsFirstApart deal.steps (length deal.parties) party = subst (λ (d : Draft). IsFirstApart d.steps (length d.parties) party) same a.first in
    let some : 0 < length deal.parties = omega (arith, kept.parties) in
    first.1 (kept.connected 0 party some first.0, kept.connected party 0 first.0 some)

pub one_deal : (text : List ℕ) (deal : DealTold) (result : Result DealTold DealFault) → IsDeal deal → text ≡ deal_text deal → reading_of text ≡ Ok (draft_of deal) → Answers text result → MatchResult result (λ read. read ≡ deal) (λ fault. fault ≡ NoMemory)
one_deal text deal (Ok d) kept spelled read h =
    deal_same d deal (h.kept.id ∙ (ap sha256 (sym h.spelled ∙ spelled) ∙ sym kept.id)) (ok_same (draft_of d) (draft_of deal) (reading_of text) h.read read)
one_deal text deal (Err (BadLine n)) kept spelled read h = absurd cc
one_deal text deal (Err (PartyTwice n)) kept spelled read h = absurd cc
one_deal text deal (Err (UnknownParty n)) kept spelled read h = absurd cc
one_deal text deal (Err (SelfStep n)) kept spelled read h = absurd cc
one_deal text deal (Err (ZeroAmount n)) kept spelled read h = absurd cc
one_deal text deal (Err (TooMany n)) kept spelled read h = absurd cc
one_deal text deal (Err (SumTooLarge n)) kept spelled read h = absurd cc
one_deal text deal (Err (NotConnected party)) kept spelled read h = absurd (not_apart text deal party kept read h)
one_deal text deal (Err NoMemory) kept spelled read h = refl
