-- Worked examples of the definitions, worked out by hand: a ring of three payments, and a broker's deal.
use Rattle.std.proofs.Common.{◌≡◌, ℕ, zero, suc, ◌≤◌, List, [], ◌∷◌, ◌++◌, replicate, Ok, Err, arith, refl, subst, lit≤}
use Rattle.std.specs.Prelude.{codes}
use Rattle.std.specs.List.{Contains, flat_map}
use Rattle.std.specs.Fmt.{digits}
use Rattle.std.specs.declared.cmp.Ordering.TheVariants.{Less}
use Rattle.deal_core.specs.Deals.{DealTold}
use Rattle.deal_core.specs.declared.party.Party.{Party}
use Rattle.deal_core.specs.declared.step.Step.{Step}
use Rattle.clear_core.specs.Clearing.{need_of, due_of}
use Rattle.clear_core.specs.Pairs.{pair_of, pair_cmp, pairs_of}
use Rattle.clear_core.specs.Plans.{plan_of}
use Rattle.clear_core.specs.Summaries.{clearing_of}
use Rattle.clear_core.specs.TermsKept.{allowed_of, NoneOver, ChecksTerms}
use Rattle.clear_core.specs.declared.limit.Limit.{Limit}
use Rattle.clear_core.specs.declared.plan_act.PlanAct.TheVariants.{Register, Escrow, Transfer}
use Rattle.clear_core.specs.declared.term_fault.TermFault.TheVariants.{GivesMore, GetsLess}
use Rattle.clear_core.specs.declared.terms.Terms.{Terms}

abbrev bank : List ℕ
bank = codes "bank"

abbrev gold : List ℕ
gold = codes "gold"

-- ---- the ring

abbrev pays : ℕ → ℕ → Step
pays from to = record { from = from; to = to; ledger = bank; asset = gold; amount = 5 }

abbrev ring : List Step
ring = pays 0 1 ∷ pays 1 2 ∷ pays 2 0 ∷ []

ring_needs : (need_of ring 0 bank gold ≡ 5) × (need_of ring 1 bank gold ≡ 0) × (need_of ring 2 bank gold ≡ 0)
ring_needs = (refl, refl, refl)

ring_dues : (due_of ring 0 bank gold ≡ 5) × (due_of ring 1 bank gold ≡ 0) × (due_of ring 2 bank gold ≡ 0)
ring_dues = (refl, refl, refl)

ring_plan : plan_of ring 0 ≡ Register ∷ Escrow bank gold 5 ∷ Transfer bank 0 1 gold 5 ∷ []
ring_plan = refl

abbrev called : List ℕ → ℕ → Party
called name byte = record { name = name; account = record { 0 = replicate 32 byte } }

abbrev ring_deal : DealTold
ring_deal = record {
  id = record { 0 = replicate 32 7 };
  house = record { 0 = replicate 32 0 };
  name = codes "ring";
  parties = called (codes "a") 0x11 ∷ called (codes "b") 0x22 ∷ called (codes "c") 0x33 ∷ [];
  steps = ring;
}

-- the texts, a line feed behind each
abbrev lines : List (List ℕ) → List ℕ
lines texts = flat_map (λ text. text ++ 10 ∷ []) texts

ring_is_told :
    clearing_of ring_deal
    ≡ lines (
    codes "deal ring" ∷ codes "id 0707070707070707070707070707070707070707070707070707070707070707"
    ∷ codes "matrix a b bank gold 5" ∷ codes "matrix b c bank gold 5" ∷ codes "matrix c a bank gold 5"
    ∷ codes "need a bank gold 5" ∷ codes "due a bank gold 5" ∷ [])
unfolding digits
ring_is_told = refl

-- ---- the broker, who is party 0: Bob's ticket goes on to Carol, and of Carol's coins one stays

abbrev coins : List ℕ
coins = codes "coins"

abbrev coin : List ℕ
coin = codes "coin"

abbrev tickets : List ℕ
tickets = codes "tickets"

abbrev ticket : List ℕ
ticket = codes "ticket"

abbrev broker : List Step
broker =
    record { from = 1; to = 0; ledger = tickets; asset = ticket; amount = 1 }
    ∷ record { from = 0; to = 2; ledger = tickets; asset = ticket; amount = 1 }
    ∷ record { from = 2; to = 0; ledger = coins; asset = coin; amount = 101 }
    ∷ record { from = 0; to = 1; ledger = coins; asset = coin; amount = 100 } ∷ []

broker_needs :
    (need_of broker 0 tickets ticket ≡ 0) × (need_of broker 0 coins coin ≡ 0)
    × (need_of broker 1 tickets ticket ≡ 1) × (need_of broker 1 coins coin ≡ 0)
    × (need_of broker 2 tickets ticket ≡ 0) × (need_of broker 2 coins coin ≡ 101)
broker_needs = (refl, refl, refl, refl, refl, refl)

broker_dues :
    (due_of broker 0 tickets ticket ≡ 0) × (due_of broker 0 coins coin ≡ 1)
    × (due_of broker 1 tickets ticket ≡ 0) × (due_of broker 1 coins coin ≡ 100)
    × (due_of broker 2 tickets ticket ≡ 1) × (due_of broker 2 coins coin ≡ 0)
broker_dues = (refl, refl, refl, refl, refl, refl)

broker_pairs : pairs_of broker ≡ record { ledger = coins; asset = coin } ∷ record { ledger = tickets; asset = ticket } ∷ []
broker_pairs = refl

broker_plan : plan_of broker 0 ≡ Register ∷ Transfer tickets 0 2 ticket 1 ∷ Transfer coins 0 1 coin 100 ∷ []
broker_plan = refl

-- ---- the terms of the ring's first party

abbrev of_gold : ℕ → List Limit
of_gold amount = record { ledger = bank; asset = gold; amount = amount } ∷ []

abbrev terms : ℕ → ℕ → Terms
terms gives gets = record { gives = of_gold gives; gets = of_gold gets; deadline = 50 }

-- what holds of each payment of the ring
each_payment : (P : Step → Type 0) → P (pays 0 1) → P (pays 1 2) → P (pays 2 0) → (step : Step) → Contains ring step → P step
each_payment P first second third step (zero, lt, is) = subst P is first
each_payment P first second third step (suc zero, lt, is) = subst P is second
each_payment P first second third step (suc (suc zero), lt, is) = subst P is third
each_payment P first second third step (suc (suc (suc k)), lt, is) = absurd (omega (arith, lt))

five_suffice : NoneOver ring 0 (of_gold 5)
five_suffice = each_payment (λ step. need_of ring 0 step.ledger step.asset ≤ allowed_of (of_gold 5) step.ledger step.asset) (lit≤ tt) (lit≤ tt) (lit≤ tt)

five_and_five_are_kept : ChecksTerms ring 0 (terms 5 5) (Ok tt)
five_and_five_are_kept = (five_suffice, refl)

six_are_too_many : ChecksTerms ring 0 (terms 5 6) (Err (GetsLess bank gold 5 6))
six_are_too_many = (five_suffice, refl, refl)

abbrev asked_of : Step → Type 0
asked_of step = pair_cmp (pair_of step) (record { ledger = bank; asset = gold }) ≡ Less → need_of ring 0 step.ledger step.asset ≤ allowed_of (of_gold 4) step.ledger step.asset

four_are_too_few : ChecksTerms ring 0 (terms 4 6) (Err (GivesMore bank gold 5 4))
four_are_too_few = (
  record {
    step = pays 0 1;
    of_deal = (0, omega arith, refl);
    pair_is = refl;
    over = lit≤ tt;
    first = each_payment asked_of (λ before. absurd cc) (λ before. absurd cc) (λ before. absurd cc);
  },
  refl,
  refl,
)
