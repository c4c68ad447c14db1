-- Worked examples of the definitions, worked out by hand.
use Rattle.std.proofs.Common.{◌≡◌, ℕ, zero, suc, ◌<◌, List, [], ◌∷◌, ◌++◌, replicate, Some, Result, Ok, Err, arith, refl, ap}
use Rattle.std.specs.Prelude.{codes}
use Rattle.std.specs.List.{Contains, AllByRecursion}
use Rattle.std.specs.Fmt.{digits}
use Rattle.dh_base.specs.declared.id.Id.{Id}
use Rattle.line_text.specs.Lines.{spelled_lines}
use Rattle.line_text.specs.Reading.{name_word, amount_word}
use Rattle.deal_core.specs.Deals.{matrix_of, Leads, IsConnected, IsJoined, IsFirstApart}
use Rattle.deal_core.specs.DealText.{deal_text}
use Rattle.line_text.specs.Reading.{id_word}
use Rattle.deal_core.specs.Said.{deal_after, house_after, party_after, step_after}
use Rattle.deal_core.specs.Drafts.{Draft, reading_of}
use Rattle.deal_core.specs.declared.deal_fault.DealFault.{DealFault}
use Rattle.deal_core.specs.declared.deal_fault.DealFault.TheVariants.{BadLine, PartyTwice, UnknownParty, SelfStep, ZeroAmount, SumTooLarge}
use Rattle.deal_core.specs.declared.step.Step.{Step}
use Rattle.deal_core.proofs.Walks.{joined_connected}

abbrev passes : ℕ → ℕ → ℕ → Step
passes from to amount = record { from = from; to = to; ledger = codes "bank"; asset = codes "gold"; amount = amount }

-- ---- reading

-- an id of one byte, 32 times
abbrev id : ℕ → Id
id byte = record { 0 = replicate 32 byte }

abbrev heads : List (List ℕ)
heads =
    codes "deal two" ∷ codes "house 0000000000000000000000000000000000000000000000000000000000000000"
    ∷ codes "party a 1111111111111111111111111111111111111111111111111111111111111111"
    ∷ codes "party b 2222222222222222222222222222222222222222222222222222222222222222" ∷ []

-- what is read of a deal between two parties, whose step lines are these
abbrev reads : List (List ℕ) → Result Draft DealFault
reads steps = reading_of (spelled_lines (heads ++ steps))

two : Draft
two = record {
  name = Some (codes "two");
  house = Some (id 0);
  parties = record { name = codes "a"; account = id 0x11 } ∷ record { name = codes "b"; account = id 0x22 } ∷ [];
  steps = passes 0 1 5 ∷ passes 1 0 7 ∷ [];
}

two_is_read : reads (codes "step a b bank gold 5" ∷ codes "step b a bank gold 7" ∷ []) ≡ Ok two
unfolding name_word amount_word id_word deal_after house_after party_after step_after two
two_is_read = refl

two_is_spelled :
    deal_text (record { id = id 0; house = id 0; name = codes "two"; parties = two.parties; steps = two.steps })
    ≡ spelled_lines (heads ++ codes "step a b bank gold 5" ∷ codes "step b a bank gold 7" ∷ [])
unfolding digits two
two_is_spelled = refl

a_step_is_missing : reads [] ≡ Err (BadLine 5)
unfolding name_word amount_word id_word deal_after house_after party_after step_after
a_step_is_missing = refl

-- of the faults of a line the one with the least number is answered
steps_at_fault :
    (reads (codes "step c c bank gold 0" ∷ []) ≡ Err (UnknownParty 5))
    × (reads (codes "step a a bank gold 0" ∷ []) ≡ Err (SelfStep 5))
    × (reads (codes "step a b bank gold 0" ∷ []) ≡ Err (ZeroAmount 5))
    × (reads (codes "step a b bank gold 01" ∷ []) ≡ Err (BadLine 5))
    × (reads (codes "step a b bank gold 9223372036854775807" ∷ codes "step b a bank gold 1" ∷ []) ≡ Err (SumTooLarge 6))
    × (reads (codes "party c 2222222222222222222222222222222222222222222222222222222222222222" ∷ []) ≡ Err (PartyTwice 5))
unfolding name_word amount_word id_word deal_after house_after party_after step_after
steps_at_fault = (refl, refl, refl, refl, refl, refl)

-- ---- the matrix

sums : (matrix_of (passes 0 1 100 ∷ passes 1 0 3 ∷ passes 0 1 7 ∷ []) 0 1 (codes "bank") (codes "gold") ≡ 107)
    × (matrix_of (passes 0 1 100 ∷ passes 1 0 3 ∷ passes 0 1 7 ∷ []) 1 0 (codes "bank") (codes "gold") ≡ 3)
    × (matrix_of (passes 0 1 100 ∷ passes 1 0 3 ∷ passes 0 1 7 ∷ []) 0 1 (codes "bank") (codes "silver") ≡ 0)
sums = (refl, refl, refl)

-- ---- who is reached from whom

abbrev ring : List Step
ring = passes 0 1 5 ∷ passes 1 2 5 ∷ passes 2 0 5 ∷ []

ring_is_connected : IsConnected ring 3
ring_is_connected = joined_connected ring 3 joined
  where
    first : Contains ring (passes 0 1 5)
    first = (0, omega arith, refl)

    second : Contains ring (passes 1 2 5)
    second = (1, omega arith, refl)

    third : Contains ring (passes 2 0 5)
    third = (2, omega arith, refl)

    joined : (party : ℕ) → party < 3 → IsJoined ring party
    joined zero lt = (([], tt, refl), ([], tt, refl))
    joined (suc zero) lt =
        ((passes 0 1 5 ∷ [], (first, tt), (refl, refl)), (passes 1 2 5 ∷ passes 2 0 5 ∷ [], (second, (third, tt)), (refl, (refl, refl))))
    joined (suc (suc zero)) lt =
        ((passes 0 1 5 ∷ passes 1 2 5 ∷ [], (first, (second, tt)), (refl, (refl, refl))), (passes 2 0 5 ∷ [], (third, tt), (refl, refl)))
    joined (suc (suc (suc party))) lt = absurd (omega (arith, lt))

-- party 2 gives nothing
abbrev dead_end : List Step
dead_end = passes 0 1 1 ∷ passes 1 0 1 ∷ passes 0 2 1 ∷ []

none_from_2 : (step : Step) → Contains dead_end step → step.from ≡ 2 → ⊥
none_from_2 step (zero, lt, is) e = omega (arith, ap (λ (s : Step). s.from) is, e)
none_from_2 step (suc zero, lt, is) e = omega (arith, ap (λ (s : Step). s.from) is, e)
none_from_2 step (suc (suc zero), lt, is) e = omega (arith, ap (λ (s : Step). s.from) is, e)
none_from_2 step (suc (suc (suc k)), lt, is) e = omega (arith, lt)

none_back : (walk : List Step) → AllByRecursion (Contains dead_end) walk → Leads walk 2 0 → ⊥
none_back [] along h = omega (arith, h)
none_back (step ∷ walk) along h = none_from_2 step along.0 h.0

party_2_is_apart : IsFirstApart dead_end 3 2
party_2_is_apart = (omega arith, λ joined. none_back joined.1.0 joined.1.1 joined.1.2, before)
  where
    before : (other : ℕ) → other < 2 → IsJoined dead_end other
    before zero lt = (([], tt, refl), ([], tt, refl))
    before (suc zero) lt =
        ((passes 0 1 1 ∷ [], ((0, omega arith, refl), tt), (refl, refl)), (passes 1 0 1 ∷ [], ((1, omega arith, refl), tt), (refl, refl)))
    before (suc (suc other)) lt = absurd (omega (arith, lt))
