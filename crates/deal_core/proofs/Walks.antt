-- Walks, and marks that follow them.
use Rattle.std.proofs.Common.{◌≡◌, ℕ, zero, suc, ◌≤◌, ◌<◌, ◌⊎◌, inl, inr, Bool, true, false, List, [], ◌∷◌, ◌++◌, length, set, arith, refl, sym, ap, subst, ◌∙◌}
use Rattle.std.specs.List.{Contains, AllByRecursion}
use Rattle.std.proofs.lemmas.List.{length-set}
use Rattle.deal_core.specs.Deals.{Leads, Reaches, IsConnected, IsJoined}
use Rattle.deal_core.specs.Kept.{IsStepOf}
use Rattle.deal_core.specs.Marks.{near, far, IsOnWay, is_marked, IsNext, IsClosed, AreMarks}
use Rattle.deal_core.specs.declared.step.Step.{Step}
use Rattle.deal_core.specs.declared.reach.Way.{Way}
use Rattle.deal_core.specs.declared.reach.Way.TheVariants.{From, To}

-- ---- walks

leads_on : (walk more : List Step) (a b c : ℕ) → Leads walk a b → Leads more b c → Leads (walk ++ more) a c
leads_on [] more a b c h k = subst (λ x. Leads more x c) (sym h) k
leads_on (step ∷ walk) more a b c h k = (h.0, leads_on walk more step.to b c h.1 k)

along_both : (steps walk more : List Step) → AllByRecursion (Contains steps) walk → AllByRecursion (Contains steps) more → AllByRecursion (Contains steps) (walk ++ more)
along_both steps [] more h k = k
along_both steps (step ∷ walk) more h k = (h.0, along_both steps walk more h.1 k)

pub reaches_on : (steps : List Step) (a b c : ℕ) → Reaches steps a b → Reaches steps b c → Reaches steps a c
reaches_on steps a b c h k = (h.0 ++ k.0, along_both steps h.0 k.0 h.1 k.1, leads_on h.0 k.0 a b c h.2 k.2)

step_reaches : (steps : List Step) (step : Step) → Contains steps step → Reaches steps step.from step.to
step_reaches steps step h = (step ∷ [], (h, tt), (refl, refl))

pub joined_connected : (steps : List Step) (parties : ℕ) → ((party : ℕ) → party < parties → IsJoined steps party) → IsConnected steps parties
joined_connected steps parties h from to f t = reaches_on steps from 0 to (h from f).1 (h to t).0

pub weaker : (few many : ℕ) (steps : List Step) → few ≤ many → AllByRecursion (IsStepOf few) steps → AllByRecursion (IsStepOf many) steps
weaker few many [] le h = tt
weaker few many (step ∷ steps) le h = (record { from = omega (arith, h.0.from); to = omega (arith, h.0.to); different = h.0.different; some = h.0.some }, weaker few many steps le h.1)

-- ---- one mark more

at_start : (way : Way) (steps : List Step) → IsOnWay way steps 0
at_start From steps = ([], tt, refl)
at_start To steps = ([], tt, refl)

-- where a step leads from a party on the way, there the way goes on
way_on : (way : Way) (steps : List Step) (step : Step) → Contains steps step → IsOnWay way steps (near way step) → IsOnWay way steps (far way step)
way_on From steps step h k = reaches_on steps 0 step.from step.to k (step_reaches steps step h)
way_on To steps step h k = reaches_on steps step.from step.to 0 (step_reaches steps step h) k

pub record IsMarking (way : Way) (steps : List Step) (marks : List Bool) : Type 0 where
  pub long : length marks ≡ 16
  pub first : is_marked marks 0 ≡ true
  pub sound : (party : ℕ) → is_marked marks party ≡ true → IsOnWay way steps party

set_marked : (marks : List Bool) (place party : ℕ) → is_marked (set marks place true) party ≡ true → (party ≡ place) ⊎ (is_marked marks party ≡ true)
set_marked [] place party h = inr h
set_marked (mark ∷ marks) zero zero h = inl refl
set_marked (mark ∷ marks) zero (suc party) h = inr h
set_marked (mark ∷ marks) (suc place) zero h = inr h
set_marked (mark ∷ marks) (suc place) (suc party) h = elim (set_marked marks place party h) [ inl e ↦ inl (omega (arith, e)) | inr m ↦ inr m ]

set_keeps : (marks : List Bool) (place party : ℕ) → is_marked marks party ≡ true → is_marked (set marks place true) party ≡ true
set_keeps [] place party h = h
set_keeps (mark ∷ marks) zero zero h = refl
set_keeps (mark ∷ marks) zero (suc party) h = h
set_keeps (mark ∷ marks) (suc place) zero h = h
set_keeps (mark ∷ marks) (suc place) (suc party) h = set_keeps marks place party h

pub marks_more : (way : Way) (steps : List Step) (marks : List Bool) (place : ℕ) → IsMarking way steps marks → IsNext way steps marks place → IsMarking way steps (set marks place true)
marks_more way steps marks place m n =
    let here : IsOnWay way steps place = subst (IsOnWay way steps) n.4 (way_on way steps n.0 n.1 (m.sound (near way n.0) n.2)) in
    record {
      long = length-set marks place true ∙ m.long;
      first = set_keeps marks place 0 m.first;
      sound = λ party h. elim (set_marked marks place party h) [ inl e ↦ subst (IsOnWay way steps) (sym e) here | inr k ↦ m.sound party k ];
    }

-- how many parties have no mark
pub unmarked : List Bool → ℕ
unmarked [] = 0
unmarked (true ∷ marks) = unmarked marks
unmarked (false ∷ marks) = suc (unmarked marks)

pub marks_fewer : (marks : List Bool) (place : ℕ) → place < length marks → is_marked marks place ≡ false → unmarked (set marks place true) < unmarked marks
unfolding unmarked
marks_fewer [] place h e = absurd (omega (arith, h))
marks_fewer (true ∷ marks) zero h e = absurd cc
marks_fewer (false ∷ marks) zero h e = omega arith
marks_fewer (true ∷ marks) (suc place) h e = marks_fewer marks place (omega (arith, h)) e
marks_fewer (false ∷ marks) (suc place) h e = omega (arith, marks_fewer marks place (omega (arith, h)) e)

-- ---- no mark more

closed_from : (steps : List Step) (marks : List Bool) → IsClosed From steps marks → (walk : List Step) (a b : ℕ) → AllByRecursion (Contains steps) walk → Leads walk a b → is_marked marks a ≡ true → is_marked marks b ≡ true
closed_from steps marks c [] a b along h m = ap (is_marked marks) (sym h) ∙ m
closed_from steps marks c (step ∷ walk) a b along h m =
    closed_from steps marks c walk step.to b along.1 h.1 (c step along.0 (ap (is_marked marks) h.0 ∙ m))

closed_to : (steps : List Step) (marks : List Bool) → IsClosed To steps marks → (walk : List Step) (a b : ℕ) → AllByRecursion (Contains steps) walk → Leads walk a b → is_marked marks b ≡ true → is_marked marks a ≡ true
closed_to steps marks c [] a b along h m = ap (is_marked marks) h ∙ m
closed_to steps marks c (step ∷ walk) a b along h m =
    ap (is_marked marks) (sym h.0) ∙ c step along.0 (closed_to steps marks c walk step.to b along.1 h.1 m)

pub marks_all : (way : Way) (steps : List Step) (marks : List Bool) → IsMarking way steps marks → IsClosed way steps marks → AreMarks way steps marks
marks_all From steps marks m c party = (m.sound party, λ h. closed_from steps marks c h.0 0 party h.1 h.2 m.first)
marks_all To steps marks m c party = (m.sound party, λ h. closed_to steps marks c h.0 party 0 h.1 h.2 m.first)
