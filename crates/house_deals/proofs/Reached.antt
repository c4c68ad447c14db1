-- After as many rounds as there may be parties, exactly the parties on the way are marked.
use Rattle.std.proofs.Common.{◌≡◌, ℕ, zero, suc, ◌+◌, ◌≤◌, ◌<◌, ◌⊎◌, inl, inr, Bool, true, false, cond, ◌&&◌, List, [], ◌∷◌, length, take, replicate, set, arith, add-one, refl, sym, ap, subst, ◌∙◌}
use Rattle.std.specs.Prelude.{slice_index_or}
use Rattle.std.specs.List.{Contains, AllByRecursion, list_all}
use Rattle.std.proofs.lemmas.Bool.{and_parts, cases_Bool}
use Rattle.std.proofs.lemmas.List.{length-set}
use Rattle.deal_core.specs.Deals.{IsConnected}
use Rattle.deal_core.specs.Marks.{near, far, IsOnWay, is_marked, IsClosed, AreMarks}
use Rattle.deal_core.specs.declared.step.Step.{Step}
use Rattle.deal_core.specs.declared.reach.Way.{Way}
use Rattle.deal_core.specs.declared.reach.Way.TheVariants.{From, To}
use Rattle.deal_core.proofs.Walks.{IsMarking, marks_more, marks_all, joined_connected}
use Rattle.house_deals.specs.Connected.{marked_by, one_round, after_rounds, first_mark, marks_of, is_true, are_marked, is_connected}
use Rattle.house_deals.specs.DealSteps.{IsWithin}

-- ---- steps in a list

contained_cases : (x : Step) (xs : List Step) (y : Step) → Contains (x ∷ xs) y → (y ≡ x) ⊎ Contains xs y
contained_cases x xs y c = at c.0 c.1 c.2
  where
    at : (k : ℕ) → k < length (x ∷ xs) → slice_index_or (x ∷ xs) k y ≡ y → (y ≡ x) ⊎ Contains xs y
    at zero lt e = inl (sym e)
    at (suc k) lt e = inr (k, omega (arith, lt), e)

at_head : (x : Step) (xs : List Step) → Contains (x ∷ xs) x
at_head x xs = (0, omega arith, refl)

in_tail : (x : Step) (xs : List Step) (y : Step) → Contains xs y → Contains (x ∷ xs) y
in_tail x xs y c = (suc c.0, omega (arith, c.1), c.2)

all_at : (P : Step → Type 0) (xs : List Step) (y : Step) → AllByRecursion P xs → Contains xs y → P y
all_at P [] y h c = absurd (omega (arith, c.1))
all_at P (x ∷ xs) y h c = elim (contained_cases x xs y c) [ inl e ↦ subst P (sym e) h.0 | inr t ↦ all_at P xs y h.1 t ]

-- ---- parties without a mark

blanks : List Bool → ℕ
blanks [] = 0
blanks (true ∷ marks) = blanks marks
blanks (false ∷ marks) = suc (blanks marks)

set_same : (marks : List Bool) (place : ℕ) → is_marked marks place ≡ true → set marks place true ≡ marks
set_same [] place h = absurd cc
set_same (mark ∷ marks) zero h = ap (λ (b : Bool). b ∷ marks) (sym h)
set_same (mark ∷ marks) (suc place) h = ap (λ (xs : List Bool). mark ∷ xs) (set_same marks place h)

set_fewer : (marks : List Bool) (place : ℕ) → place < length marks → is_marked marks place ≡ false → blanks (set marks place true) < blanks marks
unfolding blanks
set_fewer [] place h e = absurd (omega (arith, h))
set_fewer (true ∷ marks) zero h e = absurd cc
set_fewer (false ∷ marks) zero h e = omega arith
set_fewer (true ∷ marks) (suc place) h e = set_fewer marks place (omega (arith, h)) e
set_fewer (false ∷ marks) (suc place) h e = omega (arith, set_fewer marks place (omega (arith, h)) e)

-- ---- one step

-- a step that spreads nothing
record IsStill (way : Way) (marks : List Bool) (step : Step) : Type 0 where
  same : marked_by way marks step ≡ marks
  closed : is_marked marks (near way step) ≡ true → is_marked marks (far way step) ≡ true

-- a step that marks one more
record IsSpread (way : Way) (marks : List Bool) (step : Step) : Type 0 where
  near_is : is_marked marks (near way step) ≡ true
  far_is : is_marked marks (far way step) ≡ false
  next : marked_by way marks step ≡ set marks (far way step) true

step_cases : (way : Way) (marks : List Bool) (step : Step) → IsStill way marks step ⊎ IsSpread way marks step
step_cases way marks step =
    elim (cases_Bool (is_marked marks (near way step))) [
      | inl n ↦
          let by_near : marked_by way marks step ≡ set marks (far way step) true = ap (λ (b : Bool). cond b (set marks (far way step) true) marks) n in
          elim (cases_Bool (is_marked marks (far way step))) [
            | inl f ↦ inl (record { same = by_near ∙ set_same marks (far way step) f; closed = λ h. f })
            | inr f ↦ inr (record { near_is = n; far_is = f; next = by_near })
          ]
      | inr n ↦ inl (record { same = ap (λ (b : Bool). cond b (set marks (far way step) true) marks) n; closed = λ h. absurd (let e : true ≡ false = sym h ∙ n in cc) })
    ]

marked_long : (way : Way) (marks : List Bool) (step : Step) → length (marked_by way marks step) ≡ length marks
marked_long way marks step = elim (step_cases way marks step) [ inl still ↦ ap length still.same | inr spread ↦ ap length spread.next ∙ length-set marks (far way step) true ]

-- ---- one round

abbrev AreNear : Way → List Step → Type 0
AreNear way xs = AllByRecursion (λ (step : Step). far way step < 16) xs

never_more : (way : Way) (xs : List Step) (marks : List Bool) → AreNear way xs → length marks ≡ 16 → blanks (one_round way xs marks) ≤ blanks marks
never_more way [] marks near_all long = omega arith
never_more way (x ∷ xs) marks near_all long =
    let rest = never_more way xs (marked_by way marks x) near_all.1 (marked_long way marks x ∙ long) in
    elim (step_cases way marks x) [
      | inl still ↦ omega (arith, rest, ap blanks still.same)
      | inr spread ↦ omega (arith, rest, ap blanks spread.next, set_fewer marks (far way x) (omega (arith, near_all.0, long)) spread.far_is)
    ]

-- a round that spreads nothing
record IsQuiet (way : Way) (xs : List Step) (marks : List Bool) : Type 0 where
  same : one_round way xs marks ≡ marks
  closed : IsClosed way xs marks

quiet_more : (way : Way) (x : Step) (xs : List Step) (marks : List Bool) → IsStill way marks x → IsQuiet way xs marks → IsQuiet way (x ∷ xs) marks
quiet_more way x xs marks still quiet =
    record {
      same = ap (one_round way xs) still.same ∙ quiet.same;
      closed = λ step c n. elim (contained_cases x xs step c) [
        | inl e ↦ ap (λ (s : Step). is_marked marks (far way s)) e ∙ still.closed (ap (λ (s : Step). is_marked marks (near way s)) (sym e) ∙ n)
        | inr there ↦ quiet.closed step there n
      ];
    }

round_cases : (way : Way) (xs : List Step) (marks : List Bool) → AreNear way xs → length marks ≡ 16 → IsQuiet way xs marks ⊎ (blanks (one_round way xs marks) < blanks marks)
round_cases way [] marks near_all long = inl (record { same = refl; closed = λ step c n. absurd (omega (arith, c.1)) })
round_cases way (x ∷ xs) marks near_all long =
    elim (step_cases way marks x) [
      | inl still ↦
          elim (round_cases way xs marks near_all.1 long) [
            | inl quiet ↦ inl (quiet_more way x xs marks still quiet)
            | inr less ↦ inr (omega (arith, less, ap (λ (m : List Bool). blanks (one_round way xs m)) still.same))
          ]
      | inr spread ↦
          inr (omega (arith, never_more way xs (marked_by way marks x) near_all.1 (marked_long way marks x ∙ long), ap blanks spread.next, set_fewer marks (far way x) (omega (arith, near_all.0, long)) spread.far_is))
    ]

-- marks stay sound
round_marks : (way : Way) (steps xs : List Step) (marks : List Bool) → ((step : Step) → Contains xs step → Contains steps step) → AreNear way xs → IsMarking way steps marks → IsMarking way steps (one_round way xs marks)
round_marks way steps [] marks among near_all m = m
round_marks way steps (x ∷ xs) marks among near_all m =
    round_marks way steps xs (marked_by way marks x) (λ step c. among step (in_tail x xs step c)) near_all.1
    (elim (step_cases way marks x) [
      | inl still ↦ subst (IsMarking way steps) (sym still.same) m
      | inr spread ↦ subst (IsMarking way steps) (sym spread.next) (marks_more way steps marks (far way x) m (x, among x (at_head x xs), spread.near_is, spread.far_is, refl, near_all.0))
    ])

-- ---- all rounds

no_mark : (n place : ℕ) → is_marked (replicate n false) place ≡ false
no_mark zero place = refl
no_mark (suc n) zero = refl
no_mark (suc n) (suc place) = no_mark n place

first_sound : (way : Way) (steps : List Step) (party : ℕ) → is_marked first_mark party ≡ true → IsOnWay way steps party
unfolding first_mark
first_sound From steps zero h = ([], tt, refl)
first_sound To steps zero h = ([], tt, refl)
first_sound way steps (suc party) h = absurd (let e : true ≡ false = sym h ∙ no_mark 15 party in cc)

first_marking : (way : Way) (steps : List Step) → IsMarking way steps first_mark
unfolding first_mark
first_marking way steps = record { long = refl; first = refl; sound = first_sound way steps }

rounds_marking : (way : Way) (steps : List Step) (n : ℕ) → AreNear way steps → IsMarking way steps (after_rounds way steps n first_mark)
unfolding after_rounds
rounds_marking way steps zero near_all = first_marking way steps
rounds_marking way steps (suc n) near_all = round_marks way steps steps (after_rounds way steps n first_mark) (λ step c. c) near_all (rounds_marking way steps n near_all)

first_blanks : blanks first_mark ≡ 15
unfolding blanks first_mark
first_blanks = refl

quiet_next : (way : Way) (steps : List Step) (marks : List Bool) → IsQuiet way steps marks → IsQuiet way steps (one_round way steps marks)
quiet_next way steps marks quiet = subst (IsQuiet way steps) (sym quiet.same) quiet

rounds_cases : (way : Way) (steps : List Step) (n : ℕ) → AreNear way steps → IsQuiet way steps (after_rounds way steps n first_mark) ⊎ (blanks (after_rounds way steps n first_mark) + n ≤ 15)
unfolding after_rounds
rounds_cases way steps zero near_all = inr (omega (arith, first_blanks))
rounds_cases way steps (suc n) near_all =
    let marks : List Bool = after_rounds way steps n first_mark in
    elim (rounds_cases way steps n near_all) [
      | inl quiet ↦ inl (quiet_next way steps marks quiet)
      | inr few ↦
          elim (round_cases way steps marks near_all (rounds_marking way steps n near_all).long) [
            | inl quiet ↦ inl (quiet_next way steps marks quiet)
            | inr less ↦ inr (omega (arith, few, less))
          ]
    ]

marked_exactly : (way : Way) (steps : List Step) → AreNear way steps → AreMarks way steps (marks_of way steps)
marked_exactly way steps near_all =
    elim (rounds_cases way steps 16 near_all) [
      | inl quiet ↦ marks_all way steps (marks_of way steps) (rounds_marking way steps 16 near_all) quiet.closed
      | inr few ↦ absurd (omega (arith, few))
    ]

pub round_next : (way : Way) (steps : List Step) (n : ℕ) (marks : List Bool) → after_rounds way steps (n + 1) marks ≡ one_round way steps (after_rounds way steps n marks)
unfolding after_rounds
round_next way steps n marks = rw add-one refl

-- ---- each of the first parties

marked_each : (marks : List Bool) (n party : ℕ) → list_all is_true (take n marks) ≡ true → n ≤ length marks → party < n → is_marked marks party ≡ true
marked_each [] n party h le lt = absurd (omega (arith, le, lt))
marked_each (mark ∷ marks) zero party h le lt = absurd (omega (arith, lt))
marked_each (mark ∷ marks) (suc n) zero h le lt = (and_parts mark (list_all is_true (take n marks)) h).0
marked_each (mark ∷ marks) (suc n) (suc party) h le lt = marked_each marks n party (and_parts mark (list_all is_true (take n marks)) h).1 (omega (arith, le)) (omega (arith, lt))

each_marked : (marks : List Bool) (n : ℕ) → n ≤ length marks → ((party : ℕ) → party < n → is_marked marks party ≡ true) → list_all is_true (take n marks) ≡ true
each_marked marks zero le h = refl
each_marked [] (suc n) le h = absurd (omega (arith, le))
each_marked (mark ∷ marks) (suc n) le h =
    ap (λ (b : Bool). b && list_all is_true (take n marks)) (h 0 (omega arith)) ∙ each_marked marks n (omega (arith, le)) (λ party lt. h (suc party) (omega (arith, lt)))

-- ---- connected

all_weaker : (P Q : Step → Type 0) (xs : List Step) → ((step : Step) → P step → Q step) → AllByRecursion P xs → AllByRecursion Q xs
all_weaker P Q [] f h = tt
all_weaker P Q (x ∷ xs) f h = (f x h.0, all_weaker P Q xs f h.1)

near_ends : (way : Way) (parties : ℕ) (step : Step) → parties ≤ 16 → IsWithin parties step → far way step < 16
near_ends From parties step le h = omega (arith, le, h.to)
near_ends To parties step le h = omega (arith, le, h.from)

pub connected_is : (steps : List Step) (parties : ℕ) → parties ≤ 16 → AllByRecursion (IsWithin parties) steps → is_connected steps parties ≡ true → IsConnected steps parties
connected_is steps parties le within h =
    let near_all = λ (way : Way). all_weaker (IsWithin parties) (λ (step : Step). far way step < 16) steps (λ step w. near_ends way parties step le w) within in
    let parts = and_parts (are_marked (marks_of From steps) parties) (are_marked (marks_of To steps) parties) h in
    joined_connected steps parties (λ party lt. (
      (marked_exactly From steps (near_all From) party).0 (marked_each (marks_of From steps) parties party parts.0 (omega (arith, le, (rounds_marking From steps 16 (near_all From)).long)) lt),
      (marked_exactly To steps (near_all To) party).0 (marked_each (marks_of To steps) parties party parts.1 (omega (arith, le, (rounds_marking To steps 16 (near_all To)).long)) lt),
    ))

pub is_connected_so : (steps : List Step) (parties : ℕ) → parties ≤ 16 → AllByRecursion (IsWithin parties) steps → IsConnected steps parties → is_connected steps parties ≡ true
is_connected_so steps parties le within h =
    let near_all = λ (way : Way). all_weaker (IsWithin parties) (λ (step : Step). far way step < 16) steps (λ step w. near_ends way parties step le w) within in
    let from : are_marked (marks_of From steps) parties ≡ true = each_marked (marks_of From steps) parties (omega (arith, le, (rounds_marking From steps 16 (near_all From)).long)) (λ party lt. (marked_exactly From steps (near_all From) party).1 (h 0 party (omega (arith, lt)) lt)) in
    let to : are_marked (marks_of To steps) parties ≡ true = each_marked (marks_of To steps) parties (omega (arith, le, (rounds_marking To steps 16 (near_all To)).long)) (λ party lt. (marked_exactly To steps (near_all To) party).1 (h party 0 lt (omega (arith, lt)))) in
    ap (λ (b : Bool). b && are_marked (marks_of To steps) parties) from ∙ to
