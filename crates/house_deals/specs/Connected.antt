-- Whether the parties of a deal reach each other along its steps, by marks that spread.
use Rattle.std.specs.Prelude.{ℕ, zero, suc, Bool, true, false, ◌&&◌, if◌then◌else◌, List, ◌∷◌, take, replicate, fold}
use Rattle.std.specs.List.{list_all}
use Rattle.std.proofs.Math.ListN.{set}
use Rattle.deal_core.specs.Marks.{near, far, is_marked}
use Rattle.deal_core.specs.declared.reach.Way.{Way}
use Rattle.deal_core.specs.declared.reach.Way.TheVariants.{From, To}
use Rattle.deal_core.specs.declared.step.Step.{Step}

-- the marks, with one at the step's far end where its near end has one
abbrev pub marked_by : Way → List Bool → Step → List Bool
marked_by way marks step =
    if is_marked marks (near way step) then set marks (far way step) true else marks

-- the marks after one round over the steps
abbrev pub one_round : Way → List Step → List Bool → List Bool
one_round way steps marks = fold (marked_by way) marks steps

-- the marks after so many rounds
unfoldable pub after_rounds : Way → List Step → ℕ → List Bool → List Bool
after_rounds way steps zero marks = marks
after_rounds way steps (suc n) marks = one_round way steps (after_rounds way steps n marks)

-- a mark at party 0 of sixteen alone
unfoldable pub first_mark : List Bool
first_mark = true ∷ replicate 15 false

-- Marks of the parties that are reached from party 0, or that reach it. Sixteen parties are marked
-- after as many rounds.
abbrev pub marks_of : Way → List Step → List Bool
marks_of way steps = after_rounds way steps 16 first_mark

abbrev pub is_true : Bool → Bool
is_true b = b

-- Each of the first so many parties has a mark.
abbrev pub are_marked : List Bool → ℕ → Bool
are_marked marks parties = list_all is_true (take parties marks)

-- Of so many parties each is reached from party 0, and reaches it.
abbrev pub is_connected : List Step → ℕ → Bool
is_connected steps parties =
    are_marked (marks_of From steps) parties && are_marked (marks_of To steps) parties
