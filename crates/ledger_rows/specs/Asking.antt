-- What a call answers that looks rows up and changes nothing.
use Rattle.std.specs.Prelude.{ℕ, [], Option, Result}
use Rattle.keeper_core.specs.Tables.{Tables}
use Rattle.keeper_core.specs.Knowing.{Known, LooksAtMost}
use Rattle.keeper_core.specs.Leaving.{Ended, Leaves, ended}
use Rattle.keeper_core.specs.Stepping.{WhereTold, IsReply}

-- The call is answered by the tables, or is refused by them, and changes nothing. How many rows it
-- looks up is bounded by the tables, too.
pub record Asks {A F : Type 0} (by_fault : F → Ended) (looks : Tables → ℕ)
    (refusal : Tables → Option F) (IsAnswer : Tables → A → Type 0)
    (result : Result A F) (before after : Known) : Type 0 where
  pub reply : WhereTold before after (λ tables.
      IsReply by_fault (refusal tables) (IsAnswer tables) result)
  pub leaves : Leaves [] (ended by_fault result) before after
  pub looked : WhereTold before after (λ tables. LooksAtMost (looks tables) before after)
