-- What is kept of a script's declarations.
use Rattle.std.specs.Prelude.{ℕ, ◌≡◌, ◌<◌, ◌^◌, List, []}
use Rattle.plain_script.specs.BoundNames.{parties_of, opened_of}
use Rattle.plain_script.specs.Rules.{DeclareByRules}
use Rattle.plain_script.specs.declared.declaration.Declaration.{Declaration}

-- the parties' names are kept beside the declarations, each of which keeps the rules, and no
-- asset's rows pass the greatest total
pub record AreKept (declarations : List Declaration) (parties : List (List ℕ)) : Type 0 where
  pub bound : parties ≡ parties_of declarations
  pub rules : DeclareByRules [] declarations
  pub small : (ledger asset : List ℕ) → opened_of declarations ledger asset < 2 ^ 63
