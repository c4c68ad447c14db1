-- The ways of chains, and the values at their ends.
use Rattle.std.proofs.Common.{◌≡◌, ℕ, ◌+◌, ◌<◌, ◌≤◌, List, [], length, map, min, get_or, slice_index, refl, sym, ap, ◌∙◌, arith}
use Rattle.std.proofs.lemmas.List.FromFn.{fill_by_all}
use Rattle.ots_core.specs.Chains.{hash_at, chain, chain_numbers}
use Rattle.ots_core.specs.Keys.{secret_element}
use Rattle.ots_core.specs.Walks.{AreWays}
use Rattle.ots_core.proofs.ChainSteps.{chain-none, chain-more}
use Rattle.ots_core.proofs.Ends.{all-chains}

pub are_ways : (from to : List ℕ) (a b : ℕ → ℕ) → ((i : ℕ) → i < 67 → slice_index from i ≡ a i) → ((i : ℕ) → i < 67 → slice_index to i ≡ b i)
    → ((i : ℕ) → i < 67 → (a i ≤ b i) × (b i ≤ a i + 15) × (b i ≤ 256)) → AreWays from to
are_ways from to a b ea eb held = record {
  forward = λ i lt. let x = ea i lt in let y = eb i lt in let h = (held i lt).0 in omega arith;
  few = λ i lt. let x = ea i lt in let y = eb i lt in let h = (held i lt).1 in omega arith;
  bytes = λ i lt. let y = eb i lt in let h = (held i lt).2 in omega arith;
}

-- the same steps of the same chain
pub same_walk : (ident given : List ℕ) (q p i a b c d : ℕ) (start other x : List ℕ) → given ≡ ident → p ≡ q → a ≡ c → b ≡ d → start ≡ other
    → x ≡ chain given p i a b start → x ≡ chain ident q i c d other
same_walk ident given q p i a b c d start other x ei eq ea eb es held = held ∙ rw (ei, eq, ea, eb, es) refl

-- the same secret element
pub same_element : (seed ident given : List ℕ) (q p i : ℕ) (x : List ℕ) → given ≡ ident → p ≡ q → x ≡ secret_element seed given p i → x ≡ secret_element seed ident q i
same_element seed ident given q p i x ei eq held = held ∙ rw (ei, eq) refl

-- 67 values, of which each is what f gives its number
pub values_by : (f : ℕ → List ℕ) (values : List (List ℕ)) → length values ≡ 67 → ((i : ℕ) → i < 67 → get_or values i [] ≡ f i) → values ≡ map f chain_numbers
values_by f values long each = fill_by_all f values 67 [] long each ∙ ap (map f) (all-chains 67 refl)

-- the value of a chain that goes from step a to step b, turn by turn
module _ (ident : List ℕ) (q i a b : ℕ) (start : List ℕ) where
  pub no_turn : a ≤ b → start ≡ chain ident q i a (min (a + 0) b) start
  no_turn le = sym (ap (λ (n : ℕ). chain ident q i a n start) (omega arith) ∙ chain-none ident q i a start)

  pub turn_taken : (turn : ℕ) (before after : List ℕ) → a + turn < b
      → before ≡ chain ident q i a (min (a + turn) b) start → after ≡ hash_at ident q i (a + turn) before → after ≡ chain ident q i a (min (a + (turn + 1)) b) start
  turn_taken turn before after on held e =
      e ∙ ap (hash_at ident q i (a + turn)) (held ∙ ap (λ (n : ℕ). chain ident q i a n start) (omega arith))
      ∙ sym (chain-more ident q i a (a + turn) start (omega arith)) ∙ ap (λ (n : ℕ). chain ident q i a n start) (omega arith)

  pub turn_let_go : (turn : ℕ) (before after : List ℕ) → b ≤ a + turn
      → before ≡ chain ident q i a (min (a + turn) b) start → after ≡ before → after ≡ chain ident q i a (min (a + (turn + 1)) b) start
  turn_let_go turn before after late held e = e ∙ held ∙ ap (λ (n : ℕ). chain ident q i a n start) (omega arith)

pub one_step : (ident : List ℕ) (q i a : ℕ) (start : List ℕ) → chain ident q i a (a + 1) start ≡ hash_at ident q i a start
one_step ident q i a start = chain-more ident q i a a start (omega arith) ∙ ap (hash_at ident q i a) (chain-none ident q i a start)
