use Rattle.std.proofs.Common.{◌≡◌, List, ℕ, [], ◌∷◌, ap, refl, ◌∙◌, arith}
use Rattle.sha2.specs.Sha256.{first_words, rounds, initial_hash_256}
use Rattle.hash_lanes.proofs.stem.Stem.new.Goals as goal

pub returns : goal.returns
unfolding first_words
returns c =
    let words : List ℕ = c.load_be.result ∷ c.load_be-2.result ∷ c.load_be-3.result ∷ c.load_be-4.result ∷ c.load_be-5.result ∷ [] in
    let first : words ≡ first_words c.args.bytes.now 5 = rw (c.load_be.ensures, c.load_be-2.ensures, c.load_be-3.ensures, c.load_be-4.ensures, c.load_be-5.ensures) refl in
    record {
      long = omega arith;
      words = first;
      state =
          c.first_lane.ensures ∙ c.five_rounds-state.ensures 0 (omega arith)
          ∙ ap (λ (h : List ℕ). rounds h words 5) (c.spread.ensures 0 (omega arith)) ∙ ap (λ (ws : List ℕ). rounds initial_hash_256 ws 5) first;
    }
