-- Rounds, which read no more words than there are rounds.
use Rattle.std.proofs.Common.{◌≡◌, ℕ, zero, suc, ◌+◌, ◌*◌, ◌<◌, List, slice_index, refl, sym, ◌∙◌, arith, add-one}
use Rattle.sha2.specs.Sha256.{first_words, round, round_constants, rounds, schedule, word_at}
use Rattle.sha2.proofs.Schedule256.{slice_index-first_words, slice_index-schedule_first}

pub rounds_none : (h ws : List ℕ) → h ≡ rounds h ws 0
unfolding rounds
rounds_none h ws = refl

pub rounds_more : (h ws v : List ℕ) (t x : ℕ) (next : List ℕ) → v ≡ rounds h ws t → x ≡ slice_index ws t
    → next ≡ round v (slice_index round_constants t) x → next ≡ rounds h ws (t + 1)
unfolding rounds
rounds_more h ws v t x next ev ex en = en ∙ rw (ev, ex, add-one) refl

pub rounds_same : (h ws xs : List ℕ) (t : ℕ) → ((k : ℕ) → k < t → slice_index ws k ≡ slice_index xs k) → rounds h ws t ≡ rounds h xs t
unfolding rounds
rounds_same h ws xs zero same = refl
rounds_same h ws xs (suc t) same = rw (rounds_same h ws xs t (λ k lt. same k (omega arith)), same t (omega arith)) refl

-- the rounds with the first words of a block
pub rounds_of_block : (h s b : List ℕ) (t : ℕ) → t < 17 → ((k : ℕ) → k < t → word_at b (4 * k) ≡ word_at s (4 * k)) → rounds h (first_words s t) t ≡ rounds h (schedule b 48) t
rounds_of_block h s b t le same =
    rounds_same h (first_words s t) (schedule b 48) t (λ k lt.
    slice_index-first_words s t k lt ∙ sym (same k lt) ∙ sym (slice_index-schedule_first b 48 k (omega arith)))
