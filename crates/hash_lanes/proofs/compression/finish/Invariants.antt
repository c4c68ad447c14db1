use Rattle.std.proofs.Common.{◌≡◌, ℕ, List, ◌<◌, slice_index, ◌*◌}
use Rattle.sha2.specs.Sha256.{IsRoundsAt, rounds, schedule, word_at}
use Rattle.hash_lanes.specs.Lanes.{lane, words}
use Rattle.hash_lanes.proofs.compression.finish.Given as goal

abbrev pub invariant-schedule : goal.invariant-schedule
invariant-schedule l = (j : ℕ) (b : List ℕ) → j < 8 → ((k : ℕ) → k < 16 → slice_index (words j l.fn.first) k ≡ word_at b (4 * k))
    → lane j l.fn.after_five ≡ rounds (lane j l.fn.state) (schedule b 48) 5
    → IsRoundsAt b (lane j l.fn.state) (words j l.w) (lane j l.v) (16 * l.turn)
