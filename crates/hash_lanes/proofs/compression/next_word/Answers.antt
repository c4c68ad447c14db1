use Rattle.std.proofs.Common.{◌≡◌, ◌+◌, ◌%◌, arith, refl}
use Rattle.hash_lanes.proofs.Windows.{words_at}
use Rattle.hash_lanes.proofs.compression.next_word.Goals as goal

pub returns-clause-value : goal.returns-clause-value
returns-clause-value c j lt =
    let w = c.args.w.now in
    let p = c.args.place in
    let at : p % 16 ≡ p = omega arith in
    rw (
      c.add-word.ensures j lt,
      c.add-2.ensures j lt,
      c.add.ensures j lt,
      c.small_sigma1.ensures j lt,
      c.small_sigma0.ensures j lt,
      at,
      words_at j w ((p + 14) % 16) (omega arith),
      words_at j w ((p + 9) % 16) (omega arith),
      words_at j w ((p + 1) % 16) (omega arith),
      words_at j w p (omega arith),
    ) refl
