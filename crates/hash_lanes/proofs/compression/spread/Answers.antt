use Rattle.std.proofs.Common.{◌≡◌, length, sym, arith}
use Rattle.hash_lanes.proofs.Eight.{below_eight, eight_words}
use Rattle.hash_lanes.proofs.compression.spread.Goals as goal

pub returns : goal.returns
returns c =
    let long : length c.args.state.now ≡ 8 = omega arith in
    let each = sym (eight_words c.args.state.now long) in
    below_eight _ each each each each each each each each
