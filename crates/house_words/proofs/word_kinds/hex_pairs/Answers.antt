use Rattle.house_words.specs.WordKinds.{hex_pairs}
use Rattle.house_words.proofs.HexPairs.{pairs_taken}
use Rattle.house_words.proofs.word_kinds.hex_pairs.Goals as goal

pub loop-rest-preserved : goal.loop-rest-preserved
loop-rest-preserved c =
    pairs_taken c.loop-rest.bytes.items c.loop-rest.rest.now c.push.new.self.items c.in-Some.high c.in-Some-hex_digit.low (hex_pairs c.args.word.now)
    c.in-len2-up.len_at_least c.in-Some.ensures.value c.in-Some-hex_digit.ensures.value c.in_ok-push.ensures.items c.loop-rest.invariant
