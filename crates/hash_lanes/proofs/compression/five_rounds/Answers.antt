use Rattle.std.proofs.lemmas.Simd.{get_or-replicate}
use Rattle.hash_lanes.specs.Lanes.{lane}
use Rattle.hash_lanes.proofs.Rounds.{rounds_none, rounds_more}
use Rattle.hash_lanes.proofs.compression.five_rounds.Goals as goal

pub returns : goal.returns
returns c j lt =
    let h = lane j c.args.state in
    let w = c.args.words.now in
    let s1 = rounds_more h w h 0 _ _ (rounds_none h w) (get_or-replicate 8 j _ 0 lt) (c.round-v.ensures j lt) in
    let s2 = rounds_more h w _ 1 _ _ s1 (get_or-replicate 8 j _ 0 lt) (c.round-v-2.ensures j lt) in
    let s3 = rounds_more h w _ 2 _ _ s2 (get_or-replicate 8 j _ 0 lt) (c.round-v-3.ensures j lt) in
    let s4 = rounds_more h w _ 3 _ _ s3 (get_or-replicate 8 j _ 0 lt) (c.round-v-4.ensures j lt) in
    rounds_more h w _ 4 _ _ s4 (get_or-replicate 8 j _ 0 lt) (c.round.ensures j lt)
