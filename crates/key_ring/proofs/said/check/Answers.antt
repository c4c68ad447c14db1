use Rattle.key_ring.proofs.Checked.{says_both, ring_both, outside_both, bad_both, answer_is}
use Rattle.key_ring.proofs.said.check.Goals as goal

pub returns : goal.returns
returns c =
    record {
      says = says_both c.args.env.now c.answer.result c.answer.ensures;
      bad_ring = ring_both c.args.env.now c.answer.result c.answer.ensures;
      key_outside = outside_both c.args.env.now c.answer.result c.answer.ensures;
      bad_signature = bad_both c.args.env.now c.answer.result c.answer.ensures;
      exact = answer_is c.args.env.now c.answer.result c.answer.ensures;
    }
