use Rattle.std.proofs.Common.{sym, ◌∙◌, arith}
use Rattle.joined_deals.proofs.Looping.{signs_here, signs_on, signs_end}
use Rattle.joined_deals.proofs.signed.is_signed.Goals as goal

pub returns-then-signs_at : goal.returns-then-signs_at
returns-then-signs_at c = signs_here c.args.signer.now.texts c.args.text.now c.loop-q.q (sym c.signs_at.ensures ∙ c.if-signs_at.true) c.loop-q.invariant

pub loop-q-preserved : goal.loop-q-preserved
loop-q-preserved c = signs_on c.args.signer.now.texts c.args.text.now c.loop-q.q (omega arith) (sym c.signs_at.ensures ∙ c.if-signs_at.false) c.loop-q.invariant

pub returns : goal.returns
returns c = signs_end c.args.signer.now.texts c.args.text.now c.loop-q.q (omega arith) c.loop-q.invariant
