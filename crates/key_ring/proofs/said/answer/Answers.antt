use Rattle.std.proofs.Common.{sym, ◌∙◌, arith}
use Rattle.key_ring.proofs.RingTexts.{sized}
use Rattle.key_ring.proofs.Checked.{outside-made, bad-made, says-made, IsValidAt-from, IsValidAt-to}
use Rattle.key_ring.proofs.said.answer.Goals as goal

pub returns-then-from-env : goal.returns-then-from-env
returns-then-from-env c =
    outside-made c.args.env.now c.as_slice-ring.result.now c.in-Ok.n c.ring_size.ensures.bytes (sym c.as_slice-ring.ensures) (sym c.ring_size.ensures.size ∙ c.in-Ok.is) (omega arith)

pub key_at-key-requires : goal.key_at-key-requires
key_at-key-requires c =
    let s = sized c.as_slice-ring.result.now c.in-Ok.n (sym c.ring_size.ensures.size ∙ c.in-Ok.is) in
    omega (arith, s.whole)

pub returns-then-not-verify : goal.returns-then-not-verify
returns-then-not-verify c =
    bad-made c.args.env.now c.as_slice-ring.result.now c.in-Ok.n c.ring_size.ensures.bytes (sym c.as_slice-ring.ensures) (sym c.ring_size.ensures.size ∙ c.in-Ok.is) (omega arith)
    (λ h.
    let yes = c.verify.ensures.1 (IsValidAt-to c.args.env.now c.as_slice-ring.result.now c.ident_of.result c.key_at-key.result c.as_slice.result.now c.ident_of.ensures c.key_at-key.ensures c.as_slice.ensures h) in
    let no = c.if-not-verify.true in
    absurd cc)

pub returns : goal.returns
returns c =
    says-made c.args.env.now c.as_slice-ring.result.now c.account_of.result.0 c.in-Ok.n c.ring_size.ensures.bytes (sym c.as_slice-ring.ensures) (sym c.ring_size.ensures.size ∙ c.in-Ok.is) (omega arith)
    (IsValidAt-from c.args.env.now c.as_slice-ring.result.now c.ident_of.result c.key_at-key.result c.as_slice.result.now c.ident_of.ensures c.key_at-key.ensures c.as_slice.ensures (c.verify.ensures.0 c.if-not-verify.false))
    c.account_of.ensures
