use Rattle.std.proofs.Common.{sym, subst, ◌∙◌, arith}
use Rattle.std.specs.List.{AllByRecursion}
use Rattle.std.proofs.lemmas.List.{take_all}
use Rattle.cert_core.specs.Quorums.{Vouches}
use Rattle.cert_core.proofs.SeatSigs.{few_seats, fault_there, fault_later, vouched_more, none_left}
use Rattle.cert_core.proofs.quorums.first_fault.Goals as goal

pub returns-then-is_some-clause-exact : goal.returns-then-is_some-clause-exact
returns-then-is_some-clause-exact c =
    sym (sym c.loop-place.invariant.0
    ∙ fault_there c.args.accounts.now c.args.text.now c.args.sigs.now c.loop-place.place c.index-sigs-place.result c.sig_fault-fault.result (omega arith) c.index-sigs-place.is c.sig_fault-fault.ensures.exact (sym c.is_some.ensures ∙ c.if-is_some.true))

pub loop-place-preserved : goal.loop-place-preserved
loop-place-preserved c = (
  fault_later c.args.accounts.now c.args.text.now c.args.sigs.now c.loop-place.place c.index-sigs-place.result c.sig_fault-fault.result (omega arith) c.index-sigs-place.is c.sig_fault-fault.ensures.exact (sym c.is_some.ensures ∙ c.if-is_some.false)
      ∙ c.loop-place.invariant.0,
  vouched_more c.args.accounts.now c.args.text.now c.args.sigs.now c.loop-place.place c.index-sigs-place.result c.sig_fault-fault.result (omega arith) c.index-sigs-place.is (sym c.is_some.ensures ∙ c.if-is_some.false) c.sig_fault-fault.ensures.vouches c.loop-place.invariant.1,
)

pub returns-clause-exact : goal.returns-clause-exact
returns-clause-exact c = sym (none_left c.args.accounts.now c.args.text.now c.args.sigs.now c.loop-place.place (omega arith) c.loop-place.invariant.0)

pub returns-clause-vouched : goal.returns-clause-vouched
returns-clause-vouched c =
    subst (AllByRecursion (Vouches c.args.accounts.now c.args.text.now)) (take_all c.loop-place.place c.args.sigs.now (omega arith)) c.loop-place.invariant.1

pub returns-clause-few : goal.returns-clause-few
returns-clause-few c =
    few_seats c.args.accounts.now c.args.text.now c.args.sigs.now c.requires (none_left c.args.accounts.now c.args.text.now c.args.sigs.now c.loop-place.place (omega arith) c.loop-place.invariant.0)
