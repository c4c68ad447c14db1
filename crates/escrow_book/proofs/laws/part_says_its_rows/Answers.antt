use Rattle.std.proofs.Common.{arith}
use Rattle.escrow_book.specs.Base.{carried_parties, carried_outcome}
use Rattle.escrow_book.proofs.Whole.{none_behind}
use Rattle.escrow_book.proofs.laws.part_says_its_rows.Goals as goal

pub returns-clause-free : goal.returns-clause-free
returns-clause-free c = λ rows base p x. omega arith

pub returns-clause-parties : goal.returns-clause-parties
returns-clause-parties c = λ rows base d. none_behind (carried_parties base d)

pub returns-clause-settled : goal.returns-clause-settled
returns-clause-settled c = λ rows base d. none_behind (carried_outcome base d)

pub returns-clause-if_commit : goal.returns-clause-if_commit
returns-clause-if_commit c = λ rows base d p x. omega arith

pub returns-clause-if_abort : goal.returns-clause-if_abort
returns-clause-if_abort c = λ rows base d p x. omega arith

pub returns-clause-moves : goal.returns-clause-moves
returns-clause-moves c = λ rows base d p. omega arith
