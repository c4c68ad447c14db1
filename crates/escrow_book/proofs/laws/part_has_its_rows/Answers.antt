use Rattle.escrow_book.proofs.RowsFound.{free_is, parties_are, settled_is, if_commit_is, if_abort_is, moves_are}
use Rattle.escrow_book.proofs.laws.part_has_its_rows.Goals as goal

pub returns-clause-free : goal.returns-clause-free
returns-clause-free c = free_is

pub returns-clause-parties : goal.returns-clause-parties
returns-clause-parties c = parties_are

pub returns-clause-settled : goal.returns-clause-settled
returns-clause-settled c = settled_is

pub returns-clause-if_commit : goal.returns-clause-if_commit
returns-clause-if_commit c = if_commit_is

pub returns-clause-if_abort : goal.returns-clause-if_abort
returns-clause-if_abort c = if_abort_is

pub returns-clause-moves : goal.returns-clause-moves
returns-clause-moves c = moves_are
