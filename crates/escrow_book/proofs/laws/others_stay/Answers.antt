use Rattle.escrow_book.proofs.Lookups.{parties_kept, settlement_kept}
use Rattle.escrow_book.proofs.Parts.{free_untouched, if_commit_untouched, if_abort_untouched, moves_untouched}
use Rattle.escrow_book.proofs.laws.others_stay.Goals as goal

pub returns-clause-free : goal.returns-clause-free
returns-clause-free c = free_untouched

pub returns-clause-if_commit : goal.returns-clause-if_commit
returns-clause-if_commit c = if_commit_untouched

pub returns-clause-if_abort : goal.returns-clause-if_abort
returns-clause-if_abort c = if_abort_untouched

pub returns-clause-moves : goal.returns-clause-moves
returns-clause-moves c = moves_untouched

pub returns-clause-parties : goal.returns-clause-parties
returns-clause-parties c = parties_kept

pub returns-clause-settled : goal.returns-clause-settled
returns-clause-settled c = settlement_kept
