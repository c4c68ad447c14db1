use Rattle.std.proofs.Common.{◌≡◌, ◌+◌, ◌*◌, ◌≤◌, take}
use Rattle.std.specs.List.{sum_by}
use Rattle.escrow_book.specs.Base.{carried_commit}
use Rattle.escrow_book.specs.History.{escrowed, received, given}
use Rattle.escrow_book.proofs.book.Book.if_commit.Given as goal

abbrev pub invariant-loop-entry : goal.invariant-loop-entry
invariant-loop-entry l = record {
  came : l.came ≡ carried_commit l.self.carried l.deal l.party l.asset + sum_by (λ entry. escrowed l.deal l.party l.asset entry.change + received l.deal l.party l.asset entry.change) (take l.entry-index l.entry-items);
  went : l.went ≡ sum_by (λ entry. given l.deal l.party l.asset entry.change) (take l.entry-index l.entry-items);
  came_within : l.came ≤ (l.entry-index + 1) * 18446744073709551615;
  went_within : l.went ≤ l.entry-index * 18446744073709551615;
}
