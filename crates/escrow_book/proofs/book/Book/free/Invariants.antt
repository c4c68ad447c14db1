use Rattle.std.proofs.Common.{◌≡◌, ◌+◌, ◌*◌, ◌≤◌, take}
use Rattle.std.specs.List.{sum_by}
use Rattle.escrow_book.specs.Opening.{opening_of}
use Rattle.escrow_book.specs.Flow.{gained, lost, carried_out}
use Rattle.escrow_book.proofs.book.Book.free.Given as goal

abbrev pub invariant-loop-entry : goal.invariant-loop-entry
invariant-loop-entry l = record {
  came : l.came ≡ opening_of l.self.opening l.account l.asset + sum_by (λ entry. gained entry.ended l.account l.asset entry.change + carried_out l.self.carried l.account l.asset entry.change) (take l.entry-index l.entry-items);
  went : l.went ≡ sum_by (λ entry. lost entry.ended l.account l.asset entry.change) (take l.entry-index l.entry-items);
  came_within : l.came ≤ (2 * l.entry-index + 1) * 18446744073709551615;
  went_within : l.went ≤ l.entry-index * 18446744073709551615;
}
