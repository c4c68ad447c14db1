use Rattle.std.proofs.Common.{ap, refl, ◌∙◌, cond}
use Rattle.escrow_book.specs.Noted.{total_noted}
use Rattle.escrow_book.proofs.Noting.{name_test}
use Rattle.escrow_book.proofs.part_sums.PartSums.set_total.Goals as goal

pub returns : goal.returns
returns c = record {
  totals = λ x. c.set.ensures x ∙ ap (λ b. cond b c.args.total (total_noted c.args.self.now x)) (name_test c.args.asset.now x);
  commits = λ d x. refl;
  aborts = λ d x. refl;
}
