use Rattle.std.proofs.Common.{◌≡◌, false, is_some, arith}
use Rattle.std.proofs.lemmas.Grind.{common_steps}
use Rattle.escrow_book.specs.Base.{find_deal}
use Rattle.escrow_book.specs.Taken.{base_taken}
use Rattle.escrow_book.proofs.Summing.{deal_summed}
use Rattle.escrow_book.proofs.part_rows.PartRows.add_deal.Goals as goal

pub invariant_of-self-2 : goal.invariant_of-self-2
invariant_of-self-2 c =
    let new : is_some (find_deal c.args.self.now.deals.items c.args.deal.now) ≡ false = grind (arith, common_steps) in
    record { summed = rw c.in_ok-push.ensures.items (deal_summed c.args.self.now.sums (base_taken c.args.self.now) _ c.args.self.now.summed new) }
