use Rattle.escrow_book.proofs.Parts.{same_escrow_refusal, same_transfer_refusal, same_pay_refusal, same_settle_refusal, same_accepted, agree_after}
use Rattle.escrow_book.proofs.laws.part_stands.Goals as goal

pub returns-clause-escrow : goal.returns-clause-escrow
returns-clause-escrow c = same_escrow_refusal

pub returns-clause-transfer : goal.returns-clause-transfer
returns-clause-transfer c = same_transfer_refusal

pub returns-clause-pay : goal.returns-clause-pay
returns-clause-pay c = same_pay_refusal

pub returns-clause-settle : goal.returns-clause-settle
returns-clause-settle c = same_settle_refusal

pub returns-clause-after : goal.returns-clause-after
returns-clause-after c = λ part whole change rp rh agree a. (same_accepted part whole change agree a, agree_after part whole change rp rh agree a)
