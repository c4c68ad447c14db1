use Rattle.std.proofs.Common.{ℕ, List, subst}
use Rattle.std.proofs.lemmas.List.{take_rest}
use Rattle.deal_core.specs.Reading.{IsFaultOf}
use Rattle.agent_core.proofs.KeptDeals.{no_read}
use Rattle.agent_core.proofs.loading.kept_deal.Goals as goal

pub returns-in_default : goal.returns-in_default
returns-in_default c =
    let faulty = subst (λ (text : List ℕ). IsFaultOf text c.in-Err.fault) (take_rest c.args.val.now 8) c.in-Err.ensures.answer in
    record { some = tt; none = no_read c.args.val.now c.in-Err.fault faulty c.in_default.not-NoMemory }
