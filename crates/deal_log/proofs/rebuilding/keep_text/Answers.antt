use Rattle.std.proofs.Common.{◌≡◌, Ok, Err, refl, inr, ◌∙◌, subst, List, ℕ}
use Rattle.deal_core.specs.Reading.{IsFaultOf}
use Rattle.deal_log.proofs.Rebuilt.{no_other}
use Rattle.deal_log.proofs.rebuilding.keep_text.Goals as goal

pub returns-in_default : goal.returns-in_default
returns-in_default c =
    let copy : c.from_vec-copy.result ≡ c.args.text.now = c.from_vec-copy.ensures ∙ (c.in_ok-from_slice.ensures.items ∙ c.as_slice.ensures) in
    let bad : IsFaultOf c.args.text.now c.in-Err.fault = subst (λ (t : List ℕ). IsFaultOf t c.in-Err.fault) copy c.in-Err.ensures in
    inr (λ s. no_other s.for.read.0 c.in-Err.fault (c.one_answer.ensures c.args.text.now (Ok s.for.read.0) (Err c.in-Err.fault) s.for.read.1 bad) c.in_default.not-NoMemory, refl)
