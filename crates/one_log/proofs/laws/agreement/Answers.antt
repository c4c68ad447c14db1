use Rattle.std.proofs.Common.{◌≡◌, Some, ap, sym, ◌∙◌, List, ◌++◌, ⊎_elim}
use mathlib.Core.List.{IsPrefix}
use Rattle.dh_base.specs.declared.id.Id.{Id}
use Rattle.vote_log.specs.Entry.{Entry}
use Rattle.vote_log.specs.Deciding.{outcome_of}
use Rattle.vote_log.specs.declared.decision.Decision.{Decision}
use Rattle.one_log.specs.Moments.{after_all}
use Rattle.one_log.proofs.Lists.{same_some}
use Rattle.one_log.proofs.Walks.{one_log_lists}
use Rattle.one_log.proofs.Entered.{fair_end}
use Rattle.one_log.proofs.laws.agreement.Goals as goal

abbrev Stays : Type 0
Stays = (log more : List Entry) (deal : Id) (decision : Decision) → outcome_of log deal ≡ Some decision → outcome_of (log ++ more) deal ≡ Some decision

on : Stays → (x y : List Entry) (deal : Id) (d : Decision) → IsPrefix x y → outcome_of x deal ≡ Some d → outcome_of y deal ≡ Some d
on stays x y deal d p e = ap (λ l. outcome_of l deal) (sym p.1) ∙ stays x p.0 deal d e

pub returns : goal.returns
returns c = λ w run log other deal decision second o r g cx cy ex ey.
    ⊎_elim
    (λ (b : IsPrefix log other). same_some decision second (sym (on c.outcome_stays.ensures log other deal decision b ex) ∙ ey))
    (λ (b : IsPrefix other log). same_some decision second (sym ex ∙ on c.outcome_stays.ensures other log deal second b ey))
    (one_log_lists (after_all run w) (fair_end w run o r g) log other cx cy)
