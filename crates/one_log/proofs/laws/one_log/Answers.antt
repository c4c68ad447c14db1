use Rattle.one_log.proofs.Walks.{one_log_lists}
use Rattle.one_log.proofs.Entered.{fair_end}
use Rattle.one_log.specs.Moments.{after_all}
use Rattle.one_log.proofs.laws.one_log.Goals as goal

pub returns : goal.returns
returns c = λ w run log other o r g cx cy. one_log_lists (after_all run w) (fair_end w run o r g) log other cx cy
