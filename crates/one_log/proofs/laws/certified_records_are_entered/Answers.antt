use Rattle.std.proofs.Common.{Contains}
use Rattle.one_log.proofs.Lists.{every_at}
use Rattle.one_log.proofs.Entered.{all_entered}
use Rattle.one_log.specs.Moments.{entered_in}
use Rattle.one_log.proofs.laws.certified_records_are_entered.Goals as goal

pub returns : goal.returns
returns c = λ w run log entry o r g cx h. every_at (Contains (entered_in run)) log entry (all_entered w run log o r g cx) h
