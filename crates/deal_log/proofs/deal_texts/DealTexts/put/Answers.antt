use Rattle.std.proofs.Common.{ap, ◌∙◌}
use Rattle.std.specs.FinMap.{insert}
use Rattle.dh_base.specs.declared.id.Id.{Id}
use Rattle.deal_log.proofs.ReadTexts.{put_bytes}
use Rattle.deal_log.proofs.deal_texts.DealTexts.put.Goals as goal

pub returns-clause-ok : goal.returns-clause-ok
returns-clause-ok c =
    put_bytes c.id.result c.self.inside.by_deal c.insert.new.self c.args.text c.args.self.now c.in_ok-insert.ensures.updates c.self.view_is
    ∙ ap (λ (i : Id). insert c.args.self.now i.0 c.args.text) c.id.ensures
