use Rattle.std.proofs.Common.{Ok, ap, sym, ◌∙◌}
use Rattle.act_text.specs.declared.office.Office.TheVariants.{Log}
use Rattle.act_text.specs.ActReading.{act_of}
use Rattle.deal_log.proofs.Posted.{posts_start}
use Rattle.deal_log.proofs.posting.read_posting.Goals as goal

pub returns-in-Ok-StartDeal : goal.returns-in-Ok-StartDeal
returns-in-Ok-StartDeal c =
    posts_start c.args.env.now c.in-Ok.said.account c.in-Ok-StartDeal.text c.start_posting.result
    (record {
      q = c.in-Ok.said.q;
      says = (c.check.ensures.says c.in-Ok.said).0 c.in-Ok.is;
      read = ap (act_of Log) (sym c.as_slice.ensures) ∙ (c.in-Ok-StartDeal.ensures.0 ∙ ap Ok c.in-Ok-StartDeal.field-0-is);
    }) c.start_posting.ensures
