use Rattle.std.specs.Prelude.{string_bytes}
use Rattle.clear_core.specs.Summaries.{entry_line}
use Rattle.clear_core.proofs.Texts.{text_more}
use Rattle.clear_core.proofs.summary.write_entries.Goals as goal

pub loop-pair-preserved : goal.loop-pair-preserved
loop-pair-preserved c =
    text_more (entry_line c.args.deal.now c.args.from c.args.to) c.args.pairs.now c.loop-pair.pair-index c.pair-item.result (string_bytes c.args.out.now) (string_bytes c.loop-pair.out) (string_bytes c.write_entry.new.out) c.loop-pair-test.true c.pair-item.is c.loop-pair.invariant c.in_ok-write_entry.ensures
