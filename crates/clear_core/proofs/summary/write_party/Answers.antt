use Rattle.std.specs.Prelude.{string_bytes}
use Rattle.clear_core.specs.Summaries.{party_lines}
use Rattle.clear_core.proofs.Texts.{text_more, both_written}
use Rattle.clear_core.proofs.summary.write_party.Goals as goal

pub loop-pair-preserved : goal.loop-pair-preserved
loop-pair-preserved c =
    text_more (party_lines c.args.deal.now c.args.party) c.args.pairs.now c.loop-pair.pair-index c.pair-item.result (string_bytes c.args.out.now) (string_bytes c.loop-pair.out) (string_bytes c.write_due.new.out) c.loop-pair-test.true c.pair-item.is c.loop-pair.invariant
    (both_written (string_bytes c.loop-pair.out) (string_bytes c.write_need.new.out) (string_bytes c.write_due.new.out) _ _ c.in_ok-write_need.ensures c.in_ok-write_due.ensures)
