use Rattle.std.proofs.Common.{arith, ◌∙◌}
use Rattle.std.proofs.lemmas.List.{length-set}
use Rattle.line_text.proofs.HexWords.{hex_more, id_long}
use Rattle.line_text.proofs.id_word.bytes_of_hex.Goals as goal

pub loop-place-preserved : goal.loop-place-preserved
loop-place-preserved c =
    rw (c.hex_value.ensures, c.hex_value-in-loop-place.ensures) (record {
      long = length-set c.loop-place.bytes c.loop-place.place _ ∙ c.loop-place.invariant.long;
      whole = hex_more c.loop-place.bytes c.args.word.now c.loop-place.place (omega (arith, c.loop-place.invariant.long)) (omega (arith, id_long c.args.word.now c.requires, c.loop-place-test.true)) c.loop-place.invariant.whole;
    })
