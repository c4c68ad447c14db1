use Rattle.std.proofs.Common.{◌≡◌, ◌<◌, ◌≤◌, [], length, arith, sym, ◌∙◌}
use Rattle.std.proofs.lemmas.List.{take_all, drop_all}
use Rattle.std.proofs.lemmas.Bool.{eqb-false}
use Rattle.line_text.proofs.lines.first_line.Goals as goal
use Rattle.line_text.proofs.Cutting.{place, lines_of_first, lines_of_last, behind-byte}

pub returns-in-empty-clause-line : goal.returns-in-empty-clause-line
returns-in-empty-clause-line c =
    let text = c.args.text.now in
    let some : 0 < length c.args.text.now = omega (arith, eqb-false (length c.args.text.now) 0 (sym c.is_empty.ensures ∙ c.if-is_empty.false)) in
    let short : length c.args.text.now ≤ place 10 c.args.text.now = omega (arith, c.split_at.ensures.back_len, c.in-empty.len_below) in
    let whole : c.split_at.result.0.now ≡ c.args.text.now = c.split_at.ensures.front ∙ take_all c.place_of.result text (omega arith) in
    let none : c.split_at.result.1.now ≡ [] = c.split_at.ensures.back ∙ drop_all c.place_of.result text (omega arith) in
    rw (whole, none) (lines_of_last text some short)

pub returns-in-len1-up-clause-line : goal.returns-in-len1-up-clause-line
returns-in-len1-up-clause-line c =
    let text = c.args.text.now in
    let inside : place 10 c.args.text.now < length c.args.text.now = omega (arith, c.split_at.ensures.back_len, c.in-len1-up.len_at_least) in
    rw (c.split_at.ensures.front, c.split_at.ensures.back, behind-byte text c.place_of.result, c.place_of.ensures.first) (lines_of_first text inside)
