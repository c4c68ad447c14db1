use Rattle.std.proofs.Common.{◌≡◌, ◌<◌, ◌≤◌, length, arith, ◌∙◌}
use Rattle.std.proofs.lemmas.List.{take_all}
use Rattle.line_text.proofs.words.first_word.Goals as goal
use Rattle.line_text.proofs.Cutting.{place, words_of_first, words_of_last, behind-byte}

pub returns-in-empty : goal.returns-in-empty
returns-in-empty c =
    let line = c.args.line.now in
    let short : length c.args.line.now ≤ place 32 c.args.line.now = omega (arith, c.split_at.ensures.back_len, c.in-empty.len_below) in
    let whole : c.split_at.result.0.now ≡ c.args.line.now = c.split_at.ensures.front ∙ take_all c.place_of.result line (omega arith) in
    rw whole (words_of_last 32 line short)

pub returns-in-len1-up : goal.returns-in-len1-up
returns-in-len1-up c =
    let line = c.args.line.now in
    let inside : place 32 c.args.line.now < length c.args.line.now = omega (arith, c.split_at.ensures.back_len, c.in-len1-up.len_at_least) in
    rw (c.split_at.ensures.front, c.split_at.ensures.back, behind-byte line c.place_of.result, c.place_of.ensures.first) (words_of_first 32 line inside)
