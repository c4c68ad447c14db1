use Rattle.script_lines.proofs.FirstLine.{kept_all, all_kept, refused_first, first_refused_at, first_refused_is}
use Rattle.plain_script.specs.Reading.{line_rule}
use Rattle.plain_script.proofs.laws.first_line.Goals as goal

pub returns : goal.returns
returns c = record {
  some = λ lines k rule. (first_refused_is line_rule lines k rule, refused_first line_rule lines k rule);
  none = λ lines. (all_kept line_rule lines, kept_all line_rule lines);
  counted = λ lines refused e. let found = first_refused_at line_rule lines refused e in (found.0, found.1);
}
