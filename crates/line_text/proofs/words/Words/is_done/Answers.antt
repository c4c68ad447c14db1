use Rattle.std.proofs.Common.{ap, ◌∙◌}
use Rattle.line_text.specs.Reading.{is_done}
use Rattle.line_text.proofs.Cutting.{is_done-words_left}
use Rattle.line_text.proofs.words.Words.is_done.Goals as goal

pub returns : goal.returns
returns c = is_done-words_left c.self.inside.rest c.is_none.result c.is_none.ensures ∙ ap is_done c.self.view_is
