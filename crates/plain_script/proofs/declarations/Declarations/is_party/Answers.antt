use Rattle.std.proofs.Common.{ap, ◌∙◌}
use Rattle.std.specs.List.{list_any}
use Rattle.std.specs.Str.{bytes_eq}
use Rattle.plain_script.specs.BoundNames.{parties_of}
use Rattle.plain_script.proofs.NamesSame.{among_same}
use Rattle.plain_script.proofs.declarations.Declarations.is_party.Goals as goal

pub returns : goal.returns
returns c =
    c.contains.ensures
    ∙ (among_same c.args.name.now c.self.inside.parties.keys ∙ ap (list_any (bytes_eq c.args.name.now)) (c.self.invariant.bound ∙ ap parties_of c.self.view_is))
