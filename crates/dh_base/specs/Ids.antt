-- Ids that are one.
use Rattle.std.specs.Prelude.{Bool}
use Rattle.std.specs.Str.{bytes_eq}
use Rattle.dh_base.specs.declared.id.Id.{Id}

abbrev pub same_id : Id → Id → Bool
same_id a b = bytes_eq a.0 b.0
