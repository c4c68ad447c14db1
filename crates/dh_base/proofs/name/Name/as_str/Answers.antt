use Rattle.std.proofs.Common.{subst, sym}
use Rattle.std.specs.Str.{IsUtf8}
use Rattle.dh_base.proofs.Characters.{IsUtf8-name, ok_where_valid}
use Rattle.dh_base.proofs.name.Name.as_str.Goals as goal

pub unwrap-requires : goal.unwrap-requires
unwrap-requires c =
    let valid : IsUtf8 c.as_bytes.result.now = subst IsUtf8 (sym c.as_bytes.ensures.characters) (IsUtf8-name c.args.self.now c.as_bytes.ensures.name) in
    ok_where_valid c.from_utf8.result _ (IsUtf8 c.as_bytes.result.now) _ valid c.from_utf8.ensures.cases
