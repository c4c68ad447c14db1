use Rattle.keeper_sql.proofs.SchemaIs.{schema_is}
use Rattle.keeper_sql.proofs.adoption.is_keepers.Goals as goal

pub returns : goal.returns
returns c empty =
    schema_is c.args.schema.now (c.in_ok-has_table.ensures c.if-not-branch.false) (c.has_index.ensures c.if-not-has_index.false) (c.is_empty.ensures.0 empty)
