-- Statements: each has one text, a tag and its fields in order.
use Rattle.std.specs.Prelude.{ℕ, List, [], ◌∷◌, ◌++◌, length, codes, Option, Some, None}
use Rattle.std.specs.List.{flat_map}
use Rattle.std.specs.Int.{w16, w32, w64, to_be_bytes}
use Rattle.dh_base.specs.declared.outcome.Outcome.{Outcome}
use Rattle.dh_base.specs.declared.outcome.Outcome.TheVariants.{Commit, Abort}
use Rattle.dh_base.specs.Fields.{name_field}
use Rattle.act_text.specs.declared.statement.HeldRow.{HeldRow}
use Rattle.act_text.specs.declared.statement.Statement.{Statement}

abbrev pub statement_tag : List ℕ
statement_tag = codes "CCDSTAT1"

-- 0 for a deal that is not settled here
abbrev pub settled_byte : Option Outcome → ℕ
settled_byte None = 0
settled_byte (Some Commit) = 1
settled_byte (Some Abort) = 2

abbrev pub row_text : HeldRow → List ℕ
row_text row = name_field row.asset ++ to_be_bytes w64 row.amount

abbrev pub statement_text : Statement → List ℕ
statement_text s =
    statement_tag ++ s.house.0 ++ name_field s.ledger ++ s.deal.0 ++ s.party.0
    ++ to_be_bytes w64 s.at ++ to_be_bytes w32 s.moves ++ (settled_byte s.settled ∷ [])
    ++ to_be_bytes w16 (length s.rows) ++ flat_map row_text s.rows
