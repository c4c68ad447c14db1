-- The rules of plain scripts: what a line breaks, given what stands before it.
use Rattle.std.specs.Prelude.{ℕ, ◌≡◌, Bool, true, false, not, ◌&&◌, ◌||◌, if◌then◌else◌, nat_lt, nat_le, List, [], ◌∷◌, ◌++◌, length, count_by, Option, Some, None}
use Rattle.std.specs.List.{list_any, flat_map}
use Rattle.std.specs.Str.{bytes_eq}
use Rattle.line_text.specs.Faults.{broken_if}
use Rattle.plain_script.specs.Limits.{most_ledgers, most_deals, most_members, most_parties, most_rows}
use Rattle.plain_script.specs.BoundNames.{is_ledger, is_deal, is_party, is_thing, is_bound, parties_of, is_ledger_line, is_deal_line, is_opening_line, are_different}
use Rattle.plain_script.specs.OpeningRows.{is_good_row}
use Rattle.script_lines.specs.LineRules.{within_limit}
use Rattle.plain_script.specs.declared.declaration.Declaration.{Declaration}
use Rattle.plain_script.specs.declared.declaration.Declaration.TheVariants.{Ledger, Open, Deal}
use Rattle.plain_script.specs.declared.event.Event.{Event}
use Rattle.plain_script.specs.declared.event.Event.TheVariants.{Register, Escrow, Transfer, Start, Commit, Abort, Claim}
use Rattle.plain_script.specs.declared.statement.Statement.{Statement}
use Rattle.plain_script.specs.declared.statement.Statement.TheVariants.{Plain, House, Declare, Begin, Happen}
use Rattle.script_lines.specs.declared.rule.ScriptRule.{ScriptRule}
use Rattle.script_lines.specs.declared.rule.ScriptRule.TheVariants.{BadLine, NameTwice, UnknownName, BadOpening, TooMany, NotBuilt}
use Rattle.script_lines.specs.declared.place.Place.{Place}
use Rattle.script_lines.specs.declared.place.Place.TheVariants.{Head, Declarations, Events}

-- ---- the rule that a declaration breaks, the least of them

abbrev pub ledger_rule : List Declaration → List ℕ → Option ScriptRule
ledger_rule ds name =
    broken_if (is_bound ds name) NameTwice
    (broken_if (nat_le most_ledgers (count_by is_ledger_line ds)) TooMany None)

-- `parties` is the number of parties with those of the line
abbrev pub open_rule : List Declaration → List ℕ → List ℕ → List ℕ → ℕ → ℕ → Option ScriptRule
open_rule ds ledger asset party amount parties =
    broken_if (is_thing ds party) NameTwice
    (broken_if (not (is_ledger ds ledger)) UnknownName
    (broken_if (not (is_good_row ds ledger asset party amount)) BadOpening
    (broken_if (nat_le most_rows (count_by is_opening_line ds) || nat_lt most_parties parties)
    TooMany None)))

-- A deal has two parties at least, each once. Its line binds its own name before its parties' names
-- are looked at.
abbrev pub names_thing : List Declaration → List ℕ → List ℕ → Bool
names_thing ds deal party = bytes_eq party deal || is_thing ds party

abbrev pub deal_rule : List Declaration → List ℕ → List (List ℕ) → ℕ → Option ScriptRule
deal_rule ds name members parties =
    broken_if (not (nat_le 2 (length members) && are_different members)) BadLine
    (broken_if (is_bound ds name || list_any (λ party. names_thing ds name party) members) NameTwice
    (broken_if
    (nat_lt most_members (length members)
    || (nat_le most_deals (count_by is_deal_line ds) || nat_lt most_parties parties))
    TooMany None))

abbrev pub rule_with_parties : List Declaration → Declaration → ℕ → Option ScriptRule
rule_with_parties ds (Ledger name) parties = ledger_rule ds name
rule_with_parties ds (Open ledger asset party amount) parties =
    open_rule ds ledger asset party amount parties
rule_with_parties ds (Deal name members) parties = deal_rule ds name members parties

abbrev pub declaration_rule : List Declaration → Declaration → Option ScriptRule
declaration_rule ds d = rule_with_parties ds d (length (parties_of (ds ++ d ∷ [])))

-- each of the declarations breaks no rule behind those before it
abbrev pub DeclareByRules : List Declaration → List Declaration → Type 0
DeclareByRules before [] = Unit {0}
DeclareByRules before (d ∷ ds) =
    (declaration_rule before d ≡ None) × DeclareByRules (before ++ d ∷ []) ds

-- the declarations with one that breaks no rule
abbrev pub taken_unless : Option ScriptRule → List Declaration → Declaration → List Declaration
taken_unless None ds d = ds ++ d ∷ []
taken_unless (Some rule) ds d = ds

-- ---- events

-- each name that an event uses is that of a ledger, a deal and parties
abbrev pub are_known : List Declaration → Event → Bool
are_known ds (Register ledger deal party) =
    is_ledger ds ledger && (is_deal ds deal && is_party ds party)
are_known ds (Escrow ledger deal party asset amount) =
    is_ledger ds ledger && (is_deal ds deal && is_party ds party)
are_known ds (Transfer ledger deal from turn to asset amount) =
    is_ledger ds ledger && (is_deal ds deal && (is_party ds from && is_party ds to))
are_known ds (Start deal party) = is_deal ds deal && is_party ds party
are_known ds (Commit deal party) = is_deal ds deal && is_party ds party
are_known ds (Abort deal party) = is_deal ds deal && is_party ds party
are_known ds (Claim ledger deal len) = is_ledger ds ledger && is_deal ds deal

abbrev pub event_rule : List Declaration → Event → Option ScriptRule
event_rule ds e = broken_if (not (are_known ds e)) UnknownName None

-- ---- lines

-- where the line after these statements stands
abbrev pub is_begin : Statement → Bool
is_begin Plain = false
is_begin House = false
is_begin (Declare d) = false
is_begin Begin = true
is_begin (Happen e) = false

abbrev pub place_after : List Statement → Place
place_after [] = Head
place_after (s ∷ ss) = if list_any is_begin (s ∷ ss) then Events else Declarations

abbrev pub declared_by : Statement → List Declaration
declared_by Plain = []
declared_by House = []
declared_by (Declare d) = d ∷ []
declared_by Begin = []
declared_by (Happen e) = []

abbrev pub declarations_of : List Statement → List Declaration
declarations_of ss = flat_map declared_by ss

-- the rule that a statement breaks where it stands
abbrev pub statement_rule : Place → List Declaration → Statement → Option ScriptRule
statement_rule Head ds Plain = None
statement_rule Head ds House = Some NotBuilt
statement_rule Head ds (Declare d) = Some BadLine
statement_rule Head ds Begin = Some BadLine
statement_rule Head ds (Happen e) = Some BadLine
statement_rule Declarations ds Plain = Some BadLine
statement_rule Declarations ds House = Some BadLine
statement_rule Declarations ds (Declare d) = declaration_rule ds d
statement_rule Declarations ds Begin = None
statement_rule Declarations ds (Happen e) = Some BadLine
statement_rule Events ds Plain = Some BadLine
statement_rule Events ds House = Some BadLine
statement_rule Events ds (Declare d) = Some BadLine
statement_rule Events ds Begin = Some BadLine
statement_rule Events ds (Happen e) = event_rule ds e

-- the rule that a line breaks which isn't passed over
abbrev pub said_rule : ℕ → Place → List Declaration → Option Statement → Option ScriptRule
said_rule before place ds None = Some BadLine
said_rule before place ds (Some s) = within_limit before (statement_rule place ds s)
