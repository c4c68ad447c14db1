-- The spelling of statements and of scripts.
use Rattle.std.specs.Prelude.{ℕ, ◌≡◌, ◌+◌, ◌≤◌, ◌<◌, ◌^◌, IsTrue, List, [], ◌∷◌, ◌++◌, length, map, Option, Some, None, codes}
use Rattle.std.specs.List.{flat_map, list_all}
use Rattle.std.specs.Fmt.{decimal}
use Rattle.dh_base.specs.Names.{is_name}
use Rattle.line_text.specs.Bytes.{lacks}
use Rattle.line_text.specs.Lines.{lines_of, spelled_lines, is_passed_over}
use Rattle.line_text.specs.Words.{spelled_words}
use Rattle.script_lines.specs.WordLists.{SpellsNumber}
use Rattle.script_lines.specs.LineRules.{most_bytes}
use Rattle.plain_script.specs.Reading.{ScriptTold, events_at, line_rule}
use Rattle.script_lines.specs.Positions.{KeepRules}
use Rattle.plain_script.specs.declared.declaration.Declaration.{Declaration}
use Rattle.plain_script.specs.declared.declaration.Declaration.TheVariants.{Ledger, Open, Deal}
use Rattle.plain_script.specs.declared.event.Event.{Event}
use Rattle.plain_script.specs.declared.event.Event.TheVariants.{Register, Escrow, Transfer, Start, Commit, Abort, Claim}
use Rattle.plain_script.specs.declared.numbered.Numbered.{Numbered}
use Rattle.plain_script.specs.declared.statement.Statement.{Statement}
use Rattle.plain_script.specs.declared.statement.Statement.TheVariants.{Plain, House, Declare, Begin, Happen}

-- ---- the words of a statement

abbrev pub declaration_words : Declaration → List (List ℕ)
declaration_words (Ledger name) = codes "ledger" ∷ name ∷ []
declaration_words (Open ledger asset party amount) =
    codes "open" ∷ ledger ∷ asset ∷ party ∷ decimal amount ∷ []
declaration_words (Deal name parties) = codes "deal" ∷ name ∷ parties

abbrev pub SpellsEvent : Event → List (List ℕ) → Type 0
SpellsEvent (Register ledger deal party) words =
    words ≡ codes "register" ∷ ledger ∷ deal ∷ party ∷ []
SpellsEvent (Escrow ledger deal party asset amount) words =
    words ≡ codes "escrow" ∷ ledger ∷ deal ∷ party ∷ asset ∷ decimal amount ∷ []
SpellsEvent (Transfer ledger deal from turn to asset amount) words =
    (number : List ℕ) × SpellsNumber turn number
    × (words
    ≡ codes "transfer" ∷ ledger ∷ deal ∷ from ∷ number ∷ to ∷ asset ∷ decimal amount ∷ [])
SpellsEvent (Start deal party) words = words ≡ codes "start" ∷ deal ∷ party ∷ []
SpellsEvent (Commit deal party) words = words ≡ codes "commit" ∷ deal ∷ party ∷ []
SpellsEvent (Abort deal party) words = words ≡ codes "abort" ∷ deal ∷ party ∷ []
SpellsEvent (Claim ledger deal len) words =
    (number : List ℕ) × SpellsNumber len number
    × (words ≡ codes "claim" ∷ ledger ∷ deal ∷ number ∷ [])

abbrev pub SpellsStatement : Statement → List (List ℕ) → Type 0
SpellsStatement Plain words = words ≡ codes "plain" ∷ []
SpellsStatement House words = words ≡ codes "house" ∷ []
SpellsStatement (Declare declaration) words = words ≡ declaration_words declaration
SpellsStatement Begin words = words ≡ codes "begin" ∷ []
SpellsStatement (Happen event) words = SpellsEvent event words

-- ---- what has a spelling: names are names, and amounts are below 2 ^ 63

abbrev pub IsGoodDeclaration : Declaration → Type 0
IsGoodDeclaration (Ledger name) = IsTrue (is_name name)
IsGoodDeclaration (Open ledger asset party amount) =
    IsTrue (is_name ledger) × IsTrue (is_name asset) × IsTrue (is_name party) × (amount < 2 ^ 63)
IsGoodDeclaration (Deal name parties) = IsTrue (is_name name) × IsTrue (list_all is_name parties)

abbrev pub IsGoodEvent : Event → Type 0
IsGoodEvent (Register ledger deal party) =
    IsTrue (is_name ledger) × IsTrue (is_name deal) × IsTrue (is_name party)
IsGoodEvent (Escrow ledger deal party asset amount) =
    IsTrue (is_name ledger) × IsTrue (is_name deal) × IsTrue (is_name party)
    × IsTrue (is_name asset) × (amount < 2 ^ 63)
IsGoodEvent (Transfer ledger deal from turn to asset amount) =
    IsTrue (is_name ledger) × IsTrue (is_name deal) × IsTrue (is_name from) × IsTrue (is_name to)
    × IsTrue (is_name asset) × (amount < 2 ^ 63)
IsGoodEvent (Start deal party) = IsTrue (is_name deal) × IsTrue (is_name party)
IsGoodEvent (Commit deal party) = IsTrue (is_name deal) × IsTrue (is_name party)
IsGoodEvent (Abort deal party) = IsTrue (is_name deal) × IsTrue (is_name party)
IsGoodEvent (Claim ledger deal len) = IsTrue (is_name ledger) × IsTrue (is_name deal)

abbrev pub IsGoodStatement : Statement → Type 0
IsGoodStatement Plain = Unit {0}
IsGoodStatement House = Unit {0}
IsGoodStatement (Declare declaration) = IsGoodDeclaration declaration
IsGoodStatement Begin = Unit {0}
IsGoodStatement (Happen event) = IsGoodEvent event

-- the line spells the statement: its words with one space between each two
pub record Spells (statement : Statement) (line : List ℕ) : Type 0 where
  pub good : IsGoodStatement statement
  pub words : List (List ℕ)
  pub spelled : SpellsStatement statement words
  pub line_is : line ≡ spelled_words words

-- ---- the lines of a script

-- a line of a script: one that is passed over, or a statement
pub data ScriptLine : Type 0 where
  Passed : (text : List ℕ) → ScriptLine
  Says : (statement : Statement) → ScriptLine

abbrev pub SpellsLine : ScriptLine → List ℕ → Type 0
SpellsLine (Passed passed) text =
    (text ≡ passed) × IsTrue (is_passed_over text) × IsTrue (lacks 10 text)
SpellsLine (Says statement) text = Spells statement text

-- each text spells its line
abbrev pub SpellLines : List ScriptLine → List (List ℕ) → Type 0
SpellLines [] [] = Unit {0}
SpellLines [] (text ∷ texts) = ⊥
SpellLines (line ∷ lines) [] = ⊥
SpellLines (line ∷ lines) (text ∷ texts) = SpellsLine line text × SpellLines lines texts

-- the script is spelled by these lines, each ended by a line feed
pub record SpellScript (lines : List ScriptLine) (script : List ℕ) : Type 0 where
  pub texts : List (List ℕ)
  pub spelled : SpellLines lines texts
  pub script_is : script ≡ spelled_lines texts

abbrev pub says : ScriptLine → List Statement
says (Passed text) = []
says (Says statement) = statement ∷ []

-- The statements of a script: none at all, or the head, the declarations, `begin` and the events,
-- in this order.
abbrev pub IsInOrder : List Statement → List Declaration → List Event → Type 0
IsInOrder [] declarations events = (declarations ≡ []) × (events ≡ [])
IsInOrder (s ∷ ss) declarations events =
    s ∷ ss ≡ Plain ∷ (map Declare declarations ++ Begin ∷ map Happen events)

-- the events of lines that stand behind so many lines, each with the number of its own
abbrev pub events_told : ℕ → List ScriptLine → List Numbered
events_told before [] = []
events_told before (line ∷ lines) =
    flat_map (events_at (before + 1)) (says line) ++ events_told (before + 1) lines

abbrev pub happening : Numbered → Event
happening event = event.event

-- the lines declare and tell this, in order
pub record IsScriptOf (lines : List ScriptLine) (told : ScriptTold) : Type 0 where
  pub order : IsInOrder (flat_map says lines) told.declarations (map happening told.events)
  pub events : told.events ≡ events_told 0 lines

-- What reading gives: the script is spelled by these lines, which declare and tell this in order;
-- no line of it breaks a rule, and it isn't too large.
pub record IsReadAs (script : List ℕ) (lines : List ScriptLine) (told : ScriptTold) : Type 0 where
  pub spelled : SpellScript lines script
  pub tells : IsScriptOf lines told
  pub kept : KeepRules line_rule (lines_of script)
  pub small : length script ≤ most_bytes
