-- The rows that declarations open on a ledger are a good opening of its book.
use Rattle.std.proofs.Common.{◌≡◌, ℕ, true, false, not, Bool, None, List, [], ◌∷◌, ◌++◌, refl, sym, ap, subst, ◌∙◌}
use Rattle.std.specs.Str.{bytes_eq}
use Rattle.std.proofs.lemmas.Bool.{and_from, not-false}
use Rattle.std.proofs.lemmas.Slice.Eq.{bytes_eq-Decides}
use Rattle.std.proofs.lemmas.List.{append-nil}
use Rattle.std.proofs.lemmas.List.Concat.{flat_map-append}
use Rattle.escrow_book.specs.Opening.{Row, is_good_row as is_good_behind, are_good_rows, is_good_opening}
use Rattle.plain_script.specs.BoundNames.{is_thing, is_ledger}
use Rattle.plain_script.specs.Ids.{plain_id}
use Rattle.plain_script.specs.OpeningRows.{rows_by, rows_of, is_good_row}
use Rattle.plain_script.specs.Rules.{declaration_rule, DeclareByRules}
use Rattle.plain_script.specs.declared.declaration.Declaration.{Declaration}
use Rattle.plain_script.specs.declared.declaration.Declaration.TheVariants.{Ledger, Open, Deal}
use Rattle.script_lines.specs.declared.rule.ScriptRule.TheVariants.{NameTwice, UnknownName, BadOpening}
use Rattle.line_text.proofs.Faults.{unbroken}

-- the row that a line opens on the ledger
opens_there : (on ledger asset party : List ℕ) (amount : ℕ) → bytes_eq on ledger ≡ true → rows_by on (Open ledger asset party amount) ≡ (plain_id party, asset, amount) ∷ []
opens_there on ledger asset party amount e = rw e refl

opens_elsewhere : (on ledger asset party : List ℕ) (amount : ℕ) → bytes_eq on ledger ≡ false → rows_by on (Open ledger asset party amount) ≡ []
opens_elsewhere on ledger asset party amount e = rw e refl

rows_push : (before : List Declaration) (d : Declaration) (on : List ℕ) → rows_of (before ++ d ∷ []) on ≡ rows_of before on ++ rows_by on d
rows_push before d on = flat_map-append (rows_by on) before (d ∷ []) ∙ ap (λ (rows : List Row). rows_of before on ++ rows) (append-nil (rows_by on d))

-- ---- what the rules say of a row

good_row : (before : List Declaration) (ledger asset party : List ℕ) (amount : ℕ) → declaration_rule before (Open ledger asset party amount) ≡ None → is_good_row before ledger asset party amount ≡ true
good_row before ledger asset party amount e =
    let p = unbroken (is_thing before party) NameTwice _ e in
    let q = unbroken (not (is_ledger before ledger)) UnknownName _ p.1 in
    let r = unbroken (not (is_good_row before ledger asset party amount)) BadOpening _ q.1 in
    not-false (is_good_row before ledger asset party amount) r.0

-- a line that opens a row on the ledger is good there
good_on : (before : List Declaration) (on ledger asset party : List ℕ) (amount : ℕ) → declaration_rule before (Open ledger asset party amount) ≡ None → bytes_eq on ledger ≡ true → is_good_row before on asset party amount ≡ true
good_on before on ledger asset party amount e same =
    subst (λ (l : List ℕ). is_good_row before l asset party amount ≡ true) (sym ((bytes_eq-Decides on ledger).0 same)) (good_row before ledger asset party amount e)

-- ---- the whole

no_row : (before : List Declaration) (d : Declaration) (rest : List Row) (on : List ℕ) → rows_by on d ≡ [] → are_good_rows (rows_of (before ++ d ∷ []) on) rest ≡ true → are_good_rows (rows_of before on) (rows_by on d ++ rest) ≡ true
no_row before d rest on none good =
    let front : rows_of (before ++ d ∷ []) on ≡ rows_of before on = rows_push before d on ∙ (ap (λ (rows : List Row). rows_of before on ++ rows) none ∙ append-nil (rows_of before on)) in
    ap (λ (rows : List Row). are_good_rows (rows_of before on) (rows ++ rest)) none ∙ (ap (λ (rows : List Row). are_good_rows rows rest) (sym front) ∙ good)

one_row : (before : List Declaration) (d : Declaration) (row : Row) (rest : List Row) (on : List ℕ) → rows_by on d ≡ row ∷ [] → is_good_behind (rows_of before on) row ≡ true → are_good_rows (rows_of (before ++ d ∷ []) on) rest ≡ true → are_good_rows (rows_of before on) (rows_by on d ++ rest) ≡ true
one_row before d row rest on one behind good =
    let front : rows_of (before ++ d ∷ []) on ≡ rows_of before on ++ row ∷ [] = rows_push before d on ∙ ap (λ (rows : List Row). rows_of before on ++ rows) one in
    ap (λ (rows : List Row). are_good_rows (rows_of before on) (rows ++ rest)) one
    ∙ and_from (is_good_behind (rows_of before on) row) (are_good_rows (rows_of before on ++ row ∷ []) rest) behind (ap (λ (rows : List Row). are_good_rows rows rest) (sym front) ∙ good)

-- one line more, before rows that are good behind it
one_more : (before : List Declaration) (d : Declaration) (rest : List Row) (on : List ℕ) → declaration_rule before d ≡ None → are_good_rows (rows_of (before ++ d ∷ []) on) rest ≡ true → are_good_rows (rows_of before on) (rows_by on d ++ rest) ≡ true
one_more before (Ledger name) rest on e good = no_row before (Ledger name) rest on refl good
one_more before (Deal name parties) rest on e good = no_row before (Deal name parties) rest on refl good
one_more before (Open ledger asset party amount) rest on e good = here (bytes_eq on ledger) refl
  where
    here : (b : Bool) → bytes_eq on ledger ≡ b → are_good_rows (rows_of before on) (rows_by on (Open ledger asset party amount) ++ rest) ≡ true
    here true same = one_row before (Open ledger asset party amount) (plain_id party, asset, amount) rest on (opens_there on ledger asset party amount same) (good_on before on ledger asset party amount e same) good
    here false other = no_row before (Open ledger asset party amount) rest on (opens_elsewhere on ledger asset party amount other) good

-- the rows of the lines from here on are good behind those of the lines before
good_rows : (before ds : List Declaration) (on : List ℕ) → DeclareByRules before ds → are_good_rows (rows_of before on) (rows_of ds on) ≡ true
good_rows before [] on keep = refl
good_rows before (d ∷ ds) on keep = one_more before d (rows_of ds on) on keep.0 (good_rows (before ++ d ∷ []) ds on keep.1)

pub good_opening : (ds : List Declaration) (ledger : List ℕ) → DeclareByRules [] ds → is_good_opening (rows_of ds ledger) ≡ true
good_opening ds ledger keep = good_rows [] ds ledger keep
