-- What the lines of a script say of a ledger's opening rows is what the rows say.
use Rattle.std.proofs.Common.{◌≡◌, ℕ, ◌+◌, Bool, true, false, not, ◌&&◌, ◌||◌, cond, nat_le, nat_lt, List, [], ◌∷◌, ◌++◌, length, refl, sym, ap, ◌∙◌, arith}
use Rattle.std.specs.List.{list_any, count_by}
use Rattle.std.specs.Str.{bytes_eq}
use Rattle.std.proofs.lemmas.Slice.Eq.{bytes_eq-Decides}
use Rattle.std.proofs.lemmas.List.{length-append}
use Rattle.std.proofs.lemmas.List.Sums.{sum_by-append, sum_by-cons, sum_by_push}
use Rattle.std.proofs.lemmas.List.Folds.{list_any-append}
use Rattle.dh_base.specs.Amounts.{greatest_amount}
use Rattle.dh_base.specs.Ids.{same_id}
use Rattle.escrow_book.specs.Opening.{Row, has_row, total_of, asset_amount, most_rows}
use Rattle.plain_script.specs.BoundNames.{opened_of, opened_by, opens_on, opens_row}
use Rattle.plain_script.specs.Ids.{plain_id}
use Rattle.plain_script.specs.OpeningRows.{rows_by, rows_of, is_good_row, is_good_line}
use Rattle.plain_script.specs.declared.declaration.Declaration.{Declaration}
use Rattle.plain_script.specs.declared.declaration.Declaration.TheVariants.{Ledger, Open, Deal}
use Rattle.plain_script.proofs.PlainIds.{same_plain_id}

-- ---- what the rows say is what the declarations say

abbrev row_for : List ℕ → List ℕ → Row → Bool
row_for asset party row = same_id (plain_id party) row.0 && bytes_eq asset row.1

same_row : (a b : Bool) → (a && b || false) ≡ (b && a)
same_row true true = refl
same_row true false = refl
same_row false true = refl
same_row false false = refl

has_row_one : (on asset party : List ℕ) (d : Declaration) → has_row (rows_by on d) (plain_id party) asset ≡ opens_row on asset party d
has_row_one on asset party (Ledger name) = refl
has_row_one on asset party (Deal name parties) = refl
has_row_one on asset party (Open ledger of by amount) = here (bytes_eq on ledger) refl
  where
    here : (b : Bool) → bytes_eq on ledger ≡ b → has_row (rows_by on (Open ledger of by amount)) (plain_id party) asset ≡ opens_row on asset party (Open ledger of by amount)
    here true e = rw e (ap (λ s. s && bytes_eq asset of || false) (same_plain_id party by) ∙ same_row (bytes_eq party by) (bytes_eq asset of))
    here false e = rw e refl

has_row_same : (ds : List Declaration) (on asset party : List ℕ) → has_row (rows_of ds on) (plain_id party) asset ≡ list_any (opens_row on asset party) ds
has_row_same [] on asset party = refl
has_row_same (d ∷ ds) on asset party =
    list_any-append (row_for asset party) (rows_by on d) (rows_of ds on)
    ∙ (ap (λ b. b || has_row (rows_of ds on) (plain_id party) asset) (has_row_one on asset party d) ∙ ap (λ b. opens_row on asset party d || b) (has_row_same ds on asset party))

total_one : (on asset : List ℕ) (d : Declaration) → total_of (rows_by on d) asset ≡ opened_by on asset d
total_one on asset (Ledger name) = refl
total_one on asset (Deal name parties) = refl
total_one on asset (Open ledger of by amount) = here (bytes_eq on ledger) refl
  where
    here : (b : Bool) → bytes_eq on ledger ≡ b → total_of (rows_by on (Open ledger of by amount)) asset ≡ opened_by on asset (Open ledger of by amount)
    here true e = rw e (omega arith)
    here false e = rw e refl

total_same : (ds : List Declaration) (on asset : List ℕ) → total_of (rows_of ds on) asset ≡ opened_of ds on asset
total_same [] on asset = refl
total_same (d ∷ ds) on asset =
    omega (arith, sum_by-append (asset_amount asset) (rows_by on d) (rows_of ds on), sum_by-cons (opened_by on asset) d ds, total_one on asset d, total_same ds on asset)

length_one : (on : List ℕ) (d : Declaration) → length (rows_by on d) ≡ cond (opens_on on d) 1 0
length_one on (Ledger name) = refl
length_one on (Deal name parties) = refl
length_one on (Open ledger of by amount) = here (bytes_eq on ledger) refl
  where
    here : (b : Bool) → bytes_eq on ledger ≡ b → length (rows_by on (Open ledger of by amount)) ≡ cond (opens_on on (Open ledger of by amount)) 1 0
    here true e = rw e refl
    here false e = rw e refl

length_same : (ds : List Declaration) (on : List ℕ) → length (rows_of ds on) ≡ count_by (opens_on on) ds
length_same [] on = refl
length_same (d ∷ ds) on =
    omega (arith, length-append (rows_by on d) (rows_of ds on), sum_by-cons (λ x. cond (opens_on on x) 1 0) d ds, length_one on d, length_same ds on)

-- A row is good behind those of its ledger exactly where the lines so far let its line stand.
pub good_line_same : (ds : List Declaration) (ledger asset party : List ℕ) (amount : ℕ) → is_good_line ds ledger asset party amount ≡ is_good_row ds ledger asset party amount
good_line_same ds ledger asset party amount =
    let row : Row = (plain_id party, asset, amount) in
    let own : asset_amount asset row ≡ amount = ap (λ b. cond b amount 0) ((bytes_eq-Decides asset asset).1 refl) in
    let total : opened_of ds ledger asset + amount ≡ total_of (rows_of ds ledger ++ row ∷ []) asset =
    omega (arith, sum_by_push (asset_amount asset) (rows_of ds ledger) row, total_same ds ledger asset, own)
    in
    ap (λ (n : ℕ). nat_lt n most_rows && (nat_lt 0 amount && (not (list_any (opens_row ledger asset party) ds) && nat_le (opened_of ds ledger asset + amount) greatest_amount))) (sym (length_same ds ledger))
    ∙ ap (λ (b : Bool). nat_lt (length (rows_of ds ledger)) most_rows && (nat_lt 0 amount && (not b && nat_le (opened_of ds ledger asset + amount) greatest_amount))) (sym (has_row_same ds ledger asset party))
    ∙ ap (λ (n : ℕ). nat_lt (length (rows_of ds ledger)) most_rows && (nat_lt 0 amount && (not (has_row (rows_of ds ledger) (plain_id party) asset) && nat_le n greatest_amount))) total
