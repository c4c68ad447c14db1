-- Going through a list, one item after another.
use Rattle.std.proofs.Common.{◌≡◌, ℕ, ◌+◌, ◌<◌, Bool, true, false, if◌then◌else◌, List, [], ◌∷◌, ◌++◌, length, drop, Option, Some, sym, ap, ◌∙◌, append_assoc, suc, get_or, drop-cons, arith}
use Rattle.dh_base.specs.declared.id.Id.{Id}
use Rattle.dh_base.specs.Ids.{same_id}
use Rattle.escrow_book.specs.declared.row.HoldRow.{HoldRow}
use Rattle.escrow_book.specs.History.{History, free_of}
use Rattle.keeper_core.specs.declared.change.Change.{Change}
use Rattle.keeper_core.specs.declared.row.Row.{Row}
use Rattle.ledger_rows.specs.RowChanges.{free_change}
use Rattle.ledger_rows.specs.RowKeys.{hold_tab}
use Rattle.ledger_rows.specs.RowReading.{is_formed}
use Rattle.ledger_rows.specs.Scanning.{first_unformed}
use Rattle.ledger_claims.specs.declared.payees.Payee.{Payee}
use Rattle.ledger_claims.specs.Payees.{owned_in, with_owned, owned_of}
use Rattle.ledger_claims.specs.Settling.{payout_changes}

-- the rest begins with the item at that place
pub rest_is : {A : Type 0} (items : List A) (place : ℕ) (item : A) → place < length items → item ≡ get_or items place item → drop place items ≡ item ∷ drop (place + 1) items
rest_is items place item within is =
    let next : suc place ≡ place + 1 = omega arith in
    drop-cons items place item within ∙ (λ i. sym is i ∷ drop (next i) items)

-- a row that has its form
module _ (deal : Id) (rows : List Row) (place : ℕ) (row : Row) (within : place < length rows) (at : row ≡ get_or rows place row) where
  abbrev behind : List Row
  behind = drop (place + 1) rows

  pub formed_on : is_formed hold_tab row ≡ true → first_unformed hold_tab (drop place rows) ≡ first_unformed hold_tab (drop (place + 1) rows)
  formed_on formed = ap (λ (rs : List Row). first_unformed hold_tab rs) (rest_is rows place row within at) ∙ ap (λ (b : Bool). if b then first_unformed hold_tab behind else Some row) formed

  pub owned_on : (before now : List HoldRow) (hold : HoldRow) (same : Bool) → owned_in row ≡ Some hold → same ≡ same_id hold.deal deal → now ≡ (if same then before ++ hold ∷ [] else before) →
      before ++ owned_of deal (drop place rows) ≡ owned_of deal rows → now ++ owned_of deal (drop (place + 1) rows) ≡ owned_of deal rows
  owned_on before now hold same told is made so_far =
      ap (λ (l : List HoldRow). l ++ owned_of deal behind) made ∙ go same is
      ∙ ap (λ (l : List HoldRow). before ++ l) (sym (ap (λ (rs : List Row). owned_of deal rs) (rest_is rows place row within at) ∙ ap (λ (o : Option HoldRow). with_owned deal o (owned_of deal behind)) told)) ∙ so_far
    where
      go : (b : Bool) → b ≡ same_id hold.deal deal → (if b then before ++ hold ∷ [] else before) ++ owned_of deal behind ≡ before ++ (if same_id hold.deal deal then hold ∷ owned_of deal behind else owned_of deal behind)
      go true e = append_assoc before (hold ∷ []) (owned_of deal behind) ∙ ap (λ (b : Bool). before ++ (if b then hold ∷ owned_of deal behind else owned_of deal behind)) e
      go false e = ap (λ (b : Bool). before ++ (if b then hold ∷ owned_of deal behind else owned_of deal behind)) e

-- what one more owner can spend
pub payout_on : (book : History) (payees : List Payee) (place : ℕ) (payee : Payee) → place < length payees → payee ≡ get_or payees place payee →
    (before now whole : List Change) (free : ℕ) → free ≡ free_of book payee.hold.account payee.hold.asset → now ≡ before ++ free_change payee.hold.account payee.hold.asset free ∷ [] →
    before ++ payout_changes book (drop place payees) ≡ whole → now ++ payout_changes book (drop (place + 1) payees) ≡ whole
payout_on book payees place payee within at before now whole free is made so_far =
    let rest = payout_changes book (drop (place + 1) payees) in
    ap (λ (l : List Change). l ++ rest) made ∙ append_assoc before (free_change payee.hold.account payee.hold.asset free ∷ []) rest
    ∙ (λ i. before ++ free_change payee.hold.account payee.hold.asset (is i) ∷ rest)
    ∙ ap (λ (l : List Change). before ++ l) (sym (ap (λ (ps : List Payee). payout_changes book ps) (rest_is payees place payee within at))) ∙ so_far
