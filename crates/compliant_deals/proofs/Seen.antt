-- A party finds the deal validated by what the ledgers say.
use Rattle.std.proofs.Common.{◌≡◌, ℕ, ◌<◌, ◌≤◌, nat_lt, Bool, true, false, cond, IsTrue, Some, None, List, [], ◌∷◌, refl, ap, sym, ◌∙◌, subst, inl, inr, arith}
use Rattle.std.specs.List.{AllByRecursion, Contains}
use Rattle.std.specs.Str.{bytes_eq}
use Rattle.std.proofs.lemmas.Bool.{ltb-true, ltb-false, ne_eqb}
use Rattle.std.proofs.lemmas.Slice.Eq.{bytes_eq-Decides}
use Rattle.dh_base.specs.Names.{is_name}
use Rattle.act_text.specs.declared.statement.HeldRow.{HeldRow}
use Rattle.deal_core.specs.DealText.{IsSpellable}
use Rattle.deal_core.specs.Kept.{is_on}
use Rattle.deal_core.specs.declared.step.Step.{Step}
use Rattle.clear_core.specs.Clearing.{due_of}
use Rattle.clear_core.specs.declared.pair.Pair.{Pair}
use Rattle.clear_core.proofs.Moved.{at_head, in_tail, head_or_tail, none_in_empty}
use Rattle.ledger_rows.specs.Scanning.{above_zero, some_of, AreAmounts}
use Rattle.joined_deals.specs.DealTexts.{JoinedTold, plan_texts}
use Rattle.joined_deals.specs.Heard.{listed_of}
use Rattle.joined_deals.specs.Signed.{is_signed}
use Rattle.joined_deals.proofs.Counted.{stands_signed}
use Rattle.joined_deals.proofs.Elements.{all_of, each_of, any_of}
use Rattle.joined_deals.proofs.Validating.{due_is_moved}
use Rattle.compliant_deals.specs.Seeing.{HasSignedPlan}

-- a row that names the asset is listed, where all that do have one amount
listed_is : (rows : List HeldRow) (asset : List ℕ) (n : ℕ) → ((row : HeldRow) → Contains rows row → asset ≡ row.asset → row.amount ≡ n) → (row : HeldRow) → Contains rows row → asset ≡ row.asset → listed_of rows asset ≡ n
listed_is [] asset n each row there is = absurd (none_in_empty row there)
listed_is (first ∷ rows) asset n each row there is =
    by_test (λ later. listed_is rows asset n (λ r h. each r (in_tail first rows r h)) row later is) (bytes_eq asset first.asset) refl
  where
    by_test : (Contains rows row → listed_of rows asset ≡ n) → (b : Bool) → bytes_eq asset first.asset ≡ b → cond b first.amount (listed_of rows asset) ≡ n
    by_test ih true e = each first (at_head first rows) ((bytes_eq-Decides asset first.asset).0 e)
    by_test ih false e = elim (head_or_tail first rows row there) [
      | inl same ↦ (let yes : bytes_eq asset first.asset ≡ true = (bytes_eq-Decides asset first.asset).1 (is ∙ ap (λ (r : HeldRow). r.asset) (sym same)) in absurd (let no : true ≡ false = sym yes ∙ e in cc))
      | inr later ↦ ih later
    ]

same_some : (m n : ℕ) → Some m ≡ Some n → m ≡ n
same_some m n e = cc

some_amount : (amount_of : List ℕ → ℕ) (asset : List ℕ) → IsTrue (is_name asset) → 0 < amount_of asset → some_of amount_of asset ≡ Some (amount_of asset)
some_amount amount_of asset name some =
    let apart : amount_of asset ≡ 0 → ⊥ = λ e. omega (arith, e, some) in
    ap (λ t. cond t (above_zero (amount_of asset)) None) name ∙ ap (λ t. cond t None (Some (amount_of asset))) (ne_eqb (amount_of asset) 0 apart)

-- a statement's rows list what there is of an asset
pub rows_list : (amount_of : List ℕ → ℕ) (rows : List HeldRow) (asset : List ℕ) → AreAmounts (some_of amount_of) rows → IsTrue (is_name asset) → 0 < amount_of asset → listed_of rows asset ≡ amount_of asset
rows_list amount_of rows asset are name some =
    let is = some_amount amount_of asset name some in
    let row : HeldRow = record { asset = asset; amount = amount_of asset } in
    listed_is rows asset (amount_of asset)
    (λ other there names. same_some other.amount (amount_of asset) (sym ((are.all other).0 there) ∙ (ap (some_of amount_of) (sym names) ∙ is)))
    row ((are.all row).1 is) refl

-- what is due is of a ledger and an asset of a step, so the asset has a name
pub record IsNamed (steps : List Step) (ledger asset : List ℕ) : Type 0 where
  pub on : IsTrue (is_on steps ledger)
  pub named : IsTrue (is_name asset)

pub due_is_named : (joined : JoinedTold) → IsSpellable joined.deal → (ledger asset : List ℕ) → 0 < due_of joined.deal.steps joined.index ledger asset → IsNamed joined.deal.steps ledger asset
due_is_named joined s ledger asset due =
    let moved = due_is_moved joined.deal.steps joined.index ledger asset due in
    let step : Step = moved.0 in
    let names = each_of (λ (t : Step). IsTrue (is_name t.ledger) × IsTrue (is_name t.asset)) joined.deal.steps s.steps step moved.1 in
    let here : ledger ≡ step.ledger = ap (λ (p : Pair). p.ledger) (sym moved.2) in
    let of : step.asset ≡ asset = ap (λ (p : Pair). p.asset) moved.2 in
    record {
      on = any_of (λ (t : Step). bytes_eq ledger t.ledger) joined.deal.steps step moved.1 ((bytes_eq-Decides ledger step.ledger).1 here);
      named = subst (λ (n : List ℕ). IsTrue (is_name n)) of names.1;
    }

-- the statement lists at least what is due, where the party owns it
pub due_is_listed : (joined : JoinedTold) → IsSpellable joined.deal → (ledger : List ℕ) (amount_of : List ℕ → ℕ) (rows : List HeldRow) → AreAmounts (some_of amount_of) rows → ((asset : List ℕ) → amount_of asset ≡ due_of joined.deal.steps joined.index ledger asset) → (asset : List ℕ) → due_of joined.deal.steps joined.index ledger asset ≤ listed_of rows asset
due_is_listed joined s ledger amount_of rows are owned asset =
    by_size (nat_lt 0 (due_of joined.deal.steps joined.index ledger asset)) refl
  where
    by_size : (b : Bool) → nat_lt 0 (due_of joined.deal.steps joined.index ledger asset) ≡ b → due_of joined.deal.steps joined.index ledger asset ≤ listed_of rows asset
    by_size true some =
        let more = ltb-true 0 (due_of joined.deal.steps joined.index ledger asset) some in
        let named = (due_is_named joined s ledger asset more).named in
        let has : 0 < amount_of asset = omega (arith, more, owned asset) in
        omega (arith, rows_list amount_of rows asset are named has, owned asset)
    by_size false none = let nothing = ltb-false 0 (due_of joined.deal.steps joined.index ledger asset) none in omega (arith, nothing)

pub plan_signed : (signed : List (List ℕ)) (joined : JoinedTold) → HasSignedPlan signed joined → AllByRecursion (λ text. IsTrue (is_signed signed text)) (plan_texts joined)
plan_signed signed joined all = all_of (λ text. IsTrue (is_signed signed text)) (plan_texts joined) (λ text here. stands_signed signed text (all text here))
