-- Sums over different accounts: of an amount that one account has, each such sum has one term.
use Rattle.std.proofs.Common.{◌≡◌, ℕ, Bool, true, false, ◌&&◌, ◌||◌, not, cond, List, [], ◌∷◌, refl, ap, sym, ◌∙◌, arith}
use Rattle.std.specs.List.{sum_by, list_all, AllByRecursion}
use Rattle.std.specs.Str.{bytes_eq}
use Rattle.std.proofs.lemmas.Bool.{and_parts, or_parts, not-true}
use Rattle.std.proofs.lemmas.List.Sums.{sum_by-cons}
use Rattle.dh_base.specs.declared.id.Id.{Id}
use Rattle.escrow_book.specs.declared.change.Change.{Change}
use Rattle.escrow_book.specs.declared.change.Change.TheVariants.{Registered, Escrowed, Transferred, Paid, Settled}
use Rattle.escrow_book.specs.Opening.{Row, row_amount, asset_amount, opening_of, total_of}
use Rattle.dh_base.specs.Ids.{same_id}
use Rattle.escrow_book.specs.History.{is_in, escrowed, received, given, paid_to, paid_from, put_up}
use Rattle.escrow_book.specs.Reached.{are_different}
use Rattle.escrow_book.specs.Conserved.{named, are_in}
use Rattle.escrow_book.proofs.Sums.{sum_same, sum_same_all, sum_zero, sum_swap}
use Rattle.dh_base.proofs.SameIds.{id_from_same, same_id-swap}

pub nobody : (accounts : List Id) (q : Id) (n : ℕ) → is_in q accounts ≡ false → sum_by (λ p. cond (same_id p q) n 0) accounts ≡ 0
nobody [] q n out = refl
nobody (p ∷ accounts) q n out =
    let parts = or_parts (same_id q p) (is_in q accounts) out in
    let here : cond (same_id p q) n 0 ≡ 0 = ap (λ b. cond b n 0) (same_id-swap p q ∙ parts.0) in
    omega (arith, sum_by-cons (λ p. cond (same_id p q) n 0) p accounts, nobody accounts q n parts.1)

pub somebody : (accounts : List Id) (q : Id) (n : ℕ) → are_different accounts ≡ true → is_in q accounts ≡ true → sum_by (λ p. cond (same_id p q) n 0) accounts ≡ n
somebody [] q n different within = absurd cc
somebody (p ∷ accounts) q n different within = at (same_id q p) refl (somebody accounts q n apart.1)
  where
    apart : (not (is_in p accounts) ≡ true) × (are_different accounts ≡ true)
    apart = and_parts (not (is_in p accounts)) (are_different accounts) different

    at : (b : Bool) → same_id q p ≡ b → (is_in q accounts ≡ true → sum_by (λ i. cond (same_id i q) n 0) accounts ≡ n) → sum_by (λ i. cond (same_id i q) n 0) (p ∷ accounts) ≡ n
    at true same among =
        let here : cond (same_id p q) n 0 ≡ n = ap (λ b. cond b n 0) (same_id-swap p q ∙ same) in
        let out : is_in q accounts ≡ false = ap (λ i. is_in i accounts) (id_from_same q p same) ∙ not-true (is_in p accounts) apart.0 in
        omega (arith, sum_by-cons (λ i. cond (same_id i q) n 0) p accounts, nobody accounts q n out)
    at false other among =
        let here : cond (same_id p q) n 0 ≡ 0 = ap (λ b. cond b n 0) (same_id-swap p q ∙ other) in
        let later : is_in q accounts ≡ true = ap (λ b. b || is_in q accounts) (sym other) ∙ within in
        omega (arith, sum_by-cons (λ i. cond (same_id i q) n 0) p accounts, among later)

-- with a test that the account isn't in
pub somebody_if : (accounts : List Id) (q : Id) (b : Bool) (n : ℕ) → are_different accounts ≡ true → (b ≡ true → is_in q accounts ≡ true) → sum_by (λ p. cond (same_id p q && b) n 0) accounts ≡ cond b n 0
somebody_if accounts q true n different within = sum_same_all (λ p. cond (same_id p q && true) n 0) (λ p. cond (same_id p q) n 0) accounts (λ p. ap (λ b. cond b n 0) (and_true (same_id p q))) ∙ somebody accounts q n different (within refl)
  where
    and_true : (b : Bool) → (b && true) ≡ b
    and_true true = refl
    and_true false = refl
somebody_if accounts q false n different within = sum_same_all (λ p. cond (same_id p q && false) n 0) (λ p. 0) accounts (λ p. ap (λ b. cond b n 0) (and_false (same_id p q))) ∙ sum_zero accounts
  where
    and_false : (b : Bool) → (b && false) ≡ false
    and_false true = refl
    and_false false = refl

-- with a test before it, too
pub somebody_where : (accounts : List Id) (q : Id) (a b : Bool) (n : ℕ) → are_different accounts ≡ true → (a ≡ true → is_in q accounts ≡ true) → sum_by (λ p. cond (a && (same_id p q && b)) n 0) accounts ≡ cond (a && b) n 0
somebody_where accounts q true b n different within = somebody_if accounts q b n different (λ e. within refl)
somebody_where accounts q false b n different within = sum_zero accounts

-- what a change moves in all
abbrev pub escrow_total : Id → List ℕ → Change → ℕ
escrow_total d x (Escrowed e party asset n) = cond (same_id d e && bytes_eq x asset) n 0
escrow_total d x _ = 0

abbrev pub transfer_total : Id → List ℕ → Change → ℕ
transfer_total d x (Transferred e from to asset n) = cond (same_id d e && bytes_eq x asset) n 0
transfer_total d x _ = 0

abbrev pub put_total : List ℕ → Change → ℕ
put_total x (Escrowed e party asset n) = cond (bytes_eq x asset) n 0
put_total x _ = 0

abbrev pub pay_total : List ℕ → Change → ℕ
pay_total x (Paid from to asset n) = cond (bytes_eq x asset) n 0
pay_total x _ = 0

-- the accounts that the change names in the deal are among these
abbrev pub IsCovered : List Id → Id → Change → Type 0
IsCovered accounts d (Registered e parties) = Unit {0}
IsCovered accounts d (Escrowed e party asset n) = same_id d e ≡ true → is_in party accounts ≡ true
IsCovered accounts d (Transferred e from to asset n) = same_id d e ≡ true → (is_in from accounts ≡ true) × (is_in to accounts ≡ true)
IsCovered accounts d (Paid from to asset n) = Unit {0}
IsCovered accounts d (Settled e outcome) = Unit {0}

-- what all accounts have by the changes is what the changes move in all
pub over_changes : (f : Id → Change → ℕ) (g : Change → ℕ) (accounts : List Id) (changes : List Change) → AllByRecursion (λ c. sum_by (λ p. f p c) accounts ≡ g c) changes → sum_by (λ p. sum_by (f p) changes) accounts ≡ sum_by g changes
over_changes f g accounts changes each = sum_swap f accounts changes ∙ sum_same (λ c. sum_by (λ p. f p c) accounts) g changes each

module _ (accounts : List Id) (different : are_different accounts ≡ true) where
  pub all_escrowed : (d : Id) (x : List ℕ) (c : Change) → IsCovered accounts d c → sum_by (λ p. escrowed d p x c) accounts ≡ escrow_total d x c
  all_escrowed d x (Registered e parties) covered = sum_zero accounts
  all_escrowed d x (Escrowed e q y n) covered = somebody_where accounts q (same_id d e) (bytes_eq x y) n different covered
  all_escrowed d x (Transferred e from to y n) covered = sum_zero accounts
  all_escrowed d x (Paid from to y n) covered = sum_zero accounts
  all_escrowed d x (Settled e outcome) covered = sum_zero accounts

  pub all_received : (d : Id) (x : List ℕ) (c : Change) → IsCovered accounts d c → sum_by (λ p. received d p x c) accounts ≡ transfer_total d x c
  all_received d x (Registered e parties) covered = sum_zero accounts
  all_received d x (Escrowed e q y n) covered = sum_zero accounts
  all_received d x (Transferred e from to y n) covered = somebody_where accounts to (same_id d e) (bytes_eq x y) n different (λ same. (covered same).1)
  all_received d x (Paid from to y n) covered = sum_zero accounts
  all_received d x (Settled e outcome) covered = sum_zero accounts

  pub all_given : (d : Id) (x : List ℕ) (c : Change) → IsCovered accounts d c → sum_by (λ p. given d p x c) accounts ≡ transfer_total d x c
  all_given d x (Registered e parties) covered = sum_zero accounts
  all_given d x (Escrowed e q y n) covered = sum_zero accounts
  all_given d x (Transferred e from to y n) covered = somebody_where accounts from (same_id d e) (bytes_eq x y) n different (λ same. (covered same).0)
  all_given d x (Paid from to y n) covered = sum_zero accounts
  all_given d x (Settled e outcome) covered = sum_zero accounts

  pub all_put_up : (x : List ℕ) (c : Change) → are_in (named c) accounts ≡ true → sum_by (λ p. put_up p x c) accounts ≡ put_total x c
  all_put_up x (Registered e parties) covered = sum_zero accounts
  all_put_up x (Escrowed e q y n) covered = somebody_if accounts q (bytes_eq x y) n different (λ _. (and_parts (is_in q accounts) true covered).0)
  all_put_up x (Transferred e from to y n) covered = sum_zero accounts
  all_put_up x (Paid from to y n) covered = sum_zero accounts
  all_put_up x (Settled e outcome) covered = sum_zero accounts

  pub all_paid_to : (x : List ℕ) (c : Change) → are_in (named c) accounts ≡ true → sum_by (λ p. paid_to p x c) accounts ≡ pay_total x c
  all_paid_to x (Registered e parties) covered = sum_zero accounts
  all_paid_to x (Escrowed e q y n) covered = sum_zero accounts
  all_paid_to x (Transferred e from to y n) covered = sum_zero accounts
  all_paid_to x (Paid from to y n) covered = somebody_if accounts to (bytes_eq x y) n different (λ _. (and_parts (is_in to accounts) true (and_parts (is_in from accounts) (is_in to accounts && true) covered).1).0)
  all_paid_to x (Settled e outcome) covered = sum_zero accounts

  pub all_paid_from : (x : List ℕ) (c : Change) → are_in (named c) accounts ≡ true → sum_by (λ p. paid_from p x c) accounts ≡ pay_total x c
  all_paid_from x (Registered e parties) covered = sum_zero accounts
  all_paid_from x (Escrowed e q y n) covered = sum_zero accounts
  all_paid_from x (Transferred e from to y n) covered = sum_zero accounts
  all_paid_from x (Paid from to y n) covered = somebody_if accounts from (bytes_eq x y) n different (λ _. (and_parts (is_in from accounts) (is_in to accounts && true) covered).0)
  all_paid_from x (Settled e outcome) covered = sum_zero accounts

  -- what the rows give all accounts is what there is in all
  pub all_opening : (rows : List Row) (x : List ℕ) → list_all (λ row. is_in row.0 accounts) rows ≡ true → sum_by (λ p. opening_of rows p x) accounts ≡ total_of rows x
  all_opening rows x covered = sum_swap (λ p row. row_amount p x row) accounts rows ∙ sum_same (λ row. sum_by (λ p. row_amount p x row) accounts) (asset_amount x) rows (each rows covered)
    where
      each : (rows : List Row) → list_all (λ row. is_in row.0 accounts) rows ≡ true → AllByRecursion (λ row. sum_by (λ p. row_amount p x row) accounts ≡ asset_amount x row) rows
      each [] h = tt
      each (row ∷ rows) h =
          let both = and_parts (is_in row.0 accounts) (list_all (λ row. is_in row.0 accounts) rows) h in
          (somebody_if accounts row.0 (bytes_eq x row.1) row.2 different (λ _. both.0), each rows both.1)

-- an account that is named in a change is among accounts that have each
pub covered_by_names : (accounts : List Id) (d : Id) (c : Change) → are_in (named c) accounts ≡ true → IsCovered accounts d c
covered_by_names accounts d (Registered e parties) covered = tt
covered_by_names accounts d (Escrowed e q y n) covered = λ same. (and_parts (is_in q accounts) true covered).0
covered_by_names accounts d (Transferred e from to y n) covered = λ same.
    let both = and_parts (is_in from accounts) (is_in to accounts && true) covered in
    (both.0, (and_parts (is_in to accounts) true both.1).0)
covered_by_names accounts d (Paid from to y n) covered = tt
covered_by_names accounts d (Settled e outcome) covered = tt
