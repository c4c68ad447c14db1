-- What a loop over the changes has read.
use Rattle.std.proofs.Common.{◌≡◌, ℕ, ◌+◌, ◌<◌, ◌≤◌, Bool, true, false, cond, List, [], ◌∷◌, length, take, map, get_or, Option, refl, ap, sym, ◌∙◌, subst, arith}
use Rattle.std.specs.List.{sum_by, count_by, AllByRecursion}
use Rattle.std.proofs.lemmas.List.{take_all}
use Rattle.std.proofs.lemmas.List.Sums.{sum_by-cons, sum_by_more, sum_by-take-le}
use Rattle.dh_base.specs.declared.id.Id.{Id}
use Rattle.dh_base.specs.declared.outcome.Outcome.{Outcome}
use Rattle.escrow_book.specs.declared.change.Change.{Change}
use Rattle.escrow_book.specs.declared.entry.Entry.{Entry}
use Rattle.escrow_book.specs.Base.{Base, carried_commit, carried_abort, carried_moves, greatest_turn}
use Rattle.dh_base.specs.Amounts.{greatest_amount}
use Rattle.escrow_book.specs.Opening.{Row, row_amount, opening_of}
use Rattle.escrow_book.specs.History.{History, escrowed, received, given, deal_came, deal_went, if_abort_of, is_move, moves_of}
use Rattle.escrow_book.specs.Reached.{IsGrown}
use Rattle.escrow_book.specs.Kept.{change_in, ended_by, history_kept}
use Rattle.escrow_book.proofs.Sums.{sum_add, sum_same, all_weaker}
use Rattle.escrow_book.proofs.Steps.{base_of}
use Rattle.escrow_book.proofs.Bounds.{if_abort_within, moves_within, opening_within}

-- the sum one place on
module _ {X : Type 0} (items : List X) (i : ℕ) (item : X) (here : item ≡ get_or items i item) (less : i < length items) where
  pub sum_on : (f : X → ℕ) → sum_by f (take (i + 1) items) ≡ sum_by f (take i items) + f item
  sum_on f = sum_by_more f items i item less ∙ ap (λ x. sum_by f (take i items) + f x) (sym here)

  pub sum_room : (f : X → ℕ) → sum_by f (take i items) + f item ≤ sum_by f items
  sum_room f = omega (arith, sum_on f, sum_by-take-le f items (i + 1))

  pub count_on_yes : (p : X → Bool) → p item ≡ true → count_by p (take (i + 1) items) ≡ count_by p (take i items) + 1
  count_on_yes p passes = sum_on (λ x. cond (p x) 1 0) ∙ ap (λ b. count_by p (take i items) + cond b 1 0) passes

  pub count_on_no : (p : X → Bool) → p item ≡ false → count_by p (take (i + 1) items) ≡ count_by p (take i items)
  count_on_no p fails =
      let step : count_by p (take (i + 1) items) ≡ count_by p (take i items) + 0 = sum_on (λ x. cond (p x) 1 0) ∙ ap (λ b. count_by p (take i items) + cond b 1 0) fails in
      omega arith

pub sum_all : {X : Type 0} (f : X → ℕ) (items : List X) (i : ℕ) → length items ≤ i → sum_by f (take i items) ≡ sum_by f items
sum_all f items i past = ap (sum_by f) (take_all i items past)

-- a sum over the changes of entries
pub sum_changes : (f : Change → ℕ) (entries : List Entry) → sum_by (λ entry. f entry.change) entries ≡ sum_by f (map change_in entries)
sum_changes f [] = refl
sum_changes f (e ∷ entries) = omega (arith, sum_by-cons (λ (entry : Entry). f entry.change) e entries, sum_by-cons f e.change (map change_in entries), sum_changes f entries)

-- what a book's fields hold is what its history says
module _ (rows : Base) (entries : List Entry) (h : History) (view : history_kept rows entries ≡ h) (items : List Entry) (value : items ≡ entries) where
  pub all_changes : map change_in items ≡ h.changes
  all_changes = ap (map change_in) value ∙ ap (λ (i : History). i.changes) view

pub is_grown : (inside h : History) → inside ≡ h → IsGrown inside → IsGrown h
is_grown inside h view r = subst IsGrown view r

-- a sum over all entries is the sum over the history
pub sum_history : (h : History) (items : List Entry) (i : ℕ) (f : Change → ℕ) → map change_in items ≡ h.changes → length items ≤ i → sum_by (λ entry. f entry.change) (take i items) ≡ sum_by f h.changes
sum_history h items i f all past = sum_all (λ (entry : Entry). f entry.change) items i past ∙ (sum_changes f items ∙ ap (sum_by f) all)

-- the moves read so far and one more are counted by a turn
pub moves_room : (h : History) (items : List Entry) (i : ℕ) (item : Entry) (d p : Id) → map change_in items ≡ h.changes → IsGrown h → item ≡ get_or items i item → i < length items → is_move d p item.change ≡ true → (carried_moves h.carried d p + count_by (λ entry. is_move d p entry.change) (take i items)) + 1 ≤ greatest_turn
moves_room h items i item d p all r here less moves =
    let one : count_by (λ entry. is_move d p entry.change) (take (i + 1) items) ≡ count_by (λ entry. is_move d p entry.change) (take i items) + 1 = count_on_yes items i item here less (λ entry. is_move d p entry.change) moves in
    let part : count_by (λ entry. is_move d p entry.change) (take (i + 1) items) ≤ count_by (λ entry. is_move d p entry.change) items = sum_by-take-le (λ (entry : Entry). cond (is_move d p entry.change) 1 0) items (i + 1) in
    let whole : count_by (λ entry. is_move d p entry.change) items ≡ count_by (is_move d p) h.changes = sum_changes (λ change. cond (is_move d p change) 1 0) items ∙ ap (count_by (is_move d p)) all in
    let within : moves_of h d p ≤ greatest_turn = moves_within (base_of h) h.changes d p r in
    omega arith

-- the escrows read so far and one more fit
pub escrows_room : (h : History) (items : List Entry) (i : ℕ) (item : Entry) (d p : Id) (x : List ℕ) → map change_in items ≡ h.changes → IsGrown h → item ≡ get_or items i item → i < length items → (carried_abort h.carried d p x + sum_by (λ entry. escrowed d p x entry.change) (take i items)) + escrowed d p x item.change ≤ 18446744073709551615
escrows_room h items i item d p x all r here less =
    let part : sum_by (λ entry. escrowed d p x entry.change) (take i items) + escrowed d p x item.change ≤ sum_by (λ entry. escrowed d p x entry.change) items = sum_room items i item here less (λ (entry : Entry). escrowed d p x entry.change) in
    let whole : sum_by (λ entry. escrowed d p x entry.change) items ≡ sum_by (escrowed d p x) h.changes = sum_changes (escrowed d p x) items ∙ ap (sum_by (escrowed d p x)) all in
    let within : if_abort_of h d p x ≤ 18446744073709551615 = if_abort_within (base_of h) h.changes r d p x in
    omega arith

-- the rows read so far and one more fit
pub rows_room : (h : History) (items : List Row) (i : ℕ) (item : Row) (p : Id) (x : List ℕ) → items ≡ h.opening → IsGrown h → item ≡ get_or items i item → i < length items → sum_by (row_amount p x) (take i items) + row_amount p x item ≤ greatest_amount
rows_room h items i item p x all r here less =
    let part : sum_by (row_amount p x) (take i items) + row_amount p x item ≤ sum_by (row_amount p x) items = sum_room items i item here less (row_amount p x) in
    let whole : sum_by (row_amount p x) items ≡ opening_of h.opening p x = ap (sum_by (row_amount p x)) all in
    let within : opening_of h.opening p x ≤ greatest_amount = opening_within h.opening p x (omega (arith, r.good.total x)) in
    omega arith

-- what a loop over the whole list has added up for a deal
pub deal_read : (h : History) (items : List Entry) (i : ℕ) (d p : Id) (x : List ℕ) → map change_in items ≡ h.changes → length items ≤ i → (carried_commit h.carried d p x + sum_by (λ entry. escrowed d p x entry.change + received d p x entry.change) (take i items) ≡ deal_came h d p x) × (sum_by (λ entry. given d p x entry.change) (take i items) ≡ deal_went h d p x)
deal_read h items i d p x all past = (
  ap (λ n. carried_commit h.carried d p x + n) (sum_history h items i (λ change. escrowed d p x change + received d p x change) all past ∙ sum_add (escrowed d p x) (received d p x) h.changes),
  sum_history h items i (given d p x) all past,
)

-- what a loop over the whole list has added up for an account
pub flow_read : (f : Option Outcome → Change → ℕ) (h : History) (items : List Entry) (i : ℕ) → map change_in items ≡ h.changes → AllByRecursion (λ (entry : Entry). entry.ended ≡ ended_by h entry.change) items → length items ≤ i → sum_by (λ entry. f entry.ended entry.change) (take i items) ≡ sum_by (λ change. f (ended_by h change) change) h.changes
flow_read f h items i all ends past =
    sum_all (λ (entry : Entry). f entry.ended entry.change) items i past ∙ (sum_same (λ (entry : Entry). f entry.ended entry.change) (λ (entry : Entry). f (ended_by h entry.change) entry.change) items (all_weaker (λ (entry : Entry). entry.ended ≡ ended_by h entry.change) (λ (entry : Entry). f entry.ended entry.change ≡ f (ended_by h entry.change) entry.change) items (λ entry e. ap (λ o. f o entry.change) e) ends) ∙ (sum_changes (λ change. f (ended_by h change) change) items ∙ ap (sum_by (λ change. f (ended_by h change) change)) all))

-- how many moves a loop over the whole list has counted
pub moves_read : (h : History) (items : List Entry) (i : ℕ) (d p : Id) → map change_in items ≡ h.changes → length items ≤ i → carried_moves h.carried d p + count_by (λ entry. is_move d p entry.change) (take i items) ≡ moves_of h d p
moves_read h items i d p all past = ap (λ n. carried_moves h.carried d p + n) (sum_history h items i (λ change. cond (is_move d p change) 1 0) all past)
