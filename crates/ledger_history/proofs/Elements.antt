-- Elements of lists, amounts under equal names, and first refusals.
use Rattle.std.proofs.Common.{◌≡◌, ℕ, ◌==◌, Bool, true, false, cond, ◌&&◌, Option, Some, None, List, refl, ap}
use Rattle.std.specs.Option.{option_or}
use Rattle.std.specs.Str.{bytes_eq}
use Rattle.std.proofs.lemmas.Bool.{eqb-true, and_parts}
use Rattle.std.proofs.lemmas.Slice.Eq.{bytes_eq-Decides}
pub use Rattle.clear_core.proofs.Moved.{at_head, in_tail, head_or_tail, none_in_empty}
use Rattle.dh_base.specs.declared.id.Id.{Id}
use Rattle.dh_base.specs.Ids.{same_id}
use Rattle.escrow_book.specs.History.{History, moves_of, if_commit_of}
use Rattle.escrow_book.specs.Refused.{unknown_deal, not_a_party, deal_settled, wrong_turn, zero_or_self, short, transfer_refusal}
use Rattle.escrow_book.specs.declared.fault.BookFault.{BookFault}
use Rattle.escrow_book.specs.declared.fault.BookFault.TheVariants.{WrongTurn}

pub id_from_same : (a b : Id) → same_id a b ≡ true → a ≡ b
id_from_same a b e = let inner : a.0 ≡ b.0 = (bytes_eq-Decides a.0 b.0).0 e in ap (λ (l : List ℕ). record { 0 = l }) inner

pub same_id_self : (a : Id) → same_id a a ≡ true
same_id_self a = (bytes_eq-Decides a.0 a.0).1 refl

-- an amount that stands where a deal, an account and an asset are the same
pub if_same : (P : ℕ → Type 0) (d e p q : Id) (x y : List ℕ) (n : ℕ) → (d ≡ e → p ≡ q → x ≡ y → P n) → P 0 → P (cond (same_id d e && (same_id p q && bytes_eq x y)) n 0)
if_same P d e p q x y n there none = by_test (same_id d e && (same_id p q && bytes_eq x y)) refl
  where
    by_test : (t : Bool) → (same_id d e && (same_id p q && bytes_eq x y)) ≡ t → P (cond t n 0)
    by_test false is = none
    by_test true is =
        let one = and_parts (same_id d e) (same_id p q && bytes_eq x y) is in
        let two = and_parts (same_id p q) (bytes_eq x y) one.1 in
        there (id_from_same d e one.0) (id_from_same p q two.0) ((bytes_eq-Decides x y).0 two.1)

pub or_parts : {X : Type 0} (a b : Option X) → option_or a b ≡ None → (a ≡ None) × (b ≡ None)
or_parts None b e = (refl, e)
or_parts (Some x) b e = absurd cc

-- an accepted transfer is at its turn
pub turn_is : (b : History) (d from : Id) (t : ℕ) (to : Id) (x : List ℕ) (n : ℕ) → transfer_refusal b d from t to x n ≡ None → t ≡ moves_of b d from
turn_is b d from t to x n e =
    let last : Option BookFault = option_or (zero_or_self n from to) (option_or (short (if_commit_of b d from x) n) None) in
    let turn : Option BookFault = wrong_turn b d from t in
    let one = or_parts (unknown_deal b d) (option_or (not_a_party b d from) (option_or (not_a_party b d to) (option_or (deal_settled b d) (option_or turn last)))) e in
    let two = or_parts (not_a_party b d from) (option_or (not_a_party b d to) (option_or (deal_settled b d) (option_or turn last))) one.1 in
    let three = or_parts (not_a_party b d to) (option_or (deal_settled b d) (option_or turn last)) two.1 in
    let four = or_parts (deal_settled b d) (option_or turn last) three.1 in
    by_test (t == moves_of b d from) refl (or_parts turn last four.1).0
  where
    by_test : (s : Bool) → (t == moves_of b d from) ≡ s → cond s None (Some (WrongTurn (moves_of b d from))) ≡ None → t ≡ moves_of b d from
    by_test true is e = eqb-true t (moves_of b d from) is
    by_test false is e = absurd cc
