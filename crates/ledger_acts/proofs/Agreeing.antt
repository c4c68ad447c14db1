-- A part of a book that agrees with the whole one on what a movement touches.
use Rattle.std.proofs.Common.{◌≡◌, ℕ, Bool, true, false, ◌&&◌, if◌then◌else◌, List, length, nat_le, Option, Some, None, IsTrue, is_some, refl, sym, ap, ◌∙◌}
use Rattle.std.specs.Option.{option_or}
use Rattle.std.specs.Str.{bytes_eq}
use Rattle.std.proofs.lemmas.Bool.{and_parts}
use Rattle.std.proofs.lemmas.Slice.Eq.{bytes_eq-Decides}
use Rattle.dh_base.specs.declared.id.Id.{Id}
use Rattle.dh_base.specs.Limits.{most_parties}
use Rattle.escrow_book.specs.declared.fault.BookFault.{BookFault}
use Rattle.escrow_book.specs.declared.fault.BookFault.TheVariants.{UnknownDeal, NotAParty}
use Rattle.escrow_book.specs.declared.row.BookRow.{BookRow}
use Rattle.escrow_book.specs.History.{History, with_change, parties_of, is_in, is_among}
use Rattle.escrow_book.specs.Reached.{IsAccepted, are_parties, are_different}
use Rattle.escrow_book.specs.PartRows.{no_rows, first_fault, part_of}
use Rattle.keeper_core.specs.declared.change.Change.{Change}
use Rattle.ledger_acts.specs.declared.movement.Movement.{Movement}
use Rattle.ledger_acts.specs.Movements.{change_of, book_refusal, changes_of, moved_part}

pub record Agrees (movement : Movement) (rows : List BookRow) (whole : History) : Type 0 where
  pub fits : first_fault no_rows 0 rows ≡ None
  pub same : book_refusal (part_of rows) movement ≡ book_refusal whole movement
  pub changes : IsAccepted whole (change_of movement) → (act : List Change) → changes_of (moved_part movement rows) movement act ≡ changes_of (with_change whole (change_of movement)) movement act

pub same_bytes : (x : List ℕ) → bytes_eq x x ≡ true
same_bytes x = (bytes_eq-Decides x x).1 refl

pub and_true : (x y : Bool) → x ≡ true → y ≡ true → (x && y) ≡ true
and_true true y e f = f
and_true false y e f = absurd cc

pub and_false : (x y : Bool) → x ≡ false → (x && y) ≡ false
and_false false y e = refl
and_false true y e = absurd cc

-- ---- deals

pub record GoodParties (parties : List Id) : Type 0 where
  pub two : nat_le 2 (length parties) ≡ true
  pub different : are_different parties ≡ true

pub good_parties : (parties : List Id) → IsTrue (are_parties parties) → GoodParties parties
good_parties parties good =
    let parts = and_parts (nat_le 2 (length parties)) (nat_le (length parties) most_parties && are_different parties) good in
    record { two = parts.0; different = (and_parts (nat_le (length parties) most_parties) (are_different parties) parts.1).1 }

abbrev pub unknown_by : Option (List Id) → Option BookFault
unknown_by parties = if is_some parties then None else Some UnknownDeal

abbrev pub stranger_by : Id → Option (List Id) → Option BookFault
stranger_by account parties = if is_among account parties then None else Some (NotAParty account)

-- an unknown deal is refused first
pub unknown_first : (h : History) (d : Id) (rest : Option BookFault) → parties_of h d ≡ None → option_or (unknown_by (parties_of h d)) rest ≡ Some UnknownDeal
unknown_first h d rest none = ap (λ (o : Option (List Id)). option_or (unknown_by o) rest) none

-- and then an account that is no party
pub stranger_first : (h : History) (d p : Id) (parties : List Id) (rest : Option BookFault) → parties_of h d ≡ Some parties → is_in p parties ≡ false → option_or (unknown_by (parties_of h d)) (option_or (stranger_by p (parties_of h d)) rest) ≡ Some (NotAParty p)
stranger_first h d p parties rest known out =
    ap (λ (o : Option (List Id)). option_or (unknown_by o) (option_or (stranger_by p o) rest)) known ∙ ap (λ (b : Bool). option_or (if b then None else Some (NotAParty p)) rest) out

-- the other account, where the first is a party
pub other_first : (h : History) (d p q : Id) (parties : List Id) (rest : Option BookFault) → parties_of h d ≡ Some parties → is_in p parties ≡ true → is_in q parties ≡ false →
    option_or (unknown_by (parties_of h d)) (option_or (stranger_by p (parties_of h d)) (option_or (stranger_by q (parties_of h d)) rest)) ≡ Some (NotAParty q)
other_first h d p q parties rest known into out =
    ap (λ (o : Option (List Id)). option_or (unknown_by o) (option_or (stranger_by p o) (option_or (stranger_by q o) rest))) known
    ∙ (λ i. option_or (if into i then None else Some (NotAParty p)) (option_or (if out i then None else Some (NotAParty q)) rest))

-- an accepted change isn't refused
pub clash : {A : Type 0} (refusal : Option BookFault) (fault : BookFault) → refusal ≡ Some fault → refusal ≡ None → A
clash refusal fault some none = absurd (let e : Some fault ≡ None = sym some ∙ none in cc)
