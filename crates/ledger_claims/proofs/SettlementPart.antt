-- The rows that a settlement reads make a part that pays what the whole book pays.
use Rattle.std.proofs.Common.{◌≡◌, ℕ, ◌<◌, ◌^◌, ◌&&◌, ◌||◌, not, nat_le, length, Bool, true, false, if◌then◌else◌, List, [], ◌∷◌, ◌++◌, Option, Some, None, is_some, IsTrue, refl, sym, ap, subst, ◌∙◌, arith}
use Rattle.std.specs.List.{sum_by, find, list_any, AllByRecursion}
use Rattle.std.specs.Option.{option_or, option_map, option_and_then, option_map_or}
use Rattle.std.specs.Str.{bytes_eq}
use Rattle.std.proofs.lemmas.List.Sums.{sum_by-cons}
use Rattle.std.proofs.lemmas.Slice.Eq.{bytes_eq-Decides}
use Rattle.dh_base.specs.declared.id.Id.{Id}
use Rattle.dh_base.specs.declared.outcome.Outcome.{Outcome}
use Rattle.dh_base.specs.declared.outcome.Outcome.TheVariants.{Commit, Abort}
use Rattle.dh_base.specs.Ids.{same_id}
use Rattle.dh_base.proofs.SameIds.{same_id-self}
use Rattle.deal_core.specs.Drafts.{parties_in}
use Rattle.escrow_book.specs.declared.change.Change.TheVariants.{Settled}
use Rattle.escrow_book.specs.declared.fault.BookFault.{BookFault}
use Rattle.escrow_book.specs.declared.fault.BookFault.TheVariants.{UnknownDeal, DealSettled}
use Rattle.escrow_book.specs.declared.known_deal.KnownDeal.{KnownDeal}
use Rattle.escrow_book.specs.declared.row.BookRow.{BookRow}
use Rattle.escrow_book.specs.declared.row.BookRow.TheVariants.{Free, Deal, Hold}
use Rattle.escrow_book.specs.declared.row.HoldRow.{HoldRow}
use Rattle.escrow_book.specs.Base.{Base, carried_parties, is_hold}
use Rattle.escrow_book.specs.History.{History, with_change, parties_of, settlement_of, is_among, if_commit_of, if_abort_of, payout_of, free_of}
use Rattle.escrow_book.specs.Opening.{Row, has_row}
use Rattle.escrow_book.specs.Reached.{IsReached, IsGrown, are_parties, are_different}
use Rattle.escrow_book.specs.Refused.{first_of, settle_refusal}
use Rattle.escrow_book.specs.PartRows.{no_rows, with_row, first_fault, are_not_bad, part_of, FitsRow, Says, first_in, free_in, deal_in, hold_in}
use Rattle.escrow_book.proofs.Fitting.{no_fault_of_whole}
use Rattle.escrow_book.proofs.Paying.{pays}
use Rattle.escrow_book.proofs.Rows.{good_rows}
use Rattle.escrow_book.proofs.RowsFound.{free_is, parties_are, settled_is, if_commit_is, if_abort_is}
use Rattle.escrow_book.proofs.Whole.{grown}
use Rattle.ledger_acts.proofs.Agreeing.{good_parties, and_true}
use Rattle.ledger_claims.specs.declared.payees.Payee.{Payee}
use Rattle.ledger_claims.specs.Settling.{payee_rows, part_rows, part_refusal, misfit_of, settled_part}
use Rattle.ledger_claims.proofs.OwnerParties.{owner_is_party}
use Rattle.ledger_claims.proofs.Owners.{IsApart, AreApart, apart_tests, apart_swap, IsOwned}

-- ---- the payees of owners

-- each owner with what it can spend by the book
abbrev pub payees_by : History → List HoldRow → List Payee
payees_by h [] = []
payees_by h (hold ∷ rest) = record { hold = hold; free = free_of h hold.account hold.asset } ∷ payees_by h rest

-- ---- a refusal that a book with the deal open never has

abbrev settle_said : Option (List Id) → Option Outcome → Option BookFault
settle_said parties ended = first_of ((if is_some parties then None else Some UnknownDeal) ∷ option_map DealSettled ended ∷ [])

pub settles : (h : History) (d : Id) (parties : List Id) → parties_of h d ≡ Some parties → settlement_of h d ≡ None → settle_refusal h d ≡ None
settles h d parties known ended = (λ i. settle_said (known i) (ended i))

pub part_settles : (d : Id) (text : List ℕ) (payees : List Payee) → settle_refusal (part_of (part_rows d text payees)) d ≡ None
part_settles d text payees = settles (part_of (part_rows d text payees)) d (parties_in text)
    (parties_are (part_rows d text payees) d ∙ (λ i. option_map (λ (k : KnownDeal). k.parties) (option_or (here_if (same_id-self d i)) (first_in (deal_in d) (payee_rows payees)))))
    (settled_is (part_rows d text payees) d ∙ (λ i. option_and_then (λ (k : KnownDeal). k.outcome) (option_or (here_if (same_id-self d i)) (first_in (deal_in d) (payee_rows payees)))))
  where
    here_if : Bool → Option KnownDeal
    here_if same = if same then Some (record { deal = d; parties = parties_in text; outcome = None }) else None

-- ---- rows that are not bad

list_any_push : {X : Type 0} (f : X → Bool) (xs : List X) (y : X) → list_any f xs ≡ false → f y ≡ false → list_any f (xs ++ y ∷ []) ≡ false
list_any_push f [] y none other = (λ i. other i || false)
list_any_push f (x ∷ xs) y none other = go (f x) none (list_any_push f xs y)
  where
    go : (b : Bool) → (b || list_any f xs) ≡ false → (list_any f xs ≡ false → f y ≡ false → list_any f (xs ++ y ∷ []) ≡ false) → (b || list_any f (xs ++ y ∷ [])) ≡ false
    go true none' later = absurd cc
    go false none' later = later none' other

find_none_push : (f : HoldRow → Bool) (xs : List HoldRow) (y : HoldRow) → is_some (find f xs) ≡ false → f y ≡ false → is_some (find f (xs ++ y ∷ [])) ≡ false
find_none_push f [] y none other = (λ i. is_some (if other i then Some y else None))
find_none_push f (x ∷ xs) y none other = go (f x) none (find_none_push f xs y)
  where
    go : (b : Bool) → is_some (if b then Some x else find f xs) ≡ false → (is_some (find f xs) ≡ false → f y ≡ false → is_some (find f (xs ++ y ∷ [])) ≡ false) → is_some (if b then Some x else find f (xs ++ y ∷ [])) ≡ false
    go true none' later = absurd cc
    go false none' later = later none' other

and_off : (a b : Bool) → b ≡ false → (a && b) ≡ false
and_off true b e = e
and_off false b e = refl

-- the base has no row of the payee, and knows it as a party of its deal
pub record IsNewTo (base : Base) (payee : Payee) : Type 0 where
  pub free : has_row base.0 payee.hold.account payee.hold.asset ≡ false
  pub held : is_some (find (is_hold payee.hold.deal payee.hold.account payee.hold.asset) base.1.holds) ≡ false
  pub party : is_among payee.hold.account (carried_parties base.1 payee.hold.deal) ≡ true

abbrev free_row : Payee → BookRow
free_row payee = Free payee.hold.account payee.hold.asset payee.free

abbrev held_row : Payee → BookRow
held_row payee = Hold payee.hold.deal payee.hold.account payee.hold.asset payee.hold.commit payee.hold.abort

abbrev with_payee : Base → Payee → Base
with_payee base payee = with_row (with_row base (free_row payee)) (held_row payee)

still_new : (base : Base) (payee other : Payee) → IsApart payee.hold other.hold → IsNewTo base other → IsNewTo (with_payee base payee) other
still_new base payee other apart new =
    let away = apart_tests other.hold payee.hold (apart_swap payee.hold other.hold apart) in
    record {
      free = list_any_push (λ (row : Row). same_id other.hold.account row.0 && bytes_eq other.hold.asset row.1) base.0 (payee.hold.account, payee.hold.asset, payee.free) new.free away;
      held = find_none_push (is_hold other.hold.deal other.hold.account other.hold.asset) base.1.holds payee.hold new.held
          (and_off (same_id other.hold.deal payee.hold.deal) (same_id other.hold.account payee.hold.account && bytes_eq other.hold.asset payee.hold.asset) away);
      party = new.party;
    }

abbrev pub PayeesApart : List Payee → Type 0
PayeesApart [] = Unit {0}
PayeesApart (payee ∷ rest) = AllByRecursion (λ (other : Payee). IsApart payee.hold other.hold) rest × PayeesApart rest

all_new : (base : Base) (payee : Payee) (rest : List Payee) → AllByRecursion (λ (other : Payee). IsApart payee.hold other.hold) rest → AllByRecursion (IsNewTo base) rest → AllByRecursion (IsNewTo (with_payee base payee)) rest
all_new base payee [] apart new = tt
all_new base payee (other ∷ rest) apart new = (still_new base payee other apart.0 new.0, all_new base payee rest apart.1 new.1)

first_good : (there rest : Bool) → there ≡ false → rest ≡ true → (not there && rest) ≡ true
first_good true rest e f = absurd cc
first_good false rest e f = f

hold_good : (there among rest : Bool) → there ≡ false → among ≡ true → rest ≡ true → (not (there || not among) && rest) ≡ true
hold_good true among rest e f g = absurd cc
hold_good false true rest e f g = g
hold_good false false rest e f g = absurd cc

payees_good : (base : Base) (payees : List Payee) → PayeesApart payees → AllByRecursion (IsNewTo base) payees → are_not_bad base (payee_rows payees) ≡ true
payees_good base [] apart new = refl
payees_good base (payee ∷ rest) apart new =
    let later = payees_good (with_payee base payee) rest apart.1 (all_new base payee rest apart.0 new.1) in
    first_good (has_row base.0 payee.hold.account payee.hold.asset) _ new.0.free
    (hold_good (is_some (find (is_hold payee.hold.deal payee.hold.account payee.hold.asset) base.1.holds)) (is_among payee.hold.account (carried_parties base.1 payee.hold.deal)) _ new.0.held new.0.party later)

-- ---- what the part has of each payee

abbrev in_row : Payee → Payee → Bool
in_row payee other = same_id payee.hold.account other.hold.account && bytes_eq payee.hold.asset other.hold.asset

no_sum : (payee : Payee) (rest : List Payee) → AllByRecursion (λ (other : Payee). IsApart payee.hold other.hold) rest → sum_by (free_in payee.hold.account payee.hold.asset) (payee_rows rest) ≡ 0
no_sum payee [] apart = refl
no_sum payee (other ∷ rest) apart =
    let away = apart_tests payee.hold other.hold apart.0 in
    let nothing : free_in payee.hold.account payee.hold.asset (free_row other) ≡ 0 = ap (λ (b : Bool). if b then other.free else 0) away in
    let f = free_in payee.hold.account payee.hold.asset in
    omega (arith, nothing, no_sum payee rest apart.1, sum_by-cons f (free_row other) (held_row other ∷ payee_rows rest), sum_by-cons f (held_row other) (payee_rows rest))

-- its free amount and its hold
pub record IsFound (d : Id) (rows : List BookRow) (payee : Payee) : Type 0 where
  pub free : sum_by (free_in payee.hold.account payee.hold.asset) rows ≡ payee.free
  pub held : first_in (hold_in d payee.hold.account payee.hold.asset) rows ≡ Some payee.hold

found_first : (d : Id) (payee : Payee) (rest : List Payee) → payee.hold.deal ≡ d → AllByRecursion (λ (other : Payee). IsApart payee.hold other.hold) rest → IsFound d (payee_rows (payee ∷ rest)) payee
found_first d payee rest of apart =
    let f = free_in payee.hold.account payee.hold.asset in
    let own : in_row payee payee ≡ true = and_true _ _ (same_id-self payee.hold.account) ((bytes_eq-Decides payee.hold.asset payee.hold.asset).1 refl) in
    let here : f (free_row payee) ≡ payee.free = ap (λ (b : Bool). if b then payee.free else 0) own in
    let test : (same_id d payee.hold.deal && in_row payee payee) ≡ true = and_true _ _ (ap (λ (e : Id). same_id d e) of ∙ same_id-self d) own in
    record {
      free = omega (arith, here, no_sum payee rest apart, sum_by-cons f (free_row payee) (held_row payee ∷ payee_rows rest), sum_by-cons f (held_row payee) (payee_rows rest));
      held = ap (λ (b : Bool). option_or (if b then Some payee.hold else None) (first_in (hold_in d payee.hold.account payee.hold.asset) (payee_rows rest))) test;
    }

found_later : (d : Id) (first payee : Payee) (rows : List BookRow) → IsApart first.hold payee.hold → IsFound d rows payee → IsFound d (free_row first ∷ held_row first ∷ rows) payee
found_later d first payee rows apart found =
    let f = free_in payee.hold.account payee.hold.asset in
    let away = apart_tests payee.hold first.hold (apart_swap first.hold payee.hold apart) in
    let nothing : f (free_row first) ≡ 0 = ap (λ (b : Bool). if b then first.free else 0) away in
    let test = and_off (same_id d first.hold.deal) (in_row payee first) away in
    record {
      free = omega (arith, nothing, found.free, sum_by-cons f (free_row first) (held_row first ∷ rows), sum_by-cons f (held_row first) rows);
      held = ap (λ (b : Bool). option_or (if b then Some first.hold else None) (first_in (hold_in d payee.hold.account payee.hold.asset) rows)) test ∙ found.held;
    }

all_later : (d : Id) (first : Payee) (rest : List Payee) (rows : List BookRow) → AllByRecursion (λ (other : Payee). IsApart first.hold other.hold) rest → AllByRecursion (IsFound d rows) rest → AllByRecursion (IsFound d (free_row first ∷ held_row first ∷ rows)) rest
all_later d first [] rows apart found = tt
all_later d first (other ∷ rest) rows apart found = (found_later d first other rows apart.0 found.0, all_later d first rest rows apart.1 found.1)

all_found : (d : Id) (payees : List Payee) → AllByRecursion (λ (payee : Payee). payee.hold.deal ≡ d) payees → PayeesApart payees → AllByRecursion (IsFound d (payee_rows payees)) payees
all_found d [] of apart = tt
all_found d (payee ∷ rest) of apart = (found_first d payee rest of.0 apart.0, all_later d payee rest (payee_rows rest) apart.0 (all_found d rest of.1 apart.1))

-- ---- the part of a whole book

module _ (h : History) (d : Id) (text : List ℕ) (outcome : Outcome) (reached : IsReached h) (known : parties_of h d ≡ Some (parties_in text)) (is_open : settlement_of h d ≡ None) (good : IsTrue (are_parties (parties_in text)))
    (small : (p : Id) (x : List ℕ) → (if_commit_of h d p x < 2 ^ 64) × (if_abort_of h d p x < 2 ^ 64)) (owned : List HoldRow) (owns : AllByRecursion (IsOwned h d) owned) (apart : AreApart owned) where
  abbrev payees : List Payee
  payees = payees_by h owned

  abbrev rows : List BookRow
  rows = part_rows d text payees

  abbrev parties : List Id
  parties = parties_in text

  -- what holds of the owners, of the payees
  payees_where : (P : HoldRow → Type 0) (Q : Payee → Type 0) → ((hold : HoldRow) → P hold → Q (record { hold = hold; free = free_of h hold.account hold.asset })) → (holds : List HoldRow) → AllByRecursion P holds → AllByRecursion Q (payees_by h holds)
  payees_where P Q on [] all = tt
  payees_where P Q on (hold ∷ rest) all = (on hold all.0, payees_where P Q on rest all.1)

  still_apart : (holds : List HoldRow) → AreApart holds → PayeesApart (payees_by h holds)
  still_apart [] away = tt
  still_apart (hold ∷ rest) away = (payees_where (IsApart hold) (λ (other : Payee). IsApart hold other.hold) (λ other one. one) rest away.0, still_apart rest away.1)

  abbrev first_base : Base
  first_base = with_row no_rows (Deal d parties None)

  new_at_first : (hold : HoldRow) → IsOwned h d hold → IsNewTo first_base (record { hold = hold; free = free_of h hold.account hold.asset })
  new_at_first hold own = record {
    free = refl;
    held = refl;
    party = ap (λ (same : Bool). is_among hold.account (option_map (λ (k : KnownDeal). k.parties) (if same then Some (record { deal = d; parties = parties; outcome = None }) else None))) (ap (λ (e : Id). same_id e d) own.of ∙ same_id-self d)
        ∙ owner_is_party h d hold.account hold.asset parties reached known (let some = own.some in let commit = own.commit in let abort = own.abort in omega arith);
  }

  not_bad : are_not_bad no_rows rows ≡ true
  not_bad =
      let two = good_parties parties good in
      let later = payees_good first_base payees (still_apart owned apart) (payees_where (IsOwned h d) (IsNewTo first_base) new_at_first owned owns) in
      deal_good (nat_le 2 (length parties)) (are_different parties) _ two.two two.different later
    where
      deal_good : (a b rest : Bool) → a ≡ true → b ≡ true → rest ≡ true → (not (not (a && b)) && rest) ≡ true
      deal_good true true rest e f g = g
      deal_good true false rest e f g = absurd cc
      deal_good false b rest e f g = absurd cc

  says : (holds : List HoldRow) → AllByRecursion (IsOwned h d) holds → AllByRecursion (Says h) (payee_rows (payees_by h holds))
  says [] all = tt
  says (hold ∷ rest) all = (
    refl,
    (
      (
        all.0.commit ∙ ap (λ (e : Id). if_commit_of h e hold.account hold.asset) (sym all.0.of),
        all.0.abort ∙ ap (λ (e : Id). if_abort_of h e hold.account hold.asset) (sym all.0.of),
      ),
      says rest all.1,
    ),
  )

  pub fits : first_fault no_rows 0 rows ≡ None
  fits = no_fault_of_whole h rows reached not_bad ((known, is_open), says owned owns)

  pub no_misfit : part_refusal rows ≡ None
  no_misfit = ap (option_map (misfit_of rows)) fits

  widths : (holds : List HoldRow) → AllByRecursion (IsOwned h d) holds → AllByRecursion FitsRow (payee_rows (payees_by h holds))
  widths [] all = tt
  widths (hold ∷ rest) all =
      let fit = small hold.account hold.asset in (
        tt,
        ((subst (λ (n : ℕ). n < 2 ^ 64) (sym all.0.commit) fit.0, subst (λ (n : ℕ). n < 2 ^ 64) (sym all.0.abort) fit.1), widths rest all.1),
      )

  part_grown : IsGrown (part_of rows)
  part_grown = record { good = good_rows rows (tt, widths owned owns) fits; accepted = tt }

  -- the free amount of a payee behind the settlement
  abbrev IsPaid : Payee → Type 0
  IsPaid payee = free_of (settled_part d outcome rows) payee.hold.account payee.hold.asset ≡ free_of (with_change h (Settled d outcome)) payee.hold.account payee.hold.asset

  same_payout : (o : Outcome) (hold : HoldRow) → IsOwned h d hold → first_in (hold_in d hold.account hold.asset) rows ≡ Some hold → payout_of (part_of rows) d o hold.account hold.asset ≡ payout_of h d o hold.account hold.asset
  same_payout Commit hold own found = if_commit_is rows d hold.account hold.asset ∙ ap (λ (o : Option HoldRow). option_map_or (λ (row : HoldRow). row.commit) o 0) found ∙ own.commit
  same_payout Abort hold own found = if_abort_is rows d hold.account hold.asset ∙ ap (λ (o : Option HoldRow). option_map_or (λ (row : HoldRow). row.abort) o 0) found ∙ own.abort

  paid : (hold : HoldRow) → IsOwned h d hold → IsFound d (payee_rows payees) (record { hold = hold; free = free_of h hold.account hold.asset }) → IsPaid (record { hold = hold; free = free_of h hold.account hold.asset })
  paid hold own found =
      let p = hold.account in
      let x = hold.asset in
      let before : free_of (part_of rows) p x ≡ sum_by (free_in p x) rows = free_is rows p x in
      let first = sum_by-cons (free_in p x) (Deal d parties None) (payee_rows payees) in
      let free : sum_by (free_in p x) (payee_rows payees) ≡ free_of h p x = found.free in
      let part = pays (part_of rows) d p x outcome part_grown (part_settles d text payees) in
      let whole = pays h d p x outcome (grown h reached) (settles h d parties known is_open) in
      let payout = same_payout outcome hold own found.held in
      omega (arith, before, first, free, part, whole, payout)

  pub all_paid : AllByRecursion IsPaid payees
  all_paid = each owned owns (all_found d payees (payees_where (IsOwned h d) (λ (payee : Payee). payee.hold.deal ≡ d) (λ hold own. own.of) owned owns) (still_apart owned apart))
    where
      each : (holds : List HoldRow) → AllByRecursion (IsOwned h d) holds → AllByRecursion (IsFound d (payee_rows payees)) (payees_by h holds) → AllByRecursion IsPaid (payees_by h holds)
      each [] own found = tt
      each (hold ∷ rest) own found = (paid hold own.0 found.0, each rest own.1 found.1)
