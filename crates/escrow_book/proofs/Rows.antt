-- Rows of a part that have no fault make a good base.
use Rattle.std.proofs.Common.{◌≡◌, ℕ, ◌+◌, ◌<◌, ◌≤◌, ◌==◌, max, Bool, true, false, ◌&&◌, ◌||◌, not, nat_lt, nat_le, cond, List, [], ◌∷◌, ◌++◌, length, drop, get_or, Option, Some, None, is_some, refl, ap, sym, ◌∙◌, subst, arith}
use Rattle.std.specs.List.{sum_by, find, AllByRecursion}
use Rattle.std.specs.Option.{option_or, option_map}
use Rattle.std.specs.Str.{bytes_eq}
use Rattle.std.proofs.Math.Nat.{max-le}
use Rattle.std.proofs.Math.Seq.{drop-cons}
use Rattle.std.proofs.lemmas.Bool.{ltb-false, eqb-false, or_parts}
use Rattle.std.proofs.lemmas.List.Sums.{sum_by_push}
use Rattle.dh_base.specs.declared.id.Id.{Id}
use Rattle.dh_base.specs.declared.outcome.Outcome.{Outcome}
use Rattle.escrow_book.specs.declared.row.BookRow.{BookRow}
use Rattle.escrow_book.specs.declared.row.BookRow.TheVariants.{Free, Deal, Hold, Moves}
use Rattle.escrow_book.specs.declared.row.HoldRow.{HoldRow}
use Rattle.escrow_book.specs.declared.row.MovesRow.{MovesRow}
use Rattle.escrow_book.specs.declared.known_deal.KnownDeal.{KnownDeal}
use Rattle.escrow_book.specs.declared.part_fault.PartFault.{PartFault}
use Rattle.escrow_book.specs.declared.part_fault.PartFault.TheVariants.{BadRows, SumTooLarge, NoMemory}
use Rattle.dh_base.specs.Amounts.{greatest_amount}
use Rattle.escrow_book.specs.Opening.{Row, asset_amount, total_of}
use Rattle.dh_base.specs.Ids.{same_id}
use Rattle.escrow_book.specs.Base.{Base, find_deal, carried_parties, is_hold, is_moves, hold_commit, hold_abort, most_of, most_if_open, base_total, greatest_turn, IsGoodBase}
use Rattle.escrow_book.specs.History.{is_among}
use Rattle.escrow_book.specs.Reached.{are_different}
use Rattle.escrow_book.specs.PartRows.{no_rows, with_row, with_rows, is_bad_row, is_too_large, row_fault, row_number, first_fault, IsPartRefusal, FitsRow}
use Rattle.escrow_book.proofs.Sums.{sum_same_all, all_weaker, all_append}
use Rattle.escrow_book.proofs.Same.{name_from_same}
use Rattle.escrow_book.proofs.Lookups.{some_here}
use Rattle.escrow_book.proofs.Keeping.{find_push}
use Rattle.escrow_book.proofs.Carrying.{holds_nothing}

no_fault : (a b : Bool) (f g : PartFault) → cond a (Some f) (cond b (Some g) None) ≡ None → (a ≡ false) × (b ≡ false)
no_fault true b f g e = absurd cc
no_fault false true f g e = absurd cc
no_fault false false f g e = (refl, refl)

not_none : (b : Bool) → not b ≡ false → b ≡ true
not_none true e = refl
not_none false e = absurd cc

no_value : {T : Type 0} (o : Option T) → is_some o ≡ false → o ≡ None
no_value None e = refl
no_value (Some t) e = absurd cc

pub among_some : (p : Id) (o : Option KnownDeal) → is_among p (option_map (λ (known : KnownDeal). known.parties) o) ≡ true → is_some o ≡ true
among_some p None e = absurd cc
among_some p (Some known) e = refl

-- a sum within the limit for the asset of the row, and as before for others
module _ (base : Base) (good : IsGoodBase base.0 base.1) where
  free_total : (account : Id) (x : List ℕ) (n : ℕ) → nat_lt greatest_amount (base_total (base.0 ++ (account, x, n) ∷ []) base.1 x) ≡ false → (y : List ℕ) → base_total (base.0 ++ (account, x, n) ∷ []) base.1 y ≤ greatest_amount
  free_total account x n fits y = at (bytes_eq y x) refl
    where
      at : (b : Bool) → bytes_eq y x ≡ b → base_total (base.0 ++ (account, x, n) ∷ []) base.1 y ≤ greatest_amount
      at true same = subst (λ (z : List ℕ). base_total (base.0 ++ (account, x, n) ∷ []) base.1 z ≤ greatest_amount) (sym (name_from_same y x same)) (ltb-false greatest_amount (base_total (base.0 ++ (account, x, n) ∷ []) base.1 x) fits)
      at false other =
          let row : Row = (account, x, n) in
          let nothing : asset_amount y (account, x, n) ≡ 0 = ap (λ b. cond b n 0) other in
          omega (arith, sum_by_push (asset_amount y) base.0 (account, x, n), good.total y)

  deal_total : (d : Id) (parties : List Id) (o : Option Outcome) → find_deal base.1.deals d ≡ None → (y : List ℕ) → total_of base.0 y + sum_by (λ k. most_if_open k base.1.holds y) (base.1.deals ++ record { deal = d; parties = parties; outcome = o } ∷ []) ≤ greatest_amount
  deal_total d parties o missing y =
      let k : KnownDeal = record { deal = d; parties = parties; outcome = o } in
      let commits : sum_by (hold_commit d y) base.1.holds ≡ 0 = holds_nothing base.1.deals (λ (row : HoldRow). row.commit) d y base.1.holds missing good.known in
      let aborts : sum_by (hold_abort d y) base.1.holds ≡ 0 = holds_nothing base.1.deals (λ (row : HoldRow). row.abort) d y base.1.holds missing good.known in
      let none : most_of base.1.holds d y ≤ 0 = max-le {a = sum_by (hold_commit d y) base.1.holds} {b = sum_by (hold_abort d y) base.1.holds} {k = 0} (omega arith) (omega arith) in
      let here : most_if_open (record { deal = d; parties = parties; outcome = o }) base.1.holds y ≤ 0 = either (is_some o) (most_of base.1.holds d y) none in
      omega (arith, here, sum_by_push (λ k. most_if_open k base.1.holds y) base.1.deals (record { deal = d; parties = parties; outcome = o }), good.total y)
    where
      either : (b : Bool) (n : ℕ) → n ≤ 0 → cond b 0 n ≤ 0
      either true n e = omega arith
      either false n e = e

  hold_total : (h : HoldRow) → nat_lt greatest_amount (total_of base.0 h.asset + sum_by (λ k. most_if_open k (base.1.holds ++ h ∷ []) h.asset) base.1.deals) ≡ false → (y : List ℕ) → total_of base.0 y + sum_by (λ k. most_if_open k (base.1.holds ++ h ∷ []) y) base.1.deals ≤ greatest_amount
  hold_total h fits y = at (bytes_eq y h.asset) refl
    where
      off : (a b : Bool) (n : ℕ) → b ≡ false → cond (a && b) n 0 ≡ 0
      off true b n e = ap (λ i. cond i n 0) e
      off false b n e = refl

      same : bytes_eq y h.asset ≡ false → (k : KnownDeal) → most_if_open k (base.1.holds ++ h ∷ []) y ≡ most_if_open k base.1.holds y
      same other k =
          let commits : sum_by (hold_commit k.deal y) (base.1.holds ++ h ∷ []) ≡ sum_by (hold_commit k.deal y) base.1.holds = omega (arith, sum_by_push (hold_commit k.deal y) base.1.holds h, off (same_id k.deal h.deal) (bytes_eq y h.asset) h.commit other) in
          let aborts : sum_by (hold_abort k.deal y) (base.1.holds ++ h ∷ []) ≡ sum_by (hold_abort k.deal y) base.1.holds = omega (arith, sum_by_push (hold_abort k.deal y) base.1.holds h, off (same_id k.deal h.deal) (bytes_eq y h.asset) h.abort other) in
          ap (λ n. cond (is_some k.outcome) 0 (max n (sum_by (hold_abort k.deal y) (base.1.holds ++ h ∷ [])))) commits ∙ ap (λ n. cond (is_some k.outcome) 0 (max (sum_by (hold_commit k.deal y) base.1.holds) n)) aborts

      at : (b : Bool) → bytes_eq y h.asset ≡ b → total_of base.0 y + sum_by (λ k. most_if_open k (base.1.holds ++ h ∷ []) y) base.1.deals ≤ greatest_amount
      at true is = subst (λ (z : List ℕ). total_of base.0 z + sum_by (λ k. most_if_open k (base.1.holds ++ h ∷ []) z) base.1.deals ≤ greatest_amount) (sym (name_from_same y h.asset is)) (ltb-false greatest_amount (total_of base.0 h.asset + sum_by (λ k. most_if_open k (base.1.holds ++ h ∷ []) h.asset) base.1.deals) fits)
      at false other = omega (arith, good.total y, sum_same_all (λ k. most_if_open k (base.1.holds ++ h ∷ []) y) (λ k. most_if_open k base.1.holds y) base.1.deals (same other))

  -- a row without a fault keeps the base good
  pub good_step : (row : BookRow) (place : ℕ) → FitsRow row → row_fault base place row ≡ None → IsGoodBase (with_row base row).0 (with_row base row).1
  good_step (Free account x n) place fits e =
      let parts = no_fault (is_bad_row base (Free account x n)) (is_too_large base (Free account x n)) (BadRows place) (SumTooLarge place) e in
      record { total = free_total account x n parts.1; known = good.known; fits = good.fits; moves = good.moves }
  good_step (Deal d parties o) place fits e =
      let parts = no_fault (is_bad_row base (Deal d parties o)) false (BadRows place) (SumTooLarge place) e in
      let missing : find_deal base.1.deals d ≡ None = no_value (find_deal base.1.deals d) (or_parts (is_some (find_deal base.1.deals d)) (not (nat_le 2 (length parties) && are_different parties)) parts.0).0 in
      record {
        total = deal_total d parties o missing;
        known = all_weaker (λ (row : HoldRow). is_some (find_deal base.1.deals row.deal) ≡ true) (λ (row : HoldRow). is_some (find_deal (base.1.deals ++ record { deal = d; parties = parties; outcome = o } ∷ []) row.deal) ≡ true) base.1.holds (λ row there. ap is_some (find_push (λ known. same_id row.deal known.deal) base.1.deals (record { deal = d; parties = parties; outcome = o })) ∙ some_here (find_deal base.1.deals row.deal) (cond (same_id row.deal d) (Some (record { deal = d; parties = parties; outcome = o })) None) there) good.known;
        fits = good.fits;
        moves = good.moves;
      }
  good_step (Hold d account x c a) place fits e =
      let parts = no_fault (is_bad_row base (Hold d account x c a)) (is_too_large base (Hold d account x c a)) (BadRows place) (SumTooLarge place) e in
      let party : is_among account (carried_parties base.1 d) ≡ true = not_none (is_among account (carried_parties base.1 d)) (or_parts (is_some (find (is_hold d account x) base.1.holds)) (not (is_among account (carried_parties base.1 d))) parts.0).1 in
      let h : HoldRow = record { deal = d; account = account; asset = x; commit = c; abort = a } in
      record {
        total = hold_total (record { deal = d; account = account; asset = x; commit = c; abort = a }) parts.1;
        known = all_append (λ (row : HoldRow). is_some (find_deal base.1.deals row.deal) ≡ true) base.1.holds (record { deal = d; account = account; asset = x; commit = c; abort = a } ∷ []) good.known (among_some account (find_deal base.1.deals d) party, tt);
        fits = all_append (λ (row : HoldRow). (row.commit < 18446744073709551616) × (row.abort < 18446744073709551616)) base.1.holds (record { deal = d; account = account; asset = x; commit = c; abort = a } ∷ []) good.fits ((fits.0, fits.1), tt);
        moves = good.moves;
      }
  good_step (Moves d account m) place fits e =
      let parts = no_fault (is_bad_row base (Moves d account m)) false (BadRows place) (SumTooLarge place) e in
      let last = (or_parts (not (is_among account (carried_parties base.1 d))) (m == greatest_turn) (or_parts (is_some (find (is_moves d account) base.1.moves)) (not (is_among account (carried_parties base.1 d)) || (m == greatest_turn)) parts.0).1).1 in
      let apart : m ≡ greatest_turn → ⊥ = eqb-false m greatest_turn last in
      let small : m < 4294967296 = fits in
      record {
        total = good.total;
        known = good.known;
        fits = good.fits;
        moves = all_append (λ (row : MovesRow). row.moves < greatest_turn) base.1.moves (record { deal = d; account = account; moves = m } ∷ []) good.moves (omega arith, tt);
      }

first_none : (o p : Option PartFault) → option_or o p ≡ None → (o ≡ None) × (p ≡ None)
first_none None p e = (refl, e)
first_none (Some fault) p e = absurd cc

-- rows without a fault keep the base good
rows_keep : (base : Base) (place : ℕ) (rows : List BookRow) → IsGoodBase base.0 base.1 → AllByRecursion FitsRow rows → first_fault base place rows ≡ None → IsGoodBase (with_rows base rows).0 (with_rows base rows).1
rows_keep base place [] good fit none = good
rows_keep base place (row ∷ rest) good fit none =
    let both = first_none (row_fault base (row_number place) row) (first_fault (with_row base row) (place + 1) rest) none in
    rows_keep (with_row base row) (place + 1) rest (good_step base good row (row_number place) fit.0 both.0) fit.1 both.1

pub good_rows : (rows : List BookRow) → AllByRecursion FitsRow rows → first_fault no_rows 0 rows ≡ None → IsGoodBase (with_rows no_rows rows).0 (with_rows no_rows rows).1
good_rows rows fit none = rows_keep no_rows 0 rows (record { total = λ x. omega arith; known = tt; fits = tt; moves = tt }) fit none

-- ---- one row further

next_rows : (rows : List BookRow) (place : ℕ) (row : BookRow) → row ≡ get_or rows place row → place < length rows → drop place rows ≡ row ∷ drop (place + 1) rows
next_rows rows place row here less = grind (arith, drop-cons)

pub fault_on : (base next : Base) (rows : List BookRow) (place : ℕ) (row : BookRow) → row ≡ get_or rows place row → place < length rows → row_fault base (row_number place) row ≡ None → next ≡ with_row base row → first_fault base place (drop place rows) ≡ first_fault next (place + 1) (drop (place + 1) rows)
fault_on base next rows place row here less none is =
    ap (first_fault base place) (next_rows rows place row here less) ∙ (ap (λ o. option_or o (first_fault (with_row base row) (place + 1) (drop (place + 1) rows))) none ∙ ap (λ (b : Base). first_fault b (place + 1) (drop (place + 1) rows)) (sym is))

pub rows_on : (base next : Base) (rows : List BookRow) (place : ℕ) (row : BookRow) → row ≡ get_or rows place row → place < length rows → next ≡ with_row base row → with_rows base (drop place rows) ≡ with_rows next (drop (place + 1) rows)
rows_on base next rows place row here less is =
    ap (with_rows base) (next_rows rows place row here less) ∙ ap (λ (b : Base). with_rows b (drop (place + 1) rows)) (sym is)

pub good_on : (base next : Base) (place : ℕ) (row : BookRow) → IsGoodBase base.0 base.1 → FitsRow row → row_fault base (row_number place) row ≡ None → next ≡ with_row base row → IsGoodBase next.0 next.1
good_on base next place row good fits none is = subst (λ (b : Base). IsGoodBase b.0 b.1) (sym is) (good_step base good row (row_number place) fits none)

pub refused_here : (base : Base) (rows : List BookRow) (place : ℕ) (row : BookRow) (fault : PartFault) → row ≡ get_or rows place row → place < length rows → IsPartRefusal fault (row_fault base (row_number place) row) → IsPartRefusal fault (first_fault base place (drop place rows))
refused_here base rows place row fault here less refused = subst (λ (l : List BookRow). IsPartRefusal fault (first_fault base place l)) (sym (next_rows rows place row here less)) (at fault refused)
  where
    at : (f : PartFault) → IsPartRefusal f (row_fault base (row_number place) row) → IsPartRefusal f (option_or (row_fault base (row_number place) row) (first_fault (with_row base row) (place + 1) (drop (place + 1) rows)))
    at (BadRows i) e = ap (λ o. option_or o (first_fault (with_row base row) (place + 1) (drop (place + 1) rows))) e
    at (SumTooLarge i) e = ap (λ o. option_or o (first_fault (with_row base row) (place + 1) (drop (place + 1) rows))) e
    at NoMemory e = tt
