-- What a part says is found in its rows.
use Rattle.std.proofs.Common.{◌≡◌, ℕ, ◌+◌, Bool, true, false, cond, List, [], ◌∷◌, ◌++◌, Option, Some, None, refl, ap, sym, ◌∙◌, arith}
use Rattle.std.specs.List.{sum_by, find}
use Rattle.std.specs.Option.{option_or, option_map, option_and_then, option_map_or}
use Rattle.std.proofs.lemmas.List.Sums.{sum_by-cons, sum_by_push}
use Rattle.dh_base.specs.declared.id.Id.{Id}
use Rattle.escrow_book.specs.declared.row.BookRow.{BookRow}
use Rattle.escrow_book.specs.declared.row.BookRow.TheVariants.{Free, Deal, Hold, Moves}
use Rattle.escrow_book.specs.declared.row.HoldRow.{HoldRow}
use Rattle.escrow_book.specs.declared.row.MovesRow.{MovesRow}
use Rattle.escrow_book.specs.declared.known_deal.KnownDeal.{KnownDeal}
use Rattle.escrow_book.specs.Opening.{row_amount, opening_of}
use Rattle.dh_base.specs.Ids.{same_id}
use Rattle.escrow_book.specs.Base.{Base, find_deal, is_hold, is_moves}
use Rattle.escrow_book.specs.History.{parties_of, settlement_of, moves_of, if_commit_of, if_abort_of, free_of}
use Rattle.escrow_book.specs.PartRows.{no_rows, with_row, with_rows, part_of, first_in, free_in, deal_in, hold_in, moves_in}
use Rattle.escrow_book.proofs.Lookups.{or_assoc, or_none}

found_push : {X : Type 0} (test : X → Bool) (xs : List X) (y : X) → find test (xs ++ y ∷ []) ≡ option_or (find test xs) (cond (test y) (Some y) None)
found_push test [] y = refl
found_push test (x ∷ xs) y = at (test x) (found_push test xs y)
  where
    at : (b : Bool) → find test (xs ++ y ∷ []) ≡ option_or (find test xs) (cond (test y) (Some y) None) → cond b (Some x) (find test (xs ++ y ∷ [])) ≡ option_or (cond b (Some x) (find test xs)) (cond (test y) (Some y) None)
    at true e = refl
    at false e = e

one_more : {X : Type 0} (test : X → Bool) (xs : List X) (y : X) (rest : Option X) → option_or (find test (xs ++ y ∷ [])) rest ≡ option_or (find test xs) (option_or (cond (test y) (Some y) None) rest)
one_more test xs y rest = ap (λ o. option_or o rest) (found_push test xs y) ∙ sym (or_assoc (find test xs) (cond (test y) (Some y) None) rest)

holds_found : (base : Base) (rows : List BookRow) (d p : Id) (x : List ℕ) → find (is_hold d p x) (with_rows base rows).1.holds ≡ option_or (find (is_hold d p x) base.1.holds) (first_in (hold_in d p x) rows)
holds_found base [] d p x = sym (or_none (find (is_hold d p x) base.1.holds))
holds_found base (Free a y n ∷ rows) d p x = holds_found (with_row base (Free a y n)) rows d p x
holds_found base (Deal e parties o ∷ rows) d p x = holds_found (with_row base (Deal e parties o)) rows d p x
holds_found base (Hold e q y c a ∷ rows) d p x = holds_found (with_row base (Hold e q y c a)) rows d p x ∙ one_more (is_hold d p x) base.1.holds (record { deal = e; account = q; asset = y; commit = c; abort = a }) (first_in (hold_in d p x) rows)
holds_found base (Moves e q m ∷ rows) d p x = holds_found (with_row base (Moves e q m)) rows d p x

deals_found : (base : Base) (rows : List BookRow) (d : Id) → find_deal (with_rows base rows).1.deals d ≡ option_or (find_deal base.1.deals d) (first_in (deal_in d) rows)
deals_found base [] d = sym (or_none (find_deal base.1.deals d))
deals_found base (Free a y n ∷ rows) d = deals_found (with_row base (Free a y n)) rows d
deals_found base (Deal e parties o ∷ rows) d = deals_found (with_row base (Deal e parties o)) rows d ∙ one_more (λ known. same_id d known.deal) base.1.deals (record { deal = e; parties = parties; outcome = o }) (first_in (deal_in d) rows)
deals_found base (Hold e q y c a ∷ rows) d = deals_found (with_row base (Hold e q y c a)) rows d
deals_found base (Moves e q m ∷ rows) d = deals_found (with_row base (Moves e q m)) rows d

turns_found : (base : Base) (rows : List BookRow) (d p : Id) → find (is_moves d p) (with_rows base rows).1.moves ≡ option_or (find (is_moves d p) base.1.moves) (first_in (moves_in d p) rows)
turns_found base [] d p = sym (or_none (find (is_moves d p) base.1.moves))
turns_found base (Free a y n ∷ rows) d p = turns_found (with_row base (Free a y n)) rows d p
turns_found base (Deal e parties o ∷ rows) d p = turns_found (with_row base (Deal e parties o)) rows d p
turns_found base (Hold e q y c a ∷ rows) d p = turns_found (with_row base (Hold e q y c a)) rows d p
turns_found base (Moves e q m ∷ rows) d p = turns_found (with_row base (Moves e q m)) rows d p ∙ one_more (is_moves d p) base.1.moves (record { deal = e; account = q; moves = m }) (first_in (moves_in d p) rows)

free_found : (base : Base) (rows : List BookRow) (p : Id) (x : List ℕ) → opening_of (with_rows base rows).0 p x ≡ opening_of base.0 p x + sum_by (free_in p x) rows
free_found base [] p x = omega arith
free_found base (Free a y n ∷ rows) p x = omega (arith, free_found (with_row base (Free a y n)) rows p x, sum_by_push (row_amount p x) base.0 (a, y, n), sum_by-cons (free_in p x) (Free a y n) rows)
free_found base (Deal e parties o ∷ rows) p x = omega (arith, free_found (with_row base (Deal e parties o)) rows p x, sum_by-cons (free_in p x) (Deal e parties o) rows)
free_found base (Hold e q y c a ∷ rows) p x = omega (arith, free_found (with_row base (Hold e q y c a)) rows p x, sum_by-cons (free_in p x) (Hold e q y c a) rows)
free_found base (Moves e q m ∷ rows) p x = omega (arith, free_found (with_row base (Moves e q m)) rows p x, sum_by-cons (free_in p x) (Moves e q m) rows)

pub free_is : (rows : List BookRow) (p : Id) (x : List ℕ) → free_of (part_of rows) p x ≡ sum_by (free_in p x) rows
free_is rows p x = omega (arith, free_found no_rows rows p x)

pub parties_are : (rows : List BookRow) (d : Id) → parties_of (part_of rows) d ≡ option_map (λ (known : KnownDeal). known.parties) (first_in (deal_in d) rows)
parties_are rows d = or_none (option_map (λ (known : KnownDeal). known.parties) (find_deal (with_rows no_rows rows).1.deals d)) ∙ ap (option_map (λ (known : KnownDeal). known.parties)) (deals_found no_rows rows d)

pub settled_is : (rows : List BookRow) (d : Id) → settlement_of (part_of rows) d ≡ option_and_then (λ (known : KnownDeal). known.outcome) (first_in (deal_in d) rows)
settled_is rows d = or_none (option_and_then (λ (known : KnownDeal). known.outcome) (find_deal (with_rows no_rows rows).1.deals d)) ∙ ap (option_and_then (λ (known : KnownDeal). known.outcome)) (deals_found no_rows rows d)

pub if_commit_is : (rows : List BookRow) (d p : Id) (x : List ℕ) → if_commit_of (part_of rows) d p x ≡ option_map_or (λ (row : HoldRow). row.commit) (first_in (hold_in d p x) rows) 0
if_commit_is rows d p x = omega (arith, ap (λ (o : Option HoldRow). option_map_or (λ (row : HoldRow). row.commit) o 0) (holds_found no_rows rows d p x))

pub if_abort_is : (rows : List BookRow) (d p : Id) (x : List ℕ) → if_abort_of (part_of rows) d p x ≡ option_map_or (λ (row : HoldRow). row.abort) (first_in (hold_in d p x) rows) 0
if_abort_is rows d p x = omega (arith, ap (λ (o : Option HoldRow). option_map_or (λ (row : HoldRow). row.abort) o 0) (holds_found no_rows rows d p x))

pub moves_are : (rows : List BookRow) (d p : Id) → moves_of (part_of rows) d p ≡ option_map_or (λ (row : MovesRow). row.moves) (first_in (moves_in d p) rows) 0
moves_are rows d p = omega (arith, ap (λ (o : Option MovesRow). option_map_or (λ (row : MovesRow). row.moves) o 0) (turns_found no_rows rows d p))
