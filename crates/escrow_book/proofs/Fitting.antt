-- Rows that say what a whole book says are never too large for a part.
use Rattle.std.proofs.Common.{◌≡◌, ℕ, ◌+◌, ◌≤◌, Bool, true, false, ◌&&◌, not, cond, List, [], ◌∷◌, ◌++◌, map, Option, Some, None, is_some, refl, ap, sym, ◌∙◌, subst, arith}
use Rattle.std.specs.List.{sum_by, find, AllByRecursion}
use Rattle.std.specs.Option.{option_or}
use Rattle.std.specs.Str.{bytes_eq}
use Rattle.std.proofs.Math.Nat.{max-le}
use Rattle.std.proofs.lemmas.Bool.{le-ltb, or_parts, or_left, or_right, and_parts}
use Rattle.std.proofs.lemmas.List.Sums.{sum_by-cons, sum_by_push}
use Rattle.dh_base.specs.declared.id.Id.{Id}
use Rattle.dh_base.specs.declared.outcome.Outcome.{Outcome}
use Rattle.escrow_book.specs.declared.change.Change.{Change}
use Rattle.escrow_book.specs.declared.change.Change.TheVariants.{Registered, Escrowed, Transferred, Paid, Settled}
use Rattle.escrow_book.specs.declared.row.BookRow.{BookRow}
use Rattle.escrow_book.specs.declared.row.BookRow.TheVariants.{Free, Deal, Hold, Moves}
use Rattle.escrow_book.specs.declared.row.HoldRow.{HoldRow}
use Rattle.escrow_book.specs.declared.known_deal.KnownDeal.{KnownDeal}
use Rattle.escrow_book.specs.declared.part_fault.PartFault.TheVariants.{BadRows, SumTooLarge}
use Rattle.dh_base.specs.Amounts.{greatest_amount}
use Rattle.escrow_book.specs.Opening.{Row, row_amount, opening_of, total_of, has_row}
use Rattle.dh_base.specs.Ids.{same_id}
use Rattle.escrow_book.specs.Base.{Base, Carried, nothing_carried, find_deal, carried_parties, is_hold, hold_commit, hold_abort, most_of, most_if_open, open_most, base_total}
use Rattle.escrow_book.specs.History.{History, settlement_of, is_in, is_among, if_abort_of, if_commit_of, free_of}
use Rattle.escrow_book.specs.Reached.{IsGrown, IsReached, are_different}
use Rattle.escrow_book.specs.Conserved.{AreItsAccounts}
use Rattle.escrow_book.specs.Kept.{ended_here}
use Rattle.escrow_book.specs.PartRows.{no_rows, with_row, is_bad_row, is_too_large, row_fault, row_number, first_fault, are_not_bad, Says}
use Rattle.escrow_book.proofs.Sums.{sum_le, sum_same, sum_zero, sum_swap, all_by_all, all_weaker, all_append}
use Rattle.escrow_book.proofs.Same.{at_same_pair, at_same_three}
use Rattle.dh_base.proofs.SameIds.{id_from_same, same_id-self, same_id-swap}
use Rattle.escrow_book.proofs.Steps.{history}
use Rattle.escrow_book.proofs.Whole.{grown, total_within}
use Rattle.escrow_book.proofs.Cut.{nothing_is_cut}
use Rattle.escrow_book.proofs.Accounts.{escrow_total, somebody_where, all_opening}
use Rattle.escrow_book.proofs.Totals.{deal_total, unsettled_part, owned_if_commit, owned_if_abort, each_covered, whole_sum}
use Rattle.escrow_book.proofs.Everybody.{everyone, everyone_is_all, everyone_has, rows_in, is_in-append}

-- what the hold gives the party of the asset in the deal
abbrev pub at_hold : (HoldRow → ℕ) → Id → Id → List ℕ → HoldRow → ℕ
at_hold f d p x row = cond (is_hold d p x row) (f row) 0

-- no key stands twice in the base, and each row has what the history says
pub record Below (h : History) (base : Base) : Type 0 where
  pub free : (p : Id) (x : List ℕ) → opening_of base.0 p x ≤ free_of h p x
  pub commits : (d p : Id) (x : List ℕ) → sum_by (at_hold (λ (row : HoldRow). row.commit) d p x) base.1.holds ≤ if_commit_of h d p x
  pub aborts : (d p : Id) (x : List ℕ) → sum_by (at_hold (λ (row : HoldRow). row.abort) d p x) base.1.holds ≤ if_abort_of h d p x
  pub once : (e : Id) → sum_by (λ (k : KnownDeal). cond {A = ℕ} (same_id k.deal e) 1 0) base.1.deals ≤ 1
  pub said : AllByRecursion (λ (k : KnownDeal). k.outcome ≡ settlement_of h k.deal) base.1.deals

at_most : (b : Bool) (n : ℕ) → cond b n 0 ≤ n
at_most true n = omega arith
at_most false n = omega arith

no_row : (rows : List Row) (p : Id) (x : List ℕ) → has_row rows p x ≡ false → opening_of rows p x ≡ 0
no_row [] p x e = refl
no_row (row ∷ rows) p x e =
    let parts = or_parts (same_id p row.0 && bytes_eq x row.1) (has_row rows p x) e in
    omega (arith, ap (λ b. cond b row.2 0) parts.0, sum_by-cons (row_amount p x) row rows, no_row rows p x parts.1)

no_hold : (f : HoldRow → ℕ) (holds : List HoldRow) (d p : Id) (x : List ℕ) → is_some (find (is_hold d p x) holds) ≡ false → sum_by (at_hold f d p x) holds ≡ 0
no_hold f [] d p x e = refl
no_hold f (row ∷ holds) d p x e = at (is_hold d p x row) refl e (no_hold f holds d p x)
  where
    at : (b : Bool) → is_hold d p x row ≡ b → is_some (cond b (Some row) (find (is_hold d p x) holds)) ≡ false → (is_some (find (is_hold d p x) holds) ≡ false → sum_by (at_hold f d p x) holds ≡ 0) → sum_by (at_hold f d p x) (row ∷ holds) ≡ 0
    at true is found later = absurd cc
    at false is found later = omega (arith, ap (λ b. cond b (f row) 0) is, sum_by-cons (at_hold f d p x) row holds, later found)

pub no_deal : (deals : List KnownDeal) (d : Id) → is_some (find_deal deals d) ≡ false → sum_by (λ (k : KnownDeal). cond {A = ℕ} (same_id k.deal d) 1 0) deals ≡ 0
no_deal [] d e = refl
no_deal (k ∷ deals) d e = at (same_id d k.deal) refl e (no_deal deals d)
  where
    at : (b : Bool) → same_id d k.deal ≡ b → is_some (cond b (Some k) (find_deal deals d)) ≡ false → (is_some (find_deal deals d) ≡ false → sum_by (λ (k : KnownDeal). cond {A = ℕ} (same_id k.deal d) 1 0) deals ≡ 0) → sum_by (λ (k : KnownDeal). cond {A = ℕ} (same_id k.deal d) 1 0) (k ∷ deals) ≡ 0
    at true is found later = absurd cc
    at false is found later = omega (arith, ap (λ b. cond {A = ℕ} b 1 0) (same_id-swap k.deal d ∙ is), sum_by-cons (λ (k : KnownDeal). cond {A = ℕ} (same_id k.deal d) 1 0) k deals, later found)

-- a new deal stands once too
pub deal_once : (deals : List KnownDeal) → ((e : Id) → sum_by (λ (k : KnownDeal). cond {A = ℕ} (same_id k.deal e) 1 0) deals ≤ 1) → (k : KnownDeal) → is_some (find_deal deals k.deal) ≡ false → (e : Id) → sum_by (λ (k : KnownDeal). cond {A = ℕ} (same_id k.deal e) 1 0) (deals ++ k ∷ []) ≤ 1
deal_once deals before k new e = at (same_id k.deal e) refl
  where
    at : (b : Bool) → same_id k.deal e ≡ b → sum_by (λ (k : KnownDeal). cond {A = ℕ} (same_id k.deal e) 1 0) (deals ++ k ∷ []) ≤ 1
    at true same = omega (arith, sum_by_push (λ (k : KnownDeal). cond {A = ℕ} (same_id k.deal e) 1 0) deals k, at_most (same_id k.deal e) 1, no_deal deals e (ap (λ i. is_some (find_deal deals i)) (sym (id_from_same k.deal e same)) ∙ new))
    at false other = omega (arith, sum_by_push (λ (k : KnownDeal). cond {A = ℕ} (same_id k.deal e) 1 0) deals k, ap (λ b. cond {A = ℕ} b 1 0) other, before e)

module _ (h : History) (base : Base) (below : Below h base) where
  free_below : (a : Id) (y : List ℕ) (n : ℕ) → has_row base.0 a y ≡ false → n ≡ free_of h a y → (p : Id) (x : List ℕ) → opening_of (base.0 ++ (a, y, n) ∷ []) p x ≤ free_of h p x
  free_below a y n new is p x = at (same_id p a && bytes_eq x y) refl
    where
      here : opening_of (base.0 ++ (a, y, n) ∷ []) a y ≤ free_of h a y
      here = omega (arith, sum_by_push (row_amount a y) base.0 (a, y, n), no_row base.0 a y new, at_most (same_id a a && bytes_eq y y) n)

      at : (b : Bool) → (same_id p a && bytes_eq x y) ≡ b → opening_of (base.0 ++ (a, y, n) ∷ []) p x ≤ free_of h p x
      at true same = at_same_pair p a x y (λ p x. opening_of (base.0 ++ (a, y, n) ∷ []) p x ≤ free_of h p x) same here
      at false other = omega (arith, sum_by_push (row_amount p x) base.0 (a, y, n), ap (λ b. cond b n 0) other, below.free p x)

  hold_below : (f : HoldRow → ℕ) (owned : Id → Id → List ℕ → ℕ) → ((d p : Id) (x : List ℕ) → sum_by (at_hold f d p x) base.1.holds ≤ owned d p x) → (row : HoldRow) → is_some (find (is_hold row.deal row.account row.asset) base.1.holds) ≡ false → f row ≡ owned row.deal row.account row.asset → (d p : Id) (x : List ℕ) → sum_by (at_hold f d p x) (base.1.holds ++ row ∷ []) ≤ owned d p x
  hold_below f owned before row new is d p x = at (is_hold d p x row) refl
    where
      here : sum_by (at_hold f row.deal row.account row.asset) (base.1.holds ++ row ∷ []) ≤ owned row.deal row.account row.asset
      here = omega (arith, sum_by_push (at_hold f row.deal row.account row.asset) base.1.holds row, no_hold f base.1.holds row.deal row.account row.asset new, at_most (is_hold row.deal row.account row.asset row) (f row))

      at : (b : Bool) → is_hold d p x row ≡ b → sum_by (at_hold f d p x) (base.1.holds ++ row ∷ []) ≤ owned d p x
      at true same = at_same_three d row.deal p row.account x row.asset (λ d p x. sum_by (at_hold f d p x) (base.1.holds ++ row ∷ []) ≤ owned d p x) same here
      at false other = omega (arith, sum_by_push (at_hold f d p x) base.1.holds row, ap (λ b. cond b (f row) 0) other, before d p x)

  -- a row more, which isn't bad and says what the history says
  below_more : (row : BookRow) → is_bad_row base row ≡ false → Says h row → Below h (with_row base row)
  below_more (Free a y n) good says = record { free = free_below a y n good says; commits = below.commits; aborts = below.aborts; once = below.once; said = below.said }
  below_more (Deal d parties o) good says =
      let new = (or_parts (is_some (find_deal base.1.deals d)) _ good).0 in
      record {
        free = below.free;
        commits = below.commits;
        aborts = below.aborts;
        once = deal_once base.1.deals below.once (record { deal = d; parties = parties; outcome = o }) new;
        said = all_append (λ (k : KnownDeal). k.outcome ≡ settlement_of h k.deal) base.1.deals (record { deal = d; parties = parties; outcome = o } ∷ []) below.said (sym says.1, tt);
      }
  below_more (Hold d a y c b) good says =
      let new = (or_parts (is_some (find (is_hold d a y) base.1.holds)) (not (is_among a (carried_parties base.1 d))) good).0 in
      record {
        free = below.free;
        commits = hold_below (λ (row : HoldRow). row.commit) (λ d p x. if_commit_of h d p x) below.commits (record { deal = d; account = a; asset = y; commit = c; abort = b }) new says.0;
        aborts = hold_below (λ (row : HoldRow). row.abort) (λ d p x. if_abort_of h d p x) below.aborts (record { deal = d; account = a; asset = y; commit = c; abort = b }) new says.1;
        once = below.once;
        said = below.said;
      }
  below_more (Moves d a m) good says = record { free = below.free; commits = below.commits; aborts = below.aborts; once = below.once; said = below.said }

-- ---- what such a base has in all

accounts_in : (holds : List HoldRow) (accounts : List Id) → ((q : Id) → is_in q (map (λ (row : HoldRow). row.account) holds) ≡ true → is_in q accounts ≡ true) → AllByRecursion (λ (row : HoldRow). is_in row.account accounts ≡ true) holds
accounts_in [] accounts h = tt
accounts_in (row ∷ holds) accounts h = (h row.account (or_left (same_id row.account row.account) (is_in row.account (map (λ (r : HoldRow). r.account) holds)) (same_id-self row.account)), accounts_in holds accounts (λ q e. h q (or_right (same_id q row.account) (is_in q (map (λ (r : HoldRow). r.account) holds)) e)))

-- the holds of all accounts are the holds
all_holds : (f : HoldRow → ℕ) (accounts : List Id) (d : Id) (x : List ℕ) (holds : List HoldRow) → are_different accounts ≡ true → AllByRecursion (λ (row : HoldRow). is_in row.account accounts ≡ true) holds → sum_by (λ p. sum_by (at_hold f d p x) holds) accounts ≡ sum_by (λ row. cond (same_id d row.deal && bytes_eq x row.asset) (f row) 0) holds
all_holds f accounts d x holds different within =
    sum_swap (λ p row. at_hold f d p x row) accounts holds ∙ sum_same (λ row. sum_by (λ p. at_hold f d p x row) accounts) (λ row. cond (same_id d row.deal && bytes_eq x row.asset) (f row) 0) holds (all_weaker (λ (row : HoldRow). is_in row.account accounts ≡ true) (λ (row : HoldRow). sum_by (λ p. at_hold f d p x row) accounts ≡ cond (same_id d row.deal && bytes_eq x row.asset) (f row) 0) holds (λ row there. somebody_where accounts row.account (same_id d row.deal) (bytes_eq x row.asset) (f row) different (λ _. there)) within)

none_counts : (test : KnownDeal → Bool) (n : ℕ) (deals : List KnownDeal) → sum_by (λ k. cond {A = ℕ} (test k) 1 0) deals ≤ 0 → sum_by (λ k. cond (test k) n 0) deals ≡ 0
none_counts test n [] e = refl
none_counts test n (k ∷ deals) e = at (test k) refl (none_counts test n deals)
  where
    at : (b : Bool) → test k ≡ b → (sum_by (λ k. cond {A = ℕ} (test k) 1 0) deals ≤ 0 → sum_by (λ k. cond (test k) n 0) deals ≡ 0) → sum_by (λ k. cond (test k) n 0) (k ∷ deals) ≡ 0
    at true is later = absurd (omega (arith, ap (λ b. cond {A = ℕ} b 1 0) is, sum_by-cons (λ k. cond {A = ℕ} (test k) 1 0) k deals, e))
    at false is later = omega (arith, ap (λ b. cond b n 0) is, sum_by-cons (λ k. cond (test k) n 0) k deals, later (omega (arith, sum_by-cons (λ k. cond {A = ℕ} (test k) 1 0) k deals, e)))

once_counts : (test : KnownDeal → Bool) (n : ℕ) (deals : List KnownDeal) → sum_by (λ k. cond {A = ℕ} (test k) 1 0) deals ≤ 1 → sum_by (λ k. cond (test k) n 0) deals ≤ n
once_counts test n [] e = omega arith
once_counts test n (k ∷ deals) e = at (test k) refl (once_counts test n deals)
  where
    at : (b : Bool) → test k ≡ b → (sum_by (λ k. cond {A = ℕ} (test k) 1 0) deals ≤ 1 → sum_by (λ k. cond (test k) n 0) deals ≤ n) → sum_by (λ k. cond (test k) n 0) (k ∷ deals) ≤ n
    at true is later = omega (arith, ap (λ b. cond b n 0) is, sum_by-cons (λ k. cond (test k) n 0) k deals, none_counts test n deals (omega (arith, ap (λ b. cond {A = ℕ} b 1 0) is, sum_by-cons (λ k. cond {A = ℕ} (test k) 1 0) k deals, e)))
    at false is later = omega (arith, ap (λ b. cond b n 0) is, sum_by-cons (λ k. cond (test k) n 0) k deals, later (omega (arith, ap (λ b. cond {A = ℕ} b 1 0) is, sum_by-cons (λ k. cond {A = ℕ} (test k) 1 0) k deals, e)))

module _ (opening : List Row) (changes : List Change) (r : IsGrown (history (opening, nothing_carried) changes)) (base : Base) (below : Below (history (opening, nothing_carried) changes) base) (x : List ℕ) where
  abbrev h : History
  h = history (opening, nothing_carried) changes

  -- what a carried deal holds, while it isn't settled, is what was put under it
  abbrev open_put : KnownDeal → Change → ℕ
  open_put k c = cond (is_some k.outcome) 0 (escrow_total k.deal x c)

  nothing_put : (k : KnownDeal) (n : ℕ) → cond (is_some k.outcome) 0 0 ≤ n
  nothing_put k n = at (is_some k.outcome)
    where
      at : (b : Bool) → cond {A = ℕ} b 0 0 ≤ n
      at true = omega arith
      at false = omega arith

  none_put : (c : Change) → ((k : KnownDeal) → open_put k c ≤ 0) → sum_by (λ k. open_put k c) base.1.deals ≤ 0
  none_put c none = omega (arith, sum_le (λ k. open_put k c) (λ k. 0) base.1.deals (all_by_all (λ k. open_put k c ≤ 0) base.1.deals none), sum_zero base.1.deals)

  put_once : (c : Change) → sum_by (λ k. open_put k c) base.1.deals ≤ unsettled_part h x c
  put_once (Registered e parties) = none_put (Registered e parties) (λ k. nothing_put k 0)
  put_once (Escrowed e q y n) =
      omega (
        arith,
        sum_le (λ k. open_put k (Escrowed e q y n)) (λ k. cond (same_id k.deal e) (unsettled_part h x (Escrowed e q y n)) 0) base.1.deals (all_weaker (λ (k : KnownDeal). k.outcome ≡ settlement_of h k.deal) (λ k. open_put k (Escrowed e q y n) ≤ cond (same_id k.deal e) (unsettled_part h x (Escrowed e q y n)) 0) base.1.deals (λ k is. each k (same_id k.deal e) refl is) below.said),
        once_counts (λ k. same_id k.deal e) (unsettled_part h x (Escrowed e q y n)) base.1.deals (below.once e),
      )
    where
      each : (k : KnownDeal) (b : Bool) → same_id k.deal e ≡ b → k.outcome ≡ settlement_of h k.deal → cond (is_some k.outcome) 0 (cond (same_id k.deal e && bytes_eq x y) n 0) ≤ cond b (cond (is_some (ended_here h e)) 0 (cond (bytes_eq x y) n 0)) 0
      each k true same is =
          let one : k.outcome ≡ ended_here h e = is ∙ ap (settlement_of h) (id_from_same k.deal e same) in
          let both : cond (is_some k.outcome) 0 (cond (same_id k.deal e && bytes_eq x y) n 0) ≡ cond (is_some (ended_here h e)) 0 (cond (bytes_eq x y) n 0) = ap (λ (o : Option Outcome). cond (is_some o) 0 (cond (same_id k.deal e && bytes_eq x y) n 0)) one ∙ ap (λ b. cond (is_some (ended_here h e)) 0 (cond (b && bytes_eq x y) n 0)) same in
          omega (arith, both)
      each k false other is = subst (λ (b : Bool). cond (is_some k.outcome) 0 (cond (b && bytes_eq x y) n 0) ≤ 0) (sym other) (nothing_put k 0)
  put_once (Transferred e from to y n) = none_put (Transferred e from to y n) (λ k. nothing_put k 0)
  put_once (Paid from to y n) = none_put (Paid from to y n) (λ k. nothing_put k 0)
  put_once (Settled e outcome) = none_put (Settled e outcome) (λ k. nothing_put k 0)

  abbrev more : List Id
  more = map (λ (row : Row). row.0) base.0 ++ map (λ (row : HoldRow). row.account) base.1.holds

  abbrev all : List Id
  all = everyone h more

  its : AreItsAccounts h all
  its = everyone_is_all h more

  hold_accounts : AllByRecursion (λ (row : HoldRow). is_in row.account all ≡ true) base.1.holds
  hold_accounts = accounts_in base.1.holds all (λ q e. everyone_has h more q (is_in-append q (map (λ (row : Row). row.0) base.0) (map (λ (row : HoldRow). row.account) base.1.holds) ∙ or_right (is_in q (map (λ (row : Row). row.0) base.0)) (is_in q (map (λ (row : HoldRow). row.account) base.1.holds)) e))

  free_part : total_of base.0 x ≤ sum_by (λ p. free_of h p x) all
  free_part =
      let rows = rows_in base.0 all (λ q e. everyone_has h more q (is_in-append q (map (λ (row : Row). row.0) base.0) (map (λ (row : HoldRow). row.account) base.1.holds) ∙ or_left (is_in q (map (λ (row : Row). row.0) base.0)) (is_in q (map (λ (row : HoldRow). row.account) base.1.holds)) e)) in
      omega (arith, all_opening all its.different base.0 x rows, sum_le (λ p. opening_of base.0 p x) (λ p. free_of h p x) all (all_by_all (λ p. opening_of base.0 p x ≤ free_of h p x) all (λ p. below.free p x)))

  most_within : (d : Id) → most_of base.1.holds d x ≤ deal_total h d x
  most_within d =
      let commits : sum_by (hold_commit d x) base.1.holds ≤ deal_total h d x = omega (arith, all_holds (λ (row : HoldRow). row.commit) all d x base.1.holds its.different hold_accounts, sum_le (λ p. sum_by (at_hold (λ (row : HoldRow). row.commit) d p x) base.1.holds) (λ p. if_commit_of h d p x) all (all_by_all (λ p. sum_by (at_hold (λ (row : HoldRow). row.commit) d p x) base.1.holds ≤ if_commit_of h d p x) all (λ p. below.commits d p x)), owned_if_commit h d all x its.different (each_covered (opening, nothing_carried) changes r x all its d) (nothing_is_cut (opening, nothing_carried) changes r), sum_zero all) in
      let aborts : sum_by (hold_abort d x) base.1.holds ≤ deal_total h d x = omega (arith, all_holds (λ (row : HoldRow). row.abort) all d x base.1.holds its.different hold_accounts, sum_le (λ p. sum_by (at_hold (λ (row : HoldRow). row.abort) d p x) base.1.holds) (λ p. if_abort_of h d p x) all (all_by_all (λ p. sum_by (at_hold (λ (row : HoldRow). row.abort) d p x) base.1.holds ≤ if_abort_of h d p x) all (λ p. below.aborts d p x)), owned_if_abort h d all x its.different (each_covered (opening, nothing_carried) changes r x all its d), sum_zero all) in
      max-le {a = sum_by (hold_commit d x) base.1.holds} {b = sum_by (hold_abort d x) base.1.holds} {k = deal_total h d x} commits aborts

  open_within_put : (k : KnownDeal) → most_if_open k base.1.holds x ≤ sum_by (open_put k) changes
  open_within_put k = at (is_some k.outcome)
    where
      at : (b : Bool) → cond b 0 (most_of base.1.holds k.deal x) ≤ sum_by (λ c. cond b 0 (escrow_total k.deal x c)) changes
      at true = omega arith
      at false = most_within k.deal

  deals_part : sum_by (open_most base.1 x) base.1.deals ≤ sum_by (unsettled_part h x) changes
  deals_part =
      omega (
        arith,
        sum_le (open_most base.1 x) (λ k. sum_by (open_put k) changes) base.1.deals (all_by_all (λ k. open_most base.1 x k ≤ sum_by (open_put k) changes) base.1.deals open_within_put),
        sum_swap (λ k c. open_put k c) base.1.deals changes,
        sum_le (λ c. sum_by (λ k. open_put k c) base.1.deals) (unsettled_part h x) changes (all_by_all (λ c. sum_by (λ k. open_put k c) base.1.deals ≤ unsettled_part h x c) changes put_once),
      )

  pub base_within : total_of opening x ≤ greatest_amount → base_total base.0 base.1 x ≤ greatest_amount
  base_within total =
      let whole : sum_by (λ p. free_of h p x) all + sum_by (unsettled_part h x) changes ≡ total_of opening x = whole_sum opening changes r x all its in
      omega (arith, free_part, deals_part)

none_below : (h : History) → Below h no_rows
none_below h = record { free = λ p x. omega arith; commits = λ d p x. omega arith; aborts = λ d p x. omega arith; once = λ e. omega arith; said = tt }

is_good : (b : Bool) → not b ≡ true → b ≡ false
is_good true e = absurd cc
is_good false e = refl

module _ (opening : List Row) (changes : List Change) (r : IsGrown (history (opening, nothing_carried) changes)) (total : (x : List ℕ) → total_of opening x ≤ greatest_amount) where
  not_large : (base : Base) (row : BookRow) → Below (history (opening, nothing_carried) changes) (with_row base row) → is_too_large base row ≡ false
  not_large base (Free a y n) below = le-ltb greatest_amount (base_total (with_row base (Free a y n)).0 (with_row base (Free a y n)).1 y) (base_within opening changes r (with_row base (Free a y n)) below y (total y))
  not_large base (Deal d parties o) below = refl
  not_large base (Hold d a y c b) below = le-ltb greatest_amount (base_total (with_row base (Hold d a y c b)).0 (with_row base (Hold d a y c b)).1 y) (base_within opening changes r (with_row base (Hold d a y c b)) below y (total y))
  not_large base (Moves d a m) below = refl

  no_fault_behind : (base : Base) (place : ℕ) (rows : List BookRow) → Below (history (opening, nothing_carried) changes) base → are_not_bad base rows ≡ true → AllByRecursion (Says (history (opening, nothing_carried) changes)) rows → first_fault base place rows ≡ None
  no_fault_behind base place [] below good says = refl
  no_fault_behind base place (row ∷ rest) below good says =
      let both = and_parts (not (is_bad_row base row)) (are_not_bad (with_row base row) rest) good in
      let next : Below (history (opening, nothing_carried) changes) (with_row base row) = below_more (history (opening, nothing_carried) changes) base below row (is_good (is_bad_row base row) both.0) says.0 in
      let here : row_fault base (row_number place) row ≡ None = ap (λ b. cond b (Some (BadRows (row_number place))) (cond (is_too_large base row) (Some (SumTooLarge (row_number place))) None)) (is_good (is_bad_row base row) both.0) ∙ ap (λ b. cond b (Some (SumTooLarge (row_number place))) None) (not_large base row next) in
      ap (λ o. option_or o (first_fault (with_row base row) (place + 1) rest)) here ∙ no_fault_behind (with_row base row) (place + 1) rest next both.1 says.1

-- rows that say what a whole book says, and of which none is bad, have no fault
pub no_fault_of_whole : (h : History) (rows : List BookRow) → IsReached h → are_not_bad no_rows rows ≡ true → AllByRecursion (Says h) rows → first_fault no_rows 0 rows ≡ None
no_fault_of_whole h rows r good says =
    subst (λ (base : Carried). IsGrown (history (h.opening, base) h.changes) → AllByRecursion (Says (history (h.opening, base) h.changes)) rows → first_fault no_rows 0 rows ≡ None) (sym r.whole) (λ g s. no_fault_behind h.opening h.changes g (λ x. total_within h.opening x r.good) no_rows 0 rows (none_below (history (h.opening, nothing_carried) h.changes)) good s) (grown h r) says
