-- The running sums, one row further.
use Rattle.std.proofs.Common.{◌≡◌, ℕ, ◌+◌, ◌-◌, ◌≤◌, max, Bool, true, false, ◌&&◌, not, cond, List, [], ◌∷◌, ◌++◌, Option, Some, None, is_some, refl, ap, sym, ◌∙◌, subst, arith}
use Rattle.std.specs.List.{sum_by, count_by}
use Rattle.std.specs.Option.{option_map_or}
use Rattle.std.specs.Str.{bytes_eq}
use Rattle.std.proofs.lemmas.List.Sums.{sum_by-cons, sum_by_push}
use Rattle.dh_base.specs.declared.id.Id.{Id}
use Rattle.dh_base.specs.Amounts.{greatest_amount}
use Rattle.dh_base.specs.Ids.{same_id}
use Rattle.dh_base.proofs.SameIds.{id_from_same, same_id-self, same_id-swap}
use Rattle.escrow_book.specs.declared.row.HoldRow.{HoldRow}
use Rattle.escrow_book.specs.declared.known_deal.KnownDeal.{KnownDeal}
use Rattle.escrow_book.specs.declared.part_sums.PartSums.{PartSums}
use Rattle.escrow_book.specs.Opening.{Row, asset_amount, total_of}
use Rattle.escrow_book.specs.Base.{Base, Carried, find_deal, hold_commit, hold_abort, most_of, most_if_open, open_most, base_total, total_with_free, total_with_hold}
use Rattle.escrow_book.specs.Noted.{saturated, total_noted, commit_noted, abort_noted, rise, NoteTheSame, NotesTotal, NotesHold}
use Rattle.escrow_book.specs.Summed.{AreSums}
use Rattle.escrow_book.proofs.Same.{name_from_same}
use Rattle.std.proofs.lemmas.Slice.Eq.{bytes_eq-Decides}
use Rattle.escrow_book.proofs.Keeping.{find_push, find_passes}
use Rattle.escrow_book.proofs.Lookups.{both_none}
use Rattle.escrow_book.proofs.OpeningRows.{total_with}
use Rattle.escrow_book.proofs.Sums.{sum_same_all}
use Rattle.escrow_book.proofs.Fitting.{no_deal, deal_once}

-- ---- a sum over the deals where one of them counts for something else

module _ (f g : KnownDeal → ℕ) (d : Id) (apart : (i : KnownDeal) → same_id i.deal d ≡ false → f i ≡ g i) where
  same_elsewhere : (deals : List KnownDeal) → count_by (λ (i : KnownDeal). same_id i.deal d) deals ≤ 0 → sum_by f deals ≡ sum_by g deals
  same_elsewhere [] none = refl
  same_elsewhere (i ∷ deals) none = at (same_id i.deal d) refl (same_elsewhere deals)
    where
      at : (b : Bool) → same_id i.deal d ≡ b → (count_by (λ (i : KnownDeal). same_id i.deal d) deals ≤ 0 → sum_by f deals ≡ sum_by g deals) → sum_by f (i ∷ deals) ≡ sum_by g (i ∷ deals)
      at true is later = absurd (omega (arith, ap (λ b. cond {A = ℕ} b 1 0) is, sum_by-cons (λ (i : KnownDeal). cond {A = ℕ} (same_id i.deal d) 1 0) i deals, none))
      at false is later = omega (arith, apart i is, sum_by-cons f i deals, sum_by-cons g i deals, later (omega (arith, sum_by-cons (λ (i : KnownDeal). cond {A = ℕ} (same_id i.deal d) 1 0) i deals, none)))

  one_counts : (deals : List KnownDeal) (k : KnownDeal) → count_by (λ (i : KnownDeal). same_id i.deal d) deals ≤ 1 → find_deal deals d ≡ Some k → sum_by g deals + f k ≡ sum_by f deals + g k
  one_counts [] k once found = absurd cc
  one_counts (i ∷ deals) k once found = at (same_id d i.deal) refl found (one_counts deals k)
    where
      at : (b : Bool) → same_id d i.deal ≡ b → cond b (Some i) (find_deal deals d) ≡ Some k → (count_by (λ (i : KnownDeal). same_id i.deal d) deals ≤ 1 → find_deal deals d ≡ Some k → sum_by g deals + f k ≡ sum_by f deals + g k) → sum_by g (i ∷ deals) + f k ≡ sum_by f (i ∷ deals) + g k
      at true is found later =
          let one : i ≡ k = cc in
          let rest : sum_by f deals ≡ sum_by g deals = same_elsewhere deals (omega (arith, ap (λ b. cond {A = ℕ} b 1 0) (same_id-swap i.deal d ∙ is), sum_by-cons (λ (i : KnownDeal). cond {A = ℕ} (same_id i.deal d) 1 0) i deals, once)) in
          omega (arith, ap f one, ap g one, sum_by-cons f i deals, sum_by-cons g i deals)
      at false is found later =
          omega (arith, apart i (same_id-swap i.deal d ∙ is), sum_by-cons f i deals, sum_by-cons g i deals, later (omega (arith, sum_by-cons (λ (i : KnownDeal). cond {A = ℕ} (same_id i.deal d) 1 0) i deals, once)) found)

found_counts : (f : KnownDeal → ℕ) (d : Id) (deals : List KnownDeal) (k : KnownDeal) → find_deal deals d ≡ Some k → f k ≤ sum_by f deals
found_counts f d [] k found = absurd cc
found_counts f d (i ∷ deals) k found = at (same_id d i.deal) found (found_counts f d deals k)
  where
    at : (b : Bool) → cond b (Some i) (find_deal deals d) ≡ Some k → (find_deal deals d ≡ Some k → f k ≤ sum_by f deals) → f k ≤ sum_by f (i ∷ deals)
    at true found later = let one : i ≡ k = cc in omega (arith, ap f one, sum_by-cons f i deals)
    at false found later = omega (arith, sum_by-cons f i deals, later found)

-- ---- a hold more

hold_elsewhere : (a b : Bool) (n : ℕ) → (a && b) ≡ false → cond (a && b) n 0 ≡ 0
hold_elsewhere a b n e = ap (λ i. cond i n 0) e

off_left : (a b : Bool) → a ≡ false → (a && b) ≡ false
off_left a b e = ap (λ i. i && b) e

off_right : (a b : Bool) → b ≡ false → (a && b) ≡ false
off_right true b e = e
off_right false b e = refl

module _ (rows : List Row) (base : Carried) (h : HoldRow) where
  abbrev with_hold : Carried
  with_hold = record base { holds = base.holds ++ h ∷ [] }

  -- the holds of another deal or another asset are what they were
  most_elsewhere : (d : Id) (y : List ℕ) → (same_id d h.deal && bytes_eq y h.asset) ≡ false → most_of (base.holds ++ h ∷ []) d y ≡ most_of base.holds d y
  most_elsewhere d y other =
      let commits : sum_by (hold_commit d y) (base.holds ++ h ∷ []) ≡ sum_by (hold_commit d y) base.holds = omega (arith, sum_by_push (hold_commit d y) base.holds h, hold_elsewhere (same_id d h.deal) (bytes_eq y h.asset) h.commit other) in
      let aborts : sum_by (hold_abort d y) (base.holds ++ h ∷ []) ≡ sum_by (hold_abort d y) base.holds = omega (arith, sum_by_push (hold_abort d y) base.holds h, hold_elsewhere (same_id d h.deal) (bytes_eq y h.asset) h.abort other) in
      ap (λ n. max n (sum_by (hold_abort d y) (base.holds ++ h ∷ []))) commits ∙ ap (max (sum_by (hold_commit d y) base.holds)) aborts

  deal_elsewhere : (y : List ℕ) (i : KnownDeal) → (same_id i.deal h.deal && bytes_eq y h.asset) ≡ false → most_if_open i (base.holds ++ h ∷ []) y ≡ most_if_open i base.holds y
  deal_elsewhere y i other = ap (cond (is_some i.outcome) 0) (most_elsewhere i.deal y other)

  same_elsewhere_in : (y : List ℕ) → ((i : KnownDeal) → (same_id i.deal h.deal && bytes_eq y h.asset) ≡ false) → base_total rows with_hold y ≡ base_total rows base y
  same_elsewhere_in y other = ap (λ n. total_of rows y + n) (sum_same_all (λ i. most_if_open i (base.holds ++ h ∷ []) y) (λ i. most_if_open i base.holds y) base.deals (λ i. deal_elsewhere y i (other i)))

  -- of another asset there is what there was
  pub total_elsewhere : (y : List ℕ) → bytes_eq y h.asset ≡ false → base_total rows with_hold y ≡ base_total rows base y
  total_elsewhere y other = same_elsewhere_in y (λ i. off_right (same_id i.deal h.deal) (bytes_eq y h.asset) other)

  module _ (once : (d : Id) → count_by (λ (i : KnownDeal). same_id i.deal d) base.deals ≤ 1) (y : List ℕ) where
    apart : (i : KnownDeal) → same_id i.deal h.deal ≡ false → most_if_open i base.holds y ≡ most_if_open i (base.holds ++ h ∷ []) y
    apart i other = sym (deal_elsewhere y i (off_left (same_id i.deal h.deal) (bytes_eq y h.asset) other))

    -- the deal of the hold counts for what it holds now
    deal_counts : (k : KnownDeal) → find_deal base.deals h.deal ≡ Some k → base_total rows with_hold y + most_if_open k base.holds y ≡ base_total rows base y + most_if_open k (base.holds ++ h ∷ []) y
    deal_counts k found = omega (arith, one_counts (λ i. most_if_open i base.holds y) (λ i. most_if_open i (base.holds ++ h ∷ []) y) h.deal apart base.deals k (once h.deal) found)

    closed_counts : (o : Option KnownDeal) → find_deal base.deals h.deal ≡ o → option_map_or (λ (known : KnownDeal). not (is_some known.outcome)) o false ≡ false → base_total rows with_hold y ≡ base_total rows base y
    closed_counts None missing closed =
        omega (arith, same_elsewhere (λ i. most_if_open i base.holds y) (λ i. most_if_open i (base.holds ++ h ∷ []) y) h.deal apart base.deals (omega (arith, no_deal base.deals h.deal (ap is_some missing))))
    closed_counts (Some k) found closed = omega (arith, deal_counts k found, settled base.holds, settled (base.holds ++ h ∷ []))
      where
        settled : (holds : List HoldRow) → most_if_open k holds y ≡ 0
        settled holds = at (is_some k.outcome) closed
          where
            at : (b : Bool) → not b ≡ false → cond b 0 (most_of holds k.deal y) ≡ 0
            at true e = refl
            at false e = absurd cc

    open_counts : (o : Option KnownDeal) → find_deal base.deals h.deal ≡ o → option_map_or (λ (known : KnownDeal). not (is_some known.outcome)) o false ≡ true → (base_total rows with_hold y + most_of base.holds h.deal y ≡ base_total rows base y + most_of (base.holds ++ h ∷ []) h.deal y) × (most_of base.holds h.deal y ≤ base_total rows base y)
    open_counts None missing opened = absurd cc
    open_counts (Some k) found opened = (
      omega (arith, deal_counts k found, running base.holds, running (base.holds ++ h ∷ [])),
      omega (arith, found_counts (λ i. most_if_open i base.holds y) h.deal base.deals k found, running base.holds),
    )
      where
        running : (holds : List HoldRow) → most_if_open k holds y ≡ most_of holds h.deal y
        running holds = at (is_some k.outcome) opened ∙ ap (λ i. most_of holds i y) (sym (id_from_same h.deal k.deal (find_passes (λ i. same_id h.deal i.deal) base.deals k found)))
          where
            at : (b : Bool) → not b ≡ true → cond b 0 (most_of holds k.deal y) ≡ most_of holds k.deal y
            at true e = absurd cc
            at false e = refl

-- ---- how a total rises

saturated_most : (a b : ℕ) → max (saturated a) (saturated b) ≡ saturated (max a b)
saturated_most a b = omega arith

risen : (total with_hold before after : ℕ) → with_hold + before ≡ total + after → before ≤ total → before ≤ after → total ≤ greatest_amount → saturated (total + (saturated after - before)) ≡ saturated with_hold
risen total with_hold before after whole least more within = omega arith

risen_noted : (noted total with_hold c commits a aborts m n : ℕ) → noted ≡ total → c ≡ commits → a ≡ aborts → with_hold + max commits aborts ≡ total + max (commits + m) (aborts + n) → max commits aborts ≤ total → total ≤ greatest_amount → saturated (noted + (max (saturated (c + m)) (saturated (a + n)) - max c a)) ≡ saturated with_hold
risen_noted noted total with_hold c commits a aborts m n is_total is_commits is_aborts whole least within =
    let rise : noted + (max (saturated (c + m)) (saturated (a + n)) - max c a) ≡ total + (saturated (max (commits + m) (aborts + n)) - max commits aborts) = cc (saturated_most (commits + m) (aborts + n)) in
    ap saturated rise ∙ risen total with_hold (max commits aborts) (max (commits + m) (aborts + n)) whole least (omega arith) within

-- a sum within the limit is noted as it is
noted_whole : {noted sum : ℕ} → noted ≡ saturated sum → sum ≤ greatest_amount → noted ≡ sum
noted_whole is within = omega arith

own_hold : (d : Id) (x : List ℕ) (n : ℕ) → cond (same_id d d && bytes_eq x x) n 0 ≡ n
own_hold d x n = ap (λ b. cond b n 0) (ap (λ b. b && bytes_eq x x) (same_id-self d) ∙ (bytes_eq-Decides x x).1 refl)

pub free_total : (sums : PartSums) (base : Base) → AreSums sums base → (row : Row) → saturated (total_noted sums row.1 + row.2) ≡ saturated (total_with_free base row)
free_total sums base are row = omega (arith, are.totals row.1, total_with base.0 row)

module _ (sums : PartSums) (base : Base) (are : AreSums sums base) (h : HoldRow) where
  pub closed_total : option_map_or (λ (known : KnownDeal). not (is_some known.outcome)) (find_deal base.1.deals h.deal) false ≡ false → total_noted sums h.asset ≡ saturated (total_with_hold base h)
  closed_total closed = omega (arith, are.totals h.asset, are.within h.asset, closed_counts base.0 base.1 h are.once h.asset (find_deal base.1.deals h.deal) refl closed)

  pub open_total : option_map_or (λ (known : KnownDeal). not (is_some known.outcome)) (find_deal base.1.deals h.deal) false ≡ true → saturated (total_noted sums h.asset + rise (commit_noted sums h.deal h.asset) (abort_noted sums h.deal h.asset) h) ≡ saturated (total_with_hold base h)
  open_total opened =
      let commits : ℕ = sum_by (hold_commit h.deal h.asset) base.1.holds in
      let aborts : ℕ = sum_by (hold_abort h.deal h.asset) base.1.holds in
      let counts = open_counts base.0 base.1 h are.once h.asset (find_deal base.1.deals h.deal) refl opened in
      let more_commits : sum_by (hold_commit h.deal h.asset) (base.1.holds ++ h ∷ []) ≡ commits + h.commit = sum_by_push (hold_commit h.deal h.asset) base.1.holds h ∙ ap (λ n. commits + n) (own_hold h.deal h.asset h.commit) in
      let more_aborts : sum_by (hold_abort h.deal h.asset) (base.1.holds ++ h ∷ []) ≡ aborts + h.abort = sum_by_push (hold_abort h.deal h.asset) base.1.holds h ∙ ap (λ n. aborts + n) (own_hold h.deal h.asset h.abort) in
      let before : ℕ = most_of base.1.holds h.deal h.asset in
      let after : ℕ = max (commits + h.commit) (aborts + h.abort) in
      let least : before ≤ base_total base.0 base.1 h.asset = counts.1 in
      let whole : total_with_hold base h + before ≡ base_total base.0 base.1 h.asset + after = counts.0 ∙ (ap (λ n. base_total base.0 base.1 h.asset + max n (sum_by (hold_abort h.deal h.asset) (base.1.holds ++ h ∷ []))) more_commits ∙ ap (λ n. base_total base.0 base.1 h.asset + max (commits + h.commit) n) more_aborts) in
      let commit : commit_noted sums h.deal h.asset ≡ commits = noted_whole (are.commits h.deal h.asset) (omega (arith, least, are.within h.asset)) in
      let abort : abort_noted sums h.deal h.asset ≡ aborts = noted_whole (are.aborts h.deal h.asset) (omega (arith, least, are.within h.asset)) in
      risen_noted (total_noted sums h.asset) (base_total base.0 base.1 h.asset) (total_with_hold base h) (commit_noted sums h.deal h.asset) commits (abort_noted sums h.deal h.asset) aborts h.commit h.abort (are.totals h.asset) commit abort whole least (are.within h.asset)

-- ---- the sums of a row more

pub same_sums : (sums next : PartSums) (base : Base) → AreSums sums base → NoteTheSame sums next → AreSums next base
same_sums sums next base are same = record {
  totals = λ y. same.totals y ∙ are.totals y;
  commits = λ d y. same.commits d y ∙ are.commits d y;
  aborts = λ d y. same.aborts d y ∙ are.aborts d y;
  within = are.within;
  known = are.known;
  once = are.once;
}

module _ (sums next : PartSums) (base : Base) (are : AreSums sums base) where
  pub free_summed : (row : Row) (total : ℕ) → total ≡ saturated (total_with_free base row) → total ≤ greatest_amount → NotesTotal sums next row.1 total → AreSums next (base.0 ++ row ∷ [], base.1)
  free_summed row total is within notes = record {
    totals = totals;
    commits = λ d y. notes.commits d y ∙ are.commits d y;
    aborts = λ d y. notes.aborts d y ∙ are.aborts d y;
    within = λ y. omega (arith, totals y, small y);
    known = are.known;
    once = are.once;
  }
    where
      here : total ≡ total_with_free base row
      here = omega (arith, is, within)

      elsewhere : (y : List ℕ) → bytes_eq y row.1 ≡ false → base_total (base.0 ++ row ∷ []) base.1 y ≡ base_total base.0 base.1 y
      elsewhere y other = omega (arith, sum_by_push (asset_amount y) base.0 row, ap (λ b. cond b row.2 0) other)

      at_total : (y : List ℕ) (b : Bool) → bytes_eq y row.1 ≡ b → cond b total (total_noted sums y) ≡ base_total (base.0 ++ row ∷ []) base.1 y
      at_total y true same = subst (λ z. total ≡ base_total (base.0 ++ row ∷ []) base.1 z) (sym (name_from_same y row.1 same)) here
      at_total y false other = are.totals y ∙ sym (elsewhere y other)

      totals : (y : List ℕ) → total_noted next y ≡ base_total (base.0 ++ row ∷ []) base.1 y
      totals y = notes.totals y ∙ at_total y (bytes_eq y row.1) refl

      at_small : (y : List ℕ) (b : Bool) → bytes_eq y row.1 ≡ b → cond b total (total_noted sums y) ≤ greatest_amount
      at_small y true same = within
      at_small y false other = omega (arith, are.totals y, are.within y)

      small : (y : List ℕ) → total_noted next y ≤ greatest_amount
      small y = subst (λ n. n ≤ greatest_amount) (sym (notes.totals y)) (at_small y (bytes_eq y row.1) refl)

  pub hold_summed : (h : HoldRow) (total : ℕ) → is_some (find_deal base.1.deals h.deal) ≡ true → total ≡ saturated (total_with_hold base h) → total ≤ greatest_amount → NotesHold sums next h total → AreSums next (base.0, record base.1 { holds = base.1.holds ++ h ∷ [] })
  hold_summed h total there is within notes = record {
    totals = totals;
    commits = λ d y. notes.commits d y ∙ added (λ (row : HoldRow). row.commit) (commit_noted sums) are.commits d y;
    aborts = λ d y. notes.aborts d y ∙ added (λ (row : HoldRow). row.abort) (abort_noted sums) are.aborts d y;
    within = λ y. omega (arith, totals y, small y);
    known = λ d y missing. most_elsewhere base.0 base.1 h d y (apart d y missing) ∙ are.known d y missing;
    once = are.once;
  }
    where
      here : total ≡ total_with_hold base h
      here = omega (arith, is, within)

      at_total : (y : List ℕ) (b : Bool) → bytes_eq y h.asset ≡ b → cond b total (total_noted sums y) ≡ base_total base.0 (with_hold base.0 base.1 h) y
      at_total y true same = subst (λ z. total ≡ base_total base.0 (with_hold base.0 base.1 h) z) (sym (name_from_same y h.asset same)) here
      at_total y false other = are.totals y ∙ sym (total_elsewhere base.0 base.1 h y other)

      totals : (y : List ℕ) → total_noted next y ≡ base_total base.0 (with_hold base.0 base.1 h) y
      totals y = notes.totals y ∙ at_total y (bytes_eq y h.asset) refl

      at_small : (y : List ℕ) (b : Bool) → bytes_eq y h.asset ≡ b → cond b total (total_noted sums y) ≤ greatest_amount
      at_small y true same = within
      at_small y false other = omega (arith, are.totals y, are.within y)

      small : (y : List ℕ) → total_noted next y ≤ greatest_amount
      small y = subst (λ n. n ≤ greatest_amount) (sym (notes.totals y)) (at_small y (bytes_eq y h.asset) refl)

      -- the sum of the deal's holds has the hold too
      added : (f : HoldRow → ℕ) (noted : Id → List ℕ → ℕ) → ((d : Id) (y : List ℕ) → noted d y ≡ saturated (sum_by (λ row. cond (same_id d row.deal && bytes_eq y row.asset) (f row) 0) base.1.holds)) → (d : Id) (y : List ℕ) → cond (same_id d h.deal && bytes_eq y h.asset) (saturated (noted d y + f h)) (noted d y) ≡ saturated (sum_by (λ row. cond (same_id d row.deal && bytes_eq y row.asset) (f row) 0) (base.1.holds ++ h ∷ []))
      added f noted before d y = at (same_id d h.deal && bytes_eq y h.asset) (sum_by_push (λ row. cond (same_id d row.deal && bytes_eq y row.asset) (f row) 0) base.1.holds h)
        where
          at : (b : Bool) → sum_by (λ row. cond (same_id d row.deal && bytes_eq y row.asset) (f row) 0) (base.1.holds ++ h ∷ []) ≡ sum_by (λ row. cond (same_id d row.deal && bytes_eq y row.asset) (f row) 0) base.1.holds + cond b (f h) 0 → cond b (saturated (noted d y + f h)) (noted d y) ≡ saturated (sum_by (λ row. cond (same_id d row.deal && bytes_eq y row.asset) (f row) 0) (base.1.holds ++ h ∷ []))
          at true whole = omega (arith, before d y, whole)
          at false whole = omega (arith, before d y, whole)

      -- a deal that isn't there isn't the hold's
      apart : (d : Id) (y : List ℕ) → find_deal base.1.deals d ≡ None → (same_id d h.deal && bytes_eq y h.asset) ≡ false
      apart d y missing = at (same_id d h.deal) refl
        where
          at : (b : Bool) → same_id d h.deal ≡ b → (b && bytes_eq y h.asset) ≡ false
          at true same =
              let clash : false ≡ true = sym (ap is_some missing) ∙ (ap (λ i. is_some (find_deal base.1.deals i)) (id_from_same d h.deal same) ∙ there) in
              absurd cc
          at false other = refl

-- a deal that is new holds nothing
pub deal_summed : (sums : PartSums) (base : Base) (k : KnownDeal) → AreSums sums base → is_some (find_deal base.1.deals k.deal) ≡ false → AreSums sums (base.0, record base.1 { deals = base.1.deals ++ k ∷ [] })
deal_summed sums base k are new = record {
  totals = λ y. are.totals y ∙ sym (total y);
  commits = are.commits;
  aborts = are.aborts;
  within = λ y. omega (arith, are.within y, total y);
  known = λ d y missing. are.known d y (both_none (find_deal base.1.deals d) (cond (same_id d k.deal) (Some k) None) (sym (find_push (λ known. same_id d known.deal) base.1.deals k) ∙ missing)).0;
  once = deal_once base.1.deals are.once k new;
}
  where
    missing : (o : Option KnownDeal) → is_some o ≡ false → o ≡ None
    missing None e = refl
    missing (Some i) e = absurd cc

    nothing : (b : Bool) (n : ℕ) → n ≡ 0 → cond b 0 n ≡ 0
    nothing true n e = refl
    nothing false n e = e

    total : (y : List ℕ) → base_total base.0 (record base.1 { deals = base.1.deals ++ k ∷ [] }) y ≡ base_total base.0 base.1 y
    total y = omega (arith, sum_by_push (open_most base.1 y) base.1.deals k, nothing (is_some k.outcome) (most_of base.1.holds k.deal y) (are.known k.deal y (missing (find_deal base.1.deals k.deal) new)))
