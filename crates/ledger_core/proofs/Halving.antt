-- Halving finds the number of entries.
use Rattle.std.proofs.Common.{◌≡◌, ℕ, zero, suc, ◌+◌, ◌-◌, ◌*◌, ◌/◌, ◌<◌, ◌≤◌, ◌^◌, Bool, true, false, List, [], ◌∷◌, length, slice_get, Option, None, is_some, IfSome, Ok, refl, sym, ap, ◌∙◌, arith}
use Rattle.std.proofs.Math.Nat.{pow-succ', one-le-pow}
use Rattle.std.specs.Int.{w64, to_be_bytes}
use Rattle.std.specs.FinMap.{get}
use Rattle.keeper_core.specs.Tables.{Tables}
use Rattle.keeper_core.specs.Knowing.{Known, LooksAtMost}
use Rattle.keeper_core.specs.Leaving.{done, of_store_fault, Leaves}
use Rattle.keeper_core.specs.NumberedRows.{IsNumbered}
use Rattle.keeper_core.specs.Stepping.{WhereTold, IsReply}
use Rattle.keeper_core.proofs.Leaving.{not_asked}
use Rattle.keeper_core.proofs.NumberedOn.{stands_under_number}
use Rattle.keeper_core.proofs.Stepping.{was_told}
use Rattle.ledger_rows.specs.Asking.{Asks}
use Rattle.ledger_rows.specs.RowKeys.{entry_tab, entry_key}
use Rattle.ledger_rows.proofs.RowReads.{look_keeps}
use Rattle.ledger_rows.proofs.RowReads as reads
use Rattle.ledger_core.specs.Opens.{most_entries, CountsWithin}

-- ---- widths

pub next_width : (round width count : ℕ) → round < 21 → width ≡ 2 ^ (21 - round) → count + width ≤ most_entries →
    (width / 2 ≡ 2 ^ (21 - (round + 1))) × (1 ≤ width / 2) × (width ≡ width / 2 + width / 2)
next_width round width count lt is few =
    let left : 21 - round ≡ suc (21 - (round + 1)) = omega arith in
    let twice : width ≡ 2 * 2 ^ (21 - (round + 1)) = is ∙ ap (λ (n : ℕ). 2 ^ n) left ∙ pow-succ' 2 (21 - (round + 1)) in
    let half : width / 2 ≡ 2 ^ (21 - (round + 1)) = omega (arith, twice) in
    let some : 1 ≤ 2 ^ (21 - (round + 1)) = one-le-pow (21 - (round + 1)) 2 (omega arith) in
    (half, omega (arith, half, some), omega (arith, half, twice))

-- ---- the rows of entries

there : (xs : List (List ℕ)) (k : ℕ) → is_some (slice_get xs k) ≡ true → k < length xs
there [] k e = absurd cc
there (x ∷ xs) zero e = omega arith
there (x ∷ xs) (suc k) e = omega (arith, there xs k e)

past : (xs : List (List ℕ)) (k : ℕ) → is_some (slice_get xs k) ≡ false → length xs ≤ k
past [] k e = omega arith
past (x ∷ xs) zero e = absurd cc
past (x ∷ xs) (suc k) e = omega (arith, past xs k e)

stands : (tables : Tables) (vals : List (List ℕ)) (number : ℕ) → IsNumbered w64 entry_tab 1 vals tables → length vals < most_entries → 1 ≤ number → number ≤ most_entries →
    is_some (get tables (entry_tab, entry_key number)) ≡ is_some (slice_get vals (number - 1))
stands tables vals number is few some small =
    let n : number ≡ 1 + (number - 1) = omega (arith, some) in
    ap (λ (m : ℕ). is_some (get tables (entry_tab, to_be_bytes w64 m))) n
    ∙ ap (λ (o : Option (List ℕ)). is_some o) (stands_under_number w64 entry_tab 1 (number - 1) vals tables is (omega (arith, few)) (omega (arith, small, some)))

module _ (tables : Tables) (count width half : ℕ) (some : 1 ≤ half) (few : count + width ≤ most_entries) (is : width ≡ half + half) (within : CountsWithin count (count + width) tables) where
  pub above : is_some (get tables (entry_tab, entry_key (count + half))) ≡ true → CountsWithin (count + half) (count + half + half) tables
  above found vals numbered short =
      let so_far = within vals numbered short in
      let up = there vals (count + half - 1) (sym (stands tables vals (count + half) numbered short (omega (arith, some)) (omega (arith, few, is))) ∙ found) in
      (omega (arith, up, some), omega (arith, so_far.1, is))

  pub below : is_some (get tables (entry_tab, entry_key (count + half))) ≡ false → CountsWithin count (count + half) tables
  below none vals numbered short =
      let so_far = within vals numbered short in
      let down = past vals (count + half - 1) (sym (stands tables vals (count + half) numbered short (omega (arith, some)) (omega (arith, few, is))) ∙ none) in
      (so_far.0, omega (arith, down, some))

-- ---- one look after another

pub begun : (known : Known) → Leaves [] done known known
begun known = not_asked done [] known (λ e. absurd cc) (λ e. refl)

abbrev pub Has : ℕ → Bool → Known → Known → Type 0
Has number found = Asks of_store_fault (λ tables. 1) (λ tables. None) (λ tables is. is ≡ is_some (get tables (entry_tab, entry_key number))) (Ok found)

module _ (begin before after : Known) (count width half : ℕ) (found : Bool) (looks : Leaves [] done begin before) (has : Has (count + half) found before after) (some : 1 ≤ half) (few : count + width ≤ most_entries) (is : width ≡ half + half)
    (within : IfSome before.tables (λ _. IfSome begin.tables (CountsWithin count (count + width)))) where
  told : (P : Tables → Type 0) → ((tables : Tables) → CountsWithin count (count + width) tables → found ≡ is_some (get tables (entry_tab, entry_key (count + half))) → P tables) → IfSome after.tables (λ _. IfSome begin.tables P)
  told P on = reads.told_both (CountsWithin count (count + width)) (λ tables. IsReply of_store_fault None (λ is. is ≡ is_some (get tables (entry_tab, entry_key (count + half)))) (Ok found)) P begin.tables before.tables after.tables
      (look_keeps begin before looks) (was_told [] done before after has.leaves) (λ tables so_far is. on tables so_far is.1) within has.reply

  pub told_above : found ≡ true → IfSome after.tables (λ _. IfSome begin.tables (CountsWithin (count + half) (count + half + half)))
  told_above hit = told (CountsWithin (count + half) (count + half + half)) (λ tables so_far has_it. above tables count width half some few is so_far (sym has_it ∙ hit))

  pub told_below : found ≡ false → IfSome after.tables (λ _. IfSome begin.tables (CountsWithin count (count + half)))
  told_below miss = told (CountsWithin count (count + half)) (λ tables so_far has_it. below tables count width half some few is so_far (sym has_it ∙ miss))

  pub told_looked : (round : ℕ) → WhereTold begin before (λ tables. LooksAtMost round begin before) → WhereTold begin after (λ tables. LooksAtMost (round + 1) begin after)
  told_looked round so_far = reads.told_both (λ tables. LooksAtMost round begin before) (λ tables. LooksAtMost 1 before after) (λ tables. LooksAtMost (round + 1) begin after) begin.tables before.tables after.tables
      (look_keeps begin before looks) (was_told [] done before after has.leaves) (λ tables one more. (omega (arith, one.0, more.0), omega (arith, one.1, more.1))) so_far has.looked
