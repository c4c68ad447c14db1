use Rattle.std.proofs.Common.{◌≡◌, ◌<◌, ℕ, List, [], ◌∷◌, length, sym, subst, ap, ◌∙◌, arith}
use Rattle.std.proofs.lemmas.List.{length-append}
use Rattle.std.specs.Int.{w32, to_be_bytes}
use Rattle.keeper_core.specs.StoreFaults.{bad_row_of}
use Rattle.keeper_core.specs.declared.row.Row.{Row}
use Rattle.key_ring.proofs.LoadedTexts.{row_taken, row_refused}
use Rattle.key_ring.specs.UsedTexts.{used_tab, IsRowFault}
use Rattle.key_ring.proofs.used_texts.read_texts.Goals as goal

pub loop-row-preserved : goal.loop-row-preserved
loop-row-preserved c =
    let h = rw c.in-Some.is at c.next.ensures.steps in
    let next = c.is_next.ensures.0 c.if-not-is_next.false in
    let pushed = rw c.in_ok-push.was at c.push.ensures.items in
    let count : c.len.result ≡ length c.loop-row.texts.items = omega (arith, c.len.ensures, c.loop-row.texts.ok) in
    let named = sym c.as_slice.ensures ∙ next.1 ∙ ap (λ (n : ℕ). to_be_bytes w32 n) count in
    let longer = ap (λ (texts : List (List ℕ)). length texts) pushed ∙ length-append c.loop-row.texts.items (c.in-Some.row.val ∷ []) in
    let one_less = ap (λ (rows : List Row). length rows) h.0 in
    record {
      parted = row_taken c.args.rows _ _ c.loop-row.texts.items c.push.new.self.items c.in-Some.row.key c.in-Some.row.val c.loop-row.invariant.parted h.0 named pushed;
      left = omega (arith, h.1, one_less, c.loop-row.invariant.left);
      few = omega (arith, longer, next.0, count);
    }

pub returns-then-not-is_next-clause-fault : goal.returns-then-not-is_next-clause-fault
returns-then-not-is_next-clause-fault c =
    let h = rw c.in-Some.is at c.next.ensures.steps in
    let count : length c.loop-row.texts.items ≡ c.len.result = omega (arith, c.len.ensures, c.loop-row.texts.ok) in
    let other : (length c.loop-row.texts.items < c.args.size) × (c.in-Some.row.key ≡ to_be_bytes w32 (length c.loop-row.texts.items)) → ⊥ =
    λ next. (let yes = c.is_next.ensures.1 (omega (arith, next.0, count), c.as_slice.ensures ∙ next.1 ∙ ap (λ (n : ℕ). to_be_bytes w32 n) count) in let none = c.if-not-is_next.true in cc) in
    subst (IsRowFault c.args.size c.args.rows) (ap (λ (key : List ℕ). bad_row_of used_tab key) (sym c.as_slice-then-not-is_next.ensures) ∙ sym c.bad_row.ensures)
    (row_refused c.args.size c.args.rows _ _ c.loop-row.texts.items c.in-Some.row c.loop-row.invariant.parted h.0 c.loop-row.invariant.few other)
