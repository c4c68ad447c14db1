use Rattle.std.proofs.Common.{◌≡◌, List, ℕ, sym, subst}
use Rattle.std.specs.BTreeMap.{BTreeMap, get}
use Rattle.std.specs.Cmp.Lexicographic.{slice_cmp}
use Rattle.std.specs.Option.{option_or}
use Rattle.std.specs.Ordering.{nat_cmp}
use Rattle.ledger_rows.specs.Scanning.{listed_by}
use Rattle.ledger_rows.proofs.HeldRows.{one_more, none_more, put_one}
use Rattle.ledger_rows.proofs.held_rows.amounts_of.Goals as goal
use Rattle.ledger_rows.proofs.held_rows.amounts_of.Goals.{in-Some+in_ok-insert-in-Some, in-None}

pub loop-row-preserved : goal.loop-row-preserved
loop-row-preserved c =
    let front = c.args.front.now in
    let rows = c.args.rows.now in
    let row = c.row-item.result in
    let before = c.loop-row.amounts in
    one_more front rows c.loop-row.row-index row before c.match-held_in.amounts c.loop-row-test.true c.row-item.is
    (elim c.match-held_in.branch [
      | in-Some+in_ok-insert-in-Some w ↦
          subst (λ (amounts : BTreeMap (List ℕ) ℕ). (other : List ℕ) → get (slice_cmp nat_cmp) amounts other ≡ option_or (listed_by front row other) (get (slice_cmp nat_cmp) before other))
          (sym w.amounts-is)
          (put_one front row w.in-Some.held.asset w.in-Some.held.amount before w.insert.new.self w.in-Some.ensures w.in_ok-insert-in-Some.ensures.updates)
      | in-None w ↦
          subst (λ (amounts : BTreeMap (List ℕ) ℕ). (other : List ℕ) → get (slice_cmp nat_cmp) amounts other ≡ option_or (listed_by front row other) (get (slice_cmp nat_cmp) before other))
          (sym w.amounts-is) (none_more front row before w.in-None.ensures)
    ])
    c.loop-row.invariant
