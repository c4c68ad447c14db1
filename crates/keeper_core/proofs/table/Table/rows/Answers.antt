use Rattle.std.proofs.Common.{◌≡◌, map, ap, sym, ◌∙◌, rules}
use Rattle.std.specs.Map.Iter.{deref_pair}
use Rattle.std.specs.FinMap.{entries}
use Rattle.std.proofs.lemmas.Map.Iter.{iter_end}
use Rattle.keeper_core.specs.Slots.{TableSlots, rows_in}
use Rattle.keeper_core.specs.Laying.{bare}
use Rattle.keeper_core.proofs.Rows.{rows_pushed, rows_shown_empty, entries_bare}
use Rattle.keeper_core.proofs.table.Table.rows.Goals as goal

pub loop-key-preserved-in_ok-push : goal.loop-key-preserved-in_ok-push
loop-key-preserved-in_ok-push c =
    let row : c.in_ok-copied.field-0 ≡ record { key = c.in-Some.key.now.items; val = c.in-Some-slot.val.items } = c.in_ok-copied.ensures ∙ (λ i. record { key = c.as_slice.ensures.value i; val = c.as_slice-in-Some-slot.ensures.value i }) in
    rows_pushed c.loop-key.rows.items c.push.new.self.items c.in_ok-copied.field-0 c.loop-key.yielded c.in-Some.key c.in-Some.slot c.in-Some-slot.val c.in_ok-push.ensures.items c.loop-key.invariant row c.in-Some-slot.is

pub loop-key-preserved : goal.loop-key-preserved
loop-key-preserved c = c.loop-key.invariant ∙ sym (rows_shown_empty c.loop-key.yielded c.in-Some.key c.in-Some.slot c.in_default.is)

pub returns : goal.returns
returns c =
    let all : map deref_pair c.loop-key.yielded ≡ c.self.inside.slots.entries = search (rules, iter_end) in
    let ordered = c.into_iter-key-iterator.ensures.into_iter_gives.5 in
    c.loop-key.invariant ∙ ap (λ es. rows_in (bare es)) all ∙ ap rows_in (sym (entries_bare c.self.inside.slots.entries ordered)) ∙ ap (λ (s : TableSlots). rows_in (entries s)) c.self.view_is
