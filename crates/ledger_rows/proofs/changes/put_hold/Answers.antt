use Rattle.std.proofs.Common.{◌≡◌, ◌==◌, ◌&&◌, Bool, false, if◌then◌else◌, [], ◌∷◌, ◌++◌, OnOk, sym, ap, subst, ◌∙◌}
use Rattle.keeper_core.specs.declared.change.Change.{Change}
use Rattle.keeper_core.specs.declared.change.Change.TheVariants.{Put, Delete}
use Rattle.ledger_rows.specs.RowKeys.{hold_tab, hold_key}
use Rattle.ledger_rows.specs.RowValues.{hold_text}
use Rattle.ledger_rows.specs.RowChanges.{hold_change}
use Rattle.ledger_rows.proofs.changes.put_hold.Goals as goal

pub returns : goal.returns
returns c =
    let hold = c.args.hold.now in
    let key = hold_key c.args.deal.now c.args.account.now c.args.asset.now in
    let some : ((hold.commit == 0) && (hold.abort == 0)) ≡ false = sym c.is_nothing.ensures ∙ c.if-is_nothing.false in
    let change : hold_change c.args.deal.now c.args.account.now c.args.asset.now hold ≡ Put hold_tab key (hold_text hold) =
    ap (λ (none : Bool). if none then Delete hold_tab key else Put hold_tab key (hold_text hold)) some in
    let named : c.deref-else-is_nothing.result.now ≡ key = c.deref-else-is_nothing.ensures.value ∙ (rw c.in_ok-key.was at c.hold_key.ensures) in
    let says : c.deref-else-is_nothing-2.result.now ≡ hold_text hold = c.deref-else-is_nothing-2.ensures.value ∙ (rw c.in_ok-text.was at c.hold_text.ensures) in
    subst (λ (put : Change). OnOk c.put.result (c.put.new.self ≡ c.args.batch.now ++ put ∷ [])) ((λ i. Put hold_tab (named i) (says i)) ∙ sym change) c.put.ensures.ok
