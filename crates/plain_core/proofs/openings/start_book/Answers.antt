use Rattle.std.proofs.Common.{◌≡◌, List, ap, ◌∙◌}
use Rattle.escrow_book.specs.Opening.{is_good_opening}
use Rattle.plain_script.specs.declared.declaration.Declaration.{Declaration}
use Rattle.plain_script.specs.OpeningRows.{rows_of}
use Rattle.plain_core.proofs.GoodOpening.{good_opening}
use Rattle.plain_core.proofs.openings.start_book.Goals as goal

pub start-requires : goal.start-requires
start-requires c =
    let rows : c.deref.result.now ≡ rows_of c.args.declarations.now c.args.ledger.now =
    c.deref.ensures.value ∙ (c.in_ok-rows.ensures ∙ ap (λ (ds : List Declaration). rows_of ds c.args.ledger.now) c.as_slice.ensures.value)
    in
    ap is_good_opening rows ∙ good_opening c.args.declarations.now c.args.ledger.now c.as_slice.ensures.rules
