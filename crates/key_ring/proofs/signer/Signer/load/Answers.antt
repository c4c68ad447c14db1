use Rattle.key_ring.proofs.LoadedTexts.{row_cause, handed_on}
use Rattle.key_ring.proofs.signer.Signer.load.Goals as goal

pub returns-in_err-texts-clause-cause : goal.returns-in_err-texts-clause-cause
returns-in_err-texts-clause-cause g c =
    let lists = rw c.in_ok-rows.was at c.scan.ensures.lists in
    let amiss = rw c.in_err-texts.was at c.read_texts.ensures.fault in
    handed_on _ c.from_residual-in_err-texts.result c.in_err-texts.field-0.0 c.from_residual-in_err-texts.ensures.1 (row_cause c.args.spec.now.size _ c.in_ok-rows.rows _ lists amiss)
