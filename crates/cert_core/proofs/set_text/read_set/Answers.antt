use Rattle.std.proofs.Common.{◌∙◌, arith}
use Rattle.dh_base.specs.Fields.{AreBytes}
use Rattle.cert_core.proofs.SetTexts.{found_set, set-read}
use Rattle.cert_core.proofs.set_text.read_set.Goals as goal

pub returns-clause-found : goal.returns-clause-found
returns-clause-found c =
    let are : AreBytes c.args.text.now = λ i. omega (arith, c.type_inv.text i) in
    found_set c.args.text.now are c.read_whole.result c.read_whole.ensures

pub returns-clause-only : goal.returns-clause-only
returns-clause-only c = λ set is spelled.
    let are : AreBytes c.args.text.now = λ i. omega (arith, c.type_inv.text i) in
    c.read_whole.ensures ∙ (set-read c.args.text.now set are).1 (is, spelled)
