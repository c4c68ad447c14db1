use Rattle.std.proofs.Common.{◌≡◌, Ok, arith}
use Rattle.dh_base.specs.Fields.{AreBytes}
use Rattle.act_text.specs.ActTexts.{ActFits, act_text, kind_of, office_of}
use Rattle.act_text.specs.ActReading.{act_of}
use Rattle.act_text.specs.declared.act.Act.{Act}
use Rattle.act_text.proofs.ActTexts.{act-read, IfOk-given, Gives-same}
use Rattle.act_text.proofs.reading.read_act.Goals as goal

pub returns-clause-found : goal.returns-clause-found
returns-clause-found c =
    let are : AreBytes c.args.bytes.now = λ i. omega (arith, c.type_inv.bytes i) in
    IfOk-given (λ (act : Act). (office_of (kind_of act) ≡ c.args.office) × ActFits act × (c.args.bytes.now ≡ act_text act)) c.take_whole.result (act_of c.args.office c.args.bytes.now)
    (λ act. (act-read c.args.office c.args.bytes.now act are).0) c.take_whole.ensures

pub returns-clause-only : goal.returns-clause-only
returns-clause-only c = λ act of fits spelled.
    let are : AreBytes c.args.bytes.now = λ i. omega (arith, c.type_inv.bytes i) in
    Gives-same c.take_whole.result (act_of c.args.office c.args.bytes.now) (Ok act) ((act-read c.args.office c.args.bytes.now act are).1 (of, fits, spelled)) c.take_whole.ensures
