use Rattle.std.proofs.Common.{◌∙◌, ap, ℕ, Option, is_some}
use Rattle.ledger_core.proofs.Parties.{party_told, fault_told}
use Rattle.ledger_core.proofs.asking.has_party.Goals as goal

pub returns-in-Ok : goal.returns-in-Ok
returns-in-Ok c = λ other of_other.
    c.is_some.ensures ∙ ap (λ (o : Option ℕ). is_some o) c.party_of.ensures.value ∙ party_told c.args.text.now c.args.party.now c.in-Ok.deal c.in-Ok.ensures.answer other of_other

pub returns-in-Err : goal.returns-in-Err
returns-in-Err c = fault_told c.args.text.now c.args.party.now c.in-Err.fault c.unread.result c.unread.ensures c.in-Err.ensures.answer
