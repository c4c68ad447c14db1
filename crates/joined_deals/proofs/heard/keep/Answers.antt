use Rattle.std.proofs.Common.{sym, ap, ◌∙◌}
use Rattle.std.specs.List.{position_from}
use Rattle.joined_deals.specs.Heard.{is_about}
use Rattle.joined_deals.proofs.Looping.{set_position, push_position}
use Rattle.joined_deals.proofs.heard.keep.Goals as goal

pub returns-in-Some-clause-kept : goal.returns-in-Some-clause-kept
returns-in-Some-clause-kept c =
    set_position c.args.heard.now.items c.args.statement c.in-Some.place
    (ap (position_from (is_about c.args.statement.deal c.args.statement.ledger) 0) (sym c.deref.ensures.value) ∙ sym c.in-Some.ensures.position)

pub returns-clause-kept : goal.returns-clause-kept
returns-clause-kept c =
    c.in_ok-push.ensures.items
    ∙ push_position c.args.heard.now.items c.args.statement
    (ap (position_from (is_about c.args.statement.deal c.args.statement.ledger) 0) (sym c.deref.ensures.value) ∙ sym c.in_default.ensures.position)
