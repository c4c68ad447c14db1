-- The loan's deal where Ann hears a statement that no ledger gave.
use Rattle.std.specs.Prelude.{List, [], ◌∷◌}
use Rattle.dh_base.specs.declared.outcome.Outcome.TheVariants.{Commit}
use Rattle.act_text.specs.declared.act.Act.TheVariants.{StartDeal, Vote}
use Rattle.clear_core.specs.declared.plan_act.PlanAct.TheVariants as plan
use Rattle.joined_deals.specs.DealTexts.{planned_act}
use Rattle.ledger_rows.specs.declared.entry.Entry.{Entry}
use Rattle.compliant_deals.specs.Parts.{act_by}
use Rattle.compliant_deals.specs.Complying.{entry_of}
use Rattle.payoff.specs.Worlds.{World}
use Rattle.payoff.specs.Moments.{Moment, Joins, Signs, Hears}
use Rattle.promise_met.specs.Loan.{ann, ben, coins, coin, the_text, the_deal, register_entry}
use Rattle.promise_met.specs.Run.{opening, the_statement, accepts, enters, settling}

-- At the opening there is a statement that all was lent and given back.
abbrev pub house_with_lie : World
house_with_lie = record opening { pool = the_statement ∷ [] }

-- Ann has registered the deal, and Ben has put up what he is to lend.
abbrev pub unlent_entries : List Entry
unlent_entries =
    register_entry ∷ entry_of the_deal (act_by 1 (plan.Escrow coins coin 3)) 0 ∷ []

-- Ann commits by what she heard.
abbrev pub misled_run : List Moment
misled_run =
    Joins ann the_deal ∷ Signs ann (planned_act the_deal plan.Register)
    ∷ accepts 0 plan.Register 0 ∷ accepts 1 (plan.Escrow coins coin 3) 0
    ∷ Hears ann the_statement ∷ Signs ann (Vote the_deal.id 0 Commit)
    ∷ enters ben 2 (StartDeal the_text) ∷ enters ann 1 (Vote the_deal.id 0 Commit)
    ∷ enters ben 3 (Vote the_deal.id 1 Commit) ∷ settling ∷ []
