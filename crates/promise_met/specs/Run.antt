-- The run: all do their parts, Ann commits to a deal that she has validated, the seat enters the
-- start and both commits, and the ledger settles the deal by the claim that the seat's key signed.
-- Ann has an agent, and Ben has none.
use Rattle.std.specs.Prelude.{ℕ, if◌then◌else◌, List, [], ◌∷◌, ◌++◌, Some, None}
use Rattle.std.specs.Str.{bytes_eq}
use Rattle.dh_base.specs.Ids.{same_id}
use Rattle.dh_base.specs.declared.id.Id.{Id}
use Rattle.dh_base.specs.declared.outcome.Outcome.TheVariants.{Commit}
use Rattle.act_text.specs.declared.act.Act.{Act}
use Rattle.act_text.specs.declared.act.Act.TheVariants.{StartDeal, Vote}
use Rattle.act_text.specs.declared.statement.Statement.{Statement}
use Rattle.act_text.specs.ActTexts.{act_text}
use Rattle.clear_core.specs.declared.plan_act.PlanAct.{PlanAct}
use Rattle.clear_core.specs.declared.plan_act.PlanAct.TheVariants as plan
use Rattle.joined_deals.specs.DealTexts.{account_of, planned_act, planned_text}
use Rattle.ledger_rows.specs.declared.entry.Entry.{Entry}
use Rattle.compliant_deals.specs.Parts.{act_by}
use Rattle.compliant_deals.specs.Complying.{entry_of}
use Rattle.payoff.specs.Agents.{AgentState}
use Rattle.payoff.specs.Worlds.{World, LedgerState}
use Rattle.payoff.specs.Moments.{Moment, Accepts, Settles, States, Joins, Signs, Hears, Enters}
use Rattle.promise_met.specs.Loan.{ann, ben, the_set, coins, coin, the_text, the_deal, rows, ann_gives, the_entries, the_claim}

abbrev pub new_agent : AgentState
new_agent = record { joined = []; texts = []; heard = [] }

abbrev pub new_ledger : LedgerState
new_ledger = record { rows = rows; entries = [] }

abbrev pub opening : World
opening = record {
  genesis = the_set;
  ledgers = λ name. if bytes_eq coins name then Some new_ledger else None;
  agents = λ own. if same_id ann own then Some new_agent else None;
  pool = [];
  texts = [];
  shown = [];
  entered = [];
}

-- the ledger accepts the act of the party, under that key number
abbrev pub accepts : ℕ → PlanAct → ℕ → Moment
accepts party act q =
    Accepts coins (account_of the_deal.parties party) q (planned_text the_deal act)

-- the seat enters what the account says under that key number
abbrev pub enters : Id → ℕ → Act → Moment
enters account q act = Enters account q (act_text act) act

-- what the ledger says to Ann at the end
abbrev pub the_statement : Statement
the_statement = record {
  house = the_deal.house;
  ledger = coins;
  deal = the_deal.id;
  party = ann;
  at = 4;
  moves = 1;
  rows = record { asset = coin; amount = 2 } ∷ [];
  settled = None;
}

abbrev pub signing : List Moment
signing =
    Joins ann the_deal ∷ Signs ann (planned_act the_deal plan.Register)
    ∷ Signs ann (planned_act the_deal ann_gives) ∷ []

abbrev pub accepting : List Moment
accepting =
    accepts 0 plan.Register 0 ∷ accepts 1 (plan.Escrow coins coin 3) 0
    ∷ accepts 1 (plan.Transfer coins 0 0 coin 3) 1 ∷ accepts 0 ann_gives 1 ∷ []

abbrev pub voting : List Moment
voting =
    States the_statement ∷ Hears ann the_statement ∷ Signs ann (Vote the_deal.id 0 Commit)
    ∷ enters ben 2 (StartDeal the_text) ∷ enters ann 2 (Vote the_deal.id 0 Commit)
    ∷ enters ben 3 (Vote the_deal.id 1 Commit) ∷ []

-- up to the claim
abbrev pub the_moments : List Moment
the_moments = signing ++ accepting ++ voting

abbrev pub settling : Moment
settling = Settles coins the_deal.id the_claim (record { outcome = Commit; at = 2 })

abbrev pub the_run : List Moment
the_run = the_moments ++ settling ∷ []

-- ---- the same with a forged act

-- Ann's transfer once more, at her next turn, under a key that has signed nothing
abbrev pub forged_act : PlanAct
forged_act = plan.Transfer coins 1 1 coin 1

abbrev pub forged_entries : List Entry
forged_entries = the_entries ++ entry_of the_deal (act_by 0 forged_act) 5 ∷ []

abbrev pub forged_run : List Moment
forged_run = the_moments ++ accepts 0 forged_act 5 ∷ settling ∷ []
