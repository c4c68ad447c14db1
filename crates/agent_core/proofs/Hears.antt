-- What an agent does that hears a statement.
use Rattle.std.proofs.Common.{◌≡◌, ℕ, List, Option, Some, None, Result, Ok, Err, refl, sym, ap, ◌∙◌}
use Rattle.act_text.specs.declared.statement.Statement.{Statement}
use Rattle.keeper_core.specs.declared.store_fault.StoreFault.TheVariants as store
use Rattle.keeper_core.specs.Leaving.{failed, starved}
use Rattle.joined_deals.specs.declared.agent_fault.AgentFault.{AgentFault}
use Rattle.joined_deals.specs.declared.agent_fault.AgentFault.TheVariants as fault
use Rattle.joined_deals.specs.AgentFaults.{of_agent_fault}
use Rattle.joined_deals.specs.Heard.{with_heard}
use Rattle.joined_deals.specs.Agents.{AgentTold}
use Rattle.joined_deals.specs.AgentCalls.{hear_refusal, newer_kept, heard_if}
use Rattle.agent_core.specs.declared.heard.Heard.TheVariants.{Kept, Older}
use Rattle.agent_core.specs.AgentDoes.{HearsOrNot}
use Rattle.agent_core.proofs.Doing.{refused_by, refused_not_failed}
use Rattle.agent_core.proofs.Refusing.{hear_own}

module _ (agent : AgentTold) (statement : Statement) where
  pub hear_refused : (f : AgentFault) → hear_refusal agent statement ≡ Some f → HearsOrNot statement agent agent (Err f)
  hear_refused f is = record {
    reply = refused_by (hear_refusal agent statement) f is (hear_own agent statement f is);
    unfailed = refused_not_failed (of_agent_fault f) (hear_own agent statement f is);
    moved = tt;
    unchanged = refl;
  }

  pub hear_older : (at : ℕ) → hear_refusal agent statement ≡ None → newer_kept agent statement ≡ Some at → HearsOrNot statement agent agent (Ok (Older at))
  hear_older at free newer = record { reply = (free, newer); unfailed = tt; moved = sym (ap (heard_if agent statement) newer); unchanged = tt }

  pub hear_kept : (heard : List Statement) → hear_refusal agent statement ≡ None → newer_kept agent statement ≡ None → heard ≡ with_heard agent.heard statement → HearsOrNot statement agent (record agent { heard = heard }) (Ok Kept)
  hear_kept heard free none is = record {
    reply = (free, none);
    unfailed = tt;
    moved = ap (λ (h : List Statement). record agent { heard = h }) is ∙ sym (ap (heard_if agent statement) none);
    unchanged = tt;
  }

  pub hear_starved : (heard : List Statement) → heard ≡ agent.heard → HearsOrNot statement agent (record agent { heard = heard }) (Err (fault.Store store.NoMemory))
  hear_starved heard same = record {
    reply = tt;
    unfailed = λ e. (let s : starved ≡ failed = e in absurd cc);
    moved = tt;
    unchanged = ap (λ (h : List Statement). record agent { heard = h }) same;
  }
