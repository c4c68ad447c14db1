use Rattle.std.proofs.Common.{rules, ◌≡◌, IfErr, Result, Ok, Err, sym, subst}
use Rattle.agent_core.specs.declared.agent_open_fault.AgentOpenFault.{AgentOpenFault}
use Rattle.agent_core.specs.declared.state.AgentState.{AgentState}
use Rattle.agent_core.specs.AgentOpens.{OpenCause, Opens, agent_if}
use Rattle.agent_core.proofs.Loaded.{keeps_up, keeps_named, unnamed_why}
use Rattle.agent_core.proofs.Opened.{opens_unread, opens_named, opens_failed, opens_first}
use Rattle.agent_core.proofs.loading.open_over.Goals as goal

pub returns-in_err-loaded-clause-opens : goal.returns-in_err-loaded-clause-opens
returns-in_err-loaded-clause-opens g c =
    let before = g.K.Keeper.known c.args.keeper.now in
    let after = g.K.Keeper.known c.load.new.keeper in
    let fault = c.in_err-loaded.field-0.0 in
    let read = rw c.in_err-loaded.was at c.load.ensures.leaves in
    let cause = rw c.in_err-loaded.was at c.load.ensures.cause in
    let is : c.from_residual.result ≡ Err fault = search rules in
    subst (λ (r : Result AgentState AgentOpenFault). Opens c.args.spec.now c.args.house.now (agent_if r) before after) (sym is) (opens_unread c.args.spec.now c.args.house.now fault before after read cause)

-- ---- the tables name the agent

pub returns-then-named-clause-opens : goal.returns-then-named-clause-opens
returns-then-named-clause-opens g c =
    let loaded = rw c.in_ok-loaded.was at c.load.ensures.loaded in
    let read = rw c.in_ok-loaded.was at c.load.ensures.leaves in
    opens_named c.args.spec.now c.args.house.now c.in_ok-loaded.loaded (g.K.Keeper.known c.args.keeper.now) (g.K.Keeper.known c.load.new.keeper) loaded read c.if-named.true

pub returns-then-named-clause-spec : goal.returns-then-named-clause-spec
returns-then-named-clause-spec g c =
    let loaded = rw c.in_ok-loaded.was at c.load.ensures.loaded in
    loaded.spec_is

pub returns-then-named-clause-keeps : goal.returns-then-named-clause-keeps
returns-then-named-clause-keeps g c =
    let loaded = rw c.in_ok-loaded.was at c.load.ensures.loaded in
    keeps_up c.args.spec.now c.args.house.now c.in_ok-loaded.loaded (g.K.Keeper.known c.load.new.keeper) loaded

-- ---- they name none

pub returns-in_err-name_agent-clause-opens : goal.returns-in_err-name_agent-clause-opens
returns-in_err-name_agent-clause-opens g c =
    let before = g.K.Keeper.known c.args.keeper.now in
    let mid = g.K.Keeper.known c.load.new.keeper in
    let after = g.K.Keeper.known c.name_agent.new.keeper in
    let fault = c.in_err-name_agent.field-0.0 in
    let loaded = rw c.in_ok-loaded.was at c.load.ensures.loaded in
    let read = rw c.in_ok-loaded.was at c.load.ensures.leaves in
    let left = rw c.in_err-name_agent.was at c.name_agent.ensures.leaves in
    let is : c.from_residual-in_err-name_agent.result ≡ Err fault = search rules in
    subst (λ (r : Result AgentState AgentOpenFault). Opens c.args.spec.now c.args.house.now (agent_if r) before after) (sym is) (opens_failed c.args.spec.now c.args.house.now c.in_ok-loaded.loaded before mid loaded read c.if-named.false after fault left)

pub returns-in_err-name_agent-clause-cause : goal.returns-in_err-name_agent-clause-cause
returns-in_err-name_agent-clause-cause g c =
    let after = g.K.Keeper.known c.name_agent.new.keeper in
    let fault = c.in_err-name_agent.field-0.0 in
    let only = rw c.in_err-name_agent.was at c.name_agent.ensures.store in
    let is : c.from_residual-in_err-name_agent.result ≡ Err fault = search rules in
    subst (λ (r : Result AgentState AgentOpenFault). IfErr r (OpenCause c.args.spec.now c.args.house.now after.tables)) (sym is) (unnamed_why c.args.spec.now c.args.house.now after.tables fault only)

pub returns-clause-opens : goal.returns-clause-opens
returns-clause-opens g c =
    let loaded = rw c.in_ok-loaded.was at c.load.ensures.loaded in
    let read = rw c.in_ok-loaded.was at c.load.ensures.leaves in
    let left = rw c.in_ok-name_agent.was at c.name_agent.ensures.leaves in
    opens_first c.args.spec.now c.args.house.now c.in_ok-loaded.loaded (g.K.Keeper.known c.args.keeper.now) (g.K.Keeper.known c.load.new.keeper) loaded read c.if-named.false (g.K.Keeper.known c.name_agent.new.keeper) left

pub returns-clause-spec : goal.returns-clause-spec
returns-clause-spec g c =
    let loaded = rw c.in_ok-loaded.was at c.load.ensures.loaded in
    loaded.spec_is

pub returns-clause-keeps : goal.returns-clause-keeps
returns-clause-keeps g c =
    let loaded = rw c.in_ok-loaded.was at c.load.ensures.loaded in
    let left = rw c.in_ok-name_agent.was at c.name_agent.ensures.leaves in
    keeps_named c.args.spec.now c.args.house.now c.in_ok-loaded.loaded (g.K.Keeper.known c.load.new.keeper) loaded (g.K.Keeper.known c.name_agent.new.keeper) left
