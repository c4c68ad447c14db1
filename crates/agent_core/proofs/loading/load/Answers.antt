use Rattle.std.proofs.Common.{rules, ℕ, ◌≡◌, [], IfErr, Result, Ok, Err, refl, sym, ap, subst, ◌∙◌}
use Rattle.dh_base.specs.declared.id.Id.{Id}
use Rattle.keeper_core.specs.declared.store_fault.StoreFault.TheVariants.{NoMemory}
use Rattle.keeper_core.specs.Leaving.{done, of_store_fault, ended, Leaves}
use Rattle.keeper_core.proofs.Leaving.{then_any}
use Rattle.key_ring.specs.Signers.{SignerTold}
use Rattle.agent_core.specs.declared.agent_open_fault.AgentOpenFault.{AgentOpenFault}
use Rattle.agent_core.specs.declared.agent_open_fault.AgentOpenFault.TheVariants.{Store}
use Rattle.agent_core.specs.declared.loading.Loaded.{Loaded}
use Rattle.agent_core.specs.AgentOpenFaults.{of_open_fault}
use Rattle.agent_core.specs.AgentTables.{identity_of}
use Rattle.agent_core.specs.AgentRows.{said_by, named_if, AreRowsOf, IsFormFault, IsDealFault}
use Rattle.agent_core.specs.AgentOpens.{account_for, OpenCause}
use Rattle.agent_core.proofs.Loaded.{form_read, deal_read, starved_read, only_store, form_why, sign_why, deal_why, all_loaded}
use Rattle.agent_core.proofs.loading.load.Goals as goal

-- ---- the rows are not read

pub returns-in_err-rows-clause-leaves : goal.returns-in_err-rows-clause-leaves
returns-in_err-rows-clause-leaves g c =
    let left = rw c.in_err-rows.was at c.read_rows.ensures.leaves in
    let is : c.from_residual.result ≡ Err (Store c.in_err-rows.field-0.0) = search rules in
    subst (λ (r : Result Loaded AgentOpenFault). Leaves [] (ended of_open_fault r) (g.K.Keeper.known c.args.keeper.now) (g.K.Keeper.known c.read_rows.new.keeper)) (sym is) left

pub returns-in_err-rows-clause-cause : goal.returns-in_err-rows-clause-cause
returns-in_err-rows-clause-cause g c =
    let after = g.K.Keeper.known c.read_rows.new.keeper in
    let only = rw c.in_err-rows.was at c.read_rows.ensures.store in
    let is : c.from_residual.result ≡ Err (Store c.in_err-rows.field-0.0) = search rules in
    subst (λ (r : Result Loaded AgentOpenFault). IfErr r (OpenCause c.args.spec.now c.args.house.now after.tables)) (sym is) (only_store c.args.spec.now c.args.house.now after.tables c.in_err-rows.field-0.0 only)

-- ---- memory runs out at the ring

pub returns-in_err-account-clause-leaves : goal.returns-in_err-account-clause-leaves
returns-in_err-account-clause-leaves g c =
    let before = g.K.Keeper.known c.args.keeper.now in
    let mid = g.K.Keeper.known c.read_rows.new.keeper in
    let read = rw c.in_ok-rows.was at c.read_rows.ensures.leaves in
    let is : c.from_residual-in_err-account.result ≡ Err (Store NoMemory) = search rules in
    subst (λ (r : Result Loaded AgentOpenFault). Leaves [] (ended of_open_fault r) before mid) (sym is) (starved_read before mid read)

pub returns-in_err-account-clause-cause : goal.returns-in_err-account-clause-cause
returns-in_err-account-clause-cause g c =
    let after = g.K.Keeper.known c.read_rows.new.keeper in
    let is : c.from_residual-in_err-account.result ≡ Err (Store NoMemory) = search rules in
    subst (λ (r : Result Loaded AgentOpenFault). IfErr r (OpenCause c.args.spec.now c.args.house.now after.tables)) (sym is) tt

-- ---- the tables name another agent, or lack the form

pub returns-in_err-named-clause-leaves : goal.returns-in_err-named-clause-leaves
returns-in_err-named-clause-leaves g c =
    let before = g.K.Keeper.known c.args.keeper.now in
    let mid = g.K.Keeper.known c.read_rows.new.keeper in
    let fault = c.in_err-named.field-0.0 in
    let read = rw c.in_ok-rows.was at c.read_rows.ensures.leaves in
    let amiss = rw c.in_err-named.was at c.is_named.ensures.fault in
    let is : c.from_residual-in_err-named.result ≡ Err fault = search rules in
    subst (λ (r : Result Loaded AgentOpenFault). Leaves [] (ended of_open_fault r) before mid) (sym is) (form_read c.identity.result c.in_ok-rows.rows.form fault before mid amiss read)

pub returns-in_err-named-clause-cause : goal.returns-in_err-named-clause-cause
returns-in_err-named-clause-cause g c =
    let mid = g.K.Keeper.known c.read_rows.new.keeper in
    let fault = c.in_err-named.field-0.0 in
    let rows = c.in_ok-rows.rows in
    let are = rw c.in_ok-rows.was at c.read_rows.ensures.rows in
    let account = rw c.in_ok-account.was at c.account_in.ensures in
    let found = rw c.in_err-named.was at c.is_named.ensures.fault in
    let amiss : IsFormFault (identity_of c.args.house.now c.in_ok-account.account) rows.form fault = subst (λ (id : Id). IsFormFault id rows.form fault) c.identity.ensures found in
    let is : c.from_residual-in_err-named.result ≡ Err fault = search rules in
    subst (λ (r : Result Loaded AgentOpenFault). IfErr r (OpenCause c.args.spec.now c.args.house.now mid.tables)) (sym is) (form_why c.args.spec.now c.args.house.now rows mid are c.in_ok-account.account account fault amiss)

-- ---- the texts are not loaded

pub returns-in_err-signer-clause-leaves : goal.returns-in_err-signer-clause-leaves
returns-in_err-signer-clause-leaves g c =
    let before = g.K.Keeper.known c.args.keeper.now in
    let mid = g.K.Keeper.known c.read_rows.new.keeper in
    let after = g.K.Keeper.known c.load.new.keeper in
    let fault = c.in_err-signer.field-0.0 in
    let read = rw c.in_ok-rows.was at c.read_rows.ensures.leaves in
    let left = rw c.in_err-signer.was at c.load.ensures.leaves in
    let is : c.from_residual-in_err-signer.result ≡ Err (Store fault) = search rules in
    subst (λ (r : Result Loaded AgentOpenFault). Leaves [] (ended of_open_fault r) before after) (sym is) (then_any [] (of_store_fault fault) before mid after read left)

pub returns-in_err-signer-clause-cause : goal.returns-in_err-signer-clause-cause
returns-in_err-signer-clause-cause g c =
    let mid = g.K.Keeper.known c.read_rows.new.keeper in
    let after = g.K.Keeper.known c.load.new.keeper in
    let fault = c.in_err-signer.field-0.0 in
    let are = rw c.in_ok-rows.was at c.read_rows.ensures.rows in
    let account = rw c.in_ok-account.was at c.account_in.ensures in
    let named = rw c.in_ok-named.was at c.is_named.ensures.named in
    let said : said_by c.in_ok-rows.rows.form ≡ named_if (identity_of c.args.house.now (account_for c.args.spec.now)) c.in_ok-named.named = named ∙ ap (λ (id : Id). named_if id c.in_ok-named.named) (c.identity.ensures ∙ ap (identity_of c.args.house.now) account) in
    let left = rw c.in_err-signer.was at c.load.ensures.leaves in
    let cause = rw c.in_err-signer.was at c.load.ensures.cause in
    let is : c.from_residual-in_err-signer.result ≡ Err (Store fault) = search rules in
    subst (λ (r : Result Loaded AgentOpenFault). IfErr r (OpenCause c.args.spec.now c.args.house.now after.tables)) (sym is)
    (sign_why c.args.spec.now c.args.house.now c.in_ok-rows.rows mid are c.in_ok-named.named said after (of_store_fault fault) left fault cause)

-- ---- a deal is amiss

pub returns-in_err-deals-clause-leaves : goal.returns-in_err-deals-clause-leaves
returns-in_err-deals-clause-leaves g c =
    let before = g.K.Keeper.known c.args.keeper.now in
    let mid = g.K.Keeper.known c.read_rows.new.keeper in
    let after = g.K.Keeper.known c.load.new.keeper in
    let fault = c.in_err-deals.field-0.0 in
    let signer = c.in_ok-signer.signer in
    let read = rw c.in_ok-rows.was at c.read_rows.ensures.leaves in
    let left = rw c.in_ok-signer.was at c.load.ensures.leaves in
    let amiss = rw c.in_err-deals.was at c.read_deals.ensures.fault in
    let is : c.from_residual-in_err-deals.result ≡ Err (Store fault) = search rules in
    subst (λ (r : Result Loaded AgentOpenFault). Leaves [] (ended of_open_fault r) before after) (sym is)
    (deal_read c.args.house.now c.in_ok-account.account signer.spec.size signer.texts c.in_ok-rows.rows.deals fault before mid after amiss read left)

pub returns-in_err-deals-clause-cause : goal.returns-in_err-deals-clause-cause
returns-in_err-deals-clause-cause g c =
    let mid = g.K.Keeper.known c.read_rows.new.keeper in
    let after = g.K.Keeper.known c.load.new.keeper in
    let fault = c.in_err-deals.field-0.0 in
    let signer = c.in_ok-signer.signer in
    let rows = c.in_ok-rows.rows in
    let are = rw c.in_ok-rows.was at c.read_rows.ensures.rows in
    let account = rw c.in_ok-account.was at c.account_in.ensures in
    let named = rw c.in_ok-named.was at c.is_named.ensures.named in
    let said : said_by rows.form ≡ named_if (identity_of c.args.house.now (account_for c.args.spec.now)) c.in_ok-named.named = named ∙ ap (λ (id : Id). named_if id c.in_ok-named.named) (c.identity.ensures ∙ ap (identity_of c.args.house.now) account) in
    let left = rw c.in_ok-signer.was at c.load.ensures.leaves in
    let ring = rw c.in_ok-signer.was at c.load.ensures.ring in
    let signs = rw c.in_ok-signer.was at c.load.ensures.texts in
    let found = rw c.in_err-deals.was at c.read_deals.ensures.fault in
    let size : signer.spec.size ≡ c.args.spec.now.size = ap (λ (s : SignerTold). s.spec.size) ring in
    let amiss : IsDealFault c.args.house.now (account_for c.args.spec.now) c.args.spec.now.size signer.texts rows.deals fault =
    subst (λ (n : ℕ). IsDealFault c.args.house.now (account_for c.args.spec.now) n signer.texts rows.deals fault) size
    (subst (λ (a : Id). IsDealFault c.args.house.now a signer.spec.size signer.texts rows.deals fault) account found) in
    let is : c.from_residual-in_err-deals.result ≡ Err (Store fault) = search rules in
    subst (λ (r : Result Loaded AgentOpenFault). IfErr r (OpenCause c.args.spec.now c.args.house.now after.tables)) (sym is)
    (deal_why c.args.spec.now c.args.house.now rows mid are c.in_ok-named.named said after done left signer.texts fault signs amiss)

-- ---- what is loaded

pub returns-clause-leaves : goal.returns-clause-leaves
returns-clause-leaves g c =
    let read = rw c.in_ok-rows.was at c.read_rows.ensures.leaves in
    let left = rw c.in_ok-signer.was at c.load.ensures.leaves in
    then_any [] done (g.K.Keeper.known c.args.keeper.now) (g.K.Keeper.known c.read_rows.new.keeper) (g.K.Keeper.known c.load.new.keeper) read left

pub returns-clause-loaded : goal.returns-clause-loaded
returns-clause-loaded g c =
    let mid = g.K.Keeper.known c.read_rows.new.keeper in
    let after = g.K.Keeper.known c.load.new.keeper in
    let signer = c.in_ok-signer.signer in
    let deals = c.in_ok-deals.deals in
    let rows = c.in_ok-rows.rows in
    let are = rw c.in_ok-rows.was at c.read_rows.ensures.rows in
    let account = rw c.in_ok-account.was at c.account_in.ensures in
    let named = rw c.in_ok-named.was at c.is_named.ensures.named in
    let said : said_by rows.form ≡ named_if (identity_of c.args.house.now (account_for c.args.spec.now)) c.in_ok-named.named = named ∙ ap (λ (id : Id). named_if id c.in_ok-named.named) (c.identity.ensures ∙ ap (identity_of c.args.house.now) account) in
    let left = rw c.in_ok-signer.was at c.load.ensures.leaves in
    let ring = rw c.in_ok-signer.was at c.load.ensures.ring in
    let signs = rw c.in_ok-signer.was at c.load.ensures.texts in
    let backed = rw c.in_ok-signer.was at c.load.ensures.backed in
    let rows_are = rw c.in_ok-deals.was at c.read_deals.ensures.rows in
    let own = rw c.in_ok-deals.was at c.read_deals.ensures.own in
    let keys = rw c.in_ok-deals.was at c.read_deals.ensures.keys in
    let own_deals : AreRowsOf c.args.house.now (account_for c.args.spec.now) rows.deals deals.items =
    subst (λ (a : Id). AreRowsOf c.args.house.now a rows.deals deals.items) account (record { rows_are = rows_are; own = own }) in
    let loaded : Loaded = record {
      state = record { signer = signer; account = c.in_ok-account.account; house = c.args.house.now; deals = deals; heard = c.new.result };
      named = c.in_ok-named.named;
    } in
    let nothing : c.new.result.items ≡ [] = search rules in
    all_loaded c.args.spec.now c.args.house.now rows mid are c.in_ok-named.named said after done left loaded
    (ap (λ (s : SignerTold). s.spec) ring) account refl nothing refl signs backed own_deals keys
