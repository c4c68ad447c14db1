use Rattle.std.proofs.Common.{List, ℕ, sym, ap, subst, ◌∙◌}
use Rattle.dh_base.specs.declared.id.Id.{Id}
use Rattle.sha2.specs.Sha256.{sha256}
use Rattle.deal_log.specs.Rebuilding.{IsRebuilt}
use Rattle.seat_rows.proofs.StatesLoaded.{all_held, unheld_fault}
use Rattle.seat_rows.proofs.loading.log_of.Goals as goal

pub returns-in-Some-clause-fault : goal.returns-in-Some-clause-fault
returns-in-Some-clause-fault c =
    let made = subst (λ (house : Id). IsRebuilt house c.args.recs.now c.args.texts.now c.in-Ok.log) c.house.ensures c.in-Ok.ensures in
    unheld_fault c.args.place.now c.args.recs.now c.args.texts.now c.in-Ok.log c.in-Some.at c.index-texts-at.result c.digest.result.0 c.bad_row.result made (sym c.first_unheld.ensures.place ∙ c.in-Some.is) c.index-texts-at.is
    (c.digest.ensures ∙ ap sha256 c.as_slice.ensures) c.bad_row.ensures

pub returns-in-None-clause-found : goal.returns-in-None-clause-found
returns-in-None-clause-found c =
    (subst (λ (house : Id). IsRebuilt house c.args.recs.now c.args.texts.now c.in-Ok.log) c.house.ensures c.in-Ok.ensures, all_held c.in-Ok.log.texts c.args.texts.now (sym c.first_unheld.ensures.place ∙ c.in-None.is))
