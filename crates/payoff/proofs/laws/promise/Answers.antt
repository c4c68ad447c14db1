use Rattle.std.proofs.Common.{[], ◌∷◌, ◌++◌, refl, sym, ◌∙◌, subst, append_assoc}
use Rattle.ledger_rows.specs.declared.entry.Entry.TheVariants.{Settlement}
use Rattle.ledger_history.specs.Histories.{IsHistory}
use Rattle.payoff.proofs.Kept.{kept_all}
use Rattle.payoff.proofs.laws.promise.Goals as goal

pub returns : goal.returns
returns d = λ w run certified o steps given has.
    let kept = kept_all w run o steps given in
    record {
      by_log = λ name deal outcome before log s longest. d.agreement.ensures.log w run certified name deal outcome before log o steps given has s longest;
      agree = λ name other deal outcome second before earlier s t. d.agreement.ensures.same w run certified name other deal outcome second before earlier o steps given has s t;
      paid = λ name deal outcome before account asset s.
          d.settlements_pay.ensures name s.ledger.rows before deal outcome account asset
          (d.fronts_are_histories.ensures name s.ledger.rows (before ++ Settlement deal outcome ∷ []) s.rest
          (subst (IsHistory name s.ledger.rows) (sym (append_assoc before (Settlement deal outcome ∷ []) s.rest ∙ s.parts)) (kept.histories name s.ledger s.here)));
      committed = λ name id index account before s c. d.commit_pays.ensures.signed w run certified name id index account before o steps given has s c;
      commit_pays = λ name id index account asset before s c. d.commit_pays.ensures.paid w run certified name id index account asset before o steps given has s c;
      abort_returns = λ name id account asset before s. refl;
      escrows = λ name id index account asset front f c. d.abort_returns.ensures w run name id index account asset front o steps given f c;
      conserved = λ name front accounts asset f its.
          d.assets_are_conserved.ensures name f.ledger.rows front accounts asset
          (d.fronts_are_histories.ensures name f.ledger.rows front f.rest (subst (IsHistory name f.ledger.rows) (sym f.parts) (kept.histories name f.ledger f.here))) its;
    }
