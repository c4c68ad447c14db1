use Rattle.std.proofs.Common.{◌≡◌, ℕ, true, eqb, Option, Some, None, refl, ap, sym, ◌∙◌, length}
use Rattle.std.specs.Option.{option_eq}
use Rattle.std.proofs.lemmas.Bool.{eqb-true}
use Rattle.vote_log.specs.Admission.{parties_started}
use Rattle.vote_log.proofs.Ids.{same_from_bytes}
use Rattle.deal_log.specs.DealTexts.{parties_in}
use Rattle.deal_log.proofs.rebuilding.is_started.Goals as goal

some_same : (o : Option ℕ) (n : ℕ) → option_eq eqb o (Some n) ≡ true → o ≡ Some n
some_same None n e = absurd cc
some_same (Some m) n e = ap (λ (k : ℕ). Some k) (eqb-true m n e)

pub returns-then-eq-clause-yes : goal.returns-then-eq-clause-yes
returns-then-eq-clause-yes c = λ e.
    record {
      parties = length (parties_in c.args.text.now);
      started = ap (parties_started c.args.records.now.entries) (sym c.id.ensures)
          ∙ (sym c.parties.ensures ∙ (some_same c.parties.result c.parties-then-eq.result (sym c.eq-then-eq.ensures ∙ e) ∙ ap (λ (k : ℕ). Some k) c.parties-then-eq.ensures.value));
      for = record {
        read = c.parties-then-eq.ensures.kept;
        id = refl;
        named = c.house.ensures ∙ ap Some (same_from_bytes c.house.result c.args.house.now (sym c.eq.ensures ∙ c.if-eq.true));
        several = refl;
      };
    }
