use Rattle.std.proofs.Common.{◌≡◌, Some, None, List, refl, ap, sym, ◌∙◌, subst}
use Rattle.std.specs.List.{position_from}
use Rattle.vote_log.specs.Entry.{Entry}
use Rattle.vote_log.specs.Log.{Log}
use Rattle.deal_log.specs.VoteLogs.{HasTexts}
use Rattle.deal_log.specs.Rebuilding.{KeepsGiven, is_unkept}
use Rattle.deal_log.proofs.Rebuilt.{first_lacking, none_lacking, has_texts}
use Rattle.deal_log.proofs.log.VoteLog.rebuild.Goals as goal

pub returns-in-Some : goal.returns-in-Some
returns-in-Some c =
    let entries : c.in-Ok.records.entries ≡ c.args.recs.now = ap (λ (l : Log). l.entries) c.in-Ok.ensures.0 in
    let keeps : KeepsGiven c.args.house.now c.args.recs.now c.args.texts.now c.in_ok-kept.kept = subst (λ (es : List Entry). KeepsGiven c.args.house.now es c.args.texts.now c.in_ok-kept.kept) entries c.in_ok-kept.ensures in
    let found : position_from (is_unkept c.args.recs.now c.in_ok-kept.kept) 0 c.args.recs.now ≡ Some c.in-Some.at =
    ap (λ (es : List Entry). position_from (is_unkept es c.in_ok-kept.kept) 0 c.args.recs.now) (sym entries) ∙ (sym c.first_unkept.ensures ∙ c.in-Some.is) in
    let first = first_lacking c.args.house.now c.args.recs.now c.args.texts.now c.in_ok-kept.kept keeps c.in-Some.at found in
    (c.in-Ok.ensures.1, first.0, first.1)

pub invariant_of-result : goal.invariant_of-result
invariant_of-result c =
    let entries : c.in-Ok.records.entries ≡ c.args.recs.now = ap (λ (l : Log). l.entries) c.in-Ok.ensures.0 in
    let keeps : KeepsGiven c.args.house.now c.args.recs.now c.args.texts.now c.in_ok-kept.kept = subst (λ (es : List Entry). KeepsGiven c.args.house.now es c.args.texts.now c.in_ok-kept.kept) entries c.in_ok-kept.ensures in
    let none : position_from (is_unkept c.args.recs.now c.in_ok-kept.kept) 0 c.args.recs.now ≡ None =
    ap (λ (es : List Entry). position_from (is_unkept es c.in_ok-kept.kept) 0 c.args.recs.now) (sym entries) ∙ (sym c.first_unkept.ensures ∙ c.in_default.is) in (
      ap (λ (l : Log). l.limit) c.in-Ok.ensures.0,
      subst (λ (es : List Entry). HasTexts c.args.house.now es c.in_ok-kept.kept) (sym entries) (has_texts c.args.house.now c.args.recs.now c.args.texts.now c.in_ok-kept.kept keeps none),
    )

pub returns : goal.returns
returns c =
    let entries : c.in-Ok.records.entries ≡ c.args.recs.now = ap (λ (l : Log). l.entries) c.in-Ok.ensures.0 in
    let keeps : KeepsGiven c.args.house.now c.args.recs.now c.args.texts.now c.in_ok-kept.kept = subst (λ (es : List Entry). KeepsGiven c.args.house.now es c.args.texts.now c.in_ok-kept.kept) entries c.in_ok-kept.ensures in
    let none : position_from (is_unkept c.args.recs.now c.in_ok-kept.kept) 0 c.args.recs.now ≡ None =
    ap (λ (es : List Entry). position_from (is_unkept es c.in_ok-kept.kept) 0 c.args.recs.now) (sym entries) ∙ (sym c.first_unkept.ensures ∙ c.in_default.is) in
    record {
      housed = refl;
      entries = entries;
      reached = c.in-Ok.ensures.1;
      keeps = keeps;
      complete = none_lacking c.args.house.now c.args.recs.now c.args.texts.now c.in_ok-kept.kept keeps none;
    }
