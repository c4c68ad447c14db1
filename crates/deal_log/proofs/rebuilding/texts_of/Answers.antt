use Rattle.std.proofs.Common.{[], ◌∷◌, ◌++◌, List, ℕ, take, ap, sym, ◌∙◌, subst}
use Rattle.std.proofs.lemmas.List.{take_more, take_all}
use Rattle.deal_log.specs.Rebuilding.{KeepsGiven}
use Rattle.deal_log.proofs.Rebuilt.{keeps_none, keeps_more}
use Rattle.deal_log.proofs.rebuilding.texts_of.Goals as goal

pub loop-text-init : goal.loop-text-init
loop-text-init c =
    subst (KeepsGiven c.args.house.now c.args.records.now.entries []) (sym c.new-kept.ensures) (keeps_none c.args.house.now c.args.records.now.entries)

pub loop-text-preserved : goal.loop-text-preserved
loop-text-preserved c =
    let front = take c.loop-text.text-index c.args.texts.now in
    let more = take_more c.args.texts.now c.loop-text.text-index c.text-item.result c.loop-text-test.true ∙ ap (λ (t : List ℕ). front ++ t ∷ []) (sym c.text-item.is) in
    subst (λ (ts : List (List ℕ)). KeepsGiven c.args.house.now c.args.records.now.entries ts c.keep_text.new.kept) (sym more)
    (keeps_more c.args.house.now c.args.records.now.entries front c.text-item.result c.loop-text.kept c.keep_text.new.kept c.loop-text.invariant c.in_ok-keep_text.ensures)

pub returns : goal.returns
returns c =
    subst (λ (ts : List (List ℕ)). KeepsGiven c.args.house.now c.args.records.now.entries ts c.loop-text.kept) (take_all c.loop-text.text-index c.args.texts.now c.loop-text-test.false) c.loop-text.invariant
