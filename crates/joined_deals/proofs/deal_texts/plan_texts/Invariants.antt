use Rattle.std.proofs.Common.{◌≡◌, map, take}
use Rattle.joined_deals.specs.DealTexts.{planned_text}
use Rattle.joined_deals.specs.TextSizes.{AreShort}
use Rattle.joined_deals.proofs.deal_texts.plan_texts.Given as goal

abbrev pub invariant-loop-act : goal.invariant-loop-act
invariant-loop-act l = record {
  texts : l.texts.items ≡ map (planned_text l.deal) (take l.act-index l.plan);
  short : AreShort l.texts.items;
}
