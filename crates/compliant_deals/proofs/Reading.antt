-- The acts of plans are read from their texts.
use Rattle.std.proofs.Common.{◌≡◌, ℕ, zero, suc, ◌^◌, ◌<◌, Bool, true, cond, ◌&&◌, IsTrue, Ok, List, [], ◌∷◌, ◌++◌, length, arith, refl, sym, ap, subst, ◌∙◌}
use Rattle.std.specs.Int.{w32, w64, to_be_bytes}
use Rattle.std.specs.List.{AllByRecursion, Contains}
use Rattle.std.specs.Str.{bytes_eq}
use Rattle.sha2.proofs.Facts256.{length-sha256}
use Rattle.dh_base.specs.Fields.{AreBytes, name_field}
use Rattle.dh_base.specs.Formats.{text_field}
use Rattle.dh_base.specs.Names.{is_name}
use Rattle.dh_base.specs.declared.id.Id.{Id}
use Rattle.line_text.specs.IdWords.{IsId}
use Rattle.act_text.specs.declared.act.Act.{Act}
use Rattle.act_text.specs.declared.act.Act.TheVariants.{Register, Escrow, Transfer}
use Rattle.act_text.specs.declared.office.Office.TheVariants.{Ledger}
use Rattle.act_text.specs.ActTexts.{act_tag, act_text, kind_of, office_of, ActFits}
use Rattle.act_text.specs.ActReading.{act_of}
use Rattle.act_text.proofs.ActTexts.{act-read}
use Rattle.deal_core.specs.Deals.{DealTold, is_of, amount_if}
use Rattle.deal_core.specs.DealText.{deal_text, IsSpellable}
use Rattle.deal_core.specs.Kept.{IsDeal}
use Rattle.deal_core.specs.declared.party.Party.{Party}
use Rattle.deal_core.specs.declared.step.Step.{Step}
use Rattle.clear_core.specs.Plans.{plan_of}
use Rattle.clear_core.specs.declared.pair.Pair.{Pair}
use Rattle.clear_core.specs.declared.plan_act.PlanAct.{PlanAct}
use Rattle.clear_core.specs.declared.plan_act.PlanAct.TheVariants as plan
use Rattle.clear_core.proofs.Escrowed.{escrowed_is_need, some_moved}
use Rattle.clear_core.proofs.Least.{need_le, outgoing_le}
use Rattle.joined_deals.specs.DealTexts.{account_of, planned_act, planned_text}
use Rattle.joined_deals.specs.TextSizes.{HasNames, AreNamed}
use Rattle.joined_deals.proofs.Elements.{all_of, each_of, part_of_sum}
use Rattle.joined_deals.proofs.Counted.{itself}
use Rattle.joined_deals.proofs.Short.{short_deal}
use Rattle.compliant_deals.proofs.ByteTexts.{AllBytes, are_bytes, both, own_text, wide4, wide8, name_field_bytes, hash_bytes, text_field_bytes, IsSpellableStep, deal_bytes}

-- each amount is at most the total of its asset
pub spellable_steps : (deal : DealTold) → IsDeal deal → IsSpellable deal → AllByRecursion IsSpellableStep deal.steps
spellable_steps deal d s = all_of IsSpellableStep deal.steps (λ step here.
    let names = each_of (λ (t : Step). IsTrue (is_name t.ledger) × IsTrue (is_name t.asset)) deal.steps s.steps step here in
    let own : is_of step.ledger step.asset step ≡ true = ap (λ (b : Bool). b && bytes_eq step.asset step.asset) (itself step.ledger) ∙ itself step.asset in
    let counts : amount_if (is_of step.ledger step.asset) step ≡ step.amount = ap (λ (b : Bool). cond b step.amount 0) own in
    let part = part_of_sum (amount_if (is_of step.ledger step.asset)) deal.steps step here in
    (names.0, names.1, omega (arith, counts, part, d.kept.totals step.ledger step.asset)))

named : (parties : List Party) → AllByRecursion (λ (party : Party). IsTrue (is_name party.name) × IsId party.account) parties → AreNamed parties
named [] all = tt
named (party ∷ parties) all = ((all.0.0, all.0.1.0), named parties all.1)

has_names : (deal : DealTold) → IsSpellable deal → HasNames deal
has_names deal s = record { name = s.name; house = s.house.0; parties = named deal.parties s.parties; steps = s.steps }

account_id : (parties : List Party) (k : ℕ) → k < length parties → AllByRecursion (λ (party : Party). IsTrue (is_name party.name) × IsId party.account) parties → IsId (account_of parties k)
account_id [] k lt all = absurd (omega (arith, lt))
account_id (party ∷ parties) zero lt all = all.0.1
account_id (party ∷ parties) (suc k) lt all = account_id parties k (omega (arith, lt)) all.1

tag_bytes : AllBytes act_tag
tag_bytes = own_text act_tag refl

-- the ledger reads the act from its text
pub record Reads (deal : DealTold) (act : PlanAct) : Type 0 where
  pub bytes : AreBytes (planned_text deal act)
  pub is : act_of Ledger (planned_text deal act) ≡ Ok (planned_act deal act)

-- a text of bytes that fits is read
read_back : (act : Act) (fields : List ℕ) (number : ℕ) → act_text act ≡ act_tag ++ number ∷ fields → number < 256 → AllBytes fields → AllBytes (act_text act)
read_back act fields number is small all = subst AllBytes (sym is) (both act_tag (number ∷ fields) tag_bytes (small, all))

module _ (deal : DealTold) (d : IsDeal deal) (s : IsSpellable deal) where
  id_wide : length deal.id.0 ≡ 32
  id_wide = ap length d.id ∙ length-sha256 (deal_text deal)

  id_bytes : AllBytes deal.id.0
  id_bytes = subst AllBytes (sym d.id) (hash_bytes (deal_text deal))

  reads_act : (act : PlanAct) → AllBytes (planned_text deal act) → office_of (kind_of (planned_act deal act)) ≡ Ledger → ActFits (planned_act deal act) → Reads deal act
  reads_act act all office fits = record {
    bytes = are_bytes (planned_text deal act) all;
    is = (act-read Ledger (planned_text deal act) (planned_act deal act) (are_bytes (planned_text deal act) all)).1 (office, fits, refl);
  }

  pub reads_register : Reads deal plan.Register
  reads_register =
      let text : List ℕ = deal_text deal in
      let all : AllBytes text = deal_bytes deal s (spellable_steps deal d s) in
      let short = short_deal deal d (has_names deal s) in
      reads_act plan.Register (read_back (Register text) (text_field text) 1 refl (omega arith) (text_field_bytes text all)) refl (omega (arith, short))

  module _ (ledger asset : List ℕ) (l : IsTrue (is_name ledger)) (x : IsTrue (is_name asset)) (amount : ℕ) (small : amount < 2 ^ 63) where
    asset_bytes : AllBytes (name_field asset ++ to_be_bytes w64 amount)
    asset_bytes = both (name_field asset) (to_be_bytes w64 amount) (name_field_bytes asset x) (wide8 amount)

    reads_escrow : Reads deal (plan.Escrow ledger asset amount)
    reads_escrow =
        let fields : List ℕ = deal.id.0 ++ (name_field ledger ++ (name_field asset ++ to_be_bytes w64 amount)) in
        let all : AllBytes fields = both deal.id.0 (name_field ledger ++ (name_field asset ++ to_be_bytes w64 amount)) id_bytes
        (both (name_field ledger) (name_field asset ++ to_be_bytes w64 amount) (name_field_bytes ledger l) asset_bytes) in
        reads_act (plan.Escrow ledger asset amount) (read_back (Escrow deal.id ledger asset amount) fields 3 refl (omega arith) all) refl (id_wide, l, x, small)

    reads_transfer : (turn to : ℕ) → turn < 2 ^ 32 → to < length deal.parties → Reads deal (plan.Transfer ledger turn to asset amount)
    reads_transfer turn to few lt =
        let receiver : Id = account_of deal.parties to in
        let id : IsId receiver = account_id deal.parties to lt s.parties in
        let rest : List ℕ = receiver.0 ++ (name_field asset ++ to_be_bytes w64 amount) in
        let fields : List ℕ = deal.id.0 ++ (name_field ledger ++ (to_be_bytes w32 turn ++ rest)) in
        let all : AllBytes fields = both deal.id.0 (name_field ledger ++ (to_be_bytes w32 turn ++ rest)) id_bytes
        (both (name_field ledger) (to_be_bytes w32 turn ++ rest) (name_field_bytes ledger l)
        (both (to_be_bytes w32 turn) rest (wide4 turn) (both receiver.0 (name_field asset ++ to_be_bytes w64 amount) id.1 asset_bytes))) in
        reads_act (plan.Transfer ledger turn to asset amount) (read_back (Transfer deal.id ledger turn receiver asset amount) fields 4 refl (omega arith) all) refl (id_wide, l, few, id.0, x, small)

  -- an escrow of a plan
  pub reads_planned : (party : ℕ) (ledger asset : List ℕ) (amount : ℕ) → Contains (plan_of deal.steps party) (plan.Escrow ledger asset amount) → Reads deal (plan.Escrow ledger asset amount)
  reads_planned party ledger asset amount there =
      let is = escrowed_is_need deal.steps party ledger asset amount there in
      let least = need_le deal.steps party ledger asset in
      let most = outgoing_le deal.steps party ledger asset in
      let moved = some_moved deal.steps party ledger asset (omega (arith, is.0, is.1, least)) in
      let names = each_of (λ (t : Step). IsTrue (is_name t.ledger) × IsTrue (is_name t.asset)) deal.steps s.steps moved.0 moved.1 in
      let on : moved.0.ledger ≡ ledger = ap (λ (p : Pair). p.ledger) moved.2 in
      let of : moved.0.asset ≡ asset = ap (λ (p : Pair). p.asset) moved.2 in
      let totals = d.kept.totals ledger asset in
      reads_escrow ledger asset (subst (λ (n : List ℕ). IsTrue (is_name n)) on names.0) (subst (λ (n : List ℕ). IsTrue (is_name n)) of names.1) amount (omega (arith, is.1, least, most, totals))

  -- the transfer of a step
  pub reads_step : (step : Step) → Contains deal.steps step → (turn : ℕ) → turn < 2 ^ 32 → step.to < length deal.parties → Reads deal (plan.Transfer step.ledger turn step.to step.asset step.amount)
  reads_step step here turn few lt =
      let good = each_of IsSpellableStep deal.steps (spellable_steps deal d s) step here in
      reads_transfer step.ledger step.asset good.0 good.1 step.amount good.2 turn step.to few lt
