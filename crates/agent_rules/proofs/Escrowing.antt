-- A ledger accepts an escrow twice, under two keys.
use Rattle.std.proofs.Common.{◌≡◌, ℕ, ◌+◌, ◌==◌, cond, ◌&&◌, Some, Ok, Result, List, [], ◌∷◌, ◌++◌, slice_get, refl, ap, ◌∙◌, subst, inl, inr, arith}
use Rattle.std.specs.Str.{bytes_eq}
use Rattle.std.proofs.lemmas.Bool.{eq-eqb, le-ltb}
use Rattle.dh_base.specs.declared.id.Id.{Id}
use Rattle.act_text.specs.declared.act.Act.{Act}
use Rattle.act_text.specs.declared.act.Act.TheVariants.{Register, Escrow}
use Rattle.act_text.specs.declared.act_fault.ActFault.{ActFault}
use Rattle.act_text.specs.declared.office.Office.TheVariants.{Ledger}
use Rattle.act_text.specs.ActReading.{act_of}
use Rattle.escrow_book.specs.declared.change.Change.{Change}
use Rattle.escrow_book.specs.declared.change.Change.TheVariants as change
use Rattle.escrow_book.specs.Opening.{Row}
use Rattle.escrow_book.specs.History.{History, if_abort_of}
use Rattle.deal_core.specs.Deals.{DealTold}
use Rattle.deal_core.specs.DealText.{deal_text, IsSpellable}
use Rattle.deal_core.specs.Kept.{IsDeal}
use Rattle.clear_core.specs.Clearing.{need_of}
use Rattle.clear_core.specs.declared.plan_act.PlanAct.{PlanAct}
use Rattle.clear_core.specs.declared.plan_act.PlanAct.TheVariants as plan
use Rattle.clear_core.proofs.Escrowed.{need_is_escrowed}
use Rattle.clear_core.proofs.Moved.{head_or_tail, none_in_empty}
use Rattle.ledger_rows.specs.declared.entry.Entry.TheVariants.{Act as Accepted}
use Rattle.ledger_rows.specs.Entries.{book_of}
use Rattle.ledger_history.specs.Histories.{IsHistory}
use Rattle.ledger_history.specs.PlannedActs.{HaveOneEscrow}
use Rattle.joined_deals.specs.DealTexts.{account_of, planned_text}
use Rattle.joined_deals.proofs.Counted.{itself}
use Rattle.compliant_deals.specs.Parts.{act_by}
use Rattle.compliant_deals.specs.Complying.{HaveOwnKeys}
use Rattle.compliant_deals.proofs.Reading.{Reads, reads_register, reads_planned}
use Rattle.compliant_deals.proofs.Stages.{IsStage, same_put, escrow_open, escrow_stage, put_more}
use Rattle.compliant_deals.proofs.Doing.{IsFine, AreFine, put_of, first_changes, first_stage, register_fine}
use Rattle.compliant_deals.proofs.Keys.{acts_accepted, entries_make}
use Rattle.agent_rules.specs.Twice.{CanEscrowTwice, acts_twice, own_key, entries_twice, texts_twice}

same_entry : (a : Id) (number q : ℕ) (text message : List ℕ) → Accepted a number text ≡ Accepted a q message → (number ≡ q) × (text ≡ message)
same_entry a number q text message e = (cc, cc)

no_escrow : (text : List ℕ) (e : Id) (l x : List ℕ) (n : ℕ) (r : Result Act ActFault) → r ≡ Ok (Register text) → r ≡ Ok (Escrow e l x n) → ⊥
no_escrow text e l x n r one two = absurd cc

same_amount : (e : Id) (l x : List ℕ) (m n : ℕ) (r : Result Act ActFault) → r ≡ Ok (Escrow e l x m) → r ≡ Ok (Escrow e l x n) → n ≡ m
same_amount e l x m n r one two = cc

module _ (deal : DealTold) (k : ℕ) (l x : List ℕ) (rows : List Row) (d : IsDeal deal) (s : IsSpellable deal) (c : CanEscrowTwice deal k l x rows) where
  abbrev need : ℕ
  need = need_of deal.steps k l x

  abbrev own : Id
  own = account_of deal.parties k

  abbrev act : PlanAct
  act = plan.Escrow l x need

  abbrev text : List ℕ
  text = planned_text deal act

  reads : Reads deal act
  reads = reads_planned deal d s k l x need (need_is_escrowed deal.steps k l x need (c.needs, refl))

  abbrev put_nothing : ℕ → List ℕ → ℕ
  put_nothing j y = 0

  abbrev put_once : ℕ → List ℕ → ℕ
  put_once = put_more deal d l rows put_nothing k x need

  abbrev first : List Change
  first = first_changes deal d s l rows

  abbrev escrow : Change
  escrow = change.Escrowed deal.id own x need

  registered : IsStage deal d l rows first put_nothing []
  registered = same_put deal d l rows first (put_of deal d s l rows 0) put_nothing [] (λ j y lt. ap (λ t. cond t (need_of deal.steps j l y) 0) (le-ltb j 0 (omega arith))) (first_stage deal d s l rows)

  once : IsStage deal d l rows (first ++ escrow ∷ []) put_once []
  once = escrow_stage deal d l rows first put_nothing [] registered k x need c.within

  twice : IsStage deal d l rows ((first ++ escrow ∷ []) ++ escrow ∷ []) (put_more deal d l rows put_once k x need) []
  twice = escrow_stage deal d l rows (first ++ escrow ∷ []) put_once [] once k x need c.within

  -- what the first escrow put up
  first_is : cond ((k == k) && bytes_eq x x) need 0 ≡ need
  first_is = rw (eq-eqb k k refl, itself x) refl

  first_fine : IsFine deal d s l rows first (act_by k act)
  first_fine = record {
    party = c.within;
    reads = reads;
    taken = (refl, escrow_open deal d l rows first put_nothing [] registered k x need c.within c.needs (omega (arith, c.has)));
    grows = refl;
  }

  second_fine : IsFine deal d s l rows (first ++ escrow ∷ []) (act_by k act)
  second_fine = record {
    party = c.within;
    reads = reads;
    taken = (refl, escrow_open deal d l rows (first ++ escrow ∷ []) put_once [] once k x need c.within c.needs (omega (arith, c.has, first_is)));
    grows = refl;
  }

  fine : AreFine deal d s l rows [] (acts_twice deal k l x)
  fine = (register_fine deal d s l rows k c.within, (first_fine, (second_fine, tt)))

  keys : HaveOwnKeys own_key (acts_twice deal k l x)
  keys place other one two here there party same = same

  pub twice_accepted : IsHistory l rows (entries_twice deal k l x)
  twice_accepted = record { good = c.good; accepted = acts_accepted deal d s l rows own_key (acts_twice deal k l x) fine keys }

  pub twice_put_up : if_abort_of (book_of rows (entries_twice deal k l x)) deal.id own x ≡ need + need
  twice_put_up =
      let made = ap (λ (b : History). if_abort_of b deal.id own x) (entries_make deal d s l rows [] own_key 0 (acts_twice deal k l x) fine) in
      omega (arith, made, twice.escrows k x c.within, first_is)

  pub twice_planned : HaveOneEscrow l (entries_twice deal k l x) (texts_twice deal k l x) deal.id own x need
  twice_planned q message escrowed there read = elim (head_or_tail (Accepted own 0 (planned_text deal plan.Register)) (Accepted own 1 text ∷ Accepted own 2 text ∷ []) (Accepted own q message) there) [
    | inl is ↦ (let e = same_entry own 0 q (planned_text deal plan.Register) message is in
        absurd (no_escrow (deal_text deal) deal.id l x escrowed (act_of Ledger message) (subst (λ (m : List ℕ). act_of Ledger m ≡ Ok (Register (deal_text deal))) e.1 (reads_register deal d s).is) read))
    | inr later ↦ elim (head_or_tail (Accepted own 1 text) (Accepted own 2 text ∷ []) (Accepted own q message) later) [
      | inl is ↦ at_place 1 refl is
      | inr last ↦ elim (head_or_tail (Accepted own 2 text) [] (Accepted own q message) last) [
        | inl is ↦ at_place 2 refl is
        | inr none ↦ absurd (none_in_empty (Accepted own q message) none)
      ]
    ]
  ]
    where
      at_place : (number : ℕ) → slice_get (texts_twice deal k l x) number ≡ Some text → Accepted own number text ≡ Accepted own q message → (escrowed ≡ need) × (slice_get (texts_twice deal k l x) q ≡ Some message)
      at_place number stands is =
          let e = same_entry own number q text message is in
          let same = same_amount deal.id l x need escrowed (act_of Ledger message) (subst (λ (m : List ℕ). act_of Ledger m ≡ Ok (Escrow deal.id l x need)) e.1 reads.is) read in
          (same, subst (λ (i : ℕ). slice_get (texts_twice deal k l x) i ≡ Some message) e.0 (stands ∙ ap (λ (m : List ℕ). Some m) e.1))
