-- A text has one answer.
use Rattle.std.proofs.Common.{◌≡◌, ℕ, ◌⊎◌, inl, inr, Bool, true, false, ltb, List, length, Result, Ok, Err, arith, refl, sym, ap, subst, ◌∙◌}
use Rattle.std.proofs.lemmas.Bool.{ltb-true, ltb-false}
use Rattle.deal_core.specs.Deals.{DealTold, IsFirstApart}
use Rattle.deal_core.specs.Drafts.{Draft, reading_of}
use Rattle.deal_core.specs.Reading.{IsApart, IsFaultOf, Answers, AreOneAnswer}
use Rattle.deal_core.specs.declared.deal_fault.DealFault.{DealFault}
use Rattle.deal_core.specs.declared.deal_fault.DealFault.TheVariants.{BadLine, PartyTwice, UnknownParty, SelfStep, ZeroAmount, TooMany, SumTooLarge, NotConnected, NoMemory}
use Rattle.deal_core.specs.declared.step.Step.{Step}
use Rattle.deal_core.proofs.OneDeal.{ok_same, one_deal}

-- why a fault is the text's: memory ran out, its lines have the fault, or a party is apart
IsCaused : List ℕ → DealFault → Type 0
IsCaused text fault = (fault ≡ NoMemory) ⊎ ((reading_of text ≡ Err fault) ⊎ ((party : ℕ) × (fault ≡ NotConnected party) × IsApart text party))

caused : (text : List ℕ) (fault : DealFault) → IsFaultOf text fault → IsCaused text fault
unfolding IsCaused
caused text (BadLine n) h = inr (inl h)
caused text (PartyTwice n) h = inr (inl h)
caused text (UnknownParty n) h = inr (inl h)
caused text (SelfStep n) h = inr (inl h)
caused text (ZeroAmount n) h = inr (inl h)
caused text (TooMany n) h = inr (inl h)
caused text (SumTooLarge n) h = inr (inl h)
caused text (NotConnected party) h = inr (inr (party, refl, h))
caused text NoMemory h = inl refl

err_same : (f g : DealFault) (r : Result Draft DealFault) → r ≡ Err f → r ≡ Err g → f ≡ g
err_same f g r e h = cc

not_both : (d : Draft) (f : DealFault) (r : Result Draft DealFault) → r ≡ Ok d → r ≡ Err f → ⊥
not_both d f r e h = cc

first_one : (steps : List Step) (parties a b : ℕ) → IsFirstApart steps parties a → IsFirstApart steps parties b → a ≡ b
first_one steps parties a b h k = by_order (ltb a b) (ltb b a) refl refl
  where
    by_order : (p q : Bool) → ltb a b ≡ p → ltb b a ≡ q → a ≡ b
    by_order true q e f = absurd (h.1 (k.2 a (ltb-true a b e)))
    by_order false true e f = absurd (k.1 (h.2 b (ltb-true b a f)))
    by_order false false e f = omega (arith, ltb-false a b e, ltb-false b a f)

same_party : (text : List ℕ) (a b : ℕ) → IsApart text a → IsApart text b → a ≡ b
same_party text a b h k =
    let same : h.draft ≡ k.draft = ok_same h.draft k.draft (reading_of text) h.read k.read in
    first_one k.draft.steps (length k.draft.parties) a b (subst (λ (d : Draft). IsFirstApart d.steps (length d.parties) a) same h.first) k.first

one_fault : (text : List ℕ) (f g : DealFault) → IsCaused text f → IsCaused text g → (f ≡ g) ⊎ ((f ≡ NoMemory) ⊎ (g ≡ NoMemory))
unfolding IsCaused
one_fault text f g (inl e) k = inr (inl e)
one_fault text f g (inr h) (inl e) = inr (inr e)
one_fault text f g (inr (inl e)) (inr (inl k)) = inl (err_same f g (reading_of text) e k)
one_fault text f g (inr (inl e)) (inr (inr k)) = absurd (not_both k.2.draft f (reading_of text) k.2.read e)
one_fault text f g (inr (inr h)) (inr (inl e)) = absurd (not_both h.2.draft g (reading_of text) h.2.read e)
one_fault text f g (inr (inr h)) (inr (inr k)) =
    inl (h.1 ∙ (ap (λ party. NotConnected party) (same_party text h.0 k.0 h.2 k.2) ∙ sym k.1))

pub one_answer : (text : List ℕ) (one other : Result DealTold DealFault) → Answers text one → Answers text other → AreOneAnswer one other
one_answer text (Ok d) (Ok e) h k =
    let same : e ≡ d = one_deal text d (Ok e) h.kept h.spelled h.read k in
    inl (ap (λ (x : DealTold). Ok x) (sym same))
one_answer text (Ok d) (Err g) h k =
    let out : g ≡ NoMemory = one_deal text d (Err g) h.kept h.spelled h.read k in
    inr (inr (ap (λ (x : DealFault). Err x) out))
one_answer text (Err f) (Ok e) h k =
    let out : f ≡ NoMemory = one_deal text e (Err f) k.kept k.spelled k.read h in
    inr (inl (ap (λ (x : DealFault). Err x) out))
one_answer text (Err f) (Err g) h k =
    elim (one_fault text f g (caused text f h) (caused text g k)) [
      | inl same ↦ inl (ap (λ (x : DealFault). Err x) same)
      | inr out ↦ inr (elim out [ inl e ↦ inl (ap (λ (x : DealFault). Err x) e) | inr e ↦ inr (ap (λ (x : DealFault). Err x) e) ])
    ]
