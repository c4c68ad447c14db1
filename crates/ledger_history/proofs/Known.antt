-- A deal in which anything is escrowed is registered.
use Rattle.std.proofs.Common.{◌≡◌, ℕ, Bool, true, false, cond, Option, Some, None, is_some, List, [], ◌∷◌, ◌++◌, refl, ap, sym, ◌∙◌, subst, arith}
use Rattle.std.specs.Option.{option_or}
use Rattle.std.proofs.lemmas.List.Sums.{sum_by_push}
use Rattle.dh_base.specs.declared.id.Id.{Id}
use Rattle.act_text.specs.declared.act.Act.{Act}
use Rattle.act_text.specs.declared.act.Act.TheVariants.{Register, Pay, Escrow, Transfer, StartDeal, Vote}
use Rattle.escrow_book.specs.declared.change.Change.{Change}
use Rattle.escrow_book.specs.declared.change.Change.TheVariants as change
use Rattle.escrow_book.specs.History.{History, with_change, first_answer, registration, parties_of, is_known, escrowed, if_abort_of}
use Rattle.escrow_book.specs.Base.{carried_parties}
use Rattle.escrow_book.specs.Reached.{registered}
use Rattle.escrow_book.specs.Refused.{unknown_deal, not_a_party, deal_settled, zero, short, escrow_refusal}
use Rattle.escrow_book.specs.History as book
use Rattle.escrow_book.specs.declared.fault.BookFault.{BookFault}
use Rattle.escrow_book.specs.declared.fault.BookFault.TheVariants.{UnknownDeal}
use Rattle.ledger_rows.specs.declared.entry.Entry.{Entry}
use Rattle.ledger_rows.specs.declared.entry.Entry.TheVariants.{Act as Accepted, Settlement}
use Rattle.ledger_rows.specs.Entries.{digest_of, parties_in, with_act, with_entry, with_entries}
use Rattle.ledger_history.specs.Histories.{IsTaken, IsNext, AreAccepted}
use Rattle.ledger_history.proofs.Elements.{if_same, or_parts}
use Rattle.ledger_history.proofs.Fronts.{entry_is}

none_of_both : {X : Type 0} (a b : Option X) → a ≡ None → b ≡ None → option_or a b ≡ None
none_of_both a b e f = ap (λ o. option_or o b) e ∙ f

answer_front : (answer : Change → Option (List Id)) (xs : List Change) (x : Change) → first_answer answer (xs ++ x ∷ []) ≡ None → first_answer answer xs ≡ None
answer_front answer [] x e = refl
answer_front answer (y ∷ xs) x e =
    let both = or_parts (answer y) (first_answer answer (xs ++ x ∷ [])) e in
    none_of_both (answer y) (first_answer answer xs) both.0 (answer_front answer xs x both.1)

-- the deal is unknown, and so was before, and nothing more is escrowed in it
pub record Stays (b c : History) (d p : Id) (x : List ℕ) : Type 0 where
  pub unknown : parties_of b d ≡ None
  pub same : if_abort_of c d p x ≡ if_abort_of b d p x

change_unknown : (b : History) (c : Change) (d : Id) → parties_of (with_change b c) d ≡ None → parties_of b d ≡ None
change_unknown b c d e =
    let both = or_parts (carried_parties b.carried d) (first_answer (registration d) (b.changes ++ c ∷ [])) e in
    none_of_both (carried_parties b.carried d) (first_answer (registration d) b.changes) both.0 (answer_front (registration d) b.changes c both.1)

by_change : (b : History) (c : Change) (d p : Id) (x : List ℕ) → escrowed d p x c ≡ 0 → parties_of (with_change b c) d ≡ None → Stays b (with_change b c) d p x
by_change b c d p x none e = record { unknown = change_unknown b c d e; same = omega (arith, sum_by_push (escrowed d p x) b.changes c, none) }

by_register : (b : History) (e : Id) (parties : List Id) (d p : Id) (x : List ℕ) → parties_of (registered b e parties) d ≡ None → Stays b (registered b e parties) d p x
by_register b e parties d p x = by_test (is_known b e)
  where
    by_test : (s : Bool) → parties_of (cond s b (with_change b (change.Registered e parties))) d ≡ None → Stays b (cond s b (with_change b (change.Registered e parties))) d p x
    by_test true is = record { unknown = is; same = refl }
    by_test false is = by_change b (change.Registered e parties) d p x refl is

-- an escrow that is taken is of a known deal
escrow_known : (b : History) (d p : Id) (x : List ℕ) (n : ℕ) → escrow_refusal b d p x n ≡ None → parties_of b d ≡ None → ⊥
escrow_known b d p x n e none =
    let rest : Option BookFault = option_or (not_a_party b d p) (option_or (deal_settled b d) (option_or (zero n) (option_or (short (book.free_of b p x) n) None))) in
    let first : unknown_deal b d ≡ None = (or_parts (unknown_deal b d) rest e).0 in
    let fails : unknown_deal b d ≡ Some UnknownDeal = ap (λ (o : Option (List Id)). cond (is_some o) None (Some UnknownDeal)) none in
    absurd (cc (first, fails))

by_act : (name : List ℕ) (b : History) (a : Id) (act : Act) (d p : Id) (x : List ℕ) → IsTaken name b a act → parties_of (with_act b a act) d ≡ None → Stays b (with_act b a act) d p x
by_act name b a (Register text) d p x taken e = by_register b (digest_of text) (parties_in text) d p x e
by_act name b a (Pay house l to y n) d p x taken e = by_change b (change.Paid a to y n) d p x refl e
by_act name b a (Transfer within l t to y n) d p x taken e = by_change b (change.Transferred within a to y n) d p x refl e
by_act name b a (StartDeal text) d p x taken e = absurd taken
by_act name b a (Vote within k choice) d p x taken e = absurd taken
by_act name b a (Escrow within l y n) d p x taken e =
    by_change b (change.Escrowed within a y n) d p x
    (if_same (λ m. m ≡ 0) d within p a x y n
    (λ named by of. absurd (escrow_known b within a y n taken.1 (ap (parties_of b) (sym named) ∙ change_unknown b (change.Escrowed within a y n) d e)))
    refl)
    e

by_entry : (name : List ℕ) (b : History) (front : List Entry) (entry : Entry) (d p : Id) (x : List ℕ) → IsNext name b front entry → parties_of (with_entry b entry) d ≡ None → Stays b (with_entry b entry) d p x
by_entry name b front (Settlement within outcome) d p x next e = by_change b (change.Settled within outcome) d p x refl e
by_entry name b front (Accepted a q message) d p x next e =
    let is = entry_is b a q message next.act next.reads in
    subst (λ c. Stays b c d p x) (sym is) (by_act name b a next.act d p x next.taken (subst (λ c. parties_of c d ≡ None) is e))

pub none_escrowed : (name : List ℕ) (b : History) (front rest : List Entry) (d p : Id) (x : List ℕ) → AreAccepted name b front rest → parties_of (with_entries b rest) d ≡ None → Stays b (with_entries b rest) d p x
none_escrowed name b front [] d p x a e = record { unknown = e; same = refl }
none_escrowed name b front (entry ∷ rest) d p x a e =
    let later = none_escrowed name (with_entry b entry) (front ++ entry ∷ []) rest d p x a.1 e in
    let now = by_entry name b front entry d p x a.0 later.unknown in
    record { unknown = now.unknown; same = later.same ∙ now.same }
