-- The acts as entries: each under a key number of its own, all are accepted.
use Rattle.std.proofs.Common.{◌≡◌, ℕ, suc, ◌+◌, ◌<◌, ◌==◌, Bool, true, false, cond, ◌&&◌, Option, Some, None, List, [], ◌∷◌, ◌++◌, length, slice_get, refl, ap, sym, ◌∙◌, subst, arith, append_assoc}
use Rattle.std.specs.List.{AllByRecursion}
use Rattle.std.specs.Option.{option_or}
use Rattle.std.proofs.lemmas.Bool.{eqb-true}
use Rattle.std.proofs.lemmas.List.{length-append}
use Rattle.dh_base.specs.Ids.{same_id}
use Rattle.escrow_book.specs.declared.change.Change.{Change}
use Rattle.escrow_book.specs.Opening.{Row}
use Rattle.escrow_book.specs.History.{History}
use Rattle.deal_core.specs.Deals.{DealTold}
use Rattle.deal_core.specs.DealText.{IsSpellable}
use Rattle.deal_core.specs.Kept.{IsDeal}
use Rattle.ledger_rows.specs.declared.entry.Entry.{Entry}
use Rattle.ledger_rows.specs.declared.used_key.UsedKey.{UsedKey}
use Rattle.ledger_rows.specs.Entries.{digest_of, used_from, used_of, signed_by, with_read, with_entry, with_entries}
use Rattle.ledger_history.specs.Histories.{AreAccepted}
use Rattle.joined_deals.specs.DealTexts.{account_of, planned_act, planned_text}
use Rattle.compliant_deals.specs.Parts.{PartyAct}
use Rattle.compliant_deals.specs.Complying.{entry_of, entries_from, HaveOwnKeys}
use Rattle.compliant_deals.proofs.Places.{get_below, get_front, get_next}
use Rattle.compliant_deals.proofs.Accounts.{accounts_differ}
use Rattle.compliant_deals.proofs.Stages.{book_with}
use Rattle.compliant_deals.proofs.Doing.{IsFine, AreFine, change_of, changes_behind}

module _ (deal : DealTold) (d : IsDeal deal) where
  -- their parties are parties of the deal
  abbrev AreParties : List PartyAct → Type 0
  AreParties acts = AllByRecursion (λ (done : PartyAct). done.party < length deal.parties) acts

  parties_front : (xs ys : List PartyAct) → AreParties (xs ++ ys) → AreParties xs
  parties_front [] ys all = tt
  parties_front (x ∷ xs) ys all = (all.0, parties_front xs ys all.1)

  party_next : (xs : List PartyAct) (y : PartyAct) (ys : List PartyAct) → AreParties (xs ++ y ∷ ys) → y.party < length deal.parties
  party_next [] y ys all = all.0
  party_next (x ∷ xs) y ys all = party_next xs y ys all.1

  -- ---- a key that no entry has

  unused : (key : ℕ → ℕ) (number place : ℕ) (acts : List PartyAct) (p q : ℕ) → p < length deal.parties → AreParties acts → ((k : ℕ) (done : PartyAct) → slice_get acts k ≡ Some done → done.party ≡ p → key (place + k) ≡ q → ⊥) → used_from number (entries_from deal key place acts) (account_of deal.parties p) q ≡ None
  unused key number place [] p q lt all none = refl
  unused key number place (done ∷ acts) p q lt all none =
      ap (λ (o : Option UsedKey). option_or o (used_from (number + 1) (entries_from deal key (suc place) acts) (account_of deal.parties p) q)) here
      ∙ unused key (number + 1) (suc place) acts p q lt all.1 later
    where
      apart : (same owns : Bool) → same_id (account_of deal.parties p) (account_of deal.parties done.party) ≡ same → (q == key place) ≡ owns → signed_by number (account_of deal.parties p) q (entry_of deal done (key place)) ≡ None
      apart false owns is own = ap (λ t. cond (t && (q == key place)) (Some (record { at = number; message = digest_of (planned_text deal done.act) })) None) is
      apart true false is own = ap (λ t. cond (t && (q == key place)) (Some (record { at = number; message = digest_of (planned_text deal done.act) })) None) is ∙ ap (λ t. cond t (Some (record { at = number; message = digest_of (planned_text deal done.act) })) None) own
      apart true true is own =
          let party : p ≡ done.party = eqb-true p done.party (sym (accounts_differ deal d p done.party lt all.0) ∙ is) in
          let under : q ≡ key place = eqb-true q (key place) own in
          let first : place + 0 ≡ place = omega arith in
          absurd (none 0 done refl (sym party) (ap key first ∙ sym under))

      here : signed_by number (account_of deal.parties p) q (entry_of deal done (key place)) ≡ None
      here = apart (same_id (account_of deal.parties p) (account_of deal.parties done.party)) (q == key place) refl refl

      later : (k : ℕ) (other : PartyAct) → slice_get acts k ≡ Some other → other.party ≡ p → key (suc place + k) ≡ q → ⊥
      later k other there party under =
          let same : place + suc k ≡ suc place + k = omega arith in
          none (suc k) other there party (ap key same ∙ under)

  -- ---- one entry more

  entries_push : (key : ℕ → ℕ) (place : ℕ) (acts : List PartyAct) (done : PartyAct) → entries_from deal key place (acts ++ done ∷ []) ≡ entries_from deal key place acts ++ entry_of deal done (key (place + length acts)) ∷ []
  entries_push key place [] done =
      let same : place ≡ place + 0 = omega arith in
      ap (λ (k : ℕ). entry_of deal done (key k) ∷ []) same
  entries_push key place (first ∷ acts) done =
      let same : suc place + length acts ≡ place + suc (length acts) = omega arith in
      ap (λ (rest : List Entry). entry_of deal first (key place) ∷ rest) (entries_push key (suc place) acts done ∙ ap (λ (k : ℕ). entries_from deal key (suc place) acts ++ entry_of deal done (key k) ∷ []) same)

  -- the keys of the acts have no entry in the front and the entries before them
  abbrev AreNew : List Entry → (ℕ → ℕ) → ℕ → List PartyAct → Type 0
  AreNew front key place [] = Unit {0}
  AreNew front key place (done ∷ acts) =
      (used_of front (account_of deal.parties done.party) (key place) ≡ None) × AreNew (front ++ entry_of deal done (key place) ∷ []) key (suc place) acts

  are_new : (key : ℕ → ℕ) (acts : List PartyAct) → AreParties acts → HaveOwnKeys key acts → (before rest : List PartyAct) → before ++ rest ≡ acts → AreNew (entries_from deal key 0 before) key (length before) rest
  are_new key acts all own before [] parts = tt
  are_new key acts all own before (done ∷ rest) parts =
      let inside : AreParties (before ++ done ∷ rest) = subst AreParties (sym parts) all in
      let that : slice_get acts (length before) ≡ Some done = subst (λ (xs : List PartyAct). slice_get xs (length before) ≡ Some done) parts (get_next before done rest) in
      let new = unused key 1 0 before done.party (key (length before)) (party_next before done rest inside) (parties_front before (done ∷ rest) inside)
      (λ k other there party under.
      let below = get_below before k other there in
      let here : slice_get acts k ≡ Some other = subst (λ (xs : List PartyAct). slice_get xs k ≡ Some other) parts (get_front before (done ∷ rest) k other there) in
      let zero_and : k ≡ 0 + k = omega arith in
      let same = own k (length before) other done here that party (ap key zero_and ∙ under) in
      omega (arith, below, same)) in
      let next = are_new key acts all own (before ++ done ∷ []) rest (append_assoc before (done ∷ []) rest ∙ parts) in
      let size : length (before ++ done ∷ []) ≡ suc (length before) = omega (arith, length-append before (done ∷ [])) in
      let place : 0 + length before ≡ length before = omega arith in
      let front : entries_from deal key 0 (before ++ done ∷ []) ≡ entries_from deal key 0 before ++ entry_of deal done (key (length before)) ∷ [] =
      entries_push key 0 before done ∙ ap (λ (k : ℕ). entries_from deal key 0 before ++ entry_of deal done (key k) ∷ []) place in
      (new, subst (λ (es : List Entry). AreNew es key (suc (length before)) rest) front (subst (λ (k : ℕ). AreNew (entries_from deal key 0 (before ++ done ∷ [])) key k rest) size next))

  module _ (s : IsSpellable deal) (l : List ℕ) (rows : List Row) where
    fine_parties : (cs : List Change) (acts : List PartyAct) → AreFine deal d s l rows cs acts → AreParties acts
    fine_parties cs [] fine = tt
    fine_parties cs (done ∷ acts) fine = (fine.0.party, fine_parties (cs ++ change_of deal d s l rows done ∷ []) acts fine.1)

    -- the entry makes the change of its act
    entry_grows : (cs : List Change) (done : PartyAct) (q : ℕ) → IsFine deal d s l rows cs done → with_entry (book_with rows cs) (entry_of deal done q) ≡ book_with rows (cs ++ change_of deal d s l rows done ∷ [])
    entry_grows cs done q fine = ap (with_read (book_with rows cs) (account_of deal.parties done.party)) fine.reads.is ∙ fine.grows

    all_accepted : (cs : List Change) (front : List Entry) (key : ℕ → ℕ) (place : ℕ) (acts : List PartyAct) → AreFine deal d s l rows cs acts → AreNew front key place acts → AreAccepted l (book_with rows cs) front (entries_from deal key place acts)
    all_accepted cs front key place [] fine new = tt
    all_accepted cs front key place (done ∷ acts) fine new =
        let rest = all_accepted (cs ++ change_of deal d s l rows done ∷ []) (front ++ entry_of deal done (key place) ∷ []) key (suc place) acts fine.1 new.1 in (
          record { bytes = fine.0.reads.bytes; new = new.0; act = planned_act deal done.act; reads = fine.0.reads.is; taken = fine.0.taken },
          subst (λ (b : History). AreAccepted l b (front ++ entry_of deal done (key place) ∷ []) (entries_from deal key (suc place) acts)) (sym (entry_grows cs done (key place) fine.0)) rest,
        )

    pub acts_accepted : (key : ℕ → ℕ) (acts : List PartyAct) → AreFine deal d s l rows [] acts → HaveOwnKeys key acts → AreAccepted l (book_with rows []) [] (entries_from deal key 0 acts)
    acts_accepted key acts fine own = all_accepted [] [] key 0 acts fine (are_new key acts (fine_parties [] acts fine) own [] acts refl)

    pub entries_make : (cs : List Change) (key : ℕ → ℕ) (place : ℕ) (acts : List PartyAct) → AreFine deal d s l rows cs acts → with_entries (book_with rows cs) (entries_from deal key place acts) ≡ book_with rows (changes_behind deal d s l rows cs acts)
    entries_make cs key place [] fine = refl
    entries_make cs key place (done ∷ acts) fine =
        ap (λ (b : History). with_entries b (entries_from deal key (suc place) acts)) (entry_grows cs done (key place) fine.0)
        ∙ entries_make (cs ++ change_of deal d s l rows done ∷ []) key (suc place) acts fine.1
