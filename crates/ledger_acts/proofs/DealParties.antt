-- The accounts of a deal's parties are 2 to 16 different ones.
use Rattle.std.proofs.Common.{◌≡◌, ℕ, ◌&&◌, ◌||◌, not, nat_le, Bool, true, false, List, [], ◌∷◌, ◌++◌, map, length, Result, refl, sym, ap, ◌∙◌, arith, inl, inr}
use Rattle.std.specs.List.{list_any}
use Rattle.std.proofs.lemmas.Bool.{cases_Bool, le-leb}
use Rattle.std.proofs.lemmas.List.{length-map}
use Rattle.std.proofs.lemmas.List.Folds.{list_any-append}
use Rattle.dh_base.specs.declared.id.Id.{Id}
use Rattle.dh_base.specs.Ids.{same_id}
use Rattle.dh_base.proofs.SameIds.{id_from_same, same_id-self}
use Rattle.deal_core.specs.declared.deal_fault.DealFault.{DealFault}
use Rattle.deal_core.specs.declared.party.Party.{Party}
use Rattle.deal_core.specs.Deals.{DealTold, has_account}
use Rattle.deal_core.specs.Drafts.{Draft, accounts_in, parties_in}
use Rattle.deal_core.specs.Kept.{AreNewBehind}
use Rattle.deal_core.specs.Reading.{IsTextOf}
use Rattle.escrow_book.specs.History.{is_in}
use Rattle.escrow_book.specs.Reached.{are_different, are_parties}

abbrev accounts_of : List Party → List Id
accounts_of parties = map (λ (party : Party). party.account) parties

or_true : (b : Bool) → (b || true) ≡ true
or_true true = refl
or_true false = refl

-- an account of those before is none of those behind
not_behind : (before parties : List Party) (account : Id) → AreNewBehind before parties → list_any (has_account account) before ≡ true → is_in account (accounts_of parties) ≡ false
not_behind before [] account new there = refl
not_behind before (party ∷ parties) account new there =
    let apart : same_id account party.account ≡ false = elim (cases_Bool (same_id account party.account)) [
      | inr other ↦ other
      | inl same ↦
          let clash : list_any (has_account party.account) before ≡ true = ap (λ (a : Id). list_any (has_account a) before) (sym (id_from_same account party.account same)) ∙ there in
          let none : list_any (has_account party.account) before ≡ false = new.1 in
          absurd cc
    ] in
    let later = not_behind (before ++ party ∷ []) parties account new.2 (list_any-append (has_account account) before (party ∷ []) ∙ ap (λ (b : Bool). b || (has_account account party || false)) there) in
    (λ i. apart i || later i)

different : (before parties : List Party) → AreNewBehind before parties → are_different (accounts_of parties) ≡ true
different before [] new = refl
different before (party ∷ parties) new =
    let own : list_any (has_account party.account) (before ++ party ∷ []) ≡ true =
    list_any-append (has_account party.account) before (party ∷ [])
    ∙ ap (λ (b : Bool). list_any (has_account party.account) before || (b || false)) (same_id-self party.account) ∙ or_true (list_any (has_account party.account) before) in
    let apart = not_behind (before ++ party ∷ []) parties party.account new.2 own in
    let rest = different (before ++ party ∷ []) parties new.2 in
    (λ i. not (apart i) && rest i)

pub text_parties : (deal : DealTold) (text : List ℕ) → IsTextOf deal text → are_parties (parties_in text) ≡ true
text_parties deal text is =
    let many : length (accounts_of deal.parties) ≡ length deal.parties = length-map deal.parties (λ (party : Party). party.account) in
    let two : nat_le 2 (length (accounts_of deal.parties)) ≡ true = le-leb 2 (length (accounts_of deal.parties)) (omega (arith, many, is.kept.parties)) in
    let few : nat_le (length (accounts_of deal.parties)) 16 ≡ true = le-leb (length (accounts_of deal.parties)) 16 (omega (arith, many, is.kept.kept.few_parties)) in
    let apart = different [] deal.parties is.kept.kept.different in
    ap (λ (read : Result Draft DealFault). are_parties (accounts_in read)) is.read ∙ (λ i. two i && (few i && apart i))
