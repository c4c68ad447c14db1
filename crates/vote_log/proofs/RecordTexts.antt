-- Records are taken exactly where they stand, and each has one text.
use Rattle.std.proofs.Common.{◌≡◌, ℕ, ◌+◌, ◌<◌, ◌≤◌, ◌^◌, ◌↔◌, ◌⊎◌, inl, inr, Bool, true, false, List, [], ◌∷◌, ◌++◌, length, Result, Ok, Err, refl, sym, ap, subst, ◌∙◌, arith}
use Rattle.std.specs.Int.{w8, w16, to_be_bytes, from_be_bytes, byte_len}
use Rattle.std.proofs.lemmas.List.{append_cancel_left}
use Rattle.dh_base.specs.declared.id.Id.{Id}
use Rattle.dh_base.specs.Fields.{◌>>=◌, AreBytes, StandsAt}
use Rattle.dh_base.specs.Formats.{IsSpelledAt, TakesWhatIsSpelled, IsSpelledAfter, IsMadeOf, SpelledBy, SpelledWithin, NumberSpelled, IdSpelled, next_number, next_id, unless_out_of_range}
use Rattle.dh_base.proofs.Fields.{bind_ok, wide8, wide16}
use Rattle.dh_base.proofs.Formats.{takes-then, takes-made, takes-within, takes-or_fault, takes-same, takes-number, takes-id}
use Rattle.vote_log.specs.declared.kind.Kind.{Kind}
use Rattle.vote_log.specs.declared.kind.Kind.TheVariants.{Start, Commit, Abort}
use Rattle.vote_log.specs.declared.record_fault.RecordFault.{RecordFault}
use Rattle.vote_log.specs.Entry.{Entry, IsInRange}
use Rattle.vote_log.specs.RecordTexts.{kind_byte, record_text, IsRecord, IsRecordAt, field_fault, record_fault_of, any_kind_from, is_no_kind, kind_of, kind_from, any_num_from, is_out_of_range, num_from, deal_from, record_from, record_at}

-- ---- the kind

one_of_three : (byte : ℕ) → is_no_kind byte ≡ false → (byte ≡ 1) ⊎ ((byte ≡ 2) ⊎ (byte ≡ 3))
one_of_three byte passed = grind (arith, passed)

byte_again : (byte : ℕ) → (byte ≡ 1) ⊎ ((byte ≡ 2) ⊎ (byte ≡ 3)) → kind_byte (kind_of byte) ≡ byte
byte_again byte (inl is) = rw is refl
byte_again byte (inr (inl is)) = rw is refl
byte_again byte (inr (inr is)) = rw is refl

abbrev KindSpelled : Kind → List ℕ → Type 0
KindSpelled = SpelledBy (λ kind. Unit {0}) (λ kind. kind_byte kind ∷ [])

abbrev KindMade : Kind → List ℕ → Type 0
KindMade = IsMadeOf kind_of (SpelledWithin is_no_kind (NumberSpelled w8))

kind_back : (kind : Kind) (text : List ℕ) → text ≡ kind_byte kind ∷ [] → KindMade kind text
kind_back Start text e = record { value = 1; spelled = ((omega arith, e), refl); is = refl }
kind_back Commit text e = record { value = 2; spelled = ((omega arith, e), refl); is = refl }
kind_back Abort text e = record { value = 3; spelled = ((omega arith, e), refl); is = refl }

kind_same : (kind : Kind) (text : List ℕ) → KindMade kind text ↔ KindSpelled kind text
kind_same kind text = (
  λ s.
      let again : kind_byte (kind_of s.value) ≡ s.value = byte_again s.value (one_of_three s.value s.spelled.1) in
      let small : to_be_bytes w8 s.value ≡ s.value ∷ [] = (let h = s.spelled.0.0 in ap (λ (n : ℕ). n ∷ []) (omega arith)) in
      let byte : s.value ≡ kind_byte kind = sym again ∙ ap kind_byte (sym s.is) in
      (tt, s.spelled.0.1 ∙ small ∙ ap (λ (n : ℕ). n ∷ []) byte),
  λ s. kind_back kind text s.1,
)

takes_kind : TakesWhatIsSpelled kind_from KindSpelled
takes_kind =
    takes-same kind_from KindMade KindSpelled kind_same
    (takes-made kind_of (unless_out_of_range is_no_kind field_fault any_kind_from) (SpelledWithin is_no_kind (NumberSpelled w8))
    (takes-within is_no_kind field_fault any_kind_from (NumberSpelled w8) (takes-or_fault record_fault_of (next_number w8) (NumberSpelled w8) (takes-number w8 wide8))))

-- ---- the number

abbrev NumSpelled : Kind → ℕ → List ℕ → Type 0
NumSpelled kind = SpelledBy (IsInRange kind) (to_be_bytes w16)

pub range_of : (kind : Kind) (num : ℕ) → is_out_of_range kind num ≡ false → IsInRange kind num
range_of Start num e = grind (arith, e)
range_of Commit num e = grind (arith, e)
range_of Abort num e = grind (arith, e)

of_range : (kind : Kind) (num : ℕ) → IsInRange kind num → is_out_of_range kind num ≡ false
of_range Start num h = grind (arith, h)
of_range Commit num h = grind (arith, h)
of_range Abort num h = grind (arith, h)

small_num : (kind : Kind) (num : ℕ) → IsInRange kind num → num < 256 ^ byte_len w16
small_num Start num h = omega arith
small_num Commit num h = omega arith
small_num Abort num h = omega arith

num_same : (kind : Kind) (num : ℕ) (text : List ℕ) → SpelledWithin (is_out_of_range kind) (NumberSpelled w16) num text ↔ NumSpelled kind num text
num_same kind num text =
    (λ s. (range_of kind num s.1, s.0.1), λ s. ((small_num kind num s.0, s.1), of_range kind num s.0))

takes_num : (kind : Kind) → TakesWhatIsSpelled (num_from kind) (NumSpelled kind)
takes_num kind =
    takes-same (num_from kind) (SpelledWithin (is_out_of_range kind) (NumberSpelled w16)) (NumSpelled kind) (num_same kind)
    (takes-within (is_out_of_range kind) field_fault any_num_from (NumberSpelled w16) (takes-or_fault record_fault_of (next_number w16) (NumberSpelled w16) (takes-number w16 wide16)))

takes_deal : TakesWhatIsSpelled deal_from IdSpelled
takes_deal = takes-or_fault record_fault_of next_id IdSpelled takes-id

-- ---- whole records

abbrev made : Kind → ℕ → Id → Entry
made kind num deal = record { kind = kind; num = num; deal = deal }

abbrev behind_num : Kind → ℕ → List ℕ → ℕ → Result (Entry × ℕ) RecordFault
behind_num kind num bytes at = deal_from bytes at >>= λ deal. Ok (made kind num deal.0, deal.1)

abbrev behind_kind : Kind → List ℕ → ℕ → Result (Entry × ℕ) RecordFault
behind_kind kind bytes at = num_from kind bytes at >>= λ num. behind_num kind num.0 bytes num.1

abbrev NumAndDeal : Kind → Entry → List ℕ → Type 0
NumAndDeal kind = IsSpelledAfter (NumSpelled kind) (λ num. IsMadeOf (made kind num) IdSpelled)

abbrev RecordFields : Entry → List ℕ → Type 0
RecordFields = IsSpelledAfter KindSpelled NumAndDeal

spelled_record : (entry : Entry) (text : List ℕ) → RecordFields entry text → SpelledBy IsRecord record_text entry text
spelled_record entry text kind =
    let num = kind.spells_rest in
    let deal = num.spells_rest in
    let P : Entry → Type 0 = λ a. SpelledBy IsRecord record_text a text in
    let spelled : text ≡ kind_byte kind.value ∷ (to_be_bytes w16 num.value ++ deal.value.0) =
    rw (kind.is, kind.spells_front.1, num.is, num.spells_front.1, deal.spelled.1) refl in
    subst P (sym deal.is) ((num.spells_front.0, deal.spelled.0), spelled)

record_spelled : (entry : Entry) (text : List ℕ) → SpelledBy IsRecord record_text entry text → RecordFields entry text
record_spelled entry text s =
    record {
      value = entry.kind;
      front = kind_byte entry.kind ∷ [];
      rest = to_be_bytes w16 entry.num ++ entry.deal.0;
      spells_front = (tt, refl);
      is = s.1;
      spells_rest = record {
        value = entry.num;
        front = to_be_bytes w16 entry.num;
        rest = entry.deal.0;
        spells_front = (s.0.0, refl);
        is = refl;
        spells_rest = record { value = entry.deal; spelled = (s.0.1, refl); is = refl };
      };
    }

pub takes_record : TakesWhatIsSpelled record_from (SpelledBy IsRecord record_text)
unfolding record_from
takes_record =
    takes-same record_from RecordFields (SpelledBy IsRecord record_text) (λ entry text. (spelled_record entry text, record_spelled entry text))
    (takes-then kind_from behind_kind KindSpelled NumAndDeal takes_kind
    (λ kind. takes-then (num_from kind) (behind_num kind) (NumSpelled kind) (λ num. IsMadeOf (made kind num) IdSpelled) (takes_num kind)
    (λ num. takes-made (made kind num) deal_from IdSpelled takes_deal)))

abbrev without_place : Entry × ℕ → Result Entry RecordFault
without_place read = Ok read.0

pub record_read : (bytes : List ℕ) (at : ℕ) (entry : Entry) → AreBytes bytes → (record_at bytes at ≡ Ok entry) ↔ IsRecordAt bytes at entry
record_read bytes at entry are = (
  λ e.
      let step = bind_ok (record_from bytes at) without_place entry e in
      let s = (takes_record bytes at step.0 are).0 step.1 in
      let same : step.0.0 ≡ entry = (let h : without_place step.0 ≡ Ok entry = step.2 in cc) in
      let stands : StandsAt (record_text step.0.0) bytes at = subst (λ (t : List ℕ). StandsAt t bytes at) s.spelled.1 s.stands in
      subst (IsRecordAt bytes at) same (s.spelled.0, stands),
  λ s.
      let there : record_from bytes at ≡ Ok (entry, at + length (record_text entry)) =
      (takes_record bytes at (entry, at + length (record_text entry)) are).1 (record { text = record_text entry; spelled = (s.0, refl); stands = s.1; next = refl }) in
      ap (λ (r : Result (Entry × ℕ) RecordFault). r >>= without_place) there,
)

-- ---- one text, one record

-- two lists in two parts, of which the first are as long as each other
pub same_parts : (a b c d : List ℕ) → length a ≡ length b → a ++ c ≡ b ++ d → (a ≡ b) × (c ≡ d)
same_parts [] [] c d len e = (refl, e)
same_parts [] (y ∷ b) c d len e = absurd (omega arith)
same_parts (x ∷ a) [] c d len e = absurd (omega arith)
same_parts (x ∷ a) (y ∷ b) c d len e = let r = same_parts a b c d (omega arith) cc in (cc (e, r.0), r.1)

same_kind : (a b : Kind) → kind_byte a ≡ kind_byte b → a ≡ b
same_kind Start Start e = refl
same_kind Start Commit e = absurd (omega arith)
same_kind Start Abort e = absurd (omega arith)
same_kind Commit Start e = absurd (omega arith)
same_kind Commit Commit e = refl
same_kind Commit Abort e = absurd (omega arith)
same_kind Abort Start e = absurd (omega arith)
same_kind Abort Commit e = absurd (omega arith)
same_kind Abort Abort e = refl

pub same_record : (a b : Entry) → IsRecord a → IsRecord b → record_text a ≡ record_text b → a ≡ b
same_record a b ha hb e =
    let byte : kind_byte a.kind ≡ kind_byte b.kind = cc in
    let rest : to_be_bytes w16 a.num ++ a.deal.0 ≡ to_be_bytes w16 b.num ++ b.deal.0 = cc in
    let parts = same_parts (to_be_bytes w16 a.num) (to_be_bytes w16 b.num) a.deal.0 b.deal.0 refl rest in
    let num : a.num ≡ b.num = sym (wide16.again a.num (small_num a.kind a.num ha.0)) ∙ (ap (from_be_bytes w16) parts.0 ∙ wide16.again b.num (small_num b.kind b.num hb.0)) in
    let kind = same_kind a.kind b.kind byte in
    let deal = parts.1 in
    λ i. record { kind = kind i; num = num i; deal = record { 0 = deal i } }
