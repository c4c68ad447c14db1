-- The fields of each kind of act are taken exactly where they stand.
use Rattle.std.proofs.Common.{◌≡◌, ℕ, ◌+◌, ◌<◌, ◌≤◌, ◌^◌, ◌%◌, ◌||◌, ◌↔◌, ◌⊎◌, inl, inr, Bool, true, false, cond, nat_lt, nat_le, List, [], ◌∷◌, ◌++◌, length, Result, Ok, Err, refl, sym, ap, subst, ◌∙◌, arith, IsTrue}
use Rattle.std.specs.Int.{w8, w16, w32, w64, to_be_bytes, byte_len}
use Rattle.std.proofs.lemmas.Bool.{leb-true, le-leb}
use Rattle.dh_base.specs.declared.base_fault.BaseFault.{BaseFault}
use Rattle.dh_base.specs.declared.id.Id.{Id}
use Rattle.dh_base.specs.Names.{is_name}
use Rattle.dh_base.specs.Fields.{◌>>=◌, AreBytes, StandsAt, name_field}
use Rattle.dh_base.specs.Formats.{IsSpelledAt, TakesWhatIsSpelled, IsSpelledAfter, IsMadeOf, SpelledBy, SpelledWithin, NumberSpelled, IdSpelled, NameSpelled, TextSpelled, next_number, next_id, next_name, next_text, text_field, or_fault, unless_out_of_range}
use Rattle.dh_base.proofs.Fields.{wide8, wide16, wide32, wide64}
use Rattle.dh_base.proofs.Formats.{takes-then, takes-made, takes-within, takes-or_fault, takes-same, takes-number, takes-id, takes-name, takes-text, reads-whole}
use Rattle.act_text.specs.declared.act.Act.{Act}
use Rattle.act_text.specs.declared.act.Act.TheVariants.{Register, Pay, Escrow, Transfer, StartDeal, Vote}
use Rattle.act_text.specs.declared.act_fault.ActFault.{ActFault}
use Rattle.act_text.specs.declared.act_fault.ActFault.TheVariants.{BadTag, BadField}
use Rattle.dh_base.specs.declared.outcome.Outcome.{Outcome}
use Rattle.dh_base.specs.declared.outcome.Outcome.TheVariants.{Commit, Abort}
use Rattle.act_text.specs.declared.act_kind.ActKind.{ActKind}
use Rattle.act_text.specs.declared.act_kind.ActKind.TheVariants.{Registration, Payment, Escrowing, Move, Start, Voting}
use Rattle.act_text.specs.declared.office.Office.{Office}
use Rattle.act_text.specs.ActTexts.{kind_of, choice_byte, act_fields, ActFits, IsAmount}
use Rattle.act_text.specs.ActReading.{act_fault_of, id_from, name_from, text_from, turn_from, index_from, any_amount_from, amount_from, any_choice_from, choice_byte_from, choice_of, fields_from}

-- ---- single fields

takes_id : TakesWhatIsSpelled id_from IdSpelled
takes_id = takes-or_fault act_fault_of next_id IdSpelled takes-id

takes_name : TakesWhatIsSpelled name_from NameSpelled
takes_name = takes-or_fault act_fault_of next_name NameSpelled takes-name

takes_text : TakesWhatIsSpelled text_from TextSpelled
takes_text = takes-or_fault act_fault_of next_text TextSpelled takes-text

takes_turn : TakesWhatIsSpelled turn_from (NumberSpelled w32)
takes_turn = takes-or_fault act_fault_of (next_number w32) (NumberSpelled w32) (takes-number w32 wide32)

takes_index : TakesWhatIsSpelled index_from (NumberSpelled w16)
takes_index = takes-or_fault act_fault_of (next_number w16) (NumberSpelled w16) (takes-number w16 wide16)

abbrev AmountSpelled : ℕ → List ℕ → Type 0
AmountSpelled = SpelledBy IsAmount (to_be_bytes w64)

amount_within : (amount : ℕ) (text : List ℕ) → SpelledWithin (λ amount. nat_le (2 ^ 63) amount) (NumberSpelled w64) amount text ↔ AmountSpelled amount text
amount_within amount text =
    (λ s. let h = s.1 in (grind (arith, h), s.0.1), λ s. let h = s.0 in ((omega arith, s.1), grind (arith, h)))

takes_amount : TakesWhatIsSpelled amount_from AmountSpelled
takes_amount =
    takes-same amount_from (SpelledWithin (λ amount. nat_le (2 ^ 63) amount) (NumberSpelled w64)) AmountSpelled amount_within
    (takes-within (λ amount. nat_le (2 ^ 63) amount) BadField any_amount_from (NumberSpelled w64) (takes-or_fault act_fault_of (next_number w64) (NumberSpelled w64) (takes-number w64 wide64)))

-- the bytes 2 and 3
abbrev ChoiceSpelled : ℕ → List ℕ → Type 0
ChoiceSpelled = SpelledBy (λ byte. (byte ≡ 2) ⊎ (byte ≡ 3)) (λ byte. byte ∷ [])

choice_again : (byte : ℕ) → (byte ≡ 2) ⊎ (byte ≡ 3) → choice_byte (choice_of byte) ≡ byte
choice_again byte (inl is) = rw is refl
choice_again byte (inr is) = rw is refl

choice_back : (choice : Outcome) → choice_of (choice_byte choice) ≡ choice
choice_back Commit = refl
choice_back Abort = refl

is_choice : (choice : Outcome) → (choice_byte choice ≡ 2) ⊎ (choice_byte choice ≡ 3)
is_choice Commit = inl refl
is_choice Abort = inr refl

abbrev is_no_choice : ℕ → Bool
is_no_choice byte = nat_lt byte 2 || nat_lt 3 byte

two_or_three : (byte : ℕ) → is_no_choice byte ≡ false → (byte ≡ 2) ⊎ (byte ≡ 3)
two_or_three byte passed = grind (arith, passed)

passes : (byte : ℕ) → (byte ≡ 2) ⊎ (byte ≡ 3) → (byte < 256) × (byte % 256 ≡ byte) × (is_no_choice byte ≡ false)
passes byte (inl is) = (omega arith, omega arith, rw is refl)
passes byte (inr is) = (omega arith, omega arith, rw is refl)

choice_within : (byte : ℕ) (text : List ℕ) → SpelledWithin is_no_choice (NumberSpelled w8) byte text ↔ ChoiceSpelled byte text
choice_within byte text = (
  λ s.
      let h = s.1 in
      let is : (byte ≡ 2) ⊎ (byte ≡ 3) = two_or_three byte s.1 in
      let small : byte % 256 ≡ byte = (let b = s.0.0 in omega arith) in
      (is, s.0.1 ∙ ap (λ (n : ℕ). n ∷ []) small),
  λ s. let pass = passes byte s.0 in ((pass.0, s.1 ∙ ap (λ (n : ℕ). n ∷ []) (sym pass.1)), pass.2),
)

takes_choice : TakesWhatIsSpelled choice_byte_from ChoiceSpelled
takes_choice =
    takes-same choice_byte_from (SpelledWithin is_no_choice (NumberSpelled w8)) ChoiceSpelled choice_within
    (takes-within is_no_choice BadField any_choice_from (NumberSpelled w8) (takes-or_fault act_fault_of (next_number w8) (NumberSpelled w8) (takes-number w8 wide8)))

-- an asset and an amount, of which an act is made
abbrev asset_amount : (List ℕ → ℕ → Act) → List ℕ → ℕ → Result (Act × ℕ) ActFault
asset_amount make bytes at = name_from bytes at >>= λ asset. amount_from bytes asset.1 >>= λ amount. Ok (make asset.0 amount.0, amount.1)

abbrev AssetAmountSpelled : (List ℕ → ℕ → Act) → Act → List ℕ → Type 0
AssetAmountSpelled make = IsSpelledAfter NameSpelled (λ asset. IsMadeOf (make asset) AmountSpelled)

takes_asset_amount : (make : List ℕ → ℕ → Act) → TakesWhatIsSpelled (asset_amount make) (AssetAmountSpelled make)
takes_asset_amount make =
    takes-then name_from (λ asset bytes at. amount_from bytes at >>= λ amount. Ok (make asset amount.0, amount.1)) NameSpelled (λ asset. IsMadeOf (make asset) AmountSpelled) takes_name
    (λ asset. takes-made (make asset) amount_from AmountSpelled takes_amount)

-- the same, with the account to which it goes before it
abbrev to_asset_amount : (Id → List ℕ → ℕ → Act) → List ℕ → ℕ → Result (Act × ℕ) ActFault
to_asset_amount make bytes at = id_from bytes at >>= λ to. asset_amount (make to.0) bytes to.1

abbrev ToAssetAmountSpelled : (Id → List ℕ → ℕ → Act) → Act → List ℕ → Type 0
ToAssetAmountSpelled make = IsSpelledAfter IdSpelled (λ to. AssetAmountSpelled (make to))

takes_to_asset_amount : (make : Id → List ℕ → ℕ → Act) → TakesWhatIsSpelled (to_asset_amount make) (ToAssetAmountSpelled make)
takes_to_asset_amount make = takes-then id_from (λ to. asset_amount (make to)) IdSpelled (λ to. AssetAmountSpelled (make to)) takes_id (λ to. takes_asset_amount (make to))

-- ---- the kinds

-- the fields of an act of that kind
abbrev pub FieldsSpelled : ActKind → Act → List ℕ → Type 0
FieldsSpelled kind = SpelledBy (λ act. (kind_of act ≡ kind) × ActFits act) act_fields

abbrev PaymentSpelled : Act → List ℕ → Type 0
PaymentSpelled = IsSpelledAfter IdSpelled (λ house. IsSpelledAfter NameSpelled (λ ledger. ToAssetAmountSpelled (Pay house ledger)))

spelled-payment : (act : Act) (text : List ℕ) → PaymentSpelled act text → FieldsSpelled Payment act text
spelled-payment act text house =
    let ledger = house.spells_rest in
    let to = ledger.spells_rest in
    let asset = to.spells_rest in
    let amount = asset.spells_rest in
    let P : Act → Type 0 = λ a. FieldsSpelled Payment a text in
    let spelled : text ≡ house.value.0 ++ (name_field ledger.value ++ (to.value.0 ++ (name_field asset.value ++ to_be_bytes w64 amount.value))) =
    rw (house.is, house.spells_front.1, ledger.is, ledger.spells_front.1, to.is, to.spells_front.1, asset.is, asset.spells_front.1, amount.spelled.1) refl in
    subst P (sym amount.is) ((refl, (house.spells_front.0, ledger.spells_front.0, to.spells_front.0, asset.spells_front.0, amount.spelled.0)), spelled)

payment-spelled : (act : Act) (text : List ℕ) → FieldsSpelled Payment act text → PaymentSpelled act text
payment-spelled (Pay house ledger to asset amount) text s =
    record {
      value = house;
      front = house.0;
      rest = name_field ledger ++ (to.0 ++ (name_field asset ++ to_be_bytes w64 amount));
      spells_front = (s.0.1.0, refl);
      is = s.1;
      spells_rest = record {
        value = ledger;
        front = name_field ledger;
        rest = to.0 ++ (name_field asset ++ to_be_bytes w64 amount);
        spells_front = (s.0.1.1, refl);
        is = refl;
        spells_rest = record {
          value = to;
          front = to.0;
          rest = name_field asset ++ to_be_bytes w64 amount;
          spells_front = (s.0.1.2, refl);
          is = refl;
          spells_rest = record {
            value = asset;
            front = name_field asset;
            rest = to_be_bytes w64 amount;
            spells_front = (s.0.1.3, refl);
            is = refl;
            spells_rest = record { value = amount; spelled = (s.0.1.4, refl); is = refl };
          };
        };
      };
    }
payment-spelled act text s = absurd (let h = s.0.0 in cc)

abbrev EscrowSpelled : Act → List ℕ → Type 0
EscrowSpelled = IsSpelledAfter IdSpelled (λ deal. IsSpelledAfter NameSpelled (λ ledger. AssetAmountSpelled (Escrow deal ledger)))

spelled-escrow : (act : Act) (text : List ℕ) → EscrowSpelled act text → FieldsSpelled Escrowing act text
spelled-escrow act text deal =
    let ledger = deal.spells_rest in
    let asset = ledger.spells_rest in
    let amount = asset.spells_rest in
    let P : Act → Type 0 = λ a. FieldsSpelled Escrowing a text in
    let spelled : text ≡ deal.value.0 ++ (name_field ledger.value ++ (name_field asset.value ++ to_be_bytes w64 amount.value)) =
    rw (deal.is, deal.spells_front.1, ledger.is, ledger.spells_front.1, asset.is, asset.spells_front.1, amount.spelled.1) refl in
    subst P (sym amount.is) ((refl, (deal.spells_front.0, ledger.spells_front.0, asset.spells_front.0, amount.spelled.0)), spelled)

escrow-spelled : (act : Act) (text : List ℕ) → FieldsSpelled Escrowing act text → EscrowSpelled act text
escrow-spelled (Escrow deal ledger asset amount) text s =
    record {
      value = deal;
      front = deal.0;
      rest = name_field ledger ++ (name_field asset ++ to_be_bytes w64 amount);
      spells_front = (s.0.1.0, refl);
      is = s.1;
      spells_rest = record {
        value = ledger;
        front = name_field ledger;
        rest = name_field asset ++ to_be_bytes w64 amount;
        spells_front = (s.0.1.1, refl);
        is = refl;
        spells_rest = record {
          value = asset;
          front = name_field asset;
          rest = to_be_bytes w64 amount;
          spells_front = (s.0.1.2, refl);
          is = refl;
          spells_rest = record { value = amount; spelled = (s.0.1.3, refl); is = refl };
        };
      };
    }
escrow-spelled act text s = absurd (let h = s.0.0 in cc)

abbrev TransferSpelled : Act → List ℕ → Type 0
TransferSpelled =
    IsSpelledAfter IdSpelled (λ deal. IsSpelledAfter NameSpelled (λ ledger. IsSpelledAfter (NumberSpelled w32) (λ turn. ToAssetAmountSpelled (Transfer deal ledger turn))))

spelled-transfer : (act : Act) (text : List ℕ) → TransferSpelled act text → FieldsSpelled Move act text
spelled-transfer act text deal =
    let ledger = deal.spells_rest in
    let turn = ledger.spells_rest in
    let to = turn.spells_rest in
    let asset = to.spells_rest in
    let amount = asset.spells_rest in
    let P : Act → Type 0 = λ a. FieldsSpelled Move a text in
    let spelled : text ≡ deal.value.0 ++ (name_field ledger.value ++ (to_be_bytes w32 turn.value ++ (to.value.0 ++ (name_field asset.value ++ to_be_bytes w64 amount.value)))) =
    rw (deal.is, deal.spells_front.1, ledger.is, ledger.spells_front.1, turn.is, turn.spells_front.1, to.is, to.spells_front.1, asset.is, asset.spells_front.1, amount.spelled.1) refl in
    let small : turn.value < 2 ^ 32 = (let h = turn.spells_front.0 in omega arith) in
    subst P (sym amount.is) ((refl, (deal.spells_front.0, ledger.spells_front.0, small, to.spells_front.0, asset.spells_front.0, amount.spelled.0)), spelled)

transfer-spelled : (act : Act) (text : List ℕ) → FieldsSpelled Move act text → TransferSpelled act text
transfer-spelled (Transfer deal ledger turn to asset amount) text s =
    record {
      value = deal;
      front = deal.0;
      rest = name_field ledger ++ (to_be_bytes w32 turn ++ (to.0 ++ (name_field asset ++ to_be_bytes w64 amount)));
      spells_front = (s.0.1.0, refl);
      is = s.1;
      spells_rest = record {
        value = ledger;
        front = name_field ledger;
        rest = to_be_bytes w32 turn ++ (to.0 ++ (name_field asset ++ to_be_bytes w64 amount));
        spells_front = (s.0.1.1, refl);
        is = refl;
        spells_rest = record {
          value = turn;
          front = to_be_bytes w32 turn;
          rest = to.0 ++ (name_field asset ++ to_be_bytes w64 amount);
          is = refl;
          spells_front = (let h = s.0.1.2 in omega arith, refl);
          spells_rest = record {
            value = to;
            front = to.0;
            rest = name_field asset ++ to_be_bytes w64 amount;
            spells_front = (s.0.1.3, refl);
            is = refl;
            spells_rest = record {
              value = asset;
              front = name_field asset;
              rest = to_be_bytes w64 amount;
              spells_front = (s.0.1.4, refl);
              is = refl;
              spells_rest = record { value = amount; spelled = (s.0.1.5, refl); is = refl };
            };
          };
        };
      };
    }
transfer-spelled act text s = absurd (let h = s.0.0 in cc)

abbrev VoteSpelled : Act → List ℕ → Type 0
VoteSpelled = IsSpelledAfter IdSpelled (λ deal. IsSpelledAfter (NumberSpelled w16) (λ index. IsMadeOf (λ byte. Vote deal index (choice_of byte)) ChoiceSpelled))

spelled-vote : (act : Act) (text : List ℕ) → VoteSpelled act text → FieldsSpelled Voting act text
spelled-vote act text deal =
    let index = deal.spells_rest in
    let choice = index.spells_rest in
    let P : Act → Type 0 = λ a. FieldsSpelled Voting a text in
    let spelled : text ≡ deal.value.0 ++ (to_be_bytes w16 index.value ++ (choice_byte (choice_of choice.value) ∷ [])) =
    rw (deal.is, deal.spells_front.1, index.is, index.spells_front.1, choice.spelled.1, choice_again choice.value choice.spelled.0) refl in
    let small : index.value < 2 ^ 16 = (let h = index.spells_front.0 in omega arith) in
    subst P (sym choice.is) ((refl, (deal.spells_front.0, small)), spelled)

vote-spelled : (act : Act) (text : List ℕ) → FieldsSpelled Voting act text → VoteSpelled act text
vote-spelled (Vote deal index choice) text s =
    record {
      value = deal;
      front = deal.0;
      rest = to_be_bytes w16 index ++ (choice_byte choice ∷ []);
      spells_front = (s.0.1.0, refl);
      is = s.1;
      spells_rest = record {
        value = index;
        front = to_be_bytes w16 index;
        rest = choice_byte choice ∷ [];
        is = refl;
        spells_front = (let h = s.0.1.1 in omega arith, refl);
        spells_rest = record { value = choice_byte choice; spelled = (is_choice choice, refl); is = ap (Vote deal index) (sym (choice_back choice)) };
      };
    }
vote-spelled act text s = absurd (let h = s.0.0 in cc)

spelled-register : (act : Act) (text : List ℕ) → IsMadeOf Register TextSpelled act text → FieldsSpelled Registration act text
spelled-register act text s =
    let P : Act → Type 0 = λ a. FieldsSpelled Registration a text in
    subst P (sym s.is) ((refl, s.spelled.0), s.spelled.1)

register-spelled : (act : Act) (text : List ℕ) → FieldsSpelled Registration act text → IsMadeOf Register TextSpelled act text
register-spelled (Register deal_text) text s = record { value = deal_text; spelled = (s.0.1, s.1); is = refl }
register-spelled act text s = absurd (let h = s.0.0 in cc)

spelled-start : (act : Act) (text : List ℕ) → IsMadeOf StartDeal TextSpelled act text → FieldsSpelled Start act text
spelled-start act text s =
    let P : Act → Type 0 = λ a. FieldsSpelled Start a text in
    subst P (sym s.is) ((refl, s.spelled.0), s.spelled.1)

start-spelled : (act : Act) (text : List ℕ) → FieldsSpelled Start act text → IsMadeOf StartDeal TextSpelled act text
start-spelled (StartDeal deal_text) text s = record { value = deal_text; spelled = (s.0.1, s.1); is = refl }
start-spelled act text s = absurd (let h = s.0.0 in cc)

-- the fields of an act of a kind are taken exactly where they stand
pub takes_fields : (kind : ActKind) → TakesWhatIsSpelled (fields_from kind) (FieldsSpelled kind)
unfolding fields_from
takes_fields Registration = takes-same (fields_from Registration) (IsMadeOf Register TextSpelled) (FieldsSpelled Registration)
    (λ act text. (spelled-register act text, register-spelled act text)) (takes-made Register text_from TextSpelled takes_text)
takes_fields Payment = takes-same (fields_from Payment) PaymentSpelled (FieldsSpelled Payment) (λ act text. (spelled-payment act text, payment-spelled act text))
    (takes-then id_from (λ house bytes at. name_from bytes at >>= λ ledger. to_asset_amount (Pay house ledger.0) bytes ledger.1) IdSpelled
    (λ house. IsSpelledAfter NameSpelled (λ ledger. ToAssetAmountSpelled (Pay house ledger))) takes_id
    (λ house. takes-then name_from (λ ledger. to_asset_amount (Pay house ledger)) NameSpelled (λ ledger. ToAssetAmountSpelled (Pay house ledger)) takes_name
    (λ ledger. takes_to_asset_amount (Pay house ledger))))
takes_fields Escrowing = takes-same (fields_from Escrowing) EscrowSpelled (FieldsSpelled Escrowing) (λ act text. (spelled-escrow act text, escrow-spelled act text))
    (takes-then id_from (λ deal bytes at. name_from bytes at >>= λ ledger. asset_amount (Escrow deal ledger.0) bytes ledger.1) IdSpelled
    (λ deal. IsSpelledAfter NameSpelled (λ ledger. AssetAmountSpelled (Escrow deal ledger))) takes_id
    (λ deal. takes-then name_from (λ ledger. asset_amount (Escrow deal ledger)) NameSpelled (λ ledger. AssetAmountSpelled (Escrow deal ledger)) takes_name
    (λ ledger. takes_asset_amount (Escrow deal ledger))))
takes_fields Move = takes-same (fields_from Move) TransferSpelled (FieldsSpelled Move) (λ act text. (spelled-transfer act text, transfer-spelled act text))
    (takes-then id_from
    (λ deal bytes at. name_from bytes at >>= λ ledger. turn_from bytes ledger.1 >>= λ turn. to_asset_amount (Transfer deal ledger.0 turn.0) bytes turn.1) IdSpelled
    (λ deal. IsSpelledAfter NameSpelled (λ ledger. IsSpelledAfter (NumberSpelled w32) (λ turn. ToAssetAmountSpelled (Transfer deal ledger turn)))) takes_id
    (λ deal. takes-then name_from (λ ledger bytes at. turn_from bytes at >>= λ turn. to_asset_amount (Transfer deal ledger turn.0) bytes turn.1) NameSpelled
    (λ ledger. IsSpelledAfter (NumberSpelled w32) (λ turn. ToAssetAmountSpelled (Transfer deal ledger turn))) takes_name
    (λ ledger. takes-then turn_from (λ turn. to_asset_amount (Transfer deal ledger turn)) (NumberSpelled w32) (λ turn. ToAssetAmountSpelled (Transfer deal ledger turn)) takes_turn
    (λ turn. takes_to_asset_amount (Transfer deal ledger turn)))))
takes_fields Start = takes-same (fields_from Start) (IsMadeOf StartDeal TextSpelled) (FieldsSpelled Start)
    (λ act text. (spelled-start act text, start-spelled act text)) (takes-made StartDeal text_from TextSpelled takes_text)
takes_fields Voting = takes-same (fields_from Voting) VoteSpelled (FieldsSpelled Voting) (λ act text. (spelled-vote act text, vote-spelled act text))
    (takes-then id_from (λ deal bytes at. index_from bytes at >>= λ index. choice_byte_from bytes index.1 >>= λ choice. Ok (Vote deal index.0 (choice_of choice.0), choice.1)) IdSpelled
    (λ deal. IsSpelledAfter (NumberSpelled w16) (λ index. IsMadeOf (λ byte. Vote deal index (choice_of byte)) ChoiceSpelled)) takes_id
    (λ deal. takes-then index_from (λ index bytes at. choice_byte_from bytes at >>= λ choice. Ok (Vote deal index (choice_of choice.0), choice.1)) (NumberSpelled w16)
    (λ index. IsMadeOf (λ byte. Vote deal index (choice_of byte)) ChoiceSpelled) takes_index
    (λ index. takes-made (λ byte. Vote deal index (choice_of byte)) choice_byte_from ChoiceSpelled takes_choice)))
