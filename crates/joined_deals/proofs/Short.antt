-- How long the texts of acts and deals are at most.
use Rattle.std.proofs.Common.{◌≡◌, ℕ, zero, suc, ◌+◌, ◌*◌, ◌^◌, ◌<◌, ◌≤◌, ◌&&◌, Bool, true, false, cond, IsTrue, nat_le, List, [], ◌∷◌, ◌++◌, map, length, slice_get, Option, Some, None, arith, refl, sym, ap, ◌∙◌}
use Rattle.std.specs.Prelude.{codes}
use Rattle.std.specs.Int.{w16, w32, w64, to_be_bytes}
use Rattle.std.specs.Fmt.{decimal}
use Rattle.std.specs.List.{AllByRecursion, list_all, flat_map, join_with_byte}
use Rattle.std.proofs.lemmas.Bool.{and_parts}
use Rattle.std.proofs.lemmas.Fmt.{length-decimal-le}
use Rattle.std.proofs.lemmas.List.{length-append, length-map}
use borrow.Author.Tests.{leb-true}
use Rattle.dh_base.specs.Names.{is_name, is_name_byte, begins_with_letter}
use Rattle.dh_base.specs.Fields.{name_field}
use Rattle.dh_base.specs.Spelled.{hex_byte, hex_text}
use Rattle.dh_base.specs.declared.id.Id.{Id}
use Rattle.dh_base.specs.declared.outcome.Outcome.{Outcome}
use Rattle.act_text.specs.declared.act.Act.{Act}
use Rattle.act_text.specs.declared.act.Act.TheVariants.{Register, Pay, Escrow, Transfer, StartDeal, Vote}
use Rattle.act_text.specs.ActTexts.{act_text, choice_byte}
use Rattle.line_text.specs.Lines.{spelled_lines}
use Rattle.line_text.specs.Words.{spelled_words}
use Rattle.deal_core.specs.Deals.{DealTold, is_of, amount_if}
use Rattle.deal_core.specs.DealText.{party_name, name_in, party_words, step_words, deal_words, deal_text}
use Rattle.deal_core.specs.Kept.{IsDeal}
use Rattle.deal_core.specs.declared.party.Party.{Party}
use Rattle.deal_core.specs.declared.step.Step.{Step}
use Rattle.std.specs.Str.{bytes_eq}
use Rattle.joined_deals.proofs.Elements.{all_of, each_of, part_of_sum}
use Rattle.joined_deals.proofs.Counted.{itself}
use Rattle.joined_deals.specs.TextSizes.{most_text, most_deal_text, AreNamed, AreOnNames, HasNames}

pub short_name : (name : List ℕ) → IsTrue (is_name name) → length name ≤ 16
short_name name is =
    let rest = and_parts (begins_with_letter name) (list_all is_name_byte name && nat_le (length name) 16) is in
    leb-true (length name) 16 (and_parts (list_all is_name_byte name) (nat_le (length name) 16) rest.1).1

pub short_register : (text : List ℕ) → length text ≤ most_deal_text → length (act_text (Register text)) ≤ most_text
short_register text short = omega (arith, short, length-append (to_be_bytes w32 (length text)) text)

pub short_start : (text : List ℕ) → length text ≤ most_deal_text → length (act_text (StartDeal text)) ≤ most_text
short_start text short = omega (arith, short, length-append (to_be_bytes w32 (length text)) text)

module _ (ledger asset : List ℕ) (l : IsTrue (is_name ledger)) (x : IsTrue (is_name asset)) where
  pub short_escrow : (deal : Id) (amount : ℕ) → length deal.0 ≡ 32 → length (act_text (Escrow deal ledger asset amount)) ≤ most_text
  short_escrow deal amount wide =
      let c = length-append (name_field asset) (to_be_bytes w64 amount) in
      let b = length-append (name_field ledger) (name_field asset ++ to_be_bytes w64 amount) in
      let a = length-append deal.0 (name_field ledger ++ (name_field asset ++ to_be_bytes w64 amount)) in
      omega (arith, a, b, c, wide, short_name ledger l, short_name asset x)

  pub short_transfer : (deal to : Id) (turn amount : ℕ) → length deal.0 ≡ 32 → length to.0 ≡ 32 → length (act_text (Transfer deal ledger turn to asset amount)) ≤ most_text
  short_transfer deal to turn amount wide far =
      let e = length-append (name_field asset) (to_be_bytes w64 amount) in
      let d = length-append to.0 (name_field asset ++ to_be_bytes w64 amount) in
      let c = length-append (to_be_bytes w32 turn) (to.0 ++ (name_field asset ++ to_be_bytes w64 amount)) in
      let b = length-append (name_field ledger) (to_be_bytes w32 turn ++ (to.0 ++ (name_field asset ++ to_be_bytes w64 amount))) in
      let a = length-append deal.0 (name_field ledger ++ (to_be_bytes w32 turn ++ (to.0 ++ (name_field asset ++ to_be_bytes w64 amount)))) in
      omega (arith, a, b, c, d, e, wide, far, short_name ledger l, short_name asset x)

  pub short_pay : (house to : Id) (amount : ℕ) → length house.0 ≡ 32 → length to.0 ≡ 32 → length (act_text (Pay house ledger to asset amount)) ≤ most_text
  short_pay house to amount wide far =
      let d = length-append (name_field asset) (to_be_bytes w64 amount) in
      let c = length-append to.0 (name_field asset ++ to_be_bytes w64 amount) in
      let b = length-append (name_field ledger) (to.0 ++ (name_field asset ++ to_be_bytes w64 amount)) in
      let a = length-append house.0 (name_field ledger ++ (to.0 ++ (name_field asset ++ to_be_bytes w64 amount))) in
      omega (arith, a, b, c, d, wide, far, short_name ledger l, short_name asset x)

pub short_vote : (deal : Id) (index : ℕ) (choice : Outcome) → length deal.0 ≡ 32 → length (act_text (Vote deal index choice)) ≤ most_text
short_vote deal index choice wide =
    let b = length-append (to_be_bytes w16 index) (choice_byte choice ∷ []) in
    let a = length-append deal.0 (to_be_bytes w16 index ++ (choice_byte choice ∷ [])) in
    omega (arith, a, b, wide)

pub short_push : (texts : List (List ℕ)) (text : List ℕ) → AllByRecursion (λ t. length t ≤ most_text) texts → length text ≤ most_text → AllByRecursion (λ t. length t ≤ most_text) (texts ++ text ∷ [])
short_push [] text short one = (one, tt)
short_push (first ∷ texts) text short one = (short.0, short_push texts text short.1 one)

-- ---- the text of a deal

hex_len : (bytes : List ℕ) → length (hex_text bytes) ≡ 2 * length bytes
hex_len [] = omega arith
hex_len (b ∷ bytes) = let rest = hex_len bytes in omega (arith, rest)

-- a line of words, without its line feed
abbrev IsShortLine : List ℕ → Type 0
IsShortLine line = length line ≤ 93

lines_len : (lines : List (List ℕ)) → AllByRecursion IsShortLine lines → length (spelled_lines lines) ≤ 94 * length lines
lines_len [] all = omega arith
lines_len (line ∷ lines) all =
    let rest = lines_len lines all.1 in
    let ended = length-append line (10 ∷ []) in
    omega (arith, all.0, rest, ended, length-append (line ++ 10 ∷ []) (spelled_lines lines))

short_party_name : (parties : List Party) (index : ℕ) → AreNamed parties → length (party_name parties index) ≤ 16
short_party_name [] index named = omega arith
short_party_name (party ∷ parties) zero named = short_name party.name named.0.0
short_party_name (party ∷ parties) (suc index) named = short_party_name parties index named.1

party_line : (party : Party) → IsTrue (is_name party.name) × (length party.account.0 ≡ 32) → IsShortLine (spelled_words (party_words party))
party_line party named =
    let b = length-append party.name (32 ∷ hex_text party.account.0) in
    omega (arith, b, short_name party.name named.0, hex_len party.account.0, named.1)

-- names of ledger and asset, and an amount in its range
abbrev IsPlainStep : Step → Type 0
IsPlainStep step = IsTrue (is_name step.ledger) × IsTrue (is_name step.asset) × (step.amount < 2 ^ 63)

step_line : (parties : List Party) (step : Step) → AreNamed parties → IsPlainStep step → IsShortLine (spelled_words (step_words parties step))
step_line parties step named plain =
    let from = party_name parties step.from in
    let to = party_name parties step.to in
    let number = decimal step.amount in
    let d = length-append step.asset (32 ∷ number) in
    let c = length-append step.ledger (32 ∷ (step.asset ++ (32 ∷ number))) in
    let b = length-append to (32 ∷ (step.ledger ++ (32 ∷ (step.asset ++ (32 ∷ number))))) in
    let a = length-append from (32 ∷ (to ++ (32 ∷ (step.ledger ++ (32 ∷ (step.asset ++ (32 ∷ number))))))) in
    let digits = length-decimal-le 20 step.amount (omega arith) (omega (arith, plain.2)) (omega (arith, plain.2)) in
    omega (arith, a, b, c, d, digits, short_party_name parties step.from named, short_party_name parties step.to named, short_name step.ledger plain.0, short_name step.asset plain.1)

step_lines : (parties : List Party) (steps : List Step) → AreNamed parties → AllByRecursion IsPlainStep steps → AllByRecursion IsShortLine (map spelled_words (map (step_words parties) steps))
step_lines parties [] named plain = tt
step_lines parties (step ∷ steps) named plain = (step_line parties step named plain.0, step_lines parties steps named plain.1)

party_lines : (parties : List Party) (lines : List (List (List ℕ))) → AreNamed parties → AllByRecursion IsShortLine (map spelled_words lines) → AllByRecursion IsShortLine (map spelled_words (map party_words parties ++ lines))
party_lines [] lines named short = short
party_lines (party ∷ parties) lines named short = (party_line party named.0, party_lines parties lines named.1 short)

-- each amount is at most the total of its asset
plain_steps : (deal : DealTold) → IsDeal deal → AreOnNames deal.steps → AllByRecursion IsPlainStep deal.steps
plain_steps deal kept on = all_of IsPlainStep deal.steps (λ step here.
    let names = each_of (λ (s : Step). IsTrue (is_name s.ledger) × IsTrue (is_name s.asset)) deal.steps on step here in
    let own : is_of step.ledger step.asset step ≡ true = ap (λ (b : Bool). b && bytes_eq step.asset step.asset) (itself step.ledger) ∙ itself step.asset in
    let counts : amount_if (is_of step.ledger step.asset) step ≡ step.amount = ap (λ (b : Bool). cond b step.amount 0) own in
    let part = part_of_sum (amount_if (is_of step.ledger step.asset)) deal.steps step here in
    (names.0, names.1, omega (arith, counts, part, kept.kept.totals step.ledger step.asset)))

module _ (deal : DealTold) (kept : IsDeal deal) (s : HasNames deal) where
  deal_lines : AllByRecursion IsShortLine (map spelled_words (deal_words deal))
  deal_lines =
      let first : IsShortLine (spelled_words (codes "deal" ∷ deal.name ∷ [])) = omega (arith, short_name deal.name s.name) in
      let second : IsShortLine (spelled_words (codes "house" ∷ hex_text deal.house.0 ∷ [])) = omega (arith, hex_len deal.house.0, s.house) in
      (first, (second, party_lines deal.parties (map (step_words deal.parties) deal.steps) s.parties (step_lines deal.parties deal.steps s.parties (plain_steps deal kept s.steps))))

  count_lines : length (map spelled_words (deal_words deal)) ≡ 2 + (length deal.parties + length deal.steps)
  count_lines =
      let all = length-map (deal_words deal) spelled_words in
      let both = length-append (map party_words deal.parties) (map (step_words deal.parties) deal.steps) in
      let parties = length-map deal.parties party_words in
      let steps = length-map deal.steps (step_words deal.parties) in
      omega (arith, all, both, parties, steps)

  pub short_deal : length (deal_text deal) ≤ most_deal_text
  short_deal =
      let flat = lines_len (map spelled_words (deal_words deal)) deal_lines in
      let few = kept.kept.few_parties in
      let few_steps = kept.kept.few_steps in
      omega (arith, flat, count_lines, few, few_steps)
