-- Bytes stand for a value exactly where they spell it.
use Rattle.std.proofs.Common.{◌≡◌, ℕ, ◌+◌, ◌<◌, ◌≤◌, ◌^◌, ◌==◌, ◌&&◌, not, nat_lt, Bool, true, false, if◌then◌else◌, List, [], ◌∷◌, ◌++◌, length, take, drop, Option, Some, None, refl, sym, ap, subst, ◌∙◌, drop-cons, add-one, arith, inl, inr}
use Rattle.std.specs.Prelude.{slice_index}
use Rattle.std.specs.Int.{Width, w32, w64, byte_len, to_be_bytes, from_be_bytes}
use Rattle.std.specs.Option.{option_map, option_and_then}
use Rattle.std.proofs.lemmas.Bool.{and_parts, eqb-true, eq-eqb, ltb-true, lt-ltb, ltb-false, le-ltb, cases_Bool}
use Rattle.std.proofs.lemmas.List.{take_at, drop_at, take-append-drop, take_all, length-append, length-take-le, length-drop, drop-drop, get_or-drop}
use Rattle.dh_base.specs.Fields.{AreBytes}
use Rattle.dh_base.specs.declared.id.Id.{Id}
use Rattle.dh_base.specs.declared.outcome.Outcome.{Outcome}
use Rattle.dh_base.specs.declared.outcome.Outcome.TheVariants.{Commit, Abort}
use Rattle.dh_base.proofs.Fields.{IsWide, wide32, wide64, AreBytes-take, AreBytes-drop}
use Rattle.act_text.specs.StatementTexts.{settled_byte}
use Rattle.ledger_rows.specs.declared.free_amount.FreeAmount.{FreeAmount}
use Rattle.ledger_rows.specs.declared.registration.Registration.{Registration}
use Rattle.ledger_rows.specs.declared.hold.Hold.{Hold}
use Rattle.ledger_rows.specs.declared.move_count.MoveCount.{MoveCount}
use Rattle.ledger_rows.specs.declared.used_key.UsedKey.{UsedKey}
use Rattle.ledger_rows.specs.declared.entry.Entry.{Entry}
use Rattle.ledger_rows.specs.declared.entry.Entry.TheVariants.{Act, Settlement}
use Rattle.ledger_rows.specs.RowValues.{number_from, id_from, settled_in, free_text, free_in, FreeFits, registration_text, registration_in, RegistrationFits, hold_text, hold_in, HoldFits, moves_text, moves_in, MovesFit, used_text, used_in, UsedFits, entry_text, entry_in, act_in, settlement_in, settlement_with, EntryFits, StandsForSpelled}

-- ---- tests

let_in : {T : Type 0} (b : Bool) (x y : T) → (if b then Some x else None) ≡ Some y → (b ≡ true) × (x ≡ y)
let_in true x y e = (refl, cc)
let_in false x y e = absurd cc

let_past : {T : Type 0} (b : Bool) (o : Option T) (y : T) → (if b then None else o) ≡ Some y → (b ≡ false) × (o ≡ Some y)
let_past true o y e = absurd cc
let_past false o y e = (refl, e)

mapped : {A B : Type 0} (f : A → B) (o : Option A) (y : B) → option_map f o ≡ Some y → (x : A) × (o ≡ Some x) × (f x ≡ y)
mapped f None y e = absurd cc
mapped f (Some x) y e = (x, refl, cc)

-- ---- numbers

number_back : (w : Width) → IsWide w → (at : ℕ) (val : List ℕ) → AreBytes val → at + byte_len w ≤ length val → to_be_bytes w (number_from w at val) ≡ take (byte_len w) (drop at val)
number_back w wide at val are long =
    wide.back (take (byte_len w) (drop at val)) (length-take-le (byte_len w) (drop at val) (omega (arith, length-drop at val, long))) (AreBytes-take (byte_len w) (drop at val) (AreBytes-drop at val are))

number_below : (w : Width) → IsWide w → (at : ℕ) (val : List ℕ) → AreBytes val → number_from w at val < 256 ^ byte_len w
number_below w wide at val are = wide.below (take (byte_len w) (drop at val)) (AreBytes-take (byte_len w) (drop at val) (AreBytes-drop at val are))

-- ---- free amounts

free_if : Bool → ℕ → Option FreeAmount
free_if long n = if long && nat_lt 0 n then Some (record { amount = n }) else None

free_spelled : (val : List ℕ) (free : FreeAmount) → AreBytes val → free_in val ≡ Some free → FreeFits free × (val ≡ free_text free)
free_spelled val free are e =
    let n : ℕ = number_from w64 0 val in
    let read = let_in ((length val == 8) && nat_lt 0 n) (record { amount = n }) free e in
    let parts = and_parts (length val == 8) (nat_lt 0 n) read.0 in
    let long : length val ≡ 8 = eqb-true (length val) 8 parts.0 in
    let amount : n ≡ free.amount = ap (λ (f : FreeAmount). f.amount) read.1 in
    let back : to_be_bytes w64 n ≡ val = number_back w64 wide64 0 val are (omega (arith, long)) ∙ take_all 8 val (omega (arith, long)) in
    let some : 0 < n = ltb-true 0 n parts.1 in
    let below : n < 2 ^ 64 = number_below w64 wide64 0 val are in
    ((subst (λ (k : ℕ). 0 < k) amount some, subst (λ (k : ℕ). k < 2 ^ 64) amount below), sym back ∙ ap (to_be_bytes w64) amount)

pub spelled_free : (free : FreeAmount) → FreeFits free → free_in (free_text free) ≡ Some free
unfolding free_if
spelled_free free fits =
    let n : ℕ = free.amount in
    let number : number_from w64 0 (to_be_bytes w64 n) ≡ n = wide64.again n fits.1 in
    ap (free_if true) number ∙ ap (λ (some : Bool). if some then Some free else None) (lt-ltb 0 n fits.0)

pub free_read : StandsForSpelled free_in FreeFits free_text
free_read val free are = (free_spelled val free are, λ s. ap free_in s.1 ∙ spelled_free free s.0)

-- ---- transfers

moves_if : Bool → ℕ → Option MoveCount
moves_if long n = if long && nat_lt 0 n then Some (record { count = n }) else None

moves_spelled : (val : List ℕ) (moves : MoveCount) → AreBytes val → moves_in val ≡ Some moves → MovesFit moves × (val ≡ moves_text moves)
moves_spelled val moves are e =
    let n : ℕ = number_from w32 0 val in
    let read = let_in ((length val == 4) && nat_lt 0 n) (record { count = n }) moves e in
    let parts = and_parts (length val == 4) (nat_lt 0 n) read.0 in
    let long : length val ≡ 4 = eqb-true (length val) 4 parts.0 in
    let count : n ≡ moves.count = ap (λ (m : MoveCount). m.count) read.1 in
    let back : to_be_bytes w32 n ≡ val = number_back w32 wide32 0 val are (omega (arith, long)) ∙ take_all 4 val (omega (arith, long)) in
    let some : 0 < n = ltb-true 0 n parts.1 in
    let below : n < 2 ^ 32 = number_below w32 wide32 0 val are in
    ((subst (λ (k : ℕ). 0 < k) count some, subst (λ (k : ℕ). k < 2 ^ 32) count below), sym back ∙ ap (to_be_bytes w32) count)

pub spelled_moves : (moves : MoveCount) → MovesFit moves → moves_in (moves_text moves) ≡ Some moves
unfolding moves_if
spelled_moves moves fits =
    let n : ℕ = moves.count in
    let number : number_from w32 0 (to_be_bytes w32 n) ≡ n = wide32.again n fits.1 in
    ap (moves_if true) number ∙ ap (λ (some : Bool). if some then Some moves else None) (lt-ltb 0 n fits.0)

pub moves_read : StandsForSpelled moves_in MovesFit moves_text
moves_read val moves are = (moves_spelled val moves are, λ s. ap moves_in s.1 ∙ spelled_moves moves s.0)

-- ---- holds

hold_if : Bool → ℕ → ℕ → Option Hold
hold_if long m n = if long && not ((m == 0) && (n == 0)) then Some (record { commit = m; abort = n }) else None

not_both : (m n : ℕ) → not ((m == 0) && (n == 0)) ≡ true → 0 < m + n
not_both m n e = grind (arith, e)

both_not : (m n : ℕ) → 0 < m + n → not ((m == 0) && (n == 0)) ≡ true
both_not m n some = grind (arith, some)

hold_spelled : (val : List ℕ) (hold : Hold) → AreBytes val → hold_in val ≡ Some hold → HoldFits hold × (val ≡ hold_text hold)
hold_spelled val hold are e =
    let m : ℕ = number_from w64 0 val in
    let n : ℕ = number_from w64 8 val in
    let read = let_in ((length val == 16) && not ((m == 0) && (n == 0))) (record { commit = m; abort = n }) hold e in
    let parts = and_parts (length val == 16) (not ((m == 0) && (n == 0))) read.0 in
    let long : length val ≡ 16 = eqb-true (length val) 16 parts.0 in
    let commit : m ≡ hold.commit = ap (λ (h : Hold). h.commit) read.1 in
    let abort : n ≡ hold.abort = ap (λ (h : Hold). h.abort) read.1 in
    let first : to_be_bytes w64 m ≡ take 8 val = number_back w64 wide64 0 val are (omega (arith, long)) in
    let second : to_be_bytes w64 n ≡ drop 8 val = number_back w64 wide64 8 val are (omega (arith, long)) ∙ take_all 8 (drop 8 val) (omega (arith, long, length-drop 8 val)) in
    let whole : val ≡ to_be_bytes w64 m ++ to_be_bytes w64 n = sym (take-append-drop 8 val) ∙ (λ i. sym first i ++ sym second i) in
    let some : 0 < m + n = not_both m n parts.1 in
    let below_m : m < 2 ^ 64 = number_below w64 wide64 0 val are in
    let below_n : n < 2 ^ 64 = number_below w64 wide64 8 val are in
    ((omega (arith, some, commit, abort), omega (arith, below_m, commit), omega (arith, below_n, abort)), whole ∙ (λ i. to_be_bytes w64 (commit i) ++ to_be_bytes w64 (abort i)))

pub spelled_hold : (hold : Hold) → HoldFits hold → hold_in (hold_text hold) ≡ Some hold
unfolding hold_if
spelled_hold hold fits =
    let m : ℕ = hold.commit in
    let n : ℕ = hold.abort in
    let first : number_from w64 0 (hold_text hold) ≡ m = wide64.again m fits.1 in
    let second : number_from w64 8 (hold_text hold) ≡ n = wide64.again n fits.2 in
    (λ i. hold_if true (first i) (second i)) ∙ ap (λ (some : Bool). if some then Some hold else None) (both_not m n fits.0)

pub hold_read : StandsForSpelled hold_in HoldFits hold_text
hold_read val hold are = (hold_spelled val hold are, λ s. ap hold_in s.1 ∙ spelled_hold hold s.0)

-- ---- keys that have signed

used_if : Bool → ℕ → List ℕ → Option UsedKey
used_if long n digest = if long then Some (record { at = n; message = record { 0 = digest } }) else None

used_spelled : (val : List ℕ) (used : UsedKey) → AreBytes val → used_in val ≡ Some used → UsedFits used × (val ≡ used_text used)
used_spelled val used are e =
    let n : ℕ = number_from w64 0 val in
    let read = let_in (length val == 40) (record { at = n; message = id_from 8 val }) used e in
    let long : length val ≡ 40 = eqb-true (length val) 40 read.0 in
    let at : n ≡ used.at = ap (λ (u : UsedKey). u.at) read.1 in
    let message : take 32 (drop 8 val) ≡ used.message.0 = ap (λ (u : UsedKey). u.message.0) read.1 in
    let first : to_be_bytes w64 n ≡ take 8 val = number_back w64 wide64 0 val are (omega (arith, long)) in
    let second : drop 8 val ≡ used.message.0 = sym (take_all 32 (drop 8 val) (omega (arith, long, length-drop 8 val))) ∙ message in
    let below : n < 2 ^ 64 = number_below w64 wide64 0 val are in
    ((omega (arith, below, at), sym (ap length second) ∙ omega (arith, long, length-drop 8 val)), sym (take-append-drop 8 val) ∙ (λ i. sym first i ++ second i) ∙ ap (λ (k : ℕ). to_be_bytes w64 k ++ used.message.0) at)

pub spelled_used : (used : UsedKey) → UsedFits used → used_in (used_text used) ≡ Some used
unfolding used_if
spelled_used used fits =
    let n : ℕ = used.at in
    let digest : List ℕ = used.message.0 in
    let long : (length (used_text used) == 40) ≡ true = eq-eqb (length (used_text used)) 40 (omega (arith, length-append (to_be_bytes w64 n) digest, fits.1)) in
    let first : number_from w64 0 (used_text used) ≡ n = wide64.again n fits.0 in
    let second : take 32 digest ≡ digest = take_all 32 digest (omega (arith, fits.1)) in
    (λ i. used_if (long i) (first i) (second i))

pub used_read : StandsForSpelled used_in UsedFits used_text
used_read val used are = (used_spelled val used are, λ s. ap used_in s.1 ∙ spelled_used used s.0)

-- ---- how a deal has ended

settled_is : (byte : ℕ) (settled : Option Outcome) → settled_in byte ≡ Some settled → byte ≡ settled_byte settled
settled_is byte settled e = elim (cases_Bool (byte == 0)) [
  | inl is ↦ zero_is byte settled (eqb-true byte 0 is) e
  | inr not_0 ↦ elim (cases_Bool (byte == 1)) [
    | inl is ↦ one_is byte settled (eqb-true byte 1 is) e
    | inr not_1 ↦ elim (cases_Bool (byte == 2)) [
      | inl is ↦ two_is byte settled (eqb-true byte 2 is) e
      | inr not_2 ↦ absurd (let h = rw (not_0, not_1, not_2) at e in cc)
    ]
  ]
]
  where
    zero_is : (byte : ℕ) (settled : Option Outcome) → byte ≡ 0 → settled_in byte ≡ Some settled → byte ≡ settled_byte settled
    zero_is byte settled is e = subst (λ (n : ℕ). settled_in n ≡ Some settled → n ≡ settled_byte settled) (sym is) (λ h. ap (λ (o : Option Outcome). settled_byte o) (let k : None ≡ settled = cc in k)) e

    one_is : (byte : ℕ) (settled : Option Outcome) → byte ≡ 1 → settled_in byte ≡ Some settled → byte ≡ settled_byte settled
    one_is byte settled is e = subst (λ (n : ℕ). settled_in n ≡ Some settled → n ≡ settled_byte settled) (sym is) (λ h. ap (λ (o : Option Outcome). settled_byte o) (let k : Some Commit ≡ settled = cc in k)) e

    two_is : (byte : ℕ) (settled : Option Outcome) → byte ≡ 2 → settled_in byte ≡ Some settled → byte ≡ settled_byte settled
    two_is byte settled is e = subst (λ (n : ℕ). settled_in n ≡ Some settled → n ≡ settled_byte settled) (sym is) (λ h. ap (λ (o : Option Outcome). settled_byte o) (let k : Some Abort ≡ settled = cc in k)) e

pub is_settled : (settled : Option Outcome) → settled_in (settled_byte settled) ≡ Some settled
is_settled None = refl
is_settled (Some Commit) = refl
is_settled (Some Abort) = refl

-- a byte between a front and the rest
pub record Parts (val front : List ℕ) (byte : ℕ) (rest : List ℕ) (n : ℕ) : Type 0 where
  pub first : take n val ≡ front
  pub here : slice_index val n ≡ byte
  pub behind : drop (n + 1) val ≡ rest

pub parts_of : (front : List ℕ) (byte : ℕ) (rest : List ℕ) (n : ℕ) → length front ≡ n → Parts (front ++ byte ∷ rest) front byte rest n
parts_of front byte rest n long =
    let val : List ℕ = front ++ byte ∷ rest in
    let there : drop n val ≡ byte ∷ rest = drop_at front (byte ∷ rest) n long in
    let none_more : n + 0 ≡ n = omega arith in
    record {
      first = take_at front (byte ∷ rest) n long;
      here = subst (λ (k : ℕ). slice_index val k ≡ byte) none_more (sym (get_or-drop n val 0 0) ∙ ap (λ (t : List ℕ). slice_index t 0) there);
      behind = sym (drop-drop 1 n val) ∙ ap (drop 1) there;
    }

joined : (val : List ℕ) (n : ℕ) → n < length val → val ≡ take n val ++ slice_index val n ∷ drop (n + 1) val
joined val n within =
    let there : drop n val ≡ slice_index val n ∷ drop (n + 1) val = rw (add-one n) (drop-cons val n 0 within) in
    sym (take-append-drop n val) ∙ ap (λ (t : List ℕ). take n val ++ t) there

-- ---- deals

abbrev with_settled : List ℕ → Option Outcome → Registration
with_settled val settled = record { registrant = id_from 0 val; settled = settled; text = drop 33 val }

registration_spelled : (val : List ℕ) (deal : Registration) → registration_in val ≡ Some deal → RegistrationFits deal × (val ≡ registration_text deal)
registration_spelled val deal e =
    let read = let_past (nat_lt (length val) 33) (option_map (with_settled val) (settled_in (slice_index val 32))) deal e in
    let long : 33 ≤ length val = ltb-false (length val) 33 read.0 in
    let some = mapped (with_settled val) (settled_in (slice_index val 32)) deal read.1 in
    let registrant : take 32 val ≡ deal.registrant.0 = ap (λ (r : Registration). r.registrant.0) some.2 in
    let settled : some.0 ≡ deal.settled = ap (λ (r : Registration). r.settled) some.2 in
    let text : drop 33 val ≡ deal.text = ap (λ (r : Registration). r.text) some.2 in
    let byte : slice_index val 32 ≡ settled_byte deal.settled = settled_is (slice_index val 32) some.0 some.1 ∙ ap (λ (o : Option Outcome). settled_byte o) settled in
    (sym (ap length registrant) ∙ length-take-le 32 val (omega (arith, long)), joined val 32 (omega (arith, long)) ∙ (λ i. registrant i ++ byte i ∷ text i))

registration_if : Bool → List ℕ → Option (Option Outcome) → List ℕ → Option Registration
registration_if short registrant settled text = if short then None else option_map (λ s. record { registrant = record { 0 = registrant }; settled = s; text = text }) settled

pub spelled_registration : (deal : Registration) → RegistrationFits deal → registration_in (registration_text deal) ≡ Some deal
unfolding registration_if
spelled_registration deal fits =
    let val : List ℕ = registration_text deal in
    let parts = parts_of deal.registrant.0 (settled_byte deal.settled) deal.text 32 fits in
    let long : nat_lt (length val) 33 ≡ false = le-ltb (length val) 33 (omega (arith, length-append deal.registrant.0 (settled_byte deal.settled ∷ deal.text), fits)) in
    let settled : settled_in (slice_index val 32) ≡ Some deal.settled = ap settled_in parts.here ∙ is_settled deal.settled in
    (λ i. registration_if (long i) (parts.first i) (settled i) (parts.behind i))

pub registration_read : StandsForSpelled registration_in RegistrationFits registration_text
registration_read val deal are = (registration_spelled val deal, λ s. ap registration_in s.1 ∙ spelled_registration deal s.0)

-- ---- entries

act_spelled : (val : List ℕ) (entry : Entry) → AreBytes val → slice_index val 0 ≡ 1 → act_in val ≡ Some entry → EntryFits entry × (val ≡ entry_text entry)
act_spelled val entry are kind e =
    let account : Id = id_from 1 val in
    let q : ℕ = number_from w32 33 val in
    let read = let_past (nat_lt (length val) 37) (Some (Act account q (drop 37 val))) entry e in
    let long : 37 ≤ length val = ltb-false (length val) 37 read.0 in
    let is : Act account q (drop 37 val) ≡ entry = (let h = read.1 in cc) in
    let fits : EntryFits (Act account q (drop 37 val)) = (length-take-le 32 (drop 1 val) (omega (arith, long, length-drop 1 val)), number_below w32 wide32 33 val are) in
    let first : val ≡ 1 ∷ drop 1 val = joined val 0 (omega (arith, long)) ∙ ap (λ (n : ℕ). n ∷ drop 1 val) kind in
    let second : drop 1 val ≡ account.0 ++ drop 33 val = sym (take-append-drop 32 (drop 1 val)) ∙ ap (λ (t : List ℕ). account.0 ++ t) (drop-drop 32 1 val) in
    let third : drop 33 val ≡ to_be_bytes w32 q ++ drop 37 val =
    sym (take-append-drop 4 (drop 33 val)) ∙ (λ i. sym (number_back w32 wide32 33 val are (omega (arith, long))) i ++ drop-drop 4 33 val i) in
    let whole : val ≡ entry_text (Act account q (drop 37 val)) = first ∙ ap (λ (t : List ℕ). 1 ∷ t) (second ∙ ap (λ (t : List ℕ). account.0 ++ t) third) in
    subst (λ (x : Entry). EntryFits x × (val ≡ entry_text x)) is (fits, whole)

settlement_spelled : (val : List ℕ) (entry : Entry) → slice_index val 0 ≡ 2 → settlement_in val ≡ Some entry → EntryFits entry × (val ≡ entry_text entry)
settlement_spelled val entry kind e =
    let deal : Id = id_from 1 val in
    let read = let_past (not (length val == 34)) (option_and_then (settlement_with deal) (settled_in (slice_index val 33))) entry e in
    let long : length val ≡ 34 = eqb-true (length val) 34 (not_false (length val == 34) read.0) in
    let some = ended (settled_in (slice_index val 33)) read.1 in
    let is : Settlement deal some.0 ≡ entry = some.2 in
    let byte : slice_index val 33 ≡ settled_byte (Some some.0) = settled_is (slice_index val 33) (Some some.0) some.1 in
    let fits : EntryFits (Settlement deal some.0) = length-take-le 32 (drop 1 val) (omega (arith, long, length-drop 1 val)) in
    let first : val ≡ 2 ∷ drop 1 val = joined val 0 (omega (arith, long)) ∙ ap (λ (n : ℕ). n ∷ drop 1 val) kind in
    let last : drop 33 val ≡ settled_byte (Some some.0) ∷ [] =
    (let there : drop 33 val ≡ slice_index val 33 ∷ drop 34 val = drop-cons val 33 0 (omega (arith, long)) in
    there ∙ (λ i. byte i ∷ nothing_left val long i)) in
    let second : drop 1 val ≡ deal.0 ++ drop 33 val = sym (take-append-drop 32 (drop 1 val)) ∙ ap (λ (t : List ℕ). deal.0 ++ t) (drop-drop 32 1 val) in
    let whole : val ≡ entry_text (Settlement deal some.0) = first ∙ ap (λ (t : List ℕ). 2 ∷ t) (second ∙ ap (λ (t : List ℕ). deal.0 ++ t) last) in
    subst (λ (x : Entry). EntryFits x × (val ≡ entry_text x)) is (fits, whole)
  where
    not_false : (b : Bool) → not b ≡ false → b ≡ true
    not_false true e = refl
    not_false false e = absurd cc

    nothing_left : (val : List ℕ) → length val ≡ 34 → drop 34 val ≡ []
    nothing_left val long = no_length (drop 34 val) (omega (arith, length-drop 34 val, long))
      where
        no_length : (t : List ℕ) → length t ≡ 0 → t ≡ []
        no_length [] e = refl
        no_length (x ∷ t) e = absurd (omega arith)

    ended : (o : Option (Option Outcome)) → option_and_then (settlement_with (id_from 1 val)) o ≡ Some entry → (outcome : Outcome) × (o ≡ Some (Some outcome)) × (Settlement (id_from 1 val) outcome ≡ entry)
    ended None e = absurd cc
    ended (Some None) e = absurd cc
    ended (Some (Some outcome)) e = (outcome, refl, cc)

entry_spelled : (val : List ℕ) (entry : Entry) → AreBytes val → entry_in val ≡ Some entry → EntryFits entry × (val ≡ entry_text entry)
entry_spelled val entry are e = elim (cases_Bool (slice_index val 0 == 1)) [
  | inl is ↦ act_spelled val entry are (eqb-true (slice_index val 0) 1 is) (rw is at e)
  | inr not_act ↦ elim (cases_Bool (slice_index val 0 == 2)) [
    | inl is ↦ settlement_spelled val entry (eqb-true (slice_index val 0) 2 is) (rw (not_act, is) at e)
    | inr not_end ↦ absurd (let h = rw (not_act, not_end) at e in cc)
  ]
]

act_if : Bool → List ℕ → ℕ → List ℕ → Option Entry
act_if short account q message = if short then None else Some (Act (record { 0 = account }) q message)

settlement_if : Bool → List ℕ → Option (Option Outcome) → Option Entry
settlement_if long deal settled = if not long then None else option_and_then (settlement_with (record { 0 = deal })) settled

pub spelled_entry : (entry : Entry) → EntryFits entry → entry_in (entry_text entry) ≡ Some entry
unfolding act_if settlement_if
spelled_entry (Act account q message) fits =
    let number : List ℕ = to_be_bytes w32 q in
    let rest : List ℕ = account.0 ++ (number ++ message) in
    let long : nat_lt (length (1 ∷ rest)) 37 ≡ false = le-ltb (length (1 ∷ rest)) 37 (omega (arith, length-append account.0 (number ++ message), length-append number message, fits.0)) in
    let first : take 32 rest ≡ account.0 = take_at account.0 (number ++ message) 32 fits.0 in
    let behind : drop 32 rest ≡ number ++ message = drop_at account.0 (number ++ message) 32 fits.0 in
    let second : from_be_bytes w32 (take 4 (drop 32 rest)) ≡ q = ap (λ (t : List ℕ). from_be_bytes w32 (take 4 t)) behind ∙ wide32.again q fits.1 in
    let third : drop 36 rest ≡ message = sym (drop-drop 4 32 rest) ∙ ap (drop 4) behind in
    (λ i. act_if (long i) (first i) (second i) (third i))
spelled_entry (Settlement deal outcome) fits =
    let byte : ℕ = settled_byte (Some outcome) in
    let rest : List ℕ = deal.0 ++ byte ∷ [] in
    let parts = parts_of deal.0 byte [] 32 fits in
    let long : (length (2 ∷ rest) == 34) ≡ true = eq-eqb (length (2 ∷ rest)) 34 (omega (arith, length-append deal.0 (byte ∷ []), fits)) in
    let settled : settled_in (slice_index rest 32) ≡ Some (Some outcome) = ap settled_in parts.here ∙ is_settled (Some outcome) in
    (λ i. settlement_if (long i) (parts.first i) (settled i))

pub entry_read : StandsForSpelled entry_in EntryFits entry_text
entry_read val entry are = (entry_spelled val entry are, λ s. ap entry_in s.1 ∙ spelled_entry entry s.0)
