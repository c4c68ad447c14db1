-- A key is read as what it is spelled from, and as nothing else.
use Rattle.std.proofs.Common.{◌≡◌, ℕ, ◌<◌, ◌≤◌, ◌^◌, ◌&&◌, Bool, true, false, List, length, take, drop, sym, ap, subst, ◌∙◌, arith, IsTrue}
use Rattle.std.specs.Int.{w32, to_be_bytes, from_be_bytes}
use Rattle.std.specs.Str.{bytes_eq}
use Rattle.std.proofs.lemmas.Bool.{and_parts}
use Rattle.std.proofs.lemmas.List.{take_at, drop_at, take-append-drop, length-append, length-take, length-take-le, length-drop}
use Rattle.std.proofs.lemmas.Slice.Eq.{bytes_eq-Decides}
use Rattle.dh_base.specs.declared.id.Id.{Id}
use Rattle.dh_base.specs.Names.{is_name}
use Rattle.dh_base.specs.Fields.{name_field}
use Rattle.dh_base.proofs.Fields.{wide32, AreBytes-drop}
use Rattle.ledger_rows.specs.RowKeys.{free_key, hold_key, moves_key, used_key, first_id, behind_id, last_id, asset_in, number_in, is_free_key, is_hold_key, is_used_key, FreeKeysRead, HoldKeysRead, MovesKeysRead, UsedKeysRead}
use Rattle.ledger_rows.proofs.ValuesSpelled.{parts_of}

abbrev id_of : List ℕ → Id
id_of bytes = record { 0 = bytes }

both : (x y : Bool) → x ≡ true → y ≡ true → (x && y) ≡ true
both true y e f = f
both false y e f = absurd cc

-- ---- an account and an asset

pub free_key_is : (key : List ℕ) → is_free_key key ≡ true → key ≡ free_key (first_id key) (asset_in key)
free_key_is key is = (bytes_eq-Decides key (free_key (first_id key) (asset_in key))).0 (and_parts (is_name (asset_in key)) (bytes_eq key (free_key (first_id key) (asset_in key))) is).1

pub is_name_in : (key : List ℕ) → is_free_key key ≡ true → is_name (asset_in key) ≡ true
is_name_in key is = (and_parts (is_name (asset_in key)) (bytes_eq key (free_key (first_id key) (asset_in key))) is).0

-- what spells an account and an asset is long enough for the account
long_enough : (key : List ℕ) → key ≡ free_key (first_id key) (asset_in key) → length (take 32 key) ≡ 32
long_enough key is = omega (arith, ap length is, length-append (take 32 key) (name_field (drop 33 key)), length-take 32 key, length-drop 33 key)

pub record FreeParts (key : List ℕ) (account : Id) (asset : List ℕ) : Type 0 where
  pub good : is_free_key key ≡ true
  pub account_is : first_id key ≡ account
  pub asset_is : asset_in key ≡ asset

pub free_parts : (account : Id) (asset : List ℕ) → length account.0 ≡ 32 → is_name asset ≡ true → FreeParts (free_key account asset) account asset
free_parts account asset wide named =
    let key : List ℕ = free_key account asset in
    let parts = parts_of account.0 (length asset) asset 32 wide in
    let account_is : first_id key ≡ account = ap id_of parts.first in
    let asset_is : asset_in key ≡ asset = parts.behind in
    let again : key ≡ free_key (first_id key) (asset_in key) = (λ i. free_key (sym account_is i) (sym asset_is i)) in
    record {
      good = both (is_name (asset_in key)) (bytes_eq key (free_key (first_id key) (asset_in key))) (ap is_name asset_is ∙ named) ((bytes_eq-Decides key (free_key (first_id key) (asset_in key))).1 again);
      account_is = account_is;
      asset_is = asset_is;
    }

pub free_keys_read : FreeKeysRead
free_keys_read key account asset = (
  λ s.
      let is = free_key_is key s.0 in
      (sym (ap (λ (p : Id). length p.0) s.1) ∙ long_enough key is, ap is_name (sym s.2) ∙ is_name_in key s.0, is ∙ (λ i. free_key (s.1 i) (s.2 i))),
  λ s.
      let parts = free_parts account asset s.0 s.1 in
      subst (λ (k : List ℕ). IsTrue (is_free_key k) × (first_id k ≡ account) × (asset_in k ≡ asset)) (sym s.2) (parts.good, parts.account_is, parts.asset_is),
)

-- ---- a deal, an account and an asset

abbrev spelled_hold : List ℕ → List ℕ
spelled_hold key = hold_key (first_id key) (first_id (behind_id key)) (asset_in (behind_id key))

pub hold_key_is : (key : List ℕ) → is_hold_key key ≡ true → key ≡ spelled_hold key
hold_key_is key is = (bytes_eq-Decides key (spelled_hold key)).0 (and_parts (is_name (asset_in (behind_id key))) (bytes_eq key (spelled_hold key)) is).1

pub is_name_in_hold : (key : List ℕ) → is_hold_key key ≡ true → is_name (asset_in (behind_id key)) ≡ true
is_name_in_hold key is = (and_parts (is_name (asset_in (behind_id key))) (bytes_eq key (spelled_hold key)) is).0

hold_long : (key : List ℕ) → key ≡ spelled_hold key → (length (take 32 key) ≡ 32) × (length (take 32 (drop 32 key)) ≡ 32)
hold_long key is =
    let whole = ap length is in
    let first = length-append (take 32 key) (free_key (first_id (behind_id key)) (asset_in (behind_id key))) in
    let second = length-append (take 32 (drop 32 key)) (name_field (drop 33 (drop 32 key))) in (
      omega (arith, whole, first, second, length-take 32 key, length-take 32 (drop 32 key), length-drop 32 key, length-drop 33 (drop 32 key)),
      omega (arith, whole, first, second, length-take 32 key, length-take 32 (drop 32 key), length-drop 32 key, length-drop 33 (drop 32 key)),
    )

pub record HoldParts (key : List ℕ) (deal account : Id) (asset : List ℕ) : Type 0 where
  pub good : is_hold_key key ≡ true
  pub deal_is : first_id key ≡ deal
  pub account_is : first_id (behind_id key) ≡ account
  pub asset_is : asset_in (behind_id key) ≡ asset

pub hold_parts : (deal account : Id) (asset : List ℕ) → length deal.0 ≡ 32 → length account.0 ≡ 32 → is_name asset ≡ true → HoldParts (hold_key deal account asset) deal account asset
hold_parts deal account asset wide wide' named =
    let key : List ℕ = hold_key deal account asset in
    let deal_is : first_id key ≡ deal = ap id_of (take_at deal.0 (free_key account asset) 32 wide) in
    let behind : behind_id key ≡ free_key account asset = drop_at deal.0 (free_key account asset) 32 wide in
    let parts = free_parts account asset wide' named in
    let account_is : first_id (behind_id key) ≡ account = ap first_id behind ∙ parts.account_is in
    let asset_is : asset_in (behind_id key) ≡ asset = ap asset_in behind ∙ parts.asset_is in
    let again : key ≡ spelled_hold key = (λ i. hold_key (sym deal_is i) (sym account_is i) (sym asset_is i)) in
    record {
      good = both (is_name (asset_in (behind_id key))) (bytes_eq key (spelled_hold key)) (ap is_name asset_is ∙ named) ((bytes_eq-Decides key (spelled_hold key)).1 again);
      deal_is = deal_is;
      account_is = account_is;
      asset_is = asset_is;
    }

pub hold_keys_read : HoldKeysRead
hold_keys_read key deal account asset = (
  λ s.
      let is = hold_key_is key s.0 in
      let long = hold_long key is in (
        sym (ap (λ (p : Id). length p.0) s.1) ∙ long.0,
        sym (ap (λ (p : Id). length p.0) s.2) ∙ long.1,
        ap is_name (sym s.3) ∙ is_name_in_hold key s.0,
        is ∙ (λ i. hold_key (s.1 i) (s.2 i) (s.3 i)),
      ),
  λ s.
      let parts = hold_parts deal account asset s.0 s.1 s.2 in
      subst (λ (k : List ℕ). IsTrue (is_hold_key k) × (first_id k ≡ deal) × (first_id (behind_id k) ≡ account) × (asset_in (behind_id k) ≡ asset)) (sym s.3) (parts.good, parts.deal_is, parts.account_is, parts.asset_is),
)

-- ---- a deal and an account

pub moves_keys_read : MovesKeysRead
moves_keys_read key deal account = (
  λ s. (
    sym (ap (λ (p : Id). length p.0) s.1) ∙ length-take-le 32 key s.0,
    sym (take-append-drop 32 key) ∙ (λ i. moves_key (s.1 i) (s.2 i)),
  ),
  λ s.
      let first : take 32 (moves_key deal account) ≡ deal.0 = take_at deal.0 account.0 32 s.0 in
      let behind : drop 32 (moves_key deal account) ≡ account.0 = drop_at deal.0 account.0 32 s.0 in
      let long : 32 ≤ length (moves_key deal account) = omega (arith, length-append deal.0 account.0, s.0) in
      subst (λ (k : List ℕ). (32 ≤ length k) × (first_id k ≡ deal) × (last_id k ≡ account)) (sym s.1) (long, ap id_of first, ap id_of behind),
)

-- ---- an account and the number of a key

pub used_key_is : (key : List ℕ) → is_used_key key ≡ true → key ≡ used_key (first_id key) (number_in key)
used_key_is key is = (bytes_eq-Decides key (used_key (first_id key) (number_in key))).0 is

pub record UsedParts (key : List ℕ) (account : Id) (q : ℕ) : Type 0 where
  pub good : is_used_key key ≡ true
  pub account_is : first_id key ≡ account
  pub number_is : number_in key ≡ q

pub used_parts : (account : Id) (q : ℕ) → length account.0 ≡ 32 → q < 2 ^ 32 → UsedParts (used_key account q) account q
used_parts account q wide small =
    let key : List ℕ = used_key account q in
    let account_is : first_id key ≡ account = ap id_of (take_at account.0 (to_be_bytes w32 q) 32 wide) in
    let number_is : number_in key ≡ q = ap (from_be_bytes w32) (drop_at account.0 (to_be_bytes w32 q) 32 wide) ∙ wide32.again q small in
    let again : key ≡ used_key (first_id key) (number_in key) = (λ i. used_key (sym account_is i) (sym number_is i)) in
    record { good = (bytes_eq-Decides key (used_key (first_id key) (number_in key))).1 again; account_is = account_is; number_is = number_is }

pub used_keys_read : UsedKeysRead
used_keys_read key account q are = (
  λ s.
      let is = used_key_is key s.0 in
      let long : length (take 32 key) ≡ 32 = omega (arith, ap length is, length-append (take 32 key) (to_be_bytes w32 (number_in key)), length-take 32 key) in
      let small : number_in key < 2 ^ 32 = wide32.below (drop 32 key) (AreBytes-drop 32 key are) in
      (sym (ap (λ (p : Id). length p.0) s.1) ∙ long, subst (λ (n : ℕ). n < 2 ^ 32) s.2 small, is ∙ (λ i. used_key (s.1 i) (s.2 i))),
  λ s.
      let parts = used_parts account q s.0 s.1 in
      subst (λ (k : List ℕ). IsTrue (is_used_key k) × (first_id k ≡ account) × (number_in k ≡ q)) (sym s.2) (parts.good, parts.account_is, parts.number_is),
)
