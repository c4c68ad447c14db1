-- The rows of a history at keys that a change doesn't touch, and at those of its own.
use Rattle.std.proofs.Common.{◌≡◌, ℕ, ◌+◌, ◌<◌, ◌^◌, ◌==◌, ◌&&◌, Bool, true, false, if◌then◌else◌, List, [], ◌∷◌, ◌++◌, map, length, Option, Some, None, refl, sym, ap, subst, ◌∙◌, arith, inl, inr}
use Rattle.std.specs.Int.{w64, to_be_bytes}
use Rattle.std.specs.Str.{bytes_eq}
use Rattle.std.specs.Option.{option_map, option_or}
use Rattle.std.specs.FinMap.{insert}
use Rattle.std.proofs.lemmas.Bool.{cases_Bool, and_parts, eqb-true}
use Rattle.std.proofs.lemmas.List.{map-append, length-map, take_at, drop_at, take-append-drop}
use Rattle.std.proofs.lemmas.Slice.Eq.{bytes_eq-Decides}
use Rattle.dh_base.specs.declared.id.Id.{Id}
use Rattle.dh_base.specs.Ids.{same_id}
use Rattle.dh_base.specs.Names.{is_name}
use Rattle.dh_base.proofs.SameIds.{id_from_same, same_id-self}
use Rattle.escrow_book.specs.History.{History, free_of, if_commit_of, if_abort_of, moves_of, settlement_of}
use Rattle.escrow_book.proofs.Lookups.{or_none, or_assoc}
use Rattle.keeper_core.specs.Tables.{Tables}
use Rattle.keeper_core.specs.NumberedRows.{IsNumbered}
use Rattle.keeper_core.proofs.Batched.{at_itself}
use Rattle.keeper_core.proofs.NumberedOn.{numbers_on}
use Rattle.ledger_rows.specs.declared.entry.Entry.{Entry}
use Rattle.ledger_rows.specs.declared.entry.Entry.TheVariants.{Act}
use Rattle.ledger_rows.specs.declared.used_key.UsedKey.{UsedKey}
use Rattle.ledger_rows.specs.declared.hold.Hold.{Hold}
use Rattle.ledger_rows.specs.RowKeys.{free_tab, hold_tab, moves_tab, used_tab, entry_tab, free_key, hold_key, moves_key, used_key, entry_key, first_id, behind_id, last_id, asset_in, number_in, is_free_key, is_hold_key, is_used_key}
use Rattle.ledger_rows.specs.RowValues.{registration_text, used_text, entry_text}
use Rattle.ledger_rows.specs.Entries.{digest_of, registered_by, registration_of, signed_by, used_from, used_of}
use Rattle.ledger_rows.specs.LedgerTables.{free_value, free_row, hold_of, hold_value, hold_row, moves_value, moves_row, deal_row, used_row}
use Rattle.ledger_rows.proofs.Cells.{same_cell}
use Rattle.ledger_rows.proofs.KeysSpelled.{free_key_is, free_parts, hold_key_is, hold_parts, used_key_is, used_parts}

-- ---- free amounts

-- at the key of an account and an asset stands their amount
pub free_row_is : (h : History) (p : Id) (x : List ℕ) → length p.0 ≡ 32 → is_name x ≡ true → free_row h (free_key p x) ≡ free_value (free_of h p x)
free_row_is h p x wide named =
    let parts = free_parts p x wide named in
    rw parts.good (λ i. free_value (free_of h (parts.account_is i) (parts.asset_is i)))

pub kept_free : (h later : History) (key : List ℕ) → (is_free_key key ≡ true → free_of later (first_id key) (asset_in key) ≡ free_of h (first_id key) (asset_in key)) → free_row later key ≡ free_row h key
kept_free h later key same = go (is_free_key key) same
  where
    go : (good : Bool) → (good ≡ true → free_of later (first_id key) (asset_in key) ≡ free_of h (first_id key) (asset_in key)) →
        (if good then free_value (free_of later (first_id key) (asset_in key)) else None) ≡ (if good then free_value (free_of h (first_id key) (asset_in key)) else None)
    go true same = ap (λ (n : ℕ). free_value n) (same refl)
    go false same = refl

-- another key is another account or another asset
pub apart : (key : List ℕ) (q : Id) (x : List ℕ) → is_free_key key ≡ true → same_cell (free_tab, key) (free_tab, free_key q x) ≡ false → (same_id (first_id key) q && bytes_eq (asset_in key) x) ≡ false
apart key q x good other = elim (cases_Bool (same_id (first_id key) q && bytes_eq (asset_in key) x)) [
  | inr e ↦ e
  | inl both ↦
      let parts = and_parts (same_id (first_id key) q) (bytes_eq (asset_in key) x) both in
      let account = id_from_same (first_id key) q parts.0 in
      let asset = (bytes_eq-Decides (asset_in key) x).0 parts.1 in
      let is : key ≡ free_key q x = free_key_is key good ∙ (λ i. free_key (account i) (asset i)) in
      let there : same_cell (free_tab, key) (free_tab, free_key q x) ≡ true = ap (λ (k : List ℕ). same_cell (free_tab, key) (free_tab, k)) (sym is) ∙ at_itself (free_tab, key) in
      absurd cc
]

-- ---- holds

-- at the key of a deal, a party and an asset stand their amounts
pub hold_row_is : (h : History) (d p : Id) (x : List ℕ) → length d.0 ≡ 32 → length p.0 ≡ 32 → is_name x ≡ true → hold_row h (hold_key d p x) ≡ hold_value (hold_of h d p x)
hold_row_is h d p x wide wide' named =
    let parts = hold_parts d p x wide wide' named in
    rw parts.good (λ i. hold_value (hold_of h (parts.deal_is i) (parts.account_is i) (parts.asset_is i)))

pub kept_hold_at : (h later : History) (key : List ℕ) → (is_hold_key key ≡ true → hold_of later (first_id key) (first_id (behind_id key)) (asset_in (behind_id key)) ≡ hold_of h (first_id key) (first_id (behind_id key)) (asset_in (behind_id key))) → hold_row later key ≡ hold_row h key
kept_hold_at h later key same = go (is_hold_key key) same
  where
    go : (good : Bool) → (good ≡ true → hold_of later (first_id key) (first_id (behind_id key)) (asset_in (behind_id key)) ≡ hold_of h (first_id key) (first_id (behind_id key)) (asset_in (behind_id key))) →
        (if good then hold_value (hold_of later (first_id key) (first_id (behind_id key)) (asset_in (behind_id key))) else None) ≡ (if good then hold_value (hold_of h (first_id key) (first_id (behind_id key)) (asset_in (behind_id key))) else None)
    go true same = ap (λ (hold : Hold). hold_value hold) (same refl)
    go false same = refl

-- another key is another deal, another party or another asset
pub apart_hold : (key : List ℕ) (d p : Id) (x : List ℕ) → is_hold_key key ≡ true → same_cell (hold_tab, key) (hold_tab, hold_key d p x) ≡ false →
    (same_id (first_id key) d && (same_id (first_id (behind_id key)) p && bytes_eq (asset_in (behind_id key)) x)) ≡ false
apart_hold key d p x good other = elim (cases_Bool (same_id (first_id key) d && (same_id (first_id (behind_id key)) p && bytes_eq (asset_in (behind_id key)) x))) [
  | inr e ↦ e
  | inl all ↦
      let first = and_parts (same_id (first_id key) d) (same_id (first_id (behind_id key)) p && bytes_eq (asset_in (behind_id key)) x) all in
      let second = and_parts (same_id (first_id (behind_id key)) p) (bytes_eq (asset_in (behind_id key)) x) first.1 in
      let deal = id_from_same (first_id key) d first.0 in
      let account = id_from_same (first_id (behind_id key)) p second.0 in
      let asset = (bytes_eq-Decides (asset_in (behind_id key)) x).0 second.1 in
      let is : key ≡ hold_key d p x = hold_key_is key good ∙ (λ i. hold_key (deal i) (account i) (asset i)) in
      let there : same_cell (hold_tab, key) (hold_tab, hold_key d p x) ≡ true = ap (λ (k : List ℕ). same_cell (hold_tab, key) (hold_tab, k)) (sym is) ∙ at_itself (hold_tab, key) in
      absurd cc
]

-- ---- holds, transfers and deals that stay

pub kept_hold : (h later : History) (key : List ℕ) →
    ((d p : Id) (x : List ℕ) → (if_commit_of later d p x ≡ if_commit_of h d p x) × (if_abort_of later d p x ≡ if_abort_of h d p x)) → hold_row later key ≡ hold_row h key
kept_hold h later key same =
    let both = same (first_id key) (first_id (behind_id key)) (asset_in (behind_id key)) in
    λ i. if is_hold_key key then hold_value (record { commit = both.0 i; abort = both.1 i }) else None

pub kept_moves : (h later : History) (key : List ℕ) → ((d p : Id) → moves_of later d p ≡ moves_of h d p) → moves_row later key ≡ moves_row h key
kept_moves h later key same = ap (λ (n : ℕ). moves_value n) (same (first_id key) (last_id key))

-- at the key of a deal and a party stands the number of its transfers
pub moves_row_is : (h : History) (d p : Id) → length d.0 ≡ 32 → moves_row h (moves_key d p) ≡ moves_value (moves_of h d p)
moves_row_is h d p wide =
    let deal : first_id (moves_key d p) ≡ d = ap (λ (t : List ℕ). record { 0 = t }) (take_at d.0 p.0 32 wide) in
    let account : last_id (moves_key d p) ≡ p = ap (λ (t : List ℕ). record { 0 = t }) (drop_at d.0 p.0 32 wide) in
    (λ i. moves_value (moves_of h (deal i) (account i)))

-- another key is another deal or another party
pub apart_moves : (key : List ℕ) (d p : Id) → same_cell (moves_tab, key) (moves_tab, moves_key d p) ≡ false → (same_id (first_id key) d && same_id (last_id key) p) ≡ false
apart_moves key d p other = elim (cases_Bool (same_id (first_id key) d && same_id (last_id key) p)) [
  | inr e ↦ e
  | inl both ↦
      let parts = and_parts (same_id (first_id key) d) (same_id (last_id key) p) both in
      let deal = id_from_same (first_id key) d parts.0 in
      let account = id_from_same (last_id key) p parts.1 in
      let is : key ≡ moves_key d p = sym (take-append-drop 32 key) ∙ (λ i. moves_key (deal i) (account i)) in
      let there : same_cell (moves_tab, key) (moves_tab, moves_key d p) ≡ true = ap (λ (k : List ℕ). same_cell (moves_tab, key) (moves_tab, k)) (sym is) ∙ at_itself (moves_tab, key) in
      absurd cc
]

pub registrations_more : (entries : List Entry) (e : Entry) (d : Id) → registration_of (entries ++ e ∷ []) d ≡ option_or (registration_of entries d) (registered_by d e)
registrations_more [] e d = or_none (registered_by d e)
registrations_more (first ∷ entries) e d =
    ap (λ (o : Option (Id × List ℕ)). option_or (registered_by d first) o) (registrations_more entries e d) ∙ or_assoc (registered_by d first) (registration_of entries d) (registered_by d e)

registrations_stay : (entries : List Entry) (e : Entry) (d : Id) → registered_by d e ≡ None → registration_of (entries ++ e ∷ []) d ≡ registration_of entries d
registrations_stay entries e d none = registrations_more entries e d ∙ ap (λ (o : Option (Id × List ℕ)). option_or (registration_of entries d) o) none ∙ or_none (registration_of entries d)

-- an entry that registers and settles no deal of that key leaves its row
pub kept_deal : (h later : History) (entries : List Entry) (e : Entry) (key : List ℕ) → registered_by (record { 0 = key }) e ≡ None → settlement_of later (record { 0 = key }) ≡ settlement_of h (record { 0 = key }) → deal_row later (entries ++ e ∷ []) key ≡ deal_row h entries key
kept_deal h later entries e key none same =
    λ i. option_map (λ by. registration_text (record { registrant = by.0; settled = same i; text = by.1 })) (registrations_stay entries e (record { 0 = key }) none i)

-- ---- keys that have signed

abbrev pub used_with : ℕ → List ℕ → UsedKey
used_with number message = record { at = number; message = digest_of message }

used_more : (number : ℕ) (entries : List Entry) (e : Entry) (a : Id) (k : ℕ) → used_from number (entries ++ e ∷ []) a k ≡ option_or (used_from number entries a k) (signed_by (number + length entries) a k e)
used_more number [] e a k = or_none (signed_by number a k e) ∙ ap (λ (n : ℕ). signed_by n a k e) (omega arith)
  where
    or_none : (o : Option UsedKey) → option_or o None ≡ o
    or_none None = refl
    or_none (Some u) = refl
used_more number (first ∷ entries) e a k =
    let next : number + 1 + length entries ≡ number + length (first ∷ entries) = omega arith in
    ap (λ (o : Option UsedKey). option_or (signed_by number a k first) o) (used_more (number + 1) entries e a k ∙ ap (λ (n : ℕ). option_or (used_from (number + 1) entries a k) (signed_by n a k e)) next)
    ∙ or_or (signed_by number a k first) (used_from (number + 1) entries a k) (signed_by (number + length (first ∷ entries)) a k e)
  where
    or_or : (x y z : Option UsedKey) → option_or x (option_or y z) ≡ option_or (option_or x y) z
    or_or None y z = refl
    or_or (Some u) y z = refl

-- at the key's own row
pub used_here : (entries : List Entry) (account : Id) (q : ℕ) (message : List ℕ) → length account.0 ≡ 32 → q < 2 ^ 32 → used_of entries account q ≡ None →
    used_row (entries ++ Act account q message ∷ []) (used_key account q) ≡ Some (used_text (used_with (length entries + 1) message))
used_here entries account q message wide small none =
    let parts = used_parts account q wide small in
    let n : 1 + length entries ≡ length entries + 1 = omega arith in
    let signed : signed_by (1 + length entries) account q (Act account q message) ≡ Some (used_with (length entries + 1) message) =
    rw (same_id-self account, eqb-self q) (ap (λ (k : ℕ). Some (used_with k message)) n) in
    let found : used_of (entries ++ Act account q message ∷ []) account q ≡ Some (used_with (length entries + 1) message) =
    used_more 1 entries (Act account q message) account q ∙ (λ i. option_or (none i) (signed i)) in
    rw parts.good (ap (option_map used_text) ((λ i. used_of (entries ++ Act account q message ∷ []) (parts.account_is i) (parts.number_is i)) ∙ found))
  where
    eqb-self : (k : ℕ) → (k == k) ≡ true
    eqb-self k = grind arith

-- at another row
pub used_elsewhere : (entries : List Entry) (account : Id) (q : ℕ) (message key : List ℕ) → same_cell (used_tab, key) (used_tab, used_key account q) ≡ false →
    used_row (entries ++ Act account q message ∷ []) key ≡ used_row entries key
used_elsewhere entries account q message key other = go (is_used_key key) refl
  where
    not_it : is_used_key key ≡ true → (same_id (first_id key) account && (number_in key == q)) ≡ false
    not_it good = elim (cases_Bool (same_id (first_id key) account && (number_in key == q))) [
      | inr e ↦ e
      | inl both ↦
          let parts = and_parts (same_id (first_id key) account) (number_in key == q) both in
          let owner = id_from_same (first_id key) account parts.0 in
          let number : number_in key ≡ q = eqb-true (number_in key) q parts.1 in
          let is : key ≡ used_key account q = used_key_is key good ∙ (λ i. used_key (owner i) (number i)) in
          let there : same_cell (used_tab, key) (used_tab, used_key account q) ≡ true = ap (λ (k : List ℕ). same_cell (used_tab, key) (used_tab, k)) (sym is) ∙ at_itself (used_tab, key) in
          absurd cc
    ]

    or_nothing : (o : Option UsedKey) → option_or o None ≡ o
    or_nothing None = refl
    or_nothing (Some u) = refl

    unchanged : is_used_key key ≡ true → used_of (entries ++ Act account q message ∷ []) (first_id key) (number_in key) ≡ used_of entries (first_id key) (number_in key)
    unchanged good =
        let none : signed_by (1 + length entries) (first_id key) (number_in key) (Act account q message) ≡ None = rw (not_it good) in
        used_more 1 entries (Act account q message) (first_id key) (number_in key) ∙ ap (λ (o : Option UsedKey). option_or (used_of entries (first_id key) (number_in key)) o) none ∙ or_nothing (used_of entries (first_id key) (number_in key))

    go : (good : Bool) → is_used_key key ≡ good →
        (if good then option_map used_text (used_of (entries ++ Act account q message ∷ []) (first_id key) (number_in key)) else None) ≡ (if good then option_map used_text (used_of entries (first_id key) (number_in key)) else None)
    go true is = ap (option_map used_text) (unchanged is)
    go false is = refl

-- ---- the entries

pub entry_put : (entries : List Entry) (e : Entry) (tables : Tables) → length entries < 2 ^ 63 → IsNumbered w64 entry_tab 1 (map entry_text entries) tables →
    IsNumbered w64 entry_tab 1 (map entry_text (entries ++ e ∷ [])) (insert tables (entry_tab, entry_key (length entries + 1)) (entry_text e))
entry_put entries e tables few numbered =
    let len : length (map entry_text entries) ≡ length entries = length-map entries entry_text in
    let number : 1 + length (map entry_text entries) ≡ length entries + 1 = omega (arith, len) in
    subst (λ (n : ℕ). IsNumbered w64 entry_tab 1 (map entry_text (entries ++ e ∷ [])) (insert tables (entry_tab, to_be_bytes w64 n) (entry_text e))) number
    (subst (λ (vals : List (List ℕ)). IsNumbered w64 entry_tab 1 vals (insert tables (entry_tab, to_be_bytes w64 (1 + length (map entry_text entries))) (entry_text e))) (sym (map-append entry_text entries (e ∷ [])))
    (numbers_on w64 entry_tab 1 (map entry_text entries) (entry_text e) tables numbered (omega (arith, len, few))))
