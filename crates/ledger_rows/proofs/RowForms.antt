-- Tests of keys say what the keys spell.
use Rattle.std.proofs.Common.{◌≡◌, ℕ, ◌<◌, ◌≤◌, ◌&&◌, Bool, true, false, List, ◌++◌, length, take, drop, Option, Some, None, is_some, refl, sym, ap, ◌∙◌, arith, inl, inr}
use Rattle.std.specs.Str.{bytes_eq}
use Rattle.std.proofs.lemmas.Bool.{cases_Bool}
use Rattle.std.proofs.lemmas.List.{drop_at, take-append-drop, length-take-le, drop_all}
use Rattle.std.proofs.lemmas.Slice.Eq.{bytes_eq-Decides}
use Rattle.dh_base.specs.Fields.{name_field}
use Rattle.dh_base.specs.Names.{is_name}
use Rattle.ledger_rows.specs.RowKeys.{free_key, first_id, behind_id, asset_in, name_in, is_free_key, is_hold_key}
use Rattle.ledger_rows.proofs.HeldRows.{name_spelled, name_read}
use Rattle.ledger_rows.proofs.KeysSpelled.{free_keys_read}

not_true : (b : Bool) → (b ≡ true → ⊥) → b ≡ false
not_true true never = absurd (never refl)
not_true false never = refl

-- a key that is longer than an account
pub free_key_by : (key : List ℕ) → 32 < length key → is_some (name_in (drop 32 key)) ≡ is_free_key key
free_key_by key long = go (name_in (drop 32 key)) refl
  where
    wide : length (take 32 key) ≡ 32
    wide = length-take-le 32 key (omega arith)

    go : (o : Option (List ℕ)) → name_in (drop 32 key) ≡ o → is_some o ≡ is_free_key key
    go (Some asset) found =
        let spelled = name_spelled (drop 32 key) asset found in
        let is : key ≡ free_key (first_id key) asset = sym (take-append-drop 32 key) ∙ ap (λ (t : List ℕ). take 32 key ++ t) spelled.1 in
        sym ((free_keys_read key (first_id key) asset).1 (wide, spelled.0, is)).0
    go None none = sym (not_true (is_free_key key) (λ good.
        (let parts = (free_keys_read key (first_id key) (asset_in key)).0 (good, refl, refl) in
        let field : drop 32 key ≡ name_field (asset_in key) = ap (drop 32) parts.2 ∙ drop_at (take 32 key) (name_field (asset_in key)) 32 parts.0 in
        let some : name_in (drop 32 key) ≡ Some (asset_in key) = ap name_in field ∙ name_read (asset_in key) parts.1 in
        absurd cc)))

-- a key that is no longer spells no asset
pub short_free_key : (key : List ℕ) → length key ≤ 32 → is_free_key key ≡ false
short_free_key key short =
    ap (λ (asset : List ℕ). is_name asset && bytes_eq key (free_key (first_id key) asset)) (drop_all 33 key (omega arith))

-- behind a deal stands what an account and an asset spell
pub hold_key_by : (key : List ℕ) → is_free_key (drop 32 key) ≡ is_hold_key key
hold_key_by key =
    let rest : List ℕ = free_key (first_id (behind_id key)) (asset_in (behind_id key)) in
    ap (λ (b : Bool). is_name (asset_in (behind_id key)) && b) (same rest)
  where
    whole : take 32 key ++ drop 32 key ≡ key
    whole = take-append-drop 32 key

    same : (rest : List ℕ) → bytes_eq (drop 32 key) rest ≡ bytes_eq key (take 32 key ++ rest)
    same rest = elim (cases_Bool (bytes_eq (drop 32 key) rest)) [
      | inl e ↦
          let is : key ≡ take 32 key ++ rest = sym whole ∙ ap (λ (t : List ℕ). take 32 key ++ t) ((bytes_eq-Decides (drop 32 key) rest).0 e) in
          e ∙ sym ((bytes_eq-Decides key (take 32 key ++ rest)).1 is)
      | inr e ↦ e ∙ sym (not_true (bytes_eq key (take 32 key ++ rest)) (λ good.
          (let is : key ≡ take 32 key ++ rest = (bytes_eq-Decides key (take 32 key ++ rest)).0 good in
          let behind : drop 32 key ≡ rest = sym (drop_at (take 32 key) (drop 32 key) (length (take 32 key)) refl ∙ refl) ∙ ap (drop (length (take 32 key))) (whole ∙ is) ∙ drop_at (take 32 key) rest (length (take 32 key)) refl in
          let there : bytes_eq (drop 32 key) rest ≡ true = (bytes_eq-Decides (drop 32 key) rest).1 behind in
          absurd cc)))
    ]

pub short_hold_key : (key : List ℕ) → length key ≤ 32 → is_hold_key key ≡ false
short_hold_key key short = sym (hold_key_by key) ∙ ap is_free_key (drop_all 32 key short)
