-- Accounts that stand one behind the other in bytes.
use Rattle.std.proofs.Common.{◌≡◌, ℕ, ◌+◌, ◌*◌, ◌≤◌, zero, suc, Bool, true, false, cond, List, [], ◌∷◌, ◌++◌, length, take, drop, Some, None, refl, sym, ap, ◌∙◌, arith}
use Rattle.std.specs.List.{flat_map, AllByRecursion}
use Rattle.std.proofs.lemmas.List.{length-append, length-take-le, length-drop, drop-drop, take_at, drop_at, take-append-drop}
use Rattle.dh_base.specs.declared.id.Id.{Id}
use Rattle.cert_core.specs.Sets.{id_bytes, is_among, AreNewBehind}
use Rattle.cert_core.specs.SetReading.{accounts_in, first_twice}

abbrev made : List ℕ → Id
made bytes = record { 0 = bytes }

drops : (n : ℕ) (bytes : List ℕ) → drop (32 * n) (drop 32 bytes) ≡ drop (32 * suc n) bytes
drops n bytes = drop-drop (32 * n) 32 bytes ∙ ap (λ (k : ℕ). drop k bytes) (let e : 32 + 32 * n ≡ 32 * suc n = omega arith in e)

-- one account more
accounts-more : (n : ℕ) (bytes : List ℕ) → accounts_in (suc n) bytes ≡ accounts_in n bytes ++ made (take 32 (drop (32 * n) bytes)) ∷ []
accounts-more zero bytes = refl
accounts-more (suc n) bytes =
    ap (λ (ids : List Id). made (take 32 bytes) ∷ ids)
    (accounts-more n (drop 32 bytes) ∙ ap (λ (rest : List ℕ). accounts_in n (drop 32 bytes) ++ made (take 32 rest) ∷ []) (drops n bytes))

pub accounts_next : (n m : ℕ) (bytes : List ℕ) (id : Id) → m ≡ n + 1 → id.0 ≡ take 32 (drop (32 * n) bytes) → accounts_in m bytes ≡ accounts_in n bytes ++ id ∷ []
accounts_next n m bytes id next is =
    let step : m ≡ suc n = omega (arith, next) in
    ap (λ (k : ℕ). accounts_in k bytes) step ∙ accounts-more n bytes ∙ ap (λ (account : Id). accounts_in n bytes ++ account ∷ []) (ap made (sym is))

pub length-accounts_in : (n : ℕ) (bytes : List ℕ) → length (accounts_in n bytes) ≡ n
length-accounts_in zero bytes = refl
length-accounts_in (suc n) bytes = omega (arith, length-accounts_in n (drop 32 bytes))

pub wide-accounts_in : (n : ℕ) (bytes : List ℕ) → 32 * n ≤ length bytes → AllByRecursion (λ account. length account.0 ≡ 32) (accounts_in n bytes)
wide-accounts_in zero bytes long = tt
wide-accounts_in (suc n) bytes long =
    (length-take-le 32 bytes (omega (arith, long)), wide-accounts_in n (drop 32 bytes) (omega (arith, long, length-drop 32 bytes)))

-- the accounts that were read spell the bytes again
pub spelled-accounts_in : (n : ℕ) (bytes : List ℕ) → length bytes ≡ 32 * n → flat_map id_bytes (accounts_in n bytes) ≡ bytes
spelled-accounts_in zero [] long = refl
spelled-accounts_in zero (b ∷ bytes) long = absurd (omega (arith, long))
spelled-accounts_in (suc n) bytes long =
    ap (λ (t : List ℕ). take 32 bytes ++ t) (spelled-accounts_in n (drop 32 bytes) (omega (arith, long, length-drop 32 bytes))) ∙ take-append-drop 32 bytes

pub length-accounts : (accounts : List Id) → AllByRecursion (λ account. length account.0 ≡ 32) accounts → length (flat_map id_bytes accounts) ≡ 32 * length accounts
length-accounts [] wide = refl
length-accounts (id ∷ ids) wide = length-append id.0 (flat_map id_bytes ids) ∙ omega (arith, wide.0, length-accounts ids wide.1)

-- and accounts that are spelled are read
pub accounts_in-spelled : (accounts : List Id) → AllByRecursion (λ account. length account.0 ≡ 32) accounts → accounts_in (length accounts) (flat_map id_bytes accounts) ≡ accounts
accounts_in-spelled [] wide = refl
accounts_in-spelled (id ∷ ids) wide =
    let first : take 32 (id.0 ++ flat_map id_bytes ids) ≡ id.0 = take_at id.0 (flat_map id_bytes ids) 32 (wide.0) in
    let rest : drop 32 (id.0 ++ flat_map id_bytes ids) ≡ flat_map id_bytes ids = drop_at id.0 (flat_map id_bytes ids) 32 (wide.0) in
    let again : accounts_in (length ids) (drop 32 (id.0 ++ flat_map id_bytes ids)) ≡ ids = ap (accounts_in (length ids)) rest ∙ accounts_in-spelled ids wide.1 in
    ap (λ (t : List ℕ). made t ∷ accounts_in (length ids) (drop 32 (id.0 ++ flat_map id_bytes ids))) first ∙ ap (λ (ts : List Id). id ∷ ts) again

-- ---- accounts that stand twice

new_if : (before ids : List Id) (account : Id) (seen : Bool) → is_among before account ≡ seen → cond seen (Some (length before)) (first_twice (before ++ account ∷ []) ids) ≡ None →
    (first_twice (before ++ account ∷ []) ids ≡ None → AreNewBehind (before ++ account ∷ []) ids) → (is_among before account ≡ false) × AreNewBehind (before ++ account ∷ []) ids
new_if before ids account true is e rest = absurd cc
new_if before ids account false is e rest = (is, rest e)

-- where none stands twice, each is new
pub new-none_twice : (before accounts : List Id) → first_twice before accounts ≡ None → AreNewBehind before accounts
new-none_twice before [] e = tt
new-none_twice before (account ∷ ids) e = new_if before ids account (is_among before account) refl e (new-none_twice (before ++ account ∷ []) ids)

pub none_twice-new : (before accounts : List Id) → AreNewBehind before accounts → first_twice before accounts ≡ None
none_twice-new before [] new = refl
none_twice-new before (account ∷ ids) new = rw new.0 (none_twice-new (before ++ account ∷ []) ids new.1)
