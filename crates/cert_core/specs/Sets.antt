-- Validator sets: an epoch, how many seats may deviate, and the accounts of the seats.
use Rattle.std.specs.Prelude.{ℕ, ◌≡◌, ◌+◌, ◌*◌, ◌<◌, ◌≤◌, ◌^◌, Bool, false, List, [], ◌∷◌, ◌++◌, length, codes}
use Rattle.std.specs.List.{list_any, flat_map, AllByRecursion}
use Rattle.std.specs.Int.{w16, w32, to_be_bytes}
use Rattle.std.specs.Str.{bytes_eq}
use Rattle.sha2.specs.Sha256.{sha256}
use Rattle.dh_base.specs.declared.id.Id.{Id}

pub record SetTold : Type 0 where
  pub epoch : ℕ
  pub f : ℕ
  pub seats : List Id

abbrev pub set_tag : List ℕ
set_tag = codes "CCDSET01"

abbrev pub id_bytes : Id → List ℕ
id_bytes id = id.0

-- the tag, the epoch, f, and the accounts in the order of their seats
abbrev pub set_text : SetTold → List ℕ
set_text set =
    set_tag ++ to_be_bytes w32 set.epoch ++ to_be_bytes w16 set.f ++ flat_map id_bytes set.seats

abbrev pub id_of_set : SetTold → Id
id_of_set set = record { 0 = sha256 (set_text set) }

-- the account is one of these
abbrev pub is_among : List Id → Id → Bool
is_among accounts account = list_any (λ other. bytes_eq other.0 account.0) accounts

-- no account stands among those before it
abbrev pub AreNewBehind : List Id → List Id → Type 0
AreNewBehind before [] = Unit {0}
AreNewBehind before (account ∷ accounts) =
    (is_among before account ≡ false) × AreNewBehind (before ++ account ∷ []) accounts

abbrev pub AreDifferent : List Id → Type 0
AreDifferent accounts = AreNewBehind [] accounts

-- what every set keeps: at most 5 seats may deviate, and there are 3f + 1 different accounts
pub record HasSeats (set : SetTold) : Type 0 where
  pub f : set.f ≤ 5
  pub seats : length set.seats ≡ 3 * set.f + 1
  pub different : AreDifferent set.seats

-- what has a text
pub record IsSet (set : SetTold) : Type 0 where
  pub has : HasSeats set
  pub epoch : set.epoch < 2 ^ 32
  pub wide : AllByRecursion (λ account. length account.0 ≡ 32) set.seats
