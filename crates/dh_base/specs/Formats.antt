-- Formats: how the values of a type are spelled, and how they are taken at a place, one field
-- behind another.
use Rattle.std.specs.Prelude.{ℕ, ◌≡◌, ◌+◌, ◌<◌, ◌^◌, ◌↔◌, Bool, false, zero, suc, if◌then◌else◌, nat_lt, List, [], ◌∷◌, ◌++◌, length, IsTrue, Result, Ok, Err}
use Rattle.std.specs.List.{flat_map, AllByRecursion}
use Rattle.std.specs.Int.{Width, byte_len, to_be_bytes, w32}
use Rattle.dh_base.specs.declared.base_fault.BaseFault.{BaseFault}
use Rattle.dh_base.specs.declared.id.Id.{Id}
use Rattle.dh_base.specs.Names.{is_name}
use Rattle.dh_base.specs.Fields.{◌>>=◌, AreBytes, StandsAt, bytes_at, number_at, id_at, name_at, name_field}

-- ---- what is taken at a place, and the place behind it

abbrev pub next_number : Width → List ℕ → ℕ → Result (ℕ × ℕ) BaseFault
next_number w bytes at = number_at w bytes at >>= λ number. Ok (number, at + byte_len w)

abbrev pub next_id : List ℕ → ℕ → Result (Id × ℕ) BaseFault
next_id bytes at = id_at bytes at >>= λ id. Ok (id, at + 32)

abbrev pub next_name : List ℕ → ℕ → Result (List ℕ × ℕ) BaseFault
next_name bytes at = name_at bytes at >>= λ name. Ok (name, at + (1 + length name))

-- a text behind its length, which are two fields
abbrev pub next_text : List ℕ → ℕ → Result (List ℕ × ℕ) BaseFault
next_text bytes at =
    number_at w32 bytes at >>= λ len.
    bytes_at len bytes (at + 4) >>= λ text. Ok (text, at + 4 + len)

abbrev pub text_field : List ℕ → List ℕ
text_field text = to_be_bytes w32 (length text) ++ text

-- a format's own fault in place of a field's
abbrev pub or_fault : {A E F : Type 0} → (E → F) → Result A E → Result A F
or_fault of (Ok x) = Ok x
or_fault of (Err fault) = Err (of fault)

-- a value that a test lets pass, or a fault where its field begins
abbrev pub unless_out_of_range : {A F : Type 0} → (A → Bool) → (ℕ → F)
    → (List ℕ → ℕ → Result (A × ℕ) F) → List ℕ → ℕ → Result (A × ℕ) F
unless_out_of_range is_outside fault taken bytes at =
    taken bytes at >>= λ read. if is_outside read.0 then Err (fault at) else Ok read

-- that many values, one behind the other
abbrev pub next_values : {A F : Type 0} → (List ℕ → ℕ → Result (A × ℕ) F)
    → ℕ → List ℕ → ℕ → Result (List A × ℕ) F
next_values taken zero bytes at = Ok ([], at)
next_values taken (suc n) bytes at =
    taken bytes at >>= λ first.
    next_values taken n bytes first.1 >>= λ rest. Ok (first.0 ∷ rest.0, rest.1)

-- the value that all of the bytes are, or a fault at the first byte that is left over
abbrev pub whole_of : {A F : Type 0} → (ℕ → F) → (List ℕ → ℕ → Result (A × ℕ) F)
    → List ℕ → Result A F
whole_of left_over taken bytes =
    taken bytes 0 >>= λ read.
    if nat_lt read.1 (length bytes) then Err (left_over read.1) else Ok read.0

-- ---- what stands there

-- A spelling of the value stands at the place, and the next place is behind it.
pub record IsSpelledAt {A : Type 0} (spells : A → List ℕ → Type 0)
    (bytes : List ℕ) (at : ℕ) (read : A × ℕ) : Type 0 where
  pub text : List ℕ
  pub spelled : spells read.0 text
  pub stands : StandsAt text bytes at
  pub next : read.1 ≡ at + length text

-- What is taken at a place is what is spelled there, and nothing else.
abbrev pub TakesWhatIsSpelled : {A F : Type 0} → (List ℕ → ℕ → Result (A × ℕ) F)
    → (A → List ℕ → Type 0) → Type 0
TakesWhatIsSpelled {A} taken spells = (bytes : List ℕ) (at : ℕ) (read : A × ℕ) → AreBytes bytes →
    (taken bytes at ≡ Ok read) ↔ IsSpelledAt spells bytes at read

-- the one text of each value that fits
abbrev pub SpelledBy : {A : Type 0} → (A → Type 0) → (A → List ℕ) → A → List ℕ → Type 0
SpelledBy fits text_of value text = fits value × (text ≡ text_of value)

abbrev pub NumberSpelled : Width → ℕ → List ℕ → Type 0
NumberSpelled w = SpelledBy (λ number. number < 256 ^ byte_len w) (to_be_bytes w)

abbrev pub IdSpelled : Id → List ℕ → Type 0
IdSpelled = SpelledBy (λ id. length id.0 ≡ 32) (λ id. id.0)

abbrev pub NameSpelled : List ℕ → List ℕ → Type 0
NameSpelled = SpelledBy (λ name. IsTrue (is_name name)) name_field

abbrev pub TextSpelled : List ℕ → List ℕ → Type 0
TextSpelled = SpelledBy (λ text. length text < 2 ^ 32) text_field

-- a value that a test lets pass
abbrev pub SpelledWithin : {A : Type 0} → (A → Bool) → (A → List ℕ → Type 0) → A → List ℕ → Type 0
SpelledWithin is_outside spells value text = spells value text × (is_outside value ≡ false)

-- Behind a spelling of a first value stands what spells the whole.
pub record IsSpelledAfter {A B : Type 0} (first : A → List ℕ → Type 0)
    (behind : A → B → List ℕ → Type 0) (whole : B) (text : List ℕ) : Type 0 where
  pub value : A
  pub front : List ℕ
  pub rest : List ℕ
  pub spells_front : first value front
  pub spells_rest : behind value whole rest
  pub is : text ≡ front ++ rest

-- The last value is spelled, of which the whole is made.
pub record IsMadeOf {A B : Type 0} (make : A → B) (spells : A → List ℕ → Type 0)
    (whole : B) (text : List ℕ) : Type 0 where
  pub value : A
  pub spelled : spells value text
  pub is : whole ≡ make value

-- a list behind the field of its length, value by value
abbrev pub list_text : {A : Type 0} → (ℕ → List ℕ) → (A → List ℕ) → List A → List ℕ
list_text count_text text_of values = count_text (length values) ++ flat_map text_of values

-- the length and each value fit
abbrev pub ListFits : {A : Type 0} → (ℕ → Type 0) → (A → Type 0) → List A → Type 0
ListFits fits_count fits values = fits_count (length values) × AllByRecursion fits values
