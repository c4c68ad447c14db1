-- What a refusal tells: its number, its name and its fields in order, each with its label, and
-- behind it what the refusals tell that it holds.
use Rattle.std.specs.Prelude.{ℕ, List, [], ◌∷◌, ◌++◌, take, codes, Option, Some, None, option_map}
use Rattle.std.specs.List.{flat_map}
use Rattle.std.specs.Option.{option_map}
use Rattle.std.specs.Fmt.{decimal}
use Rattle.dh_base.specs.Spelled.{outcome_text, hex_text}
use Rattle.dh_base.specs.declared.id.Id.{Id}
use Rattle.dh_base.specs.declared.outcome.Outcome.{Outcome}
use Rattle.dh_base.specs.declared.refusal.Field.{Field}
use Rattle.dh_base.specs.declared.refusal.FieldValue.{FieldValue}
use Rattle.dh_base.specs.declared.refusal.FieldValue.TheVariants.{Number, Hash, Called, Ending, Entry}
use Rattle.dh_base.specs.declared.refusal.Telling.{Telling}

pub record FieldTold : Type 0 where
  pub label : List ℕ
  pub value : FieldValue

pub record Told : Type 0 where
  pub number : ℕ
  pub name : List ℕ
  pub fields : List FieldTold

abbrev pub field_of : List ℕ → FieldValue → FieldTold
field_of label value = record { label = label; value = value }

abbrev pub told_of : ℕ → List ℕ → List FieldTold → Told
told_of number name fields = record { number = number; name = name; fields = fields }

-- ---- the text

-- the word of a record of a log
abbrev pub entry_word : Option Outcome → List ℕ
entry_word None = codes "start"
entry_word (Some outcome) = outcome_text outcome

abbrev pub entry_text : Option Outcome → ℕ → Id → List ℕ
entry_text vote num deal = entry_word vote ++ (32 ∷ decimal num) ++ (32 ∷ hex_text deal.0)

abbrev pub value_text : FieldValue → List ℕ
value_text (Number n) = decimal n
value_text (Hash id) = hex_text id.0
value_text (Called name) = name
value_text (Ending outcome) = outcome_text outcome
value_text (Entry vote num deal) = entry_text vote num deal

-- a field behind what stands before it
abbrev pub field_text : FieldTold → List ℕ
field_text field = 32 ∷ value_text field.value

-- the number, the name and the fields, with single spaces between them
abbrev pub told_text : Told → List ℕ
told_text told = decimal told.number ++ (32 ∷ told.name) ++ flat_map field_text told.fields

-- what a held refusal tells, behind what stands before it
abbrev pub held_text : Told → List ℕ
held_text told = 32 ∷ told_text told

-- what a refusal tells of itself, and behind it the first n refusals that it holds
abbrev pub refusal_front : ℕ → List Told → List ℕ
refusal_front n [] = []
refusal_front n (own ∷ held) = told_text own ++ flat_map held_text (take n held)

-- the text of a refusal, which shows at most seven of those that it holds
abbrev pub refusal_text : List Told → List ℕ
refusal_text tolds = refusal_front 7 tolds

-- ---- what a telling tells

-- a field without where its label lies in memory
abbrev pub field_told : Field → FieldTold
field_told field = record { label = field.label.now; value = field.value }

-- a space and what the field holds, where there is one
abbrev pub option_field_text : Option Field → List ℕ
option_field_text None = []
option_field_text (Some field) = 32 ∷ value_text field.value

-- the fields that are there
abbrev pub fields_there : List (Option Field) → List FieldTold
fields_there [] = []
fields_there (None ∷ rest) = fields_there rest
fields_there (Some field ∷ rest) = field_told field ∷ fields_there rest

abbrev pub telling_told : Telling → Told
telling_told telling = told_of telling.number telling.name.now
    (fields_there (telling.first ∷ telling.second ∷ telling.third ∷ telling.fourth ∷ []))

abbrev pub option_telling_told : Option Telling → Option Told
option_telling_told telling = option_map telling_told telling
