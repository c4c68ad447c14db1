-- What a line builds, or the rule that it breaks. Of two rules that a line breaks the one with the
-- lesser number is named.
use Rattle.std.specs.Prelude.{ℕ, ◌≡◌, nat_lt, nat_le, if◌then◌else◌, List, [], ◌∷◌, ◌++◌, length, Option, Some, None, Result, Ok, Err}
use Rattle.holder_names.specs.Holders.{signed_of}
use Rattle.house_grammar.specs.declared.building.Building.{Building}
use Rattle.house_grammar.specs.declared.building.Building.TheVariants.{Forge, Flip}
use Rattle.house_holders.specs.Holders.{HolderTold, holder_named}
use Rattle.house_texts.specs.Settings.{SettingTold}
use Rattle.key_ring.specs.declared.envelope.Envelope.{Envelope}
use Rattle.script_lines.specs.declared.rule.ScriptRule.{ScriptRule}
use Rattle.script_lines.specs.declared.rule.ScriptRule.TheVariants.{NameTwice, UnknownName, TooMany, OutOfRange, NotBuilt}
use Rattle.house_building.specs.declared.bindings.Binding.{Binding}
use Rattle.house_building.specs.declared.bindings.Bound.TheVariants.{Enveloped}
use Rattle.house_building.specs.declared.building.BuildHalt.{BuildHalt}
use Rattle.house_building.specs.declared.building.BuildHalt.TheVariants.{Broken, NoMemory}
use Rattle.house_building.specs.Bindings.{is_bound, envelope_named}
use Rattle.house_building.specs.Flipping.{flipped}
use Rattle.house_building.specs.Messages.{most_message, message_of}

-- ---- envelopes

-- a key of the holder signs the message
abbrev pub signed_if : HolderTold → Option ℕ → List ℕ → Result Envelope ScriptRule
signed_if holder None message = Err OutOfRange
signed_if holder (Some q) message =
    if nat_le holder.size q then Err OutOfRange
    else Ok (signed_of holder.name holder.size q message)

abbrev pub sealed : HolderTold → Option ℕ → List ℕ → Result Envelope ScriptRule
sealed holder key message =
    if nat_lt most_message (length message) then Err TooMany else signed_if holder key message

abbrev pub forged_by : HolderTold → Option ℕ → Result (List ℕ) ScriptRule
    → Result Envelope ScriptRule
forged_by holder key (Err rule) = Err rule
forged_by holder key (Ok message) = sealed holder key message

abbrev pub forged_with : Option HolderTold → Option ℕ → Result (List ℕ) ScriptRule
    → Result Envelope ScriptRule
forged_with None key message = Err UnknownName
forged_with (Some holder) key message = forged_by holder key message

abbrev pub flipped_if : Option Envelope → Result Envelope ScriptRule
flipped_if None = Err UnknownName
flipped_if (Some envelope) = Ok (flipped envelope)

-- ---- names

abbrev pub with_envelope : List Binding → List ℕ → Result Envelope ScriptRule
    → Result (List Binding) ScriptRule
with_envelope bound name (Err rule) = Err rule
with_envelope bound name (Ok envelope) =
    Ok (bound ++ record { name = name; thing = Enveloped envelope } ∷ [])

-- a name is bound once
abbrev pub binds_new : List Binding → List ℕ → Result Envelope ScriptRule
    → Result (List Binding) ScriptRule
binds_new bound name made =
    if is_bound bound name then Err NameTwice else with_envelope bound name made

-- what is bound behind a line that builds
abbrev pub built_of : SettingTold → List Binding → Building → Result (List Binding) ScriptRule
built_of setting bound (Forge envelope holder key text) =
    binds_new bound envelope
    (forged_with (holder_named setting.holders holder) key (message_of setting text))
built_of setting bound (Flip name envelope) =
    binds_new bound name (flipped_if (envelope_named bound envelope))
built_of setting bound _ = Err NotBuilt

-- ---- calls

-- the call gives what is made, or the rule that is broken, unless memory ran out
abbrev pub Gives : {A : Type 0} → Result A BuildHalt → Result A ScriptRule → Type 0
Gives (Ok made) given = given ≡ Ok made
Gives (Err (Broken rule)) given = given ≡ Err rule
Gives (Err NoMemory) given = Unit {0}

-- The call leaves what is bound then, or else all as it was.
abbrev pub Builds : {T : Type 0} → Result T BuildHalt → List Binding → List Binding
    → Result (List Binding) ScriptRule → Type 0
Builds (Ok done) before after built = built ≡ Ok after
Builds (Err (Broken rule)) before after built = (built ≡ Err rule) × (after ≡ before)
Builds (Err NoMemory) before after built = after ≡ before
