-- Reading a name.
use Rattle.std.specs.Prelude.{ℕ, List, Result, Ok, Err, if◌then◌else◌}
use Rattle.dh_base.specs.declared.base_fault.BaseFault.{BaseFault}
use Rattle.dh_base.specs.declared.base_fault.BaseFault.TheVariants.{BadName}
use Rattle.dh_base.specs.Names.{is_name, bad_place}

-- the text, where it is a name
abbrev pub name_of : List ℕ → Result (List ℕ) BaseFault
name_of text = if is_name text then Ok text else Err (BadName (bad_place text))
