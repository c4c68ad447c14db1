-- The commands, and the words that ask for each.
use Rattle.std.specs.Prelude.{ℕ, if◌then◌else◌, List, [], ◌∷◌, Option, Some, None, codes}
use Rattle.std.specs.Str.{bytes_eq}
use Rattle.deal_desk.specs.declared.command.Command.{Command}
use Rattle.deal_desk.specs.declared.command.Command.TheVariants.{Clear, Rehearse}

-- the command of a name
abbrev pub command_named : List ℕ → Option Command
command_named word =
    if bytes_eq word (codes "clear") then Some Clear
    else if bytes_eq word (codes "rehearse") then Some Rehearse
    else None

-- A command has no further word.
abbrev pub command_of : List (List ℕ) → Option Command
command_of [] = None
command_of (word ∷ []) = command_named word
command_of (word ∷ other ∷ more) = None
