-- The first set of a house, whose id the house has.
use Rattle.std.specs.Prelude.{ℕ, nat_le, if◌then◌else◌, List, [], ◌∷◌, ◌++◌, Option, Some, None, Result, Ok, Err}
use Rattle.std.specs.Int.{w16, w32, to_be_bytes}
use Rattle.std.specs.List.{flat_map}
use Rattle.std.specs.Option.{unwrap_or}
use Rattle.cert_core.specs.Sets.{SetTold, set_tag}
use Rattle.cert_core.specs.SetReading.{set_of}
use Rattle.cert_core.specs.declared.set_fault.SetFault.{SetFault}
use Rattle.house_grammar.specs.declared.declaration.Declaration.{Declaration}
use Rattle.house_grammar.specs.declared.declaration.Declaration.TheVariants.{Set}
use Rattle.house_holders.specs.Holders.{HolderTold, account_named}

-- how many faulty seats a set tolerates: at most 5
abbrev pub faults_of : Option ℕ → ℕ
faults_of None = 0
faults_of (Some faults) = if nat_le faults 5 then faults else 0

-- the tag, the epoch, how many faults are tolerated, and the accounts of the seats
abbrev pub set_told_text : List HolderTold → Option ℕ → Option ℕ → List (List ℕ) → List ℕ
set_told_text holders epoch faults seats =
    set_tag ++ to_be_bytes w32 (unwrap_or epoch 0) ++ to_be_bytes w16 (faults_of faults)
    ++ flat_map (λ seat. (account_named holders seat).0) seats

-- the first set that the lines declare
abbrev pub first_set_text : List HolderTold → List Declaration → List ℕ
first_set_text holders [] = []
first_set_text holders (Set name epoch faults seats ∷ ds) =
    set_told_text holders epoch faults seats
first_set_text holders (d ∷ ds) = first_set_text holders ds

abbrev pub set_or_none : Result SetTold SetFault → SetTold
set_or_none (Ok set) = set
set_or_none (Err fault) = record { epoch = 0; f = 0; seats = [] }

-- the set that the text spells
abbrev pub genesis_set : List HolderTold → List Declaration → SetTold
genesis_set holders ds = set_or_none (set_of (first_set_text holders ds))
