-- The ids of plain parties and deals.
use Rattle.std.specs.Prelude.{ℕ, ◌-◌, List, ◌∷◌, ◌++◌, length, replicate}
use Rattle.dh_base.specs.declared.id.Id.{Id}

-- The id of a plain name: its length, its characters, and zeros up to 32 bytes. Different names
-- have different ids.
abbrev pub plain_id : List ℕ → Id
plain_id name = record { 0 = length name ∷ (name ++ replicate (31 - length name) 0) }
