-- Bytes that hold none of one kind.
use Rattle.std.specs.Prelude.{ℕ, Bool, not, ◌==◌, List}
use Rattle.std.specs.List.{list_all}

-- none of the bytes is this one
abbrev pub lacks : ℕ → List ℕ → Bool
lacks byte bytes = list_all (λ c. not (c == byte)) bytes
