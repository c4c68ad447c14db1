-- What was read of a source.
use Rattle.std.specs.Prelude.{ℕ, ◌≡◌, ◌+◌, ◌≤◌, List, take, drop, Option, Some, IfSome}
use Rattle.script_lines.specs.LineRules.{most_bytes}

-- how many bytes are read at most: one more than an input may have
abbrev pub most_read : ℕ
most_read = most_bytes + 1

-- what is left of the bytes that a source told, where they were read
abbrev pub unread : List ℕ → List ℕ
unread all = drop most_read all

-- The bytes are all that were left, or as many of them as are read at most.
abbrev pub WasRead : Option (List ℕ) → List ℕ → Option (List ℕ) → Type 0
WasRead before bytes after = IfSome before (λ all.
    (bytes ≡ take most_read all) × (after ≡ Some (unread all)))

-- The source gave some first bytes, no more than are read at most.
abbrev pub GaveFront : Option (List ℕ) → Option (List ℕ) → Type 0
GaveFront before after = IfSome before (λ all.
    (n : ℕ) × (n ≤ most_read) × (after ≡ Some (drop n all)))
