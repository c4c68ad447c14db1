-- What is seen of a source, of a sink and of what is both, and what a call leaves of it.
use Rattle.std.specs.Prelude.{ℕ, ◌≡◌, ◌≤◌, List, Option}
use Rattle.std.specs.Io.KnownBytes.{Appends, Consumes, Keeps}
use Rattle.dh_base.specs.Faults.{HasRisen}

-- the bytes left and the bytes written, where they are told, and how many calls have failed
pub record Seen : Type 0 where
  pub left : Option (List ℕ)
  pub written : Option (List ℕ)
  pub faults : ℕ

-- These bytes, the first of those left, were taken. Nothing else changed. What is told stays told.
abbrev pub Took : (before : Seen) (bytes : List ℕ) (after : Seen) → Type 0
Took before bytes after = record {
  left : Consumes before.left after.left bytes;
  written : Keeps before.written after.written;
  faults : after.faults ≡ before.faults;
}

-- These bytes were added behind those written. Nothing else changed. What is told stays told.
abbrev pub Gained : (before : Seen) (bytes : List ℕ) (after : Seen) → Type 0
Gained before bytes after = record {
  left : Keeps before.left after.left;
  written : Appends before.written after.written bytes;
  faults : after.faults ≡ before.faults;
}

-- The count rose, and nothing else changed.
abbrev pub Rose : (before after : Seen) → Type 0
Rose before after = record {
  left : Keeps before.left after.left;
  written : Keeps before.written after.written;
  faults : HasRisen before.faults after.faults;
  count : before.faults ≤ after.faults;
}
