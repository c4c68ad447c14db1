-- The calls of an in-memory outside: which are to fail, how many there were, how many have failed.
use Rattle.std.specs.Prelude.{ℕ, ◌+◌, ◌-◌, ◌^◌, nat_lt, ◌==◌, Bool, if◌then◌else◌, List}
use Rattle.std.specs.List.{list_any}

pub record CallsTold : Type 0 where
  pub fails : List ℕ
  pub made : ℕ
  pub faults : ℕ

-- one more, but the greatest value of that many bits stays
abbrev pub one_more : ℕ → ℕ → ℕ
one_more bits n = if nat_lt n (2 ^ bits - 1) then n + 1 else n

-- the next call is to fail
abbrev pub fails_next : CallsTold → Bool
fails_next calls = list_any (λ k. k == calls.made) calls.fails

-- after one call more
abbrev pub after_call : CallsTold → CallsTold
after_call calls = record {
  fails = calls.fails;
  made = one_more 32 calls.made;
  faults = if fails_next calls then one_more 64 calls.faults else calls.faults;
}

-- after one call more, which failed
abbrev pub after_failed_call : CallsTold → CallsTold
after_failed_call calls = record {
  fails = calls.fails;
  made = one_more 32 calls.made;
  faults = one_more 64 calls.faults;
}
