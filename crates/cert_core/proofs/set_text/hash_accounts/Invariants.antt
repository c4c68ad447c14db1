use Rattle.std.proofs.Common.{ℕ, List, ◌++◌, take}
use Rattle.std.specs.List.{flat_map}
use Rattle.sha2.specs.Hashers.{Holds256}
use Rattle.cert_core.specs.Sets.{id_bytes}
use Rattle.cert_core.proofs.set_text.hash_accounts.Given as goal

-- the accounts so far are hashed
abbrev pub invariant-loop-account : goal.invariant-loop-account
invariant-loop-account l = (before : List ℕ) → Holds256 l.fn.hasher before → Holds256 l.hasher (before ++ flat_map id_bytes (take l.account-index l.accounts))
