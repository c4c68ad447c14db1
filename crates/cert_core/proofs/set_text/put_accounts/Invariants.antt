use Rattle.std.proofs.Common.{◌≡◌, ◌++◌, take}
use Rattle.std.specs.List.{flat_map}
use Rattle.cert_core.specs.Sets.{id_bytes}
use Rattle.cert_core.proofs.set_text.put_accounts.Given as goal

-- the accounts so far are appended
abbrev pub invariant-loop-account : goal.invariant-loop-account
invariant-loop-account l = l.out.items ≡ l.fn.out.items ++ flat_map id_bytes (take l.account-index l.accounts)
