use Rattle.std.proofs.Common.{◌≡◌, ◌++◌, take}
use Rattle.std.specs.List.{flat_map}
use Rattle.house_holders.specs.Holders.{account_named}
use Rattle.house_texts.proofs.genesis.put_accounts.Given as goal

abbrev pub invariant-loop-seat : goal.invariant-loop-seat
invariant-loop-seat l = l.out.items ≡ l.fn.out.items ++ flat_map (λ seat. (account_named l.holders seat).0) (take l.seat-index l.seats)
