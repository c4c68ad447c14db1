use Rattle.std.proofs.Common.{◌≡◌, map, take}
use Rattle.deal_core.specs.declared.party.Party.{Party}
use Rattle.deal_core.proofs.reading.accounts_in.Given as goal

abbrev pub invariant-loop-party : goal.invariant-loop-party
invariant-loop-party l = l.accounts.items ≡ map (λ (party : Party). party.account) (take l.party-index l.draft.parties)
