use Rattle.std.proofs.Common.{◌≡◌, ◌++◌, take, string_bytes}
use Rattle.std.specs.List.{flat_map}
use Rattle.house_texts.specs.Deals.{party_line}
use Rattle.house_texts.proofs.deals.write_parties.Given as goal

abbrev pub invariant-loop-party : goal.invariant-loop-party
invariant-loop-party l = string_bytes l.out ≡ string_bytes l.fn.out ++ flat_map (party_line l.holders) (take l.party-index l.parties)
