use Rattle.std.proofs.Common.{◌≡◌, drop}
use Rattle.std.specs.List.{list_any}
use Rattle.std.specs.Str.{bytes_eq}
use Rattle.joined_deals.proofs.signed.is_signed.Given as goal

abbrev pub invariant-loop-q : goal.invariant-loop-q
invariant-loop-q l = list_any (λ other. bytes_eq other l.text) (drop l.q l.signer.texts) ≡ list_any (λ other. bytes_eq other l.text) l.signer.texts
