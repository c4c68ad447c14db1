use Rattle.std.proofs.Common.{◌≡◌, ◌++◌, take, string_bytes}
use Rattle.std.specs.List.{flat_map}
use Rattle.house_texts.specs.Deals.{step_line}
use Rattle.house_texts.proofs.deals.write_steps.Given as goal

abbrev pub invariant-loop-declaration : goal.invariant-loop-declaration
invariant-loop-declaration l = string_bytes l.out ≡ string_bytes l.fn.out ++ flat_map (step_line l.deal) (take l.declaration-index l.declarations)
