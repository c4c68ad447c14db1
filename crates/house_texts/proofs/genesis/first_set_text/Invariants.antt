use Rattle.std.proofs.Common.{◌≡◌, drop}
use Rattle.house_texts.specs.Genesis.{first_set_text}
use Rattle.house_texts.proofs.genesis.first_set_text.Given as goal

abbrev pub invariant-loop-declaration : goal.invariant-loop-declaration
invariant-loop-declaration l = first_set_text l.holders l.declarations ≡ first_set_text l.holders (drop l.declaration-index l.declarations)
