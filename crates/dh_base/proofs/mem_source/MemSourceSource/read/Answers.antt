use Rattle.std.proofs.Common.{◌≡◌, ◌≤◌, ◌-◌, ℕ, List, take, drop, length, sym, ap, ◌∙◌, arith}
use Rattle.std.proofs.lemmas.Grind.{common_steps}
use Rattle.std.proofs.lemmas.List.{take_rest}
use Rattle.dh_base.specs.Memory.{SourceTold}
use Rattle.dh_base.proofs.Moving.{front_and_rest}
use Rattle.dh_base.proofs.mem_source.MemSourceSource.read.Goals as goal

pub returns-clause-took : goal.returns-clause-took
returns-clause-took c =
    let all : List ℕ = c.as_slice.result.now in
    let at : ℕ = c.self.inside.at in
    let rest : take (length all - at) (drop at all) ≡ drop at c.self.inside.bytes = take_rest all at ∙ ap (drop at) c.as_slice.ensures in
    let fits : c.min-n.result ≤ length (drop at c.self.inside.bytes) = omega (arith, ap length rest) in
    let copied : c.copy_from_slice.new.self ≡ take c.min-n.result (drop at c.self.inside.bytes) = c.copy_from_slice.ensures.after ∙ ap (take c.min-n.result) rest in
    record {
      left = ap (λ (s : SourceTold). s.left) (sym c.self.view_is) ∙ front_and_rest c.self.inside.bytes c.copy_from_slice.new.self (drop c.min-n.result c.args.buffer.now) at c.min-n.result fits copied;
      written = tt;
      faults = grind (arith, common_steps);
    }
