use Rattle.std.proofs.Common.{◌+◌, ◌++◌, [], slice_index_or, inl, inr, ap, ◌∙◌, arith}
use Rattle.std.proofs.lemmas.Bool.{cases_lt}
use Rattle.std.specs.Int.{w32, to_be_bytes}
use Rattle.ots_core.specs.Chains.{chain}
use Rattle.ots_core.proofs.Ways.{no_turn, turn_taken, turn_let_go}
use Rattle.ots_core.proofs.side_by_side.walk_eight.Goals as goal

pub loop-turn-init : goal.loop-turn-init
loop-turn-init c j i a b lt high le bytes from to =
    c.from_bytes-values.ensures j lt ∙ no_turn c.args.key.now.ident c.args.key.now.q i a b (slice_index_or c.args.start.now j []) le

pub loop-turn-preserved : goal.loop-turn-preserved
loop-turn-preserved c j i a b lt high le bytes from to =
    let key = c.args.key.now in
    let start = slice_index_or c.args.start.now j [] in
    let held = c.loop-turn.invariant j i a b lt high le bytes from to in
    let at = c.steps_on.ensures j lt in
    let turn = c.loop-turn.turn in
    elim (cases_lt (a + turn) b) [
      | inl on ↦
          turn_taken key.ident key.q i a b start turn _ _ on held
          (c.hash_below-next.ensures.below (key.ident ++ to_be_bytes w32 key.q) i (a + turn) j lt (omega arith) c.requires.key high (omega arith) (omega arith))
      | inr ended ↦ turn_let_go key.ident key.q i a b start turn _ _ ended held (c.hash_below-next.ensures.others j lt (omega arith))
    ]

pub returns : goal.returns
returns c j i a b lt high le few bytes from to =
    c.to_bytes.ensures j lt ∙ c.loop-turn.invariant j i a b lt high le bytes from to
    ∙ ap (λ (n : _). chain c.args.key.now.ident c.args.key.now.q i a n (slice_index_or c.args.start.now j [])) (omega arith)
