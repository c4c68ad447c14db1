-- What is copied to the front of a buffer.
use Rattle.std.proofs.Common.{◌≡◌, ℕ, ◌+◌, ◌≤◌, List, ◌++◌, length, take, drop, ap, sym, ◌∙◌}
use Rattle.std.proofs.lemmas.List.{take_at, take-append-drop, length-take-le, drop-drop}

pub front_and_rest : (bytes copied after : List ℕ) (at n : ℕ) → n ≤ length (drop at bytes) → copied ≡ take n (drop at bytes) → drop at bytes ≡ take n (copied ++ after) ++ drop (at + n) bytes
front_and_rest bytes copied after at n fits is =
    let size : length copied ≡ n = ap length is ∙ length-take-le n (drop at bytes) fits in
    sym (rw (take_at copied after n size, is, ← drop-drop n at bytes) (take-append-drop n (drop at bytes)))
