use Rattle.std.proofs.Common.{◌≡◌, ◌<◌, ℕ, List, [], ◌∷◌, slice_index_or, ◌∙◌, arith}
use Rattle.sha2.specs.Sha256.{digest_bytes}
use Rattle.hash_lanes.specs.Texts.{value_at}
use Rattle.hash_lanes.proofs.Eight.{below_eight, same_bytes}
use Rattle.hash_lanes.proofs.values.from_bytes.Goals as goal

pub returns : goal.returns
returns c =
    let rows : List (List ℕ) = c.words_of.result ∷ c.words_of-2.result ∷ c.words_of-3.result ∷ c.words_of-4.result ∷ c.words_of-5.result ∷ c.words_of-6.result ∷ c.words_of-7.result ∷ c.words_of-8.result ∷ [] in
    let columns : List (List ℕ) = c.column.result ∷ c.column-2.result ∷ c.column-3.result ∷ c.column-4.result ∷ c.column-5.result ∷ c.column-6.result ∷ c.column-7.result ∷ c.column-8.result ∷ [] in
    let by_row : (j : ℕ) → j < 8 → value_at columns j ≡ digest_bytes (slice_index_or rows j []) 8 = λ j lt.
    same_bytes (slice_index_or rows j []) _ _ _ _ _ _ _ _ (c.column.ensures j lt) (c.column-2.ensures j lt) (c.column-3.ensures j lt) (c.column-4.ensures j lt)
    (c.column-5.ensures j lt) (c.column-6.ensures j lt) (c.column-7.ensures j lt) (c.column-8.ensures j lt) in
    below_eight _
    (by_row 0 (omega arith) ∙ c.words_of.ensures)
    (by_row 1 (omega arith) ∙ c.words_of-2.ensures)
    (by_row 2 (omega arith) ∙ c.words_of-3.ensures)
    (by_row 3 (omega arith) ∙ c.words_of-4.ensures)
    (by_row 4 (omega arith) ∙ c.words_of-5.ensures)
    (by_row 5 (omega arith) ∙ c.words_of-6.ensures)
    (by_row 6 (omega arith) ∙ c.words_of-7.ensures)
    (by_row 7 (omega arith) ∙ c.words_of-8.ensures)
