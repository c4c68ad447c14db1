-- What a source gave, piece by piece.
use Rattle.std.proofs.Common.{◌≡◌, ℕ, ◌≤◌, ◌+◌, List, [], ◌++◌, length, take, drop, Option, Some, None, IfSome, IsSomeAnd, sym, ap, subst, ◌∙◌, append_assoc, arith}
use Rattle.std.proofs.lemmas.List.{take_at, take_all, append-nil, length-append, length-take}
use Rattle.std.proofs.Math.Seq.{drop-append_seam}
use Rattle.std.proofs.Math.ListN.{drop_of_length-le}
use Rattle.std.specs.Io.KnownBytes.{Consumes, Keeps, IsAtEnd}
use Rattle.deal_desk.specs.Inputs.{most_read, WasRead, GaveFront}

-- the bytes are those that were taken so far
abbrev pub Taken : Option (List ℕ) → List ℕ → Option (List ℕ) → Type 0
Taken before bytes after = IfSome before (λ all. IsSomeAnd after (λ rest. all ≡ bytes ++ rest))

drop_at : (bytes rest : List ℕ) (n : ℕ) → length bytes ≡ n → drop n (bytes ++ rest) ≡ rest
drop_at bytes rest n e = subst (λ (k : ℕ). drop k (bytes ++ rest) ≡ rest) e (drop-append_seam bytes rest)

-- as many bytes were taken as are read at most
pub read_to_limit : (before : Option (List ℕ)) (bytes : List ℕ) (after : Option (List ℕ)) → Taken before bytes after → length bytes ≡ most_read → WasRead before bytes after
read_to_limit None bytes after taken full = tt
read_to_limit (Some all) bytes None taken full = absurd taken
read_to_limit (Some all) bytes (Some rest) taken full = (
  sym (take_at bytes rest most_read full) ∙ ap (λ (l : List ℕ). take most_read l) (sym taken),
  ap Some (sym (drop_at bytes rest most_read full) ∙ ap (λ (l : List ℕ). drop most_read l) (sym taken)),
)

-- nothing was left
pub read_to_end : (before : Option (List ℕ)) (bytes : List ℕ) (now : Option (List ℕ)) (piece : List ℕ) (n : ℕ) (after : Option (List ℕ)) → Taken before bytes now → length bytes ≤ most_read → IsAtEnd after → Consumes now after (take n piece) → n ≡ 0 → WasRead before bytes after
read_to_end None bytes now piece n after taken small end takes zero = tt
read_to_end (Some all) bytes None piece n after taken small end takes zero = absurd taken
read_to_end (Some all) bytes (Some rest) piece n None taken small end takes zero = absurd takes
read_to_end (Some all) bytes (Some rest) piece n (Some last) taken small end takes zero = (
  sym (ap (λ (l : List ℕ). take most_read l) whole ∙ take_all most_read bytes small),
  ap Some (end ∙ sym (ap (λ (l : List ℕ). drop most_read l) whole ∙ drop_of_length-le bytes {i = most_read} small)),
)
  where
    none : rest ≡ []
    none = subst (λ (k : ℕ). rest ≡ take k piece ++ last) zero takes ∙ end

    whole : all ≡ bytes
    whole = taken ∙ (ap (λ (l : List ℕ). bytes ++ l) none ∙ append-nil bytes)

-- a piece more was taken
pub taken_more : (before : Option (List ℕ)) (bytes : List ℕ) (now : Option (List ℕ)) (piece : List ℕ) (n : ℕ) (after : Option (List ℕ)) → Taken before bytes now → Consumes now after (take n piece) → Taken before (bytes ++ take n piece) after
taken_more None bytes now piece n after taken takes = tt
taken_more (Some all) bytes None piece n after taken takes = absurd taken
taken_more (Some all) bytes (Some rest) piece n None taken takes = absurd takes
taken_more (Some all) bytes (Some rest) piece n (Some last) taken takes =
    taken ∙ (ap (λ (l : List ℕ). bytes ++ l) takes ∙ sym (append_assoc bytes (take n piece) last))

-- what was taken is a front
pub gave_front : (before : Option (List ℕ)) (bytes : List ℕ) (after : Option (List ℕ)) → Taken before bytes after → length bytes ≤ most_read → GaveFront before after
gave_front None bytes after taken small = tt
gave_front (Some all) bytes None taken small = absurd taken
gave_front (Some all) bytes (Some rest) taken small =
    (length bytes, small, ap Some (sym (drop-append_seam bytes rest) ∙ ap (λ (l : List ℕ). drop (length bytes) l) (sym taken)))

pub gave_piece : (before : Option (List ℕ)) (bytes : List ℕ) (now : Option (List ℕ)) (piece : List ℕ) (n : ℕ) (after : Option (List ℕ)) → Taken before bytes now → Consumes now after (take n piece) → length bytes + n ≤ most_read → GaveFront before after
gave_piece before bytes now piece n after taken takes small =
    gave_front before (bytes ++ take n piece) after (taken_more before bytes now piece n after taken takes)
    (omega (arith, length-append bytes (take n piece), length-take n piece))

-- where a call took nothing
pub gave_no_more : (before : Option (List ℕ)) (bytes : List ℕ) (now after : Option (List ℕ)) → Taken before bytes now → Keeps now after → length bytes ≤ most_read → GaveFront before after
gave_no_more None bytes now after taken kept small = tt
gave_no_more (Some all) bytes None after taken kept small = absurd taken
gave_no_more (Some all) bytes (Some rest) None taken kept small = absurd kept
gave_no_more (Some all) bytes (Some rest) (Some same) taken kept small =
    gave_front (Some all) bytes (Some same) (taken ∙ ap (λ (l : List ℕ). bytes ++ l) (sym kept)) small
