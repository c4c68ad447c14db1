-- A signer that is loaded again has the texts that were signed, each under its key.
use Rattle.std.proofs.Common.{◌≡◌, ℕ, suc, ◌+◌, ◌<◌, ◌≤◌, Bool, true, List, [], ◌∷◌, ◌++◌, length, Option, Some, None, inl, inr, refl, sym, ap, ◌∙◌, arith}
use Rattle.std.specs.Int.{w32, to_be_bytes}
use Rattle.std.specs.List.{position_from}
use Rattle.std.specs.Str.{bytes_eq}
use Rattle.std.proofs.lemmas.Bool.{cases_Bool}
use Rattle.std.proofs.lemmas.Slice.Eq.{bytes_eq-Decides}
use Rattle.keeper_core.specs.declared.row.Row.{Row}
use Rattle.keeper_core.specs.Tables.{Tables}
use Rattle.keeper_core.specs.NumberedRows.{numbered_rows}
use Rattle.keeper_core.proofs.NumberedOn.{one_numbering}
use Rattle.key_ring.specs.Signers.{SignerTold, key_of, key_for, after_signing}
use Rattle.key_ring.specs.UsedTexts.{used_tab, StandsFor, LacksForm}

found_before : (test : List ℕ → Bool) (i q : ℕ) (texts more : List (List ℕ)) → position_from test i texts ≡ Some q → position_from test i (texts ++ more) ≡ Some q
found_before test i q [] more found = absurd cc
found_before test i q (text ∷ texts) more found = elim (cases_Bool (test text)) [
  | inl passes ↦ rw passes (rw passes at found)
  | inr other ↦ rw other (found_before test (i + 1) q texts more (rw other at found))
]

found_last : (test : List ℕ → Bool) (i : ℕ) (texts : List (List ℕ)) (text : List ℕ) → position_from test i texts ≡ None → test text ≡ true → position_from test i (texts ++ text ∷ []) ≡ Some (i + length texts)
found_last test i [] text none passes = rw passes (ap Some (omega arith))
found_last test i (first ∷ texts) text none passes = elim (cases_Bool (test first)) [
  | inl earlier ↦ (let clash : Some i ≡ None = rw earlier at none in absurd cc)
  | inr other ↦ rw other (found_last test (i + 1) texts text (rw other at none) passes ∙ ap Some (omega arith))
]

pub stays_with_key : (signer : SignerTold) (text : List ℕ) (q : ℕ) (more : List (List ℕ)) → key_of signer text ≡ Some q → key_of (record signer { texts = signer.texts ++ more }) text ≡ Some q
stays_with_key signer text q more found = found_before (λ signed. bytes_eq signed text) 0 q signer.texts more found

pub signed_has_key : (signer : SignerTold) (text : List ℕ) → key_of (after_signing signer text) text ≡ Some (key_for signer text)
signed_has_key signer text = by (key_of signer text) refl
  where
    by : (found : Option ℕ) → key_of signer text ≡ found → key_of (after_signing signer text) text ≡ Some (key_for signer text)
    by (Some q) is = rw is is
    by None is =
        let found = found_last (λ signed. bytes_eq signed text) 0 signer.texts text is ((bytes_eq-Decides text text).1 refl) in
        let count : 0 + length signer.texts ≡ length signer.texts = omega arith in
        rw is (found ∙ ap Some count)

-- a row among numbered rows is that of the number of the rows before it
row_in_order : (first : ℕ) (texts before : List (List ℕ)) (row : Row) (behind : List Row) → numbered_rows w32 first texts ≡ numbered_rows w32 first before ++ row ∷ behind → (row.key ≡ to_be_bytes w32 (first + length before)) × (length before < length texts)
row_in_order first [] [] row behind parted = absurd cc
row_in_order first [] (b ∷ before) row behind parted = absurd cc
row_in_order first (text ∷ texts) [] row behind parted = (let e : record { key = to_be_bytes w32 first; val = text } ≡ row = cc in sym (ap (λ (r : Row). r.key) e) ∙ ap (λ (n : ℕ). to_be_bytes w32 n) (omega arith), omega arith)
row_in_order first (text ∷ texts) (b ∷ before) row behind parted =
    let rest : numbered_rows w32 (suc first) texts ≡ numbered_rows w32 (suc first) before ++ row ∷ behind = cc in
    let later = row_in_order (suc first) texts before row behind rest in
    (later.0 ∙ ap (λ (n : ℕ). to_be_bytes w32 n) (omega arith), omega (arith, later.1))

pub none_amiss : (tables : Tables) (texts : List (List ℕ)) (size : ℕ) (row : Row) → StandsFor tables texts → length texts ≤ size → LacksForm size (Some tables) used_tab row → ⊥
none_amiss tables texts size row stands few (is_tab, rows, lists, amiss) =
    let found = row_in_order 0 texts amiss.texts row amiss.behind (sym stands ∙ sym lists ∙ amiss.parted) in
    omega (arith, amiss.amiss (found.0 ∙ ap (λ (n : ℕ). to_be_bytes w32 n) (omega arith)), found.1, few)

pub one_list : (tables : Tables) (texts others : List (List ℕ)) → StandsFor tables texts → StandsFor tables others → texts ≡ others
one_list tables texts others stands also = one_numbering w32 used_tab 0 texts others tables stands also
