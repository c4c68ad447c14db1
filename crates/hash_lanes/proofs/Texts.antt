-- The words of a stem, a mark and a value with their padding.
use Rattle.std.proofs.Common.{◌≡◌, ℕ, zero, suc, ◌+◌, ◌*◌, ◌/◌, ◌%◌, ◌^◌, ◌<◌, ◌≤◌, List, [], ◌∷◌, ◌++◌, length, slice_index, refl, ap, ◌∙◌, arith, length-append, append_assoc}
use Rattle.std.proofs.lemmas.List.{get_or_append_left, get_or-append-add}
use Rattle.std.specs.Int.{w16, w64, to_be_bytes}
use Rattle.sha2.specs.Sha256.{digest_bytes, padded_message, word_at, first_words}
use Rattle.sha2.proofs.Schedule256.{slice_index-first_words}
use Rattle.hash_lanes.specs.Lanes.{lane_at}
use Rattle.hash_lanes.specs.Texts.{text_of}
use Rattle.hash_lanes.proofs.Eight.{below_sixteen}
use Rattle.hash_lanes.proofs.OneBlock.{padded_one}

-- what follows the stem in the block
abbrev after_stem : ℕ → ℕ → List ℕ → List ℕ
after_stem i byte v = to_be_bytes w16 i ++ ((byte ∷ digest_bytes v 8) ++ (0x80 ∷ to_be_bytes w64 440))

word_at_left : (s r : List ℕ) (n : ℕ) → n + 4 ≤ length s → word_at (s ++ r) n ≡ word_at s n
word_at_left s r n le =
    rw (get_or_append_left s r 0 n (omega arith), get_or_append_left s r 0 (n + 1) (omega arith), get_or_append_left s r 0 (n + 2) (omega arith), get_or_append_left s r 0 (n + 3) (omega arith)) refl

at_right : (s r : List ℕ) (n m : ℕ) → length s ≡ 20 → m ≡ 20 + n → slice_index (s ++ r) m ≡ slice_index r n
at_right s r n m long e = ap (slice_index (s ++ r)) (e ∙ omega arith) ∙ get_or-append-add s r n 0

word_at_right : (s r : List ℕ) (n : ℕ) → length s ≡ 20 → word_at (s ++ r) (20 + n) ≡ word_at r n
word_at_right s r n long =
    rw (at_right s r n (20 + n) long refl, at_right s r (n + 1) (20 + n + 1) long (omega arith), at_right s r (n + 2) (20 + n + 2) long (omega arith), at_right s r (n + 3) (20 + n + 3) long (omega arith)) refl

module _ (stem : List ℕ) (i byte : ℕ) (v : List ℕ) (long : length stem ≡ 20) where
  pub length_text : length (text_of stem i byte (digest_bytes v 8)) ≡ 55
  unfolding digest_bytes
  length_text =
      length-append (stem ++ to_be_bytes w16 i) (byte ∷ digest_bytes v 8) ∙ ap (λ (n : ℕ). n + 33) (length-append stem (to_be_bytes w16 i) ∙ ap (λ (n : ℕ). n + 2) long)

  pub padded_text : padded_message (text_of stem i byte (digest_bytes v 8)) ≡ stem ++ after_stem i byte v
  padded_text =
      padded_one (text_of stem i byte (digest_bytes v 8)) length_text
      ∙ append_assoc (stem ++ to_be_bytes w16 i) (byte ∷ digest_bytes v 8) (0x80 ∷ to_be_bytes w64 440)
      ∙ append_assoc stem (to_be_bytes w16 i) ((byte ∷ digest_bytes v 8) ++ (0x80 ∷ to_be_bytes w64 440))

  word_after : (n : ℕ) → word_at (padded_message (text_of stem i byte (digest_bytes v 8))) (20 + n) ≡ word_at (after_stem i byte v) n
  word_after n = ap (λ (b : List ℕ). word_at b (20 + n)) padded_text ∙ word_at_right stem (after_stem i byte v) n long

  pub word_of_stem : (k : ℕ) → k < 5 → word_at (padded_message (text_of stem i byte (digest_bytes v 8))) (4 * k) ≡ word_at stem (4 * k)
  word_of_stem k lt = ap (λ (b : List ℕ). word_at b (4 * k)) padded_text ∙ word_at_left stem (after_stem i byte v) (4 * k) (omega arith)

  pub word_of_mark : i < 2 ^ 16 → byte < 2 ^ 8 → slice_index v 0 < 2 ^ 32
      → word_at (padded_message (text_of stem i byte (digest_bytes v 8))) 20 ≡ (256 * i + byte) * 2 ^ 8 % 2 ^ 32 + slice_index v 0 / 2 ^ 24
  unfolding digest_bytes
  word_of_mark small low fits = word_after 0 ∙ omega arith

  pub word_of_value : (k : ℕ) → k < 7 → slice_index v (k + 1) < 2 ^ 32
      → word_at (padded_message (text_of stem i byte (digest_bytes v 8))) (24 + 4 * k) ≡ slice_index v k * 2 ^ 8 % 2 ^ 32 + slice_index v (k + 1) / 2 ^ 24
  unfolding digest_bytes
  word_of_value zero lt fits = word_after 4 ∙ omega arith
  word_of_value (suc zero) lt fits = word_after 8 ∙ omega arith
  word_of_value (suc (suc zero)) lt fits = word_after 12 ∙ omega arith
  word_of_value (suc (suc (suc zero))) lt fits = word_after 16 ∙ omega arith
  word_of_value (suc (suc (suc (suc zero)))) lt fits = word_after 20 ∙ omega arith
  word_of_value (suc (suc (suc (suc (suc zero))))) lt fits = word_after 24 ∙ omega arith
  word_of_value (suc (suc (suc (suc (suc (suc zero)))))) lt fits = word_after 28 ∙ omega arith
  word_of_value (suc (suc (suc (suc (suc (suc (suc n))))))) lt fits = absurd (omega arith)

  pub word_of_end : word_at (padded_message (text_of stem i byte (digest_bytes v 8))) 52 ≡ slice_index v 7 * 2 ^ 8 % 2 ^ 32 + 128
  unfolding digest_bytes
  word_of_end = word_after 32 ∙ omega arith

  pub word_of_zeros : word_at (padded_message (text_of stem i byte (digest_bytes v 8))) 56 ≡ 0
  unfolding digest_bytes
  word_of_zeros = word_after 36 ∙ omega arith

  pub word_of_length : word_at (padded_message (text_of stem i byte (digest_bytes v 8))) 60 ≡ 440
  unfolding digest_bytes
  word_of_length = word_after 40 ∙ omega arith

-- a word of the stem
pub stem_word : (words stem : List ℕ) (k : ℕ) → words ≡ first_words stem 5 → k < 5 → slice_index words k ≡ word_at stem (4 * k)
stem_word words stem k e lt = rw e (slice_index-first_words stem 5 k lt)

-- sixteen words in a lane, one by one
pub sixteen_words : (x0 x1 x2 x3 x4 x5 x6 x7 x8 x9 x10 x11 x12 x13 x14 x15 : List ℕ) (b : List ℕ) (j : ℕ)
    → slice_index x0 j ≡ word_at b 0 → slice_index x1 j ≡ word_at b 4 → slice_index x2 j ≡ word_at b 8 → slice_index x3 j ≡ word_at b 12
    → slice_index x4 j ≡ word_at b 16 → slice_index x5 j ≡ word_at b 20 → slice_index x6 j ≡ word_at b 24 → slice_index x7 j ≡ word_at b 28
    → slice_index x8 j ≡ word_at b 32 → slice_index x9 j ≡ word_at b 36 → slice_index x10 j ≡ word_at b 40 → slice_index x11 j ≡ word_at b 44
    → slice_index x12 j ≡ word_at b 48 → slice_index x13 j ≡ word_at b 52 → slice_index x14 j ≡ word_at b 56 → slice_index x15 j ≡ word_at b 60
    → (k : ℕ) → k < 16 → lane_at (x0 ∷ x1 ∷ x2 ∷ x3 ∷ x4 ∷ x5 ∷ x6 ∷ x7 ∷ x8 ∷ x9 ∷ x10 ∷ x11 ∷ x12 ∷ x13 ∷ x14 ∷ x15 ∷ []) k j ≡ word_at b (4 * k)
sixteen_words x0 x1 x2 x3 x4 x5 x6 x7 x8 x9 x10 x11 x12 x13 x14 x15 b j = below_sixteen (λ k. lane_at (x0 ∷ x1 ∷ x2 ∷ x3 ∷ x4 ∷ x5 ∷ x6 ∷ x7 ∷ x8 ∷ x9 ∷ x10 ∷ x11 ∷ x12 ∷ x13 ∷ x14 ∷ x15 ∷ []) k j ≡ word_at b (4 * k))
