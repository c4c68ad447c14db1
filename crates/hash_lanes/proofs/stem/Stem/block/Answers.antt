use Rattle.std.proofs.Common.{◌<◌, ◌*◌, ◌+◌, ◌/◌, ◌%◌, ◌^◌, ℕ, ap, sym, slice_index, ◌∙◌, arith}
use Rattle.std.proofs.lemmas.Simd.{get_or-replicate}
use Rattle.sha2.specs.Sha256.{digest_bytes, padded_message}
use Rattle.hash_lanes.specs.Lanes.{lane}
use Rattle.hash_lanes.specs.Texts.{text_of}
use Rattle.hash_lanes.proofs.Texts.{sixteen_words, stem_word, word_of_stem, word_of_mark, word_of_value, word_of_end, word_of_zeros, word_of_length}
use Rattle.hash_lanes.proofs.stem.Stem.block.Goals as goal

pub returns : goal.returns
returns c stem i byte j k lt kt is small low mark =
    let v = lane j c.args.v in
    let words = c.args.self.now.words in
    let of_stem = λ (k : ℕ) (kt : k < 5). get_or-replicate 8 j (slice_index words k) 0 lt ∙ stem_word words stem k is.words kt ∙ sym (word_of_stem stem i byte v is.long k kt) in
    let fits_0 = c.join_bytes.ensures.fits j lt in
    let of_value = word_of_value stem i byte v is.long in
    sixteen_words _ _ _ _ _ _ _ _ _ _ _ _ _ _ _ _ (padded_message (text_of stem i byte (digest_bytes v 8))) j
    (of_stem 0 (omega arith)) (of_stem 1 (omega arith)) (of_stem 2 (omega arith)) (of_stem 3 (omega arith)) (of_stem 4 (omega arith))
    (c.join_bytes.ensures.joined j lt ∙ ap (λ (m : ℕ). m * 2 ^ 8 % 2 ^ 32 + slice_index v 0 / 2 ^ 24) mark ∙ sym (word_of_mark stem i byte v is.long small low fits_0))
    (c.join_bytes-2.ensures.joined j lt ∙ sym (of_value 0 (omega arith) (c.join_bytes-2.ensures.fits j lt)))
    (c.join_bytes-3.ensures.joined j lt ∙ sym (of_value 1 (omega arith) (c.join_bytes-3.ensures.fits j lt)))
    (c.join_bytes-4.ensures.joined j lt ∙ sym (of_value 2 (omega arith) (c.join_bytes-4.ensures.fits j lt)))
    (c.join_bytes-5.ensures.joined j lt ∙ sym (of_value 3 (omega arith) (c.join_bytes-5.ensures.fits j lt)))
    (c.join_bytes-6.ensures.joined j lt ∙ sym (of_value 4 (omega arith) (c.join_bytes-6.ensures.fits j lt)))
    (c.join_bytes-7.ensures.joined j lt ∙ sym (of_value 5 (omega arith) (c.join_bytes-7.ensures.fits j lt)))
    (c.join_bytes-8.ensures.joined j lt ∙ sym (of_value 6 (omega arith) (c.join_bytes-8.ensures.fits j lt)))
    (c.join_bytes-9.ensures.joined j lt ∙ ap (λ (n : ℕ). slice_index v 7 * 2 ^ 8 % 2 ^ 32 + n / 2 ^ 24) (get_or-replicate 8 j 2147483648 0 lt) ∙ sym (word_of_end stem i byte v is.long))
    (get_or-replicate 8 j 0 0 lt ∙ sym (word_of_zeros stem i byte v is.long))
    (get_or-replicate 8 j 440 0 lt ∙ sym (word_of_length stem i byte v is.long))
    k kt
