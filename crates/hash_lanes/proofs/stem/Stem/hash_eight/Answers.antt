use Rattle.std.proofs.Common.{◌≡◌, ◌<◌, ◌*◌, ℕ, List, slice_index, ap, sym, ◌∙◌, arith}
use Rattle.sha2.specs.Sha256.{compress, digest_bytes, initial_hash_256, padded_message, rounds, schedule, word_at}
use Rattle.hash_lanes.specs.Lanes.{lane, words}
use Rattle.hash_lanes.specs.Texts.{text_of}
use Rattle.hash_lanes.proofs.OneBlock.{hash_one}
use Rattle.hash_lanes.proofs.Rounds.{rounds_of_block}
use Rattle.hash_lanes.proofs.Texts.{length_text, word_of_stem}
use Rattle.hash_lanes.proofs.Windows.{words_at}
use Rattle.hash_lanes.proofs.stem.Stem.hash_eight.Goals as goal

pub returns : goal.returns
returns c stem i byte j lt is small low mark =
    let v = lane j c.args.values in
    let text = text_of stem i byte (digest_bytes v 8) in
    let b = padded_message text in
    let initial = c.spread.ensures j lt in
    let block : (k : ℕ) → k < 16 → slice_index (words j c.block-words.result) k ≡ word_at b (4 * k) = λ k kt.
    words_at j c.block-words.result k (omega arith) ∙ c.block-words.ensures stem i byte j k lt kt is small low mark in
    let five = c.spread-2.ensures j lt ∙ is.state ∙ rounds_of_block initial_hash_256 stem b 5 (omega arith) (λ k kt. word_of_stem stem i byte v is.long k kt)
    ∙ sym (ap (λ (h : List ℕ). rounds h (schedule b 48) 5) initial) in
    ap (λ (h : List ℕ). digest_bytes h 8) (c.finish.ensures j b lt block five ∙ ap (λ (h : List ℕ). compress h b) initial)
    ∙ sym (hash_one text (length_text stem i byte v is.long))
