-- Words in which neither a space nor a line feed stands.
use Rattle.std.proofs.Common.{◌≡◌, ℕ, List, [], ◌∷◌, arith, IsTrue}
use Rattle.std.specs.List.{AllByRecursion}
use Rattle.dh_base.specs.Spelled.{hex_text}
use Rattle.dh_base.specs.declared.id.Id.{Id}
use Rattle.line_text.specs.Bytes.{lacks}
use Rattle.line_text.specs.IdWords.{IsId}
use Rattle.line_text.proofs.HexAgain.{hex_lacks}

-- neither a space nor a line feed stands in the word
abbrev pub IsPlain : List ℕ → Type 0
IsPlain word = IsTrue (lacks 32 word) × IsTrue (lacks 10 word)

-- each of the words is plain
abbrev pub AllPlain : List (List ℕ) → Type 0
AllPlain words = AllByRecursion IsPlain words

pub id_plain : (id : Id) → IsId id → IsPlain (hex_text id.0)
id_plain id h = (hex_lacks 32 id.0 (omega arith) h.1, hex_lacks 10 id.0 (omega arith) h.1)

pub no_spaces : (words : List (List ℕ)) → AllPlain words → AllByRecursion (λ word. IsTrue (lacks 32 word)) words
no_spaces [] h = tt
no_spaces (w ∷ ws) h = (h.0.0, no_spaces ws h.1)

pub no_feeds : (words : List (List ℕ)) → AllPlain words → AllByRecursion (λ word. IsTrue (lacks 10 word)) words
no_feeds [] h = tt
no_feeds (w ∷ ws) h = (h.0.1, no_feeds ws h.1)
