-- What a line says of a holder of keys.
use Rattle.std.specs.Prelude.{ℕ, List, Option, Some, None, codes}
use Rattle.line_text.specs.Reading.{◌>>=◌, name_word, number_u32_word, ended}
use Rattle.house_words.specs.WordKinds.{one_of}
use Rattle.house_grammar.specs.declared.holder_line.Conduct.{Conduct}
use Rattle.house_grammar.specs.declared.holder_line.Conduct.TheVariants.{Honest, Deviant}
use Rattle.house_grammar.specs.declared.holder_line.KeySize.{KeySize}
use Rattle.house_grammar.specs.declared.holder_line.KeySize.TheVariants.{Ring, TreeOfHeight5, TreeOfHeight10}

abbrev pub ring_or_tree : Option (Option ℕ × List (List ℕ)) → Option (KeySize × List (List ℕ))
    → Option (KeySize × List (List ℕ))
ring_or_tree (Some count) tree = Some (Ring count.0, count.1)
ring_or_tree None tree = tree

-- the keys of a holder: a number of them, or a tree
unfoldable pub size_word : List (List ℕ) → Option (KeySize × List (List ℕ))
size_word ws =
    ring_or_tree (number_u32_word ws)
    (one_of (codes "t5") TreeOfHeight5 (codes "t6") TreeOfHeight10 ws)

-- a holder of keys
unfoldable pub name_conduct_size : List (List ℕ) → Option (List ℕ × Conduct × KeySize)
name_conduct_size ws = do
  name ← name_word ws
  conduct ← one_of (codes "honest") Honest (codes "deviant") Deviant name.1
  size ← size_word conduct.1
  ended size.1 (name.0, conduct.0, size.0)
