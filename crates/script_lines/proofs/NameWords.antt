-- Words that are names, read one by one.
use Rattle.std.proofs.Common.{◌≡◌, ℕ, ◌<◌, Bool, true, false, cond, ◌&&◌, Option, Some, None, List, [], ◌∷◌, ◌++◌, length, refl, sym, ap, ◌∙◌, arith, append_assoc}
use Rattle.std.specs.List.{list_all}
use Rattle.std.proofs.lemmas.Bool.{and_left, and_right}
use Rattle.std.proofs.lemmas.List.Folds.{list_all-append}
use Rattle.dh_base.specs.Names.{is_name}
use Rattle.line_text.specs.Reading.{name_word, is_done}
use Rattle.line_text.proofs.WordReading.{name_taken}
use Rattle.script_lines.specs.WordLists.{names_only}

pub no_name : (ws : List (List ℕ)) → name_word ws ≡ None → is_done ws ≡ false → list_all is_name ws ≡ false
unfolding name_word
no_name [] e going = absurd cc
no_name (w ∷ ws) e going = at (is_name w) refl e
  where
    at : (b : Bool) → is_name w ≡ b → cond {A = Option (List ℕ × List (List ℕ))} b (Some (w, ws)) None ≡ None → (is_name w && list_all is_name ws) ≡ false
    at true is e = absurd cc
    at false is e = and_left (is_name w) (list_all is_name ws) is

-- one name more in front of the words left
pub more_names : (front ws all : List (List ℕ)) (name : List ℕ) (rest : List (List ℕ)) → front ++ ws ≡ all → list_all is_name front ≡ true → name_word ws ≡ Some (name, rest) → ((front ++ name ∷ []) ++ rest ≡ all) × (list_all is_name (front ++ name ∷ []) ≡ true) × (length rest < length ws)
more_names front ws all name rest whole names read =
    let r = name_taken ws (name, rest) read in (
      append_assoc front (name ∷ []) rest ∙ (ap (λ (xs : List (List ℕ)). front ++ xs) (sym r.0) ∙ whole),
      list_all-append is_name front (name ∷ []) ∙ rw (names, r.1) refl,
      omega (arith, ap length r.0),
    )

pub names_fail : (front ws all : List (List ℕ)) → front ++ ws ≡ all → name_word ws ≡ None → is_done ws ≡ false → names_only all ≡ None
names_fail front ws all whole read going =
    let bad : list_all is_name all ≡ false = ap (list_all is_name) (sym whole) ∙ (list_all-append is_name front ws ∙ and_right (list_all is_name front) (list_all is_name ws) (no_name ws read going)) in
    rw bad refl
