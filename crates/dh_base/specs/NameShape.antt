-- How a name lies in its sixteen places.
use Rattle.std.specs.Prelude.{ℕ, ◌≡◌, ◌-◌, ◌≤◌, List, ◌++◌, length, take, drop, replicate, IsTrue}
use Rattle.std.proofs.Common.{ap, sym, ◌∙◌, arith}
use Rattle.std.proofs.lemmas.List.{take-append-drop, length-take-le}
use Rattle.dh_base.specs.Names.{is_name}
use Rattle.dh_base.specs.declared.name.Name.TheInside.{Inside}

-- the characters in use
abbrev pub chars_of : Inside → List ℕ
chars_of n = take n.len n.chars

-- the characters in use are a name, and zeros follow them
pub record IsPadded (n : Inside) : Type 0 where
  pub name : IsTrue (is_name (take n.len n.chars))
  pub fits : n.len ≤ 16
  pub places : length n.chars ≡ 16
  pub zeros : drop n.len n.chars ≡ replicate (16 - n.len) 0

-- the places of a name with these characters
abbrev pub padded : List ℕ → Inside
padded text = record { chars = text ++ replicate (16 - length text) 0; len = length text }

pub padded_back : (n : Inside) → IsPadded n → padded (chars_of n) ≡ n
padded_back n h =
    let used : length (take n.len n.chars) ≡ n.len
    = length-take-le n.len n.chars (omega (arith, h.fits, h.places)) in
    let front : padded (take n.len n.chars)
    ≡ record { chars = take n.len n.chars ++ replicate (16 - n.len) 0; len = n.len }
    = ap (λ (k : ℕ). record { chars = take n.len n.chars ++ replicate (16 - k) 0; len = k })
    used in
    front ∙ ap (λ (cs : List ℕ). record { chars = cs; len = n.len })
    (ap (λ (zs : List ℕ). take n.len n.chars ++ zs) (sym h.zeros)
    ∙ take-append-drop n.len n.chars)
