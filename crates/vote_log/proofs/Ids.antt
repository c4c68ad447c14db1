-- Ids that are compared by their bytes.
use Rattle.std.proofs.Common.{◌≡◌, List, ℕ, Bool, true, false, refl, ap, sym, ◌∙◌}
use Rattle.std.specs.Str.{bytes_eq}
use Rattle.std.proofs.lemmas.Bool.{false_from_ne_true, true≢false}
use Rattle.std.proofs.lemmas.Slice.Eq.{bytes_eq-Decides}
use Rattle.dh_base.specs.declared.id.Id.{Id}

abbrev id_of : List ℕ → Id
id_of bytes = record { 0 = bytes }

pub same_from_bytes : (a b : Id) → bytes_eq a.0 b.0 ≡ true → a ≡ b
same_from_bytes a b e = ap id_of ((bytes_eq-Decides a.0 b.0).0 e)

pub bytes_eq-refl : (a : Id) → bytes_eq a.0 a.0 ≡ true
bytes_eq-refl a = (bytes_eq-Decides a.0 a.0).1 refl

pub bytes_eq-sym : (a b : Id) (r : Bool) → bytes_eq a.0 b.0 ≡ r → bytes_eq b.0 a.0 ≡ r
bytes_eq-sym a b true e = (bytes_eq-Decides b.0 a.0).1 (sym ((bytes_eq-Decides a.0 b.0).0 e))
bytes_eq-sym a b false e =
    false_from_ne_true (bytes_eq b.0 a.0) (λ t. true≢false (sym ((bytes_eq-Decides a.0 b.0).1 (sym ((bytes_eq-Decides b.0 a.0).0 t))) ∙ e))
