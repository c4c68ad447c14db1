-- Equal ids.
use Rattle.std.proofs.Common.{◌≡◌, ℕ, true, List, Decides, refl, ap, sym}
use Rattle.std.proofs.lemmas.Slice.Eq.{bytes_eq-Decides}
use Rattle.std.proofs.lemmas.Bool.Decides.{same_from_decides}
use Rattle.dh_base.specs.Ids.{same_id}
use Rattle.dh_base.specs.declared.id.Id.{Id}

pub id_from_same : (a b : Id) → same_id a b ≡ true → a ≡ b
id_from_same a b e = let inner : a.0 ≡ b.0 = (bytes_eq-Decides a.0 b.0).0 e in ap (λ (l : List ℕ). record { 0 = l }) inner

pub same_from_id : (a b : Id) → a ≡ b → same_id a b ≡ true
same_from_id a b e = (bytes_eq-Decides a.0 b.0).1 (ap (λ (i : Id). i.0) e)

pub same_id-self : (a : Id) → same_id a a ≡ true
same_id-self a = same_from_id a a refl

pub same_id-Decides : (a b : Id) → Decides (same_id a b) (a ≡ b)
same_id-Decides a b = (id_from_same a b, same_from_id a b)

pub same_id-swap : (a b : Id) → same_id a b ≡ same_id b a
same_id-swap a b = same_from_decides (same_id a b) (same_id b a) (same_id-Decides a b) (λ e. sym (id_from_same b a e), λ e. same_from_id b a (sym e))
