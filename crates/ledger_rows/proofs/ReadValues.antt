-- Values that are read field by field.
use Rattle.std.proofs.Common.{◌≡◌, ℕ, ◌-◌, ◌≤◌, List, length, take, drop, Option, Some, arith}
use Rattle.std.specs.Prelude.{slice_index}
use Rattle.std.specs.Int.{w32}
use Rattle.std.proofs.lemmas.Bool.{le-ltb}
use Rattle.std.proofs.lemmas.List.{length-drop, take_all}
use Rattle.dh_base.specs.declared.id.Id.{Id}
use Rattle.dh_base.specs.declared.outcome.Outcome.{Outcome}
use Rattle.ledger_rows.specs.declared.registration.Registration.{Registration}
use Rattle.ledger_rows.specs.declared.entry.Entry.TheVariants.{Act}
use Rattle.ledger_rows.specs.RowValues.{number_from, id_from, settled_in, registration_in, act_in}

-- what is copied from a place on is all that stands behind it
pub whole_rest : (n : ℕ) (bytes : List ℕ) → take (length bytes - n) (drop n bytes) ≡ drop n bytes
whole_rest n bytes = take_all (length bytes - n) (drop n bytes) (omega (arith, length-drop n bytes))

pub act_is : (bytes : List ℕ) (account : Id) (q : ℕ) (message : List ℕ) → 37 ≤ length bytes → account ≡ id_from 1 bytes → q ≡ number_from w32 33 bytes → message ≡ drop 37 bytes → Some (Act account q message) ≡ act_in bytes
act_is bytes account q message long is_account is_q is_message = rw (le-ltb (length bytes) 37 long) (λ i. Some (Act (is_account i) (is_q i) (is_message i)))

abbrev registered : Id → List ℕ → Option Outcome → Registration
registered registrant text settled = record { registrant = registrant; settled = settled; text = text }

pub registration_is : (bytes : List ℕ) (registrant : Id) (settled : Option Outcome) (text : List ℕ) → 33 ≤ length bytes → registrant ≡ id_from 0 bytes → settled_in (slice_index bytes 32) ≡ Some settled → text ≡ drop 33 bytes → Some (registered registrant text settled) ≡ registration_in bytes
registration_is bytes registrant settled text long is_registrant is_settled is_text =
    rw (le-ltb (length bytes) 33 long, is_settled) (λ i. Some (registered (is_registrant i) (is_text i) settled))
