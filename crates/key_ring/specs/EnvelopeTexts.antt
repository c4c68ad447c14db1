-- The texts of envelopes: one spelling each, and the first field at fault.
use Rattle.std.specs.Prelude.{ℕ, ◌≡◌, ◌+◌, ◌-◌, ◌^◌, ◌<◌, ◌≤◌, nat_lt, if◌then◌else◌, List, ◌++◌, length, Result, Ok, Err}
use Rattle.std.specs.Int.{w32, to_be_bytes}
use Rattle.dh_base.specs.declared.base_fault.BaseFault.{BaseFault}
use Rattle.dh_base.specs.declared.base_fault.BaseFault.TheVariants.{Short, BadName}
use Rattle.dh_base.specs.Fields.{◌>>=◌, StandsAt, bytes_at, number_at}
use Rattle.dh_base.specs.Formats.{text_field}
use Rattle.ots_core.specs.declared.ots_sig.OtsSig.{OtsSig}
use Rattle.ots_core.specs.declared.sig_fault.SigFault.{SigFault}
use Rattle.ots_core.specs.SignatureText.{sig_text, sig_of, IsSized}
use Rattle.key_ring.specs.declared.env_fault.EnvFault.{EnvFault}
use Rattle.key_ring.specs.declared.env_fault.EnvFault.TheVariants.{BadForm, NoMemory}
use Rattle.key_ring.specs.declared.envelope.Envelope.{Envelope}
use Rattle.key_ring.specs.declared.reading.EnvelopeAt.{EnvelopeAt}

abbrev pub envelope_text : Envelope → List ℕ
envelope_text env =
    text_field env.ring ++ to_be_bytes w32 env.q ++ sig_text env.sig ++ text_field env.message

-- the most bytes of a message
abbrev pub most_message : ℕ
most_message = 16384

-- the limits of what a text of an envelope holds
pub record IsWithinLimits (env : Envelope) : Type 0 where
  pub ring : length env.ring < 2 ^ 32
  pub q : env.q < 2 ^ 32
  pub sig : IsSized env.sig
  pub message : length env.message ≤ 16384

-- The text of the envelope stands at that place, and the next place is behind it.
pub record IsReadAt (bytes : List ℕ) (at : ℕ) (read : EnvelopeAt) : Type 0 where
  pub limits : IsWithinLimits read.env
  pub stands : StandsAt (envelope_text read.env) bytes at
  pub next : read.next ≡ at + length (envelope_text read.env)

-- a field that is cut breaks the form where it begins
abbrev pub env_fault_of : BaseFault → EnvFault
env_fault_of (Short at) = BadForm at
env_fault_of (BadName at) = BadForm at

abbrev pub in_form : {A : Type 0} → Result A BaseFault → Result A EnvFault
in_form (Ok x) = Ok x
in_form (Err fault) = Err (env_fault_of fault)

-- A text of at most that many bytes, and the place behind it. A greater length is out of range
-- where the length stands.
unfoldable pub text_at : ℕ → List ℕ → ℕ → Result (List ℕ × ℕ) EnvFault
text_at most bytes at = do
  len ← in_form (number_at w32 bytes at)
  if nat_lt most len then Err (BadForm at) else do
    text ← in_form (bytes_at len bytes (at + 4))
    Ok (text, at + 4 + len)

-- a signature whose bytes have the right number
abbrev pub sig_in_form : ℕ → Result OtsSig SigFault → Result OtsSig EnvFault
sig_in_form at (Ok sig) = Ok sig
sig_in_form at (Err fault) = Err (BadForm at)

-- A signature is one field, also where its type is another.
unfoldable pub sig_at : List ℕ → ℕ → Result OtsSig EnvFault
sig_at bytes at = do
  text ← in_form (bytes_at 2180 bytes at)
  sig_in_form at (sig_of text)

unfoldable pub envelope_from : List ℕ → ℕ → Result EnvelopeAt EnvFault
envelope_from bytes at = do
  ring ← text_at (2 ^ 32 - 1) bytes at
  q ← in_form (number_at w32 bytes ring.1)
  sig ← sig_at bytes (ring.1 + 4)
  message ← text_at most_message bytes (ring.1 + 4 + 2180)
  Ok (record {
    env = record { ring = ring.0; q = q; sig = sig; message = message.0 };
    next = message.1;
  })

-- all of the bytes
unfoldable pub envelope_of : List ℕ → Result Envelope EnvFault
envelope_of bytes = do
  read ← envelope_from bytes 0
  if nat_lt read.next (length bytes) then Err (BadForm read.next) else Ok read.env

-- What a call answers is what reading gives, unless memory ran out.
abbrev pub Gives : {A : Type 0} → Result A EnvFault → Result A EnvFault → Type 0
Gives (Err NoMemory) read = Unit {0}
Gives answer read = read ≡ answer
