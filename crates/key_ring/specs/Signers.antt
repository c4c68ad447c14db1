-- Signers: which texts the keys of a ring have signed, and with which envelope a text is answered.
use Rattle.std.specs.Prelude.{ℕ, ◌≡◌, ◌+◌, ◌≤◌, if◌then◌else◌, List, [], ◌∷◌, ◌++◌, length, is_some, Option, None}
use Rattle.std.specs.List.{position_from}
use Rattle.std.specs.Option.{unwrap_or}
use Rattle.std.specs.Str.{bytes_eq}
use Rattle.sha2.specs.Sha256.{sha256}
use Rattle.key_ring.specs.declared.key_spec.KeySpec.{KeySpec}
use Rattle.key_ring.specs.Rings.{ring_text}
use Rattle.key_ring.specs.Making.{ring_made, envelope_made}
use Rattle.key_ring.specs.declared.envelope.Envelope.{Envelope}

-- What a signer is seen as: what its ring is made from, and the texts that its keys 0, 1, 2 and so
-- on have signed.
pub record SignerTold : Type 0 where
  pub spec : KeySpec
  pub texts : List (List ℕ)

-- the text of its ring
abbrev pub signer_ring : SignerTold → List ℕ
signer_ring signer = ring_text (ring_made signer.spec.seed signer.spec.ident signer.spec.size)

-- the account of its ring
abbrev pub signer_account : SignerTold → List ℕ
signer_account signer = sha256 (signer_ring signer)

-- the key that has signed the text, if one has
abbrev pub key_of : SignerTold → List ℕ → Option ℕ
key_of signer text = position_from (λ signed. bytes_eq signed text) 0 signer.texts

-- the key that the text belongs to: the one that has signed it, or else the next
abbrev pub key_for : SignerTold → List ℕ → ℕ
key_for signer text = unwrap_or (key_of signer text) (length signer.texts)

-- the envelope in which a key of the ring signs the text
abbrev pub envelope_by : SignerTold → ℕ → List ℕ → Envelope
envelope_by signer q text = envelope_made signer.spec.seed signer.spec.ident signer.spec.size q text

-- the next key has signed the text
abbrev pub with_text : SignerTold → List ℕ → SignerTold
with_text signer text = record signer { texts = signer.texts ++ text ∷ [] }

-- The signer once it has signed the text. A text that was signed before changes nothing.
abbrev pub after_signing : SignerTold → List ℕ → SignerTold
after_signing signer text = if is_some (key_of signer text) then signer else with_text signer text

-- The text is new, and no more keys are left than are held back.
pub record IsSpent (signer : SignerTold) (text : List ℕ) (reserve used size : ℕ) : Type 0 where
  pub is_new : key_of signer text ≡ None
  pub left : signer.spec.size ≤ length signer.texts + reserve
  pub used_is : used ≡ length signer.texts
  pub size_is : size ≡ signer.spec.size
