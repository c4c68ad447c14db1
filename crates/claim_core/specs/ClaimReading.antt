-- How links and claims are read from bytes, and the first field at fault: where it begins that is
-- cut, out of range or left over.
use Rattle.std.specs.Prelude.{ℕ, ◌≡◌, ◌+◌, ◌==◌, not, nat_lt, if◌then◌else◌, List, Result, Ok, Err}
use Rattle.std.specs.Int.{Width, w16, w32}
use Rattle.std.specs.Str.{bytes_eq}
use Rattle.dh_base.specs.declared.base_fault.BaseFault.{BaseFault}
use Rattle.dh_base.specs.declared.base_fault.BaseFault.TheVariants.{Short, BadName}
use Rattle.dh_base.specs.declared.id.Id.{Id}
use Rattle.dh_base.specs.Fields.{◌>>=◌, bytes_at}
use Rattle.dh_base.specs.Formats.{next_number, next_id, next_text, next_values, or_fault, unless_out_of_range, whole_of}
use Rattle.key_ring.specs.declared.envelope.Envelope.{Envelope}
use Rattle.key_ring.specs.declared.env_fault.EnvFault.{EnvFault}
use Rattle.key_ring.specs.declared.env_fault.EnvFault.TheVariants.{BadForm as BadEnvelope, BadRing, KeyOutside, BadSignature, NoMemory as NoRoom}
use Rattle.key_ring.specs.EnvelopeTexts.{envelope_from}
use Rattle.vote_log.specs.Entry.{Entry}
use Rattle.vote_log.specs.declared.record_fault.RecordFault.{RecordFault}
use Rattle.vote_log.specs.RecordTexts.{record_at}
use Rattle.cert_core.specs.declared.seat_sig.SeatSig.{SeatSig}
use Rattle.claim_core.specs.declared.link.Link.{Link}
use Rattle.claim_core.specs.declared.claim.Claim.{Claim}
use Rattle.claim_core.specs.declared.read_claim_fault.ReadClaimFault.{ReadClaimFault}
use Rattle.claim_core.specs.declared.read_claim_fault.ReadClaimFault.TheVariants.{BadForm, NoMemory}
use Rattle.claim_core.specs.Limits.{most_links, most_records, most_sigs}
use Rattle.claim_core.specs.ClaimTexts.{claim_tag}

-- ---- faults of fields

abbrev pub field_fault : BaseFault → ReadClaimFault
field_fault (Short at) = BadForm at
field_fault (BadName at) = BadForm at

abbrev pub record_fault : RecordFault → ReadClaimFault
record_fault fault = BadForm fault.at

-- An envelope that is read by its fields has a fault of form, and no other.
abbrev pub envelope_fault : ℕ → EnvFault → ReadClaimFault
envelope_fault place (BadEnvelope at) = BadForm at
envelope_fault place (BadRing at) = BadForm place
envelope_fault place (KeyOutside q n) = BadForm place
envelope_fault place BadSignature = BadForm place
envelope_fault place NoRoom = NoMemory

-- ---- fields, each with the place behind it

abbrev pub number_from : Width → List ℕ → ℕ → Result (ℕ × ℕ) ReadClaimFault
number_from w bytes at = or_fault field_fault (next_number w bytes at)

abbrev pub id_from : List ℕ → ℕ → Result (Id × ℕ) ReadClaimFault
id_from bytes at = or_fault field_fault (next_id bytes at)

abbrev pub text_from : List ℕ → ℕ → Result (List ℕ × ℕ) ReadClaimFault
text_from bytes at = or_fault field_fault (next_text bytes at)

-- the number of values that follow, which is at most so great
abbrev pub count_from : Width → ℕ → List ℕ → ℕ → Result (ℕ × ℕ) ReadClaimFault
count_from w most = unless_out_of_range (λ count. nat_lt most count) BadForm (number_from w)

abbrev pub envelope_at : List ℕ → ℕ → Result (Envelope × ℕ) ReadClaimFault
envelope_at bytes at =
    or_fault (envelope_fault at) (envelope_from bytes at) >>= λ read. Ok (read.env, read.next)

-- An envelope is read by its own fields, whatever the length before it says. Where it is read, a
-- length other than its own is out of range.
unfoldable pub sig_from : List ℕ → ℕ → Result (SeatSig × ℕ) ReadClaimFault
sig_from bytes at = do
  seat ← number_from w16 bytes at
  len ← number_from w32 bytes seat.1
  env ← envelope_at bytes len.1
  if len.1 + len.0 == env.1 then Ok (record { seat = seat.0; env = env.0 }, env.1)
      else Err (BadForm seat.1)

abbrev pub record_from : List ℕ → ℕ → Result (Entry × ℕ) ReadClaimFault
record_from bytes at = or_fault record_fault (record_at bytes at) >>= λ rec. Ok (rec, at + 35)

-- ---- lists, links and claims

abbrev pub sigs_from : List ℕ → ℕ → Result (List SeatSig × ℕ) ReadClaimFault
sigs_from bytes at =
    count_from w16 most_sigs bytes at >>= λ count. next_values sig_from count.0 bytes count.1

unfoldable pub link_from : List ℕ → ℕ → Result (Link × ℕ) ReadClaimFault
link_from bytes at = do
  text ← text_from bytes at
  len ← number_from w32 bytes text.1
  head ← id_from bytes len.1
  sigs ← sigs_from bytes head.1
  Ok (record { set_text = text.0; len = len.0; head = head.0; sigs = sigs.0 }, sigs.1)

abbrev pub links_from : List ℕ → ℕ → Result (List Link × ℕ) ReadClaimFault
links_from bytes at =
    count_from w16 most_links bytes at >>= λ count. next_values link_from count.0 bytes count.1

abbrev pub records_from : List ℕ → ℕ → Result (List Entry × ℕ) ReadClaimFault
records_from bytes at =
    count_from w32 most_records bytes at >>= λ count. next_values record_from count.0 bytes count.1

unfoldable pub fields_from : List ℕ → ℕ → Result (Claim × ℕ) ReadClaimFault
fields_from bytes at = do
  links ← links_from bytes at
  recs ← records_from bytes links.1
  head ← id_from bytes recs.1
  sigs ← sigs_from bytes head.1
  Ok (record { links = links.0; recs = recs.0; head = head.0; sigs = sigs.0 }, sigs.1)

-- Bytes that are not the tag are out of range.
unfoldable pub claim_from : List ℕ → ℕ → Result (Claim × ℕ) ReadClaimFault
claim_from bytes at = do
  tag ← or_fault field_fault (bytes_at 8 bytes at)
  if not (bytes_eq tag claim_tag) then Err (BadForm at) else fields_from bytes (at + 8)

-- all of the bytes
abbrev pub link_of : List ℕ → Result Link ReadClaimFault
link_of = whole_of BadForm link_from

abbrev pub claim_of : List ℕ → Result Claim ReadClaimFault
claim_of = whole_of BadForm claim_from

-- What a call answers is what reading gives, unless memory ran out.
abbrev pub Gives : {A : Type 0} → Result A ReadClaimFault → Result A ReadClaimFault → Type 0
Gives (Err NoMemory) read = Unit {0}
Gives answer read = read ≡ answer
