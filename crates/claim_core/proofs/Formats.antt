-- Links and claims are taken exactly where they stand.
use Rattle.std.proofs.Common.{◌≡◌, ℕ, ◌+◌, ◌<◌, ◌≤◌, ◌^◌, ◌==◌, ◌↔◌, Bool, true, false, not, cond, nat_lt, List, ◌++◌, length, Result, Ok, Err, refl, sym, ap, subst, ◌∙◌, arith}
use Rattle.std.specs.Int.{Width, w16, w32, byte_len, to_be_bytes}
use Rattle.std.specs.Str.{bytes_eq}
use Rattle.std.proofs.lemmas.Bool.{ltb-false, le-ltb, eqb-true, eq-eqb}
use Rattle.std.proofs.lemmas.List.{length-append}
use Rattle.std.proofs.lemmas.Slice.Eq.{bytes_eq-Decides}
use Rattle.dh_base.specs.declared.base_fault.BaseFault.{BaseFault}
use Rattle.dh_base.specs.declared.id.Id.{Id}
use Rattle.dh_base.specs.Fields.{◌>>=◌, AreBytes, StandsAt, bytes_at}
use Rattle.dh_base.specs.Formats.{IsSpelledAt, TakesWhatIsSpelled, IsSpelledAfter, IsMadeOf, SpelledBy, SpelledWithin, NumberSpelled, IdSpelled, TextSpelled, ListFits, next_number, next_id, next_text, or_fault, text_field, list_text}
use Rattle.dh_base.proofs.Fields.{IsWide, wide16, wide32, bind_ok, stands-bytes, bytes-stands, StandsAt-append, StandsAt-parts}
use Rattle.dh_base.proofs.Formats.{takes-then, takes-made, takes-within, takes-or_fault, takes-same, takes-number, takes-id, takes-text, takes-list, reads-whole}
use Rattle.key_ring.specs.declared.envelope.Envelope.{Envelope}
use Rattle.key_ring.specs.declared.env_fault.EnvFault.{EnvFault}
use Rattle.key_ring.specs.declared.reading.EnvelopeAt.{EnvelopeAt}
use Rattle.key_ring.specs.EnvelopeTexts.{envelope_text, envelope_from, IsWithinLimits}
use Rattle.key_ring.proofs.EnvelopeFields.{stands-envelope, envelope-stands}
use Rattle.vote_log.specs.Entry.{Entry}
use Rattle.vote_log.specs.declared.record_fault.RecordFault.{RecordFault}
use Rattle.vote_log.specs.RecordTexts.{record_text, record_at, IsRecord}
use Rattle.vote_log.proofs.RecordTexts.{record_read}
use Rattle.cert_core.specs.declared.seat_sig.SeatSig.{SeatSig}
use Rattle.claim_core.specs.declared.link.Link.{Link}
use Rattle.claim_core.specs.declared.claim.Claim.{Claim}
use Rattle.claim_core.specs.declared.read_claim_fault.ReadClaimFault.{ReadClaimFault}
use Rattle.claim_core.specs.declared.read_claim_fault.ReadClaimFault.TheVariants.{BadForm}
use Rattle.claim_core.specs.Limits.{most_links, most_records, most_sigs}
use Rattle.claim_core.specs.ClaimTexts.{claim_tag, sig_text, sigs_text, link_text, claim_fields, claim_text, SigFits, SigsFit, LinkFits, ClaimFits}
use Rattle.claim_core.specs.ClaimReading.{field_fault, record_fault, envelope_fault, number_from, id_from, text_from, count_from, envelope_at, sig_from, record_from, sigs_from, link_from, links_from, records_from, fields_from, claim_from, link_of, claim_of}

-- ---- single fields

takes_number : (w : Width) → IsWide w → TakesWhatIsSpelled (number_from w) (NumberSpelled w)
takes_number w wide = takes-or_fault field_fault (next_number w) (NumberSpelled w) (takes-number w wide)

takes_id : TakesWhatIsSpelled id_from IdSpelled
takes_id = takes-or_fault field_fault next_id IdSpelled takes-id

takes_text : TakesWhatIsSpelled text_from TextSpelled
takes_text = takes-or_fault field_fault next_text TextSpelled takes-text

abbrev CountSpelled : Width → ℕ → ℕ → List ℕ → Type 0
CountSpelled w most = SpelledBy (λ count. count ≤ most) (to_be_bytes w)

takes_count : (w : Width) → IsWide w → (most : ℕ) → most < 256 ^ byte_len w → TakesWhatIsSpelled (count_from w most) (CountSpelled w most)
takes_count w wide most small =
    takes-same (count_from w most) (SpelledWithin (λ count. nat_lt most count) (NumberSpelled w)) (CountSpelled w most)
    (λ count text. (λ s. (ltb-false most count s.1, s.0.1), λ s. ((let few : count ≤ most = s.0 in omega arith, s.1), le-ltb most count s.0)))
    (takes-within (λ count. nat_lt most count) BadForm (number_from w) (NumberSpelled w) (takes_number w wide))

was_ok : {A E F : Type 0} (of : E → F) (r : Result A E) (x : A) → or_fault of r ≡ Ok x → r ≡ Ok x
was_ok of (Ok y) x e = cc
was_ok of (Err d) x e = absurd cc

same_pair : {A : Type 0} (x : A) (n : ℕ) (read : A × ℕ) → x ≡ read.0 → n ≡ read.1 → (let made : A × ℕ = (x, n) in made ≡ read)
same_pair {A} x n read first second =
    let with_place : A → A × ℕ = λ a. (a, n) in
    let with_value : ℕ → A × ℕ = λ k. (read.0, k) in
    ap with_place first ∙ ap with_value second

-- ---- envelopes

abbrev EnvelopeSpelled : Envelope → List ℕ → Type 0
EnvelopeSpelled = SpelledBy IsWithinLimits envelope_text

abbrev as_pair : EnvelopeAt → Result (Envelope × ℕ) ReadClaimFault
as_pair read = Ok (read.env, read.next)

takes_envelope : TakesWhatIsSpelled envelope_at EnvelopeSpelled
takes_envelope bytes at read are =
    let onward : envelope_at bytes at ≡ Ok read → IsSpelledAt EnvelopeSpelled bytes at read =
    λ e.
    let a = bind_ok (or_fault (envelope_fault at) (envelope_from bytes at)) as_pair read e in
    let s = stands-envelope bytes at a.0 are (was_ok (envelope_fault at) (envelope_from bytes at) a.0 a.1) in
    let pair : Envelope × ℕ = (a.0.env, a.0.next) in
    let same : pair ≡ read = (let h : as_pair a.0 ≡ Ok read = a.2 in cc) in
    let P : Envelope × ℕ → Type 0 = λ p. IsSpelledAt EnvelopeSpelled bytes at p in
    subst P same (record { text = envelope_text a.0.env; spelled = (s.limits, refl); stands = s.stands; next = s.next }) in
    let back : IsSpelledAt EnvelopeSpelled bytes at read → envelope_at bytes at ≡ Ok read =
    λ s.
    let there : EnvelopeAt = record { env = read.0; next = read.1 } in
    let stands : StandsAt (envelope_text read.0) bytes at = subst (λ (t : List ℕ). StandsAt t bytes at) s.spelled.1 s.stands in
    let one : envelope_from bytes at ≡ Ok there =
    envelope-stands bytes at there (record { limits = s.spelled.0; stands = stands; next = s.next ∙ ap (λ (t : List ℕ). at + length t) s.spelled.1 }) in
    ap (λ (r : Result EnvelopeAt EnvFault). or_fault (envelope_fault at) r >>= as_pair) one in
    (onward, back)

-- ---- signatures

abbrev made_sig : ℕ → Envelope → SeatSig
made_sig seat env = record { seat = seat; env = env }

-- where the length that was said is the envelope's own
abbrev own_length : ℕ → ℕ → ℕ × ℕ → Envelope × ℕ → Result (SeatSig × ℕ) ReadClaimFault
own_length seat at len env = cond (len.1 + len.0 == env.1) (Ok (made_sig seat env.0, env.1)) (Err (BadForm at))

abbrev behind_len : ℕ → List ℕ → ℕ → ℕ × ℕ → Result (SeatSig × ℕ) ReadClaimFault
behind_len seat bytes at len = envelope_at bytes len.1 >>= own_length seat at len

abbrev behind_seat : ℕ → List ℕ → ℕ → Result (SeatSig × ℕ) ReadClaimFault
behind_seat seat bytes at = number_from w32 bytes at >>= behind_len seat bytes at

abbrev EnvelopeField : Envelope → List ℕ → Type 0
EnvelopeField = SpelledBy (λ env. IsWithinLimits env × (length (envelope_text env) < 2 ^ 32)) (λ env. text_field (envelope_text env))

passed : {A F : Type 0} (b : Bool) (x y : A) (d : F) → cond b (Ok x) (Err d) ≡ Ok y → (b ≡ true) × (x ≡ y)
passed true x y d e = (refl, cc)
passed false x y d e = absurd cc

-- an envelope behind its own length
sig_there : (seat : ℕ) (bytes : List ℕ) (at n : ℕ) (env : Envelope) → number_from w32 bytes at ≡ Ok (n, at + 4) → envelope_at bytes (at + 4) ≡ Ok (env, at + 4 + n) → behind_seat seat bytes at ≡ Ok (made_sig seat env, at + 4 + n)
sig_there seat bytes at n env one two =
    let own : (at + 4 + n == at + 4 + n) ≡ true = eq-eqb (at + 4 + n) (at + 4 + n) refl in
    ap (λ (r : Result (ℕ × ℕ) ReadClaimFault). r >>= behind_len seat bytes at) one
    ∙ ap (λ (r : Result (Envelope × ℕ) ReadClaimFault). r >>= own_length seat at (n, at + 4)) two
    ∙ ap (λ (b : Bool). cond b (Ok (made_sig seat env, at + 4 + n)) (Err (BadForm at))) own

takes_behind_seat : (seat : ℕ) → TakesWhatIsSpelled (behind_seat seat) (IsMadeOf (made_sig seat) EnvelopeField)
takes_behind_seat seat bytes at read are =
    let onward : behind_seat seat bytes at ≡ Ok read → IsSpelledAt (IsMadeOf (made_sig seat) EnvelopeField) bytes at read =
    λ e.
    let a = bind_ok (number_from w32 bytes at) (behind_len seat bytes at) read e in
    let b = bind_ok (envelope_at bytes a.0.1) (own_length seat at a.0) read a.2 in
    let first = (takes_number w32 wide32 bytes at a.0 are).0 a.1 in
    let second = (takes_envelope bytes a.0.1 b.0 are).0 b.1 in
    let pair : SeatSig × ℕ = (made_sig seat b.0.0, b.0.1) in
    let c = passed (a.0.1 + a.0.0 == b.0.1) pair read (BadForm at) b.2 in
    let own : a.0.1 + a.0.0 ≡ b.0.1 = eqb-true (a.0.1 + a.0.0) b.0.1 c.0 in
    let size : a.0.0 ≡ length (envelope_text b.0.0) = omega (arith, own, second.next, ap length second.spelled.1) in
    let text : first.text ++ second.text ≡ text_field (envelope_text b.0.0) =
    ap (λ (t : List ℕ). t ++ second.text) (first.spelled.1 ∙ ap (to_be_bytes w32) size) ∙ ap (λ (t : List ℕ). to_be_bytes w32 (length (envelope_text b.0.0)) ++ t) second.spelled.1 in
    let short : length (envelope_text b.0.0) < 2 ^ 32 = (let small = first.spelled.0 in omega (arith, small, size)) in
    let P : SeatSig × ℕ → Type 0 = λ p. IsSpelledAt (IsMadeOf (made_sig seat) EnvelopeField) bytes at p in
    subst P c.1
    (record {
      text = first.text ++ second.text;
      spelled = record { value = b.0.0; spelled = ((second.spelled.0, short), text); is = refl };
      stands = StandsAt-append first.text second.text bytes at a.0.1 first.next first.stands second.stands;
      next = omega (arith, second.next, first.next, length-append first.text second.text);
    }) in
    let back : IsSpelledAt (IsMadeOf (made_sig seat) EnvelopeField) bytes at read → behind_seat seat bytes at ≡ Ok read =
    λ s.
    let env : Envelope = s.spelled.value in
    let text : List ℕ = envelope_text s.spelled.value in
    let stands : StandsAt (text_field (envelope_text s.spelled.value)) bytes at = subst (λ (t : List ℕ). StandsAt t bytes at) s.spelled.spelled.1 s.stands in
    let parts = StandsAt-parts (to_be_bytes w32 (length (envelope_text s.spelled.value))) (envelope_text s.spelled.value) bytes at stands in
    let small : length (envelope_text s.spelled.value) < 2 ^ 32 = s.spelled.spelled.0.1 in
    let one : number_from w32 bytes at ≡ Ok (length (envelope_text s.spelled.value), at + 4) =
    (takes_number w32 wide32 bytes at (length (envelope_text s.spelled.value), at + 4) are).1
    (record { text = to_be_bytes w32 (length (envelope_text s.spelled.value)); spelled = (omega arith, refl); stands = parts.0; next = refl }) in
    let two : envelope_at bytes (at + 4) ≡ Ok (s.spelled.value, at + 4 + length (envelope_text s.spelled.value)) =
    (takes_envelope bytes (at + 4) (s.spelled.value, at + 4 + length (envelope_text s.spelled.value)) are).1
    (record { text = envelope_text s.spelled.value; spelled = (s.spelled.spelled.0.0, refl); stands = parts.1; next = refl }) in
    let next : at + 4 + length (envelope_text s.spelled.value) ≡ read.1 =
    omega (arith, s.next, ap length s.spelled.spelled.1, length-append (to_be_bytes w32 (length (envelope_text s.spelled.value))) (envelope_text s.spelled.value)) in
    sig_there seat bytes at (length (envelope_text s.spelled.value)) s.spelled.value one two
    ∙ ap (λ (p : SeatSig × ℕ). Ok p) (same_pair (made_sig seat s.spelled.value) (at + 4 + length (envelope_text s.spelled.value)) read (sym s.spelled.is) next) in
    (onward, back)

abbrev SigSpelled : SeatSig → List ℕ → Type 0
SigSpelled = SpelledBy SigFits sig_text

abbrev SeatAndEnvelope : SeatSig → List ℕ → Type 0
SeatAndEnvelope = IsSpelledAfter (NumberSpelled w16) (λ seat. IsMadeOf (made_sig seat) EnvelopeField)

spelled_sig : (sig : SeatSig) (text : List ℕ) → SeatAndEnvelope sig text → SigSpelled sig text
spelled_sig sig text seat =
    let env = seat.spells_rest in
    let P : SeatSig → Type 0 = λ a. SigSpelled a text in
    let small : seat.value < 2 ^ 16 = (let h = seat.spells_front.0 in omega arith) in
    let spelled : text ≡ to_be_bytes w16 seat.value ++ text_field (envelope_text env.value) = rw (seat.is, seat.spells_front.1, env.spelled.1) refl in
    subst P (sym env.is) (record { seat = small; limits = env.spelled.0.0; short = env.spelled.0.1 }, spelled)

sig_spelled : (sig : SeatSig) (text : List ℕ) → SigSpelled sig text → SeatAndEnvelope sig text
sig_spelled sig text s =
    record {
      value = sig.seat;
      front = to_be_bytes w16 sig.seat;
      rest = text_field (envelope_text sig.env);
      spells_front = (let h = s.0.seat in omega arith, refl);
      is = s.1;
      spells_rest = record { value = sig.env; spelled = ((s.0.limits, s.0.short), refl); is = refl };
    }

pub takes_sig : TakesWhatIsSpelled sig_from SigSpelled
unfolding sig_from
takes_sig =
    takes-same sig_from SeatAndEnvelope SigSpelled (λ sig text. (spelled_sig sig text, sig_spelled sig text))
    (takes-then (number_from w16) behind_seat (NumberSpelled w16) (λ seat. IsMadeOf (made_sig seat) EnvelopeField) (takes_number w16 wide16) takes_behind_seat)

takes_sigs : TakesWhatIsSpelled sigs_from (SpelledBy SigsFit sigs_text)
takes_sigs = takes-list (count_from w16 most_sigs) (λ count. count ≤ most_sigs) (to_be_bytes w16) sig_from SigFits sig_text (takes_count w16 wide16 most_sigs (omega arith)) takes_sig

-- ---- records

abbrev RecordSpelled : Entry → List ℕ → Type 0
RecordSpelled = SpelledBy IsRecord record_text

abbrev behind_record : ℕ → Entry → Result (Entry × ℕ) ReadClaimFault
behind_record at rec = Ok (rec, at + 35)

length_record : (rec : Entry) → IsRecord rec → length (record_text rec) ≡ 35
length_record rec is = (let wide = is.1 in let sum = length-append (to_be_bytes w16 rec.num) rec.deal.0 in omega arith)

takes_record : TakesWhatIsSpelled record_from RecordSpelled
takes_record bytes at read are =
    let onward : record_from bytes at ≡ Ok read → IsSpelledAt RecordSpelled bytes at read =
    λ e.
    let a = bind_ok (or_fault record_fault (record_at bytes at)) (behind_record at) read e in
    let s = (record_read bytes at a.0 are).0 (was_ok record_fault (record_at bytes at) a.0 a.1) in
    let pair : Entry × ℕ = (a.0, at + 35) in
    let same : pair ≡ read = (let h : behind_record at a.0 ≡ Ok read = a.2 in cc) in
    let P : Entry × ℕ → Type 0 = λ p. IsSpelledAt RecordSpelled bytes at p in
    subst P same (record { text = record_text a.0; spelled = (s.0, refl); stands = s.1; next = ap (λ (n : ℕ). at + n) (sym (length_record a.0 s.0)) }) in
    let back : IsSpelledAt RecordSpelled bytes at read → record_from bytes at ≡ Ok read =
    λ s.
    let stands : StandsAt (record_text read.0) bytes at = subst (λ (t : List ℕ). StandsAt t bytes at) s.spelled.1 s.stands in
    let one : record_at bytes at ≡ Ok read.0 = (record_read bytes at read.0 are).1 (s.spelled.0, stands) in
    let next : at + 35 ≡ read.1 = omega (arith, s.next, ap length s.spelled.1, length_record read.0 s.spelled.0) in
    ap (λ (r : Result Entry RecordFault). or_fault record_fault r >>= behind_record at) one
    ∙ ap (λ (p : Entry × ℕ). Ok p) (same_pair read.0 (at + 35) read refl next) in
    (onward, back)

abbrev records_text : List Entry → List ℕ
records_text = list_text (to_be_bytes w32) record_text

abbrev RecordsFit : List Entry → Type 0
RecordsFit = ListFits (λ count. count ≤ most_records) IsRecord

takes_records : TakesWhatIsSpelled records_from (SpelledBy RecordsFit records_text)
takes_records = takes-list (count_from w32 most_records) (λ count. count ≤ most_records) (to_be_bytes w32) record_from IsRecord record_text (takes_count w32 wide32 most_records (omega arith)) takes_record

-- ---- links

abbrev made_link : List ℕ → ℕ → Id → List SeatSig → Link
made_link text len head sigs = record { set_text = text; len = len; head = head; sigs = sigs }

abbrev behind_head : (List SeatSig → Link) → List ℕ → ℕ → Result (Link × ℕ) ReadClaimFault
behind_head make bytes at = sigs_from bytes at >>= λ sigs. Ok (make sigs.0, sigs.1)

abbrev behind_link_len : (Id → List SeatSig → Link) → List ℕ → ℕ → Result (Link × ℕ) ReadClaimFault
behind_link_len make bytes at = id_from bytes at >>= λ head. behind_head (make head.0) bytes head.1

abbrev behind_text : List ℕ → List ℕ → ℕ → Result (Link × ℕ) ReadClaimFault
behind_text text bytes at = number_from w32 bytes at >>= λ len. behind_link_len (made_link text len.0) bytes len.1

abbrev SigsSpelled : List SeatSig → List ℕ → Type 0
SigsSpelled = SpelledBy SigsFit sigs_text

abbrev HeadAndSigs : (Id → List SeatSig → Link) → Link → List ℕ → Type 0
HeadAndSigs make = IsSpelledAfter IdSpelled (λ head. IsMadeOf (make head) SigsSpelled)

abbrev LenOnward : List ℕ → Link → List ℕ → Type 0
LenOnward text = IsSpelledAfter (NumberSpelled w32) (λ len. HeadAndSigs (made_link text len))

abbrev LinkParts : Link → List ℕ → Type 0
LinkParts = IsSpelledAfter TextSpelled LenOnward

abbrev pub LinkSpelled : Link → List ℕ → Type 0
LinkSpelled = SpelledBy LinkFits link_text

spelled_link : (link : Link) (text : List ℕ) → LinkParts link text → LinkSpelled link text
spelled_link link text set_text =
    let len = set_text.spells_rest in
    let head = len.spells_rest in
    let sigs = head.spells_rest in
    let P : Link → Type 0 = λ a. LinkSpelled a text in
    let small : len.value < 2 ^ 32 = (let h = len.spells_front.0 in omega arith) in
    let spelled : text ≡ text_field set_text.value ++ (to_be_bytes w32 len.value ++ (head.value.0 ++ sigs_text sigs.value)) =
    rw (set_text.is, set_text.spells_front.1, len.is, len.spells_front.1, head.is, head.spells_front.1, sigs.spelled.1) refl in
    subst P (sym sigs.is) (record { set_text = set_text.spells_front.0; len = small; head = head.spells_front.0; sigs = sigs.spelled.0 }, spelled)

link_spelled : (link : Link) (text : List ℕ) → LinkSpelled link text → LinkParts link text
link_spelled link text s =
    record {
      value = link.set_text;
      front = text_field link.set_text;
      rest = to_be_bytes w32 link.len ++ (link.head.0 ++ sigs_text link.sigs);
      spells_front = (s.0.set_text, refl);
      is = s.1;
      spells_rest = record {
        value = link.len;
        front = to_be_bytes w32 link.len;
        rest = link.head.0 ++ sigs_text link.sigs;
        spells_front = (let h = s.0.len in omega arith, refl);
        is = refl;
        spells_rest = record {
          value = link.head;
          front = link.head.0;
          rest = sigs_text link.sigs;
          spells_front = (s.0.head, refl);
          is = refl;
          spells_rest = record { value = link.sigs; spelled = (s.0.sigs, refl); is = refl };
        };
      };
    }

pub takes_link : TakesWhatIsSpelled link_from LinkSpelled
unfolding link_from
takes_link =
    takes-same link_from LinkParts LinkSpelled (λ link text. (spelled_link link text, link_spelled link text))
    (takes-then text_from behind_text TextSpelled LenOnward takes_text
    (λ text. takes-then (number_from w32) (λ len. behind_link_len (made_link text len)) (NumberSpelled w32) (λ len. HeadAndSigs (made_link text len)) (takes_number w32 wide32)
    (λ len. takes-then id_from (λ head. behind_head (made_link text len head)) IdSpelled (λ head. IsMadeOf (made_link text len head) SigsSpelled) takes_id
    (λ head. takes-made (made_link text len head) sigs_from SigsSpelled takes_sigs))))

abbrev links_text : List Link → List ℕ
links_text = list_text (to_be_bytes w16) link_text

abbrev LinksFit : List Link → Type 0
LinksFit = ListFits (λ count. count ≤ most_links) LinkFits

takes_links : TakesWhatIsSpelled links_from (SpelledBy LinksFit links_text)
takes_links = takes-list (count_from w16 most_links) (λ count. count ≤ most_links) (to_be_bytes w16) link_from LinkFits link_text (takes_count w16 wide16 most_links (omega arith)) takes_link

-- ---- claims

abbrev made_claim : List Link → List Entry → Id → List SeatSig → Claim
made_claim links recs head sigs = record { links = links; recs = recs; head = head; sigs = sigs }

abbrev behind_claim_head : (List SeatSig → Claim) → List ℕ → ℕ → Result (Claim × ℕ) ReadClaimFault
behind_claim_head make bytes at = sigs_from bytes at >>= λ sigs. Ok (make sigs.0, sigs.1)

abbrev behind_records : (Id → List SeatSig → Claim) → List ℕ → ℕ → Result (Claim × ℕ) ReadClaimFault
behind_records make bytes at = id_from bytes at >>= λ head. behind_claim_head (make head.0) bytes head.1

abbrev behind_links : List Link → List ℕ → ℕ → Result (Claim × ℕ) ReadClaimFault
behind_links links bytes at = records_from bytes at >>= λ recs. behind_records (made_claim links recs.0) bytes recs.1

abbrev LinksSpelled : List Link → List ℕ → Type 0
LinksSpelled = SpelledBy LinksFit links_text

abbrev RecordsSpelled : List Entry → List ℕ → Type 0
RecordsSpelled = SpelledBy RecordsFit records_text

abbrev ClaimHeadAndSigs : (Id → List SeatSig → Claim) → Claim → List ℕ → Type 0
ClaimHeadAndSigs make = IsSpelledAfter IdSpelled (λ head. IsMadeOf (make head) SigsSpelled)

abbrev RecordsOnward : List Link → Claim → List ℕ → Type 0
RecordsOnward links = IsSpelledAfter RecordsSpelled (λ recs. ClaimHeadAndSigs (made_claim links recs))

abbrev ClaimParts : Claim → List ℕ → Type 0
ClaimParts = IsSpelledAfter LinksSpelled RecordsOnward

abbrev FieldsSpelled : Claim → List ℕ → Type 0
FieldsSpelled = SpelledBy ClaimFits claim_fields

spelled_fields : (claim : Claim) (text : List ℕ) → ClaimParts claim text → FieldsSpelled claim text
spelled_fields claim text links =
    let recs = links.spells_rest in
    let head = recs.spells_rest in
    let sigs = head.spells_rest in
    let P : Claim → Type 0 = λ a. FieldsSpelled a text in
    let spelled : text ≡ links_text links.value ++ (records_text recs.value ++ (head.value.0 ++ sigs_text sigs.value)) =
    rw (links.is, links.spells_front.1, recs.is, recs.spells_front.1, head.is, head.spells_front.1, sigs.spelled.1) refl in
    subst P (sym sigs.is) (record { links = links.spells_front.0; recs = recs.spells_front.0; head = head.spells_front.0; sigs = sigs.spelled.0 }, spelled)

fields_spelled : (claim : Claim) (text : List ℕ) → FieldsSpelled claim text → ClaimParts claim text
fields_spelled claim text s =
    record {
      value = claim.links;
      front = links_text claim.links;
      rest = records_text claim.recs ++ (claim.head.0 ++ sigs_text claim.sigs);
      spells_front = (s.0.links, refl);
      is = s.1;
      spells_rest = record {
        value = claim.recs;
        front = records_text claim.recs;
        rest = claim.head.0 ++ sigs_text claim.sigs;
        spells_front = (s.0.recs, refl);
        is = refl;
        spells_rest = record {
          value = claim.head;
          front = claim.head.0;
          rest = sigs_text claim.sigs;
          spells_front = (s.0.head, refl);
          is = refl;
          spells_rest = record { value = claim.sigs; spelled = (s.0.sigs, refl); is = refl };
        };
      };
    }

takes_fields : TakesWhatIsSpelled fields_from FieldsSpelled
unfolding fields_from
takes_fields =
    takes-same fields_from ClaimParts FieldsSpelled (λ claim text. (spelled_fields claim text, fields_spelled claim text))
    (takes-then links_from behind_links LinksSpelled RecordsOnward takes_links
    (λ links. takes-then records_from (λ recs. behind_records (made_claim links recs)) RecordsSpelled (λ recs. ClaimHeadAndSigs (made_claim links recs)) takes_records
    (λ recs. takes-then id_from (λ head. behind_claim_head (made_claim links recs head)) IdSpelled (λ head. IsMadeOf (made_claim links recs head) SigsSpelled) takes_id
    (λ head. takes-made (made_claim links recs head) sigs_from SigsSpelled takes_sigs))))

abbrev pub ClaimSpelled : Claim → List ℕ → Type 0
ClaimSpelled = SpelledBy ClaimFits claim_text

abbrev behind_tag : List ℕ → ℕ → List ℕ → Result (Claim × ℕ) ReadClaimFault
behind_tag bytes at tag = cond (not (bytes_eq tag claim_tag)) (Err (BadForm at)) (fields_from bytes (at + 8))

let_by : {A F : Type 0} (b : Bool) (d : F) (r : Result A F) (y : A) → cond (not b) (Err d) r ≡ Ok y → (b ≡ true) × (r ≡ Ok y)
let_by true d r y e = (refl, e)
let_by false d r y e = absurd cc

pub takes_claim : TakesWhatIsSpelled claim_from ClaimSpelled
unfolding claim_from
takes_claim bytes at read are =
    let onward : claim_from bytes at ≡ Ok read → IsSpelledAt ClaimSpelled bytes at read =
    λ e.
    let a = bind_ok (or_fault field_fault (bytes_at 8 bytes at)) (behind_tag bytes at) read e in
    let first = stands-bytes 8 bytes a.0 at (was_ok field_fault (bytes_at 8 bytes at) a.0 a.1) in
    let b = let_by (bytes_eq a.0 claim_tag) (BadForm at) (fields_from bytes (at + 8)) read a.2 in
    let tag : a.0 ≡ claim_tag = (bytes_eq-Decides a.0 claim_tag).0 b.0 in
    let here : StandsAt claim_tag bytes at = subst (λ (t : List ℕ). StandsAt t bytes at) tag first.1 in
    let rest = (takes_fields bytes (at + 8) read are).0 b.1 in
    record {
      text = claim_tag ++ rest.text;
      spelled = (rest.spelled.0, ap (λ (t : List ℕ). claim_tag ++ t) rest.spelled.1);
      stands = StandsAt-append claim_tag rest.text bytes at (at + 8) refl here rest.stands;
      next = omega (arith, rest.next, length-append claim_tag rest.text);
    } in
    let back : IsSpelledAt ClaimSpelled bytes at read → claim_from bytes at ≡ Ok read =
    λ s.
    let stands : StandsAt (claim_tag ++ claim_fields read.0) bytes at = subst (λ (t : List ℕ). StandsAt t bytes at) s.spelled.1 s.stands in
    let parts = StandsAt-parts claim_tag (claim_fields read.0) bytes at stands in
    let one : bytes_at 8 bytes at ≡ Ok claim_tag = bytes-stands 8 bytes claim_tag at refl parts.0 in
    let next : read.1 ≡ at + 8 + length (claim_fields read.0) = omega (arith, s.next, ap length s.spelled.1, length-append claim_tag (claim_fields read.0)) in
    let two : fields_from bytes (at + 8) ≡ Ok read =
    (takes_fields bytes (at + 8) read are).1 (record { text = claim_fields read.0; spelled = (s.spelled.0, refl); stands = parts.1; next = next }) in
    ap (λ (r : Result (List ℕ) BaseFault). or_fault field_fault r >>= behind_tag bytes at) one ∙ two in
    (onward, back)

-- ---- all of the bytes

pub link_read : (bytes : List ℕ) (link : Link) → AreBytes bytes → (link_of bytes ≡ Ok link) ↔ (LinkFits link × (bytes ≡ link_text link))
link_read = reads-whole BadForm link_from LinkFits link_text takes_link

pub claim_read : (bytes : List ℕ) (claim : Claim) → AreBytes bytes → (claim_of bytes ≡ Ok claim) ↔ (ClaimFits claim × (bytes ≡ claim_text claim))
claim_read = reads-whole BadForm claim_from ClaimFits claim_text takes_claim
