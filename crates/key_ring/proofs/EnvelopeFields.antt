-- The fields of an envelope's text are read exactly where they stand.
use Rattle.std.proofs.Common.{◌≡◌, ℕ, ◌+◌, ◌-◌, ◌^◌, ◌<◌, ◌≤◌, Bool, true, false, cond, ltb, List, ◌++◌, length, take, drop, Result, Ok, Err, refl, sym, ap, subst, ◌∙◌, arith}
use Rattle.std.specs.Prelude.{IfOk}
use Rattle.std.specs.Int.{w32, to_be_bytes}
use Rattle.std.proofs.lemmas.Bool.{ltb-false, le-ltb}
use Rattle.std.proofs.lemmas.List.{length-append, take_all}
use Rattle.dh_base.specs.declared.base_fault.BaseFault.{BaseFault}
use Rattle.dh_base.specs.Fields.{AreBytes, StandsAt, ◌>>=◌, bytes_at, number_at}
use Rattle.dh_base.proofs.Fields.{bind_ok, wide32, stands-number, number-stands, stands-bytes, bytes-stands, StandsAt-append, StandsAt-parts, AreBytes-take, AreBytes-drop}
use Rattle.ots_core.specs.declared.ots_sig.OtsSig.{OtsSig}
use Rattle.ots_core.specs.declared.sig_fault.SigFault.{SigFault}
use Rattle.ots_core.specs.SignatureText.{sig_text, sig_of, IsSized}
use Rattle.ots_core.proofs.SignatureTexts.{length-sig_text, sig_of-text, text-sig_of}
use Rattle.key_ring.specs.declared.env_fault.EnvFault.{EnvFault}
use Rattle.key_ring.specs.declared.env_fault.EnvFault.TheVariants.{BadForm}
use Rattle.key_ring.specs.declared.envelope.Envelope.{Envelope}
use Rattle.key_ring.specs.declared.reading.EnvelopeAt.{EnvelopeAt}
use Rattle.dh_base.specs.Formats.{text_field}
use Rattle.key_ring.specs.EnvelopeTexts.{envelope_text, most_message, IsWithinLimits, IsReadAt, Gives, in_form, text_at, sig_in_form, sig_at, envelope_from, envelope_of}

in_form-ok : {A : Type 0} (r : Result A BaseFault) (x : A) → in_form r ≡ Ok x → r ≡ Ok x
in_form-ok (Ok y) x e = cc
in_form-ok (Err fault) x e = absurd cc

passed : {A : Type 0} (b : Bool) (d : EnvFault) (r : Result A EnvFault) (y : A) → cond b (Err d) r ≡ Ok y → (b ≡ false) × (r ≡ Ok y)
passed true d r y e = absurd cc
passed false d r y e = (refl, e)

AreBytes-stands : (text bytes : List ℕ) (at : ℕ) → AreBytes bytes → StandsAt text bytes at → AreBytes text
AreBytes-stands text bytes at are s = subst AreBytes s.here (AreBytes-take (length text) (drop at bytes) (AreBytes-drop at bytes are))

-- ---- a text behind its length

abbrev done : {A : Type 0} → A → Result A EnvFault
done x = Ok x

abbrev behind_length : ℕ → List ℕ → ℕ → ℕ → Result (List ℕ × ℕ) EnvFault
behind_length most bytes at len = cond (ltb most len) (Err (BadForm at)) (in_form (bytes_at len bytes (at + 4)) >>= λ text. Ok (text, at + 4 + len))

pub stands-text : (most : ℕ) (bytes : List ℕ) (at : ℕ) (read : List ℕ × ℕ) → AreBytes bytes → text_at most bytes at ≡ Ok read →
    (length read.0 ≤ most) × StandsAt (text_field read.0) bytes at × (read.1 ≡ at + length (text_field read.0))
unfolding text_at
stands-text most bytes at read are e =
    let a = bind_ok (in_form (number_at w32 bytes at)) (behind_length most bytes at) read e in
    let first = stands-number w32 wide32 bytes at a.0 are (in_form-ok (number_at w32 bytes at) a.0 a.1) in
    let g = passed (ltb most a.0) (BadForm at) _ read a.2 in
    let b = bind_ok (in_form (bytes_at a.0 bytes (at + 4))) (λ text. done (text, at + 4 + a.0)) read g.1 in
    let second = stands-bytes a.0 bytes b.0 (at + 4) (in_form-ok (bytes_at a.0 bytes (at + 4)) b.0 b.1) in
    let few : a.0 ≤ most = ltb-false most a.0 g.0 in
    let made : List ℕ × ℕ = (b.0, at + 4 + a.0) in
    let same : made ≡ read = (let h : done made ≡ Ok read = b.2 in cc) in
    let field : StandsAt (to_be_bytes w32 a.0 ++ b.0) bytes at = StandsAt-append (to_be_bytes w32 a.0) b.0 bytes at (at + 4) refl first.1 second.1 in
    let spelled : StandsAt (text_field b.0) bytes at = subst (λ (n : ℕ). StandsAt (to_be_bytes w32 n ++ b.0) bytes at) (sym second.0) field in
    let next : at + 4 + a.0 ≡ at + length (text_field b.0) = omega (arith, length-append (to_be_bytes w32 (length b.0)) b.0, second.0) in
    subst (λ (x : List ℕ × ℕ). (length x.0 ≤ most) × StandsAt (text_field x.0) bytes at × (x.1 ≡ at + length (text_field x.0))) same (omega (arith, second.0), spelled, next)

pub text-stands : (most : ℕ) (bytes text : List ℕ) (at next : ℕ) → most < 2 ^ 32 → length text ≤ most → StandsAt (text_field text) bytes at → next ≡ at + length (text_field text) → text_at most bytes at ≡ Ok (text, next)
unfolding text_at
text-stands most bytes text at next small few s is =
    let parts = StandsAt-parts (to_be_bytes w32 (length text)) text bytes at s in
    let number : number_at w32 bytes at ≡ Ok (length text) = number-stands w32 wide32 bytes at (length text) (omega arith) parts.0 in
    let taken : bytes_at (length text) bytes (at + 4) ≡ Ok text = bytes-stands (length text) bytes text (at + 4) refl parts.1 in
    let fits : ltb most (length text) ≡ false = le-ltb most (length text) few in
    let place : at + 4 + length text ≡ next = omega (arith, length-append (to_be_bytes w32 (length text)) text) in
    rw (number, fits, taken, place) refl

-- ---- a signature

sig_in_form-ok : (at : ℕ) (r : Result OtsSig SigFault) (sig : OtsSig) → sig_in_form at r ≡ Ok sig → r ≡ Ok sig
sig_in_form-ok at (Ok x) sig e = cc
sig_in_form-ok at (Err fault) sig e = absurd cc

pub stands-sig : (bytes : List ℕ) (sig : OtsSig) (at : ℕ) → AreBytes bytes → sig_at bytes at ≡ Ok sig → IsSized sig × StandsAt (sig_text sig) bytes at
unfolding sig_at
stands-sig bytes sig at are e =
    let a = bind_ok (in_form (bytes_at 2180 bytes at)) (λ text. sig_in_form at (sig_of text)) sig e in
    let field = stands-bytes 2180 bytes a.0 at (in_form-ok (bytes_at 2180 bytes at) a.0 a.1) in
    let read = text-sig_of a.0 sig (AreBytes-stands a.0 bytes at are field.1) (sig_in_form-ok at (sig_of a.0) sig a.2) in
    (read.0, subst (λ (t : List ℕ). StandsAt t bytes at) read.1 field.1)

pub sig-stands : (bytes : List ℕ) (sig : OtsSig) (at : ℕ) → IsSized sig → StandsAt (sig_text sig) bytes at → sig_at bytes at ≡ Ok sig
unfolding sig_at
sig-stands bytes sig at sized s = rw (bytes-stands 2180 bytes (sig_text sig) at (length-sig_text sig sized) s, sig_of-text sig sized) refl

-- the signature at a place with enough bytes behind it
pub sig_at-long : (bytes : List ℕ) (at : ℕ) → at + 2180 ≤ length bytes → sig_at bytes at ≡ sig_in_form at (sig_of (take 2180 (drop at bytes)))
unfolding sig_at
sig_at-long bytes at long = let test : ltb (length bytes) (at + 2180) ≡ false = le-ltb (length bytes) (at + 2180) long in rw test refl

-- ---- an envelope

abbrev behind_sig : List ℕ → ℕ → List ℕ × ℕ → ℕ → OtsSig → Result EnvelopeAt EnvFault
behind_sig bytes at ring q sig = text_at most_message bytes (ring.1 + 4 + 2180) >>= λ message. done (record { env = record { ring = ring.0; q = q; sig = sig; message = message.0 }; next = message.1 })

abbrev behind_q : List ℕ → ℕ → List ℕ × ℕ → ℕ → Result EnvelopeAt EnvFault
behind_q bytes at ring q = sig_at bytes (ring.1 + 4) >>= behind_sig bytes at ring q

abbrev behind_ring : List ℕ → ℕ → List ℕ × ℕ → Result EnvelopeAt EnvFault
behind_ring bytes at ring = in_form (number_at w32 bytes ring.1) >>= behind_q bytes at ring

pub stands-envelope : (bytes : List ℕ) (at : ℕ) (read : EnvelopeAt) → AreBytes bytes → envelope_from bytes at ≡ Ok read → IsReadAt bytes at read
unfolding envelope_from
stands-envelope bytes at read are e =
    let a = bind_ok (text_at (2 ^ 32 - 1) bytes at) (behind_ring bytes at) read e in
    let b = bind_ok (in_form (number_at w32 bytes a.0.1)) (behind_q bytes at a.0) read a.2 in
    let c = bind_ok (sig_at bytes (a.0.1 + 4)) (behind_sig bytes at a.0 b.0) read b.2 in
    let d = bind_ok (text_at most_message bytes (a.0.1 + 4 + 2180)) (λ message. done (record { env = record { ring = a.0.0; q = b.0; sig = c.0; message = message.0 }; next = message.1 })) read c.2 in
    let ring = stands-text (2 ^ 32 - 1) bytes at a.0 are a.1 in
    let q = stands-number w32 wide32 bytes a.0.1 b.0 are (in_form-ok (number_at w32 bytes a.0.1) b.0 b.1) in
    let sig = stands-sig bytes c.0 (a.0.1 + 4) are c.1 in
    let message = stands-text most_message bytes (a.0.1 + 4 + 2180) d.0 are d.1 in
    let sig_size = length-sig_text c.0 sig.0 in
    let one : List ℕ = text_field a.0.0 ++ to_be_bytes w32 b.0 in
    let one_size : length (text_field a.0.0 ++ to_be_bytes w32 b.0) ≡ length (text_field a.0.0) + 4 = length-append (text_field a.0.0) (to_be_bytes w32 b.0) in
    let one_stands : StandsAt (text_field a.0.0 ++ to_be_bytes w32 b.0) bytes at = StandsAt-append (text_field a.0.0) (to_be_bytes w32 b.0) bytes at a.0.1 ring.2 ring.1 q.1 in
    let two_size : length (text_field a.0.0 ++ to_be_bytes w32 b.0 ++ sig_text c.0) ≡ length (text_field a.0.0) + 4 + 2180 = length-append (text_field a.0.0 ++ to_be_bytes w32 b.0) (sig_text c.0) ∙ omega (arith, one_size, sig_size) in
    let two_stands : StandsAt (text_field a.0.0 ++ to_be_bytes w32 b.0 ++ sig_text c.0) bytes at =
    StandsAt-append (text_field a.0.0 ++ to_be_bytes w32 b.0) (sig_text c.0) bytes at (a.0.1 + 4) (omega (arith, one_size, ring.2)) one_stands sig.1 in
    let all_stands : StandsAt (text_field a.0.0 ++ to_be_bytes w32 b.0 ++ sig_text c.0 ++ text_field d.0.0) bytes at =
    StandsAt-append (text_field a.0.0 ++ to_be_bytes w32 b.0 ++ sig_text c.0) (text_field d.0.0) bytes at (a.0.1 + 4 + 2180) (omega (arith, two_size, ring.2)) two_stands message.1 in
    let next : d.0.1 ≡ at + length (text_field a.0.0 ++ to_be_bytes w32 b.0 ++ sig_text c.0 ++ text_field d.0.0) =
    omega (arith, length-append (text_field a.0.0 ++ to_be_bytes w32 b.0 ++ sig_text c.0) (text_field d.0.0), two_size, ring.2, message.2) in
    let made : EnvelopeAt = record { env = record { ring = a.0.0; q = b.0; sig = c.0; message = d.0.0 }; next = d.0.1 } in
    let same : made ≡ read = (let h : done made ≡ Ok read = d.2 in cc) in
    let limits : IsWithinLimits (record { ring = a.0.0; q = b.0; sig = c.0; message = d.0.0 }) = record { ring = omega (arith, ring.0); q = q.0; sig = sig.0; message = message.0 } in
    subst (IsReadAt bytes at) same (record { limits = limits; stands = all_stands; next = next })

pub envelope-stands : (bytes : List ℕ) (at : ℕ) (read : EnvelopeAt) → IsReadAt bytes at read → envelope_from bytes at ≡ Ok read
unfolding envelope_from
envelope-stands bytes at read s =
    let env : Envelope = read.env in
    let limits = s.limits in
    let sig_size = length-sig_text read.env.sig limits.sig in
    let three = StandsAt-parts (text_field read.env.ring ++ to_be_bytes w32 read.env.q ++ sig_text read.env.sig) (text_field read.env.message) bytes at s.stands in
    let two = StandsAt-parts (text_field read.env.ring ++ to_be_bytes w32 read.env.q) (sig_text read.env.sig) bytes at three.0 in
    let one = StandsAt-parts (text_field read.env.ring) (to_be_bytes w32 read.env.q) bytes at two.0 in
    let one_size = length-append (text_field read.env.ring) (to_be_bytes w32 read.env.q) in
    let two_size = length-append (text_field read.env.ring ++ to_be_bytes w32 read.env.q) (sig_text read.env.sig) in
    let all_size = length-append (text_field read.env.ring ++ to_be_bytes w32 read.env.q ++ sig_text read.env.sig) (text_field read.env.message) in
    let ring : text_at (2 ^ 32 - 1) bytes at ≡ Ok (read.env.ring, at + length (text_field read.env.ring)) =
    text-stands (2 ^ 32 - 1) bytes read.env.ring at (at + length (text_field read.env.ring)) (omega arith) (omega (arith, limits.ring)) one.0 refl in
    let q : number_at w32 bytes (at + length (text_field read.env.ring)) ≡ Ok read.env.q = number-stands w32 wide32 bytes (at + length (text_field read.env.ring)) read.env.q limits.q one.1 in
    let sig_place : at + length (text_field read.env.ring ++ to_be_bytes w32 read.env.q) ≡ at + length (text_field read.env.ring) + 4 = omega (arith, one_size) in
    let sig : sig_at bytes (at + length (text_field read.env.ring) + 4) ≡ Ok read.env.sig = sig-stands bytes read.env.sig (at + length (text_field read.env.ring) + 4) limits.sig (subst (StandsAt (sig_text read.env.sig) bytes) sig_place two.1) in
    let message_place : at + length (text_field read.env.ring ++ to_be_bytes w32 read.env.q ++ sig_text read.env.sig) ≡ at + length (text_field read.env.ring) + 4 + 2180 = omega (arith, one_size, two_size, sig_size) in
    let message : text_at most_message bytes (at + length (text_field read.env.ring) + 4 + 2180) ≡ Ok (read.env.message, read.next) =
    text-stands most_message bytes read.env.message (at + length (text_field read.env.ring) + 4 + 2180) read.next (omega arith) limits.message (subst (StandsAt (text_field read.env.message) bytes) message_place three.1) (omega (arith, s.next, all_size, message_place)) in
    rw (ring, q, sig, message) refl

-- ---- all of the bytes

abbrev whole_or_left : List ℕ → EnvelopeAt → Result Envelope EnvFault
whole_or_left bytes read = cond (ltb read.next (length bytes)) (Err (BadForm read.next)) (done read.env)

pub text-envelope_of : (bytes : List ℕ) (env : Envelope) → AreBytes bytes → envelope_of bytes ≡ Ok env → IsWithinLimits env × (bytes ≡ envelope_text env)
unfolding envelope_of
text-envelope_of bytes env are e =
    let a = bind_ok (envelope_from bytes 0) (whole_or_left bytes) env e in
    let g = passed (ltb a.0.next (length bytes)) (BadForm a.0.next) (done a.0.env) env a.2 in
    let same : a.0.env ≡ env = (let h : done a.0.env ≡ Ok env = g.1 in cc) in
    let read = stands-envelope bytes 0 a.0 are a.1 in
    let none_left : length bytes ≤ a.0.next = ltb-false a.0.next (length bytes) g.0 in
    let whole : bytes ≡ envelope_text a.0.env = sym (take_all (length (envelope_text a.0.env)) bytes (omega (arith, read.next))) ∙ read.stands.here in
    subst (λ (x : Envelope). IsWithinLimits x × (bytes ≡ envelope_text x)) same (read.limits, whole)

pub envelope_of-text : (env : Envelope) → IsWithinLimits env → envelope_of (envelope_text env) ≡ Ok env
unfolding envelope_of
envelope_of-text env limits =
    let here : StandsAt (envelope_text env) (envelope_text env) 0 = record { fits = omega arith; here = take_all (length (envelope_text env)) (envelope_text env) (omega arith) } in
    let read : EnvelopeAt = record { env = env; next = length (envelope_text env) } in
    let next : length (envelope_text env) ≡ 0 + length (envelope_text env) = omega arith in
    let taken : envelope_from (envelope_text env) 0 ≡ Ok (record { env = env; next = length (envelope_text env) }) = envelope-stands (envelope_text env) 0 read (record { limits = limits; stands = here; next = next }) in
    let none_left : ltb (length (envelope_text env)) (length (envelope_text env)) ≡ false = le-ltb _ _ (omega arith) in
    ap (λ (r : Result EnvelopeAt EnvFault). r >>= whole_or_left (envelope_text env)) taken ∙ ap (λ (b : Bool). cond b (Err (BadForm (length (envelope_text env)))) (done env)) none_left

-- ---- what a call answers

pub IfOk-given : {A : Type 0} (P : A → Type 0) (r read : Result A EnvFault) → ((x : A) → read ≡ Ok x → P x) → Gives r read → IfOk r P
IfOk-given P (Ok x) read found given = found x given
IfOk-given P (Err fault) read found given = tt

pub Gives-same : {A : Type 0} (r read other : Result A EnvFault) → read ≡ other → Gives r read → Gives r other
Gives-same {A} r read other same given = subst (λ (x : Result A EnvFault). Gives r x) same given
