-- Formats take what is spelled, and so do the formats that are joined of them.
use Rattle.std.proofs.Common.{◌≡◌, ℕ, ◌+◌, ◌<◌, ◌≤◌, ◌^◌, ◌↔◌, zero, suc, Bool, true, false, cond, ltb, List, [], ◌∷◌, ◌++◌, length, Result, Ok, Err, refl, sym, ap, subst, ◌∙◌, arith, IsTrue}
use Rattle.std.specs.List.{flat_map, AllByRecursion}
use Rattle.std.specs.Int.{Width, byte_len, to_be_bytes, w32}
use Rattle.std.proofs.lemmas.Bool.{ltb-false, le-ltb}
use Rattle.std.proofs.lemmas.List.{length-append, take_all}
use Rattle.dh_base.specs.declared.base_fault.BaseFault.{BaseFault}
use Rattle.dh_base.specs.declared.id.Id.{Id}
use Rattle.dh_base.specs.Names.{is_name}
use Rattle.dh_base.specs.Fields.{◌>>=◌, AreBytes, StandsAt, bytes_at, number_at, id_at, name_at, name_field}
use Rattle.dh_base.specs.Formats.{IsSpelledAt, TakesWhatIsSpelled, IsSpelledAfter, IsMadeOf, SpelledBy, SpelledWithin, NumberSpelled, IdSpelled, NameSpelled, TextSpelled, next_number, next_id, next_name, next_text, next_values, text_field, list_text, ListFits, or_fault, unless_out_of_range, whole_of}
use Rattle.dh_base.proofs.Fields.{IsWide, wide32, bind_ok, stands-number, number-stands, stands-bytes, bytes-stands, stands-name, name-stands, StandsAt-append, StandsAt-parts}

pair_is : {A B : Type 0} (x : A) (y : B) (pair : A × B) → x ≡ pair.0 → y ≡ pair.1 → (let made : A × B = (x, y) in made ≡ pair)
pair_is {A} {B} x y pair first second =
    let with_y : A → A × B = λ a. (a, y) in
    let with_first : B → A × B = λ b. (pair.0, b) in
    ap with_y first ∙ ap with_first second

-- ---- one behind another

-- one field, and then what depends on it
pub takes-then : {A B F : Type 0} (first : List ℕ → ℕ → Result (A × ℕ) F) (second : A → List ℕ → ℕ → Result (B × ℕ) F)
    (spells_first : A → List ℕ → Type 0) (spells_second : A → B → List ℕ → Type 0) →
    TakesWhatIsSpelled first spells_first → ((x : A) → TakesWhatIsSpelled (second x) (spells_second x)) →
    TakesWhatIsSpelled (λ bytes at. first bytes at >>= λ x. second x.0 bytes x.1) (IsSpelledAfter spells_first spells_second)
takes-then {A} {B} {F} first second spells_first spells_second takes_first takes_second bytes at read are =
    let onward : (first bytes at >>= λ x. second x.0 bytes x.1) ≡ Ok read → IsSpelledAt (IsSpelledAfter spells_first spells_second) bytes at read =
    λ e.
    let step = bind_ok (first bytes at) (λ x. second x.0 bytes x.1) read e in
    let front = (takes_first bytes at step.0 are).0 step.1 in
    let rest = (takes_second step.0.0 bytes step.0.1 read are).0 step.2 in
    record {
      text = front.text ++ rest.text;
      spelled = record { value = step.0.0; front = front.text; rest = rest.text; spells_front = front.spelled; spells_rest = rest.spelled; is = refl };
      stands = StandsAt-append front.text rest.text bytes at step.0.1 front.next front.stands rest.stands;
      next = omega (arith, rest.next, front.next, length-append front.text rest.text);
    } in
    let back : IsSpelledAt (IsSpelledAfter spells_first spells_second) bytes at read → (first bytes at >>= λ x. second x.0 bytes x.1) ≡ Ok read =
    λ s.
    let w = s.spelled in
    let both : StandsAt (w.front ++ w.rest) bytes at = subst (λ (t : List ℕ). StandsAt t bytes at) w.is s.stands in
    let parts = StandsAt-parts w.front w.rest bytes at both in
    let place : ℕ = at + length w.front in
    let one : first bytes at ≡ Ok (w.value, at + length w.front) =
    (takes_first bytes at (w.value, at + length w.front) are).1 (record { text = w.front; spelled = w.spells_front; stands = parts.0; next = refl }) in
    let two : second w.value bytes (at + length w.front) ≡ Ok read =
    (takes_second w.value bytes (at + length w.front) read are).1
    (record { text = w.rest; spelled = w.spells_rest; stands = parts.1; next = omega (arith, s.next, ap length w.is, length-append w.front w.rest) }) in
    ap (λ (r : Result (A × ℕ) F). r >>= λ x. second x.0 bytes x.1) one ∙ two in
    (onward, back)

-- the last field, of which the whole is made
pub takes-made : {A B F : Type 0} (make : A → B) (taken : List ℕ → ℕ → Result (A × ℕ) F) (spells : A → List ℕ → Type 0) →
    TakesWhatIsSpelled taken spells → TakesWhatIsSpelled (λ bytes at. taken bytes at >>= λ x. Ok (make x.0, x.1)) (IsMadeOf make spells)
takes-made {A} {B} {F} make taken spells takes bytes at read are =
    let made : A × ℕ → Result (B × ℕ) F = λ x. Ok (make x.0, x.1) in
    let onward : (taken bytes at >>= λ x. Ok (make x.0, x.1)) ≡ Ok read → IsSpelledAt (IsMadeOf make spells) bytes at read =
    λ e.
    let step = bind_ok (taken bytes at) made read e in
    let s = (takes bytes at step.0 are).0 step.1 in
    let pair : B × ℕ = (make step.0.0, step.0.1) in
    let same : pair ≡ read = (let h : made step.0 ≡ Ok read = step.2 in cc) in
    record {
      text = s.text;
      spelled = record { value = step.0.0; spelled = s.spelled; is = sym (ap (λ (p : B × ℕ). p.0) same) };
      stands = s.stands;
      next = sym (ap (λ (p : B × ℕ). p.1) same) ∙ s.next;
    } in
    let back : IsSpelledAt (IsMadeOf make spells) bytes at read → (taken bytes at >>= λ x. Ok (make x.0, x.1)) ≡ Ok read =
    λ s.
    let one : taken bytes at ≡ Ok (s.spelled.value, read.1) =
    (takes bytes at (s.spelled.value, read.1) are).1 (record { text = s.text; spelled = s.spelled.spelled; stands = s.stands; next = s.next }) in
    ap (λ (r : Result (A × ℕ) F). r >>= made) one ∙ ap (λ (p : B × ℕ). Ok p) (pair_is (make s.spelled.value) read.1 read (sym s.spelled.is) refl) in
    (onward, back)

let_pass : {B E : Type 0} (b : Bool) (d : E) (x y : B) → cond b (Err d) (Ok x) ≡ Ok y → (b ≡ false) × (x ≡ y)
let_pass true d x y e = absurd cc
let_pass false d x y e = (refl, cc)

-- values that a test lets pass
pub takes-within : {A F : Type 0} (is_outside : A → Bool) (fault : ℕ → F) (taken : List ℕ → ℕ → Result (A × ℕ) F) (spells : A → List ℕ → Type 0) →
    TakesWhatIsSpelled taken spells → TakesWhatIsSpelled (unless_out_of_range is_outside fault taken) (SpelledWithin is_outside spells)
takes-within {A} {F} is_outside fault taken spells takes bytes at read are =
    let test : A × ℕ → Result (A × ℕ) F = λ x. cond (is_outside x.0) (Err (fault at)) (Ok x) in
    let onward : unless_out_of_range is_outside fault taken bytes at ≡ Ok read → IsSpelledAt (SpelledWithin is_outside spells) bytes at read =
    λ e.
    let step = bind_ok (taken bytes at) test read e in
    let passed = let_pass (is_outside step.0.0) (fault at) step.0 read step.2 in
    let s = (takes bytes at read are).0 (step.1 ∙ ap (λ (p : A × ℕ). Ok p) passed.1) in
    let lets : is_outside read.0 ≡ false = ap (λ (p : A × ℕ). is_outside p.0) (sym passed.1) ∙ passed.0 in
    record { text = s.text; spelled = (s.spelled, lets); stands = s.stands; next = s.next } in
    let back : IsSpelledAt (SpelledWithin is_outside spells) bytes at read → unless_out_of_range is_outside fault taken bytes at ≡ Ok read =
    λ s.
    let one : taken bytes at ≡ Ok read = (takes bytes at read are).1 (record { text = s.text; spelled = s.spelled.0; stands = s.stands; next = s.next }) in
    rw (one, s.spelled.1) refl in
    (onward, back)

was_ok : {A E F : Type 0} (of : E → F) (r : Result A E) (x : A) → or_fault of r ≡ Ok x → r ≡ Ok x
was_ok of (Ok y) x e = cc
was_ok of (Err d) x e = absurd cc

-- the same values, with another fault
pub takes-or_fault : {A E F : Type 0} (of : E → F) (taken : List ℕ → ℕ → Result (A × ℕ) E) (spells : A → List ℕ → Type 0) →
    TakesWhatIsSpelled taken spells → TakesWhatIsSpelled (λ bytes at. or_fault of (taken bytes at)) spells
takes-or_fault {A} {E} {F} of taken spells takes bytes at read are =
    (λ e. (takes bytes at read are).0 (was_ok of (taken bytes at) read e), λ s. ap (or_fault of) ((takes bytes at read are).1 s))

-- the same values, spelled in other words
pub takes-same : {A F : Type 0} (taken : List ℕ → ℕ → Result (A × ℕ) F) (spells others : A → List ℕ → Type 0) →
    ((value : A) (text : List ℕ) → spells value text ↔ others value text) → TakesWhatIsSpelled taken spells → TakesWhatIsSpelled taken others
takes-same taken spells others same takes bytes at read are = (
  λ e. let s = (takes bytes at read are).0 e in record { text = s.text; spelled = (same read.0 s.text).0 s.spelled; stands = s.stands; next = s.next },
  λ s. (takes bytes at read are).1 (record { text = s.text; spelled = (same read.0 s.text).1 s.spelled; stands = s.stands; next = s.next }),
)

-- ---- fields

-- a field of one spelling, and the place behind it
pub takes-field : {A : Type 0} (taken : List ℕ → ℕ → Result A BaseFault) (size : A → ℕ) (fits : A → Type 0) (text_of : A → List ℕ) →
    ((x : A) → fits x → length (text_of x) ≡ size x) →
    ((bytes : List ℕ) (at : ℕ) (x : A) → AreBytes bytes → (taken bytes at ≡ Ok x) ↔ (fits x × StandsAt (text_of x) bytes at)) →
    TakesWhatIsSpelled (λ bytes at. taken bytes at >>= λ x. Ok (x, at + size x)) (SpelledBy fits text_of)
takes-field {A} taken size fits text_of sized takes bytes at read are =
    let behind : A → Result (A × ℕ) BaseFault = λ x. Ok (x, at + size x) in
    let onward : (taken bytes at >>= λ x. Ok (x, at + size x)) ≡ Ok read → IsSpelledAt (SpelledBy fits text_of) bytes at read =
    λ e.
    let step = bind_ok (taken bytes at) behind read e in
    let s = (takes bytes at step.0 are).0 step.1 in
    let pair : A × ℕ = (step.0, at + size step.0) in
    let same : pair ≡ read = (let h : behind step.0 ≡ Ok read = step.2 in cc) in
    let value : step.0 ≡ read.0 = ap (λ (p : A × ℕ). p.0) same in
    record {
      text = text_of step.0;
      spelled = (subst fits value s.0, ap text_of value);
      stands = s.1;
      next = sym (ap (λ (p : A × ℕ). p.1) same) ∙ ap (λ (n : ℕ). at + n) (sym (sized step.0 s.0));
    } in
    let back : IsSpelledAt (SpelledBy fits text_of) bytes at read → (taken bytes at >>= λ x. Ok (x, at + size x)) ≡ Ok read =
    λ s.
    let stands : StandsAt (text_of read.0) bytes at = subst (λ (t : List ℕ). StandsAt t bytes at) s.spelled.1 s.stands in
    let one : taken bytes at ≡ Ok read.0 = (takes bytes at read.0 are).1 (s.spelled.0, stands) in
    let next : at + size read.0 ≡ read.1 = ap (λ (n : ℕ). at + n) (sym (ap length s.spelled.1 ∙ sized read.0 s.spelled.0)) ∙ sym s.next in
    ap (λ (r : Result A BaseFault). r >>= behind) one ∙ ap (λ (p : A × ℕ). Ok p) (pair_is read.0 (at + size read.0) read refl next) in
    (onward, back)

pub takes-number : (w : Width) → IsWide w → TakesWhatIsSpelled (next_number w) (NumberSpelled w)
takes-number w wide =
    takes-field (number_at w) (λ _. byte_len w) (λ number. number < 256 ^ byte_len w) (to_be_bytes w) (λ number _. wide.len number)
    (λ bytes at number are. (stands-number w wide bytes at number are, λ (fits, s). number-stands w wide bytes at number fits s))

stands-id : (bytes : List ℕ) (at : ℕ) (id : Id) → id_at bytes at ≡ Ok id → (length id.0 ≡ 32) × StandsAt id.0 bytes at
stands-id bytes at id e =
    let made : List ℕ → Result Id BaseFault = λ field. Ok (record { 0 = field }) in
    let step = bind_ok (bytes_at 32 bytes at) made id e in
    let s = stands-bytes 32 bytes step.0 at step.1 in
    let is : step.0 ≡ id.0 = (let h : made step.0 ≡ Ok id = step.2 in cc) in
    subst (λ (t : List ℕ). (length t ≡ 32) × StandsAt t bytes at) is s

id-stands : (bytes : List ℕ) (at : ℕ) (id : Id) → length id.0 ≡ 32 → StandsAt id.0 bytes at → id_at bytes at ≡ Ok id
id-stands bytes at id size s =
    let made : List ℕ → Result Id BaseFault = λ field. Ok (record { 0 = field }) in
    ap (λ (r : Result (List ℕ) BaseFault). r >>= made) (bytes-stands 32 bytes id.0 at size s)

pub takes-id : TakesWhatIsSpelled next_id IdSpelled
takes-id = takes-field id_at (λ _. 32) (λ id. length id.0 ≡ 32) (λ id. id.0) (λ id size. size) (λ bytes at id are. (stands-id bytes at id, λ (size, s). id-stands bytes at id size s))

pub takes-name : TakesWhatIsSpelled next_name NameSpelled
takes-name =
    takes-field name_at (λ name. 1 + length name) (λ name. IsTrue (is_name name)) name_field (λ name _. omega arith)
    (λ bytes at name are. (stands-name bytes name at are, λ (is, s). name-stands bytes name at is s))

-- a text behind its length
pub takes-text : TakesWhatIsSpelled next_text TextSpelled
takes-text bytes at read are =
    let behind_text : ℕ → List ℕ → Result (List ℕ × ℕ) BaseFault = λ len text. Ok (text, at + 4 + len) in
    let behind_len : ℕ → Result (List ℕ × ℕ) BaseFault = λ len. bytes_at len bytes (at + 4) >>= behind_text len in
    let onward : next_text bytes at ≡ Ok read → IsSpelledAt TextSpelled bytes at read =
    λ e.
    let a = bind_ok (number_at w32 bytes at) behind_len read e in
    let b = bind_ok (bytes_at a.0 bytes (at + 4)) (behind_text a.0) read a.2 in
    let first = stands-number w32 wide32 bytes at a.0 are a.1 in
    let second = stands-bytes a.0 bytes b.0 (at + 4) b.1 in
    let pair : List ℕ × ℕ = (b.0, at + 4 + a.0) in
    let same : pair ≡ read = (let h : behind_text a.0 b.0 ≡ Ok read = b.2 in cc) in
    let value : b.0 ≡ read.0 = ap (λ (p : List ℕ × ℕ). p.0) same in
    let field : StandsAt (to_be_bytes w32 a.0 ++ b.0) bytes at = StandsAt-append (to_be_bytes w32 a.0) b.0 bytes at (at + 4) refl first.1 second.1 in
    record {
      text = text_field b.0;
      spelled = (subst (λ (t : List ℕ). length t < 2 ^ 32) value (omega (arith, first.0, second.0)), ap text_field value);
      stands = subst (λ (n : ℕ). StandsAt (to_be_bytes w32 n ++ b.0) bytes at) (sym second.0) field;
      next = sym (ap (λ (p : List ℕ × ℕ). p.1) same) ∙ omega (arith, length-append (to_be_bytes w32 (length b.0)) b.0, second.0);
    } in
    let back : IsSpelledAt TextSpelled bytes at read → next_text bytes at ≡ Ok read =
    λ s.
    let text : List ℕ = read.0 in
    let stands : StandsAt (text_field read.0) bytes at = subst (λ (t : List ℕ). StandsAt t bytes at) s.spelled.1 s.stands in
    let parts = StandsAt-parts (to_be_bytes w32 (length read.0)) read.0 bytes at stands in
    let one : number_at w32 bytes at ≡ Ok (length read.0) = number-stands w32 wide32 bytes at (length read.0) (omega (arith, s.spelled.0)) parts.0 in
    let two : bytes_at (length read.0) bytes (at + 4) ≡ Ok read.0 = bytes-stands (length read.0) bytes read.0 (at + 4) refl parts.1 in
    let next : at + 4 + length read.0 ≡ read.1 = omega (arith, s.next, ap length s.spelled.1, length-append (to_be_bytes w32 (length read.0)) read.0) in
    ap (λ (r : Result ℕ BaseFault). r >>= behind_len) one ∙ ap (λ (r : Result (List ℕ) BaseFault). r >>= behind_text (length read.0)) two
    ∙ ap (λ (p : List ℕ × ℕ). Ok p) (pair_is read.0 (at + 4 + length read.0) read refl next) in
    (onward, back)

-- ---- lists

-- values of one spelling, as many as that
abbrev ValuesSpelled : {A : Type 0} → (A → Type 0) → (A → List ℕ) → ℕ → List A → List ℕ → Type 0
ValuesSpelled fits text_of n = SpelledBy (λ values. (length values ≡ n) × AllByRecursion fits values) (flat_map text_of)

abbrev behind_first : {A F : Type 0} → A → List A × ℕ → Result (List A × ℕ) F
behind_first first rest = Ok (first ∷ rest.0, rest.1)

abbrev behind_place : {A F : Type 0} → (List ℕ → ℕ → Result (A × ℕ) F) → ℕ → List ℕ → A × ℕ → Result (List A × ℕ) F
behind_place taken n bytes first = next_values taken n bytes first.1 >>= behind_first first.0

values-spelled : {A F : Type 0} (taken : List ℕ → ℕ → Result (A × ℕ) F) (fits : A → Type 0) (text_of : A → List ℕ) → TakesWhatIsSpelled taken (SpelledBy fits text_of) →
    (n : ℕ) (bytes : List ℕ) (at : ℕ) (read : List A × ℕ) → AreBytes bytes → at ≤ length bytes →
    next_values taken n bytes at ≡ Ok read → IsSpelledAt (ValuesSpelled fits text_of n) bytes at read
values-spelled {A} {F} taken fits text_of takes zero bytes at read are within e =
    let none : List A × ℕ = ([], at) in
    let same : none ≡ read = (let made : List A × ℕ → Result (List A × ℕ) F = λ p. Ok p in let h : made none ≡ made read = e in cc) in
    let stands : StandsAt [] bytes at = record { fits = omega (arith, within); here = refl } in
    let P : List A × ℕ → Type 0 = λ p. IsSpelledAt (ValuesSpelled fits text_of zero) bytes at p in
    subst P same (record { text = []; spelled = ((refl, tt), refl); stands = stands; next = omega arith })
values-spelled {A} {F} taken fits text_of takes (suc n) bytes at read are within e =
    let a = bind_ok (taken bytes at) (behind_place taken n bytes) read e in
    let b = bind_ok (next_values taken n bytes a.0.1) (behind_first a.0.0) read a.2 in
    let front = (takes bytes at a.0 are).0 a.1 in
    let rest = values-spelled taken fits text_of takes n bytes a.0.1 b.0 are (omega (arith, front.next, front.stands.fits)) b.1 in
    let whole : List A × ℕ = (a.0.0 ∷ b.0.0, b.0.1) in
    let same : whole ≡ read = (let made : List A × ℕ → Result (List A × ℕ) F = λ p. Ok p in let h : made whole ≡ made read = b.2 in cc) in
    let P : List A × ℕ → Type 0 = λ p. IsSpelledAt (ValuesSpelled fits text_of (suc n)) bytes at p in
    let text : front.text ++ rest.text ≡ flat_map text_of (a.0.0 ∷ b.0.0) = ap (λ (t : List ℕ). t ++ rest.text) front.spelled.1 ∙ ap (λ (t : List ℕ). text_of a.0.0 ++ t) rest.spelled.1 in
    subst P same
    (record {
      text = front.text ++ rest.text;
      spelled = ((omega (arith, rest.spelled.0.0), (front.spelled.0, rest.spelled.0.1)), text);
      stands = StandsAt-append front.text rest.text bytes at a.0.1 front.next front.stands rest.stands;
      next = omega (arith, rest.next, front.next, length-append front.text rest.text);
    })

spelled-values : {A F : Type 0} (taken : List ℕ → ℕ → Result (A × ℕ) F) (fits : A → Type 0) (text_of : A → List ℕ) → TakesWhatIsSpelled taken (SpelledBy fits text_of) →
    (values : List A) (bytes : List ℕ) (at next : ℕ) → AreBytes bytes → AllByRecursion fits values → StandsAt (flat_map text_of values) bytes at →
    next ≡ at + length (flat_map text_of values) → next_values taken (length values) bytes at ≡ Ok (values, next)
spelled-values {A} {F} taken fits text_of takes [] bytes at next are all stands is =
    let place : at ≡ next = omega (arith, is) in
    let with_place : ℕ → Result (List A × ℕ) F = λ n. Ok ([], n) in
    ap with_place place
spelled-values {A} {F} taken fits text_of takes (x ∷ xs) bytes at next are all stands is =
    let parts = StandsAt-parts (text_of x) (flat_map text_of xs) bytes at stands in
    let one : taken bytes at ≡ Ok (x, at + length (text_of x)) =
    (takes bytes at (x, at + length (text_of x)) are).1 (record { text = text_of x; spelled = (all.0, refl); stands = parts.0; next = refl }) in
    let two : next_values taken (length xs) bytes (at + length (text_of x)) ≡ Ok (xs, next) =
    spelled-values taken fits text_of takes xs bytes (at + length (text_of x)) next are all.1 parts.1 (omega (arith, is, length-append (text_of x) (flat_map text_of xs))) in
    let rest : List A × ℕ → Result (List A × ℕ) F = behind_first x in
    ap (λ (r : Result (A × ℕ) F). r >>= behind_place taken (length xs) bytes) one ∙ ap (λ (r : Result (List A × ℕ) F). r >>= rest) two

-- a list behind the field of its length
pub takes-list : {A F : Type 0} (count : List ℕ → ℕ → Result (ℕ × ℕ) F) (fits_count : ℕ → Type 0) (count_text : ℕ → List ℕ)
    (taken : List ℕ → ℕ → Result (A × ℕ) F) (fits : A → Type 0) (text_of : A → List ℕ) →
    TakesWhatIsSpelled count (SpelledBy fits_count count_text) → TakesWhatIsSpelled taken (SpelledBy fits text_of) →
    TakesWhatIsSpelled (λ bytes at. count bytes at >>= λ n. next_values taken n.0 bytes n.1) (SpelledBy (ListFits fits_count fits) (list_text count_text text_of))
takes-list {A} {F} count fits_count count_text taken fits text_of takes_count takes bytes at read are =
    let behind : ℕ × ℕ → Result (List A × ℕ) F = λ n. next_values taken n.0 bytes n.1 in
    let onward : (count bytes at >>= λ n. next_values taken n.0 bytes n.1) ≡ Ok read → IsSpelledAt (SpelledBy (ListFits fits_count fits) (list_text count_text text_of)) bytes at read =
    λ e.
    let a = bind_ok (count bytes at) behind read e in
    let front = (takes_count bytes at a.0 are).0 a.1 in
    let rest = values-spelled taken fits text_of takes a.0.0 bytes a.0.1 read are (omega (arith, front.next, front.stands.fits)) a.2 in
    let number : a.0.0 ≡ length read.0 = sym rest.spelled.0.0 in
    record {
      text = front.text ++ rest.text;
      spelled = (
        (subst fits_count number front.spelled.0, rest.spelled.0.1),
        ap (λ (t : List ℕ). t ++ rest.text) (front.spelled.1 ∙ ap count_text number) ∙ ap (λ (t : List ℕ). count_text (length read.0) ++ t) rest.spelled.1,
      );
      stands = StandsAt-append front.text rest.text bytes at a.0.1 front.next front.stands rest.stands;
      next = omega (arith, rest.next, front.next, length-append front.text rest.text);
    } in
    let back : IsSpelledAt (SpelledBy (ListFits fits_count fits) (list_text count_text text_of)) bytes at read → (count bytes at >>= λ n. next_values taken n.0 bytes n.1) ≡ Ok read =
    λ s.
    let stands : StandsAt (list_text count_text text_of read.0) bytes at = subst (λ (t : List ℕ). StandsAt t bytes at) s.spelled.1 s.stands in
    let parts = StandsAt-parts (count_text (length read.0)) (flat_map text_of read.0) bytes at stands in
    let one : count bytes at ≡ Ok (length read.0, at + length (count_text (length read.0))) =
    (takes_count bytes at (length read.0, at + length (count_text (length read.0))) are).1
    (record { text = count_text (length read.0); spelled = (s.spelled.0.0, refl); stands = parts.0; next = refl }) in
    let two : next_values taken (length read.0) bytes (at + length (count_text (length read.0))) ≡ Ok (read.0, read.1) =
    spelled-values taken fits text_of takes read.0 bytes (at + length (count_text (length read.0))) read.1 are s.spelled.0.1 parts.1
    (omega (arith, s.next, ap length s.spelled.1, length-append (count_text (length read.0)) (flat_map text_of read.0))) in
    ap (λ (r : Result (ℕ × ℕ) F). r >>= behind) one ∙ two in
    (onward, back)

-- ---- all of the bytes

abbrev rest_or_fault : {A F : Type 0} → (ℕ → F) → List ℕ → A × ℕ → Result A F
rest_or_fault left_over bytes read = cond (ltb read.1 (length bytes)) (Err (left_over read.1)) (Ok read.0)

pub reads-whole : {A F : Type 0} (left_over : ℕ → F) (taken : List ℕ → ℕ → Result (A × ℕ) F) (fits : A → Type 0) (text_of : A → List ℕ) →
    TakesWhatIsSpelled taken (SpelledBy fits text_of) →
    (bytes : List ℕ) (value : A) → AreBytes bytes → (whole_of left_over taken bytes ≡ Ok value) ↔ (fits value × (bytes ≡ text_of value))
reads-whole {A} {F} left_over taken fits text_of takes bytes value are =
    let onward : whole_of left_over taken bytes ≡ Ok value → fits value × (bytes ≡ text_of value) =
    λ e.
    let a = bind_ok (taken bytes 0) (rest_or_fault left_over bytes) value e in
    let s = (takes bytes 0 a.0 are).0 a.1 in
    let passed = let_pass (ltb a.0.1 (length bytes)) (left_over a.0.1) a.0.0 value a.2 in
    let none_left : length bytes ≤ a.0.1 = ltb-false a.0.1 (length bytes) passed.0 in
    let whole : bytes ≡ s.text = sym (take_all (length s.text) bytes (omega (arith, s.next))) ∙ s.stands.here in
    subst (λ (x : A). fits x × (bytes ≡ text_of x)) passed.1 (s.spelled.0, whole ∙ s.spelled.1) in
    let back : fits value × (bytes ≡ text_of value) → whole_of left_over taken bytes ≡ Ok value =
    λ (is, spelled).
    let here : StandsAt bytes bytes 0 = record { fits = omega arith; here = take_all (length bytes) bytes (omega arith) } in
    let one : taken bytes 0 ≡ Ok (value, length bytes) =
    (takes bytes 0 (value, length bytes) are).1 (record { text = bytes; spelled = (is, spelled); stands = here; next = omega arith }) in
    let none_left : ltb (length bytes) (length bytes) ≡ false = le-ltb (length bytes) (length bytes) (omega arith) in
    ap (λ (r : Result (A × ℕ) F). r >>= rest_or_fault left_over bytes) one ∙ ap (λ (b : Bool). cond b (Err (left_over (length bytes))) (Ok value)) none_left in
    (onward, back)
