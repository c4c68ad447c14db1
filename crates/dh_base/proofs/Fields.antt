-- A field that stands at a place is the one that is read there, and the other way round.
use Rattle.std.proofs.Common.{◌≡◌, ℕ, ◌+◌, ◌%◌, ◌^◌, ◌<◌, ◌≤◌, ◌==◌, ◌||◌, ◌&&◌, nat_le, Bool, true, false, cond, ltb, List, [], ◌∷◌, ◌++◌, length, take, drop, Result, Ok, Err, refl, sym, ap, subst, ◌∙◌, append_assoc, arith, inl, inr, IsTrue}
use Rattle.std.specs.Int.{Width, w8, w16, w32, w64, byte_len, from_be_bytes, to_be_bytes}
use Rattle.std.proofs.lemmas.Bool.{cases_lt, ltb-false, le-ltb, leb-true, and_parts}
use Rattle.std.proofs.lemmas.List.{take_at, drop_at, take-append-drop, length-append, length-take, length-take-le, length-drop, drop-drop, get_or-drop, get_or-take, get_or_past}
use Rattle.std.proofs.lemmas.Nat.{be_bytes_2, be_bytes_4, be_bytes_8, from_be_bytes-to_be_bytes_2, from_be_bytes-to_be_bytes_4, from_be_bytes-to_be_bytes_8}
use Rattle.dh_base.specs.declared.base_fault.BaseFault.{BaseFault}
use Rattle.dh_base.specs.declared.base_fault.BaseFault.TheVariants.{Short, BadName}
use Rattle.std.specs.List.{list_all}
use Rattle.dh_base.specs.Names.{is_name, is_name_byte, begins_with_letter}
use Rattle.dh_base.specs.Fields.{StandsAt, AreBytes, TakenWhereItStands, ◌>>=◌, bytes_at, number_at, name_field, name_at}

-- ---- texts that stand in bytes

pub AreBytes-drop : (n : ℕ) (bytes : List ℕ) → AreBytes bytes → AreBytes (drop n bytes)
AreBytes-drop n bytes h i = rw get_or-drop (h (n + i))

pub AreBytes-take : (n : ℕ) (bytes : List ℕ) → AreBytes bytes → AreBytes (take n bytes)
AreBytes-take n bytes h i =
    elim (cases_lt i n) [
      | inl lt ↦ rw (get_or-take n bytes i 0 lt) (h i)
      | inr le ↦ rw (get_or_past (take n bytes) i 0 (omega (arith, length-take n bytes))) (omega arith)
    ]

-- what stands behind a front of the bytes
pub StandsAt-front : (text rest bytes : List ℕ) (at : ℕ) → at ≤ length bytes → drop at bytes ≡ text ++ rest → StandsAt text bytes at
StandsAt-front text rest bytes at within e =
    record {
      fits = omega (arith, length-drop at bytes, ap length e, length-append text rest);
      here = ap (take (length text)) e ∙ take_at text rest (length text) refl;
    }

-- one text behind another
pub StandsAt-append : (x y bytes : List ℕ) (at next : ℕ) → next ≡ at + length x → StandsAt x bytes at → StandsAt y bytes next → StandsAt (x ++ y) bytes at
StandsAt-append x y bytes at next is sx sy =
    let there : drop (length x) (drop at bytes) ≡ y ++ drop (length y) (drop next bytes) =
    drop-drop (length x) at bytes ∙ ap (λ (n : ℕ). drop n bytes) (sym is) ∙ sym (take-append-drop (length y) (drop next bytes)) ∙ ap (λ (t : List ℕ). t ++ drop (length y) (drop next bytes)) sy.here in
    let both : drop at bytes ≡ (x ++ y) ++ drop (length y) (drop next bytes) =
    sym (take-append-drop (length x) (drop at bytes)) ∙ ap (λ (t : List ℕ). t ++ drop (length x) (drop at bytes)) sx.here ∙ ap (λ (t : List ℕ). x ++ t) there ∙ sym (append_assoc x y (drop (length y) (drop next bytes))) in
    StandsAt-front (x ++ y) (drop (length y) (drop next bytes)) bytes at (omega (arith, sx.fits)) both

-- the parts of a text
pub StandsAt-parts : (x y bytes : List ℕ) (at : ℕ) → StandsAt (x ++ y) bytes at → StandsAt x bytes at × StandsAt y bytes (at + length x)
StandsAt-parts x y bytes at s =
    let rest : List ℕ = drop (length (x ++ y)) (drop at bytes) in
    let whole : drop at bytes ≡ x ++ (y ++ rest) =
    sym (take-append-drop (length (x ++ y)) (drop at bytes)) ∙ ap (λ (t : List ℕ). t ++ rest) s.here ∙ append_assoc x y rest in
    let behind : drop (at + length x) bytes ≡ y ++ rest = sym (drop-drop (length x) at bytes) ∙ ap (drop (length x)) whole ∙ drop_at x (y ++ rest) (length x) refl in
    let fits : at + length x + length y ≤ length bytes = omega (arith, s.fits, length-append x y) in
    (StandsAt-front x (y ++ rest) bytes at (omega arith) whole, StandsAt-front y rest bytes (at + length x) (omega arith) behind)

-- the text that stands in its own place
pub StandsAt-within : (before text after : List ℕ) → StandsAt text (before ++ text ++ after) (length before)
StandsAt-within before text after =
    let there : drop (length before) (before ++ text ++ after) ≡ text ++ after = ap (drop (length before)) (append_assoc before text after) ∙ drop_at before (text ++ after) (length before) refl in
    let long : length before ≤ length (before ++ text ++ after) = omega (arith, length-append (before ++ text) after, length-append before text) in
    StandsAt-front text after (before ++ text ++ after) (length before) long there

-- ---- bytes of a given number

pub stands-bytes : (n : ℕ) (bytes field : List ℕ) (at : ℕ) → bytes_at n bytes at ≡ Ok field → (length field ≡ n) × StandsAt field bytes at
stands-bytes n bytes field at e =
    elim (cases_lt (length bytes) (at + n)) [
      | inl lt ↦ absurd (grind (arith, lt, e))
      | inr le ↦
          let long : ltb (length bytes) (at + n) ≡ false = le-ltb (length bytes) (at + n) le in
          let is : take n (drop at bytes) ≡ field = (let h = rw long at e in cc) in
          let len : length field ≡ n = sym (ap length is) ∙ length-take-le n (drop at bytes) (omega (arith, length-drop at bytes)) in
          (len, record { fits = omega arith; here = rw len is })
    ]

pub bytes-stands : (n : ℕ) (bytes field : List ℕ) (at : ℕ) → length field ≡ n → StandsAt field bytes at → bytes_at n bytes at ≡ Ok field
bytes-stands n bytes field at len s =
    let long : ltb (length bytes) (at + n) ≡ false = le-ltb (length bytes) (at + n) (omega (arith, s.fits)) in
    rw (long, ← len) (ap (λ (t : List ℕ). Ok t) s.here)

-- ---- numbers

pub record IsWide (w : Width) : Type 0 where
  pub len : (n : ℕ) → length (to_be_bytes w n) ≡ byte_len w
  pub back : (bytes : List ℕ) → length bytes ≡ byte_len w → AreBytes bytes → to_be_bytes w (from_be_bytes w bytes) ≡ bytes
  pub again : (n : ℕ) → n < 256 ^ byte_len w → from_be_bytes w (to_be_bytes w n) ≡ n
  pub below : (bytes : List ℕ) → AreBytes bytes → from_be_bytes w bytes < 256 ^ byte_len w

one_byte : (bytes : List ℕ) → length bytes ≡ 1 → AreBytes bytes → to_be_bytes w8 (from_be_bytes w8 bytes) ≡ bytes
one_byte [] len fits = absurd (omega arith)
one_byte (b ∷ []) len fits = ap (λ (c : ℕ). c ∷ []) (let lt : b < 256 = fits 0 in omega arith)
one_byte (b ∷ c ∷ bs) len fits = absurd (omega arith)

pub wide8 : IsWide w8
wide8 = record { len = λ n. refl; back = one_byte; again = λ n lt. omega arith; below = λ bytes fits. fits 0 }

pub wide16 : IsWide w16
wide16 = record {
  len = λ n. refl;
  back = λ bytes len fits. be_bytes_2 bytes _ len fits refl;
  again = λ n lt. from_be_bytes-to_be_bytes_2 n lt;
  below = λ bytes fits. omega (arith, fits 0, fits 1);
}

pub wide32 : IsWide w32
wide32 = record {
  len = λ n. refl;
  back = λ bytes len fits. be_bytes_4 bytes _ len fits refl;
  again = λ n lt. from_be_bytes-to_be_bytes_4 n lt;
  below = λ bytes fits. omega (arith, fits 0, fits 1, fits 2, fits 3);
}

pub wide64 : IsWide w64
wide64 = record {
  len = λ n. refl;
  back = λ bytes len fits. be_bytes_8 bytes _ len fits refl;
  again = λ n lt. from_be_bytes-to_be_bytes_8 n lt;
  below = λ bytes fits. omega (arith, fits 0, fits 1, fits 2, fits 3, fits 4, fits 5, fits 6, fits 7);
}

-- the value of a step that did not fail
pub bind_ok : {A B F : Type 0} (r : Result A F) (f : A → Result B F) (y : B) → (r >>= f) ≡ Ok y → (x : A) × (r ≡ Ok x) × (f x ≡ Ok y)
bind_ok (Ok x) f y e = (x, refl, e)
bind_ok (Err d) f y e = absurd cc

abbrev number_of_field : Width → List ℕ → Result ℕ BaseFault
number_of_field w field = Ok (from_be_bytes w field)

pub stands-number : (w : Width) (wide : IsWide w) (bytes : List ℕ) (at n : ℕ) → AreBytes bytes → number_at w bytes at ≡ Ok n → (n < 256 ^ byte_len w) × StandsAt (to_be_bytes w n) bytes at
stands-number w wide bytes at n are e =
    let step = bind_ok (bytes_at (byte_len w) bytes at) (number_of_field w) n e in
    let field : List ℕ = step.0 in
    let stands = stands-bytes (byte_len w) bytes step.0 at step.1 in
    let n-is : from_be_bytes w step.0 ≡ n = (let h : number_of_field w step.0 ≡ Ok n = step.2 in cc) in
    let fits : AreBytes step.0 = subst AreBytes stands.1.here (AreBytes-take (length step.0) (drop at bytes) (AreBytes-drop at bytes are)) in
    let spelled : to_be_bytes w n ≡ step.0 = ap (to_be_bytes w) (sym n-is) ∙ wide.back step.0 stands.0 fits in
    (subst (λ (k : ℕ). k < 256 ^ byte_len w) n-is (wide.below step.0 fits), subst (λ (t : List ℕ). StandsAt t bytes at) (sym spelled) stands.1)

pub number-stands : (w : Width) (wide : IsWide w) (bytes : List ℕ) (at n : ℕ) → n < 256 ^ byte_len w → StandsAt (to_be_bytes w n) bytes at → number_at w bytes at ≡ Ok n
number-stands w wide bytes at n lt s =
    ap (λ (r : Result (List ℕ) BaseFault). r >>= number_of_field w) (bytes-stands (byte_len w) bytes (to_be_bytes w n) at (wide.len n) s) ∙ ap (λ (k : ℕ). Ok k) (wide.again n lt)

pub taken : (w : Width) → IsWide w → TakenWhereItStands w
taken w wide bytes at n are = (stands-number w wide bytes at n are, λ (lt, s). number-stands w wide bytes at n lt s)

-- ---- names

guard_passed : {A F : Type 0} (b : Bool) (d : F) (r : Result A F) (y : A) → cond b (Err d) r ≡ Ok y → (b ≡ false) × (r ≡ Ok y)
guard_passed true d r y e = absurd cc
guard_passed false d r y e = (refl, e)

guard_ended : {A F : Type 0} (b : Bool) (d : F) (x y : A) → cond b (Ok x) (Err d) ≡ Ok y → (b ≡ true) × (x ≡ y)
guard_ended true d x y e = (refl, cc)
guard_ended false d x y e = absurd cc

-- what follows the length of a name
abbrev name_behind : List ℕ → ℕ → ℕ → Result (List ℕ) BaseFault
name_behind bytes at len =
    cond (len == 0 || ltb 16 len) (Err (BadName at))
    (cond (ltb (length bytes) (at + 1 + len)) (Err (Short at)) (cond (is_name (take len (drop (at + 1) bytes))) (Ok (take len (drop (at + 1) bytes))) (Err (BadName at))))

name_length : (name : List ℕ) → is_name name ≡ true → (0 < length name) × (length name ≤ 16)
name_length [] e = absurd cc
name_length (c ∷ cs) e =
    let rest = (and_parts (begins_with_letter (c ∷ cs)) (list_all is_name_byte (c ∷ cs) && nat_le (length (c ∷ cs)) 16) e).1 in
    (omega arith, leb-true (length (c ∷ cs)) 16 (and_parts (list_all is_name_byte (c ∷ cs)) (nat_le (length (c ∷ cs)) 16) rest).1)

pub stands-name : (bytes name : List ℕ) (at : ℕ) → AreBytes bytes → name_at bytes at ≡ Ok name → IsTrue (is_name name) × StandsAt (name_field name) bytes at
unfolding name_at
stands-name bytes name at are e =
    let step = bind_ok (number_at w8 bytes at) (name_behind bytes at) name e in
    let len : ℕ = step.0 in
    let first = stands-number w8 wide8 bytes at step.0 are step.1 in
    let second = guard_passed (step.0 == 0 || ltb 16 step.0) (BadName at) _ name step.2 in
    let third = guard_passed (ltb (length bytes) (at + 1 + step.0)) (Short at) _ name second.1 in
    let last = guard_ended (is_name (take step.0 (drop (at + 1) bytes))) (BadName at) (take step.0 (drop (at + 1) bytes)) name third.1 in
    let text : List ℕ = take step.0 (drop (at + 1) bytes) in
    let long : at + 1 + step.0 ≤ length bytes = ltb-false _ _ third.0 in
    let size : length (take step.0 (drop (at + 1) bytes)) ≡ step.0 = length-take-le step.0 (drop (at + 1) bytes) (omega (arith, length-drop (at + 1) bytes)) in
    let behind : StandsAt (take step.0 (drop (at + 1) bytes)) bytes (at + 1) = record { fits = omega arith; here = ap (λ (n : ℕ). take n (drop (at + 1) bytes)) size } in
    let small : step.0 % 256 ≡ step.0 = (let lt : step.0 < 256 = first.0 in omega arith) in
    let both : StandsAt (step.0 % 256 ∷ take step.0 (drop (at + 1) bytes)) bytes at = StandsAt-append (step.0 % 256 ∷ []) (take step.0 (drop (at + 1) bytes)) bytes at (at + 1) refl first.1 behind in
    let field : StandsAt (name_field (take step.0 (drop (at + 1) bytes))) bytes at = subst (λ (n : ℕ). StandsAt (n ∷ take step.0 (drop (at + 1) bytes)) bytes at) (small ∙ sym size) both in
    subst (λ (t : List ℕ). IsTrue (is_name t) × StandsAt (name_field t) bytes at) last.1 (last.0, field)

pub name-stands : (bytes name : List ℕ) (at : ℕ) → IsTrue (is_name name) → StandsAt (name_field name) bytes at → name_at bytes at ≡ Ok name
unfolding name_at
name-stands bytes name at is s =
    let size = name_length name is in
    let parts = StandsAt-parts (length name ∷ []) name bytes at s in
    let small : length name % 256 ≡ length name = (let le : length name ≤ 16 = size.1 in omega arith) in
    let first : number_at w8 bytes at ≡ Ok (length name) =
    number-stands w8 wide8 bytes at (length name) (omega (arith, size.1)) (subst (λ (n : ℕ). StandsAt (n ∷ []) bytes at) (sym small) parts.0) in
    let some : (length name == 0) ≡ false = grind (arith, size.0) in
    let few : ltb 16 (length name) ≡ false = le-ltb 16 (length name) size.1 in
    let long : ltb (length bytes) (at + 1 + length name) ≡ false = le-ltb _ _ (omega (arith, parts.1.fits)) in
    let text : take (length name) (drop (at + 1) bytes) ≡ name = parts.1.here in
    ap (λ (r : Result ℕ BaseFault). r >>= name_behind bytes at) first ∙ rw (some, few, long, text, is) refl
