-- Two quorums of one set share f + 1 seats, and so one that complies.
use Rattle.std.proofs.Common.{◌≡◌, ℕ, zero, suc, ◌+◌, ◌<◌, ◌≤◌, Bool, true, false, cond, not, ◌&&◌, ◌||◌, eqb, List, [], ◌∷◌, length, Contains, refl, ap, sym, ◌∙◌, ⊎_elim, arith}
use Rattle.std.specs.List.{IsDistinct, AllByRecursion}
use Rattle.std.proofs.lemmas.Bool.{eqb-true, eq-eqb, ne_eqb, and_parts, cases_eq}
use Rattle.cert_core.specs.declared.seat_sig.SeatSig.{SeatSig}
use Rattle.cert_core.specs.Sets.{SetTold, HasSeats}
use Rattle.cert_core.specs.Quorums.{IsQuorum, has_seat, seats_of}
use Rattle.cert_core.specs.SharedSeats.{count_seats, signs_both, FewDeviate, SharedSeat}

-- one test passes, the other, or both do
two_counts : (a b : ℕ → Bool) (n : ℕ) → count_seats a n + count_seats b n ≤ n + count_seats (λ s. a s && b s) n
two_counts a b zero = omega arith
two_counts a b (suc n) =
    let ih = two_counts a b n in
    elim (a n) as (λ x. (cond x 1 0 + count_seats a n) + (cond (b n) 1 0 + count_seats b n) ≤ suc n + (cond (x && b n) 1 0 + count_seats (λ s. a s && b s) n)) [
      | true ↦ elim (b n) as (λ y. (1 + count_seats a n) + (cond y 1 0 + count_seats b n) ≤ suc n + (cond y 1 0 + count_seats (λ s. a s && b s) n)) [ true ↦ omega arith | false ↦ omega arith ]
      | false ↦ elim (b n) as (λ y. (0 + count_seats a n) + (cond y 1 0 + count_seats b n) ≤ suc n + (0 + count_seats (λ s. a s && b s) n)) [ true ↦ omega arith | false ↦ omega arith ]
    ]

abbrev BothPass : (ℕ → Bool) → (ℕ → Bool) → Type 0
BothPass a c = (s : ℕ) × (a s ≡ true) × (c s ≡ true)

-- more pass the one test than fail the other: one passes both
one_left_at : (a c : ℕ → Bool) (n : ℕ) (x y : Bool) → a n ≡ x → c n ≡ y → (count_seats (λ s. not (c s)) n < count_seats a n → BothPass a c) → cond (not y) 1 0 + count_seats (λ s. not (c s)) n < cond x 1 0 + count_seats a n → BothPass a c
one_left_at a c n true true p q ih l = (n, p, q)
one_left_at a c n true false p q ih l = ih (omega arith)
one_left_at a c n false true p q ih l = ih (omega arith)
one_left_at a c n false false p q ih l = ih (omega arith)

one_left : (a c : ℕ → Bool) (n : ℕ) → count_seats (λ s. not (c s)) n < count_seats a n → BothPass a c
one_left a c zero less = absurd (omega arith)
one_left a c (suc n) less = one_left_at a c n (a n) (c n) refl refl (one_left a c n) less

-- one more seat passes
same_count : (p : ℕ → Bool) (x n : ℕ) → n ≤ x → count_seats (λ s. eqb x s || p s) n ≡ count_seats p n
same_count p x zero le = refl
same_count p x (suc n) le =
    let ih : count_seats (λ s. eqb x s || p s) n ≡ count_seats p n = same_count p x n (omega arith) in
    let ne : x ≡ n → ⊥ = λ e. omega arith in
    rw (ne_eqb x n ne) (ap (λ k. cond (p n) 1 0 + k) ih)

more_one : (p : ℕ → Bool) (x n : ℕ) → x < n → p x ≡ false → count_seats (λ s. eqb x s || p s) n ≡ 1 + count_seats p n
more_one p x zero less fails = absurd (omega arith)
more_one p x (suc n) less fails =
    ⊎_elim
    (λ (e : x ≡ n).
    let np : p n ≡ false = ap p (sym e) ∙ fails in
    let eq : eqb x n ≡ true = eq-eqb x n e in
    rw (eq, np) (omega (arith, same_count p x n (omega arith))))
    (λ (ne : x ≡ n → ⊥).
    let less' : x < n = omega arith in
    rw (ne_eqb x n ne) (omega (arith, more_one p x n less' fails)))
    (cases_eq x n)

none_has : (seat : ℕ) (sigs : List SeatSig) → AllByRecursion (λ other. eqb seat other ≡ false) (seats_of sigs) → has_seat sigs seat ≡ false
none_has seat [] h = refl
none_has seat (sig ∷ sigs) h =
    let ne : sig.seat ≡ seat → ⊥ = λ e. (let t : eqb seat sig.seat ≡ true = eq-eqb seat sig.seat (sym e) in let f = h.0 in cc) in
    rw (ne_eqb sig.seat seat ne) (none_has seat sigs h.1)

-- different seats below a number are counted
length_counts : (sigs : List SeatSig) (n : ℕ) → IsDistinct eqb (seats_of sigs) → AllByRecursion (λ s. s < n) (seats_of sigs) → length sigs ≤ count_seats (λ s. has_seat sigs s) n
unfolding IsDistinct
length_counts [] n d w = omega arith
length_counts (sig ∷ sigs) n d w =
    omega (arith, more_one (λ s. has_seat sigs s) sig.seat n w.0 (none_has sig.seat sigs d.0), length_counts sigs n d.1 w.1)

-- a signature of that seat
abbrev SignatureOf : List SeatSig → ℕ → Type 0
SignatureOf sigs seat = (sig : SeatSig) × Contains sigs sig × (sig.seat ≡ seat)

stands_at : (seat : ℕ) (sig : SeatSig) (sigs : List SeatSig) (b : Bool) → eqb sig.seat seat ≡ b → (has_seat sigs seat ≡ true → SignatureOf sigs seat) → (b || has_seat sigs seat) ≡ true → SignatureOf (sig ∷ sigs) seat
stands_at seat sig sigs true is ih h = (sig, (0, omega arith, refl), eqb-true sig.seat seat is)
stands_at seat sig sigs false is ih h = let r = ih h in (r.0, (suc r.1.0, omega (arith, r.1.1), r.1.2), r.2)

stands : (seat : ℕ) (sigs : List SeatSig) → has_seat sigs seat ≡ true → SignatureOf sigs seat
stands seat [] h = absurd cc
stands seat (sig ∷ sigs) h = stands_at seat sig sigs (eqb sig.seat seat) refl (stands seat sigs) h

pub shared : (set : SetTold) (text other : List ℕ) (sigs others : List SeatSig) → HasSeats set → IsQuorum set text sigs → IsQuorum set other others → set.f + 1 ≤ count_seats (signs_both sigs others) (length set.seats)
shared set text other sigs others has one two =
    let ca = length_counts sigs (length set.seats) one.different one.inside in
    let cb = length_counts others (length set.seats) two.different two.inside in
    let both = two_counts (λ s. has_seat sigs s) (λ s. has_seat others s) (length set.seats) in
    omega (arith, ca, cb, both, has.seats, one.enough, two.enough)

pub complying : (set : SetTold) (text other : List ℕ) (sigs others : List SeatSig) (complies : ℕ → Bool) → HasSeats set → FewDeviate set complies → IsQuorum set text sigs → IsQuorum set other others → SharedSeat complies sigs others
complying set text other sigs others complies has few one two =
    let many = shared set text other sigs others has one two in
    let r = one_left (signs_both sigs others) complies (length set.seats) (omega (arith, few, many)) in
    let ends = and_parts (has_seat sigs r.0) (has_seat others r.0) r.1 in
    let first = stands r.0 sigs ends.0 in
    let second = stands r.0 others ends.1 in
    record { sig = first.0; other = second.0; first = first.1; second = second.1; same = second.2 ∙ sym first.2; complies_is = ap complies first.2 ∙ r.2 }
