-- Where no signature is at fault, the seats are different and inside, and a quorum has no fault.
use Rattle.std.proofs.Common.{◌≡◌, ℕ, ◌+◌, ◌<◌, ◌≤◌, Bool, true, false, ◌||◌, nat_le, eqb, List, [], ◌∷◌, ◌++◌, length, take, drop, get_or, suc, Option, Some, None, IfNone, Ok, refl, sym, ap, subst, ◌∙◌, arith}
use Rattle.std.specs.List.{list_any, AllByRecursion, IsDistinct}
use Rattle.std.specs.Option.{option_or, is_some}
use Rattle.std.specs.Str.{bytes_eq}
use Rattle.std.proofs.lemmas.Bool.{lt-leb, leb-false, eqb-true}
use Rattle.std.proofs.Math.Seq.{take-suc}
use Rattle.std.proofs.lemmas.List.{length-map, at_drop_more, drop_all}
use Rattle.std.proofs.lemmas.List.Folds.{list_any-append}
use Rattle.std.proofs.lemmas.Map.Steps.{length-le_from_distinct_below}
use Rattle.std.proofs.lemmas.Slice.Eq.{bytes_eq-Decides}
use Rattle.dh_base.specs.declared.id.Id.{Id}
use Rattle.dh_base.proofs.SameIds.{same_id-self}
use Rattle.key_ring.specs.declared.said.Said.{Said}
use Rattle.key_ring.specs.Saying.{Says}
use Rattle.key_ring.specs.Answering.{said_of}
use Rattle.key_ring.proofs.Checked.{answer_is}
use Rattle.cert_core.specs.declared.quorum_fault.QuorumFault.{QuorumFault}
use Rattle.cert_core.specs.declared.quorum_fault.QuorumFault.TheVariants.{SeatOutside, SeatTwice}
use Rattle.cert_core.specs.declared.seat_sig.SeatSig.{SeatSig}
use Rattle.cert_core.specs.Sets.{SetTold}
use Rattle.cert_core.specs.Quorums.{account_of, seats_of, quorum_size, SaysAs, Vouches, IsQuorum, has_seat, said_fault, sig_fault, first_fault}

-- none of them has a fault, and none of the later ones
pub parts : (one other : Option QuorumFault) → option_or one other ≡ None → (one ≡ None) × (other ≡ None)
parts None other e = (refl, e)
parts (Some fault) other e = absurd cc

both : (one other : Option QuorumFault) → one ≡ None → other ≡ None → option_or one other ≡ None
both one other e f = rw e f

-- ---- a signature without fault

no_fault_at : (accounts : List Id) (text : List ℕ) (before : List SeatSig) (sig : SeatSig) → sig_fault accounts text before sig ≡ None → (sig.seat < length accounts) × (has_seat before sig.seat ≡ false)
no_fault_at accounts text before sig e = here (nat_le (length accounts) sig.seat) (has_seat before sig.seat) refl refl
  where
    here : (out twice : Bool) → nat_le (length accounts) sig.seat ≡ out → has_seat before sig.seat ≡ twice → (sig.seat < length accounts) × (has_seat before sig.seat ≡ false)
    here true twice o t = (let fault : sig_fault accounts text before sig ≡ Some (SeatOutside sig.seat) = rw o refl in absurd cc)
    here false true o t = (let fault : sig_fault accounts text before sig ≡ Some (SeatTwice sig.seat) = rw (o, t) refl in absurd cc)
    here false false o t = (leb-false (length accounts) sig.seat o, t)

says_text : (account : Id) (text : List ℕ) (sig : SeatSig) → SaysAs account text sig.env → said_fault account text sig (said_of sig.env) ≡ None
says_text account text sig says =
    let s = says.says in
    let said : Said = record { account = account; q = says.q } in
    let again : Says sig.env account.0 says.q sig.env.message = subst (λ (m : List ℕ). Says sig.env account.0 says.q m) s.message_is s in
    let is : said_of sig.env ≡ Ok said = sym (answer_is sig.env (Ok said) again) in
    let message : bytes_eq sig.env.message text ≡ true = (bytes_eq-Decides sig.env.message text).1 (sym s.message_is) in
    rw (is, same_id-self account, message) refl

no_fault_here : (accounts : List Id) (text : List ℕ) (before : List SeatSig) (sig : SeatSig) → sig.seat < length accounts → has_seat before sig.seat ≡ false → Vouches accounts text sig → sig_fault accounts text before sig ≡ None
no_fault_here accounts text before sig inside new vouches =
    rw (lt-leb (length accounts) sig.seat inside, new) (says_text (account_of accounts sig.seat) text sig vouches)

-- ---- all of them

abbrev AreNew : List SeatSig → List SeatSig → Type 0
AreNew before sigs = AllByRecursion (λ (sig : SeatSig). has_seat before sig.seat ≡ false) sigs

abbrev AreOthers : ℕ → List ℕ → Type 0
AreOthers seat seats = AllByRecursion (λ (other : ℕ). eqb seat other ≡ false) seats

has_push : (before : List SeatSig) (sig : SeatSig) (seat : ℕ) → has_seat (before ++ sig ∷ []) seat ≡ (has_seat before seat || (eqb sig.seat seat || false))
has_push before sig seat = list_any-append (λ (other : SeatSig). eqb other.seat seat) before (sig ∷ [])

split_or : (a b : Bool) → (a || (b || false)) ≡ false → (a ≡ false) × (b ≡ false)
split_or false false e = (refl, refl)
split_or false true e = absurd cc
split_or true b e = absurd cc

join_or : (a b : Bool) → a ≡ false → b ≡ false → (a || (b || false)) ≡ false
join_or a b e f = rw (e, f) refl

new_split : (before : List SeatSig) (sig : SeatSig) (sigs : List SeatSig) → AreNew (before ++ sig ∷ []) sigs → AreNew before sigs × AreOthers sig.seat (seats_of sigs)
new_split before sig [] new = (tt, tt)
new_split before sig (next ∷ sigs) new =
    let here = split_or (has_seat before next.seat) (eqb sig.seat next.seat) (sym (has_push before sig next.seat) ∙ new.0) in
    let rest = new_split before sig sigs new.1 in
    ((here.0, rest.0), (here.1, rest.1))

new_join : (before : List SeatSig) (sig : SeatSig) (sigs : List SeatSig) → AreNew before sigs → AreOthers sig.seat (seats_of sigs) → AreNew (before ++ sig ∷ []) sigs
new_join before sig [] new others = tt
new_join before sig (next ∷ sigs) new others =
    (has_push before sig next.seat ∙ join_or (has_seat before next.seat) (eqb sig.seat next.seat) new.0 others.0, new_join before sig sigs new.1 others.1)

abbrev AreInside : List Id → List SeatSig → Type 0
AreInside accounts sigs = AllByRecursion (λ (seat : ℕ). seat < length accounts) (seats_of sigs)

-- the seats are new, different and inside
seats_good : (accounts : List Id) (text : List ℕ) (before sigs : List SeatSig) → first_fault accounts text before sigs ≡ None → AreNew before sigs × (IsDistinct eqb (seats_of sigs) × AreInside accounts sigs)
unfolding IsDistinct
seats_good accounts text before [] e = (tt, (tt, tt))
seats_good accounts text before (sig ∷ sigs) e =
    let p = parts (sig_fault accounts text before sig) (first_fault accounts text (before ++ sig ∷ []) sigs) e in
    let here = no_fault_at accounts text before sig p.0 in
    let rest = seats_good accounts text (before ++ sig ∷ []) sigs p.1 in
    let new = new_split before sig sigs rest.0 in
    ((here.1, new.0), ((new.1, rest.1.0), (here.0, rest.1.1)))

all_good : (accounts : List Id) (text : List ℕ) (before sigs : List SeatSig) → AreNew before sigs → IsDistinct eqb (seats_of sigs) → AreInside accounts sigs → AllByRecursion (Vouches accounts text) sigs → first_fault accounts text before sigs ≡ None
unfolding IsDistinct
all_good accounts text before [] new different inside vouched = refl
all_good accounts text before (sig ∷ sigs) new different inside vouched =
    both (sig_fault accounts text before sig) (first_fault accounts text (before ++ sig ∷ []) sigs) (no_fault_here accounts text before sig inside.0 new.0 vouched.0)
    (all_good accounts text (before ++ sig ∷ []) sigs (new_join before sig sigs new.1 different.0) different.1 inside.1 vouched.1)

none_before : (sigs : List SeatSig) → AreNew [] sigs
none_before [] = tt
none_before (sig ∷ sigs) = (refl, none_before sigs)

inside_below : (n : ℕ) (seats : List ℕ) (q : ℕ) → AllByRecursion (λ (seat : ℕ). seat < n) seats → list_any (eqb q) seats ≡ true → q < n
inside_below n [] q inside among = absurd cc
inside_below n (seat ∷ seats) q inside among = here (eqb q seat) refl (inside_below n seats q inside.1)
  where
    here : (b : Bool) → eqb q seat ≡ b → (list_any (eqb q) seats ≡ true → q < n) → q < n
    here true e rest = subst (λ (s : ℕ). s < n) (sym (eqb-true q seat e)) inside.0
    here false e rest = rest (ap (λ b. b || list_any (eqb q) seats) (sym e) ∙ among)

-- seats that are different and inside are no more than there are accounts
pub few_seats : (accounts : List Id) (text : List ℕ) (sigs : List SeatSig) → length accounts ≤ 16 → first_fault accounts text [] sigs ≡ None → length sigs ≤ 16
few_seats accounts text sigs few none =
    let good = seats_good accounts text [] sigs none in
    let most = length-le_from_distinct_below (seats_of sigs) (length accounts) good.1.0 (λ q among. inside_below (length accounts) (seats_of sigs) q good.1.1 among) in
    omega (arith, most, few, length-map sigs (λ (sig : SeatSig). sig.seat))

pub no_fault : (set : SetTold) (text : List ℕ) (sigs : List SeatSig) → IsQuorum set text sigs → first_fault set.seats text [] sigs ≡ None
no_fault set text sigs q = all_good set.seats text [] sigs (none_before sigs) q.different q.inside q.vouched

pub quorum_there : (set : SetTold) (text : List ℕ) (sigs : List SeatSig) → first_fault set.seats text [] sigs ≡ None → AllByRecursion (Vouches set.seats text) sigs → quorum_size set ≤ length sigs → IsQuorum set text sigs
quorum_there set text sigs none vouched enough =
    let good = seats_good set.seats text [] sigs none in
    record { enough = enough; different = good.1.0; inside = good.1.1; vouched = vouched }

-- ---- one signature after another

some_first : (one other : Option QuorumFault) → is_some one ≡ true → option_or one other ≡ one
some_first None other e = absurd cc
some_first (Some fault) other e = refl

none_passed : (one other : Option QuorumFault) → is_some one ≡ false → option_or one other ≡ other
none_passed None other e = refl
none_passed (Some fault) other e = absurd cc

-- the fault at a place, or that of the first one behind it
from_place : (accounts : List Id) (text : List ℕ) (sigs : List SeatSig) (k : ℕ) (sig : SeatSig) → k < length sigs → sig ≡ get_or sigs k sig → first_fault accounts text (take k sigs) (drop k sigs) ≡ option_or (sig_fault accounts text (take k sigs) sig) (first_fault accounts text (take k sigs ++ sig ∷ []) (drop (k + 1) sigs))
from_place accounts text sigs k sig h is =
    at_drop_more (first_fault accounts text (take k sigs)) sigs k sig h
    ∙ ap (λ (s : SeatSig). first_fault accounts text (take k sigs) (s ∷ drop (k + 1) sigs)) (sym is)

taken_more : (sigs : List SeatSig) (k : ℕ) (sig : SeatSig) → k < length sigs → sig ≡ get_or sigs k sig → take (k + 1) sigs ≡ take k sigs ++ sig ∷ []
taken_more sigs k sig h is =
    let one : k + 1 ≡ suc k = omega arith in
    ap (λ j. take j sigs) one ∙ (take-suc sigs k sig h ∙ ap (λ (s : SeatSig). take k sigs ++ s ∷ []) (sym is))

pub fault_there : (accounts : List Id) (text : List ℕ) (sigs : List SeatSig) (k : ℕ) (sig : SeatSig) (fault : Option QuorumFault) → k < length sigs → sig ≡ get_or sigs k sig → fault ≡ sig_fault accounts text (take k sigs) sig → is_some fault ≡ true → first_fault accounts text (take k sigs) (drop k sigs) ≡ fault
fault_there accounts text sigs k sig fault h is e some =
    from_place accounts text sigs k sig h is
    ∙ (some_first (sig_fault accounts text (take k sigs) sig) _ (ap (λ (o : Option QuorumFault). is_some o) (sym e) ∙ some) ∙ sym e)

pub fault_later : (accounts : List Id) (text : List ℕ) (sigs : List SeatSig) (k : ℕ) (sig : SeatSig) (fault : Option QuorumFault) → k < length sigs → sig ≡ get_or sigs k sig → fault ≡ sig_fault accounts text (take k sigs) sig → is_some fault ≡ false → first_fault accounts text (take (k + 1) sigs) (drop (k + 1) sigs) ≡ first_fault accounts text (take k sigs) (drop k sigs)
fault_later accounts text sigs k sig fault h is e none =
    ap (λ (before : List SeatSig). first_fault accounts text before (drop (k + 1) sigs)) (taken_more sigs k sig h is)
    ∙ sym (from_place accounts text sigs k sig h is
    ∙ none_passed (sig_fault accounts text (take k sigs) sig) _ (ap (λ (o : Option QuorumFault). is_some o) (sym e) ∙ none))

all_push : {X : Type 0} (P : X → Type 0) (xs : List X) (x : X) → AllByRecursion P xs → P x → AllByRecursion P (xs ++ x ∷ [])
all_push P [] x h p = (p, tt)
all_push P (y ∷ ys) x h p = (h.0, all_push P ys x h.1 p)

if_none : (fault : Option QuorumFault) (X : Type 0) → is_some fault ≡ false → IfNone fault X → X
if_none None X e h = h
if_none (Some fault) X e h = absurd cc

pub vouched_more : (accounts : List Id) (text : List ℕ) (sigs : List SeatSig) (k : ℕ) (sig : SeatSig) (fault : Option QuorumFault) → k < length sigs → sig ≡ get_or sigs k sig → is_some fault ≡ false → IfNone fault (Vouches accounts text sig) → AllByRecursion (Vouches accounts text) (take k sigs) → AllByRecursion (Vouches accounts text) (take (k + 1) sigs)
vouched_more accounts text sigs k sig fault h is none vouches all =
    subst (AllByRecursion (Vouches accounts text)) (sym (taken_more sigs k sig h is))
    (all_push (Vouches accounts text) (take k sigs) sig all (if_none fault (Vouches accounts text sig) none vouches))

pub none_left : (accounts : List Id) (text : List ℕ) (sigs : List SeatSig) (k : ℕ) → length sigs ≤ k → first_fault accounts text (take k sigs) (drop k sigs) ≡ first_fault accounts text [] sigs → first_fault accounts text [] sigs ≡ None
none_left accounts text sigs k end e =
    sym e ∙ ap (first_fault accounts text (take k sigs)) (drop_all k sigs end)
