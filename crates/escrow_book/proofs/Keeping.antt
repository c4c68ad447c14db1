-- A book that takes a change up keeps its entries and the deals at hand in step with its history.
use Rattle.std.proofs.Common.{◌≡◌, ℕ, ◌+◌, ◌<◌, Bool, true, false, cond, List, [], ◌∷◌, ◌++◌, map, length, take, drop, set, get_or, Option, Some, None, is_some, refl, ap, sym, ◌∙◌, subst, append-nil, arith}
use Rattle.std.specs.List.{find}
use Rattle.std.specs.Option.{option_or, option_map, option_and_then}
use Rattle.std.proofs.lemmas.List.{map_push, take_all, drop_all, get_or_default, set-get_or}
use Rattle.std.proofs.lemmas.List.Edits.{map_over_more}
use Rattle.dh_base.specs.declared.id.Id.{Id}
use Rattle.dh_base.specs.declared.outcome.Outcome.{Outcome}
use Rattle.escrow_book.specs.declared.change.Change.{Change}
use Rattle.escrow_book.specs.declared.change.Change.TheVariants.{Registered, Escrowed, Transferred, Paid, Settled}
use Rattle.escrow_book.specs.declared.entry.Entry.{Entry}
use Rattle.escrow_book.specs.declared.known_deal.KnownDeal.{KnownDeal}
use Rattle.dh_base.specs.Ids.{same_id}
use Rattle.escrow_book.specs.Base.{Base, find_deal}
use Rattle.escrow_book.specs.History.{History, with_change, registration, settlement, parties_of, settlement_of}
use Rattle.escrow_book.specs.Reached.{IsAccepted}
use Rattle.escrow_book.specs.Kept.{with_outcome, change_in, ended_here, is_under, with_end, ended_by, AreEnded, LeavesDeals, history_kept, IsKept}
use Rattle.escrow_book.proofs.Sums.{all_weaker, all_append}
use Rattle.dh_base.proofs.SameIds.{id_from_same, same_from_id, same_id-swap}
use Rattle.escrow_book.proofs.Lookups.{first_answer_push, answer_kept, parties_push, settlement_push, parties_kept, settlement_kept, open_here}
use Rattle.escrow_book.proofs.Accepting.{escrow_accepted, transfer_accepted, settle_accepted}
use Rattle.escrow_book.proofs.Steps.{grown_push}

abbrev parties_in : KnownDeal → List Id
parties_in known = known.parties

abbrev outcome_in : KnownDeal → Option Outcome
outcome_in known = known.outcome

pub find_push : (test : KnownDeal → Bool) (xs : List KnownDeal) (y : KnownDeal) → find test (xs ++ y ∷ []) ≡ option_or (find test xs) (cond (test y) (Some y) None)
find_push test [] y = refl
find_push test (x ∷ xs) y = at (test x) (find_push test xs y)
  where
    at : (b : Bool) → find test (xs ++ y ∷ []) ≡ option_or (find test xs) (cond (test y) (Some y) None) → cond b (Some x) (find test (xs ++ y ∷ [])) ≡ option_or (cond b (Some x) (find test xs)) (cond (test y) (Some y) None)
    at true e = refl
    at false e = e

pub find_map : (test : KnownDeal → Bool) (f : KnownDeal → KnownDeal) (xs : List KnownDeal) → ((x : KnownDeal) → test (f x) ≡ test x) → find test (map f xs) ≡ option_map f (find test xs)
find_map test f [] same = refl
find_map test f (x ∷ xs) same = ap (λ b. cond b (Some (f x)) (find test (map f xs))) (same x) ∙ at (test x) (find_map test f xs same)
  where
    at : (b : Bool) → find test (map f xs) ≡ option_map f (find test xs) → cond b (Some (f x)) (find test (map f xs)) ≡ option_map f (cond b (Some x) (find test xs))
    at true e = refl
    at false e = e

pub find_passes : (test : KnownDeal → Bool) (xs : List KnownDeal) (y : KnownDeal) → find test xs ≡ Some y → test y ≡ true
find_passes test [] y e = absurd cc
find_passes test (x ∷ xs) y e = at (test x) refl e (find_passes test xs y)
  where
    at : (b : Bool) → test x ≡ b → cond b (Some x) (find test xs) ≡ Some y → (find test xs ≡ Some y → test y ≡ true) → test y ≡ true
    at true passes found later = let one : x ≡ y = cc in subst (λ (k : KnownDeal). test k ≡ true) one passes
    at false passes found later = later found

-- a change that has just been accepted, in a deal that isn't settled or in none
abbrev pub entry_of : Change → Entry
entry_of c = record { change = c; ended = None }

-- the entries stand for the history with its change
pub kept_longer : (rows : Base) (entries : List Entry) (c : Change) → history_kept rows (entries ++ entry_of c ∷ []) ≡ with_change (history_kept rows entries) c
kept_longer rows entries c = ap (λ (l : List Change). record { opening = rows.0; carried = rows.1; changes = l }) (map_push change_in entries (entry_of c))

new_end : (h : History) (c : Change) → IsAccepted h c → ended_by h c ≡ None
new_end h (Registered d parties) a = refl
new_end h (Escrowed d p x n) a = open_here h d (escrow_accepted h d p x n a).«open»
new_end h (Transferred d from to x n) a = open_here h d (transfer_accepted h d from _ to x n a.0).«open»
new_end h (Paid from to x n) a = refl
new_end h (Settled d outcome) a = refl

-- where no deal is settled, every end stays
pub ends_stay : (h : History) (c : Change) → ((d : Id) → settlement d c ≡ None) → (b : Change) → ended_by (with_change h c) b ≡ ended_by h b
ends_stay h c silent (Registered d parties) = refl
ends_stay h c silent (Escrowed d p x n) = answer_kept (settlement d) h.changes c (silent d)
ends_stay h c silent (Transferred d from to x n) = answer_kept (settlement d) h.changes c (silent d)
ends_stay h c silent (Paid from to x n) = refl
ends_stay h c silent (Settled d outcome) = refl

ends_grow : (h : History) (entries : List Entry) (c : Change) → AreEnded h entries → IsAccepted h c → ((d : Id) → settlement d c ≡ None) → AreEnded (with_change h c) (entries ++ entry_of c ∷ [])
ends_grow h entries c ends a silent =
    all_append (λ (entry : Entry). entry.ended ≡ ended_by (with_change h c) entry.change) entries (entry_of c ∷ [])
    (all_weaker (λ (entry : Entry). entry.ended ≡ ended_by h entry.change) (λ (entry : Entry). entry.ended ≡ ended_by (with_change h c) entry.change) entries (λ entry e. e ∙ sym (ends_stay h c silent entry.change)) ends)
    (sym (ends_stay h c silent c ∙ new_end h c a), tt)

-- a change that leaves the deals alone
pub kept_by_others : (h : History) (entries : List Entry) (deals : List KnownDeal) (c : Change) → IsKept h entries deals → IsAccepted h c → LeavesDeals c → IsKept (with_change h c) (entries ++ entry_of c ∷ []) deals
kept_by_others h entries deals c k a leaves = record {
  grown = grown_push h c k.grown a;
  ends = ends_grow h entries c k.ends a (settles_none c leaves);
  parties = λ d. parties_kept h c d (registers_none c leaves d) ∙ k.parties d;
  outcomes = λ d. settlement_kept h c d (settles_none c leaves d) ∙ k.outcomes d;
}
  where
    registers_none : (b : Change) → LeavesDeals b → (d : Id) → registration d b ≡ None
    registers_none (Registered e parties) no_deal d = absurd no_deal
    registers_none (Escrowed e p x n) no_deal d = refl
    registers_none (Transferred e from to x n) no_deal d = refl
    registers_none (Paid from to x n) no_deal d = refl
    registers_none (Settled e outcome) no_deal d = refl

    settles_none : (b : Change) → LeavesDeals b → (d : Id) → settlement d b ≡ None
    settles_none (Registered e parties) no_deal d = refl
    settles_none (Escrowed e p x n) no_deal d = refl
    settles_none (Transferred e from to x n) no_deal d = refl
    settles_none (Paid from to x n) no_deal d = refl
    settles_none (Settled e outcome) no_deal d = absurd no_deal

-- a deal that is registered is at hand
pub kept_by_registration : (h : History) (entries : List Entry) (deals : List KnownDeal) (d : Id) (parties : List Id) → IsKept h entries deals → IsAccepted h (Registered d parties) → IsKept (with_change h (Registered d parties)) (entries ++ entry_of (Registered d parties) ∷ []) (deals ++ record { deal = d; parties = parties; outcome = None } ∷ [])
kept_by_registration h entries deals d parties k a = record {
  grown = grown_push h (Registered d parties) k.grown a;
  ends = ends_grow h entries (Registered d parties) k.ends a (λ e. refl);
  parties = λ e. parties_push h (Registered d parties) e ∙ (ap (λ o. option_or o (cond (same_id e d) (Some parties) None)) (k.parties e) ∙ (told (find_deal deals e) (same_id e d) ∙ ap (option_map parties_in) (sym (find_push (λ known. same_id e known.deal) deals new))));
  outcomes = λ e. settlement_kept h (Registered d parties) e refl ∙ (k.outcomes e ∙ (open_yet (find_deal deals e) (same_id e d) ∙ ap (option_and_then outcome_in) (sym (find_push (λ known. same_id e known.deal) deals new))));
}
  where
    new : KnownDeal
    new = record { deal = d; parties = parties; outcome = None }

    told : (o : Option KnownDeal) (b : Bool) → option_or (option_map parties_in o) (cond b (Some parties) None) ≡ option_map parties_in (option_or o (cond b (Some new) None))
    told None true = refl
    told None false = refl
    told (Some known) b = refl

    open_yet : (o : Option KnownDeal) (b : Bool) → option_and_then outcome_in o ≡ option_and_then outcome_in (option_or o (cond b (Some new) None))
    open_yet None true = refl
    open_yet None false = refl
    open_yet (Some known) b = refl

none_behind : (p : Option Outcome) → option_or p None ≡ p
none_behind None = refl
none_behind (Some q) = refl

-- the deal at hand ends where it is the one that is settled
ends_alike : (h : History) (d e : Id) (o : Outcome) (known : KnownDeal) → settlement_of h d ≡ None → settlement_of h e ≡ known.outcome → same_id e known.deal ≡ true → option_or (settlement_of h e) (cond (same_id e d) (Some o) None) ≡ (with_outcome d o known).outcome
ends_alike h d e o known running told at_hand = at (same_id e d) refl
  where
    at : (b : Bool) → same_id e d ≡ b → option_or (settlement_of h e) (cond b (Some o) None) ≡ (with_outcome d o known).outcome
    at true same =
        let one : d ≡ known.deal = sym (id_from_same e d same) ∙ id_from_same e known.deal at_hand in
        ap (λ i. option_or i (Some o)) (ap (settlement_of h) (id_from_same e d same) ∙ running) ∙ sym (ap (λ b. outcome_in (cond b (record known { outcome = Some o }) known)) (same_from_id d known.deal one))
    at false other =
        let apart : same_id d known.deal ≡ false = same_id-swap d known.deal ∙ (ap (λ i. same_id i d) (sym (id_from_same e known.deal at_hand)) ∙ other) in
        none_behind (settlement_of h e) ∙ (told ∙ sym (ap (λ b. outcome_in (cond b (record known { outcome = Some o }) known)) apart))

-- what moves something in the deal has ended so
ended_now : (h : History) (d e : Id) (o : Outcome) (before : Option Outcome) → ended_here h d ≡ None → before ≡ ended_here h e → cond (same_id d e) (Some o) before ≡ ended_here (with_change h (Settled d o)) e
ended_now h d e o before running told = at (same_id d e) refl ∙ sym (first_answer_push (settlement e) h.changes (Settled d o))
  where
    at : (b : Bool) → same_id d e ≡ b → cond b (Some o) before ≡ option_or (ended_here h e) (cond (same_id e d) (Some o) None)
    at true same =
        let none : ended_here h e ≡ None = ap (ended_here h) (sym (id_from_same d e same)) ∙ running in
        sym (ap (λ p. option_or p (cond (same_id e d) (Some o) None)) none ∙ ap (λ b. cond b (Some o) None) (same_id-swap e d ∙ same))
    at false other = told ∙ sym (ap (λ b. option_or (ended_here h e) (cond b (Some o) None)) (same_id-swap e d ∙ other) ∙ none_behind (ended_here h e))

abbrev ended_in : Entry → Option Outcome
ended_in entry = entry.ended

entry_ended : (h : History) (d : Id) (o : Outcome) → ended_here h d ≡ None → (c : Change) (before : Option Outcome) → before ≡ ended_by h c → cond (is_under d c) (Some o) before ≡ ended_by (with_change h (Settled d o)) c
entry_ended h d o running (Registered e parties) before told = told
entry_ended h d o running (Escrowed e p x n) before told = ended_now h d e o before running told
entry_ended h d o running (Transferred e from to x n) before told = ended_now h d e o before running told
entry_ended h d o running (Paid from to x n) before told = told
entry_ended h d o running (Settled e outcome) before told = told

with_end_is : (h : History) (o : Outcome) (entry : Entry) (b : Bool) → cond b (Some o) entry.ended ≡ ended_by h entry.change → ended_in (cond b (record entry { ended = Some o }) entry) ≡ ended_by h (change_in (cond b (record entry { ended = Some o }) entry))
with_end_is h o entry true e = e
with_end_is h o entry false e = e

ends_noted : (h : History) (d : Id) (o : Outcome) (entries : List Entry) → ended_here h d ≡ None → AreEnded h entries → AreEnded (with_change h (Settled d o)) (map (with_end d o) entries)
ends_noted h d o [] running ends = tt
ends_noted h d o (e ∷ entries) running ends = (with_end_is (with_change h (Settled d o)) o e (is_under d e.change) (entry_ended h d o running e.change e.ended ends.0), ends_noted h d o entries running ends.1)

-- noting an end changes no change
pub same_changes : (d : Id) (o : Outcome) (entries : List Entry) → map change_in (map (with_end d o) entries) ≡ map change_in entries
same_changes d o [] = refl
same_changes d o (e ∷ entries) = at (is_under d e.change) (same_changes d o entries)
  where
    at : (b : Bool) → map change_in (map (with_end d o) entries) ≡ map change_in entries → change_in (cond b (record e { ended = Some o }) e) ∷ map change_in (map (with_end d o) entries) ≡ e.change ∷ map change_in entries
    at true same = ap (λ l. e.change ∷ l) same
    at false same = ap (λ l. e.change ∷ l) same

-- a deal that is settled is settled at hand, and its entries have its end
pub kept_by_settlement : (h : History) (entries : List Entry) (deals : List KnownDeal) (d : Id) (o : Outcome) → IsKept h entries deals → IsAccepted h (Settled d o) → IsKept (with_change h (Settled d o)) (map (with_end d o) (entries ++ entry_of (Settled d o) ∷ [])) (map (with_outcome d o) deals)
kept_by_settlement h entries deals d o k a = record {
  grown = grown_push h (Settled d o) k.grown a;
  ends = ends_noted h d o (entries ++ entry_of (Settled d o) ∷ []) (open_here h d (settle_accepted h d a).«open») (all_append (λ (entry : Entry). entry.ended ≡ ended_by h entry.change) entries (entry_of (Settled d o) ∷ []) k.ends (refl, tt));
  parties = λ e. parties_kept h (Settled d o) e refl ∙ (k.parties e ∙ (same_parties (find_deal deals e) ∙ ap (option_map parties_in) (sym (found e))));
  outcomes = λ e. settlement_push h (Settled d o) e ∙ (ended e (find_deal deals e) refl ∙ ap (option_and_then outcome_in) (sym (found e)));
}
  where
    keeps_deal : (known : KnownDeal) (e : Id) → same_id e (with_outcome d o known).deal ≡ same_id e known.deal
    keeps_deal known e = at (same_id d known.deal)
      where
        at : (b : Bool) → same_id e (cond b (record known { outcome = Some o }) known).deal ≡ same_id e known.deal
        at true = refl
        at false = refl

    found : (e : Id) → find_deal (map (with_outcome d o) deals) e ≡ option_map (with_outcome d o) (find_deal deals e)
    found e = find_map (λ known. same_id e known.deal) (with_outcome d o) deals (λ known. keeps_deal known e)

    keeps_parties : (b : Bool) (known : KnownDeal) → known.parties ≡ (cond b (record known { outcome = Some o }) known).parties
    keeps_parties true known = refl
    keeps_parties false known = refl

    same_parties : (i : Option KnownDeal) → option_map parties_in i ≡ option_map parties_in (option_map (with_outcome d o) i)
    same_parties None = refl
    same_parties (Some known) = ap Some (keeps_parties (same_id d known.deal) known)

    unknown : (e : Id) → find_deal deals e ≡ None → same_id e d ≡ false
    unknown e missing = at (same_id e d) refl
      where
        at : (b : Bool) → same_id e d ≡ b → b ≡ false
        at true same =
            let none : parties_of h d ≡ None = ap (parties_of h) (sym (id_from_same e d same)) ∙ (k.parties e ∙ ap (option_map parties_in) missing) in
            let clash : false ≡ true = sym (ap is_some none) ∙ (settle_accepted h d a).known in
            absurd cc
        at false other = refl

    ended : (e : Id) (i : Option KnownDeal) → find_deal deals e ≡ i → option_or (settlement_of h e) (cond (same_id e d) (Some o) None) ≡ option_and_then outcome_in (option_map (with_outcome d o) i)
    ended e None missing = ap (λ b. option_or (settlement_of h e) (cond b (Some o) None)) (unknown e missing) ∙ ap (λ p. option_or p None) (k.outcomes e ∙ ap (option_and_then outcome_in) missing)
    ended e (Some known) there = ends_alike h d e o known (settle_accepted h d a).«open» (k.outcomes e ∙ ap (option_and_then outcome_in) there) (find_passes (λ i. same_id e i.deal) deals known there)

-- what stands in a list after its whole slice was written
pub written_back : {X : Type 0} (items new : List X) (len : ℕ) → length items ≡ len → length new ≡ length items → take len (new ++ drop (length new) items) ≡ new
written_back items new len whole same = ap (λ rest. take len (new ++ rest)) (drop_all (length new) items (omega arith)) ∙ (ap (take len) (append-nil new) ∙ take_all len new (omega arith))

-- a list is mapped one place further: the element there is changed where it passes the test, and else stays
module _ {X : Type 0} (test : X → Bool) (change : X → X) (xs ys : List X) (i : ℕ) (z : X) (less : i < length xs) (long : i < length ys) (so_far : ys ≡ map (λ (x : X). cond (test x) (change x) x) (take i xs) ++ drop i xs) where
  mapped : set ys i (cond (test (get_or ys i z)) (change (get_or ys i z)) (get_or ys i z)) ≡ map (λ (x : X). cond (test x) (change x) x) (take (i + 1) xs) ++ drop (i + 1) xs
  mapped = map_over_more (λ (x : X). cond (test x) (change x) x) xs ys i (get_or ys i z) less so_far (get_or_default ys i z (get_or ys i z) long)

  pub changed_here : (new : List X) (y : X) → true ≡ test (get_or ys i z) → new ≡ set ys i (change (get_or ys i y)) → new ≡ map (λ (x : X). cond (test x) (change x) x) (take (i + 1) xs) ++ drop (i + 1) xs
  changed_here new y passes e =
      e ∙ (ap (λ (x : X). set ys i (change x)) (get_or_default ys i y z long) ∙ (ap (λ b. set ys i (cond b (change (get_or ys i z)) (get_or ys i z))) passes ∙ mapped))

  pub left_here : (new : List X) → false ≡ test (get_or ys i z) → new ≡ ys → new ≡ map (λ (x : X). cond (test x) (change x) x) (take (i + 1) xs) ++ drop (i + 1) xs
  left_here new fails e =
      e ∙ (sym (set-get_or ys i z) ∙ (ap (λ b. set ys i (cond b (change (get_or ys i z)) (get_or ys i z))) fails ∙ mapped))

-- the entries with the end of a deal stand for the history with its settlement
pub kept_settled : (rows : Base) (entries : List Entry) (d : Id) (o : Outcome) → history_kept rows (map (with_end d o) (entries ++ entry_of (Settled d o) ∷ [])) ≡ with_change (history_kept rows entries) (Settled d o)
kept_settled rows entries d o = ap (λ (l : List Change). record { opening = rows.0; carried = rows.1; changes = l }) (same_changes d o (entries ++ entry_of (Settled d o) ∷ [])) ∙ kept_longer rows entries (Settled d o)
