-- Each change of a deal comes from its registered parties.
use Rattle.std.proofs.Common.{◌≡◌, true, ◌&&◌, nat_le, cond, length, List, [], ◌∷◌, ◌++◌, Option, Some, None, refl, ap, sym, ◌∙◌, subst}
use Rattle.std.specs.List.{AllByRecursion}
use Rattle.std.specs.Option.{option_or}
use Rattle.std.proofs.lemmas.Bool.{and_parts}
use Rattle.dh_base.specs.declared.id.Id.{Id}
use Rattle.escrow_book.specs.declared.change.Change.{Change}
use Rattle.escrow_book.specs.declared.change.Change.TheVariants.{Registered, Escrowed, Transferred, Paid, Settled}
use Rattle.escrow_book.specs.Base.{Base}
use Rattle.escrow_book.specs.History.{History, with_change, registration, parties_of, is_in, is_among, is_party}
use Rattle.escrow_book.specs.Reached.{IsAccepted, IsGrown, are_different, are_parties}
use Rattle.escrow_book.proofs.Sums.{all_weaker, all_append}
use Rattle.dh_base.proofs.SameIds.{id_from_same, same_id-self}
use Rattle.escrow_book.proofs.Lookups.{parties_stay, parties_push}
use Rattle.escrow_book.proofs.Accepting.{escrow_accepted, transfer_accepted}
use Rattle.escrow_book.proofs.Accounts.{IsCovered}
use Rattle.escrow_book.proofs.Steps.{history, by_steps}

-- the accounts of the change are parties of its deal
abbrev pub FitsDeal : History → Change → Type 0
FitsDeal h (Registered d parties) = (parties_of h d ≡ Some parties) × (are_different parties ≡ true)
FitsDeal h (Escrowed d party asset n) = (parties : List Id) × (parties_of h d ≡ Some parties) × (is_in party parties ≡ true)
FitsDeal h (Transferred d from to asset n) = (parties : List Id) × (parties_of h d ≡ Some parties) × (is_in from parties ≡ true) × (is_in to parties ≡ true)
FitsDeal h (Paid from to asset n) = Unit {0}
FitsDeal h (Settled d outcome) = Unit {0}

fits_later : (h : History) (c : Change) (s : Change) → FitsDeal h s → FitsDeal (with_change h c) s
fits_later h c (Registered d parties) f = (parties_stay h (c ∷ []) d parties f.0, f.1)
fits_later h c (Escrowed d p x n) f = (f.0, parties_stay h (c ∷ []) d f.0 f.1, f.2)
fits_later h c (Transferred d from to x n) f = (f.0, parties_stay h (c ∷ []) d f.0 f.1, f.2, f.3)
fits_later h c (Paid from to x n) f = tt
fits_later h c (Settled d outcome) f = tt

among_parties : (p : Id) (o : Option (List Id)) → is_among p o ≡ true → (parties : List Id) × (o ≡ Some parties) × (is_in p parties ≡ true)
among_parties p None e = absurd cc
among_parties p (Some parties) e = (parties, refl, e)

party_among : (h : History) (d p : Id) → is_party h d p ≡ true → (parties : List Id) × (parties_of h d ≡ Some parties) × (is_in p parties ≡ true)
party_among h d p e = among_parties p (parties_of h d) e

pub same_some : {T : Type 0} (s t : T) → Some s ≡ Some t → s ≡ t
same_some s t e = cc

different_parties : (parties : List Id) → are_parties parties ≡ true → are_different parties ≡ true
different_parties parties e =
    (and_parts (nat_le (length parties) 16) (are_different parties) (and_parts (nat_le 2 (length parties)) (nat_le (length parties) 16 && are_different parties) e).1).1

-- the change that is accepted fits the history that it joins
fits_now : (h : History) (c : Change) → IsAccepted h c → FitsDeal (with_change h c) c
fits_now h (Registered d parties) a =
    let before : parties_of h d ≡ None = a.0 in
    let answer : registration d (Registered d parties) ≡ Some parties = ap (λ b. cond b (Some parties) None) (same_id-self d) in
    (parties_push h (Registered d parties) d ∙ (ap (λ o. option_or o (registration d (Registered d parties))) before ∙ answer), different_parties parties a.1)
fits_now h (Escrowed d p x n) a =
    let found = party_among h d p (escrow_accepted h d p x n a).party in
    (found.0, parties_stay h (Escrowed d p x n ∷ []) d found.0 found.1, found.2)
fits_now h (Transferred d from to x n) a =
    let t = transfer_accepted h d from _ to x n a.0 in
    let sender = party_among h d from t.sender in
    let receiver = party_among h d to t.receiver in
    let one : receiver.0 ≡ sender.0 = same_some receiver.0 sender.0 (sym receiver.1 ∙ sender.1) in
    (sender.0, parties_stay h (Transferred d from to x n ∷ []) d sender.0 sender.1, sender.2, subst (λ (ps : List Id). is_in to ps ≡ true) one receiver.2)
fits_now h (Paid from to x n) a = tt
fits_now h (Settled d outcome) a = tt

pub all_fit : (rows : Base) (changes : List Change) → IsGrown (history rows changes) → AllByRecursion (FitsDeal (history rows changes)) changes
all_fit rows changes r =
    by_steps rows (λ front. AllByRecursion (FitsDeal (history rows front)) front) (λ front c reached before a. all_append (FitsDeal (history rows (front ++ c ∷ []))) front (c ∷ []) (all_weaker (FitsDeal (history rows front)) (FitsDeal (history rows (front ++ c ∷ []))) front (fits_later (history rows front) c) before) (fits_now (history rows front) c a, tt)) changes tt r

-- the accounts that a change names in a deal are among the deal's parties
pub covered_by_parties : (h : History) (d : Id) (parties : List Id) (c : Change) → parties_of h d ≡ Some parties → FitsDeal h c → IsCovered parties d c
covered_by_parties h d parties (Registered e others) known f = tt
covered_by_parties h d parties (Escrowed e q y n) known f = λ same.
    let one : f.0 ≡ parties = same_some f.0 parties (sym f.1 ∙ (ap (parties_of h) (sym (id_from_same d e same)) ∙ known)) in
    subst (λ (ps : List Id). is_in q ps ≡ true) one f.2
covered_by_parties h d parties (Transferred e from to y n) known f = λ same.
    let one : f.0 ≡ parties = same_some f.0 parties (sym f.1 ∙ (ap (parties_of h) (sym (id_from_same d e same)) ∙ known)) in
    (subst (λ (ps : List Id). is_in from ps ≡ true) one f.2, subst (λ (ps : List Id). is_in to ps ≡ true) one f.3)
covered_by_parties h d parties (Paid from to y n) known f = tt
covered_by_parties h d parties (Settled e outcome) known f = tt
