-- A history grows by accepted changes, one at a time.
use Rattle.std.proofs.Common.{List, [], ◌∷◌, ◌++◌, sym, subst, append_assoc, append-nil}
use Rattle.escrow_book.specs.declared.change.Change.{Change}
use Rattle.escrow_book.specs.Base.{Base}
use Rattle.escrow_book.specs.History.{History, with_change, with_changes}
use Rattle.escrow_book.specs.Reached.{IsAccepted, AreAccepted, IsGrown, IsReached, begun}

-- the history of this base and these changes
abbrev pub history : Base → List Change → History
history rows changes = record { opening = rows.0; carried = rows.1; changes = changes }

-- what the history begins with
abbrev pub base_of : History → Base
base_of h = (h.opening, h.carried)

accepted_push : (rows : Base) (front xs : List Change) (c : Change) → AreAccepted (history rows front) xs → IsAccepted (history rows (front ++ xs)) c → AreAccepted (history rows front) (xs ++ c ∷ [])
accepted_push rows front [] c all here = (subst (λ (l : List Change). IsAccepted (history rows l) c) (append-nil front) here, tt)
accepted_push rows front (x ∷ xs) c all here =
    (all.0, accepted_push rows (front ++ x ∷ []) xs c all.1 (subst (λ (l : List Change). IsAccepted (history rows l) c) (sym (append_assoc front (x ∷ []) xs)) here))

pub grown_push : (h : History) (c : Change) → IsGrown h → IsAccepted h c → IsGrown (with_change h c)
grown_push h c r here = record { good = r.good; accepted = accepted_push (base_of h) [] h.changes c r.accepted here }

pub reached_push : (h : History) (c : Change) → IsReached h → IsAccepted h c → IsReached (with_change h c)
reached_push h c r here = record { whole = r.whole; good = r.good; accepted = accepted_push (base_of h) [] h.changes c r.accepted here }

-- a property of the front that each accepted change keeps holds of the whole list
module _ (rows : Base) (P : List Change → Type 0) (step : (front : List Change) (c : Change) → IsGrown (history rows front) → P front → IsAccepted (history rows front) c → P (front ++ c ∷ [])) where
  walk : (front rest : List Change) → IsGrown (history rows front) → P front → AreAccepted (history rows front) rest → P (front ++ rest)
  walk front [] r p all = subst P (sym (append-nil front)) p
  walk front (c ∷ rest) r p all =
      subst P (append_assoc front (c ∷ []) rest) (walk (front ++ c ∷ []) rest (grown_push (history rows front) c r all.0) (step front c r p all.0) all.1)

  pub by_steps : (changes : List Change) → P [] → IsGrown (history rows changes) → P changes
  by_steps changes base r = walk [] changes (record { good = r.good; accepted = tt }) base r.accepted

-- the changes of a front were accepted, and the others after it
pub accepted_split : (h : History) (front rest : List Change) → AreAccepted h (front ++ rest) → AreAccepted h front × AreAccepted (with_changes h front) rest
accepted_split h [] rest all = (tt, subst (λ (l : List Change). AreAccepted (history (base_of h) l) rest) (sym (append-nil h.changes)) all)
accepted_split h (c ∷ front) rest all =
    let later = accepted_split (with_change h c) front rest all.1 in
    ((all.0, later.0), subst (λ (l : List Change). AreAccepted (history (base_of h) l) rest) (append_assoc h.changes (c ∷ []) front) later.1)

pub rest_accepted : (h : History) (more : List Change) → IsGrown (with_changes h more) → AreAccepted h more
rest_accepted h more r = (accepted_split (begun h.opening h.carried) h.changes more r.accepted).1
