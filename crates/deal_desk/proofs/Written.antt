-- A text is written piece by piece.
use Rattle.std.proofs.Common.{◌≡◌, ℕ, ◌+◌, ◌≤◌, List, length, ◌++◌, take, drop, Option, Some, None, sym, ap, subst, ◌∙◌, append_assoc, take-add}
use Rattle.std.proofs.lemmas.List.{take_all}
use Rattle.std.specs.Io.KnownBytes.{Appends, Keeps}
use Rattle.dh_base.specs.Faults.{HasRisen}
use Rattle.dh_base.specs.Outside.{Seen, Gained, Rose}
use Rattle.deal_desk.specs.Endings.{WroteFront}

kept_again : (first now next : Option (List ℕ)) → Keeps first now → Keeps now next → Keeps first next
kept_again None now next kept again = tt
kept_again (Some bytes) None next kept again = absurd kept
kept_again (Some bytes) (Some same) None kept again = absurd again
kept_again (Some bytes) (Some same) (Some last) kept again = again ∙ kept

written_more : (text : List ℕ) (at n : ℕ) (first now next : Option (List ℕ)) → Appends first now (take at text) → Appends now next (take n (drop at text)) → Appends first next (take (at + n) text)
written_more text at n None now next front more = tt
written_more text at n (Some before) None next front more = absurd front
written_more text at n (Some before) (Some so_far) None front more = absurd more
written_more text at n (Some before) (Some so_far) (Some longer) front more =
    more ∙ (ap (λ (t : List ℕ). t ++ take n (drop at text)) front ∙ (append_assoc before (take at text) (take n (drop at text)) ∙ ap (λ (t : List ℕ). before ++ t) (sym (take-add at n text))))

written_kept : (text : List ℕ) (first now next : Option (List ℕ)) → Appends first now text → Keeps now next → Appends first next text
written_kept text None now next front kept = tt
written_kept text (Some before) None next front kept = absurd front
written_kept text (Some before) (Some so_far) None front kept = absurd kept
written_kept text (Some before) (Some so_far) (Some same) front kept = kept ∙ front

pub front_grows : (text : List ℕ) (at n : ℕ) (first now next : Seen) → Gained first (take at text) now → Gained now (take n (drop at text)) next → Gained first (take (at + n) text) next
front_grows text at n first now next front more = record {
  left = kept_again first.left now.left next.left front.left more.left;
  written = written_more text at n first.written now.written next.written front.written more.written;
  faults = more.faults ∙ front.faults;
}

pub rises_behind : (bytes : List ℕ) (first now next : Seen) → Gained first bytes now → Rose now next → HasRisen first.faults next.faults
rises_behind bytes first now next gained rose = subst (λ (count : ℕ). HasRisen count next.faults) gained.faults rose.faults

pub front_stays : (text : List ℕ) (at : ℕ) (first now next : Seen) → Gained first (take at text) now → Rose now next → WroteFront first text next
front_stays text at first now next front rose =
    (at, written_kept (take at text) first.written now.written next.written front.written rose.written)

pub whole_gained : (text : List ℕ) (at : ℕ) (first now : Seen) → length text ≤ at → Gained first (take at text) now → Gained first text now
whole_gained text at first now all gained = subst (λ (t : List ℕ). Gained first t now) (take_all at text all) gained
