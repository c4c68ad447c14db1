-- A party that has made all its moves passes on no more.
use Rattle.std.proofs.Common.{◌≡◌, ℕ, ◌<◌, ◌≤◌, Bool, true, false, cond, Ok, List, [], ◌∷◌, ◌++◌, Contains, refl, ap, sym, ◌∙◌, subst, arith}
use Rattle.std.proofs.lemmas.List.Sums.{sum_by_push}
use Rattle.dh_base.specs.declared.id.Id.{Id}
use Rattle.act_text.specs.declared.act.Act.{Act}
use Rattle.act_text.specs.declared.act.Act.TheVariants.{Register, Pay, Escrow, Transfer, StartDeal, Vote}
use Rattle.act_text.specs.declared.office.Office.TheVariants.{Ledger}
use Rattle.act_text.specs.ActReading.{act_of}
use Rattle.escrow_book.specs.declared.change.Change.{Change}
use Rattle.escrow_book.specs.declared.change.Change.TheVariants as change
use Rattle.escrow_book.specs.History.{History, with_change, is_known, escrowed, received, given, is_move, moves_of, deal_came, deal_went, if_commit_of}
use Rattle.escrow_book.specs.Reached.{registered}
use Rattle.ledger_rows.specs.declared.entry.Entry.{Entry}
use Rattle.ledger_rows.specs.declared.entry.Entry.TheVariants.{Act as Accepted, Settlement}
use Rattle.ledger_rows.specs.Entries.{digest_of, parties_in, with_act, with_entry, with_entries}
use Rattle.ledger_history.specs.Histories.{IsTaken, IsNext, AreAccepted}
use Rattle.ledger_history.specs.PlannedActs.{HaveTurnsBelow}
use Rattle.ledger_history.proofs.Elements.{at_head, in_tail, if_same, turn_is}
use Rattle.ledger_history.proofs.Fronts.{entry_is}

-- nothing more went, no less came, and no move is gone
record Grows (b c : History) (d p : Id) (x : List ℕ) : Type 0 where
  went : deal_went c d p x ≡ deal_went b d p x
  came : deal_came b d p x ≤ deal_came c d p x
  moves : moves_of b d p ≤ moves_of c d p

same_book : (b : History) (d p : Id) (x : List ℕ) → Grows b b d p x
same_book b d p x = record { went = refl; came = omega arith; moves = omega arith }

more_book : (b c e : History) (d p : Id) (x : List ℕ) → Grows b c d p x → Grows c e d p x → Grows b e d p x
more_book b c e d p x g h = record { went = h.went ∙ g.went; came = omega (arith, g.came, h.came); moves = omega (arith, g.moves, h.moves) }

by_change : (b : History) (c : Change) (d p : Id) (x : List ℕ) → given d p x c ≡ 0 → Grows b (with_change b c) d p x
by_change b c d p x none = record {
  went = sum_by_push (given d p x) b.changes c ∙ omega (arith, none);
  came = omega (arith, sum_by_push (escrowed d p x) b.changes c, sum_by_push (received d p x) b.changes c);
  moves = omega (arith, sum_by_push (λ e. cond (is_move d p e) 1 0) b.changes c);
}

by_register : (b : History) (e : Id) (parties : List Id) (d p : Id) (x : List ℕ) → Grows b (registered b e parties) d p x
by_register b e parties d p x = by_test (is_known b e)
  where
    by_test : (s : Bool) → Grows b (cond s b (with_change b (change.Registered e parties))) d p x
    by_test true = same_book b d p x
    by_test false = by_change b (change.Registered e parties) d p x refl

-- a transfer of the account in the deal has a turn below
abbrev IsBelow : List ℕ → Id → Act → Id → Id → ℕ → Type 0
IsBelow name a act d p turns = (t : ℕ) (to : Id) (y : List ℕ) (n : ℕ) → a ≡ p → act ≡ Transfer d name t to y n → t < turns

by_act : (name : List ℕ) (b : History) (a : Id) (act : Act) (d p : Id) (turns : ℕ) (x : List ℕ) → IsTaken name b a act → IsBelow name a act d p turns → turns ≤ moves_of b d p → Grows b (with_act b a act) d p x
by_act name b a (Register text) d p turns x taken below all = by_register b (digest_of text) (parties_in text) d p x
by_act name b a (Pay house on to y n) d p turns x taken below all = by_change b (change.Paid a to y n) d p x refl
by_act name b a (Escrow e on y n) d p turns x taken below all = by_change b (change.Escrowed e a y n) d p x refl
by_act name b a (StartDeal text) d p turns x taken below all = absurd taken
by_act name b a (Vote e k choice) d p turns x taken below all = absurd taken
by_act name b a (Transfer e on t to y n) d p turns x taken below all =
    by_change b (change.Transferred e a to y n) d p x
    (if_same (λ m. m ≡ 0) d e p a x y n
    (λ named by of.
    let same : Transfer e on t to y n ≡ Transfer d name t to y n = cc (named, taken.0) in
    let less : t < turns = below t to y n (sym by) same in
    let turn : t ≡ moves_of b d p = turn_is b e a t to y n taken.1 ∙ (ap (λ i. moves_of b i a) (sym named) ∙ ap (λ i. moves_of b d i) (sym by)) in
    absurd (omega (arith, less, turn, all)))
    refl)

-- what is asked of all entries is asked of the first
first_below : (name : List ℕ) (a : Id) (q : ℕ) (message : List ℕ) (act : Act) (rest : List Entry) (d p : Id) (turns : ℕ) → act_of Ledger message ≡ Ok act → HaveTurnsBelow name (Accepted a q message ∷ rest) d p turns → IsBelow name a act d p turns
first_below name a q message act rest d p turns reads below t to y n by is =
    below q message t to y n (subst (λ (i : Id). Contains (Accepted a q message ∷ rest) (Accepted i q message)) by (at_head (Accepted a q message) rest)) (reads ∙ ap (λ (x : Act). Ok x) is)

rest_below : (name : List ℕ) (entry : Entry) (rest : List Entry) (d p : Id) (turns : ℕ) → HaveTurnsBelow name (entry ∷ rest) d p turns → HaveTurnsBelow name rest d p turns
rest_below name entry rest d p turns below q message t to y n c = below q message t to y n (in_tail entry rest (Accepted p q message) c)

by_entry : (name : List ℕ) (b : History) (front : List Entry) (entry : Entry) (rest : List Entry) (d p : Id) (turns : ℕ) (x : List ℕ) → IsNext name b front entry → HaveTurnsBelow name (entry ∷ rest) d p turns → turns ≤ moves_of b d p → Grows b (with_entry b entry) d p x
by_entry name b front (Settlement e outcome) rest d p turns x next below all = by_change b (change.Settled e outcome) d p x refl
by_entry name b front (Accepted a q message) rest d p turns x next below all =
    subst (λ c. Grows b c d p x) (sym (entry_is b a q message next.act next.reads))
    (by_act name b a next.act d p turns x next.taken (first_below name a q message next.act rest d p turns next.reads below) all)

by_entries : (name : List ℕ) (b : History) (front rest : List Entry) (d p : Id) (turns : ℕ) (x : List ℕ) → AreAccepted name b front rest → HaveTurnsBelow name rest d p turns → turns ≤ moves_of b d p → Grows b (with_entries b rest) d p x
by_entries name b front [] d p turns x a below all = same_book b d p x
by_entries name b front (entry ∷ rest) d p turns x a below all =
    let now = by_entry name b front entry rest d p turns x a.0 below all in
    more_book b (with_entry b entry) (with_entries (with_entry b entry) rest) d p x now
    (by_entries name (with_entry b entry) (front ++ entry ∷ []) rest d p turns x a.1 (rest_below name entry rest d p turns below) (omega (arith, now.moves, all)))

pub no_less : (name : List ℕ) (b : History) (front rest : List Entry) (d p : Id) (turns : ℕ) (x : List ℕ) → AreAccepted name b front rest → HaveTurnsBelow name rest d p turns → turns ≤ moves_of b d p → if_commit_of b d p x ≤ if_commit_of (with_entries b rest) d p x
no_less name b front rest d p turns x a below all =
    let g = by_entries name b front rest d p turns x a below all in
    omega (arith, g.went, g.came)
