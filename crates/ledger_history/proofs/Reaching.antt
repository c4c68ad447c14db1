-- The book of a history is reached.
use Rattle.std.proofs.Common.{◌≡◌, ◌<◌, ℕ, Bool, true, false, cond, IsTrue, Option, Some, None, is_some, List, [], ◌∷◌, ◌++◌, refl, sym, subst}
use Rattle.dh_base.specs.declared.id.Id.{Id}
use Rattle.dh_base.specs.declared.outcome.Outcome.{Outcome}
use Rattle.act_text.specs.declared.act.Act.{Act}
use Rattle.act_text.specs.declared.act.Act.TheVariants.{Register, Pay, Escrow, Transfer, StartDeal, Vote}
use Rattle.escrow_book.specs.declared.change.Change.TheVariants as change
use Rattle.escrow_book.specs.History.{History, with_change, parties_of, is_known, moves_of}
use Rattle.escrow_book.specs.Refused.{escrow_refusal, transfer_refusal, pay_refusal, settle_refusal}
use Rattle.escrow_book.specs.Reached.{IsReached, are_parties, registered}
use Rattle.escrow_book.specs.Base.{greatest_turn}
use Rattle.ledger_rows.specs.declared.entry.Entry.{Entry}
use Rattle.ledger_rows.specs.declared.entry.Entry.TheVariants.{Act as Accepted, Settlement}
use Rattle.ledger_rows.specs.Entries.{digest_of, parties_in, with_act, with_entry, with_entries}
use Rattle.ledger_history.specs.Histories.{IsTaken, IsNext, AreAccepted}
use Rattle.ledger_history.proofs.Fronts.{entry_is}

-- a reached book grows by what it doesn't refuse
pub record Growth : Type 0 where
  pub register : (h : History) (d : Id) (parties : List Id) → IsReached h → parties_of h d ≡ None → IsTrue (are_parties parties) → IsReached (with_change h (change.Registered d parties))
  pub escrow : (h : History) (d p : Id) (x : List ℕ) (n : ℕ) → IsReached h → escrow_refusal h d p x n ≡ None → IsReached (with_change h (change.Escrowed d p x n))
  pub transfer : (h : History) (d from : Id) (turn : ℕ) (to : Id) (x : List ℕ) (n : ℕ) → IsReached h → moves_of h d from < greatest_turn → transfer_refusal h d from turn to x n ≡ None → IsReached (with_change h (change.Transferred d from to x n))
  pub pay : (h : History) (from to : Id) (x : List ℕ) (n : ℕ) → IsReached h → pay_refusal h from to x n ≡ None → IsReached (with_change h (change.Paid from to x n))
  pub settle : (h : History) (d : Id) (outcome : Outcome) → IsReached h → settle_refusal h d ≡ None → IsReached (with_change h (change.Settled d outcome))

no_parties : {X : Type 0} (o : Option X) → is_some o ≡ false → o ≡ None
no_parties None e = refl
no_parties (Some x) e = absurd cc

registered_reached : Growth → (b : History) (d : Id) (parties : List Id) → IsReached b → IsTrue (are_parties parties) → IsReached (registered b d parties)
registered_reached grow b d parties r good = by_test (is_known b d) refl
  where
    by_test : (s : Bool) → is_known b d ≡ s → IsReached (cond s b (with_change b (change.Registered d parties)))
    by_test true is = r
    by_test false is = grow.register b d parties r (no_parties (parties_of b d) is) good

act_reached : Growth → (name : List ℕ) (b : History) (a : Id) (act : Act) → IsReached b → IsTaken name b a act → IsReached (with_act b a act)
act_reached grow name b a (Register text) r taken = registered_reached grow b (digest_of text) (parties_in text) r taken.0
act_reached grow name b a (Pay house ledger to x n) r taken = grow.pay b a to x n r taken.1
act_reached grow name b a (Escrow d ledger x n) r taken = grow.escrow b d a x n r taken.1
act_reached grow name b a (Transfer d ledger t to x n) r taken = grow.transfer b d a t to x n r taken.2 taken.1
act_reached grow name b a (StartDeal text) r taken = absurd taken
act_reached grow name b a (Vote d k choice) r taken = absurd taken

one_more : Growth → (name : List ℕ) (b : History) (front : List Entry) (entry : Entry) → IsReached b → IsNext name b front entry → IsReached (with_entry b entry)
one_more grow name b front (Accepted a q message) r next = subst IsReached (sym (entry_is b a q message next.act next.reads)) (act_reached grow name b a next.act r next.taken)
one_more grow name b front (Settlement d outcome) r next = grow.settle b d outcome r next

pub all_reached : Growth → (name : List ℕ) (b : History) (front rest : List Entry) → IsReached b → AreAccepted name b front rest → IsReached (with_entries b rest)
all_reached grow name b front [] r a = r
all_reached grow name b front (entry ∷ rest) r a = all_reached grow name (with_entry b entry) (front ++ entry ∷ []) rest (one_more grow name b front entry r a.0) a.1
