-- A history that holds a settlement of a deal has settled it.
use Rattle.std.proofs.Common.{◌≡◌, Bool, true, false, cond, Option, Some, None, Result, Ok, Err, List, [], ◌∷◌, ◌++◌, Contains, refl, ap, ◌∙◌, subst, ⊎_elim}
use Rattle.std.specs.Option.{option_or}
use Rattle.dh_base.specs.declared.id.Id.{Id}
use Rattle.dh_base.specs.Ids.{same_id}
use Rattle.dh_base.specs.declared.outcome.Outcome.{Outcome}
use Rattle.act_text.specs.declared.act.Act.{Act}
use Rattle.act_text.specs.declared.act.Act.TheVariants.{Register, Pay, Escrow, Transfer, StartDeal, Vote}
use Rattle.act_text.specs.declared.act_fault.ActFault.{ActFault}
use Rattle.act_text.specs.declared.office.Office.TheVariants.{Ledger}
use Rattle.act_text.specs.ActReading.{act_of}
use Rattle.escrow_book.specs.declared.change.Change.{Change}
use Rattle.escrow_book.specs.declared.change.Change.TheVariants as change
use Rattle.escrow_book.specs.History.{History, with_change, first_answer, settlement, settlement_of, is_known}
use Rattle.escrow_book.specs.Base.{carried_outcome}
use Rattle.escrow_book.specs.Reached.{registered}
use Rattle.ledger_rows.specs.declared.entry.Entry.{Entry}
use Rattle.ledger_rows.specs.declared.entry.Entry.TheVariants.{Act as Accepted, Settlement}
use Rattle.ledger_rows.specs.Entries.{digest_of, parties_in, with_act, with_read, with_entry, with_entries}
use Rattle.ledger_history.proofs.Elements.{head_or_tail, none_in_empty, or_parts, same_id_self}

none_of_both : {X : Type 0} (a b : Option X) → a ≡ None → b ≡ None → option_or a b ≡ None
none_of_both a b e f = ap (λ o. option_or o b) e ∙ f

answer_front : (answer : Change → Option Outcome) (xs : List Change) (x : Change) → first_answer answer (xs ++ x ∷ []) ≡ None → first_answer answer xs ≡ None
answer_front answer [] x e = refl
answer_front answer (y ∷ xs) x e =
    let both = or_parts (answer y) (first_answer answer (xs ++ x ∷ [])) e in
    none_of_both (answer y) (first_answer answer xs) both.0 (answer_front answer xs x both.1)

answer_last : (answer : Change → Option Outcome) (xs : List Change) (x : Change) → first_answer answer (xs ++ x ∷ []) ≡ None → answer x ≡ None
answer_last answer [] x e = (or_parts (answer x) None e).0
answer_last answer (y ∷ xs) x e = answer_last answer xs x (or_parts (answer y) (first_answer answer (xs ++ x ∷ [])) e).1

-- a deal that is open was open before
change_open : (b : History) (c : Change) (d : Id) → settlement_of (with_change b c) d ≡ None → settlement_of b d ≡ None
change_open b c d e =
    let both = or_parts (carried_outcome b.carried d) (first_answer (settlement d) (b.changes ++ c ∷ [])) e in
    none_of_both (carried_outcome b.carried d) (first_answer (settlement d) b.changes) both.0 (answer_front (settlement d) b.changes c both.1)

registered_open : (b : History) (e : Id) (parties : List Id) (d : Id) → settlement_of (registered b e parties) d ≡ None → settlement_of b d ≡ None
registered_open b e parties d = by_test (is_known b e)
  where
    by_test : (s : Bool) → settlement_of (cond s b (with_change b (change.Registered e parties))) d ≡ None → settlement_of b d ≡ None
    by_test true is = is
    by_test false is = change_open b (change.Registered e parties) d is

act_open : (b : History) (a : Id) (act : Act) (d : Id) → settlement_of (with_act b a act) d ≡ None → settlement_of b d ≡ None
act_open b a (Register text) d e = registered_open b (digest_of text) (parties_in text) d e
act_open b a (Pay house l to x n) d e = change_open b (change.Paid a to x n) d e
act_open b a (Escrow within l x n) d e = change_open b (change.Escrowed within a x n) d e
act_open b a (Transfer within l t to x n) d e = change_open b (change.Transferred within a to x n) d e
act_open b a (StartDeal text) d e = e
act_open b a (Vote within k choice) d e = e

read_open : (b : History) (a : Id) (r : Result Act ActFault) (d : Id) → settlement_of (with_read b a r) d ≡ None → settlement_of b d ≡ None
read_open b a (Ok act) d e = act_open b a act d e
read_open b a (Err fault) d e = e

entry_open : (b : History) (entry : Entry) (d : Id) → settlement_of (with_entry b entry) d ≡ None → settlement_of b d ≡ None
entry_open b (Accepted a q message) d e = read_open b a (act_of Ledger message) d e
entry_open b (Settlement within outcome) d e = change_open b (change.Settled within outcome) d e

entries_open : (b : History) (entries : List Entry) (d : Id) → settlement_of (with_entries b entries) d ≡ None → settlement_of b d ≡ None
entries_open b [] d e = e
entries_open b (entry ∷ entries) d e = entry_open b entry d (entries_open (with_entry b entry) entries d e)

now_settled : (b : History) (d : Id) (outcome : Outcome) → settlement_of (with_change b (change.Settled d outcome)) d ≡ None → ⊥
now_settled b d outcome e =
    let both = or_parts (carried_outcome b.carried d) (first_answer (settlement d) (b.changes ++ change.Settled d outcome ∷ [])) e in
    let last : cond (same_id d d) (Some outcome) None ≡ None = answer_last (settlement d) b.changes (change.Settled d outcome) both.1 in
    let some : cond (same_id d d) (Some outcome) None ≡ Some outcome = ap (λ (t : Bool). cond t (Some outcome) None) (same_id_self d) in
    absurd (cc (last, some))

pub is_settled : (b : History) (entries : List Entry) (d : Id) (outcome : Outcome) → Contains entries (Settlement d outcome) → settlement_of (with_entries b entries) d ≡ None → ⊥
is_settled b [] d outcome c e = none_in_empty (Settlement d outcome) c
is_settled b (entry ∷ entries) d outcome c e =
    ⊎_elim
    (λ (is : entry ≡ Settlement d outcome). now_settled b d outcome (subst (λ x. settlement_of (with_entry b x) d ≡ None) is (entries_open (with_entry b entry) entries d e)))
    (λ (later : Contains entries (Settlement d outcome)). is_settled (with_entry b entry) entries d outcome later e)
    (head_or_tail entry entries (Settlement d outcome) c)
