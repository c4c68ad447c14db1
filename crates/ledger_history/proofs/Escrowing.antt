-- One text under one key is escrowed once.
use Rattle.std.proofs.Common.{◌≡◌, ℕ, ◌+◌, Bool, true, false, cond, Some, None, Ok, List, [], ◌∷◌, ◌++◌, Contains, slice_get, refl, ap, sym, ◌∙◌, subst, inl, inr, ◌⊎◌, ⊎_elim, arith}
use Rattle.std.proofs.lemmas.Bool.{eq-eqb}
use Rattle.std.proofs.lemmas.List.Elements.{Contains-append_left, Contains-append_right}
use Rattle.std.proofs.lemmas.List.Sums.{sum_by_push}
use Rattle.dh_base.specs.declared.id.Id.{Id}
use Rattle.dh_base.specs.Fields.{AreBytes}
use Rattle.act_text.specs.declared.act.Act.{Act}
use Rattle.act_text.specs.declared.act.Act.TheVariants.{Register, Pay, Escrow, Transfer, StartDeal, Vote}
use Rattle.act_text.specs.declared.office.Office.TheVariants.{Ledger}
use Rattle.act_text.specs.ActTexts.{act_text}
use Rattle.act_text.specs.ActReading.{act_of}
use Rattle.act_text.proofs.ActTexts.{act-read}
use Rattle.escrow_book.specs.declared.change.Change.TheVariants as change
use Rattle.escrow_book.specs.History.{History, with_change, is_known, escrowed, if_abort_of}
use Rattle.escrow_book.specs.Reached.{registered}
use Rattle.ledger_rows.specs.declared.entry.Entry.{Entry}
use Rattle.ledger_rows.specs.declared.entry.Entry.TheVariants.{Act as Accepted, Settlement}
use Rattle.ledger_rows.specs.Entries.{digest_of, parties_in, signed_by, used_from, used_of, with_act, with_entry, with_entries}
use Rattle.ledger_history.specs.Histories.{IsTaken, IsNext, AreAccepted}
use Rattle.ledger_history.specs.PlannedActs.{HaveOneEscrow, AreOnce}
use Rattle.ledger_history.proofs.Elements.{at_head, in_tail, head_or_tail, none_in_empty, if_same, or_parts, same_id_self}
use Rattle.ledger_history.proofs.Fronts.{entry_is}

-- ---- a key that has an entry is not new

used_head : (k : ℕ) (p : Id) (q : ℕ) (message : List ℕ) → signed_by k p q (Accepted p q message) ≡ None → ⊥
used_head k p q message e =
    let some : signed_by k p q (Accepted p q message) ≡ Some (record { at = k; message = digest_of message }) = rw (same_id_self p, eq-eqb q q refl) refl in
    absurd (cc (e, some))

used_some : (k : ℕ) (front : List Entry) (p : Id) (q : ℕ) (message : List ℕ) → Contains front (Accepted p q message) → used_from k front p q ≡ None → ⊥
used_some k [] p q message c e = none_in_empty (Accepted p q message) c
used_some k (entry ∷ front) p q message c e =
    let both = or_parts (signed_by k p q entry) (used_from (k + 1) front p q) e in
    ⊎_elim
    (λ (is : entry ≡ Accepted p q message). used_head k p q message (ap (λ (x : Entry). signed_by k p q x) (sym is) ∙ both.0))
    (λ (later : Contains front (Accepted p q message)). used_some (k + 1) front p q message later both.1)
    (head_or_tail entry front (Accepted p q message) c)

module _ (name : List ℕ) (texts : List (List ℕ)) (d p : Id) (x : List ℕ) (n : ℕ) (once : AreOnce texts) where
  abbrev The : List ℕ
  The = act_text (Escrow d name x n)

  abbrev AreThatOne : List Entry → Type 0
  AreThatOne h = HaveOneEscrow name h texts d p x n

  -- the entry is that one, under a key that has none
  record IsThatOne (front : List Entry) (entry : Entry) (amount : ℕ) : Type 0 where
    q : ℕ
    is : entry ≡ Accepted p q The
    signed : slice_get texts q ≡ Some The
    new : used_of front p q ≡ None
    full : amount ≡ n

  -- an entry adds nothing, or that one
  record Adds (b c : History) (front : List Entry) (entry : Entry) : Type 0 where
    amount : ℕ
    sums : if_abort_of c d p x ≡ if_abort_of b d p x + amount
    only : (amount ≡ 0) ⊎ IsThatOne front entry amount

  nothing : (b c : History) (front : List Entry) (entry : Entry) → if_abort_of c d p x ≡ if_abort_of b d p x + 0 → Adds b c front entry
  nothing b c front entry e = record { amount = 0; sums = e; only = inl refl }

  at_register : (b : History) (e : Id) (parties : List Id) → if_abort_of (registered b e parties) d p x ≡ if_abort_of b d p x + 0
  at_register b e parties = by_test (is_known b e)
    where
      by_test : (s : Bool) → if_abort_of (cond s b (with_change b (change.Registered e parties))) d p x ≡ if_abort_of b d p x + 0
      by_test true = omega arith
      by_test false = omega (arith, sum_by_push (escrowed d p x) b.changes (change.Registered e parties))

  that_one : (front : List Entry) (a : Id) (q : ℕ) (message : List ℕ) (e : Id) (on y : List ℕ) (m : ℕ) → AreBytes message → used_of front a q ≡ None → act_of Ledger message ≡ Ok (Escrow e on y m) → on ≡ name → AreThatOne (Accepted a q message ∷ []) → d ≡ e → p ≡ a → x ≡ y
      → IsThatOne front (Accepted a q message) m
  that_one front a q message e on y m bytes new reads here those named by of =
      let same : Escrow e on y m ≡ Escrow d name x m = cc (named, of, here) in
      let at : Contains (Accepted a q message ∷ []) (Accepted p q message) = subst (λ (i : Id). Contains (Accepted a q message ∷ []) (Accepted i q message)) (sym by) (at_head (Accepted a q message) []) in
      let it = those q message m at (reads ∙ ap (λ (act : Act). Ok act) same) in
      let spelled : message ≡ act_text (Escrow e on y m) = ((act-read Ledger message (Escrow e on y m) bytes).0 reads).2 in
      let whole : message ≡ The = spelled ∙ (ap act_text same ∙ ap (λ (i : ℕ). act_text (Escrow d name x i)) it.0) in
      record {
        q = q;
        is = ap (λ (i : Id). Accepted i q message) (sym by) ∙ ap (λ (text : List ℕ). Accepted p q text) whole;
        signed = it.1 ∙ ap (λ (text : List ℕ). Some text) whole;
        new = ap (λ (i : Id). used_of front i q) by ∙ new;
        full = it.0;
      }

  act_adds : (b : History) (front : List Entry) (a : Id) (q : ℕ) (message : List ℕ) (act : Act) → AreBytes message → used_of front a q ≡ None → act_of Ledger message ≡ Ok act → IsTaken name b a act → AreThatOne (Accepted a q message ∷ [])
      → Adds b (with_act b a act) front (Accepted a q message)
  act_adds b front a q message (Register text) bytes new reads taken those = nothing b (with_act b a (Register text)) front (Accepted a q message) (at_register b (digest_of text) (parties_in text))
  act_adds b front a q message (Pay house on to y m) bytes new reads taken those = nothing b (with_act b a (Pay house on to y m)) front (Accepted a q message) (omega (arith, sum_by_push (escrowed d p x) b.changes (change.Paid a to y m)))
  act_adds b front a q message (Transfer e on t to y m) bytes new reads taken those = nothing b (with_act b a (Transfer e on t to y m)) front (Accepted a q message) (omega (arith, sum_by_push (escrowed d p x) b.changes (change.Transferred e a to y m)))
  act_adds b front a q message (StartDeal text) bytes new reads taken those = absurd taken
  act_adds b front a q message (Vote e k choice) bytes new reads taken those = absurd taken
  act_adds b front a q message (Escrow e on y m) bytes new reads taken those = record {
    amount = escrowed d p x (change.Escrowed e a y m);
    sums = omega (arith, sum_by_push (escrowed d p x) b.changes (change.Escrowed e a y m));
    only = if_same (λ s. (s ≡ 0) ⊎ IsThatOne front (Accepted a q message) s) d e p a x y m
        (λ named by of. inr (that_one front a q message e on y m bytes new reads taken.0 those named by of))
        (inl refl);
  }

  adds : (b : History) (front : List Entry) (entry : Entry) → IsNext name b front entry → AreThatOne (entry ∷ []) → Adds b (with_entry b entry) front entry
  adds b front (Settlement e outcome) next those = nothing b (with_entry b (Settlement e outcome)) front (Settlement e outcome) (omega (arith, sum_by_push (escrowed d p x) b.changes (change.Settled e outcome)))
  adds b front (Accepted a q message) next those =
      subst (λ c. Adds b c front (Accepted a q message)) (sym (entry_is b a q message next.act next.reads)) (act_adds b front a q message next.act next.bytes next.new next.reads next.taken those)

  rest_of : (entry : Entry) (rest : List Entry) → AreThatOne (entry ∷ rest) → AreThatOne rest
  rest_of entry rest those q message m c = those q message m (in_tail entry rest (Accepted p q message) c)

  first_of : (entry : Entry) (rest : List Entry) → AreThatOne (entry ∷ rest) → AreThatOne (entry ∷ [])
  first_of entry rest those q message m c = those q message m (Contains-append_left (entry ∷ []) rest (Accepted p q message) c)

  still_used : (front : List Entry) (entry : Entry) (q : ℕ) → Contains front (Accepted p q The) → Contains (front ++ entry ∷ []) (Accepted p q The)
  still_used front entry q c = Contains-append_left front (entry ∷ []) (Accepted p q The) c

  now_used : (front : List Entry) (entry : Entry) (q : ℕ) → entry ≡ Accepted p q The → Contains (front ++ entry ∷ []) (Accepted p q The)
  now_used front entry q is = Contains-append_right front (entry ∷ []) (Accepted p q The) (subst (λ e. Contains (entry ∷ []) e) is (at_head entry []))

  -- once that key is used, no escrow follows
  none_behind : (q : ℕ) → slice_get texts q ≡ Some The → (b : History) (front rest : List Entry) → Contains front (Accepted p q The) → AreAccepted name b front rest → AreThatOne rest → if_abort_of (with_entries b rest) d p x ≡ if_abort_of b d p x
  none_behind q signed b front [] was a those = refl
  none_behind q signed b front (entry ∷ rest) was a those =
      let one = adds b front entry a.0 (first_of entry rest those) in
      let later : if_abort_of (with_entries (with_entry b entry) rest) d p x ≡ if_abort_of (with_entry b entry) d p x = none_behind q signed (with_entry b entry) (front ++ entry ∷ []) rest (still_used front entry q was) a.1 (rest_of entry rest those) in
      let none : one.amount ≡ 0 = ⊎_elim (λ (still : one.amount ≡ 0). still)
      (λ (it : IsThatOne front entry one.amount). absurd (used_some 1 front p it.q The (subst (λ i. Contains front (Accepted p i The)) (once q it.q The signed it.signed) was) it.new)) one.only in
      later ∙ (one.sums ∙ omega (arith, none))

  pub once_behind : (b : History) (front rest : List Entry) → AreAccepted name b front rest → AreThatOne rest → (if_abort_of (with_entries b rest) d p x ≡ if_abort_of b d p x) ⊎ (if_abort_of (with_entries b rest) d p x ≡ if_abort_of b d p x + n)
  once_behind b front [] a those = inl refl
  once_behind b front (entry ∷ rest) a those =
      let one = adds b front entry a.0 (first_of entry rest those) in
      ⊎_elim
      (λ (still : one.amount ≡ 0). ⊎_elim
      (λ (same : if_abort_of (with_entries (with_entry b entry) rest) d p x ≡ if_abort_of (with_entry b entry) d p x). inl (same ∙ (one.sums ∙ omega (arith, still))))
      (λ (more : if_abort_of (with_entries (with_entry b entry) rest) d p x ≡ if_abort_of (with_entry b entry) d p x + n). inr (more ∙ omega (arith, still, one.sums)))
      (once_behind (with_entry b entry) (front ++ entry ∷ []) rest a.1 (rest_of entry rest those)))
      (λ (it : IsThatOne front entry one.amount).
      inr (none_behind it.q it.signed (with_entry b entry) (front ++ entry ∷ []) rest (now_used front entry it.q it.is) a.1 (rest_of entry rest those) ∙ omega (arith, one.sums, it.full)))
      one.only
