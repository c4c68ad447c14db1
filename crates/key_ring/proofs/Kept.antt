-- What stands in a keeper once a signer has answered.
use Rattle.std.proofs.Common.{◌≡◌, ℕ, zero, suc, ◌+◌, ◌<◌, ◌≤◌, Bool, true, false, List, [], ◌∷◌, ◌++◌, length, slice_get, Option, Some, None, IfSome, ◌⊎◌, inl, inr, Result, Ok, Err, IsErr, OnOk, OnErr, refl, sym, ap, subst, ◌∙◌, arith}
use Rattle.std.specs.Int.{w32, to_be_bytes}
use Rattle.std.specs.List.{position_from}
use Rattle.std.specs.Str.{bytes_eq}
use Rattle.std.specs.FinMap.{get, insert, get-insert}
use Rattle.std.specs.Ordering.{eq_by_cmp}
use Rattle.std.proofs.lemmas.Bool.{cases_Bool}
use Rattle.std.proofs.lemmas.List.{length-append}
use Rattle.std.proofs.lemmas.Option.{slice_get_past, slice_get_within}
use Rattle.std.proofs.lemmas.Slice.Eq.{bytes_eq-Decides}
use Rattle.keeper_core.specs.Tables.{Cell, cell_cmp, Tables}
use Rattle.keeper_core.specs.declared.keep_fault.KeepFault.{KeepFault}
use Rattle.keeper_core.specs.declared.store_fault.StoreFault.TheVariants.{Keeper, BadRow, NoMemory}
use Rattle.keeper_core.specs.Knowing.{Known}
use Rattle.keeper_core.specs.StoreFaults.{store_fault_of}
use Rattle.keeper_core.specs.Leaving.{Ended, done, failed, starved, refused, ended, of_keep_fault, of_store_fault, KeepsTold, Applies, Halts, Leaves}
use Rattle.keeper_core.proofs.Leaving.{none_or_whole, quiet_stop, false_not_true, handed_on}
use Rattle.key_ring.specs.declared.sign_fault.SignFault.{SignFault}
use Rattle.key_ring.specs.declared.sign_fault.SignFault.TheVariants.{KeysSpent, Store}
use Rattle.key_ring.specs.SignFaults.{of_sign_fault}
use Rattle.keeper_core.proofs.Numbered.{cells_total, exact_cells, equal_of}
use Rattle.keeper_core.proofs.Batched.{at_itself}
use Rattle.keeper_core.proofs.NumberedOn.{numbers_on, stands_under_number}
use Rattle.key_ring.specs.Signers.{SignerTold, key_of, with_text}
use Rattle.key_ring.specs.UsedTexts.{used_tab, StandsFor, IsKept, IsBackedBy, IsBacked, RowsStay, kept_change}

-- ---- which key has signed

first_is : (test : List ℕ → Bool) (i q : ℕ) (texts : List (List ℕ)) → position_from test i texts ≡ Some q → (k : ℕ) × (signed : List ℕ) × (q ≡ i + k) × (slice_get texts k ≡ Some signed) × (test signed ≡ true)
first_is test i q [] found = absurd cc
first_is test i q (text ∷ texts) found = elim (cases_Bool (test text)) [
  | inl passes ↦
      let e : Some i ≡ Some q = sym (rw passes refl) ∙ found in
      (0, text, (let same : i ≡ q = cc in omega arith), refl, passes)
  | inr other ↦
      let later = first_is test (i + 1) q texts (sym (rw other refl) ∙ found) in
      (suc later.0, later.1, omega (arith, later.2), later.3, later.4)
]

-- the key that has signed the text has it
pub key_has_text : (signer : SignerTold) (text : List ℕ) (q : ℕ) → key_of signer text ≡ Some q → slice_get signer.texts q ≡ Some text
key_has_text signer text q found =
    let first = first_is (λ signed. bytes_eq signed text) 0 q signer.texts found in
    ap (λ (k : ℕ). slice_get signer.texts k) (omega (arith, first.2)) ∙ first.3 ∙ ap Some ((bytes_eq-Decides first.1 text).0 first.4)

-- ---- where the rows stand for the texts

got_before : (texts : List (List ℕ)) (more text : List ℕ) (q : ℕ) → slice_get texts q ≡ Some text → slice_get (texts ++ more ∷ []) q ≡ Some text
got_before [] more text q there = absurd cc
got_before (first ∷ texts) more text zero there = there
got_before (first ∷ texts) more text (suc q) there = got_before texts more text q there

-- a text that a key has signed stands under it
text_kept : (texts : List (List ℕ)) (text : List ℕ) (q : ℕ) (tables : Tables) → StandsFor tables texts → length texts ≤ 65 → slice_get texts q ≡ Some text → IsKept tables q text
text_kept texts text q tables stands few there =
    ap (λ (n : ℕ). get tables (used_tab, to_be_bytes w32 n)) (omega arith)
    ∙ stands_under_number w32 used_tab 0 q texts tables stands (omega (arith, few)) (omega (arith, few, slice_get_within texts q text there)) ∙ there

pub again_kept : (told : Option Tables) (stopped : Bool) (signer : SignerTold) (text : List ℕ) (q : ℕ) → IsBackedBy told stopped signer.texts → length signer.texts ≤ 64 → key_of signer text ≡ Some q → IfSome told (λ tables. IsKept tables q text)
again_kept None stopped signer text q backed few found = tt
again_kept (Some tables) stopped signer text q (inl stands) few found = text_kept signer.texts text q tables stands (omega (arith, few)) (key_has_text signer text q found)
again_kept (Some tables) stopped signer text q (inr (halted, more, stands)) few found =
    text_kept (signer.texts ++ more ∷ []) text q tables stands (omega (arith, few, length-append signer.texts (more ∷ []))) (got_before signer.texts more text q (key_has_text signer text q found))

-- ---- where a text is put under the next key

abbrev with_row : Tables → List (List ℕ) → List ℕ → Tables
with_row tables texts text = insert tables (used_tab, to_be_bytes w32 (length texts)) text

put_kept : (tables : Tables) (texts : List (List ℕ)) (text : List ℕ) → IsKept (with_row tables texts text) (length texts) text
put_kept tables texts text = get-insert cells_total tables (used_tab, to_be_bytes w32 (length texts)) text (used_tab, to_be_bytes w32 (length texts)) ∙ (rw (at_itself (used_tab, to_be_bytes w32 (length texts))) refl)

put_stands : (tables : Tables) (texts : List (List ℕ)) (text : List ℕ) → StandsFor tables texts → length texts < 64 → StandsFor (with_row tables texts text) (texts ++ text ∷ [])
put_stands tables texts text stands small =
    subst (λ (n : ℕ). StandsFor (insert tables (used_tab, to_be_bytes w32 n) text) (texts ++ text ∷ [])) (omega arith) (numbers_on w32 used_tab 0 texts text tables stands (omega (arith, small)))

-- no row stood there before
none_before : (tables : Tables) (texts : List (List ℕ)) → StandsFor tables texts → length texts < 64 → get tables (used_tab, to_be_bytes w32 (length texts)) ≡ None
none_before tables texts stands small =
    ap (λ (n : ℕ). get tables (used_tab, to_be_bytes w32 n)) (omega arith)
    ∙ stands_under_number w32 used_tab 0 (length texts) texts tables stands (omega (arith, small)) (omega (arith, small)) ∙ slice_get_past texts (length texts) (omega arith)

put_leaves : (tables : Tables) (texts : List (List ℕ)) (text : List ℕ) → StandsFor tables texts → length texts < 64 → (key old : List ℕ) → get tables (used_tab, key) ≡ Some old → get (with_row tables texts text) (used_tab, key) ≡ Some old
put_leaves tables texts text stands small key old there = elim (cases_Bool (eq_by_cmp cell_cmp (used_tab, key) (used_tab, to_be_bytes w32 (length texts)))) [
  | inl same ↦
      let cell = exact_cells (used_tab, key) (used_tab, to_be_bytes w32 (length texts)) (equal_of _ same) in
      let clash : None ≡ Some old = sym (none_before tables texts stands small) ∙ (ap (λ (c : Cell). get tables c) (sym cell) ∙ there) in
      absurd cc
  | inr apart ↦ get-insert cells_total tables (used_tab, to_be_bytes w32 (length texts)) text (used_tab, key) ∙ (rw apart there)
]

-- ---- what a call that asks the keeper leaves

abbrev pub Put : SignerTold → List ℕ → Option Tables → Option Tables → Type 0
Put signer text told after = Applies told ((kept_change signer text ∷ []) ∷ []) after

-- what is told after a put was told before
put_untold : (later : Tables) (signer : SignerTold) (text : List ℕ) → Put signer text None (Some later) → ⊥
put_untold later signer text put = absurd cc

put_is : (tables later : Tables) (signer : SignerTold) (text : List ℕ) → Put signer text (Some tables) (Some later) → with_row tables signer.texts text ≡ later
put_is tables later signer text put = (let e : Some later ≡ Some (with_row tables signer.texts text) = put in cc)

same_is : (tables later : Tables) → KeepsTold (Some tables) (Some later) → tables ≡ later
same_is tables later same = (let e : Some later ≡ Some tables = same in cc)

same_untold : (later : Tables) → KeepsTold None (Some later) → ⊥
same_untold later same = absurd cc

pub new_kept : (told after : Option Tables) (signer : SignerTold) (text : List ℕ) → Put signer text told after → IfSome after (λ tables. IsKept tables (length signer.texts) text)
new_kept told None signer text put = tt
new_kept None (Some later) signer text put = absurd (put_untold later signer text put)
new_kept (Some tables) (Some later) signer text put = subst (λ (t : Tables). IsKept t (length signer.texts) text) (put_is tables later signer text put) (put_kept tables signer.texts text)

pub new_stands : (told after : Option Tables) (stopped : Bool) (signer : SignerTold) (text : List ℕ) → length signer.texts < 64 → IsBackedBy told stopped signer.texts → (stopped ≡ true → ⊥) → Put signer text told after → IsBackedBy after stopped (signer.texts ++ text ∷ [])
new_stands told None stopped signer text small backed runs put = tt
new_stands None (Some later) stopped signer text small backed runs put = absurd (put_untold later signer text put)
new_stands (Some tables) (Some later) stopped signer text small (inl stands) runs put =
    inl (subst (λ (t : Tables). StandsFor t (signer.texts ++ text ∷ [])) (put_is tables later signer text put) (put_stands tables signer.texts text stands small))
new_stands (Some tables) (Some later) stopped signer text small (inr (halted, more, stands)) runs put = absurd (runs halted)

pub rows_same : (told after : Option Tables) → KeepsTold told after → RowsStay told after
rows_same told None same = tt
rows_same None (Some later) same = absurd (same_untold later same)
rows_same (Some tables) (Some later) same = subst (λ (t : Tables). RowsStay (Some tables) (Some t)) (same_is tables later same) (λ key old there. there)

pub rows_put : (told after : Option Tables) (stopped : Bool) (signer : SignerTold) (text : List ℕ) → length signer.texts < 64 → IsBackedBy told stopped signer.texts → (stopped ≡ true → ⊥) → Put signer text told after → RowsStay told after
rows_put told None stopped signer text small backed runs put = tt
rows_put None (Some later) stopped signer text small backed runs put = absurd (put_untold later signer text put)
rows_put (Some tables) (Some later) stopped signer text small (inl stands) runs put =
    subst (λ (t : Tables). RowsStay (Some tables) (Some t)) (put_is tables later signer text put) (put_leaves tables signer.texts text stands small)
rows_put (Some tables) (Some later) stopped signer text small (inr (halted, more, stands)) runs put = absurd (runs halted)

-- ---- what a call that failed leaves: what was there before, or the text too where the keeper stopped by it

pub data Left (told after : Option Tables) (stopped halts : Bool) (signer : SignerTold) (text : List ℕ) : Type 0 where
  same : KeepsTold told after → (stopped ≡ true → halts ≡ true) → Left told after stopped halts signer text
  more : Put signer text told after → (stopped ≡ true → ⊥) → halts ≡ true → Left told after stopped halts signer text

left_of : (how : Ended) (before after : Known) (signer : SignerTold) (text : List ℕ) → (how ≡ done → ⊥) → Leaves ((kept_change signer text ∷ []) ∷ []) how before after → Left before.tables after.tables before.stopped after.stopped signer text
left_of done before after signer text not_done l = absurd (not_done refl)
left_of failed before after signer text not_done l = elim (none_or_whole (Halts before after) before.tables after.tables (kept_change signer text ∷ []) l.front) [
  | inl unmoved ↦ same unmoved (λ h. (l.stays h).0)
  | inr (halts, put) ↦ more put (λ h. false_not_true before.stopped halts.0 h) halts.1
]
left_of starved before after signer text not_done l = elim (none_or_whole ⊥ before.tables after.tables (kept_change signer text ∷ []) l.front) [
  | inl unmoved ↦ same unmoved (λ h. quiet_stop before after l.quiet ∙ h)
  | inr (never, put) ↦ absurd never
]
left_of refused before after signer text not_done l = same l.unchanged (λ h. quiet_stop before after l.quiet ∙ h)

never_done : (fault : SignFault) → of_sign_fault fault ≡ done → ⊥
never_done (KeysSpent used size) e = absurd cc
never_done (Store Keeper) e = absurd cc
never_done (Store (BadRow tab key)) e = absurd cc
never_done (Store NoMemory) e = absurd cc

still : (told after : Option Tables) (stopped halts : Bool) (texts : List (List ℕ)) → IsBackedBy told stopped texts → KeepsTold told after → (stopped ≡ true → halts ≡ true) → IsBackedBy after halts texts
still told None stopped halts texts backed unmoved stays = tt
still None (Some later) stopped halts texts backed unmoved stays = absurd (same_untold later unmoved)
still (Some tables) (Some later) stopped halts texts (inl stands) unmoved stays = inl (subst (λ (t : Tables). StandsFor t texts) (same_is tables later unmoved) stands)
still (Some tables) (Some later) stopped halts texts (inr (halted, text, stands)) unmoved stays = inr (stays halted, text, subst (λ (t : Tables). StandsFor t (texts ++ text ∷ [])) (same_is tables later unmoved) stands)

more_behind : (told after : Option Tables) (stopped halts : Bool) (signer : SignerTold) (text : List ℕ) → length signer.texts < 64 → IsBackedBy told stopped signer.texts → Put signer text told after → (stopped ≡ true → ⊥) → halts ≡ true → IsBackedBy after halts signer.texts
more_behind told None stopped halts signer text small backed put runs halted = tt
more_behind None (Some later) stopped halts signer text small backed put runs halted = absurd (put_untold later signer text put)
more_behind (Some tables) (Some later) stopped halts signer text small (inl stands) put runs halted =
    inr (halted, text, subst (λ (t : Tables). StandsFor t (signer.texts ++ text ∷ [])) (put_is tables later signer text put) (put_stands tables signer.texts text stands small))
more_behind (Some tables) (Some later) stopped halts signer text small (inr (was, other, stands)) put runs halted = absurd (runs was)

pub left_stands : (told after : Option Tables) (stopped halts : Bool) (signer : SignerTold) (text : List ℕ) → length signer.texts < 64 → IsBackedBy told stopped signer.texts → Left told after stopped halts signer text → IsBackedBy after halts signer.texts
left_stands told after stopped halts signer text small backed (same none stays) = still told after stopped halts signer.texts backed none stays
left_stands told after stopped halts signer text small backed (more put runs halted) = more_behind told after stopped halts signer text small backed put runs halted

pub left_rows : (told after : Option Tables) (stopped halts : Bool) (signer : SignerTold) (text : List ℕ) → length signer.texts < 64 → IsBackedBy told stopped signer.texts → Left told after stopped halts signer text → RowsStay told after
left_rows told after stopped halts signer text small backed (same none stays) = rows_same told after none
left_rows told after stopped halts signer text small backed (more put runs halted) = rows_put told after stopped signer text small backed runs put

-- ---- the answer to a new text

-- what a call that asks the keeper tells
pub record Asked {A : Type 0} (answer : Result A SignFault) (before after : Known) (signer next : SignerTold) (text : List ℕ) : Type 0 where
  pub backed : IsBacked before signer.texts
  pub signed : OnOk answer (next ≡ with_text signer text)
  pub unchanged : OnErr answer (next ≡ signer)
  pub leaves : Leaves ((kept_change signer text ∷ []) ∷ []) (ended of_sign_fault answer) before after

pub asked_backed : {A : Type 0} (answer : Result A SignFault) (before after : Known) (signer next : SignerTold) (text : List ℕ) → length signer.texts < 64 → Asked answer before after signer next text → IsBacked after next.texts
asked_backed (Ok x) before after signer next text small a =
    subst (λ (s : SignerTold). IsBacked after s.texts) (sym a.signed)
    (subst (λ (b : Bool). IsBackedBy after.tables b (signer.texts ++ text ∷ [])) (sym (quiet_stop before after a.leaves.quiet)) (new_stands before.tables after.tables before.stopped signer text small a.backed (false_not_true before.stopped a.leaves.runs.0) a.leaves.applies))
asked_backed (Err fault) before after signer next text small a =
    subst (λ (s : SignerTold). IsBacked after s.texts) (sym a.unchanged)
    (left_stands before.tables after.tables before.stopped after.stopped signer text small a.backed (left_of (of_sign_fault fault) before after signer text (never_done fault) a.leaves))

pub asked_rows : {A : Type 0} (answer : Result A SignFault) (before after : Known) (signer next : SignerTold) (text : List ℕ) → length signer.texts < 64 → Asked answer before after signer next text → RowsStay before.tables after.tables
asked_rows (Ok x) before after signer next text small a = rows_put before.tables after.tables before.stopped signer text small a.backed (false_not_true before.stopped a.leaves.runs.0) a.leaves.applies
asked_rows (Err fault) before after signer next text small a =
    left_rows before.tables after.tables before.stopped after.stopped signer text small a.backed (left_of (of_sign_fault fault) before after signer text (never_done fault) a.leaves)

pub asked_kept : {A : Type 0} (answer : Result A SignFault) (before after : Known) (signer next : SignerTold) (text : List ℕ) → Asked answer before after signer next text → OnOk answer (IfSome after.tables (λ tables. IsKept tables (length signer.texts) text))
asked_kept (Ok x) before after signer next text a = new_kept before.tables after.tables signer text a.leaves.applies
asked_kept (Err fault) before after signer next text a = tt

pub on_ok : {A E P : Type 0} (answer : Result A E) → P → OnOk answer P
on_ok (Ok x) holds = holds
on_ok (Err e) holds = tt

-- ---- a text that was signed, or is not to be

-- the fault of a commit, handed on
pub sign_fault_on : (fault : KeepFault) → of_sign_fault (Store (store_fault_of fault)) ≡ of_keep_fault fault
sign_fault_on fault = handed_on fault
