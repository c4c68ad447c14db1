-- A state that is loaded from rows is the one for which the tables stand.
use Rattle.std.proofs.Common.{◌≡◌, ◌⊎◌, inl, inr, ℕ, zero, suc, ◌+◌, ◌-◌, ◌<◌, ◌≤◌, ◌^◌, ◌==◌, Bool, true, false, not, ◌&&◌, if◌then◌else◌, List, [], ◌∷◌, ◌++◌, map, length, slice_get, cond, Option, Some, None, is_none, IfSome, IsSome, Result, Ok, Err, IfErr, refl, sym, ap, subst, ◌∙◌, arith}
use Rattle.std.specs.Int.{Width, w32, to_be_bytes}
use Rattle.std.specs.Prelude.{slice_index_or}
use Rattle.std.specs.Option.{option_map}
use Rattle.std.specs.List.{Contains, position_from}
use Rattle.std.specs.FinMap.{get}
use Rattle.std.specs.Str.{bytes_eq}
use Rattle.std.proofs.lemmas.List.Elements.{Contains-append_right}
use Rattle.std.proofs.lemmas.Slice.Eq.{bytes_eq-Decides}
use Rattle.sha2.specs.Sha256.{sha256}
use Rattle.dh_base.specs.declared.id.Id.{Id}
use Rattle.keeper_core.specs.declared.row.Row.{Row}
use Rattle.keeper_core.specs.declared.store_fault.StoreFault.{StoreFault}
use Rattle.keeper_core.specs.declared.store_fault.StoreFault.TheVariants.{Keeper, BadRow, NoMemory}
use Rattle.keeper_core.specs.StoreFaults.{bad_row_of}
use Rattle.keeper_core.specs.NumberedRows.{numbered_rows}
use Rattle.keeper_core.specs.Tables.{Tables, rows_of}
use Rattle.keeper_core.proofs.Scanned.{scans_list_the_map}
use Rattle.keeper_core.proofs.NumberedOn.{stands_there}
use Rattle.key_ring.specs.Signers.{SignerTold}
use Rattle.vote_log.specs.Entry.{Entry}
use Rattle.vote_log.specs.RecordTexts.{record_text}
use Rattle.vote_log.specs.declared.kind.Kind.TheVariants.{Start}
use Rattle.deal_log.specs.DealTexts.{TextMap, id_in, text_of}
use Rattle.deal_log.specs.VoteLogs.{VoteLogTold}
use Rattle.deal_log.specs.Rebuilding.{IsRebuilt}
use Rattle.deal_log.proofs.Rebuilt.{first_at}
use Rattle.seat_rows.specs.declared.closing.Closing.{Closing}
use Rattle.seat_rows.specs.declared.loading.Phases.{Phases}
use Rattle.seat_rows.specs.declared.place.SeatPlace.{SeatPlace}
use Rattle.seat_rows.specs.declared.rows.SeatRows.{SeatRows}
use Rattle.seat_rows.specs.declared.state.SeatState.{SeatState}
use Rattle.seat_rows.specs.SeatPlaces.{house_of, is_first}
use Rattle.seat_rows.specs.SeatTexts.{is_text, has_handed, IsSound}
use Rattle.seat_rows.specs.SeatTables.{record_tab, text_tab, phase_tab, begun_key, closing_key, record_texts, begun_row, closing_text}
use Rattle.seat_rows.specs.SeatReading.{text_rows, IsNoRecord, IsRecordFault, IsNoText, IsTextFault}
use Rattle.seat_rows.specs.SeatOpening.{HoldsTexts, AreRowsOf, is_no_beginning, is_no_closing, is_unbegun, IsAmissAt, Lacks, NoBeginning, NoClosing, EarlyClosing, NoRecord, EarlyRecord, BadRecord, NoText, UnusedText, LastKey}
use Rattle.seat_rows.specs.SeatLoading.{IsBegunFault, IsClosedBy, IsClosingFault, IsEarlyFault, holds_text, is_unheld, IsKeptLog, IsLogFault, IsLastFault, IsStateFault, ArePhases, IsLogIn}
use Rattle.seat_rows.proofs.Cells.{record_count}

-- ---- rows of texts

later_on : {X : Type 0} (first : X) (xs : List X) (x : X) → Contains xs x → Contains (first ∷ xs) x
later_on first xs x (k, lt, is) = (suc k, omega arith, is)

text_row : List ℕ → Row
text_row text = record { key = sha256 text; val = text }

in_rows : (texts : List (List ℕ)) (row : Row) → Contains (text_rows texts) row → Contains texts row.val × (sha256 row.val ≡ row.key)
in_rows [] row (k, lt, is) = absurd (omega arith)
in_rows (text ∷ texts) row (zero, lt, is) =
    let val : text ≡ row.val = ap (λ (r : Row). r.val) is in
    ((0, omega arith, val), ap sha256 (sym val) ∙ ap (λ (r : Row). r.key) is)
in_rows (text ∷ texts) row (suc k, lt, is) = let later = in_rows texts row (k, omega arith, is) in (later_on text texts row.val later.0, later.1)

as_row : (texts : List (List ℕ)) (text key : List ℕ) → sha256 text ≡ key → Contains texts text → Contains (text_rows texts) (record { key = key; val = text })
as_row [] text key under (k, lt, is) = absurd (omega arith)
as_row (first ∷ texts) text key under (zero, lt, is) = (0, omega arith, λ i. record { key = (ap sha256 is ∙ under) i; val = is i })
as_row (first ∷ texts) text key under (suc k, lt, is) = later_on _ (text_rows texts) _ (as_row texts text key under (k, omega arith, is))

-- The table has the texts that are kept.
pub texts_found : (tables : Tables) (kept : TextMap) → HoldsTexts (rows_of text_tab tables) kept → (key : List ℕ) → get tables (text_tab, key) ≡ get kept key
texts_found tables kept h key = go (get tables (text_tab, key)) refl (get kept key) refl
  where
    listed : (val : List ℕ) → get tables (text_tab, key) ≡ Some val → get kept key ≡ Some val
    listed val is =
        let row : Row = record { key = key; val = val } in
        let among = in_rows h.texts row (subst (λ (rs : List Row). Contains rs row) h.rows_are ((scans_list_the_map text_tab row tables).1 is)) in
        ap (get kept) (sym among.1) ∙ h.all val among.0

    kept_there : (text : List ℕ) → get kept key ≡ Some text → get tables (text_tab, key) ≡ Some text
    kept_there text is =
        let own = h.only key text is in
        (scans_list_the_map text_tab (record { key = key; val = text }) tables).0 (subst (λ (rs : List Row). Contains rs (record { key = key; val = text })) (sym h.rows_are) (as_row h.texts text key own.1 own.0))

    go : (there : Option (List ℕ)) → get tables (text_tab, key) ≡ there → (own : Option (List ℕ)) → get kept key ≡ own → get tables (text_tab, key) ≡ get kept key
    go (Some val) is own is' = is ∙ sym (listed val is)
    go None is (Some text) is' = kept_there text is' ∙ sym is'
    go None is None is' = is ∙ sym is'

is_text_so : (o : Option (List ℕ)) (text : List ℕ) → is_text o text ≡ true → o ≡ Some text
is_text_so None text is = absurd cc
is_text_so (Some own) text is = ap Some ((bytes_eq-Decides own text).0 is)

pub holds_texts : (place : SeatPlace) (recs : List Entry) (rows : List Row) (texts : List (List ℕ)) (log : VoteLogTold) → rows ≡ text_rows texts → IsKeptLog place recs texts log → HoldsTexts rows log.texts
holds_texts place recs rows texts log rows_are kept = record {
  texts = texts;
  rows_are = rows_are;
  all = λ text among. is_text_so (text_of log.texts (id_in text)) text (kept.1 text among);
  only = λ key text is. let own = kept.0.keeps.only (record { 0 = key }) text is in (own.0, ap (λ (id : Id). id.0) own.1.for.id);
}

-- ---- how many rows there are

count_numbered : (width : Width) (first : ℕ) (vals : List (List ℕ)) → length (numbered_rows width first vals) ≡ length vals
count_numbered width first [] = refl
count_numbered width first (val ∷ vals) = ap suc (count_numbered width (suc first) vals)

count_rows : (rows : List Row) (recs : List Entry) → rows ≡ numbered_rows w32 0 (record_texts recs) → length rows ≡ length recs
count_rows rows recs is = ap length is ∙ count_numbered w32 0 (record_texts recs) ∙ record_count recs

no_rows : (recs : List Entry) → length recs ≡ 0 → recs ≡ []
no_rows [] none = refl
no_rows (rec ∷ recs) none = absurd cc

-- ---- the state

module _ (place : SeatPlace) (rows : SeatRows) (state : SeatState) (phases : Phases) (p : ArePhases place rows phases) (l : IsLogIn place rows state.log) (begun_is : state.begun ≡ phases.begun) (closing_is : state.closing ≡ phases.closing) where
  entries_are : state.log.entries ≡ l.recs
  entries_are = l.kept.0.entries

  pub rows_of_state : AreRowsOf place rows state
  rows_of_state = record {
    records = l.records ∙ ap (λ (es : List Entry). numbered_rows w32 0 (record_texts es)) (sym entries_are);
    texts = holds_texts place l.recs rows.texts l.texts state.log l.texts_are l.kept;
    begun = p.begun ∙ ap (begun_row place) (sym begun_is);
    closing = p.closing.0 ∙ ap (option_map closing_text) (sym closing_is);
  }

  count_is : length rows.records ≡ length state.log.entries
  count_is = count_rows rows.records l.recs l.records ∙ ap length (sym entries_are)

  at_end : (closing : Option Closing) → IfSome closing (λ c. (c.len ≡ length rows.records) × IsSome phases.begun) → IfSome closing (λ c. (c.len ≡ length state.log.entries) × IsSome state.begun)
  at_end None is = tt
  at_end (Some c) is = (is.0 ∙ count_is, subst IsSome (sym begun_is) is.1)

  pub sound_state : length state.signer.texts ≤ state.signer.spec.size → (length state.signer.texts ≡ state.signer.spec.size → has_handed place state ≡ true) → IsSound place state
  sound_state few reserve = record {
    housed = l.kept.0.housed;
    few = few;
    reserve = reserve;
    closed = subst (λ (o : Option Closing). IfSome o (λ c. (c.len ≡ length state.log.entries) × IsSome state.begun)) (sym closing_is) (at_end phases.closing p.closing.1);
    empty = λ none. entries_are ∙ no_rows l.recs (sym (count_rows rows.records l.recs l.records) ∙ ap length (p.empty (sym begun_is ∙ none)));
    first = λ first. begun_is ∙ p.first first;
  }

-- ---- texts that a log does not keep

some_none : (n : ℕ) → Some n ≡ None → ⊥
some_none n e = absurd cc

none_passes : (p : List ℕ → Bool) (i : ℕ) (xs : List (List ℕ)) (x : List ℕ) → position_from p i xs ≡ None → Contains xs x → p x ≡ false
none_passes p i [] x none (k, lt, is) = absurd (omega arith)
none_passes p i (y ∷ xs) x none among = go (p y) refl none among (λ later there. none_passes p (i + 1) xs x later there)
  where
    go : (b : Bool) → p y ≡ b → cond b (Some i) (position_from p (i + 1) xs) ≡ None → Contains (y ∷ xs) x → (position_from p (i + 1) xs ≡ None → Contains xs x → p x ≡ false) → p x ≡ false
    go true is none among next = absurd (some_none i none)
    go false is none (zero, lt, here) next = ap p (sym here) ∙ is
    go false is none (suc k, lt, here) next = next none (k, omega arith, here)

held : (kept : TextMap) (text : List ℕ) → is_unheld kept text ≡ false → holds_text kept text ≡ true
held kept text is = go (holds_text kept text) refl is
  where
    go : (b : Bool) → holds_text kept text ≡ b → not b ≡ false → holds_text kept text ≡ true
    go true is same = is
    go false is same = absurd cc

unheld : (kept : TextMap) (text : List ℕ) → is_unheld kept text ≡ true → holds_text kept text ≡ false
unheld kept text is = go (holds_text kept text) refl is
  where
    go : (b : Bool) → holds_text kept text ≡ b → not b ≡ true → holds_text kept text ≡ false
    go false is same = is
    go true is same = absurd cc

pub all_held : (kept : TextMap) (texts : List (List ℕ)) → position_from (is_unheld kept) 0 texts ≡ None → (text : List ℕ) → Contains texts text → holds_text kept text ≡ true
all_held kept texts none text among = held kept text (none_passes (is_unheld kept) 0 texts text none among)

got_there : (xs : List (List ℕ)) (k : ℕ) (x d : List ℕ) → slice_get xs k ≡ Some x → (slice_index_or xs k d ≡ x) × Contains xs x
got_there [] k x d e = absurd cc
got_there (y ∷ xs) zero x d e = let same : y ≡ x = cc in (same, (0, omega arith, same))
got_there (y ∷ xs) (suc k) x d e = let later = got_there xs k x d e in (later.0, later_on y xs x later.1)

pub unheld_fault : (place : SeatPlace) (recs : List Entry) (texts : List (List ℕ)) (log : VoteLogTold) (at : ℕ) (text key : List ℕ) (fault : StoreFault) → IsRebuilt (house_of place) recs texts log → position_from (is_unheld log.texts) 0 texts ≡ Some at
    → text ≡ slice_index_or texts at text → key ≡ sha256 text → fault ≡ bad_row_of text_tab key → IsLogFault place recs texts fault
unheld_fault place recs texts log at text key fault made found here named is =
    let first = first_at (is_unheld log.texts) 0 texts at found in
    let place_is : at ≡ first.index = omega (arith, first.at_is) in
    let got = got_there texts first.index first.element text first.here in
    let own : text ≡ first.element = here ∙ ap (λ (n : ℕ). slice_index_or texts n text) place_is ∙ got.0 in
    subst (IsLogFault place recs texts) (sym (is ∙ ap (λ (k : List ℕ). bad_row_of text_tab k) (named ∙ ap sha256 own)))
    (inr (log, first.element, made, got.1, unheld log.texts first.element first.passes, refl))

-- ---- what holds of an answer that is handed on

pub on_err : {A : Type 0} (P Q : StoreFault → Type 0) (answer : Result A StoreFault) → ((fault : StoreFault) → P fault → Q fault) → IfErr answer P → IfErr answer Q
on_err P Q (Ok x) on is = tt
on_err P Q (Err fault) on is = on fault is

-- ---- rows that lack their form

module _ (place : SeatPlace) (rows : SeatRows) (signer : SignerTold) where
  -- the row of that table and key is amiss
  amiss_row : (tab : ℕ) (row : Row) (fault : StoreFault) → fault ≡ bad_row_of tab row.key → Lacks place signer.spec.size signer.texts rows tab row → IsStateFault place rows signer fault
  amiss_row tab row fault is lacks = subst (IsStateFault place rows signer) (sym is) (row, refl, lacks)

  pub begun_lacks : (fault : StoreFault) → IsBegunFault place rows.begun fault → IsStateFault place rows signer fault
  begun_lacks fault (is, val, there, bad) = amiss_row phase_tab (record { key = begun_key; val = val }) fault is (NoBeginning refl refl there bad)

  unbegun : (begun : Option ℕ) → rows.begun ≡ begun_row place begun → (is_first place ≡ true → begun ≡ Some 0) → begun ≡ None → is_unbegun place rows ≡ true
  unbegun begun row first none = go (is_first place) refl
    where
      no_row : rows.begun ≡ begun_row place None
      no_row = row ∙ ap (begun_row place) none

      go : (is : Bool) → is_first place ≡ is → is_unbegun place rows ≡ true
      go true is = absurd (some_none 0 (sym (first is) ∙ none))
      go false is = ap (λ (b : Bool). not b && is_none rows.begun) is ∙ ap (λ (o : Option (List ℕ)). is_none o) (no_row ∙ ap (λ (b : Bool). if b then None else None) is)

  pub closing_lacks : (begun : Option ℕ) (fault : StoreFault) → rows.begun ≡ begun_row place begun → (is_first place ≡ true → begun ≡ Some 0) → IsClosingFault begun (length rows.records) rows.closing fault → IsStateFault place rows signer fault
  closing_lacks begun fault row first (is, val, there, inl bad) = amiss_row phase_tab (record { key = closing_key; val = val }) fault is (NoClosing refl refl there bad)
  closing_lacks begun fault row first (is, val, there, inr none) = amiss_row phase_tab (record { key = closing_key; val = val }) fault is (EarlyClosing refl refl there (unbegun begun row first none))

  pub early_lacks : (begun : Option ℕ) (fault : StoreFault) → rows.begun ≡ begun_row place begun → (is_first place ≡ true → begun ≡ Some 0) → IsEarlyFault begun rows.records fault → IsStateFault place rows signer fault
  early_lacks begun fault row first (none, early, here, is) = amiss_row record_tab early fault is (EarlyRecord refl (unbegun begun row first none) here)

  pub record_lacks : (fault : StoreFault) → IsRecordFault rows.records fault → IsStateFault place rows signer fault
  record_lacks Keeper is = is
  record_lacks (BadRow tab digest) (is_tab, row, key, bad) = (row, key, NoRecord is_tab bad)
  record_lacks NoMemory is = tt

  pub text_lacks : (fault : StoreFault) → IsTextFault rows.texts fault → IsStateFault place rows signer fault
  text_lacks Keeper is = is
  text_lacks (BadRow tab digest) (is_tab, row, key, bad) = (row, key, NoText is_tab bad)
  text_lacks NoMemory is = tt

  there : (recs : List Entry) (at : ℕ) (entry : Entry) → rows.records ≡ numbered_rows w32 0 (record_texts recs) → slice_get recs at ≡ Some entry → Contains rows.records (record { key = to_be_bytes w32 at; val = record_text entry })
  there recs at entry is here =
      subst (λ (rs : List Row). Contains rs (record { key = to_be_bytes w32 at; val = record_text entry })) (sym is)
      (subst (λ (n : ℕ). Contains (numbered_rows w32 0 (record_texts recs)) (record { key = to_be_bytes w32 n; val = record_text entry })) (omega arith)
      (stands_there w32 0 at (record_texts recs) (record_text entry) (mapped recs at entry here)))
    where
      mapped : (recs : List Entry) (at : ℕ) (entry : Entry) → slice_get recs at ≡ Some entry → slice_get (record_texts recs) at ≡ Some (record_text entry)
      mapped [] at entry e = absurd cc
      mapped (first ∷ recs) zero entry e = let same : first ≡ entry = cc in ap (λ (r : Entry). Some (record_text r)) same
      mapped (first ∷ recs) (suc at) entry e = mapped recs at entry e

  placed_at : (recs : List Entry) (texts : List (List ℕ)) (at : ℕ) → IsAmissAt place recs texts at → (entry : Entry) × (slice_get recs at ≡ Some entry)
  placed_at recs texts at (inl refused) = (refused.entry, refused.here)
  placed_at recs texts at (inr missing) = (record { kind = Start; num = missing.num; deal = missing.deal }, missing.here)

  pub log_lacks : (recs : List Entry) (texts : List (List ℕ)) (fault : StoreFault) → rows.records ≡ numbered_rows w32 0 (record_texts recs) → rows.texts ≡ text_rows texts → IsLogFault place recs texts fault → IsStateFault place rows signer fault
  log_lacks recs texts Keeper records texts_are is = is
  log_lacks recs texts NoMemory records texts_are is = tt
  log_lacks recs texts (BadRow tab digest) records texts_are (inl (at, is, amiss)) =
      let here = placed_at recs texts at amiss in
      amiss_row record_tab (record { key = to_be_bytes w32 at; val = record_text here.0 }) (BadRow tab digest) is (BadRecord recs texts at refl records texts_are amiss refl (there recs at here.0 records here.1))
  log_lacks recs texts (BadRow tab digest) records texts_are (inr (log, text, made, among, unheld, is)) =
      amiss_row text_tab (record { key = sha256 text; val = text }) (BadRow tab digest) is
      (UnusedText recs texts log refl records texts_are made (not_held log text unheld) (subst (λ (rs : List Row). Contains rs (record { key = sha256 text; val = text })) (sym texts_are) (as_row texts text (sha256 text) refl among)))
    where
      own_text : (o : Option (List ℕ)) (text : List ℕ) → o ≡ Some text → is_text o text ≡ true
      own_text None text is = absurd cc
      own_text (Some own) text is = let same : own ≡ text = cc in (bytes_eq-Decides own text).1 same

      not_held : (log : VoteLogTold) (text : List ℕ) → holds_text log.texts text ≡ false → text_of log.texts (id_in text) ≡ Some text → ⊥
      not_held log text unheld is = (let clash : false ≡ true = sym unheld ∙ own_text (text_of log.texts (id_in text)) text is in absurd cc)

  pub last_lacks : (state : SeatState) (fault : StoreFault) → state.signer ≡ signer → AreRowsOf place rows state → IsLastFault place state fault → IsStateFault place rows signer fault
  last_lacks state fault own rows_are (all, unhanded, is) =
      let size : state.signer.spec.size ≡ signer.spec.size = ap (λ (s : SignerTold). s.spec.size) own in
      let texts : state.signer.texts ≡ signer.texts = ap (λ (s : SignerTold). s.texts) own in
      let full : length signer.texts ≡ signer.spec.size = sym (ap length texts) ∙ (all ∙ size) in
      let last = slice_get_found signer.texts (signer.spec.size - 1) (let some = signer.spec.some in omega (arith, full, some)) in
      amiss_row 8 (record { key = to_be_bytes w32 (signer.spec.size - 1); val = last.0 }) fault
      (is ∙ ap (λ (n : ℕ). bad_row_of 8 (to_be_bytes w32 (n - 1))) (all ∙ size))
      (LastKey state refl rows_are texts full unhanded refl last.1)
    where
      slice_get_found : (xs : List (List ℕ)) (k : ℕ) → k < length xs → (x : List ℕ) × (slice_get xs k ≡ Some x)
      slice_get_found [] k within = absurd (omega arith)
      slice_get_found (x ∷ xs) zero within = (x, refl)
      slice_get_found (x ∷ xs) (suc k) within = slice_get_found xs k (omega arith)
