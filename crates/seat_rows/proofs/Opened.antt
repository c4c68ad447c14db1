-- Tables from which a state was loaded stand for it, once they name the seat.
use Rattle.std.proofs.Common.{◌≡◌, ◌⊎◌, inl, inr, ℕ, ◌+◌, ◌-◌, ◌<◌, ◌≤◌, List, [], ◌∷◌, ◌++◌, length, slice_get, Option, Some, None, IfSome, refl, sym, ap, subst, ◌∙◌, arith}
use Rattle.std.specs.Int.{w32, to_be_bytes}
use Rattle.std.specs.List.{Contains}
use Rattle.std.proofs.lemmas.List.Elements.{Contains-append_right}
use Rattle.std.specs.FinMap.{get}
use Rattle.keeper_core.specs.declared.change.Change.{Change}
use Rattle.keeper_core.specs.declared.row.Row.{Row}
use Rattle.keeper_core.specs.Tables.{Tables, rows_of}
use Rattle.keeper_core.specs.Batches.{after_batch}
use Rattle.keeper_core.specs.Knowing.{Known}
use Rattle.keeper_core.specs.Leaving.{done, after_batches, Applies, Leaves}
use Rattle.keeper_core.proofs.Leaving.{is_told, not_told}
use Rattle.keeper_core.proofs.OtherTables.{other_tables_stay}
use Rattle.keeper_core.proofs.Scanned.{scans_list_the_map}
use Rattle.keeper_core.proofs.OneListing.{here}
use Rattle.keeper_core.proofs.NumberedOn.{stands_under_number}
use Rattle.keeper_core.specs.declared.store_fault.StoreFault.{StoreFault}
use Rattle.keeper_core.specs.declared.store_fault.StoreFault.TheVariants.{Keeper, BadRow, NoMemory}
use Rattle.keeper_core.specs.StoreFaults.{bad_row_of, HasCause}
use Rattle.key_ring.specs.Signers.{SignerTold, signer_account}
use Rattle.key_ring.specs.UsedTexts as used
use Rattle.seat_rows.specs.declared.place.SeatPlace.{SeatPlace}
use Rattle.seat_rows.specs.declared.rows.SeatRows.{SeatRows}
use Rattle.seat_rows.specs.declared.state.SeatState.{SeatState}
use Rattle.seat_rows.specs.SeatTables.{form_tab, form_key, record_tab, text_tab, phase_tab, begun_key, closing_key, form_text, StandsFor}
use Rattle.seat_rows.specs.SeatChanges.{form_changes}
use Rattle.seat_rows.specs.SeatReading.{rows_in, form_in}
use Rattle.seat_rows.specs.SeatOpening.{HoldsTexts, AreRowsOf, Lacks, LastKey, NoBeginning, NoClosing, EarlyClosing, NoRecord, EarlyRecord, BadRecord, NoText, UnusedText, LacksForm}
use Rattle.seat_rows.specs.SeatLoading.{IsStateFault}
use Rattle.seat_rows.proofs.Cells.{put_at}
use Rattle.seat_rows.proofs.StatesLoaded.{texts_found}

-- what is told after a call that reads was told before
pub told_on : (before after : Known) (P : Tables → Type 0) → Leaves [] done before after → IfSome before.tables P → IfSome after.tables P
told_on before after P l holds = go before.tables after.tables l.applies holds
  where
    go : (told later : Option Tables) → Applies told [] later → IfSome told P → IfSome later P
    go told None applies holds = tt
    go None (Some later) applies holds = absurd (not_told later applies)
    go (Some tables) (Some later) applies holds = subst P (sym (is_told later tables applies)) holds

-- the same of a call that makes one batch
pub told_behind : (before after : Known) (batch : List Change) (P Q : Tables → Type 0) → Leaves (batch ∷ []) done before after → ((tables : Tables) → P tables → Q (after_batch batch tables)) → IfSome before.tables P → IfSome after.tables Q
told_behind before after batch P Q l on holds = go before.tables after.tables l.applies holds
  where
    go : (told later : Option Tables) → Applies told (batch ∷ []) later → IfSome told P → IfSome later Q
    go told None applies holds = tt
    go None (Some later) applies holds = absurd (not_told later applies)
    go (Some tables) (Some later) applies holds = subst Q (sym (is_told later (after_batch batch tables) applies)) (on tables holds)

pub both_told : (told : Option Tables) (P Q R : Tables → Type 0) → ((tables : Tables) → P tables → Q tables → R tables) → IfSome told P → IfSome told Q → IfSome told R
both_told None P Q R on p q = tt
both_told (Some tables) P Q R on p q = on tables p q

module _ (place : SeatPlace) (rows : SeatRows) (state : SeatState) (are : AreRowsOf place rows state) (tables : Tables) (found : rows ≡ rows_in tables) (signed : used.StandsFor tables state.signer.texts) where
  texts_are : HoldsTexts (rows_of text_tab tables) state.log.texts
  texts_are = subst (λ (rs : List Row). HoldsTexts rs state.log.texts) (ap (λ (r : SeatRows). r.texts) found) are.texts

  pub named_stands : rows.form ≡ Some (form_text place (signer_account state.signer)) → StandsFor place tables state
  named_stands form = record {
    form = sym (ap (λ (r : SeatRows). r.form) found) ∙ form;
    used = signed;
    records = sym (ap (λ (r : SeatRows). r.records) found) ∙ are.records;
    texts = texts_found tables state.log.texts texts_are;
    begun = sym (ap (λ (r : SeatRows). r.begun) found) ∙ are.begun;
    closing = sym (ap (λ (r : SeatRows). r.closing) found) ∙ are.closing;
  }

  abbrev form_put : List ℕ
  form_put = form_text place (signer_account state.signer)

  pub filled_stands : StandsFor place (after_batch (form_changes place (signer_account state.signer)) tables) state
  filled_stands = record {
    form = put_at form_tab form_key form_put tables (form_tab, form_key);
    used = other_tables_stay used.used_tab (form_changes place (signer_account state.signer)) tables ((λ e. omega (arith, e)), tt) ∙ signed;
    records = other_tables_stay record_tab (form_changes place (signer_account state.signer)) tables ((λ e. omega (arith, e)), tt) ∙ (sym (ap (λ (r : SeatRows). r.records) found) ∙ are.records);
    texts = λ key. put_at form_tab form_key form_put tables (text_tab, key) ∙ texts_found tables state.log.texts texts_are key;
    begun = put_at form_tab form_key form_put tables (phase_tab, _) ∙ (sym (ap (λ (r : SeatRows). r.begun) found) ∙ are.begun);
    closing = put_at form_tab form_key form_put tables (phase_tab, _) ∙ (sym (ap (λ (r : SeatRows). r.closing) found) ∙ are.closing);
  }

-- ---- rows that lack their form stand in the tables

module _ (tables : Tables) where
  at_cell : (tab : ℕ) (row : Row) (at : ℕ) (key : List ℕ) → tab ≡ at → row.key ≡ key → get tables (at, key) ≡ Some row.val → get tables (tab, row.key) ≡ Some row.val
  at_cell tab row at key is is' there =
      subst (λ (t : ℕ). get tables (t, row.key) ≡ Some row.val) (sym is) (subst (λ (k : List ℕ). get tables (at, k) ≡ Some row.val) (sym is') there)

  listed : (tab : ℕ) (row : Row) (at : ℕ) (rows : List Row) → tab ≡ at → rows ≡ rows_of at tables → Contains rows row → get tables (tab, row.key) ≡ Some row.val
  listed tab row at rows is found among = at_cell tab row at row.key is refl ((scans_list_the_map at row tables).0 (subst (λ (rs : List Row). Contains rs row) found among))

  parted : (before behind rows : List Row) (row : Row) → rows ≡ before ++ row ∷ behind → Contains rows row
  parted before behind rows row is = subst (λ (rs : List Row). Contains rs row) (sym is) (Contains-append_right before (row ∷ behind) row (here row behind))

  first_in : (found : List Row) (row : Row) → slice_get found 0 ≡ Some row → Contains found row
  first_in [] row e = absurd cc
  first_in (first ∷ more) row e =
      let same : first ≡ row = cc in
      subst (λ (r : Row). Contains (first ∷ more) r) same (here first more)

  pub lacks_stands : (place : SeatPlace) (size : ℕ) (texts : List (List ℕ)) (rows : SeatRows) (tab : ℕ) (row : Row) → used.StandsFor tables texts → rows ≡ rows_in tables → length texts ≤ 64 → Lacks place size texts rows tab row → get tables (tab, row.key) ≡ Some row.val
  lacks_stands place size texts rows tab row signed found few (LastKey state is are own full unhanded key there) =
      at_cell tab row used.used_tab (to_be_bytes w32 (size - 1)) is key
      (ap (λ (n : ℕ). get tables (used.used_tab, to_be_bytes w32 n)) (let e : size - 1 ≡ 0 + (size - 1) = omega arith in e)
      ∙ stands_under_number w32 used.used_tab 0 (size - 1) texts tables signed (omega (arith, few)) (omega (arith, few, full)) ∙ there)
  lacks_stands place size texts rows tab row signed found few (NoBeginning is key there bad) = at_cell tab row phase_tab begun_key is key (sym (ap (λ (r : SeatRows). r.begun) found) ∙ there)
  lacks_stands place size texts rows tab row signed found few (NoClosing is key there bad) = at_cell tab row phase_tab closing_key is key (sym (ap (λ (r : SeatRows). r.closing) found) ∙ there)
  lacks_stands place size texts rows tab row signed found few (EarlyClosing is key there bad) = at_cell tab row phase_tab closing_key is key (sym (ap (λ (r : SeatRows). r.closing) found) ∙ there)
  lacks_stands place size texts rows tab row signed found few (NoRecord is bad) = listed tab row record_tab rows.records is (ap (λ (r : SeatRows). r.records) found) (parted _ bad.behind rows.records row bad.parted)
  lacks_stands place size texts rows tab row signed found few (EarlyRecord is bad there) = listed tab row record_tab rows.records is (ap (λ (r : SeatRows). r.records) found) (first_in rows.records row there)
  lacks_stands place size texts rows tab row signed found few (BadRecord recs deals at is records are amiss key among) = listed tab row record_tab rows.records is (ap (λ (r : SeatRows). r.records) found) among
  lacks_stands place size texts rows tab row signed found few (NoText is bad) = listed tab row text_tab rows.texts is (ap (λ (r : SeatRows). r.texts) found) (parted _ bad.behind rows.texts row bad.parted)
  lacks_stands place size texts rows tab row signed found few (UnusedText recs deals log is records are made unheld among) = listed tab row text_tab rows.texts is (ap (λ (r : SeatRows). r.texts) found) among

-- Why the rows have no state is why the seat is not opened.
pub state_cause : (place : SeatPlace) (rows : SeatRows) (signer : SignerTold) (told : Option Tables) (fault : StoreFault) → IfSome told (λ tables. used.StandsFor tables signer.texts × (rows ≡ rows_in tables)) → length signer.texts ≤ 64 → IsStateFault place rows signer fault
    → HasCause (LacksForm place signer.spec.size told) told fault
state_cause place rows signer told Keeper found few is = absurd is
state_cause place rows signer told (BadRow tab digest) found few (row, named, lacks) = record {
  row = row;
  named = named;
  lacks = inr (inr (signer.texts, rows, found, lacks));
  stands = go told found;
}
  where
    go : (told : Option Tables) → IfSome told (λ tables. used.StandsFor tables signer.texts × (rows ≡ rows_in tables)) → IfSome told (λ tables. get tables (tab, row.key) ≡ Some row.val)
    go None found = tt
    go (Some tables) found = lacks_stands tables place signer.spec.size signer.texts rows tab row found.0 found.1 few lacks
state_cause place rows signer told NoMemory found few is = tt

-- The row that names a seat is why it is not opened.
pub form_cause : (place : SeatPlace) (size : ℕ) (rows : SeatRows) (told : Option Tables) (val : List ℕ) → IfSome told (λ tables. rows ≡ rows_in tables) → rows.form ≡ Some val → form_in val ≡ None → HasCause (LacksForm place size told) told (bad_row_of form_tab form_key)
form_cause place size rows told val found form bad = record {
  row = record { key = form_key; val = val };
  named = refl;
  lacks = inl (refl, refl, bad);
  stands = go told found;
}
  where
    go : (told : Option Tables) → IfSome told (λ tables. rows ≡ rows_in tables) → IfSome told (λ tables. get tables (form_tab, form_key) ≡ Some val)
    go None found = tt
    go (Some tables) found = sym (ap (λ (r : SeatRows). r.form) found) ∙ form

-- A row that the signer finds amiss is why the seat is not opened.
pub signer_cause : (place : SeatPlace) (size : ℕ) (told : Option Tables) (fault : StoreFault) → HasCause (used.LacksForm size told) told fault → HasCause (LacksForm place size told) told fault
signer_cause place size told Keeper is = tt
signer_cause place size told (BadRow tab key) is = record { row = is.row; named = is.named; lacks = inr (inl is.lacks); stands = is.stands }
signer_cause place size told NoMemory is = tt
