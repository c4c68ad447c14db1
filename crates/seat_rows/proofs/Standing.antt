-- Tables stand for the state of a seat behind each of its commits.
use Rattle.std.proofs.Common.{◌≡◌, ◌≢◌, ℕ, ◌+◌, ◌<◌, ◌≤◌, ◌^◌, ◌==◌, nat_lt, Bool, true, false, cond, if◌then◌else◌, List, [], ◌∷◌, ◌++◌, length, Option, Some, None, is_some, refl, sym, ap, subst, ◌∙◌, arith}
use Rattle.std.specs.Int.{w32, to_be_bytes}
use Rattle.std.specs.Ordering.{eq_by_cmp, nat_cmp}
use Rattle.std.specs.Cmp.Lexicographic.{slice_cmp, nat_list_cmp_total}
use Rattle.std.specs.FinMap.{get, insert, get-insert}
use Rattle.sha2.specs.Sha256.{sha256}
use Rattle.dh_base.specs.declared.id.Id.{Id}
use Rattle.dh_base.specs.declared.outcome.Outcome.{Outcome}
use Rattle.dh_base.specs.Limits.{most_parties}
use Rattle.keeper_core.specs.Tables.{Cell, cell_cmp, Tables, rows_of}
use Rattle.keeper_core.specs.declared.change.Change.TheVariants.{Put}
use Rattle.keeper_core.specs.Batches.{after_change, after_batch}
use Rattle.keeper_core.specs.Leaving.{after_batches}
use Rattle.keeper_core.proofs.NumberedOn.{numbers_on}
use Rattle.key_ring.specs.Signers.{key_of, with_text, after_signing}
use Rattle.key_ring.specs.UsedTexts.{kept_change, batches_for}
use Rattle.keeper_core.specs.NumberedRows.{IsNumbered}
use Rattle.keeper_core.proofs.OtherTables.{other_tables_stay}
use Rattle.key_ring.specs.UsedTexts as used
use Rattle.vote_log.specs.Entry.{Entry}
use Rattle.vote_log.specs.RecordTexts.{record_text}
use Rattle.deal_log.specs.declared.posting.Posting.{Posting}
use Rattle.deal_log.specs.declared.posting.Posting.TheVariants.{Start, Vote}
use Rattle.deal_log.specs.DealTexts.{TextMap}
use Rattle.deal_log.specs.Postings.{entry_of, start_entry, vote_entry}
use Rattle.deal_log.specs.VoteLogs.{VoteLogTold, with_posting, asked}
use Rattle.seat_rows.specs.declared.closing.Closing.{Closing}
use Rattle.seat_rows.specs.declared.place.SeatPlace.{SeatPlace}
use Rattle.seat_rows.specs.declared.state.SeatState.{SeatState}
use Rattle.seat_rows.specs.SeatTables.{form_tab, record_tab, text_tab, phase_tab, begun_key, closing_key, closing_text, StandsFor}
use Rattle.seat_rows.specs.SeatChanges.{record_change, record_changes, entry_changes, closing_changes}
use Rattle.seat_rows.proofs.Cells.{put_at, record_next}

module _ (place : SeatPlace) (tables : Tables) (state : SeatState) (stands : StandsFor place tables state) (small : length state.log.entries < 2 ^ 32) where
  -- the state with one more record
  abbrev with_record : Entry → SeatState
  with_record entry = record state { log = record state.log { entries = state.log.entries ++ entry ∷ [] } }

  record_stands : (entry : Entry) → StandsFor place (after_batch (record_change (length state.log.entries) entry ∷ []) tables) (with_record entry)
  record_stands entry = record {
    form = put_at record_tab (to_be_bytes w32 (length state.log.entries)) (record_text entry) tables (form_tab, _) ∙ stands.form;
    used = other_tables_stay used.used_tab (record_change (length state.log.entries) entry ∷ []) tables ((λ e. omega (arith, e)), tt) ∙ stands.used;
    records = record_next tables state.log.entries entry stands.records small;
    texts = λ key. put_at record_tab (to_be_bytes w32 (length state.log.entries)) (record_text entry) tables (text_tab, key) ∙ stands.texts key;
    begun = put_at record_tab (to_be_bytes w32 (length state.log.entries)) (record_text entry) tables (phase_tab, _) ∙ stands.begun;
    closing = put_at record_tab (to_be_bytes w32 (length state.log.entries)) (record_text entry) tables (phase_tab, _) ∙ stands.closing;
  }

-- the text of a deal that is started
text_stands : (place : SeatPlace) (tables : Tables) (state : SeatState) (text : List ℕ) → StandsFor place tables state
    → StandsFor place (after_change (Put text_tab (sha256 text) text) tables) (record state { log = record state.log { texts = insert state.log.texts (sha256 text) text } })
text_stands place tables state text stands = record {
  form = put_at text_tab (sha256 text) text tables (form_tab, _) ∙ stands.form;
  used = other_tables_stay used.used_tab (Put text_tab (sha256 text) text ∷ []) tables ((λ e. omega (arith, e)), tt) ∙ stands.used;
  records = other_tables_stay record_tab (Put text_tab (sha256 text) text ∷ []) tables ((λ e. omega (arith, e)), tt) ∙ stands.records;
  texts = λ key. put_at text_tab (sha256 text) text tables (text_tab, key)
      ∙ ap (cond (eq_by_cmp (slice_cmp nat_cmp) key (sha256 text)) (Some text)) (stands.texts key)
      ∙ sym (get-insert nat_list_cmp_total state.log.texts (sha256 text) text key);
  begun = put_at text_tab (sha256 text) text tables (phase_tab, _) ∙ stands.begun;
  closing = put_at text_tab (sha256 text) text tables (phase_tab, _) ∙ stands.closing;
}

-- an entry that has a record
pub entry_stands : (place : SeatPlace) (tables : Tables) (state : SeatState) (posting : Posting) → StandsFor place tables state → length state.log.entries < 2 ^ 32 → entry_of posting ≡ Some (asked posting)
    → StandsFor place (after_batch (entry_changes (length state.log.entries) posting) tables) (record state { log = with_posting state.log posting })
entry_stands place tables state (Start account text) stands small has = text_stands place _ _ text (record_stands place tables state stands small (start_entry text))
entry_stands place tables state (Vote account choice index deal) stands small has =
    subst (λ (o : Option Entry). StandsFor place (after_batch (record_changes (length state.log.entries) o ++ []) tables) (record state { log = with_posting state.log (Vote account choice index deal) })) (sym has)
    (record_stands place tables state stands small (vote_entry choice index deal))

-- a text that is signed
pub signed_stands : (place : SeatPlace) (tables : Tables) (state : SeatState) (text : List ℕ) → StandsFor place tables state → length state.signer.texts < 2 ^ 32
    → StandsFor place (after_batches (batches_for state.signer text) tables) (record state { signer = after_signing state.signer text })
signed_stands place tables state text stands small = go (is_some (key_of state.signer text))
  where
    go : (again : Bool) → StandsFor place (after_batches (if again then [] else (kept_change state.signer text ∷ []) ∷ []) tables) (record state { signer = if again then state.signer else with_text state.signer text })
    go true = stands
    go false = record {
      form = put_at used.used_tab (to_be_bytes w32 (length state.signer.texts)) text tables (form_tab, _) ∙ stands.form;
      used = subst (λ (n : ℕ). IsNumbered w32 used.used_tab 0 (state.signer.texts ++ text ∷ []) (insert tables (used.used_tab, to_be_bytes w32 n) text)) (omega arith)
          (numbers_on w32 used.used_tab 0 state.signer.texts text tables stands.used (omega (arith, small)));
      records = other_tables_stay record_tab (kept_change state.signer text ∷ []) tables ((λ e. omega (arith, e)), tt) ∙ stands.records;
      texts = λ key. put_at used.used_tab (to_be_bytes w32 (length state.signer.texts)) text tables (text_tab, key) ∙ stands.texts key;
      begun = put_at used.used_tab (to_be_bytes w32 (length state.signer.texts)) text tables (phase_tab, _) ∙ stands.begun;
      closing = put_at used.used_tab (to_be_bytes w32 (length state.signer.texts)) text tables (phase_tab, _) ∙ stands.closing;
    }

-- a closing
pub closing_stands : (place : SeatPlace) (tables : Tables) (state : SeatState) (closing : Closing) → StandsFor place tables state → StandsFor place (after_batch (closing_changes closing) tables) (record state { closing = Some closing })
closing_stands place tables state closing stands = record {
  form = put_at phase_tab closing_key (closing_text closing) tables (form_tab, _) ∙ stands.form;
  used = other_tables_stay used.used_tab (closing_changes closing) tables ((λ e. omega (arith, e)), tt) ∙ stands.used;
  records = other_tables_stay record_tab (closing_changes closing) tables ((λ e. omega (arith, e)), tt) ∙ stands.records;
  texts = λ key. put_at phase_tab closing_key (closing_text closing) tables (text_tab, key) ∙ stands.texts key;
  begun = put_at phase_tab closing_key (closing_text closing) tables (phase_tab, begun_key) ∙ stands.begun;
  closing = put_at phase_tab closing_key (closing_text closing) tables (phase_tab, closing_key);
}
