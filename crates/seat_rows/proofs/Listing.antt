-- Records and texts that are read from rows, one row after another.
use Rattle.std.proofs.Common.{◌≡◌, ℕ, ◌<◌, ◌≤◌, ◌+◌, ◌==◌, nat_lt, ◌&&◌, Bool, true, false, if◌then◌else◌, List, [], ◌∷◌, ◌++◌, map, length, refl, sym, ap, ◌∙◌, append_assoc, arith, Option, Some, None, Result, Ok, Err, subst}
use Rattle.std.specs.Int.{w32, to_be_bytes}
use Rattle.std.specs.Str.{bytes_eq}
use Rattle.std.proofs.lemmas.Bool.{ltb-true}
use Rattle.std.proofs.lemmas.List.{length-append, map-append}
use Rattle.std.proofs.lemmas.Slice.Eq.{bytes_eq-Decides}
use Rattle.sha2.specs.Sha256.{sha256}
use Rattle.keeper_core.specs.declared.row.Row.{Row}
use Rattle.keeper_core.specs.declared.store_fault.StoreFault.{StoreFault}
use Rattle.keeper_core.specs.StoreFaults.{bad_row_of}
use Rattle.keeper_core.specs.NumberedRows.{numbered_rows}
use Rattle.key_ring.proofs.LoadedTexts.{row_taken}
use Rattle.vote_log.specs.Entry.{Entry}
use Rattle.vote_log.specs.RecordTexts.{record_text, record_at}
use Rattle.vote_log.specs.declared.record_fault.RecordFault.{RecordFault}
use Rattle.seat_rows.specs.SeatTables.{record_tab, text_tab, record_texts}
use Rattle.seat_rows.specs.SeatReading.{spelled_so, record_in, is_named, text_rows, IsNoRecord, IsRecordFault, IsNoText, IsTextFault}
use Rattle.seat_rows.proofs.Cells.{record_texts_more, record_count}

-- ---- records

pub record IsRecordOf (at : ℕ) (row : Row) (rec : Entry) : Type 0 where
  pub few : at < 4096
  pub key : row.key ≡ to_be_bytes w32 at
  pub val : row.val ≡ record_text rec

spelled_is : (val : List ℕ) (read : Result Entry RecordFault) (rec : Entry) → spelled_so val read ≡ Some rec → val ≡ record_text rec
spelled_is val (Ok entry) rec e = go (bytes_eq (record_text entry) val) refl e
  where
    go : (same : Bool) → bytes_eq (record_text entry) val ≡ same → (if same then Some entry else None) ≡ Some rec → val ≡ record_text rec
    go true is found = let one : entry ≡ rec = cc in sym ((bytes_eq-Decides (record_text entry) val).0 is) ∙ ap record_text one
    go false is found = absurd cc
spelled_is val (Err fault) rec e = absurd cc

pub record_is : (at : ℕ) (row : Row) (rec : Entry) → record_in at row ≡ Some rec → IsRecordOf at row rec
record_is at row rec e = go (nat_lt at 4096) (bytes_eq row.key (to_be_bytes w32 at)) (length row.val == 35) refl refl e
  where
    go : (few key long : Bool) → nat_lt at 4096 ≡ few → bytes_eq row.key (to_be_bytes w32 at) ≡ key → (if few && (key && long) then spelled_so row.val (record_at row.val 0) else None) ≡ Some rec → IsRecordOf at row rec
    go true true true few key found = record { few = ltb-true at 4096 few; key = (bytes_eq-Decides row.key (to_be_bytes w32 at)).0 key; val = spelled_is row.val (record_at row.val 0) rec found }
    go true true false few key found = absurd cc
    go true false long few key found = absurd cc
    go false key' long few key found = absurd cc

pub record_taken : (rows rest rest_after : List Row) (recs after : List Entry) (row : Row) (rec : Entry) → rows ≡ numbered_rows w32 0 (record_texts recs) ++ rest → rest ≡ row ∷ rest_after → record_in (length recs) row ≡ Some rec → after ≡ recs ++ rec ∷ []
    → rows ≡ numbered_rows w32 0 (record_texts after) ++ rest_after
record_taken rows rest rest_after recs after row rec parted next is pushed =
    let own = record_is (length recs) row rec is in
    row_taken rows rest rest_after (record_texts recs) (record_texts after) row.key row.val parted next (own.key ∙ ap (to_be_bytes w32) (sym (record_count recs)))
    (ap record_texts pushed ∙ record_texts_more recs rec ∙ ap (λ (t : List ℕ). record_texts recs ++ t ∷ []) (sym own.val))

pub record_refused : (rows rest rest_after : List Row) (recs : List Entry) (row : Row) → rows ≡ numbered_rows w32 0 (record_texts recs) ++ rest → rest ≡ row ∷ rest_after → record_in (length recs) row ≡ None → IsRecordFault rows (bad_row_of record_tab row.key)
record_refused rows rest rest_after recs row parted next none =
    (refl, row, refl, record { recs = recs; behind = rest_after; parted = parted ∙ ap (λ (rs : List Row). numbered_rows w32 0 (record_texts recs) ++ rs) next; amiss = none })

-- ---- texts

pub text_taken : (rows rest rest_after : List Row) (texts after : List (List ℕ)) (key val : List ℕ) → rows ≡ text_rows texts ++ rest → rest ≡ record { key = key; val = val } ∷ rest_after → bytes_eq key (sha256 val) ≡ true → after ≡ texts ++ val ∷ []
    → rows ≡ text_rows after ++ rest_after
text_taken rows rest rest_after texts after key val parted next named pushed =
    let under = (bytes_eq-Decides key (sha256 val)).0 named in
    parted
    ∙ ap (λ (rs : List Row). text_rows texts ++ rs) (next ∙ ap (λ (k : List ℕ). record { key = k; val = val } ∷ rest_after) under)
    ∙ sym (append_assoc (text_rows texts) (text_rows (val ∷ [])) rest_after)
    ∙ ap (λ (rs : List Row). rs ++ rest_after) (sym (map-append (λ (text : List ℕ). let r : Row = record { key = sha256 text; val = text } in r) texts (val ∷ [])))
    ∙ ap (λ (ts : List (List ℕ)). text_rows ts ++ rest_after) (sym pushed)

pub text_refused : (rows rest rest_after : List Row) (texts : List (List ℕ)) (row : Row) → rows ≡ text_rows texts ++ rest → rest ≡ row ∷ rest_after → is_named row ≡ false → IsTextFault rows (bad_row_of text_tab row.key)
text_refused rows rest rest_after texts row parted next none =
    (refl, row, refl, record { texts = texts; behind = rest_after; parted = parted ∙ ap (λ (rs : List Row). text_rows texts ++ rs) next; amiss = none })
