-- What the tables of a seat stand for.
use Rattle.std.specs.Prelude.{ℕ, ◌≡◌, Bool, if◌then◌else◌, List, [], ◌∷◌, ◌++◌, codes, map, Option, Some, None}
use Rattle.std.specs.Int.{w32, to_be_bytes}
use Rattle.std.specs.Option.{option_map}
use Rattle.std.specs.FinMap.{get}
use Rattle.keeper_core.specs.Tables.{Tables}
use Rattle.keeper_core.specs.NumberedRows.{IsNumbered}
use Rattle.key_ring.specs.Signers.{signer_account}
use Rattle.key_ring.specs.UsedTexts as used
use Rattle.vote_log.specs.Entry.{Entry}
use Rattle.vote_log.specs.RecordTexts.{record_text}
use Rattle.cert_core.specs.Sets.{set_text}
use Rattle.seat_rows.specs.declared.place.SeatPlace.{SeatPlace}
use Rattle.seat_rows.specs.declared.closing.Closing.{Closing}
use Rattle.seat_rows.specs.declared.state.SeatState.{SeatState}
use Rattle.seat_rows.specs.SeatPlaces.{identity_of, is_first}

-- the tables of what a keeper is, of records, of texts of deals, and of beginning and closing
abbrev pub form_tab : ℕ
form_tab = 1

abbrev pub record_tab : ℕ
record_tab = 9

abbrev pub text_tab : ℕ
text_tab = 10

abbrev pub phase_tab : ℕ
phase_tab = 11

abbrev pub form_key : List ℕ
form_key = codes "m"

abbrev pub begun_key : List ℕ
begun_key = codes "b"

abbrev pub closing_key : List ℕ
closing_key = codes "c"

-- the form of the tables, the role of a seat, and its identity
abbrev pub form_text : SeatPlace → List ℕ → List ℕ
form_text place account = 1 ∷ 2 ∷ (identity_of place account).0

abbrev pub record_texts : List Entry → List (List ℕ)
record_texts entries = map record_text entries

-- A seat of the set of epoch 0 has no row of where it began.
abbrev pub begun_row : SeatPlace → Option ℕ → Option (List ℕ)
begun_row place begun =
    if is_first place then None else option_map (λ len. to_be_bytes w32 len) begun

-- the length at closing, and the text of the next set
abbrev pub closing_text : Closing → List ℕ
closing_text closing = to_be_bytes w32 closing.len ++ set_text closing.next

-- The tables are those of the seat at that state.
pub record StandsFor (place : SeatPlace) (tables : Tables) (state : SeatState) : Type 0 where
  pub form : get tables (form_tab, form_key) ≡ Some (form_text place (signer_account state.signer))
  pub used : used.StandsFor tables state.signer.texts
  pub records : IsNumbered w32 record_tab 0 (record_texts state.log.entries) tables
  pub texts : (key : List ℕ) → get tables (text_tab, key) ≡ get state.log.texts key
  pub begun : get tables (phase_tab, begun_key) ≡ begun_row place state.begun
  pub closing : get tables (phase_tab, closing_key) ≡ option_map closing_text state.closing
