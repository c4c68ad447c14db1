-- What a seat commits.
use Rattle.std.specs.Prelude.{ℕ, List, [], ◌∷◌, ◌++◌, Option, Some, None}
use Rattle.std.specs.Int.{w32, to_be_bytes}
use Rattle.sha2.specs.Sha256.{sha256}
use Rattle.keeper_core.specs.declared.change.Change.{Change}
use Rattle.keeper_core.specs.declared.change.Change.TheVariants.{Put}
use Rattle.vote_log.specs.Entry.{Entry}
use Rattle.vote_log.specs.RecordTexts.{record_text}
use Rattle.deal_log.specs.declared.posting.Posting.{Posting}
use Rattle.deal_log.specs.declared.posting.Posting.TheVariants.{Start, Vote}
use Rattle.deal_log.specs.Postings.{entry_of}
use Rattle.seat_rows.specs.declared.place.SeatPlace.{SeatPlace}
use Rattle.seat_rows.specs.declared.closing.Closing.{Closing}
use Rattle.seat_rows.specs.SeatTables.{form_tab, record_tab, text_tab, phase_tab, form_key, closing_key, form_text, closing_text}

-- at the first opening
abbrev pub form_changes : SeatPlace → List ℕ → List Change
form_changes place account = Put form_tab form_key (form_text place account) ∷ []

abbrev pub record_change : ℕ → Entry → Change
record_change at entry = Put record_tab (to_be_bytes w32 at) (record_text entry)

abbrev pub record_changes : ℕ → Option Entry → List Change
record_changes at None = []
record_changes at (Some entry) = record_change at entry ∷ []

-- a start keeps the text of its deal
abbrev pub text_changes : Posting → List Change
text_changes (Start account text) = Put text_tab (sha256 text) text ∷ []
text_changes (Vote account choice index deal) = []

-- the record of what is asked, at that place
abbrev pub entry_changes : ℕ → Posting → List Change
entry_changes at posting = record_changes at (entry_of posting) ++ text_changes posting

abbrev pub closing_changes : Closing → List Change
closing_changes closing = Put phase_tab closing_key (closing_text closing) ∷ []
