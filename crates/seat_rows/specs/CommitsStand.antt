-- Behind each commit of a seat its tables stand for its next state.
use Rattle.std.specs.Prelude.{ℕ, ◌≡◌, ◌<◌, ◌^◌, List, length, Some}
use Rattle.keeper_core.specs.Tables.{Tables}
use Rattle.keeper_core.specs.Batches.{after_batch}
use Rattle.keeper_core.specs.Leaving.{after_batches}
use Rattle.key_ring.specs.Signers.{after_signing}
use Rattle.key_ring.specs.UsedTexts.{batches_for}
use Rattle.deal_log.specs.declared.posting.Posting.{Posting}
use Rattle.deal_log.specs.Postings.{entry_of}
use Rattle.deal_log.specs.VoteLogs.{with_posting, asked}
use Rattle.seat_rows.specs.declared.closing.Closing.{Closing}
use Rattle.seat_rows.specs.declared.place.SeatPlace.{SeatPlace}
use Rattle.seat_rows.specs.declared.state.SeatState.{SeatState}
use Rattle.seat_rows.specs.SeatChanges.{entry_changes, closing_changes}
use Rattle.seat_rows.specs.SeatTables.{StandsFor}

-- with what is asked of the log, which has a record, as the last
abbrev pub EntriesStand : Type 0
EntriesStand = (place : SeatPlace) (tables : Tables) (state : SeatState) (posting : Posting) →
    StandsFor place tables state → length state.log.entries < 2 ^ 32 →
    entry_of posting ≡ Some (asked posting) →
    StandsFor place (after_batch (entry_changes (length state.log.entries) posting) tables)
    (record state { log = with_posting state.log posting })

-- with a text that is signed
abbrev pub SignaturesStand : Type 0
SignaturesStand = (place : SeatPlace) (tables : Tables) (state : SeatState) (text : List ℕ) →
    StandsFor place tables state → length state.signer.texts < 2 ^ 32 →
    StandsFor place (after_batches (batches_for state.signer text) tables)
    (record state { signer = after_signing state.signer text })

-- once it is closed
abbrev pub ClosingsStand : Type 0
ClosingsStand = (place : SeatPlace) (tables : Tables) (state : SeatState) (closing : Closing) →
    StandsFor place tables state →
    StandsFor place (after_batch (closing_changes closing) tables)
    (record state { closing = Some closing })
