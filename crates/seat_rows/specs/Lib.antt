pub mod SeatPlaces
pub mod SeatTexts
pub mod SeatTables
pub mod SeatChanges
pub mod SeatOpening
pub mod SeatReading
pub mod SeatLoading
pub mod CommitsStand
