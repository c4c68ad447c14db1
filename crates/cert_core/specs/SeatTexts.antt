-- What the seats of a set sign: that a prefix of the log has a head, or that the log up to there is
-- handed over to the next set.
use Rattle.std.specs.Prelude.{ℕ, ◌≡◌, ◌<◌, ◌^◌, List, ◌++◌, length, codes}
use Rattle.std.specs.Int.{w32, to_be_bytes}
use Rattle.dh_base.specs.declared.id.Id.{Id}

-- the id of the set that signs, how many records there are, their head, and the id of the next set
pub data SeatText : Type 0 where
  Prefix : (set : Id) (len : ℕ) (head : Id) → SeatText
  Handover : (set : Id) (len : ℕ) (head next : Id) → SeatText

abbrev pub prefix_tag : List ℕ
prefix_tag = codes "CCDPREF1"

abbrev pub handover_tag : List ℕ
handover_tag = codes "CCDHAND1"

abbrev pub prefix_text : Id → ℕ → Id → List ℕ
prefix_text set len head = prefix_tag ++ set.0 ++ to_be_bytes w32 len ++ head.0

abbrev pub handover_text : Id → ℕ → Id → Id → List ℕ
handover_text set len head next =
    handover_tag ++ set.0 ++ to_be_bytes w32 len ++ head.0 ++ next.0

abbrev pub seat_text : SeatText → List ℕ
seat_text (Prefix set len head) = prefix_text set len head
seat_text (Handover set len head next) = handover_text set len head next

-- the fields up to the head have their widths
abbrev pub HasWidths : SeatText → Type 0
HasWidths (Prefix set len head) = (length set.0 ≡ 32) × (len < 2 ^ 32) × (length head.0 ≡ 32)
HasWidths (Handover set len head next) =
    (length set.0 ≡ 32) × (len < 2 ^ 32) × (length head.0 ≡ 32)
