-- The texts of links and claims: one spelling each.
use Rattle.std.specs.Prelude.{ℕ, ◌≡◌, ◌+◌, ◌<◌, ◌≤◌, ◌^◌, List, ◌++◌, length, codes}
use Rattle.std.specs.Int.{w16, w32, to_be_bytes}
use Rattle.std.specs.List.{AllByRecursion}
use Rattle.dh_base.specs.Formats.{text_field, list_text, ListFits}
use Rattle.key_ring.specs.EnvelopeTexts.{envelope_text, IsWithinLimits}
use Rattle.vote_log.specs.RecordTexts.{record_text, IsRecord}
use Rattle.cert_core.specs.declared.seat_sig.SeatSig.{SeatSig}
use Rattle.claim_core.specs.declared.link.Link.{Link}
use Rattle.claim_core.specs.declared.claim.Claim.{Claim}
use Rattle.claim_core.specs.Limits.{most_links, most_records, most_sigs}

abbrev pub claim_tag : List ℕ
claim_tag = codes "CCDCLAIM"

-- the seat, and its envelope behind the length of the envelope's text
abbrev pub sig_text : SeatSig → List ℕ
sig_text sig = to_be_bytes w16 sig.seat ++ text_field (envelope_text sig.env)

abbrev pub sigs_text : List SeatSig → List ℕ
sigs_text = list_text (to_be_bytes w16) sig_text

abbrev pub link_text : Link → List ℕ
link_text link =
    text_field link.set_text ++ (to_be_bytes w32 link.len ++ (link.head.0 ++ sigs_text link.sigs))

abbrev pub claim_fields : Claim → List ℕ
claim_fields claim =
    list_text (to_be_bytes w16) link_text claim.links
    ++ (list_text (to_be_bytes w32) record_text claim.recs
    ++ (claim.head.0 ++ sigs_text claim.sigs))

abbrev pub claim_text : Claim → List ℕ
claim_text claim = claim_tag ++ claim_fields claim

-- ---- what has a text

pub record SigFits (sig : SeatSig) : Type 0 where
  pub seat : sig.seat < 2 ^ 16
  pub limits : IsWithinLimits sig.env
  pub short : length (envelope_text sig.env) < 2 ^ 32

-- at most 16 signatures
abbrev pub SigsFit : List SeatSig → Type 0
SigsFit = ListFits (λ count. count ≤ most_sigs) SigFits

pub record LinkFits (link : Link) : Type 0 where
  pub set_text : length link.set_text < 2 ^ 32
  pub len : link.len < 2 ^ 32
  pub head : length link.head.0 ≡ 32
  pub sigs : SigsFit link.sigs

-- at most 64 links and 4,096 records
pub record ClaimFits (claim : Claim) : Type 0 where
  pub links : ListFits (λ count. count ≤ most_links) LinkFits claim.links
  pub recs : ListFits (λ count. count ≤ most_records) IsRecord claim.recs
  pub head : length claim.head.0 ≡ 32
  pub sigs : SigsFit claim.sigs

-- ---- what can be written

-- The text of its envelope has a length of four bytes. Beside the ring and the message it has 2,192
-- bytes.
abbrev pub SigHasText : SeatSig → Type 0
SigHasText sig = 2192 + length sig.env.ring + length sig.env.message < 2 ^ 32

-- so has the text of its set, and the number of its signatures has two bytes
pub record LinkHasText (link : Link) : Type 0 where
  pub set_text : length link.set_text < 2 ^ 32
  pub few : length link.sigs < 2 ^ 16
  pub sigs : AllByRecursion SigHasText link.sigs

-- the number of links has two bytes, that of records four, that of signatures two
pub record ClaimHasText (claim : Claim) : Type 0 where
  pub few_links : length claim.links < 2 ^ 16
  pub links : AllByRecursion LinkHasText claim.links
  pub few_recs : length claim.recs < 2 ^ 32
  pub few_sigs : length claim.sigs < 2 ^ 16
  pub sigs : AllByRecursion SigHasText claim.sigs
