-- Texts of deals: what stands in one, and the texts that are kept, by their deals.
use Rattle.std.specs.Prelude.{ℕ, ◌≡◌, List, [], map, length, Option, Some, None, Result, Ok, Err}
use Rattle.std.specs.FinMap.{FinMap, get}
use Rattle.std.specs.Ordering.{nat_cmp}
use Rattle.std.specs.Cmp.Lexicographic.{slice_cmp}
use Rattle.sha2.specs.Sha256.{sha256}
use Rattle.dh_base.specs.declared.id.Id.{Id}
use Rattle.deal_core.specs.declared.deal_fault.DealFault.{DealFault}
use Rattle.deal_core.specs.declared.party.Party.{Party}
use Rattle.deal_core.specs.Deals.{DealTold}
use Rattle.deal_core.specs.Drafts.{Draft, reading_of}
use Rattle.deal_core.specs.Reading.{IsTextOf}

-- the text is a deal's
abbrev pub IsDealText : List ℕ → Type 0
IsDealText text = (deal : DealTold) × IsTextOf deal text

-- the id of the deal of a text
abbrev pub id_in : List ℕ → Id
id_in text = record { 0 = sha256 text }

abbrev pub house_of : Result Draft DealFault → Option Id
house_of (Ok draft) = draft.house
house_of (Err fault) = None

-- the house that the text names
unfoldable pub house_in : List ℕ → Option Id
house_in text = house_of (reading_of text)

abbrev pub parties_of : Result Draft DealFault → List Party
parties_of (Ok draft) = draft.parties
parties_of (Err fault) = []

-- the parties that the text names
unfoldable pub parties_in : List ℕ → List Party
parties_in text = parties_of (reading_of text)

-- The text is that of the deal with this id, in this house, of so many parties.
pub record IsTextFor (house : Id) (parties : ℕ) (deal : Id) (text : List ℕ) : Type 0 where
  pub read : IsDealText text
  pub id : id_in text ≡ deal
  pub named : house_in text ≡ Some house
  pub several : length (parties_in text) ≡ parties

-- ---- the texts that are kept

-- the text of each deal, by the bytes of the deal's id
abbrev pub TextMap : Type 0
TextMap = FinMap (slice_cmp nat_cmp) (List ℕ)

abbrev pub text_of : TextMap → Id → Option (List ℕ)
text_of texts deal = get texts deal.0

-- the entries of a map by ids, with the bytes of the ids
abbrev pub by_bytes : {A : Type 0} → List (Id × A) → List (List ℕ × A)
by_bytes {A} entries = map (λ (e : Id × A). (e.0.0, e.1)) entries
