-- What a history has of the acts of one account in a deal.
use Rattle.std.specs.Prelude.{ℕ, ◌≡◌, ◌<◌, Some, Ok, List, slice_get}
use Rattle.std.specs.List.{Contains}
use Rattle.dh_base.specs.declared.id.Id.{Id}
use Rattle.act_text.specs.declared.act.Act.TheVariants.{Escrow, Transfer}
use Rattle.act_text.specs.declared.office.Office.TheVariants.{Ledger}
use Rattle.act_text.specs.ActReading.{act_of}
use Rattle.ledger_rows.specs.declared.entry.Entry.{Entry}
use Rattle.ledger_rows.specs.declared.entry.Entry.TheVariants.{Act as Accepted}

-- each transfer of the account in the deal, on the ledger of that name, has a turn below `turns`
abbrev pub HaveTurnsBelow : List ℕ → List Entry → Id → Id → ℕ → Type 0
HaveTurnsBelow name entries deal account turns =
    (q : ℕ) (message : List ℕ) (turn : ℕ) (to : Id) (asset : List ℕ) (amount : ℕ)
    → Contains entries (Accepted account q message)
    → act_of Ledger message ≡ Ok (Transfer deal name turn to asset amount) → turn < turns

-- each escrow of the asset by the account in the deal, on the ledger of that name, is of that
-- amount, and its key has signed it
abbrev pub HaveOneEscrow : List ℕ → List Entry → List (List ℕ) → Id → Id → List ℕ → ℕ → Type 0
HaveOneEscrow name entries texts deal account asset amount =
    (q : ℕ) (message : List ℕ) (escrowed : ℕ)
    → Contains entries (Accepted account q message)
    → act_of Ledger message ≡ Ok (Escrow deal name asset escrowed)
    → (escrowed ≡ amount) × (slice_get texts q ≡ Some message)

-- no text stands under two key numbers
abbrev pub AreOnce : List (List ℕ) → Type 0
AreOnce texts = (q other : ℕ) (text : List ℕ) → slice_get texts q ≡ Some text
    → slice_get texts other ≡ Some text → q ≡ other
