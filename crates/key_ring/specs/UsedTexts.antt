-- What a keeper has of a signer: the texts that its keys have signed, each under the number of its
-- key in four bytes.
use Rattle.std.specs.Prelude.{ℕ, ◌≡◌, ◌≤◌, ◌⊎◌, Bool, IsTrue, List, [], ◌∷◌, ◌++◌, length, is_some, if◌then◌else◌, Option, Some, IfSome, IsSomeAnd}
use Rattle.std.specs.Int.{w32, to_be_bytes}
use Rattle.std.specs.FinMap.{get}
use Rattle.sha2.specs.Sha256.{sha256}
use Rattle.keeper_core.specs.declared.change.Change.{Change}
use Rattle.keeper_core.specs.declared.change.Change.TheVariants.{Put}
use Rattle.keeper_core.specs.declared.row.Row.{Row}
use Rattle.keeper_core.specs.Tables.{Tables}
use Rattle.keeper_core.specs.declared.store_fault.StoreFault.{StoreFault}
use Rattle.keeper_core.specs.declared.store_fault.StoreFault.TheVariants.{Keeper, BadRow, NoMemory}
use Rattle.keeper_core.specs.Knowing.{Known}
use Rattle.keeper_core.specs.Keeping.{ListsTable}
use Rattle.keeper_core.specs.NumberedRows.{numbered_rows, IsNumbered}
use Rattle.key_ring.specs.Signers.{SignerTold, key_of}

-- the table of signed texts
abbrev pub used_tab : ℕ
used_tab = 8

-- The rows of the table are the texts, each under the number of the key that signed it.
abbrev pub StandsFor : Tables → List (List ℕ) → Type 0
StandsFor tables texts = IsNumbered w32 used_tab 0 texts tables

-- the text stands under that key
abbrev pub IsKept : Tables → ℕ → List ℕ → Type 0
IsKept tables q text = get tables (used_tab, to_be_bytes w32 q) ≡ Some text

-- The rows of the map stand for the texts. Where the keeper has stopped, one text more may stand
-- behind them.
abbrev pub IsBackedBy : Option Tables → Bool → List (List ℕ) → Type 0
IsBackedBy told stopped texts = IfSome told (λ tables. StandsFor tables texts
    ⊎ (IsTrue stopped × (text : List ℕ) × StandsFor tables (texts ++ text ∷ [])))

-- a keeper has the texts, where its map is told
abbrev pub IsBacked : Known → List (List ℕ) → Type 0
IsBacked known texts = IsBackedBy known.tables known.stopped texts

-- the change that keeps a text under the next key
abbrev pub kept_change : SignerTold → List ℕ → Change
kept_change signer text = Put used_tab (to_be_bytes w32 (length signer.texts)) text

-- the batches that are committed for a text: none where it was signed before
abbrev pub batches_for : SignerTold → List ℕ → List (List Change)
batches_for signer text = if is_some (key_of signer text) then [] else
    (kept_change signer text ∷ []) ∷ []

-- Every row of the table stays as it is, where the map is still told. What is told after was told
-- before.
abbrev pub RowsStay : Option Tables → Option Tables → Type 0
RowsStay before after = IfSome after (λ later. IsSomeAnd before (λ tables. (key text : List ℕ) →
    get tables (used_tab, key) ≡ Some text → get later (used_tab, key) ≡ Some text))

-- The first of the rows that lacks its form: behind rows of texts, its key is not the number of the
-- rows before it, or the ring has no key of that number.
pub record IsFirstAmiss (size : ℕ) (rows : List Row) (row : Row) : Type 0 where
  pub texts : List (List ℕ)
  pub behind : List Row
  pub parted : rows ≡ numbered_rows w32 0 texts ++ row ∷ behind
  pub fit : length texts ≤ size
  pub amiss : row.key ≡ to_be_bytes w32 (length texts) → size ≤ length texts

-- A row of the table that a signer of that size finds amiss.
abbrev pub LacksForm : ℕ → Option Tables → ℕ → Row → Type 0
LacksForm size told tab row = (tab ≡ used_tab) × (rows : List Row) × ListsTable told used_tab rows
    × IsFirstAmiss size rows row

-- why reading rows fails: memory runs out, or a row is amiss
abbrev pub IsRowFault : ℕ → List Row → StoreFault → Type 0
IsRowFault size rows Keeper = ⊥
IsRowFault size rows (BadRow tab digest) = (tab ≡ used_tab) × (row : Row)
    × (digest.0 ≡ sha256 row.key) × IsFirstAmiss size rows row
IsRowFault size rows NoMemory = Unit {0}
