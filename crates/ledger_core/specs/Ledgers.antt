-- What a ledger is seen as, and where it stands in a history.
use Rattle.std.specs.Prelude.{ℕ, ◌≡◌, List, length}
use Rattle.cert_core.specs.Sets.{SetTold}
use Rattle.dh_base.specs.declared.id.Id.{Id}
use Rattle.ledger_rows.specs.declared.entry.Entry.{Entry}
use Rattle.ledger_acts.specs.LedgerStep.{Opened, acts_of}

-- A ledger keeps no history in memory, only how many entries it has and how many of them are acts.
pub record LedgerTold (K : Type 0) : Type 0 where
  pub keeper : K
  pub name : List ℕ
  pub house : Id
  pub genesis : SetTold
  pub entries : ℕ
  pub acts : ℕ

-- It is that ledger, and its counts are those of the history.
pub record IsAt {K : Type 0} (opened : Opened) (entries : List Entry) (ledger : LedgerTold K) :
    Type 0 where
  pub name : ledger.name ≡ opened.name
  pub house : ledger.house ≡ opened.house
  pub length_is : ledger.entries ≡ length entries
  pub acts_is : ledger.acts ≡ acts_of entries
