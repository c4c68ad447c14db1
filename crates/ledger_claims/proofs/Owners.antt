-- What the rows of holds tell of a deal, over tables that stand for a history.
use Rattle.std.proofs.Common.{◌≡◌, ℕ, ◌+◌, ◌<◌, ◌^◌, ◌==◌, ◌&&◌, Bool, true, false, if◌then◌else◌, List, [], ◌∷◌, length, Option, Some, None, refl, sym, ap, subst, ◌∙◌, arith, inl, inr}
use Rattle.std.specs.List.{Contains, AllByRecursion}
use Rattle.std.specs.List.Sorted.{IsStrictlySortedBy}
use Rattle.std.specs.FinMap.{get}
use Rattle.std.specs.Str.{bytes_eq}
use Rattle.std.proofs.lemmas.Bool.{cases_Bool, and_parts, eqb-true, eqb-false}
use Rattle.std.proofs.lemmas.Slice.Eq.{bytes_eq-Decides}
use Rattle.dh_base.specs.declared.id.Id.{Id}
use Rattle.dh_base.specs.Ids.{same_id}
use Rattle.dh_base.specs.Names.{is_name}
use Rattle.dh_base.proofs.SameIds.{id_from_same, same_id-self, same_from_id}
use Rattle.escrow_book.specs.declared.row.HoldRow.{HoldRow}
use Rattle.escrow_book.specs.History.{History, if_commit_of, if_abort_of}
use Rattle.keeper_core.specs.declared.row.Row.{Row}
use Rattle.keeper_core.specs.Tables.{Tables, rows_of}
use Rattle.keeper_core.proofs.OneListing.{Ascends, IsBefore, not_before_itself, behind, here, later_on}
use Rattle.keeper_core.proofs.Scanned.{contains_cases, scans_ascend, scans_list_the_map}
use Rattle.ledger_rows.specs.declared.entry.Entry.{Entry}
use Rattle.ledger_rows.specs.declared.hold.Hold.{Hold}
use Rattle.ledger_rows.specs.RowKeys.{hold_tab, hold_key, first_id, behind_id, asset_in, is_hold_key}
use Rattle.ledger_rows.specs.RowValues.{hold_in, hold_text}
use Rattle.ledger_rows.specs.Entries.{book_of}
use Rattle.ledger_rows.specs.LedgerTables.{hold_of, hold_value}
use Rattle.ledger_rows.proofs.KeysSpelled.{hold_keys_read, hold_parts}
use Rattle.ledger_rows.proofs.RowsKept.{hold_row_is}
use Rattle.ledger_rows.proofs.ValuesSpelled.{spelled_hold}
use Rattle.ledger_acts.specs.LedgerStep.{Opened}
use Rattle.ledger_acts.specs.LedgerState.{IsState}
use Rattle.ledger_acts.proofs.StateRows.{hold_small}
use Rattle.ledger_claims.specs.Payees.{owned_by, owned_in, with_owned, owned_of, owned_at}

-- ---- the rows of one deal

module _ (deal : Id) where
  -- what holds of each row's owner holds of all
  pub all_owned : (P : HoldRow → Type 0) (rows : List Row) → ((row : Row) → Contains rows row → (hold : HoldRow) → owned_in row ≡ Some hold → hold.deal ≡ deal → P hold) → AllByRecursion P (owned_of deal rows)
  all_owned P [] each = tt
  all_owned P (row ∷ rows) each = go (owned_in row) refl (all_owned P rows (λ r there. each r (later_on row rows r there)))
    where
      go : (o : Option HoldRow) → owned_in row ≡ o → AllByRecursion P (owned_of deal rows) → AllByRecursion P (with_owned deal o (owned_of deal rows))
      go None e rest = rest
      go (Some hold) e rest = at (same_id hold.deal deal) refl
        where
          at : (same : Bool) → same_id hold.deal deal ≡ same → AllByRecursion P (if same then hold ∷ owned_of deal rows else owned_of deal rows)
          at true is = (each row (here row rows) hold e (id_from_same hold.deal deal is), rest)
          at false is = rest

  rest_of : (P : HoldRow → Type 0) (o : Option HoldRow) (rest : List HoldRow) → AllByRecursion P (with_owned deal o rest) → AllByRecursion P rest
  rest_of P None rest all = all
  rest_of P (Some hold) rest all = at (same_id hold.deal deal) all
    where
      at : (same : Bool) → AllByRecursion P (if same then hold ∷ rest else rest) → AllByRecursion P rest
      at true all = all.1
      at false all = all

  -- and what holds of all holds of each
  pub owned_there : (P : HoldRow → Type 0) (rows : List Row) (row : Row) (hold : HoldRow) → Contains rows row → owned_in row ≡ Some hold → hold.deal ≡ deal → AllByRecursion P (owned_of deal rows) → P hold
  owned_there P [] row hold (k, lt, is) found of all = absurd (omega arith)
  owned_there P (first ∷ rows) row hold there found of all = elim (contains_cases first row rows there) [
    | inl same ↦
        let first_is : owned_in first ≡ Some hold = ap (λ (r : Row). owned_in r) same ∙ found in
        first_one (same_id hold.deal deal) (same_from_id hold.deal deal of) (subst (λ (o : Option HoldRow). AllByRecursion P (with_owned deal o (owned_of deal rows))) first_is all)
    | inr later ↦ owned_there P rows row hold later found of (rest_of P (owned_in first) (owned_of deal rows) all)
  ]
    where
      first_one : (same : Bool) → same ≡ true → AllByRecursion P (if same then hold ∷ owned_of deal rows else owned_of deal rows) → P hold
      first_one true is all = all.0
      first_one false is all = absurd cc

-- ---- what a row's owner is

-- the row has the key that its owner spells
pub record IsSpelled (row : Row) (hold : HoldRow) : Type 0 where
  pub key : row.key ≡ hold_key hold.deal hold.account hold.asset
  pub wide : length hold.account.0 ≡ 32
  pub named : is_name hold.asset ≡ true

pub spelled : (row : Row) (hold : HoldRow) → owned_in row ≡ Some hold → IsSpelled row hold
spelled row hold e = go (is_hold_key row.key) refl (hold_in row.val) e
  where
    go : (good : Bool) → is_hold_key row.key ≡ good → (amounts : Option Hold) →
        owned_by (if good then Some (first_id row.key, (first_id (behind_id row.key), asset_in (behind_id row.key))) else None) amounts ≡ Some hold → IsSpelled row hold
    go false is amounts found = absurd cc
    go true is None found = absurd cc
    go true is (Some amounts) found =
        let read = (hold_keys_read row.key (first_id row.key) (first_id (behind_id row.key)) (asset_in (behind_id row.key))).0 (is, refl, refl, refl) in
        let deal : first_id row.key ≡ hold.deal = (let h = found in cc) in
        let account : first_id (behind_id row.key) ≡ hold.account = (let h = found in cc) in
        let asset : asset_in (behind_id row.key) ≡ hold.asset = (let h = found in cc) in
        record {
          key = read.3 ∙ (λ i. hold_key (deal i) (account i) (asset i));
          wide = ap (λ (a : Id). length a.0) (sym account) ∙ read.1;
          named = ap is_name (sym asset) ∙ read.2;
        }

-- ---- owners of one deal are different

-- they are two accounts, or own two assets
abbrev pub IsApart : HoldRow → HoldRow → Type 0
IsApart one other = one.account ≡ other.account → one.asset ≡ other.asset → ⊥

abbrev pub AreApart : List HoldRow → Type 0
AreApart [] = Unit {0}
AreApart (hold ∷ rest) = AllByRecursion (IsApart hold) rest × AreApart rest

pub owners_apart : (deal : Id) (rows : List Row) → Ascends rows → AreApart (owned_of deal rows)
unfolding IsStrictlySortedBy
owners_apart deal [] up = tt
owners_apart deal (row ∷ rows) up = go (owners_apart deal rows up.1) (owned_in row) refl
  where
    go : AreApart (owned_of deal rows) → (o : Option HoldRow) → owned_in row ≡ o → AreApart (with_owned deal o (owned_of deal rows))
    go rest None e = rest
    go rest (Some hold) e = at (same_id hold.deal deal) refl
      where
        apart : hold.deal ≡ deal → (later : Row) → Contains rows later → (other : HoldRow) → owned_in later ≡ Some other → other.deal ≡ deal → IsApart hold other
        apart of later there other found of' account asset =
            let one = spelled row hold e in
            let two = spelled later other found in
            let same : later.key ≡ row.key = two.key ∙ (λ i. hold_key ((of' ∙ sym of) i) (sym account i) (sym asset i)) ∙ sym one.key in
            not_before_itself row.key (subst (λ (k : List ℕ). IsBefore row.key k) same (behind row.key rows later up.0 there))

        at : (same : Bool) → same_id hold.deal deal ≡ same → AreApart (if same then hold ∷ owned_of deal rows else owned_of deal rows)
        at true is = (all_owned deal (IsApart hold) rows (apart (id_from_same hold.deal deal is)), rest)
        at false is = rest

pub apart_tests : (one other : HoldRow) → IsApart one other → (same_id one.account other.account && bytes_eq one.asset other.asset) ≡ false
apart_tests one other apart = elim (cases_Bool (same_id one.account other.account && bytes_eq one.asset other.asset)) [
  | inr e ↦ e
  | inl e ↦
      let parts = and_parts (same_id one.account other.account) (bytes_eq one.asset other.asset) e in
      absurd (apart (id_from_same one.account other.account parts.0) ((bytes_eq-Decides one.asset other.asset).0 parts.1))
]

pub apart_swap : (one other : HoldRow) → IsApart one other → IsApart other one
apart_swap one other apart account asset = apart (sym account) (sym asset)

-- ---- over tables that stand for a history

-- the owner has what the history says, and that is something
pub record IsOwned (h : History) (deal : Id) (hold : HoldRow) : Type 0 where
  pub of : hold.deal ≡ deal
  pub wide : length hold.account.0 ≡ 32
  pub named : is_name hold.asset ≡ true
  pub commit : hold.commit ≡ if_commit_of h deal hold.account hold.asset
  pub abort : hold.abort ≡ if_abort_of h deal hold.account hold.asset
  pub some : 0 < hold.commit + hold.abort

some_amount : (commit abort : ℕ) → ((commit == 0) && (abort == 0)) ≡ false → 0 < commit + abort
some_amount commit abort e = go (commit == 0) refl e
  where
    go : (c : Bool) → (commit == 0) ≡ c → (c && (abort == 0)) ≡ false → 0 < commit + abort
    go true zero rest = let not_zero : abort ≡ 0 → ⊥ = eqb-false abort 0 rest in omega arith
    go false some rest = let not_zero : commit ≡ 0 → ⊥ = eqb-false commit 0 some in omega arith

module _ (opened : Opened) (tables : Tables) (entries : List Entry) (is : IsState opened tables entries) where
  abbrev book : History
  book = book_of opened.rows entries

  -- the amounts that a value of a row stands for
  amounts_in : (held : Hold) (val : List ℕ) → held.commit < 2 ^ 64 → held.abort < 2 ^ 64 → hold_value held ≡ Some val → (hold_in val ≡ Some held) × (0 < held.commit + held.abort)
  amounts_in held val small small' e = go ((held.commit == 0) && (held.abort == 0)) refl e
    where
      go : (none : Bool) → ((held.commit == 0) && (held.abort == 0)) ≡ none → (if none then None else Some (hold_text held)) ≡ Some val → (hold_in val ≡ Some held) × (0 < held.commit + held.abort)
      go true zero found = absurd cc
      go false some found =
          let text : hold_text held ≡ val = cc in
          let more = some_amount held.commit held.abort some in
          (ap hold_in (sym text) ∙ spelled_hold held (more, small, small'), more)

  module _ (row : Row) (stands : get tables (hold_tab, row.key) ≡ Some row.val) where
    abbrev d : Id
    d = first_id row.key

    abbrev p : Id
    p = first_id (behind_id row.key)

    abbrev x : List ℕ
    x = asset_in (behind_id row.key)

    pub record IsFormed : Type 0 where
      pub good : is_hold_key row.key ≡ true
      pub amounts : hold_in row.val ≡ Some (hold_of book d p x)
      pub some : 0 < if_commit_of book d p x + if_abort_of book d p x

    pub formed : IsFormed
    formed = go (is_hold_key row.key) refl (sym (is.stands.holds row.key) ∙ stands)
      where
        go : (good : Bool) → is_hold_key row.key ≡ good → (if good then hold_value (hold_of book d p x) else None) ≡ Some row.val → IsFormed
        go false is_bad found = absurd cc
        go true is_good found =
            let small = hold_small opened tables entries is d p x in
            let both = amounts_in (hold_of book d p x) row.val small.0 small.1 found in
            record { good = is_good; amounts = both.0; some = both.1 }

    abbrev hold_here : HoldRow
    hold_here = record { deal = d; account = p; asset = x; commit = if_commit_of book d p x; abort = if_abort_of book d p x }

    pub owner_is : owned_in row ≡ Some hold_here
    owner_is = (λ i. owned_by (if formed.good i then Some (d, (p, x)) else None) (formed.amounts i))

  -- each owner has what the book says
  pub owners_owned : (deal : Id) → AllByRecursion (IsOwned book deal) (owned_at deal tables)
  owners_owned deal = all_owned deal (IsOwned book deal) (rows_of hold_tab tables) (λ row there hold found of.
      let stands = (scans_list_the_map hold_tab row tables).0 there in
      let same : hold_here row stands ≡ hold = (let e : Some (hold_here row stands) ≡ Some hold = sym (owner_is row stands) ∙ found in cc) in
      let spell = spelled row hold found in
      let own : IsOwned book (d row stands) (hold_here row stands) = record {
        of = refl;
        wide = subst (λ (h : HoldRow). length h.account.0 ≡ 32) (sym same) spell.wide;
        named = subst (λ (h : HoldRow). is_name h.asset ≡ true) (sym same) spell.named;
        commit = refl;
        abort = refl;
        some = (formed row stands).some;
      } in
      subst (λ (h : HoldRow). IsOwned book deal h) same (subst (λ (e : Id). IsOwned book e (hold_here row stands)) (ap (λ (h : HoldRow). h.deal) same ∙ of) own))

  pub owners_differ : (deal : Id) → AreApart (owned_at deal tables)
  owners_differ deal = owners_apart deal (rows_of hold_tab tables) (scans_ascend hold_tab tables)

  -- who is no owner owns nothing
  pub no_owner : (deal p : Id) (x : List ℕ) → length deal.0 ≡ 32 → length p.0 ≡ 32 → is_name x ≡ true →
      AllByRecursion (λ (hold : HoldRow). (same_id p hold.account && bytes_eq x hold.asset) ≡ false) (owned_at deal tables) → (if_commit_of book deal p x ≡ 0) × (if_abort_of book deal p x ≡ 0)
  no_owner deal p x wide wide' named none = go ((if_commit_of book deal p x == 0) && (if_abort_of book deal p x == 0)) refl
    where
      go : (zero : Bool) → ((if_commit_of book deal p x == 0) && (if_abort_of book deal p x == 0)) ≡ zero → (if_commit_of book deal p x ≡ 0) × (if_abort_of book deal p x ≡ 0)
      go true zeros =
          let both = and_parts (if_commit_of book deal p x == 0) (if_abort_of book deal p x == 0) zeros in
          (eqb-true (if_commit_of book deal p x) 0 both.0, eqb-true (if_abort_of book deal p x) 0 both.1)
      go false some = absurd (clash (same_id p p) (bytes_eq x x) (same_id-self p) ((bytes_eq-Decides x x).1 refl) never)
        where
          clash : (a b : Bool) → a ≡ true → b ≡ true → (a && b) ≡ false → ⊥
          clash true true e f g = cc
          clash true false e f g = cc
          clash false b e f g = cc

          value_is : hold_value (hold_of book deal p x) ≡ Some (hold_text (hold_of book deal p x))
          value_is = ap (λ (none : Bool). if none then None else Some (hold_text (hold_of book deal p x))) some

          stands : get tables (hold_tab, hold_key deal p x) ≡ Some (hold_text (hold_of book deal p x))
          stands = is.stands.holds (hold_key deal p x) ∙ hold_row_is book deal p x wide wide' named ∙ value_is

          parts : (first_id (hold_key deal p x) ≡ deal) × (first_id (behind_id (hold_key deal p x)) ≡ p) × (asset_in (behind_id (hold_key deal p x)) ≡ x)
          parts = (let read = hold_parts deal p x wide wide' named in (read.deal_is, read.account_is, read.asset_is))

          never : (same_id p p && bytes_eq x x) ≡ false
          never =
              let row : Row = record { key = hold_key deal p x; val = hold_text (hold_of book deal p x) } in
              (λ i. same_id p (sym parts.1 i) && bytes_eq x (sym parts.2 i))
              ∙ owned_there deal (λ (hold : HoldRow). (same_id p hold.account && bytes_eq x hold.asset) ≡ false) (rows_of hold_tab tables) row (hold_here row stands)
              ((scans_list_the_map hold_tab row tables).1 stands) (owner_is row stands) parts.0 none
