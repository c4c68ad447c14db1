-- What the rows of deals say over tables that stand for a history of entries that have a spelling.
use Rattle.std.proofs.Common.{◌≡◌, ℕ, Bool, true, false, if◌then◌else◌, List, [], ◌∷◌, length, Option, Some, None, Result, Ok, Err, refl, sym, ap, ◌∙◌}
use Rattle.std.specs.List.{AllByRecursion}
use Rattle.std.specs.Option.{option_map, option_or}
use Rattle.dh_base.specs.declared.id.Id.{Id}
use Rattle.dh_base.specs.Ids.{same_id}
use Rattle.act_text.specs.declared.act.Act.{Act}
use Rattle.act_text.specs.declared.act.Act.TheVariants.{Register, Pay, Escrow, Transfer, StartDeal, Vote}
use Rattle.act_text.specs.declared.act_fault.ActFault.{ActFault}
use Rattle.act_text.specs.declared.office.Office.TheVariants.{Ledger}
use Rattle.act_text.specs.ActReading.{act_of}
use Rattle.escrow_book.specs.Opening.{Row as OpeningRow}
use Rattle.escrow_book.specs.History.{History, settlement_of}
use Rattle.keeper_core.specs.Tables.{Tables}
use Rattle.ledger_rows.specs.declared.entry.Entry.{Entry}
use Rattle.ledger_rows.specs.declared.entry.Entry.TheVariants.{Act as Accepted, Settlement}
use Rattle.ledger_rows.specs.declared.registration.Registration.{Registration}
use Rattle.ledger_rows.specs.Entries.{digest_of, registered_by_act, registered_by, registration_of, book_of}
use Rattle.ledger_rows.specs.LedgerTables.{StandsFor}
use Rattle.ledger_rows.specs.RowKeys.{deal_tab, deal_key}
use Rattle.ledger_rows.specs.RowReading.{row_of, form_refusal, deal_said, deal_refusal}
use Rattle.ledger_rows.specs.RowValues.{registration_text, registration_in, EntryFits}
use Rattle.ledger_rows.proofs.ValuesSpelled.{spelled_registration}

-- the registration that stands in the deal's row
abbrev pub registration_with : History → Id → Id × List ℕ → Registration
registration_with book deal by = record { registrant = by.0; settled = settlement_of book deal; text = by.1 }

-- ---- the registrants of entries that have a spelling

registrant_wide : (e : Entry) (d : Id) (by : Id × List ℕ) → EntryFits e → registered_by d e ≡ Some by → length by.0.0 ≡ 32
registrant_wide (Settlement deal outcome) d by fits e = absurd cc
registrant_wide (Accepted account q message) d by fits e = go (act_of Ledger message) e
  where
    go_if : (here : Bool) (text : List ℕ) → (if here then Some (account, text) else None) ≡ Some by → length by.0.0 ≡ 32
    go_if true text is = let same : account ≡ by.0 = cc in ap (λ (a : Id). length a.0) (sym same) ∙ fits.0
    go_if false text is = absurd cc

    go : (read : Result Act ActFault) → registered_by_act d account read ≡ Some by → length by.0.0 ≡ 32
    go (Err fault) is = absurd cc
    go (Ok (Register text)) is = go_if (same_id d (digest_of text)) text is
    go (Ok (Pay house ledger to asset amount)) is = absurd cc
    go (Ok (Escrow deal ledger asset amount)) is = absurd cc
    go (Ok (Transfer deal ledger turn to asset amount)) is = absurd cc
    go (Ok (StartDeal text)) is = absurd cc
    go (Ok (Vote deal index choice)) is = absurd cc

first_of_two : (one other : Option (Id × List ℕ)) (by : Id × List ℕ) → (one ≡ Some by → length by.0.0 ≡ 32) → (other ≡ Some by → length by.0.0 ≡ 32) → option_or one other ≡ Some by → length by.0.0 ≡ 32
first_of_two None other by here there e = there e
first_of_two (Some one) other by here there e = here e

pub registrants_wide : (entries : List Entry) (d : Id) (by : Id × List ℕ) → AllByRecursion EntryFits entries → registration_of entries d ≡ Some by → length by.0.0 ≡ 32
registrants_wide [] d by fits e = absurd cc
registrants_wide (first ∷ entries) d by fits e =
    first_of_two (registered_by d first) (registration_of entries d) by (registrant_wide first d by fits.0) (registrants_wide entries d by fits.1) e

-- ---- the row of a deal

row_says : (book : History) (deal : Id) (o : Option (Id × List ℕ)) → ((by : Id × List ℕ) → o ≡ Some by → length by.0.0 ≡ 32) →
    row_of registration_in (option_map (λ (by : Id × List ℕ). registration_text (registration_with book deal by)) o) ≡ Some (option_map (registration_with book deal) o)
row_says book deal None wide = refl
row_says book deal (Some by) wide = ap (option_map Some) (spelled_registration (registration_with book deal by) (wide by refl))

module _ (tables : Tables) (opening : List OpeningRow) (entries : List Entry) (deal : Id) (stands : StandsFor tables opening entries) (fits : AllByRecursion EntryFits entries) where
  pub deal_says : deal_said deal tables ≡ Some (option_map (registration_with (book_of opening entries) deal) (registration_of entries deal))
  deal_says =
      ap (λ (o : Option (List ℕ)). row_of registration_in o) (stands.deals (deal_key deal))
      ∙ row_says (book_of opening entries) deal (registration_of entries deal) (λ by e. registrants_wide entries deal by fits e)

  pub deal_formed : deal_refusal deal tables ≡ None
  deal_formed = ap (λ (o : Option (Option Registration)). form_refusal deal_tab (deal_key deal) o) deal_says
