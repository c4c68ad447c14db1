-- Tables stand for the history with an accepted registration, once its changes are made.
use Rattle.std.proofs.Common.{◌≡◌, ℕ, ◌+◌, ◌<◌, ◌^◌, Bool, true, false, if◌then◌else◌, List, [], ◌∷◌, ◌++◌, length, Option, Some, None, is_some, Result, Ok, refl, sym, ap, ◌∙◌, inl, inr}
use Rattle.std.specs.Option.{option_map, option_or}
use Rattle.std.specs.FinMap.{get}
use Rattle.std.proofs.lemmas.Bool.{cases_Bool}
use Rattle.dh_base.specs.declared.id.Id.{Id}
use Rattle.dh_base.specs.Ids.{same_id}
use Rattle.dh_base.proofs.SameIds.{id_from_same, same_id-self}
use Rattle.act_text.specs.declared.act.Act.{Act}
use Rattle.act_text.specs.declared.act.Act.TheVariants.{Register}
use Rattle.act_text.specs.declared.act_fault.ActFault.{ActFault}
use Rattle.act_text.specs.declared.office.Office.TheVariants.{Ledger}
use Rattle.act_text.specs.ActReading.{act_of}
use Rattle.escrow_book.specs.declared.change.Change.{Change as BookChange}
use Rattle.escrow_book.specs.declared.change.Change.TheVariants.{Registered}
use Rattle.escrow_book.specs.Opening.{Row}
use Rattle.escrow_book.specs.History.{History, with_change, settlement_of, is_known}
use Rattle.escrow_book.specs.Reached.{are_parties, IsReached, IsAccepted}
use Rattle.escrow_book.proofs.Lookups.{or_none, settlement_kept}
use Rattle.escrow_book.proofs.Whole.{grown}
use Rattle.escrow_book.proofs.Parts.{free_untouched, if_commit_untouched, if_abort_untouched, moves_untouched}
use Rattle.keeper_core.specs.Tables.{Cell, Tables}
use Rattle.keeper_core.specs.Batches.{after_batch, after_change}
use Rattle.keeper_core.proofs.Batched.{at_itself}
use Rattle.ledger_rows.specs.declared.registration.Registration.{Registration}
use Rattle.ledger_rows.specs.declared.entry.Entry.{Entry}
use Rattle.ledger_rows.specs.declared.entry.Entry.TheVariants.{Act as Accepted}
use Rattle.ledger_rows.specs.RowKeys.{free_tab, deal_tab, hold_tab, moves_tab, used_tab, entry_tab, deal_key, first_id, asset_in}
use Rattle.ledger_rows.specs.RowValues.{registration_text}
use Rattle.ledger_rows.specs.RowChanges.{deal_change}
use Rattle.ledger_rows.specs.Entries.{digest_of, parties_in, registered_by_act, registered_by, registration_of, book_of}
use Rattle.ledger_rows.specs.LedgerTables.{deal_row, StandsFor}
use Rattle.ledger_rows.specs.ActChanges.{IsNew, act_changes, new_registration, registration_changes}
use Rattle.ledger_rows.proofs.Cells.{same_cell, cell_is, change_at, picked}
use Rattle.ledger_rows.proofs.RowsKept.{kept_free, kept_hold, kept_moves, registrations_more, kept_deal}
use Rattle.ledger_rows.proofs.Histories.{one_act_more}
use Rattle.ledger_rows.proofs.ActsStand.{any_act_stands}
use Rattle.ledger_rows.proofs.KnownDeals.{no_parties, known_is_registered, unknown_open}

module _ (tables : Tables) (opening : List Row) (entries : List Entry) (account : Id) (q : ℕ) (message : List ℕ) (text : List ℕ)
    (stands : StandsFor tables opening entries) (reached : IsReached (book_of opening entries)) (new : IsNew entries account q) (reads : act_of Ledger message ≡ Ok (Register text))
    (good : are_parties (parties_in text) ≡ true) (few : length entries < 2 ^ 63) where
  abbrev book : History
  book = book_of opening entries

  abbrev deal : Id
  deal = digest_of text

  abbrev entry : Entry
  entry = Accepted account q message

  abbrev listed : List Entry
  listed = entries ++ entry ∷ []

  registered_here : (d : Id) → registered_by d entry ≡ (if same_id d deal then Some (account, text) else None)
  registered_here d = ap (λ (r : Result Act ActFault). registered_by_act d account r) reads

  elsewhere : (d : Id) → same_id d deal ≡ false → registered_by d entry ≡ None
  elsewhere d other = registered_here d ∙ ap (λ (b : Bool). if b then Some (account, text) else None) other

  -- where the deal is registered already
  module _ (known : is_known book deal ≡ true) where
    same_book : book_of opening listed ≡ book
    same_book = one_act_more opening entries account q message (Register text) reads ∙ ap (λ (b : Bool). if b then book else with_change book (Registered deal (parties_in text))) known

    some_stays : (o p : Option (Id × List ℕ)) → is_some o ≡ true → option_or o p ≡ o
    some_stays None p e = absurd cc
    some_stays (Some by) p e = refl

    registration_stays : (d : Id) → registration_of listed d ≡ registration_of entries d
    registration_stays d = elim (cases_Bool (same_id d deal)) [
      | inl is ↦
          let there : is_some (registration_of entries d) ≡ true = sym (known_is_registered opening entries d) ∙ ap (λ (i : Id). is_known book i) (id_from_same d deal is) ∙ known in
          registrations_more entries entry d ∙ some_stays (registration_of entries d) (registered_by d entry) there
      | inr other ↦
          registrations_more entries entry d ∙ ap (λ (o : Option (Id × List ℕ)). option_or (registration_of entries d) o) (elsewhere d other) ∙ or_none (registration_of entries d)
    ]

    same_deal : (key : List ℕ) → deal_row book entries key ≡ deal_row book listed key
    same_deal key = ap (λ (o : Option (Id × List ℕ)). option_map (λ by. registration_text (record { registrant = by.0; settled = settlement_of book (record { 0 = key }); text = by.1 })) o) (sym (registration_stays (record { 0 = key })))

    again_stands : StandsFor (after_batch (act_changes (length entries + 1) account q message) tables) opening listed
    again_stands = any_act_stands tables tables opening entries account q message book stands new few same_book (record {
      free = stands.free;
      holds = stands.holds;
      moves = stands.moves;
      deals = λ key. stands.deals key ∙ same_deal key;
      used = λ key. refl;
      entries = λ key. refl;
    })

  -- where the deal is unknown
  module _ (unknown : is_known book deal ≡ false) where
    abbrev change : BookChange
    change = Registered deal (parties_in text)

    abbrev later : History
    later = with_change book change

    abbrev registration : Registration
    registration = new_registration account text

    abbrev two : Tables
    two = after_change (deal_change deal registration) tables

    accepted : IsAccepted book change
    accepted = (no_parties book deal unknown, good)

    later_book : book_of opening listed ≡ later
    later_book = one_act_more opening entries account q message (Register text) reads ∙ ap (λ (b : Bool). if b then book else later) unknown

    not_registered : registration_of entries deal ≡ None
    not_registered = none_there (registration_of entries deal) (sym (known_is_registered opening entries deal) ∙ unknown)
      where
        none_there : (o : Option (Id × List ℕ)) → is_some o ≡ false → o ≡ None
        none_there None e = refl
        none_there (Some by) e = absurd cc

    registered_now : registration_of listed deal ≡ Some (account, text)
    registered_now =
        registrations_more entries entry deal ∙ (λ i. option_or (not_registered i) (registered_by deal entry))
        ∙ registered_here deal ∙ ap (λ (b : Bool). if b then Some (account, text) else None) (same_id-self deal)

    «open» : settlement_of later deal ≡ None
    «open» = settlement_kept book change deal refl ∙ unknown_open book deal reached unknown

    row_here : deal_row later listed (deal_key deal) ≡ Some (registration_text registration)
    row_here = (λ i. option_map (λ by. registration_text (record { registrant = by.0; settled = «open» i; text = by.1 })) (registered_now i))

    -- another key is another deal
    other_deal : (key : List ℕ) → same_cell (deal_tab, key) (deal_tab, deal_key deal) ≡ false → same_id (record { 0 = key }) deal ≡ false
    other_deal key other = elim (cases_Bool (same_id (record { 0 = key }) deal)) [
      | inr e ↦ e
      | inl is ↦
          let same : key ≡ deal_key deal = ap (λ (i : Id). i.0) (id_from_same (record { 0 = key }) deal is) in
          let there : same_cell (deal_tab, key) (deal_tab, deal_key deal) ≡ true = ap (λ (k : List ℕ). same_cell (deal_tab, key) (deal_tab, k)) (sym same) ∙ at_itself (deal_tab, key) in
          absurd cc
    ]

    deals_two : (key : List ℕ) → get two (deal_tab, key) ≡ deal_row later listed key
    deals_two key =
        change_at (deal_change deal registration) tables (deal_tab, key) ∙ picked _ _ _ _
        (λ is.
        let e : key ≡ deal_key deal = ap (λ (c : Cell). c.1) (cell_is (deal_tab, key) (deal_tab, deal_key deal) is) in
        sym row_here ∙ ap (λ (k : List ℕ). deal_row later listed k) (sym e))
        (λ other.
        let d : Id = record { 0 = key } in
        stands.deals key ∙ sym (kept_deal book later entries entry key (elsewhere d (other_deal key other)) (settlement_kept book change d refl)))

    new_stands : StandsFor (after_batch (deal_change deal registration ∷ act_changes (length entries + 1) account q message) tables) opening listed
    new_stands = any_act_stands tables two opening entries account q message later stands new few later_book (record {
      free = λ key. change_at (deal_change deal registration) tables (free_tab, key) ∙ stands.free key
          ∙ sym (kept_free book later key (λ is. free_untouched book change (first_id key) (asset_in key) (grown book reached) accepted refl refl));
      holds = λ key. change_at (deal_change deal registration) tables (hold_tab, key) ∙ stands.holds key
          ∙ sym (kept_hold book later key (λ d p x. (if_commit_untouched book change d p x refl refl, if_abort_untouched book change d p x refl)));
      moves = λ key. change_at (deal_change deal registration) tables (moves_tab, key) ∙ stands.moves key ∙ sym (kept_moves book later key (λ d p. moves_untouched book change d p refl));
      deals = deals_two;
      used = λ key. change_at (deal_change deal registration) tables (used_tab, key);
      entries = λ key. change_at (deal_change deal registration) tables (entry_tab, key);
    })

  pub registration_stands : StandsFor (after_batch (registration_changes (is_known book deal) deal (new_registration account text) (act_changes (length entries + 1) account q message)) tables) opening listed
  registration_stands = go (is_known book deal) refl
    where
      go : (known : Bool) → is_known book deal ≡ known → StandsFor (after_batch (registration_changes known deal (new_registration account text) (act_changes (length entries + 1) account q message)) tables) opening listed
      go true is = again_stands is
      go false is = new_stands is
