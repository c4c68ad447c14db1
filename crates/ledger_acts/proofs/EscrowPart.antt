-- The rows that an escrow reads make a part that agrees with the whole book.
use Rattle.std.proofs.Common.{◌≡◌, ℕ, ◌+◌, ◌<◌, ◌^◌, ◌&&◌, not, nat_le, length, Bool, true, false, if◌then◌else◌, List, [], ◌∷◌, Option, Some, None, IsTrue, refl, sym, ap, ◌∙◌, arith}
use Rattle.std.specs.Option.{option_or, option_map, option_and_then, option_map_or}
use Rattle.std.specs.Str.{bytes_eq}
use Rattle.dh_base.specs.declared.id.Id.{Id}
use Rattle.dh_base.specs.Ids.{same_id}
use Rattle.dh_base.proofs.SameIds.{same_id-self}
use Rattle.dh_base.specs.declared.outcome.Outcome.{Outcome}
use Rattle.escrow_book.specs.declared.change.Change.TheVariants.{Escrowed}
use Rattle.escrow_book.specs.declared.known_deal.KnownDeal.{KnownDeal}
use Rattle.escrow_book.specs.declared.fault.BookFault.TheVariants as book
use Rattle.escrow_book.specs.declared.row.HoldRow.{HoldRow}
use Rattle.escrow_book.specs.declared.row.BookRow.{BookRow}
use Rattle.escrow_book.specs.declared.row.BookRow.TheVariants.{Free, Deal}
use Rattle.escrow_book.specs.History.{History, with_change, parties_of, settlement_of, is_in, is_among, free_of, if_commit_of, if_abort_of}
use Rattle.escrow_book.specs.Reached.{IsReached, IsGrown, IsAccepted, are_parties, are_different}
use Rattle.escrow_book.specs.Refused.{escrow_refusal}
use Rattle.escrow_book.specs.Part.{AgreeOnEscrow}
use Rattle.escrow_book.specs.PartRows.{no_rows, first_fault, are_not_bad, part_of}
use Rattle.escrow_book.proofs.Whole.{grown}
use Rattle.escrow_book.proofs.Rows.{good_rows}
use Rattle.escrow_book.proofs.RowsFound.{free_is, parties_are, settled_is, if_commit_is, if_abort_is}
use Rattle.escrow_book.proofs.Fitting.{no_fault_of_whole}
use Rattle.escrow_book.proofs.Parts.{agree_after, same_escrow_refusal}
use Rattle.ledger_rows.specs.declared.hold.Hold.{Hold as Held}
use Rattle.ledger_rows.specs.declared.registration.Registration.{Registration}
use Rattle.ledger_rows.specs.ActChanges.{escrow_changes}
use Rattle.ledger_rows.specs.LedgerTables.{hold_of}
use Rattle.deal_core.specs.Drafts.{parties_in}
use Rattle.ledger_acts.specs.declared.movement.Movement.{Movement}
use Rattle.ledger_acts.specs.declared.movement.Movement.TheVariants.{Escrow}
use Rattle.ledger_acts.specs.Movements.{hold_row, escrow_rows}
use Rattle.ledger_acts.proofs.Agreeing.{Agrees, clash, same_bytes, and_true, GoodParties, good_parties, unknown_first, stranger_first}

module _ (h : History) (deal party : Id) (asset : List ℕ) (amount n : ℕ) (held : Held) (reached : IsReached h) (is_n : n ≡ free_of h party asset) (is_held : held ≡ hold_of h deal party asset) (small : (held.commit < 2 ^ 64) × (held.abort < 2 ^ 64)) where
  abbrev movement : Movement
  movement = Escrow deal party asset amount

  -- no such deal
  unknown : parties_of h deal ≡ None → Agrees movement [] h
  unknown none =
      let part : escrow_refusal (part_of []) deal party asset amount ≡ Some book.UnknownDeal = refl in
      let whole : escrow_refusal h deal party asset amount ≡ Some book.UnknownDeal = unknown_first h deal _ none in
      record { fits = refl; same = part ∙ sym whole; changes = λ accepted act. clash _ _ whole accepted }

  module _ (parties : List Id) (settled : Option Outcome) (known : parties_of h deal ≡ Some parties) (ended : settlement_of h deal ≡ settled) (good : GoodParties parties) where
    abbrev deal_here : KnownDeal
    deal_here = record { deal = deal; parties = parties; outcome = settled }

    deal_alone_good : (two different : Bool) → two ≡ true → different ≡ true → (not (not (two && different)) && true) ≡ true
    deal_alone_good two different a b = (λ i. not (not (a i && b i)) && true)

    alone_known : parties_of (part_of (Deal deal parties settled ∷ [])) deal ≡ Some parties
    alone_known = parties_are (Deal deal parties settled ∷ []) deal ∙ ap (λ (same : Bool). option_map (λ (k : KnownDeal). k.parties) (option_or (if same then Some deal_here else None) None)) (same_id-self deal)

    stranger : is_in party parties ≡ false → Agrees movement (Deal deal parties settled ∷ []) h
    stranger out =
        let part : escrow_refusal (part_of (Deal deal parties settled ∷ [])) deal party asset amount ≡ Some (book.NotAParty party) = stranger_first (part_of (Deal deal parties settled ∷ [])) deal party parties _ alone_known out in
        let whole : escrow_refusal h deal party asset amount ≡ Some (book.NotAParty party) = stranger_first h deal party parties _ known out in
        record {
          fits = no_fault_of_whole h (Deal deal parties settled ∷ []) reached (deal_alone_good _ _ good.two good.different) ((known, ended), tt);
          same = part ∙ sym whole;
          changes = λ accepted act. clash _ _ whole accepted;
        }

    module _ (among : is_in party parties ≡ true) where
      abbrev rows : List BookRow
      rows = Deal deal parties settled ∷ Free party asset n ∷ hold_row deal party asset held ∷ []

      own_pair : (same_id party party && bytes_eq asset asset) ≡ true
      own_pair = and_true _ _ (same_id-self party) (same_bytes asset)

      own_hold : (same_id deal deal && (same_id party party && bytes_eq asset asset)) ≡ true
      own_hold = and_true _ _ (same_id-self deal) own_pair

      abbrev hold_here : HoldRow
      hold_here = record { deal = deal; account = party; asset = asset; commit = held.commit; abort = held.abort }

      not_bad : are_not_bad no_rows rows ≡ true
      not_bad = ap (λ (same : Bool). not (not (nat_le 2 (length parties) && are_different parties)) && (true && (not (not (is_among party (option_map (λ (k : KnownDeal). k.parties) (if same then Some deal_here else None)))) && true))) (same_id-self deal)
          ∙ (λ i. not (not (good.two i && good.different i)) && (true && (not (not (among i)) && true)))

      is_commit : held.commit ≡ if_commit_of h deal party asset
      is_commit = ap (λ (o : Held). o.commit) is_held

      is_abort : held.abort ≡ if_abort_of h deal party asset
      is_abort = ap (λ (o : Held). o.abort) is_held

      fits_all : first_fault no_rows 0 rows ≡ None
      fits_all = no_fault_of_whole h rows reached not_bad ((known, ended), (is_n, ((is_commit, is_abort), tt)))

      agree : AgreeOnEscrow (part_of rows) h deal party asset
      agree = record {
        deal = record {
          parties = parties_are rows deal ∙ ap (λ (same : Bool). option_map (λ (k : KnownDeal). k.parties) (option_or (if same then Some deal_here else None) None)) (same_id-self deal) ∙ sym known;
          settled = settled_is rows deal ∙ ap (λ (same : Bool). option_and_then (λ (k : KnownDeal). k.outcome) (option_or (if same then Some deal_here else None) None)) (same_id-self deal) ∙ sym ended;
        };
        free = free_is rows party asset ∙ ap (λ (own : Bool). 0 + 0 + (if own then n else 0) + 0) own_pair ∙ (let e : 0 + 0 + n + 0 ≡ n = omega arith in e) ∙ is_n;
        hold = record {
          if_commit = if_commit_is rows deal party asset ∙ ap (λ (own : Bool). option_map_or (λ (row : HoldRow). row.commit) (option_or (if own then Some hold_here else None) None) 0) own_hold ∙ is_commit;
          if_abort = if_abort_is rows deal party asset ∙ ap (λ (own : Bool). option_map_or (λ (row : HoldRow). row.abort) (option_or (if own then Some hold_here else None) None) 0) own_hold ∙ is_abort;
        };
      }

      part_grown : IsGrown (part_of rows)
      part_grown = record { good = good_rows rows (tt, (tt, (small, tt))) fits_all; accepted = tt }

      agree_then : IsAccepted h (Escrowed deal party asset amount) → AgreeOnEscrow (with_change (part_of rows) (Escrowed deal party asset amount)) (with_change h (Escrowed deal party asset amount)) deal party asset
      agree_then accepted = agree_after (part_of rows) h (Escrowed deal party asset amount) part_grown (grown h reached) agree accepted

      agrees : Agrees movement rows h
      agrees = record {
        fits = fits_all;
        same = same_escrow_refusal (part_of rows) h deal party asset amount agree;
        changes = λ accepted act. (let agreed = agree_then accepted in
            (λ i. escrow_changes deal party asset (agreed.free i) (record { commit = agreed.hold.if_commit i; abort = agreed.hold.if_abort i }) act));
      }

    by_parties : Agrees movement (Deal deal parties settled ∷ (if is_in party parties then Free party asset n ∷ hold_row deal party asset held ∷ [] else [])) h
    by_parties = go (is_in party parties) refl
      where
        go : (among : Bool) → is_in party parties ≡ among → Agrees movement (Deal deal parties settled ∷ (if among then Free party asset n ∷ hold_row deal party asset held ∷ [] else [])) h
        go true among = agrees among
        go false out = stranger out

  pub escrow_agrees : (found : Option Registration) → parties_of h deal ≡ option_map (λ (r : Registration). parties_in r.text) found → ((r : Registration) → found ≡ Some r → settlement_of h deal ≡ r.settled) →
      ((parties : List Id) → parties_of h deal ≡ Some parties → IsTrue (are_parties parties)) → Agrees movement (escrow_rows deal party asset (found, (n, held))) h
  escrow_agrees None known ended good = unknown known
  escrow_agrees (Some r) known ended good = by_parties (parties_in r.text) r.settled known (ended r refl) (good_parties (parties_in r.text) (good (parties_in r.text) known))
