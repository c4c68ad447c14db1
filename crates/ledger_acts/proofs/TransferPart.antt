-- The rows that a transfer reads make a part that agrees with the whole book.
use Rattle.std.proofs.Common.{◌≡◌, ℕ, ◌<◌, ◌^◌, ◌==◌, ◌&&◌, ◌||◌, not, nat_le, length, Bool, true, false, if◌then◌else◌, List, [], ◌∷◌, Option, Some, None, is_some, IsTrue, refl, sym, ap, subst, ◌∙◌, arith}
use Rattle.std.specs.Option.{option_or, option_map, option_and_then, option_map_or}
use Rattle.std.specs.Str.{bytes_eq}
use Rattle.std.proofs.lemmas.Bool.{ne_eqb}
use Rattle.dh_base.specs.declared.id.Id.{Id}
use Rattle.dh_base.specs.Ids.{same_id}
use Rattle.dh_base.proofs.SameIds.{same_id-self, same_id-swap, id_from_same}
use Rattle.dh_base.specs.declared.outcome.Outcome.{Outcome}
use Rattle.escrow_book.specs.declared.change.Change.TheVariants.{Transferred}
use Rattle.escrow_book.specs.declared.known_deal.KnownDeal.{KnownDeal}
use Rattle.escrow_book.specs.declared.fault.BookFault.TheVariants as book
use Rattle.escrow_book.specs.declared.row.HoldRow.{HoldRow}
use Rattle.escrow_book.specs.declared.row.MovesRow.{MovesRow}
use Rattle.escrow_book.specs.declared.row.BookRow.{BookRow}
use Rattle.escrow_book.specs.declared.row.BookRow.TheVariants.{Deal, Moves}
use Rattle.escrow_book.specs.Base.{greatest_turn}
use Rattle.escrow_book.specs.History.{History, parties_of, settlement_of, is_in, is_among, moves_of, if_commit_of, if_abort_of}
use Rattle.escrow_book.specs.Reached.{IsReached, IsGrown, are_parties, are_different}
use Rattle.escrow_book.specs.Refused.{transfer_refusal}
use Rattle.escrow_book.specs.Part.{AgreeOnTransfer, SaySameHold}
use Rattle.escrow_book.specs.PartRows.{no_rows, first_fault, are_not_bad, part_of, first_in, deal_in, moves_in, hold_in}
use Rattle.escrow_book.proofs.Whole.{grown}
use Rattle.escrow_book.proofs.Rows.{good_rows}
use Rattle.escrow_book.proofs.RowsFound.{parties_are, settled_is, if_commit_is, if_abort_is, moves_are}
use Rattle.escrow_book.proofs.Fitting.{no_fault_of_whole}
use Rattle.escrow_book.proofs.Parts.{agree_after, same_transfer_refusal}
use Rattle.ledger_rows.specs.declared.hold.Hold.{Hold as Held}
use Rattle.ledger_rows.specs.declared.registration.Registration.{Registration}
use Rattle.ledger_rows.specs.ActChanges.{transfer_changes}
use Rattle.ledger_rows.specs.LedgerTables.{hold_of}
use Rattle.deal_core.specs.Drafts.{parties_in}
use Rattle.ledger_acts.specs.declared.movement.Movement.{Movement}
use Rattle.ledger_acts.specs.declared.movement.Movement.TheVariants.{Transfer}
use Rattle.ledger_acts.specs.Movements.{hold_row, transfer_rows}
use Rattle.ledger_acts.proofs.Agreeing.{Agrees, clash, same_bytes, and_true, and_false, GoodParties, good_parties, unknown_first, stranger_first, other_first}

not_greatest : (n : ℕ) → n < greatest_turn → (n == greatest_turn) ≡ false
not_greatest n lt = ne_eqb n greatest_turn (λ e. omega arith)

module _ (h : History) (deal from : Id) (turn : ℕ) (to : Id) (asset : List ℕ) (amount n : ℕ) (sender receiver : Held) (reached : IsReached h) (is_n : n ≡ moves_of h deal from) (few : n < greatest_turn)
    (is_sender : sender ≡ hold_of h deal from asset) (is_receiver : receiver ≡ hold_of h deal to asset) (small : (sender.commit < 2 ^ 64) × (sender.abort < 2 ^ 64)) (small' : (receiver.commit < 2 ^ 64) × (receiver.abort < 2 ^ 64)) where
  abbrev movement : Movement
  movement = Transfer deal from turn to asset amount

  -- no such deal
  unknown : parties_of h deal ≡ None → Agrees movement [] h
  unknown none =
      let part : transfer_refusal (part_of []) deal from turn to asset amount ≡ Some book.UnknownDeal = refl in
      let whole : transfer_refusal h deal from turn to asset amount ≡ Some book.UnknownDeal = unknown_first h deal _ none in
      record { fits = refl; same = part ∙ sym whole; changes = λ accepted act. clash (transfer_refusal h deal from (moves_of h deal from) to asset amount) book.UnknownDeal (unknown_first h deal _ none) accepted.0 }

  module _ (parties : List Id) (settled : Option Outcome) (known : parties_of h deal ≡ Some parties) (ended : settlement_of h deal ≡ settled) (good : GoodParties parties) where
    abbrev deal_here : KnownDeal
    deal_here = record { deal = deal; parties = parties; outcome = settled }

    abbrev alone : List BookRow
    alone = Deal deal parties settled ∷ []

    alone_known : parties_of (part_of alone) deal ≡ Some parties
    alone_known = parties_are alone deal ∙ ap (λ (same : Bool). option_map (λ (k : KnownDeal). k.parties) (option_or (if same then Some deal_here else None) None)) (same_id-self deal)

    alone_fits : first_fault no_rows 0 alone ≡ None
    alone_fits = no_fault_of_whole h alone reached (λ i. not (not (good.two i && good.different i)) && true) ((known, ended), tt)

    sender_out : is_in from parties ≡ false → Agrees movement alone h
    sender_out out =
        let part : transfer_refusal (part_of alone) deal from turn to asset amount ≡ Some (book.NotAParty from) = stranger_first (part_of alone) deal from parties _ alone_known out in
        let whole : transfer_refusal h deal from turn to asset amount ≡ Some (book.NotAParty from) = stranger_first h deal from parties _ known out in
        record { fits = alone_fits; same = part ∙ sym whole; changes = λ accepted act. clash (transfer_refusal h deal from (moves_of h deal from) to asset amount) (book.NotAParty from) (stranger_first h deal from parties _ known out) accepted.0 }

    receiver_out : is_in from parties ≡ true → is_in to parties ≡ false → Agrees movement alone h
    receiver_out into out =
        let part : transfer_refusal (part_of alone) deal from turn to asset amount ≡ Some (book.NotAParty to) = other_first (part_of alone) deal from to parties _ alone_known into out in
        let whole : transfer_refusal h deal from turn to asset amount ≡ Some (book.NotAParty to) = other_first h deal from to parties _ known into out in
        record { fits = alone_fits; same = part ∙ sym whole; changes = λ accepted act. clash (transfer_refusal h deal from (moves_of h deal from) to asset amount) (book.NotAParty to) (other_first h deal from to parties _ known into out) accepted.0 }

    module _ (from_in : is_in from parties ≡ true) (to_in : is_in to parties ≡ true) where
      own_pair : (p : Id) → (same_id p p && bytes_eq asset asset) ≡ true
      own_pair p = and_true _ _ (same_id-self p) (same_bytes asset)

      own_hold : (p : Id) → (same_id deal deal && (same_id p p && bytes_eq asset asset)) ≡ true
      own_hold p = and_true _ _ (same_id-self deal) (own_pair p)

      own_moves : (same_id deal deal && same_id from from) ≡ true
      own_moves = and_true _ _ (same_id-self deal) (same_id-self from)

      abbrev held_by : Id → Held → HoldRow
      held_by p held = record { deal = deal; account = p; asset = asset; commit = held.commit; abort = held.abort }

      abbrev moves_here : MovesRow
      moves_here = record { deal = deal; account = from; moves = n }

      -- the rest of the rows is the receiver's, if it is another
      abbrev front : List BookRow → List BookRow
      front rest = Deal deal parties settled ∷ Moves deal from n ∷ hold_row deal from asset sender ∷ rest

      is_commit : (p : Id) (held : Held) → held ≡ hold_of h deal p asset → held.commit ≡ if_commit_of h deal p asset
      is_commit p held is = ap (λ (o : Held). o.commit) is

      is_abort : (p : Id) (held : Held) → held ≡ hold_of h deal p asset → held.abort ≡ if_abort_of h deal p asset
      is_abort p held is = ap (λ (o : Held). o.abort) is

      deal_said : (rest : List BookRow) → parties_of (part_of (front rest)) deal ≡ parties_of h deal
      deal_said rest = parties_are (front rest) deal ∙ ap (λ (same : Bool). option_map (λ (k : KnownDeal). k.parties) (option_or (if same then Some deal_here else None) (first_in (deal_in deal) rest))) (same_id-self deal) ∙ sym known

      settled_said : (rest : List BookRow) → settlement_of (part_of (front rest)) deal ≡ settlement_of h deal
      settled_said rest = settled_is (front rest) deal ∙ ap (λ (same : Bool). option_and_then (λ (k : KnownDeal). k.outcome) (option_or (if same then Some deal_here else None) (first_in (deal_in deal) rest))) (same_id-self deal) ∙ sym ended

      moves_said : (rest : List BookRow) → moves_of (part_of (front rest)) deal from ≡ moves_of h deal from
      moves_said rest = moves_are (front rest) deal from ∙ ap (λ (own : Bool). option_map_or (λ (row : MovesRow). row.moves) (option_or (if own then Some moves_here else None) (first_in (moves_in deal from) rest)) 0) own_moves ∙ is_n

      sender_said : (rest : List BookRow) → SaySameHold (part_of (front rest)) h deal from asset
      sender_said rest = record {
        if_commit = if_commit_is (front rest) deal from asset ∙ ap (λ (own : Bool). option_map_or (λ (row : HoldRow). row.commit) (option_or (if own then Some (held_by from sender) else None) (first_in (hold_in deal from asset) rest)) 0) (own_hold from) ∙ is_commit from sender is_sender;
        if_abort = if_abort_is (front rest) deal from asset ∙ ap (λ (own : Bool). option_map_or (λ (row : HoldRow). row.abort) (option_or (if own then Some (held_by from sender) else None) (first_in (hold_in deal from asset) rest)) 0) (own_hold from) ∙ is_abort from sender is_sender;
      }

      abbrev carried_if : Bool → Option (List Id)
      carried_if same = option_map (λ (k : KnownDeal). k.parties) (if same then Some deal_here else None)

      -- a transfer to the sender itself
      module _ (one : same_id from to ≡ true) where
        not_bad_one : are_not_bad no_rows (front []) ≡ true
        not_bad_one = ap (λ (same : Bool). not (not (nat_le 2 (length parties) && are_different parties)) && (not (not (is_among from (carried_if same)) || (n == greatest_turn)) && (not (not (is_among from (carried_if same))) && true))) (same_id-self deal)
            ∙ (λ i. not (not (good.two i && good.different i)) && (not (not (from_in i) || not_greatest n few i) && (not (not (from_in i)) && true)))

        fits_one : first_fault no_rows 0 (front []) ≡ None
        fits_one = no_fault_of_whole h (front []) reached not_bad_one ((known, ended), (is_n, ((is_commit from sender is_sender, is_abort from sender is_sender), tt)))

        agree_one : AgreeOnTransfer (part_of (front [])) h deal from to asset
        agree_one = record {
          deal = record { parties = deal_said []; settled = settled_said [] };
          moves = moves_said [];
          sender = sender_said [];
          receiver = subst (λ (p : Id). SaySameHold (part_of (front [])) h deal p asset) (id_from_same from to one) (sender_said []);
        }

        grown_one : IsGrown (part_of (front []))
        grown_one = record { good = good_rows (front []) (tt, (omega arith, (small, tt))) fits_one; accepted = tt }

      -- to another
      module _ (apart : same_id from to ≡ false) where
        abbrev rows : List BookRow
        rows = front (hold_row deal to asset receiver ∷ [])

        other_pair : (same_id to from && bytes_eq asset asset) ≡ false
        other_pair = and_false _ _ (same_id-swap to from ∙ apart)

        other_hold : (same_id deal deal && (same_id to from && bytes_eq asset asset)) ≡ false
        other_hold = ap (λ (b : Bool). b && (same_id to from && bytes_eq asset asset)) (same_id-self deal) ∙ other_pair

        not_bad_apart : are_not_bad no_rows rows ≡ true
        not_bad_apart = ap (λ (same : Bool). not (not (nat_le 2 (length parties) && are_different parties)) && (not (not (is_among from (carried_if same)) || (n == greatest_turn)) && (not (not (is_among from (carried_if same)))
            && (not (is_some (if same && (same_id to from && bytes_eq asset asset) then Some (held_by from sender) else None) || not (is_among to (carried_if same))) && true)))) (same_id-self deal)
            ∙ (λ i. not (not (good.two i && good.different i)) && (not (not (from_in i) || not_greatest n few i) && (not (not (from_in i))
            && (not (is_some (if other_pair i then Some (held_by from sender) else None) || not (to_in i)) && true))))

        fits_apart : first_fault no_rows 0 rows ≡ None
        fits_apart = no_fault_of_whole h rows reached not_bad_apart ((known, ended), (is_n, ((is_commit from sender is_sender, is_abort from sender is_sender), ((is_commit to receiver is_receiver, is_abort to receiver is_receiver), tt))))

        receiver_said : SaySameHold (part_of rows) h deal to asset
        receiver_said = record {
          if_commit = if_commit_is rows deal to asset ∙ (λ i. option_map_or (λ (row : HoldRow). row.commit) (option_or (if other_hold i then Some (held_by from sender) else None) (option_or (if own_hold to i then Some (held_by to receiver) else None) None)) 0) ∙ is_commit to receiver is_receiver;
          if_abort = if_abort_is rows deal to asset ∙ (λ i. option_map_or (λ (row : HoldRow). row.abort) (option_or (if other_hold i then Some (held_by from sender) else None) (option_or (if own_hold to i then Some (held_by to receiver) else None) None)) 0) ∙ is_abort to receiver is_receiver;
        }

        agree_apart : AgreeOnTransfer (part_of rows) h deal from to asset
        agree_apart = record {
          deal = record { parties = deal_said (hold_row deal to asset receiver ∷ []); settled = settled_said (hold_row deal to asset receiver ∷ []) };
          moves = moves_said (hold_row deal to asset receiver ∷ []);
          sender = sender_said (hold_row deal to asset receiver ∷ []);
          receiver = receiver_said;
        }

        grown_apart : IsGrown (part_of rows)
        grown_apart = record { good = good_rows rows (tt, (omega arith, (small, (small', tt)))) fits_apart; accepted = tt }

      by_agreement : (rows : List BookRow) → first_fault no_rows 0 rows ≡ None → AgreeOnTransfer (part_of rows) h deal from to asset → IsGrown (part_of rows) → Agrees movement rows h
      by_agreement rows fits agree part_grown = record {
        fits = fits;
        same = same_transfer_refusal (part_of rows) h deal from turn to asset amount agree;
        changes = λ accepted act. (let agreed = agree_after (part_of rows) h (Transferred deal from to asset amount) part_grown (grown h reached) agree accepted in
            (λ i. transfer_changes deal from to asset (agreed.moves i) (record { commit = agreed.sender.if_commit i; abort = agreed.sender.if_abort i }) (record { commit = agreed.receiver.if_commit i; abort = agreed.receiver.if_abort i }) act));
      }

      by_receiver : Agrees movement (front (if same_id from to then [] else hold_row deal to asset receiver ∷ [])) h
      by_receiver = go (same_id from to) refl
        where
          go : (same : Bool) → same_id from to ≡ same → Agrees movement (front (if same then [] else hold_row deal to asset receiver ∷ [])) h
          go true one = by_agreement (front []) (fits_one one) (agree_one one) (grown_one one)
          go false apart = by_agreement (front (hold_row deal to asset receiver ∷ [])) (fits_apart apart) (agree_apart apart) (grown_apart apart)

    abbrev behind : List BookRow
    behind = Moves deal from n ∷ hold_row deal from asset sender ∷ (if same_id from to then [] else hold_row deal to asset receiver ∷ [])

    by_parties : Agrees movement (Deal deal parties settled ∷ (if is_in from parties && is_in to parties then behind else [])) h
    by_parties = go (is_in from parties) (is_in to parties) refl refl
      where
        go : (a b : Bool) → is_in from parties ≡ a → is_in to parties ≡ b → Agrees movement (Deal deal parties settled ∷ (if a && b then behind else [])) h
        go false b out e = sender_out out
        go true false into out = receiver_out into out
        go true true from_in to_in = by_receiver from_in to_in

  pub transfer_agrees : (found : Option Registration) → parties_of h deal ≡ option_map (λ (r : Registration). parties_in r.text) found → ((r : Registration) → found ≡ Some r → settlement_of h deal ≡ r.settled) →
      ((parties : List Id) → parties_of h deal ≡ Some parties → IsTrue (are_parties parties)) → Agrees movement (transfer_rows deal from to asset (found, (n, (sender, receiver)))) h
  transfer_agrees None known ended good = unknown known
  transfer_agrees (Some r) known ended good = by_parties (parties_in r.text) r.settled known (ended r refl) (good_parties (parties_in r.text) (good (parties_in r.text) known))
