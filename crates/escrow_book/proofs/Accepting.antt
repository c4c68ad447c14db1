-- What it means that a change is accepted: none of its refusals applies.
use Rattle.std.proofs.Common.{◌≡◌, ℕ, ◌<◌, ◌≤◌, Bool, true, false, ◌||◌, ◌==◌, nat_lt, cond, List, Option, Some, None, refl, arith}
use Rattle.std.specs.Option.{option_or, option_map}
use Rattle.std.proofs.lemmas.Bool.{ltb-false, eqb-false, eqb-true, or_parts}
use Rattle.dh_base.specs.declared.id.Id.{Id}
use Rattle.dh_base.specs.declared.outcome.Outcome.{Outcome}
use Rattle.escrow_book.specs.declared.fault.BookFault.{BookFault}
use Rattle.escrow_book.specs.declared.fault.BookFault.TheVariants.{DealSettled}
use Rattle.dh_base.specs.Ids.{same_id}
use Rattle.escrow_book.specs.History.{History, is_known, is_party, settlement_of, moves_of, if_commit_of, free_of}
use Rattle.escrow_book.specs.Refused.{unknown_deal, not_a_party, deal_settled, wrong_turn, zero, zero_or_self, short, escrow_refusal, transfer_refusal, pay_refusal, settle_refusal}

pub neither : (o p : Option BookFault) → option_or o p ≡ None → (o ≡ None) × (p ≡ None)
neither None p e = (refl, e)
neither (Some f) p e = absurd cc

unless_some : (b : Bool) (f : BookFault) → cond b None (Some f) ≡ None → b ≡ true
unless_some true f e = refl
unless_some false f e = absurd cc

if_some : (b : Bool) (f : BookFault) → cond b (Some f) None ≡ None → b ≡ false
if_some true f e = absurd cc
if_some false f e = refl

not_ended : (o : Option Outcome) → option_map DealSettled o ≡ None → o ≡ None
not_ended None e = refl
not_ended (Some o) e = absurd cc

above_zero : (n : ℕ) → (n == 0) ≡ false → 0 < n
above_zero n e = let apart : n ≡ 0 → ⊥ = eqb-false n 0 e in omega arith

pub record EscrowAccepted (h : History) (d p : Id) (x : List ℕ) (n : ℕ) : Type 0 where
  pub known : is_known h d ≡ true
  pub party : is_party h d p ≡ true
  pub «open» : settlement_of h d ≡ None
  pub above : 0 < n
  pub held : n ≤ free_of h p x

pub escrow_accepted : (h : History) (d p : Id) (x : List ℕ) (n : ℕ) → escrow_refusal h d p x n ≡ None → EscrowAccepted h d p x n
escrow_accepted h d p x n e =
    let first = neither (unknown_deal h d) _ e in
    let second = neither (not_a_party h d p) _ first.1 in
    let third = neither (deal_settled h d) _ second.1 in
    let fourth = neither (zero n) _ third.1 in
    let fifth = neither (short (free_of h p x) n) None fourth.1 in
    record {
      known = unless_some (is_known h d) _ first.0;
      party = unless_some (is_party h d p) _ second.0;
      «open» = not_ended (settlement_of h d) third.0;
      above = above_zero n (if_some (n == 0) _ fourth.0);
      held = ltb-false (free_of h p x) n (if_some (nat_lt (free_of h p x) n) _ fifth.0);
    }

pub record TransferAccepted (h : History) (d from to : Id) (x : List ℕ) (n : ℕ) : Type 0 where
  pub known : is_known h d ≡ true
  pub sender : is_party h d from ≡ true
  pub receiver : is_party h d to ≡ true
  pub «open» : settlement_of h d ≡ None
  pub above : 0 < n
  pub apart : same_id from to ≡ false
  pub held : n ≤ if_commit_of h d from x

pub transfer_accepted : (h : History) (d from : Id) (turn : ℕ) (to : Id) (x : List ℕ) (n : ℕ) → transfer_refusal h d from turn to x n ≡ None → TransferAccepted h d from to x n
transfer_accepted h d from turn to x n e =
    let first = neither (unknown_deal h d) _ e in
    let second = neither (not_a_party h d from) _ first.1 in
    let third = neither (not_a_party h d to) _ second.1 in
    let fourth = neither (deal_settled h d) _ third.1 in
    let fifth = neither (wrong_turn h d from turn) _ fourth.1 in
    let sixth = neither (zero_or_self n from to) _ fifth.1 in
    let seventh = neither (short (if_commit_of h d from x) n) None sixth.1 in
    let both = or_parts (n == 0) (same_id from to) (if_some ((n == 0) || same_id from to) _ sixth.0) in
    record {
      known = unless_some (is_known h d) _ first.0;
      sender = unless_some (is_party h d from) _ second.0;
      receiver = unless_some (is_party h d to) _ third.0;
      «open» = not_ended (settlement_of h d) fourth.0;
      above = above_zero n both.0;
      apart = both.1;
      held = ltb-false (if_commit_of h d from x) n (if_some (nat_lt (if_commit_of h d from x) n) _ seventh.0);
    }

-- a transfer that isn't refused is made at the sender's turn
pub turn_is : (h : History) (d from : Id) (turn : ℕ) (to : Id) (x : List ℕ) (n : ℕ) → transfer_refusal h d from turn to x n ≡ None → turn ≡ moves_of h d from
turn_is h d from turn to x n e =
    let second = neither (unknown_deal h d) _ e in
    let third = neither (not_a_party h d from) _ second.1 in
    let fourth = neither (not_a_party h d to) _ third.1 in
    let fifth = neither (deal_settled h d) _ fourth.1 in
    let sixth = neither (wrong_turn h d from turn) _ fifth.1 in
    eqb-true turn (moves_of h d from) (unless_some (turn == moves_of h d from) _ sixth.0)

pub record PayAccepted (h : History) (from to : Id) (x : List ℕ) (n : ℕ) : Type 0 where
  pub above : 0 < n
  pub apart : same_id from to ≡ false
  pub held : n ≤ free_of h from x

pub pay_accepted : (h : History) (from to : Id) (x : List ℕ) (n : ℕ) → pay_refusal h from to x n ≡ None → PayAccepted h from to x n
pay_accepted h from to x n e =
    let first = neither (zero_or_self n from to) _ e in
    let second = neither (short (free_of h from x) n) None first.1 in
    let both = or_parts (n == 0) (same_id from to) (if_some ((n == 0) || same_id from to) _ first.0) in
    record {
      above = above_zero n both.0;
      apart = both.1;
      held = ltb-false (free_of h from x) n (if_some (nat_lt (free_of h from x) n) _ second.0);
    }

pub record SettleAccepted (h : History) (d : Id) : Type 0 where
  pub known : is_known h d ≡ true
  pub «open» : settlement_of h d ≡ None

pub settle_accepted : (h : History) (d : Id) → settle_refusal h d ≡ None → SettleAccepted h d
settle_accepted h d e =
    let first = neither (unknown_deal h d) _ e in
    let second = neither (deal_settled h d) None first.1 in
    record {
      known = unless_some (is_known h d) _ first.0;
      «open» = not_ended (settlement_of h d) second.0;
    }
