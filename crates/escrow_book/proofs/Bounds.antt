-- No amount is above the greatest one.
use Rattle.std.proofs.Common.{◌≡◌, ℕ, ◌+◌, ◌<◌, ◌≤◌, Bool, true, false, ◌&&◌, cond, List, [], ◌∷◌, ◌++◌, Option, Some, None, is_some, refl, ap, sym, ◌∙◌, subst, arith}
use Rattle.std.specs.List.{sum_by}
use Rattle.std.specs.Str.{bytes_eq}
use Rattle.std.proofs.lemmas.Bool.{and_parts}
use Rattle.std.proofs.lemmas.List.Sums.{sum_by_push}
use Rattle.dh_base.specs.declared.id.Id.{Id}
use Rattle.dh_base.specs.declared.outcome.Outcome.{Outcome}
use Rattle.escrow_book.specs.declared.change.Change.{Change}
use Rattle.escrow_book.specs.declared.change.Change.TheVariants.{Registered, Escrowed, Transferred, Paid, Settled}
use Rattle.std.specs.Option.{option_or}
use Rattle.dh_base.specs.Amounts.{greatest_amount}
use Rattle.escrow_book.specs.Opening.{Row, asset_amount, row_amount, opening_of, total_of}
use Rattle.dh_base.specs.Ids.{same_id}
use Rattle.escrow_book.specs.Base.{Base, carried_outcome, carried_commit, carried_abort, carried_payout, held_most, open_most, base_total, greatest_turn}
use Rattle.escrow_book.specs.Kept.{ended_here}
use Rattle.dh_base.specs.declared.outcome.Outcome.TheVariants.{Commit, Abort}
use Rattle.escrow_book.specs.History.{History, with_change, settlement_of, if_abort_of, if_commit_of, free_of, is_move, moves_of}
use Rattle.escrow_book.specs.Reached.{IsAccepted, IsGrown, are_different}
use Rattle.escrow_book.specs.Conserved.{AreItsAccounts}
use Rattle.escrow_book.proofs.Sums.{sum_le, all_by_all}
use Rattle.dh_base.proofs.SameIds.{id_from_same}
use Rattle.escrow_book.proofs.Lookups.{settlement_kept, open_here}
use Rattle.escrow_book.proofs.Growth.{apart_deals, settled_is_still, if_commit_still, if_abort_still}
use Rattle.escrow_book.proofs.Accepting.{escrow_accepted}
use Rattle.escrow_book.proofs.Steps.{history, by_steps, grown_push}
use Rattle.escrow_book.proofs.Cut.{nothing_is_cut}
use Rattle.escrow_book.proofs.Accounts.{escrow_total}
use Rattle.escrow_book.proofs.Settlements.{at_settlement}
use Rattle.escrow_book.proofs.Carrying.{carried_payouts_most, carried_fits, moves_carried_within, settled_most, open_and_settled}
use Rattle.escrow_book.proofs.Totals.{deal_total, unsettled_part, owned_if_commit, owned_if_abort, spendable_and_held, each_covered}
use Rattle.escrow_book.proofs.Everybody.{everybody, everybody_is_all, everybody_has, one_within_all}

-- what is put under an unsettled deal is put under unsettled deals
put_under_open : (h : History) (d : Id) (x : List ℕ) → ended_here h d ≡ None → (c : Change) → escrow_total d x c ≤ unsettled_part h x c
put_under_open h d x running (Registered e parties) = omega arith
put_under_open h d x running (Escrowed e q y n) = at (same_id d e) refl
  where
    at : (b : Bool) → same_id d e ≡ b → cond (b && bytes_eq x y) n 0 ≤ cond (is_some (ended_here h e)) 0 (cond (bytes_eq x y) n 0)
    at true same =
        let open_too : ended_here h e ≡ None = ap (ended_here h) (sym (id_from_same d e same)) ∙ running in
        subst (λ (o : Option Outcome). cond (bytes_eq x y) n 0 ≤ cond (is_some o) 0 (cond (bytes_eq x y) n 0)) (sym open_too) (omega arith)
    at false other = omega arith
put_under_open h d x running (Transferred e from to y n) = omega arith
put_under_open h d x running (Paid from to y n) = omega arith
put_under_open h d x running (Settled e outcome) = omega arith

-- nothing is put under a settled deal
put_under_settled : (h : History) (c : Change) (d : Id) (x : List ℕ) (o : Outcome) → IsAccepted h c → settlement_of (with_change h c) d ≡ Some o → escrow_total d x c ≡ 0
put_under_settled h (Registered e parties) d x o a ended = refl
put_under_settled h (Escrowed e q y n) d x o a ended =
    let before : settlement_of h d ≡ Some o = sym (settlement_kept h (Escrowed e q y n) d refl) ∙ ended in
    ap (λ b. cond (b && bytes_eq x y) n 0) (apart_deals h d e o before (escrow_accepted h e q y n a).«open»)
put_under_settled h (Transferred e from to y n) d x o a ended = refl
put_under_settled h (Paid from to y n) d x o a ended = refl
put_under_settled h (Settled e outcome) d x o a ended = refl

module _ (rows : Base) (changes : List Change) (r : IsGrown (history rows changes)) where
  -- what is paid out of what is carried is what the settled deals hold at most
  carried_out_most : (x : List ℕ) (accounts : List Id) → are_different accounts ≡ true → sum_by (at_settlement (λ d o. sum_by (λ p. carried_payout rows.1 d o p x) accounts)) changes ≤ sum_by (at_settlement (λ d o. held_most rows.1 d x)) changes
  carried_out_most x accounts different = sum_le (at_settlement (λ d o. sum_by (λ p. carried_payout rows.1 d o p x) accounts)) (at_settlement (λ d o. held_most rows.1 d x)) changes (all_by_all (λ s. at_settlement (λ d o. sum_by (λ p. carried_payout rows.1 d o p x) accounts) s ≤ at_settlement (λ d o. held_most rows.1 d x) s) changes each)
    where
      each : (s : Change) → at_settlement (λ d o. sum_by (λ p. carried_payout rows.1 d o p x) accounts) s ≤ at_settlement (λ d o. held_most rows.1 d x) s
      each (Registered d parties) = omega arith
      each (Escrowed d q y n) = omega arith
      each (Transferred d from to y n) = omega arith
      each (Paid from to y n) = omega arith
      each (Settled d outcome) = carried_payouts_most rows.1 d x accounts outcome different

  pub free_within : (p : Id) (x : List ℕ) → free_of (history rows changes) p x ≤ greatest_amount
  free_within p x =
      let h : History = history rows changes in
      let its : AreItsAccounts h (everybody h p) = everybody_is_all h p in
      let one : free_of h p x ≤ sum_by (λ q. free_of h q x) (everybody h p) = one_within_all (λ q. free_of h q x) (everybody h p) p (everybody_has h p) in
      let all : sum_by (λ q. free_of h q x) (everybody h p) + sum_by (unsettled_part h x) changes ≡ total_of rows.0 x + sum_by (at_settlement (λ d o. sum_by (λ p. carried_payout rows.1 d o p x) (everybody h p))) changes = spendable_and_held rows changes r x (everybody h p) its in
      let out : sum_by (at_settlement (λ d o. sum_by (λ p. carried_payout rows.1 d o p x) (everybody h p))) changes ≤ sum_by (at_settlement (λ d o. held_most rows.1 d x)) changes = carried_out_most x (everybody h p) its.different in
      let most : sum_by (at_settlement (λ d o. held_most rows.1 d x)) changes ≤ sum_by (open_most rows.1 x) rows.1.deals = settled_most rows changes r x in
      let total : base_total rows.0 rows.1 x ≤ greatest_amount = r.good.total x in
      omega arith

  open_within : (d : Id) (x : List ℕ) → settlement_of (history rows changes) d ≡ None → held_most rows.1 d x + deal_total (history rows changes) d x ≤ greatest_amount
  open_within d x running =
      let h : History = history rows changes in
      let its : AreItsAccounts h (everybody h d) = everybody_is_all h d in
      let part : deal_total h d x ≤ sum_by (unsettled_part h x) changes = sum_le (escrow_total d x) (unsettled_part h x) changes (all_by_all (λ c. escrow_total d x c ≤ unsettled_part h x c) changes (put_under_open h d x (open_here h d running))) in
      let all : sum_by (λ q. free_of h q x) (everybody h d) + sum_by (unsettled_part h x) changes ≡ total_of rows.0 x + sum_by (at_settlement (λ e o. sum_by (λ p. carried_payout rows.1 e o p x) (everybody h d))) changes = spendable_and_held rows changes r x (everybody h d) its in
      let out : sum_by (at_settlement (λ e o. sum_by (λ p. carried_payout rows.1 e o p x) (everybody h d))) changes ≤ sum_by (at_settlement (λ e o. held_most rows.1 e x)) changes = carried_out_most x (everybody h d) its.different in
      let most : held_most rows.1 d x + sum_by (at_settlement (λ e o. held_most rows.1 e x)) changes ≤ sum_by (open_most rows.1 x) rows.1.deals = open_and_settled rows changes r x d running in
      let total : base_total rows.0 rows.1 x ≤ greatest_amount = r.good.total x in
      omega arith

deal_step : (rows : Base) (front : List Change) (c : Change) → IsGrown (history rows front) → ((d : Id) (x : List ℕ) → carried_outcome rows.1 d ≡ None → held_most rows.1 d x + deal_total (history rows front) d x ≤ greatest_amount) → IsAccepted (history rows front) c → (d : Id) (x : List ℕ) → carried_outcome rows.1 d ≡ None → held_most rows.1 d x + deal_total (history rows (front ++ c ∷ [])) d x ≤ greatest_amount
deal_step rows front c r before a d x opened = at (settlement_of (history rows (front ++ c ∷ [])) d) refl
  where
    at : (o : Option Outcome) → settlement_of (history rows (front ++ c ∷ [])) d ≡ o → held_most rows.1 d x + deal_total (history rows (front ++ c ∷ [])) d x ≤ greatest_amount
    at None running = open_within rows (front ++ c ∷ []) (grown_push (history rows front) c r a) d x running
    at (Some o) ended = omega (arith, sum_by_push (escrow_total d x) front c, put_under_settled (history rows front) c d x o a ended, before d x opened)

-- nothing is put under a deal at the beginning
deal_begins : (rows : Base) (r : IsGrown (history rows [])) (d : Id) (x : List ℕ) → carried_outcome rows.1 d ≡ None → held_most rows.1 d x + deal_total (history rows []) d x ≤ greatest_amount
deal_begins rows r d x opened = open_within rows [] r d x (ap (λ (o : Option Outcome). option_or o None) opened)

module _ (rows : Base) (changes : List Change) (r : IsGrown (history rows changes)) where
  deal_within : (d : Id) (x : List ℕ) → carried_outcome rows.1 d ≡ None → held_most rows.1 d x + deal_total (history rows changes) d x ≤ greatest_amount
  deal_within = by_steps rows (λ front. (d : Id) (x : List ℕ) → carried_outcome rows.1 d ≡ None → held_most rows.1 d x + deal_total (history rows front) d x ≤ greatest_amount) (deal_step rows) changes (deal_begins rows (record { good = r.good; accepted = tt })) r

  -- in a deal that is carried open, or isn't carried, the amounts are within the greatest one
  pub if_commit_open : (d p : Id) (x : List ℕ) → carried_outcome rows.1 d ≡ None → if_commit_of (history rows changes) d p x ≤ greatest_amount
  if_commit_open d p x opened =
      let h : History = history rows changes in
      let its : AreItsAccounts h (everybody h p) = everybody_is_all h p in
      let one : if_commit_of h d p x ≤ sum_by (λ q. if_commit_of h d q x) (everybody h p) = one_within_all (λ q. if_commit_of h d q x) (everybody h p) p (everybody_has h p) in
      let all : sum_by (λ q. if_commit_of h d q x) (everybody h p) ≡ sum_by (λ q. carried_commit rows.1 d q x) (everybody h p) + deal_total h d x = owned_if_commit h d (everybody h p) x its.different (each_covered rows changes r x (everybody h p) its d) (nothing_is_cut rows changes r) in
      let most : sum_by (λ q. carried_commit rows.1 d q x) (everybody h p) ≤ held_most rows.1 d x = carried_payouts_most rows.1 d x (everybody h p) Commit its.different in
      let total : held_most rows.1 d x + deal_total h d x ≤ greatest_amount = deal_within d x opened in
      omega arith

  pub if_abort_open : (d p : Id) (x : List ℕ) → carried_outcome rows.1 d ≡ None → if_abort_of (history rows changes) d p x ≤ greatest_amount
  if_abort_open d p x opened =
      let h : History = history rows changes in
      let its : AreItsAccounts h (everybody h p) = everybody_is_all h p in
      let one : if_abort_of h d p x ≤ sum_by (λ q. if_abort_of h d q x) (everybody h p) = one_within_all (λ q. if_abort_of h d q x) (everybody h p) p (everybody_has h p) in
      let all : sum_by (λ q. if_abort_of h d q x) (everybody h p) ≡ sum_by (λ q. carried_abort rows.1 d q x) (everybody h p) + deal_total h d x = owned_if_abort h d (everybody h p) x its.different (each_covered rows changes r x (everybody h p) its d) in
      let most : sum_by (λ q. carried_abort rows.1 d q x) (everybody h p) ≤ held_most rows.1 d x = carried_payouts_most rows.1 d x (everybody h p) Abort its.different in
      let total : held_most rows.1 d x + deal_total h d x ≤ greatest_amount = deal_within d x opened in
      omega arith

  -- in a deal that is carried as settled nothing moves
  settled_since : (d p : Id) (x : List ℕ) (o : Outcome) → carried_outcome rows.1 d ≡ Some o → (if_commit_of (history rows changes) d p x ≡ carried_commit rows.1 d p x) × (if_abort_of (history rows changes) d p x ≡ carried_abort rows.1 d p x)
  settled_since d p x o ended =
      by_steps rows (λ front. (if_commit_of (history rows front) d p x ≡ carried_commit rows.1 d p x) × (if_abort_of (history rows front) d p x ≡ carried_abort rows.1 d p x)) step changes (omega arith, omega arith) r
    where
      step : (front : List Change) (c : Change) → IsGrown (history rows front) → (if_commit_of (history rows front) d p x ≡ carried_commit rows.1 d p x) × (if_abort_of (history rows front) d p x ≡ carried_abort rows.1 d p x) → IsAccepted (history rows front) c → (if_commit_of (history rows (front ++ c ∷ [])) d p x ≡ carried_commit rows.1 d p x) × (if_abort_of (history rows (front ++ c ∷ [])) d p x ≡ carried_abort rows.1 d p x)
      step front c grown before a =
          let still = settled_is_still (history rows front) c d o a (ap (λ (i : Option Outcome). option_or i (ended_here (history rows front) d)) ended) in
          (if_commit_still (history rows front) c d p x still ∙ before.0, if_abort_still (history rows front) c d p x still ∙ before.1)

  -- each amount of a deal fits
  pub if_commit_within : (d p : Id) (x : List ℕ) → if_commit_of (history rows changes) d p x ≤ 18446744073709551615
  if_commit_within d p x = at (carried_outcome rows.1 d) refl
    where
      at : (o : Option Outcome) → carried_outcome rows.1 d ≡ o → if_commit_of (history rows changes) d p x ≤ 18446744073709551615
      at None opened = omega (arith, if_commit_open d p x opened)
      at (Some o) ended = omega (arith, (settled_since d p x o ended).0, (carried_fits (history rows changes) d p x r).0)

  pub if_abort_within : (d p : Id) (x : List ℕ) → if_abort_of (history rows changes) d p x ≤ 18446744073709551615
  if_abort_within d p x = at (carried_outcome rows.1 d) refl
    where
      at : (o : Option Outcome) → carried_outcome rows.1 d ≡ o → if_abort_of (history rows changes) d p x ≤ 18446744073709551615
      at None opened = omega (arith, if_abort_open d p x opened)
      at (Some o) ended = omega (arith, (settled_since d p x o ended).1, (carried_fits (history rows changes) d p x r).1)

-- a move is counted while the turn can count it
move_step : (h : History) (c : Change) (d p : Id) → IsAccepted h c → moves_of h d p ≤ greatest_turn → moves_of h d p + cond (is_move d p c) 1 0 ≤ greatest_turn
move_step h (Registered e parties) d p a within = omega arith
move_step h (Escrowed e q y n) d p a within = omega arith
move_step h (Transferred e from to y n) d p a within = at (same_id d e && same_id p from) refl
  where
    at : (b : Bool) → (same_id d e && same_id p from) ≡ b → moves_of h d p + cond b 1 0 ≤ greatest_turn
    at true same =
        let both = and_parts (same_id d e) (same_id p from) same in
        let there : moves_of h e from < greatest_turn = a.1 in
        let here : moves_of h d p < greatest_turn = subst (λ (i : Id). moves_of h i p < greatest_turn) (sym (id_from_same d e both.0)) (subst (λ (i : Id). moves_of h e i < greatest_turn) (sym (id_from_same p from both.1)) there) in
        omega arith
    at false other = omega arith
move_step h (Paid from to y n) d p a within = omega arith
move_step h (Settled e outcome) d p a within = omega arith

pub moves_within : (rows : Base) (changes : List Change) (d p : Id) → IsGrown (history rows changes) → moves_of (history rows changes) d p ≤ greatest_turn
moves_within rows changes d p r =
    by_steps rows (λ front. moves_of (history rows front) d p ≤ greatest_turn) (λ front c reached before a. omega (arith, sum_by_push (λ i. cond (is_move d p i) 1 0) front c, move_step (history rows front) c d p a before)) changes (omega (arith, moves_carried_within rows.1 d p r.good.moves)) r

row_within : (p : Id) (x : List ℕ) (row : Row) → row_amount p x row ≤ asset_amount x row
row_within p x row = at (same_id p row.0)
  where
    at : (b : Bool) → cond (b && bytes_eq x row.1) row.2 0 ≤ cond (bytes_eq x row.1) row.2 0
    at true = omega arith
    at false = omega arith

pub opening_within : (rows : List Row) (p : Id) (x : List ℕ) → total_of rows x ≤ greatest_amount → opening_of rows p x ≤ greatest_amount
opening_within rows p x total =
    let part : opening_of rows p x ≤ total_of rows x = sum_le (row_amount p x) (asset_amount x) rows (all_by_all (λ row. row_amount p x row ≤ asset_amount x row) rows (row_within p x)) in
    omega arith
