-- What is carried of deals is within the total of the base, whichever end the deals take.
use Rattle.std.proofs.Common.{◌≡◌, ℕ, ◌+◌, ◌<◌, ◌≤◌, Bool, true, false, ◌&&◌, cond, List, [], ◌∷◌, Option, Some, None, is_some, refl, ap, sym, ◌∙◌, subst, arith}
use Rattle.std.specs.List.{sum_by, find, AllByRecursion}
use Rattle.std.specs.Option.{option_map_or, option_and_then}
use Rattle.std.specs.Str.{bytes_eq}
use Rattle.std.proofs.Math.Nat.{le-max_left, le-max_right, max-le}
use Rattle.std.proofs.lemmas.List.Sums.{sum_by-cons}
use Rattle.dh_base.specs.declared.id.Id.{Id}
use Rattle.dh_base.specs.declared.outcome.Outcome.{Outcome}
use Rattle.dh_base.specs.declared.outcome.Outcome.TheVariants.{Commit, Abort}
use Rattle.escrow_book.specs.declared.change.Change.{Change}
use Rattle.escrow_book.specs.declared.change.Change.TheVariants.{Registered, Escrowed, Transferred, Paid, Settled}
use Rattle.escrow_book.specs.declared.known_deal.KnownDeal.{KnownDeal}
use Rattle.escrow_book.specs.declared.row.HoldRow.{HoldRow}
use Rattle.escrow_book.specs.declared.row.MovesRow.{MovesRow}
use Rattle.dh_base.specs.Ids.{same_id}
use Rattle.escrow_book.specs.Base.{Base, Carried, find_deal, carried_outcome, is_hold, is_moves, carried_commit, carried_abort, carried_payout, carried_moves, hold_commit, hold_abort, held_most, open_most, greatest_turn}
use Rattle.escrow_book.specs.History.{History, settlement_of, is_in}
use Rattle.escrow_book.specs.Reached.{IsAccepted, IsGrown, are_different}
use Rattle.escrow_book.specs.Kept.{ended_here}
use Rattle.escrow_book.proofs.Sums.{sum_le, sum_zero, sum_add, sum_same_all, all_by_all, all_weaker, all_append}
use Rattle.dh_base.proofs.SameIds.{id_from_same}
use Rattle.escrow_book.proofs.Lookups.{worth, carried_open, open_here}
use Rattle.escrow_book.proofs.Accepting.{settle_accepted}
use Rattle.escrow_book.proofs.Accounts.{nobody, somebody_where}
use Rattle.escrow_book.proofs.Steps.{history, by_steps}
use Rattle.escrow_book.proofs.Settlements.{at_settlement, settlements_of, settlements_swap}

-- one account of different ones counts at most once
somebody_most : (accounts : List Id) (q : Id) (a b : Bool) (n : ℕ) → are_different accounts ≡ true → sum_by (λ p. cond (a && (same_id p q && b)) n 0) accounts ≤ cond (a && b) n 0
somebody_most accounts q a b n different = at (is_in q accounts) refl
  where
    fewer : (a s b : Bool) → cond (a && (s && b)) n 0 ≤ cond s n 0
    fewer true true true = omega arith
    fewer true true false = omega arith
    fewer true false b = omega arith
    fewer false s b = omega arith

    at : (i : Bool) → is_in q accounts ≡ i → sum_by (λ p. cond (a && (same_id p q && b)) n 0) accounts ≤ cond (a && b) n 0
    at true within = omega (arith, somebody_where accounts q a b n different (λ _. within))
    at false out = omega (arith, sum_le (λ p. cond (a && (same_id p q && b)) n 0) (λ p. cond (same_id p q) n 0) accounts (all_by_all (λ p. cond (a && (same_id p q && b)) n 0 ≤ cond (same_id p q) n 0) accounts (λ p. fewer a (same_id p q) b)), nobody accounts q n out)

first_or_rest : (f : HoldRow → ℕ) (b : Bool) (row : HoldRow) (rest : Option HoldRow) → option_map_or f (cond b (Some row) rest) 0 ≤ cond b (f row) 0 + option_map_or f rest 0
first_or_rest f true row rest = omega arith
first_or_rest f false row rest = omega arith

-- different accounts are carried together with no more than the rows hold
firsts_within : (f : HoldRow → ℕ) (holds : List HoldRow) (d : Id) (x : List ℕ) (accounts : List Id) → are_different accounts ≡ true → sum_by (λ p. option_map_or f (find (is_hold d p x) holds) 0) accounts ≤ sum_by (λ row. cond (same_id d row.deal && bytes_eq x row.asset) (f row) 0) holds
firsts_within f [] d x accounts different = omega (arith, sum_zero accounts)
firsts_within f (row ∷ holds) d x accounts different =
    let here : ℕ = cond (same_id d row.deal && bytes_eq x row.asset) (f row) 0 in
    let each : sum_by (λ p. option_map_or f (cond (is_hold d p x row) (Some row) (find (is_hold d p x) holds)) 0) accounts ≤ sum_by (λ p. cond (is_hold d p x row) (f row) 0 + option_map_or f (find (is_hold d p x) holds) 0) accounts = sum_le (λ p. option_map_or f (cond (is_hold d p x row) (Some row) (find (is_hold d p x) holds)) 0) (λ p. cond (is_hold d p x row) (f row) 0 + option_map_or f (find (is_hold d p x) holds) 0) accounts (all_by_all (λ p. option_map_or f (cond (is_hold d p x row) (Some row) (find (is_hold d p x) holds)) 0 ≤ cond (is_hold d p x row) (f row) 0 + option_map_or f (find (is_hold d p x) holds) 0) accounts (λ p. first_or_rest f (is_hold d p x row) row (find (is_hold d p x) holds))) in
    let parts : sum_by (λ p. cond (is_hold d p x row) (f row) 0 + option_map_or f (find (is_hold d p x) holds) 0) accounts ≡ sum_by (λ p. cond (is_hold d p x row) (f row) 0) accounts + sum_by (λ p. option_map_or f (find (is_hold d p x) holds) 0) accounts = sum_add (λ p. cond (is_hold d p x row) (f row) 0) (λ p. option_map_or f (find (is_hold d p x) holds) 0) accounts in
    let one : sum_by (λ p. cond (is_hold d p x row) (f row) 0) accounts ≤ cond (same_id d row.deal && bytes_eq x row.asset) (f row) 0 = somebody_most accounts row.account (same_id d row.deal) (bytes_eq x row.asset) (f row) different in
    omega (arith, each, parts, one, firsts_within f holds d x accounts different, sum_by-cons (λ (row : HoldRow). cond (same_id d row.deal && bytes_eq x row.asset) (f row) 0) row holds)

pub carried_payouts_most : (base : Carried) (d : Id) (x : List ℕ) (accounts : List Id) (o : Outcome) → are_different accounts ≡ true → sum_by (λ p. carried_payout base d o p x) accounts ≤ held_most base d x
carried_payouts_most base d x accounts Commit different = omega (arith, firsts_within (λ (row : HoldRow). row.commit) base.holds d x accounts different, le-max_left (sum_by (hold_commit d x) base.holds) (sum_by (hold_abort d x) base.holds))
carried_payouts_most base d x accounts Abort different = omega (arith, firsts_within (λ (row : HoldRow). row.abort) base.holds d x accounts different, le-max_right (sum_by (hold_commit d x) base.holds) (sum_by (hold_abort d x) base.holds))

-- the row that is found is as each row is
pub found_is : {X : Type 0} (P : X → Type 0) (test : X → Bool) (xs : List X) (y : X) → AllByRecursion P xs → find test xs ≡ Some y → P y
found_is P test [] y all e = absurd cc
found_is P test (x ∷ xs) y all e = at (test x) e (λ found. found_is P test xs y all.1 found)
  where
    at : (b : Bool) → cond b (Some x) (find test xs) ≡ Some y → (find test xs ≡ Some y → P y) → P y
    at true found later = let one : x ≡ y = cc in subst P one all.0
    at false found later = later found

pub carried_fits : (h : History) (d p : Id) (x : List ℕ) → IsGrown h → (carried_commit h.carried d p x ≤ 18446744073709551615) × (carried_abort h.carried d p x ≤ 18446744073709551615)
carried_fits h d p x r = at (find (is_hold d p x) h.carried.holds) refl
  where
    at : (o : Option HoldRow) → find (is_hold d p x) h.carried.holds ≡ o → (option_map_or (λ (row : HoldRow). row.commit) o 0 ≤ 18446744073709551615) × (option_map_or (λ (row : HoldRow). row.abort) o 0 ≤ 18446744073709551615)
    at None e = (omega arith, omega arith)
    at (Some row) e =
        let fits = found_is (λ (row : HoldRow). (row.commit < 18446744073709551616) × (row.abort < 18446744073709551616)) (is_hold d p x) h.carried.holds row r.good.fits e in
        (omega (arith, fits.0), omega (arith, fits.1))

pub moves_carried_within : (base : Carried) (d p : Id) → AllByRecursion (λ (row : MovesRow). row.moves < greatest_turn) base.moves → carried_moves base d p ≤ greatest_turn
moves_carried_within base d p all = at (find (is_moves d p) base.moves) refl
  where
    at : (o : Option MovesRow) → find (is_moves d p) base.moves ≡ o → option_map_or (λ (row : MovesRow). row.moves) o 0 ≤ greatest_turn
    at None e = omega arith
    at (Some row) e = omega (arith, found_is (λ (row : MovesRow). row.moves < greatest_turn) (is_moves d p) base.moves row all e)

-- a deal that isn't carried holds nothing
pub holds_nothing : (deals : List KnownDeal) (f : HoldRow → ℕ) (d : Id) (x : List ℕ) (holds : List HoldRow) → find_deal deals d ≡ None → AllByRecursion (λ (row : HoldRow). is_some (find_deal deals row.deal) ≡ true) holds → sum_by (λ row. cond (same_id d row.deal && bytes_eq x row.asset) (f row) 0) holds ≡ 0
holds_nothing deals f d x [] missing all = refl
holds_nothing deals f d x (row ∷ holds) missing all =
    let none : cond (same_id d row.deal && bytes_eq x row.asset) (f row) 0 ≡ 0 = at (same_id d row.deal) refl in
    omega (arith, none, sum_by-cons (λ (row : HoldRow). cond (same_id d row.deal && bytes_eq x row.asset) (f row) 0) row holds, holds_nothing deals f d x holds missing all.1)
  where
    at : (b : Bool) → same_id d row.deal ≡ b → cond (b && bytes_eq x row.asset) (f row) 0 ≡ 0
    at true same =
        let there : is_some (find_deal deals d) ≡ true = ap (λ i. is_some (find_deal deals i)) (id_from_same d row.deal same) ∙ all.0 in
        let clash : false ≡ true = sym (ap is_some missing) ∙ there in
        absurd cc
    at false other = refl

-- what is found counts in the sum
found_within : (test : KnownDeal → Bool) (n : KnownDeal → ℕ) (deals : List KnownDeal) (k : KnownDeal) → find test deals ≡ Some k → (test k ≡ true) × (n k ≤ sum_by (λ i. cond (test i) (n i) 0) deals)
found_within test n [] k e = absurd cc
found_within test n (i ∷ deals) k e = at (test i) refl e (found_within test n deals k)
  where
    at : (b : Bool) → test i ≡ b → cond b (Some i) (find test deals) ≡ Some k → (find test deals ≡ Some k → (test k ≡ true) × (n k ≤ sum_by (λ i. cond (test i) (n i) 0) deals)) → (test k ≡ true) × (n k ≤ sum_by (λ i. cond (test i) (n i) 0) (i ∷ deals))
    at true passes found later =
        let one : i ≡ k = cc in
        let here : cond (test i) (n i) 0 ≡ n k = ap (λ b. cond b (n i) 0) passes ∙ ap n one in
        (subst (λ (j : KnownDeal). test j ≡ true) one passes, omega (arith, here, sum_by-cons (λ i. cond (test i) (n i) 0) i deals))
    at false fails found later =
        let rest = later found in
        (rest.0, omega (arith, rest.1, sum_by-cons (λ i. cond (test i) (n i) 0) i deals))

-- what an open deal holds at most is among what the carried deals hold at most
most_known : (base : Carried) (d : Id) (x : List ℕ) → AllByRecursion (λ (row : HoldRow). is_some (find_deal base.deals row.deal) ≡ true) base.holds → carried_outcome base d ≡ None → held_most base d x ≤ sum_by (λ k. cond (same_id d k.deal) (open_most base x k) 0) base.deals
most_known base d x known running = at (find_deal base.deals d) refl running
  where
    at : (o : Option KnownDeal) → find_deal base.deals d ≡ o → option_and_then (λ (known : KnownDeal). known.outcome) o ≡ None → held_most base d x ≤ sum_by (λ k. cond (same_id d k.deal) (open_most base x k) 0) base.deals
    at None missing e =
        let commits : sum_by (hold_commit d x) base.holds ≡ 0 = holds_nothing base.deals (λ (row : HoldRow). row.commit) d x base.holds missing known in
        let aborts : sum_by (hold_abort d x) base.holds ≡ 0 = holds_nothing base.deals (λ (row : HoldRow). row.abort) d x base.holds missing known in
        let none : held_most base d x ≤ 0 = max-le {a = sum_by (hold_commit d x) base.holds} {b = sum_by (hold_abort d x) base.holds} {k = 0} (omega arith) (omega arith) in
        omega arith
    at (Some k) there e =
        let found = found_within (λ k. same_id d k.deal) (open_most base x) base.deals k there in
        let one : held_most base d x ≡ open_most base x k = ap (λ i. held_most base i x) (id_from_same d k.deal found.0) ∙ sym (ap (λ o. cond (is_some o) 0 (held_most base k.deal x)) e) in
        omega (arith, one, found.1)

-- a deal that is settled was carried open
abbrev SettlesOpen : Carried → Change → Type 0
SettlesOpen base (Settled d outcome) = carried_outcome base d ≡ None
SettlesOpen base _ = Unit {0}

settles_open : (h : History) (c : Change) → IsAccepted h c → SettlesOpen h.carried c
settles_open h (Registered d parties) a = tt
settles_open h (Escrowed d p x n) a = tt
settles_open h (Transferred d from to x n) a = tt
settles_open h (Paid from to x n) a = tt
settles_open h (Settled d outcome) a = carried_open h d (settle_accepted h d a).«open»

module _ (rows : Base) (changes : List Change) (r : IsGrown (history rows changes)) (x : List ℕ) where
  all_open : AllByRecursion (SettlesOpen rows.1) changes
  all_open =
      by_steps rows (λ front. AllByRecursion (SettlesOpen rows.1) front) (λ front c grown before a. all_append (SettlesOpen rows.1) front (c ∷ []) before (settles_open (history rows front) c a, tt)) changes tt r

  each_most : (s : Change) → SettlesOpen rows.1 s → at_settlement (λ d o. held_most rows.1 d x) s ≤ at_settlement (λ d o. sum_by (λ k. cond (same_id d k.deal) (open_most rows.1 x k) 0) rows.1.deals) s
  each_most (Registered d parties) opened = omega arith
  each_most (Escrowed d p y n) opened = omega arith
  each_most (Transferred d from to y n) opened = omega arith
  each_most (Paid from to y n) opened = omega arith
  each_most (Settled d outcome) opened = most_known rows.1 d x r.good.known opened

  by_deals : sum_by (at_settlement (λ d o. held_most rows.1 d x)) changes ≤ sum_by (λ k. worth (λ (o : Outcome). open_most rows.1 x k) (ended_here (history rows changes) k.deal)) rows.1.deals
  by_deals =
      let each : sum_by (at_settlement (λ d o. held_most rows.1 d x)) changes ≤ sum_by (at_settlement (λ d o. sum_by (λ k. cond (same_id d k.deal) (open_most rows.1 x k) 0) rows.1.deals)) changes = sum_le (at_settlement (λ d o. held_most rows.1 d x)) (at_settlement (λ d o. sum_by (λ k. cond (same_id d k.deal) (open_most rows.1 x k) 0) rows.1.deals)) changes (all_weaker (SettlesOpen rows.1) (λ s. at_settlement (λ d o. held_most rows.1 d x) s ≤ at_settlement (λ d o. sum_by (λ k. cond (same_id d k.deal) (open_most rows.1 x k) 0) rows.1.deals) s) changes each_most all_open) in
      let swapped : sum_by (at_settlement (λ d o. sum_by (λ k. cond (same_id d k.deal) (open_most rows.1 x k) 0) rows.1.deals)) changes ≡ sum_by (λ k. sum_by (at_settlement (λ d o. cond (same_id d k.deal) (open_most rows.1 x k) 0)) changes) rows.1.deals = settlements_swap (λ d o k. cond (same_id d k.deal) (open_most rows.1 x k) 0) changes rows.1.deals in
      let once : sum_by (λ k. sum_by (at_settlement (λ d o. cond (same_id d k.deal) (open_most rows.1 x k) 0)) changes) rows.1.deals ≡ sum_by (λ k. worth (λ (o : Outcome). open_most rows.1 x k) (ended_here (history rows changes) k.deal)) rows.1.deals = sum_same_all (λ k. sum_by (at_settlement (λ d o. cond (same_id d k.deal) (open_most rows.1 x k) 0)) changes) (λ k. worth (λ (o : Outcome). open_most rows.1 x k) (ended_here (history rows changes) k.deal)) rows.1.deals (λ k. settlements_of rows changes k.deal (λ (o : Outcome). open_most rows.1 x k) (λ d o. cond (same_id d k.deal) (open_most rows.1 x k) 0) r (λ d o. refl)) in
      omega arith

  worth_at_most : (n : ℕ) (o : Option Outcome) → worth (λ (i : Outcome). n) o ≤ n
  worth_at_most n None = omega arith
  worth_at_most n (Some o) = omega arith

  -- what the settled deals hold at most is within what the carried deals hold at most
  pub settled_most : sum_by (at_settlement (λ d o. held_most rows.1 d x)) changes ≤ sum_by (open_most rows.1 x) rows.1.deals
  settled_most = omega (arith, by_deals, sum_le (λ k. worth (λ (o : Outcome). open_most rows.1 x k) (ended_here (history rows changes) k.deal)) (open_most rows.1 x) rows.1.deals (all_by_all (λ k. worth (λ (o : Outcome). open_most rows.1 x k) (ended_here (history rows changes) k.deal) ≤ open_most rows.1 x k) rows.1.deals (λ k. worth_at_most (open_most rows.1 x k) (ended_here (history rows changes) k.deal))))

  -- and so together with what one open deal holds at most
  pub open_and_settled : (d : Id) → settlement_of (history rows changes) d ≡ None → held_most rows.1 d x + sum_by (at_settlement (λ d o. held_most rows.1 d x)) changes ≤ sum_by (open_most rows.1 x) rows.1.deals
  open_and_settled d running =
      let one : held_most rows.1 d x ≤ sum_by (λ k. cond (same_id d k.deal) (open_most rows.1 x k) 0) rows.1.deals = most_known rows.1 d x r.good.known (carried_open (history rows changes) d running) in
      let both : sum_by (λ k. cond (same_id d k.deal) (open_most rows.1 x k) 0 + worth (λ (o : Outcome). open_most rows.1 x k) (ended_here (history rows changes) k.deal)) rows.1.deals ≡ sum_by (λ k. cond (same_id d k.deal) (open_most rows.1 x k) 0) rows.1.deals + sum_by (λ k. worth (λ (o : Outcome). open_most rows.1 x k) (ended_here (history rows changes) k.deal)) rows.1.deals = sum_add (λ k. cond (same_id d k.deal) (open_most rows.1 x k) 0) (λ k. worth (λ (o : Outcome). open_most rows.1 x k) (ended_here (history rows changes) k.deal)) rows.1.deals in
      let within : sum_by (λ k. cond (same_id d k.deal) (open_most rows.1 x k) 0 + worth (λ (o : Outcome). open_most rows.1 x k) (ended_here (history rows changes) k.deal)) rows.1.deals ≤ sum_by (open_most rows.1 x) rows.1.deals = sum_le (λ k. cond (same_id d k.deal) (open_most rows.1 x k) 0 + worth (λ (o : Outcome). open_most rows.1 x k) (ended_here (history rows changes) k.deal)) (open_most rows.1 x) rows.1.deals (all_by_all (λ k. cond (same_id d k.deal) (open_most rows.1 x k) 0 + worth (λ (o : Outcome). open_most rows.1 x k) (ended_here (history rows changes) k.deal) ≤ open_most rows.1 x k) rows.1.deals (λ k. at k (same_id d k.deal) refl)) in
      omega (arith, one, both, within, by_deals)
    where
      at : (k : KnownDeal) (b : Bool) → same_id d k.deal ≡ b → cond b (open_most rows.1 x k) 0 + worth (λ (o : Outcome). open_most rows.1 x k) (ended_here (history rows changes) k.deal) ≤ open_most rows.1 x k
      at k true same =
          let open_too : ended_here (history rows changes) k.deal ≡ None = ap (ended_here (history rows changes)) (sym (id_from_same d k.deal same)) ∙ open_here (history rows changes) d running in
          let none : worth (λ (o : Outcome). open_most rows.1 x k) (ended_here (history rows changes) k.deal) ≡ 0 = ap (worth (λ (o : Outcome). open_most rows.1 x k)) open_too in
          omega (arith, none)
      at k false other = omega (arith, worth_at_most (open_most rows.1 x k) (ended_here (history rows changes) k.deal))
