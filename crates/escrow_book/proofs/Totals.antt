-- What all accounts own together.
use Rattle.std.proofs.Common.{◌≡◌, ℕ, ◌+◌, Bool, true, false, ◌&&◌, cond, List, [], ◌∷◌, Option, Some, None, is_some, refl, ap, sym, ◌∙◌, subst, arith}
use Rattle.std.specs.List.{sum_by, list_all, AllByRecursion}
use Rattle.std.specs.Str.{bytes_eq}
use Rattle.std.proofs.lemmas.Bool.{and_parts}
use Rattle.dh_base.specs.declared.id.Id.{Id}
use Rattle.dh_base.specs.declared.outcome.Outcome.{Outcome}
use Rattle.dh_base.specs.declared.outcome.Outcome.TheVariants.{Commit, Abort}
use Rattle.escrow_book.specs.declared.change.Change.{Change}
use Rattle.escrow_book.specs.declared.change.Change.TheVariants.{Registered, Escrowed, Transferred, Paid, Settled}
use Rattle.escrow_book.specs.Opening.{Row, opening_of, total_of}
use Rattle.dh_base.specs.Ids.{same_id}
use Rattle.escrow_book.specs.Base.{Base, Carried, nothing_carried, carried_commit, carried_abort, carried_payout}
use Rattle.escrow_book.specs.Kept.{ended_here}
use Rattle.escrow_book.specs.History.{History, registration, parties_of, settlement_of, escrowed, received, given, if_abort_of, if_commit_of, deal_came, deal_went, payout_of, paid_to, paid_out, paid_from, put_up, free_came, free_went, free_of}
use Rattle.escrow_book.specs.Reached.{IsGrown, are_different}
use Rattle.escrow_book.specs.Conserved.{NothingIsCut, AreItsAccounts, IsConserved, named, are_in, held_in, held_of}
use Rattle.escrow_book.proofs.Sums.{sum_same, sum_same_all, sum_zero, sum_add, sum_swap, all_weaker, all_by_all}
use Rattle.dh_base.proofs.SameIds.{id_from_same, same_id-swap}
use Rattle.escrow_book.proofs.Lookups.{worth}
use Rattle.escrow_book.proofs.Steps.{history}
use Rattle.escrow_book.proofs.Once.{registered_once}
use Rattle.escrow_book.proofs.Settlements.{at_settlement, cond_and, settlements_of, settlements_none, settlements_swap, settlements_add}
use Rattle.escrow_book.proofs.Cut.{nothing_is_cut}
use Rattle.escrow_book.proofs.Accounts.{IsCovered, escrow_total, transfer_total, put_total, pay_total, over_changes, all_escrowed, all_received, all_given, all_put_up, all_paid_to, all_paid_from, all_opening, covered_by_names}
use Rattle.escrow_book.proofs.Known.{FitsDeal, all_fit, covered_by_parties}

-- what was put under the deal in all
abbrev pub deal_total : History → Id → List ℕ → ℕ
deal_total h d x = sum_by (escrow_total d x) h.changes

-- in either case the accounts own together what they are carried with and what was put under the deal
module _ (h : History) (d : Id) (accounts : List Id) (x : List ℕ) (different : are_different accounts ≡ true) (covered : AllByRecursion (IsCovered accounts d) h.changes) where
  all_put : sum_by (λ p. sum_by (escrowed d p x) h.changes) accounts ≡ deal_total h d x
  all_put = over_changes (λ p. escrowed d p x) (escrow_total d x) accounts h.changes (all_weaker (IsCovered accounts d) (λ c. sum_by (λ p. escrowed d p x c) accounts ≡ escrow_total d x c) h.changes (all_escrowed accounts different d x) covered)

  pub owned_if_abort : sum_by (λ p. if_abort_of h d p x) accounts ≡ sum_by (λ p. carried_abort h.carried d p x) accounts + deal_total h d x
  owned_if_abort = omega (arith, sum_add (λ p. carried_abort h.carried d p x) (λ p. sum_by (escrowed d p x) h.changes) accounts, all_put)

  all_got : sum_by (λ p. sum_by (received d p x) h.changes) accounts ≡ sum_by (transfer_total d x) h.changes
  all_got = over_changes (λ p. received d p x) (transfer_total d x) accounts h.changes (all_weaker (IsCovered accounts d) (λ c. sum_by (λ p. received d p x c) accounts ≡ transfer_total d x c) h.changes (all_received accounts different d x) covered)

  all_gave : sum_by (λ p. deal_went h d p x) accounts ≡ sum_by (transfer_total d x) h.changes
  all_gave = over_changes (λ p. given d p x) (transfer_total d x) accounts h.changes (all_weaker (IsCovered accounts d) (λ c. sum_by (λ p. given d p x c) accounts ≡ transfer_total d x c) h.changes (all_given accounts different d x) covered)

  pub owned_if_commit : NothingIsCut h → sum_by (λ p. if_commit_of h d p x) accounts ≡ sum_by (λ p. carried_commit h.carried d p x) accounts + deal_total h d x
  owned_if_commit cut =
      let whole : sum_by (λ p. if_commit_of h d p x + deal_went h d p x) accounts ≡ sum_by (λ p. deal_came h d p x) accounts = sum_same_all (λ p. if_commit_of h d p x + deal_went h d p x) (λ p. deal_came h d p x) accounts (λ p. omega (arith, cut.in_deals d p x)) in
      omega (
        arith,
        whole,
        sum_add (λ p. if_commit_of h d p x) (λ p. deal_went h d p x) accounts,
        sum_add (λ p. carried_commit h.carried d p x) (λ p. sum_by (escrowed d p x) h.changes + sum_by (received d p x) h.changes) accounts,
        sum_add (λ p. sum_by (escrowed d p x) h.changes) (λ p. sum_by (received d p x) h.changes) accounts,
        all_put,
        all_got,
        all_gave,
      )

  pub owned_payout : NothingIsCut h → (o : Outcome) → sum_by (λ p. payout_of h d o p x) accounts ≡ sum_by (λ p. carried_payout h.carried d o p x) accounts + deal_total h d x
  owned_payout cut Commit = owned_if_commit cut
  owned_payout cut Abort = owned_if_abort

-- what was put under settled deals, and under others
abbrev pub settled_part : History → List ℕ → Change → ℕ
settled_part h x (Escrowed e party asset n) = worth (λ (o : Outcome). cond (bytes_eq x asset) n 0) (ended_here h e)
settled_part h x _ = 0

abbrev pub unsettled_part : History → List ℕ → Change → ℕ
unsettled_part h x (Escrowed e party asset n) = cond (is_some (ended_here h e)) 0 (cond (bytes_eq x asset) n 0)
unsettled_part h x _ = 0

parts_are_whole : (h : History) (x : List ℕ) (c : Change) → settled_part h x c + unsettled_part h x c ≡ put_total x c
parts_are_whole h x (Registered e parties) = omega arith
parts_are_whole h x (Escrowed e q y n) = at (ended_here h e)
  where
    at : (o : Option Outcome) → worth (λ (i : Outcome). cond (bytes_eq x y) n 0) o + cond (is_some o) 0 (cond (bytes_eq x y) n 0) ≡ cond (bytes_eq x y) n 0
    at None = omega arith
    at (Some o) = omega arith
parts_are_whole h x (Transferred e from to y n) = omega arith
parts_are_whole h x (Paid from to y n) = omega arith
parts_are_whole h x (Settled e outcome) = omega arith

settled_parts : (rows : Base) (changes : List Change) (x : List ℕ) → IsGrown (history rows changes) → (c : Change) → sum_by (at_settlement (λ d o. escrow_total d x c)) changes ≡ settled_part (history rows changes) x c
settled_parts rows changes x r (Registered e parties) = settlements_none (λ d o. 0) changes (λ d o. refl)
settled_parts rows changes x r (Escrowed e q y n) =
    settlements_of rows changes e (λ (o : Outcome). cond (bytes_eq x y) n 0) (λ d o. escrow_total d x (Escrowed e q y n)) r (λ d o. cond_and (same_id d e) (bytes_eq x y) n)
settled_parts rows changes x r (Transferred e from to y n) = settlements_none (λ d o. 0) changes (λ d o. refl)
settled_parts rows changes x r (Paid from to y n) = settlements_none (λ d o. 0) changes (λ d o. refl)
settled_parts rows changes x r (Settled e outcome) = settlements_none (λ d o. 0) changes (λ d o. refl)

-- the settlements pay out what was put under settled deals
settled_sum : (rows : Base) (changes : List Change) (x : List ℕ) → IsGrown (history rows changes) → sum_by (at_settlement (λ d o. deal_total (history rows changes) d x)) changes ≡ sum_by (settled_part (history rows changes) x) changes
settled_sum rows changes x r =
    settlements_swap (λ d o. escrow_total d x) changes changes ∙ sum_same_all (λ c. sum_by (at_settlement (λ d o. escrow_total d x c)) changes) (settled_part (history rows changes) x) changes (settled_parts rows changes x r)

-- a registration counts for each escrow of its deal, while the deal isn't settled
abbrev held_pair : History → List ℕ → Change → Change → ℕ
held_pair h x (Registered d parties) c = cond (is_some (ended_here h d)) 0 (escrow_total d x c)
held_pair h x _ c = 0

zero_or : (b : Bool) (n : ℕ) → n ≡ 0 → cond b 0 n ≡ 0
zero_or true n e = refl
zero_or false n e = e

held_pair_none : (h : History) (x : List ℕ) (c : Change) → ((d : Id) → escrow_total d x c ≡ 0) → (s : Change) → held_pair h x s c ≡ 0
held_pair_none h x c none (Registered d parties) = zero_or (is_some (ended_here h d)) (escrow_total d x c) (none d)
held_pair_none h x c none (Escrowed d p z m) = refl
held_pair_none h x c none (Transferred d from to z m) = refl
held_pair_none h x c none (Paid from to z m) = refl
held_pair_none h x c none (Settled d outcome) = refl

no_held_pairs : (h : History) (x : List ℕ) (c : Change) (changes : List Change) → ((d : Id) → escrow_total d x c ≡ 0) → sum_by (λ s. held_pair h x s c) changes ≡ 0
no_held_pairs h x c changes none = sum_same_all (λ s. held_pair h x s c) (λ s. 0) changes (held_pair_none h x c none) ∙ sum_zero changes

held_pair_is : (h : History) (x : List ℕ) (e q : Id) (y : List ℕ) (n : ℕ) (s : Change) → held_pair h x s (Escrowed e q y n) ≡ worth (λ (parties : List Id). unsettled_part h x (Escrowed e q y n)) (registration e s)
held_pair_is h x e q y n (Registered d parties) = at (same_id e d) refl
  where
    at : (b : Bool) → same_id e d ≡ b → held_pair h x (Registered d parties) (Escrowed e q y n) ≡ worth (λ (others : List Id). unsettled_part h x (Escrowed e q y n)) (cond b (Some parties) None)
    at true same =
        ap (λ i. cond (is_some (ended_here h i)) 0 (cond (same_id d e && bytes_eq x y) n 0)) (sym (id_from_same e d same)) ∙ ap (λ b. cond (is_some (ended_here h e)) 0 (cond (b && bytes_eq x y) n 0)) (same_id-swap d e ∙ same)
    at false other = zero_or (is_some (ended_here h d)) (cond (same_id d e && bytes_eq x y) n 0) (ap (λ b. cond (b && bytes_eq x y) n 0) (same_id-swap d e ∙ other))
held_pair_is h x e q y n (Escrowed d p z m) = refl
held_pair_is h x e q y n (Transferred d from to z m) = refl
held_pair_is h x e q y n (Paid from to z m) = refl
held_pair_is h x e q y n (Settled d outcome) = refl

module _ (opening : List Row) (changes : List Change) (r : IsGrown (history (opening, nothing_carried) changes)) (x : List ℕ) where
  -- what the registrations of unsettled deals count is what was put under unsettled deals
  held_pairs : (c : Change) → FitsDeal (history (opening, nothing_carried) changes) c → sum_by (λ s. held_pair (history (opening, nothing_carried) changes) x s c) changes ≡ unsettled_part (history (opening, nothing_carried) changes) x c
  held_pairs (Registered e parties) f = no_held_pairs (history (opening, nothing_carried) changes) x (Registered e parties) changes (λ d. refl)
  held_pairs (Escrowed e q y n) f =
      sum_same_all (λ s. held_pair (history (opening, nothing_carried) changes) x s (Escrowed e q y n)) (λ s. worth (λ (parties : List Id). unsettled_part (history (opening, nothing_carried) changes) x (Escrowed e q y n)) (registration e s)) changes (held_pair_is (history (opening, nothing_carried) changes) x e q y n) ∙ (registered_once (opening, nothing_carried) changes e r (λ (parties : List Id). unsettled_part (history (opening, nothing_carried) changes) x (Escrowed e q y n)) ∙ ap (worth (λ (parties : List Id). unsettled_part (history (opening, nothing_carried) changes) x (Escrowed e q y n))) f.1)
  held_pairs (Transferred e from to y n) f = no_held_pairs (history (opening, nothing_carried) changes) x (Transferred e from to y n) changes (λ d. refl)
  held_pairs (Paid from to y n) f = no_held_pairs (history (opening, nothing_carried) changes) x (Paid from to y n) changes (λ d. refl)
  held_pairs (Settled e outcome) f = no_held_pairs (history (opening, nothing_carried) changes) x (Settled e outcome) changes (λ d. refl)

  pub held_pair_sum : sum_by (λ s. sum_by (held_pair (history (opening, nothing_carried) changes) x s) changes) changes ≡ sum_by (unsettled_part (history (opening, nothing_carried) changes) x) changes
  held_pair_sum =
      sum_swap (held_pair (history (opening, nothing_carried) changes) x) changes changes ∙ sum_same (λ c. sum_by (λ s. held_pair (history (opening, nothing_carried) changes) x s c) changes) (unsettled_part (history (opening, nothing_carried) changes) x) changes (all_weaker (FitsDeal (history (opening, nothing_carried) changes)) (λ c. sum_by (λ s. held_pair (history (opening, nothing_carried) changes) x s c) changes ≡ unsettled_part (history (opening, nothing_carried) changes) x c) changes held_pairs (all_fit (opening, nothing_carried) changes r))

-- what parties own together in an unsettled deal is what was put under it
held_unless : (opening : List Row) (changes : List Change) (owned : Id → Id → ℕ) (x : List ℕ) → ((d : Id) (parties : List Id) → parties_of (history (opening, nothing_carried) changes) d ≡ Some parties → are_different parties ≡ true → sum_by (owned d) parties ≡ deal_total (history (opening, nothing_carried) changes) d x)
    → (s : Change) → FitsDeal (history (opening, nothing_carried) changes) s → held_in (history (opening, nothing_carried) changes) owned s ≡ sum_by (held_pair (history (opening, nothing_carried) changes) x s) changes
held_unless opening changes owned x deal (Registered d parties) f = at (is_some (settlement_of (history (opening, nothing_carried) changes) d))
  where
    at : (b : Bool) → cond b 0 (sum_by (owned d) parties) ≡ sum_by (λ c. cond b 0 (escrow_total d x c)) changes
    at true = sym (sum_zero changes)
    at false = deal d parties f.0 f.1
held_unless opening changes owned x deal (Escrowed d p z m) f = sym (sum_zero changes)
held_unless opening changes owned x deal (Transferred d from to z m) f = sym (sum_zero changes)
held_unless opening changes owned x deal (Paid from to z m) f = sym (sum_zero changes)
held_unless opening changes owned x deal (Settled d outcome) f = sym (sum_zero changes)

module _ (opening : List Row) (changes : List Change) (r : IsGrown (history (opening, nothing_carried) changes)) (x : List ℕ) where
  covered : (d : Id) (parties : List Id) → parties_of (history (opening, nothing_carried) changes) d ≡ Some parties → AllByRecursion (IsCovered parties d) changes
  covered d parties known = all_weaker (FitsDeal (history (opening, nothing_carried) changes)) (IsCovered parties d) changes (λ c. covered_by_parties (history (opening, nothing_carried) changes) d parties c known) (all_fit (opening, nothing_carried) changes r)

  held_sum : (owned : Id → Id → ℕ) → ((d : Id) (parties : List Id) → parties_of (history (opening, nothing_carried) changes) d ≡ Some parties → are_different parties ≡ true → sum_by (owned d) parties ≡ deal_total (history (opening, nothing_carried) changes) d x) → held_of (history (opening, nothing_carried) changes) owned ≡ sum_by (unsettled_part (history (opening, nothing_carried) changes) x) changes
  held_sum owned deal =
      sum_same (held_in (history (opening, nothing_carried) changes) owned) (λ s. sum_by (held_pair (history (opening, nothing_carried) changes) x s) changes) changes (all_weaker (FitsDeal (history (opening, nothing_carried) changes)) (λ s. held_in (history (opening, nothing_carried) changes) owned s ≡ sum_by (held_pair (history (opening, nothing_carried) changes) x s) changes) changes (held_unless opening changes owned x deal) (all_fit (opening, nothing_carried) changes r)) ∙ held_pair_sum opening changes r x

  held_if_abort : held_of (history (opening, nothing_carried) changes) (λ d p. if_abort_of (history (opening, nothing_carried) changes) d p x) ≡ sum_by (unsettled_part (history (opening, nothing_carried) changes) x) changes
  held_if_abort = held_sum (λ d p. if_abort_of (history (opening, nothing_carried) changes) d p x) (λ d parties known different. omega (arith, owned_if_abort (history (opening, nothing_carried) changes) d parties x different (covered d parties known), sum_zero parties))

  held_if_commit : held_of (history (opening, nothing_carried) changes) (λ d p. if_commit_of (history (opening, nothing_carried) changes) d p x) ≡ sum_by (unsettled_part (history (opening, nothing_carried) changes) x) changes
  held_if_commit = held_sum (λ d p. if_commit_of (history (opening, nothing_carried) changes) d p x) (λ d parties known different. omega (arith, owned_if_commit (history (opening, nothing_carried) changes) d parties x different (covered d parties known) (nothing_is_cut (opening, nothing_carried) changes r), sum_zero parties))

module _ (rows : Base) (changes : List Change) (r : IsGrown (history rows changes)) (x : List ℕ) (accounts : List Id) (its : AreItsAccounts (history rows changes) accounts) where
  each_named : AllByRecursion (λ c. are_in (named c) accounts ≡ true) changes
  each_named = from_all changes its.of_changes
    where
      from_all : (cs : List Change) → list_all (λ change. are_in (named change) accounts) cs ≡ true → AllByRecursion (λ c. are_in (named c) accounts ≡ true) cs
      from_all [] e = tt
      from_all (c ∷ cs) e =
          let both = and_parts (are_in (named c) accounts) (list_all (λ change. are_in (named change) accounts) cs) e in
          (both.0, from_all cs both.1)

  pub each_covered : (d : Id) → AllByRecursion (IsCovered accounts d) changes
  each_covered d = all_weaker (λ c. are_in (named c) accounts ≡ true) (IsCovered accounts d) changes (covered_by_names accounts d) each_named

  paid_out_total : (s : Change) → sum_by (λ p. paid_out (history rows changes) p x s) accounts ≡ at_settlement (λ d o. sum_by (λ p. carried_payout rows.1 d o p x) accounts + deal_total (history rows changes) d x) s
  paid_out_total (Registered d parties) = sum_zero accounts
  paid_out_total (Escrowed d q y n) = sum_zero accounts
  paid_out_total (Transferred d from to y n) = sum_zero accounts
  paid_out_total (Paid from to y n) = sum_zero accounts
  paid_out_total (Settled d outcome) = owned_payout (history rows changes) d accounts x its.different (each_covered d) (nothing_is_cut rows changes r) outcome

  -- what all accounts can spend, and what was put under unsettled deals
  pub spendable_and_held : sum_by (λ p. free_of (history rows changes) p x) accounts + sum_by (unsettled_part (history rows changes) x) changes ≡ total_of rows.0 x + sum_by (at_settlement (λ d o. sum_by (λ p. carried_payout rows.1 d o p x) accounts)) changes
  spendable_and_held =
      let h : History = history rows changes in
      let cut : NothingIsCut h = nothing_is_cut rows changes r in
      let whole : sum_by (λ p. free_of h p x + free_went h p x) accounts ≡ sum_by (λ p. free_came h p x) accounts = sum_same_all (λ p. free_of h p x + free_went h p x) (λ p. free_came h p x) accounts (λ p. omega (arith, cut.outside p x)) in
      let apart : sum_by (λ p. free_of h p x + free_went h p x) accounts ≡ sum_by (λ p. free_of h p x) accounts + sum_by (λ p. free_went h p x) accounts = sum_add (λ p. free_of h p x) (λ p. free_went h p x) accounts in
      let went : sum_by (λ p. free_went h p x) accounts ≡ sum_by (λ p. sum_by (paid_from p x) changes) accounts + sum_by (λ p. sum_by (put_up p x) changes) accounts = sum_add (λ p. sum_by (paid_from p x) changes) (λ p. sum_by (put_up p x) changes) accounts in
      let came : sum_by (λ p. free_came h p x) accounts ≡ sum_by (λ p. opening_of rows.0 p x) accounts + sum_by (λ p. sum_by (paid_to p x) changes + sum_by (paid_out h p x) changes) accounts = sum_add (λ p. opening_of rows.0 p x) (λ p. sum_by (paid_to p x) changes + sum_by (paid_out h p x) changes) accounts in
      let paid : sum_by (λ p. sum_by (paid_to p x) changes + sum_by (paid_out h p x) changes) accounts ≡ sum_by (λ p. sum_by (paid_to p x) changes) accounts + sum_by (λ p. sum_by (paid_out h p x) changes) accounts = sum_add (λ p. sum_by (paid_to p x) changes) (λ p. sum_by (paid_out h p x) changes) accounts in
      let opened : sum_by (λ p. opening_of rows.0 p x) accounts ≡ total_of rows.0 x = all_opening accounts its.different rows.0 x its.of_rows in
      let to : sum_by (λ p. sum_by (paid_to p x) changes) accounts ≡ sum_by (pay_total x) changes = over_changes (λ p. paid_to p x) (pay_total x) accounts changes (all_weaker (λ c. are_in (named c) accounts ≡ true) (λ c. sum_by (λ p. paid_to p x c) accounts ≡ pay_total x c) changes (all_paid_to accounts its.different x) each_named) in
      let from : sum_by (λ p. sum_by (paid_from p x) changes) accounts ≡ sum_by (pay_total x) changes = over_changes (λ p. paid_from p x) (pay_total x) accounts changes (all_weaker (λ c. are_in (named c) accounts ≡ true) (λ c. sum_by (λ p. paid_from p x c) accounts ≡ pay_total x c) changes (all_paid_from accounts its.different x) each_named) in
      let put : sum_by (λ p. sum_by (put_up p x) changes) accounts ≡ sum_by (put_total x) changes = over_changes (λ p. put_up p x) (put_total x) accounts changes (all_weaker (λ c. are_in (named c) accounts ≡ true) (λ c. sum_by (λ p. put_up p x c) accounts ≡ put_total x c) changes (all_put_up accounts its.different x) each_named) in
      let out : sum_by (λ p. sum_by (paid_out h p x) changes) accounts ≡ sum_by (at_settlement (λ d o. sum_by (λ p. carried_payout rows.1 d o p x) accounts + deal_total h d x)) changes = over_changes (λ p. paid_out h p x) (at_settlement (λ d o. sum_by (λ p. carried_payout rows.1 d o p x) accounts + deal_total h d x)) accounts changes (all_by_all (λ s. sum_by (λ p. paid_out h p x s) accounts ≡ at_settlement (λ d o. sum_by (λ p. carried_payout rows.1 d o p x) accounts + deal_total h d x) s) changes paid_out_total) in
      let apart_out : sum_by (at_settlement (λ d o. sum_by (λ p. carried_payout rows.1 d o p x) accounts + deal_total h d x)) changes ≡ sum_by (at_settlement (λ d o. sum_by (λ p. carried_payout rows.1 d o p x) accounts)) changes + sum_by (at_settlement (λ d o. deal_total h d x)) changes = settlements_add (λ d o. sum_by (λ p. carried_payout rows.1 d o p x) accounts) (λ d o. deal_total h d x) changes in
      let settled : sum_by (at_settlement (λ d o. deal_total h d x)) changes ≡ sum_by (settled_part h x) changes = settled_sum rows changes x r in
      let parts : sum_by (λ c. settled_part h x c + unsettled_part h x c) changes ≡ sum_by (put_total x) changes = sum_same_all (λ c. settled_part h x c + unsettled_part h x c) (put_total x) changes (parts_are_whole h x) in
      let split : sum_by (λ c. settled_part h x c + unsettled_part h x c) changes ≡ sum_by (settled_part h x) changes + sum_by (unsettled_part h x) changes = sum_add (settled_part h x) (unsettled_part h x) changes in
      omega arith

module _ (opening : List Row) (changes : List Change) (r : IsGrown (history (opening, nothing_carried) changes)) (x : List ℕ) (accounts : List Id) (its : AreItsAccounts (history (opening, nothing_carried) changes) accounts) where
  -- a whole book's accounts own together what there was at the opening
  pub whole_sum : sum_by (λ p. free_of (history (opening, nothing_carried) changes) p x) accounts + sum_by (unsettled_part (history (opening, nothing_carried) changes) x) changes ≡ total_of opening x
  whole_sum =
      let none : sum_by (at_settlement (λ d o. sum_by (λ p. carried_payout nothing_carried d o p x) accounts)) changes ≡ 0 = settlements_none (λ d o. sum_by (λ p. carried_payout nothing_carried d o p x) accounts) changes no_payout in
      omega (arith, none, spendable_and_held (opening, nothing_carried) changes r x accounts its)
    where
      no_payout : (d : Id) (o : Outcome) → sum_by (λ p. carried_payout nothing_carried d o p x) accounts ≡ 0
      no_payout d Commit = sum_zero accounts
      no_payout d Abort = sum_zero accounts

  whole_is_conserved : IsConserved (history (opening, nothing_carried) changes) accounts x
  whole_is_conserved = record {
    if_commit = ap (λ n. sum_by (λ p. free_of (history (opening, nothing_carried) changes) p x) accounts + n) (held_if_commit opening changes r x) ∙ whole_sum;
    if_abort = ap (λ n. sum_by (λ p. free_of (history (opening, nothing_carried) changes) p x) accounts + n) (held_if_abort opening changes r x) ∙ whole_sum;
  }

pub is_conserved : (h : History) (accounts : List Id) (x : List ℕ) → h.carried ≡ nothing_carried → IsGrown h → AreItsAccounts h accounts → IsConserved h accounts x
is_conserved h accounts x whole =
    subst (λ (base : Carried). IsGrown (history (h.opening, base) h.changes) → AreItsAccounts (history (h.opening, base) h.changes) accounts → IsConserved (history (h.opening, base) h.changes) accounts x) (sym whole) (λ r its. whole_is_conserved h.opening h.changes r x accounts its)
