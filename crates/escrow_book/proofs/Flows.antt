-- The sums of the code are the free amount: what was escrowed in a settled deal has gone and come back.
use Rattle.std.proofs.Common.{◌≡◌, ℕ, ◌+◌, ◌-◌, ◌≤◌, Bool, true, false, ◌&&◌, cond, List, Option, Some, None, is_none, refl, ap, sym, ◌∙◌, arith}
use Rattle.std.specs.List.{sum_by}
use Rattle.std.specs.Str.{bytes_eq}
use Rattle.dh_base.specs.declared.id.Id.{Id}
use Rattle.dh_base.specs.declared.outcome.Outcome.{Outcome}
use Rattle.dh_base.specs.declared.outcome.Outcome.TheVariants.{Commit, Abort}
use Rattle.escrow_book.specs.declared.change.Change.{Change}
use Rattle.escrow_book.specs.declared.change.Change.TheVariants.{Registered, Escrowed, Transferred, Paid, Settled}
use Rattle.escrow_book.specs.Opening.{opening_of}
use Rattle.dh_base.specs.Ids.{same_id}
use Rattle.escrow_book.specs.History.{History, escrowed, received, given, if_commit_of, deal_came, deal_went, paid_to, paid_out, paid_from, put_up, free_came, free_went, free_of}
use Rattle.escrow_book.specs.Flow.{is_commit, if_committed, if_running, gained, lost, carried_out}
use Rattle.escrow_book.specs.Base.{Base, carried_commit}
use Rattle.escrow_book.specs.Kept.{ended_here, ended_by}
use Rattle.escrow_book.specs.Reached.{IsGrown}
use Rattle.escrow_book.proofs.Sums.{sum_same_all, sum_add}
use Rattle.escrow_book.proofs.Lookups.{worth}
use Rattle.escrow_book.proofs.Steps.{history}
use Rattle.escrow_book.proofs.Cut.{nothing_is_cut}
use Rattle.escrow_book.proofs.Settlements.{at_settlement, cond_and, settlements_of, settlements_none, settlements_swap}

-- what a change brings and takes, by how its deal has ended
abbrev pub gain_of : History → Id → List ℕ → Change → ℕ
gain_of h p x c = gained (ended_by h c) p x c + carried_out h.carried p x c

abbrev pub loss_of : History → Id → List ℕ → Change → ℕ
loss_of h p x c = lost (ended_by h c) p x c

-- the amount, where the deal commits
abbrev on_commit : ℕ → Outcome → ℕ
on_commit n Commit = n
on_commit n Abort = 0

-- what of a settled deal's changes counts: escrows always, and transfers where the deal commits
abbrev back : Id → List ℕ → Id → Outcome → Change → ℕ
back p x d o c = escrowed d p x c

abbrev won : Id → List ℕ → Id → Outcome → Change → ℕ
won p x d o c = on_commit (received d p x c) o

abbrev gone : Id → List ℕ → Id → Outcome → Change → ℕ
gone p x d o c = on_commit (given d p x c) o

-- the same by the change alone
abbrev back_by : History → Id → List ℕ → Change → ℕ
back_by h p x (Escrowed d party asset n) = cond (same_id p party && bytes_eq x asset) (worth (λ (o : Outcome). n) (ended_here h d)) 0
back_by h p x _ = 0

abbrev won_by : History → Id → List ℕ → Change → ℕ
won_by h p x (Transferred d from to asset n) = cond (same_id p to && bytes_eq x asset) (if_committed (ended_here h d) n) 0
won_by h p x _ = 0

abbrev gone_by : History → Id → List ℕ → Change → ℕ
gone_by h p x (Transferred d from to asset n) = cond (same_id p from && bytes_eq x asset) (if_committed (ended_here h d) n) 0
gone_by h p x _ = 0

commit_of_cond : (b : Bool) (n : ℕ) (o : Outcome) → on_commit (cond b n 0) o ≡ cond b (on_commit n o) 0
commit_of_cond true n o = refl
commit_of_cond false n Commit = refl
commit_of_cond false n Abort = refl

commit_worth : (b : Bool) (n : ℕ) (o : Option Outcome) → worth (λ (i : Outcome). cond b (on_commit n i) 0) o ≡ cond b (cond (is_commit o) n 0) 0
commit_worth true n None = refl
commit_worth true n (Some Commit) = refl
commit_worth true n (Some Abort) = refl
commit_worth false n None = refl
commit_worth false n (Some o) = refl

back_worth : (b : Bool) (n : ℕ) (o : Option Outcome) → worth (λ (i : Outcome). cond b n 0) o ≡ cond b (worth (λ (i : Outcome). n) o) 0
back_worth true n o = refl
back_worth false n None = refl
back_worth false n (Some o) = refl

module _ (rows : Base) (changes : List Change) (r : IsGrown (history rows changes)) (p : Id) (x : List ℕ) where
  each_back : (c : Change) → sum_by (at_settlement (λ d o. back p x d o c)) changes ≡ back_by (history rows changes) p x c
  each_back (Registered e parties) = settlements_none (λ d o. 0) changes (λ d o. refl)
  each_back (Escrowed e q y n) =
      settlements_of rows changes e (λ (o : Outcome). cond (same_id p q && bytes_eq x y) n 0) (λ d o. back p x d o (Escrowed e q y n)) r (λ d o. cond_and (same_id d e) (same_id p q && bytes_eq x y) n) ∙ back_worth (same_id p q && bytes_eq x y) n (ended_here (history rows changes) e)
  each_back (Transferred e from to y n) = settlements_none (λ d o. 0) changes (λ d o. refl)
  each_back (Paid from to y n) = settlements_none (λ d o. 0) changes (λ d o. refl)
  each_back (Settled e outcome) = settlements_none (λ d o. 0) changes (λ d o. refl)

  nothing : (d : Id) (o : Outcome) → on_commit 0 o ≡ 0
  nothing d Commit = refl
  nothing d Abort = refl

  committed : (d e : Id) (b : Bool) (n : ℕ) (o : Outcome) → on_commit (cond (same_id d e && b) n 0) o ≡ cond (same_id d e) (cond b (on_commit n o) 0) 0
  committed d e b n o = commit_of_cond (same_id d e && b) n o ∙ cond_and (same_id d e) b (on_commit n o)

  each_won : (c : Change) → sum_by (at_settlement (λ d o. won p x d o c)) changes ≡ won_by (history rows changes) p x c
  each_won (Registered e parties) = settlements_none (λ d o. on_commit 0 o) changes nothing
  each_won (Escrowed e q y n) = settlements_none (λ d o. on_commit 0 o) changes nothing
  each_won (Transferred e from to y n) =
      settlements_of rows changes e (λ (o : Outcome). cond (same_id p to && bytes_eq x y) (on_commit n o) 0) (λ d o. won p x d o (Transferred e from to y n)) r (λ d o. committed d e (same_id p to && bytes_eq x y) n o) ∙ commit_worth (same_id p to && bytes_eq x y) n (ended_here (history rows changes) e)
  each_won (Paid from to y n) = settlements_none (λ d o. on_commit 0 o) changes nothing
  each_won (Settled e outcome) = settlements_none (λ d o. on_commit 0 o) changes nothing

  each_gone : (c : Change) → sum_by (at_settlement (λ d o. gone p x d o c)) changes ≡ gone_by (history rows changes) p x c
  each_gone (Registered e parties) = settlements_none (λ d o. on_commit 0 o) changes nothing
  each_gone (Escrowed e q y n) = settlements_none (λ d o. on_commit 0 o) changes nothing
  each_gone (Transferred e from to y n) =
      settlements_of rows changes e (λ (o : Outcome). cond (same_id p from && bytes_eq x y) (on_commit n o) 0) (λ d o. gone p x d o (Transferred e from to y n)) r (λ d o. committed d e (same_id p from && bytes_eq x y) n o) ∙ commit_worth (same_id p from && bytes_eq x y) n (ended_here (history rows changes) e)
  each_gone (Paid from to y n) = settlements_none (λ d o. on_commit 0 o) changes nothing
  each_gone (Settled e outcome) = settlements_none (λ d o. on_commit 0 o) changes nothing

  -- what one settlement pays out
  one_settlement : (s : Change) → paid_out (history rows changes) p x s + at_settlement (λ d o. sum_by (gone p x d o) changes) s ≡ (at_settlement (λ d o. sum_by (back p x d o) changes) s + at_settlement (λ d o. sum_by (won p x d o) changes) s) + carried_out rows.1 p x s
  one_settlement (Registered d parties) = refl
  one_settlement (Escrowed d q y n) = refl
  one_settlement (Transferred d from to y n) = refl
  one_settlement (Paid from to y n) = refl
  one_settlement (Settled d Commit) =
      let within : deal_went (history rows changes) d p x ≤ deal_came (history rows changes) d p x = (nothing_is_cut rows changes r).in_deals d p x in
      let pays : if_commit_of (history rows changes) d p x + deal_went (history rows changes) d p x ≡ (sum_by (escrowed d p x) changes + sum_by (received d p x) changes) + carried_commit rows.1 d p x = omega arith in
      pays
  one_settlement (Settled d Abort) = omega arith

  -- what the settlements pay out, and what is given in committed deals, is what comes back and what is received in
  -- committed deals, and what was carried along of the deals
  paid_out_is : sum_by (paid_out (history rows changes) p x) changes + sum_by (gone_by (history rows changes) p x) changes ≡ (sum_by (back_by (history rows changes) p x) changes + sum_by (won_by (history rows changes) p x) changes) + sum_by (carried_out rows.1 p x) changes
  paid_out_is =
      let gone_all : sum_by (at_settlement (λ d o. sum_by (gone p x d o) changes)) changes ≡ sum_by (gone_by (history rows changes) p x) changes = settlements_swap (gone p x) changes changes ∙ sum_same_all (λ c. sum_by (at_settlement (λ d o. gone p x d o c)) changes) (gone_by (history rows changes) p x) changes each_gone in
      let back_all : sum_by (at_settlement (λ d o. sum_by (back p x d o) changes)) changes ≡ sum_by (back_by (history rows changes) p x) changes = settlements_swap (back p x) changes changes ∙ sum_same_all (λ c. sum_by (at_settlement (λ d o. back p x d o c)) changes) (back_by (history rows changes) p x) changes each_back in
      let won_all : sum_by (at_settlement (λ d o. sum_by (won p x d o) changes)) changes ≡ sum_by (won_by (history rows changes) p x) changes = settlements_swap (won p x) changes changes ∙ sum_same_all (λ c. sum_by (at_settlement (λ d o. won p x d o c)) changes) (won_by (history rows changes) p x) changes each_won in
      let each : sum_by (λ s. paid_out (history rows changes) p x s + at_settlement (λ d o. sum_by (gone p x d o) changes) s) changes ≡ sum_by (λ s. (at_settlement (λ d o. sum_by (back p x d o) changes) s + at_settlement (λ d o. sum_by (won p x d o) changes) s) + carried_out rows.1 p x s) changes = sum_same_all (λ s. paid_out (history rows changes) p x s + at_settlement (λ d o. sum_by (gone p x d o) changes) s) (λ s. (at_settlement (λ d o. sum_by (back p x d o) changes) s + at_settlement (λ d o. sum_by (won p x d o) changes) s) + carried_out rows.1 p x s) changes one_settlement in
      let left : sum_by (λ s. paid_out (history rows changes) p x s + at_settlement (λ d o. sum_by (gone p x d o) changes) s) changes ≡ sum_by (paid_out (history rows changes) p x) changes + sum_by (at_settlement (λ d o. sum_by (gone p x d o) changes)) changes = sum_add (paid_out (history rows changes) p x) (at_settlement (λ d o. sum_by (gone p x d o) changes)) changes in
      let outer : sum_by (λ s. (at_settlement (λ d o. sum_by (back p x d o) changes) s + at_settlement (λ d o. sum_by (won p x d o) changes) s) + carried_out rows.1 p x s) changes ≡ sum_by (λ s. at_settlement (λ d o. sum_by (back p x d o) changes) s + at_settlement (λ d o. sum_by (won p x d o) changes) s) changes + sum_by (carried_out rows.1 p x) changes = sum_add (λ s. at_settlement (λ d o. sum_by (back p x d o) changes) s + at_settlement (λ d o. sum_by (won p x d o) changes) s) (carried_out rows.1 p x) changes in
      let right : sum_by (λ s. at_settlement (λ d o. sum_by (back p x d o) changes) s + at_settlement (λ d o. sum_by (won p x d o) changes) s) changes ≡ sum_by (at_settlement (λ d o. sum_by (back p x d o) changes)) changes + sum_by (at_settlement (λ d o. sum_by (won p x d o) changes)) changes = sum_add (at_settlement (λ d o. sum_by (back p x d o) changes)) (at_settlement (λ d o. sum_by (won p x d o) changes)) changes in
      ap (λ n. sum_by (paid_out (history rows changes) p x) changes + n) (sym gone_all) ∙ (sym left ∙ (each ∙ (outer ∙ ap (λ n. n + sum_by (carried_out rows.1 p x) changes) (right ∙ (ap (λ n. n + sum_by (at_settlement (λ d o. sum_by (won p x d o) changes)) changes) back_all ∙ ap (λ n. sum_by (back_by (history rows changes) p x) changes + n) won_all)))))

-- a change brings what it pays and what is won by it
gained_is : (h : History) (p : Id) (x : List ℕ) (c : Change) → gain_of h p x c ≡ (paid_to p x c + won_by h p x c) + carried_out h.carried p x c
gained_is h p x (Registered e parties) = refl
gained_is h p x (Escrowed e q y n) = refl
gained_is h p x (Transferred e from to y n) = omega arith
gained_is h p x (Paid from to y n) = omega arith
gained_is h p x (Settled e outcome) = omega arith

kept_back : (b : Bool) (n : ℕ) (o : Option Outcome) → cond b (cond (is_none o) n 0) 0 + cond b (worth (λ (i : Outcome). n) o) 0 ≡ cond b n 0
kept_back true n None = omega arith
kept_back true n (Some o) = omega arith
kept_back false n o = omega arith

-- a change takes what it pays and puts up, less what comes back
lost_is : (h : History) (p : Id) (x : List ℕ) (c : Change) → loss_of h p x c + back_by h p x c ≡ (paid_from p x c + put_up p x c) + gone_by h p x c
lost_is h p x (Registered e parties) = refl
lost_is h p x (Escrowed e q y n) =
    let kept : cond (same_id p q && bytes_eq x y) (if_running (ended_here h e) n) 0 + cond (same_id p q && bytes_eq x y) (worth (λ (o : Outcome). n) (ended_here h e)) 0 ≡ cond (same_id p q && bytes_eq x y) n 0 = kept_back (same_id p q && bytes_eq x y) n (ended_here h e) in
    omega arith
lost_is h p x (Transferred e from to y n) = omega arith
lost_is h p x (Paid from to y n) = omega arith
lost_is h p x (Settled e outcome) = refl

module _ (rows : Base) (changes : List Change) (r : IsGrown (history rows changes)) (p : Id) (x : List ℕ) where
  -- the two ways to add up differ by the same on both sides
  balance : (opening_of rows.0 p x + sum_by (gain_of (history rows changes) p x) changes) + free_went (history rows changes) p x ≡ free_came (history rows changes) p x + sum_by (loss_of (history rows changes) p x) changes
  balance =
      let gains : sum_by (gain_of (history rows changes) p x) changes ≡ sum_by (λ c. (paid_to p x c + won_by (history rows changes) p x c) + carried_out rows.1 p x c) changes = sum_same_all (gain_of (history rows changes) p x) (λ c. (paid_to p x c + won_by (history rows changes) p x c) + carried_out rows.1 p x c) changes (gained_is (history rows changes) p x) in
      let carried_parts : sum_by (λ c. (paid_to p x c + won_by (history rows changes) p x c) + carried_out rows.1 p x c) changes ≡ sum_by (λ c. paid_to p x c + won_by (history rows changes) p x c) changes + sum_by (carried_out rows.1 p x) changes = sum_add (λ c. paid_to p x c + won_by (history rows changes) p x c) (carried_out rows.1 p x) changes in
      let gain_parts : sum_by (λ c. paid_to p x c + won_by (history rows changes) p x c) changes ≡ sum_by (paid_to p x) changes + sum_by (won_by (history rows changes) p x) changes = sum_add (paid_to p x) (won_by (history rows changes) p x) changes in
      let losses : sum_by (λ c. loss_of (history rows changes) p x c + back_by (history rows changes) p x c) changes ≡ sum_by (λ c. (paid_from p x c + put_up p x c) + gone_by (history rows changes) p x c) changes = sum_same_all (λ c. loss_of (history rows changes) p x c + back_by (history rows changes) p x c) (λ c. (paid_from p x c + put_up p x c) + gone_by (history rows changes) p x c) changes (lost_is (history rows changes) p x) in
      let loss_parts : sum_by (λ c. loss_of (history rows changes) p x c + back_by (history rows changes) p x c) changes ≡ sum_by (loss_of (history rows changes) p x) changes + sum_by (back_by (history rows changes) p x) changes = sum_add (loss_of (history rows changes) p x) (back_by (history rows changes) p x) changes in
      let spent : sum_by (λ c. (paid_from p x c + put_up p x c) + gone_by (history rows changes) p x c) changes ≡ sum_by (λ c. paid_from p x c + put_up p x c) changes + sum_by (gone_by (history rows changes) p x) changes = sum_add (λ c. paid_from p x c + put_up p x c) (gone_by (history rows changes) p x) changes in
      let spent_parts : sum_by (λ c. paid_from p x c + put_up p x c) changes ≡ sum_by (paid_from p x) changes + sum_by (put_up p x) changes = sum_add (paid_from p x) (put_up p x) changes in
      let out : sum_by (paid_out (history rows changes) p x) changes + sum_by (gone_by (history rows changes) p x) changes ≡ (sum_by (back_by (history rows changes) p x) changes + sum_by (won_by (history rows changes) p x) changes) + sum_by (carried_out rows.1 p x) changes = paid_out_is rows changes r p x in
      omega arith

  pub flow_within : sum_by (loss_of (history rows changes) p x) changes ≤ opening_of rows.0 p x + sum_by (gain_of (history rows changes) p x) changes
  flow_within =
      let within : free_went (history rows changes) p x ≤ free_came (history rows changes) p x = (nothing_is_cut rows changes r).outside p x in
      omega (arith, balance)

  pub flow_is_free : (opening_of rows.0 p x + sum_by (gain_of (history rows changes) p x) changes) - sum_by (loss_of (history rows changes) p x) changes ≡ free_of (history rows changes) p x
  flow_is_free =
      let within : free_went (history rows changes) p x ≤ free_came (history rows changes) p x = (nothing_is_cut rows changes r).outside p x in
      omega (arith, balance)
