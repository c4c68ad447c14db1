-- What went from an account is at most what came to it.
use Rattle.std.proofs.Common.{◌≡◌, ℕ, ◌+◌, ◌-◌, ◌<◌, ◌≤◌, Bool, true, false, ◌&&◌, cond, List, refl, arith}
use Rattle.std.specs.Str.{bytes_eq}
use Rattle.dh_base.specs.declared.id.Id.{Id}
use Rattle.escrow_book.specs.declared.change.Change.{Change}
use Rattle.escrow_book.specs.declared.change.Change.TheVariants.{Registered, Escrowed, Transferred, Paid, Settled}
use Rattle.dh_base.specs.Ids.{same_id}
use Rattle.escrow_book.specs.Base.{Base}
use Rattle.escrow_book.specs.History.{History, with_change, given, deal_came, deal_went, if_commit_of, paid_from, put_up, free_came, free_went, free_of}
use Rattle.escrow_book.specs.Reached.{IsAccepted, IsGrown}
use Rattle.escrow_book.specs.Conserved.{NothingIsCut}
use Rattle.escrow_book.proofs.Same.{at_same_pair, at_same_three}
use Rattle.escrow_book.proofs.Accepting.{escrow_accepted, transfer_accepted, pay_accepted}
use Rattle.escrow_book.proofs.Growth.{deal_came_push, deal_went_push, free_came_push, free_went_push}
use Rattle.escrow_book.proofs.Steps.{history, by_steps}

-- who spends no more than is held can spend it
spend : (b : Bool) (n came went : ℕ) → went ≤ came → 0 < n → (b ≡ true → n ≤ came - went) → went + cond b n 0 ≤ came
spend true n came went within above held = omega (arith, held refl)
spend false n came went within above held = omega arith

gives_within : (h : History) (c : Change) (d p : Id) (x : List ℕ) → IsAccepted h c → deal_went h d p x ≤ deal_came h d p x → deal_went h d p x + given d p x c ≤ deal_came h d p x
gives_within h (Registered e parties) d p x a within = omega arith
gives_within h (Escrowed e q y n) d p x a within = omega arith
gives_within h (Transferred e from to y n) d p x a within =
    let t = transfer_accepted h e from _ to y n a.0 in
    spend (same_id d e && (same_id p from && bytes_eq x y)) n (deal_came h d p x) (deal_went h d p x) within t.above (λ same. at_same_three d e p from x y (λ d p x. n ≤ if_commit_of h d p x) same t.held)
gives_within h (Paid from to y n) d p x a within = omega arith
gives_within h (Settled e outcome) d p x a within = omega arith

spends_within : (h : History) (c : Change) (p : Id) (x : List ℕ) → IsAccepted h c → free_went h p x ≤ free_came h p x → free_went h p x + (paid_from p x c + put_up p x c) ≤ free_came h p x
spends_within h (Registered e parties) p x a within = omega arith
spends_within h (Escrowed e q y n) p x a within =
    let t = escrow_accepted h e q y n a in
    let spent : free_went h p x + cond (same_id p q && bytes_eq x y) n 0 ≤ free_came h p x = spend (same_id p q && bytes_eq x y) n (free_came h p x) (free_went h p x) within t.above (λ same. at_same_pair p q x y (λ p x. n ≤ free_of h p x) same t.held) in
    omega arith
spends_within h (Transferred e from to y n) p x a within = omega arith
spends_within h (Paid from to y n) p x a within =
    let t = pay_accepted h from to y n a in
    let spent : free_went h p x + cond (same_id p from && bytes_eq x y) n 0 ≤ free_came h p x = spend (same_id p from && bytes_eq x y) n (free_came h p x) (free_went h p x) within t.above (λ same. at_same_pair p from x y (λ p x. n ≤ free_of h p x) same t.held) in
    omega arith
spends_within h (Settled e outcome) p x a within = omega arith

cut_push : (h : History) (c : Change) → IsAccepted h c → NothingIsCut h → NothingIsCut (with_change h c)
cut_push h c a before = record {
  in_deals = λ d p x. omega (arith, deal_came_push h c d p x, deal_went_push h c d p x, gives_within h c d p x a (before.in_deals d p x));
  outside = λ p x. omega (arith, free_came_push h c p x a, free_went_push h c p x, spends_within h c p x a (before.outside p x));
}

pub nothing_is_cut : (rows : Base) (changes : List Change) → IsGrown (history rows changes) → NothingIsCut (history rows changes)
nothing_is_cut rows changes r =
    by_steps rows (λ front. NothingIsCut (history rows front)) (λ front c reached before a. cut_push (history rows front) c a before) changes (record { in_deals = λ d p x. omega arith; outside = λ p x. omega arith }) r
