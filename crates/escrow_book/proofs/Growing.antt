-- A transfer that nothing refuses makes a longer history that a book reaches.
use Rattle.std.proofs.Common.{◌≡◌, ℕ, ◌<◌, None, List, subst}
use Rattle.dh_base.specs.declared.id.Id.{Id}
use Rattle.escrow_book.specs.declared.change.Change.TheVariants.{Transferred}
use Rattle.escrow_book.specs.History.{History, with_change, moves_of}
use Rattle.escrow_book.specs.Base.{greatest_turn}
use Rattle.escrow_book.specs.Reached.{IsReached}
use Rattle.escrow_book.specs.Refused.{transfer_refusal}
use Rattle.escrow_book.proofs.Accepting.{turn_is}
use Rattle.escrow_book.proofs.Steps.{reached_push}

pub transfer_grows : (h : History) (d from : Id) (turn : ℕ) (to : Id) (x : List ℕ) (n : ℕ) → IsReached h → moves_of h d from < greatest_turn → transfer_refusal h d from turn to x n ≡ None → IsReached (with_change h (Transferred d from to x n))
transfer_grows h d from turn to x n r room free =
    reached_push h (Transferred d from to x n) r (subst (λ (k : ℕ). transfer_refusal h d from k to x n ≡ None) (turn_is h d from turn to x n free) free, room)
