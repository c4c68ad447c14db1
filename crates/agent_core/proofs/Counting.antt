-- How many texts of deals are not signed, deal by deal.
use Rattle.std.proofs.Common.{◌≡◌, ℕ, suc, ◌+◌, ◌-◌, ◌<◌, ◌≤◌, List, [], ◌∷◌, ◌++◌, length, take, get_or, refl, sym, ap, ◌∙◌, arith}
use Rattle.std.proofs.Math.Seq.{take-suc}
use Rattle.std.proofs.lemmas.List.Sums.{sum_by-append, sum_by-cons}
use Rattle.joined_deals.specs.DealTexts.{JoinedTold}
use Rattle.joined_deals.specs.Signed.{unsigned_of, unsigned_in}

pub unsigned_more : (signed : List (List ℕ)) (deals : List JoinedTold) (joined : JoinedTold) → unsigned_in signed (deals ++ joined ∷ []) ≡ unsigned_in signed deals + unsigned_of signed joined
unsigned_more signed deals joined = omega (arith, sum_by-append (unsigned_of signed) deals (joined ∷ []), sum_by-cons (unsigned_of signed) joined [])

take_next : (deals : List JoinedTold) (k : ℕ) (joined : JoinedTold) → k < length deals → joined ≡ get_or deals k joined → take (k + 1) deals ≡ take k deals ++ joined ∷ []
take_next deals k joined h is = ap (λ (n : ℕ). take n deals) (let next : k + 1 ≡ suc k = omega arith in next) ∙ (take-suc deals k joined h ∙ ap (λ (j : JoinedTold). take k deals ++ j ∷ []) (sym is))

-- the keys that are left once one deal more is counted
pub fewer_left : (signed : List (List ℕ)) (deals : List JoinedTold) (k free left : ℕ) (joined : JoinedTold) → k < length deals → joined ≡ get_or deals k joined → left ≡ free - unsigned_in signed (take k deals) → left - unsigned_of signed joined ≡ free - unsigned_in signed (take (k + 1) deals)
fewer_left signed deals k free left joined h is so_far =
    let more = ap (unsigned_in signed) (take_next deals k joined h is) in
    omega (arith, more, unsigned_more signed (take k deals) joined, so_far)
