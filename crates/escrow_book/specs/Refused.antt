-- The first refusal of a call, in the order in which refusals are examined.
use Rattle.std.specs.Prelude.{ℕ, ◌≡◌, ◌||◌, ◌==◌, nat_lt, if◌then◌else◌, Option, Some, None, List, [], ◌∷◌}
use Rattle.std.specs.Option.{option_map, option_or}
use Rattle.dh_base.specs.declared.id.Id.{Id}
use Rattle.escrow_book.specs.declared.fault.BookFault.{BookFault}
use Rattle.escrow_book.specs.declared.fault.BookFault.TheVariants.{UnknownDeal, NotAParty, DealSettled, WrongTurn, ZeroOrSelf, Short, NoMemory}
use Rattle.dh_base.specs.Ids.{same_id}
use Rattle.escrow_book.specs.History.{History, is_known, is_party, settlement_of, moves_of, if_commit_of, free_of}

-- the first refusal of the list
abbrev pub first_of : List (Option BookFault) → Option BookFault
first_of [] = None
first_of (refusal ∷ rest) = option_or refusal (first_of rest)

abbrev pub unknown_deal : History → Id → Option BookFault
unknown_deal history deal = if is_known history deal then None else Some UnknownDeal

abbrev pub not_a_party : History → Id → Id → Option BookFault
not_a_party history deal party =
    if is_party history deal party then None else Some (NotAParty party)

abbrev pub deal_settled : History → Id → Option BookFault
deal_settled history deal = option_map DealSettled (settlement_of history deal)

-- the turn isn't the number of the party's moves so far
abbrev pub wrong_turn : History → Id → Id → ℕ → Option BookFault
wrong_turn history deal party turn =
    if turn == moves_of history deal party
    then None else Some (WrongTurn (moves_of history deal party))

abbrev pub zero : ℕ → Option BookFault
zero amount = if amount == 0 then Some ZeroOrSelf else None

abbrev pub zero_or_self : ℕ → Id → Id → Option BookFault
zero_or_self amount from to = if (amount == 0) || same_id from to then Some ZeroOrSelf else None

-- what is held is below the amount
abbrev pub short : ℕ → ℕ → Option BookFault
short held amount = if nat_lt held amount then Some (Short held) else None

abbrev pub escrow_refusal : History → Id → Id → List ℕ → ℕ → Option BookFault
escrow_refusal history deal party asset amount =
    first_of (unknown_deal history deal ∷ not_a_party history deal party ∷ deal_settled history deal
    ∷ zero amount ∷ short (free_of history party asset) amount ∷ [])

abbrev pub transfer_refusal : History → Id → Id → ℕ → Id → List ℕ → ℕ → Option BookFault
transfer_refusal history deal from turn to asset amount =
    first_of (unknown_deal history deal ∷ not_a_party history deal from
    ∷ not_a_party history deal to ∷ deal_settled history deal
    ∷ wrong_turn history deal from turn ∷ zero_or_self amount from to
    ∷ short (if_commit_of history deal from asset) amount ∷ [])

abbrev pub pay_refusal : History → Id → Id → List ℕ → ℕ → Option BookFault
pay_refusal history from to asset amount =
    first_of (zero_or_self amount from to ∷ short (free_of history from asset) amount ∷ [])

abbrev pub settle_refusal : History → Id → Option BookFault
settle_refusal history deal = first_of (unknown_deal history deal ∷ deal_settled history deal ∷ [])

-- The fault is the refusal. Want of memory may come in place of any answer.
abbrev pub IsRefusal : BookFault → Option BookFault → Type 0
IsRefusal NoMemory refusal = Unit {0}
IsRefusal fault refusal = refusal ≡ Some fault
