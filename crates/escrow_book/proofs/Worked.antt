-- One small history, by computation: ann escrows 5 coins and hands them to ben, and the deal ends either way.
use Rattle.std.proofs.Common.{◌≡◌, ℕ, List, [], ◌∷◌, Some, None, codes, refl, arith}
use Rattle.dh_base.specs.declared.id.Id.{Id}
use Rattle.dh_base.specs.declared.outcome.Outcome.{Outcome}
use Rattle.dh_base.specs.declared.outcome.Outcome.TheVariants.{Commit, Abort}
use Rattle.escrow_book.specs.declared.change.Change.TheVariants.{Registered, Escrowed, Transferred, Settled}
use Rattle.escrow_book.specs.declared.fault.BookFault.TheVariants.{Short, WrongTurn, DealSettled}
use Rattle.escrow_book.specs.History.{History, with_change, if_abort_of, if_commit_of, moves_of, free_of}
use Rattle.escrow_book.specs.Refused.{escrow_refusal, transfer_refusal, settle_refusal}
use Rattle.escrow_book.specs.Reached.{IsReached, begun, started}

abbrev ann : Id
ann = record { 0 = 1 ∷ [] }

abbrev ben : Id
ben = record { 0 = 2 ∷ [] }

abbrev deal : Id
deal = record { 0 = 9 ∷ [] }

abbrev coin : List ℕ
coin = codes "coin"

abbrev opened : History
opened = with_change (started ((ann, coin, 5) ∷ [])) (Registered deal (ann ∷ ben ∷ []))

abbrev held : History
held = with_change opened (Escrowed deal ann coin 5)

abbrev handed : History
handed = with_change held (Transferred deal ann ben coin 5)

abbrev ended : Outcome → History
ended outcome = with_change handed (Settled deal outcome)

handed_reached : IsReached handed
handed_reached = record { whole = refl; good = refl; accepted = ((refl, refl), (refl, ((refl, omega arith), tt))) }

ben_owns_if_commit : if_commit_of handed deal ben coin ≡ 5
ben_owns_if_commit = refl

ann_owns_if_abort : if_abort_of handed deal ann coin ≡ 5
ann_owns_if_abort = refl

commit_pays_ben : free_of (ended Commit) ben coin ≡ 5
commit_pays_ben = refl

commit_leaves_ann : free_of (ended Commit) ann coin ≡ 0
commit_leaves_ann = refl

abort_returns_ann : free_of (ended Abort) ann coin ≡ 5
abort_returns_ann = refl

abort_leaves_ben : free_of (ended Abort) ben coin ≡ 0
abort_leaves_ben = refl

ann_has_moved : moves_of handed deal ann ≡ 1
ann_has_moved = refl

escrowed_is_spent : escrow_refusal held deal ann coin 1 ≡ Some (Short 0)
escrowed_is_spent = refl

turn_is_asked : transfer_refusal handed deal ann 0 ben coin 1 ≡ Some (WrongTurn 1)
turn_is_asked = refl

settled_is_settled : settle_refusal (ended Abort) deal ≡ Some (DealSettled Abort)
settled_is_settled = refl

-- a part of that book, which carries the deal after the transfer: ben owns there on commit what nobody gave him
abbrev part : History
part =
    begun [] (record {
      deals = record { deal = deal; parties = ann ∷ ben ∷ []; outcome = None } ∷ [];
      holds = record { deal = deal; account = ann; asset = coin; commit = 0; abort = 5 } ∷ record { deal = deal; account = ben; asset = coin; commit = 5; abort = 0 } ∷ [];
      moves = record { deal = deal; account = ann; moves = 1 } ∷ [];
    })

part_owns_as_much : if_commit_of part deal ben coin ≡ if_commit_of handed deal ben coin
part_owns_as_much = refl

part_aborts_as_well : if_abort_of part deal ann coin ≡ if_abort_of handed deal ann coin
part_aborts_as_well = refl

part_asks_the_turn : transfer_refusal part deal ann 0 ben coin 1 ≡ Some (WrongTurn 1)
part_asks_the_turn = refl

part_pays_ben : free_of (with_change part (Settled deal Commit)) ben coin ≡ 5
part_pays_ben = refl

part_returns_ann : free_of (with_change part (Settled deal Abort)) ann coin ≡ 5
part_returns_ann = refl
