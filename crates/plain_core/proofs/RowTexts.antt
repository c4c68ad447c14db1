-- The rows of a kind from the amounts of a book.
use Rattle.std.proofs.Common.{◌≡◌, ℕ, List, ap, ap₂, ◌∙◌}
use Rattle.dh_base.specs.declared.id.Id.{Id}
use Rattle.escrow_book.specs.History.{History, free_of, if_commit_of, if_abort_of}
use Rattle.plain_core.specs.declared.tables.Rows.TheVariants.{Free, Held}
use Rattle.plain_script.specs.Ids.{plain_id}
use Rattle.plain_core.specs.Tables.{free_row, hold_row, row_text}

pub free_same : (h : History) (asset party : List ℕ) (account : Id) (n : ℕ) → account ≡ plain_id party → n ≡ free_of h account asset → free_row asset party n ≡ row_text Free h asset party
free_same h asset party account n same amount = ap (free_row asset party) (amount ∙ ap (λ (a : Id). free_of h a asset) same)

pub held_same : (h : History) (deal asset party : List ℕ) (id account : Id) (m n : ℕ) → id ≡ plain_id deal → account ≡ plain_id party → m ≡ if_commit_of h id account asset → n ≡ if_abort_of h id account asset → hold_row deal asset party m n ≡ row_text (Held deal) h asset party
held_same h deal asset party id account m n same_deal same_party commit abort =
    ap₂ (hold_row deal asset party) (commit ∙ ap₂ (λ (d a : Id). if_commit_of h d a asset) same_deal same_party) (abort ∙ ap₂ (λ (d a : Id). if_abort_of h d a asset) same_deal same_party)
