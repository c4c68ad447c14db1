-- What a deal's clearing tells: the matrix, and each party's needs and dues.
use Rattle.std.specs.Prelude.{ℕ, zero, suc, nat_lt, if◌then◌else◌, List, [], ◌∷◌, ◌++◌, length, codes}
use Rattle.std.specs.List.{flat_map}
use Rattle.std.specs.Fmt.{decimal}
use Rattle.dh_base.specs.Spelled.{hex_text}
use Rattle.deal_core.specs.Deals.{DealTold, matrix_of}
use Rattle.deal_core.specs.DealText.{party_name}
use Rattle.clear_core.specs.Clearing.{need_of, due_of}
use Rattle.clear_core.specs.Pairs.{pairs_of}
use Rattle.clear_core.specs.declared.pair.Pair.{Pair}

-- the texts of 0 to n - 1, one after another
abbrev pub texts_below : (ℕ → List ℕ) → ℕ → List ℕ
texts_below text zero = []
texts_below text (suc n) = texts_below text n ++ text n

-- a line of an amount of the pair, where it is above 0
abbrev pub amount_line : List ℕ → Pair → ℕ → List ℕ
amount_line head pair amount =
    if nat_lt 0 amount
    then head ++ (32 ∷ pair.ledger) ++ (32 ∷ pair.asset) ++ (32 ∷ decimal amount) ++ 10 ∷ []
    else []

abbrev pub entry_line : DealTold → ℕ → ℕ → Pair → List ℕ
entry_line deal from to pair =
    amount_line (codes "matrix " ++ party_name deal.parties from ++ 32 ∷ party_name deal.parties to)
    pair (matrix_of deal.steps from to pair.ledger pair.asset)

-- what the pair needs of the party, and what the deal owes it
abbrev pub party_lines : DealTold → ℕ → Pair → List ℕ
party_lines deal party pair =
    amount_line (codes "need " ++ party_name deal.parties party) pair
    (need_of deal.steps party pair.ledger pair.asset)
    ++ amount_line (codes "due " ++ party_name deal.parties party) pair
    (due_of deal.steps party pair.ledger pair.asset)

abbrev pub entries_text : DealTold → List Pair → ℕ → ℕ → List ℕ
entries_text deal pairs from to = flat_map (entry_line deal from to) pairs

abbrev pub row_text : DealTold → List Pair → ℕ → List ℕ
row_text deal pairs from = texts_below (entries_text deal pairs from) (length deal.parties)

abbrev pub matrix_text : DealTold → List Pair → List ℕ
matrix_text deal pairs = texts_below (row_text deal pairs) (length deal.parties)

abbrev pub party_text : DealTold → List Pair → ℕ → List ℕ
party_text deal pairs party = flat_map (party_lines deal party) pairs

abbrev pub parties_text : DealTold → List Pair → List ℕ
parties_text deal pairs = texts_below (party_text deal pairs) (length deal.parties)

abbrev pub head_text : DealTold → List ℕ
head_text deal = codes "deal " ++ deal.name ++ (10 ∷ codes "id ") ++ hex_text deal.id.0 ++ 10 ∷ []

-- the name, the id, the matrix, and for each party its needs and dues
abbrev pub clearing_of : DealTold → List ℕ
clearing_of deal =
    head_text deal ++ matrix_text deal (pairs_of deal.steps)
    ++ parties_text deal (pairs_of deal.steps)
