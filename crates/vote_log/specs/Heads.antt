-- The head of a log: one id that stands for the house and all records.
use Rattle.std.specs.Prelude.{ℕ, ◌≡◌, List, [], ◌∷◌, ◌++◌, codes}
use Rattle.std.specs.List.{Contains}
use Rattle.sha2.specs.Sha256.{sha256}
use Rattle.dh_base.specs.declared.id.Id.{Id}
use Rattle.vote_log.specs.Entry.{Entry}
use Rattle.vote_log.specs.RecordTexts.{record_text}

-- what is hashed before the first record
abbrev pub start_text : Id → List ℕ
start_text house = codes "CCDHEAD0" ++ house.0

-- what is hashed with each record: the head before it, and its text
abbrev pub step_text : Id → Entry → List ℕ
step_text head entry = codes "CCDHEAD1" ++ (head.0 ++ record_text entry)

abbrev pub first_head : Id → Id
first_head house = record { 0 = sha256 (start_text house) }

abbrev pub next_head : Id → Entry → Id
next_head head entry = record { 0 = sha256 (step_text head entry) }

-- the head after more records
abbrev pub head_from : Id → List Entry → Id
head_from head [] = head
head_from head (entry ∷ rest) = head_from (next_head head entry) rest

-- the head of a house's log
abbrev pub head_after : Id → List Entry → Id
head_after house log = head_from (first_head house) log

-- ---- what is hashed

abbrev pub step_texts : Id → List Entry → List (List ℕ)
step_texts head [] = []
step_texts head (entry ∷ rest) = step_text head entry ∷ step_texts (next_head head entry) rest

-- all texts that are hashed for the head of a house's log
abbrev pub head_texts : Id → List Entry → List (List ℕ)
head_texts house log = start_text house ∷ step_texts (first_head house) log

-- no two different ones of the texts have one digest
abbrev pub HaveNoCollision : List (List ℕ) → Type 0
HaveNoCollision texts =
    (a b : List ℕ) → Contains texts a → Contains texts b → sha256 a ≡ sha256 b → a ≡ b
