-- Acts: each has one text, a tag, the number of its kind, and its fields in order.
use Rattle.std.specs.Prelude.{ℕ, ◌≡◌, ◌<◌, ◌^◌, ◌==◌, if◌then◌else◌, List, [], ◌∷◌, ◌++◌, length, codes, IsTrue, Option, Some, None}
use Rattle.std.specs.Int.{w16, w32, w64, to_be_bytes}
use Rattle.dh_base.specs.declared.id.Id.{Id}
use Rattle.dh_base.specs.declared.outcome.Outcome.{Outcome}
use Rattle.dh_base.specs.declared.outcome.Outcome.TheVariants.{Commit, Abort}
use Rattle.dh_base.specs.Names.{is_name}
use Rattle.dh_base.specs.Fields.{name_field}
use Rattle.dh_base.specs.Formats.{text_field}
use Rattle.act_text.specs.declared.act.Act.{Act}
use Rattle.act_text.specs.declared.act.Act.TheVariants.{Register, Pay, Escrow, Transfer, StartDeal, Vote}
use Rattle.act_text.specs.declared.act_kind.ActKind.{ActKind}
use Rattle.act_text.specs.declared.act_kind.ActKind.TheVariants.{Registration, Payment, Escrowing, Move, Start, Voting}
use Rattle.act_text.specs.declared.office.Office.{Office}
use Rattle.act_text.specs.declared.office.Office.TheVariants.{Ledger, Log}

abbrev pub act_tag : List ℕ
act_tag = codes "CCDACT01"

abbrev pub kind_of : Act → ActKind
kind_of (Register text) = Registration
kind_of (Pay house ledger to asset amount) = Payment
kind_of (Escrow deal ledger asset amount) = Escrowing
kind_of (Transfer deal ledger turn to asset amount) = Move
kind_of (StartDeal text) = Start
kind_of (Vote deal index choice) = Voting

abbrev pub number_of : ActKind → ℕ
number_of Registration = 1
number_of Payment = 2
number_of Escrowing = 3
number_of Move = 4
number_of Start = 5
number_of Voting = 6

-- who takes acts of that kind
abbrev pub office_of : ActKind → Office
office_of Registration = Ledger
office_of Payment = Ledger
office_of Escrowing = Ledger
office_of Move = Ledger
office_of Start = Log
office_of Voting = Log

-- the kind of that number, where the office takes such acts
abbrev pub kind_numbered : Office → ℕ → Option ActKind
kind_numbered Ledger n =
    if n == 1 then Some Registration else if n == 2 then Some Payment
    else if n == 3 then Some Escrowing else if n == 4 then Some Move else None
kind_numbered Log n = if n == 5 then Some Start else if n == 6 then Some Voting else None

-- as a log record numbers votes
abbrev pub choice_byte : Outcome → ℕ
choice_byte Commit = 2
choice_byte Abort = 3

abbrev pub act_fields : Act → List ℕ
act_fields (Register text) = text_field text
act_fields (Pay house ledger to asset amount) =
    house.0 ++ (name_field ledger ++ (to.0 ++ (name_field asset ++ to_be_bytes w64 amount)))
act_fields (Escrow deal ledger asset amount) =
    deal.0 ++ (name_field ledger ++ (name_field asset ++ to_be_bytes w64 amount))
act_fields (Transfer deal ledger turn to asset amount) =
    deal.0 ++ (name_field ledger ++ (to_be_bytes w32 turn ++ (to.0
    ++ (name_field asset ++ to_be_bytes w64 amount))))
act_fields (StartDeal text) = text_field text
act_fields (Vote deal index choice) = deal.0 ++ (to_be_bytes w16 index ++ (choice_byte choice ∷ []))

abbrev pub act_text : Act → List ℕ
act_text act = act_tag ++ number_of (kind_of act) ∷ act_fields act

abbrev pub IsId : Id → Type 0
IsId id = length id.0 ≡ 32

abbrev pub IsName : List ℕ → Type 0
IsName name = IsTrue (is_name name)

-- at most 2^63 - 1
abbrev pub IsAmount : ℕ → Type 0
IsAmount amount = amount < 2 ^ 63

-- a deal text in it has a length of four bytes
abbrev pub TextFits : Act → Type 0
TextFits (Register text) = length text < 2 ^ 32
TextFits (StartDeal text) = length text < 2 ^ 32
TextFits act = Unit {0}

-- what has a text
abbrev pub ActFits : Act → Type 0
ActFits (Register text) = length text < 2 ^ 32
ActFits (Pay house ledger to asset amount) =
    IsId house × IsName ledger × IsId to × IsName asset × IsAmount amount
ActFits (Escrow deal ledger asset amount) =
    IsId deal × IsName ledger × IsName asset × IsAmount amount
ActFits (Transfer deal ledger turn to asset amount) =
    IsId deal × IsName ledger × (turn < 2 ^ 32) × IsId to × IsName asset × IsAmount amount
ActFits (StartDeal text) = length text < 2 ^ 32
ActFits (Vote deal index choice) = IsId deal × (index < 2 ^ 16)
