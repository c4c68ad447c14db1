-- One text has one act.
use Rattle.std.proofs.Common.{◌≡◌, ℕ, ◌==◌, cond, Result, Ok, List, get_or, refl, ap, sym, ◌∙◌, arith}
use Rattle.dh_base.specs.Fields.{AreBytes}
use Rattle.act_text.specs.declared.act.Act.{Act}
use Rattle.act_text.specs.declared.act_fault.ActFault.{ActFault}
use Rattle.act_text.specs.declared.act_kind.ActKind.{ActKind}
use Rattle.act_text.specs.declared.act_kind.ActKind.TheVariants.{Registration, Payment, Escrowing, Move, Start, Voting}
use Rattle.act_text.specs.declared.office.Office.{Office}
use Rattle.act_text.specs.declared.office.Office.TheVariants.{Ledger, Log}
use Rattle.act_text.specs.ActTexts.{act_text, kind_of, number_of, office_of, ActFits}
use Rattle.act_text.specs.ActReading.{act_of}
use Rattle.act_text.proofs.ActTexts.{act-read}
use Rattle.cert_core.specs.SeatTexts.{SeatText, Prefix, Handover, seat_text}

-- who takes acts of the kind of that number
office_numbered : ℕ → Office
office_numbered n = cond (n == 5) Log (cond (n == 6) Log Ledger)

office_is : (kind : ActKind) → office_of kind ≡ office_numbered (number_of kind)
unfolding office_numbered
office_is Registration = refl
office_is Payment = refl
office_is Escrowing = refl
office_is Move = refl
office_is Start = refl
office_is Voting = refl

ok_is : (a b : Act) → ◌≡◌ {A = Result Act ActFault} (Ok a) (Ok b) → a ≡ b
ok_is a b e = cc

-- what is read from the text of an act that has one is that act
pub one_act : (office : Office) (message : List ℕ) (a b : Act) → AreBytes message → act_of office message ≡ Ok a → ActFits b → message ≡ act_text b → a ≡ b
one_act office message a b bytes reads fits is =
    let first = (act-read office message a bytes).0 reads in
    let texts : act_text a ≡ act_text b = sym first.2 ∙ is in
    let number : number_of (kind_of a) ≡ number_of (kind_of b) = ap (λ (l : List ℕ). get_or l 8 0) texts in
    let same : office_of (kind_of b) ≡ office = office_is (kind_of b) ∙ (ap office_numbered (sym number) ∙ (sym (office_is (kind_of a)) ∙ first.0)) in
    ok_is a b (sym reads ∙ (act-read office message b bytes).1 (same, fits, is))

-- what an agent signs begins otherwise than what a seat signs
pub no_seat_text : (text : SeatText) (act : Act) → seat_text text ≡ act_text act → ⊥
no_seat_text (Prefix set len head) act e = let h : ◌≡◌ {A = ℕ} 80 65 = ap (λ (l : List ℕ). get_or l 3 0) e in absurd (omega arith)
no_seat_text (Handover set len head next) act e = let h : ◌≡◌ {A = ℕ} 72 65 = ap (λ (l : List ℕ). get_or l 3 0) e in absurd (omega arith)
