-- The text of an act is read as that act, and no other bytes are.
use Rattle.std.proofs.Common.{◌≡◌, ℕ, ◌+◌, ◌<◌, ◌==◌, ◌↔◌, Bool, true, false, cond, nat_lt, List, [], ◌∷◌, ◌++◌, length, Option, Some, None, Result, Ok, Err, refl, sym, ap, subst, ◌∙◌, append_assoc, arith}
use Rattle.std.specs.Prelude.{IfOk}
use Rattle.std.specs.Int.{w8, byte_len, to_be_bytes}
use Rattle.std.specs.Str.{bytes_eq}
use Rattle.std.proofs.lemmas.Slice.Eq.{bytes_eq-Decides}
use Rattle.dh_base.specs.declared.base_fault.BaseFault.{BaseFault}
use Rattle.dh_base.specs.Fields.{◌>>=◌, AreBytes, StandsAt, bytes_at, number_at}
use Rattle.dh_base.specs.Formats.{IsSpelledAt, TakesWhatIsSpelled, IsSpelledAfter, SpelledBy, or_fault}
use Rattle.dh_base.proofs.Fields.{bind_ok, wide8, stands-number, number-stands, stands-bytes, bytes-stands, StandsAt-append, StandsAt-parts}
use Rattle.dh_base.proofs.Formats.{takes-then, takes-same, reads-whole}
use Rattle.act_text.specs.declared.act.Act.{Act}
use Rattle.act_text.specs.declared.act_fault.ActFault.{ActFault}
use Rattle.act_text.specs.declared.act_fault.ActFault.TheVariants.{BadTag, Trailing, NoMemory}
use Rattle.act_text.specs.declared.act_kind.ActKind.{ActKind}
use Rattle.act_text.specs.declared.act_kind.ActKind.TheVariants.{Registration, Payment, Escrowing, Move, Start, Voting}
use Rattle.act_text.specs.declared.office.Office.{Office}
use Rattle.act_text.specs.declared.office.Office.TheVariants.{Ledger, Log}
use Rattle.act_text.specs.ActTexts.{act_tag, kind_of, number_of, office_of, kind_numbered, act_fields, act_text, ActFits}
use Rattle.act_text.specs.ActReading.{or_bad_tag, fields_from, next_kind, act_from, act_of, Gives}
use Rattle.act_text.proofs.ActFormats.{FieldsSpelled, takes_fields}

-- ---- the tag and the kind

-- what stands before the fields of an act of a kind
abbrev kind_text : ActKind → List ℕ
kind_text kind = act_tag ++ number_of kind ∷ []

abbrev KindSpelled : Office → ActKind → List ℕ → Type 0
KindSpelled office = SpelledBy (λ kind. office_of kind ≡ office) kind_text

tag_was_ok : {A : Type 0} (r : Result A BaseFault) (x : A) → or_fault (λ _. BadTag) r ≡ Ok x → r ≡ Ok x
tag_was_ok (Ok y) x e = cc
tag_was_ok (Err d) x e = absurd cc

named : (o : Option ActKind) (kind : ActKind) → or_bad_tag o ≡ Ok kind → o ≡ Some kind
named (Some k) kind e = cc
named None kind e = absurd cc

numbered-kind : (office : Office) (n : ℕ) (kind : ActKind) → kind_numbered office n ≡ Some kind → (office_of kind ≡ office) × (n ≡ number_of kind)
numbered-kind Ledger n kind e = grind (arith, e)
numbered-kind Log n kind e = grind (arith, e)

kind-numbered : (kind : ActKind) → kind_numbered (office_of kind) (number_of kind) ≡ Some kind
kind-numbered Registration = refl
kind-numbered Payment = refl
kind-numbered Escrowing = refl
kind-numbered Move = refl
kind-numbered Start = refl
kind-numbered Voting = refl

small-number : (kind : ActKind) → to_be_bytes w8 (number_of kind) ≡ number_of kind ∷ []
small-number Registration = refl
small-number Payment = refl
small-number Escrowing = refl
small-number Move = refl
small-number Start = refl
small-number Voting = refl

number-small : (kind : ActKind) → number_of kind < 256
number-small Registration = omega arith
number-small Payment = omega arith
number-small Escrowing = omega arith
number-small Move = omega arith
number-small Start = omega arith
number-small Voting = omega arith

abbrev if_tagged : List ℕ → ℕ → ActKind → Result (ActKind × ℕ) ActFault
if_tagged tag at kind = cond (bytes_eq tag act_tag) (Ok (kind, at + 9)) (Err BadTag)

abbrev behind_number : Office → List ℕ → ℕ → ℕ → Result (ActKind × ℕ) ActFault
behind_number office tag at number = or_bad_tag (kind_numbered office number) >>= if_tagged tag at

abbrev behind_tag : Office → List ℕ → ℕ → List ℕ → Result (ActKind × ℕ) ActFault
behind_tag office bytes at tag = or_fault (λ _. BadTag) (number_at w8 bytes (at + 8)) >>= behind_number office tag at

tagged : (b : Bool) (kind : ActKind) (next : ℕ) (read : ActKind × ℕ) → cond b (Ok (kind, next)) (Err BadTag) ≡ Ok read → (b ≡ true) × (kind ≡ read.0) × (next ≡ read.1)
tagged true kind next read e = (refl, cc, cc)
tagged false kind next read e = absurd cc

takes_kind : (office : Office) → TakesWhatIsSpelled (next_kind office) (KindSpelled office)
unfolding next_kind
takes_kind office bytes at read are =
    let onward : next_kind office bytes at ≡ Ok read → IsSpelledAt (KindSpelled office) bytes at read =
    λ e.
    let a = bind_ok (or_fault (λ _. BadTag) (bytes_at 8 bytes at)) (behind_tag office bytes at) read e in
    let b = bind_ok (or_fault (λ _. BadTag) (number_at w8 bytes (at + 8))) (behind_number office a.0 at) read a.2 in
    let c = bind_ok (or_bad_tag (kind_numbered office b.0)) (if_tagged a.0 at) read b.2 in
    let d = tagged (bytes_eq a.0 act_tag) c.0 (at + 9) read c.2 in
    let kind = numbered-kind office b.0 c.0 (named (kind_numbered office b.0) c.0 c.1) in
    let tag : a.0 ≡ act_tag = (bytes_eq-Decides a.0 act_tag).0 d.0 in
    let first = stands-bytes 8 bytes a.0 at (tag_was_ok (bytes_at 8 bytes at) a.0 a.1) in
    let second = stands-number w8 wide8 bytes (at + 8) b.0 are (tag_was_ok (number_at w8 bytes (at + 8)) b.0 b.1) in
    let tag_stands : StandsAt act_tag bytes at = subst (λ (t : List ℕ). StandsAt t bytes at) tag first.1 in
    let number_stands : StandsAt (number_of c.0 ∷ []) bytes (at + 8) =
    subst (λ (t : List ℕ). StandsAt t bytes (at + 8)) (ap (to_be_bytes w8) kind.1 ∙ small-number c.0) second.1 in
    let both : StandsAt (kind_text c.0) bytes at = StandsAt-append act_tag (number_of c.0 ∷ []) bytes at (at + 8) refl tag_stands number_stands in
    let P : ActKind → Type 0 = λ k. (office_of k ≡ office) × StandsAt (kind_text k) bytes at in
    let whole = subst P d.1 (kind.0, both) in
    record { text = kind_text read.0; spelled = (whole.0, refl); stands = whole.1; next = sym d.2 } in
    let back : IsSpelledAt (KindSpelled office) bytes at read → next_kind office bytes at ≡ Ok read =
    λ s.
    let stands : StandsAt (kind_text read.0) bytes at = subst (λ (t : List ℕ). StandsAt t bytes at) s.spelled.1 s.stands in
    let parts = StandsAt-parts act_tag (number_of read.0 ∷ []) bytes at stands in
    let one : bytes_at 8 bytes at ≡ Ok act_tag = bytes-stands 8 bytes act_tag at refl parts.0 in
    let number : StandsAt (to_be_bytes w8 (number_of read.0)) bytes (at + 8) = subst (λ (t : List ℕ). StandsAt t bytes (at + 8)) (sym (small-number read.0)) parts.1 in
    let two : number_at w8 bytes (at + 8) ≡ Ok (number_of read.0) = number-stands w8 wide8 bytes (at + 8) (number_of read.0) (number-small read.0) number in
    let three : kind_numbered office (number_of read.0) ≡ Some read.0 = subst (λ (o : Office). kind_numbered o (number_of read.0) ≡ Some read.0) s.spelled.0 (kind-numbered read.0) in
    let next : at + 9 ≡ read.1 = omega (arith, s.next, ap length s.spelled.1) in
    let with_next : ℕ → Result (ActKind × ℕ) ActFault = λ n. Ok (read.0, n) in
    ap (λ (r : Result (List ℕ) BaseFault). or_fault (λ _. BadTag) r >>= behind_tag office bytes at) one
    ∙ ap (λ (r : Result ℕ BaseFault). or_fault (λ _. BadTag) r >>= behind_number office act_tag at) two
    ∙ ap (λ (o : Option ActKind). or_bad_tag o >>= if_tagged act_tag at) three ∙ ap with_next next in
    (onward, back)

-- ---- whole acts

-- the text of an act of an office
abbrev ActSpelled : Office → Act → List ℕ → Type 0
ActSpelled office = SpelledBy (λ act. (office_of (kind_of act) ≡ office) × ActFits act) act_text

spelled-act : (office : Office) (act : Act) (text : List ℕ) → IsSpelledAfter (KindSpelled office) FieldsSpelled act text ↔ ActSpelled office act text
spelled-act office act text = (
  λ s.
      let kind : kind_of act ≡ s.value = s.spells_rest.0.0 in
      let of : office_of (kind_of act) ≡ office = ap office_of kind ∙ s.spells_front.0 in
      let front : s.front ≡ kind_text (kind_of act) = s.spells_front.1 ∙ ap kind_text (sym kind) in
      ((of, s.spells_rest.0.1), rw (s.is, front, s.spells_rest.1) refl),
  λ s.
      record { value = kind_of act; front = kind_text (kind_of act); rest = act_fields act; spells_front = (s.0.0, refl); spells_rest = ((refl, s.0.1), refl); is = s.1 },
)

takes_act : (office : Office) → TakesWhatIsSpelled (act_from office) (ActSpelled office)
unfolding act_from
takes_act office = takes-same (act_from office) (IsSpelledAfter (KindSpelled office) FieldsSpelled) (ActSpelled office) (spelled-act office)
    (takes-then (next_kind office) fields_from (KindSpelled office) FieldsSpelled (takes_kind office) takes_fields)

pub act-read : (office : Office) (bytes : List ℕ) (act : Act) → AreBytes bytes →
    (act_of office bytes ≡ Ok act) ↔ ((office_of (kind_of act) ≡ office) × ActFits act × (bytes ≡ act_text act))
act-read office bytes act are =
    let whole = reads-whole Trailing (act_from office) (λ act. (office_of (kind_of act) ≡ office) × ActFits act) act_text (takes_act office) bytes act are in
    (λ e. let s = whole.0 e in (s.0.0, s.0.1, s.1), λ s. whole.1 ((s.0, s.1), s.2))

-- ---- what a call answers

pub IfOk-given : {A : Type 0} (P : A → Type 0) (r read : Result A ActFault) → ((x : A) → read ≡ Ok x → P x) → Gives r read → IfOk r P
IfOk-given P (Ok x) read found given = found x given
IfOk-given P (Err fault) read found given = tt

pub Gives-same : {A : Type 0} (r read other : Result A ActFault) → read ≡ other → Gives r read → Gives r other
Gives-same {A} r read other same given = subst (λ (x : Result A ActFault). Gives r x) same given
