-- In the words of a statement stands neither a space nor a line feed.
use Rattle.std.proofs.Common.{◌≡◌, ◌≢◌, ℕ, ◌<◌, ◌≤◌, ◌^◌, true, not, eqb, leb, Option, Some, None, List, [], ◌∷◌, refl, sym, ap, subst, ◌∙◌, arith, IsTrue}
use Rattle.std.specs.Fmt.{decimal}
use Rattle.std.specs.Char.{is_ascii_digit}
use Rattle.std.specs.Str.{all_ascii_digits}
use Rattle.std.specs.Str.Parse.{digits_value}
use Rattle.std.specs.List.{list_all}
use Rattle.std.proofs.lemmas.Bool.{and_parts, and_from, leb-true, ne_eqb, not_from_false}
use Rattle.std.proofs.lemmas.Option.{cond_some}
use Rattle.dh_base.specs.Names.{is_name}
use Rattle.line_text.specs.Bytes.{lacks}
use Rattle.line_text.specs.Numbers.{is_number}
use Rattle.line_text.specs.Words.{words_of}
use Rattle.line_text.proofs.Joining.{words_of-spelled, spelled-words_of}
use Rattle.line_text.proofs.Plain.{lacks-name, lacks-decimal, lacks-spelled_words}
use Rattle.line_text.proofs.PlainWords.{IsPlain, AllPlain, no_spaces, no_feeds}
use Rattle.line_text.proofs.WordReading.{Words}
use Rattle.script_lines.specs.WordLists.{SpellsNumber}
use Rattle.plain_script.specs.Said.{statement_of, statement_of_words}
use Rattle.plain_script.specs.Spelling.{declaration_words, SpellsEvent, IsGoodDeclaration, IsGoodEvent, Spells}
use Rattle.plain_script.specs.declared.declaration.Declaration.{Declaration}
use Rattle.plain_script.specs.declared.declaration.Declaration.TheVariants.{Ledger, Open, Deal}
use Rattle.plain_script.specs.declared.event.Event.{Event}
use Rattle.plain_script.specs.declared.event.Event.TheVariants.{Register, Escrow, Transfer, Start, Commit, Abort, Claim}
use Rattle.plain_script.specs.declared.statement.Statement.{Statement}
use Rattle.plain_script.specs.declared.statement.Statement.TheVariants.{Plain, House, Declare, Begin, Happen}
use Rattle.plain_script.proofs.StatementReading.{States, words_found, words_only}

digit_above : (c : ℕ) → is_ascii_digit c ≡ true → 48 ≤ c
digit_above c h = leb-true 48 c (and_parts (leb 48 c) (leb c 57) h).0

digits_lack : (byte : ℕ) (word : List ℕ) → byte < 48 → all_ascii_digits word ≡ true → IsTrue (lacks byte word)
digits_lack byte [] low h = refl
digits_lack byte (c ∷ cs) low h =
    let parts = and_parts (is_ascii_digit c) (all_ascii_digits cs) h in
    let above = digit_above c parts.0 in
    and_from (not (eqb c byte)) (lacks byte cs) (not_from_false (eqb c byte) (ne_eqb c byte (λ same. omega arith))) (digits_lack byte cs low parts.1)

number_digits : (word : List ℕ) → is_number word ≡ true → all_ascii_digits word ≡ true
number_digits [] h = absurd cc
number_digits (c ∷ []) h = and_from (is_ascii_digit c) true h refl
number_digits (c ∷ d ∷ cs) h = (and_parts (not (eqb c 48)) (all_ascii_digits (c ∷ d ∷ cs)) h).1

number_plain : (o : Option ℕ) (word : List ℕ) → SpellsNumber o word → IsPlain word
number_plain None word h =
    let digits = number_digits word (cond_some (is_number word) (digits_value 10 word) h.0 h.2).0 in
    (digits_lack 32 word (omega arith) digits, digits_lack 10 word (omega arith) digits)
number_plain (Some n) word h = subst IsPlain (sym h.1) (lacks-decimal n (omega arith))

names_plain : (names : Words) → list_all is_name names ≡ true → AllPlain names
names_plain [] h = tt
names_plain (n ∷ ns) h =
    let parts = and_parts (is_name n) (list_all is_name ns) h in
    (lacks-name n parts.0, names_plain ns parts.1)

amount_plain : (n : ℕ) → n < 2 ^ 63 → IsPlain (decimal n)
amount_plain n small = lacks-decimal n (omega arith)

declaration_plain : (d : Declaration) → IsGoodDeclaration d → AllPlain (declaration_words d)
declaration_plain (Ledger name) h = ((refl, refl), (lacks-name name h, tt))
declaration_plain (Open ledger asset party amount) h = ((refl, refl), (lacks-name ledger h.0, (lacks-name asset h.1, (lacks-name party h.2, (amount_plain amount h.3, tt)))))
declaration_plain (Deal name parties) h = ((refl, refl), (lacks-name name h.0, names_plain parties h.1))

event_plain : (e : Event) (words : Words) → IsGoodEvent e → SpellsEvent e words → AllPlain words
event_plain (Register ledger deal party) words h w = subst AllPlain (sym w) ((refl, refl), (lacks-name ledger h.0, (lacks-name deal h.1, (lacks-name party h.2, tt))))
event_plain (Escrow ledger deal party asset amount) words h w =
    subst AllPlain (sym w) ((refl, refl), (lacks-name ledger h.0, (lacks-name deal h.1, (lacks-name party h.2, (lacks-name asset h.3, (amount_plain amount h.4, tt))))))
event_plain (Transfer ledger deal from turn to asset amount) words h w =
    subst AllPlain (sym w.2) ((refl, refl), (lacks-name ledger h.0, (lacks-name deal h.1, (lacks-name from h.2, (number_plain turn w.0 w.1, (lacks-name to h.3, (lacks-name asset h.4, (amount_plain amount h.5, tt))))))))
event_plain (Start deal party) words h w = subst AllPlain (sym w) ((refl, refl), (lacks-name deal h.0, (lacks-name party h.1, tt)))
event_plain (Commit deal party) words h w = subst AllPlain (sym w) ((refl, refl), (lacks-name deal h.0, (lacks-name party h.1, tt)))
event_plain (Abort deal party) words h w = subst AllPlain (sym w) ((refl, refl), (lacks-name deal h.0, (lacks-name party h.1, tt)))
event_plain (Claim ledger deal len) words h w = subst AllPlain (sym w.2) ((refl, refl), (lacks-name ledger h.0, (lacks-name deal h.1, (number_plain len w.0 w.1, tt))))

statement_plain : (s : Statement) (words : Words) → States words s → AllPlain words
statement_plain Plain words h = subst AllPlain (sym h.1) ((refl, refl), tt)
statement_plain House words h = subst AllPlain (sym h.1) ((refl, refl), tt)
statement_plain (Declare d) words h = subst AllPlain (sym h.1) (declaration_plain d h.0)
statement_plain Begin words h = subst AllPlain (sym h.1) ((refl, refl), tt)
statement_plain (Happen e) words h = event_plain e words h.0 h.1

-- a statement has a word
some_words : (s : Statement) (words : Words) → States words s → words ≢ []
some_words s words h none = absurd (let e : statement_of_words [] ≡ Some s = ap statement_of_words (sym none) ∙ words_only s words h in cc)

-- ---- a line and the statement that it says

pub line_only : (s : Statement) (line : List ℕ) → Spells s line → statement_of line ≡ Some s
line_only s line h =
    let states : States h.words s = (h.good, h.spelled) in
    let words : words_of line ≡ h.words = ap words_of h.line_is ∙ words_of-spelled h.words (some_words s h.words states) (no_spaces h.words (statement_plain s h.words states)) in
    ap statement_of_words words ∙ words_only s h.words states

pub line_found : (line : List ℕ) (s : Statement) → statement_of line ≡ Some s → Spells s line
line_found line s e =
    let states = words_found (words_of line) s e in
    record { good = states.0; words = words_of line; spelled = states.1; line_is = sym (spelled-words_of line) }

pub line_lacks : (s : Statement) (line : List ℕ) → Spells s line → IsTrue (lacks 10 line)
line_lacks s line h =
    let states : States h.words s = (h.good, h.spelled) in
    subst (λ (l : List ℕ). IsTrue (lacks 10 l)) (sym h.line_is) (lacks-spelled_words h.words (no_feeds h.words (statement_plain s h.words states)))
