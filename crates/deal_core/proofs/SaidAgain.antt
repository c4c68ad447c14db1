-- A line that is spelled says what it spells.
use Rattle.std.proofs.Common.{◌≡◌, ◌≢◌, ℕ, ◌<◌, ◌^◌, Some, List, [], ◌∷◌, refl, ap, ◌∙◌, arith, IsTrue}
use Rattle.std.specs.Fmt.{decimal}
use Rattle.std.specs.List.{AllByRecursion}
use Rattle.std.proofs.lemmas.Bool.{lt-ltb}
use Rattle.dh_base.specs.Names.{is_name}
use Rattle.dh_base.specs.Spelled.{hex_text}
use Rattle.dh_base.specs.declared.id.Id.{Id}
use Rattle.line_text.specs.Bytes.{lacks}
use Rattle.line_text.specs.Lines.{ended_line}
use Rattle.line_text.specs.Words.{words_of, spelled_words}
use Rattle.line_text.specs.Reading.{name_word, amount_word}
use Rattle.deal_core.specs.Said.{deal_after, house_after, party_after, step_after, said_of_words, said_by}
use Rattle.deal_core.specs.declared.deal_line.DealLine.{DealLine}
use Rattle.deal_core.specs.declared.deal_line.DealLine.TheVariants.{Deal, House, Party, Step}
use Rattle.line_text.specs.IdWords.{IsId}
use Rattle.line_text.proofs.Joining.{words_of-spelled}
use Rattle.line_text.proofs.Plain.{lacks-name, lacks-decimal, lacks-spelled_words}
use Rattle.line_text.proofs.PlainWords.{AllPlain, id_plain, no_spaces, no_feeds}
use Rattle.line_text.proofs.WordReading.{Words, name_again, amount_again, id_word_again}
use Rattle.deal_core.proofs.SaidReading.{said_words}

-- ---- lines

-- what has a spelling
abbrev pub IsGoodLine : DealLine → Type 0
IsGoodLine (Deal name) = IsTrue (is_name name)
IsGoodLine (House house) = IsId house
IsGoodLine (Party party) = IsTrue (is_name party.name) × IsId party.account
IsGoodLine (Step step) =
    IsTrue (is_name step.from) × IsTrue (is_name step.to) × IsTrue (is_name step.ledger) × IsTrue (is_name step.asset) × (step.amount < 2 ^ 63)

deal_again : (name : List ℕ) → IsTrue (is_name name) → deal_after (name ∷ []) ≡ Some (Deal name)
unfolding deal_after
deal_again name h = rw (name_again name [] h) refl

house_again : (house : Id) → IsId house → house_after (hex_text house.0 ∷ []) ≡ Some (House house)
unfolding house_after
house_again house h = rw (id_word_again house [] h) refl

party_again : (name : List ℕ) (account : Id) → IsTrue (is_name name) → IsId account → party_after (name ∷ hex_text account.0 ∷ []) ≡ Some (Party (record { name = name; account = account }))
unfolding party_after
party_again name account h i = rw (name_again name (hex_text account.0 ∷ []) h, id_word_again account [] i) refl

step_again : (from to ledger asset : List ℕ) (amount : ℕ) → IsTrue (is_name from) → IsTrue (is_name to) → IsTrue (is_name ledger) → IsTrue (is_name asset) → amount < 2 ^ 63 → step_after (from ∷ to ∷ ledger ∷ asset ∷ decimal amount ∷ []) ≡ Some (Step (record { from = from; to = to; ledger = ledger; asset = asset; amount = amount }))
unfolding step_after
step_again from to ledger asset amount f t l a m =
    rw (name_again from (to ∷ ledger ∷ asset ∷ decimal amount ∷ []) f, name_again to (ledger ∷ asset ∷ decimal amount ∷ []) t, name_again ledger (asset ∷ decimal amount ∷ []) l, name_again asset (decimal amount ∷ []) a, amount_again amount [] m) refl

words_again : (said : DealLine) → IsGoodLine said → said_of_words (said_words said) ≡ Some said
words_again (Deal name) h = deal_again name h
words_again (House house) h = house_again house h
words_again (Party party) h = party_again party.name party.account h.0 h.1
words_again (Step step) h = step_again step.from step.to step.ledger step.asset step.amount h.0 h.1 h.2 h.3 h.4

-- ---- neither a space nor a line feed stands in a word

said_plain : (said : DealLine) → IsGoodLine said → AllPlain (said_words said)
said_plain (Deal name) h = ((refl, refl), (lacks-name name h, tt))
said_plain (House house) h = ((refl, refl), (id_plain house h, tt))
said_plain (Party party) h = ((refl, refl), (lacks-name party.name h.0, (id_plain party.account h.1, tt)))
said_plain (Step step) h =
    ((refl, refl), (lacks-name step.from h.0, (lacks-name step.to h.1, (lacks-name step.ledger h.2, (lacks-name step.asset h.3, (lacks-decimal step.amount (omega (arith, h.4)), tt))))))

some_words : (said : DealLine) → said_words said ≢ []
some_words (Deal name) e = absurd cc
some_words (House house) e = absurd cc
some_words (Party party) e = absurd cc
some_words (Step step) e = absurd cc

pub line_again : (said : DealLine) → IsGoodLine said → said_by (ended_line (spelled_words (said_words said))) ≡ Some said
line_again said h =
    let words : words_of (spelled_words (said_words said)) ≡ said_words said = words_of-spelled (said_words said) (some_words said) (no_spaces (said_words said) (said_plain said h)) in
    ap said_of_words words ∙ words_again said h

pub line_lacks : (said : DealLine) → IsGoodLine said → IsTrue (lacks 10 (spelled_words (said_words said)))
line_lacks said h = lacks-spelled_words (said_words said) (no_feeds (said_words said) (said_plain said h))
