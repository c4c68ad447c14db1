-- What a text of a forged envelope says is spelled by its words, and what is spelled so is read.
use Rattle.std.proofs.Common.{◌≡◌, ℕ, Option, Some, None, List, [], ◌∷◌, refl, ap, subst, sym, ◌∙◌}
use Rattle.std.specs.Prelude.{codes}
use Rattle.dh_base.specs.Spelled.{outcome_text}
use Rattle.dh_base.specs.declared.outcome.Outcome.{Outcome}
use Rattle.dh_base.specs.declared.outcome.Outcome.TheVariants as outcome_is
use Rattle.line_text.specs.Reading.{◌>>=◌, first_word, name_word, amount_word, number_u32_word, ended}
use Rattle.line_text.proofs.WordReading.{Words, bind_some, some_is, read_end}
use Rattle.house_words.specs.Keywords.{text_text, text_keyword}
use Rattle.house_words.specs.Spelled.{LineWord, Fixed, Named, Number, Amount, Hexadecimal}
use Rattle.house_words.specs.Tails.{one_name, two_names, three_names, three_names_amount, three_names_number_outcome}
use Rattle.house_words.specs.WordKinds.{one_of, hex_bytes}
use Rattle.house_words.proofs.HexPairs.{hex_spells, hex_again_read}
use Rattle.house_words.proofs.KeywordTexts.{text_is}
use Rattle.house_words.proofs.TailFound.{one_name_found, two_names_found, three_names_found, three_names_amount_found, three_names_number_outcome_found}
use Rattle.house_words.proofs.TailRead.{one_name_read, two_names_read, three_names_read, three_names_amount_read, three_names_number_outcome_read, outcome_read}
use Rattle.house_words.proofs.WordFronts.{IsFront, AreSpelled, front_spells, end_spells, split, end_of, name_front, name_read, amount_front, amount_read, number_front, number_read, one_front, fixed_spells, fixed_front, made}
use Rattle.house_words.specs.declared.keyword.TextKeyword.{TextKeyword}
use Rattle.house_words.specs.declared.keyword.TextKeyword.TheVariants as say
use Rattle.house_grammar.specs.SaidTexts.{transfer_after, vote_after, bytes_after, text_after, forged_text}
use Rattle.house_grammar.specs.Spelling.{text_words}
use Rattle.house_grammar.specs.declared.forged_text.ForgedText.{ForgedText}
use Rattle.house_grammar.specs.declared.forged_text.ForgedText.TheVariants.{Register, Pay, Escrow, Transfer, Start, Vote, Prefix, Handover, Status, Bytes}
use Rattle.house_grammar.proofs.KeywordFronts.{text_front}

abbrev pub SaysText : ForgedText → Words → Type 0
SaysText text words = AreSpelled (text_words text) words

-- ---- what is read

transfer_found : (ws : Words) (x : ForgedText) → transfer_after ws ≡ Some x → SaysText x (codes "transfer" ∷ ws)
unfolding transfer_after
transfer_found ws x e =
    let a = bind_some (name_word ws) _ x e in
    let b = bind_some (name_word a.0.1) _ x a.2 in
    let c = bind_some (number_u32_word b.0.1) _ x b.2 in
    let l = bind_some (name_word c.0.1) _ x c.2 in
    let s = bind_some (name_word l.0.1) _ x l.2 in
    let m = bind_some (amount_word s.0.1) _ x s.2 in
    let z = read_end m.0.1 (Transfer a.0.0 b.0.0 c.0.0 l.0.0 s.0.0 m.0.0) x m.2 in
    subst (λ (y : ForgedText). SaysText y (codes "transfer" ∷ ws)) z.1
    (fixed_spells (codes "transfer")
    (front_spells (name_front ws a.0 a.1) (front_spells (name_front _ b.0 b.1) (front_spells (number_front _ c.0 c.1) (front_spells (name_front _ l.0 l.1) (front_spells (name_front _ s.0 s.1) (front_spells (amount_front _ m.0 m.1) (end_spells z.0))))))))

vote_found : (ws : Words) (x : ForgedText) → vote_after ws ≡ Some x → SaysText x (codes "vote" ∷ ws)
unfolding vote_after
vote_found ws x e =
    let a = bind_some (name_word ws) _ x e in
    let b = bind_some (one_of (codes "commit") outcome_is.Commit (codes "abort") outcome_is.Abort a.0.1) _ x a.2 in
    let z = read_end b.0.1 (Vote a.0.0 b.0.0) x b.2 in
    subst (λ (y : ForgedText). SaysText y (codes "vote" ∷ ws)) z.1
    (fixed_spells (codes "vote")
    (front_spells (name_front ws a.0 a.1) (front_spells (one_front (λ (o : Outcome). Fixed (outcome_text o)) (codes "commit") outcome_is.Commit (codes "abort") outcome_is.Abort a.0.1 b.0 refl refl b.1) (end_spells z.0))))

bytes_found : (ws : Words) (x : ForgedText) → bytes_after ws ≡ Some x → SaysText x (codes "bytes" ∷ ws)
unfolding bytes_after
bytes_found [] x e = absurd cc
bytes_found (w ∷ ws) x e =
    let a = bind_some (hex_bytes w) (λ message. ended ws (Bytes message)) x e in
    let z = read_end ws (Bytes a.0) x a.2 in
    let front : IsFront (Hexadecimal a.0) (w ∷ ws) ws = record { word = w; words = refl; spells = hex_spells w a.0 a.1 } in
    subst (λ (y : ForgedText). SaysText y (codes "bytes" ∷ w ∷ ws)) z.1 (fixed_spells (codes "bytes") (front_spells front (end_spells z.0)))

after_found : (k : TextKeyword) (ws : Words) (x : ForgedText) → text_after k ws ≡ Some x → SaysText x (text_text k ∷ ws)
after_found say.Register ws x e = made (λ y. SaysText y (codes "register" ∷ ws)) (λ (s : List ℕ). Register s) (one_name ws) x (λ s h. fixed_spells (codes "register") (one_name_found ws s h)) e
after_found say.Pay ws x e = made (λ y. SaysText y (codes "pay" ∷ ws)) (λ (s : List ℕ × List ℕ × List ℕ × ℕ). Pay s.0 s.1 s.2 s.3) (three_names_amount ws) x (λ s h. fixed_spells (codes "pay") (three_names_amount_found ws s h)) e
after_found say.Escrow ws x e = made (λ y. SaysText y (codes "escrow" ∷ ws)) (λ (s : List ℕ × List ℕ × List ℕ × ℕ). Escrow s.0 s.1 s.2 s.3) (three_names_amount ws) x (λ s h. fixed_spells (codes "escrow") (three_names_amount_found ws s h)) e
after_found say.Transfer ws x e = transfer_found ws x e
after_found say.Start ws x e = made (λ y. SaysText y (codes "start" ∷ ws)) (λ (s : List ℕ). Start s) (one_name ws) x (λ s h. fixed_spells (codes "start") (one_name_found ws s h)) e
after_found say.Vote ws x e = vote_found ws x e
after_found say.Prefix ws x e = made (λ y. SaysText y (codes "prefix" ∷ ws)) (λ (s : List ℕ × List ℕ). Prefix s.0 s.1) (two_names ws) x (λ s h. fixed_spells (codes "prefix") (two_names_found ws s h)) e
after_found say.Handover ws x e = made (λ y. SaysText y (codes "handover" ∷ ws)) (λ (s : List ℕ × List ℕ × List ℕ). Handover s.0 s.1 s.2) (three_names ws) x (λ s h. fixed_spells (codes "handover") (three_names_found ws s h)) e
after_found say.Status ws x e = made (λ y. SaysText y (codes "status" ∷ ws)) (λ (s : List ℕ × List ℕ × List ℕ × Option ℕ × Outcome). Status s.0 s.1 s.2 s.3 s.4) (three_names_number_outcome ws) x (λ s h. fixed_spells (codes "status") (three_names_number_outcome_found ws s h)) e
after_found say.Bytes ws x e = bytes_found ws x e

pub text_found : (words : Words) (x : ForgedText) → forged_text words ≡ Some x → SaysText x words
unfolding forged_text
text_found [] x e = absurd cc
text_found (w ∷ ws) x e =
    let k = bind_some (text_keyword w) (λ keyword. text_after keyword ws) x e in
    subst (λ (v : List ℕ). SaysText x (v ∷ ws)) (sym (text_is w k.0 k.1)) (after_found k.0 ws x k.2)

-- ---- what is spelled

begun : (k : TextKeyword) {values : List LineWord} {words : Words} (x : ForgedText) → AreSpelled (Fixed (text_text k) ∷ values) words → ((rest : Words) → AreSpelled values rest → text_after k rest ≡ Some x) → forged_text words ≡ Some x
begun k x s read =
    let a = split s in
    ap forged_text (fixed_front a.front) ∙ (text_front k a.rest ∙ read a.rest a.behind)

transfer_read : (deal ledger : List ℕ) (turn : Option ℕ) (to asset : List ℕ) (amount : ℕ) (ws : Words) → AreSpelled (Named deal ∷ Named ledger ∷ Number turn ∷ Named to ∷ Named asset ∷ Amount amount ∷ []) ws → transfer_after ws ≡ Some (Transfer deal ledger turn to asset amount)
unfolding transfer_after
transfer_read deal ledger turn to asset amount ws s =
    let a = split s in
    let b = split a.behind in
    let c = split b.behind in
    let l = split c.behind in
    let t = split l.behind in
    let m = split t.behind in
    rw (name_read a.front, name_read b.front, number_read c.front, name_read l.front, name_read t.front, amount_read m.front, end_of m.behind) refl

vote_read : (deal : List ℕ) (vote : Outcome) (ws : Words) → AreSpelled (Named deal ∷ Fixed (outcome_text vote) ∷ []) ws → vote_after ws ≡ Some (Vote deal vote)
unfolding vote_after
vote_read deal vote ws s =
    let a = split s in
    let b = split a.behind in
    rw (name_read a.front, outcome_read vote b.front, end_of b.behind) refl

bytes_read : (message : List ℕ) (ws : Words) → AreSpelled (Hexadecimal message ∷ []) ws → bytes_after ws ≡ Some (Bytes message)
unfolding bytes_after
bytes_read message ws s =
    let a = split s in
    rw (a.front.words, hex_again_read message a.front.word a.front.spells, end_of a.behind) refl

pub text_read : (x : ForgedText) (words : Words) → SaysText x words → forged_text words ≡ Some x
text_read (Register deal) words s = begun say.Register (Register deal) s (λ rest r. rw (one_name_read r) refl)
text_read (Pay ledger to asset amount) words s = begun say.Pay (Pay ledger to asset amount) s (λ rest r. rw (three_names_amount_read r) refl)
text_read (Escrow deal ledger asset amount) words s = begun say.Escrow (Escrow deal ledger asset amount) s (λ rest r. rw (three_names_amount_read r) refl)
text_read (Transfer deal ledger turn to asset amount) words s = begun say.Transfer (Transfer deal ledger turn to asset amount) s (λ rest r. transfer_read deal ledger turn to asset amount rest r)
text_read (Start deal) words s = begun say.Start (Start deal) s (λ rest r. rw (one_name_read r) refl)
text_read (Vote deal vote) words s = begun say.Vote (Vote deal vote) s (λ rest r. vote_read deal vote rest r)
text_read (Prefix set log) words s = begun say.Prefix (Prefix set log) s (λ rest r. rw (two_names_read r) refl)
text_read (Handover set log next) words s = begun say.Handover (Handover set log next) s (λ rest r. rw (three_names_read r) refl)
text_read (Status set deal log len outcome) words s = begun say.Status (Status set deal log len outcome) s (λ rest r. rw (three_names_number_outcome_read outcome r) refl)
text_read (Bytes message) words s = begun say.Bytes (Bytes message) s (λ rest r. bytes_read message rest r)
