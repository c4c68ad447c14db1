-- What a line that declares says is spelled by its words, and what is spelled so is read.
use Rattle.std.proofs.Common.{◌≡◌, ℕ, Option, Some, None, List, [], ◌∷◌, length, map, refl, ap, subst, ◌∙◌, IsTrue}
use Rattle.std.specs.Prelude.{codes, option_map, nat_le}
use Rattle.line_text.specs.Reading.{◌>>=◌, name_word, amount_word, ended}
use Rattle.line_text.proofs.WordReading.{Words, bind_some, some_is, read_end}
use Rattle.house_words.specs.Keywords.{declaration_text}
use Rattle.house_words.specs.Spelled.{LineWord, Fixed, Named, Number, Amount}
use Rattle.house_words.specs.Tails.{one_name, three_names_amount, name_two_numbers, names_from}
use Rattle.house_words.proofs.TailFound.{one_name_found, three_names_amount_found, name_two_numbers_found, names_from_found}
use Rattle.house_words.proofs.TailRead.{one_name_read, three_names_amount_read, name_two_numbers_read, names_from_read}
use Rattle.house_words.proofs.WordFronts.{AreSpelled, front_spells, end_spells, split, end_of, name_front, name_read, amount_front, amount_read, fixed_spells, fixed_front, made}
use Rattle.house_words.specs.declared.keyword.DeclarationKeyword.{DeclarationKeyword}
use Rattle.house_words.specs.declared.keyword.DeclarationKeyword.TheVariants as declare
use Rattle.house_grammar.specs.Holders.{name_conduct_size}
use Rattle.house_grammar.specs.Said.{line_of_words}
use Rattle.house_grammar.specs.SaidDeclarations.{set_after, deal_after, step_after, declaration_after}
use Rattle.house_grammar.specs.Spelling.{declaration_words, declares_enough}
use Rattle.house_grammar.specs.declared.declaration.Declaration.{Declaration}
use Rattle.house_grammar.specs.declared.declaration.Declaration.TheVariants.{Party, Seat, Set, Ledger, Open, Deal, Step}
use Rattle.house_grammar.specs.declared.holder_line.Conduct.{Conduct}
use Rattle.house_grammar.specs.declared.holder_line.KeySize.{KeySize}
use Rattle.house_grammar.specs.declared.house_line.HouseLine.TheVariants.{Declare}
use Rattle.house_grammar.proofs.HolderReading.{name_conduct_size_found, name_conduct_size_read}
use Rattle.house_grammar.proofs.KeywordFronts.{declaration_front}

-- the words say the declaration
abbrev pub Declares : Declaration → Words → Type 0
Declares d words = IsTrue (declares_enough d) × AreSpelled (declaration_words d) words

-- ---- what is read

set_found : (ws : Words) (x : Declaration) → set_after ws ≡ Some x → Declares x (codes "set" ∷ ws)
unfolding set_after
set_found ws x e =
    let a = bind_some (name_two_numbers ws) _ x e in
    let b = bind_some (names_from 1 a.0.1) (λ seats. Some (Set a.0.0.0 a.0.0.1 a.0.0.2 seats)) x a.2 in
    let seats = names_from_found 1 a.0.1 b.0 b.1 in
    subst (λ (y : Declaration). Declares y (codes "set" ∷ ws)) (some_is (Set a.0.0.0 a.0.0.1 a.0.0.2 b.0) x b.2)
    (seats.1, fixed_spells (codes "set") (name_two_numbers_found ws a.0 a.1 (map Named b.0) seats.0))

deal_found : (ws : Words) (x : Declaration) → deal_after ws ≡ Some x → Declares x (codes "deal" ∷ ws)
unfolding deal_after
deal_found ws x e =
    let a = bind_some (name_word ws) _ x e in
    let b = bind_some (names_from 2 a.0.1) (λ parties. Some (Deal a.0.0 parties)) x a.2 in
    let parties = names_from_found 2 a.0.1 b.0 b.1 in
    subst (λ (y : Declaration). Declares y (codes "deal" ∷ ws)) (some_is (Deal a.0.0 b.0) x b.2)
    (parties.1, fixed_spells (codes "deal") (front_spells (name_front ws a.0 a.1) parties.0))

step_found : (ws : Words) (x : Declaration) → step_after ws ≡ Some x → Declares x (codes "step" ∷ ws)
unfolding step_after
step_found ws x e =
    let a = bind_some (name_word ws) _ x e in
    let b = bind_some (name_word a.0.1) _ x a.2 in
    let c = bind_some (name_word b.0.1) _ x b.2 in
    let l = bind_some (name_word c.0.1) _ x c.2 in
    let s = bind_some (name_word l.0.1) _ x l.2 in
    let m = bind_some (amount_word s.0.1) _ x s.2 in
    let z = read_end m.0.1 (Step a.0.0 b.0.0 c.0.0 l.0.0 s.0.0 m.0.0) x m.2 in
    subst (λ (y : Declaration). Declares y (codes "step" ∷ ws)) z.1 (
      refl,
      fixed_spells (codes "step")
          (front_spells (name_front ws a.0 a.1) (front_spells (name_front _ b.0 b.1) (front_spells (name_front _ c.0 c.1) (front_spells (name_front _ l.0 l.1) (front_spells (name_front _ s.0 s.1) (front_spells (amount_front _ m.0 m.1) (end_spells z.0))))))),
    )

pub declaration_found : (k : DeclarationKeyword) (ws : Words) (x : Declaration) → declaration_after k ws ≡ Some x → Declares x (declaration_text k ∷ ws)
declaration_found declare.Party ws x e = made (λ y. Declares y (codes "party" ∷ ws)) (λ (s : List ℕ × Conduct × KeySize). Party s.0 s.1 s.2) (name_conduct_size ws) x (λ s h. (refl, fixed_spells (codes "party") (name_conduct_size_found ws s h))) e
declaration_found declare.Seat ws x e = made (λ y. Declares y (codes "seat" ∷ ws)) (λ (s : List ℕ × Conduct × KeySize). Seat s.0 s.1 s.2) (name_conduct_size ws) x (λ s h. (refl, fixed_spells (codes "seat") (name_conduct_size_found ws s h))) e
declaration_found declare.Set ws x e = set_found ws x e
declaration_found declare.Ledger ws x e = made (λ y. Declares y (codes "ledger" ∷ ws)) (λ (s : List ℕ). Ledger s) (one_name ws) x (λ s h. (refl, fixed_spells (codes "ledger") (one_name_found ws s h))) e
declaration_found declare.Open ws x e = made (λ y. Declares y (codes "open" ∷ ws)) (λ (s : List ℕ × List ℕ × List ℕ × ℕ). Open s.0 s.1 s.2 s.3) (three_names_amount ws) x (λ s h. (refl, fixed_spells (codes "open") (three_names_amount_found ws s h))) e
declaration_found declare.Deal ws x e = deal_found ws x e
declaration_found declare.Step ws x e = step_found ws x e

-- ---- what is spelled

begun : (k : DeclarationKeyword) {values : List LineWord} {words : Words} (d : Declaration) → AreSpelled (Fixed (declaration_text k) ∷ values) words → ((rest : Words) → AreSpelled values rest → declaration_after k rest ≡ Some d) → line_of_words words ≡ Some (Declare d)
begun k d s read =
    let a = split s in
    ap line_of_words (fixed_front a.front) ∙ (declaration_front k a.rest ∙ ap (option_map Declare) (read a.rest a.behind))

set_read : (name : List ℕ) (epoch faults : Option ℕ) (seats ws : Words) → IsTrue (nat_le 1 (length seats)) → AreSpelled (Named name ∷ Number epoch ∷ Number faults ∷ map Named seats) ws → set_after ws ≡ Some (Set name epoch faults seats)
unfolding set_after
set_read name epoch faults seats ws enough s =
    let a = name_two_numbers_read s in
    rw (a.taken, names_from_read 1 seats a.rest a.behind enough) refl

deal_read : (name : List ℕ) (parties ws : Words) → IsTrue (nat_le 2 (length parties)) → AreSpelled (Named name ∷ map Named parties) ws → deal_after ws ≡ Some (Deal name parties)
unfolding deal_after
deal_read name parties ws enough s =
    let a = split s in
    rw (name_read a.front, names_from_read 2 parties a.rest a.behind enough) refl

step_read : (deal from to ledger asset : List ℕ) (amount : ℕ) (ws : Words) → AreSpelled (Named deal ∷ Named from ∷ Named to ∷ Named ledger ∷ Named asset ∷ Amount amount ∷ []) ws → step_after ws ≡ Some (Step deal from to ledger asset amount)
unfolding step_after
step_read deal from to ledger asset amount ws s =
    let a = split s in
    let b = split a.behind in
    let c = split b.behind in
    let l = split c.behind in
    let t = split l.behind in
    let m = split t.behind in
    rw (name_read a.front, name_read b.front, name_read c.front, name_read l.front, name_read t.front, amount_read m.front, end_of m.behind) refl

pub declaration_read : (d : Declaration) (words : Words) → Declares d words → line_of_words words ≡ Some (Declare d)
declaration_read (Party name conduct size) words h = begun declare.Party (Party name conduct size) h.1 (λ rest r. rw (name_conduct_size_read name conduct size rest r) refl)
declaration_read (Seat name conduct size) words h = begun declare.Seat (Seat name conduct size) h.1 (λ rest r. rw (name_conduct_size_read name conduct size rest r) refl)
declaration_read (Set name epoch faults seats) words h = begun declare.Set (Set name epoch faults seats) h.1 (λ rest r. set_read name epoch faults seats rest h.0 r)
declaration_read (Ledger name) words h = begun declare.Ledger (Ledger name) h.1 (λ rest r. rw (one_name_read r) refl)
declaration_read (Open ledger asset party amount) words h = begun declare.Open (Open ledger asset party amount) h.1 (λ rest r. rw (three_names_amount_read r) refl)
declaration_read (Deal name parties) words h = begun declare.Deal (Deal name parties) h.1 (λ rest r. deal_read name parties rest h.0 r)
declaration_read (Step deal from to ledger asset amount) words h = begun declare.Step (Step deal from to ledger asset amount) h.1 (λ rest r. step_read deal from to ledger asset amount rest r)
