-- What a line that happens says is spelled by its words, and what is spelled so is read.
use Rattle.std.proofs.Common.{◌≡◌, ℕ, Option, Some, None, List, [], ◌∷◌, map, refl, ap, subst, ◌∙◌}
use Rattle.std.specs.Prelude.{codes, option_map}
use Rattle.line_text.specs.Reading.{◌>>=◌, name_word, ended}
use Rattle.line_text.proofs.WordReading.{Words, bind_some, some_is, read_end}
use Rattle.script_lines.specs.WordLists.{names_only}
use Rattle.house_words.specs.Keywords.{event_text}
use Rattle.house_words.specs.Spelled.{LineWord, Fixed, Named, LongNumber, named_if_any}
use Rattle.house_words.specs.Tails.{one_name, two_names, three_names, name_number_name, two_names_number_name, name_if_any}
use Rattle.house_words.specs.WordKinds.{one_of, number_u64_word}
use Rattle.house_words.proofs.TailFound.{one_name_found, two_names_found, three_names_found, name_number_name_found, two_names_number_name_found, names_found, name_if_any_found}
use Rattle.house_words.proofs.TailRead.{one_name_read, two_names_read, three_names_read, name_number_name_read, two_names_number_name_read, names_read, name_if_any_read}
use Rattle.house_words.proofs.WordFronts.{AreSpelled, front_spells, end_spells, split, end_of, name_front, name_read, long_front, long_read, one_front, fixed_spells, fixed_front, made}
use Rattle.house_words.specs.declared.keyword.EventKeyword.{EventKeyword}
use Rattle.house_words.specs.declared.keyword.EventKeyword.TheVariants as happen
use Rattle.house_grammar.specs.Said.{line_of_words}
use Rattle.house_grammar.specs.SaidEvents.{ask_after, join_after, tick_after, install_after, stop_after, event_after}
use Rattle.house_grammar.specs.Spelling.{stop_text, event_words}
use Rattle.house_grammar.specs.declared.event.Event.{Event}
use Rattle.house_grammar.specs.declared.event.Event.TheVariants.{Deliver, Show, Ask, Join, Next, Again, Start, Commit, Abort, Tick, Hear, Enter, Prefix, Handover, Install, Fail, Stop, Reopen, Status}
use Rattle.house_grammar.specs.declared.event.StopSide.{StopSide}
use Rattle.house_grammar.specs.declared.event.StopSide.TheVariants.{Before, After}
use Rattle.house_grammar.specs.declared.house_line.HouseLine.TheVariants.{Happen}
use Rattle.house_grammar.proofs.KeywordFronts.{event_front}

abbrev pub Tells : Event → Words → Type 0
Tells event words = AreSpelled (event_words event) words

-- ---- what is read

ask_found : (ws : Words) (x : Event) → ask_after ws ≡ Some x → Tells x (codes "ask" ∷ ws)
unfolding ask_after
ask_found ws x e =
    let a = bind_some (name_word ws) _ x e in
    let b = bind_some (name_word a.0.1) _ x a.2 in
    let c = bind_some (name_word b.0.1) _ x b.2 in
    let l = bind_some (name_word c.0.1) _ x c.2 in
    let z = read_end l.0.1 (Ask a.0.0 b.0.0 c.0.0 l.0.0) x l.2 in
    subst (λ (y : Event). Tells y (codes "ask" ∷ ws)) z.1
    (fixed_spells (codes "ask")
    (front_spells (name_front ws a.0 a.1) (front_spells (name_front _ b.0 b.1) (front_spells (name_front _ c.0 c.1) (front_spells (name_front _ l.0 l.1) (end_spells z.0))))))

join_found : (ws : Words) (x : Event) → join_after ws ≡ Some x → Tells x (codes "join" ∷ ws)
unfolding join_after
join_found ws x e =
    let a = bind_some (name_word ws) _ x e in
    let b = bind_some (name_word a.0.1) _ x a.2 in
    let c = bind_some (number_u64_word b.0.1) _ x b.2 in
    let l = bind_some (name_if_any c.0.1) (λ terms. Some (Join a.0.0 b.0.0 c.0.0 terms)) x c.2 in
    subst (λ (y : Event). Tells y (codes "join" ∷ ws)) (some_is (Join a.0.0 b.0.0 c.0.0 l.0) x l.2)
    (fixed_spells (codes "join")
    (front_spells (name_front ws a.0 a.1) (front_spells (name_front _ b.0 b.1) (front_spells (long_front _ c.0 c.1) (name_if_any_found c.0.1 l.0 l.1)))))

tick_found : (ws : Words) (x : Event) → tick_after ws ≡ Some x → Tells x (codes "tick" ∷ ws)
unfolding tick_after
tick_found ws x e =
    let a = bind_some (name_word ws) _ x e in
    let b = bind_some (name_word a.0.1) _ x a.2 in
    let c = bind_some (number_u64_word b.0.1) _ x b.2 in
    let l = bind_some (name_word c.0.1) _ x c.2 in
    let z = read_end l.0.1 (Tick a.0.0 b.0.0 c.0.0 l.0.0) x l.2 in
    subst (λ (y : Event). Tells y (codes "tick" ∷ ws)) z.1
    (fixed_spells (codes "tick")
    (front_spells (name_front ws a.0 a.1) (front_spells (name_front _ b.0 b.1) (front_spells (long_front _ c.0 c.1) (front_spells (name_front _ l.0 l.1) (end_spells z.0))))))

install_found : (ws : Words) (x : Event) → install_after ws ≡ Some x → Tells x (codes "install" ∷ ws)
unfolding install_after
install_found ws x e =
    let a = bind_some (name_word ws) _ x e in
    let b = bind_some (name_word a.0.1) _ x a.2 in
    let c = bind_some (names_only b.0.1) (λ deals. Some (Install a.0.0 b.0.0 deals)) x b.2 in
    subst (λ (y : Event). Tells y (codes "install" ∷ ws)) (some_is (Install a.0.0 b.0.0 c.0) x c.2)
    (fixed_spells (codes "install")
    (front_spells (name_front ws a.0 a.1) (front_spells (name_front _ b.0 b.1) (names_found b.0.1 c.0 c.1))))

stop_found : (ws : Words) (x : Event) → stop_after ws ≡ Some x → Tells x (codes "stop" ∷ ws)
unfolding stop_after
stop_found ws x e =
    let a = bind_some (name_word ws) _ x e in
    let b = bind_some (one_of (codes "before") Before (codes "after") After a.0.1) _ x a.2 in
    let z = read_end b.0.1 (Stop a.0.0 b.0.0) x b.2 in
    subst (λ (y : Event). Tells y (codes "stop" ∷ ws)) z.1
    (fixed_spells (codes "stop")
    (front_spells (name_front ws a.0 a.1) (front_spells (one_front (λ (d : StopSide). Fixed (stop_text d)) (codes "before") Before (codes "after") After a.0.1 b.0 refl refl b.1) (end_spells z.0))))

pub event_found : (k : EventKeyword) (ws : Words) (x : Event) → event_after k ws ≡ Some x → Tells x (event_text k ∷ ws)
event_found happen.Deliver ws x e = made (λ y. Tells y (codes "deliver" ∷ ws)) (λ (s : List ℕ × List ℕ). Deliver s.0 s.1) (two_names ws) x (λ s h. fixed_spells (codes "deliver") (two_names_found ws s h)) e
event_found happen.Show ws x e = made (λ y. Tells y (codes "show" ∷ ws)) (λ (s : List ℕ × List ℕ × List ℕ). Show s.0 s.1 s.2) (three_names ws) x (λ s h. fixed_spells (codes "show") (three_names_found ws s h)) e
event_found happen.Ask ws x e = ask_found ws x e
event_found happen.Join ws x e = join_found ws x e
event_found happen.Next ws x e = made (λ y. Tells y (codes "next" ∷ ws)) (λ (s : List ℕ × List ℕ × List ℕ). Next s.0 s.1 s.2) (three_names ws) x (λ s h. fixed_spells (codes "next") (three_names_found ws s h)) e
event_found happen.Again ws x e = made (λ y. Tells y (codes "again" ∷ ws)) (λ (s : List ℕ × List ℕ × Option ℕ × List ℕ). Again s.0 s.1 s.2 s.3) (two_names_number_name ws) x (λ s h. fixed_spells (codes "again") (two_names_number_name_found ws s h)) e
event_found happen.Start ws x e = made (λ y. Tells y (codes "start" ∷ ws)) (λ (s : List ℕ × List ℕ × List ℕ). Start s.0 s.1 s.2) (three_names ws) x (λ s h. fixed_spells (codes "start") (three_names_found ws s h)) e
event_found happen.Commit ws x e = made (λ y. Tells y (codes "commit" ∷ ws)) (λ (s : List ℕ × List ℕ × List ℕ). Commit s.0 s.1 s.2) (three_names ws) x (λ s h. fixed_spells (codes "commit") (three_names_found ws s h)) e
event_found happen.Abort ws x e = made (λ y. Tells y (codes "abort" ∷ ws)) (λ (s : List ℕ × List ℕ × List ℕ). Abort s.0 s.1 s.2) (three_names ws) x (λ s h. fixed_spells (codes "abort") (three_names_found ws s h)) e
event_found happen.Tick ws x e = tick_found ws x e
event_found happen.Hear ws x e = made (λ y. Tells y (codes "hear" ∷ ws)) (λ (s : List ℕ × List ℕ). Hear s.0 s.1) (two_names ws) x (λ s h. fixed_spells (codes "hear") (two_names_found ws s h)) e
event_found happen.Enter ws x e = made (λ y. Tells y (codes "enter" ∷ ws)) (λ (s : List ℕ × Option ℕ × List ℕ). Enter s.0 s.1 s.2) (name_number_name ws) x (λ s h. fixed_spells (codes "enter") (name_number_name_found ws s h)) e
event_found happen.Prefix ws x e = made (λ y. Tells y (codes "prefix" ∷ ws)) (λ (s : List ℕ × Option ℕ × List ℕ). Prefix s.0 s.1 s.2) (name_number_name ws) x (λ s h. fixed_spells (codes "prefix") (name_number_name_found ws s h)) e
event_found happen.Handover ws x e = made (λ y. Tells y (codes "handover" ∷ ws)) (λ (s : List ℕ × List ℕ × Option ℕ × List ℕ). Handover s.0 s.1 s.2 s.3) (two_names_number_name ws) x (λ s h. fixed_spells (codes "handover") (two_names_number_name_found ws s h)) e
event_found happen.Install ws x e = install_found ws x e
event_found happen.Fail ws x e = made (λ y. Tells y (codes "fail" ∷ ws)) (λ (s : List ℕ). Fail s) (one_name ws) x (λ s h. fixed_spells (codes "fail") (one_name_found ws s h)) e
event_found happen.Stop ws x e = stop_found ws x e
event_found happen.Reopen ws x e = made (λ y. Tells y (codes "reopen" ∷ ws)) (λ (s : List ℕ). Reopen s) (one_name ws) x (λ s h. fixed_spells (codes "reopen") (one_name_found ws s h)) e
event_found happen.Status ws x e = made (λ y. Tells y (codes "status" ∷ ws)) (λ (s : List ℕ × List ℕ × List ℕ). Status s.0 s.1 s.2) (three_names ws) x (λ s h. fixed_spells (codes "status") (three_names_found ws s h)) e

-- ---- what is spelled

begun : (k : EventKeyword) {values : List LineWord} {words : Words} (x : Event) → AreSpelled (Fixed (event_text k) ∷ values) words → ((rest : Words) → AreSpelled values rest → event_after k rest ≡ Some x) → line_of_words words ≡ Some (Happen x)
begun k x s read =
    let a = split s in
    ap line_of_words (fixed_front a.front) ∙ (event_front k a.rest ∙ ap (option_map Happen) (read a.rest a.behind))

ask_read : (statement ledger deal party : List ℕ) (ws : Words) → AreSpelled (Named statement ∷ Named ledger ∷ Named deal ∷ Named party ∷ []) ws → ask_after ws ≡ Some (Ask statement ledger deal party)
unfolding ask_after
ask_read statement ledger deal party ws s =
    let a = split s in
    let b = split a.behind in
    let c = split b.behind in
    let l = split c.behind in
    rw (name_read a.front, name_read b.front, name_read c.front, name_read l.front, end_of l.behind) refl

join_read : (party deal : List ℕ) (deadline : Option ℕ) (terms : Option (List ℕ)) (ws : Words) → AreSpelled (Named party ∷ Named deal ∷ LongNumber deadline ∷ named_if_any terms) ws → join_after ws ≡ Some (Join party deal deadline terms)
unfolding join_after
join_read party deal deadline terms ws s =
    let a = split s in
    let b = split a.behind in
    let c = split b.behind in
    rw (name_read a.front, name_read b.front, long_read c.front, name_if_any_read terms c.rest c.behind) refl

tick_read : (party deal : List ℕ) (time : Option ℕ) (envelope : List ℕ) (ws : Words) → AreSpelled (Named party ∷ Named deal ∷ LongNumber time ∷ Named envelope ∷ []) ws → tick_after ws ≡ Some (Tick party deal time envelope)
unfolding tick_after
tick_read party deal time envelope ws s =
    let a = split s in
    let b = split a.behind in
    let c = split b.behind in
    let l = split c.behind in
    rw (name_read a.front, name_read b.front, long_read c.front, name_read l.front, end_of l.behind) refl

install_read : (seat claim : List ℕ) (deals ws : Words) → AreSpelled (Named seat ∷ Named claim ∷ map Named deals) ws → install_after ws ≡ Some (Install seat claim deals)
unfolding install_after
install_read seat claim deals ws s =
    let a = split s in
    let b = split a.behind in
    let read : names_only b.rest ≡ Some deals = names_read deals b.rest b.behind in
    rw (name_read a.front, name_read b.front, read) refl

side_again : (side : StopSide) (rest : Words) → one_of (codes "before") Before (codes "after") After (stop_text side ∷ rest) ≡ Some (side, rest)
unfolding one_of
side_again Before rest = refl
side_again After rest = refl

stop_read : (node : List ℕ) (side : StopSide) (ws : Words) → AreSpelled (Named node ∷ Fixed (stop_text side) ∷ []) ws → stop_after ws ≡ Some (Stop node side)
unfolding stop_after
stop_read node side ws s =
    let a = split s in
    let b = split a.behind in
    let read : one_of (codes "before") Before (codes "after") After a.rest ≡ Some (side, b.rest) = ap (one_of (codes "before") Before (codes "after") After) (fixed_front b.front) ∙ side_again side b.rest in
    rw (name_read a.front, read, end_of b.behind) refl

pub event_read : (x : Event) (words : Words) → Tells x words → line_of_words words ≡ Some (Happen x)
event_read (Deliver ledger envelope) words s = begun happen.Deliver (Deliver ledger envelope) s (λ rest r. rw (two_names_read r) refl)
event_read (Show ledger deal claim) words s = begun happen.Show (Show ledger deal claim) s (λ rest r. rw (three_names_read r) refl)
event_read (Ask statement ledger deal party) words s = begun happen.Ask (Ask statement ledger deal party) s (λ rest r. ask_read statement ledger deal party rest r)
event_read (Join party deal deadline terms) words s = begun happen.Join (Join party deal deadline terms) s (λ rest r. join_read party deal deadline terms rest r)
event_read (Next party deal envelope) words s = begun happen.Next (Next party deal envelope) s (λ rest r. rw (three_names_read r) refl)
event_read (Again party deal act envelope) words s = begun happen.Again (Again party deal act envelope) s (λ rest r. rw (two_names_number_name_read r) refl)
event_read (Start party deal envelope) words s = begun happen.Start (Start party deal envelope) s (λ rest r. rw (three_names_read r) refl)
event_read (Commit party deal envelope) words s = begun happen.Commit (Commit party deal envelope) s (λ rest r. rw (three_names_read r) refl)
event_read (Abort party deal envelope) words s = begun happen.Abort (Abort party deal envelope) s (λ rest r. rw (three_names_read r) refl)
event_read (Tick party deal time envelope) words s = begun happen.Tick (Tick party deal time envelope) s (λ rest r. tick_read party deal time envelope rest r)
event_read (Hear party statement) words s = begun happen.Hear (Hear party statement) s (λ rest r. rw (two_names_read r) refl)
event_read (Enter seat at envelope) words s = begun happen.Enter (Enter seat at envelope) s (λ rest r. rw (name_number_name_read r) refl)
event_read (Prefix seat len envelope) words s = begun happen.Prefix (Prefix seat len envelope) s (λ rest r. rw (name_number_name_read r) refl)
event_read (Handover seat set len envelope) words s = begun happen.Handover (Handover seat set len envelope) s (λ rest r. rw (two_names_number_name_read r) refl)
event_read (Install seat claim deals) words s = begun happen.Install (Install seat claim deals) s (λ rest r. install_read seat claim deals rest r)
event_read (Fail node) words s = begun happen.Fail (Fail node) s (λ rest r. rw (one_name_read r) refl)
event_read (Stop node side) words s = begun happen.Stop (Stop node side) s (λ rest r. stop_read node side rest r)
event_read (Reopen node) words s = begun happen.Reopen (Reopen node) s (λ rest r. rw (one_name_read r) refl)
event_read (Status seat deal envelope) words s = begun happen.Status (Status seat deal envelope) s (λ rest r. rw (three_names_read r) refl)
