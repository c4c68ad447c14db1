-- The text of a deal is read as that deal's.
use Rattle.std.proofs.Common.{◌≡◌, ℕ, zero, suc, ◌+◌, ◌-◌, ◌^◌, ◌≤◌, ◌<◌, Bool, true, false, cond, not, ◌&&◌, ◌||◌, leb, map, Option, Some, None, List, [], ◌∷◌, ◌++◌, length, Ok, arith, append_assoc, refl, sym, ap, subst, ◌∙◌, IsTrue}
use Rattle.std.specs.Prelude.{codes}
use Rattle.std.specs.List.{list_any, AllByRecursion}
use Rattle.std.specs.Option.{unwrap_or}
use Rattle.std.specs.Str.{bytes_eq}
use Rattle.std.proofs.lemmas.Bool.{lt-leb, le-leb, le-ltb, ne_eqb, or_parts}
use Rattle.std.proofs.lemmas.List.{append-nil, length-append}
use Rattle.std.proofs.lemmas.List.Folds.{list_any-append}
use Rattle.std.proofs.lemmas.List.Sums.{sum_by-append, sum_by-cons}
use Rattle.std.proofs.lemmas.Slice.Eq.{bytes_eq-Decides}
use Rattle.dh_base.specs.Names.{is_name}
use Rattle.dh_base.specs.declared.id.Id.{Id}
use Rattle.line_text.specs.Bytes.{lacks}
use Rattle.line_text.specs.IdWords.{IsId}
use Rattle.line_text.specs.Lines.{Line, lines_of, ended_line, spelled_lines}
use Rattle.line_text.specs.Words.{spelled_words}
use Rattle.deal_core.specs.Deals.{DealTold, is_of, is_named, amount_if, total_of, party_where}
use Rattle.deal_core.specs.DealText.{party_name, party_words, step_words, deal_words, deal_text, IsSpellable}
use Rattle.deal_core.specs.Kept.{AreNewBehind, is_on, new_ledgers, ledger_count, IsStepOf, IsDraft, IsDeal}
use Rattle.deal_core.specs.Drafts.{Draft, no_lines, is_empty, party_fault, is_party, step_fault, said_fault, index_in, with_indices, with_line, reading_behind, reading_of}
use Rattle.deal_core.specs.Reading.{draft_of}
use Rattle.deal_core.specs.declared.party.Party.{Party}
use Rattle.deal_core.specs.declared.step.Step.{Step}
use Rattle.deal_core.specs.declared.deal_line.NamedStep.{NamedStep}
use Rattle.deal_core.specs.declared.deal_line.DealLine.{DealLine}
use Rattle.deal_core.specs.declared.deal_line.DealLine.TheVariants as line
use Rattle.deal_core.proofs.Drafting.{IsGoodStep, chosen, otherwise}
use Rattle.deal_core.proofs.Finishing.{made}
use Rattle.line_text.proofs.Joining.{lines_of-spelled}
use Rattle.line_text.proofs.WordReading.{Words}
use Rattle.deal_core.proofs.SaidReading.{said_words}
use Rattle.deal_core.proofs.SaidAgain.{IsGoodLine, line_again, line_lacks}

-- ---- the names of parties

-- the name of each party is none of those before, and not that of the next one before it
new_at : (before ps : List Party) → AreNewBehind before ps → (j : ℕ) → j < length ps → list_any (is_named (party_name ps j)) before ≡ false
new_at before [] h j lt = absurd (omega (arith, lt))
new_at before (p ∷ ps) h zero lt = h.0
new_at before (p ∷ ps) h (suc j) lt = (or_parts _ _ (sym (list_any-append (is_named (party_name ps j)) before (p ∷ [])) ∙ new_at (before ++ p ∷ []) ps h.2 j (omega (arith, lt)))).0

other_named : (before : List Party) (p : Party) (ps : List Party) → AreNewBehind before (p ∷ ps) → (j : ℕ) → j < length ps → is_named (party_name ps j) p ≡ false
other_named before p ps h j lt =
    let both = or_parts _ _ (sym (list_any-append (is_named (party_name ps j)) before (p ∷ [])) ∙ new_at (before ++ p ∷ []) ps h.2 j lt) in
    (or_parts (is_named (party_name ps j) p) false both.1).0

same_name : (name : List ℕ) → bytes_eq name name ≡ true
same_name name = (bytes_eq-Decides name name).1 refl

index_found : (before ps : List Party) → AreNewBehind before ps → (first j : ℕ) → j < length ps → party_where (is_named (party_name ps j)) first ps ≡ Some (first + j)
index_found before [] h first j lt = absurd (omega (arith, lt))
index_found before (p ∷ ps) h first zero lt = chosen (is_named p.name p) (Some first) _ (same_name p.name) ∙ ap (λ k. Some k) (omega arith)
index_found before (p ∷ ps) h first (suc j) lt =
    otherwise (is_named (party_name ps j) p) (Some first) _ (other_named before p ps h j (omega (arith, lt))) ∙ (index_found (before ++ p ∷ []) ps h.2 (first + 1) j (omega (arith, lt)) ∙ ap (λ k. Some k) (omega arith))

index_is : (parties : List Party) → AreNewBehind [] parties → (j : ℕ) → j < length parties → index_in parties (party_name parties j) ≡ j
index_is parties h j lt = ap (λ (o : Option ℕ). unwrap_or o 0) (index_found [] parties h 0 j lt) ∙ omega arith

or_true : (a b : Bool) → b ≡ true → (a || b) ≡ true
or_true true b h = refl
or_true false b h = h

known : (ps : List Party) (j : ℕ) → j < length ps → is_party ps (party_name ps j) ≡ true
known [] j lt = absurd (omega (arith, lt))
known (p ∷ ps) zero lt = rw (same_name p.name) refl
known (p ∷ ps) (suc j) lt = or_true (is_named (party_name ps j) p) _ (known ps j (omega (arith, lt)))

names_differ : (parties : List Party) → AreNewBehind [] parties → (i j : ℕ) → i < length parties → j < length parties → (i ≡ j → ⊥) → bytes_eq (party_name parties i) (party_name parties j) ≡ false
names_differ parties h i j li lj apart = by_test (bytes_eq (party_name parties i) (party_name parties j)) refl
  where
    by_test : (b : Bool) → bytes_eq (party_name parties i) (party_name parties j) ≡ b → b ≡ false
    by_test false e = refl
    by_test true e = absurd (apart (sym (index_is parties h i li) ∙ (ap (index_in parties) ((bytes_eq-Decides (party_name parties i) (party_name parties j)).0 e) ∙ index_is parties h j lj)))

-- ---- a step of a deal has no fault

named : List Party → Step → NamedStep
named parties step = record { from = party_name parties step.from; to = party_name parties step.to; ledger = step.ledger; asset = step.asset; amount = step.amount }

all_here : {X : Type 0} (P : X → Type 0) (xs : List X) (x : X) (ys : List X) → AllByRecursion P (xs ++ x ∷ ys) → P x
all_here P [] x ys h = h.0
all_here P (y ∷ xs) x ys h = all_here P xs x ys h.1

ledgers_append : (before xs ys : List Step) → new_ledgers before (xs ++ ys) ≡ new_ledgers before xs + new_ledgers (before ++ xs) ys
ledgers_append before [] ys = ap (λ (bs : List Step). new_ledgers bs ys) (sym (append-nil before)) ∙ omega arith
ledgers_append before (x ∷ xs) ys =
    let joined : (before ++ x ∷ []) ++ xs ≡ before ++ x ∷ xs = append_assoc before (x ∷ []) xs in
    let more : new_ledgers (before ++ x ∷ []) (xs ++ ys) ≡ new_ledgers (before ++ x ∷ []) xs + new_ledgers (before ++ x ∷ xs) ys = ledgers_append (before ++ x ∷ []) xs ys ∙ ap (λ (bs : List Step). new_ledgers (before ++ x ∷ []) xs + new_ledgers bs ys) joined in
    omega (arith, more)

no_ninth : (on : Bool) (count rest : ℕ) → count + (cond on 0 1 + rest) ≤ 8 → (not on && leb 8 count) ≡ false
no_ninth true count rest h = refl
no_ninth false count rest h = lt-leb 8 count (omega (arith, h))

moves_its_own : (step : Step) → amount_if (is_of step.ledger step.asset) step ≡ step.amount
moves_its_own step = rw (same_name step.ledger, same_name step.asset) refl

good_step : (parties : List Party) (front : List Step) (step : Step) (rest : List Step) → IsDraft parties (front ++ step ∷ rest) → IsGoodStep parties front (named parties step)
unfolding named
good_step parties front step rest kept =
    let s : IsStepOf (length parties) step = all_here (IsStepOf (length parties)) front step rest kept.between in
    let total : total_of (front ++ step ∷ rest) step.ledger step.asset ≡ total_of front step.ledger step.asset + (step.amount + total_of rest step.ledger step.asset) =
    sum_by-append (amount_if (is_of step.ledger step.asset)) front (step ∷ rest) ∙ ap (λ n. total_of front step.ledger step.asset + n) (sum_by-cons (amount_if (is_of step.ledger step.asset)) step rest ∙ ap (λ n. n + total_of rest step.ledger step.asset) (moves_its_own step)) in
    record {
      from = known parties step.from s.from;
      to = known parties step.to s.to;
      different = names_differ parties kept.different step.from step.to s.from s.to s.different;
      some = ne_eqb step.amount 0 (λ e. omega (arith, e, s.some));
      few = lt-leb 64 (length front) (omega (arith, kept.few_steps, length-append front (step ∷ rest)));
      ninth = no_ninth (is_on front step.ledger) (ledger_count front) (new_ledgers (front ++ step ∷ []) rest) (omega (arith, kept.few_ledgers, ledgers_append [] front (step ∷ rest)));
      small = le-ltb (2 ^ 63 - 1) (total_of front step.ledger step.asset + step.amount) (omega (arith, kept.totals step.ledger step.asset, total));
    }

no_fault : (n : ℕ) (parties : List Party) (steps : List Step) (step : NamedStep) → IsGoodStep parties steps step → step_fault n parties steps step ≡ None
no_fault n parties steps step h = rw (h.from, h.to, h.different, h.some, h.few, h.ninth, h.small) refl

step_again : (parties : List Party) (step : Step) → AreNewBehind [] parties → step.from < length parties → step.to < length parties → with_indices parties (named parties step) ≡ step
unfolding named
step_again parties step h from to =
    ap (λ k. record { from = k; to = index_in parties (party_name parties step.to); ledger = step.ledger; asset = step.asset; amount = step.amount }) (index_is parties h step.from from)
    ∙ ap (λ k. record { from = step.from; to = k; ledger = step.ledger; asset = step.asset; amount = step.amount }) (index_is parties h step.to to)

-- ---- line by line

line_of : DealLine → Line
line_of said = ended_line (spelled_words (said_words said))

read_one : (draft : Draft) (said : DealLine) (rest : List Line) → IsGoodLine said → said_fault draft (Some said) ≡ None → reading_behind draft (line_of said ∷ rest) ≡ reading_behind (with_line draft said) rest
unfolding line_of
read_one draft said rest good none = rw (line_again said good) (rw none refl)

read_parties : (n : List ℕ) (h : Id) (front parties : List Party) (rest : List Line) → AreNewBehind front parties → length front + length parties ≤ 16 → AllByRecursion (λ party. IsTrue (is_name party.name) × IsId party.account) parties → reading_behind (made n h front []) (map line_of (map line.Party parties) ++ rest) ≡ reading_behind (made n h (front ++ parties) []) rest
read_parties n h front [] rest new few good = ap (λ (ps : List Party). reading_behind (made n h ps []) rest) (sym (append-nil front))
read_parties n h front (party ∷ parties) rest new few good =
    let room : leb 16 (length front) ≡ false = lt-leb 16 (length front) (omega (arith, few)) in
    let none : (k : ℕ) → party_fault k front party ≡ None = λ k. rw (new.0, new.1, room) refl in
    let joined : (front ++ party ∷ []) ++ parties ≡ front ++ party ∷ parties = append_assoc front (party ∷ []) parties in
    read_one (made n h front []) (line.Party party) (map line_of (map line.Party parties) ++ rest) good.0 (none _)
    ∙ (read_parties n h (front ++ party ∷ []) parties rest new.2 (omega (arith, few, length-append front (party ∷ []))) good.1
    ∙ ap (λ (ps : List Party). reading_behind (made n h ps []) rest) joined)

says_step : List Party → Step → DealLine
says_step parties step = line.Step (named parties step)

abbrev NamesGood : List Party → Type 0
NamesGood parties = (j : ℕ) → j < length parties → IsTrue (is_name (party_name parties j))

read_steps : (n : List ℕ) (h : Id) (parties : List Party) (front steps : List Step) → 2 ≤ length parties → is_empty (front ++ steps) ≡ false → IsDraft parties (front ++ steps) → NamesGood parties → AllByRecursion (λ step. IsTrue (is_name step.ledger) × IsTrue (is_name step.asset)) steps → reading_behind (made n h parties front) (map line_of (map (says_step parties) steps)) ≡ Ok (made n h parties (front ++ steps))
unfolding says_step named
read_steps n h parties front [] enough some kept names good =
    let all : front ++ [] ≡ front = append-nil front in
    let not_none : is_empty front ≡ false = ap is_empty (sym all) ∙ some in
    rw not_none (ap (λ (ss : List Step). Ok (made n h parties ss)) (sym all))
read_steps n h parties front (step ∷ steps) enough some kept names good =
    let s : IsStepOf (length parties) step = all_here (IsStepOf (length parties)) front step steps kept.between in
    let none : (k : ℕ) → step_fault k parties front (named parties step) ≡ None = λ k. no_fault k parties front (named parties step) (good_step parties front step steps kept) in
    let may : leb 2 (length parties) ≡ true = le-leb 2 (length parties) enough in
    let total : total_of (front ++ step ∷ steps) step.ledger step.asset ≡ total_of front step.ledger step.asset + (step.amount + total_of steps step.ledger step.asset) =
    sum_by-append (amount_if (is_of step.ledger step.asset)) front (step ∷ steps) ∙ ap (λ k. total_of front step.ledger step.asset + k) (sum_by-cons (amount_if (is_of step.ledger step.asset)) step steps ∙ ap (λ k. k + total_of steps step.ledger step.asset) (moves_its_own step)) in
    let line_good : IsGoodLine (line.Step (named parties step)) = (names step.from s.from, names step.to s.to, good.0.0, good.0.1, omega (arith, total, kept.totals step.ledger step.asset)) in
    let joined : (front ++ step ∷ []) ++ steps ≡ front ++ step ∷ steps = append_assoc front (step ∷ []) steps in
    read_one (made n h parties front) (line.Step (named parties step)) (map line_of (map (says_step parties) steps)) line_good (rw may (none _))
    ∙ (ap (λ (x : Step). reading_behind (made n h parties (front ++ x ∷ [])) (map line_of (map (says_step parties) steps))) (step_again parties step kept.different s.from s.to)
    ∙ (read_steps n h parties (front ++ step ∷ []) steps enough (ap is_empty joined ∙ some) (subst (IsDraft parties) (sym joined) kept) names good.1
    ∙ ap (λ (ss : List Step). Ok (made n h parties ss)) joined))

-- ---- the lines of a deal

abbrev deal_lines : DealTold → List DealLine
deal_lines deal = line.Deal deal.name ∷ line.House deal.house ∷ (map line.Party deal.parties ++ map (says_step deal.parties) deal.steps)

map_join : {X Y : Type 0} (f : X → Y) (xs ys : List X) → map f (xs ++ ys) ≡ map f xs ++ map f ys
map_join f [] ys = refl
map_join f (x ∷ xs) ys = ap (λ (zs : List _). f x ∷ zs) (map_join f xs ys)

parties_words : (parties : List Party) → map said_words (map line.Party parties) ≡ map party_words parties
parties_words [] = refl
parties_words (party ∷ parties) = ap (λ (ws : List Words). party_words party ∷ ws) (parties_words parties)

steps_words : (parties : List Party) (steps : List Step) → map said_words (map (says_step parties) steps) ≡ map (step_words parties) steps
unfolding says_step named
steps_words parties [] = refl
steps_words parties (step ∷ steps) = ap (λ (ws : List Words). step_words parties step ∷ ws) (steps_words parties steps)

lines_words : (deal : DealTold) → map said_words (deal_lines deal) ≡ deal_words deal
lines_words deal =
    ap (λ (ws : List Words). (codes "deal" ∷ deal.name ∷ []) ∷ said_words (line.House deal.house) ∷ ws) (map_join said_words (map line.Party deal.parties) (map (says_step deal.parties) deal.steps)
    ∙ (ap (λ (ws : List Words). ws ++ map said_words (map (says_step deal.parties) deal.steps)) (parties_words deal.parties) ∙ ap (λ (ws : List Words). map party_words deal.parties ++ ws) (steps_words deal.parties deal.steps)))

ended_lines : (saids : List DealLine) → map ended_line (map spelled_words (map said_words saids)) ≡ map line_of saids
unfolding line_of
ended_lines [] = refl
ended_lines (said ∷ saids) = ap (λ (ls : List Line). ended_line (spelled_words (said_words said)) ∷ ls) (ended_lines saids)

lines_lack : (saids : List DealLine) → AllByRecursion IsGoodLine saids → AllByRecursion (λ line. IsTrue (lacks 10 line)) (map spelled_words (map said_words saids))
lines_lack [] h = tt
lines_lack (said ∷ saids) h = (line_lacks said h.0, lines_lack saids h.1)

-- ---- what a deal spells is good

all_join : {X : Type 0} (P : X → Type 0) (xs ys : List X) → AllByRecursion P xs → AllByRecursion P ys → AllByRecursion P (xs ++ ys)
all_join P [] ys h k = k
all_join P (x ∷ xs) ys h k = (h.0, all_join P xs ys h.1 k)

parties_good : (parties : List Party) → AllByRecursion (λ party. IsTrue (is_name party.name) × IsId party.account) parties → AllByRecursion IsGoodLine (map line.Party parties)
parties_good [] h = tt
parties_good (party ∷ parties) h = ((h.0.0, h.0.1), parties_good parties h.1)

names_good : (parties : List Party) → AllByRecursion (λ party. IsTrue (is_name party.name) × IsId party.account) parties → NamesGood parties
names_good [] h j lt = absurd (omega (arith, lt))
names_good (party ∷ parties) h zero lt = h.0.0
names_good (party ∷ parties) h (suc j) lt = names_good parties h.1 j (omega (arith, lt))

steps_good : (parties : List Party) (steps : List Step) → NamesGood parties → AllByRecursion (IsStepOf (length parties)) steps → ((ledger asset : List ℕ) → total_of steps ledger asset < 2 ^ 63) → AllByRecursion (λ step. IsTrue (is_name step.ledger) × IsTrue (is_name step.asset)) steps → AllByRecursion IsGoodLine (map (says_step parties) steps)
unfolding says_step named
steps_good parties [] names between totals good = tt
steps_good parties (step ∷ steps) names between totals good =
    let total : (ledger asset : List ℕ) → total_of (step ∷ steps) ledger asset ≡ amount_if (is_of ledger asset) step + total_of steps ledger asset = λ ledger asset. sum_by-cons (amount_if (is_of ledger asset)) step steps in (
      (names step.from between.0.from, names step.to between.0.to, good.0.0, good.0.1, omega (arith, totals step.ledger step.asset, total step.ledger step.asset, moves_its_own step)),
      steps_good parties steps names between.1 (λ ledger asset. omega (arith, totals ledger asset, total ledger asset)) good.1,
    )

-- ---- all together

some_steps : (steps : List Step) → 1 ≤ length steps → is_empty steps ≡ false
some_steps [] h = absurd (omega (arith, h))
some_steps (step ∷ steps) h = refl

pub text_again : (deal : DealTold) → IsDeal deal → IsSpellable deal → reading_of (deal_text deal) ≡ Ok (draft_of deal)
text_again deal kept good =
    let names = names_good deal.parties good.parties in
    let all : AllByRecursion IsGoodLine (deal_lines deal) = (good.name, (good.house, all_join IsGoodLine (map line.Party deal.parties) (map (says_step deal.parties) deal.steps) (parties_good deal.parties good.parties) (steps_good deal.parties deal.steps names kept.kept.between kept.kept.totals good.steps))) in
    let text : deal_text deal ≡ spelled_lines (map spelled_words (map said_words (deal_lines deal))) = ap (λ (ws : List Words). spelled_lines (map spelled_words ws)) (sym (lines_words deal)) in
    let lines : lines_of (deal_text deal) ≡ map line_of (deal_lines deal) = ap lines_of text ∙ (lines_of-spelled (map spelled_words (map said_words (deal_lines deal))) (lines_lack (deal_lines deal) all) ∙ ended_lines (deal_lines deal)) in
    let steps_lines : List Line = map line_of (map (says_step deal.parties) deal.steps) in
    let body : map line_of (map line.Party deal.parties ++ map (says_step deal.parties) deal.steps) ≡ map line_of (map line.Party deal.parties) ++ steps_lines = map_join line_of (map line.Party deal.parties) (map (says_step deal.parties) deal.steps) in
    ap (reading_behind no_lines) lines
    ∙ (read_one no_lines (line.Deal deal.name) (line_of (line.House deal.house) ∷ map line_of (map line.Party deal.parties ++ map (says_step deal.parties) deal.steps)) good.name refl
    ∙ (read_one (with_line no_lines (line.Deal deal.name)) (line.House deal.house) (map line_of (map line.Party deal.parties ++ map (says_step deal.parties) deal.steps)) good.house refl
    ∙ (ap (reading_behind (made deal.name deal.house [] [])) body
    ∙ (read_parties deal.name deal.house [] deal.parties steps_lines kept.kept.different (omega (arith, kept.kept.few_parties)) good.parties
    ∙ read_steps deal.name deal.house deal.parties [] deal.steps kept.parties (some_steps deal.steps kept.steps) kept.kept names good.steps))))
