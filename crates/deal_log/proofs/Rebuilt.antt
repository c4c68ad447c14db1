-- Which of the given texts a log keeps, and which deals lack theirs.
use Rattle.std.proofs.Common.{◌≡◌, ◌≢◌, ℕ, zero, suc, ◌+◌, ◌<◌, ◌&&◌, Bool, true, false, cond, not, List, [], ◌∷◌, ◌++◌, take, slice_get, Option, Some, None, IsSome, is_some, Result, Ok, Err, is_ok, refl, ap, sym, ◌∙◌, subst, inl, inr, ⊎_elim, append_assoc, arith}
use Rattle.std.specs.List.{Contains, position_from}
use Rattle.std.specs.Option.{option_map}
use Rattle.std.specs.Ordering.{nat_cmp}
use Rattle.std.specs.Cmp.Lexicographic.{slice_cmp}
use Rattle.std.specs.Str.{bytes_eq}
use Rattle.std.specs.FinMap.{empty, get-empty}
use Rattle.std.proofs.lemmas.Bool.{cases_lt, true≢false, and_parts}
use Rattle.std.proofs.lemmas.List.{append-nil, take-take}
use Rattle.std.proofs.lemmas.List.Elements.{Contains-append_left, Contains-append_right, Contains-append_cases}
use Rattle.dh_base.specs.declared.id.Id.{Id}
use Rattle.deal_core.specs.declared.deal_fault.DealFault.{DealFault}
use Rattle.deal_core.specs.declared.deal_fault.DealFault.TheVariants.{NoMemory}
use Rattle.deal_core.specs.Deals.{DealTold}
use Rattle.deal_core.specs.Reading.{AreOneAnswer}
use Rattle.vote_log.specs.declared.kind.Kind.{Kind}
use Rattle.vote_log.specs.declared.kind.Kind.TheVariants.{Start, Commit, Abort}
use Rattle.vote_log.specs.declared.log_fault.LogFault.{LogFault}
use Rattle.vote_log.specs.Entry.{Entry}
use Rattle.vote_log.specs.Deciding.{Started, starts, first_start}
use Rattle.vote_log.specs.Admission.{add_refusal, votable_of, IsLogFrom, IsLog}
use Rattle.vote_log.proofs.Ids.{same_from_bytes, bytes_eq-refl}
use Rattle.vote_log.proofs.Lists.{get_take, position_none}
use Rattle.vote_log.proofs.Placed.{start_held}
use Rattle.vote_log.proofs.Votable.{votable_parties}
use Rattle.deal_log.specs.DealTexts.{TextMap, IsTextFor, id_in, text_of}
use Rattle.deal_log.specs.VoteLogs.{HasTexts, IsStartedText, most_records}
use Rattle.deal_log.specs.Rebuilding.{IsFirstRefused, LacksText, KeepsGiven, KeepsText, is_unkept}
use Rattle.deal_log.proofs.Kept.{text_inserted}

-- a text that is a deal's has no fault but want of memory
pub no_other : (deal : DealTold) (fault : DealFault) → AreOneAnswer (Ok deal) (Err fault) → fault ≢ NoMemory → ⊥
no_other deal fault (inl e) other = cc
no_other deal fault (inr (inl e)) other = cc
no_other deal fault (inr (inr e)) other = other (cc e)

-- ---- what is kept

pub keeps_none : (house : Id) (recs : List Entry) → KeepsGiven house recs [] empty
keeps_none house recs = record {
  only = λ deal text e. absurd (let h = sym (get-empty (slice_cmp nat_cmp) deal.0) ∙ e in cc);
  all = λ deal text h _. absurd (let less = h.1 in omega arith);
}

only_one : {X : Type 0} (x y : X) → Contains (x ∷ []) y → x ≡ y
only_one x y (zero, less, e) = e
only_one x y (suc k, less, e) = absurd (omega arith)

some_inserted : (b : Bool) (text : List ℕ) (o : Option (List ℕ)) → IsSome o → IsSome (cond b (Some text) o)
some_inserted true text o h = refl
some_inserted false text o h = h

last_of : (front : List (List ℕ)) (text : List ℕ) → Contains (front ++ text ∷ []) text
last_of front text = Contains-append_right front (text ∷ []) text (0, omega arith, refl)

pub keeps_more : (house : Id) (recs : List Entry) (front : List (List ℕ)) (text : List ℕ) (kept new : TextMap) → KeepsGiven house recs front kept → KeepsText house recs text kept new
    → KeepsGiven house recs (front ++ text ∷ []) new
keeps_more house recs front text kept new h (inl (started, is)) = record {
  only = λ deal other e. own deal other (bytes_eq deal.0 (id_in text).0) refl (sym (text_inserted kept (id_in text) deal text) ∙ (ap (λ (t : TextMap). text_of t deal) (sym is) ∙ e));
  all = λ deal other among s.
      subst IsSome (sym (ap (λ (t : TextMap). text_of t deal) is ∙ text_inserted kept (id_in text) deal text))
      (⊎_elim (λ (before : Contains front other). some_inserted (bytes_eq deal.0 (id_in text).0) text (text_of kept deal) (h.all deal other before s))
      (λ (last : Contains (text ∷ []) other).
      let same : id_in text ≡ deal = ap id_in (only_one text other last) ∙ s.for.id in
      ap (λ b. is_some (cond b (Some text) (text_of kept deal))) (subst (λ (d : Id). bytes_eq d.0 (id_in text).0 ≡ true) same (bytes_eq-refl (id_in text))))
      (Contains-append_cases front (text ∷ []) other among));
}
  where
    own : (deal : Id) (other : List ℕ) (b : Bool) → bytes_eq deal.0 (id_in text).0 ≡ b → cond b (Some text) (text_of kept deal) ≡ Some other → Contains (front ++ text ∷ []) other × IsStartedText house recs deal other
    own deal other true is_same e =
        let same : id_in text ≡ deal = sym (same_from_bytes deal (id_in text) is_same) in
        let this : text ≡ other = cc in
        (subst (Contains (front ++ text ∷ [])) this (last_of front text), subst (IsStartedText house recs deal) this (subst (λ (d : Id). IsStartedText house recs d text) same started))
    own deal other false is_same e =
        let was = h.only deal other e in
        (Contains-append_left front (text ∷ []) other was.0, was.1)
keeps_more house recs front text kept new h (inr (never, is)) = record {
  only = λ deal other e.
      let was = h.only deal other (ap (λ (t : TextMap). text_of t deal) (sym is) ∙ e) in
      (Contains-append_left front (text ∷ []) other was.0, was.1);
  all = λ deal other among s.
      subst (λ (t : TextMap). IsSome (text_of t deal)) (sym is)
      (⊎_elim (λ (before : Contains front other). h.all deal other before s)
      (λ (last : Contains (text ∷ []) other).
      let this : other ≡ text = sym (only_one text other last) in
      let s' : IsStartedText house recs deal text = subst (IsStartedText house recs deal) this s in
      absurd (never (subst (λ (d : Id). IsStartedText house recs d text) (sym s'.for.id) s')))
      (Contains-append_cases front (text ∷ []) other among));
}

-- ---- what is lacking

-- the element at the first place that passes
pub record IsFirstAt {X : Type 0} (p : X → Bool) (i : ℕ) (xs : List X) (at : ℕ) : Type 0 where
  pub index : ℕ
  pub at_is : at ≡ i + index
  pub element : X
  pub here : slice_get xs index ≡ Some element
  pub passes : p element ≡ true
  pub before : (k : ℕ) (x : X) → k < index → slice_get xs k ≡ Some x → p x ≡ false

earlier_fails : {X : Type 0} (p : X → Bool) (y : X) (xs : List X) (index : ℕ) → p y ≡ false → ((k : ℕ) (x : X) → k < index → slice_get xs k ≡ Some x → p x ≡ false)
    → (k : ℕ) (x : X) → k < suc index → slice_get (y ∷ xs) k ≡ Some x → p x ≡ false
earlier_fails p y xs index is before zero x less h = let same : y ≡ x = cc in ap p (sym same) ∙ is
earlier_fails p y xs index is before (suc k) x less h = before k x (omega arith) h

pub first_at : {X : Type 0} (p : X → Bool) (i : ℕ) (xs : List X) (at : ℕ) → position_from p i xs ≡ Some at → IsFirstAt p i xs at
first_at p i [] at e = absurd cc
first_at p i (y ∷ xs) at e = go (p y) refl e (λ h. first_at p (i + 1) xs at h)
  where
    go : (b : Bool) → p y ≡ b → cond b (Some i) (position_from p (i + 1) xs) ≡ Some at → (position_from p (i + 1) xs ≡ Some at → IsFirstAt p (i + 1) xs at) → IsFirstAt p i (y ∷ xs) at
    go true is e next =
        let same : i ≡ at = cc in
        record { index = 0; at_is = omega arith; element = y; here = refl; passes = is; before = λ k x less h. absurd (omega arith) }
    go false is e next =
        let ih = next e in
        record { index = suc ih.index; at_is = omega (arith, ih.at_is); element = ih.element; here = ih.here; passes = ih.passes; before = earlier_fails p y xs ih.index is ih.before }

-- ---- one record

is_start_kind : (k : Kind) → starts k ≡ true → k ≡ Start
is_start_kind Start e = refl
is_start_kind Commit e = absurd (true≢false (sym e))
is_start_kind Abort e = absurd (true≢false (sym e))

some_ok : (r : Result ℕ LogFault) → is_ok r ≡ true → (n : ℕ) × (r ≡ Ok n)
some_ok (Ok n) e = (n, refl)
some_ok (Err fault) e = absurd (true≢false (sym e))

none_kept : (o : Option (List ℕ)) → not (is_some o) ≡ true → o ≡ None
none_kept None e = refl
none_kept (Some text) e = absurd (true≢false (sym e))

module _ (house : Id) (recs : List Entry) (texts : List (List ℕ)) (kept : TextMap) (keeps : KeepsGiven house recs texts kept) where
  -- a deal without a kept text lacks one
  lacking : (at : ℕ) (entry : Entry) → slice_get recs at ≡ Some entry → is_unkept recs kept entry ≡ true → LacksText house recs texts at
  lacking at entry here unkept =
      let first = and_parts (starts entry.kind) (is_ok (votable_of recs entry.deal) && not (is_some (text_of kept entry.deal))) unkept in
      let second = and_parts (is_ok (votable_of recs entry.deal)) (not (is_some (text_of kept entry.deal))) first.1 in
      let votes = some_ok (votable_of recs entry.deal) second.0 in
      let starts_it = is_start_kind entry.kind first.0 in
      record {
        deal = entry.deal;
        num = entry.num;
        parties = votes.0;
        here = here ∙ ap (λ (k : Kind). let e : Entry = record { kind = k; num = entry.num; deal = entry.deal } in Some e) starts_it;
        votable = votes.1;
        none = λ text among for.
            let some = keeps.all entry.deal text among (record { parties = votes.0; started = votable_parties recs entry.deal votes.0 votes.1; for = for }) in
            true≢false (sym some ∙ ap is_some (none_kept (text_of kept entry.deal) second.1));
      }

  -- a deal that lacks its text has none that is kept
  has_none : (deal : Id) (parties : ℕ) → votable_of recs deal ≡ Ok parties → ((text : List ℕ) → Contains texts text → IsTextFor house parties deal text → ⊥) → text_of kept deal ≡ None
  has_none deal parties votes none = go (text_of kept deal) refl
    where
      go : (o : Option (List ℕ)) → text_of kept deal ≡ o → o ≡ None
      go None is = refl
      go (Some text) is =
          let h = keeps.only deal text is in
          let same : h.1.parties ≡ parties = (let both = sym h.1.started ∙ votable_parties recs deal parties votes in cc) in
          absurd (none text h.0 (subst (λ (n : ℕ). IsTextFor house n deal text) same h.1.for))

  unkept : (at : ℕ) → (lacks : LacksText house recs texts at) → is_unkept recs kept (record { kind = Start; num = lacks.num; deal = lacks.deal }) ≡ true
  unkept at lacks = rw (lacks.votable, has_none lacks.deal lacks.parties lacks.votable lacks.none) refl

  pub first_lacking : (at : ℕ) → position_from (is_unkept recs kept) 0 recs ≡ Some at
      → LacksText house recs texts at × ((earlier : ℕ) → earlier < at → LacksText house recs texts earlier → ⊥)
  first_lacking at e =
      let f = first_at (is_unkept recs kept) 0 recs at e in
      let place : f.index ≡ at = omega (arith, f.at_is) in (
        subst (LacksText house recs texts) place (lacking f.index f.element f.here f.passes),
        λ earlier less lacks. true≢false (sym (unkept earlier lacks) ∙ f.before earlier _ (omega arith) lacks.here),
      )

  pub none_lacking : position_from (is_unkept recs kept) 0 recs ≡ None → (at : ℕ) → LacksText house recs texts at → ⊥
  none_lacking e at lacks = true≢false (sym (unkept at lacks) ∙ position_none (is_unkept recs kept) 0 recs e at _ lacks.here)

  -- then each deal that can be voted on has its text
  pub has_texts : position_from (is_unkept recs kept) 0 recs ≡ None → HasTexts house recs kept
  has_texts e = record {
    only = λ deal text is. (keeps.only deal text is).1;
    all = λ deal parties votes. all_of deal parties votes (first_start recs deal) refl (votable_parties recs deal parties votes);
  }
    where
      some_or : (o : Option (List ℕ)) → not (is_some o) ≡ false → IsSome o
      some_or None h = absurd (true≢false h)
      some_or (Some text) h = refl

      all_of : (deal : Id) (parties : ℕ) → votable_of recs deal ≡ Ok parties → (o : Option Started) → first_start recs deal ≡ o → option_map (λ (s : Started). s.parties) o ≡ Some parties → IsSome (text_of kept deal)
      all_of deal parties votes None is started = absurd cc
      all_of deal parties votes (Some start) is started =
          let held = start_held recs deal start is in
          let fails : is_unkept recs kept (record { kind = Start; num = start.parties; deal = deal }) ≡ false = position_none (is_unkept recs kept) 0 recs e held.0 _ held.1 in
          some_or (text_of kept deal) (sym (ap (λ r. is_ok r && not (is_some (text_of kept deal))) votes) ∙ fails)

-- ---- the records alone

-- each record of a log was taken behind those before it
log_at : (limit : ℕ) (front rest : List Entry) (k : ℕ) (entry : Entry) → IsLogFrom limit front rest → slice_get rest k ≡ Some entry → add_refusal (front ++ take k rest) limit entry ≡ None
log_at limit front [] k entry h here = absurd cc
log_at limit front (x ∷ rest) zero entry h here =
    let same : x ≡ entry = cc in
    subst (λ (l : List Entry). add_refusal l limit entry ≡ None) (sym (append-nil front)) (ap (add_refusal front limit) (sym same) ∙ h.0)
log_at limit front (x ∷ rest) (suc k) entry h here =
    subst (λ (l : List Entry). add_refusal l limit entry ≡ None) (append_assoc front (x ∷ []) (take k rest)) (log_at limit (front ++ x ∷ []) rest k entry h.1 here)

pub refused_no_log : (recs : List Entry) (at : ℕ) → IsFirstRefused recs at → IsLog recs most_records → ⊥
refused_no_log recs at r h = r.refused (log_at most_records [] recs at r.entry h r.here)

not_earlier : (recs : List Entry) (a b : ℕ) → IsFirstRefused recs a → IsFirstRefused recs b → a < b → ⊥
not_earlier recs a b r s less =
    let there : slice_get (take b recs) a ≡ Some r.entry = get_take recs b a less ∙ r.here in
    let free = log_at most_records [] (take b recs) a r.entry s.before there in
    r.refused (ap (λ (l : List Entry). add_refusal l most_records r.entry) (sym (take-take a b recs (omega arith))) ∙ free)

pub one_refused : (recs : List Entry) (a b : ℕ) → IsFirstRefused recs a → IsFirstRefused recs b → a ≡ b
one_refused recs a b r s =
    elim (cases_lt a b) [
      | inl less ↦ absurd (not_earlier recs a b r s less)
      | inr le ↦ elim (cases_lt b a) [ inl less ↦ absurd (not_earlier recs b a s r less) | inr ge ↦ omega arith ]
    ]
