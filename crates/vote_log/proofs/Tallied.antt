-- The tallies that are kept stand for the log, also after a record that is added or taken back.
use Rattle.std.proofs.Common.{◌≡◌, ℕ, ◌+◌, ◌-◌, ◌<◌, ◌^◌, Bool, true, false, cond, Option, Some, None, IsSome, List, [], ◌∷◌, ◌++◌, length, refl, ap, sym, ◌∙◌, subst, arith}
use Rattle.std.specs.BTreeMap.{BTreeMap, UpdatesBy, get}
use Rattle.std.specs.Ordering.{nat_cmp}
use Rattle.std.specs.Cmp.Lexicographic.{slice_cmp}
use Rattle.std.specs.Str.{bytes_eq}
use Rattle.std.proofs.lemmas.Map.Text.{is_eq-slice_cmp}
use Rattle.dh_base.specs.declared.id.Id.{Id}
use Rattle.vote_log.specs.declared.tally.Tally.{Tally}
use Rattle.vote_log.specs.declared.tallies.Tallies.{Tallies}
use Rattle.vote_log.specs.Entry.{Entry, IsInRange}
use Rattle.vote_log.specs.Deciding.{Started, is_of, first_start, followed, commit_place, outcome_of}
use Rattle.vote_log.specs.Admission.{add_refusal}
use Rattle.vote_log.specs.Tallies.{IsTally, StandsFor, tally_after, owed_in, refusal_in}
use Rattle.vote_log.specs.Tallied.{id_cmp, tally_at, AllStand, IsTallied}
use Rattle.vote_log.proofs.Ids.{same_from_bytes, bytes_eq-sym}
use Rattle.vote_log.proofs.Pushed.{place_other, other_commit}
use Rattle.vote_log.proofs.Counted.{started_push, stands_push, stands_other, start_before, outcome_none}
use Rattle.vote_log.proofs.Owing.{outcome_other}
use Rattle.vote_log.proofs.Taken.{Owes, owes, Owed, owed_back, refusal_same}

-- the tallies where one deal's is another
abbrev pub IsSet : Id → Option Tally → Tallies → Tallies → Type 0
IsSet deal tally old new = (other : Id) → tally_at new other ≡ cond (bytes_eq deal.0 other.0) tally (tally_at old other)

pub set_one : (deal : Id) (old new : BTreeMap Id Tally) (tally now : Option Tally) → tally ≡ now
    → UpdatesBy id_cmp (λ k. slice_cmp nat_cmp deal.0 k.0) old new now
    → (other : Id) → get id_cmp new other ≡ cond (bytes_eq deal.0 other.0) tally (get id_cmp old other)
set_one deal old new tally now e updates other =
    updates.0 other
    ∙ (ap (λ b. cond b now (get id_cmp old other)) (is_eq-slice_cmp deal.0 other.0)
    ∙ ap (λ t. cond (bytes_eq deal.0 other.0) t (get id_cmp old other)) (sym e))

-- a deal without a tally is not decided
pub undecided : (log : List Entry) (tallies : Tallies) (deal : Id) → AllStand log tallies → None ≡ tally_at tallies deal
    → None ≡ outcome_of log deal
undecided log tallies deal stand e = outcome_none log deal (subst (StandsFor log deal) (sym e) (stand deal))

pub all_push : (log : List Entry) (entry : Entry) (after : Option Tally) (old new : Tallies)
    → AllStand log old → StandsFor (log ++ entry ∷ []) entry.deal after → IsSet entry.deal after old new
    → AllStand (log ++ entry ∷ []) new
all_push log entry after old new stand now set other =
    subst (StandsFor (log ++ entry ∷ []) other) (sym (set other)) (go (bytes_eq entry.deal.0 other.0) refl)
  where
    go : (b : Bool) → bytes_eq entry.deal.0 other.0 ≡ b → StandsFor (log ++ entry ∷ []) other (cond b after (tally_at old other))
    go true is = subst (λ (d : Id). StandsFor (log ++ entry ∷ []) d after) (same_from_bytes entry.deal other is) now
    go false is = stands_other log other (tally_at old other) entry (bytes_eq-sym entry.deal other false is) (stand other)

some_same : {X : Type 0} (x y : X) → Some x ≡ Some y → x ≡ y
some_same x y e = cc

-- the tally of a deal that the last entry is not of
module _ (log : List Entry) (deal : Id) (entry : Entry) (other : is_of deal entry ≡ false) where
  tally_before : (t : Tally) (start : Started) → first_start log deal ≡ Some start → IsTally (log ++ entry ∷ []) deal t → IsTally log deal t
  tally_before t start e h =
      let same : h.start ≡ followed start entry = some_same h.start (followed start entry) (sym h.started ∙ started_push log deal start entry e) in
      record {
        start = start;
        started = e;
        at = h.at ∙ ap (λ (s : Started). s.at) same;
        parties = h.parties ∙ ap (λ (s : Started). s.parties) same;
        few = h.few;
        indices = h.indices;
        committed = λ index less. h.committed index less
            ∙ (ap (λ (s : Started). commit_place deal s index) same ∙ place_other deal start index entry (other_commit deal index entry other));
        decision = h.decision ∙ outcome_other log deal entry other;
      }

  stands_before : (t : Option Tally) (o : Option Started) → first_start log deal ≡ o → StandsFor (log ++ entry ∷ []) deal t → StandsFor log deal t
  stands_before None o e h = start_before log deal entry o e h
  stands_before (Some t) (Some start) e h = tally_before t start e h
  stands_before (Some t) None e h =
      let none : first_start (log ++ entry ∷ []) deal ≡ None = stands_other log deal None entry other e in
      absurd (cc (none, h.started))

pub all_back : (log : List Entry) (entry : Entry) (before : Option Tally) (old new : Tallies)
    → AllStand (log ++ entry ∷ []) old → StandsFor log entry.deal before → IsSet entry.deal before old new → AllStand log new
all_back log entry before old new stand now set other =
    subst (StandsFor log other) (sym (set other)) (go (bytes_eq entry.deal.0 other.0) refl)
  where
    go : (b : Bool) → bytes_eq entry.deal.0 other.0 ≡ b → StandsFor log other (cond b before (tally_at old other))
    go true is = subst (λ (d : Id). StandsFor log d before) (same_from_bytes entry.deal other is) now
    go false is = stands_before log other entry (bytes_eq-sym entry.deal other false is) (tally_at old other) (first_start log other) refl (stand other)

-- a deal that has a tally has one still after one more entry
pub has_later : (log : List Entry) (deal : Id) (entry : Entry) (before after : Option Tally)
    → StandsFor log deal before → StandsFor (log ++ entry ∷ []) deal after → IsSome before → IsSome after
has_later log deal entry before (Some u) s now some = refl
has_later log deal entry None None s now some = some
has_later log deal entry (Some t) None s now some =
    let later = started_push log deal s.start entry s.started in
    absurd (cc (later, now))

-- the tally that is looked up
pub kept_stands : (log : List Entry) (tallies : Tallies) (deal same : Id) (t : Option Tally) → AllStand log tallies
    → t ≡ tally_at tallies deal → deal ≡ same → StandsFor log same t
kept_stands log tallies deal same t stand e is =
    subst (λ (d : Id). StandsFor log d t) is (subst (StandsFor log deal) (sym e) (stand deal))

-- what is known of a record that is added
pub record IsAdded (log : List Entry) (limit owed : ℕ) (t u : Option Tally) (entry : Entry) : Type 0 where
  pub owing : Owes log limit owed t u entry
  pub now : StandsFor (log ++ entry ∷ []) entry.deal u
  pub fits : owed - owed_in t + owed_in u < 2 ^ 32

pub added : (log : List Entry) (limit owed place : ℕ) (tallies : Tallies) (deal : Id) (t u : Option Tally) (entry : Entry)
    → IsTallied log limit owed tallies → IsInRange entry.kind entry.num → deal ≡ entry.deal → place ≡ length log
    → t ≡ tally_at tallies deal → u ≡ tally_after deal t entry place → None ≡ refusal_in t place owed limit entry
    → IsAdded log limit owed t u entry
added log limit owed place tallies deal t u entry h range is at before after taken =
    let s : StandsFor log entry.deal t = kept_stands log tallies deal entry.deal t h.stand before is in
    let after' : u ≡ tally_after entry.deal t entry (length log) =
    after ∙ (ap (λ (d : Id). tally_after d t entry place) is ∙ ap (tally_after entry.deal t entry) at) in
    let now' : StandsFor (log ++ entry ∷ []) entry.deal u =
    subst (StandsFor (log ++ entry ∷ []) entry.deal) (sym after') (stands_push log entry.deal t entry range s) in
    let taken' : add_refusal log limit entry ≡ None =
    sym (taken
    ∙ (ap (λ n. refusal_in t n owed limit entry) at
    ∙ (ap (λ n. refusal_in t (length log) n limit entry) h.kept.counted ∙ refusal_same log t limit entry range s))) in
    let owing' = owes log limit owed t u entry h.kept s now' taken' in
    record {
      owing = owing';
      now = now';
      fits = omega (arith, owing'.kept.room, owing'.kept.fits);
    }

pub tallied_push : (log longer : List Entry) (limit owed later : ℕ) (t u : Option Tally) (entry : Entry) (deal : Id) (old new : Tallies)
    → IsAdded log limit owed t u entry → AllStand log old → deal ≡ entry.deal → IsSet deal u old new
    → longer ≡ log ++ entry ∷ [] → later ≡ owed - owed_in t + owed_in u → IsTallied longer limit later new
tallied_push log longer limit owed later t u entry deal old new h stand is set long e =
    let set' : IsSet entry.deal u old new = subst (λ (d : Id). IsSet d u old new) is set in
    let pushed : IsTallied (log ++ entry ∷ []) limit (owed - owed_in t + owed_in u) new =
    record { kept = h.owing.kept; stand = all_push log entry u old new stand h.now set' } in
    subst (λ (l : List Entry). IsTallied l limit later new) (sym long)
    (subst (λ n. IsTallied (log ++ entry ∷ []) limit n new) (sym e) pushed)

-- what is known of a record that is taken back
pub record IsTakenBack (log : List Entry) (limit owed : ℕ) (t u : Option Tally) (entry : Entry) (tallies : Tallies) : Type 0 where
  pub owing : Owed log limit owed t u
  pub was : AllStand (log ++ entry ∷ []) tallies
  pub now : StandsFor log entry.deal u
  pub fits : owed - owed_in t + owed_in u < 2 ^ 32
  pub had : IsSome u → IsSome t

pub taken_back : (log longer shorter : List Entry) (limit owed : ℕ) (tallies : Tallies) (deal : Id) (t u : Option Tally) (entry : Entry)
    → IsTallied longer limit owed tallies → longer ≡ log ++ entry ∷ [] → deal ≡ entry.deal
    → t ≡ tally_at tallies deal → shorter ≡ log → StandsFor shorter deal u → IsTakenBack log limit owed t u entry tallies
taken_back log longer shorter limit owed tallies deal t u entry h' long is before short after =
    let h : IsTallied (log ++ entry ∷ []) limit owed tallies = subst (λ (l : List Entry). IsTallied l limit owed tallies) long h' in
    let s = kept_stands (log ++ entry ∷ []) tallies deal entry.deal t h.stand before is in
    let now' : StandsFor log entry.deal u = subst (λ (d : Id). StandsFor log d u) is (subst (λ (l : List Entry). StandsFor l deal u) short after) in
    let owing' = owed_back log limit owed t u entry h.kept s now' in
    record {
      owing = owing';
      was = h.stand;
      now = now';
      fits = omega (arith, owing'.kept.room, owing'.kept.fits);
      had = has_later log entry.deal entry u t now' s;
    }

pub tallied_back : (log : List Entry) (limit owed later : ℕ) (t u : Option Tally) (entry : Entry) (deal : Id) (old new : Tallies)
    → IsTakenBack log limit owed t u entry old → deal ≡ entry.deal → IsSet deal u old new
    → later ≡ owed - owed_in t + owed_in u → IsTallied log limit later new
tallied_back log limit owed later t u entry deal old new h is set e =
    let set' : IsSet entry.deal u old new = subst (λ (d : Id). IsSet d u old new) is set in
    subst (λ n. IsTallied log limit n new) (sym e)
    (record { kept = h.owing.kept; stand = all_back log entry u old new h.was h.now set' })
