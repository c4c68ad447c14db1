-- A record that the log takes leaves room for all votes that are owed.
use Rattle.std.proofs.Common.{◌≡◌, ◌≢◌, ℕ, ◌+◌, ◌-◌, ◌<◌, ◌≤◌, nat_lt, leb, eqb, Bool, true, false, cond, not, ◌&&◌, Option, Some, None, Ok, is_some, List, [], ◌∷◌, ◌++◌, length, get_or, refl, ap, sym, ◌∙◌, subst, arith, append_assoc, append-nil}
use Rattle.std.proofs.lemmas.Bool.{ltb-false, leb-false, eq-eqb, true≢false}
use Rattle.std.proofs.lemmas.List.{length_push}
use Rattle.dh_base.specs.declared.id.Id.{Id}
use Rattle.vote_log.specs.declared.decision.Decision.{Decision}
use Rattle.vote_log.specs.declared.kind.Kind.{Kind}
use Rattle.vote_log.specs.declared.kind.Kind.TheVariants.{Start, Commit, Abort}
use Rattle.vote_log.specs.declared.log_fault.LogFault.TheVariants.{NotAParty, StartedAlready, LogFull}
use Rattle.vote_log.specs.declared.tally.Tally.{Tally}
use Rattle.vote_log.specs.Entry.{Entry, IsInRange}
use Rattle.vote_log.specs.Deciding.{Started, is_of, is_commit, first_start, followed, commit_place, has_committed, outcome_of}
use Rattle.vote_log.specs.Owed.{count_below, uncommitted, owed_by, owed_of}
use Rattle.vote_log.specs.Admission.{votable_by, votable_of, no_account, start_refusal, commit_refusal, earlier_commit, vote_refusal, add_refusal, IsLogFrom, IsLog}
use Rattle.vote_log.specs.Log.{IsKept}
use Rattle.vote_log.specs.Tallies.{StandsFor, unplaced, place_in, votable_by_decision, votable_in, start_refusal_in, refusal_by_kind, refusal_in, owed_in}
use Rattle.vote_log.proofs.Ids.{bytes_eq-refl}
use Rattle.vote_log.proofs.Below.{one_fails, count_same, count_most, count_some, count_drops}
use Rattle.vote_log.proofs.Pushed.{entry_of, or_later, start_push, place_push, start_with}
use Rattle.vote_log.proofs.Counted.{started_push}
use Rattle.vote_log.proofs.Decided.{lacks, abort_now}
use Rattle.vote_log.proofs.Owing.{owed_push, owed_by-le, owed_none}

-- by the tally, what may be voted on, what is refused and what is owed
module _ (log : List Entry) (deal : Id) where
  decided_same : (start : Started) (parties : ℕ) (d : Option Decision) → parties ≡ start.parties → votable_by_decision parties d ≡ votable_by (Some start) d
  decided_same start parties None e = ap (λ n. Ok n) e
  decided_same start parties (Some d) e = refl

  votable_same : (t : Option Tally) → StandsFor log deal t → votable_in t ≡ votable_of log deal
  votable_same None s = ap (λ o. votable_by o (outcome_of log deal)) (sym s)
  votable_same (Some t) s =
      ap (votable_by_decision t.parties) s.decision ∙ (decided_same s.start t.parties (outcome_of log deal) s.parties ∙ ap (λ o. votable_by o (outcome_of log deal)) (sym s.started))

  owed_same : (t : Option Tally) → StandsFor log deal t → owed_in t ≡ owed_by log deal
  owed_same None s = sym (owed_none log deal s)
  owed_same (Some t) s =
      let counts : unplaced t.committed t.parties ≡ uncommitted deal (first_start log deal) =
      count_same (λ k. not (is_some (get_or t.committed k None))) (λ k. not (has_committed deal s.start k)) t.parties (λ k less. ap (λ o. not (is_some o)) (s.committed k (omega (arith, s.few))))
      ∙ (ap (count_below (λ k. not (has_committed deal s.start k))) s.parties ∙ ap (uncommitted deal) (sym s.started)) in
      ap (λ d. cond (is_some d) 0 (unplaced t.committed t.parties)) s.decision ∙ ap (λ n. cond (is_some (outcome_of log deal)) 0 n) counts

  place_same : (t : Option Tally) (index : ℕ) → index < 16 → StandsFor log deal t → place_in t index ≡ earlier_commit deal (first_start log deal) index
  place_same None index less s = ap (λ o. earlier_commit deal o index) (sym s)
  place_same (Some t) index less s = s.committed index less ∙ ap (λ o. earlier_commit deal o index) (sym s.started)

  start_same : (t : Option Tally) (len owed limit parties : ℕ) → StandsFor log deal t → start_refusal_in t len owed limit parties ≡ start_refusal (first_start log deal) len owed limit parties
  start_same None len owed limit parties s = ap (λ o. start_refusal o len owed limit parties) (sym s)
  start_same (Some t) len owed limit parties s = ap (λ p. Some (StartedAlready p)) s.at ∙ ap (λ o. start_refusal o len owed limit parties) (sym s.started)

refusal_kind : (log : List Entry) (deal : Id) (t : Option Tally) (limit num : ℕ) (kind : Kind) → IsInRange kind num → StandsFor log deal t
    → refusal_by_kind kind t (length log) (owed_of log) limit num ≡ add_refusal log limit (entry_of kind num deal)
refusal_kind log deal t limit num Start range s = start_same log deal t (length log) (owed_of log) limit num s
refusal_kind log deal t limit num Commit range s =
    ap (λ v. vote_refusal v num (place_in t num)) (votable_same log deal t s) ∙ ap (vote_refusal (votable_of log deal) num) (place_same log deal t num range s)
refusal_kind log deal t limit num Abort range s = ap (λ v. vote_refusal v num None) (votable_same log deal t s)

pub refusal_same : (log : List Entry) (t : Option Tally) (limit : ℕ) (entry : Entry) → IsInRange entry.kind entry.num → StandsFor log entry.deal t
    → refusal_in t (length log) (owed_of log) limit entry ≡ add_refusal log limit entry
refusal_same log t limit entry range s = refusal_kind log entry.deal t limit entry.num entry.kind range s

-- what a vote that is taken finds
record IsVotable (log : List Entry) (deal : Id) (index : ℕ) : Type 0 where
  start : Started
  started : first_start log deal ≡ Some start
  undecided : outcome_of log deal ≡ None
  party : index < start.parties

taken_vote : (log : List Entry) (deal : Id) (index : ℕ) (earlier : Option ℕ) (s : Option Started) (d : Option Decision) → first_start log deal ≡ s → outcome_of log deal ≡ d
    → vote_refusal (votable_by s d) index earlier ≡ None → IsVotable log deal index × (earlier ≡ None)
taken_vote log deal index earlier None d es ed e = absurd cc
taken_vote log deal index earlier (Some s) (Some d) es ed e = absurd cc
taken_vote log deal index earlier (Some s) None es ed e = go (leb s.parties index) refl earlier e
  where
    go : (b : Bool) → leb s.parties index ≡ b → (o : Option ℕ) → cond b (Some (NotAParty no_account)) (commit_refusal o) ≡ None → IsVotable log deal index × (o ≡ None)
    go true is o e = absurd cc
    go false is (Some p) e = absurd cc
    go false is None e = (record { start = s; started = es; undecided = ed; party = leb-false s.parties index is }, refl)

owed_undecided : (log : List Entry) (deal : Id) (s : Started) → first_start log deal ≡ Some s → outcome_of log deal ≡ None → owed_by log deal ≡ uncommitted deal (Some s)
owed_undecided log deal s es ed = ap (λ o. cond (is_some o) 0 (uncommitted deal (first_start log deal))) ed ∙ ap (uncommitted deal) es

owed_at_most : (log : List Entry) (deal : Id) (s : Started) → first_start log deal ≡ Some s → owed_by log deal ≤ uncommitted deal (Some s)
owed_at_most log deal s es =
    let known : owed_by log deal ≡ cond (is_some (outcome_of log deal)) 0 (uncommitted deal (Some s)) = ap (λ o. cond (is_some (outcome_of log deal)) 0 (uncommitted deal o)) es in
    subst (λ n. n ≤ uncommitted deal (Some s)) (sym known) (go (is_some (outcome_of log deal)))
  where
    go : (b : Bool) → cond b 0 (uncommitted deal (Some s)) ≤ uncommitted deal (Some s)
    go true = omega arith
    go false = omega arith

module _ (log : List Entry) (deal : Id) (index : ℕ) (v : IsVotable log deal index) where
  committed_kept : (k : ℕ) → not (has_committed deal (followed v.start (entry_of Commit index deal)) k) ≡ true → not (has_committed deal v.start k) ≡ true
  committed_kept k e = go (commit_place deal v.start k) (place_push log deal v.start k (entry_of Commit index deal) v.started) e
    where
      go : (o : Option ℕ) → commit_place deal (followed v.start (entry_of Commit index deal)) k ≡ or_later o (cond (is_commit deal k (entry_of Commit index deal)) (Some (length log)) None) → not (has_committed deal (followed v.start (entry_of Commit index deal)) k) ≡ true → not (is_some o) ≡ true
      go None is e = refl
      go (Some p) is e = absurd (true≢false (sym e ∙ ap (λ o. not (is_some o)) is))

  commit_lowers : commit_place deal v.start index ≡ None → owed_by (log ++ entry_of Commit index deal ∷ []) deal + 1 ≤ owed_by log deal
  commit_lowers none =
      let entry = entry_of Commit index deal in
      let now : commit_place deal (followed v.start entry) index ≡ Some (length log) =
      place_push log deal v.start index entry v.started ∙ (ap (λ o. or_later o (cond (is_of deal entry && eqb index index) (Some (length log)) None)) none ∙ rw (bytes_eq-refl deal, eq-eqb index index refl) refl) in
      let drops = count_drops (λ k. not (has_committed deal v.start k)) (λ k. not (has_committed deal (followed v.start entry) k)) v.start.parties index v.party (λ k less e. committed_kept k e) (ap (λ o. not (is_some o)) none) (ap (λ o. not (is_some o)) now) in
      let before = owed_undecided log deal v.start v.started v.undecided in
      let after = owed_at_most (log ++ entry ∷ []) deal (followed v.start entry) (started_push log deal v.start entry v.started) in
      omega (arith, drops, before, after)

  owed_some : 1 ≤ owed_by log deal
  owed_some =
      let open' = lacks log deal v.start v.undecided v.started (omega (arith, v.party)) in
      let one = one_fails (has_committed deal v.start) v.start.parties open' in
      let some = count_some (λ k. not (has_committed deal v.start k)) v.start.parties one.0 one.1 (ap not one.2) in
      let before = owed_undecided log deal v.start v.started v.undecided in
      omega (arith, some, before)

  abort_lowers : owed_by (log ++ entry_of Abort index deal ∷ []) deal + 1 ≤ owed_by log deal
  abort_lowers =
      let entry = entry_of Abort index deal in
      let decided = abort_now log deal v.start index v.undecided v.started v.party in
      let after : owed_by (log ++ entry ∷ []) deal ≡ 0 = ap (λ o. cond (is_some o) 0 (uncommitted deal (first_start (log ++ entry ∷ []) deal))) decided in
      let some = owed_some in
      omega (arith, after, some)

-- a vote that is taken lowers what is owed to its deal
vote_lowers : (log : List Entry) (limit : ℕ) (kind : Kind) (num : ℕ) (deal : Id) → kind ≢ Start → add_refusal log limit (entry_of kind num deal) ≡ None → owed_by (log ++ entry_of kind num deal ∷ []) deal + 1 ≤ owed_by log deal
vote_lowers log limit Start num deal vote e = absurd (vote refl)
vote_lowers log limit Commit num deal vote e =
    let found = taken_vote log deal num (earlier_commit deal (first_start log deal) num) (first_start log deal) (outcome_of log deal) refl refl e in
    let none : commit_place deal found.0.start num ≡ None = ap (λ o. earlier_commit deal o num) (sym found.0.started) ∙ found.1 in
    commit_lowers log deal num found.0 none
vote_lowers log limit Abort num deal vote e =
    let found = taken_vote log deal num None (first_start log deal) (outcome_of log deal) refl refl e in
    abort_lowers log deal num found.0

taken_start : (len owed limit parties : ℕ) (s : Option Started) → start_refusal s len owed limit parties ≡ None → (s ≡ None) × (len + owed + 1 + parties ≤ limit)
taken_start len owed limit parties (Some s) e = absurd cc
taken_start len owed limit parties None e = (refl, go (nat_lt limit (len + owed + 1 + parties)) refl e)
  where
    go : (b : Bool) → nat_lt limit (len + owed + 1 + parties) ≡ b → cond b (Some (LogFull len owed)) None ≡ None → len + owed + 1 + parties ≤ limit
    go true is e = absurd cc
    go false is e = ltb-false limit (len + owed + 1 + parties) is

start_owes : (log : List Entry) (num : ℕ) (deal : Id) → first_start log deal ≡ None → owed_by (log ++ entry_of Start num deal ∷ []) deal ≤ num
start_owes log num deal none =
    let entry = entry_of Start num deal in
    let new : Started = record { at = length log; parties = num; since = [] } in
    let started : first_start (log ++ entry ∷ []) deal ≡ Some new = start_push log deal entry ∙ (ap (λ o. start_with deal (length log) o entry) none ∙ rw (bytes_eq-refl deal) refl) in
    let most = owed_at_most (log ++ entry ∷ []) deal new started in
    let few = count_most (λ k. not (has_committed deal new k)) num in
    omega (arith, most, few)

room_kind : (log : List Entry) (limit : ℕ) (kind : Kind) (num : ℕ) (deal : Id) → length log + owed_of log ≤ limit → add_refusal log limit (entry_of kind num deal) ≡ None
    → length (log ++ entry_of kind num deal ∷ []) + owed_of (log ++ entry_of kind num deal ∷ []) ≤ limit
room_kind log limit Start num deal room e =
    let found = taken_start (length log) (owed_of log) limit num (first_start log deal) e in
    let before = owed_none log deal found.0 in
    let after = start_owes log num deal found.0 in
    let sums = owed_push log (entry_of Start num deal) in
    let long = length_push log (entry_of Start num deal) in
    omega (arith, found.1, before, after, sums, long)
room_kind log limit Commit num deal room e =
    let lower = vote_lowers log limit Commit num deal (λ h. absurd cc) e in
    let sums = owed_push log (entry_of Commit num deal) in
    let long = length_push log (entry_of Commit num deal) in
    omega (arith, lower, sums, long)
room_kind log limit Abort num deal room e =
    let lower = vote_lowers log limit Abort num deal (λ h. absurd cc) e in
    let sums = owed_push log (entry_of Abort num deal) in
    let long = length_push log (entry_of Abort num deal) in
    omega (arith, lower, sums, long)

pub room_push : (log : List Entry) (limit : ℕ) (entry : Entry) → length log + owed_of log ≤ limit → add_refusal log limit entry ≡ None → length (log ++ entry ∷ []) + owed_of (log ++ entry ∷ []) ≤ limit
room_push log limit entry room e = room_kind log limit entry.kind entry.num entry.deal room e

log_from_push : (limit : ℕ) (front rest : List Entry) (entry : Entry) → IsLogFrom limit front rest → add_refusal (front ++ rest) limit entry ≡ None → IsLogFrom limit front (rest ++ entry ∷ [])
log_from_push limit front [] entry h e = (subst (λ (l : List Entry). add_refusal l limit entry ≡ None) (append-nil front) e, tt)
log_from_push limit front (x ∷ rest) entry h e =
    (h.0, log_from_push limit (front ++ x ∷ []) rest entry h.1 (subst (λ (l : List Entry). add_refusal l limit entry ≡ None) (sym (append_assoc front (x ∷ []) rest)) e))

pub log_push : (limit : ℕ) (log : List Entry) (entry : Entry) → IsLog log limit → add_refusal log limit entry ≡ None → IsLog (log ++ entry ∷ []) limit
log_push limit log entry h e = log_from_push limit [] log entry h e

-- the log after a record that it takes
pub kept_push : (log : List Entry) (limit owed after : ℕ) (entry : Entry) → IsKept log limit owed → add_refusal log limit entry ≡ None
    → after + owed_by log entry.deal ≡ owed + owed_by (log ++ entry ∷ []) entry.deal → IsKept (log ++ entry ∷ []) limit after
kept_push log limit owed after entry h e sums =
    let counted' : after ≡ owed_of (log ++ entry ∷ []) = omega (arith, sums, h.counted, owed_push log entry) in
    record {
      reached = log_from_push limit [] log entry h.reached e;
      counted = counted';
      room = subst (λ n. length (log ++ entry ∷ []) + n ≤ limit) (sym counted') (room_push log limit entry (subst (λ n. length log + n ≤ limit) h.counted h.room) e);
      fits = h.fits;
    }

room_from : (limit : ℕ) (front rest : List Entry) → length front + owed_of front ≤ limit → IsLogFrom limit front rest → length (front ++ rest) + owed_of (front ++ rest) ≤ limit
room_from limit front [] room h = subst (λ (l : List Entry). length l + owed_of l ≤ limit) (sym (append-nil front)) room
room_from limit front (x ∷ rest) room h =
    subst (λ (l : List Entry). length l + owed_of l ≤ limit) (append_assoc front (x ∷ []) rest) (room_from limit (front ++ x ∷ []) rest (room_push front limit x room h.0) h.1)

-- each reached log has room for what is owed
pub room : (log : List Entry) (limit : ℕ) → IsLog log limit → length log + owed_of log ≤ limit
room log limit h = room_from limit [] log (omega arith) h

-- and for a vote that it takes
pub vote_fits : (log : List Entry) (limit : ℕ) (vote : Entry) → IsLog log limit → vote.kind ≢ Start → add_refusal log limit vote ≡ None → length log < limit
vote_fits log limit vote h kind e =
    let lower = vote_lowers log limit vote.kind vote.num vote.deal kind e in
    let part = owed_by-le log vote.deal in
    let fits = room log limit h in
    omega (arith, lower, part, fits)

-- what the code computes for a record that is taken
pub record Owes (log : List Entry) (limit owed : ℕ) (t u : Option Tally) (entry : Entry) : Type 0 where
  pub part : owed_in t ≤ owed
  pub kept : IsKept (log ++ entry ∷ []) limit (owed - owed_in t + owed_in u)

pub owes : (log : List Entry) (limit owed : ℕ) (t u : Option Tally) (entry : Entry)
    → IsKept log limit owed → StandsFor log entry.deal t → StandsFor (log ++ entry ∷ []) entry.deal u
    → add_refusal log limit entry ≡ None → Owes log limit owed t u entry
owes log limit owed t u entry h s after e =
    let was : owed_in t ≡ owed_by log entry.deal = owed_same log entry.deal t s in
    let is : owed_in u ≡ owed_by (log ++ entry ∷ []) entry.deal = owed_same (log ++ entry ∷ []) entry.deal u after in
    let part' : owed_in t ≤ owed = omega (arith, was, h.counted, owed_by-le log entry.deal) in
    record {
      part = part';
      kept = kept_push log limit owed (owed - owed_in t + owed_in u) entry h e (omega (arith, was, is, part'));
    }

log_from_front : (limit : ℕ) (front rest : List Entry) (entry : Entry)
    → IsLogFrom limit front (rest ++ entry ∷ []) → IsLogFrom limit front rest
log_from_front limit front [] entry h = tt
log_from_front limit front (x ∷ rest) entry h = (h.0, log_from_front limit (front ++ x ∷ []) rest entry h.1)

-- what it computes where the last record is taken back
pub record Owed (log : List Entry) (limit owed : ℕ) (t u : Option Tally) : Type 0 where
  pub part : owed_in t ≤ owed
  pub kept : IsKept log limit (owed - owed_in t + owed_in u)

pub owed_back : (log : List Entry) (limit owed : ℕ) (t u : Option Tally) (entry : Entry)
    → IsKept (log ++ entry ∷ []) limit owed → StandsFor (log ++ entry ∷ []) entry.deal t → StandsFor log entry.deal u
    → Owed log limit owed t u
owed_back log limit owed t u entry h s before =
    let was : owed_in t ≡ owed_by (log ++ entry ∷ []) entry.deal = owed_same (log ++ entry ∷ []) entry.deal t s in
    let is : owed_in u ≡ owed_by log entry.deal = owed_same log entry.deal u before in
    let part' : owed_in t ≤ owed = omega (arith, was, h.counted, owed_by-le (log ++ entry ∷ []) entry.deal) in
    let counted' : owed - owed_in t + owed_in u ≡ owed_of log = omega (arith, was, is, part', h.counted, owed_push log entry) in
    let reached' : IsLogFrom limit [] log = log_from_front limit [] log entry h.reached in
    record {
      part = part';
      kept = record {
        reached = reached';
        counted = counted';
        room = omega (arith, counted', room log limit reached');
        fits = h.fits;
      };
    }
