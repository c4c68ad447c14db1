-- Where the records of a log stand by which a deal commits.
use Rattle.std.proofs.Common.{◌≡◌, ℕ, zero, suc, ◌<◌, ◌≤◌, leb, Bool, true, false, Option, Some, None, List, [], ◌∷◌, ◌++◌, length, refl, ap, sym, ◌∙◌, subst, inl, inr, arith, length-append}
use Rattle.std.specs.List.{slice_get}
use Rattle.std.proofs.lemmas.Bool.{leb-true, leb-false}
use Rattle.dh_base.specs.declared.id.Id.{Id}
use Rattle.dh_base.specs.declared.outcome.Outcome.{Outcome}
use Rattle.dh_base.specs.declared.outcome.Outcome.TheVariants.{Commit as ToCommit, Abort as ToAbort}
use Rattle.vote_log.specs.declared.decision.Decision.{Decision}
use Rattle.vote_log.specs.declared.kind.Kind.TheVariants.{Start, Commit, Abort}
use Rattle.vote_log.specs.Deciding.{outcome_of}
use Rattle.vote_log.specs.Entry.{Entry}
use Rattle.vote_log.specs.Places.{HoldsAt, HasCommitted, IsDecisive, IsFirstDecisive}
use Rattle.joined_deals.proofs.Elements.{place_in}
use Rattle.compliant_deals.proofs.Places.{get_front, get_next, below_or_last}
use Rattle.compliant_deals.specs.CommitLogs.{HoldsAllCommits, start_of, commit_of, commits_to, whole_log}

some_is : (x y : Entry) → Some x ≡ Some y → x ≡ y
some_is x y e = cc

-- ---- all commits in whatever order

module _ (log : List Entry) (deal : Id) (parties : ℕ) (h : HoldsAllCommits log deal parties) where
  -- the latest of the commits of the first n indices, as they were named
  record Latest (n : ℕ) : Type 0 where
    place : ℕ
    index : ℕ
    after : h.start < place
    here : HoldsAt log place Commit index deal
    complete : (each : ℕ) → each < n → HasCommitted log deal h.start (suc place) each

  longer : (each place later : ℕ) → place ≤ later → HasCommitted log deal h.start (suc place) each → HasCommitted log deal h.start (suc later) each
  longer each place later le c = (c.0, c.1, omega (arith, c.2, le), c.3)

  abbrev Named : ℕ → Type 0
  Named n = (place : ℕ) × (h.start < place) × HoldsAt log place Commit n deal

  only : Named 0 → Latest 1
  only new = record { place = new.0; index = 0; after = new.1; here = new.2; complete = λ each less. one each less }
    where
      one : (each : ℕ) → each < 1 → HasCommitted log deal h.start (suc new.0) each
      one zero less = (new.0, new.1, omega arith, new.2)
      one (suc each) less = absurd (omega (arith, less))

  with_new : (n : ℕ) → Latest n → Named n → Latest (suc n)
  with_new n old new = by_order (leb old.place new.0) refl
    where
      latest_new : old.place ≤ new.0 → (each : ℕ) → each < suc n → HasCommitted log deal h.start (suc new.0) each
      latest_new le each less = elim (below_or_last n each less) [
        | inl before ↦ longer each old.place new.0 le (old.complete each before)
        | inr last ↦ subst (λ (k : ℕ). HasCommitted log deal h.start (suc new.0) k) (sym last) (new.0, new.1, omega arith, new.2)
      ]

      latest_old : new.0 < old.place → (each : ℕ) → each < suc n → HasCommitted log deal h.start (suc old.place) each
      latest_old gt each less = elim (below_or_last n each less) [
        | inl before ↦ old.complete each before
        | inr last ↦ subst (λ (k : ℕ). HasCommitted log deal h.start (suc old.place) k) (sym last) (new.0, new.1, omega (arith, gt), new.2)
      ]

      by_order : (b : Bool) → leb old.place new.0 ≡ b → Latest (suc n)
      by_order true e = record { place = new.0; index = n; after = new.1; here = new.2; complete = latest_new (leb-true old.place new.0 e) }
      by_order false e = record { place = old.place; index = old.index; after = old.after; here = old.here; complete = latest_old (leb-false old.place new.0 e) }

  latest : (n : ℕ) → suc n ≤ parties → Latest (suc n)
  latest zero le = only (h.commits 0 (omega (arith, le)))
  latest (suc n) le = with_new (suc n) (latest n (omega (arith, le))) (h.commits (suc n) (omega (arith, le)))

  pub a_decisive_place : (n : ℕ) → parties ≡ suc n → (place : ℕ) × IsDecisive log deal place ToCommit
  a_decisive_place n is =
      let last = latest n (omega (arith, is)) in (
        last.place,
        record {
          start = h.start;
          parties = parties;
          index = last.index;
          first = h.first;
          after = last.after;
          here = last.here;
          complete = λ each less. last.complete each (omega (arith, less, is));
        },
      )

  abbrev NoneLaw : Type 0
  NoneLaw = (outcome_of log deal ≡ None) → (place : ℕ) (outcome : Outcome) → IsDecisive log deal place outcome → ⊥

  abbrev SomeLaw : Type 0
  SomeLaw = (place : ℕ) (outcome : Outcome) → outcome_of log deal ≡ Some (record { outcome = outcome; at = place }) → IsFirstDecisive log deal place outcome

  pub commits_decide : NoneLaw → SomeLaw → 0 < parties → (at : ℕ) × (outcome_of log deal ≡ Some (record { outcome = ToCommit; at = at }))
  commits_decide none some_law some = by_outcome (outcome_of log deal) refl
    where
      by_kind : (o : Outcome) (at : ℕ) → outcome_of log deal ≡ Some (record { outcome = o; at = at }) → (place : ℕ) × (outcome_of log deal ≡ Some (record { outcome = ToCommit; at = place }))
      by_kind ToCommit at is = (at, is)
      by_kind ToAbort at is = let a = (some_law at ToAbort is).here in absurd (h.no_abort at a.index a.here)

      undecided : (n : ℕ) → parties ≡ n → outcome_of log deal ≡ None → ⊥
      undecided zero is e = omega (arith, some, is)
      undecided (suc n) is e = let there = a_decisive_place n is in none e there.0 ToCommit there.1

      by_outcome : (o : Option Decision) → outcome_of log deal ≡ o → (place : ℕ) × (outcome_of log deal ≡ Some (record { outcome = ToCommit; at = place }))
      by_outcome None is = absurd (undecided parties refl is)
      by_outcome (Some decision) is = by_kind decision.outcome decision.at is

-- ---- the start and all commits in order

so_many : (deal : Id) (n : ℕ) → length (commits_to deal n) ≡ n
so_many deal zero = refl
so_many deal (suc n) = omega (arith, length-append (commits_to deal n) (commit_of deal n ∷ []), so_many deal n)

-- at each place stands the commit of that index
only_commits : (deal : Id) (n j : ℕ) (x : Entry) → slice_get (commits_to deal n) j ≡ Some x → x ≡ commit_of deal j
only_commits deal zero j x e = absurd cc
only_commits deal (suc n) j x e = elim (place_in (commits_to deal n) (commit_of deal n) x j e) [
  | inl before ↦ only_commits deal n j x before.1
  | inr last ↦
      let same : n ≡ j = omega (arith, last.0, so_many deal n) in
      sym last.1 ∙ ap (commit_of deal) same
]

commit_there : (deal : Id) (n j : ℕ) → j < n → slice_get (commits_to deal n) j ≡ Some (commit_of deal j)
commit_there deal zero j less = absurd (omega (arith, less))
commit_there deal (suc n) j less = elim (below_or_last n j less) [
  | inl before ↦ get_front (commits_to deal n) (commit_of deal n ∷ []) j (commit_of deal j) (commit_there deal n j before)
  | inr last ↦
      let place : length (commits_to deal n) ≡ j = so_many deal n ∙ sym last in
      subst (λ i. slice_get (commits_to deal n ++ commit_of deal n ∷ []) i ≡ Some (commit_of deal j)) place (get_next (commits_to deal n) (commit_of deal n) [] ∙ ap (λ i. Some (commit_of deal i)) (sym last))
]

-- the deal starts at the first place, with n parties
start_is : (deal : Id) (n place parties : ℕ) → HoldsAt (whole_log deal n) place Start parties deal → (place ≡ 0) × (parties ≡ n)
start_is deal n zero parties e = let same = some_is (start_of deal n) (start_of deal parties) e in (refl, sym (ap (λ (x : Entry). x.num) same))
start_is deal n (suc place) parties e =
    let kind : Start ≡ Commit = ap (λ (x : Entry). x.kind) (only_commits deal n place (start_of deal parties) e) in
    absurd cc

commit_is : (deal : Id) (n place index : ℕ) → HoldsAt (whole_log deal n) place Commit index deal → place ≡ suc index
commit_is deal n zero index e =
    let kind : Start ≡ Commit = ap (λ (x : Entry). x.kind) (some_is (start_of deal n) (commit_of deal index) e) in
    absurd cc
commit_is deal n (suc place) index e =
    let num : index ≡ place = ap (λ (x : Entry). x.num) (only_commits deal n place (commit_of deal index) e) in
    omega (arith, num)

no_abort : (deal : Id) (n place index : ℕ) → HoldsAt (whole_log deal n) place Abort index deal → ⊥
no_abort deal n zero index e =
    let kind : Start ≡ Abort = ap (λ (x : Entry). x.kind) (some_is (start_of deal n) (record { kind = Abort; num = index; deal = deal }) e) in
    absurd cc
no_abort deal n (suc place) index e =
    let kind : Abort ≡ Commit = ap (λ (x : Entry). x.kind) (only_commits deal n place (record { kind = Abort; num = index; deal = deal }) e) in
    absurd cc

none_earlier : (deal : Id) (n : ℕ) → (earlier : ℕ) (other : Outcome) → earlier < suc n → IsDecisive (whole_log deal (suc n)) deal earlier other → ⊥
none_earlier deal n earlier ToAbort less d = no_abort deal (suc n) earlier d.index d.here
none_earlier deal n earlier ToCommit less d =
    let s = start_is deal (suc n) d.start d.parties d.first.here in
    let h = d.complete n (omega (arith, s.1)) in
    let place = commit_is deal (suc n) h.0 n h.3 in
    omega (arith, place, h.2, less)

pub first_at_last : (deal : Id) (n : ℕ) → IsFirstDecisive (whole_log deal (suc n)) deal (suc n) ToCommit
first_at_last deal n = record {
  here = record {
    start = 0;
    parties = suc n;
    index = n;
    first = record { here = refl; first = λ earlier other less h. omega (arith, less) };
    after = omega arith;
    here = commit_there deal (suc n) n (omega arith);
    complete = λ each less. (suc each, omega arith, omega (arith, less), commit_there deal (suc n) each less);
  };
  first = none_earlier deal n;
}

abbrev WholeLaw : Id → ℕ → Type 0
WholeLaw deal n = IsFirstDecisive (whole_log deal n) deal n ToCommit → outcome_of (whole_log deal n) deal ≡ Some (record { outcome = ToCommit; at = n })

pub whole_decides : (deal : Id) (n : ℕ) → 0 < n → WholeLaw deal n → outcome_of (whole_log deal n) deal ≡ Some (record { outcome = ToCommit; at = n })
whole_decides deal zero some law = absurd (omega (arith, some))
whole_decides deal (suc n) some law = law (first_at_last deal n)
