-- A log keeps its texts as it grows, and is as before where what it took last is taken back.
use Rattle.std.proofs.Common.{◌≡◌, ◌≢◌, ℕ, Bool, true, false, cond, Option, Some, None, IsSome, is_some, Result, Ok, Err, OnOk, List, [], ◌∷◌, ◌++◌, length, refl, ap, sym, ◌∙◌, subst, ⊎_elim}
use Rattle.std.specs.Option.{option_map, option_or, MatchOption}
use Rattle.std.specs.Ordering.{nat_cmp, eq_by_cmp}
use Rattle.std.specs.Cmp.Lexicographic.{slice_cmp, nat_list_cmp_total}
use Rattle.std.specs.Str.{bytes_eq}
use Rattle.std.specs.FinMap.{empty, get, insert, remove, get-empty, get-insert, get-remove, same_map}
use Rattle.std.proofs.lemmas.Bool.{true≢false}
use Rattle.std.proofs.lemmas.List.{same_from_push}
use Rattle.std.proofs.lemmas.Map.Lookups.{exact_bytes}
use Rattle.std.proofs.lemmas.Map.Text.{is_eq-slice_cmp}
use Rattle.std.proofs.lemmas.Slice.Eq.{bytes_eq-Decides}
use Rattle.sha2.specs.Sha256.{sha256}
use Rattle.dh_base.specs.declared.id.Id.{Id}
use Rattle.dh_base.specs.declared.outcome.Outcome.{Outcome}
use Rattle.dh_base.specs.declared.outcome.Outcome.TheVariants.{Commit, Abort}
use Rattle.vote_log.specs.declared.kind.Kind.TheVariants as kind
use Rattle.vote_log.specs.declared.log_fault.LogFault.{LogFault}
use Rattle.vote_log.specs.Entry.{Entry}
use Rattle.vote_log.specs.Log.{Log}
use Rattle.vote_log.specs.Deciding.{Started, is_start, first_start}
use Rattle.vote_log.specs.Admission.{votable_of, add_refusal}
use Rattle.vote_log.proofs.Ids.{same_from_bytes}
use Rattle.vote_log.proofs.Votable.{votable_before, parties_push, start_is_first, start_pushed}
use Rattle.deal_log.specs.declared.admit_fault.AdmitFault.{AdmitFault}
use Rattle.deal_log.specs.declared.admit_fault.AdmitFault.TheVariants.{Refused}
use Rattle.deal_log.specs.declared.posting.Posting.{Posting}
use Rattle.deal_log.specs.declared.posting.Posting.TheVariants.{Start, Vote}
use Rattle.deal_log.specs.DealTexts.{TextMap, IsDealText, house_in, id_in, parties_in, text_of}
use Rattle.deal_log.specs.Postings.{start_entry, vote_entry}
use Rattle.deal_log.specs.VoteLogs.{VoteLogTold, HasTexts, IsStartedText, IsUndoable, most_records, ask_refusal, asked, record_refusal, refusal_of, with_posting}

pub no_texts : (house : Id) → HasTexts house [] empty
no_texts house = record {
  only = λ deal text e. absurd (let h = sym (get-empty (slice_cmp nat_cmp) deal.0) ∙ e in cc);
  all = λ deal parties e. absurd cc;
}

-- ---- one more record

vote_no_start : (choice : Outcome) (index : ℕ) (deal other : Id) → is_start other (vote_entry choice index deal) ≡ false
vote_no_start Commit index deal other = refl
vote_no_start Abort index deal other = refl

pub vote_keeps : (house : Id) (log : List Entry) (texts : TextMap) (choice : Outcome) (index : ℕ) (deal : Id) → HasTexts house log texts → HasTexts house (log ++ vote_entry choice index deal ∷ []) texts
vote_keeps house log texts choice index deal has = record {
  only = λ other text e.
      let h = has.only other text e in
      record { parties = h.parties; started = parties_push log other (vote_entry choice index deal) h.parties h.started; for = h.for };
  all = λ other parties e.
      ⊎_elim (λ (before : votable_of log other ≡ Ok parties). has.all other parties before)
      (λ (starts : is_start other (vote_entry choice index deal) ≡ true). absurd (true≢false (sym starts ∙ vote_no_start choice index deal other)))
      (votable_before log other (vote_entry choice index deal) parties e);
}

pub text_inserted : (texts : TextMap) (id deal : Id) (text : List ℕ) → text_of (insert texts id.0 text) deal ≡ cond (bytes_eq deal.0 id.0) (Some text) (text_of texts deal)
text_inserted texts id deal text =
    get-insert nat_list_cmp_total texts id.0 text deal.0 ∙ ap (λ b. cond b (Some text) (text_of texts deal)) (is_eq-slice_cmp deal.0 id.0)

some_kept : {X : Type 0} (b : Bool) (x : X) (o : Option X) → IsSome o → IsSome (cond b (Some x) o)
some_kept true x o h = refl
some_kept false x o h = h

not_refused : (o : Option LogFault) → option_map Refused o ≡ None → o ≡ None
not_refused None e = refl
not_refused (Some fault) e = absurd cc

pub start_keeps : (house : Id) (log : List Entry) (texts : TextMap) (text : List ℕ) → IsDealText text → house_in text ≡ Some house
    → add_refusal log most_records (start_entry text) ≡ None → HasTexts house log texts → HasTexts house (log ++ start_entry text ∷ []) (insert texts (sha256 text) text)
start_keeps house log texts text read named free has = record {
  only = λ deal other e. own deal other (bytes_eq deal.0 (id_in text).0) refl (sym (text_inserted texts (id_in text) deal text) ∙ e);
  all = λ deal parties e.
      subst IsSome (sym (text_inserted texts (id_in text) deal text))
      (⊎_elim (λ (before : votable_of log deal ≡ Ok parties). some_kept (bytes_eq deal.0 (id_in text).0) text (text_of texts deal) (has.all deal parties before))
      (λ (starts : is_start deal (start_entry text) ≡ true). ap (λ b. is_some (cond b (Some text) (text_of texts deal))) starts)
      (votable_before log deal (start_entry text) parties e));
}
  where
    own : (deal : Id) (other : List ℕ) (b : Bool) → bytes_eq deal.0 (id_in text).0 ≡ b → cond b (Some text) (text_of texts deal) ≡ Some other → IsStartedText house (log ++ start_entry text ∷ []) deal other
    own deal other true is e =
        let same : id_in text ≡ deal = sym (same_from_bytes deal (id_in text) is) in
        let this : text ≡ other = cc in
        let here : IsStartedText house (log ++ start_entry text ∷ []) (id_in text) text =
        record {
          parties = length (parties_in text);
          started = start_pushed log most_records (length (parties_in text)) (id_in text) free;
          for = record { read = read; id = refl; named = named; several = refl };
        } in
        subst (IsStartedText house (log ++ start_entry text ∷ []) deal) this
        (subst (λ (d : Id). IsStartedText house (log ++ start_entry text ∷ []) d text) same here)
    own deal other false is e =
        let h = has.only deal other e in
        record { parties = h.parties; started = parties_push log deal (start_entry text) h.parties h.started; for = h.for }

-- ---- what a log's calls leave

-- what is kept beside the records of a log
abbrev pub IsKeptWith : Id → Log → TextMap → Type 0
IsKeptWith house records texts = (records.limit ≡ most_records) × HasTexts house records.entries texts

pub kept_vote : (house : Id) (records new : Log) (texts : TextMap) (choice : Outcome) (index : ℕ) (deal : Id) → IsKeptWith house records texts
    → new ≡ record records { entries = records.entries ++ vote_entry choice index deal ∷ [] } → IsKeptWith house new texts
kept_vote house records new texts choice index deal own is =
    subst (λ (l : Log). IsKeptWith house l texts) (sym is) (own.0, vote_keeps house records.entries texts choice index deal own.1)

pub kept_start : (house : Id) (records new : Log) (texts put : TextMap) (text : List ℕ) (rec : Entry) → IsKeptWith house records texts → IsDealText text → house_in text ≡ Some house
    → rec ≡ start_entry text → add_refusal records.entries records.limit rec ≡ None → new ≡ record records { entries = records.entries ++ rec ∷ [] }
    → put ≡ insert texts (sha256 text) text → IsKeptWith house new put
kept_start house records new texts put text rec own read named starts free is there =
    let free' : add_refusal records.entries most_records (start_entry text) ≡ None =
    ap (λ (r : Entry). add_refusal records.entries most_records r) (sym starts) ∙ (ap (λ (n : ℕ). add_refusal records.entries n rec) (sym own.0) ∙ free) in
    let P : Log → TextMap → Type 0 = IsKeptWith house in
    let longer : new ≡ record records { entries = records.entries ++ start_entry text ∷ [] } = is ∙ ap (λ (r : Entry). record records { entries = records.entries ++ r ∷ [] }) starts in
    subst (P new) (sym there) (subst (λ (l : Log). P l (insert texts (sha256 text) text)) (sym longer) (own.0, start_keeps house records.entries texts text read named free' own.1))

no_push : (xs : List Entry) (x : Entry) → xs ++ x ∷ [] ≡ [] → ⊥
no_push [] x e = cc
no_push (y ∷ xs) x e = cc

-- a record that was added and taken back
pub taken_back : (records new back : Log) (rec : Entry) (r : Option Entry) → new ≡ record records { entries = records.entries ++ rec ∷ [] }
    → MatchOption r (new.entries ≡ []) (λ last. new ≡ record back { entries = back.entries ++ last ∷ [] }) → back ≡ records
taken_back records new back rec None is h = absurd (no_push records.entries rec (ap (λ (l : Log). l.entries) (sym is) ∙ h))
taken_back records new back rec (Some last) is h =
    let both = sym is ∙ h in
    let parts = same_from_push records.entries back.entries rec last (ap (λ (l : Log). l.entries) both) in
    let limit : records.limit ≡ back.limit = ap (λ (l : Log). l.limit) both in
    λ i. record { entries = sym parts.0 i; limit = sym limit i }

-- ---- taking back

pub or_parts : {X : Type 0} (a b : Option X) → option_or a b ≡ None → (a ≡ None) × (b ≡ None)
or_parts None b e = (refl, e)
or_parts (Some x) b e = absurd cc

-- a deal that is started now has no text before
new_text : (before : VoteLogTold) (account : Id) (text : List ℕ) → HasTexts before.house before.entries before.texts → refusal_of before (Start account text) ≡ None → text_of before.texts (id_in text) ≡ None
new_text before account text kept free = none (text_of before.texts (id_in text)) refl
  where
    first : first_start before.entries (id_in text) ≡ None
    first = start_is_first before.entries most_records (length (parties_in text)) (id_in text) (not_refused (add_refusal before.entries most_records (start_entry text)) (or_parts (ask_refusal before (Start account text)) (record_refusal before.entries (start_entry text)) free).1)

    none : (o : Option (List ℕ)) → text_of before.texts (id_in text) ≡ o → o ≡ None
    none None is = refl
    none (Some other) is =
        let h = kept.only (id_in text) other is in
        absurd (let started = sym h.started ∙ ap (option_map (λ (s : Started). s.parties)) first in cc)

remove_inserted : (texts : TextMap) (key text : List ℕ) → get texts key ≡ None → remove (insert texts key text) key ≡ texts
remove_inserted texts key text none =
    same_map nat_list_cmp_total exact_bytes _ _ (λ q.
    get-remove nat_list_cmp_total (insert texts key text) key q
    ∙ (ap (cond (eq_by_cmp (slice_cmp nat_cmp) q key) None) (get-insert nat_list_cmp_total texts key text q) ∙ at q (eq_by_cmp (slice_cmp nat_cmp) q key) refl))
  where
    at : (q : List ℕ) (b : Bool) → eq_by_cmp (slice_cmp nat_cmp) q key ≡ b → cond b None (cond b (Some text) (get texts q)) ≡ get texts q
    at q true is =
        sym (ap (get texts) ((bytes_eq-Decides q key).0 (sym (is_eq-slice_cmp q key) ∙ is)) ∙ none)
    at q false is = refl

-- the log before, found by the last record
pub record IsUndone (before now : VoteLogTold) (rest : List Entry) (last : Entry) : Type 0 where
  pub house : now.house ≡ before.house
  pub entries : rest ≡ before.entries
  pub start : last.kind ≡ kind.Start → remove now.texts last.deal.0 ≡ before.texts
  pub vote : last.kind ≢ kind.Start → now.texts ≡ before.texts

pub vote_kind_is : (choice : Outcome) (index : ℕ) (deal : Id) → (vote_entry choice index deal).kind ≢ kind.Start
vote_kind_is Commit index deal e = cc
vote_kind_is Abort index deal e = cc

undone_by : (before now : VoteLogTold) (rest : List Entry) (last : Entry) (posting : Posting) → HasTexts before.house before.entries before.texts → refusal_of before posting ≡ None
    → now ≡ with_posting before posting → now.entries ≡ rest ++ last ∷ [] → IsUndone before now rest last
undone_by before now rest last (Start account text) kept free is e =
    let parts = same_from_push before.entries rest (start_entry text) last (ap (λ (l : VoteLogTold). l.entries) (sym is) ∙ e) in
    let key : last.deal.0 ≡ sha256 text = ap (λ (r : Entry). r.deal.0) (sym parts.1) in
    let texts : now.texts ≡ insert before.texts (sha256 text) text = ap (λ (l : VoteLogTold). l.texts) is in
    record {
      house = ap (λ (l : VoteLogTold). l.house) is;
      entries = sym parts.0;
      start = λ _. ap (λ (t : TextMap). remove t last.deal.0) texts ∙ (ap (remove (insert before.texts (sha256 text) text)) key ∙ remove_inserted before.texts (sha256 text) text (new_text before account text kept free));
      vote = λ other. absurd (other (ap (λ (r : Entry). r.kind) (sym parts.1)));
    }
undone_by before now rest last (Vote account choice index deal) kept free is e =
    let parts = same_from_push before.entries rest (vote_entry choice index deal) last (ap (λ (l : VoteLogTold). l.entries) (sym is) ∙ e) in
    record {
      house = ap (λ (l : VoteLogTold). l.house) is;
      entries = sym parts.0;
      start = λ starts. absurd (vote_kind_is choice index deal (ap (λ (r : Entry). r.kind) parts.1 ∙ starts));
      vote = λ _. ap (λ (l : VoteLogTold). l.texts) is;
    }

pub undone : (before now : VoteLogTold) (rest : List Entry) (last : Entry) → IsUndoable before now → now.entries ≡ rest ++ last ∷ [] → IsUndone before now rest last
undone before now rest last h e = undone_by before now rest last h.posting h.kept h.taken.free h.taken.is e

pub undoable : {X F : Type 0} (before after : VoteLogTold) (posting : Posting) (r : Result X F) → ask_refusal before posting ≡ None → HasTexts before.house before.entries before.texts
    → OnOk r ((record_refusal before.entries (asked posting) ≡ None) × (after ≡ with_posting before posting)) → OnOk r (IsUndoable before after)
undoable before after posting (Ok x) asks kept h =
    record { kept = kept; posting = posting; taken = record { free = ap (λ (o : Option AdmitFault). option_or o (record_refusal before.entries (asked posting))) asks ∙ h.0; is = h.1 } }
undoable before after posting (Err fault) asks kept h = tt

abbrev told : Id → Log → TextMap → VoteLogTold
told house records texts = record { house = house; entries = records.entries; texts = texts }

module _ (house : Id) (records back : Log) (texts : TextMap) (now : VoteLogTold) (last : Entry) (view : told house records texts ≡ now) (is : records ≡ record back { entries = back.entries ++ last ∷ [] }) where
  found : (before : VoteLogTold) → IsUndoable before now → IsUndone before (told house records texts) back.entries last
  found before h = undone before (told house records texts) back.entries last (subst (IsUndoable before) (sym view) h) (ap (λ (l : Log). l.entries) is)

  pub start_undone : (removed : TextMap) → last.kind ≡ kind.Start → removed ≡ remove texts last.deal.0 → (before : VoteLogTold) → IsUndoable before now → told house back removed ≡ before
  start_undone removed starts there before h =
      let u = found before h in
      let texts_are = there ∙ u.start starts in
      λ i. record { house = u.house i; entries = u.entries i; texts = texts_are i }

  pub vote_undone : last.kind ≢ kind.Start → (before : VoteLogTold) → IsUndoable before now → told house back texts ≡ before
  vote_undone other before h =
      let u = found before h in
      let texts_are = u.vote other in
      λ i. record { house = u.house i; entries = u.entries i; texts = texts_are i }

  pub kept_back : (left : TextMap) → IsKeptWith house records texts → ((before : VoteLogTold) → IsUndoable before now → told house back left ≡ before) → (before : VoteLogTold) × IsUndoable before now → IsKeptWith house back left
  kept_back left own same some =
      let limit : back.limit ≡ records.limit = ap (λ (l : Log). l.limit) (sym is) in
      (limit ∙ own.0, subst (λ (l : VoteLogTold). HasTexts l.house l.entries l.texts) (sym (same some.0 some.1)) some.1.kept)
