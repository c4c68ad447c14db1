-- An envelope has one reading, and votes are refused by the voter's name.
use Rattle.std.proofs.Common.{◌≡◌, ◌≢◌, ℕ, ◌+◌, ◌<◌, nat_le, Bool, true, false, cond, List, [], ◌∷◌, length, Option, Some, None, Result, Ok, Err, refl, ap, sym, ◌∙◌, subst, inl, inr, ◌⊎◌, arith}
use Rattle.std.specs.Option.{option_map, option_or}
use Rattle.std.proofs.lemmas.Bool.{eqb-true}
use Rattle.dh_base.specs.declared.id.Id.{Id}
use Rattle.dh_base.specs.declared.outcome.Outcome.{Outcome}
use Rattle.dh_base.specs.declared.outcome.Outcome.TheVariants.{Commit, Abort}
use Rattle.key_ring.specs.declared.envelope.Envelope.{Envelope}
use Rattle.key_ring.specs.declared.said.Said.{Said}
use Rattle.key_ring.specs.declared.env_fault.EnvFault.{EnvFault}
use Rattle.key_ring.specs.Answering.{said_of}
use Rattle.key_ring.proofs.Checked.{answer_is}
use Rattle.act_text.specs.declared.act.Act.{Act}
use Rattle.act_text.specs.declared.act.Act.TheVariants as act
use Rattle.deal_core.specs.declared.party.Party.{Party}
use Rattle.deal_core.specs.declared.deal_fault.DealFault.{DealFault}
use Rattle.deal_core.specs.declared.deal_fault.DealFault.TheVariants as deal_fault
use Rattle.deal_core.specs.Deals.{DealTold, party_where, has_account, index_of_account}
use Rattle.deal_core.specs.Reading.{AreOneAnswer, IsFaultOf}
use Rattle.deal_core.proofs.OneAnswer.{one_answer}
use Rattle.vote_log.specs.declared.decision.Decision.{Decision}
use Rattle.vote_log.specs.declared.log_fault.LogFault.{LogFault}
use Rattle.vote_log.specs.declared.log_fault.LogFault.TheVariants.{NotAParty, LogFull, NoMemory}
use Rattle.vote_log.specs.Deciding.{Started, first_start, outcome_of}
use Rattle.vote_log.specs.Admission.{commit_refusal, votable_by, votable_of, add_refusal}
use Rattle.vote_log.specs.Admission as admission
use Rattle.vote_log.proofs.Votable.{votable_parties}
use Rattle.deal_log.specs.declared.admit_fault.AdmitFault.{AdmitFault}
use Rattle.deal_log.specs.declared.admit_fault.AdmitFault.TheVariants.{BadEnvelope, BadAct, BadDeal, WrongHouse, Refused}
use Rattle.deal_log.specs.declared.posting.Posting.{Posting}
use Rattle.deal_log.specs.declared.posting.Posting.TheVariants.{Start, Vote}
use Rattle.deal_log.specs.DealTexts.{IsDealText, parties_in, text_of}
use Rattle.deal_log.specs.Postings.{SaysAct, Posts, IsPostFault, IsPosted, AreOneReading, vote_entry}
use Rattle.deal_log.specs.VoteLogs.{VoteLogTold, HasTexts, most_records, parties_kept, is_index, is_party_at, vote_refusal, record_refusal, refusal_of}

-- ---- one reading

said_is : (env : Envelope) (account : Id) (said : Act) → SaysAct env account said → (q : ℕ) × (said_of env ≡ Ok (record { account = account; q = q }))
said_is env account said s = let r : Result Said EnvFault = Ok (record { account = account; q = s.q }) in (s.q, sym (answer_is env r s.says))

says_some : (env : Envelope) (account : Id) (said : Act) (fault : EnvFault) → SaysAct env account said → said_of env ≡ Err fault → ⊥
says_some env account said fault s e = let h = (said_is env account said s).1 in cc (h, e)

abbrev said_account : Id → Result Said EnvFault → Id
said_account other (Ok said) = said.account
said_account other (Err fault) = other

same_said : (env : Envelope) (a b : Id) (one other : Act) → SaysAct env a one → SaysAct env b other → (a ≡ b) × (one ≡ other)
same_said env a b one other s t =
    let h = (said_is env a one s).1 in
    let k = (said_is env b other t).1 in
    let both = sym h ∙ k in
    (ap (said_account a) both, let e = sym s.read ∙ t.read in cc e)

same_posting : (env : Envelope) (one other : Posting) → Posts env one → Posts env other → one ≡ other
same_posting env (Start a text) (Start b text') p q = let h = same_said env a b (act.StartDeal text) (act.StartDeal text') p.0 q.0 in cc (h.0, h.1)
same_posting env (Start a text) (Vote b choice index deal) p q = absurd (let h = same_said env a b (act.StartDeal text) (act.Vote deal index choice) p.0 q in cc h.1)
same_posting env (Vote a choice index deal) (Start b text) p q = absurd (let h = same_said env a b (act.Vote deal index choice) (act.StartDeal text) p q.0 in cc h.1)
same_posting env (Vote a choice index deal) (Vote b choice' index' deal') p q = let h = same_said env a b (act.Vote deal index choice) (act.Vote deal' index' choice') p q in cc (h.0, h.1)

-- what says an act of a log
said_act : (posting : Posting) → Act
said_act (Start account text) = act.StartDeal text
said_act (Vote account choice index deal) = act.Vote deal index choice

asker : Posting → Id
asker (Start account text) = account
asker (Vote account choice index deal) = account

posts_says : (env : Envelope) (posting : Posting) → Posts env posting → SaysAct env (asker posting) (said_act posting)
unfolding asker said_act
posts_says env (Start account text) p = p.0
posts_says env (Vote account choice index deal) p = p

no_fault : (deal : DealTold) (fault : DealFault) → AreOneAnswer (Ok deal) (Err fault) → fault ≢ deal_fault.NoMemory → ⊥
no_fault deal fault (inl e) other = cc
no_fault deal fault (inr (inl e)) other = cc
no_fault deal fault (inr (inr e)) other = other (cc e)

same_fault : (one two : DealFault) → AreOneAnswer (Err one) (Err two) → one ≢ deal_fault.NoMemory → two ≢ deal_fault.NoMemory → one ≡ two
same_fault one two (inl e) a b = cc e
same_fault one two (inr (inl e)) a b = absurd (a (cc e))
same_fault one two (inr (inr e)) a b = absurd (b (cc e))

-- what is posted has a deal's text
posts_deal : (env : Envelope) (posting : Posting) (account : Id) (text : List ℕ) → Posts env posting → SaysAct env account (act.StartDeal text) → IsDealText text
posts_deal env (Start a other) account text p s = let h = same_said env a account (act.StartDeal other) (act.StartDeal text) p.0 s in let same : other ≡ text = cc h.1 in subst IsDealText same p.1
posts_deal env (Vote a choice index deal) account text p s = absurd (let h = same_said env a account (act.Vote deal index choice) (act.StartDeal text) p s in cc h.1)

abbrev out_of_memory : AdmitFault → Type 0
out_of_memory fault = fault ≡ Refused NoMemory

-- where an envelope posts something, it posts nothing only for want of memory
no_fault_of : (env : Envelope) (posting : Posting) (fault : AdmitFault) → Posts env posting → IsPostFault env fault → out_of_memory fault
no_fault_of env posting (BadEnvelope fault) p f = absurd (says_some env (asker posting) (said_act posting) fault (posts_says env posting p) f)
no_fault_of env posting (BadAct fault) p f = absurd (let s = posts_says env posting p in let e = sym s.read ∙ f.2 in cc e)
no_fault_of env posting (BadDeal fault) p f =
    let read = posts_deal env posting f.0 f.1 p f.2 in
    absurd (no_fault read.0 fault (one_answer f.1 (Ok read.0) (Err fault) read.1 f.3) f.4)
no_fault_of env posting (WrongHouse named) p f = absurd f
no_fault_of env posting (Refused fault) p f = ap Refused f

-- two reasons are one, or memory ran out
two_faults : (env : Envelope) (one two : AdmitFault) → IsPostFault env one → IsPostFault env two → (one ≡ two) ⊎ (out_of_memory one ⊎ out_of_memory two)
two_faults env (Refused fault) two f g = inr (inl (ap Refused f))
two_faults env (WrongHouse named) two f g = absurd f
two_faults env one (Refused fault) f g = inr (inr (ap Refused g))
two_faults env one (WrongHouse named) f g = absurd g
two_faults env (BadEnvelope a) (BadEnvelope b) f g = inl (let e = sym f ∙ g in cc e)
two_faults env (BadEnvelope a) (BadAct b) f g = absurd (let e = sym f ∙ g.1 in cc e)
two_faults env (BadEnvelope a) (BadDeal b) f g = absurd (says_some env g.0 (act.StartDeal g.1) a g.2 f)
two_faults env (BadAct a) (BadEnvelope b) f g = absurd (let e = sym f.1 ∙ g in cc e)
two_faults env (BadAct a) (BadAct b) f g = inl (let e = sym f.2 ∙ g.2 in cc e)
two_faults env (BadAct a) (BadDeal b) f g = absurd (let e = sym f.2 ∙ g.2.read in cc e)
two_faults env (BadDeal a) (BadEnvelope b) f g = absurd (says_some env f.0 (act.StartDeal f.1) b f.2 g)
two_faults env (BadDeal a) (BadAct b) f g = absurd (let e = sym g.2 ∙ f.2.read in cc e)
two_faults env (BadDeal a) (BadDeal b) f g =
    let said = same_said env f.0 g.0 (act.StartDeal f.1) (act.StartDeal g.1) f.2 g.2 in
    let text : g.1 ≡ f.1 = cc said.1 in
    let other : IsFaultOf f.1 b = subst (λ (t : List ℕ). IsFaultOf t b) text g.3 in
    inl (ap BadDeal (same_fault a b (one_answer f.1 (Err a) (Err b) f.3 other) f.4 g.4))

pub one_reading : (env : Envelope) (one other : Result Posting AdmitFault) → IsPosted env one → IsPosted env other → AreOneReading one other
one_reading env (Ok p) (Ok q) a b = inl (ap (λ (x : Posting). Ok x) (same_posting env p q a b))
one_reading env (Ok p) (Err g) a b = inr (inr (ap (λ (x : AdmitFault). Err x) (no_fault_of env p g a b)))
one_reading env (Err f) (Ok q) a b = inr (inl (ap (λ (x : AdmitFault). Err x) (no_fault_of env q f b a)))
one_reading env (Err f) (Err g) a b = two_or f g (two_faults env f g a b)
  where
    two_or : (f g : AdmitFault) → (f ≡ g) ⊎ (out_of_memory f ⊎ out_of_memory g) → AreOneReading (Err f) (Err g)
    two_or f g (inl e) = inl (ap (λ (x : AdmitFault). Err x) e)
    two_or f g (inr (inl e)) = inr (inl (ap (λ (x : AdmitFault). Err x) e))
    two_or f g (inr (inr e)) = inr (inr (ap (λ (x : AdmitFault). Err x) e))

-- ---- votes

not_full_by : (start : Option Started) (decision : Option Decision) (len owed : ℕ) → votable_by start decision ≡ Err (LogFull len owed) → ⊥
not_full_by None decision len owed e = cc
not_full_by (Some start) None len owed e = cc
not_full_by (Some start) (Some decision) len owed e = cc

not_named_by : (start : Option Started) (decision : Option Decision) (named : Id) → votable_by start decision ≡ Err (NotAParty named) → ⊥
not_named_by None decision named e = cc
not_named_by (Some start) None named e = cc
not_named_by (Some start) (Some decision) named e = cc

refused_same : (o : Option LogFault) (fault : LogFault) → option_map Refused o ≡ Some (Refused fault) → o ≡ Some fault
refused_same None fault e = absurd cc
refused_same (Some other) fault e = cc

pub vote_not_full : (log : VoteLogTold) (account : Id) (choice : Outcome) (index : ℕ) (deal : Id) (len owed : ℕ)
    → add_refusal log.entries most_records (vote_entry choice index deal) ≢ Some (LogFull len owed) → refusal_of log (Vote account choice index deal) ≢ Some (Refused (LogFull len owed))
vote_not_full log account choice index deal len owed never e = go (votable_of log.entries deal) refl (is_party_at log.texts deal account index) e
  where
    go : (r : Result ℕ LogFault) → votable_of log.entries deal ≡ r → (b : Bool) → option_or (vote_refusal r b account) (record_refusal log.entries (vote_entry choice index deal)) ≡ Some (Refused (LogFull len owed)) → ⊥
    go (Err fault) is b e = not_full_by (first_start log.entries deal) (outcome_of log.entries deal) len owed (let same : fault ≡ LogFull len owed = cc e in is ∙ ap (λ (f : LogFault). Err f) same)
    go (Ok n) is true e = never (refused_same (add_refusal log.entries most_records (vote_entry choice index deal)) (LogFull len owed) e)
    go (Ok n) is false e = cc e

within_parties : (test : Party → Bool) (i : ℕ) (ps : List Party) (k : ℕ) → party_where test i ps ≡ Some k → k < i + length ps
within_parties test i [] k e = absurd cc
within_parties test i (p ∷ ps) k e = go (test p) e (λ h. within_parties test (i + 1) ps k h)
  where
    go : (b : Bool) → cond b (Some i) (party_where test (i + 1) ps) ≡ Some k → (party_where test (i + 1) ps ≡ Some k → k < i + 1 + length ps) → k < i + length (p ∷ ps)
    go true e next = let same : i ≡ k = cc in omega arith
    go false e next = let h = next e in omega arith

own_index : (o : Option ℕ) (index : ℕ) → is_index o index ≡ true → o ≡ Some index
own_index None index e = absurd cc
own_index (Some own) index e = ap (λ (n : ℕ). Some n) (eqb-true own index e)

-- the index of a party is below the number of parties
index_within : (log : VoteLogTold) (account : Id) (index n : ℕ) (deal : Id) → HasTexts log.house log.entries log.texts → votable_of log.entries deal ≡ Ok n → is_party_at log.texts deal account index ≡ true → index < n
index_within log account index n deal has votes is = go (text_of log.texts deal) refl is
  where
    go : (o : Option (List ℕ)) → text_of log.texts deal ≡ o → is_index (index_of_account (parties_kept o) account) index ≡ true → index < n
    go None there is = absurd cc
    go (Some text) there is =
        let h = has.only deal text there in
        let same : h.parties ≡ n = (let both = sym h.started ∙ votable_parties log.entries deal n votes in cc both) in
        let less = within_parties (has_account account) 0 (parties_in text) index (own_index (index_of_account (parties_in text) account) index is) in
        omega (arith, less, same, h.for.several)

not_commit_named : (earlier : Option ℕ) (named : Id) → commit_refusal earlier ≡ Some (NotAParty named) → ⊥
not_commit_named None named e = cc
not_commit_named (Some place) named e = cc

not_named : (votable : Result ℕ LogFault) (n index : ℕ) (earlier : Option ℕ) (named : Id) → votable ≡ Ok n → index < n → admission.vote_refusal votable index earlier ≡ Some (NotAParty named) → ⊥
not_named (Err fault) n index earlier named is less e = cc is
not_named (Ok m) n index earlier named is less e =
    go (nat_le m index) refl e
  where
    go : (b : Bool) → nat_le m index ≡ b → cond b (Some (NotAParty admission.no_account)) (commit_refusal earlier) ≡ Some (NotAParty named) → ⊥
    go true at e = let same : m ≡ n = cc is in grind (arith, at, less, same)
    go false at e = not_commit_named earlier named e

record_not_named : (log : VoteLogTold) (choice : Outcome) (index n : ℕ) (deal named : Id) → votable_of log.entries deal ≡ Ok n → index < n → add_refusal log.entries most_records (vote_entry choice index deal) ≡ Some (NotAParty named) → ⊥
record_not_named log Commit index n deal named votes less e =
    not_named (votable_of log.entries deal) n index (admission.earlier_commit deal (first_start log.entries deal) index) named votes less e
record_not_named log Abort index n deal named votes less e = not_named (votable_of log.entries deal) n index None named votes less e

pub vote_named : (log : VoteLogTold) (account : Id) (choice : Outcome) (index : ℕ) (deal named : Id) → HasTexts log.house log.entries log.texts
    → refusal_of log (Vote account choice index deal) ≡ Some (Refused (NotAParty named)) → named ≡ account
vote_named log account choice index deal named has e = go (votable_of log.entries deal) refl (is_party_at log.texts deal account index) refl e
  where
    go : (r : Result ℕ LogFault) → votable_of log.entries deal ≡ r → (b : Bool) → is_party_at log.texts deal account index ≡ b
        → option_or (vote_refusal r b account) (record_refusal log.entries (vote_entry choice index deal)) ≡ Some (Refused (NotAParty named)) → named ≡ account
    go (Err fault) is b at e = absurd (not_named_by (first_start log.entries deal) (outcome_of log.entries deal) named (let same : fault ≡ NotAParty named = cc e in is ∙ ap (λ (f : LogFault). Err f) same))
    go (Ok n) is false at e = cc e
    go (Ok n) is true at e =
        absurd (record_not_named log choice index n deal named is (index_within log account index n deal has is at) (refused_same (add_refusal log.entries most_records (vote_entry choice index deal)) (NotAParty named) e))
