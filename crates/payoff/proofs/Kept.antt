-- Every moment keeps what holds of the world.
use Rattle.std.proofs.Common.{◌≡◌, ℕ, Bool, true, false, cond, Some, Ok, List, [], ◌∷◌, ◌++◌, length, Contains, slice_get, refl, ap, sym, ◌∙◌, subst, ⊎_elim, append_assoc}
use Rattle.std.specs.List.{AllByRecursion}
use Rattle.std.specs.Option.{option_map}
use Rattle.std.specs.Str.{bytes_eq}
use Rattle.std.proofs.lemmas.List.{append-nil}
use Rattle.std.proofs.lemmas.List.Elements.{Contains-append_left, Contains-append_right}
use Rattle.std.proofs.lemmas.Slice.Eq.{bytes_eq-Decides}
use Rattle.dh_base.specs.declared.id.Id.{Id}
use Rattle.dh_base.specs.Ids.{same_id}
use Rattle.dh_base.specs.declared.outcome.Outcome.TheVariants as out
use Rattle.act_text.specs.declared.act.Act.{Act}
use Rattle.act_text.specs.declared.act.Act.TheVariants.{Register, Pay, Escrow, Transfer, StartDeal, Vote}
use Rattle.act_text.specs.declared.office.Office.TheVariants.{Ledger, Log}
use Rattle.act_text.specs.ActTexts.{act_text}
use Rattle.act_text.specs.ActReading.{act_of}
use Rattle.act_text.proofs.ActTexts.{act-read}
use Rattle.act_text.specs.declared.statement.Statement.{Statement}
use Rattle.deal_core.specs.Deals.{DealTold}
use Rattle.deal_core.specs.DealText.{deal_text}
use Rattle.deal_core.specs.Drafts.{parties_in}
use Rattle.deal_core.specs.Reading.{IsTextOf}
use Rattle.ledger_rows.specs.declared.entry.Entry.{Entry}
use Rattle.ledger_rows.specs.declared.entry.Entry.TheVariants.{Act as Accepted, Settlement}
use Rattle.ledger_rows.specs.Entries.{digest_of}
use Rattle.ledger_history.specs.Histories.{IsNext, IsHistory}
use Rattle.ledger_history.specs.PlannedActs.{AreOnce}
use Rattle.ledger_history.proofs.Fronts.{grows}
use Rattle.vote_log.specs.declared.kind.Kind.{Kind}
use Rattle.vote_log.specs.declared.kind.Kind.TheVariants as kind
use Rattle.vote_log.proofs.Ids.{same_from_bytes}
use Rattle.payoff.specs.Agents.{AgentState, is_about, IsPartyOf, IsPlanned, MaySign}
use Rattle.payoff.specs.Worlds.{World, LedgerState, book_in, IsRead}
use Rattle.payoff.specs.Moments.{Moment, Accepts, Shows, Settles, States, Joins, Signs, Hears, Forgets, Carries, Enters, texts_in, texts_read, texts_of, records_of, entered_by, shown_by, stated_by, entries_by, agent_after, agent_of, agent_by, after, after_all, IsSigning, IsEntry, IsStep, IsRun, IsOpening, IsSigned, IsUnforged, AreUnforged, IsGiven}
use Rattle.payoff.proofs.Lists.{every_weaker, every_append, every_at, at_head, in_tail, mapped, get_append, get_push, get_contains, find_gives}
use Rattle.payoff.proofs.Deals.{so_many}
use Rattle.payoff.proofs.Facts.{IsEntryKept, IsPooled, IsShown, IsMeantBy, IsMeantText, IsAgentKept, IsRecordOf, IsRecordKept, Kept}

-- ---- agents, before and after a moment

if_that : (P : AgentState → Type 0) (a own : Id) (x y : AgentState) → (a ≡ own → P x) → P y → P (cond (same_id a own) x y)
if_that P a own x y f other = by_test (same_id a own) refl
  where
    by_test : (b : Bool) → same_id a own ≡ b → P (cond b x y)
    by_test true is = f (same_from_bytes a own is)
    by_test false is = other

pub record Before (w : World) (m : Moment) (own : Id) (agent : AgentState) : Type 0 where
  pub old : AgentState
  pub was : w.agents own ≡ Some old
  pub becomes : agent_by (agent_of m) m own old ≡ agent

pub before : (w : World) (m : Moment) (own : Id) (agent : AgentState) → (after w m).agents own ≡ Some agent → Before w m own agent
before w m own agent is = let r = mapped (agent_by (agent_of m) m own) (w.agents own) agent is in record { old = r.0; was = r.1; becomes = r.2 }

texts_stay : (m : Moment) (own : Id) (agent : AgentState) (q : ℕ) (text : List ℕ) → slice_get agent.texts q ≡ Some text → slice_get (agent_by (agent_of m) m own agent).texts q ≡ Some text
texts_stay (Accepts l a k message) own agent q text h = h
texts_stay (Shows claim) own agent q text h = h
texts_stay (Settles l d claim decision) own agent q text h = h
texts_stay (States s) own agent q text h = h
texts_stay (Carries t) own agent q text h = h
texts_stay (Enters a k message act) own agent q text h = h
texts_stay (Joins a deal) own agent q text h = if_that (λ x. slice_get x.texts q ≡ Some text) a own (agent_after (Joins a deal) agent) agent (λ same. h) h
texts_stay (Signs a act) own agent q text h = if_that (λ x. slice_get x.texts q ≡ Some text) a own (agent_after (Signs a act) agent) agent (λ same. get_append agent.texts (act_text act ∷ []) q text h) h
texts_stay (Hears a s) own agent q text h = if_that (λ x. slice_get x.texts q ≡ Some text) a own (agent_after (Hears a s) agent) agent (λ same. h) h
texts_stay (Forgets a) own agent q text h = if_that (λ x. slice_get x.texts q ≡ Some text) a own (agent_after (Forgets a) agent) agent (λ same. h) h

-- what a compliant account has signed, it has signed after the moment
signed_stays : (w : World) (m : Moment) (a : Id) (q : ℕ) (message : List ℕ) → IsSigned w a q message → IsSigned (after w m) a q message
signed_stays w m a q message h agent is =
    let b = before w m a agent is in
    subst (λ (x : AgentState). slice_get x.texts q ≡ Some message) b.becomes (texts_stay m a b.old q message (h b.old b.was))

carried_stays : (w : World) (m : Moment) (texts : List (List ℕ)) → AllByRecursion (Contains w.texts) texts → AllByRecursion (Contains (after w m).texts) texts
carried_stays w m texts a = every_weaker (Contains w.texts) (Contains (after w m).texts) (λ t c. Contains-append_right (texts_of m) w.texts t c) texts a

read_stays : (w : World) (m : Moment) (deal : DealTold) → IsRead w deal → IsRead (after w m) deal
read_stays w m deal r = record { read = r.read; carried = Contains-append_right (texts_of m) w.texts (deal_text deal) r.carried }

-- ---- histories

entry_stays : (w : World) (m : Moment) (entry : Entry) → IsEntryKept w entry → IsEntryKept (after w m) entry
entry_stays w m (Accepted a q message) e = record { signed = signed_stays w m a q message e.signed; carried = carried_stays w m (texts_read (act_of Ledger message)) e.carried }
entry_stays w m (Settlement d outcome) e = record {
  claim = e.claim;
  shown = Contains-append_right (shown_by m) w.shown e.claim e.shown;
  set = e.set;
  certifies = e.certifies;
  decision = e.decision;
  decides = e.decides;
  is = e.is;
}

all_inside : {X : Type 0} (xs ys : List X) → AllByRecursion (Contains (xs ++ ys)) xs
all_inside [] ys = tt
all_inside (x ∷ xs) ys = (at_head x (xs ++ ys), every_weaker (Contains (xs ++ ys)) (Contains (x ∷ (xs ++ ys))) (λ y c. in_tail x (xs ++ ys) y c) xs (all_inside xs ys))

-- the history with the new entries
record Grown (w : World) (m : Moment) (name : List ℕ) (ledger : LedgerState) (new : List Entry) : Type 0 where
  history : IsHistory name ledger.rows (ledger.entries ++ new)
  entries : AllByRecursion (IsEntryKept (after w m)) new

no_more : (w : World) (m : Moment) (name : List ℕ) (ledger : LedgerState) → IsHistory name ledger.rows ledger.entries → Grown w m name ledger []
no_more w m name ledger h = record { history = subst (IsHistory name ledger.rows) (sym (append-nil ledger.entries)) h; entries = tt }

if_named : (P : List Entry → Type 0) (l name : List ℕ) (new : List Entry) → (l ≡ name → P new) → P [] → P (cond (bytes_eq l name) new [])
if_named P l name new f none = by_test (bytes_eq l name) refl
  where
    by_test : (b : Bool) → bytes_eq l name ≡ b → P (cond b new [])
    by_test true is = f ((bytes_eq-Decides l name).0 is)
    by_test false is = none

grown : (w : World) (m : Moment) → IsStep w m → IsUnforged w m → (name : List ℕ) (ledger : LedgerState) → w.ledgers name ≡ Some ledger → IsHistory name ledger.rows ledger.entries → Grown w m name ledger (entries_by m name)
grown w (Shows claim) step real name ledger is h = no_more w (Shows claim) name ledger h
grown w (States s) step real name ledger is h = no_more w (States s) name ledger h
grown w (Joins a deal) step real name ledger is h = no_more w (Joins a deal) name ledger h
grown w (Signs a act) step real name ledger is h = no_more w (Signs a act) name ledger h
grown w (Hears a s) step real name ledger is h = no_more w (Hears a s) name ledger h
grown w (Forgets a) step real name ledger is h = no_more w (Forgets a) name ledger h
grown w (Carries t) step real name ledger is h = no_more w (Carries t) name ledger h
grown w (Enters a q message act) step real name ledger is h = no_more w (Enters a q message act) name ledger h
grown w (Accepts l a q message) step real name ledger is h =
    let m : Moment = Accepts l a q message in
    if_named (Grown w m name ledger) l name (Accepted a q message ∷ [])
    (λ same.
    let next : IsNext name (book_in ledger) ledger.entries (Accepted a q message) = subst (λ n. IsNext n (book_in ledger) ledger.entries (Accepted a q message)) same (step ledger (ap w.ledgers same ∙ is)) in
    record {
      history = grows name ledger.rows ledger.entries (Accepted a q message) h next;
      entries = (record { signed = signed_stays w m a q message real; carried = all_inside (texts_read (act_of Ledger message)) w.texts }, tt);
    })
    (no_more w m name ledger h)
grown w (Settles l d claim decision) step real name ledger is h =
    let m : Moment = Settles l d claim decision in
    if_named (Grown w m name ledger) l name (Settlement d decision.outcome ∷ [])
    (λ same.
    let s = step ledger (ap w.ledgers same ∙ is) in
    record {
      history = grows name ledger.rows ledger.entries (Settlement d decision.outcome) h s.next;
      entries = (
        record {
          claim = claim;
          shown = at_head claim w.shown;
          set = s.set;
          certifies = s.certifies;
          decision = decision;
          decides = s.decides;
          is = refl;
        },
        tt,
      );
    })
    (no_more w m name ledger h)

-- the ledger before the moment
record LedgerBefore (w : World) (m : Moment) (name : List ℕ) (ledger : LedgerState) : Type 0 where
  old : LedgerState
  was : w.ledgers name ≡ Some old
  becomes : record old { entries = old.entries ++ entries_by m name } ≡ ledger

ledger_before : (w : World) (m : Moment) (name : List ℕ) (ledger : LedgerState) → (after w m).ledgers name ≡ Some ledger → LedgerBefore w m name ledger
ledger_before w m name ledger is = let r = mapped (λ (l : LedgerState). record l { entries = l.entries ++ entries_by m name }) (w.ledgers name) ledger is in record { old = r.0; was = r.1; becomes = r.2 }

-- ---- statements

pooled_stays : (w : World) (m : Moment) (s : Statement) → IsPooled w s → IsPooled (after w m) s
pooled_stays w m s r = record {
  ledger = record r.ledger { entries = r.ledger.entries ++ entries_by m s.ledger };
  here = ap (option_map (λ (l : LedgerState). record l { entries = l.entries ++ entries_by m s.ledger })) r.here;
  front = r.front;
  rest = r.rest ++ entries_by m s.ledger;
  parts = sym (append_assoc r.front r.rest (entries_by m s.ledger)) ∙ ap (λ (h : List Entry). h ++ entries_by m s.ledger) r.parts;
  is = r.is;
}

new_statements : (w : World) (m : Moment) → IsStep w m → AllByRecursion (IsPooled (after w m)) (stated_by m)
new_statements w (Accepts l a q message) step = tt
new_statements w (Shows claim) step = tt
new_statements w (Settles l d claim decision) step = tt
new_statements w (Joins a deal) step = tt
new_statements w (Signs a act) step = tt
new_statements w (Hears a s) step = tt
new_statements w (Forgets a) step = tt
new_statements w (Carries t) step = tt
new_statements w (Enters a q message act) step = tt
new_statements w (States s) step = (
  record {
    ledger = record step.0 { entries = step.0.entries ++ [] };
    here = ap (option_map (λ (l : LedgerState). record l { entries = l.entries ++ [] })) step.1;
    front = step.0.entries;
    rest = [];
    parts = refl;
    is = step.2;
  },
  tt,
)

-- ---- what agents mean

shown_stays : (w : World) (m : Moment) (p : Id) (deal : DealTold) (k : ℕ) (l x : List ℕ) → IsShown w p deal k l x → IsShown (after w m) p deal k l x
shown_stays w m p deal k l x r = record {
  statement = r.statement;
  pooled = Contains-append_right (stated_by m) w.pool r.statement r.pooled;
  about = r.about;
  open_yet = r.open_yet;
  moved = r.moved;
  covers = r.covers;
}

meant_stays : (w : World) (m : Moment) (p : Id) (g : AgentState) (act : Act) → IsMeantBy w p g act → IsMeantBy (after w m) p g act
meant_stays w m p g (Vote d k out.Commit) r = record { deal = r.deal; named = r.named; within = r.within; seen = λ l x some. shown_stays w m p r.deal k l x (r.seen l x some) }
meant_stays w m p g (Vote d k out.Abort) r = tt
meant_stays w m p g (Escrow d l x n) r = r
meant_stays w m p g (Transfer d l t to x n) r = r
meant_stays w m p g (Register text) r = tt
meant_stays w m p g (Pay house l to x n) r = tt
meant_stays w m p g (StartDeal text) r = tt

text_stays : (w : World) (m : Moment) (p : Id) (g : AgentState) (text : List ℕ) → IsMeantText w p g text → IsMeantText (after w m) p g text
text_stays w m p g text r = record { act = r.act; fits = r.fits; bytes = r.bytes; spelled = r.spelled; meant = meant_stays w m p g r.act r.meant }

-- an agent that has joined at least as much
within_more : (p : Id) (g h : AgentState) (deal : DealTold) (k : ℕ) → ((t : DealTold) → Contains g.joined t → Contains h.joined t) → IsPartyOf p g deal k → IsPartyOf p h deal k
within_more p g h deal k sub r = record { joined = sub deal r.joined; party = r.party }

planned_more : (p : Id) (g h : AgentState) (act : Act) → ((t : DealTold) → Contains g.joined t → Contains h.joined t) → IsPlanned p g act → IsPlanned p h act
planned_more p g h act sub r = record { deal = r.deal; index = r.index; within = within_more p g h r.deal r.index sub r.within; planned = r.planned }

meant_more : (w : World) (p : Id) (g h : AgentState) → ((t : DealTold) → Contains g.joined t → Contains h.joined t) → (act : Act) → IsMeantBy w p g act → IsMeantBy w p h act
meant_more w p g h sub (Vote d k out.Commit) r = record { deal = r.deal; named = r.named; within = within_more p g h r.deal k sub r.within; seen = r.seen }
meant_more w p g h sub (Vote d k out.Abort) r = tt
meant_more w p g h sub (Escrow d l x n) r = planned_more p g h (Escrow d l x n) sub r
meant_more w p g h sub (Transfer d l t to x n) r = planned_more p g h (Transfer d l t to x n) sub r
meant_more w p g h sub (Register text) r = tt
meant_more w p g h sub (Pay house l to x n) r = tt
meant_more w p g h sub (StartDeal text) r = tt

text_more : (w : World) (p : Id) (g h : AgentState) → ((t : DealTold) → Contains g.joined t → Contains h.joined t) → (text : List ℕ) → IsMeantText w p g text → IsMeantText w p h text
text_more w p g h sub text r = record { act = r.act; fits = r.fits; bytes = r.bytes; spelled = r.spelled; meant = meant_more w p g h sub r.act r.meant }

-- what an agent may sign is meant
meant_new : (w : World) (p : Id) (g : AgentState) → IsAgentKept w p g → (act : Act) → MaySign p g act → IsMeantBy w p g act
meant_new w p g kept (Vote d k out.Commit) may = record {
  deal = may.deal;
  named = may.named;
  within = may.within;
  seen = λ l x some.
      let s = may.seen l x some in
      let found = find_gives (is_about p may.deal.id l) g.heard s.statement s.kept in
      record { statement = s.statement; pooled = every_at (Contains w.pool) g.heard s.statement kept.heard found.0; about = found.1; open_yet = s.open_yet; moved = s.moved; covers = s.covers };
}
meant_new w p g kept (Vote d k out.Abort) may = tt
meant_new w p g kept (Escrow d l x n) may = may
meant_new w p g kept (Transfer d l t to x n) may = may
meant_new w p g kept (Register text) may = tt
meant_new w p g kept (Pay house l to x n) may = tt
meant_new w p g kept (StartDeal text) may = tt

-- ---- agents

agent_stays : (w : World) (m : Moment) (p : Id) (g : AgentState) → IsAgentKept w p g → IsAgentKept (after w m) p g
agent_stays w m p g k = record {
  joined = every_weaker (IsRead w) (IsRead (after w m)) (read_stays w m) g.joined k.joined;
  heard = every_weaker (Contains w.pool) (Contains (after w m).pool) (λ s c. Contains-append_right (stated_by m) w.pool s c) g.heard k.heard;
  once = k.once;
  meant = every_weaker (IsMeantText w p g) (IsMeantText (after w m) p g) (text_stays w m p g) g.texts k.meant;
}

-- the agent with other statements
other_heard : (w : World) (p : Id) (g : AgentState) (heard : List Statement) → AllByRecursion (Contains w.pool) heard → IsAgentKept w p g → IsAgentKept w p (record g { heard = heard })
other_heard w p g heard all k = record {
  joined = k.joined;
  heard = all;
  once = k.once;
  meant = every_weaker (IsMeantText w p g) (IsMeantText w p (record g { heard = heard })) (text_more w p g (record g { heard = heard }) (λ t c. c)) g.texts k.meant;
}

with_joined : (w : World) (p : Id) (g : AgentState) (deal : DealTold) → IsRead w deal → IsAgentKept w p g → IsAgentKept w p (record g { joined = deal ∷ g.joined })
with_joined w p g deal read k = record {
  joined = (read, k.joined);
  heard = k.heard;
  once = k.once;
  meant = every_weaker (IsMeantText w p g) (IsMeantText w p (record g { joined = deal ∷ g.joined })) (text_more w p g (record g { joined = deal ∷ g.joined }) (λ t c. in_tail deal g.joined t c)) g.texts k.meant;
}

push_once : (texts : List (List ℕ)) (new : List ℕ) → AreOnce texts → (Contains texts new → ⊥) → AreOnce (texts ++ new ∷ [])
push_once texts new once fresh q r text e f =
    ⊎_elim
    (λ (old : slice_get texts q ≡ Some text). ⊎_elim
    (λ (same : slice_get texts r ≡ Some text). once q r text old same)
    (λ (last : (r ≡ length texts) × (new ≡ text)). absurd (fresh (subst (λ (x : List ℕ). Contains texts x) (sym last.1) (get_contains texts q text old))))
    (get_push texts new r text f))
    (λ (end : (q ≡ length texts) × (new ≡ text)). ⊎_elim
    (λ (old : slice_get texts r ≡ Some text). absurd (fresh (subst (λ (x : List ℕ). Contains texts x) (sym end.1) (get_contains texts r text old))))
    (λ (last : (r ≡ length texts) × (new ≡ text)). end.0 ∙ sym last.0)
    (get_push texts new r text f))
    (get_push texts new q text e)

with_signed : (w : World) (p : Id) (g : AgentState) (act : Act) → IsSigning p g act → IsMeantBy w p g act → IsAgentKept w p g → IsAgentKept w p (record g { texts = g.texts ++ act_text act ∷ [] })
with_signed w p g act s meant k =
    let h : AgentState = record g { texts = g.texts ++ act_text act ∷ [] } in
    record {
      joined = k.joined;
      heard = k.heard;
      once = push_once g.texts (act_text act) k.once s.fresh;
      meant = every_weaker (IsMeantText w p g) (IsMeantText w p h) (text_more w p g h (λ t c. c)) (g.texts ++ act_text act ∷ [])
          (every_append (IsMeantText w p g) g.texts (act_text act ∷ []) k.meant (record { act = act; fits = s.fits; bytes = s.bytes; spelled = refl; meant = meant }, tt));
    }

agent_step : (w : World) (m : Moment) → IsStep w m → (p : Id) (g : AgentState) → w.agents p ≡ Some g → IsAgentKept w p g → IsAgentKept (after w m) p (agent_by (agent_of m) m p g)
agent_step w (Accepts l a q message) step p g is k = agent_stays w (Accepts l a q message) p g k
agent_step w (Shows claim) step p g is k = agent_stays w (Shows claim) p g k
agent_step w (Settles l d claim decision) step p g is k = agent_stays w (Settles l d claim decision) p g k
agent_step w (States s) step p g is k = agent_stays w (States s) p g k
agent_step w (Carries t) step p g is k = agent_stays w (Carries t) p g k
agent_step w (Enters a q message act) step p g is k = agent_stays w (Enters a q message act) p g k
agent_step w (Joins a deal) step p g is k =
    let m : Moment = Joins a deal in
    let s = agent_stays w m p g k in
    if_that (IsAgentKept (after w m) p) a p (agent_after m g) g
    (λ same. with_joined (after w m) p g deal (record { read = step; carried = at_head (deal_text deal) w.texts }) s) s
agent_step w (Hears a heard) step p g is k =
    let m : Moment = Hears a heard in
    let s = agent_stays w m p g k in
    if_that (IsAgentKept (after w m) p) a p (agent_after m g) g
    (λ same. other_heard (after w m) p g (heard ∷ g.heard) (step, s.heard) s) s
agent_step w (Forgets a) step p g is k =
    let m : Moment = Forgets a in
    let s = agent_stays w m p g k in
    if_that (IsAgentKept (after w m) p) a p (agent_after m g) g (λ same. other_heard (after w m) p g [] tt s) s
agent_step w (Signs a act) step p g is k =
    let m : Moment = Signs a act in
    let s = agent_stays w m p g k in
    if_that (IsAgentKept (after w m) p) a p (agent_after m g) g
    (λ same.
    let signing : IsSigning p g act = subst (λ i. IsSigning i g act) same (step g (ap w.agents same ∙ is)) in
    with_signed (after w m) p g act signing (meant_stays w m p g act (meant_new w p g k act signing.may)) s)
    s

-- ---- records

record_stays : (w : World) (m : Moment) (kind : Kind) (num : ℕ) (id : Id) → IsRecordOf w kind num id → IsRecordOf (after w m) kind num id
record_stays w m kind.Start num id r = record { deal = r.deal; read = read_stays w m r.deal r.read; named = r.named; size = r.size }
record_stays w m kind.Commit num id r = record {
  deal = r.deal;
  read = read_stays w m r.deal r.read;
  named = r.named;
  account = r.account;
  party = r.party;
  q = r.q;
  message = r.message;
  signed = signed_stays w m r.account r.q r.message r.signed;
  reads = r.reads;
  spelled = r.spelled;
}
record_stays w m kind.Abort num id r = tt

start_record : (w : World) (m : Moment) (text : List ℕ) (deal : DealTold) → Contains (after w m).texts text → IsTextOf deal text → IsRecordKept (after w m) (record { kind = kind.Start; num = length (parties_in text); deal = digest_of text })
start_record w m text deal carried is = record {
  deal = deal;
  read = record {
    read = subst (IsTextOf deal) is.spelled is;
    carried = subst (λ (t : List ℕ). Contains (after w m).texts t) is.spelled carried;
  };
  named = ap (λ (bytes : List ℕ). let id : Id = record { 0 = bytes } in id) is.kept.id ∙ ap digest_of (sym is.spelled);
  size = so_many deal text is;
}

new_records : (w : World) (a : Id) (q : ℕ) (message : List ℕ) (all act : Act) → all ≡ act → IsStep w (Enters a q message all) → IsUnforged w (Enters a q message all) → IsEntry w a act → act_of Log message ≡ Ok act → AllByRecursion (IsRecordKept (after w (Enters a q message all))) (records_of act)
new_records w a q message all (Register text) same step real entry reads = tt
new_records w a q message all (Pay house l to x n) same step real entry reads = tt
new_records w a q message all (Escrow d l x n) same step real entry reads = tt
new_records w a q message all (Transfer d l t to x n) same step real entry reads = tt
new_records w a q message all (StartDeal text) same step real entry reads =
    let m : Moment = Enters a q message all in
    let carried : Contains (texts_in all ++ w.texts) text = Contains-append_left (texts_in all) w.texts text (subst (λ (act : Act). Contains (texts_in act) text) (sym same) (at_head text [])) in
    (start_record w m text entry.0 carried entry.1, tt)
new_records w a q message all (Vote d k out.Abort) same step real entry reads = (tt, tt)
new_records w a q message all (Vote d k out.Commit) same step real entry reads =
    let m : Moment = Enters a q message all in (
      record {
        deal = entry.deal;
        read = read_stays w m entry.deal entry.read;
        named = entry.named;
        account = a;
        party = entry.party;
        q = q;
        message = message;
        signed = signed_stays w m a q message real;
        reads = reads;
        spelled = ((act-read Log message (Vote d k out.Commit) step.0.bytes).0 reads).2;
      },
      tt,
    )

records_after : (w : World) (m : Moment) → IsStep w m → IsUnforged w m → AllByRecursion (IsRecordKept (after w m)) (entered_by m)
records_after w (Accepts l a q message) step real = tt
records_after w (Shows claim) step real = tt
records_after w (Settles l d claim decision) step real = tt
records_after w (States s) step real = tt
records_after w (Joins a deal) step real = tt
records_after w (Signs a act) step real = tt
records_after w (Hears a s) step real = tt
records_after w (Forgets a) step real = tt
records_after w (Carries t) step real = tt
records_after w (Enters a q message act) step real = new_records w a q message act act refl step real step.1 step.0.reads

-- ---- runs

kept_step : (w : World) (m : Moment) → Kept w → IsStep w m → IsUnforged w m → Kept (after w m)
kept_step w m k step real = record {
  histories = λ name ledger is.
      let b = ledger_before w m name ledger is in
      subst (λ (l : LedgerState). IsHistory name l.rows l.entries) b.becomes (grown w m step real name b.old b.was (k.histories name b.old b.was)).history;
  entries = λ name ledger is.
      let b = ledger_before w m name ledger is in
      subst (λ (l : LedgerState). AllByRecursion (IsEntryKept (after w m)) l.entries) b.becomes
      (every_append (IsEntryKept (after w m)) b.old.entries (entries_by m name) (every_weaker (IsEntryKept w) (IsEntryKept (after w m)) (entry_stays w m) b.old.entries (k.entries name b.old b.was))
      (grown w m step real name b.old b.was (k.histories name b.old b.was)).entries);
  pool = every_append (IsPooled (after w m)) (stated_by m) w.pool (new_statements w m step) (every_weaker (IsPooled w) (IsPooled (after w m)) (pooled_stays w m) w.pool k.pool);
  agents = λ p g is.
      let b = before w m p g is in
      subst (IsAgentKept (after w m) p) b.becomes (agent_step w m step p b.old b.was (k.agents p b.old b.was));
  records = every_append (IsRecordKept (after w m)) w.entered (entered_by m)
      (every_weaker (IsRecordKept w) (IsRecordKept (after w m)) (λ e r. record_stays w m e.kind e.num e.deal r) w.entered k.records) (records_after w m step real);
}

kept_opening : (w : World) → IsOpening w → Kept w
kept_opening w o = record {
  histories = λ name ledger is. let l = o.ledgers name ledger is in subst (IsHistory name ledger.rows) (sym l.1) l.0;
  entries = λ name ledger is. subst (AllByRecursion (IsEntryKept w)) (sym (o.ledgers name ledger is).1) tt;
  pool = subst (AllByRecursion (IsPooled w)) (sym o.pool) tt;
  agents = λ p g is. record {
    joined = subst (AllByRecursion (IsRead w)) (sym (o.joined p g is)) tt;
    heard = subst (AllByRecursion (Contains w.pool)) (sym (o.heard p g is)) tt;
    once = subst AreOnce (sym (o.texts p g is)) (λ q r text e f. absurd cc);
    meant = subst (AllByRecursion (IsMeantText w p g)) (sym (o.texts p g is)) tt;
  };
  records = subst (AllByRecursion (IsRecordKept w)) (sym o.entered) tt;
}

kept_run : (w : World) (run : List Moment) → Kept w → IsRun w run → AreUnforged w run → Kept (after_all run w)
kept_run w [] k steps real = k
kept_run w (m ∷ run) k steps real = kept_run (after w m) run (kept_step w m k steps.0 real.0) steps.1 real.1

pub kept_all : (w : World) (run : List Moment) → IsOpening w → IsRun w run → IsGiven w run → Kept (after_all run w)
kept_all w run o steps given = kept_run w run (kept_opening w o) steps given.unforged
