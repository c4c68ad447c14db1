-- What a compliant party is paid.
use Rattle.std.proofs.Common.{◌≡◌, ℕ, ◌<◌, ◌≤◌, ltb, Bool, true, false, ◌&&◌, Some, None, List, ◌∷◌, ◌++◌, Contains, slice_get, refl, ap, sym, ◌∙◌, subst, ◌⊎◌, ⊎_elim, arith}
use Rattle.std.specs.Str.{bytes_eq}
use Rattle.std.proofs.lemmas.Bool.{and_parts, ltb-true, ltb-false}
use Rattle.std.proofs.lemmas.List.Elements.{Contains-append_left, Contains-append_right}
use Rattle.std.proofs.lemmas.Slice.Eq.{bytes_eq-Decides}
use Rattle.dh_base.specs.declared.id.Id.{Id}
use Rattle.dh_base.specs.Ids.{same_id}
use Rattle.dh_base.specs.declared.outcome.Outcome.TheVariants as out
use Rattle.act_text.specs.declared.act.Act.TheVariants.{Escrow, Transfer}
use Rattle.act_text.specs.declared.office.Office.TheVariants.{Ledger}
use Rattle.act_text.specs.declared.statement.Statement.{Statement}
use Rattle.deal_core.specs.Deals.{DealTold, index_of_account}
use Rattle.deal_core.specs.declared.step.Step.{Step}
use Rattle.clear_core.specs.Clearing.{need_of, due_of, turns_of}
use Rattle.clear_core.specs.Plans.{plan_of}
use Rattle.clear_core.specs.declared.plan_act.PlanAct.TheVariants as plan
use Rattle.escrow_book.specs.Opening.{Row}
use Rattle.escrow_book.specs.History.{History, if_abort_of, if_commit_of, moves_of, settlement_of}
use Rattle.ledger_rows.specs.declared.entry.Entry.{Entry}
use Rattle.ledger_rows.specs.declared.entry.Entry.TheVariants.{Act as Accepted, Settlement}
use Rattle.ledger_rows.specs.Entries.{book_of}
use Rattle.ledger_history.specs.Histories.{IsHistory}
use Rattle.ledger_history.specs.PlannedActs.{HaveTurnsBelow, HaveOneEscrow}
use Rattle.ledger_history.proofs.Fronts.{front_is}
use Rattle.ledger_history.proofs.Settled.{is_settled}
use Rattle.escrow_book.specs.Reached.{started}
use Rattle.vote_log.proofs.Ids.{same_from_bytes}
use Rattle.payoff.specs.Agents.{AgentState, IsPartyOf, IsPlanned}
use Rattle.payoff.specs.Worlds.{World, LedgerState, HasOneText, IsRead}
use Rattle.payoff.specs.Promise.{IsSettledIn, IsFrontIn, IsCompliantIn, IsEscrow}
use Rattle.payoff.proofs.Lists.{every_at, same_some, parted}
use Rattle.payoff.proofs.Deals.{one_deal}
use Rattle.payoff.proofs.Rows.{listed_within}
use Rattle.payoff.proofs.Facts.{IsActKept, IsEntryKept, IsPooled, IsShown, Kept}
use Rattle.payoff.proofs.Settlements.{IsTheDeal, the_deal, front_before}
use Rattle.payoff.proofs.Meant.{meant_act, IsBehind}

-- ---- an accepted act of a compliant party

act_there : (w : World) → Kept w → (name : List ℕ) (p : Id) (g : AgentState) (q : ℕ) (message : List ℕ) (ledger : LedgerState) → w.ledgers name ≡ Some ledger → w.agents p ≡ Some g → Contains ledger.entries (Accepted p q message) → slice_get g.texts q ≡ Some message
act_there w kept name p g q message ledger here runs c =
    let k : IsActKept w p q message = every_at (IsEntryKept w) ledger.entries (Accepted p q message) (kept.entries name ledger here) c in
    k.signed g runs

-- a planned act of a deal of that id is of the registered deal, for the party of that index
record IsOfTheDeal (deal : DealTold) (index : ℕ) (other : DealTold) (own : ℕ) : Type 0 where
  same : other ≡ deal
  index_is : own ≡ index

of_the_deal : (w : World) → Kept w → HasOneText w → (id p : Id) (index : ℕ) (g : AgentState) (deal other : DealTold) (own : ℕ) → w.agents p ≡ Some g → IsTheDeal w id deal → index_of_account deal.parties p ≡ Some index → IsPartyOf p g other own → id ≡ other.id → IsOfTheDeal deal index other own
of_the_deal w kept one id p index g deal other own runs the party within named =
    let read = every_at (IsRead w) g.joined other (kept.agents p g runs).joined within.joined in
    let same : other ≡ deal = one_deal w other deal one read the.read (sym named ∙ sym the.named) in
    let there : index_of_account deal.parties p ≡ Some own = subst (λ (t : DealTold). index_of_account t.parties p ≡ Some own) same within.party in
    record { same = same; index_is = same_some own index (sym there ∙ party) }

abbrev pub TurnsLaw : Type 0
TurnsLaw = (steps : List Step) (party : ℕ) (ledger : List ℕ) (turn to : ℕ) (asset : List ℕ) (amount : ℕ) → Contains (plan_of steps party) (plan.Transfer ledger turn to asset amount) → turn < turns_of steps party ledger

abbrev pub NeedsLaw : Type 0
NeedsLaw = (steps : List Step) (party : ℕ) (ledger asset : List ℕ) (amount : ℕ) → Contains (plan_of steps party) (plan.Escrow ledger asset amount) → amount ≡ need_of steps party ledger asset

-- ---- the statement behind a vote

-- a front of the history, at which the deal was open and all turns were made
record IsFrontOf (name : List ℕ) (ledger : LedgerState) (d p : Id) (x : List ℕ) (turns due : ℕ) : Type 0 where
  front : List Entry
  rest : List Entry
  parts : front ++ rest ≡ ledger.entries
  open_yet : settlement_of (book_of ledger.rows front) d ≡ None
  moved : moves_of (book_of ledger.rows front) d p ≡ turns
  covers : due ≤ if_commit_of (book_of ledger.rows front) d p x

front_of : (w : World) → Kept w → (name : List ℕ) (p : Id) (index : ℕ) (x : List ℕ) (deal : DealTold) (ledger : LedgerState) → w.ledgers name ≡ Some ledger → IsShown w p deal index name x → IsFrontOf name ledger deal.id p x (turns_of deal.steps index name) (due_of deal.steps index name x)
front_of w kept name p index x deal ledger here s =
    let st : Statement = s.statement in
    let r : IsPooled w st = every_at (IsPooled w) w.pool st kept.pool s.pooled in
    let both = and_parts (same_id p st.party) (same_id deal.id st.deal && bytes_eq name st.ledger) s.about in
    let more = and_parts (same_id deal.id st.deal) (bytes_eq name st.ledger) both.1 in
    let party : p ≡ st.party = same_from_bytes p st.party both.0 in
    let named : deal.id ≡ st.deal = same_from_bytes deal.id st.deal more.0 in
    let on : name ≡ st.ledger = (bytes_eq-Decides name st.ledger).0 more.1 in
    let same : r.ledger ≡ ledger = same_some r.ledger ledger (sym r.here ∙ (ap w.ledgers (sym on) ∙ here)) in
    let rows : r.ledger.rows ≡ ledger.rows = ap (λ (l : LedgerState). l.rows) same in
    let book : History = book_of r.ledger.rows r.front in
    let open_there : settlement_of book deal.id ≡ None = ap (settlement_of book) named ∙ (sym r.is.settled ∙ s.open_yet) in
    let moved_there : moves_of book deal.id p ≡ turns_of deal.steps index name = ap (λ i. moves_of book i p) named ∙ (ap (λ i. moves_of book st.deal i) party ∙ (sym r.is.moves ∙ s.moved)) in
    let owned : if_commit_of book st.deal st.party x ≡ if_commit_of book deal.id p x = ap (λ i. if_commit_of book st.deal i x) (sym party) ∙ ap (λ i. if_commit_of book i p x) (sym named) in
    let covers_there : due_of deal.steps index name x ≤ if_commit_of book deal.id p x = omega (arith, s.covers, listed_within (if_commit_of book st.deal st.party) st.rows x r.is.rows, owned) in
    record {
      front = r.front;
      rest = r.rest;
      parts = r.parts ∙ ap (λ (l : LedgerState). l.entries) same;
      open_yet = subst (λ (rs : List Row). settlement_of (book_of rs r.front) deal.id ≡ None) rows open_there;
      moved = subst (λ (rs : List Row). moves_of (book_of rs r.front) deal.id p ≡ turns_of deal.steps index name) rows moved_there;
      covers = subst (λ (rs : List Row). due_of deal.steps index name x ≤ if_commit_of (book_of rs r.front) deal.id p x) rows covers_there;
    }

-- ---- commit

abbrev pub MovedLaw : Type 0
MovedLaw = (name : List ℕ) (rows : List Row) (front rest : List Entry) (deal account : Id) (turns : ℕ) (asset : List ℕ) → IsHistory name rows (front ++ rest) → HaveTurnsBelow name rest deal account turns → turns ≤ moves_of (book_of rows front) deal account
    → if_commit_of (book_of rows front) deal account asset ≤ if_commit_of (book_of rows (front ++ rest)) deal account asset

turns_below : TurnsLaw → (w : World) → Kept w → HasOneText w → (name : List ℕ) (id p : Id) (index : ℕ) (g : AgentState) (deal : DealTold) (ledger : LedgerState) (some : List Entry) → w.ledgers name ≡ Some ledger → w.agents p ≡ Some g → IsTheDeal w id deal → index_of_account deal.parties p ≡ Some index
    → ((e : Entry) → Contains some e → Contains ledger.entries e) → HaveTurnsBelow name some id p (turns_of deal.steps index name)
turns_below turns w kept one name id p index g deal ledger some here runs the party inside q message turn to asset amount c reads =
    let r : IsPlanned p g (Transfer id name turn to asset amount) = meant_act w kept Ledger p g q message (Transfer id name turn to asset amount) runs (act_there w kept name p g q message ledger here runs (inside (Accepted p q message) c)) reads in
    let o = of_the_deal w kept one id p index g deal r.deal r.index runs the party r.within r.planned.0 in
    let own : turn < turns_of r.deal.steps r.index name = turns r.deal.steps r.index name turn r.planned.1.0 asset amount r.planned.1.1 in
    subst (λ (t : DealTold). turn < turns_of t.steps index name) o.same (subst (λ (i : ℕ). turn < turns_of r.deal.steps i name) o.index_is own)

covered : TurnsLaw → MovedLaw → (w : World) → Kept w → HasOneText w → (name : List ℕ) (id p : Id) (index : ℕ) (x : List ℕ) (before : List Entry) (s : IsSettledIn w name id out.Commit before) (g : AgentState) (deal : DealTold) → w.agents p ≡ Some g → IsTheDeal w id deal → index_of_account deal.parties p ≡ Some index → IsShown w p deal index name x
    → due_of deal.steps index name x ≤ if_commit_of (book_of s.ledger.rows before) id p x
covered turns moved w kept one name id p index x before s g deal runs the party shown =
    let f = front_of w kept name p index x deal s.ledger s.here shown in
    let rows = s.ledger.rows in
    let open_yet : settlement_of (book_of rows f.front) id ≡ None = subst (λ i. settlement_of (book_of rows f.front) i ≡ None) the.named f.open_yet in
    let made : moves_of (book_of rows f.front) id p ≡ turns_of deal.steps index name = subst (λ i. moves_of (book_of rows f.front) i p ≡ turns_of deal.steps index name) the.named f.moved in
    let covers : due_of deal.steps index name x ≤ if_commit_of (book_of rows f.front) id p x = subst (λ i. due_of deal.steps index name x ≤ if_commit_of (book_of rows f.front) i p x) the.named f.covers in
    ⊎_elim
    (λ (mid : (m : List Entry) × (f.front ++ m ≡ before)).
    let all : IsHistory name rows before = front_is name rows before (Settlement id out.Commit ∷ s.rest) (subst (IsHistory name rows) (sym s.parts) (kept.histories name s.ledger s.here)) in
    let parts : IsHistory name rows (f.front ++ mid.0) = subst (IsHistory name rows) (sym mid.1) all in
    let inside : (e : Entry) → Contains mid.0 e → Contains s.ledger.entries e = λ e c.
    subst (λ (h : List Entry). Contains h e) s.parts (Contains-append_left before (Settlement id out.Commit ∷ s.rest) e (subst (λ (h : List Entry). Contains h e) mid.1 (Contains-append_right f.front mid.0 e c))) in
    let below = turns_below turns w kept one name id p index g deal s.ledger mid.0 s.here runs the party inside in
    let grows = moved name rows f.front mid.0 id p (turns_of deal.steps index name) x parts below (omega (arith, made)) in
    subst (λ (h : List Entry). due_of deal.steps index name x ≤ if_commit_of (book_of rows h) id p x) mid.1 (omega (arith, covers, grows)))
    (λ (there : Contains f.front (Settlement id out.Commit)). absurd (is_settled (started rows) f.front id out.Commit there open_yet))
    (parted f.front f.rest before (Settlement id out.Commit) s.rest (f.parts ∙ sym s.parts))

pub due_is_paid : TurnsLaw → MovedLaw → (w : World) → Kept w → HasOneText w → (name : List ℕ) (id p : Id) (index : ℕ) (x : List ℕ) (before : List Entry) (s : IsSettledIn w name id out.Commit before) (c : IsCompliantIn w before id index p) → IsBehind w p c.agent id index c.deal
    → due_of c.deal.steps index name x ≤ if_commit_of (book_of s.ledger.rows before) id p x
due_is_paid turns moved w kept one name id p index x before s c behind =
    let the = the_deal w kept name before id index p (front_before w name id out.Commit before s) c in
    let seen = subst (λ (t : DealTold). (l y : List ℕ) → 0 < due_of t.steps index l y → IsShown w p t index l y) behind.same behind.backed.seen in
    by_some (λ some. covered turns moved w kept one name id p index x before s c.agent c.deal c.complies the c.party (seen name x some))
  where
    by_some : (0 < due_of c.deal.steps index name x → due_of c.deal.steps index name x ≤ if_commit_of (book_of s.ledger.rows before) id p x) → due_of c.deal.steps index name x ≤ if_commit_of (book_of s.ledger.rows before) id p x
    by_some f = by_test (ltb 0 (due_of c.deal.steps index name x)) refl
      where
        by_test : (b : Bool) → ltb 0 (due_of c.deal.steps index name x) ≡ b → due_of c.deal.steps index name x ≤ if_commit_of (book_of s.ledger.rows before) id p x
        by_test true is = f (ltb-true 0 (due_of c.deal.steps index name x) is)
        by_test false is = omega (arith, ltb-false 0 (due_of c.deal.steps index name x) is)

-- ---- abort

abbrev pub OnceLaw : Type 0
OnceLaw = (name : List ℕ) (rows : List Row) (entries : List Entry) (texts : List (List ℕ)) (deal account : Id) (asset : List ℕ) (amount : ℕ) → IsHistory name rows entries → HaveOneEscrow name entries texts deal account asset amount
    → ((q other : ℕ) (text : List ℕ) → slice_get texts q ≡ Some text → slice_get texts other ≡ Some text → q ≡ other)
    → (if_abort_of (book_of rows entries) deal account asset ≡ 0) ⊎ (if_abort_of (book_of rows entries) deal account asset ≡ amount)

pub escrow_is_need : NeedsLaw → OnceLaw → (w : World) → Kept w → HasOneText w → (name : List ℕ) (id : Id) (index : ℕ) (p : Id) (x : List ℕ) (front : List Entry) (f : IsFrontIn w name front) (c : IsCompliantIn w front id index p)
    → IsEscrow c.deal index name x (if_abort_of (book_of f.ledger.rows front) id p x)
escrow_is_need needs once w kept one name id index p x front f c =
    let the = the_deal w kept name front id index p f c in
    let history : IsHistory name f.ledger.rows front = front_is name f.ledger.rows front f.rest (subst (IsHistory name f.ledger.rows) (sym f.parts) (kept.histories name f.ledger f.here)) in
    let those : HaveOneEscrow name front c.agent.texts id p x (need_of c.deal.steps index name x) = λ q message escrowed there reads.
    let inside : Contains f.ledger.entries (Accepted p q message) = subst (λ (h : List Entry). Contains h (Accepted p q message)) f.parts (Contains-append_left front f.rest (Accepted p q message) there) in
    let signed = act_there w kept name p c.agent q message f.ledger f.here c.complies inside in
    let r : IsPlanned p c.agent (Escrow id name x escrowed) = meant_act w kept Ledger p c.agent q message (Escrow id name x escrowed) c.complies signed reads in
    let o = of_the_deal w kept one id p index c.agent c.deal r.deal r.index c.complies the c.party r.within r.planned.0 in
    let own : escrowed ≡ need_of r.deal.steps r.index name x = needs r.deal.steps r.index name x escrowed r.planned.1 in
    let that : escrowed ≡ need_of c.deal.steps index name x = own ∙ (ap (λ (i : ℕ). need_of r.deal.steps i name x) o.index_is ∙ ap (λ (t : DealTold). need_of t.steps index name x) o.same) in
    (that, signed) in
    once name f.ledger.rows front c.agent.texts id p x (need_of c.deal.steps index name x) history those (kept.agents p c.agent c.complies).once
