-- The run meets the premises, and ends with a commit that pays Ann.
use Rattle.std.proofs.Common.{◌≡◌, ℕ, Bool, true, false, cond, Some, None, Result, Ok, List, [], ◌∷◌, length, slice_get, append-nil, refl, ap, sym, ◌∙◌, subst, inl, inr}
use Rattle.std.specs.List.{AllByRecursion, Contains}
use Rattle.std.specs.Option.{option_or}
use Rattle.std.specs.Str.{bytes_eq}
use Rattle.dh_base.specs.Ids.{same_id}
use Rattle.dh_base.specs.declared.outcome.Outcome.TheVariants.{Commit}
use Rattle.dh_base.proofs.SameIds.{same_id-self}
use Rattle.act_text.specs.declared.act.Act.{Act}
use Rattle.act_text.specs.declared.act_fault.ActFault.{ActFault}
use Rattle.act_text.specs.declared.office.Office.TheVariants.{Ledger}
use Rattle.act_text.specs.ActReading.{act_of}
use Rattle.claim_core.specs.declared.claim.Claim.{Claim}
use Rattle.deal_core.specs.Drafts.{accounts_in, parties_in}
use Rattle.clear_core.specs.declared.plan_act.PlanAct.{PlanAct}
use Rattle.clear_core.specs.declared.plan_act.PlanAct.TheVariants as plan
use Rattle.clear_core.proofs.Moved.{at_head, head_or_tail, none_in_empty}
use Rattle.escrow_book.specs.History.{payout_of}
use Rattle.ledger_rows.specs.declared.entry.Entry.{Entry}
use Rattle.ledger_rows.specs.Entries.{book_of, registered_by_act, registration_of}
use Rattle.ledger_history.specs.Histories.{IsHistory}
use Rattle.vote_log.specs.Entry.{Entry as Rec}
use Rattle.vote_log.specs.declared.kind.Kind.TheVariants as kind
use Rattle.joined_deals.specs.DealTexts.{planned_act, planned_text}
use Rattle.payoff.specs.Agents.{AgentState}
use Rattle.payoff.specs.Worlds.{World, LedgerState, HasOneText}
use Rattle.payoff.specs.Moments.{texts_read, IsOpening, IsGiven, AreUnforged, after_all}
use Rattle.payoff.specs.Promise.{HasCertified, IsSettledIn, IsCompliantIn}
use Rattle.payoff.proofs.Lists.{same_some, every_append, every_at}
use Rattle.compliant_deals.specs.CommitLogs.{commit_of}
use Rattle.compliant_deals.proofs.Reading.{Reads}
use Rattle.promise_met.specs.Loan.{ann, ben, coins, coin, the_text, the_deal, rows, ann_gives, register_entry, later_entries, the_entries, the_log, the_claim}
use Rattle.promise_met.specs.Run.{new_agent, new_ledger, opening, the_moments, the_run}
use Rattle.promise_met.proofs.Dealing.{text_of_deal, due_of_ann, owned, reads_first, reads_escrow, reads_lend, reads_give}

-- the only one that a look-up finds
looked : {X : Type 0} (P : X → Type 0) (b : Bool) (x y : X) → cond b (Some x) None ≡ Some y → P x → P y
looked P true x y e p = subst P (same_some x y e) p
looked P false x y e p = absurd cc

found : {X : Type 0} (P : X → Type 0) (x y : X) → Some x ≡ Some y → P x → P y
found P x y e p = subst P (same_some x y e) p

pub opens : IsOpening opening
opens = record {
  ledgers = λ name ledger is. looked (λ (l : LedgerState). IsHistory name l.rows [] × (l.entries ≡ [])) (bytes_eq coins name) new_ledger ledger is (record { good = refl; accepted = tt }, refl);
  joined = λ own agent is. looked (λ (a : AgentState). a.joined ≡ []) (same_id ann own) new_agent agent is refl;
  texts = λ own agent is. looked (λ (a : AgentState). a.texts ≡ []) (same_id ann own) new_agent agent is refl;
  heard = λ own agent is. looked (λ (a : AgentState). a.heard ≡ []) (same_id ann own) new_agent agent is refl;
  pool = refl;
  entered = refl;
}

-- ---- signatures

nobody : {X : Type 0} (P : Type 0) (x : X) → None ≡ Some x → P
nobody P x e = absurd cc

signed : (q : ℕ) (text : List ℕ) (a b : AgentState) → Some a ≡ Some b → slice_get a.texts q ≡ Some text → slice_get b.texts q ≡ Some text
signed q text a b e there = found (λ (x : AgentState). slice_get x.texts q ≡ Some text) a b e there

unforged : AreUnforged opening the_run
unforged = (
  tt,
  (
    tt,
    (
      tt,
      (
        (λ agent is. signed 0 _ _ agent is refl),
        (
          (λ agent is. nobody _ agent is),
          (
            (λ agent is. nobody _ agent is),
            (
              (λ agent is. signed 1 _ _ agent is refl),
              (tt, (tt, (tt, ((λ agent is. nobody _ agent is), ((λ agent is. signed 2 _ _ agent is refl), ((λ agent is. nobody _ agent is), (tt, tt))))))),
            ),
          ),
        ),
      ),
    ),
  ),
)

-- ---- the texts that were carried

abbrev IsTheText : List ℕ → Type 0
IsTheText text = text ≡ the_text

pub read_texts : (act : PlanAct) → Reads the_deal act → AllByRecursion IsTheText (texts_read (Ok (planned_act the_deal act))) → AllByRecursion IsTheText (texts_read (act_of Ledger (planned_text the_deal act)))
read_texts act r all = subst (λ (o : Result Act ActFault). AllByRecursion IsTheText (texts_read o)) (sym r.is) all

pub moments_texts : AllByRecursion IsTheText (after_all the_moments opening).texts
moments_texts = (
  refl,
  every_append IsTheText (texts_read (act_of Ledger (planned_text the_deal ann_gives))) _ (read_texts ann_gives reads_give tt)
      (every_append IsTheText (texts_read (act_of Ledger (planned_text the_deal (plan.Transfer coins 0 0 coin 3)))) _ (read_texts (plan.Transfer coins 0 0 coin 3) reads_lend tt)
      (every_append IsTheText (texts_read (act_of Ledger (planned_text the_deal (plan.Escrow coins coin 3)))) _ (read_texts (plan.Escrow coins coin 3) reads_escrow tt)
      (every_append IsTheText (texts_read (act_of Ledger (planned_text the_deal plan.Register))) _ (read_texts plan.Register reads_first (refl, tt)) (refl, tt)))),
)

pub one_of : (texts : List (List ℕ)) → AllByRecursion IsTheText texts → (text other : List ℕ) → Contains texts text → Contains texts other → text ≡ other
one_of texts all text other here there = every_at IsTheText texts text all here ∙ sym (every_at IsTheText texts other all there)

one_text : HasOneText (after_all the_run opening)
one_text text other here there same = one_of (after_all the_run opening).texts moments_texts text other here there

pub given : IsGiven opening the_run
given = record { unforged = unforged; one_text = one_text }

-- ---- the certified list

-- what the seat entered is the log
pub entered_is : (after_all the_run opening).entered ≡ the_log
entered_is =
    let known : parties_in the_text ≡ ann ∷ ben ∷ [] = ap accounts_in text_of_deal.read in
    ap (λ (n : ℕ). record { kind = kind.Start; num = n; deal = the_deal.id } ∷ commit_of the_deal.id 0 ∷ commit_of the_deal.id 1 ∷ []) (ap length known)

only_log : (log : List Rec) → Contains (the_log ∷ []) log → the_log ≡ log
only_log log there = elim (head_or_tail the_log [] log there) [ inl is ↦ is | inr none ↦ absurd (none_in_empty log none) ]

pub certified_in : (w : World) → w.entered ≡ the_log → w.shown ≡ the_claim ∷ [] → HasCertified w (the_log ∷ [])
certified_in w is shows = record {
  one_log = λ log other here there. inl ([], append-nil log ∙ (sym (only_log log here) ∙ only_log other there));
  entered = λ log entry here there. subst (λ (l : List Rec). Contains l entry) (sym (only_log log here) ∙ sym is) there;
  claims = λ claim set shown by_set. elim (head_or_tail the_claim [] claim (subst (λ (l : List Claim). Contains l claim) shows shown)) [
    | inl same ↦ subst (λ (c : Claim). Contains (the_log ∷ []) c.recs) same (at_head the_log [])
    | inr none ↦ absurd (none_in_empty claim none)
  ];
}

pub certified_lists : HasCertified (after_all the_run opening) (the_log ∷ [])
certified_lists = certified_in (after_all the_run opening) entered_is refl

-- ---- the end

pub settles : IsSettledIn (after_all the_run opening) coins the_deal.id Commit the_entries
settles = record { ledger = _; here = refl; rest = []; parts = refl }

pub registered : (later : List Entry) → registration_of (register_entry ∷ later) the_deal.id ≡ Some (ann, the_text)
registered later =
    ap (λ (r : Result Act ActFault). option_or (registered_by_act the_deal.id ann r) (registration_of later the_deal.id)) reads_first.is
    ∙ ap (λ (t : Bool). option_or (cond t (Some (ann, the_text)) None) (registration_of later the_deal.id)) (same_id-self the_deal.id)

pub complies : IsCompliantIn (after_all the_run opening) the_entries the_deal.id 0 ann
complies = record {
  registrant = ann;
  text = the_text;
  registered = registered later_entries;
  deal = the_deal;
  reads = text_of_deal;
  party = refl;
  agent = _;
  complies = refl;
}

pub paid : payout_of (book_of rows the_entries) the_deal.id Commit ann coin ≡ 2
paid = owned coin ∙ due_of_ann coins coin
