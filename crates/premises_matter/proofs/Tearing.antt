-- The seat signs two lists, and two ledgers settle the deal by them.
use Rattle.std.proofs.Common.{◌≡◌, ℕ, ◌<◌, Bool, true, false, cond, ◌&&◌, Some, None, List, [], ◌∷◌, ◌++◌, length, refl, ap, sym, ◌∙◌, subst, inl, inr, arith}
use Rattle.std.specs.Int.{w16, to_be_bytes}
use Rattle.std.specs.List.{Contains, IsDistinct}
use Rattle.std.specs.Str.{bytes_eq}
use Rattle.sha2.proofs.Facts256.{length-sha256}
use Rattle.dh_base.specs.declared.id.Id.{Id}
use Rattle.dh_base.specs.declared.outcome.Outcome.TheVariants.{Commit, Abort}
use Rattle.dh_base.proofs.SameIds.{same_id-self}
use Rattle.act_text.specs.declared.act.Act.TheVariants.{StartDeal, Vote}
use Rattle.act_text.specs.declared.office.Office.TheVariants.{Ledger, Log}
use Rattle.act_text.specs.ActTexts.{act_tag, act_text, choice_byte, ActFits}
use Rattle.act_text.specs.ActReading.{act_of}
use Rattle.act_text.proofs.ActTexts.{act-read}
use Rattle.key_ring.proofs.MadeRings.{says-made}
use Rattle.cert_core.specs.Sets.{id_of_set}
use Rattle.cert_core.specs.SeatTexts.{prefix_text}
use Rattle.cert_core.specs.Quorums.{IsQuorum}
use Rattle.claim_core.specs.declared.claim.Claim.{Claim}
use Rattle.claim_core.specs.Certificates.{vouched_for, Certifies}
use Rattle.deal_core.specs.Drafts.{accounts_in, parties_in}
use Rattle.clear_core.specs.declared.plan_act.PlanAct.TheVariants as plan
use Rattle.clear_core.proofs.Moved.{at_head, in_tail, head_or_tail, none_in_empty}
use Rattle.escrow_book.specs.Refused.{settle_refusal}
use Rattle.ledger_rows.specs.declared.entry.Entry.{Entry}
use Rattle.ledger_rows.specs.Entries.{book_of}
use Rattle.ledger_history.specs.Histories.{IsNext, IsHistory}
use Rattle.vote_log.specs.Entry.{Entry as Rec}
use Rattle.vote_log.specs.declared.kind.Kind.TheVariants as kind
use Rattle.vote_log.specs.Deciding.{Started, at_place, decided_after, outcome_of}
use Rattle.joined_deals.specs.DealTexts.{planned_text}
use Rattle.joined_deals.proofs.Elements.{in_front}
use Rattle.compliant_deals.specs.Parts.{act_by}
use Rattle.compliant_deals.specs.Complying.{entry_of}
use Rattle.compliant_deals.specs.CommitLogs.{start_of, commit_of}
use Rattle.compliant_deals.proofs.ByteTexts.{AllBytes, are_bytes, both, own_text, wide2, hash_bytes}
use Rattle.payoff.specs.Worlds.{World, LedgerState, HasOneText}
use Rattle.payoff.specs.Moments.{texts_read, IsOpening, IsRun, IsGiven, IsSettling, IsSaidAct, AreUnforged, after_all}
use Rattle.payoff.specs.Promise.{IsSettledIn}
use Rattle.payoff.proofs.Lists.{every_append}
use Rattle.promise_met.specs.Loan.{ann, ben, seed, ident, the_set, coins, coin, the_text, the_deal, rows, register_entry, the_log, the_claim}
use Rattle.promise_met.specs.Run.{new_ledger}
use Rattle.promise_met.proofs.Dealing.{text_of_deal, accepted, reads_first, reads_escrow}
use Rattle.promise_met.proofs.Signing.{IsGoodText, said, vote_text_is, start_text_is}
use Rattle.promise_met.proofs.Running.{Decides, next_at, settles_by_claim}
use Rattle.promise_met.proofs.Meeting.{read_texts, one_of}
use Rattle.premises_matter.specs.Misled.{unlent_entries}
use Rattle.premises_matter.specs.Torn.{HasEntered, notes, two_ledgers, abort_of, abort_log, abort_head, abort_claim, torn_run}
use Rattle.premises_matter.proofs.Parts.{found, nobody, settles_unlent, noted_history, settles_noted}

-- the only one that a look-up of either name finds
looked : {X : Type 0} (P : X → Type 0) (a b : Bool) (x y : X) → cond a (Some x) (cond b (Some x) None) ≡ Some y → P x → P y
looked P true b x y e p = found P x y e p
looked P false true x y e p = found P x y e p
looked P false false x y e p = absurd cc

pub torn_opens : IsOpening two_ledgers
torn_opens = record {
  ledgers = λ name ledger is. looked (λ (l : LedgerState). IsHistory name l.rows [] × (l.entries ≡ [])) (bytes_eq coins name) (bytes_eq notes name) new_ledger ledger is (record { good = refl; accepted = tt }, refl);
  joined = λ own agent is. nobody _ agent is;
  texts = λ own agent is. nobody _ agent is;
  heard = λ own agent is. nobody _ agent is;
  pool = refl;
  entered = refl;
}

-- ---- the other claim

quorum : IsQuorum the_set (vouched_for the_set abort_claim) abort_claim.sigs
unfolding IsDistinct
quorum = record {
  enough = omega arith;
  different = (tt, tt);
  inside = (omega arith, tt);
  vouched = (record { q = 0; says = says-made seed ident (prefix_text (id_of_set the_set) 2 abort_head) 1 0 refl (omega arith) (omega arith) }, tt);
}

certified : Certifies the_set abort_claim the_set
certified = record { chain = refl; vouched = record { head = refl; quorum = quorum } }

abbrev started : Started
started = record { at = 0; parties = 2; since = [] }

abort_decides : (deal : Id) → outcome_of (start_of deal 2 ∷ abort_of deal 1 ∷ []) deal ≡ Some (record { outcome = Abort; at = 1 })
abort_decides deal =
    ap (λ (t : Bool). at_place 1 (decided_after deal (cond t (Some started) None) (abort_of deal 1)) None) (same_id-self deal)
    ∙ ap (λ (t : Bool). at_place 1 (cond (t && true) (Some Abort) None) None) (same_id-self deal)

settles_by_abort : (ledger : LedgerState) → Some (record { rows = rows; entries = register_entry ∷ [] }) ≡ Some ledger → IsSettling the_set notes ledger the_deal.id abort_claim (record { outcome = Abort; at = 1 })
settles_by_abort ledger is =
    found (λ (l : LedgerState). IsSettling the_set notes l the_deal.id abort_claim (record { outcome = Abort; at = 1 })) (record { rows = rows; entries = register_entry ∷ [] }) ledger is (record { next = settles_noted; set = the_set; certifies = certified; decides = abort_decides the_deal.id })

-- ---- Ben's abort

abort_text_is : IsGoodText (Vote the_deal.id 1 Abort)
abort_text_is =
    let id : AllBytes the_deal.id.0 = hash_bytes the_text in
    let fields : AllBytes (the_deal.id.0 ++ (to_be_bytes w16 1 ++ (choice_byte Abort ∷ []))) =
    both the_deal.id.0 (to_be_bytes w16 1 ++ (choice_byte Abort ∷ [])) id (both (to_be_bytes w16 1) (choice_byte Abort ∷ []) (wide2 1) (omega arith, tt)) in
    let all : AllBytes (act_text (Vote the_deal.id 1 Abort)) = both act_tag (6 ∷ (the_deal.id.0 ++ (to_be_bytes w16 1 ++ (choice_byte Abort ∷ [])))) (own_text act_tag refl) (omega arith, fields) in
    let bytes = are_bytes (act_text (Vote the_deal.id 1 Abort)) all in
    let fits : ActFits (Vote the_deal.id 1 Abort) = (length-sha256 the_text, omega arith) in
    record { bytes = bytes; fits = fits; reads = (act-read Log (act_text (Vote the_deal.id 1 Abort)) (Vote the_deal.id 1 Abort) bytes).1 (refl, fits, refl) }

-- ---- the run

abbrev second : Entry
second = entry_of the_deal (act_by 1 (plan.Escrow coins coin 3)) 0

noted_next : (ledger : LedgerState) → Some (record { rows = rows; entries = [] }) ≡ Some ledger → IsNext notes (book_of ledger.rows ledger.entries) ledger.entries register_entry
noted_next ledger is = found (λ (l : LedgerState). IsNext notes (book_of l.rows l.entries) l.entries register_entry) (record { rows = rows; entries = [] }) ledger is noted_history.accepted.0

pub torn : Decides → IsRun two_ledgers torn_run
torn decides =
    let h = accepted.accepted in (
      (λ ledger is. next_at [] register_entry h.0 ledger is),
      (
        (λ ledger is. next_at (register_entry ∷ []) second h.1.0 ledger is),
        (
          (λ ledger is. noted_next ledger is),
          (
            (said (StartDeal the_text) start_text_is, (the_deal, text_of_deal)),
            (
              (said (Vote the_deal.id 0 Commit) (vote_text_is 0 (omega arith)), record { deal = the_deal; read = record { read = text_of_deal; carried = at_head the_text _ }; named = refl; party = refl }),
              (
                (said (Vote the_deal.id 1 Commit) (vote_text_is 1 (omega arith)), record { deal = the_deal; read = record { read = text_of_deal; carried = at_head the_text _ }; named = refl; party = refl }),
                (
                  (said (Vote the_deal.id 1 Abort) abort_text_is, record { deal = the_deal; read = record { read = text_of_deal; carried = at_head the_text _ }; named = refl; party = refl }),
                  ((λ ledger is. settles_by_claim decides unlent_entries settles_unlent ledger is), ((λ ledger is. settles_by_abort ledger is), tt)),
                ),
              ),
            ),
          ),
        ),
      ),
    )

-- ---- the premises

unforged : AreUnforged two_ledgers torn_run
unforged = (
  (λ agent is. nobody _ agent is),
  (
    (λ agent is. nobody _ agent is),
    (
      (λ agent is. nobody _ agent is),
      ((λ agent is. nobody _ agent is), ((λ agent is. nobody _ agent is), ((λ agent is. nobody _ agent is), ((λ agent is. nobody _ agent is), (tt, (tt, tt)))))),
    ),
  ),
)

one_text : HasOneText (after_all torn_run two_ledgers)
one_text text other here there same =
    one_of (after_all torn_run two_ledgers).texts (
      refl,
      every_append (λ (t : List ℕ). t ≡ the_text) (texts_read (act_of Ledger (planned_text the_deal plan.Register))) _ (read_texts plan.Register reads_first (refl, tt))
          (every_append (λ (t : List ℕ). t ≡ the_text) (texts_read (act_of Ledger (planned_text the_deal (plan.Escrow coins coin 3)))) _ (read_texts (plan.Escrow coins coin 3) reads_escrow tt)
          (every_append (λ (t : List ℕ). t ≡ the_text) (texts_read (act_of Ledger (planned_text the_deal plan.Register))) _ (read_texts plan.Register reads_first (refl, tt)) tt)),
    ) text other here there

pub torn_given : IsGiven two_ledgers torn_run
torn_given = record { unforged = unforged; one_text = one_text }

-- ---- what was entered

entered_are : (after_all torn_run two_ledgers).entered ≡ the_log ++ abort_of the_deal.id 1 ∷ []
entered_are =
    let known : parties_in the_text ≡ ann ∷ ben ∷ [] = ap accounts_in text_of_deal.read in
    ap (λ (n : ℕ). record { kind = kind.Start; num = n; deal = the_deal.id } ∷ commit_of the_deal.id 0 ∷ commit_of the_deal.id 1 ∷ abort_of the_deal.id 1 ∷ []) (ap length known)

of_abort_log : (entry : Rec) → Contains abort_log entry → Contains (the_log ++ abort_of the_deal.id 1 ∷ []) entry
of_abort_log entry there = elim (head_or_tail (start_of the_deal.id 2) (abort_of the_deal.id 1 ∷ []) entry there) [
  | inl is ↦ subst (λ (e : Rec). Contains (the_log ++ abort_of the_deal.id 1 ∷ []) e) is (at_head (start_of the_deal.id 2) (commit_of the_deal.id 0 ∷ commit_of the_deal.id 1 ∷ abort_of the_deal.id 1 ∷ []))
  | inr last ↦ in_tail (start_of the_deal.id 2) (commit_of the_deal.id 0 ∷ commit_of the_deal.id 1 ∷ abort_of the_deal.id 1 ∷ []) entry (in_tail (commit_of the_deal.id 0) (commit_of the_deal.id 1 ∷ abort_of the_deal.id 1 ∷ []) entry (in_tail (commit_of the_deal.id 1) (abort_of the_deal.id 1 ∷ []) entry last))
]

of_both : (log : List Rec) (entry : Rec) → Contains (the_log ∷ abort_log ∷ []) log → Contains log entry → Contains (the_log ++ abort_of the_deal.id 1 ∷ []) entry
of_both log entry here there = elim (head_or_tail the_log (abort_log ∷ []) log here) [
  | inl is ↦ in_front the_log (abort_of the_deal.id 1 ∷ []) entry (subst (λ (l : List Rec). Contains l entry) (sym is) there)
  | inr later ↦ elim (head_or_tail abort_log [] log later) [
    | inl is ↦ of_abort_log entry (subst (λ (l : List Rec). Contains l entry) (sym is) there)
    | inr none ↦ absurd (none_in_empty log none)
  ]
]

pub torn_entered : HasEntered (after_all torn_run two_ledgers) (the_log ∷ abort_log ∷ [])
torn_entered = record {
  entered = λ log entry here there. subst (λ (l : List Rec). Contains l entry) (sym entered_are) (of_both log entry here there);
  claims = λ claim set shown by_set. elim (head_or_tail abort_claim (the_claim ∷ []) claim shown) [
    | inl same ↦ subst (λ (c : Claim). Contains (the_log ∷ abort_log ∷ []) c.recs) same (in_tail the_log (abort_log ∷ []) abort_log (at_head abort_log []))
    | inr later ↦ elim (head_or_tail the_claim [] claim later) [
      | inl same ↦ subst (λ (c : Claim). Contains (the_log ∷ abort_log ∷ []) c.recs) same (at_head the_log (abort_log ∷ []))
      | inr none ↦ absurd (none_in_empty claim none)
    ]
  ];
}

pub torn_commits : IsSettledIn (after_all torn_run two_ledgers) coins the_deal.id Commit unlent_entries
torn_commits = record { ledger = _; here = refl; rest = []; parts = refl }

pub torn_aborts : IsSettledIn (after_all torn_run two_ledgers) notes the_deal.id Abort (register_entry ∷ [])
torn_aborts = record { ledger = _; here = refl; rest = []; parts = refl }
