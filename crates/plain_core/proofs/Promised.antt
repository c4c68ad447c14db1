-- What every run keeps to, and that a report is that of its run.
use Rattle.std.proofs.Common.{◌≡◌, ℕ, ◌+◌, ◌<◌, ◌≤◌, Bool, true, false, cond, Some, Result, Ok, Err, List, [], ◌∷◌, ◌++◌, map, length, take, drop, refl, sym, ap, subst, ◌∙◌, inl, inr, ◌⊎◌, arith, append_assoc}
use Rattle.std.specs.Prelude.{flat_map, Contains}
use Rattle.std.proofs.lemmas.List.{take-append-drop}
use Rattle.std.proofs.lemmas.List.Elements.{Contains-push}
use Rattle.dh_base.specs.declared.id.Id.{Id}
use Rattle.dh_base.specs.declared.outcome.Outcome.{Outcome}
use Rattle.escrow_book.specs.declared.change.Change.TheVariants as change
use Rattle.escrow_book.specs.History.{History}
use Rattle.escrow_book.specs.Reached.{IsReached}
use Rattle.escrow_book.specs.Conserved.{AreItsAccounts, IsConserved, settlements_of}
use Rattle.escrow_book.specs.Base.{greatest_turn}
use Rattle.vote_log.specs.declared.decision.Decision.{Decision}
use Rattle.vote_log.specs.Entry.{Entry}
use Rattle.vote_log.specs.Log.{Log}
use Rattle.vote_log.specs.Deciding.{outcome_of}
use Rattle.script_lines.specs.Refusals.{Refused}
use Rattle.plain_script.specs.Rules.{DeclareByRules}
use Rattle.plain_script.specs.declared.declaration.Declaration.{Declaration}
use Rattle.plain_script.specs.declared.numbered.Numbered.{Numbered}
use Rattle.script_lines.specs.declared.rule.ScriptRule.TheVariants.{OutOfRange}
use Rattle.plain_script.specs.Ids.{plain_id}
use Rattle.plain_core.specs.Starts.{started_world}
use Rattle.plain_core.specs.Ledgers.{LedgerTold, World, step_of}
use Rattle.plain_core.specs.Reports.{Report, is_out_of_range, reply_line, told_behind, goes_on, run_from}
use Rattle.plain_core.specs.OneLog.{Moment, moment_at, moments_from, end_of, Run, run_between, worlds_of, IsOutcome, ledger_named, IsSettlement, IsRepeat, WasSettled, EndsSettled, StandsSettled, KeepsAssets, IsAccepted, FollowsOneLog, moment_line}
use Rattle.plain_core.specs.declared.reply.Reply.TheVariants.{Already, RefusedClaim}
use Rattle.plain_core.specs.declared.claim_refusal.ClaimRefusal.TheVariants.{UnknownDeal}
use Rattle.plain_core.proofs.Finding.{contains_none, contains_head, contains_tail, contains_cons, found_replies, found_there}
use Rattle.plain_core.proofs.Following.{GrowthLaws}
use Rattle.plain_core.proofs.Logged.{IsLonger, same_log, step_longer}
use Rattle.plain_core.proofs.OneRun.{AreSound, start_sound, step_sound}
use Rattle.plain_core.proofs.Settled.{HadSettled, IsSettledBy, settled_by}
use Rattle.plain_core.proofs.Standing.{settled_there, step_named}
use Rattle.plain_core.proofs.Settling.{PayLaw, claim_at, claim_settles}

-- what is known of books and of logs
pub record RunLaws : Type 0 where
  pub growth : GrowthLaws
  pub pays : PayLaw
  pub conserved : (h : History) (accounts : List Id) (x : List ℕ) → IsReached h → AreItsAccounts h accounts → IsConserved h accounts x
  pub once : (h : History) (d : Id) → IsReached h → settlements_of h d ≤ 1
  pub stays : (log more : List Entry) (deal : Id) (decision : Decision) → outcome_of log deal ≡ Some decision → outcome_of (log ++ more) deal ≡ Some decision

-- ---- a report is that of its run

-- the events up to here are in range, and their report is that of their moments
pub record IsRan (ds : List Declaration) (world : World) (events : List Numbered) (report : Report) : Type 0 where
  pub text : report.text ≡ flat_map moment_line (moments_from ds world events)
  pub world_is : report.world ≡ end_of world (moments_from ds world events)
  pub range : (moment : Moment) → Contains (moments_from ds world events) moment → is_out_of_range moment.before moment.happened.event ≡ false

report_is : (a b : Report) → ◌≡◌ {A = Result Report Refused} (Ok a) (Ok b) → a ≡ b
report_is a b e = cc

pub ran : (ds : List Declaration) (world : World) (events : List Numbered) (report : Report) → run_from ds world events ≡ Ok report → IsRan ds world events report
ran ds world [] report e =
    let is = report_is (record { text = []; world = world }) report e in
    record { text = sym (ap (λ (r : Report). r.text) is); world_is = sym (ap (λ (r : Report). r.world) is); range = λ moment there. absurd (contains_none moment there) }
ran ds world (happened ∷ rest) report e = by (is_out_of_range world happened.event) refl (λ r is. ran ds (step_of ds world happened.event).world rest r is) e
  where
    next : World
    next = (step_of ds world happened.event).world

    line : List ℕ
    line = reply_line happened.line (step_of ds world happened.event).reply

    behind : (run : Result Report Refused) → ((r : Report) → run_from ds next rest ≡ Ok r → IsRan ds next rest r) → run_from ds next rest ≡ run → is_out_of_range world happened.event ≡ false → told_behind line run ≡ Ok report → IsRan ds world (happened ∷ rest) report
    behind (Err refused) later is fits told = absurd cc
    behind (Ok r) later is fits told =
        let more = later r is in
        let whole = report_is (record { text = line ++ r.text; world = r.world }) report told in
        record {
          text = sym (ap (λ (r : Report). r.text) whole) ∙ ap (λ (t : List ℕ). line ++ t) more.text;
          world_is = sym (ap (λ (r : Report). r.world) whole) ∙ more.world_is;
          range = λ moment there. elim (contains_cons (moment_at ds world happened) (moments_from ds next rest) moment there) [
            | inl is ↦ subst (λ (m : Moment). is_out_of_range m.before m.happened.event ≡ false) is fits
            | inr there_later ↦ more.range moment there_later
          ];
        }

    by : (b : Bool) → is_out_of_range world happened.event ≡ b → ((r : Report) → run_from ds next rest ≡ Ok r → IsRan ds next rest r) → goes_on (cond b (Err (record { line = happened.line; rule = OutOfRange })) (Ok (record { text = line; world = next }))) (λ world. run_from ds world rest) ≡ Ok report → IsRan ds world (happened ∷ rest) report
    by true out later told = absurd cc
    by false fits later told = behind (run_from ds next rest) later refl fits told

-- ---- every moment

-- the moment is that of an event in range, where every ledger had a good history, and has one
pub record IsGood (ds : List Declaration) (moment : Moment) : Type 0 where
  pub is : moment_at ds moment.before moment.happened ≡ moment
  pub range : is_out_of_range moment.before moment.happened.event ≡ false
  pub reached : (ledger : LedgerTold) → Contains moment.before.ledgers ledger → IsReached ledger.history
  pub count : ℕ
  pub sound : AreSound ds count moment.after.ledgers

abbrev AreGood : List Declaration → List Moment → Type 0
AreGood ds moments = (moment : Moment) → Contains moments moment → IsGood ds moment

all_good : GrowthLaws → (ds : List Declaration) → DeclareByRules [] ds → (world : World) (n : ℕ) (events : List Numbered) → AreSound ds n world.ledgers → n + length events < greatest_turn → ((moment : Moment) → Contains (moments_from ds world events) moment → is_out_of_range moment.before moment.happened.event ≡ false) → AreGood ds (moments_from ds world events)
all_good laws ds keep world n [] sound room range moment there = absurd (contains_none moment there)
all_good laws ds keep world n (happened ∷ rest) sound room range moment there =
    let next : World = (step_of ds world happened.event).world in
    let after : AreSound ds (n + 1) next.ledgers = step_sound laws ds keep world happened.event n (omega (arith, room)) sound in
    elim (contains_cons (moment_at ds world happened) (moments_from ds next rest) moment there) [
      | inl is ↦ subst (IsGood ds) is (record {
        is = refl;
        range = range (moment_at ds world happened) (contains_head (moment_at ds world happened) (moments_from ds next rest));
        reached = λ ledger at. (sound ledger at).reached;
        count = n + 1;
        sound = after;
      })
      | inr later ↦ all_good laws ds keep next (n + 1) rest after (omega (arith, room)) (λ m at. range m (contains_tail (moment_at ds world happened) (moments_from ds next rest) m at)) moment later
    ]

settled_at : GrowthLaws → PayLaw → (ds : List Declaration) → DeclareByRules [] ds → (moment : Moment) → IsGood ds moment → IsSettledBy moment
settled_at laws law ds keep moment good =
    subst IsSettledBy good.is (settled_by laws law ds keep moment.before moment.happened.line moment.happened.event good.range good.reached)

-- a claim of an open deal that its prefix decides is accepted
accepted_at : (ds : List Declaration) (moment : Moment) → IsGood ds moment → IsAccepted moment
accepted_at ds moment good name deal len outcome before event found running decided =
    ap (λ (m : Moment). m.reply) (sym good.is)
    ∙ (ap (λ e. (step_of ds moment.before e).reply) event
    ∙ (found_replies name (claim_at moment.before deal len) (RefusedClaim UnknownDeal) moment.before.ledgers before found
    ∙ claim_settles moment.before.log.entries deal len before outcome running decided))

-- ---- the end

-- a moment of these settled the deal
abbrev WasMade : List Moment → List ℕ → Id → Outcome → Type 0
WasMade moments name d o = (moment : Moment) × (deal : List ℕ) × Contains moments moment × (d ≡ plain_id deal) × IsSettlement moment name deal o

-- a settlement at the end stood there at the start, or a moment made it
made_by : GrowthLaws → PayLaw → (ds : List Declaration) → DeclareByRules [] ds → (world : World) (events : List Numbered) → AreGood ds (moments_from ds world events) → (ledger : LedgerTold) (d : Id) (o : Outcome) → Contains (end_of world (moments_from ds world events)).ledgers ledger → Contains ledger.history.changes (change.Settled d o) → HadSettled world.ledgers ledger.name d o ⊎ WasMade (moments_from ds world events) ledger.name d o
made_by laws law ds keep world [] good ledger d o there settled = inl (record { ledger = ledger; there = there; named = refl; settled = settled })
made_by laws law ds keep world (happened ∷ rest) good ledger d o there settled =
    let now : Moment = moment_at ds world happened in
    let later : List Moment = moments_from ds now.after rest in
    let here = settled_at laws law ds keep now (good now (contains_head now later)) in
    elim (made_by laws law ds keep now.after rest (λ m at. good m (contains_tail now later m at)) ledger d o there settled) [
      | inl before ↦
          elim (here.settlements before.ledger d o before.there before.settled) [
            | inl first ↦ inl (record { ledger = first.ledger; there = first.there; named = first.named ∙ before.named; settled = first.settled })
            | inr made ↦ inr (now, made.deal, contains_head now later, made.is, subst (λ n. IsSettlement now n made.deal o) before.named made.made)
          ]
      | inr made ↦ inr (made.0, made.1, contains_tail now later made.0 made.2, made.3, made.4)
    ]

-- what has settled a deal on the ledger of a name has settled it there at the end
settled_on : GrowthLaws → (ds : List Declaration) → DeclareByRules [] ds → (world : World) (events : List Numbered) (name : List ℕ) (old : LedgerTold) (d : Id) (o : Outcome) → ledger_named name world ≡ Some old → Contains old.history.changes (change.Settled d o) → (ledger : LedgerTold) × (ledger_named name (end_of world (moments_from ds world events)) ≡ Some ledger) × Contains ledger.history.changes (change.Settled d o)
settled_on laws ds keep world [] name old d o found there = (old, found, there)
settled_on laws ds keep world (happened ∷ rest) name old d o found there =
    let on = step_named laws ds keep world happened.event name old found in
    settled_on laws ds keep (step_of ds world happened.event).world rest name on.0 d o on.1 (on.2.keeps d o there)

-- before and behind a moment of the run, what has settled a deal has settled it at the end
abbrev StandsBefore : List ℕ → Id → Outcome → World → Moment → Type 0
StandsBefore name d o end moment = (old : LedgerTold) → ledger_named name moment.before ≡ Some old → Contains old.history.changes (change.Settled d o) → (ledger : LedgerTold) × (ledger_named name end ≡ Some ledger) × Contains ledger.history.changes (change.Settled d o)

abbrev StandsBehind : List ℕ → Id → Outcome → World → Moment → Type 0
StandsBehind name d o end moment = (old : LedgerTold) → ledger_named name moment.after ≡ Some old → Contains old.history.changes (change.Settled d o) → (ledger : LedgerTold) × (ledger_named name end ≡ Some ledger) × Contains ledger.history.changes (change.Settled d o)

stands_at : GrowthLaws → (ds : List Declaration) → DeclareByRules [] ds → (world : World) (events : List Numbered) (moment : Moment) (name : List ℕ) (d : Id) (o : Outcome) → Contains (moments_from ds world events) moment → StandsBefore name d o (end_of world (moments_from ds world events)) moment × StandsBehind name d o (end_of world (moments_from ds world events)) moment
stands_at laws ds keep world [] moment name d o there = absurd (contains_none moment there)
stands_at laws ds keep world (happened ∷ rest) moment name d o there =
    let now : Moment = moment_at ds world happened in
    elim (contains_cons now (moments_from ds now.after rest) moment there) [
      | inl is ↦ subst (λ (m : Moment). StandsBefore name d o (end_of now.after (moments_from ds now.after rest)) m × StandsBehind name d o (end_of now.after (moments_from ds now.after rest)) m) is (λ old found settled. settled_on laws ds keep world (happened ∷ rest) name old d o found settled, λ old found settled. settled_on laws ds keep now.after rest name old d o found settled)
      | inr later ↦ stands_at laws ds keep now.after rest moment name d o later
    ]

longer_twice : (a b c : Log) → IsLonger a b → IsLonger b c → IsLonger a c
longer_twice a b c first second = (first.0 ++ second.0, second.1 ∙ (ap (λ es. es ++ second.0) first.1 ∙ append_assoc a.entries first.0 second.0))

end_longer : (ds : List Declaration) (world : World) (events : List Numbered) → IsLonger world.log (end_of world (moments_from ds world events)).log
end_longer ds world [] = same_log world.log
end_longer ds world (happened ∷ rest) =
    let next : World = (step_of ds world happened.event).world in
    longer_twice world.log next.log (end_of next (moments_from ds next rest)).log (step_longer ds world happened.event) (end_longer ds next rest)

moment_longer : (ds : List Declaration) (world : World) (events : List Numbered) (moment : Moment) → Contains (moments_from ds world events) moment → IsLonger moment.before.log (end_of world (moments_from ds world events)).log
moment_longer ds world [] moment there = absurd (contains_none moment there)
moment_longer ds world (happened ∷ rest) moment there =
    let now : Moment = moment_at ds world happened in
    elim (contains_cons now (moments_from ds now.after rest) moment there) [
      | inl is ↦ subst (λ (m : Moment). IsLonger m.before.log (end_of now.after (moments_from ds now.after rest)).log) is (end_longer ds world (happened ∷ rest))
      | inr later ↦ moment_longer ds now.after rest moment later
    ]

-- behind a moment the log is one that the end's goes on from
behind_longer : (ds : List Declaration) (world : World) (events : List Numbered) (moment : Moment) → Contains (moments_from ds world events) moment → IsLonger moment.before.log moment.after.log × IsLonger moment.after.log (end_of world (moments_from ds world events)).log
behind_longer ds world [] moment there = absurd (contains_none moment there)
behind_longer ds world (happened ∷ rest) moment there =
    let now : Moment = moment_at ds world happened in
    elim (contains_cons now (moments_from ds now.after rest) moment there) [
      | inl is ↦ subst (λ (m : Moment). IsLonger m.before.log m.after.log × IsLonger m.after.log (end_of now.after (moments_from ds now.after rest)).log) is (step_longer ds world happened.event, end_longer ds now.after rest)
      | inr later ↦ behind_longer ds now.after rest moment later
    ]

-- what a prefix of a log decides, every longer log decides
prefix_decides : ((log more : List Entry) (deal : Id) (decision : Decision) → outcome_of log deal ≡ Some decision → outcome_of (log ++ more) deal ≡ Some decision) → (shown whole : Log) (len : ℕ) (d : Id) (o : Outcome) → IsLonger shown whole → IsOutcome (take len shown.entries) d o → IsOutcome whole.entries d o
prefix_decides law shown whole len d o longer decided =
    let parts : take len shown.entries ++ (drop len shown.entries ++ longer.0) ≡ whole.entries =
    sym (append_assoc (take len shown.entries) (drop len shown.entries) longer.0) ∙ (ap (λ es. es ++ longer.0) (take-append-drop len shown.entries) ∙ sym longer.1) in
    (decided.0, ap (λ es. outcome_of es d) (sym parts) ∙ law (take len shown.entries) (drop len shown.entries ++ longer.0) d (record { outcome = o; at = decided.0 }) decided.1)

decision_is : (a b : Decision) → Some a ≡ Some b → a ≡ b
decision_is a b e = cc

one_outcome : (entries : List Entry) (d : Id) (first second : Outcome) → IsOutcome entries d first → IsOutcome entries d second → first ≡ second
one_outcome entries d first second a b =
    ap (λ (decision : Decision). decision.outcome) (decision_is (record { outcome = first; at = a.0 }) (record { outcome = second; at = b.0 }) (sym a.1 ∙ b.1))

contains_map : {X Y : Type 0} (f : X → Y) (xs : List X) (y : Y) → Contains (map f xs) y → (x : X) × Contains xs x × (f x ≡ y)
contains_map f [] y there = absurd (contains_none y there)
contains_map f (x ∷ xs) y there =
    elim (contains_cons (f x) (map f xs) y there) [
      | inl is ↦ (x, contains_head x xs, is)
      | inr more ↦ let found = contains_map f xs y more in (found.0, contains_tail x xs found.0 found.1, found.2)
    ]

keeps_assets : RunLaws → (ds : List Declaration) (n : ℕ) (ledgers : List LedgerTold) → AreSound ds n ledgers → (ledger : LedgerTold) → Contains ledgers ledger → KeepsAssets ds ledger
keeps_assets laws ds n ledgers sound ledger there =
    let s = sound ledger there in
    record { opening = s.opening; reached = s.reached; conserved = λ accounts asset its. laws.conserved ledger.history accounts asset s.reached its; once = λ d. laws.once ledger.history d s.reached }

pub follows_one_log : RunLaws → (ds : List Declaration) → DeclareByRules [] ds → (events : List Numbered) → length events < greatest_turn → ((moment : Moment) → Contains (moments_from ds (started_world ds) events) moment → is_out_of_range moment.before moment.happened.event ≡ false) → FollowsOneLog ds (run_between (started_world ds) (moments_from ds (started_world ds) events))
follows_one_log laws ds keep events room range = record {
  agree = λ one other d first second a b. one_outcome run.end.log.entries d first second (by_log one d first a) (by_log other d second b);
  by_log = by_log;
  by_claim = by_claim;
  told = λ moment outcome there e. (settled_at laws.growth laws.pays ds keep moment (good moment there)).replies outcome e;
  stands = stands;
  again = again;
  grows = λ moment there. behind_longer ds start events moment there;
  accepted = λ moment there. accepted_at ds moment (good moment there);
  conserved = conserved;
}
  where
    start : World
    start = started_world ds

    moments : List Moment
    moments = moments_from ds start events

    run : Run
    run = run_between start moments

    good : AreGood ds moments
    good = all_good laws.growth ds keep start 0 events (start_sound ds keep) (omega (arith, room)) range

    unsettled : (name : List ℕ) (d : Id) (o : Outcome) → HadSettled start.ledgers name d o → ⊥
    unsettled name d o had = absurd (omega (arith, had.settled.1, (start_sound ds keep had.ledger had.there).few))

    by_claim : (ledger : LedgerTold) (d : Id) (o : Outcome) → EndsSettled run ledger d o → WasSettled run ledger.name d o
    by_claim ledger d o ends =
        elim (made_by laws.growth laws.pays ds keep start events good ledger d o ends.there ends.settled) [
          | inl had ↦ absurd (unsettled ledger.name d o had)
          | inr made ↦ made
        ]

    by_log : (ledger : LedgerTold) (d : Id) (o : Outcome) → EndsSettled run ledger d o → IsOutcome run.end.log.entries d o
    by_log ledger d o ends =
        let made = by_claim ledger d o ends in
        let s = made.4 in
        prefix_decides laws.stays made.0.before.log run.end.log s.len d o (moment_longer ds start events made.0 made.2)
        (subst (λ e. IsOutcome (take s.len made.0.before.log.entries) e o) (sym made.3) s.decided)

    stands : (moment : Moment) (name deal : List ℕ) (o : Outcome) → Contains run.moments moment → IsSettlement moment name deal o → IsOutcome run.end.log.entries (plain_id deal) o × StandsSettled run name (plain_id deal) o
    stands moment name deal o there s =
        let new : Contains s.after.history.changes (change.Settled (plain_id deal) o) = subst (λ (h : History). Contains h.changes (change.Settled (plain_id deal) o)) (sym s.entered) (Contains-push s.before.history.changes (change.Settled (plain_id deal) o)) in
        let last = (stands_at laws.growth ds keep start events moment name (plain_id deal) o there).1 s.after s.left new in
        let ends : EndsSettled run last.0 (plain_id deal) o = record { there = found_there name run.end.ledgers last.0 last.1; settled = last.2 } in
        (by_log last.0 (plain_id deal) o ends, (last.0, last.1, ends))

    again : (moment : Moment) (o : Outcome) → Contains run.moments moment → moment.reply ≡ Already o → (name deal : List ℕ) × IsRepeat moment name deal o × IsOutcome run.end.log.entries (plain_id deal) o
    again moment o there e =
        let repeat = (settled_at laws.growth laws.pays ds keep moment (good moment there)).repeats o e in
        let r = repeat.2 in
        let old : Contains r.before.history.changes (change.Settled (plain_id repeat.1) o) = settled_there r.before.history (plain_id repeat.1) o ((good moment there).reached r.before (found_there repeat.0 moment.before.ledgers r.before r.found)) r.settled in
        let last = (stands_at laws.growth ds keep start events moment repeat.0 (plain_id repeat.1) o there).0 r.before r.found old in
        let ends : EndsSettled run last.0 (plain_id repeat.1) o = record { there = found_there repeat.0 run.end.ledgers last.0 last.1; settled = last.2 } in
        (repeat.0, repeat.1, r, by_log last.0 (plain_id repeat.1) o ends)

    conserved : (world : World) (ledger : LedgerTold) → Contains (worlds_of run) world → Contains world.ledgers ledger → KeepsAssets ds ledger
    conserved world ledger there at =
        elim (contains_cons start (map (λ (m : Moment). m.after) moments) world there) [
          | inl is ↦ keeps_assets laws ds 0 start.ledgers (start_sound ds keep) ledger (subst (λ (w : World). Contains w.ledgers ledger) (sym is) at)
          | inr later ↦
              let found = contains_map (λ (m : Moment). m.after) moments world later in
              let g = good found.0 found.1 in
              keeps_assets laws ds g.count found.0.after.ledgers g.sound ledger (subst (λ (w : World). Contains w.ledgers ledger) (sym found.2) at)
        ]
