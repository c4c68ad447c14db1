-- How a report grows by an event.
use Rattle.std.proofs.Common.{◌≡◌, ◌≢◌, ℕ, suc, ◌+◌, ◌<◌, length, get_or, drop, drop-cons, arith, Bool, true, false, cond, Result, Ok, Err, List, [], ◌∷◌, ◌++◌, refl, sym, ap, subst, ◌∙◌, append_assoc}
use Rattle.std.proofs.lemmas.List.{append-nil}
use Rattle.script_lines.specs.Refusals.{Refused}
use Rattle.script_lines.specs.Refusals.{Halts}
use Rattle.script_lines.specs.declared.halt.ScriptHalt.{ScriptHalt}
use Rattle.script_lines.specs.declared.halt.ScriptHalt.TheVariants.{NoMemory, Refused as RefusedAt}
use Rattle.plain_script.specs.declared.declaration.Declaration.{Declaration}
use Rattle.plain_script.specs.declared.numbered.Numbered.{Numbered}
use Rattle.script_lines.specs.declared.rule.ScriptRule.TheVariants.{OutOfRange}
use Rattle.plain_core.specs.Given.{AreWithin}
use Rattle.plain_core.specs.Openings.{ledger_names}
use Rattle.plain_core.specs.Starts.{started_world}
use Rattle.plain_core.specs.Ledgers.{World, step_of}
use Rattle.plain_core.specs.Reports.{Report, is_out_of_range, reply_line, told_behind, happened_of, goes_on, run_from}
use Rattle.plain_core.proofs.Within.{start_within, step_within}

behind_twice : (first second : List ℕ) (run : Result Report Refused) → told_behind first (told_behind second run) ≡ told_behind (first ++ second) run
behind_twice first second (Err refused) = refl
behind_twice first second (Ok report) = ap (λ (t : List ℕ). Ok (record { text = t; world = report.world })) (sym (append_assoc first second report.text))

behind_none : (run : Result Report Refused) → told_behind [] run ≡ run
behind_none (Err refused) = refl
behind_none (Ok report) = refl

report_is : (a b : Report) → ◌≡◌ {A = Result Report Refused} (Ok a) (Ok b) → a ≡ b
report_is a b e = cc

no_report : (refused : Refused) (report : Report) → ◌≢◌ {A = Result Report Refused} (Err refused) (Ok report)
no_report refused report e = cc

-- a step that was taken, and then what comes
taken : (before after : List ℕ) (world : World) (step : Result Report Refused) (more : World → Result Report Refused) → told_behind before step ≡ Ok (record { text = after; world = world }) → told_behind before (goes_on step more) ≡ told_behind after (more world)
taken before after world (Err refused) more e = absurd (no_report refused (record { text = after; world = world }) e)
taken before after world (Ok report) more e =
    let same = report_is (record { text = before ++ report.text; world = report.world }) (record { text = after; world = world }) e in
    behind_twice before report.text (more report.world) ∙ ap (λ (r : Report). told_behind r.text (more r.world)) same

pub run_on : (ds : List Declaration) (before after : List ℕ) (old new : World) (happened : Numbered) (events rest : List Numbered) (whole : Result Report Refused) → events ≡ happened ∷ rest → told_behind before (run_from ds old events) ≡ whole → told_behind before (happened_of ds old happened) ≡ Ok (record { text = after; world = new }) → told_behind after (run_from ds new rest) ≡ whole
run_on ds before after old new happened events rest whole is so_far step =
    sym (taken before after new (happened_of ds old happened) (λ next. run_from ds next rest) step)
    ∙ (ap (λ (es : List Numbered). told_behind before (run_from ds old es)) (sym is) ∙ so_far)

halts_behind : (halt : ScriptHalt) (before : List ℕ) (run : Result Report Refused) → Halts halt run → Halts halt (told_behind before run)
halts_behind NoMemory before run h = tt
halts_behind (RefusedAt line rule) before run h = ap (told_behind before) h

halts_on : (halt : ScriptHalt) (step : Result Report Refused) (more : World → Result Report Refused) → Halts halt step → Halts halt (goes_on step more)
halts_on NoMemory step more h = tt
halts_on (RefusedAt line rule) step more h = ap (λ (s : Result Report Refused). goes_on s more) h

pub run_halts : (ds : List Declaration) (before : List ℕ) (old : World) (happened : Numbered) (events rest : List Numbered) (whole : Result Report Refused) (halt : ScriptHalt) → events ≡ happened ∷ rest → told_behind before (run_from ds old events) ≡ whole → Halts halt (happened_of ds old happened) → Halts halt whole
run_halts ds before old happened events rest whole halt is so_far step =
    subst (Halts halt) so_far
    (halts_behind halt before (run_from ds old events)
    (subst (λ (es : List Numbered). Halts halt (run_from ds old es)) (sym is) (halts_on halt (happened_of ds old happened) (λ next. run_from ds next rest) step)))

pub run_starts : (ds : List Declaration) (before : List ℕ) (world : World) (events : List Numbered) → before ≡ [] → world ≡ started_world ds → (told_behind before (run_from ds world events) ≡ run_from ds (started_world ds) events) × AreWithin 0 world.ledgers
run_starts ds before world events empty starts = (
  ap (λ (t : List ℕ). told_behind t (run_from ds world events)) empty ∙ (behind_none (run_from ds world events) ∙ ap (λ (w : World). run_from ds w events) starts),
  subst (λ (w : World). AreWithin 0 w.ledgers) (sym starts) (start_within ds (ledger_names ds)),
)

pub next_event : (items events : List Numbered) (j : ℕ) (item : Numbered) → items ≡ events → j < length items → item ≡ get_or items j item → drop j events ≡ item ∷ drop (j + 1) events
next_event items events j item same less here =
    let more : suc j ≡ j + 1 = omega arith in
    ap (drop j) (sym same) ∙ (drop-cons items j item less ∙ (ap (λ (x : Numbered). x ∷ drop (suc j) items) (sym here) ∙ (ap (λ k. item ∷ drop k items) more ∙ ap (λ (es : List Numbered). item ∷ drop (j + 1) es) same)))

pub run_ends : (ds : List Declaration) (text : List ℕ) (world : World) (events : List Numbered) (whole : Result Report Refused) → events ≡ [] → told_behind text (run_from ds world events) ≡ whole → whole ≡ Ok (record { text = text; world = world })
run_ends ds text world events whole none so_far =
    sym so_far ∙ (ap (λ (es : List Numbered). told_behind text (run_from ds world es)) none ∙ ap (λ (t : List ℕ). Ok (record { text = t; world = world })) (append-nil text))

pub happened_within : (ds : List Declaration) (before after : List ℕ) (old new : World) (happened : Numbered) (n : ℕ) → AreWithin n old.ledgers → told_behind before (happened_of ds old happened) ≡ Ok (record { text = after; world = new }) → AreWithin (n + 1) new.ledgers
happened_within ds before after old new happened n within e = by (is_out_of_range old happened.event) e
  where
    by : (b : Bool) → told_behind before (cond b (Err (record { line = happened.line; rule = OutOfRange })) (Ok (record { text = reply_line happened.line (step_of ds old happened.event).reply; world = (step_of ds old happened.event).world }))) ≡ Ok (record { text = after; world = new }) → AreWithin (n + 1) new.ledgers
    by true f = absurd (no_report (record { line = happened.line; rule = OutOfRange }) (record { text = after; world = new }) f)
    by false f =
        let same = report_is (record { text = before ++ reply_line happened.line (step_of ds old happened.event).reply; world = (step_of ds old happened.event).world }) (record { text = after; world = new }) f in
        subst (λ (r : Report). AreWithin (n + 1) r.world.ledgers) same (step_within ds old happened.event n within)
