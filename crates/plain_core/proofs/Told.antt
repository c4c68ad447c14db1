-- Every report is that of a run that follows the one log.
use Rattle.std.proofs.Common.{◌≡◌, ℕ, Result, Ok, Err, List, ◌++◌, refl, sym, ap, ◌∙◌}
use Rattle.std.specs.Prelude.{flat_map}
use Rattle.escrow_book.specs.declared.change.Change.TheVariants.{Registered, Escrowed, Settled}
use Rattle.escrow_book.proofs.Growing.{transfer_grows}
use Rattle.escrow_book.specs.History.{settlement}
use Rattle.escrow_book.proofs.Once.{settled_once, one_answers}
use Rattle.escrow_book.proofs.Paying.{pays}
use Rattle.escrow_book.proofs.Steps.{base_of, reached_push}
use Rattle.escrow_book.proofs.Whole.{grown}
use Rattle.escrow_book.proofs.Totals.{is_conserved}
use Rattle.vote_log.proofs.Decided.{stays}
use Rattle.plain_script.proofs.Declared.{declared_good, few_happen}
use Rattle.script_lines.specs.Refusals.{Refused}
use Rattle.plain_script.specs.Reading.{ScriptTold, reading_of}
use Rattle.plain_script.specs.declared.declaration.Declaration.{Declaration}
use Rattle.plain_core.specs.Starts.{started_world}
use Rattle.plain_core.specs.Ledgers.{World}
use Rattle.plain_core.specs.Reports.{Report, run_from, whole_report, report_of, report_behind, rehearsal_of}
use Rattle.plain_core.specs.Tables.{tables_text}
use Rattle.plain_core.specs.OneLog.{moments_from, moment_line, TellsOneLog}
use Rattle.plain_core.proofs.Promised.{RunLaws, ran, follows_one_log}

text_is : (a b : List ℕ) → ◌≡◌ {A = Result (List ℕ) Refused} (Ok a) (Ok b) → a ≡ b
text_is a b e = cc

was_read : (read : Result ScriptTold Refused) (report : List ℕ) → report_behind read ≡ Ok report → (told : ScriptTold) × (read ≡ Ok told) × (report_of told ≡ Ok report)
was_read (Err refused) report e = absurd cc
was_read (Ok told) report e = (told, refl, e)

has_ended : (ds : List Declaration) (run : Result Report Refused) (report : List ℕ) → whole_report ds run ≡ Ok report → (r : Report) × (run ≡ Ok r) × (r.text ++ tables_text ds r.world ≡ report)
has_ended ds (Err refused) report e = absurd cc
has_ended ds (Ok r) report e = (r, refl, text_is (r.text ++ tables_text ds r.world) report e)

-- ---- what books and logs keep

run_laws : RunLaws
run_laws = record {
  growth = record {
    register = λ h d parties r new good. reached_push h (Registered d parties) r (new, good);
    escrow = λ h d p x n r free. reached_push h (Escrowed d p x n) r free;
    transfer = transfer_grows;
    settle = λ h d outcome r free. reached_push h (Settled d outcome) r free;
  };
  pays = λ h d p x outcome r free. pays h d p x outcome (grown h r) free;
  conserved = λ h accounts x r its. is_conserved h accounts x r.whole (grown h r) its;
  once = λ h d r. one_answers (settlement d) h.changes (settled_once (base_of h) h.changes d (grown h r));
  stays = stays;
}

pub one_log : (script report : List ℕ) → rehearsal_of script ≡ Ok report → TellsOneLog script report
one_log script report e =
    let found = was_read (reading_of script) report e in
    let told : ScriptTold = found.0 in
    let ds : List Declaration = told.declarations in
    let ends = has_ended ds (run_from ds (started_world ds) told.events) report found.2 in
    let run = ran ds (started_world ds) told.events ends.0 ends.1 in
    record {
      read = told;
      read_so = found.1;
      written = sym ends.2 ∙ (ap (λ (t : List ℕ). t ++ tables_text ds ends.0.world) run.text ∙ ap (λ (w : World). flat_map moment_line (moments_from ds (started_world ds) told.events) ++ tables_text ds w) run.world_is);
      follows = follows_one_log run_laws ds (declared_good script told found.1) told.events (few_happen script told found.1) run.range;
    }
