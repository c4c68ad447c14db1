-- A forged act: every other premise is met, and Ann is paid less than her due.
use Rattle.std.proofs.Common.{◌≡◌, ℕ, ◌<◌, cond, Some, None, is_some, List, [], ◌∷◌, ◌++◌, refl, ap, sym, ◌∙◌, subst, arith}
use Rattle.std.specs.Option.{option_or, option_map}
use Rattle.dh_base.specs.declared.outcome.Outcome.TheVariants.{Commit}
use Rattle.act_text.specs.declared.office.Office.TheVariants.{Ledger}
use Rattle.act_text.specs.ActReading.{act_of}
use Rattle.escrow_book.specs.declared.change.Change.{Change}
use Rattle.escrow_book.specs.declared.change.Change.TheVariants as change
use Rattle.escrow_book.specs.declared.fault.BookFault.TheVariants.{UnknownDeal, DealSettled}
use Rattle.escrow_book.specs.History.{History, if_commit_of, payout_of}
use Rattle.escrow_book.specs.Refused.{settle_refusal}
use Rattle.clear_core.specs.Clearing.{need_of, due_of, incoming, outgoing, turns_of}
use Rattle.ledger_rows.specs.declared.entry.Entry.{Entry}
use Rattle.ledger_rows.specs.Entries.{book_of, with_read, with_entry}
use Rattle.ledger_history.specs.Histories.{IsTaken, IsNext}
use Rattle.ledger_history.proofs.Fronts.{book_append}
use Rattle.joined_deals.specs.DealTexts.{planned_act, planned_text}
use Rattle.payoff.specs.Worlds.{HasOneText}
use Rattle.payoff.specs.Moments.{texts_read, IsRun, after_all}
use Rattle.payoff.specs.Promise.{HasCertified, IsSettledIn, IsCompliantIn}
use Rattle.payoff.proofs.Lists.{every_append}
use Rattle.compliant_deals.specs.Parts.{act_by}
use Rattle.compliant_deals.specs.Complying.{entry_of}
use Rattle.compliant_deals.proofs.Reading.{Reads, reads_step}
use Rattle.compliant_deals.proofs.Stages.{book_with, IsStage, step_open, step_stage}
use Rattle.compliant_deals.proofs.Doing.{needed}
use Rattle.compliant_deals.proofs.Fronts.{changes, book_is, stage}
use Rattle.promise_met.specs.Loan.{ann, ben, coins, coin, give_back, the_text, the_deal, rows, later_entries, the_entries, the_log}
use Rattle.promise_met.specs.Run.{opening, accepts, the_moments, settling, forged_act, forged_entries, forged_run}
use Rattle.promise_met.proofs.Dealing.{deal_is, give_back_is, spellable, comply, text_of_deal}
use Rattle.promise_met.proofs.Running.{Decides, next_at, run_append, moments_run, settles_by_claim}
use Rattle.promise_met.proofs.Meeting.{read_texts, moments_texts, one_of, entered_is, certified_in, registered}

abbrev forged_entry : Entry
forged_entry = entry_of the_deal (act_by 0 forged_act) 5

reads_forged : Reads the_deal forged_act
reads_forged = reads_step the_deal deal_is spellable give_back (1, omega arith, refl) 1 (omega arith) (omega arith)

abbrev cs : List Change
cs = changes the_deal the_deal.steps coins rows the_entries deal_is spellable comply

abbrev moved_more : List Change
moved_more = cs ++ change.Transferred the_deal.id ann ben coin 1 ∷ []

before : IsStage the_deal deal_is coins rows cs (needed the_deal deal_is spellable coins rows) the_deal.steps
before = stage the_deal the_deal.steps coins rows the_entries deal_is spellable comply

behind : IsStage the_deal deal_is coins rows moved_more (needed the_deal deal_is spellable coins rows) (the_deal.steps ++ give_back ∷ [])
behind = step_stage the_deal deal_is coins rows cs (needed the_deal deal_is spellable coins rows) the_deal.steps before give_back (omega arith) (omega arith) refl

book : book_of rows the_entries ≡ book_with rows cs
book = book_is the_deal the_deal.steps coins rows the_entries deal_is spellable comply

-- what Ann needed, got and gave, up to the forged act and with it
need_is : need_of the_deal.steps 0 coins coin ≡ 0
need_is = refl

came : incoming the_deal.steps 0 coins coin ≡ 3
came = refl

went : outgoing the_deal.steps 0 coins coin ≡ 1
went = refl

came_then : incoming (the_deal.steps ++ give_back ∷ []) 0 coins coin ≡ 3
came_then = refl

went_then : outgoing (the_deal.steps ++ give_back ∷ []) 0 coins coin ≡ 2
went_then = refl

one_turn : turns_of the_deal.steps 0 coins ≡ 1
one_turn = refl

taken_there : IsTaken coins (book_with rows cs) ann (planned_act the_deal forged_act)
taken_there = (
  refl,
  step_open the_deal deal_is coins rows cs (needed the_deal deal_is spellable coins rows) the_deal.steps before give_back (omega arith) (omega arith) give_back_is.different give_back_is.some (omega (arith, need_is, came, went)),
  omega (arith, before.moves 0 (omega arith), one_turn),
)

forged_next : IsNext coins (book_of rows the_entries) the_entries forged_entry
forged_next = record {
  bytes = reads_forged.bytes;
  new = refl;
  act = planned_act the_deal forged_act;
  reads = reads_forged.is;
  taken = subst (λ (b : History). IsTaken coins b ann (planned_act the_deal forged_act)) (sym book) taken_there;
}

forged_book : book_of rows forged_entries ≡ book_with rows moved_more
forged_book =
    book_append rows the_entries (forged_entry ∷ [])
    ∙ (ap (λ (b : History). with_entry b forged_entry) book ∙ ap (with_read (book_with rows cs) ann) reads_forged.is)

settles_then : settle_refusal (book_of rows forged_entries) the_deal.id ≡ None
settles_then =
    ap (λ (b : History). settle_refusal b the_deal.id) forged_book
    ∙ (λ i. option_or (cond (is_some (behind.known i)) None (Some UnknownDeal)) (option_or (option_map DealSettled (behind.running i)) None))

pub forged_runs : Decides → IsRun opening forged_run
forged_runs decides = run_append opening the_moments (accepts 0 forged_act 5 ∷ settling ∷ []) moments_run
    ((λ ledger is. next_at the_entries forged_entry forged_next ledger is), ((λ ledger is. settles_by_claim decides forged_entries settles_then ledger is), tt))

pub forged_text : HasOneText (after_all forged_run opening)
forged_text text other here there same =
    one_of (after_all forged_run opening).texts (every_append (λ (t : List ℕ). t ≡ the_text) (texts_read (act_of Ledger (planned_text the_deal forged_act))) _ (read_texts forged_act reads_forged tt) moments_texts) text other here there

pub forged_certified : HasCertified (after_all forged_run opening) (the_log ∷ [])
forged_certified = certified_in (after_all forged_run opening) entered_is refl

pub forged_settles : IsSettledIn (after_all forged_run opening) coins the_deal.id Commit forged_entries
forged_settles = record { ledger = _; here = refl; rest = []; parts = refl }

pub forged_complies : IsCompliantIn (after_all forged_run opening) forged_entries the_deal.id 0 ann
forged_complies = record {
  registrant = ann;
  text = the_text;
  registered = registered (later_entries ++ forged_entry ∷ []);
  deal = the_deal;
  reads = text_of_deal;
  party = refl;
  agent = _;
  complies = refl;
}

pub forged_lost : payout_of (book_of rows forged_entries) the_deal.id Commit ann coin < due_of the_deal.steps 0 coins coin
forged_lost =
    let same = ap (λ (b : History). if_commit_of b the_deal.id ann coin) forged_book in
    let due : due_of the_deal.steps 0 coins coin ≡ 2 = refl in
    omega (arith, same, due, behind.escrows 0 coin (omega arith), behind.comes 0 coin (omega arith), behind.goes 0 coin (omega arith), need_is, came_then, went_then)
