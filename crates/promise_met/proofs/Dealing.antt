-- The deal is one, and its parties do their parts on the ledger.
use Rattle.std.proofs.Common.{◌≡◌, ℕ, zero, suc, ◌+◌, ◌/◌, ◌%◌, ◌<◌, ◌≤◌, Bool, true, false, cond, ◌&&◌, Some, None, is_some, List, [], ◌∷◌, slice_get, refl, ap, sym, ◌∙◌, arith}
use Rattle.std.specs.Option.{option_or, option_map}
use Rattle.std.specs.Str.{bytes_eq}
use Rattle.sha2.proofs.Facts256.{length-sha256}
use Rattle.line_text.specs.IdWords.{IsId}
use Rattle.cert_core.specs.Sets.{set_text}
use Rattle.escrow_book.specs.declared.fault.BookFault.TheVariants.{UnknownDeal, DealSettled}
use Rattle.escrow_book.specs.History.{History, if_commit_of, moves_of, settlement_of}
use Rattle.escrow_book.specs.Opening.{opening_of}
use Rattle.escrow_book.specs.Refused.{settle_refusal}
use Rattle.deal_core.specs.Deals.{IsConnected, is_of}
use Rattle.deal_core.specs.DealText.{deal_text, IsSpellable}
use Rattle.deal_core.specs.Kept.{IsDeal, IsStepOf}
use Rattle.deal_core.specs.Reading.{IsTextOf}
use Rattle.deal_core.proofs.TextAgain.{text_again}
use Rattle.clear_core.specs.Clearing.{need_of, due_of}
use Rattle.clear_core.specs.declared.plan_act.PlanAct.TheVariants as plan
use Rattle.ledger_rows.specs.Entries.{book_of}
use Rattle.ledger_history.specs.Histories.{IsHistory}
use Rattle.joined_deals.specs.DealTexts.{account_of}
use Rattle.compliant_deals.specs.Parts.{PartyAct, acts_on}
use Rattle.compliant_deals.specs.Complying.{HaveOwnKeys, Comply}
use Rattle.compliant_deals.proofs.ByteTexts.{own_text, hash_bytes}
use Rattle.compliant_deals.proofs.Reading.{Reads, reads_register, reads_planned, reads_step}
use Rattle.compliant_deals.proofs.Fronts.{book_is, stage, front_accepted, front_running, front_owned, front_moved}
use Rattle.promise_met.specs.Loan.{ann, ben, the_set, coins, coin, lend, give_back, the_deal, rows, ann_gives, key, the_entries}

at_most : (b : Bool) (n : ℕ) → cond b n 0 ≤ n
at_most true n = omega arith
at_most false n = omega arith

connected : IsConnected the_deal.steps 2
connected zero zero lf lt = ([], tt, refl)
connected zero (suc zero) lf lt = (give_back ∷ [], ((1, omega arith, refl), tt), (refl, refl))
connected (suc zero) zero lf lt = (lend ∷ [], ((0, omega arith, refl), tt), (refl, refl))
connected (suc zero) (suc zero) lf lt = ([], tt, refl)
connected (suc (suc from)) to lf lt = absurd (omega (arith, lf))
connected zero (suc (suc to)) lf lt = absurd (omega (arith, lt))
connected (suc zero) (suc (suc to)) lf lt = absurd (omega (arith, lt))

lend_is : IsStepOf 2 lend
lend_is = record { from = omega arith; to = omega arith; different = λ e. omega (arith, e); some = omega arith }

pub give_back_is : IsStepOf 2 give_back
give_back_is = record { from = omega arith; to = omega arith; different = λ e. omega (arith, e); some = omega arith }

pub deal_is : IsDeal the_deal
deal_is = record {
  parties = omega arith;
  steps = omega arith;
  kept = record {
    few_parties = omega arith;
    different = (refl, refl, (refl, refl, tt));
    few_steps = omega arith;
    between = (lend_is, (give_back_is, tt));
    few_ledgers = omega arith;
    totals = λ ledger asset. omega (arith, at_most (is_of ledger asset lend) 3, at_most (is_of ledger asset give_back) 1);
  };
  connected = connected;
  id = refl;
}

house_id : IsId the_deal.house
house_id = (length-sha256 (set_text the_set), hash_bytes (set_text the_set))

pub spellable : IsSpellable the_deal
spellable = record {
  name = refl;
  house = house_id;
  parties = ((refl, (refl, own_text ann.0 refl)), ((refl, (refl, own_text ben.0 refl)), tt));
  steps = ((refl, refl), ((refl, refl), tt));
}

pub text_of_deal : IsTextOf the_deal (deal_text the_deal)
text_of_deal = record { kept = deal_is; spelled = refl; read = text_again the_deal deal_is spellable }

-- ---- amounts

need_of_ann : (asset : List ℕ) → need_of the_deal.steps 0 coins asset ≡ 0
need_of_ann asset = by_test (bytes_eq asset coin) refl
  where
    by_test : (b : Bool) → bytes_eq asset coin ≡ b → need_of the_deal.steps 0 coins asset ≡ 0
    by_test true is = rw is refl
    by_test false is = rw is refl

need_of_ben : (asset : List ℕ) → need_of the_deal.steps 1 coins asset ≡ cond (bytes_eq asset coin) 3 0
need_of_ben asset = by_test (bytes_eq asset coin) refl
  where
    by_test : (b : Bool) → bytes_eq asset coin ≡ b → need_of the_deal.steps 1 coins asset ≡ cond (bytes_eq asset coin) 3 0
    by_test true is = rw is refl
    by_test false is = rw is refl

pub due_of_ann : (ledger asset : List ℕ) → due_of the_deal.steps 0 ledger asset ≡ cond (bytes_eq ledger coins && bytes_eq asset coin) 2 0
due_of_ann ledger asset = by_test (bytes_eq ledger coins && bytes_eq asset coin) refl
  where
    by_test : (b : Bool) → (bytes_eq ledger coins && bytes_eq asset coin) ≡ b → due_of the_deal.steps 0 ledger asset ≡ cond (bytes_eq ledger coins && bytes_eq asset coin) 2 0
    by_test true is = rw is refl
    by_test false is = rw is refl

-- ---- the ledger

same_act : (x y : PartyAct) → Some x ≡ Some y → x ≡ y
same_act x y e = cc

-- parties 0, 1, 1 and 0 act
party_at : (place : ℕ) (done : PartyAct) → slice_get (acts_on the_deal coins 0 the_deal.steps) place ≡ Some done → (place < 4) × (done.party ≡ (place + 1) / 2 % 2)
party_at zero done there = (omega arith, sym (ap (λ (p : PartyAct). p.party) (same_act _ done there)))
party_at (suc zero) done there = (omega arith, sym (ap (λ (p : PartyAct). p.party) (same_act _ done there)))
party_at (suc (suc zero)) done there = (omega arith, sym (ap (λ (p : PartyAct). p.party) (same_act _ done there)))
party_at (suc (suc (suc zero))) done there = (omega arith, sym (ap (λ (p : PartyAct). p.party) (same_act _ done there)))
party_at (suc (suc (suc (suc place)))) done there = absurd (let e : None ≡ Some done = there in cc)

own_keys : HaveOwnKeys key (acts_on the_deal coins 0 the_deal.steps)
own_keys place other one two here there party same =
    let a = party_at place one here in
    let b = party_at other two there in
    omega (arith, a.0, a.1, b.0, b.1, party, same)

funds : (party : ℕ) (asset : List ℕ) → party < 2 → need_of the_deal.steps party coins asset ≤ opening_of rows (account_of the_deal.parties party) asset
funds zero asset lt = omega (arith, need_of_ann asset)
funds (suc zero) asset lt = omega (arith, need_of_ben asset)
funds (suc (suc party)) asset lt = absurd (omega (arith, lt))

pub comply : Comply the_deal coins rows the_entries
comply = record {
  funded = record { good = refl; covers = funds };
  registrant = 0;
  party = omega arith;
  later = [];
  steps = refl;
  key = key;
  own_keys = own_keys;
  entries_are = refl;
}

pub accepted : IsHistory coins rows the_entries
accepted = front_accepted the_deal the_deal.steps coins rows the_entries deal_is spellable comply

pub running : settlement_of (book_of rows the_entries) the_deal.id ≡ None
running = front_running the_deal the_deal.steps coins rows the_entries deal_is spellable comply

pub owned : (asset : List ℕ) → if_commit_of (book_of rows the_entries) the_deal.id ann asset ≡ due_of the_deal.steps 0 coins asset
owned asset = front_owned the_deal the_deal.steps coins rows the_entries deal_is spellable comply 0 asset (omega arith)

pub moved : moves_of (book_of rows the_entries) the_deal.id ann ≡ 1
moved = front_moved the_deal the_deal.steps coins rows the_entries deal_is spellable comply 0 (omega arith)

-- the deal is registered and open, so it may settle
pub settles_there : settle_refusal (book_of rows the_entries) the_deal.id ≡ None
settles_there =
    let st = stage the_deal the_deal.steps coins rows the_entries deal_is spellable comply in
    let same = book_is the_deal the_deal.steps coins rows the_entries deal_is spellable comply in
    ap (λ (b : History). settle_refusal b the_deal.id) same
    ∙ (λ i. option_or (cond (is_some (st.known i)) None (Some UnknownDeal)) (option_or (option_map DealSettled (st.running i)) None))

-- ---- the acts are read

pub reads_first : Reads the_deal plan.Register
reads_first = reads_register the_deal deal_is spellable

pub reads_escrow : Reads the_deal (plan.Escrow coins coin 3)
reads_escrow = reads_planned the_deal deal_is spellable 1 coins coin 3 (1, omega arith, refl)

pub reads_lend : Reads the_deal (plan.Transfer coins 0 0 coin 3)
reads_lend = reads_step the_deal deal_is spellable lend (0, omega arith, refl) 0 (omega arith) (omega arith)

pub reads_give : Reads the_deal ann_gives
reads_give = reads_step the_deal deal_is spellable give_back (1, omega arith, refl) 0 (omega arith) (omega arith)
