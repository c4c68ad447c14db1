-- Counting the open deals of an account unless a deal is registered: what each ending answers and leaves.
use Rattle.std.proofs.Common.{◌≡◌, ℕ, ◌+◌, ◌≤◌, true, false, [], length, Option, Some, None, is_some, IfSome, IsSome, Result, Ok, Err, refl, sym, ap, subst, ◌∙◌, arith}
use Rattle.std.specs.Option.{option_map, option_or}
use Rattle.dh_base.specs.declared.id.Id.{Id}
use Rattle.keeper_core.specs.declared.store_fault.StoreFault.{StoreFault}
use Rattle.keeper_core.specs.Knowing.{Known, LooksAtMost}
use Rattle.keeper_core.specs.Leaving.{done, of_store_fault, KeepsTold}
use Rattle.keeper_core.specs.Stepping.{IsRefusal}
use Rattle.keeper_core.specs.Tables.{Tables, rows_of}
use Rattle.keeper_core.proofs.Leaving.{is_told, then_read, then_any}
use Rattle.keeper_core.proofs.Stepping.{was_told}
use Rattle.ledger_rows.specs.declared.registration.Registration.{Registration}
use Rattle.ledger_rows.specs.OpenDeals.{open_rows, open_said, deals_refusal, unless_registered, room_said, refused_unless, room_refusal}
use Rattle.ledger_rows.specs.RowKeys.{deal_tab}
use Rattle.ledger_rows.specs.RowReading.{Reads, ReadsTable, LooksThrough, LacksForm, deal_said, deal_refusal}
use Rattle.ledger_rows.proofs.RowReads.{look_keeps, told_both, told_one, first_refused}

through : (m n : ℕ) (before after : Known) → LooksAtMost m before after → m ≤ n → LooksThrough deal_tab n before after
through m n before after looked le = (looked.0, loosened before.tables after.tables)
  where
    loosened : (told later : Option Tables) → IfSome later (λ _. IfSome told (λ tables. after.looked ≤ before.looked + (n + length (rows_of deal_tab tables))))
    loosened told None = tt
    loosened None (Some later) = tt
    loosened (Some tables) (Some later) = omega (arith, looked.1, le)

-- one look, and then a way through the table
looks_on : (m n : ℕ) (before mid after : Known) → KeepsTold before.tables mid.tables → IfSome after.tables (λ _. IsSome mid.tables) → LooksAtMost m before mid → LooksThrough deal_tab n mid after → LooksThrough deal_tab (m + n) before after
looks_on m n before mid after keeps told one two = (omega (arith, one.0, two.0), both before.tables mid.tables after.tables keeps told two.1)
  where
    both : (first second third : Option Tables) → KeepsTold first second → IfSome third (λ _. IsSome second) → IfSome third (λ _. IfSome second (λ tables. after.looked ≤ mid.looked + (n + length (rows_of deal_tab tables)))) →
        IfSome third (λ _. IfSome first (λ tables. after.looked ≤ before.looked + (m + n + length (rows_of deal_tab tables))))
    both first second None keeps told le = tt
    both first None (Some later) keeps told le = absurd cc
    both None (Some middle) (Some later) keeps told le = tt
    both (Some tables) (Some middle) (Some later) keeps told le =
        let same : middle ≡ tables = is_told middle tables keeps in
        let le' : after.looked ≤ mid.looked + (n + length (rows_of deal_tab tables)) = subst (λ (t : Tables). after.looked ≤ mid.looked + (n + length (rows_of deal_tab t))) same le in
        omega (arith, le', one.1)

module _ (account deal : Id) where
  abbrev Reading : Result (Option Registration) StoreFault → Known → Known → Type 0
  Reading = Reads 1 (deal_said deal) (deal_refusal deal) LacksForm

  abbrev Room : Result (Option ℕ) StoreFault → Known → Known → Type 0
  Room = ReadsTable 2 deal_tab (room_said account deal) (room_refusal deal) LacksForm

  pub room_unread : (fault : StoreFault) (before after : Known) → Reading (Err fault) before after → Room (Err fault) before after
  room_unread fault before after r = record {
    reply = told_one _ _ before.tables after.tables (λ tables is. first_refused (of_store_fault fault) (deal_refusal deal tables) (refused_unless (deals_refusal tables) (deal_said deal tables)) fault is) r.reply;
    cause = r.cause;
    leaves = r.leaves;
    looked = through 1 2 before after r.looked (omega arith);
  }

  -- the refusal where the deal's own row has its form
  by_deal : (found : Option Registration) (tables : Tables) → deal_refusal deal tables ≡ None → deal_said deal tables ≡ Some found → room_refusal deal tables ≡ refused_unless (deals_refusal tables) (Some found)
  by_deal found tables formed says = (λ i. option_or (formed i) (refused_unless (deals_refusal tables) (says i)))

  pub room_known : (found : Option Registration) (before after : Known) → is_some found ≡ true → Reading (Ok found) before after → Room (Ok None) before after
  room_known None before after is r = absurd cc
  room_known (Some deal_found) before after is r = record {
    reply = told_one _ _ before.tables after.tables (λ tables ok. (by_deal (Some deal_found) tables ok.0 ok.1, ap (option_map (unless_registered (open_rows account (rows_of deal_tab tables)))) ok.1)) r.reply;
    cause = tt;
    leaves = r.leaves;
    looked = through 1 2 before after r.looked (omega arith);
  }

  none_found : (found : Option Registration) → is_some found ≡ false → found ≡ None
  none_found None is = refl
  none_found (Some deal_found) is = absurd cc

  module _ (found : Option Registration) (before mid after : Known) (unknown : is_some found ≡ false) (read : Reading (Ok found) before mid) where
    r : Reading (Ok None) before mid
    r = subst (λ (o : Option Registration). Reading (Ok o) before mid) (none_found found unknown) read

    pub room_uncounted : (fault : StoreFault) → ReadsTable 1 deal_tab (open_said account) deals_refusal LacksForm (Err fault) mid after → Room (Err fault) before after
    room_uncounted fault s = record {
      reply = told_both _ _ _ before.tables mid.tables after.tables (look_keeps before mid r.leaves) (was_told [] (of_store_fault fault) mid after s.leaves)
          (λ tables ok is. subst (λ (o : Option StoreFault). IsRefusal (of_store_fault fault) o fault) (sym (by_deal None tables ok.0 ok.1)) is) r.reply s.reply;
      cause = s.cause;
      leaves = then_any [] (of_store_fault fault) before mid after r.leaves s.leaves;
      looked = looks_on 1 1 before mid after (look_keeps before mid r.leaves) (was_told [] (of_store_fault fault) mid after s.leaves) r.looked s.looked;
    }

    pub room_counted : (held : ℕ) → ReadsTable 1 deal_tab (open_said account) deals_refusal LacksForm (Ok held) mid after → Room (Ok (Some held)) before after
    room_counted held s = record {
      reply = told_both _ _ _ before.tables mid.tables after.tables (look_keeps before mid r.leaves) (was_told [] done mid after s.leaves)
          (λ tables ok is. (by_deal None tables ok.0 ok.1 ∙ is.0, ap (option_map (unless_registered (open_rows account (rows_of deal_tab tables)))) ok.1 ∙ ap (option_map (λ (n : ℕ). Some n)) is.1)) r.reply s.reply;
      cause = tt;
      leaves = then_read [] before mid after r.leaves s.leaves;
      looked = looks_on 1 1 before mid after (look_keeps before mid r.leaves) (was_told [] done mid after s.leaves) r.looked s.looked;
    }
