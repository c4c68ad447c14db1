-- What is made of rows that are read is said by them.
use Rattle.std.proofs.Common.{◌≡◌, ℕ, Option, Some, Ok, Err, sym, ap, ◌∙◌}
use Rattle.std.specs.Option.{option_map}
use Rattle.keeper_core.specs.declared.store_fault.StoreFault.{StoreFault}
use Rattle.keeper_core.specs.declared.store_fault.StoreFault.TheVariants as store
use Rattle.keeper_core.specs.Tables.{Tables}
use Rattle.keeper_core.specs.Knowing.{Known}
use Rattle.keeper_core.specs.Leaving.{starved}
use Rattle.keeper_core.proofs.Leaving.{read_and}
use Rattle.ledger_rows.specs.RowReading.{Reads, LacksForm}
use Rattle.ledger_acts.proofs.Answering.{told_always, told_on}

module _ {A B : Type 0} (n : ℕ) (said : Tables → Option A) (form : Tables → Option StoreFault) (made : A → B) (before after : Known) where
  pub unmade : (fault : StoreFault) → Reads n said form LacksForm (Err fault) before after → Reads n (λ tables. option_map made (said tables)) form LacksForm (Err fault) before after
  unmade fault r = record { reply = r.reply; cause = r.cause; leaves = r.leaves; looked = r.looked }

  pub made_of : (x : A) (y : B) → y ≡ made x → Reads n said form LacksForm (Ok x) before after → Reads n (λ tables. option_map made (said tables)) form LacksForm (Ok y) before after
  made_of x y is r = record {
    reply = told_on _ _ before.tables after.tables (λ tables ok. (ok.0, ap (option_map made) ok.1 ∙ ap (λ (b : B). Some b) (sym is))) r.reply;
    cause = tt;
    leaves = r.leaves;
    looked = r.looked;
  }

  pub starved_behind : (x : A) → Reads n said form LacksForm (Ok x) before after → Reads n (λ tables. option_map made (said tables)) form LacksForm (Err store.NoMemory) before after
  starved_behind x r = record {
    reply = told_always _ before.tables after.tables (λ tables. tt);
    cause = tt;
    leaves = read_and starved before after (λ e. absurd cc) r.leaves;
    looked = r.looked;
  }
