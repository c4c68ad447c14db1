use Rattle.std.proofs.Common.{◌+◌, ◌<◌, ◌++◌, ◌∷◌, [], List, length, refl, sym, ap, ◌∙◌, arith}
use Rattle.std.proofs.lemmas.Grind.{take-set_at}
use Rattle.std.proofs.lemmas.List.{length-set}
use Rattle.dh_base.specs.declared.id.Id.{Id}
use Rattle.cert_core.proofs.Accounts.{accounts_next}
use Rattle.cert_core.proofs.set_text.read_accounts.Goals as goal

pub loop-seat-preserved : goal.loop-seat-preserved
loop-seat-preserved c =
    let within : c.loop-seat.seat < length c.loop-seat.accounts = omega (arith, c.loop-seat.invariant.places, c.requires.few, c.loop-seat-test.true) in
    record {
      places = length-set c.loop-seat.accounts c.loop-seat.seat c.account_at.result ∙ c.loop-seat.invariant.places;
      read =
          take-set_at c.loop-seat.accounts c.loop-seat.seat (c.loop-seat.seat + 1) c.account_at.result refl within
          ∙ ap (λ (ids : List Id). ids ++ c.account_at.result ∷ []) c.loop-seat.invariant.read
          ∙ sym (accounts_next c.loop-seat.seat (c.loop-seat.seat + 1) c.args.bytes.now c.account_at.result refl c.account_at.ensures);
    }
