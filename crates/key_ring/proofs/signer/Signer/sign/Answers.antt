use Rattle.std.proofs.Common.{◌≤◌, ◌<◌, length, sym, subst, arith, Option, ℕ, IfSome, OnOk}
use Rattle.std.specs.Option.{unwrap_or}
use Rattle.keeper_core.specs.Tables.{Tables}
use Rattle.key_ring.specs.UsedTexts.{IsKept}
use Rattle.key_ring.proofs.Kept.{Asked, again_kept, asked_backed, asked_rows, asked_kept, on_ok}
use Rattle.key_ring.proofs.signer.Signer.sign.Given.{Over}
use Rattle.key_ring.proofs.signer.Signer.sign.Goals as goal

pub returns-in-Some-clause-kept : goal.returns-in-Some-clause-kept
returns-in-Some-clause-kept g c =
    let found = sym c.in-Some.ensures.key in
    let few : length c.args.self.now.texts ≤ 64 = omega (arith, c.used-used.ensures.used, c.used-used.ensures.few, c.size-size.ensures.size, c.size-size.ensures.few) in
    let known = g.K.Keeper.known c.args.keeper.now in
    on_ok c.sign_again.result
    (subst (λ (o : Option ℕ). IfSome known.tables (λ (tables : Tables). IsKept tables (unwrap_or o (length c.args.self.now.texts)) c.args.text.now)) c.in-Some.ensures.key
    (again_kept known.tables known.stopped c.args.self.now c.args.text.now c.in-Some.q c.requires.backed few found))

pub returns-in-Some-clause-says : goal.returns-in-Some-clause-says
returns-in-Some-clause-says g c = let s = c.sign_again.ensures.says in rw (sym c.in-Some.ensures.key) s

-- what asking the keeper told
asked : (g : Over) (c : goal.After-sign_new g) → Asked c.sign_new.result (g.K.Keeper.known c.args.keeper.now) (g.K.Keeper.known c.sign_new.new.keeper) c.args.self.now c.sign_new.new.self c.args.text.now
asked g c =
    let s = c.sign_new.ensures in
    record { backed = c.requires.backed; signed = s.kept; unchanged = s.unchanged; leaves = s.leaves }

few_signed : (g : Over) (c : goal.After-sign_new g) → length c.args.self.now.texts < 64
few_signed g c = omega (arith, c.used-used.ensures.used, c.size-size.ensures.few, c.if-size-reserve.false)

pub returns-clause-backed : goal.returns-clause-backed
returns-clause-backed g c = asked_backed _ _ _ _ _ _ (few_signed g c) (asked g c)

pub returns-clause-rows_stay : goal.returns-clause-rows_stay
returns-clause-rows_stay g c = asked_rows _ _ _ _ _ _ (few_signed g c) (asked g c)

pub returns-clause-kept : goal.returns-clause-kept
returns-clause-kept g c =
    subst (λ (o : Option ℕ). OnOk c.sign_new.result (IfSome ((g.K.Keeper.known c.sign_new.new.keeper).tables) (λ (tables : Tables). IsKept tables (unwrap_or o (length c.args.self.now.texts)) c.args.text.now))) c.in_default.ensures.key
    (asked_kept _ _ _ _ _ _ (asked g c))

pub returns-clause-says : goal.returns-clause-says
returns-clause-says g c = let s = c.sign_new.ensures.says in rw (sym c.in_default.ensures.key) s
