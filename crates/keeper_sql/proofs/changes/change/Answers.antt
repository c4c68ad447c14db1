use Rattle.std.proofs.Common.{◌≡◌, true, not, sym, ap, ◌∙◌}
use Rattle.sqlite.specs.Held.{state}
use Rattle.sqlite.specs.State.{HasCleanDisk}
use Rattle.keeper_sql.proofs.Failing.{clean_if_open, err_weaker}
use Rattle.keeper_sql.proofs.changes.change.Goals as goal

pub returns-clause-was_open : goal.returns-clause-was_open
returns-clause-was_open g c live =
    let new = state g.S.Store c.commit_all.new.conn in
    let clean : HasCleanDisk new = clean_if_open new.is_clean new.is_open (g.met.S.Store.shut_if_dirty c.commit_all.new.conn.store) live in
    c.commit_all.ensures.was_open clean live

pub returns-clause-all : goal.returns-clause-all
returns-clause-all g c live kept =
    let new = state g.S.Store c.commit_all.new.conn in
    let clean : HasCleanDisk new = clean_if_open new.is_clean new.is_open (g.met.S.Store.shut_if_dirty c.commit_all.new.conn.store) live in
    c.commit_all.ensures.all clean (kept (c.commit_all.ensures.was_open clean live))

pub returns-clause-none : goal.returns-clause-none
returns-clause-none g c live kept =
    let new = state g.S.Store c.commit_all.new.conn in
    let clean : HasCleanDisk new = clean_if_open new.is_clean new.is_open (g.met.S.Store.shut_if_dirty c.commit_all.new.conn.store) live in
    let was = c.commit_all.ensures.was_open clean live in
    let settled = c.is_autocommit-settled.ensures.settled (c.is_autocommit-settled.ensures.value ∙ ap not c.requires) was in
    err_weaker c.commit_all.result (λ e. e ∙ sym settled) (c.commit_all.ensures.none clean (kept was) live)
