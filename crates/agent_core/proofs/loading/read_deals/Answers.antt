use Rattle.std.proofs.Common.{◌≡◌, ◌+◌, ◌≤◌, List, length, ap, sym, subst, ◌∙◌, arith}
use Rattle.std.specs.List.{AllByRecursion}
use Rattle.keeper_core.specs.declared.row.Row.{Row}
use Rattle.joined_deals.specs.DealTexts.{JoinedTold}
use Rattle.joined_deals.specs.Signed.{unsigned_of, unsigned_in}
use Rattle.agent_core.specs.AgentTables.{IsOwn}
use Rattle.agent_core.proofs.Counting.{unsigned_more}
use Rattle.agent_core.proofs.Reading.{deal_taken, all_more}
use Rattle.agent_core.proofs.loading.read_deals.Goals as goal

pub loop-row-preserved : goal.loop-row-preserved
loop-row-preserved c =
    let h = rw c.in-Some.is at c.next.ensures.steps in
    let deals : List JoinedTold = c.loop-row.deals.items in
    let joined : JoinedTold = c.in-Some-found.joined in
    let texts = c.args.signer.now.texts in
    let found = rw c.in_ok-found.was at c.fitting.ensures.some in
    let fit = rw c.in-Some-found.is at found in
    let pushed = rw c.in_ok-push.was at c.push.ensures.items in
    let one_less = ap (λ (rows : List Row). length rows) h.0 in
    let more : unsigned_in texts c.push.new.self.items ≡ unsigned_in texts deals + unsigned_of texts joined = ap (unsigned_in texts) pushed ∙ unsigned_more texts deals joined in
    let enough : unsigned_of texts joined ≤ c.loop-row.left = fit.1 in
    record {
      parted = deal_taken c.args.rows _ _ deals c.push.new.self.items c.in-Some.row joined c.loop-row.invariant.parted h.0 fit.0.1 pushed;
      behind = omega (arith, h.1, one_less, c.loop-row.invariant.behind);
      own = subst (λ (ds : List JoinedTold). AllByRecursion (IsOwn c.args.house.now c.args.account.now) ds) (sym pushed) (all_more (IsOwn c.args.house.now c.args.account.now) deals joined c.loop-row.invariant.own fit.0.0);
      keys = omega (arith, more, enough, c.unsigned-left.ensures.count, c.loop-row.invariant.keys);
    }
