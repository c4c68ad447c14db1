use Rattle.std.proofs.Common.{◌≡◌, ◌+◌, ap, ◌∙◌, cond}
use Rattle.escrow_book.specs.Noted.{total_noted, commit_noted, abort_noted, saturated}
use Rattle.escrow_book.proofs.Noting.{name_test, deal_test, noted_anew}
use Rattle.escrow_book.proofs.part_sums.PartSums.note_hold.Goals as goal

pub returns : goal.returns
returns c =
    let commit : c.saturating_add-commit.result ≡ saturated (commit_noted c.args.self.now c.args.hold.now.deal c.args.hold.now.asset + c.args.hold.now.commit) = c.saturating_add-commit.ensures ∙ ap (λ n. saturated (n + c.args.hold.now.commit)) c.at.ensures in
    let abort : c.saturating_add-abort.result ≡ saturated (abort_noted c.args.self.now c.args.hold.now.deal c.args.hold.now.asset + c.args.hold.now.abort) = c.saturating_add-abort.ensures ∙ ap (λ n. saturated (n + c.args.hold.now.abort)) c.at-2.ensures in
    record {
      totals = λ x. c.set.ensures x ∙ ap (λ b. cond b c.args.total (total_noted c.args.self.now x)) (name_test c.args.hold.now.asset x);
      commits = λ d x. c.set-2.ensures (d, x) ∙ (ap (λ b. cond b c.saturating_add-commit.result (commit_noted c.args.self.now d x)) (deal_test c.args.hold.now.deal d c.args.hold.now.asset x) ∙ noted_anew (commit_noted c.args.self.now) d c.args.hold.now.deal x c.args.hold.now.asset c.saturating_add-commit.result c.args.hold.now.commit commit);
      aborts = λ d x. c.set-3.ensures (d, x) ∙ (ap (λ b. cond b c.saturating_add-abort.result (abort_noted c.args.self.now d x)) (deal_test c.args.hold.now.deal d c.args.hold.now.asset x) ∙ noted_anew (abort_noted c.args.self.now) d c.args.hold.now.deal x c.args.hold.now.asset c.saturating_add-abort.result c.args.hold.now.abort abort);
    }
