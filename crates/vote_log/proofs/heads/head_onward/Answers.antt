use Rattle.std.proofs.Common.{◌≡◌, ◌+◌, ◌∷◌, ap, sym, ◌∙◌, drop, get_or}
use Rattle.std.proofs.lemmas.List.{at_drop_more, at_drop_all}
use Rattle.dh_base.specs.declared.id.Id.{Id}
use Rattle.vote_log.specs.Heads.{next_head, head_from}
use Rattle.vote_log.proofs.heads.head_onward.Goals as goal

pub loop-rec-preserved : goal.loop-rec-preserved
loop-rec-preserved c =
    let rest = drop (c.loop-rec.rec-index + 1) c.args.recs.now in
    let next : c.next_head-head.result ≡ next_head c.loop-rec.head (get_or c.args.recs.now c.loop-rec.rec-index c.rec-item.result) = c.next_head-head.ensures ∙ ap (next_head c.loop-rec.head) c.rec-item.is in
    ap (λ (h : Id). head_from h rest) next
    ∙ (sym (at_drop_more (head_from c.loop-rec.head) c.args.recs.now c.loop-rec.rec-index c.rec-item.result c.loop-rec-test.true) ∙ c.loop-rec.invariant)

pub returns : goal.returns
returns c = sym (at_drop_all (head_from c.loop-rec.head) c.args.recs.now c.loop-rec.rec-index c.loop-rec-test.false) ∙ c.loop-rec.invariant
