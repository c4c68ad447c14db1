use Rattle.std.proofs.Common.{◌≡◌, ◌<◌, ℕ, List, [], ◌∷◌, length, Some, sym, ap, ◌∙◌, arith}
use Rattle.std.proofs.lemmas.List.{length-append}
use Rattle.keeper_core.specs.declared.row.Row.{Row}
use Rattle.vote_log.specs.Entry.{Entry}
use Rattle.seat_rows.specs.SeatReading.{record_in}
use Rattle.seat_rows.proofs.Listing.{record_is, record_taken}
use Rattle.seat_rows.proofs.lists.read_records.Goals as goal

pub loop-row-preserved : goal.loop-row-preserved
loop-row-preserved c =
    let h = rw c.in-Some.is at c.next.ensures.steps in
    let recs : List Entry = c.loop-row.recs.items in
    let rec : Entry = c.in-Some-record_in.rec in
    let pushed = rw c.in_ok-push.was at c.push.ensures.items in
    let count : c.len.result ≡ length recs = omega (arith, c.len.ensures, c.loop-row.recs.ok) in
    let is : record_in (length recs) c.in-Some.row ≡ Some rec = ap (λ (n : ℕ). record_in n c.in-Some.row) (sym count) ∙ (sym c.record_in.ensures ∙ c.in-Some-record_in.is) in
    let own = record_is (length recs) c.in-Some.row rec is in
    let longer = ap (λ (rs : List Entry). length rs) pushed ∙ length-append recs (rec ∷ []) in
    let one_less = ap (λ (rows : List Row). length rows) h.0 in
    record {
      parted = record_taken c.args.rows _ _ recs c.push.new.self.items c.in-Some.row rec c.loop-row.invariant.parted h.0 is pushed;
      left = omega (arith, h.1, one_less, c.loop-row.invariant.left);
      few = let small = own.few in omega (arith, longer, small);
    }
