use Rattle.std.proofs.Common.{◌≡◌, ◌≤◌, true, List, ℕ, replicate, Ok, sym, ap, arith, ◌∙◌}
use Rattle.std.proofs.lemmas.List.{length-take-le}
use Rattle.dh_base.specs.Names.{begins_with_letter}
use Rattle.dh_base.proofs.NameReading.{is_name-from_count, name_of-good, name_of-bad, length_is-good, IsPadded-made, take-made}
use Rattle.dh_base.proofs.name.Name.from_bytes.Goals as goal

pub returns-then-good-text : goal.returns-then-good-text
returns-then-good-text c =
    let letter : begins_with_letter c.args.text.now ≡ true = cc in
    sym (name_of-bad c.args.text.now c.count_name_bytes-good.result letter c.count_name_bytes-good.ensures c.if-good-text.true)

pub copy_from_slice-requires : goal.copy_from_slice-requires
copy_from_slice-requires c =
    let len = length_is-good c.args.text.now c.count_name_bytes-good.result c.count_name_bytes-good.ensures c.if-good-text.false in
    let few : c.count_name_bytes-good.result ≤ 16 = omega arith in
    length-take-le c.count_name_bytes-good.result (replicate 16 0) few ∙ sym len

pub invariant_of-result : goal.invariant_of-result
invariant_of-result c =
    let text = c.args.text.now in
    let good = c.count_name_bytes-good.result in
    let letter : begins_with_letter c.args.text.now ≡ true = cc in
    let few : c.count_name_bytes-good.result ≤ 16 = omega arith in
    let len = length_is-good text good c.count_name_bytes-good.ensures c.if-good-text.false in
    let name = is_name-from_count text good letter c.count_name_bytes-good.ensures c.if-good-text.false in
    rw c.copy_from_slice.ensures.after (IsPadded-made text good len few name)

pub returns : goal.returns
returns c =
    let text = c.args.text.now in
    let good = c.count_name_bytes-good.result in
    let letter : begins_with_letter c.args.text.now ≡ true = cc in
    let len = length_is-good text good c.count_name_bytes-good.ensures c.if-good-text.false in
    let name = is_name-from_count text good letter c.count_name_bytes-good.ensures c.if-good-text.false in
    rw (c.copy_from_slice.ensures.after, name_of-good text name) (ap (λ (chars : List ℕ). Ok chars) (take-made text good len))
