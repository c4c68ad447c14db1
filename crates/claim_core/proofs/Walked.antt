-- The head of a longer front is made from that of a shorter one.
use Rattle.std.proofs.Common.{◌≡◌, ℕ, ◌+◌, ◌-◌, ◌≤◌, List, [], ◌∷◌, ◌++◌, take, drop, refl, sym, ap, ◌∙◌, arith}
use Rattle.std.proofs.lemmas.List.{take-append-drop, take-take, drop-take}
use Rattle.dh_base.specs.declared.id.Id.{Id}
use Rattle.vote_log.specs.Entry.{Entry}
use Rattle.vote_log.specs.Heads.{first_head, next_head, head_from, head_after}

head_joined : (head : Id) (front rest : List Entry) → head_from head (front ++ rest) ≡ head_from (head_from head front) rest
head_joined head [] rest = refl
head_joined head (entry ∷ front) rest = head_joined (next_head head entry) front rest

take_further : (m n : ℕ) (recs : List Entry) → m ≤ n → take n recs ≡ take m recs ++ take (n - m) (drop m recs)
take_further m n recs le =
    let whole : m + (n - m) ≡ n = omega arith in
    let behind : drop m (take n recs) ≡ take (n - m) (drop m recs) = ap (λ (k : ℕ). drop m (take k recs)) (sym whole) ∙ drop-take m (n - m) recs in
    sym (take-append-drop m (take n recs)) ∙ (ap (λ (t : List Entry). t ++ drop m (take n recs)) (take-take m n recs le) ∙ ap (λ (t : List Entry). take m recs ++ t) behind)

pub head_further : (house : Id) (recs : List Entry) (m n : ℕ) (before : Id) → m ≤ n → before ≡ head_after house (take m recs) → head_from before (take (n - m) (drop m recs)) ≡ head_after house (take n recs)
head_further house recs m n before le is =
    ap (λ (h : Id). head_from h (take (n - m) (drop m recs))) is
    ∙ (sym (head_joined (first_head house) (take m recs) (take (n - m) (drop m recs))) ∙ sym (ap (head_after house) (take_further m n recs le)))
