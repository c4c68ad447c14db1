-- One head of one length stands for one log, where the texts that are hashed have no collision.
use Rattle.std.proofs.Common.{◌≡◌, ℕ, List, [], ◌∷◌, ◌++◌, length, codes, Contains, refl, ap, sym, ◌∙◌, arith}
use Rattle.std.specs.List.{AllByRecursion}
use Rattle.std.proofs.lemmas.List.{append_cancel_left}
use Rattle.std.proofs.lemmas.List.Elements.{recursion_from_All, All-weaker, All-contains_itself, Contains-append_left, Contains-append_right}
use Rattle.sha2.specs.Sha256.{sha256}
use Rattle.sha2.proofs.Facts256.{length-sha256}
use Rattle.dh_base.specs.declared.id.Id.{Id}
use Rattle.vote_log.specs.Entry.{Entry}
use Rattle.vote_log.specs.RecordTexts.{record_text, IsRecord}
use Rattle.vote_log.specs.Heads.{start_text, step_text, first_head, next_head, head_from, head_after, step_texts, head_texts, HaveNoCollision}
use Rattle.vote_log.proofs.RecordTexts.{same_parts, same_record}

same_id : (a b : Id) → a.0 ≡ b.0 → a ≡ b
same_id a b e = λ i. record { 0 = e i }

step_same : (h k : Id) (a b : Entry) → IsRecord a → IsRecord b → length h.0 ≡ length k.0 → step_text h a ≡ step_text k b → (h ≡ k) × (a ≡ b)
step_same h k a b ha hb len e =
    let p = same_parts h.0 k.0 (record_text a) (record_text b) len (append_cancel_left (codes "CCDHEAD1") (h.0 ++ record_text a) (k.0 ++ record_text b) e) in
    (same_id h k p.0, same_record a b ha hb p.1)

module _ (P : List ℕ → Type 0) (apart : (s t : List ℕ) → P s → P t → sha256 s ≡ sha256 t → s ≡ t) where
  pub from_same : (h k : Id) (l m : List Entry) → length h.0 ≡ length k.0 → AllByRecursion IsRecord l → AllByRecursion IsRecord m
      → AllByRecursion P (step_texts h l) → AllByRecursion P (step_texts k m) → length l ≡ length m → head_from h l ≡ head_from k m → (h ≡ k) × (l ≡ m)
  from_same h k [] [] size rl rm p q len e = (e, refl)
  from_same h k [] (b ∷ m) size rl rm p q len e = absurd (omega arith)
  from_same h k (a ∷ l) [] size rl rm p q len e = absurd (omega arith)
  from_same h k (a ∷ l) (b ∷ m) size rl rm p q len e =
      let ih = from_same (next_head h a) (next_head k b) l m (length-sha256 (step_text h a) ∙ sym (length-sha256 (step_text k b))) rl.1 rm.1 p.1 q.1 (omega arith) e in
      let hashes : sha256 (step_text h a) ≡ sha256 (step_text k b) = ap (λ (i : Id). i.0) ih.0 in
      let both = step_same h k a b rl.0 rm.0 size (apart (step_text h a) (step_text k b) p.0 q.0 hashes) in
      (both.0, cc (both.1, ih.1))

each : (P : List ℕ → Type 0) (ts : List (List ℕ)) → ((t : List ℕ) → Contains ts t → P t) → AllByRecursion P ts
each P ts f = recursion_from_All P ts (All-weaker (Contains ts) P f ts (All-contains_itself ts))

pub determined : (house other : Id) (log more : List Entry) → AllByRecursion IsRecord log → AllByRecursion IsRecord more
    → HaveNoCollision (head_texts house log ++ head_texts other more) → length log ≡ length more → head_after house log ≡ head_after other more → (house ≡ other) × (log ≡ more)
determined house other log more rl rm apart len e =
    let P : List ℕ → Type 0 = Contains (head_texts house log ++ head_texts other more) in
    let ps : AllByRecursion P (head_texts house log) = each P (head_texts house log) (λ t h. Contains-append_left (head_texts house log) (head_texts other more) t h) in
    let qs : AllByRecursion P (head_texts other more) = each P (head_texts other more) (λ t h. Contains-append_right (head_texts house log) (head_texts other more) t h) in
    let size : length (first_head house).0 ≡ length (first_head other).0 = length-sha256 (start_text house) ∙ sym (length-sha256 (start_text other)) in
    let same = from_same P apart (first_head house) (first_head other) log more size rl rm ps.1 qs.1 len e in
    let hashes : sha256 (start_text house) ≡ sha256 (start_text other) = ap (λ (i : Id). i.0) same.0 in
    let starts = apart (start_text house) (start_text other) ps.0 qs.0 hashes in
    (same_id house other (append_cancel_left (codes "CCDHEAD0") house.0 other.0 starts), same.1)
