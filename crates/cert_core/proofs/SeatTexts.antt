-- A text of seats spells one thing.
use Rattle.std.proofs.Common.{◌≡◌, ℕ, ◌<◌, ◌^◌, List, ◌++◌, length, take, drop, get_or, refl, sym, ap, ◌∙◌, append_assoc, arith}
use Rattle.std.specs.Int.{w32, to_be_bytes, from_be_bytes}
use Rattle.std.proofs.lemmas.Nat.{from_be_bytes-to_be_bytes_4}
use Rattle.std.proofs.lemmas.List.{append_cancel_left, take_at, drop_at}
use Rattle.dh_base.specs.declared.id.Id.{Id}
use Rattle.cert_core.specs.SeatTexts.{SeatText, Prefix, Handover, prefix_tag, handover_tag, seat_text, HasWidths}

-- two fronts of one length
parts : (x y a b : List ℕ) → length x ≡ length y → x ++ a ≡ y ++ b → (x ≡ y) × (a ≡ b)
parts x y a b size e =
    let front : x ≡ y = sym (take_at x a (length x) refl) ∙ (ap (take (length x)) e ∙ take_at y b (length x) (sym size)) in
    let rest : a ≡ b = sym (drop_at x a (length x) refl) ∙ (ap (drop (length x)) e ∙ drop_at y b (length x) (sym size)) in
    (front, rest)

same_len : (m n : ℕ) → m < 2 ^ 32 → n < 2 ^ 32 → to_be_bytes w32 m ≡ to_be_bytes w32 n → m ≡ n
same_len m n p q e = sym (from_be_bytes-to_be_bytes_4 m p) ∙ (ap (from_be_bytes w32) e ∙ from_be_bytes-to_be_bytes_4 n q)

apart : (a b : List ℕ) → prefix_tag ++ a ≡ handover_tag ++ b → ⊥
apart a b e = let h : ◌≡◌ {A = ℕ} 80 72 = ap (λ l. get_or l 3 0) e in absurd (omega arith)

abbrev made : List ℕ → Id
made bytes = record { 0 = bytes }

same_id : (a b : Id) → a.0 ≡ b.0 → a ≡ b
same_id a b e = ap made e

-- the tag and three fields, from the right
nested : (tag set len head : List ℕ) → tag ++ set ++ len ++ head ≡ tag ++ (set ++ (len ++ head))
nested tag set len head = append_assoc (tag ++ set) len head ∙ append_assoc tag set (len ++ head)

nested_more : (tag set len head next : List ℕ) → tag ++ set ++ len ++ head ++ next ≡ tag ++ (set ++ (len ++ (head ++ next)))
nested_more tag set len head next = append_assoc (tag ++ set ++ len) head next ∙ nested tag set len (head ++ next)

-- the fields behind one tag
abbrev behind_tag : Id → ℕ → List ℕ → List ℕ
behind_tag set len rest = set.0 ++ (to_be_bytes w32 len ++ rest)

same_front : (s r : Id) (m n : ℕ) (a b : List ℕ) → length s.0 ≡ 32 → length r.0 ≡ 32 → m < 2 ^ 32 → n < 2 ^ 32 → behind_tag s m a ≡ behind_tag r n b → (s ≡ r) × (m ≡ n) × (a ≡ b)
same_front s r m n a b wide_s wide_r small_m small_n e =
    let first = parts s.0 r.0 (to_be_bytes w32 m ++ a) (to_be_bytes w32 n ++ b) (wide_s ∙ sym wide_r) e in
    let second = parts (to_be_bytes w32 m) (to_be_bytes w32 n) a b refl first.1 in
    (same_id s r first.0, same_len m n small_m small_n second.0, second.1)

pub one_text : (one other : SeatText) → HasWidths one → HasWidths other → seat_text one ≡ seat_text other → one ≡ other
one_text (Prefix s m h) (Prefix r n k) p q e =
    let behind : behind_tag s m h.0 ≡ behind_tag r n k.0 =
    append_cancel_left prefix_tag _ _ (sym (nested prefix_tag s.0 (to_be_bytes w32 m) h.0) ∙ (e ∙ nested prefix_tag r.0 (to_be_bytes w32 n) k.0)) in
    let fields = same_front s r m n h.0 k.0 p.0 q.0 p.1 q.1 behind in
    let heads : h ≡ k = same_id h k fields.2 in
    cc (fields.0, fields.1, heads)
one_text (Prefix s m h) (Handover r n k next) p q e =
    absurd (apart _ _ (sym (nested prefix_tag s.0 (to_be_bytes w32 m) h.0) ∙ (e ∙ nested_more handover_tag r.0 (to_be_bytes w32 n) k.0 next.0)))
one_text (Handover r n k next) (Prefix s m h) p q e =
    absurd (apart _ _ (sym (nested prefix_tag s.0 (to_be_bytes w32 m) h.0) ∙ (sym e ∙ nested_more handover_tag r.0 (to_be_bytes w32 n) k.0 next.0)))
one_text (Handover s m h next) (Handover r n k other) p q e =
    let behind : behind_tag s m (h.0 ++ next.0) ≡ behind_tag r n (k.0 ++ other.0) =
    append_cancel_left handover_tag _ _ (sym (nested_more handover_tag s.0 (to_be_bytes w32 m) h.0 next.0) ∙ (e ∙ nested_more handover_tag r.0 (to_be_bytes w32 n) k.0 other.0)) in
    let fields = same_front s r m n (h.0 ++ next.0) (k.0 ++ other.0) p.0 q.0 p.1 q.1 behind in
    let last = parts h.0 k.0 next.0 other.0 (p.2 ∙ sym q.2) fields.2 in
    let heads : h ≡ k = same_id h k last.0 in
    let nexts : next ≡ other = same_id next other last.1 in
    cc (fields.0, fields.1, heads, nexts)
