-- What is kept of a joined deal tells it.
use Rattle.std.proofs.Common.{◌≡◌, ℕ, ◌+◌, ◌<◌, ◌≤◌, ◌^◌, ◌-◌, Bool, true, false, not, List, [], ◌∷◌, ◌++◌, length, take, drop, Option, Some, None, Result, Ok, Err, inl, inr, refl, sym, ap, subst, ◌∙◌, arith}
use Rattle.std.specs.Int.{w64, to_be_bytes, from_be_bytes}
use Rattle.std.specs.Str.{bytes_eq}
use Rattle.std.proofs.Math.Seq.{drop-append_seam}
use Rattle.std.proofs.lemmas.List.{length-append, take-append-drop}
use Rattle.std.proofs.lemmas.Slice.Eq.{bytes_eq-Decides}
use Rattle.std.proofs.lemmas.Nat.{from_be_bytes-to_be_bytes_8}
use Rattle.dh_base.specs.declared.id.Id.{Id}
use Rattle.deal_core.specs.Deals.{DealTold, index_of_account}
use Rattle.deal_core.specs.DealText.{deal_text}
use Rattle.deal_core.specs.Reading.{IsTextOf, IsFaultOf}
use Rattle.deal_core.specs.declared.deal_fault.DealFault.{DealFault}
use Rattle.deal_core.specs.declared.deal_fault.DealFault.TheVariants.{NoMemory}
use Rattle.deal_core.proofs.OneAnswer.{one_answer}
use Rattle.joined_deals.specs.DealTexts.{JoinedTold}
use Rattle.joined_deals.specs.TextsKept.{joined_told}
use Rattle.keeper_core.specs.declared.row.Row.{Row}
use Rattle.agent_core.specs.declared.loading.KeptDeal.{KeptDeal}
use Rattle.agent_core.specs.AgentTables.{kept_text, IsOwn}
use Rattle.agent_core.specs.AgentRows.{IsKeptDeal, IsNoKeptDeal, IsRowOf, IsNoRow}

-- ---- bytes that are compared

pub bytes_differ : (xs ys : List ℕ) → not (bytes_eq xs ys) ≡ true → xs ≡ ys → ⊥
bytes_differ xs ys other same = (let e : false ≡ true = sym (ap not ((bytes_eq-Decides xs ys).1 same)) ∙ other in absurd cc)

not_false : (b : Bool) → not b ≡ false → b ≡ true
not_false true e = refl
not_false false e = absurd (let s : true ≡ false = e in cc)

pub bytes_agree : (xs ys : List ℕ) → not (bytes_eq xs ys) ≡ false → xs ≡ ys
bytes_agree xs ys same = (bytes_eq-Decides xs ys).0 (not_false (bytes_eq xs ys) same)

-- ---- a text is that of one deal

pub one_deal : (a b : DealTold) (text : List ℕ) → IsTextOf a text → IsTextOf b text → a ≡ b
one_deal a b text ra rb = elim (one_answer text (Ok a) (Ok b) ra rb) [
  | inl same ↦ (let e : ◌≡◌ {A = Result DealTold DealFault} (Ok a) (Ok b) = same in cc)
  | inr (inl out) ↦ absurd (let e : ◌≡◌ {A = Result DealTold DealFault} (Ok a) (Err NoMemory) = out in cc)
  | inr (inr out) ↦ absurd (let e : ◌≡◌ {A = Result DealTold DealFault} (Ok b) (Err NoMemory) = out in cc)
]

pub no_deal : (a : DealTold) (text : List ℕ) (f : DealFault) → IsTextOf a text → IsFaultOf text f → (f ≡ NoMemory → ⊥) → ⊥
no_deal a text f read faulty other = elim (one_answer text (Ok a) (Err f) read faulty) [
  | inl same ↦ absurd (let e : ◌≡◌ {A = Result DealTold DealFault} (Ok a) (Err f) = same in cc)
  | inr (inl out) ↦ absurd (let e : ◌≡◌ {A = Result DealTold DealFault} (Ok a) (Err NoMemory) = out in cc)
  | inr (inr out) ↦ other (let e : ◌≡◌ {A = Result DealTold DealFault} (Err f) (Err NoMemory) = out in cc)
]

-- ---- the text is behind eight bytes

wide : (n : ℕ) → length (to_be_bytes w64 n) ≡ 8
wide n = refl

pub text_behind : (joined : JoinedTold) → drop 8 (kept_text joined) ≡ deal_text joined.deal
text_behind joined = ap (λ (n : ℕ). drop n (kept_text joined)) (sym (wide joined.deadline)) ∙ drop-append_seam (to_be_bytes w64 joined.deadline) (deal_text joined.deal)

front_is : (xs ys : List ℕ) → take (length xs) (xs ++ ys) ≡ xs
front_is [] ys = refl
front_is (x ∷ xs) ys = ap (λ (rest : List ℕ). x ∷ rest) (front_is xs ys)

deadline_before : (joined : JoinedTold) → take 8 (kept_text joined) ≡ to_be_bytes w64 joined.deadline
deadline_before joined = ap (λ (n : ℕ). take n (kept_text joined)) (sym (wide joined.deadline)) ∙ front_is (to_be_bytes w64 joined.deadline) (deal_text joined.deal)

pub one_deadline : (a b : JoinedTold) → a.deadline < 2 ^ 64 → b.deadline < 2 ^ 64 → kept_text a ≡ kept_text b → a.deadline ≡ b.deadline
one_deadline a b sa sb same =
    sym (from_be_bytes-to_be_bytes_8 a.deadline sa)
    ∙ ap (from_be_bytes w64) (sym (deadline_before a) ∙ (ap (take 8) same ∙ deadline_before b))
    ∙ from_be_bytes-to_be_bytes_8 b.deadline sb

-- two of an agent's own deals of which the same is kept are one
pub one_own : (house account : Id) (a b : JoinedTold) → IsOwn house account a → IsOwn house account b → kept_text a ≡ kept_text b → a ≡ b
one_own house account a b oa ob same =
    let text : deal_text a.deal ≡ deal_text b.deal = sym (text_behind a) ∙ (ap (drop 8) same ∙ text_behind b) in
    let deal : a.deal ≡ b.deal = one_deal a.deal b.deal (deal_text b.deal) (subst (λ (t : List ℕ). IsTextOf a.deal t) text oa.read) ob.read in
    let deadline = one_deadline a b oa.small ob.small same in
    let found : Some a.index ≡ Some b.index = sym oa.party ∙ (ap (λ (d : DealTold). index_of_account d.parties account) deal ∙ ob.party) in
    let index : a.index ≡ b.index = cc in
    (λ i. record { deal = deal i; index = index i; deadline = deadline i })

-- ---- bytes that are kept of a deal

pub kept_is : (val : List ℕ) (kept : KeptDeal) → to_be_bytes w64 kept.deadline ≡ take 8 val → IsTextOf kept.deal (drop 8 val) → kept.deadline < 2 ^ 64 → IsKeptDeal val kept
kept_is val kept front read small = record {
  read = subst (λ (t : List ℕ). IsTextOf kept.deal t) read.spelled read;
  spelled = λ index. sym (take-append-drop 8 val) ∙ (λ i. sym front i ++ read.spelled i);
  small = small;
}

-- ---- bytes that are kept of no deal

pub no_short : (val : List ℕ) → length val < 8 → IsNoKeptDeal val
no_short val short joined read is =
    let long = ap length is ∙ length-append (to_be_bytes w64 joined.deadline) (deal_text joined.deal) in
    omega (arith, short, long, wide joined.deadline)

pub no_read : (val : List ℕ) (f : DealFault) → IsFaultOf (drop 8 val) f → (f ≡ NoMemory → ⊥) → IsNoKeptDeal val
no_read val f faulty other joined read is =
    no_deal joined.deal (drop 8 val) f (subst (λ (t : List ℕ). IsTextOf joined.deal t) (sym (ap (drop 8) is ∙ text_behind joined)) read) faulty other

-- ---- a row and the deal of its bytes

module _ (house account : Id) (row : Row) (kept : KeptDeal) (is : IsKeptDeal row.val kept) where
  same_deal : (joined : JoinedTold) → IsTextOf joined.deal (deal_text joined.deal) → row.val ≡ kept_text joined → kept.deal ≡ joined.deal
  same_deal joined read val =
      let told : JoinedTold = record { deal = kept.deal; index = 0; deadline = kept.deadline } in
      let text : deal_text kept.deal ≡ deal_text joined.deal = sym (text_behind told) ∙ (ap (drop 8) (sym (is.spelled 0) ∙ val) ∙ text_behind joined) in
      one_deal kept.deal joined.deal (deal_text joined.deal) (subst (λ (t : List ℕ). IsTextOf kept.deal t) text is.read) read

  deal_of : (joined : JoinedTold) → IsRowOf house account row joined → kept.deal ≡ joined.deal
  deal_of joined of = same_deal joined of.0.read (ap (λ (r : Row). r.val) of.1)

  pub no_key : (row.key ≡ kept.deal.id.0 → ⊥) → IsNoRow house account row
  no_key other joined of = other (ap (λ (r : Row). r.key) of.1 ∙ sym (ap (λ (d : DealTold). d.id.0) (deal_of joined of)))

  pub no_house : (kept.deal.house ≡ house → ⊥) → IsNoRow house account row
  no_house other joined of = other (ap (λ (d : DealTold). d.house) (deal_of joined of) ∙ of.0.housed)

  pub no_party : index_of_account kept.deal.parties account ≡ None → IsNoRow house account row
  no_party none joined of = (let e : None ≡ Some joined.index = sym none ∙ (ap (λ (d : DealTold). index_of_account d.parties account) (deal_of joined of) ∙ of.0.party) in absurd cc)

  pub row_joined : (index : ℕ) → row.key ≡ kept.deal.id.0 → kept.deal.house ≡ house → index_of_account kept.deal.parties account ≡ Some index → IsRowOf house account row (joined_told kept.deal index kept.deadline)
  row_joined index key housed party = (
    record { read = is.read; small = is.small; housed = housed; party = party },
    (λ i. record { key = key i; val = is.spelled index i }),
  )

-- a row whose bytes are those of no deal
pub no_val : (house account : Id) (row : Row) → IsNoKeptDeal row.val → IsNoRow house account row
no_val house account row none joined of = none joined of.0.read (ap (λ (r : Row). r.val) of.1)
