-- No asset's opening rows pass the greatest total.
use Rattle.std.proofs.Common.{◌≡◌, ℕ, ◌+◌, ◌<◌, ◌^◌, ◌-◌, Bool, true, false, not, nat_lt, None, List, [], ◌∷◌, ◌++◌, refl, sym, ap, ◌∙◌, arith, append_assoc}
use Rattle.std.specs.List.{list_any}
use Rattle.std.specs.Prelude.{count_by}
use Rattle.std.specs.Str.{bytes_eq}
use Rattle.std.proofs.lemmas.Bool.{and_parts, leb-true, not-false}
use Rattle.std.proofs.lemmas.Slice.Eq.{bytes_eq-Decides}
use Rattle.std.proofs.lemmas.List.Sums.{sum_by-append}
use Rattle.plain_script.specs.BoundNames.{opened_of, opened_by, opens_on, opens_row, is_thing, is_ledger}
use Rattle.plain_script.specs.OpeningRows.{is_good_row, is_good_line}
use Rattle.plain_script.proofs.OpeningRows.{good_line_same}
use Rattle.std.proofs.lemmas.List.{append-nil}
use Rattle.line_text.proofs.Faults.{unbroken}
use Rattle.plain_script.specs.Rules.{rule_with_parties, declaration_rule, DeclareByRules}
use Rattle.plain_script.specs.declared.declaration.Declaration.{Declaration}
use Rattle.plain_script.specs.declared.declaration.Declaration.TheVariants.{Ledger, Open, Deal}
use Rattle.script_lines.specs.declared.rule.ScriptRule.TheVariants.{NameTwice, UnknownName, BadOpening}

abbrev AllSmall : List Declaration → Type 0
AllSmall ds = (ledger asset : List ℕ) → opened_of ds ledger asset < 2 ^ 63

opened_push : (ds : List Declaration) (d : Declaration) (ledger asset : List ℕ) → opened_of (ds ++ d ∷ []) ledger asset ≡ opened_of ds ledger asset + opened_by ledger asset d
opened_push ds d ledger asset = omega (arith, sum_by-append (opened_by ledger asset) ds (d ∷ []))

good_fits : (ds : List Declaration) (ledger asset party : List ℕ) (amount : ℕ) → is_good_row ds ledger asset party amount ≡ true → opened_of ds ledger asset + amount < 2 ^ 63
good_fits ds ledger asset party amount good =
    let lines : is_good_line ds ledger asset party amount ≡ true = good_line_same ds ledger asset party amount ∙ good in
    let a = and_parts (nat_lt (count_by (opens_on ledger) ds) 1024) _ lines in
    let b = and_parts (nat_lt 0 amount) _ a.1 in
    let c = and_parts (not (list_any (opens_row ledger asset party) ds)) _ b.1 in
    omega (arith, leb-true (opened_of ds ledger asset + amount) (2 ^ 63 - 1) c.1)

row_fits : (ds : List Declaration) (ledger asset party : List ℕ) (amount : ℕ) → AllSmall ds → opened_of ds ledger asset + amount < 2 ^ 63 → AllSmall (ds ++ Open ledger asset party amount ∷ [])
row_fits ds ledger asset party amount small fits l a = here (bytes_eq l ledger) (bytes_eq a asset) refl refl
  where
    here : (p q : Bool) → bytes_eq l ledger ≡ p → bytes_eq a asset ≡ q → opened_of (ds ++ Open ledger asset party amount ∷ []) l a < 2 ^ 63
    here true true e f =
        let l-is : l ≡ ledger = (bytes_eq-Decides l ledger).0 e in
        let a-is : a ≡ asset = (bytes_eq-Decides a asset).0 f in
        let own : opened_by l a (Open ledger asset party amount) ≡ amount = rw (e, f) refl in
        let total : opened_of ds l a ≡ opened_of ds ledger asset = ap (λ (x : List ℕ). opened_of ds x a) l-is ∙ ap (opened_of ds ledger) a-is in
        omega (arith, opened_push ds (Open ledger asset party amount) l a, own, total, fits)
    here true false e f =
        let own : opened_by l a (Open ledger asset party amount) ≡ 0 = rw (e, f) refl in
        omega (arith, opened_push ds (Open ledger asset party amount) l a, own, small l a)
    here false q e f =
        let own : opened_by l a (Open ledger asset party amount) ≡ 0 = rw e refl in
        omega (arith, opened_push ds (Open ledger asset party amount) l a, own, small l a)

pub small_push : (ds : List Declaration) (d : Declaration) (parties : ℕ) → rule_with_parties ds d parties ≡ None → AllSmall ds → AllSmall (ds ++ d ∷ [])
small_push ds (Ledger name) parties e small l a = omega (arith, opened_push ds (Ledger name) l a, small l a)
small_push ds (Open ledger asset party amount) parties e small l a =
    let p = unbroken (is_thing ds party) NameTwice _ e in
    let q = unbroken (not (is_ledger ds ledger)) UnknownName _ p.1 in
    let r = unbroken (not (is_good_row ds ledger asset party amount)) BadOpening _ q.1 in
    row_fits ds ledger asset party amount small (good_fits ds ledger asset party amount (not-false (is_good_row ds ledger asset party amount) r.0)) l a
small_push ds (Deal name members) parties e small l a = omega (arith, opened_push ds (Deal name members) l a, small l a)

-- one declaration more that keeps the rules
pub rules_push : (before ds : List Declaration) (d : Declaration) → DeclareByRules before ds → declaration_rule (before ++ ds) d ≡ None → DeclareByRules before (ds ++ d ∷ [])
rules_push before [] d keep e = (ap (λ (front : List Declaration). declaration_rule front d) (sym (append-nil before)) ∙ e, tt)
rules_push before (first ∷ ds) d keep e = (keep.0, rules_push (before ++ first ∷ []) ds d keep.1 (ap (λ (front : List Declaration). declaration_rule front d) (append_assoc before (first ∷ []) ds) ∙ e))
