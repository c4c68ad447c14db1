-- The parties of a deal that a script declares.
use Rattle.std.proofs.Common.{◌≡◌, ℕ, ◌<◌, ◌≤◌, Bool, true, false, not, ◌&&◌, ◌||◌, cond, nat_le, nat_lt, None, List, [], ◌∷◌, ◌++◌, map, length, refl, sym, ap, subst, ◌∙◌, arith}
use Rattle.std.specs.List.{list_any}
use Rattle.std.specs.Str.{bytes_eq}
use Rattle.std.proofs.lemmas.Bool.{and_parts, and_from, leb-true, le-leb, ltb-false, not-false, or_parts}
use Rattle.std.proofs.lemmas.List.{length-map}
use Rattle.escrow_book.specs.History.{is_in}
use Rattle.escrow_book.specs.Reached.{are_parties, are_different as are_different_ids}
use Rattle.plain_script.specs.BoundNames.{are_different, members_of, is_bound}
use Rattle.plain_script.specs.Rules.{names_thing, declaration_rule, DeclareByRules}
use Rattle.plain_script.specs.declared.declaration.Declaration.{Declaration}
use Rattle.plain_script.specs.declared.declaration.Declaration.TheVariants.{Ledger, Open, Deal}
use Rattle.script_lines.specs.declared.rule.ScriptRule.TheVariants.{BadLine, NameTwice, TooMany}
use Rattle.plain_script.specs.Ids.{plain_id}
use Rattle.plain_core.proofs.EachOnce.{each_once, once_if_different}
use Rattle.plain_script.proofs.PlainIds.{same_plain_id}
use Rattle.line_text.proofs.Faults.{unbroken}

-- ---- as accounts

is_in_ids : (name : List ℕ) (names : List (List ℕ)) → is_in (plain_id name) (map plain_id names) ≡ list_any (bytes_eq name) names
is_in_ids name [] = refl
is_in_ids name (n ∷ ns) = ap (λ b. b || is_in (plain_id name) (map plain_id ns)) (same_plain_id name n) ∙ ap (λ b. bytes_eq name n || b) (is_in_ids name ns)

different_ids : (names : List (List ℕ)) → are_different_ids (map plain_id names) ≡ each_once names
different_ids [] = refl
different_ids (n ∷ ns) = ap (λ b. not b && are_different_ids (map plain_id ns)) (is_in_ids n ns) ∙ ap (λ b. not (list_any (bytes_eq n) ns) && b) (different_ids ns)

parties_if_different : (names : List (List ℕ)) → 2 ≤ length names → length names ≤ 16 → are_different names ≡ true → are_parties (map plain_id names) ≡ true
parties_if_different names least most different =
    let count : length (map plain_id names) ≡ length names = length-map names plain_id in
    and_from (nat_le 2 (length (map plain_id names))) _ (le-leb 2 (length (map plain_id names)) (omega arith))
    (and_from (nat_le (length (map plain_id names)) 16) (are_different_ids (map plain_id names)) (le-leb (length (map plain_id names)) 16 (omega arith))
    (different_ids names ∙ once_if_different names different))

-- ---- the parties of a deal

abbrev AreMembers : List (List ℕ) → Type 0
AreMembers names = (2 ≤ length names) × (length names ≤ 16) × (are_different names ≡ true)

members_by : (before : List Declaration) (name : List ℕ) (parties : List (List ℕ)) → declaration_rule before (Deal name parties) ≡ None → AreMembers parties
members_by before name parties e =
    let p = unbroken (not (nat_le 2 (length parties) && are_different parties)) BadLine _ e in
    let q = unbroken (is_bound before name || list_any (λ party. names_thing before name party) parties) NameTwice _ p.1 in
    let r = unbroken (nat_lt 16 (length parties) || _) TooMany None q.1 in
    let both = and_parts (nat_le 2 (length parties)) (are_different parties) (not-false (nat_le 2 (length parties) && are_different parties) p.0) in
    (leb-true 2 (length parties) both.0, ltb-false 16 (length parties) (or_parts (nat_lt 16 (length parties)) _ r.0).0, both.1)

members_from : (before ds : List Declaration) (deal : List ℕ) → DeclareByRules before ds → 0 < length (members_of ds deal) → AreMembers (members_of ds deal)
members_from before [] deal keep some = absurd (omega (arith, some))
members_from before (Ledger name ∷ ds) deal keep some = members_from (before ++ Ledger name ∷ []) ds deal keep.1 some
members_from before (Open ledger asset party amount ∷ ds) deal keep some = members_from (before ++ Open ledger asset party amount ∷ []) ds deal keep.1 some
members_from before (Deal name parties ∷ ds) deal keep some =
    by (bytes_eq deal name) some (λ more. members_from (before ++ Deal name parties ∷ []) ds deal keep.1 more)
  where
    by : (b : Bool) → 0 < length (cond b parties (members_of ds deal)) → (0 < length (members_of ds deal) → AreMembers (members_of ds deal)) → AreMembers (cond b parties (members_of ds deal))
    by true more rest = members_by before name parties keep.0
    by false more rest = rest more

pub members_are_different : (ds : List Declaration) (deal : List ℕ) → DeclareByRules [] ds → 0 < length (members_of ds deal) → (2 ≤ length (members_of ds deal)) × (length (members_of ds deal) ≤ 16) × (are_different (members_of ds deal) ≡ true)
members_are_different ds deal keep some = members_from [] ds deal keep some

pub members_are_parties : (ds : List Declaration) (deal : List ℕ) → DeclareByRules [] ds → 0 < length (members_of ds deal) → are_parties (map plain_id (members_of ds deal)) ≡ true
members_are_parties ds deal keep some =
    let found = members_are_different ds deal keep some in
    parties_if_different (members_of ds deal) found.0 found.1 found.2

-- ---- a list that is the parties of a deal

pub parties_declared : (ds : List Declaration) (deal : List ℕ) (members : List (List ℕ)) → members ≡ members_of ds deal → DeclareByRules [] ds → 0 < length members → are_parties (map plain_id members) ≡ true
parties_declared ds deal members is keep some =
    ap (λ (ms : List (List ℕ)). are_parties (map plain_id ms)) is ∙ members_are_parties ds deal keep (subst (λ (ms : List (List ℕ)). 0 < length ms) is some)

pub several_declared : (ds : List Declaration) (deal : List ℕ) (members : List (List ℕ)) → members ≡ members_of ds deal → DeclareByRules [] ds → 0 < length members → 2 ≤ length members
several_declared ds deal members is keep some =
    subst (λ (ms : List (List ℕ)). 2 ≤ length ms) (sym is) (members_are_different ds deal keep (subst (λ (ms : List (List ℕ)). 0 < length ms) is some)).0

pub few_declared : (ds : List Declaration) (deal : List ℕ) (members : List (List ℕ)) → members ≡ members_of ds deal → DeclareByRules [] ds → length members ≤ 16
few_declared ds deal members is keep = by members is
  where
    by : (ms : List (List ℕ)) → ms ≡ members_of ds deal → length ms ≤ 16
    by [] e = omega arith
    by (m ∷ ms) e = subst (λ (xs : List (List ℕ)). length xs ≤ 16) (sym e) (members_are_different ds deal keep (subst (λ (xs : List (List ℕ)). 0 < length xs) e (omega arith))).1
