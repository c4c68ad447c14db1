-- The agent of rows is one that the tables stand for.
use Rattle.std.proofs.Common.{◌≡◌, ◌⊎◌, inl, inr, ℕ, ◌+◌, ◌<◌, ◌≤◌, Bool, true, false, cond, List, [], ◌∷◌, ◌++◌, map, length, Option, Some, None, refl, sym, ap, subst, ◌∙◌, arith}
use Rattle.std.specs.List.{Contains, find, AllByRecursion}
use Rattle.std.specs.Option.{option_map}
use Rattle.std.specs.FinMap.{get}
use Rattle.std.proofs.lemmas.Slice.Eq.{bytes_eq-Decides}
use Rattle.dh_base.specs.declared.id.Id.{Id}
use Rattle.dh_base.specs.Ids.{same_id}
use Rattle.dh_base.proofs.SameIds.{same_id-self}
use Rattle.clear_core.proofs.Moved.{at_head, in_tail, none_in_empty, head_or_tail}
use Rattle.keeper_core.specs.declared.row.Row.{Row}
use Rattle.keeper_core.specs.Tables.{Tables, rows_of}
use Rattle.keeper_core.proofs.Scanned.{scans_list_the_map}
use Rattle.joined_deals.specs.DealTexts.{JoinedTold}
use Rattle.joined_deals.specs.Agents.{AgentTold, is_of_id, deal_joined, HasKeys}
use Rattle.joined_deals.proofs.Elements.{of_map, each_of, found_in, none_found}
use Rattle.agent_core.specs.AgentTables.{deal_tab, kept_text, kept_at, IsOwn, AreOwn}
use Rattle.agent_core.specs.AgentRows.{row_of, AreRowsOf}
use Rattle.agent_core.proofs.KeptDeals.{one_own}

pub in_map : {X Y : Type 0} (f : X → Y) (xs : List X) (x : X) → Contains xs x → Contains (map f xs) (f x)
in_map f [] x here = absurd (none_in_empty x here)
in_map f (y ∷ xs) x here = elim (head_or_tail y xs x here) [
  | inl is ↦ subst (λ (z : _). Contains (f y ∷ map f xs) (f z)) is (at_head (f y) (map f xs))
  | inr later ↦ in_tail (f y) (map f xs) (f x) (in_map f xs x later)
]

one_val : {X : Type 0} (x y : X) (o : Option X) → o ≡ Some x → o ≡ Some y → x ≡ y
one_val x y o a b = (let e : Some x ≡ Some y = sym a ∙ b in cc)

module _ (house account : Id) (tables : Tables) (deals : List JoinedTold) (are : AreRowsOf house account (rows_of deal_tab tables) deals) where
  own : (joined : JoinedTold) → Contains deals joined → IsOwn house account joined
  own joined here = each_of (IsOwn house account) deals are.own joined here

  -- each of them stands in the map
  there : (joined : JoinedTold) → Contains deals joined → get tables (deal_tab, joined.deal.id.0) ≡ Some (kept_text joined)
  there joined here = (scans_list_the_map deal_tab (row_of joined) tables).0 (subst (λ (rows : List Row). Contains rows (row_of joined)) (sym are.rows_are) (in_map row_of deals joined here))

  -- and nothing else does
  only : (key val : List ℕ) → get tables (deal_tab, key) ≡ Some val → (joined : JoinedTold) × Contains deals joined × (record { key = key; val = val } ≡ row_of joined)
  only key val got = of_map row_of deals (record { key = key; val = val }) (subst (λ (rows : List Row). Contains rows (record { key = key; val = val })) are.rows_are ((scans_list_the_map deal_tab (record { key = key; val = val }) tables).1 got))

  found : (key : List ℕ) (o : Option JoinedTold) → deal_joined deals (record { 0 = key }) ≡ o → get tables (deal_tab, key) ≡ option_map kept_text o
  found key (Some joined) is =
      let f = found_in (is_of_id (record { 0 = key })) deals joined is in
      let same : key ≡ joined.deal.id.0 = (bytes_eq-Decides key joined.deal.id.0).0 f.1 in
      ap (λ (k : List ℕ). get tables (deal_tab, k)) same ∙ there joined f.0
  found key None is = go (get tables (deal_tab, key)) refl
    where
      go : (o : Option (List ℕ)) → get tables (deal_tab, key) ≡ o → o ≡ None
      go None got = refl
      go (Some val) got =
          let it = only key val got in
          let same : key ≡ it.0.deal.id.0 = ap (λ (r : Row). r.key) it.2 in
          let no : same_id (record { 0 = key }) it.0.deal.id ≡ false = none_found (is_of_id (record { 0 = key })) deals is it.0 it.1 in
          let yes : same_id (record { 0 = key }) it.0.deal.id ≡ true = (bytes_eq-Decides key it.0.deal.id.0).1 same in
          absurd (let e : true ≡ false = sym yes ∙ no in cc)

  pub deals_stand : (key : List ℕ) → get tables (deal_tab, key) ≡ kept_at deals key
  deals_stand key = found key (deal_joined deals (record { 0 = key })) refl

  one : (joined : JoinedTold) → Contains deals joined → (o : Option JoinedTold) → deal_joined deals joined.deal.id ≡ o → o ≡ Some joined
  one joined here None is = absurd (let e : true ≡ false = sym (same_id-self joined.deal.id) ∙ none_found (is_of_id joined.deal.id) deals is joined here in cc)
  one joined here (Some other) is =
      let f = found_in (is_of_id joined.deal.id) deals other is in
      let same : joined.deal.id.0 ≡ other.deal.id.0 = (bytes_eq-Decides joined.deal.id.0 other.deal.id.0).0 f.1 in
      let kept : kept_text other ≡ kept_text joined = one_val (kept_text other) (kept_text joined) (get tables (deal_tab, joined.deal.id.0)) (ap (λ (k : List ℕ). get tables (deal_tab, k)) same ∙ there other f.0) (there joined here) in
      ap Some (one_own house account other joined (own other f.0) (own joined here) kept)

  pub are_own : AreOwn house account deals
  are_own = record { each = own; one = λ joined here. one joined here (deal_joined deals joined.deal.id) refl }
