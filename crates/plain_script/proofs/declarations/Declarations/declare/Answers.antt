use Rattle.std.proofs.Common.{◌≡◌, ◌<◌, ◌^◌, List, [], ◌∷◌, ◌++◌, length, None, sym, ap, subst, ◌∙◌}
use Rattle.plain_script.specs.BoundNames.{parties_of, opened_of}
use Rattle.plain_script.specs.Rules.{rule_with_parties, DeclareByRules}
use Rattle.plain_script.specs.declared.declaration.Declaration.{Declaration}
use Rattle.plain_script.proofs.Opened.{small_push, rules_push}
use Rattle.plain_script.proofs.declarations.Declarations.declare.Goals as goal

pub invariant_of-self-2 : goal.invariant_of-self-2
invariant_of-self-2 c =
    let was : c.self.inside.declarations.items ≡ c.args.self.now = c.self.view_is in
    let none : rule_with_parties c.self.inside.declarations.items c.args.declaration c.len.result ≡ None = ap (λ (ds : List Declaration). rule_with_parties ds c.args.declaration c.len.result) was ∙ (sym c.in_ok-rule.ensures ∙ c.in_default.is) in
    let grown : c.push.new.self.items ≡ c.self.inside.declarations.items ++ c.args.declaration ∷ [] = c.in_ok-push.ensures.items in
    let parties : c.in_ok-parties.parties.keys ≡ parties_of (c.self.inside.declarations.items ++ c.args.declaration ∷ []) = c.in_ok-parties.ensures ∙ ap parties_of (ap (λ (ds : List Declaration). ds ++ c.args.declaration ∷ []) (sym was)) in
    let count : length (parties_of (c.self.inside.declarations.items ++ c.args.declaration ∷ [])) ≡ c.len.result = sym (c.len.ensures.len ∙ ap length parties) in
    record {
      bound = parties ∙ ap parties_of (sym grown);
      rules = subst (DeclareByRules []) (sym grown) (rules_push [] c.self.inside.declarations.items c.args.declaration c.self.invariant.rules (ap (λ k. rule_with_parties c.self.inside.declarations.items c.args.declaration k) count ∙ none));
      small = λ ledger asset. subst (λ (ds : List Declaration). opened_of ds ledger asset < 2 ^ 63) (sym grown) (small_push c.self.inside.declarations.items c.args.declaration c.len.result none c.self.invariant.small ledger asset);
    }
