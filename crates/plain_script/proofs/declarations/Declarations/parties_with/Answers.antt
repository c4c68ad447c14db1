use Rattle.std.proofs.Common.{◌≡◌, ℕ, List, [], ◌∷◌, ◌++◌, ap, ◌∙◌}
use Rattle.std.proofs.lemmas.Result.{IfOk-weaker}
use Rattle.std.proofs.lemmas.List.Elements.{same_from_all_zip}
use Rattle.plain_script.specs.BoundNames.{parties_of, with_names}
use Rattle.plain_script.proofs.Parties.{parties_push}
use Rattle.plain_script.proofs.declarations.Declarations.parties_with.Goals as goal

pub returns : goal.returns
returns c =
    let kept : c.in_ok-parties.parties.keys ≡ c.self.inside.parties.keys = same_from_all_zip _ c.self.inside.parties.keys c.in_ok-parties.parties.keys c.in_ok-parties.ensures.cases (λ x y h. h) in
    let start : c.in_ok-parties.parties.keys ≡ parties_of c.args.self.now = kept ∙ (c.self.invariant.bound ∙ ap parties_of c.self.view_is) in
    let grown : with_names c.in_ok-parties.parties.keys c.parties.result.now ≡ parties_of (c.args.self.now ++ c.args.declaration.now ∷ []) = ap (λ (ks : List (List ℕ)). with_names ks c.parties.result.now) start ∙ (ap (with_names (parties_of c.args.self.now)) c.parties.ensures ∙ parties_push c.args.self.now c.args.declaration.now) in
    IfOk-weaker c.with_names.result _ _ (λ all e. e ∙ grown) c.with_names.ensures
