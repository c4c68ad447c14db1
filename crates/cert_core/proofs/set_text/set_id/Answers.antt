use Rattle.std.proofs.Common.{List, ℕ, ◌++◌, ap, ◌∙◌}
use Rattle.std.specs.List.{flat_map}
use Rattle.std.specs.Int.{w16, w32, to_be_bytes}
use Rattle.sha2.specs.Sha256.{sha256}
use Rattle.dh_base.specs.declared.id.Id.{Id}
use Rattle.cert_core.specs.Sets.{SetTold, set_tag, id_bytes}
use Rattle.cert_core.proofs.set_text.set_id.Goals as goal

abbrev made : List ℕ → Id
made bytes = record { 0 = bytes }

abbrev hashed : SetTold → List Id → Id
hashed set accounts = made (sha256 (set_tag ++ to_be_bytes w32 set.epoch ++ to_be_bytes w16 set.f ++ flat_map id_bytes accounts))

pub returns : goal.returns
returns c =
    ap made (c.finalize.ensures _ (c.hash_accounts.ensures _ c.head_hasher-hasher.ensures))
    ∙ ap (λ (set : SetTold). hashed set c.accounts.result.now) c.set.view_is ∙ ap (hashed c.args.set.now) c.accounts.ensures.value
