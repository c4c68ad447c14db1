-- What the names of envelopes and statements are bound to.
use Rattle.std.specs.Prelude.{ℕ, Bool, List, Option, Some, None}
use Rattle.std.specs.List.{find, list_any}
use Rattle.std.specs.Str.{bytes_eq}
use Rattle.key_ring.specs.declared.envelope.Envelope.{Envelope}
use Rattle.act_text.specs.declared.statement.Statement.{Statement}
use Rattle.house_building.specs.declared.bindings.Binding.{Binding}
use Rattle.house_building.specs.declared.bindings.Bound.{Bound}
use Rattle.house_building.specs.declared.bindings.Bound.TheVariants.{Enveloped, Stated}

abbrev pub is_bound : List Binding → List ℕ → Bool
is_bound bound name = list_any (λ (binding : Binding). bytes_eq name binding.name) bound

abbrev pub bound_to : List Binding → List ℕ → Option Binding
bound_to bound name = find (λ (binding : Binding). bytes_eq name binding.name) bound

abbrev pub envelope_of : Bound → Option Envelope
envelope_of (Enveloped envelope) = Some envelope
envelope_of (Stated statement) = None

abbrev pub envelope_in : Option Binding → Option Envelope
envelope_in None = None
envelope_in (Some binding) = envelope_of binding.thing

-- the envelope that the name is bound to
abbrev pub envelope_named : List Binding → List ℕ → Option Envelope
envelope_named bound name = envelope_in (bound_to bound name)
