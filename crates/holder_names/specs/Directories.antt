-- How ids are printed: by the name that is listed for them, and by their digits where none is.
use Rattle.std.specs.Prelude.{ℕ, List, Option, Some, None}
use Rattle.std.specs.List.{find}
use Rattle.std.specs.Option.{option_map}
use Rattle.dh_base.specs.declared.id.Id.{Id}
use Rattle.dh_base.specs.Ids.{same_id}
use Rattle.dh_base.specs.Spelled.{hex_text}
use Rattle.holder_names.specs.declared.label.Label.{Label}
use Rattle.holder_names.specs.declared.label.Label.TheVariants.{Called, Unnamed}

-- an id and its name
abbrev pub Listed : Type 0
Listed = Id × List ℕ

-- the name that stands first for the id
abbrev pub name_of : List Listed → Id → Option (List ℕ)
name_of listed id =
    option_map (λ (entry : Listed). entry.1)
    (find (λ (entry : Listed). same_id id entry.0) listed)

abbrev pub label_by : Id → Option (List ℕ) → Label
label_by id (Some name) = Called name
label_by id None = Unnamed id

abbrev pub label_of : List Listed → Id → Label
label_of listed id = label_by id (name_of listed id)

abbrev pub label_text : Label → List ℕ
label_text (Called name) = name
label_text (Unnamed id) = hex_text id.0

-- what is printed for the id
abbrev pub printed_of : List Listed → Id → List ℕ
printed_of listed id = label_text (label_of listed id)
