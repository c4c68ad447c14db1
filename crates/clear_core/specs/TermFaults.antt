-- What the faults of terms tell.
use Rattle.std.specs.Prelude.{List, [], ◌∷◌, codes}
use Rattle.dh_base.specs.Refusals.{Told, told_of, field_of}
use Rattle.dh_base.specs.declared.refusal.FieldValue.TheVariants.{Number, Called}
use Rattle.clear_core.specs.declared.term_fault.TermFault.{TermFault}
use Rattle.clear_core.specs.declared.term_fault.TermFault.TheVariants.{GivesMore, GetsLess}

abbrev pub term_fault_told : TermFault → List Told
term_fault_told (GivesMore ledger asset asked allowed) = told_of 1 (codes "GivesMore")
    (field_of (codes "ledger") (Called ledger) ∷ field_of (codes "asset") (Called asset) ∷
    field_of (codes "asked") (Number asked) ∷
    field_of (codes "allowed") (Number allowed) ∷ []) ∷ []
term_fault_told (GetsLess ledger asset offered wanted) = told_of 2 (codes "GetsLess")
    (field_of (codes "ledger") (Called ledger) ∷ field_of (codes "asset") (Called asset) ∷
    field_of (codes "offered") (Number offered) ∷
    field_of (codes "wanted") (Number wanted) ∷ []) ∷ []
