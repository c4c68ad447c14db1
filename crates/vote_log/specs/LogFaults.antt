-- What the refusals of a log tell.
use Rattle.std.specs.Prelude.{List, [], ◌∷◌, codes}
use Rattle.dh_base.specs.Refusals.{Told, told_of, field_of}
use Rattle.dh_base.specs.declared.refusal.FieldValue.TheVariants.{Number, Hash, Ending}
use Rattle.vote_log.specs.declared.log_fault.LogFault.{LogFault}
use Rattle.vote_log.specs.declared.log_fault.LogFault.TheVariants.{NotAParty, StartedAlready, LogFull, NotStarted, Decided, VotedAlready, NoMemory}

abbrev pub log_fault_told : LogFault → List Told
log_fault_told (NotAParty account) =
    told_of 5 (codes "NotAParty") (field_of (codes "account") (Hash account) ∷ []) ∷ []
log_fault_told (StartedAlready at) =
    told_of 6 (codes "StartedAlready") (field_of (codes "at") (Number at) ∷ []) ∷ []
log_fault_told (LogFull len owed) =
    told_of 7 (codes "LogFull")
    (field_of (codes "len") (Number len) ∷ field_of (codes "owed") (Number owed) ∷ []) ∷ []
log_fault_told NotStarted = told_of 8 (codes "NotStarted") [] ∷ []
log_fault_told (Decided at outcome) =
    told_of 9 (codes "Decided")
    (field_of (codes "at") (Number at) ∷ field_of (codes "outcome") (Ending outcome) ∷ []) ∷ []
log_fault_told (VotedAlready at) =
    told_of 10 (codes "VotedAlready") (field_of (codes "at") (Number at) ∷ []) ∷ []
log_fault_told NoMemory = told_of 11 (codes "NoMemory") [] ∷ []
