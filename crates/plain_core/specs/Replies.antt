-- What the refusals and the replies of a plain script tell.
use Rattle.std.specs.Prelude.{ℕ, List, [], ◌∷◌, ◌++◌, codes}
use Rattle.std.specs.Fmt.{decimal}
use Rattle.dh_base.specs.Refusals.{Told, told_of, field_of, refusal_text}
use Rattle.dh_base.specs.Spelled.{outcome_text}
use Rattle.dh_base.specs.declared.refusal.FieldValue.TheVariants.{Number, Called, Ending}
use Rattle.vote_log.specs.LogFaults.{log_fault_told}
use Rattle.plain_core.specs.declared.act_refusal.ActRefusal.{ActRefusal}
use Rattle.plain_core.specs.declared.act_refusal.ActRefusal.TheVariants as act
use Rattle.plain_core.specs.declared.log_refusal.LogRefusal.{LogRefusal}
use Rattle.plain_core.specs.declared.log_refusal.LogRefusal.TheVariants as log
use Rattle.plain_core.specs.declared.claim_refusal.ClaimRefusal.{ClaimRefusal}
use Rattle.plain_core.specs.declared.claim_refusal.ClaimRefusal.TheVariants as claim
use Rattle.plain_core.specs.declared.reply.Reply.{Reply}
use Rattle.plain_core.specs.declared.reply.Reply.TheVariants.{Done, Entered, Settled, Already, RefusedAct, RefusedEntry, RefusedClaim}

-- the numbers of a ledger's refusals of acts
abbrev pub act_refusal_told : ActRefusal → List Told
act_refusal_told act.UnknownDeal = told_of 7 (codes "UnknownDeal") [] ∷ []
act_refusal_told (act.NotAParty account) =
    told_of 8 (codes "NotAParty") (field_of (codes "account") (Called account) ∷ []) ∷ []
act_refusal_told (act.DealSettled outcome) =
    told_of 10 (codes "DealSettled") (field_of (codes "outcome") (Ending outcome) ∷ []) ∷ []
act_refusal_told (act.WrongTurn expected) =
    told_of 11 (codes "WrongTurn") (field_of (codes "expected") (Number expected) ∷ []) ∷ []
act_refusal_told act.ZeroOrSelf = told_of 12 (codes "ZeroOrSelf") [] ∷ []
act_refusal_told (act.Short held) =
    told_of 13 (codes "Short") (field_of (codes "held") (Number held) ∷ []) ∷ []

-- the numbers of a log's refusals, the account by its name
abbrev pub log_refusal_told : LogRefusal → List Told
log_refusal_told (log.NotAParty account) =
    told_of 5 (codes "NotAParty") (field_of (codes "account") (Called account) ∷ []) ∷ []
log_refusal_told (log.Fault fault) = log_fault_told fault

-- the numbers of a ledger's refusals of claims
abbrev pub claim_refusal_told : ClaimRefusal → List Told
claim_refusal_told claim.UnknownDeal = told_of 1 (codes "UnknownDeal") [] ∷ []
claim_refusal_told (claim.Undecided len) =
    told_of 3 (codes "Undecided") (field_of (codes "len") (Number len) ∷ []) ∷ []

-- what stands behind the number of the line
abbrev pub reply_text : Reply → List ℕ
reply_text (Done at) = codes "done " ++ decimal at
reply_text (Entered at) = codes "entered " ++ decimal at
reply_text (Settled outcome) = codes "settled " ++ outcome_text outcome
reply_text (Already outcome) = codes "already " ++ outcome_text outcome
reply_text (RefusedAct refusal) = codes "refused " ++ refusal_text (act_refusal_told refusal)
reply_text (RefusedEntry refusal) = codes "refused " ++ refusal_text (log_refusal_told refusal)
reply_text (RefusedClaim refusal) = codes "refused " ++ refusal_text (claim_refusal_told refusal)
