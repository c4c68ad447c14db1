-- What reading an envelope for a log answers.
use Rattle.std.proofs.Common.{◌≡◌, ◌≢◌, ℕ, List, Result, Ok, Err, MatchResult, refl, sym, subst}
use Rattle.dh_base.specs.declared.id.Id.{Id}
use Rattle.key_ring.specs.declared.envelope.Envelope.{Envelope}
use Rattle.key_ring.specs.declared.said.Said.{Said}
use Rattle.key_ring.specs.Answering.{said_of}
use Rattle.act_text.specs.declared.act.Act.{Act}
use Rattle.act_text.specs.declared.act.Act.TheVariants as act
use Rattle.act_text.specs.declared.act_fault.ActFault.{ActFault}
use Rattle.act_text.specs.declared.act_fault.ActFault.TheVariants.{BadTag, Short, BadField, Trailing, NoMemory}
use Rattle.act_text.specs.ActReading.{Gives}
use Rattle.deal_log.specs.declared.admit_fault.AdmitFault.{AdmitFault}
use Rattle.deal_log.specs.declared.admit_fault.AdmitFault.TheVariants.{BadEnvelope, BadAct, BadDeal, WrongHouse, Refused}
use Rattle.deal_log.specs.declared.posting.Posting.{Posting}
use Rattle.deal_log.specs.declared.posting.Posting.TheVariants.{Start}
use Rattle.deal_log.specs.DealTexts.{IsDealText}
use Rattle.deal_log.specs.Postings.{SaysAct, Posts, IsActFault, IsTextFault, IsPostFault}

-- a fault other than want of memory is what reading gives
pub gives_fault : (fault : ActFault) (read : Result Act ActFault) → fault ≢ NoMemory → Gives (Err fault) read → read ≡ Err fault
gives_fault BadTag read other given = given
gives_fault (Short at) read other given = given
gives_fault (BadField at) read other given = given
gives_fault (Trailing at) read other given = given
gives_fault NoMemory read other given = absurd (other refl)

pub posts_no_act : (env : Envelope) (said : Said) (fault : AdmitFault) → said_of env ≡ Ok said → IsActFault env.message fault → IsPostFault env fault
posts_no_act env said (BadEnvelope fault) is h = absurd h
posts_no_act env said (BadAct fault) is h = (said, is, h)
posts_no_act env said (BadDeal fault) is h = absurd h
posts_no_act env said (WrongHouse named) is h = absurd h
posts_no_act env said (Refused fault) is h = h

posts_no_deal : (env : Envelope) (account : Id) (text : List ℕ) (fault : AdmitFault) → SaysAct env account (act.StartDeal text) → IsTextFault text fault → IsPostFault env fault
posts_no_deal env account text (BadEnvelope fault) says h = absurd h
posts_no_deal env account text (BadAct fault) says h = absurd h
posts_no_deal env account text (BadDeal fault) says h = (account, text, says, h.0, h.1)
posts_no_deal env account text (WrongHouse named) says h = absurd h
posts_no_deal env account text (Refused fault) says h = h

-- what reading the text of a start answers
pub posts_start : (env : Envelope) (account : Id) (text : List ℕ) (r : Result Posting AdmitFault) → SaysAct env account (act.StartDeal text)
    → MatchResult r (λ posting. (posting ≡ Start account text) × IsDealText text) (IsTextFault text) → MatchResult r (Posts env) (IsPostFault env)
posts_start env account text (Ok posting) says h = subst (Posts env) (sym (h.0)) (says, h.1)
posts_start env account text (Err fault) says h = posts_no_deal env account text fault says h
