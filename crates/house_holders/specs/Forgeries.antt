-- Which envelope forges a signature: it says a text under a key of a compliant holder, and the
-- holder's keeper has not that text under that key.
use Rattle.std.specs.Prelude.{ℕ, Bool, false, if◌then◌else◌, List, Option, Some, None, Result, Ok, Err}
use Rattle.std.specs.Int.{w32, to_be_bytes}
use Rattle.std.specs.List.{find}
use Rattle.std.specs.Str.{bytes_eq}
use Rattle.std.specs.FinMap.{get}
use Rattle.dh_base.specs.declared.id.Id.{Id}
use Rattle.dh_base.specs.Ids.{same_id}
use Rattle.keeper_core.specs.Tables.{Tables}
use Rattle.key_ring.specs.Answering.{said_of}
use Rattle.key_ring.specs.UsedTexts.{used_tab}
use Rattle.key_ring.specs.declared.envelope.Envelope.{Envelope}
use Rattle.key_ring.specs.declared.env_fault.EnvFault.{EnvFault}
use Rattle.key_ring.specs.declared.said.Said.{Said}
use Rattle.house_holders.specs.Compliant.{CompliantTold}
use Rattle.house_holders.specs.declared.forgery.Forgery.{Forgery}

abbrev pub is_text : List ℕ → Option (List ℕ) → Bool
is_text message None = false
is_text message (Some text) = bytes_eq text message

-- the keeper has the message as the text that the key has signed
abbrev pub is_kept : Tables → ℕ → List ℕ → Bool
is_kept tables q message = is_text message (get tables (used_tab, to_be_bytes w32 q))

-- a message that is said under a key of that holder, if there is one
abbrev pub forged_under : Said → List ℕ → Option CompliantTold → Option Forgery
forged_under said message None = None
forged_under said message (Some holder) =
    if is_kept holder.keeper.tables said.q message then None
    else Some (record { name = holder.name; q = said.q })

-- the compliant holder of the account
abbrev pub holder_of : List CompliantTold → Id → Option CompliantTold
holder_of holders account =
    find (λ (holder : CompliantTold). same_id account holder.account) holders

-- an envelope that says nothing forges nothing
abbrev pub forged_by : List CompliantTold → List ℕ → Result Said EnvFault → Option Forgery
forged_by holders message (Err fault) = None
forged_by holders message (Ok said) =
    forged_under said message (holder_of holders said.account)

abbrev pub forgery_of : List CompliantTold → Envelope → Option Forgery
forgery_of holders env = forged_by holders env.message (said_of env)
