-- What calls of ledgers and of the log answer, unless memory runs out.
use Rattle.std.specs.Prelude.{ℕ, ◌≡◌, ◌≤◌, List, Result, Ok, Err}
use Rattle.std.specs.List.{AllByRecursion}
use Rattle.dh_base.specs.declared.failure.NoMemory.{NoMemory}
use Rattle.vote_log.specs.Log.{Log}
use Rattle.plain_core.specs.Ledgers.{LedgerTold, World, Answer, LogAnswer, Step}
use Rattle.plain_core.specs.declared.reply.Reply.{Reply}

-- a ledger answered so, and is so now
abbrev pub Gives : Result Reply NoMemory → LedgerTold → Answer → Type 0
Gives (Ok reply) ledger answer = answer ≡ record { reply = reply; ledger = ledger }
Gives (Err error) ledger answer = Unit {0}

abbrev pub GivesLog : Result Reply NoMemory → Log → LogAnswer → Type 0
GivesLog (Ok reply) log answer = answer ≡ record { reply = reply; log = log }
GivesLog (Err error) log answer = Unit {0}

abbrev pub GivesStep : Result Reply NoMemory → World → Step → Type 0
GivesStep (Ok reply) world step = step ≡ record { reply = reply; world = world }
GivesStep (Err error) world step = Unit {0}

-- no ledger has accepted more than so many acts and settlements
abbrev pub AreWithin : ℕ → List LedgerTold → Type 0
AreWithin n ledgers = AllByRecursion (λ ledger. ledger.entries ≤ n) ledgers
