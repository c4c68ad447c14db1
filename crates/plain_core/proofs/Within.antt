-- An event adds at most one entry to a ledger.
use Rattle.std.specs.Option.{unwrap_or}
use Rattle.std.proofs.Common.{ℕ, ◌+◌, ◌≤◌, Bool, true, false, cond, Option, Some, None, List, [], ◌∷◌, map, take, arith}
use Rattle.std.specs.Str.{bytes_eq}
use Rattle.dh_base.specs.declared.id.Id.{Id}
use Rattle.dh_base.specs.declared.outcome.Outcome.{Outcome}
use Rattle.escrow_book.specs.declared.fault.BookFault.{BookFault}
use Rattle.escrow_book.specs.History.{History, is_known, settlement_of}
use Rattle.escrow_book.specs.Reached.{registered}
use Rattle.vote_log.specs.declared.decision.Decision.{Decision}
use Rattle.vote_log.specs.Entry.{Entry}
use Rattle.vote_log.specs.Deciding.{outcome_of}
use Rattle.plain_script.specs.BoundNames.{members_of}
use Rattle.plain_script.specs.declared.declaration.Declaration.{Declaration}
use Rattle.plain_script.specs.declared.event.Event.{Event}
use Rattle.plain_script.specs.declared.event.Event.TheVariants.{Register, Escrow, Transfer, Start, Commit, Abort, Claim}
use Rattle.plain_script.specs.Ids.{plain_id}
use Rattle.plain_core.specs.Given.{AreWithin}
use Rattle.plain_core.specs.Starts.{started_ledger}
use Rattle.plain_core.specs.Ledgers.{LedgerTold, World, Answer, is_member, accepts, refuses, act_answer, register_answer, escrow_answer, transfer_answer, claim_decided, claim_found, claim_answer, first_answers, behind, at_ledger, step_of}
use Rattle.plain_core.specs.declared.reply.Reply.{Reply}
use Rattle.plain_core.specs.declared.reply.Reply.TheVariants.{RefusedAct, RefusedClaim}
use Rattle.plain_core.specs.declared.act_refusal.ActRefusal.TheVariants.{NotAParty, UnknownDeal as UnknownAct}
use Rattle.plain_core.specs.declared.claim_refusal.ClaimRefusal.TheVariants.{UnknownDeal}

-- no answer has more than one entry more than the ledger that gives it
abbrev Adds : (LedgerTold → Answer) → Type 0
Adds f = (l : LedgerTold) → (f l).ledger.entries ≤ l.entries + 1

act_adds : (l : LedgerTold) (first second : List ℕ) (refusal : Option BookFault) (h : History) → (act_answer l first second refusal h).ledger.entries ≤ l.entries + 1
act_adds l first second (Some fault) h = omega arith
act_adds l first second None h = omega arith

either_adds : (l : LedgerTold) (b : Bool) (first second : Answer) → first.ledger.entries ≤ l.entries + 1 → second.ledger.entries ≤ l.entries + 1 → (cond b first second).ledger.entries ≤ l.entries + 1
either_adds l true first second f s = f
either_adds l false first second f s = s

register_adds : (members : List (List ℕ)) (deal party : List ℕ) → Adds (register_answer members deal party)
register_adds members deal party l = either_adds l (is_member members party) (accepts l (registered l.history (plain_id deal) (map plain_id members))) (refuses l (RefusedAct (NotAParty party))) (omega arith) (omega arith)

decided_adds : (l : LedgerTold) (deal : Id) (len : ℕ) (found : Option Decision) → (claim_decided l deal len found).ledger.entries ≤ l.entries + 1
decided_adds l deal len None = omega arith
decided_adds l deal len (Some decision) = omega arith

found_adds : (l : LedgerTold) (deal : Id) (len : ℕ) (settled : Option Outcome) (found : Option Decision) → (claim_found l deal len settled found).ledger.entries ≤ l.entries + 1
found_adds l deal len (Some outcome) found = omega arith
found_adds l deal len None found = decided_adds l deal len found

claim_adds : (entries : List Entry) (deal : List ℕ) (len : ℕ) → Adds (claim_answer entries deal len)
claim_adds entries deal len l =
    either_adds l (is_known l.history (plain_id deal)) (claim_found l (plain_id deal) len (settlement_of l.history (plain_id deal)) (outcome_of (take len entries) (plain_id deal))) (refuses l (RefusedClaim UnknownDeal))
    (found_adds l (plain_id deal) len (settlement_of l.history (plain_id deal)) (outcome_of (take len entries) (plain_id deal)))
    (omega arith)

pub within_more : (m n : ℕ) (ls : List LedgerTold) → m ≤ n → AreWithin m ls → AreWithin n ls
within_more m n [] le h = tt
within_more m n (l ∷ ls) le h = (omega (arith, le, h.0), within_more m n ls le h.1)

at_within : (n : ℕ) (name : List ℕ) (f : LedgerTold → Answer) (unknown : Reply) (ls : List LedgerTold) → Adds f → AreWithin n ls → AreWithin (n + 1) (at_ledger name f unknown ls).ledgers
at_within n name f unknown [] adds h = tt
at_within n name f unknown (l ∷ ls) adds h = by (bytes_eq name l.name) (at_within n name f unknown ls adds h.1)
  where
    by : (b : Bool) → AreWithin (n + 1) (at_ledger name f unknown ls).ledgers → AreWithin (n + 1) (cond b (first_answers l ls (f l)) (behind l (at_ledger name f unknown ls))).ledgers
    by true more = (omega (arith, adds l, h.0), within_more n (n + 1) ls (omega arith) h.1)
    by false more = (omega (arith, h.0), more)

pub step_within : (ds : List Declaration) (world : World) (event : Event) (n : ℕ) → AreWithin n world.ledgers → AreWithin (n + 1) (step_of ds world event).world.ledgers
step_within ds world (Register ledger deal party) n h = at_within n ledger (register_answer (members_of ds deal) deal party) (RefusedAct UnknownAct) world.ledgers (register_adds (members_of ds deal) deal party) h
step_within ds world (Escrow ledger deal party asset amount) n h = at_within n ledger (escrow_answer deal party asset amount) (RefusedAct UnknownAct) world.ledgers (λ l. act_adds l party party _ _) h
step_within ds world (Transfer ledger deal from turn to asset amount) n h = at_within n ledger (transfer_answer deal from (unwrap_or turn 0) to asset amount) (RefusedAct UnknownAct) world.ledgers (λ l. act_adds l from to _ _) h
step_within ds world (Start deal party) n h = within_more n (n + 1) world.ledgers (omega arith) h
step_within ds world (Commit deal party) n h = within_more n (n + 1) world.ledgers (omega arith) h
step_within ds world (Abort deal party) n h = within_more n (n + 1) world.ledgers (omega arith) h
step_within ds world (Claim ledger deal len) n h = at_within n ledger (claim_answer world.log.entries deal (unwrap_or len 0)) (RefusedClaim UnknownDeal) world.ledgers (claim_adds world.log.entries deal (unwrap_or len 0)) h

pub start_within : (ds : List Declaration) (names : List (List ℕ)) → AreWithin 0 (map (started_ledger ds) names)
start_within ds [] = tt
start_within ds (name ∷ names) = (omega arith, start_within ds names)
