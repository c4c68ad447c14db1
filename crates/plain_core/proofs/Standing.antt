-- What stands on the ledger of a name stands there to the end.
use Rattle.std.proofs.Common.{◌≡◌, ℕ, Bool, true, false, cond, Some, None, List, [], ◌∷◌, refl, sym, ap, subst, ◌∙◌}
use Rattle.std.specs.Prelude.{find, Contains}
use Rattle.std.specs.Option.{option_or, unwrap_or}
use Rattle.std.specs.Str.{bytes_eq}
use Rattle.std.proofs.lemmas.Slice.Eq.{bytes_eq-Decides}
use Rattle.dh_base.specs.declared.id.Id.{Id}
use Rattle.dh_base.specs.declared.outcome.Outcome.{Outcome}
use Rattle.escrow_book.specs.declared.change.Change.{Change}
use Rattle.escrow_book.specs.declared.change.Change.TheVariants.{Registered, Escrowed, Transferred, Paid, Settled}
use Rattle.dh_base.specs.Ids.{same_id}
use Rattle.escrow_book.specs.Base.{Carried, carried_outcome}
use Rattle.escrow_book.specs.History.{History, first_answer, settlement, settlement_of}
use Rattle.escrow_book.specs.Reached.{IsReached}
use Rattle.plain_script.specs.BoundNames.{members_of}
use Rattle.plain_script.specs.Rules.{DeclareByRules}
use Rattle.plain_script.specs.declared.declaration.Declaration.{Declaration}
use Rattle.plain_script.specs.declared.event.Event.{Event}
use Rattle.plain_script.specs.declared.event.Event.TheVariants.{Register, Escrow, Transfer, Start, Commit, Abort, Claim}
use Rattle.plain_core.specs.Ledgers.{LedgerTold, World, Answer, first_answers, behind, at_ledger, register_answer, escrow_answer, transfer_answer, step_of}
use Rattle.plain_core.specs.declared.reply.Reply.{Reply}
use Rattle.plain_core.specs.declared.reply.Reply.TheVariants.{RefusedAct, RefusedClaim}
use Rattle.plain_core.specs.declared.act_refusal.ActRefusal.TheVariants.{UnknownDeal as UnknownAct}
use Rattle.plain_core.specs.declared.claim_refusal.ClaimRefusal.TheVariants.{UnknownDeal}
use Rattle.plain_core.proofs.Places.{is_named}
use Rattle.plain_core.proofs.Finding.{contains_head, contains_tail}
use Rattle.plain_core.proofs.Following.{GrowthLaws, Follows, stays, register_quiet, escrow_quiet, transfer_quiet}
use Rattle.plain_core.proofs.Settling.{claim_follows, claim_at}

-- ---- a settlement of a whole book is one of its changes

settled_by_change : (changes : List Change) (d : Id) (o : Outcome) → first_answer (settlement d) changes ≡ Some o → Contains changes (Settled d o)
settled_by_change [] d o e = absurd cc
settled_by_change (Settled f p ∷ rest) d o e = at (same_id d f) refl e (λ later. contains_tail (Settled f p) rest (Settled d o) (settled_by_change rest d o later))
  where
    at : (b : Bool) → same_id d f ≡ b → option_or (cond b (Some p) None) (first_answer (settlement d) rest) ≡ Some o → (first_answer (settlement d) rest ≡ Some o → Contains (Settled f p ∷ rest) (Settled d o)) → Contains (Settled f p ∷ rest) (Settled d o)
    at true same found later =
        let inner : d.0 ≡ f.0 = (bytes_eq-Decides d.0 f.0).0 same in
        let id : d ≡ f = ap (λ (l : List ℕ). record { 0 = l }) inner in
        let outcome : p ≡ o = cc in
        subst (λ (c : Change). Contains (Settled f p ∷ rest) c) (ap (λ (i : Id). Settled i p) (sym id) ∙ ap (Settled d) outcome) (contains_head (Settled f p) rest)
    at false other found later = later found
settled_by_change (Registered f parties ∷ rest) d o e = contains_tail (Registered f parties) rest (Settled d o) (settled_by_change rest d o e)
settled_by_change (Escrowed f p x n ∷ rest) d o e = contains_tail (Escrowed f p x n) rest (Settled d o) (settled_by_change rest d o e)
settled_by_change (Transferred f from to x n ∷ rest) d o e = contains_tail (Transferred f from to x n) rest (Settled d o) (settled_by_change rest d o e)
settled_by_change (Paid from to x n ∷ rest) d o e = contains_tail (Paid from to x n) rest (Settled d o) (settled_by_change rest d o e)

pub settled_there : (h : History) (d : Id) (o : Outcome) → IsReached h → settlement_of h d ≡ Some o → Contains h.changes (Settled d o)
settled_there h d o r e = settled_by_change h.changes d o (sym (ap (λ (base : Carried). option_or (carried_outcome base d) (first_answer (settlement d) h.changes)) r.whole) ∙ e)

-- ---- the ledger of a name goes on

-- the ledger of that name goes on as another of that name
abbrev pub GoesOn : List ℕ → LedgerTold → List LedgerTold → Type 0
GoesOn name old ls = (new : LedgerTold) × (find (is_named name) ls ≡ Some new) × Follows old new

same_found : (l old : LedgerTold) → Some l ≡ Some old → l ≡ old
same_found l old e = cc

named_goes_on : (name other : List ℕ) (f : LedgerTold → Answer) (unknown : Reply) (ls : List LedgerTold) (old : LedgerTold) → ((l : LedgerTold) → Follows l (f l).ledger) → find (is_named name) ls ≡ Some old → GoesOn name old (at_ledger other f unknown ls).ledgers
named_goes_on name other f unknown [] old follows found = absurd cc
named_goes_on name other f unknown (l ∷ ls) old follows found = at (is_named other l) (is_named name l) refl found (λ later. named_goes_on name other f unknown ls old follows later)
  where
    at : (here this : Bool) → is_named name l ≡ this → cond this (Some l) (find (is_named name) ls) ≡ Some old → (find (is_named name) ls ≡ Some old → GoesOn name old (at_ledger other f unknown ls).ledgers) → GoesOn name old (cond here (first_answers l ls (f l)) (behind l (at_ledger other f unknown ls))).ledgers
    at true true named is later =
        let still : is_named name (f l).ledger ≡ true = ap (bytes_eq name) (follows l).name ∙ named in
        ((f l).ledger, ap (λ b. cond b (Some (f l).ledger) (find (is_named name) ls)) still, subst (λ (k : LedgerTold). Follows k (f l).ledger) (same_found l old is) (follows l))
    at true false named is later =
        let still : is_named name (f l).ledger ≡ false = ap (bytes_eq name) (follows l).name ∙ named in
        (old, ap (λ b. cond b (Some (f l).ledger) (find (is_named name) ls)) still ∙ is, stays old)
    at false true named is later = (old, ap (λ b. cond b (Some l) (find (is_named name) (at_ledger other f unknown ls).ledgers)) named ∙ is, stays old)
    at false false named is later =
        let on = later is in
        (on.0, ap (λ b. cond b (Some l) (find (is_named name) (at_ledger other f unknown ls).ledgers)) named ∙ on.1, on.2)

pub step_named : GrowthLaws → (ds : List Declaration) → DeclareByRules [] ds → (world : World) (event : Event) (name : List ℕ) (old : LedgerTold) → find (is_named name) world.ledgers ≡ Some old → GoesOn name old (step_of ds world event).world.ledgers
step_named laws ds keep world (Register ledger deal party) name old found = named_goes_on name ledger (register_answer (members_of ds deal) deal party) (RefusedAct UnknownAct) world.ledgers old (λ l. (register_quiet laws ds deal party keep l).follows) found
step_named laws ds keep world (Escrow ledger deal party asset amount) name old found = named_goes_on name ledger (escrow_answer deal party asset amount) (RefusedAct UnknownAct) world.ledgers old (λ l. (escrow_quiet laws deal party asset amount l).follows) found
step_named laws ds keep world (Transfer ledger deal from turn to asset amount) name old found = named_goes_on name ledger (transfer_answer deal from (unwrap_or turn 0) to asset amount) (RefusedAct UnknownAct) world.ledgers old (λ l. (transfer_quiet laws deal from (unwrap_or turn 0) to asset amount l).follows) found
step_named laws ds keep world (Start deal party) name old found = (old, found, stays old)
step_named laws ds keep world (Commit deal party) name old found = (old, found, stays old)
step_named laws ds keep world (Abort deal party) name old found = (old, found, stays old)
step_named laws ds keep world (Claim ledger deal len) name old found = named_goes_on name ledger (claim_at world deal (unwrap_or len 0)) (RefusedClaim UnknownDeal) world.ledgers old (λ l. claim_follows laws world.log.entries deal (unwrap_or len 0) l) found
