-- What a ledger answers to an act, from what its book answers.
use Rattle.std.proofs.Common.{◌≡◌, ◌≢◌, ℕ, ◌+◌, Option, Some, None, Result, Ok, Err, refl, sym, ap, subst, ◌∙◌, List}
use Rattle.std.proofs.Common.{◌<◌, ◌≤◌, length, take, true, arith}
use Rattle.std.specs.Prelude.{IfOk}
use Rattle.std.proofs.lemmas.List.Sums.{count_by-le-length}
use Rattle.dh_base.specs.declared.id.Id.{Id}
use Rattle.dh_base.specs.declared.failure.NoMemory.{NoMemory}
use Rattle.dh_base.specs.declared.outcome.Outcome.{Outcome}
use Rattle.escrow_book.specs.declared.fault.BookFault.{BookFault}
use Rattle.escrow_book.specs.declared.fault.BookFault.TheVariants as book
use Rattle.escrow_book.specs.declared.change.Change.TheVariants as change
use Rattle.escrow_book.specs.Base.{Carried, nothing_carried, carried_moves, greatest_turn}
use Rattle.escrow_book.specs.History.{History, with_change, is_known, settlement_of, moves_of, is_move}
use Rattle.escrow_book.specs.Refused.{IsRefusal, escrow_refusal, transfer_refusal}
use Rattle.vote_log.specs.declared.decision.Decision.{Decision}
use Rattle.vote_log.specs.Entry.{Entry}
use Rattle.vote_log.specs.Deciding.{outcome_of}
use Rattle.plain_script.specs.Ids.{plain_id}
use Rattle.plain_core.specs.declared.reply.Reply.{Reply}
use Rattle.plain_core.specs.declared.reply.Reply.TheVariants.{RefusedAct, Done, Settled, Already}
use Rattle.plain_core.specs.Given.{Gives}
use Rattle.plain_core.specs.Ledgers.{LedgerTold, act_refusal, act_answer, escrow_answer, transfer_answer, claim_answer}

-- a refusal of the book that isn't want of memory
is_refusal : (fault : BookFault) (refusal : Option BookFault) → IsRefusal fault refusal → fault ≢ book.NoMemory → refusal ≡ Some fault
is_refusal book.NoMemory refusal h other = absurd (other refl)
is_refusal book.UnknownDeal refusal h other = h
is_refusal (book.NotAParty account) refusal h other = h
is_refusal (book.DealSettled outcome) refusal h other = h
is_refusal (book.WrongTurn expected) refusal h other = h
is_refusal book.ZeroOrSelf refusal h other = h
is_refusal (book.Short held) refusal h other = h

-- the ledger of these parts
abbrev pub ledger_with : List ℕ → History → ℕ → LedgerTold
ledger_with name history entries = record { name = name; history = history; entries = entries }

pub act_accepted : (name : List ℕ) (h new : History) (entries : ℕ) (first second : List ℕ) (refusal : Option BookFault) (made : History) → refusal ≡ None → new ≡ made → act_answer (ledger_with name h entries) first second refusal made ≡ record { reply = Done (entries + 1); ledger = ledger_with name new (entries + 1) }
act_accepted name h new entries first second refusal made none is = rw (none, is) refl

pub act_refused : (name : List ℕ) (h new : History) (entries : ℕ) (first second : List ℕ) (refusal : Option BookFault) (made : History) (fault : BookFault) (result : Result Reply NoMemory) → IsRefusal fault refusal → new ≡ h → IfOk result (λ reply. (reply ≡ RefusedAct (act_refusal first second fault)) × (fault ≢ book.NoMemory)) → Gives result (ledger_with name new entries) (act_answer (ledger_with name h entries) first second refusal made)
act_refused name h new entries first second refusal made fault (Err error) cause is reply = tt
act_refused name h new entries first second refusal made fault (Ok r) cause is reply =
    let some : refusal ≡ Some fault = is_refusal fault refusal cause reply.1 in
    rw (some, is, reply.0) refl

-- ---- escrows

pub escrow_accepted : (deal party asset : List ℕ) (amount : ℕ) (name : List ℕ) (h new : History) (entries : ℕ) (d p : Id) (self : LedgerTold) → ledger_with name h entries ≡ self → d ≡ plain_id deal → p ≡ plain_id party → escrow_refusal h d p asset amount ≡ None → new ≡ with_change h (change.Escrowed d p asset amount) → escrow_answer deal party asset amount self ≡ record { reply = Done (entries + 1); ledger = ledger_with name new (entries + 1) }
escrow_accepted deal party asset amount name h new entries d p self is d-is p-is none made =
    let none' : escrow_refusal h (plain_id deal) (plain_id party) asset amount ≡ None = ap (λ (x : Id). escrow_refusal h x (plain_id party) asset amount) (sym d-is) ∙ (ap (λ (x : Id). escrow_refusal h d x asset amount) (sym p-is) ∙ none) in
    let made' : new ≡ with_change h (change.Escrowed (plain_id deal) (plain_id party) asset amount) = made ∙ (ap (λ (x : Id). with_change h (change.Escrowed x p asset amount)) d-is ∙ ap (λ (x : Id). with_change h (change.Escrowed (plain_id deal) x asset amount)) p-is) in
    ap (escrow_answer deal party asset amount) (sym is)
    ∙ act_accepted name h new entries party party (escrow_refusal h (plain_id deal) (plain_id party) asset amount) (with_change h (change.Escrowed (plain_id deal) (plain_id party) asset amount)) none' made'

pub escrow_refused : (deal party asset : List ℕ) (amount : ℕ) (name : List ℕ) (h new : History) (entries : ℕ) (d p : Id) (self : LedgerTold) (fault : BookFault) (result : Result Reply NoMemory) → ledger_with name h entries ≡ self → d ≡ plain_id deal → p ≡ plain_id party → IsRefusal fault (escrow_refusal h d p asset amount) → new ≡ h → IfOk result (λ reply. (reply ≡ RefusedAct (act_refusal party party fault)) × (fault ≢ book.NoMemory)) → Gives result (ledger_with name new entries) (escrow_answer deal party asset amount self)
escrow_refused deal party asset amount name h new entries d p self fault result is d-is p-is cause same reply =
    let cause' : IsRefusal fault (escrow_refusal h (plain_id deal) (plain_id party) asset amount) = subst (IsRefusal fault) (ap (λ (x : Id). escrow_refusal h x p asset amount) d-is ∙ ap (λ (x : Id). escrow_refusal h (plain_id deal) x asset amount) p-is) cause in
    subst (λ (l : LedgerTold). Gives result (ledger_with name new entries) (escrow_answer deal party asset amount l)) is
    (act_refused name h new entries party party (escrow_refusal h (plain_id deal) (plain_id party) asset amount) (with_change h (change.Escrowed (plain_id deal) (plain_id party) asset amount)) fault result cause' same reply)

-- ---- transfers

pub transfer_accepted : (deal from : List ℕ) (turn : ℕ) (to asset : List ℕ) (amount : ℕ) (name : List ℕ) (h new : History) (entries : ℕ) (d p q : Id) (self : LedgerTold) → ledger_with name h entries ≡ self → d ≡ plain_id deal → p ≡ plain_id from → q ≡ plain_id to → transfer_refusal h d p turn q asset amount ≡ None → new ≡ with_change h (change.Transferred d p q asset amount) → transfer_answer deal from turn to asset amount self ≡ record { reply = Done (entries + 1); ledger = ledger_with name new (entries + 1) }
transfer_accepted deal from turn to asset amount name h new entries d p q self is d-is p-is q-is none made =
    let none' : transfer_refusal h (plain_id deal) (plain_id from) turn (plain_id to) asset amount ≡ None = ap (λ (x : Id). transfer_refusal h x (plain_id from) turn (plain_id to) asset amount) (sym d-is) ∙ (ap (λ (x : Id). transfer_refusal h d x turn (plain_id to) asset amount) (sym p-is) ∙ (ap (λ (x : Id). transfer_refusal h d p turn x asset amount) (sym q-is) ∙ none)) in
    let made' : new ≡ with_change h (change.Transferred (plain_id deal) (plain_id from) (plain_id to) asset amount) = made ∙ (ap (λ (x : Id). with_change h (change.Transferred x p q asset amount)) d-is ∙ (ap (λ (x : Id). with_change h (change.Transferred (plain_id deal) x q asset amount)) p-is ∙ ap (λ (x : Id). with_change h (change.Transferred (plain_id deal) (plain_id from) x asset amount)) q-is)) in
    ap (transfer_answer deal from turn to asset amount) (sym is)
    ∙ act_accepted name h new entries from to (transfer_refusal h (plain_id deal) (plain_id from) turn (plain_id to) asset amount) (with_change h (change.Transferred (plain_id deal) (plain_id from) (plain_id to) asset amount)) none' made'

pub transfer_refused : (deal from : List ℕ) (turn : ℕ) (to asset : List ℕ) (amount : ℕ) (name : List ℕ) (h new : History) (entries : ℕ) (d p q : Id) (self : LedgerTold) (fault : BookFault) (result : Result Reply NoMemory) → ledger_with name h entries ≡ self → d ≡ plain_id deal → p ≡ plain_id from → q ≡ plain_id to → IsRefusal fault (transfer_refusal h d p turn q asset amount) → new ≡ h → IfOk result (λ reply. (reply ≡ RefusedAct (act_refusal from to fault)) × (fault ≢ book.NoMemory)) → Gives result (ledger_with name new entries) (transfer_answer deal from turn to asset amount self)
transfer_refused deal from turn to asset amount name h new entries d p q self fault result is d-is p-is q-is cause same reply =
    let cause' : IsRefusal fault (transfer_refusal h (plain_id deal) (plain_id from) turn (plain_id to) asset amount) = subst (IsRefusal fault) (ap (λ (x : Id). transfer_refusal h x p turn q asset amount) d-is ∙ (ap (λ (x : Id). transfer_refusal h (plain_id deal) x turn q asset amount) p-is ∙ ap (λ (x : Id). transfer_refusal h (plain_id deal) (plain_id from) turn x asset amount) q-is)) cause in
    subst (λ (l : LedgerTold). Gives result (ledger_with name new entries) (transfer_answer deal from turn to asset amount l)) is
    (act_refused name h new entries from to (transfer_refusal h (plain_id deal) (plain_id from) turn (plain_id to) asset amount) (with_change h (change.Transferred (plain_id deal) (plain_id from) (plain_id to) asset amount)) fault result cause' same reply)

-- the sender's transfers are no more than the ledger's entries
pub moves_few : (h : History) (d p : Id) (entries : ℕ) → (length h.changes ≤ entries) × (h.carried ≡ nothing_carried) → entries < greatest_turn → moves_of h d p < greatest_turn
moves_few h d p entries kept few = omega (arith, kept.0, ap (λ (base : Carried). carried_moves base d p) kept.1, count_by-le-length (is_move d p) h.changes)

-- ---- claims

pub claim_settles : (records : List Entry) (deal : List ℕ) (len : ℕ) (name : List ℕ) (h new : History) (entries : ℕ) (d : Id) (decision : Decision) (self : LedgerTold) → ledger_with name h entries ≡ self → d ≡ plain_id deal → is_known h d ≡ true → settlement_of h d ≡ None → outcome_of (take len records) d ≡ Some decision → new ≡ with_change h (change.Settled d decision.outcome) → claim_answer records deal len self ≡ record { reply = Settled decision.outcome; ledger = ledger_with name new (entries + 1) }
claim_settles records deal len name h new entries d decision self is d-is known open' decided made =
    let known' : is_known h (plain_id deal) ≡ true = ap (is_known h) (sym d-is) ∙ known in
    let open'' : settlement_of h (plain_id deal) ≡ None = ap (settlement_of h) (sym d-is) ∙ open' in
    let decided' : outcome_of (take len records) (plain_id deal) ≡ Some decision = ap (outcome_of (take len records)) (sym d-is) ∙ decided in
    let made' : new ≡ with_change h (change.Settled (plain_id deal) decision.outcome) = made ∙ ap (λ (x : Id). with_change h (change.Settled x decision.outcome)) d-is in
    ap (claim_answer records deal len) (sym is) ∙ rw (known', open'', decided', made') refl

pub claim_already : (records : List Entry) (deal : List ℕ) (len : ℕ) (name : List ℕ) (h : History) (entries : ℕ) (d : Id) (outcome : Outcome) (self : LedgerTold) → ledger_with name h entries ≡ self → d ≡ plain_id deal → is_known h d ≡ true → settlement_of h d ≡ Some outcome → claim_answer records deal len self ≡ record { reply = Already outcome; ledger = self }
claim_already records deal len name h entries d outcome self is d-is known settled =
    let known' : is_known h (plain_id deal) ≡ true = ap (is_known h) (sym d-is) ∙ known in
    let settled' : settlement_of h (plain_id deal) ≡ Some outcome = ap (settlement_of h) (sym d-is) ∙ settled in
    ap (claim_answer records deal len) (sym is) ∙ (rw (known', settled') refl ∙ ap (λ (l : LedgerTold). record { reply = Already outcome; ledger = l }) is)
