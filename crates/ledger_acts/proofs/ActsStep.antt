-- What an act under a key does, by its key and its refusal, is the ledger's step.
use Rattle.std.proofs.Common.{◌≡◌, ℕ, ◌+◌, Bool, true, false, if◌then◌else◌, List, [], ◌∷◌, ◌++◌, length, Option, Some, None, IfSome, Result, Ok, Err, inl, inr, refl, sym, ap, subst, ◌∙◌}
use Rattle.std.specs.Option.{option_or}
use Rattle.dh_base.specs.declared.id.Id.{Id}
use Rattle.dh_base.specs.Ids.{same_id}
use Rattle.act_text.specs.declared.act.Act.{Act as Asked}
use Rattle.act_text.specs.declared.act.Act.TheVariants as act
use Rattle.keeper_core.specs.Tables.{Tables}
use Rattle.keeper_core.specs.Knowing.{Known}
use Rattle.keeper_core.specs.Leaving.{Ended}
use Rattle.keeper_core.specs.Stepping.{IsReply, Steps}
use Rattle.keeper_core.proofs.Leaving.{if_some}
use Rattle.ledger_rows.specs.declared.entry.Entry.{Entry}
use Rattle.ledger_rows.specs.declared.entry.Entry.TheVariants.{Act}
use Rattle.ledger_rows.specs.declared.used_key.UsedKey.{UsedKey}
use Rattle.ledger_rows.specs.Entries.{digest_of, book_of}
use Rattle.ledger_acts.specs.declared.ledger_fault.LedgerFault.{LedgerFault}
use Rattle.ledger_acts.specs.declared.ledger_fault.LedgerFault.TheVariants.{KeyReused}
use Rattle.ledger_acts.specs.declared.ledger_id.LedgerId.{LedgerId}
use Rattle.ledger_acts.specs.declared.place.Place.{Place}
use Rattle.ledger_acts.specs.declared.movement.Movement.{Movement}
use Rattle.ledger_acts.specs.declared.movement.Movement.TheVariants.{Payment, Escrow, Transfer}
use Rattle.ledger_acts.specs.LedgerFaults.{of_ledger_fault}
use Rattle.ledger_acts.specs.LedgerStep.{Opened, first_of, by_book, wrong_ledger, wrong_house, full, acts_of, IsActRefusal, ActSteps}
use Rattle.ledger_acts.specs.LedgerState.{IsState}
use Rattle.ledger_acts.specs.Once.{by_key, number_by, entries_by}
use Rattle.ledger_acts.specs.Movements.{book_refusal, movement_of, head_refusal}
use Rattle.ledger_acts.specs.Steps.{IsNext, Replies}
use Rattle.ledger_acts.proofs.MovementSteps.{moved_step, some_is}

-- ---- steps, with what they answer said otherwise

module _ {S F : Type 0} (StandsFor : Tables → S → Type 0) (by_fault : F → Ended) (state next : S) (result : Result ℕ F) (before after : Known) where
  answered : (A B : ℕ → Type 0) → ((at : ℕ) → A at → B at) → Steps StandsFor by_fault None A state next result before after → Steps StandsFor by_fault None B state next result before after
  answered A B on s = record { reply = go result s.reply; accepted = s.accepted; unchanged = s.unchanged; stopped = s.stopped }
    where
      go : (r : Result ℕ F) → IfSome after.tables (λ _. IsReply by_fault None A r) → IfSome after.tables (λ _. IsReply by_fault None B r)
      go (Ok at) reply = if_some after.tables _ _ (λ tables is. (is.0, on at is.1)) reply
      go (Err fault) reply = reply

  -- a refusal changes nothing, whatever was to come
  refused_stays : (fault : F) (A B : ℕ → Type 0) → Steps StandsFor by_fault (Some fault) A state next result before after → Steps StandsFor by_fault (Some fault) B state state result before after
  refused_stays fault A B s = go result s
    where
      never : {T : Type 0} → Some fault ≡ None → T
      never e = absurd cc

      go : (r : Result ℕ F) → Steps StandsFor by_fault (Some fault) A state next r before after → Steps StandsFor by_fault (Some fault) B state state r before after
      go (Ok at) t = record {
        reply = if_some after.tables _ _ (λ tables is. never is.0) t.reply;
        accepted = if_some after.tables (λ _. (Some fault ≡ None) × A at) (λ tables. StandsFor tables state) (λ tables is. never is.0) t.reply;
        unchanged = tt;
        stopped = tt;
      }
      go (Err given) t = record {
        reply = t.reply;
        accepted = tt;
        unchanged = t.unchanged;
        stopped = elim t.stopped [ inl same ↦ inl same | inr (halted, none, backs) ↦ never none ];
      }

-- ---- the step

module _ (opened : Opened) (entries : List Entry) (account : Id) (q : ℕ) (message : List ℕ) (asked : Asked) (result : Result ℕ LedgerFault) (before after : Known) where
  abbrev pub entry : Entry
  entry = Act account q message

  abbrev pub Stepped : Option UsedKey → Type 0
  Stepped used = (reply : Result ℕ LedgerFault) × (later : List Entry) × ActSteps opened entries account q message asked used reply later × Replies opened entries reply later result before after

  pub new_step : (step : Option LedgerFault) → IsActRefusal opened entries account asked step →
      Steps (IsState opened) of_ledger_fault step (λ at. at ≡ length entries + 1) entries (entries ++ entry ∷ []) result before after → Stepped None
  new_step None is s = (
    Ok (length entries + 1),
    entries ++ entry ∷ [],
    (None, is, (refl, refl)),
    answered (IsState opened) of_ledger_fault entries (entries ++ entry ∷ []) result before after (λ at. at ≡ length entries + 1) (λ at. Ok (length entries + 1) ≡ Ok at) (λ at e. ap (λ (n : ℕ). Ok n) (sym e)) s,
  )
  new_step (Some fault) is s = (
    Err fault,
    entries,
    (Some fault, is, (refl, refl)),
    refused_stays (IsState opened) of_ledger_fault entries (entries ++ entry ∷ []) result before after fault (λ at. at ≡ length entries + 1) (λ at. Err fault ≡ Ok at) s,
  )

  pub kept_step : (used : UsedKey) (same : Bool) → same ≡ same_id (digest_of message) used.message →
      Steps (IsState opened) of_ledger_fault (if same then None else Some (KeyReused used.message)) (λ at. at ≡ used.at) entries entries result before after → Stepped (Some used)
  kept_step used true is s = (
    Ok used.at,
    entries,
    (ap (λ (b : Bool). if b then Ok used.at else Err (KeyReused used.message)) is, refl),
    answered (IsState opened) of_ledger_fault entries entries result before after (λ at. at ≡ used.at) (λ at. Ok used.at ≡ Ok at) (λ at e. ap (λ (n : ℕ). Ok n) (sym e)) s,
  )
  kept_step used false is s = (
    Err (KeyReused used.message),
    entries,
    (ap (λ (b : Bool). if b then Ok used.at else Err (KeyReused used.message)) is, refl),
    refused_stays (IsState opened) of_ledger_fault entries entries result before after (KeyReused used.message) (λ at. at ≡ used.at) (λ at. Err (KeyReused used.message) ≡ Ok at) s,
  )

  pub as_step : (used : Option UsedKey) (step : Option LedgerFault) → IsActRefusal opened entries account asked step →
      Steps (IsState opened) of_ledger_fault (by_key (digest_of message) used step) (λ at. at ≡ number_by used (length entries + 1)) entries (entries_by used entries entry) result before after → Stepped used
  as_step None step is s = new_step step is s
  as_step (Some used) step is s = kept_step used (same_id (digest_of message) used.message) refl s

-- ---- the refusal of a movement

one_two : (a b rest : Option LedgerFault) → option_or (option_or a (option_or b None)) rest ≡ option_or a (option_or b rest)
one_two None None rest = refl
one_two None (Some fault) rest = refl
one_two (Some fault) b rest = refl

module _ (opened : Opened) (entries : List Entry) (account : Id) (ledger : LedgerId) (place : Place) (next : IsNext opened entries ledger place) where
  abbrev HeadedIs : Asked → Movement → Type 0
  HeadedIs asked movement = IsActRefusal opened entries account asked (option_or (head_refusal ledger asked) (moved_step opened entries movement))

  pub headed_is : (asked : Asked) (movement : Movement) → movement_of account asked ≡ Some movement → HeadedIs asked movement
  headed_is (act.Pay house named to asset amount) movement of =
      subst (HeadedIs (act.Pay house named to asset amount)) (some_is _ _ of)
      ((λ i. option_or (first_of (wrong_ledger (next.name i) named ∷ wrong_house (next.house i) house ∷ [])) (option_or (by_book (book_refusal (book_of opened.rows entries) (Payment account to asset amount))) (option_or (full (acts_of entries)) None)))
      ∙ one_two (wrong_ledger opened.name named) (wrong_house opened.house house) _)
  headed_is (act.Escrow deal named asset amount) movement of =
      subst (HeadedIs (act.Escrow deal named asset amount)) (some_is _ _ of)
      (λ i. option_or (wrong_ledger (next.name i) named) (option_or (by_book (book_refusal (book_of opened.rows entries) (Escrow deal account asset amount))) (option_or (full (acts_of entries)) None)))
  headed_is (act.Transfer deal named turn to asset amount) movement of =
      subst (HeadedIs (act.Transfer deal named turn to asset amount)) (some_is _ _ of)
      (λ i. option_or (wrong_ledger (next.name i) named) (option_or (by_book (book_refusal (book_of opened.rows entries) (Transfer deal account turn to asset amount))) (option_or (full (acts_of entries)) None)))
  headed_is (act.Register text) movement of = absurd cc
  headed_is (act.StartDeal text) movement of = absurd cc
  headed_is (act.Vote deal index choice) movement of = absurd cc
