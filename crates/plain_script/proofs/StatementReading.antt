-- What is read of a line's words is spelled by them, and what is spelled so is read.
use Rattle.std.proofs.Common.{◌≡◌, ℕ, ◌<◌, ◌^◌, Option, Some, None, List, [], ◌∷◌, refl, sym, ap, subst, ◌∙◌, IsTrue}
use Rattle.std.specs.Prelude.{codes}
use Rattle.std.specs.Fmt.{decimal}
use Rattle.std.specs.List.{list_all}
use Rattle.std.specs.Option.{option_map}
use Rattle.std.proofs.lemmas.Option.{cond_some}
use Rattle.dh_base.specs.Names.{is_name}
use Rattle.line_text.specs.Reading.{◌>>=◌, name_word, amount_word, number_u32_word, ended}
use Rattle.script_lines.specs.WordLists.{names_only, SpellsNumber}
use Rattle.script_lines.proofs.NumberWords.{number_taken, number_again}
use Rattle.plain_script.specs.Said.{keyword_text, keyword_of, ledger_after, open_after, deal_after, register_after, escrow_after, transfer_after, log_after, claim_after, statement_after, statement_of_words}
use Rattle.plain_script.specs.Spelling.{declaration_words, SpellsEvent, SpellsStatement, IsGoodDeclaration, IsGoodEvent, IsGoodStatement}
use Rattle.plain_script.specs.declared.declaration.Declaration.{Declaration}
use Rattle.plain_script.specs.declared.declaration.Declaration.TheVariants.{Ledger, Open, Deal}
use Rattle.plain_script.specs.declared.event.Event.{Event}
use Rattle.plain_script.specs.declared.event.Event.TheVariants.{Register, Escrow, Transfer, Start, Commit, Abort, Claim}
use Rattle.plain_script.specs.declared.keyword.Keyword.{Keyword}
use Rattle.plain_script.specs.declared.keyword.Keyword.TheVariants as key
use Rattle.plain_script.specs.declared.statement.Statement.{Statement}
use Rattle.plain_script.specs.declared.statement.Statement.TheVariants.{Plain, House, Declare, Begin, Happen}
use Rattle.line_text.proofs.WordReading.{Words, bind_some, some_is, one_more, read_end, name_taken, name_again, amount_taken, amount_again}
use Rattle.plain_script.proofs.FirstWords.{keyword_is, keyword_again}

-- ---- declarations

-- the words say the declaration
abbrev Declares : Words → Declaration → Type 0
Declares words d = IsGoodDeclaration d × (words ≡ declaration_words d)

ledger_found : (ws : Words) (d : Declaration) → ledger_after ws ≡ Some d → Declares (codes "ledger" ∷ ws) d
unfolding ledger_after
ledger_found ws d e =
    let a = bind_some (name_word ws) (λ name. ended name.1 (Ledger name.0)) d e in
    let z = read_end a.0.1 (Ledger a.0.0) d a.2 in
    let n = name_taken ws a.0 a.1 in
    subst (Declares (codes "ledger" ∷ ws)) z.1 (n.1, ap (λ (v : Words). codes "ledger" ∷ v) (one_more a.0.0 ws a.0.1 [] n.0 z.0))

open_found : (ws : Words) (d : Declaration) → open_after ws ≡ Some d → Declares (codes "open" ∷ ws) d
unfolding open_after
open_found ws d e =
    let a = bind_some (name_word ws) (λ ledger. name_word ledger.1 >>= λ asset. name_word asset.1 >>= λ party. amount_word party.1 >>= λ amount. ended amount.1 (Open ledger.0 asset.0 party.0 amount.0)) d e in
    let b = bind_some (name_word a.0.1) (λ asset. name_word asset.1 >>= λ party. amount_word party.1 >>= λ amount. ended amount.1 (Open a.0.0 asset.0 party.0 amount.0)) d a.2 in
    let p = bind_some (name_word b.0.1) (λ party. amount_word party.1 >>= λ amount. ended amount.1 (Open a.0.0 b.0.0 party.0 amount.0)) d b.2 in
    let m = bind_some (amount_word p.0.1) (λ amount. ended amount.1 (Open a.0.0 b.0.0 p.0.0 amount.0)) d p.2 in
    let z = read_end m.0.1 (Open a.0.0 b.0.0 p.0.0 m.0.0) d m.2 in
    let na = name_taken ws a.0 a.1 in
    let nb = name_taken a.0.1 b.0 b.1 in
    let np = name_taken b.0.1 p.0 p.1 in
    let nm = amount_taken p.0.1 m.0 m.1 in
    let words : codes "open" ∷ ws ≡ codes "open" ∷ a.0.0 ∷ b.0.0 ∷ p.0.0 ∷ decimal m.0.0 ∷ [] =
    ap (λ (v : Words). codes "open" ∷ v) (one_more a.0.0 ws a.0.1 (b.0.0 ∷ p.0.0 ∷ decimal m.0.0 ∷ []) na.0 (one_more b.0.0 a.0.1 b.0.1 (p.0.0 ∷ decimal m.0.0 ∷ []) nb.0 (one_more p.0.0 b.0.1 p.0.1 (decimal m.0.0 ∷ []) np.0 (one_more (decimal m.0.0) p.0.1 m.0.1 [] nm.0 z.0)))) in
    subst (Declares (codes "open" ∷ ws)) z.1 ((na.1, nb.1, np.1, nm.1), words)

deal_found : (ws : Words) (d : Declaration) → deal_after ws ≡ Some d → Declares (codes "deal" ∷ ws) d
unfolding deal_after
deal_found ws d e =
    let a = bind_some (name_word ws) (λ name. names_only name.1 >>= λ parties. Some (Deal name.0 parties)) d e in
    let b = bind_some (names_only a.0.1) (λ parties. Some (Deal a.0.0 parties)) d a.2 in
    let all = cond_some (list_all is_name a.0.1) a.0.1 b.0 b.1 in
    let na = name_taken ws a.0 a.1 in
    let names : IsTrue (list_all is_name b.0) = ap (list_all is_name) (sym all.1) ∙ all.0 in
    let words : codes "deal" ∷ ws ≡ codes "deal" ∷ a.0.0 ∷ b.0 = ap (λ (v : Words). codes "deal" ∷ v) (one_more a.0.0 ws a.0.1 b.0 na.0 all.1) in
    subst (Declares (codes "deal" ∷ ws)) (some_is (Deal a.0.0 b.0) d b.2) ((na.1, names), words)

-- ---- events

-- the words say the event
abbrev Tells : Words → Event → Type 0
Tells words e = IsGoodEvent e × SpellsEvent e words

register_found : (ws : Words) (d : Event) → register_after ws ≡ Some d → Tells (codes "register" ∷ ws) d
unfolding register_after
register_found ws d e =
    let a = bind_some (name_word ws) (λ ledger. name_word ledger.1 >>= λ deal. name_word deal.1 >>= λ party. ended party.1 (Register ledger.0 deal.0 party.0)) d e in
    let b = bind_some (name_word a.0.1) (λ deal. name_word deal.1 >>= λ party. ended party.1 (Register a.0.0 deal.0 party.0)) d a.2 in
    let p = bind_some (name_word b.0.1) (λ party. ended party.1 (Register a.0.0 b.0.0 party.0)) d b.2 in
    let z = read_end p.0.1 (Register a.0.0 b.0.0 p.0.0) d p.2 in
    let na = name_taken ws a.0 a.1 in
    let nb = name_taken a.0.1 b.0 b.1 in
    let np = name_taken b.0.1 p.0 p.1 in
    let words : codes "register" ∷ ws ≡ codes "register" ∷ a.0.0 ∷ b.0.0 ∷ p.0.0 ∷ [] =
    ap (λ (v : Words). codes "register" ∷ v) (one_more a.0.0 ws a.0.1 (b.0.0 ∷ p.0.0 ∷ []) na.0 (one_more b.0.0 a.0.1 b.0.1 (p.0.0 ∷ []) nb.0 (one_more p.0.0 b.0.1 p.0.1 [] np.0 z.0))) in
    subst (Tells (codes "register" ∷ ws)) z.1 ((na.1, nb.1, np.1), words)

escrow_found : (ws : Words) (d : Event) → escrow_after ws ≡ Some d → Tells (codes "escrow" ∷ ws) d
unfolding escrow_after
escrow_found ws d e =
    let a = bind_some (name_word ws) (λ ledger. name_word ledger.1 >>= λ deal. name_word deal.1 >>= λ party. name_word party.1 >>= λ asset. amount_word asset.1 >>= λ amount. ended amount.1 (Escrow ledger.0 deal.0 party.0 asset.0 amount.0)) d e in
    let b = bind_some (name_word a.0.1) (λ deal. name_word deal.1 >>= λ party. name_word party.1 >>= λ asset. amount_word asset.1 >>= λ amount. ended amount.1 (Escrow a.0.0 deal.0 party.0 asset.0 amount.0)) d a.2 in
    let p = bind_some (name_word b.0.1) (λ party. name_word party.1 >>= λ asset. amount_word asset.1 >>= λ amount. ended amount.1 (Escrow a.0.0 b.0.0 party.0 asset.0 amount.0)) d b.2 in
    let s = bind_some (name_word p.0.1) (λ asset. amount_word asset.1 >>= λ amount. ended amount.1 (Escrow a.0.0 b.0.0 p.0.0 asset.0 amount.0)) d p.2 in
    let m = bind_some (amount_word s.0.1) (λ amount. ended amount.1 (Escrow a.0.0 b.0.0 p.0.0 s.0.0 amount.0)) d s.2 in
    let z = read_end m.0.1 (Escrow a.0.0 b.0.0 p.0.0 s.0.0 m.0.0) d m.2 in
    let na = name_taken ws a.0 a.1 in
    let nb = name_taken a.0.1 b.0 b.1 in
    let np = name_taken b.0.1 p.0 p.1 in
    let ns = name_taken p.0.1 s.0 s.1 in
    let nm = amount_taken s.0.1 m.0 m.1 in
    let words : codes "escrow" ∷ ws ≡ codes "escrow" ∷ a.0.0 ∷ b.0.0 ∷ p.0.0 ∷ s.0.0 ∷ decimal m.0.0 ∷ [] =
    ap (λ (v : Words). codes "escrow" ∷ v) (one_more a.0.0 ws a.0.1 (b.0.0 ∷ p.0.0 ∷ s.0.0 ∷ decimal m.0.0 ∷ []) na.0 (one_more b.0.0 a.0.1 b.0.1 (p.0.0 ∷ s.0.0 ∷ decimal m.0.0 ∷ []) nb.0 (one_more p.0.0 b.0.1 p.0.1 (s.0.0 ∷ decimal m.0.0 ∷ []) np.0 (one_more s.0.0 p.0.1 s.0.1 (decimal m.0.0 ∷ []) ns.0 (one_more (decimal m.0.0) s.0.1 m.0.1 [] nm.0 z.0))))) in
    subst (Tells (codes "escrow" ∷ ws)) z.1 ((na.1, nb.1, np.1, ns.1, nm.1), words)

-- the end of a transfer
record IsTransferEnd (ledger deal from : List ℕ) (turn : Option ℕ) (ws : Words) (d : Event) : Type 0 where
  to : List ℕ
  asset : List ℕ
  amount : ℕ
  to_name : IsTrue (is_name to)
  asset_name : IsTrue (is_name asset)
  small : amount < 2 ^ 63
  words : ws ≡ to ∷ asset ∷ decimal amount ∷ []
  whole : Transfer ledger deal from turn to asset amount ≡ d

transfer_end : (ledger deal from : List ℕ) (turn : Option ℕ) (ws : Words) (d : Event) → (name_word ws >>= λ to. name_word to.1 >>= λ asset. amount_word asset.1 >>= λ amount. ended amount.1 (Transfer ledger deal from turn to.0 asset.0 amount.0)) ≡ Some d → IsTransferEnd ledger deal from turn ws d
transfer_end ledger deal from turn ws d e =
    let q = bind_some (name_word ws) (λ to. name_word to.1 >>= λ asset. amount_word asset.1 >>= λ amount. ended amount.1 (Transfer ledger deal from turn to.0 asset.0 amount.0)) d e in
    let s = bind_some (name_word q.0.1) (λ asset. amount_word asset.1 >>= λ amount. ended amount.1 (Transfer ledger deal from turn q.0.0 asset.0 amount.0)) d q.2 in
    let m = bind_some (amount_word s.0.1) (λ amount. ended amount.1 (Transfer ledger deal from turn q.0.0 s.0.0 amount.0)) d s.2 in
    let z = read_end m.0.1 (Transfer ledger deal from turn q.0.0 s.0.0 m.0.0) d m.2 in
    let nq = name_taken ws q.0 q.1 in
    let ns = name_taken q.0.1 s.0 s.1 in
    let nm = amount_taken s.0.1 m.0 m.1 in
    record {
      to = q.0.0;
      asset = s.0.0;
      amount = m.0.0;
      to_name = nq.1;
      asset_name = ns.1;
      small = nm.1;
      words = one_more q.0.0 ws q.0.1 (s.0.0 ∷ decimal m.0.0 ∷ []) nq.0 (one_more s.0.0 q.0.1 s.0.1 (decimal m.0.0 ∷ []) ns.0 (one_more (decimal m.0.0) s.0.1 m.0.1 [] nm.0 z.0));
      whole = z.1;
    }

-- a transfer from its number on
record IsTransferRest (ledger deal from : List ℕ) (ws : Words) (d : Event) : Type 0 where
  turn : Option ℕ
  number : List ℕ
  spells : SpellsNumber turn number
  rest : Words
  words : ws ≡ number ∷ rest
  last : IsTransferEnd ledger deal from turn rest d

transfer_rest : (ledger deal from : List ℕ) (ws : Words) (d : Event) → (number_u32_word ws >>= λ turn. name_word turn.1 >>= λ to. name_word to.1 >>= λ asset. amount_word asset.1 >>= λ amount. ended amount.1 (Transfer ledger deal from turn.0 to.0 asset.0 amount.0)) ≡ Some d → IsTransferRest ledger deal from ws d
transfer_rest ledger deal from ws d e =
    let t = bind_some (number_u32_word ws) (λ turn. name_word turn.1 >>= λ to. name_word to.1 >>= λ asset. amount_word asset.1 >>= λ amount. ended amount.1 (Transfer ledger deal from turn.0 to.0 asset.0 amount.0)) d e in
    let nt = number_taken ws t.0 t.1 in
    record { turn = t.0.0; number = nt.0; spells = nt.2; rest = t.0.1; words = nt.1; last = transfer_end ledger deal from t.0.0 t.0.1 d t.2 }

transfer_told : (ws : Words) (ledger deal from : List ℕ) (rest : Words) (d : Event) → IsTrue (is_name ledger) → IsTrue (is_name deal) → IsTrue (is_name from) → ws ≡ ledger ∷ deal ∷ from ∷ rest → IsTransferRest ledger deal from rest d → Tells (codes "transfer" ∷ ws) d
transfer_told ws ledger deal from rest d m n f words r =
    let l = r.last in
    let behind : rest ≡ r.number ∷ l.to ∷ l.asset ∷ decimal l.amount ∷ [] = one_more r.number rest r.rest (l.to ∷ l.asset ∷ decimal l.amount ∷ []) r.words l.words in
    let all : codes "transfer" ∷ ws ≡ codes "transfer" ∷ ledger ∷ deal ∷ from ∷ r.number ∷ l.to ∷ l.asset ∷ decimal l.amount ∷ [] =
    ap (λ (v : Words). codes "transfer" ∷ v) words ∙ ap (λ (v : Words). codes "transfer" ∷ ledger ∷ deal ∷ from ∷ v) behind in
    subst (Tells (codes "transfer" ∷ ws)) l.whole ((m, n, f, l.to_name, l.asset_name, l.small), (r.number, r.spells, all))

transfer_found : (ws : Words) (d : Event) → transfer_after ws ≡ Some d → Tells (codes "transfer" ∷ ws) d
unfolding transfer_after
transfer_found ws d e =
    let a = bind_some (name_word ws) (λ ledger. name_word ledger.1 >>= λ deal. name_word deal.1 >>= λ from. number_u32_word from.1 >>= λ turn. name_word turn.1 >>= λ to. name_word to.1 >>= λ asset. amount_word asset.1 >>= λ amount. ended amount.1 (Transfer ledger.0 deal.0 from.0 turn.0 to.0 asset.0 amount.0)) d e in
    let b = bind_some (name_word a.0.1) (λ deal. name_word deal.1 >>= λ from. number_u32_word from.1 >>= λ turn. name_word turn.1 >>= λ to. name_word to.1 >>= λ asset. amount_word asset.1 >>= λ amount. ended amount.1 (Transfer a.0.0 deal.0 from.0 turn.0 to.0 asset.0 amount.0)) d a.2 in
    let p = bind_some (name_word b.0.1) (λ from. number_u32_word from.1 >>= λ turn. name_word turn.1 >>= λ to. name_word to.1 >>= λ asset. amount_word asset.1 >>= λ amount. ended amount.1 (Transfer a.0.0 b.0.0 from.0 turn.0 to.0 asset.0 amount.0)) d b.2 in
    let na = name_taken ws a.0 a.1 in
    let nb = name_taken a.0.1 b.0 b.1 in
    let np = name_taken b.0.1 p.0 p.1 in
    let words : ws ≡ a.0.0 ∷ b.0.0 ∷ p.0.0 ∷ p.0.1 = one_more a.0.0 ws a.0.1 (b.0.0 ∷ p.0.0 ∷ p.0.1) na.0 (one_more b.0.0 a.0.1 b.0.1 (p.0.0 ∷ p.0.1) nb.0 np.0) in
    transfer_told ws a.0.0 b.0.0 p.0.0 p.0.1 d na.1 nb.1 np.1 words (transfer_rest a.0.0 b.0.0 p.0.0 p.0.1 d p.2)

-- a deal and a party, of which an event is made
log_found : (event : List ℕ → List ℕ → Event) (ws : Words) (d : Event) → log_after event ws ≡ Some d → (deal : List ℕ) × (party : List ℕ) × IsTrue (is_name deal) × IsTrue (is_name party) × (ws ≡ deal ∷ party ∷ []) × (event deal party ≡ d)
unfolding log_after
log_found event ws d e =
    let a = bind_some (name_word ws) (λ deal. name_word deal.1 >>= λ party. ended party.1 (event deal.0 party.0)) d e in
    let b = bind_some (name_word a.0.1) (λ party. ended party.1 (event a.0.0 party.0)) d a.2 in
    let z = read_end b.0.1 (event a.0.0 b.0.0) d b.2 in
    let na = name_taken ws a.0 a.1 in
    let nb = name_taken a.0.1 b.0 b.1 in
    (a.0.0, b.0.0, na.1, nb.1, one_more a.0.0 ws a.0.1 (b.0.0 ∷ []) na.0 (one_more b.0.0 a.0.1 b.0.1 [] nb.0 z.0), z.1)

claim_found : (ws : Words) (d : Event) → claim_after ws ≡ Some d → Tells (codes "claim" ∷ ws) d
unfolding claim_after
claim_found ws d e =
    let a = bind_some (name_word ws) (λ ledger. name_word ledger.1 >>= λ deal. number_u32_word deal.1 >>= λ len. ended len.1 (Claim ledger.0 deal.0 len.0)) d e in
    let b = bind_some (name_word a.0.1) (λ deal. number_u32_word deal.1 >>= λ len. ended len.1 (Claim a.0.0 deal.0 len.0)) d a.2 in
    let t = bind_some (number_u32_word b.0.1) (λ len. ended len.1 (Claim a.0.0 b.0.0 len.0)) d b.2 in
    let z = read_end t.0.1 (Claim a.0.0 b.0.0 t.0.0) d t.2 in
    let na = name_taken ws a.0 a.1 in
    let nb = name_taken a.0.1 b.0 b.1 in
    let nt = number_taken b.0.1 t.0 t.1 in
    let words : codes "claim" ∷ ws ≡ codes "claim" ∷ a.0.0 ∷ b.0.0 ∷ nt.0 ∷ [] =
    ap (λ (v : Words). codes "claim" ∷ v) (one_more a.0.0 ws a.0.1 (b.0.0 ∷ nt.0 ∷ []) na.0 (one_more b.0.0 a.0.1 b.0.1 (nt.0 ∷ []) nb.0 (one_more nt.0 b.0.1 t.0.1 [] nt.1 z.0))) in
    subst (Tells (codes "claim" ∷ ws)) z.1 ((na.1, nb.1), (nt.0, nt.2, words))

-- ---- statements

-- the words say the statement
abbrev pub States : Words → Statement → Type 0
States words s = IsGoodStatement s × SpellsStatement s words

mapped : {A : Type 0} (make : A → Statement) (o : Option A) (s : Statement) → option_map make o ≡ Some s → (x : A) × (o ≡ Some x) × (make x ≡ s)
mapped make None s e = absurd cc
mapped make (Some x) s e = (x, refl, some_is (make x) s e)

declared : (words : Words) (o : Option Declaration) (s : Statement) → ((d : Declaration) → o ≡ Some d → Declares words d) → option_map Declare o ≡ Some s → States words s
declared words o s found e =
    let m = mapped Declare o s e in
    subst (States words) m.2 (found m.0 m.1)

happened : (words : Words) (o : Option Event) (s : Statement) → ((d : Event) → o ≡ Some d → Tells words d) → option_map Happen o ≡ Some s → States words s
happened words o s found e =
    let m = mapped Happen o s e in
    subst (States words) m.2 (found m.0 m.1)

bare : (word : List ℕ) (ws : Words) (x s : Statement) → States (word ∷ []) x → ended ws x ≡ Some s → States (word ∷ ws) s
bare word ws x s h e =
    let z = read_end ws x s e in
    subst (λ (y : Statement). States (word ∷ ws) y) z.1 (subst (λ (v : Words). States (word ∷ v) x) (sym z.0) h)

start_found : (ws : Words) (d : Event) → log_after Start ws ≡ Some d → Tells (codes "start" ∷ ws) d
start_found ws d e =
    let l = log_found Start ws d e in
    subst (Tells (codes "start" ∷ ws)) l.5 ((l.2, l.3), ap (λ (v : Words). codes "start" ∷ v) l.4)

commit_found : (ws : Words) (d : Event) → log_after Commit ws ≡ Some d → Tells (codes "commit" ∷ ws) d
commit_found ws d e =
    let l = log_found Commit ws d e in
    subst (Tells (codes "commit" ∷ ws)) l.5 ((l.2, l.3), ap (λ (v : Words). codes "commit" ∷ v) l.4)

abort_found : (ws : Words) (d : Event) → log_after Abort ws ≡ Some d → Tells (codes "abort" ∷ ws) d
abort_found ws d e =
    let l = log_found Abort ws d e in
    subst (Tells (codes "abort" ∷ ws)) l.5 ((l.2, l.3), ap (λ (v : Words). codes "abort" ∷ v) l.4)

after_found : (k : Keyword) (ws : Words) (s : Statement) → statement_after k ws ≡ Some s → States (keyword_text k ∷ ws) s
after_found key.Plain ws s e = bare (codes "plain") ws Plain s (tt, refl) e
after_found key.House ws s e = bare (codes "house") ws House s (tt, refl) e
after_found key.Begin ws s e = bare (codes "begin") ws Begin s (tt, refl) e
after_found key.Ledger ws s e = declared (codes "ledger" ∷ ws) (ledger_after ws) s (ledger_found ws) e
after_found key.Open ws s e = declared (codes "open" ∷ ws) (open_after ws) s (open_found ws) e
after_found key.Deal ws s e = declared (codes "deal" ∷ ws) (deal_after ws) s (deal_found ws) e
after_found key.Register ws s e = happened (codes "register" ∷ ws) (register_after ws) s (register_found ws) e
after_found key.Escrow ws s e = happened (codes "escrow" ∷ ws) (escrow_after ws) s (escrow_found ws) e
after_found key.Transfer ws s e = happened (codes "transfer" ∷ ws) (transfer_after ws) s (transfer_found ws) e
after_found key.Start ws s e = happened (codes "start" ∷ ws) (log_after Start ws) s (start_found ws) e
after_found key.Commit ws s e = happened (codes "commit" ∷ ws) (log_after Commit ws) s (commit_found ws) e
after_found key.Abort ws s e = happened (codes "abort" ∷ ws) (log_after Abort ws) s (abort_found ws) e
after_found key.Claim ws s e = happened (codes "claim" ∷ ws) (claim_after ws) s (claim_found ws) e

pub words_found : (words : Words) (s : Statement) → statement_of_words words ≡ Some s → States words s
words_found [] s e = absurd cc
words_found (w ∷ ws) s e =
    let k = bind_some (keyword_of w) (λ keyword. statement_after keyword ws) s e in
    subst (λ (v : List ℕ). States (v ∷ ws) s) (sym (keyword_is w k.0 k.1)) (after_found k.0 ws s k.2)

-- ---- what is spelled so is read

keyed : (k : Keyword) (ws : Words) (s : Statement) → statement_after k ws ≡ Some s → statement_of_words (keyword_text k ∷ ws) ≡ Some s
keyed k ws s e = ap (λ (o : Option Keyword). o >>= λ keyword. statement_after keyword ws) (keyword_again k) ∙ e

ledger_only : (name : List ℕ) → IsTrue (is_name name) → ledger_after (name ∷ []) ≡ Some (Ledger name)
unfolding ledger_after
ledger_only name h = rw (name_again name [] h) refl

open_only : (ledger asset party : List ℕ) (amount : ℕ) → IsGoodDeclaration (Open ledger asset party amount) → open_after (ledger ∷ asset ∷ party ∷ decimal amount ∷ []) ≡ Some (Open ledger asset party amount)
unfolding open_after
open_only ledger asset party amount h =
    rw (name_again ledger (asset ∷ party ∷ decimal amount ∷ []) h.0, name_again asset (party ∷ decimal amount ∷ []) h.1, name_again party (decimal amount ∷ []) h.2, amount_again amount [] h.3) refl

deal_only : (name : List ℕ) (parties : Words) → IsGoodDeclaration (Deal name parties) → deal_after (name ∷ parties) ≡ Some (Deal name parties)
unfolding deal_after
deal_only name parties h = rw (name_again name parties h.0, h.1) refl

register_only : (ledger deal party : List ℕ) → IsGoodEvent (Register ledger deal party) → register_after (ledger ∷ deal ∷ party ∷ []) ≡ Some (Register ledger deal party)
unfolding register_after
register_only ledger deal party h = rw (name_again ledger (deal ∷ party ∷ []) h.0, name_again deal (party ∷ []) h.1, name_again party [] h.2) refl

escrow_only : (ledger deal party asset : List ℕ) (amount : ℕ) → IsGoodEvent (Escrow ledger deal party asset amount) → escrow_after (ledger ∷ deal ∷ party ∷ asset ∷ decimal amount ∷ []) ≡ Some (Escrow ledger deal party asset amount)
unfolding escrow_after
escrow_only ledger deal party asset amount h =
    rw (name_again ledger (deal ∷ party ∷ asset ∷ decimal amount ∷ []) h.0, name_again deal (party ∷ asset ∷ decimal amount ∷ []) h.1, name_again party (asset ∷ decimal amount ∷ []) h.2, name_again asset (decimal amount ∷ []) h.3, amount_again amount [] h.4) refl

transfer_only : (ledger deal from : List ℕ) (turn : Option ℕ) (to asset : List ℕ) (amount : ℕ) (number : List ℕ) → IsGoodEvent (Transfer ledger deal from turn to asset amount) → SpellsNumber turn number → transfer_after (ledger ∷ deal ∷ from ∷ number ∷ to ∷ asset ∷ decimal amount ∷ []) ≡ Some (Transfer ledger deal from turn to asset amount)
unfolding transfer_after
transfer_only ledger deal from turn to asset amount number h n =
    rw (name_again ledger (deal ∷ from ∷ number ∷ to ∷ asset ∷ decimal amount ∷ []) h.0, name_again deal (from ∷ number ∷ to ∷ asset ∷ decimal amount ∷ []) h.1, name_again from (number ∷ to ∷ asset ∷ decimal amount ∷ []) h.2, number_again turn number (to ∷ asset ∷ decimal amount ∷ []) n, name_again to (asset ∷ decimal amount ∷ []) h.3, name_again asset (decimal amount ∷ []) h.4, amount_again amount [] h.5) refl

log_only : (event : List ℕ → List ℕ → Event) (deal party : List ℕ) → IsTrue (is_name deal) → IsTrue (is_name party) → log_after event (deal ∷ party ∷ []) ≡ Some (event deal party)
unfolding log_after
log_only event deal party h i = rw (name_again deal (party ∷ []) h, name_again party [] i) refl

claim_only : (ledger deal : List ℕ) (len : Option ℕ) (number : List ℕ) → IsGoodEvent (Claim ledger deal len) → SpellsNumber len number → claim_after (ledger ∷ deal ∷ number ∷ []) ≡ Some (Claim ledger deal len)
unfolding claim_after
claim_only ledger deal len number h n =
    rw (name_again ledger (deal ∷ number ∷ []) h.0, name_again deal (number ∷ []) h.1, number_again len number [] n) refl

declaration_only : (d : Declaration) → IsGoodDeclaration d → statement_of_words (declaration_words d) ≡ Some (Declare d)
declaration_only (Ledger name) h = keyed key.Ledger _ _ (ap (option_map Declare) (ledger_only name h))
declaration_only (Open ledger asset party amount) h = keyed key.Open _ _ (ap (option_map Declare) (open_only ledger asset party amount h))
declaration_only (Deal name parties) h = keyed key.Deal _ _ (ap (option_map Declare) (deal_only name parties h))

event_only : (e : Event) (words : Words) → IsGoodEvent e → SpellsEvent e words → statement_of_words words ≡ Some (Happen e)
event_only (Register ledger deal party) words h w = ap statement_of_words w ∙ keyed key.Register _ _ (ap (option_map Happen) (register_only ledger deal party h))
event_only (Escrow ledger deal party asset amount) words h w = ap statement_of_words w ∙ keyed key.Escrow _ _ (ap (option_map Happen) (escrow_only ledger deal party asset amount h))
event_only (Transfer ledger deal from turn to asset amount) words h w = ap statement_of_words w.2 ∙ keyed key.Transfer _ _ (ap (option_map Happen) (transfer_only ledger deal from turn to asset amount w.0 h w.1))
event_only (Start deal party) words h w = ap statement_of_words w ∙ keyed key.Start _ _ (ap (option_map Happen) (log_only Start deal party h.0 h.1))
event_only (Commit deal party) words h w = ap statement_of_words w ∙ keyed key.Commit _ _ (ap (option_map Happen) (log_only Commit deal party h.0 h.1))
event_only (Abort deal party) words h w = ap statement_of_words w ∙ keyed key.Abort _ _ (ap (option_map Happen) (log_only Abort deal party h.0 h.1))
event_only (Claim ledger deal len) words h w = ap statement_of_words w.2 ∙ keyed key.Claim _ _ (ap (option_map Happen) (claim_only ledger deal len w.0 h w.1))

pub words_only : (s : Statement) (words : Words) → States words s → statement_of_words words ≡ Some s
words_only Plain words h = ap statement_of_words h.1 ∙ keyed key.Plain [] Plain refl
words_only House words h = ap statement_of_words h.1 ∙ keyed key.House [] House refl
words_only (Declare d) words h = ap statement_of_words h.1 ∙ declaration_only d h.0
words_only Begin words h = ap statement_of_words h.1 ∙ keyed key.Begin [] Begin refl
words_only (Happen e) words h = event_only e words h.0 h.1
