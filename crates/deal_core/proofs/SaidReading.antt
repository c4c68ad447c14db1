-- What a line says is spelled by its words.
use Rattle.std.proofs.Common.{◌≡◌, ℕ, Some, None, List, [], ◌∷◌, ap, subst, ◌∙◌}
use Rattle.std.specs.Prelude.{codes}
use Rattle.std.specs.Fmt.{decimal}
use Rattle.dh_base.specs.Spelled.{hex_text}
use Rattle.line_text.specs.Reading.{◌>>=◌, name_word, amount_word, id_word, ended}
use Rattle.deal_core.specs.DealText.{party_words}
use Rattle.deal_core.specs.Said.{deal_after, house_after, party_after, step_after, said_after, said_of_words}
use Rattle.deal_core.specs.declared.deal_line.DealLine.{DealLine}
use Rattle.deal_core.specs.declared.deal_line.DealLine.TheVariants.{Deal, House, Party, Step}
use Rattle.line_text.proofs.WordReading.{Words, bind_some, one_more, read_end, name_taken, amount_taken, id_taken}
use Rattle.deal_core.proofs.Keywords.{keyword_or}

-- the words of a line
abbrev pub said_words : DealLine → Words
said_words (Deal name) = codes "deal" ∷ name ∷ []
said_words (House house) = codes "house" ∷ hex_text house.0 ∷ []
said_words (Party party) = party_words party
said_words (Step step) = codes "step" ∷ step.from ∷ step.to ∷ step.ledger ∷ step.asset ∷ decimal step.amount ∷ []

abbrev Spells : Words → DealLine → Type 0
Spells words said = words ≡ said_words said

deal_found : (ws : Words) (d : DealLine) → deal_after ws ≡ Some d → Spells (codes "deal" ∷ ws) d
unfolding deal_after
deal_found ws d e =
    let a = bind_some (name_word ws) (λ name. ended name.1 (Deal name.0)) d e in
    let z = read_end a.0.1 (Deal a.0.0) d a.2 in
    subst (Spells (codes "deal" ∷ ws)) z.1 (ap (λ (v : Words). codes "deal" ∷ v) (one_more a.0.0 ws a.0.1 [] (name_taken ws a.0 a.1).0 z.0))

house_found : (ws : Words) (d : DealLine) → house_after ws ≡ Some d → Spells (codes "house" ∷ ws) d
unfolding house_after
house_found ws d e =
    let a = bind_some (id_word ws) (λ house. ended house.1 (House house.0)) d e in
    let z = read_end a.0.1 (House a.0.0) d a.2 in
    subst (Spells (codes "house" ∷ ws)) z.1 (ap (λ (v : Words). codes "house" ∷ v) (one_more (hex_text a.0.0.0) ws a.0.1 [] (id_taken ws a.0 a.1) z.0))

party_found : (ws : Words) (d : DealLine) → party_after ws ≡ Some d → Spells (codes "party" ∷ ws) d
unfolding party_after
party_found ws d e =
    let a = bind_some (name_word ws) (λ name. id_word name.1 >>= λ account. ended account.1 (Party (record { name = name.0; account = account.0 }))) d e in
    let b = bind_some (id_word a.0.1) (λ account. ended account.1 (Party (record { name = a.0.0; account = account.0 }))) d a.2 in
    let z = read_end b.0.1 (Party (record { name = a.0.0; account = b.0.0 })) d b.2 in
    subst (Spells (codes "party" ∷ ws)) z.1 (ap (λ (v : Words). codes "party" ∷ v) (one_more a.0.0 ws a.0.1 (hex_text b.0.0.0 ∷ []) (name_taken ws a.0 a.1).0 (one_more (hex_text b.0.0.0) a.0.1 b.0.1 [] (id_taken a.0.1 b.0 b.1) z.0)))

step_found : (ws : Words) (d : DealLine) → step_after ws ≡ Some d → Spells (codes "step" ∷ ws) d
unfolding step_after
step_found ws d e =
    let a = bind_some (name_word ws) (λ from. name_word from.1 >>= λ to. name_word to.1 >>= λ ledger. name_word ledger.1 >>= λ asset. amount_word asset.1 >>= λ amount. ended amount.1 (Step (record { from = from.0; to = to.0; ledger = ledger.0; asset = asset.0; amount = amount.0 }))) d e in
    let b = bind_some (name_word a.0.1) (λ to. name_word to.1 >>= λ ledger. name_word ledger.1 >>= λ asset. amount_word asset.1 >>= λ amount. ended amount.1 (Step (record { from = a.0.0; to = to.0; ledger = ledger.0; asset = asset.0; amount = amount.0 }))) d a.2 in
    let p = bind_some (name_word b.0.1) (λ ledger. name_word ledger.1 >>= λ asset. amount_word asset.1 >>= λ amount. ended amount.1 (Step (record { from = a.0.0; to = b.0.0; ledger = ledger.0; asset = asset.0; amount = amount.0 }))) d b.2 in
    let s = bind_some (name_word p.0.1) (λ asset. amount_word asset.1 >>= λ amount. ended amount.1 (Step (record { from = a.0.0; to = b.0.0; ledger = p.0.0; asset = asset.0; amount = amount.0 }))) d p.2 in
    let m = bind_some (amount_word s.0.1) (λ amount. ended amount.1 (Step (record { from = a.0.0; to = b.0.0; ledger = p.0.0; asset = s.0.0; amount = amount.0 }))) d s.2 in
    let z = read_end m.0.1 (Step (record { from = a.0.0; to = b.0.0; ledger = p.0.0; asset = s.0.0; amount = m.0.0 })) d m.2 in
    let words : ws ≡ a.0.0 ∷ b.0.0 ∷ p.0.0 ∷ s.0.0 ∷ decimal m.0.0 ∷ [] =
    one_more a.0.0 ws a.0.1 (b.0.0 ∷ p.0.0 ∷ s.0.0 ∷ decimal m.0.0 ∷ []) (name_taken ws a.0 a.1).0 (one_more b.0.0 a.0.1 b.0.1 (p.0.0 ∷ s.0.0 ∷ decimal m.0.0 ∷ []) (name_taken a.0.1 b.0 b.1).0 (one_more p.0.0 b.0.1 p.0.1 (s.0.0 ∷ decimal m.0.0 ∷ []) (name_taken b.0.1 p.0 p.1).0 (one_more s.0.0 p.0.1 s.0.1 (decimal m.0.0 ∷ []) (name_taken p.0.1 s.0 s.1).0 (one_more (decimal m.0.0) s.0.1 m.0.1 [] (amount_taken s.0.1 m.0 m.1).0 z.0)))) in
    subst (Spells (codes "step" ∷ ws)) z.1 (ap (λ (v : Words). codes "step" ∷ v) words)

after_found : (w : List ℕ) (ws : Words) (d : DealLine) → said_after w ws ≡ Some d → Spells (w ∷ ws) d
after_found w ws d e =
    let P : Type 0 = Spells (w ∷ ws) d in
    let front : (key : List ℕ) → w ≡ key → Spells (key ∷ ws) d → P = λ key is h. ap (λ (v : List ℕ). v ∷ ws) is ∙ h in
    keyword_or w (codes "deal") (deal_after ws) _ d P e (λ is f. front (codes "deal") is (deal_found ws d f)) (λ e.
    keyword_or w (codes "house") (house_after ws) _ d P e (λ is f. front (codes "house") is (house_found ws d f)) (λ e.
    keyword_or w (codes "party") (party_after ws) _ d P e (λ is f. front (codes "party") is (party_found ws d f)) (λ e.
    keyword_or w (codes "step") (step_after ws) None d P e (λ is f. front (codes "step") is (step_found ws d f)) (λ none. absurd cc))))

pub words_found : (ws : Words) (d : DealLine) → said_of_words ws ≡ Some d → ws ≡ said_words d
words_found [] d e = absurd cc
words_found (w ∷ ws) d e = after_found w ws d e
