-- From a whole draft to its deal.
use Rattle.std.proofs.Common.{◌≡◌, ℕ, ◌==◌, Bool, false, Option, Some, List, [], ◌∷◌, length, Ok, refl, sym, ap, subst, ◌∙◌}
use Rattle.sha2.specs.Sha256.{sha256}
use Rattle.dh_base.specs.declared.id.Id.{Id}
use Rattle.deal_core.specs.Deals.{IsFirstApart, IsConnected}
use Rattle.deal_core.specs.DealText.{deal_text}
use Rattle.deal_core.specs.Kept.{IsDraft, IsDeal}
use Rattle.deal_core.specs.Drafts.{Draft, is_empty, whole, reading_of}
use Rattle.deal_core.specs.Reading.{IsWholeText, IsApart}
use Rattle.deal_core.specs.declared.party.Party.{Party}
use Rattle.deal_core.specs.declared.step.Step.{Step}
use Rattle.line_text.proofs.WordReading.{some_is}

abbrev pub made : List ℕ → Id → List Party → List Step → Draft
made name house parties steps = record { name = Some name; house = Some house; parties = parties; steps = steps }

pub made_is : (name : Option (List ℕ)) (house : Option Id) (n : List ℕ) (h : Id) (parties : List Party) (steps : List Step) → name ≡ Some n → house ≡ Some h → record { name = name; house = house; parties = parties; steps = steps } ≡ made n h parties steps
made_is name house n h parties steps e f = rw (e, f) refl

pub read_whole : (text : List ℕ) (draft : Draft) (n : List ℕ) (h : Id) (parties : List Party) (steps : List Step) → draft ≡ made n h parties steps → reading_of text ≡ whole draft → is_empty steps ≡ false → reading_of text ≡ Ok (made n h parties steps)
read_whole text draft n h parties steps is read some = read ∙ (ap whole is ∙ rw some refl)

pub not_empty : (xs ys : List Step) (r : Bool) → r ≡ (length xs == 0) → r ≡ false → xs ≡ ys → is_empty ys ≡ false
not_empty [] ys r e f same = absurd cc
not_empty (x ∷ xs) ys r e f same = ap is_empty (sym same)

pub first_same : (ss steps : List Step) (ps parties : List Party) (party : ℕ) → ss ≡ steps → ps ≡ parties → IsFirstApart ss (length ps) party → IsFirstApart steps (length parties) party
first_same ss steps ps parties party e f h = subst (λ (xs : List Step). IsFirstApart xs (length parties) party) e (subst (λ (xs : List Party). IsFirstApart ss (length xs) party) f h)

pub connected_same : (ss steps : List Step) (ps parties : List Party) → ss ≡ steps → ps ≡ parties → IsConnected ss (length ps) → IsConnected steps (length parties)
connected_same ss steps ps parties e f h = subst (λ (xs : List Step). IsConnected xs (length parties)) e (subst (λ (xs : List Party). IsConnected ss (length xs)) f h)

pub apart : (text : List ℕ) (n : List ℕ) (h : Id) (parties : List Party) (steps : List Step) (party : ℕ) → reading_of text ≡ Ok (made n h parties steps) → IsFirstApart steps (length parties) party → IsApart text party
apart text n h parties steps party read first = record { draft = made n h parties steps; read = read; first = first }

pub is_text : (text : List ℕ) (n : List ℕ) (h : Id) (parties : List Party) (steps : List Step) (id : Id) → IsWholeText (made n h parties steps) text → text ≡ deal_text (record { id = id; house = h; name = n; parties = parties; steps = steps })
is_text text n h parties steps id w =
    w.spelled id ∙ (ap (λ (x : List ℕ). deal_text (record { id = id; house = w.house; name = x; parties = parties; steps = steps })) (sym (some_is n w.name w.named)) ∙ ap (λ (x : Id). deal_text (record { id = id; house = x; name = n; parties = parties; steps = steps })) (sym (some_is h w.house w.housed)))

pub is_deal : (text : List ℕ) (n : List ℕ) (h : Id) (parties : List Party) (steps : List Step) (id : Id) → IsWholeText (made n h parties steps) text → IsDraft parties steps → IsConnected steps (length parties) → id.0 ≡ sha256 text → IsDeal (record { id = id; house = h; name = n; parties = parties; steps = steps })
is_deal text n h parties steps id w kept connected digest = record {
  parties = w.parties;
  steps = w.steps;
  kept = kept;
  connected = connected;
  id = digest ∙ ap sha256 (is_text text n h parties steps id w);
}
