-- What the readers of keywords take, and that they take again what was spelled.
use Rattle.std.proofs.Common.{◌≡◌, ℕ, ◌<◌, ◌^◌, Bool, true, false, cond, ltb, Option, Some, None, List, [], ◌∷◌, refl, ap, subst, ◌∙◌, arith}
use Rattle.std.specs.Str.{bytes_eq}
use Rattle.std.proofs.lemmas.Bool.{ltb-true, ltb-false, lt-ltb, le-ltb}
use Rattle.std.proofs.lemmas.Slice.Eq.{bytes_eq-Decides}
use Rattle.line_text.proofs.WordReading.{Words, bind_some, some_is}
use Rattle.plain_script.specs.Said.{keyword_text, opening_keyword, event_keyword, either_keyword, keyword_of}
use Rattle.plain_script.specs.declared.keyword.Keyword.{Keyword}
use Rattle.plain_script.specs.declared.keyword.Keyword.TheVariants as key

-- ---- keywords

key_step : (w : List ℕ) (here k : Keyword) (other : Option Keyword) → cond (bytes_eq w (keyword_text here)) (Some here) other ≡ Some k → (other ≡ Some k → w ≡ keyword_text k) → w ≡ keyword_text k
key_step w here k other e later = by_test (bytes_eq w (keyword_text here)) refl e
  where
    by_test : (b : Bool) → bytes_eq w (keyword_text here) ≡ b → cond b (Some here) other ≡ Some k → w ≡ keyword_text k
    by_test true h f = (bytes_eq-Decides w (keyword_text here)).0 h ∙ ap keyword_text (some_is here k f)
    by_test false h f = later f

opening_is : (w : List ℕ) (k : Keyword) → opening_keyword w ≡ Some k → w ≡ keyword_text k
opening_is w k e =
    key_step w key.Plain k _ e (λ e. key_step w key.House k _ e (λ e. key_step w key.Begin k _ e (λ e. key_step w key.Ledger k _ e (λ e. key_step w key.Open k _ e (λ e. key_step w key.Deal k _ e (λ none. absurd cc))))))

event_is : (w : List ℕ) (k : Keyword) → event_keyword w ≡ Some k → w ≡ keyword_text k
event_is w k e =
    key_step w key.Register k _ e (λ e. key_step w key.Escrow k _ e (λ e. key_step w key.Transfer k _ e (λ e. key_step w key.Start k _ e (λ e. key_step w key.Commit k _ e (λ e. key_step w key.Abort k _ e (λ e. key_step w key.Claim k _ e (λ none. absurd cc)))))))

pub keyword_is : (w : List ℕ) (k : Keyword) → keyword_of w ≡ Some k → w ≡ keyword_text k
unfolding keyword_of
keyword_is w k e = either (opening_keyword w) (event_keyword w) (opening_is w k) (event_is w k) e
  where
    either : (o p : Option Keyword) → (o ≡ Some k → w ≡ keyword_text k) → (p ≡ Some k → w ≡ keyword_text k) → either_keyword o p ≡ Some k → w ≡ keyword_text k
    either (Some j) p f g h = f h
    either None p f g h = g h

pub keyword_again : (k : Keyword) → keyword_of (keyword_text k) ≡ Some k
unfolding keyword_of
keyword_again key.Plain = refl
keyword_again key.House = refl
keyword_again key.Begin = refl
keyword_again key.Ledger = refl
keyword_again key.Open = refl
keyword_again key.Deal = refl
keyword_again key.Register = refl
keyword_again key.Escrow = refl
keyword_again key.Transfer = refl
keyword_again key.Start = refl
keyword_again key.Commit = refl
keyword_again key.Abort = refl
keyword_again key.Claim = refl
