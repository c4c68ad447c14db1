-- A word that is read as a keyword is the keyword's text.
use Rattle.std.proofs.Common.{◌≡◌, ℕ, Bool, true, false, cond, Option, Some, None, List, [], ◌∷◌, refl, ap, ◌∙◌}
use Rattle.std.specs.Str.{bytes_eq}
use Rattle.std.proofs.lemmas.Slice.Eq.{bytes_eq-Decides}
use Rattle.line_text.proofs.WordReading.{some_is}
use Rattle.house_words.specs.Keywords.{keyword_among, either_keyword, declaration_keywords, list_building_keywords, claim_building_keywords, text_keywords, party_event_keywords, seat_event_keywords, declaration_text, declaration_keyword, building_text, list_building_keyword, claim_building_keyword, building_keyword, text_text, text_keyword, event_text, party_event_keyword, seat_event_keyword, event_keyword}
use Rattle.house_words.specs.declared.keyword.DeclarationKeyword.{DeclarationKeyword}
use Rattle.house_words.specs.declared.keyword.BuildingKeyword.{BuildingKeyword}
use Rattle.house_words.specs.declared.keyword.TextKeyword.{TextKeyword}
use Rattle.house_words.specs.declared.keyword.EventKeyword.{EventKeyword}

one_step : {K : Type 0} (text : K → List ℕ) (w : List ℕ) (here k : K) (other : Option K) → (other ≡ Some k → w ≡ text k) → cond (bytes_eq w (text here)) (Some here) other ≡ Some k → w ≡ text k
one_step text w here k other later e = by_test (bytes_eq w (text here)) refl e
  where
    by_test : (b : Bool) → bytes_eq w (text here) ≡ b → cond b (Some here) other ≡ Some k → w ≡ text k
    by_test true h f = (bytes_eq-Decides w (text here)).0 h ∙ ap text (some_is here k f)
    by_test false h f = later f

among_is : {K : Type 0} (text : K → List ℕ) (ks : List K) (w : List ℕ) (k : K) → keyword_among text ks w ≡ Some k → w ≡ text k
among_is text [] w k e = absurd cc
among_is text (here ∷ ks) w k e = one_step text w here k (keyword_among text ks w) (among_is text ks w k) e

either_is : {K : Type 0} (text : K → List ℕ) (o p : Option K) (w : List ℕ) (k : K) → (o ≡ Some k → w ≡ text k) → (p ≡ Some k → w ≡ text k) → either_keyword o p ≡ Some k → w ≡ text k
either_is text (Some j) p w k f g e = f e
either_is text None p w k f g e = g e

pub declaration_is : (w : List ℕ) (k : DeclarationKeyword) → declaration_keyword w ≡ Some k → w ≡ declaration_text k
unfolding declaration_keyword
declaration_is w k e = among_is declaration_text declaration_keywords w k e

pub building_is : (w : List ℕ) (k : BuildingKeyword) → building_keyword w ≡ Some k → w ≡ building_text k
unfolding building_keyword
building_is w k e = either_is building_text (list_building_keyword w) (claim_building_keyword w) w k (among_is building_text list_building_keywords w k) (among_is building_text claim_building_keywords w k) e

pub text_is : (w : List ℕ) (k : TextKeyword) → text_keyword w ≡ Some k → w ≡ text_text k
unfolding text_keyword
text_is w k e = among_is text_text text_keywords w k e

pub event_is : (w : List ℕ) (k : EventKeyword) → event_keyword w ≡ Some k → w ≡ event_text k
unfolding event_keyword
event_is w k e = either_is event_text (party_event_keyword w) (seat_event_keyword w) w k (among_is event_text party_event_keywords w k) (among_is event_text seat_event_keywords w k) e
