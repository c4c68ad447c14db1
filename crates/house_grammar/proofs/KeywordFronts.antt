-- The word with which a line or a text begins says how the rest is read.
use Rattle.std.proofs.Common.{◌≡◌, ℕ, Option, Some, None, List, [], ◌∷◌, refl}
use Rattle.std.specs.Prelude.{option_map, codes}
use Rattle.line_text.proofs.WordReading.{Words}
use Rattle.house_words.specs.Keywords.{declaration_text, declaration_keyword, building_text, building_keyword, text_text, text_keyword, event_text, event_keyword}
use Rattle.house_grammar.specs.Said.{line_of_words}
use Rattle.house_grammar.specs.SaidDeclarations.{declaration_after}
use Rattle.house_grammar.specs.SaidBuildings.{building_after}
use Rattle.house_grammar.specs.SaidTexts.{text_after, forged_text}
use Rattle.house_grammar.specs.SaidEvents.{event_after}
use Rattle.house_grammar.specs.declared.forged_text.ForgedText.{ForgedText}
use Rattle.house_grammar.specs.declared.house_line.HouseLine.{HouseLine}
use Rattle.house_grammar.specs.declared.house_line.HouseLine.TheVariants.{Declare, Build, Happen}
use Rattle.house_words.specs.declared.keyword.DeclarationKeyword.{DeclarationKeyword}
use Rattle.house_words.specs.declared.keyword.DeclarationKeyword.TheVariants as declare
use Rattle.house_words.specs.declared.keyword.BuildingKeyword.{BuildingKeyword}
use Rattle.house_words.specs.declared.keyword.BuildingKeyword.TheVariants as build
use Rattle.house_words.specs.declared.keyword.TextKeyword.{TextKeyword}
use Rattle.house_words.specs.declared.keyword.TextKeyword.TheVariants as say
use Rattle.house_words.specs.declared.keyword.EventKeyword.{EventKeyword}
use Rattle.house_words.specs.declared.keyword.EventKeyword.TheVariants as happen

pub declaration_front : (k : DeclarationKeyword) (ws : Words) → line_of_words (declaration_text k ∷ ws) ≡ option_map Declare (declaration_after k ws)
unfolding line_of_words declaration_keyword
declaration_front declare.Party ws = refl
declaration_front declare.Seat ws = refl
declaration_front declare.Set ws = refl
declaration_front declare.Ledger ws = refl
declaration_front declare.Open ws = refl
declaration_front declare.Deal ws = refl
declaration_front declare.Step ws = refl

pub building_front : (k : BuildingKeyword) (ws : Words) → line_of_words (building_text k ∷ ws) ≡ option_map Build (building_after k ws)
unfolding line_of_words declaration_keyword building_keyword
building_front build.Forge ws = refl
building_front build.Flip ws = refl
building_front build.Log ws = refl
building_front build.Record ws = refl
building_front build.Take ws = refl
building_front build.Claim ws = refl
building_front build.Cut ws = refl
building_front build.Link ws = refl
building_front build.LinkBy ws = refl
building_front build.By ws = refl
building_front build.Term ws = refl
building_front build.StatusClaim ws = refl

pub text_front : (k : TextKeyword) (ws : Words) → forged_text (text_text k ∷ ws) ≡ text_after k ws
unfolding forged_text text_keyword
text_front say.Register ws = refl
text_front say.Pay ws = refl
text_front say.Escrow ws = refl
text_front say.Transfer ws = refl
text_front say.Start ws = refl
text_front say.Vote ws = refl
text_front say.Prefix ws = refl
text_front say.Handover ws = refl
text_front say.Status ws = refl
text_front say.Bytes ws = refl

pub event_front : (k : EventKeyword) (ws : Words) → line_of_words (event_text k ∷ ws) ≡ option_map Happen (event_after k ws)
unfolding line_of_words declaration_keyword building_keyword event_keyword
event_front happen.Deliver ws = refl
event_front happen.Show ws = refl
event_front happen.Ask ws = refl
event_front happen.Join ws = refl
event_front happen.Next ws = refl
event_front happen.Again ws = refl
event_front happen.Start ws = refl
event_front happen.Commit ws = refl
event_front happen.Abort ws = refl
event_front happen.Tick ws = refl
event_front happen.Hear ws = refl
event_front happen.Enter ws = refl
event_front happen.Prefix ws = refl
event_front happen.Handover ws = refl
event_front happen.Install ws = refl
event_front happen.Fail ws = refl
event_front happen.Stop ws = refl
event_front happen.Reopen ws = refl
event_front happen.Status ws = refl
