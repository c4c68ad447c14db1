-- The words with which lines and texts begin.
use Rattle.std.specs.Prelude.{ℕ, if◌then◌else◌, List, [], ◌∷◌, Option, Some, None, codes}
use Rattle.std.specs.Str.{bytes_eq}
use Rattle.house_words.specs.declared.keyword.DeclarationKeyword.{DeclarationKeyword}
use Rattle.house_words.specs.declared.keyword.DeclarationKeyword.TheVariants as declare
use Rattle.house_words.specs.declared.keyword.BuildingKeyword.{BuildingKeyword}
use Rattle.house_words.specs.declared.keyword.BuildingKeyword.TheVariants as build
use Rattle.house_words.specs.declared.keyword.TextKeyword.{TextKeyword}
use Rattle.house_words.specs.declared.keyword.TextKeyword.TheVariants as say
use Rattle.house_words.specs.declared.keyword.EventKeyword.{EventKeyword}
use Rattle.house_words.specs.declared.keyword.EventKeyword.TheVariants as happen

-- the first of the keywords of which the word is the text
abbrev pub keyword_among : {K : Type 0} → (K → List ℕ) → List K → List ℕ → Option K
keyword_among text [] word = None
keyword_among text (keyword ∷ keywords) word =
    if bytes_eq word (text keyword) then Some keyword else keyword_among text keywords word

abbrev pub either_keyword : {K : Type 0} → Option K → Option K → Option K
either_keyword (Some keyword) other = Some keyword
either_keyword None other = other

abbrev pub declaration_text : DeclarationKeyword → List ℕ
declaration_text declare.Party = codes "party"
declaration_text declare.Seat = codes "seat"
declaration_text declare.Set = codes "set"
declaration_text declare.Ledger = codes "ledger"
declaration_text declare.Open = codes "open"
declaration_text declare.Deal = codes "deal"
declaration_text declare.Step = codes "step"

abbrev pub declaration_keywords : List DeclarationKeyword
declaration_keywords =
    declare.Party ∷ declare.Seat ∷ declare.Set ∷ declare.Ledger ∷ declare.Open ∷ declare.Deal
    ∷ declare.Step ∷ []

unfoldable pub declaration_keyword : List ℕ → Option DeclarationKeyword
declaration_keyword word = keyword_among declaration_text declaration_keywords word

abbrev pub building_text : BuildingKeyword → List ℕ
building_text build.Forge = codes "forge"
building_text build.Flip = codes "flip"
building_text build.Log = codes "log"
building_text build.Record = codes "rec"
building_text build.Take = codes "take"
building_text build.Claim = codes "claim"
building_text build.Cut = codes "cut"
building_text build.Link = codes "link"
building_text build.LinkBy = codes "linkby"
building_text build.By = codes "by"
building_text build.Term = codes "term"
building_text build.StatusClaim = codes "sclaim"

-- lines that build envelopes, lists of records and terms
abbrev pub list_building_keywords : List BuildingKeyword
list_building_keywords =
    build.Forge ∷ build.Flip ∷ build.Log ∷ build.Record ∷ build.Take ∷ build.Term ∷ []

abbrev pub list_building_keyword : List ℕ → Option BuildingKeyword
list_building_keyword word = keyword_among building_text list_building_keywords word

-- lines that build claims
abbrev pub claim_building_keywords : List BuildingKeyword
claim_building_keywords =
    build.Claim ∷ build.Cut ∷ build.Link ∷ build.LinkBy ∷ build.By ∷ build.StatusClaim ∷ []

abbrev pub claim_building_keyword : List ℕ → Option BuildingKeyword
claim_building_keyword word = keyword_among building_text claim_building_keywords word

unfoldable pub building_keyword : List ℕ → Option BuildingKeyword
building_keyword word =
    either_keyword (list_building_keyword word) (claim_building_keyword word)

abbrev pub text_text : TextKeyword → List ℕ
text_text say.Register = codes "register"
text_text say.Pay = codes "pay"
text_text say.Escrow = codes "escrow"
text_text say.Transfer = codes "transfer"
text_text say.Start = codes "start"
text_text say.Vote = codes "vote"
text_text say.Prefix = codes "prefix"
text_text say.Handover = codes "handover"
text_text say.Status = codes "status"
text_text say.Bytes = codes "bytes"

abbrev pub text_keywords : List TextKeyword
text_keywords =
    say.Register ∷ say.Pay ∷ say.Escrow ∷ say.Transfer ∷ say.Start ∷ say.Vote ∷ say.Prefix
    ∷ say.Handover ∷ say.Status ∷ say.Bytes ∷ []

unfoldable pub text_keyword : List ℕ → Option TextKeyword
text_keyword word = keyword_among text_text text_keywords word

abbrev pub event_text : EventKeyword → List ℕ
event_text happen.Deliver = codes "deliver"
event_text happen.Show = codes "show"
event_text happen.Ask = codes "ask"
event_text happen.Join = codes "join"
event_text happen.Next = codes "next"
event_text happen.Again = codes "again"
event_text happen.Start = codes "start"
event_text happen.Commit = codes "commit"
event_text happen.Abort = codes "abort"
event_text happen.Tick = codes "tick"
event_text happen.Hear = codes "hear"
event_text happen.Enter = codes "enter"
event_text happen.Prefix = codes "prefix"
event_text happen.Handover = codes "handover"
event_text happen.Install = codes "install"
event_text happen.Fail = codes "fail"
event_text happen.Stop = codes "stop"
event_text happen.Reopen = codes "reopen"
event_text happen.Status = codes "status"

-- events of ledgers and parties
abbrev pub party_event_keywords : List EventKeyword
party_event_keywords =
    happen.Deliver ∷ happen.Show ∷ happen.Ask ∷ happen.Join ∷ happen.Next ∷ happen.Again
    ∷ happen.Start ∷ happen.Commit ∷ happen.Abort ∷ happen.Tick ∷ happen.Hear ∷ []

abbrev pub party_event_keyword : List ℕ → Option EventKeyword
party_event_keyword word = keyword_among event_text party_event_keywords word

-- events of seats, and of any node
abbrev pub seat_event_keywords : List EventKeyword
seat_event_keywords =
    happen.Enter ∷ happen.Prefix ∷ happen.Handover ∷ happen.Install ∷ happen.Fail ∷ happen.Stop
    ∷ happen.Reopen ∷ happen.Status ∷ []

abbrev pub seat_event_keyword : List ℕ → Option EventKeyword
seat_event_keyword word = keyword_among event_text seat_event_keywords word

unfoldable pub event_keyword : List ℕ → Option EventKeyword
event_keyword word = either_keyword (party_event_keyword word) (seat_event_keyword word)
