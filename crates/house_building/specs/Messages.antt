-- The messages of forged envelopes, or the rule that a text breaks.
use Rattle.std.specs.Prelude.{ℕ, nat_lt, if◌then◌else◌, List, length, Option, Some, None, Result, Ok, Err}
use Rattle.act_text.specs.declared.act.Act.{Act}
use Rattle.act_text.specs.declared.act.Act.TheVariants as act
use Rattle.act_text.specs.ActTexts.{act_text}
use Rattle.dh_base.specs.declared.id.Id.{Id}
use Rattle.house_grammar.specs.declared.forged_text.ForgedText.{ForgedText}
use Rattle.house_grammar.specs.declared.forged_text.ForgedText.TheVariants.{Register, Pay, Escrow, Transfer, Bytes}
use Rattle.house_holders.specs.Holders.{account_named}
use Rattle.house_texts.specs.Settings.{SettingTold, deal_found}
use Rattle.house_texts.specs.declared.deals.DealText.{DealText}
use Rattle.script_lines.specs.declared.rule.ScriptRule.{ScriptRule}
use Rattle.script_lines.specs.declared.rule.ScriptRule.TheVariants.{UnknownName, TooMany, OutOfRange, NotBuilt}

-- the most bytes of a message
abbrev pub most_message : ℕ
most_message = 16384

abbrev pub act_message : Act → Result (List ℕ) ScriptRule
act_message act = Ok (act_text act)

abbrev pub registering : Option DealText → Result (List ℕ) ScriptRule
registering None = Err UnknownName
registering (Some deal) =
    if nat_lt most_message (length deal.text) then Err TooMany
    else act_message (act.Register deal.text)

abbrev pub escrowing : Option DealText → List ℕ → List ℕ → ℕ → Result (List ℕ) ScriptRule
escrowing None ledger asset amount = Err UnknownName
escrowing (Some deal) ledger asset amount =
    act_message (act.Escrow deal.id ledger asset amount)

abbrev pub transfer_at : Id → List ℕ → Option ℕ → Id → List ℕ → ℕ → Result (List ℕ) ScriptRule
transfer_at deal ledger None to asset amount = Err OutOfRange
transfer_at deal ledger (Some turn) to asset amount =
    act_message (act.Transfer deal ledger turn to asset amount)

abbrev pub transferring : Option DealText → List ℕ → Option ℕ → Id → List ℕ → ℕ
    → Result (List ℕ) ScriptRule
transferring None ledger turn to asset amount = Err UnknownName
transferring (Some deal) ledger turn to asset amount =
    transfer_at deal.id ledger turn to asset amount

-- in the names of a script
abbrev pub message_of : SettingTold → ForgedText → Result (List ℕ) ScriptRule
message_of setting (Register deal) = registering (deal_found setting deal)
message_of setting (Pay ledger to asset amount) =
    act_message
    (act.Pay setting.house ledger (account_named setting.holders to) asset amount)
message_of setting (Escrow deal ledger asset amount) =
    escrowing (deal_found setting deal) ledger asset amount
message_of setting (Transfer deal ledger turn to asset amount) =
    transferring (deal_found setting deal) ledger turn (account_named setting.holders to) asset
    amount
message_of setting (Bytes message) = Ok message
message_of setting _ = Err NotBuilt
