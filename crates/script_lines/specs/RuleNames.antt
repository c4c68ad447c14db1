-- The rules by their numbers and names, and the text that tells a refused line.
use Rattle.std.specs.Prelude.{ℕ, List, ◌∷◌, ◌++◌, codes}
use Rattle.std.specs.Fmt.{decimal}
use Rattle.script_lines.specs.declared.rule.ScriptRule.{ScriptRule}
use Rattle.script_lines.specs.declared.rule.ScriptRule.TheVariants.{BadLine, NameTwice, UnknownName, BadDeal, BadSet, TooManyDeviants, BadOpening, NotANode, TooMany, OutOfRange, TooLarge, NotBuilt}

abbrev pub rule_number : ScriptRule → ℕ
rule_number BadLine = 1
rule_number NameTwice = 2
rule_number UnknownName = 3
rule_number BadDeal = 4
rule_number BadSet = 5
rule_number TooManyDeviants = 6
rule_number BadOpening = 7
rule_number NotANode = 8
rule_number TooMany = 9
rule_number OutOfRange = 10
rule_number TooLarge = 11
rule_number NotBuilt = 12

abbrev pub rule_name : ScriptRule → List ℕ
rule_name BadLine = codes "BadLine"
rule_name NameTwice = codes "NameTwice"
rule_name UnknownName = codes "UnknownName"
rule_name BadDeal = codes "BadDeal"
rule_name BadSet = codes "BadSet"
rule_name TooManyDeviants = codes "TooManyDeviants"
rule_name BadOpening = codes "BadOpening"
rule_name NotANode = codes "NotANode"
rule_name TooMany = codes "TooMany"
rule_name OutOfRange = codes "OutOfRange"
rule_name TooLarge = codes "TooLarge"
rule_name NotBuilt = codes "NotBuilt"

-- the line's number, the rule's number and the rule's name
abbrev pub refused_text : ℕ → ScriptRule → List ℕ
refused_text line rule =
    codes "line " ++ decimal line ++ codes " rule " ++ decimal (rule_number rule)
    ++ (32 ∷ rule_name rule)
