-- The rules that a QIR text may break, with the numbers and names that users see.
use Rattle.std.specs.Prelude.{ℕ, List, codes}
use Rattle.qir_lexer.specs.declared.rule.TextRule.{TextRule}
use Rattle.qir_lexer.specs.declared.rule.TextRule.TheVariants.{TooLong, BadCharacter, OpenString, NumberForm, Syntax, NumberOrder, LabelLength, UnknownFunction, SignatureWrong, UnknownInstruction, UnknownProfile, TrailingText}
use Rattle.qir_lexer.specs.declared.rule.TextRefusal.{TextRefusal}
use Rattle.qir_module.specs.Tokens.{Breach}

abbrev pub number_of : TextRule → ℕ
number_of TooLong = 1
number_of BadCharacter = 2
number_of OpenString = 3
number_of NumberForm = 4
number_of Syntax = 5
number_of NumberOrder = 6
number_of LabelLength = 7
number_of UnknownFunction = 8
number_of SignatureWrong = 9
number_of UnknownInstruction = 10
number_of UnknownProfile = 11
number_of TrailingText = 12

abbrev pub name_of : TextRule → List ℕ
name_of TooLong = codes "TooLong"
name_of BadCharacter = codes "BadCharacter"
name_of OpenString = codes "OpenString"
name_of NumberForm = codes "NumberForm"
name_of Syntax = codes "Syntax"
name_of NumberOrder = codes "NumberOrder"
name_of LabelLength = codes "LabelLength"
name_of UnknownFunction = codes "UnknownFunction"
name_of SignatureWrong = codes "SignatureWrong"
name_of UnknownInstruction = codes "UnknownInstruction"
name_of UnknownProfile = codes "UnknownProfile"
name_of TrailingText = codes "TrailingText"

-- a refusal, with its rule by the number
abbrev pub breach_of : TextRefusal → Breach
breach_of r = record { rule = number_of r.rule; at = r.at }
