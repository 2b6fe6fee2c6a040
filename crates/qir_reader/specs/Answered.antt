-- What the reader of a text answers.
use Rattle.std.specs.Prelude.{ℕ, List, Result, Ok, Err}
use Rattle.qir_module.specs.Module.{Module}
use Rattle.qir_module.specs.Spoilt.{IsTextOf, IsSpoilt}
use Rattle.qir_lexer.specs.declared.rule.TextFault.{TextFault}
use Rattle.qir_lexer.specs.declared.rule.TextFault.TheVariants.{Memory, Refused}
use Rattle.qir_lexer.specs.Rules.{breach_of}

-- The module that the text is, or the rule by which it is none, and where. Want of memory is aside.
abbrev pub IsRead : List ℕ → Result Module TextFault → Type 0
IsRead text (Ok m) = IsTextOf text m
IsRead text (Err (Refused refusal)) = IsSpoilt text (breach_of refusal)
IsRead text (Err Memory) = Unit {0}
