-- Which source texts are refused, by which rule and where, and the line that says so.
use Rattle.std.specs.Prelude.{ℕ, ◌+◌, ◌/◌, ◌%◌, ◌<◌, ◌≤◌, ◌≡◌, ◌⊎◌, List, [], ◌∷◌, ◌++◌, length, codes, Some, Ok, Err}
use Rattle.std.specs.Fmt.{decimal}
use Rattle.qq_base.specs.declared.rule.Rule.{Rule}
use Rattle.qq_base.specs.declared.rule.Rule.TheVariants.{NotBuilt, InputTooLong}
use Rattle.qq_base.specs.declared.refusal.Refusal.{Refusal}
use Rattle.qq_base.specs.Rule.{number_of, name_of}
use Rattle.qasm_lexer.specs.declared.token.Token.{Token}
use Rattle.qasm_lexer.specs.Tokens.{Tokens}
use Rattle.qasm_ast.specs.Tree.{Statements}
use Rattle.qasm_grammar.specs.Whole.{IsProgramOf}
use Rattle.qasm_grammar.specs.Stops.{IsRefused as AreRefused}
use Rattle.qir_module.specs.Text.{line}
use Rattle.qq_tool.specs.Command.{source_limit}
use Rattle.qq_tool.specs.Thin.{IsThinText}

abbrev pub at_start : Rule → Refusal
at_start rule = record { rule = rule; at = record { line = 1; column = 1 } }

-- the text is a program of the language: its tokens are one, with 64 levels and 64 operators in a chain
abbrev pub IsProgramText : List ℕ → Type 0
IsProgramText bytes = (tokens : List Token) × Tokens bytes (Ok tokens) × (ss : Statements) × IsProgramOf bytes (Some 64) 64 tokens ss

-- The text has no tokens, by a rule of tokens; or it has, and they are no program, by a rule of programs.
abbrev pub BreaksRule : List ℕ → Refusal → Type 0
BreaksRule bytes refusal =
    Tokens bytes (Err refusal)
    ⊎ ((tokens : List Token) × Tokens bytes (Ok tokens) × AreRefused bytes (Some 64) 64 tokens refusal)

-- The first rule that a source text breaks: its length, the rules of tokens and those of programs. A text that
-- breaks none of these is refused as not built exactly where it is no thin text.
abbrev pub IsRefused : List ℕ → Refusal → Type 0
IsRefused bytes refusal =
    ((source_limit < length bytes) × (refusal ≡ at_start InputTooLong))
    ⊎ ((length bytes ≤ source_limit) × (BreaksRule bytes refusal ⊎ (IsProgramText bytes × ¬ IsThinText bytes × (refusal ≡ at_start NotBuilt))))

-- The text is accepted, and no rule refuses it; or it is not, and one rule does, at one place.
abbrev pub IsDecided : List ℕ → Type 0
IsDecided bytes =
    (IsThinText bytes × ((refusal : Refusal) → ¬ IsRefused bytes refusal))
    ⊎ (¬ IsThinText bytes × (refusal : Refusal) × IsRefused bytes refusal × ((other : Refusal) → IsRefused bytes other → other ≡ refusal))

-- a number below 100 in two digits
abbrev pub two_digits : ℕ → List ℕ
two_digits n = (48 + n / 10) ∷ (48 + n % 10) ∷ []

-- as `refused Q17 TypeMismatch at 3:9`
abbrev pub refusal_line : Refusal → List ℕ
refusal_line refusal = line (codes "refused Q" ++ two_digits (number_of refusal.rule) ++ codes " " ++ name_of refusal.rule
    ++ codes " at " ++ decimal refusal.at.line ++ codes ":" ++ decimal refusal.at.column)
