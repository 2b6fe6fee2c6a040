-- For private contracts alone: the refusal of tokens, by where reading stops.
use Rattle.std.specs.Prelude.{◌≡◌, ℕ, Bool, true, false, List, drop, Some, Err}
use Rattle.qq_base.specs.declared.refusal.Fault.{Fault}
use Rattle.qq_base.specs.declared.refusal.Fault.TheVariants.{Memory, Refused}
use Rattle.qasm_lexer.specs.declared.token.Token.{Token}
use Rattle.qasm_lexer.specs.declared.token.TokenKind.{TokenKind}
use Rattle.qasm_lexer.specs.declared.token.TokenKind.TheVariants as t
use Rattle.qasm_lexer.specs.declared.token.Mark.TheVariants as m
use Rattle.grammar_parts.specs.Reading.{syntax, deep}
use Rattle.qasm_expr.specs.declared.stop.Stop.{Stop}
use Rattle.qasm_expr.specs.declared.stop.Stop.TheVariants as e
use Rattle.qasm_grammar.specs.Answer.{answer_of}

-- the refusal of tokens of which reading stops so
abbrev pub IsFault : List ℕ → List Token → Stop → Fault → Type 0
IsFault text tokens stop Memory = Unit {0}
IsFault text tokens e.Memory (Refused refusal) = ⊥
IsFault text tokens (e.Syntax n) (Refused refusal) = answer_of text (Some 64) 64 tokens (Err (syntax (drop n tokens))) ≡ Err refusal
IsFault text tokens (e.Deep n) (Refused refusal) = answer_of text (Some 64) 64 tokens (Err (deep (drop n tokens))) ≡ Err refusal

-- the mark `@`
abbrev pub is_at : TokenKind → Bool
is_at (t.Mark m.At) = true
is_at _ = false
