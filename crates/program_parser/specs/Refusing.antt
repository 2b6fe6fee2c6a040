-- For private contracts only: the refusal of tokens, by where and why reading stops.
use Rattle.std.specs.Prelude.{◌≡◌, ℕ, Bool, true, false, Some, List, drop, Err, ◌==◌, ◌&&◌}
use Rattle.qq_base.specs.declared.refusal.Fault.{Fault}
use Rattle.qq_base.specs.declared.refusal.Fault.TheVariants.{Memory, Refused}
use Rattle.qasm_lexer.specs.declared.token.Token.{Token}
use Rattle.qasm_lexer.specs.declared.token.TokenKind.{TokenKind}
use Rattle.qasm_lexer.specs.declared.token.TokenKind.TheVariants as t
use Rattle.qasm_lexer.specs.declared.token.Mark.TheVariants as m
use Rattle.qasm_grammar.specs.Parts.{is_zero}
use Rattle.qasm_grammar.specs.Answer.{answer_of}
use Rattle.qasm_parser.specs.declared.stop.Stop.{Stop}
use Rattle.qasm_parser.specs.declared.stop.Stop.TheVariants as why
use Rattle.qasm_parser.specs.State.{refusal}

-- the refusal of tokens of which reading stops at a place
abbrev pub IsFault : List ℕ → List Token → ℕ → Stop → Fault → Type 0
IsFault text tokens n stop Memory = Unit {0}
IsFault text tokens n why.Memory (Refused found) = ⊥
IsFault text tokens n stop (Refused found) = answer_of text (Some 64) 64 tokens (Err (refusal stop (drop n tokens))) ≡ Err found

-- the mark `@`
abbrev pub is_at : TokenKind → Bool
is_at (t.Mark m.At) = true
is_at _ = false

-- the version 3 or 3.0
abbrev pub is_version : TokenKind → Bool
is_version (t.Version major minor) = (major == 3) && is_zero minor
is_version _ = false

-- a text
abbrev pub is_text : TokenKind → Bool
is_text t.Text = true
is_text _ = false
