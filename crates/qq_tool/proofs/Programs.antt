-- What the parser's answer says of a source text.
use Rattle.std.proofs.Common.{ℕ, List, Result, Ok, Err, IfOk}
use Rattle.qq_base.specs.declared.refusal.Fault.{Fault}
use Rattle.qasm_lexer.specs.declared.token.Token.{Token}
use Rattle.qasm_lexer.specs.Tokens.{Tokens}
use Rattle.qasm_ast.specs.Whole.{Source}
use Rattle.qasm_ast.specs.View.{statements_of}
use Rattle.qasm_stmt.specs.Parsed.{IsParsed}
use Rattle.qq_tool.specs.Refused.{IsProgramText}

-- where the parser gives a tree, the text is a program
pub is_program : (bytes : List ℕ) (tokens : List Token) (result : Result Source Fault) → Tokens bytes (Ok tokens) → IsParsed bytes tokens result → IfOk result (λ p. IsProgramText bytes)
is_program bytes tokens (Ok p) lexed answer = (tokens, lexed, statements_of p, answer.0)
is_program bytes tokens (Err fault) lexed answer = tt
