-- What the parser of programs answers: the tree of the tokens, or the refusal.
use Rattle.std.specs.Prelude.{◌≡◌, ℕ, List, length, Some, Result, Ok, Err}
use Rattle.qq_base.specs.declared.refusal.Fault.{Fault}
use Rattle.qq_base.specs.declared.refusal.Fault.TheVariants.{Memory, Refused}
use Rattle.qasm_lexer.specs.Tokens.{place_of}
use Rattle.qasm_lexer.specs.declared.token.Token.{Token}
use Rattle.qasm_ast.specs.Whole.{Source}
use Rattle.qasm_ast.specs.View.{statements_of}
use Rattle.qasm_grammar.specs.Whole.{IsProgramOf}
use Rattle.qasm_grammar.specs.Stops.{IsRefused}

-- The program is the one that the tokens are, with 64 levels and 64 operators in a chain, and ends where the
-- text does; or the tokens are refused so. Want of memory is aside.
abbrev pub IsParsed : List ℕ → List Token → Result Source Fault → Type 0
IsParsed text tokens (Ok p) = IsProgramOf text (Some 64) 64 tokens (statements_of p) × (p.end ≡ place_of text (length text))
IsParsed text tokens (Err (Refused refusal)) = IsRefused text (Some 64) 64 tokens refusal
IsParsed text tokens (Err Memory) = Unit {0}
