-- For private contracts: the fault of a call, by the tokens where reading stops.
use Rattle.std.specs.Prelude.{ℕ, List}
use Rattle.qq_base.specs.declared.refusal.Fault.{Fault}
use Rattle.qq_base.specs.declared.refusal.Fault.TheVariants as f
use Rattle.qasm_lexer.specs.declared.token.Token.{Token}
use Rattle.grammar_parts.specs.Reading.{syntax, deep}
use Rattle.qasm_expr.specs.Answer.{refusal_of}
use Rattle.qasm_parser.specs.declared.stop.Stop.{Stop}
use Rattle.qasm_parser.specs.declared.stop.Stop.TheVariants as why

abbrev pub fault_of : List ℕ → List Token → Stop → Fault
fault_of text left why.Memory = f.Memory
fault_of text left why.Syntax = f.Refused (refusal_of text (syntax left))
fault_of text left why.Deep = f.Refused (refusal_of text (deep left))
