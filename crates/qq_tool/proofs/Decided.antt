-- Each text is accepted or refused.
use Rattle.std.proofs.Common.{◌≡◌, ℕ, ◌<◌, ◌≤◌, ◌⊎◌, List, length, Option, Some, None, Result, Ok, Err, inl, inr, refl}
use Rattle.qq_base.specs.declared.refusal.Refusal.{Refusal}
use Rattle.qq_base.specs.declared.rule.Rule.TheVariants.{NotBuilt, InputTooLong}
use Rattle.qasm_lexer.specs.declared.token.Token.{Token}
use Rattle.qasm_lexer.specs.Tokens.{Tokens}
use Rattle.qasm_ast.specs.Tree.{Statements}
use Rattle.qasm_grammar.specs.Answer.{answer, IsAnswer}
use Rattle.qq_tool.specs.declared.thin.ThinLine.{ThinLine}
use Rattle.qq_tool.specs.Command.{source_limit}
use Rattle.qq_tool.specs.Reading.{sizes_at, lines_at}
use Rattle.qq_tool.specs.Refused.{at_start, IsProgramText, IsRefused, IsDecided}
use Rattle.qq_tool.specs.Thin.{IsThinText}
use Rattle.qq_tool.proofs.Lengths.{not_refused}
use Rattle.qq_tool.proofs.Refusals.{refused_once}
use Rattle.qq_tool.proofs.Texts.{no_sizes, no_lines, is_spelled}

-- a text is thin or not
thin_or_not : (bytes : List ℕ) → IsThinText bytes ⊎ (¬ IsThinText bytes)
thin_or_not bytes = by_sizes (sizes_at bytes) refl
  where
    by_lines : (qubits bits : ℕ) (rest : List ℕ) → sizes_at bytes ≡ Some (qubits, bits, rest) → (found : Option (List ThinLine)) → lines_at qubits bits 10000 rest ≡ found → IsThinText bytes ⊎ (¬ IsThinText bytes)
    by_lines qubits bits rest e None e' = inr (no_lines bytes qubits bits rest e e')
    by_lines qubits bits rest e (Some ls) e' = inl (record { qubits = qubits; bits = bits; lines = ls }, is_spelled bytes qubits bits rest ls e e')

    by_sizes : (found : Option (ℕ × ℕ × List ℕ)) → sizes_at bytes ≡ found → IsThinText bytes ⊎ (¬ IsThinText bytes)
    by_sizes None e = inr (no_sizes bytes e)
    by_sizes (Some (qubits, bits, rest)) e = by_lines qubits bits rest e (lines_at qubits bits 10000 rest) refl

pub refused_by : (bytes : List ℕ) (refusal : Refusal) → IsRefused bytes refusal → IsDecided bytes
refused_by bytes refusal refused = inr (λ thin. not_refused bytes refusal thin refused, refusal, refused, λ other h. refused_once bytes other refusal h refused)

pub long_decided : (bytes : List ℕ) → source_limit < length bytes → IsDecided bytes
long_decided bytes long = refused_by bytes (at_start InputTooLong) (inl (long, refl))

program_decided : (bytes : List ℕ) → length bytes ≤ source_limit → IsProgramText bytes → IsThinText bytes ⊎ (¬ IsThinText bytes) → IsDecided bytes
program_decided bytes short program (inl thin) = inl (thin, λ refusal. not_refused bytes refusal thin)
program_decided bytes short program (inr other) = refused_by bytes (at_start NotBuilt) (inr (short, inr (program, other, refl)))

answer_decided : (bytes : List ℕ) (tokens : List Token) → length bytes ≤ source_limit → Tokens bytes (Ok tokens)
    → (found : Result Statements Refusal) → IsAnswer bytes (Some 64) 64 tokens found → IsDecided bytes
answer_decided bytes tokens short lexed (Ok statements) is = program_decided bytes short (tokens, lexed, statements, is) (thin_or_not bytes)
answer_decided bytes tokens short lexed (Err refusal) is = refused_by bytes refusal (inr (short, inl (inr (tokens, lexed, is))))

-- with the tokens of the text, and what is answered of them
pub short_decided : (bytes : List ℕ) → length bytes ≤ source_limit → (reading : Result (List Token) Refusal) → Tokens bytes reading
    → ((text : List ℕ) (limit : Option ℕ) (room : ℕ) (tokens : List Token) → IsAnswer text limit room tokens (answer text limit room tokens)) → IsDecided bytes
short_decided bytes short (Ok tokens) lexed right = answer_decided bytes tokens short lexed (answer bytes (Some 64) 64 tokens) (right bytes (Some 64) 64 tokens)
short_decided bytes short (Err refusal) refused right = refused_by bytes refusal (inr (short, inl (inl refused)))
