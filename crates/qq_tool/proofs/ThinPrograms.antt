-- A thin text is a program of the language, and so breaks no rule of tokens and of programs.
use Rattle.std.proofs.Common.{◌≡◌, ℕ, List, Some, Ok, Err, inl, inr, sym, subst}
use Rattle.qq_base.specs.declared.refusal.Refusal.{Refusal}
use Rattle.qasm_lexer.specs.declared.token.Token.{Token}
use Rattle.qasm_lexer.specs.Pieces.{text_of}
use Rattle.qasm_lexer.proofs.OneRun.{one_reading}
use Rattle.qasm_lexer.proofs.Written.{written_read}
use Rattle.qasm_grammar.specs.Whole.{IsProgramOf}
use Rattle.qasm_grammar.proofs.Refusals.{not_refused}
use Rattle.qq_tool.specs.Thin.{Thin, IsThin, IsThinText, thin_text}
use Rattle.qq_tool.specs.Refused.{IsProgramText, BreaksRule}
use Rattle.qq_tool.proofs.ThinPieces.{pieces_of, text_of_pieces}
use Rattle.qq_tool.proofs.ThinApart.{pieces_apart}
use Rattle.qq_tool.proofs.WrittenLines.{written_program}

thin_program : (p : Thin) → IsThin p → IsProgramText (thin_text p)
thin_program p is =
    let found = written_read (pieces_of p) (pieces_apart p is) in
    let whole = written_program (text_of (pieces_of p)) found.0 p found.2 in
    subst IsProgramText (text_of_pieces p) (found.0, found.1, whole.0, whole.1)

pub programs_of_thin : (bytes : List ℕ) → IsThinText bytes → IsProgramText bytes
programs_of_thin bytes (p, spells) = subst IsProgramText (sym spells.text) (thin_program p spells.thin)

-- a program breaks no rule of tokens and of programs
pub programs_break_none : (bytes : List ℕ) (refusal : Refusal) → IsProgramText bytes → ¬ BreaksRule bytes refusal
programs_break_none bytes refusal (tokens, lexed, ss, whole) (inl none) =
    let same = one_reading bytes (Ok tokens) (Err refusal) lexed none in
    absurd cc
programs_break_none bytes refusal (tokens, lexed, ss, whole) (inr (others, other_lexed, refused)) =
    let same = one_reading bytes (Ok tokens) (Ok others) lexed other_lexed in
    let alike : tokens ≡ others = cc in
    not_refused bytes (Some 64) 64 others ss refusal (subst (λ (ts : List Token). IsProgramOf bytes (Some 64) 64 ts ss) alike whole) refused
