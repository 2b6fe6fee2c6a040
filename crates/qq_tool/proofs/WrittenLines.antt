-- The lines of a thin text are statements of the language, and the text is a program, wherever it is written.
use Rattle.std.proofs.Common.{ℕ, suc, List, [], ◌∷◌, Option, Some, None}
use Rattle.std.specs.Prelude.{codes}
use Rattle.std.specs.List.{flat_map}
use Rattle.qasm_lexer.specs.declared.token.Token.{Token}
use Rattle.qasm_lexer.specs.declared.token.Keyword.TheVariants as k
use Rattle.qasm_lexer.specs.declared.token.Mark.TheVariants as m
use Rattle.qasm_ast.specs.Tree.{Statements}
use Rattle.grammar_parts.specs.Part.{nothing_kept, repeated}
use Rattle.qasm_grammar.specs.Parts.{block_of, operand}
use Rattle.qasm_grammar.specs.Grammar.{version_line, inclusion, qubit_line, variable_line, declaration, named_line, stmt, program}
use Rattle.qasm_grammar.specs.Whole.{IsProgramOf}
use Rattle.qq_tool.specs.declared.thin.ThinLine.{ThinLine}
use Rattle.qq_tool.specs.declared.thin.ThinLine.TheVariants.{Hadamard, Not, ControlledNot, Measure}
use Rattle.qq_tool.specs.Thin.{Thin}
use Rattle.qasm_lexer.specs.Pieces.{Piece, AreWritten}
use Rattle.qq_tool.proofs.ThinPieces.{tight, spaced, gate_pieces, line_pieces, version_pieces, include_pieces, register_pieces, statement_pieces, pieces_of}
use Rattle.qq_tool.proofs.Written.{IsPart, then_part, nothing_part, map_part, first_part, second_part, none_part, more_part, once_part, comma_part, alone_part, mark_part, word_part, type_part, name_of_part, version_part, file_part, bit_part, width_part, index_part, operand_part, name_part, ended_part}

-- ---- declarations

version_line_part : {text : List ℕ} → IsPart text (version_line text) version_pieces
version_line_part = then_part (word_part k.OpenQasm) (λ w. then_part version_part (λ v. ended_part v))

inclusion_part : {text : List ℕ} → IsPart text (inclusion text) include_pieces
inclusion_part = then_part (word_part k.Include) (λ w. then_part file_part (λ x. ended_part _))

qubit_part : {text : List ℕ} (limit : Option ℕ) (room size : ℕ) (register : List ℕ) → IsPart text (qubit_line text limit (suc room)) (register_pieces k.Qubit size register)
qubit_part limit room size register =
    then_part (type_part k.Qubit) (λ w. then_part (first_part (map_part (width_part limit room size))) (λ e. then_part (name_part register tight) (λ x. ended_part _)))

variable_part : {text : List ℕ} (limit : Option ℕ) (room size : ℕ) (register : List ℕ) → IsPart text (variable_line text limit (suc room)) (register_pieces k.Bit size register)
variable_part limit room size register =
    then_part
    (second_part (then_part bit_part (λ w. first_part (map_part (width_part limit room size)))))
    (λ s. then_part (name_part register tight) (λ x. then_part (second_part (nothing_part None)) (λ v. ended_part _)))

-- ---- actions

gate_part : {text : List ℕ} (limit : Option ℕ) (room : ℕ) (gate : List ℕ) (qubit : ℕ) → IsPart text (named_line text limit (suc room)) (gate_pieces gate qubit)
gate_part {text = text} limit room gate qubit =
    then_part (name_of_part gate spaced) (λ x. second_part (second_part (map_part (then_part (then_part (operand_part limit room (codes "q") qubit tight) (λ o. map_part (alone_part (operand text limit (suc room))))) (λ os. ended_part _)))))

controlled_part : {text : List ℕ} (limit : Option ℕ) (room control target : ℕ) → IsPart text (named_line text limit (suc room)) (line_pieces (ControlledNot control target))
controlled_part limit room control target =
    then_part
    (name_of_part (codes "cx") spaced)
    (λ x. second_part (second_part (map_part (then_part (then_part (operand_part limit room (codes "q") control tight) (λ o. map_part (comma_part (operand_part limit room (codes "q") target tight)))) (λ os. ended_part _)))))

measure_part : {text : List ℕ} (limit : Option ℕ) (room qubit bit : ℕ) → IsPart text (named_line text limit (suc room)) (line_pieces (Measure qubit bit))
measure_part limit room qubit bit =
    then_part
    (name_of_part (codes "c") tight)
    (λ x. first_part
    (then_part
    (once_part (index_part limit room bit spaced))
    (λ is. first_part
    (then_part
    (mark_part m.Assign spaced)
    (λ a. then_part (second_part (then_part (word_part k.Measure) (λ w. map_part (operand_part limit room (codes "q") qubit tight)))) (λ v. ended_part _))))))

line_part : {text : List ℕ} (limit : Option ℕ) (room : ℕ) (l : ThinLine) → IsPart text (named_line text limit (suc room)) (line_pieces l)
line_part limit room (Hadamard qubit) = gate_part limit room (codes "h") qubit
line_part limit room (Not qubit) = gate_part limit room (codes "x") qubit
line_part limit room (ControlledNot control target) = controlled_part limit room control target
line_part limit room (Measure qubit bit) = measure_part limit room qubit bit

-- ---- statements and programs

declared_part : {text : List ℕ} {ps : List Piece} (limit : Option ℕ) (room : ℕ) → IsPart text (declaration text limit (suc room) (block_of text (stmt text limit room))) ps → IsPart text (stmt text limit (suc room)) ps
unfolding stmt
declared_part limit room part = first_part (map_part part)

named_part : {text : List ℕ} {ps : List Piece} (limit : Option ℕ) (room : ℕ) → IsPart text (named_line text limit (suc room)) ps → IsPart text (stmt text limit (suc room)) ps
unfolding stmt
named_part limit room part =
    second_part (first_part (map_part (second_part (second_part (second_part (second_part (second_part (second_part (second_part (second_part (second_part part)))))))))))

lines_part : {text : List ℕ} (limit : Option ℕ) (room : ℕ) (ls : List ThinLine) → IsPart text (repeated (stmt text limit (suc room))) (flat_map line_pieces ls)
lines_part {text = text} limit room [] = none_part (λ s. stmt text limit (suc room)) (λ s a. s) nothing_kept
lines_part limit room (l ∷ ls) = more_part (named_part limit room (line_part limit room l)) (lines_part limit room ls)

statements_part : {text : List ℕ} (limit : Option ℕ) (room : ℕ) (p : Thin) → IsPart text (repeated (stmt text limit (suc room))) (statement_pieces p)
statements_part limit room p =
    more_part
    (declared_part limit room (first_part inclusion_part))
    (more_part
    (declared_part limit room (second_part (first_part (qubit_part limit room p.qubits (codes "q")))))
    (more_part (declared_part limit room (second_part (second_part (second_part (second_part (first_part (variable_part limit room p.bits (codes "c")))))))) (lines_part limit room p.lines)))

program_part : {text : List ℕ} (limit : Option ℕ) (room : ℕ) (p : Thin) → IsPart text (program text limit (suc room)) (pieces_of p)
program_part limit room p = then_part (first_part (map_part version_line_part)) (λ v. map_part (statements_part limit room p))

-- the tokens of a thin text are a program
pub written_program : (text : List ℕ) (tokens : List Token) (p : Thin) → AreWritten text tokens (pieces_of p) → (ss : Statements) × IsProgramOf text (Some 64) 64 tokens ss
written_program text tokens p written = (program_part (Some 64) 63 p).holds tokens written
