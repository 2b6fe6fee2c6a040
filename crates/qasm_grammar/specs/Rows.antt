-- Worked rows of the grammar: what is read of some short lists of tokens. What stands on the right is read
-- by hand. In all of them two levels may be opened and a chain has two operators at most. Each token has
-- its number in the list as its column.
use Rattle.std.specs.Prelude.{◌≡◌, ℕ, List, [], ◌∷◌, ◌++◌, codes, Option, Some, None, Result, Ok, Err}
use Rattle.qq_base.specs.declared.refusal.Span.{Span}
use Rattle.qasm_lexer.specs.declared.token.Token.{Token}
use Rattle.qasm_lexer.specs.declared.token.TokenKind.TheVariants as t
use Rattle.qasm_lexer.specs.declared.token.Keyword.{Keyword}
use Rattle.qasm_lexer.specs.declared.token.Keyword.TheVariants as k
use Rattle.qasm_lexer.specs.declared.token.Mark.{Mark}
use Rattle.qasm_lexer.specs.declared.token.Mark.TheVariants as m
use Rattle.qasm_ast.specs.declared.expr.Base.TheVariants as b
use Rattle.qasm_ast.specs.declared.expr.BinaryOp.TheVariants as op
use Rattle.qasm_ast.specs.Tree.{word, qubit as qubit_number, Tree, named, number, call as call_tree, trees, absent, present, no_bracket, position, Name, Operand, expression, measured, inverse, power, control, include, qubits, variable, constant, output, alias, gate, subroutine, gate_call, barrier, reset, measurement, assign, invoke, branch, while, for_range, for_set, break, continue, end, give, Statements, no_statement}
use Rattle.grammar_parts.specs.Reading.{Refusal, syntax, deep}
use Rattle.qasm_expr.specs.Grammar.{scalar}
use Rattle.qasm_grammar.specs.Parts.{statements, operand_at}
use Rattle.qasm_grammar.specs.Reader.{read_program}
use Rattle.qasm_grammar.specs.Whole.{finish}

-- what names and files are cut from
abbrev pub text : List ℕ
text = codes "ab" ++ ((34 ∷ []) ++ (codes "stdgates.inc" ++ ((34 ∷ []) ++ codes "'stdgates.inc''other'")))

abbrev pub column : ℕ → Span
column n = record { line = 1; column = n }

-- the names `a` and `b`, the number 1, the qubit `$0`, a mark or a word as the n-th token
abbrev pub a_name : ℕ → Token
a_name n = record { kind = t.Name; start = 0; end = 1; at = column n }

abbrev pub b_name : ℕ → Token
b_name n = record { kind = t.Name; start = 1; end = 2; at = column n }

abbrev pub whole : ℕ → Token
whole n = record { kind = t.Whole 1; start = 0; end = 1; at = column n }

abbrev pub hardware : ℕ → Token
hardware n = record { kind = t.Hardware 0; start = 0; end = 2; at = column n }

abbrev pub sign : Mark → ℕ → Token
sign x n = record { kind = t.Mark x; start = 0; end = 1; at = column n }

abbrev pub word_of : Keyword → ℕ → Token
word_of x n = record { kind = t.Word x; start = 0; end = 1; at = column n }

-- a version, the file in quotes of both kinds, and another file
abbrev pub version : ℕ → Option ℕ → ℕ → Token
version major minor n = record { kind = t.Version major minor; start = 0; end = 1; at = column n }

abbrev pub double_quoted : ℕ → Token
double_quoted n = record { kind = t.Text; start = 2; end = 16; at = column n }

abbrev pub single_quoted : ℕ → Token
single_quoted n = record { kind = t.Text; start = 16; end = 30; at = column n }

abbrev pub other_file : ℕ → Token
other_file n = record { kind = t.Text; start = 30; end = 37; at = column n }

-- what these are in the tree
abbrev pub a_text : List ℕ
a_text = codes "a"

abbrev pub b_text : List ℕ
b_text = codes "b"

abbrev pub one : ℕ → Tree
one n = number 1 (column n)

abbrev pub tree_a : ℕ → Tree
tree_a n = named (word a_text) no_bracket (column n) (column n)

abbrev pub tree_b : ℕ → Tree
tree_b n = named (word b_text) no_bracket (column n) (column n)

abbrev pub name_a : ℕ → Name
name_a n = record { text = a_text; place = column n }

abbrev pub name_b : ℕ → Name
name_b n = record { text = b_text; place = column n }

abbrev pub phase_name : ℕ → Name
phase_name n = record { text = codes "gphase"; place = column n }

abbrev pub operand_a : ℕ → Operand
operand_a n = operand_at (a_text, column n) []

abbrev pub operand_b : ℕ → Operand
operand_b n = operand_at (b_text, column n) []

abbrev pub wire : ℕ → Operand
wire n = record { name = qubit_number 0; index = no_bracket; place = column n }

abbrev pub read : List Token → Result Statements (Refusal Token)
read tokens = finish (read_program text (Some 2) 2 tokens)

-- no token is a program
abbrev pub EmptyProgram : Type 0
EmptyProgram = read ([]) ≡ Ok (statements ([]))

-- the version 3: `OPENQASM 3 ;`
abbrev pub VersionAlone : Type 0
VersionAlone = read (word_of k.OpenQasm 1 ∷ version 3 None 2 ∷ sign m.Semicolon 3 ∷ []) ≡ Ok (statements ([]))

-- the version 3.0: `OPENQASM 3.0 ; end ;`
abbrev pub VersionWithMinor : Type 0
VersionWithMinor = read (word_of k.OpenQasm 1 ∷ version 3 (Some 0) 2 ∷ sign m.Semicolon 3 ∷ word_of k.End 4 ∷ sign m.Semicolon 5 ∷ []) ≡ Ok (statements (end (column 4) (column 4) ∷ []))

-- another version: `OPENQASM 3.1 ;`
abbrev pub OtherVersion : Type 0
OtherVersion = read (word_of k.OpenQasm 1 ∷ version 3 (Some 1) 2 ∷ sign m.Semicolon 3 ∷ []) ≡ Err (syntax (version 3 (Some 1) 2 ∷ sign m.Semicolon 3 ∷ []))

-- a version behind a statement: `end ; OPENQASM 3 ;`
abbrev pub VersionBehind : Type 0
VersionBehind = read (word_of k.End 1 ∷ sign m.Semicolon 2 ∷ word_of k.OpenQasm 3 ∷ version 3 None 4 ∷ sign m.Semicolon 5 ∷ []) ≡ Err (syntax (word_of k.OpenQasm 3 ∷ version 3 None 4 ∷ sign m.Semicolon 5 ∷ []))

-- the file that may be included, in either quotes: `include "std" ;`
abbrev pub IncludeDouble : Type 0
IncludeDouble = read (word_of k.Include 1 ∷ double_quoted 2 ∷ sign m.Semicolon 3 ∷ []) ≡ Ok (statements (include (column 1) (column 1) ∷ []))

-- `include 'std' ;`
abbrev pub IncludeSingle : Type 0
IncludeSingle = read (word_of k.Include 1 ∷ single_quoted 2 ∷ sign m.Semicolon 3 ∷ []) ≡ Ok (statements (include (column 1) (column 1) ∷ []))

-- another file: `include 'other' ;`
abbrev pub IncludeOther : Type 0
IncludeOther = read (word_of k.Include 1 ∷ other_file 2 ∷ sign m.Semicolon 3 ∷ []) ≡ Err (syntax (other_file 2 ∷ sign m.Semicolon 3 ∷ []))

-- registers of qubits and of bits, in both ways to write them: `qubit [ 1 ] a ;`
abbrev pub QubitWithWidth : Type 0
QubitWithWidth = read (word_of k.Qubit 1 ∷ sign m.LeftBracket 2 ∷ whole 3 ∷ sign m.RightBracket 4 ∷ a_name 5 ∷ sign m.Semicolon 6 ∷ []) ≡ Ok (statements (qubits (scalar b.Qubit (present (one 3)) (column 1)) (name_a 5) (column 1) (column 1) ∷ []))

-- `qreg a [ 1 ] ;`
abbrev pub QregWithWidth : Type 0
QregWithWidth = read (word_of k.Qreg 1 ∷ a_name 2 ∷ sign m.LeftBracket 3 ∷ whole 4 ∷ sign m.RightBracket 5 ∷ sign m.Semicolon 6 ∷ []) ≡ Ok (statements (qubits (scalar b.Qubit (present (one 4)) (column 1)) (name_a 2) (column 1) (column 1) ∷ []))

-- `creg a ;`
abbrev pub CregAlone : Type 0
CregAlone = read (word_of k.Creg 1 ∷ a_name 2 ∷ sign m.Semicolon 3 ∷ []) ≡ Ok (statements (variable (scalar b.Bit absent (column 1)) (name_a 2) None (column 1) (column 1) ∷ []))

-- a variable that begins with a measurement: `bit a = measure b ;`
abbrev pub VariableMeasured : Type 0
VariableMeasured = read (word_of k.Bit 1 ∷ a_name 2 ∷ sign m.Assign 3 ∷ word_of k.Measure 4 ∷ b_name 5 ∷ sign m.Semicolon 6 ∷ []) ≡ Ok (statements (variable (scalar b.Bit absent (column 1)) (name_a 2) (Some (measured (operand_b 5))) (column 1) (column 1) ∷ []))

-- a constant: `const int a = 1 ;`
abbrev pub ConstantOfOne : Type 0
ConstantOfOne = read (word_of k.Const 1 ∷ word_of k.Int 2 ∷ a_name 3 ∷ sign m.Assign 4 ∷ whole 5 ∷ sign m.Semicolon 6 ∷ []) ≡ Ok (statements (constant (scalar b.Int absent (column 2)) (name_a 3) (one 5) (column 1) (column 1) ∷ []))

-- a constant is not measured: `const bit a = measure b ;`
abbrev pub ConstantMeasured : Type 0
ConstantMeasured = read (word_of k.Const 1 ∷ word_of k.Bit 2 ∷ a_name 3 ∷ sign m.Assign 4 ∷ word_of k.Measure 5 ∷ b_name 6 ∷ sign m.Semicolon 7 ∷ []) ≡ Err (syntax (word_of k.Measure 5 ∷ b_name 6 ∷ sign m.Semicolon 7 ∷ []))

-- an output: `output bit a ;`
abbrev pub OutputOfBit : Type 0
OutputOfBit = read (word_of k.Output 1 ∷ word_of k.Bit 2 ∷ a_name 3 ∷ sign m.Semicolon 4 ∷ []) ≡ Ok (statements (output (scalar b.Bit absent (column 2)) (name_a 3) (column 1) (column 1) ∷ []))

-- an alias of joined operands: `let a = b ++ $0 ;`
abbrev pub JoinedOperands : Type 0
JoinedOperands = read (word_of k.Let 1 ∷ a_name 2 ∷ sign m.Assign 3 ∷ b_name 4 ∷ sign m.PlusPlus 5 ∷ hardware 6 ∷ sign m.Semicolon 7 ∷ []) ≡ Ok (statements (alias (name_a 2) ((operand_b 4) ∷ wire 6 ∷ []) (column 1) (column 1) ∷ []))

-- joined operands end with no comma: `let a = b , ;`
abbrev pub JoinedWithComma : Type 0
JoinedWithComma = read (word_of k.Let 1 ∷ a_name 2 ∷ sign m.Assign 3 ∷ b_name 4 ∷ sign m.Comma 5 ∷ sign m.Semicolon 6 ∷ []) ≡ Err (syntax (sign m.Comma 5 ∷ sign m.Semicolon 6 ∷ []))

-- the lists of a gate may end with one comma: `gate a ( b , ) b , { }`
abbrev pub GateWithCommas : Type 0
GateWithCommas = read (word_of k.Gate 1 ∷ a_name 2 ∷ sign m.LeftParen 3 ∷ b_name 4 ∷ sign m.Comma 5 ∷ sign m.RightParen 6 ∷ b_name 7 ∷ sign m.Comma 8 ∷ sign m.LeftBrace 9 ∷ sign m.RightBrace 10 ∷ []) ≡ Ok (statements (gate (name_a 2) ((name_b 4) ∷ []) ((name_b 7) ∷ []) no_statement (column 1) (column 10) ∷ []))

-- calls and barriers in the body of a gate: `gate a ( ) b { a b ; barrier ; }`
abbrev pub GateEmptyNames : Type 0
GateEmptyNames = read (word_of k.Gate 1 ∷ a_name 2 ∷ sign m.LeftParen 3 ∷ sign m.RightParen 4 ∷ b_name 5 ∷ sign m.LeftBrace 6 ∷ a_name 7 ∷ b_name 8 ∷ sign m.Semicolon 9 ∷ word_of k.Barrier 10 ∷ sign m.Semicolon 11 ∷ sign m.RightBrace 12 ∷ []) ≡ Ok (statements (gate (name_a 2) [] ((name_b 5) ∷ []) (statements (gate_call ([]) (name_a 7) (trees ([])) ((operand_b 8) ∷ []) (column 7) (column 7) ∷ barrier [] (column 10) (column 10) ∷ [])) (column 1) (column 12) ∷ []))

-- no measurement in the body of a gate: `gate a b { measure b ; }`
abbrev pub GateMeasures : Type 0
GateMeasures = read (word_of k.Gate 1 ∷ a_name 2 ∷ b_name 3 ∷ sign m.LeftBrace 4 ∷ word_of k.Measure 5 ∷ b_name 6 ∷ sign m.Semicolon 7 ∷ sign m.RightBrace 8 ∷ []) ≡ Err (syntax (word_of k.Measure 5 ∷ b_name 6 ∷ sign m.Semicolon 7 ∷ sign m.RightBrace 8 ∷ []))

-- a gate has a qubit: `gate a { }`
abbrev pub GateNoQubit : Type 0
GateNoQubit = read (word_of k.Gate 1 ∷ a_name 2 ∷ sign m.LeftBrace 3 ∷ sign m.RightBrace 4 ∷ []) ≡ Err (syntax (sign m.LeftBrace 3 ∷ sign m.RightBrace 4 ∷ []))

-- a subroutine with no parameters: `def a ( ) { }`
abbrev pub DefEmptyParameters : Type 0
DefEmptyParameters = read (word_of k.Def 1 ∷ a_name 2 ∷ sign m.LeftParen 3 ∷ sign m.RightParen 4 ∷ sign m.LeftBrace 5 ∷ sign m.RightBrace 6 ∷ []) ≡ Ok (statements (subroutine (name_a 2) [] None no_statement (column 1) (column 6) ∷ []))

-- parameters, with a comma behind them, and a result: `def a ( int b , qubit [ 1 ] a , ) -> bit { return ; }`
abbrev pub DefParameters : Type 0
DefParameters = read (word_of k.Def 1 ∷ a_name 2 ∷ sign m.LeftParen 3 ∷ word_of k.Int 4 ∷ b_name 5 ∷ sign m.Comma 6 ∷ word_of k.Qubit 7 ∷ sign m.LeftBracket 8 ∷ whole 9 ∷ sign m.RightBracket 10 ∷ a_name 11 ∷ sign m.Comma 12 ∷ sign m.RightParen 13 ∷ sign m.Arrow 14 ∷ word_of k.Bit 15 ∷ sign m.LeftBrace 16 ∷ word_of k.Return 17 ∷ sign m.Semicolon 18 ∷ sign m.RightBrace 19 ∷ []) ≡ Ok (statements (subroutine (name_a 2) (record { type = (scalar b.Int absent (column 4)); name = (name_b 5) } ∷ record { type = (scalar b.Qubit (present (one 9)) (column 7)); name = (name_a 11) } ∷ []) (Some (scalar b.Bit absent (column 15))) (statements (give None (column 17) (column 17) ∷ [])) (column 1) (column 19) ∷ []))

-- modifiers, the outermost first; the place is that of the first: `ctrl @ inv @ a b ;`
abbrev pub CallWithModifiers : Type 0
CallWithModifiers = read (word_of k.Ctrl 1 ∷ sign m.At 2 ∷ word_of k.Inv 3 ∷ sign m.At 4 ∷ a_name 5 ∷ b_name 6 ∷ sign m.Semicolon 7 ∷ []) ≡ Ok (statements (gate_call (control absent (column 1) ∷ inverse (column 3) ∷ []) (name_a 5) (trees ([])) ((operand_b 6) ∷ []) (column 1) (column 1) ∷ []))

-- `pow ( 1 ) @ a b ;`
abbrev pub CallWithPower : Type 0
CallWithPower = read (word_of k.Pow 1 ∷ sign m.LeftParen 2 ∷ whole 3 ∷ sign m.RightParen 4 ∷ sign m.At 5 ∷ a_name 6 ∷ b_name 7 ∷ sign m.Semicolon 8 ∷ []) ≡ Ok (statements (gate_call (power (one 3) (column 1) ∷ []) (name_a 6) (trees ([])) ((operand_b 7) ∷ []) (column 1) (column 1) ∷ []))

-- a phase has one argument: `gphase ( 1 ) ;`
abbrev pub PhaseAlone : Type 0
PhaseAlone = read (word_of k.Gphase 1 ∷ sign m.LeftParen 2 ∷ whole 3 ∷ sign m.RightParen 4 ∷ sign m.Semicolon 5 ∷ []) ≡ Ok (statements (gate_call ([]) (phase_name 1) (trees ((one 3) ∷ [])) ([]) (column 1) (column 1) ∷ []))

-- `gphase ( 1 , ) ;`
abbrev pub PhaseComma : Type 0
PhaseComma = read (word_of k.Gphase 1 ∷ sign m.LeftParen 2 ∷ whole 3 ∷ sign m.Comma 4 ∷ sign m.RightParen 5 ∷ sign m.Semicolon 6 ∷ []) ≡ Err (syntax (sign m.Comma 4 ∷ sign m.RightParen 5 ∷ sign m.Semicolon 6 ∷ []))

-- arguments and operands may end with one comma: `a ( 1 , ) b , $0 , ;`
abbrev pub CallWithArguments : Type 0
CallWithArguments = read (a_name 1 ∷ sign m.LeftParen 2 ∷ whole 3 ∷ sign m.Comma 4 ∷ sign m.RightParen 5 ∷ b_name 6 ∷ sign m.Comma 7 ∷ hardware 8 ∷ sign m.Comma 9 ∷ sign m.Semicolon 10 ∷ []) ≡ Ok (statements (gate_call ([]) (name_a 1) (trees ((one 3) ∷ [])) ((operand_b 6) ∷ wire 8 ∷ []) (column 1) (column 1) ∷ []))

-- a gate has an operand: `inv @ a ;`
abbrev pub CallNoOperand : Type 0
CallNoOperand = read (word_of k.Inv 1 ∷ sign m.At 2 ∷ a_name 3 ∷ sign m.Semicolon 4 ∷ []) ≡ Err (syntax (sign m.Semicolon 4 ∷ []))

-- a call with no operands is of a subroutine: `a ( ) ;`
abbrev pub SubroutineCalled : Type 0
SubroutineCalled = read (a_name 1 ∷ sign m.LeftParen 2 ∷ sign m.RightParen 3 ∷ sign m.Semicolon 4 ∷ []) ≡ Ok (statements (invoke (call_tree a_text (trees []) (column 1)) (column 1) (column 1) ∷ []))

-- a barrier may have no operands: `barrier ;`
abbrev pub BarrierOfNone : Type 0
BarrierOfNone = read (word_of k.Barrier 1 ∷ sign m.Semicolon 2 ∷ []) ≡ Ok (statements (barrier [] (column 1) (column 1) ∷ []))

-- a bracket behind an operand: `reset a [ 1 ] ;`
abbrev pub ResetOfIndex : Type 0
ResetOfIndex = read (word_of k.Reset 1 ∷ a_name 2 ∷ sign m.LeftBracket 3 ∷ whole 4 ∷ sign m.RightBracket 5 ∷ sign m.Semicolon 6 ∷ []) ≡ Ok (statements (reset (operand_at (a_text, (column 2)) (position (one 4) ∷ [])) (column 1) (column 1) ∷ []))

-- a measurement that is not kept, and one that is: `measure a ;`
abbrev pub MeasuredAlone : Type 0
MeasuredAlone = read (word_of k.Measure 1 ∷ a_name 2 ∷ sign m.Semicolon 3 ∷ []) ≡ Ok (statements (measurement (operand_a 2) None (column 1) (column 1) ∷ []))

-- `measure a -> b ;`
abbrev pub MeasuredInto : Type 0
MeasuredInto = read (word_of k.Measure 1 ∷ a_name 2 ∷ sign m.Arrow 3 ∷ b_name 4 ∷ sign m.Semicolon 5 ∷ []) ≡ Ok (statements (measurement (operand_a 2) (Some (operand_b 4)) (column 1) (column 1) ∷ []))

-- no bit is a hardware qubit: `measure a -> $0 ;`
abbrev pub MeasuredIntoHardware : Type 0
MeasuredIntoHardware = read (word_of k.Measure 1 ∷ a_name 2 ∷ sign m.Arrow 3 ∷ hardware 4 ∷ sign m.Semicolon 5 ∷ []) ≡ Err (syntax (hardware 4 ∷ sign m.Semicolon 5 ∷ []))

-- assignments: `a = measure b ;`
abbrev pub AssignMeasured : Type 0
AssignMeasured = read (a_name 1 ∷ sign m.Assign 2 ∷ word_of k.Measure 3 ∷ b_name 4 ∷ sign m.Semicolon 5 ∷ []) ≡ Ok (statements (assign (operand_a 1) None (measured (operand_b 4)) (column 1) (column 1) ∷ []))

-- `a [ 1 ] += 1 ;`
abbrev pub AssignToIndex : Type 0
AssignToIndex = read (a_name 1 ∷ sign m.LeftBracket 2 ∷ whole 3 ∷ sign m.RightBracket 4 ∷ sign m.PlusAssign 5 ∷ whole 6 ∷ sign m.Semicolon 7 ∷ []) ≡ Ok (statements (assign (operand_at (a_text, (column 1)) (position (one 3) ∷ [])) (Some op.Add) (expression (one 6)) (column 1) (column 1) ∷ []))

-- only what `=` assigns may be measured: `a += measure b ;`
abbrev pub AddMeasured : Type 0
AddMeasured = read (a_name 1 ∷ sign m.PlusAssign 2 ∷ word_of k.Measure 3 ∷ b_name 4 ∷ sign m.Semicolon 5 ∷ []) ≡ Err (syntax (word_of k.Measure 3 ∷ b_name 4 ∷ sign m.Semicolon 5 ∷ []))

-- behind a bracket it is an assignment: `a [ 1 ] b ;`
abbrev pub IndexAlone : Type 0
IndexAlone = read (a_name 1 ∷ sign m.LeftBracket 2 ∷ whole 3 ∷ sign m.RightBracket 4 ∷ b_name 5 ∷ sign m.Semicolon 6 ∷ []) ≡ Err (syntax (b_name 5 ∷ sign m.Semicolon 6 ∷ []))

-- an `else` belongs to the nearest `if`: `if ( a ) if ( b ) end ; else break ;`
abbrev pub DanglingElse : Type 0
DanglingElse = read (word_of k.If 1 ∷ sign m.LeftParen 2 ∷ a_name 3 ∷ sign m.RightParen 4 ∷ word_of k.If 5 ∷ sign m.LeftParen 6 ∷ b_name 7 ∷ sign m.RightParen 8 ∷ word_of k.End 9 ∷ sign m.Semicolon 10 ∷ word_of k.Else 11 ∷ word_of k.Break 12 ∷ sign m.Semicolon 13 ∷ []) ≡ Ok (statements (branch (tree_a 3) (statements (branch (tree_b 7) (statements (end (column 9) (column 9) ∷ [])) (statements (break (column 12) (column 12) ∷ [])) (column 5) (column 5) ∷ [])) no_statement (column 1) (column 1) ∷ []))

-- `if ( a ) if ( b ) end ; else break ; else continue ;`
abbrev pub TwoElses : Type 0
TwoElses = read (word_of k.If 1 ∷ sign m.LeftParen 2 ∷ a_name 3 ∷ sign m.RightParen 4 ∷ word_of k.If 5 ∷ sign m.LeftParen 6 ∷ b_name 7 ∷ sign m.RightParen 8 ∷ word_of k.End 9 ∷ sign m.Semicolon 10 ∷ word_of k.Else 11 ∷ word_of k.Break 12 ∷ sign m.Semicolon 13 ∷ word_of k.Else 14 ∷ word_of k.Continue 15 ∷ sign m.Semicolon 16 ∷ []) ≡ Ok (statements (branch (tree_a 3) (statements (branch (tree_b 7) (statements (end (column 9) (column 9) ∷ [])) (statements (break (column 12) (column 12) ∷ [])) (column 5) (column 5) ∷ [])) (statements (continue (column 15) (column 15) ∷ [])) (column 1) (column 1) ∷ []))

-- braces keep an `if` apart; the closing brace is that of the first body: `if ( a ) { if ( b ) end ; } else break ;`
abbrev pub ElseBehindBraces : Type 0
ElseBehindBraces = read (word_of k.If 1 ∷ sign m.LeftParen 2 ∷ a_name 3 ∷ sign m.RightParen 4 ∷ sign m.LeftBrace 5 ∷ word_of k.If 6 ∷ sign m.LeftParen 7 ∷ b_name 8 ∷ sign m.RightParen 9 ∷ word_of k.End 10 ∷ sign m.Semicolon 11 ∷ sign m.RightBrace 12 ∷ word_of k.Else 13 ∷ word_of k.Break 14 ∷ sign m.Semicolon 15 ∷ []) ≡ Ok (statements (branch (tree_a 3) (statements (branch (tree_b 8) (statements (end (column 10) (column 10) ∷ [])) no_statement (column 6) (column 6) ∷ [])) (statements (break (column 14) (column 14) ∷ [])) (column 1) (column 12) ∷ []))

-- the closing brace is that of the second body: `if ( a ) { } else { }`
abbrev pub ElseWithBraces : Type 0
ElseWithBraces = read (word_of k.If 1 ∷ sign m.LeftParen 2 ∷ a_name 3 ∷ sign m.RightParen 4 ∷ sign m.LeftBrace 5 ∷ sign m.RightBrace 6 ∷ word_of k.Else 7 ∷ sign m.LeftBrace 8 ∷ sign m.RightBrace 9 ∷ []) ≡ Ok (statements (branch (tree_a 3) no_statement no_statement (column 1) (column 9) ∷ []))

-- the `else` of the `if` in a loop: `while ( a ) if ( b ) end ; else break ;`
abbrev pub ElseOfLoop : Type 0
ElseOfLoop = read (word_of k.While 1 ∷ sign m.LeftParen 2 ∷ a_name 3 ∷ sign m.RightParen 4 ∷ word_of k.If 5 ∷ sign m.LeftParen 6 ∷ b_name 7 ∷ sign m.RightParen 8 ∷ word_of k.End 9 ∷ sign m.Semicolon 10 ∷ word_of k.Else 11 ∷ word_of k.Break 12 ∷ sign m.Semicolon 13 ∷ []) ≡ Ok (statements (while (tree_a 3) (statements (branch (tree_b 7) (statements (end (column 9) (column 9) ∷ [])) (statements (break (column 12) (column 12) ∷ [])) (column 5) (column 5) ∷ [])) (column 1) (column 1) ∷ []))

-- no `else` without `if`: `else end ;`
abbrev pub ElseAlone : Type 0
ElseAlone = read (word_of k.Else 1 ∷ word_of k.End 2 ∷ sign m.Semicolon 3 ∷ []) ≡ Err (syntax (word_of k.Else 1 ∷ word_of k.End 2 ∷ sign m.Semicolon 3 ∷ []))

-- of three parts the middle one is the step: `for int a in [ 1 : 1 : 1 ] { }`
abbrev pub RangeOfThree : Type 0
RangeOfThree = read (word_of k.For 1 ∷ word_of k.Int 2 ∷ a_name 3 ∷ word_of k.In 4 ∷ sign m.LeftBracket 5 ∷ whole 6 ∷ sign m.Colon 7 ∷ whole 8 ∷ sign m.Colon 9 ∷ whole 10 ∷ sign m.RightBracket 11 ∷ sign m.LeftBrace 12 ∷ sign m.RightBrace 13 ∷ []) ≡ Ok (statements (for_range (scalar b.Int absent (column 2)) (name_a 3) (one 6) (present (one 8)) (one 10) no_statement (column 1) (column 13) ∷ []))

-- `for int a in [ 1 : 1 ] end ;`
abbrev pub RangeOfTwo : Type 0
RangeOfTwo = read (word_of k.For 1 ∷ word_of k.Int 2 ∷ a_name 3 ∷ word_of k.In 4 ∷ sign m.LeftBracket 5 ∷ whole 6 ∷ sign m.Colon 7 ∷ whole 8 ∷ sign m.RightBracket 9 ∷ word_of k.End 10 ∷ sign m.Semicolon 11 ∷ []) ≡ Ok (statements (for_range (scalar b.Int absent (column 2)) (name_a 3) (one 6) absent (one 8) (statements (end (column 10) (column 10) ∷ [])) (column 1) (column 1) ∷ []))

-- a set, with a comma at its end: `for int a in { 1 , } end ;`
abbrev pub SetOfTurns : Type 0
SetOfTurns = read (word_of k.For 1 ∷ word_of k.Int 2 ∷ a_name 3 ∷ word_of k.In 4 ∷ sign m.LeftBrace 5 ∷ whole 6 ∷ sign m.Comma 7 ∷ sign m.RightBrace 8 ∷ word_of k.End 9 ∷ sign m.Semicolon 10 ∷ []) ≡ Ok (statements (for_set (scalar b.Int absent (column 2)) (name_a 3) (trees ((one 6) ∷ [])) (statements (end (column 9) (column 9) ∷ [])) (column 1) (column 1) ∷ []))

-- what is returned may be measured: `return measure a ;`
abbrev pub ReturnMeasured : Type 0
ReturnMeasured = read (word_of k.Return 1 ∷ word_of k.Measure 2 ∷ a_name 3 ∷ sign m.Semicolon 4 ∷ []) ≡ Ok (statements (give (Some (measured (operand_a 3))) (column 1) (column 1) ∷ []))

-- two levels are open: a third modifier: `inv @ inv @ inv @ a b ;`
abbrev pub ThirdModifier : Type 0
ThirdModifier = read (word_of k.Inv 1 ∷ sign m.At 2 ∷ word_of k.Inv 3 ∷ sign m.At 4 ∷ word_of k.Inv 5 ∷ sign m.At 6 ∷ a_name 7 ∷ b_name 8 ∷ sign m.Semicolon 9 ∷ []) ≡ Err (deep (word_of k.Inv 5 ∷ sign m.At 6 ∷ a_name 7 ∷ b_name 8 ∷ sign m.Semicolon 9 ∷ []))

-- a modifier opens its level by its word, before its bracket: `inv @ ctrl ( 1 ) @ a b ;`
abbrev pub BracketOfModifier : Type 0
BracketOfModifier = read (word_of k.Inv 1 ∷ sign m.At 2 ∷ word_of k.Ctrl 3 ∷ sign m.LeftParen 4 ∷ whole 5 ∷ sign m.RightParen 6 ∷ sign m.At 7 ∷ a_name 8 ∷ b_name 9 ∷ sign m.Semicolon 10 ∷ []) ≡ Err (deep (sign m.LeftParen 4 ∷ whole 5 ∷ sign m.RightParen 6 ∷ sign m.At 7 ∷ a_name 8 ∷ b_name 9 ∷ sign m.Semicolon 10 ∷ []))

-- a modifier is open to the end of its call: `inv @ inv @ a ( 1 ) b ;`
abbrev pub ArgumentsOfModified : Type 0
ArgumentsOfModified = read (word_of k.Inv 1 ∷ sign m.At 2 ∷ word_of k.Inv 3 ∷ sign m.At 4 ∷ a_name 5 ∷ sign m.LeftParen 6 ∷ whole 7 ∷ sign m.RightParen 8 ∷ b_name 9 ∷ sign m.Semicolon 10 ∷ []) ≡ Err (deep (sign m.LeftParen 6 ∷ whole 7 ∷ sign m.RightParen 8 ∷ b_name 9 ∷ sign m.Semicolon 10 ∷ []))

-- `inv @ inv @ a b [ 1 ] ;`
abbrev pub OperandsOfModified : Type 0
OperandsOfModified = read (word_of k.Inv 1 ∷ sign m.At 2 ∷ word_of k.Inv 3 ∷ sign m.At 4 ∷ a_name 5 ∷ b_name 6 ∷ sign m.LeftBracket 7 ∷ whole 8 ∷ sign m.RightBracket 9 ∷ sign m.Semicolon 10 ∷ []) ≡ Err (deep (sign m.LeftBracket 7 ∷ whole 8 ∷ sign m.RightBracket 9 ∷ sign m.Semicolon 10 ∷ []))

-- bodies are open: a modifier, brackets, a set, a body: `if ( a ) while ( b ) inv @ a b ;`
abbrev pub ModifierInBodies : Type 0
ModifierInBodies = read (word_of k.If 1 ∷ sign m.LeftParen 2 ∷ a_name 3 ∷ sign m.RightParen 4 ∷ word_of k.While 5 ∷ sign m.LeftParen 6 ∷ b_name 7 ∷ sign m.RightParen 8 ∷ word_of k.Inv 9 ∷ sign m.At 10 ∷ a_name 11 ∷ b_name 12 ∷ sign m.Semicolon 13 ∷ []) ≡ Err (deep (word_of k.Inv 9 ∷ sign m.At 10 ∷ a_name 11 ∷ b_name 12 ∷ sign m.Semicolon 13 ∷ []))

-- `if ( a ) while ( b ) if ( a ) end ;`
abbrev pub ConditionInBodies : Type 0
ConditionInBodies = read (word_of k.If 1 ∷ sign m.LeftParen 2 ∷ a_name 3 ∷ sign m.RightParen 4 ∷ word_of k.While 5 ∷ sign m.LeftParen 6 ∷ b_name 7 ∷ sign m.RightParen 8 ∷ word_of k.If 9 ∷ sign m.LeftParen 10 ∷ a_name 11 ∷ sign m.RightParen 12 ∷ word_of k.End 13 ∷ sign m.Semicolon 14 ∷ []) ≡ Err (deep (sign m.LeftParen 10 ∷ a_name 11 ∷ sign m.RightParen 12 ∷ word_of k.End 13 ∷ sign m.Semicolon 14 ∷ []))

-- `if ( a ) while ( b ) bit [ 1 ] a ;`
abbrev pub WidthInBodies : Type 0
WidthInBodies = read (word_of k.If 1 ∷ sign m.LeftParen 2 ∷ a_name 3 ∷ sign m.RightParen 4 ∷ word_of k.While 5 ∷ sign m.LeftParen 6 ∷ b_name 7 ∷ sign m.RightParen 8 ∷ word_of k.Bit 9 ∷ sign m.LeftBracket 10 ∷ whole 11 ∷ sign m.RightBracket 12 ∷ a_name 13 ∷ sign m.Semicolon 14 ∷ []) ≡ Err (deep (sign m.LeftBracket 10 ∷ whole 11 ∷ sign m.RightBracket 12 ∷ a_name 13 ∷ sign m.Semicolon 14 ∷ []))

-- `if ( a ) while ( b ) for int a in { 1 } end ;`
abbrev pub SetInBodies : Type 0
SetInBodies = read (word_of k.If 1 ∷ sign m.LeftParen 2 ∷ a_name 3 ∷ sign m.RightParen 4 ∷ word_of k.While 5 ∷ sign m.LeftParen 6 ∷ b_name 7 ∷ sign m.RightParen 8 ∷ word_of k.For 9 ∷ word_of k.Int 10 ∷ a_name 11 ∷ word_of k.In 12 ∷ sign m.LeftBrace 13 ∷ whole 14 ∷ sign m.RightBrace 15 ∷ word_of k.End 16 ∷ sign m.Semicolon 17 ∷ []) ≡ Err (deep (sign m.LeftBrace 13 ∷ whole 14 ∷ sign m.RightBrace 15 ∷ word_of k.End 16 ∷ sign m.Semicolon 17 ∷ []))

-- `if ( a ) while ( b ) for int a in [ 1 : 1 ] end ;`
abbrev pub RangeInBodies : Type 0
RangeInBodies = read (word_of k.If 1 ∷ sign m.LeftParen 2 ∷ a_name 3 ∷ sign m.RightParen 4 ∷ word_of k.While 5 ∷ sign m.LeftParen 6 ∷ b_name 7 ∷ sign m.RightParen 8 ∷ word_of k.For 9 ∷ word_of k.Int 10 ∷ a_name 11 ∷ word_of k.In 12 ∷ sign m.LeftBracket 13 ∷ whole 14 ∷ sign m.Colon 15 ∷ whole 16 ∷ sign m.RightBracket 17 ∷ word_of k.End 18 ∷ sign m.Semicolon 19 ∷ []) ≡ Err (deep (sign m.LeftBracket 13 ∷ whole 14 ∷ sign m.Colon 15 ∷ whole 16 ∷ sign m.RightBracket 17 ∷ word_of k.End 18 ∷ sign m.Semicolon 19 ∷ []))

-- `if ( a ) while ( b ) gate a ( ) b { }`
abbrev pub GateNamesInBodies : Type 0
GateNamesInBodies = read (word_of k.If 1 ∷ sign m.LeftParen 2 ∷ a_name 3 ∷ sign m.RightParen 4 ∷ word_of k.While 5 ∷ sign m.LeftParen 6 ∷ b_name 7 ∷ sign m.RightParen 8 ∷ word_of k.Gate 9 ∷ a_name 10 ∷ sign m.LeftParen 11 ∷ sign m.RightParen 12 ∷ b_name 13 ∷ sign m.LeftBrace 14 ∷ sign m.RightBrace 15 ∷ []) ≡ Err (deep (sign m.LeftParen 11 ∷ sign m.RightParen 12 ∷ b_name 13 ∷ sign m.LeftBrace 14 ∷ sign m.RightBrace 15 ∷ []))

-- `if ( a ) { while ( b ) { gate a b { } } }`
abbrev pub GateInBodies : Type 0
GateInBodies = read (word_of k.If 1 ∷ sign m.LeftParen 2 ∷ a_name 3 ∷ sign m.RightParen 4 ∷ sign m.LeftBrace 5 ∷ word_of k.While 6 ∷ sign m.LeftParen 7 ∷ b_name 8 ∷ sign m.RightParen 9 ∷ sign m.LeftBrace 10 ∷ word_of k.Gate 11 ∷ a_name 12 ∷ b_name 13 ∷ sign m.LeftBrace 14 ∷ sign m.RightBrace 15 ∷ sign m.RightBrace 16 ∷ sign m.RightBrace 17 ∷ []) ≡ Err (deep (sign m.LeftBrace 14 ∷ sign m.RightBrace 15 ∷ sign m.RightBrace 16 ∷ sign m.RightBrace 17 ∷ []))

-- `if ( a ) while ( b ) def a ( ) { }`
abbrev pub ParametersInBodies : Type 0
ParametersInBodies = read (word_of k.If 1 ∷ sign m.LeftParen 2 ∷ a_name 3 ∷ sign m.RightParen 4 ∷ word_of k.While 5 ∷ sign m.LeftParen 6 ∷ b_name 7 ∷ sign m.RightParen 8 ∷ word_of k.Def 9 ∷ a_name 10 ∷ sign m.LeftParen 11 ∷ sign m.RightParen 12 ∷ sign m.LeftBrace 13 ∷ sign m.RightBrace 14 ∷ []) ≡ Err (deep (sign m.LeftParen 11 ∷ sign m.RightParen 12 ∷ sign m.LeftBrace 13 ∷ sign m.RightBrace 14 ∷ []))

-- `if ( a ) while ( b ) a ( ) ;`
abbrev pub CallInBodies : Type 0
CallInBodies = read (word_of k.If 1 ∷ sign m.LeftParen 2 ∷ a_name 3 ∷ sign m.RightParen 4 ∷ word_of k.While 5 ∷ sign m.LeftParen 6 ∷ b_name 7 ∷ sign m.RightParen 8 ∷ a_name 9 ∷ sign m.LeftParen 10 ∷ sign m.RightParen 11 ∷ sign m.Semicolon 12 ∷ []) ≡ Err (deep (sign m.LeftParen 10 ∷ sign m.RightParen 11 ∷ sign m.Semicolon 12 ∷ []))

-- `if ( a ) while ( b ) a [ 1 ] = 1 ;`
abbrev pub IndexInBodies : Type 0
IndexInBodies = read (word_of k.If 1 ∷ sign m.LeftParen 2 ∷ a_name 3 ∷ sign m.RightParen 4 ∷ word_of k.While 5 ∷ sign m.LeftParen 6 ∷ b_name 7 ∷ sign m.RightParen 8 ∷ a_name 9 ∷ sign m.LeftBracket 10 ∷ whole 11 ∷ sign m.RightBracket 12 ∷ sign m.Assign 13 ∷ whole 14 ∷ sign m.Semicolon 15 ∷ []) ≡ Err (deep (sign m.LeftBracket 10 ∷ whole 11 ∷ sign m.RightBracket 12 ∷ sign m.Assign 13 ∷ whole 14 ∷ sign m.Semicolon 15 ∷ []))

-- operators in front of operators: `a = - - - 1 ;`
abbrev pub ThirdSign : Type 0
ThirdSign = read (a_name 1 ∷ sign m.Assign 2 ∷ sign m.Minus 3 ∷ sign m.Minus 4 ∷ sign m.Minus 5 ∷ whole 6 ∷ sign m.Semicolon 7 ∷ []) ≡ Err (deep (sign m.Minus 5 ∷ whole 6 ∷ sign m.Semicolon 7 ∷ []))

-- brackets that only group: `a = ( ( ( 1 ) ) ) ;`
abbrev pub ThirdGroup : Type 0
ThirdGroup = read (a_name 1 ∷ sign m.Assign 2 ∷ sign m.LeftParen 3 ∷ sign m.LeftParen 4 ∷ sign m.LeftParen 5 ∷ whole 6 ∷ sign m.RightParen 7 ∷ sign m.RightParen 8 ∷ sign m.RightParen 9 ∷ sign m.Semicolon 10 ∷ []) ≡ Err (deep (sign m.LeftParen 5 ∷ whole 6 ∷ sign m.RightParen 7 ∷ sign m.RightParen 8 ∷ sign m.RightParen 9 ∷ sign m.Semicolon 10 ∷ []))

-- a third operator of a chain: `a = 1 + 1 + 1 + 1 ;`
abbrev pub ThirdOperator : Type 0
ThirdOperator = read (a_name 1 ∷ sign m.Assign 2 ∷ whole 3 ∷ sign m.Plus 4 ∷ whole 5 ∷ sign m.Plus 6 ∷ whole 7 ∷ sign m.Plus 8 ∷ whole 9 ∷ sign m.Semicolon 10 ∷ []) ≡ Err (deep (sign m.Plus 8 ∷ whole 9 ∷ sign m.Semicolon 10 ∷ []))

-- the end of the tokens: `end`
abbrev pub AtTheEnd : Type 0
AtTheEnd = read (word_of k.End 1 ∷ []) ≡ Err (syntax [])

-- `while ( a ) {`
abbrev pub OpenBody : Type 0
OpenBody = read (word_of k.While 1 ∷ sign m.LeftParen 2 ∷ a_name 3 ∷ sign m.RightParen 4 ∷ sign m.LeftBrace 5 ∷ []) ≡ Err (syntax [])

-- a mark that begins nothing: `@ a`
abbrev pub AnnotationAlone : Type 0
AnnotationAlone = read (sign m.At 1 ∷ a_name 2 ∷ []) ≡ Err (syntax (sign m.At 1 ∷ a_name 2 ∷ []))
