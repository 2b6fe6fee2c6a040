-- For private contracts only: which parts of a statement a token begins, by its kind.
use Rattle.std.specs.Prelude.{ℕ, Bool, true, false, ◌||◌, List, Option, Some, None}
use Rattle.qasm_lexer.specs.declared.token.TokenKind.{TokenKind}
use Rattle.qasm_lexer.specs.declared.token.TokenKind.TheVariants as t
use Rattle.qasm_lexer.specs.declared.token.Keyword.TheVariants as k
use Rattle.qasm_lexer.specs.declared.token.Mark.TheVariants as m
use Rattle.qasm_ast.specs.declared.expr.BinaryOp.{BinaryOp}
use Rattle.qasm_ast.specs.declared.expr.BinaryOp.TheVariants as op
use Rattle.qasm_grammar.specs.Reader.{name_kinds, operand_kinds, parameter_kinds, change_kinds, call_kinds, member_kinds, assignment_kinds, declaration_kinds, action_kinds, stmt_kinds}
use Rattle.program_parser.specs.declared.begins.Part.{Part}
use Rattle.program_parser.specs.declared.begins.Part.TheVariants as p

abbrev pub is_name : TokenKind → Bool
is_name t.Name = true
is_name _ = false

abbrev pub is_hardware : TokenKind → Bool
is_hardware (t.Hardware n) = true
is_hardware _ = false

abbrev pub is_type : TokenKind → Bool
is_type (t.Word k.Bool) = true
is_type (t.Word k.Bit) = true
is_type (t.Word k.Int) = true
is_type (t.Word k.Uint) = true
is_type (t.Word k.Angle) = true
is_type _ = false

abbrev pub is_qubit : TokenKind → Bool
is_qubit (t.Word k.Qubit) = true
is_qubit _ = false

abbrev pub is_change : TokenKind → Bool
is_change (t.Word k.Inv) = true
is_change (t.Word k.Pow) = true
is_change (t.Word k.Ctrl) = true
is_change _ = false

abbrev pub is_phase : TokenKind → Bool
is_phase (t.Word k.Gphase) = true
is_phase _ = false

abbrev pub is_call : TokenKind → Bool
is_call kind = is_change kind || is_phase kind || is_name kind

abbrev pub is_barrier : TokenKind → Bool
is_barrier (t.Word k.Barrier) = true
is_barrier _ = false

abbrev pub is_assignment : TokenKind → Bool
is_assignment (t.Mark m.LeftBracket) = true
is_assignment (t.Mark m.Assign) = true
is_assignment (t.Mark m.PlusAssign) = true
is_assignment (t.Mark m.MinusAssign) = true
is_assignment (t.Mark m.StarAssign) = true
is_assignment (t.Mark m.SlashAssign) = true
is_assignment (t.Mark m.PercentAssign) = true
is_assignment (t.Mark m.AndAssign) = true
is_assignment (t.Mark m.OrAssign) = true
is_assignment (t.Mark m.CaretAssign) = true
is_assignment (t.Mark m.ShiftLeftAssign) = true
is_assignment (t.Mark m.ShiftRightAssign) = true
is_assignment _ = false

abbrev pub is_declaration : TokenKind → Bool
is_declaration (t.Word k.Include) = true
is_declaration (t.Word k.Qubit) = true
is_declaration (t.Word k.Qreg) = true
is_declaration (t.Word k.Creg) = true
is_declaration (t.Word k.Const) = true
is_declaration (t.Word k.Output) = true
is_declaration (t.Word k.Let) = true
is_declaration (t.Word k.Gate) = true
is_declaration (t.Word k.Def) = true
is_declaration kind = is_type kind

abbrev pub is_action : TokenKind → Bool
is_action (t.Word k.Barrier) = true
is_action (t.Word k.Reset) = true
is_action (t.Word k.Measure) = true
is_action (t.Word k.Break) = true
is_action (t.Word k.Continue) = true
is_action (t.Word k.End) = true
is_action (t.Word k.Return) = true
is_action kind = is_call kind

abbrev pub is_control : TokenKind → Bool
is_control (t.Word k.If) = true
is_control (t.Word k.While) = true
is_control (t.Word k.For) = true
is_control _ = false

-- the operator of a mark that assigns its value
abbrev pub assigning : TokenKind → Option BinaryOp
assigning (t.Mark m.PlusAssign) = Some op.Add
assigning (t.Mark m.MinusAssign) = Some op.Subtract
assigning (t.Mark m.StarAssign) = Some op.Multiply
assigning (t.Mark m.SlashAssign) = Some op.Divide
assigning (t.Mark m.PercentAssign) = Some op.Remainder
assigning (t.Mark m.AndAssign) = Some op.BitAnd
assigning (t.Mark m.OrAssign) = Some op.BitOr
assigning (t.Mark m.CaretAssign) = Some op.BitXor
assigning (t.Mark m.ShiftLeftAssign) = Some op.ShiftLeft
assigning (t.Mark m.ShiftRightAssign) = Some op.ShiftRight
assigning _ = None

-- the number of a hardware qubit
abbrev pub hardware_number : TokenKind → Option ℕ
hardware_number (t.Hardware n) = Some n
hardware_number _ = None

-- whether a token of this kind begins the part
abbrev pub is_begun : Part → TokenKind → Bool
is_begun p.Name kind = is_name kind
is_begun p.Operand kind = is_name kind || is_hardware kind
is_begun p.Parameter kind = is_type kind || is_qubit kind
is_begun p.Change kind = is_change kind
is_begun p.Call kind = is_call kind
is_begun p.Member kind = is_call kind || is_barrier kind
is_begun p.Assignment kind = is_assignment kind
is_begun p.Declaration kind = is_declaration kind
is_begun p.Action kind = is_action kind
is_begun p.Stmt kind = is_declaration kind || is_action kind || is_control kind

-- the kinds that begin it, as the grammar's readers have them
abbrev pub kinds_with : Part → List ℕ
kinds_with p.Name = name_kinds
kinds_with p.Operand = operand_kinds
kinds_with p.Parameter = parameter_kinds
kinds_with p.Change = change_kinds
kinds_with p.Call = call_kinds
kinds_with p.Member = member_kinds
kinds_with p.Assignment = assignment_kinds
kinds_with p.Declaration = declaration_kinds
kinds_with p.Action = action_kinds
kinds_with p.Stmt = stmt_kinds
