-- This serves private contracts alone: the module of one block that a thin program is lowered to, with calls in the
-- order of the program's lines, and then the records of its bits. What a lowered module has to do is `Implements`.
use Rattle.std.specs.Prelude.{ℕ, suc, Bool, true, false, List, [], ◌∷◌, ◌++◌, length, replicate, slice_set, pos, Some, None}
use Rattle.std.specs.List.{list_any}
use Rattle.qir_module.specs.declared.instruction.Operand.{Operand}
use Rattle.qir_module.specs.declared.instruction.Operand.TheVariants.{Register, Fixed}
use Rattle.qir_module.specs.declared.instruction.Arg.{Arg}
use Rattle.qir_module.specs.declared.instruction.Arg.TheVariants.{Number, Truth, Id, Text}
use Rattle.qir_module.specs.declared.instruction.Instr.{Instr}
use Rattle.qir_module.specs.declared.instruction.Instr.TheVariants.{Call}
use Rattle.qir_module.specs.declared.instruction.Last.TheVariants.{Return}
use Rattle.qir_module.specs.declared.function.Function.{Function}
use Rattle.qir_module.specs.declared.block.Block.{Block}
use Rattle.qir_module.specs.declared.profile.Profile.TheVariants.{Adaptive}
use Rattle.qir_module.specs.Module.{Module}
use Rattle.qq_tool.specs.declared.thin.ThinLine.{ThinLine}
use Rattle.qq_tool.specs.declared.thin.ThinLine.TheVariants.{Hadamard, Not, ControlledNot, Measure}
use Rattle.qq_tool.specs.Thin.{Thin}
use Rattle.qq_tool.specs.ThinRun.{labels_of}

-- a function, by its place in the function table
abbrev pub function : ℕ → Function
function n = record { 0 = n }

-- a call that gives nothing
abbrev pub call : ℕ → List Arg → Instr
call n args = Call None (function n) args

-- ---- the lines, where so many measurements stand before them

-- The k-th measurement goes to result k, which is read into register k right behind.
abbrev pub line_instrs : ℕ → ThinLine → List Instr
line_instrs k (Hadamard qubit) = call 10 (Id qubit ∷ []) ∷ []
line_instrs k (Not qubit) = call 7 (Id qubit ∷ []) ∷ []
line_instrs k (ControlledNot control target) = call 22 (Id control ∷ Id target ∷ []) ∷ []
line_instrs k (Measure qubit bit) = call 6 (Id qubit ∷ Id k ∷ []) ∷ Call (Some k) (function 1) (Id k ∷ []) ∷ []

-- the number of measurements behind a line
abbrev pub count_behind : ℕ → ThinLine → ℕ
count_behind k (Hadamard qubit) = k
count_behind k (Not qubit) = k
count_behind k (ControlledNot control target) = k
count_behind k (Measure qubit bit) = suc k

abbrev pub lines_instrs : ℕ → List ThinLine → List Instr
lines_instrs k [] = []
lines_instrs k (l ∷ lines) = line_instrs k l ++ lines_instrs (count_behind k l) lines

abbrev pub lines_count : ℕ → List ThinLine → ℕ
lines_count k [] = k
lines_count k (l ∷ lines) = lines_count (count_behind k l) lines

-- the operands of the bits behind a line: a measured bit is in the register that its result is read into
abbrev pub operands_behind : ℕ → ThinLine → List Operand → List Operand
operands_behind k (Hadamard qubit) operands = operands
operands_behind k (Not qubit) operands = operands
operands_behind k (ControlledNot control target) operands = operands
operands_behind k (Measure qubit bit) operands = slice_set operands bit (Register k)

abbrev pub lines_operands : ℕ → List ThinLine → List Operand → List Operand
lines_operands k [] operands = operands
lines_operands k (l ∷ lines) operands = lines_operands (count_behind k l) lines (operands_behind k l operands)

-- ---- the records

-- the record of each bit, labelled from the k-th label on
abbrev pub bit_record_instrs : ℕ → List Operand → List Instr
bit_record_instrs k [] = []
bit_record_instrs k (operand ∷ operands) = call 3 (Truth operand ∷ Text k ∷ []) ∷ bit_record_instrs (suc k) operands

abbrev pub record_instrs : List Operand → List Instr
record_instrs operands = call 2 (Number (Fixed (pos (length operands))) ∷ Text 0 ∷ []) ∷ bit_record_instrs 1 operands

-- ---- the declarations

abbrev pub is_hadamard : ThinLine → Bool
is_hadamard (Hadamard qubit) = true
is_hadamard _ = false

abbrev pub is_not : ThinLine → Bool
is_not (Not qubit) = true
is_not _ = false

abbrev pub is_controlled_not : ThinLine → Bool
is_controlled_not (ControlledNot control target) = true
is_controlled_not _ = false

abbrev pub is_measure : ThinLine → Bool
is_measure (Measure qubit bit) = true
is_measure _ = false

abbrev pub declared_if : Bool → ℕ → List Function
declared_if true n = function n ∷ []
declared_if false n = []

-- the called functions, in the order of the table
abbrev pub declared_by : List ThinLine → List Function
declared_by lines =
    declared_if true 0 ++ declared_if (list_any is_measure lines) 1 ++ declared_if true 2 ++ declared_if true 3
    ++ declared_if (list_any is_measure lines) 6 ++ declared_if (list_any is_not lines) 7
    ++ declared_if (list_any is_hadamard lines) 10 ++ declared_if (list_any is_controlled_not lines) 22

-- ---- the module

-- all bits are 0 at first
abbrev pub last_operands : Thin → List Operand
last_operands p = lines_operands 0 p.lines (replicate p.bits (Fixed (pos 0)))

abbrev pub lowered_body : Thin → List Instr
lowered_body p = call 0 (Id 0 ∷ []) ∷ (lines_instrs 0 p.lines ++ record_instrs (last_operands p))

abbrev pub lowered_block : Thin → Block
lowered_block p = record { name = 0; phis = []; body = lowered_body p; last = Return (pos 0) }

abbrev pub lowered : Thin → Module
lowered p = record {
  labels = labels_of p;
  blocks = lowered_block p ∷ [];
  declarations = declared_by p.lines;
  profile = Adaptive;
  qubits = p.qubits;
  results = lines_count 0 p.lines;
  major = 2;
  minor = 0;
  dynamic_qubits = false;
  dynamic_results = false;
}
