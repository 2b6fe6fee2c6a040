-- The canonical text of a module: QIR as the QIR Alliance specifies it, in the syntax of the LLVM Language
-- Reference, one item a line, with no comments and no free blanks.
use Rattle.std.specs.Prelude.{ℕ, zero, suc, Bool, true, false, not, List, [], ◌∷◌, ◌++◌, length, map, ℤ, pos, Option, Some, None, codes}
use Rattle.std.specs.List.{flat_map}
use Rattle.std.specs.Fmt.{decimal, signed_decimal}
use Rattle.qir_module.specs.declared.instruction.Operand.{Operand}
use Rattle.qir_module.specs.declared.instruction.Operand.TheVariants.{Register, Fixed}
use Rattle.qir_module.specs.declared.instruction.Opcode.{Opcode}
use Rattle.qir_module.specs.declared.instruction.Opcode.TheVariants.{Add, Sub, Mul, Sdiv, Srem, Udiv, Urem, Shl, Lshr, Ashr, And, Or, Xor, Eq, Ne, Slt, Sle, Sgt, Sge, Ult, Ule, Ugt, Uge}
use Rattle.qir_module.specs.declared.instruction.Arg.{Arg}
use Rattle.qir_module.specs.declared.instruction.Arg.TheVariants.{Number, Truth, Id, Text}
use Rattle.qir_module.specs.declared.instruction.Instr.{Instr}
use Rattle.qir_module.specs.declared.instruction.Instr.TheVariants.{Op, Zext, Trunc, Select, Call}
use Rattle.qir_module.specs.declared.instruction.Last.{Last}
use Rattle.qir_module.specs.declared.instruction.Last.TheVariants.{Jump, Branch, Return}
use Rattle.qir_module.specs.declared.function.Function.{Function}
use Rattle.qir_module.specs.declared.block.Phi.{Phi}
use Rattle.qir_module.specs.declared.block.Block.{Block}
use Rattle.qir_module.specs.declared.profile.Profile.{Profile}
use Rattle.qir_module.specs.declared.profile.Profile.TheVariants.{Adaptive, Base}
use Rattle.qir_module.specs.Module.{Module}
use Rattle.qir_module.specs.Functions.{Kind, NumberKind, TruthKind, Row, row_of}
use Rattle.qir_module.specs.Text.{line, comma_joined, escaped}

-- ---- names, types and operands

abbrev pub register_text : ℕ → List ℕ
register_text r = codes "%r" ++ decimal r

-- a block where it is jumped to
abbrev pub target_text : ℕ → List ℕ
target_text name = codes "%b" ++ decimal name

-- a word, or a truth value where the flag says so
abbrev pub type_text : Bool → List ℕ
type_text true = codes "i1"
type_text false = codes "i64"

abbrev pub truth_text : Bool → List ℕ
truth_text true = codes "true"
truth_text false = codes "false"

abbrev pub fixed_text : Bool → ℤ → List ℕ
fixed_text false z = signed_decimal z
fixed_text true (pos zero) = truth_text false
fixed_text true z = truth_text true

abbrev pub operand_text : Bool → Operand → List ℕ
operand_text truth (Register r) = register_text r
operand_text truth (Fixed z) = fixed_text truth z

-- the operand behind its type
abbrev pub typed_text : Bool → Operand → List ℕ
typed_text truth operand = type_text truth ++ codes " " ++ operand_text truth operand

-- a qubit or a result is a pointer, made of its number
abbrev pub id_text : ℕ → List ℕ
id_text zero = codes "null"
id_text (suc n) = codes "inttoptr (i64 " ++ decimal (suc n) ++ codes " to ptr)"

abbrev pub label_name_text : ℕ → List ℕ
label_name_text k = codes "@" ++ decimal k

-- ---- instructions

abbrev pub opcode_text : Opcode → List ℕ
opcode_text Add = codes "add"
opcode_text Sub = codes "sub"
opcode_text Mul = codes "mul"
opcode_text Sdiv = codes "sdiv"
opcode_text Srem = codes "srem"
opcode_text Udiv = codes "udiv"
opcode_text Urem = codes "urem"
opcode_text Shl = codes "shl"
opcode_text Lshr = codes "lshr"
opcode_text Ashr = codes "ashr"
opcode_text And = codes "and"
opcode_text Or = codes "or"
opcode_text Xor = codes "xor"
opcode_text Eq = codes "icmp eq"
opcode_text Ne = codes "icmp ne"
opcode_text Slt = codes "icmp slt"
opcode_text Sle = codes "icmp sle"
opcode_text Sgt = codes "icmp sgt"
opcode_text Sge = codes "icmp sge"
opcode_text Ult = codes "icmp ult"
opcode_text Ule = codes "icmp ule"
opcode_text Ugt = codes "icmp ugt"
opcode_text Uge = codes "icmp uge"

-- what a register is given
abbrev pub assigned_text : ℕ → List ℕ → List ℕ
assigned_text r value = register_text r ++ codes " = " ++ value

abbrev pub arg_text : Arg → List ℕ
arg_text (Number operand) = typed_text false operand
arg_text (Truth operand) = typed_text true operand
arg_text (Id n) = codes "ptr " ++ id_text n
arg_text (Text k) = codes "ptr " ++ label_name_text k

-- the function's name, behind its @
abbrev pub row_name : Option Row → List ℕ
row_name None = []
row_name (Some row) = row.name

abbrev pub function_text : Function → List ℕ
function_text function = codes "@" ++ row_name (row_of function.0)

-- a call by what it gives: i1 where a register takes it
abbrev pub called_text : List ℕ → Function → List Arg → List ℕ
called_text gives function args = codes "call " ++ gives ++ codes " " ++ function_text function ++ codes "(" ++ comma_joined (map arg_text args) ++ codes ")"

abbrev pub call_text : Option ℕ → Function → List Arg → List ℕ
call_text None function args = called_text (codes "void") function args
call_text (Some r) function args = assigned_text r (called_text (codes "i1") function args)

abbrev pub instr_text : Instr → List ℕ
instr_text (Op r op truth left right) = assigned_text r (opcode_text op ++ codes " " ++ typed_text truth left ++ codes ", " ++ operand_text truth right)
instr_text (Zext r from) = assigned_text r (codes "zext " ++ typed_text true from ++ codes " to i64")
instr_text (Trunc r from) = assigned_text r (codes "trunc " ++ typed_text false from ++ codes " to i1")
instr_text (Select r truth test chosen other) = assigned_text r (codes "select " ++ typed_text true test ++ codes ", " ++ typed_text truth chosen ++ codes ", " ++ typed_text truth other)
instr_text (Call register function args) = call_text register function args

abbrev pub last_text : Last → List ℕ
last_text (Jump to) = codes "br label " ++ target_text to
last_text (Branch test first second) = codes "br " ++ typed_text true test ++ codes ", label " ++ target_text first ++ codes ", label " ++ target_text second
last_text (Return code) = codes "ret i64 " ++ signed_decimal code

abbrev pub entry_text : Bool → Operand × ℕ → List ℕ
entry_text truth entry = codes "[ " ++ operand_text truth entry.0 ++ codes ", " ++ target_text entry.1 ++ codes " ]"

abbrev pub phi_text : Phi → List ℕ
phi_text p = let truth = not p.number in assigned_text p.register (codes "phi " ++ type_text truth ++ codes " " ++ comma_joined (map (entry_text truth) p.entries))

-- ---- blocks, labels and declarations

-- an item of a block stands in a line of its own, behind two blanks
abbrev pub item_line : List ℕ → List ℕ
item_line text = line (codes "  " ++ text)

abbrev pub body_text : List Instr → List ℕ
body_text instrs = flat_map (λ i. item_line (instr_text i)) instrs

abbrev pub block_text : Block → List ℕ
block_text b =
    line (codes "b" ++ decimal b.name ++ codes ":")
    ++ flat_map (λ p. item_line (phi_text p)) b.phis ++ body_text b.body ++ item_line (last_text b.last)

-- the k-th label: its length, and its bytes
abbrev pub label_text : ℕ → List ℕ → List ℕ
label_text k label =
    line (label_name_text k ++ codes " = internal constant [" ++ decimal (length label) ++ codes " x i8] c\"" ++ flat_map escaped label ++ codes "\"")

-- the labels from the k-th on
abbrev pub labels_text : ℕ → List (List ℕ) → List ℕ
labels_text k [] = []
labels_text k (label ∷ labels) = label_text k label ++ labels_text (suc k) labels

-- a blank line stands behind the labels, where there are any
abbrev pub behind_labels : List (List ℕ) → List ℕ
behind_labels [] = []
behind_labels (label ∷ labels) = line []

abbrev pub kind_text : Kind → List ℕ
kind_text NumberKind = codes "i64"
kind_text TruthKind = codes "i1"
kind_text _ = codes "ptr"

-- what a call of the function gives
abbrev pub gives_text : Bool → List ℕ
gives_text true = codes "i1"
gives_text false = codes "void"

abbrev pub group_text : Bool → List ℕ
group_text true = codes " #1"
group_text false = []

abbrev pub row_text : Option Row → List ℕ
row_text None = []
row_text (Some row) = line (codes "declare " ++ gives_text row.gives ++ codes " @" ++ row.name ++ codes "(" ++ comma_joined (map kind_text row.takes) ++ codes ")" ++ group_text row.irreversible)

abbrev pub declaration_text : Function → List ℕ
declaration_text function = row_text (row_of function.0)

-- ---- attributes and flags

abbrev pub profile_text : Profile → List ℕ
profile_text Adaptive = codes "adaptive_profile"
profile_text Base = codes "base_profile"

abbrev pub attributes_text : Module → List ℕ
attributes_text m =
    line (codes "attributes #0 = { \"entry_point\" \"qir_profiles\"=\"" ++ profile_text m.profile
    ++ codes "\" \"output_labeling_schema\"=\"labeled\" \"required_num_qubits\"=\"" ++ decimal m.qubits
    ++ codes "\" \"required_num_results\"=\"" ++ decimal m.results ++ codes "\" }")
    ++ line (codes "attributes #1 = { \"irreversible\" }")

abbrev pub flags_text : Module → List ℕ
flags_text m =
    line (codes "!0 = !{i32 1, !\"qir_major_version\", i32 " ++ decimal m.major ++ codes "}")
    ++ line (codes "!1 = !{i32 7, !\"qir_minor_version\", i32 " ++ decimal m.minor ++ codes "}")
    ++ line (codes "!2 = !{i32 1, !\"dynamic_qubit_management\", i1 " ++ truth_text m.dynamic_qubits ++ codes "}")
    ++ line (codes "!3 = !{i32 1, !\"dynamic_result_management\", i1 " ++ truth_text m.dynamic_results ++ codes "}")

-- ---- the module

abbrev pub written : Module → List ℕ
written m =
    labels_text 0 m.labels ++ behind_labels m.labels
    ++ line (codes "define i64 @main() #0 {") ++ flat_map block_text m.blocks ++ line (codes "}") ++ line []
    ++ flat_map declaration_text m.declarations ++ line []
    ++ attributes_text m ++ line []
    ++ line (codes "!llvm.module.flags = !{!0, !1, !2, !3}") ++ line []
    ++ flags_text m
