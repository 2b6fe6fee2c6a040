-- Serves private contracts: the tokens of each part of a canonical text, by their kinds. A law says that a canonical
-- text has them, and the layer above shows that they are the module; the law of writing and reading does not speak
-- of them.
use Rattle.std.specs.Prelude.{ℕ, zero, suc, Bool, true, false, not, List, [], ◌∷◌, ◌++◌, map, length, Option, Some, None, codes, ℤ, pos}
use Rattle.std.specs.List.{flat_map}
use Rattle.std.specs.Fmt.{decimal}
use Rattle.qir_module.specs.declared.instruction.Operand.{Operand}
use Rattle.qir_module.specs.declared.instruction.Operand.TheVariants as o
use Rattle.qir_module.specs.declared.instruction.Opcode.{Opcode}
use Rattle.qir_module.specs.declared.instruction.Opcode.TheVariants.{Add, Sub, Mul, Sdiv, Srem, Udiv, Urem, Shl, Lshr, Ashr, And, Or, Xor, Eq, Ne, Slt, Sle, Sgt, Sge, Ult, Ule, Ugt, Uge}
use Rattle.qir_module.specs.declared.instruction.Arg.{Arg}
use Rattle.qir_module.specs.declared.instruction.Arg.TheVariants as a
use Rattle.qir_module.specs.declared.instruction.Instr.{Instr}
use Rattle.qir_module.specs.declared.instruction.Instr.TheVariants as i
use Rattle.qir_module.specs.declared.instruction.Last.{Last}
use Rattle.qir_module.specs.declared.instruction.Last.TheVariants as l
use Rattle.qir_module.specs.declared.function.Function.{Function}
use Rattle.qir_module.specs.declared.block.Phi.{Phi}
use Rattle.qir_module.specs.declared.block.Block.{Block}
use Rattle.qir_module.specs.Module.{Module}
use Rattle.qir_module.specs.Functions.{Kind, Row, row_of}
use Rattle.qir_module.specs.Text.{escaped}
use Rattle.qir_module.specs.Tokens.{TokenKind, Token}
use Rattle.qir_module.specs.Tokens as t
use Rattle.qir_module.specs.Written.{type_text, truth_text, fixed_text, row_name, kind_text, gives_text, profile_text}

abbrev pub kinds_of : List Token → List TokenKind
kinds_of tokens = map (λ x. x.kind) tokens

-- = ( ) [ ] { } , !
abbrev pub equals : TokenKind
equals = t.Mark 61

abbrev pub left_paren : TokenKind
left_paren = t.Mark 40

abbrev pub right_paren : TokenKind
right_paren = t.Mark 41

abbrev pub left_bracket : TokenKind
left_bracket = t.Mark 91

abbrev pub right_bracket : TokenKind
right_bracket = t.Mark 93

abbrev pub left_brace : TokenKind
left_brace = t.Mark 123

abbrev pub right_brace : TokenKind
right_brace = t.Mark 125

abbrev pub comma : TokenKind
comma = t.Mark 44

abbrev pub bang : TokenKind
bang = t.Mark 33

-- the items, with a comma between each two
abbrev pub joined_tokens : List (List TokenKind) → List TokenKind
joined_tokens [] = []
joined_tokens (item ∷ []) = item
joined_tokens (item ∷ next ∷ items) = item ++ comma ∷ joined_tokens (next ∷ items)

-- ---- types and operands

abbrev pub type_token : Bool → TokenKind
type_token truth = t.Word (type_text truth)

abbrev pub fixed_token : Bool → ℤ → TokenKind
fixed_token false z = t.Number z
fixed_token true z = t.Word (fixed_text true z)

abbrev pub operand_token : Bool → Operand → TokenKind
operand_token truth (o.Register r) = t.Register r
operand_token truth (o.Fixed z) = fixed_token truth z

abbrev pub typed_tokens : Bool → Operand → List TokenKind
typed_tokens truth operand = type_token truth ∷ operand_token truth operand ∷ []

abbrev pub id_tokens : ℕ → List TokenKind
id_tokens zero = t.Word (codes "null") ∷ []
id_tokens (suc n) = t.Word (codes "inttoptr") ∷ left_paren ∷ t.Word (codes "i64") ∷ t.Number (pos (suc n)) ∷ t.Word (codes "to") ∷ t.Word (codes "ptr") ∷ right_paren ∷ []

-- ---- instructions

abbrev pub condition_tokens : List ℕ → List TokenKind
condition_tokens spelling = t.Word (codes "icmp") ∷ t.Word spelling ∷ []

abbrev pub opcode_tokens : Opcode → List TokenKind
opcode_tokens Add = t.Word (codes "add") ∷ []
opcode_tokens Sub = t.Word (codes "sub") ∷ []
opcode_tokens Mul = t.Word (codes "mul") ∷ []
opcode_tokens Sdiv = t.Word (codes "sdiv") ∷ []
opcode_tokens Srem = t.Word (codes "srem") ∷ []
opcode_tokens Udiv = t.Word (codes "udiv") ∷ []
opcode_tokens Urem = t.Word (codes "urem") ∷ []
opcode_tokens Shl = t.Word (codes "shl") ∷ []
opcode_tokens Lshr = t.Word (codes "lshr") ∷ []
opcode_tokens Ashr = t.Word (codes "ashr") ∷ []
opcode_tokens And = t.Word (codes "and") ∷ []
opcode_tokens Or = t.Word (codes "or") ∷ []
opcode_tokens Xor = t.Word (codes "xor") ∷ []
opcode_tokens Eq = condition_tokens (codes "eq")
opcode_tokens Ne = condition_tokens (codes "ne")
opcode_tokens Slt = condition_tokens (codes "slt")
opcode_tokens Sle = condition_tokens (codes "sle")
opcode_tokens Sgt = condition_tokens (codes "sgt")
opcode_tokens Sge = condition_tokens (codes "sge")
opcode_tokens Ult = condition_tokens (codes "ult")
opcode_tokens Ule = condition_tokens (codes "ule")
opcode_tokens Ugt = condition_tokens (codes "ugt")
opcode_tokens Uge = condition_tokens (codes "uge")

abbrev pub arg_tokens : Arg → List TokenKind
arg_tokens (a.Number operand) = typed_tokens false operand
arg_tokens (a.Truth operand) = typed_tokens true operand
arg_tokens (a.Id n) = t.Word (codes "ptr") ∷ id_tokens n
arg_tokens (a.Text k) = t.Word (codes "ptr") ∷ t.Constant k ∷ []

abbrev pub function_token : Function → TokenKind
function_token function = t.Named (row_name (row_of function.0))

abbrev pub args_tokens : List Arg → List TokenKind
args_tokens args = left_paren ∷ joined_tokens (map arg_tokens args) ++ right_paren ∷ []

abbrev pub called_tokens : List ℕ → Function → List Arg → List TokenKind
called_tokens gives function args = t.Word (codes "call") ∷ t.Word gives ∷ function_token function ∷ args_tokens args

abbrev pub call_tokens : Option ℕ → Function → List Arg → List TokenKind
call_tokens None function args = called_tokens (codes "void") function args
call_tokens (Some r) function args = t.Register r ∷ equals ∷ called_tokens (codes "i1") function args

abbrev pub instr_tokens : Instr → List TokenKind
instr_tokens (i.Op r op truth left right) = t.Register r ∷ equals ∷ opcode_tokens op ++ (typed_tokens truth left ++ comma ∷ operand_token truth right ∷ [])
instr_tokens (i.Zext r from) = t.Register r ∷ equals ∷ t.Word (codes "zext") ∷ typed_tokens true from ++ t.Word (codes "to") ∷ t.Word (codes "i64") ∷ []
instr_tokens (i.Trunc r from) = t.Register r ∷ equals ∷ t.Word (codes "trunc") ∷ typed_tokens false from ++ t.Word (codes "to") ∷ t.Word (codes "i1") ∷ []
instr_tokens (i.Select r truth test chosen other) = t.Register r ∷ equals ∷ t.Word (codes "select") ∷ typed_tokens true test ++ comma ∷ typed_tokens truth chosen ++ comma ∷ typed_tokens truth other
instr_tokens (i.Call register function args) = call_tokens register function args

abbrev pub target_tokens : ℕ → List TokenKind
target_tokens name = t.Word (codes "label") ∷ t.Target name ∷ []

abbrev pub last_tokens : Last → List TokenKind
last_tokens (l.Jump to) = t.Word (codes "br") ∷ target_tokens to
last_tokens (l.Branch test first second) = t.Word (codes "br") ∷ typed_tokens true test ++ comma ∷ target_tokens first ++ comma ∷ target_tokens second
last_tokens (l.Return code) = t.Word (codes "ret") ∷ t.Word (codes "i64") ∷ t.Number code ∷ []

abbrev pub entry_tokens : Bool → Operand × ℕ → List TokenKind
entry_tokens truth entry = left_bracket ∷ operand_token truth entry.0 ∷ comma ∷ t.Target entry.1 ∷ right_bracket ∷ []

abbrev pub phi_tokens : Phi → List TokenKind
phi_tokens p = t.Register p.register ∷ equals ∷ t.Word (codes "phi") ∷ type_token (not p.number) ∷ joined_tokens (map (entry_tokens (not p.number)) p.entries)

-- ---- blocks, labels and declarations

abbrev pub block_tokens : Block → List TokenKind
block_tokens b = t.Block b.name ∷ flat_map phi_tokens b.phis ++ (flat_map instr_tokens b.body ++ last_tokens b.last)

-- the k-th label
abbrev pub label_tokens : ℕ → List ℕ → List TokenKind
label_tokens k label =
    t.Constant k ∷ equals ∷ t.Word (codes "internal") ∷ t.Word (codes "constant") ∷ left_bracket ∷ t.Number (pos (length label))
    ∷ t.Word (codes "x") ∷ t.Word (codes "i8") ∷ right_bracket ∷ t.Bytes (flat_map escaped label) ∷ []

abbrev pub labels_tokens : ℕ → List (List ℕ) → List TokenKind
labels_tokens k [] = []
labels_tokens k (label ∷ labels) = label_tokens k label ++ labels_tokens (suc k) labels

abbrev pub kind_tokens : Kind → List TokenKind
kind_tokens kind = t.Word (kind_text kind) ∷ []

abbrev pub group_tokens : Bool → List TokenKind
group_tokens true = t.Group 1 ∷ []
group_tokens false = []

abbrev pub row_tokens : Option Row → List TokenKind
row_tokens None = []
row_tokens (Some row) =
    t.Word (codes "declare") ∷ t.Word (gives_text row.gives) ∷ t.Named row.name
    ∷ left_paren ∷ joined_tokens (map kind_tokens row.takes) ++ right_paren ∷ group_tokens row.irreversible

abbrev pub declaration_tokens : Function → List TokenKind
declaration_tokens function = row_tokens (row_of function.0)

-- what stands in front of the blocks
abbrev pub function_front : List TokenKind
function_front = t.Word (codes "define") ∷ t.Word (codes "i64") ∷ t.Named (codes "main") ∷ left_paren ∷ right_paren ∷ t.Group 0 ∷ left_brace ∷ []

abbrev pub function_tokens : List Block → List TokenKind
function_tokens blocks = function_front ++ (flat_map block_tokens blocks ++ right_brace ∷ [])

-- ---- attributes and flags

-- a key and its value
abbrev pub key_tokens : List ℕ → List ℕ → List TokenKind
key_tokens key value = t.Text key ∷ equals ∷ t.Text value ∷ []

abbrev pub attributes_tokens : Module → List TokenKind
attributes_tokens m =
    t.Word (codes "attributes") ∷ t.Group 0 ∷ equals ∷ left_brace ∷ t.Text (codes "entry_point")
    ∷ key_tokens (codes "qir_profiles") (profile_text m.profile) ++ (key_tokens (codes "output_labeling_schema") (codes "labeled")
    ++ (key_tokens (codes "required_num_qubits") (decimal m.qubits) ++ (key_tokens (codes "required_num_results") (decimal m.results) ++ right_brace ∷ [])))

abbrev pub second_attributes_tokens : List TokenKind
second_attributes_tokens = t.Word (codes "attributes") ∷ t.Group 1 ∷ equals ∷ left_brace ∷ t.Text (codes "irreversible") ∷ right_brace ∷ []

abbrev pub flag_list_tokens : List TokenKind
flag_list_tokens =
    t.FlagName (codes "llvm.module.flags") ∷ equals ∷ bang ∷ left_brace ∷ t.Flag 0 ∷ comma ∷ t.Flag 1 ∷ comma ∷ t.Flag 2 ∷ comma ∷ t.Flag 3 ∷ right_brace ∷ []

-- the k-th flag: how flags of this kind behave, its name, and its value behind its type
abbrev pub flag_tokens : ℕ → ℕ → List ℕ → List ℕ → TokenKind → List TokenKind
flag_tokens k behaviour name type value =
    t.Flag k ∷ equals ∷ bang ∷ left_brace ∷ t.Word (codes "i32") ∷ t.Number (pos behaviour) ∷ comma ∷ t.FlagText name ∷ comma ∷ t.Word type ∷ value ∷ right_brace ∷ []

abbrev pub flags_tokens : Module → List TokenKind
flags_tokens m =
    flag_tokens 0 1 (codes "qir_major_version") (codes "i32") (t.Number (pos m.major))
    ++ (flag_tokens 1 7 (codes "qir_minor_version") (codes "i32") (t.Number (pos m.minor))
    ++ (flag_tokens 2 1 (codes "dynamic_qubit_management") (codes "i1") (t.Word (truth_text m.dynamic_qubits))
    ++ flag_tokens 3 1 (codes "dynamic_result_management") (codes "i1") (t.Word (truth_text m.dynamic_results))))

-- ---- the module

abbrev pub module_tokens : Module → List TokenKind
module_tokens m =
    labels_tokens 0 m.labels ++ (function_tokens m.blocks ++ (flat_map declaration_tokens m.declarations
    ++ (attributes_tokens m ++ (second_attributes_tokens ++ (flag_list_tokens ++ flags_tokens m)))))
