-- A module as a value, and what it means that one is shaped.
use Rattle.std.specs.Prelude.{ℕ, ◌+◌, ◌<◌, ◌^◌, ◌≡◌, ◌⊎◌, Bool, true, false, not, List, [], ◌∷◌, ◌++◌, length, All, pos, Option, Some, None, FitsSigned}
use Rattle.std.specs.Int.{w64}
use Rattle.std.specs.List.{AllByRecursion}
use Rattle.qir_module.specs.declared.instruction.Operand.{Operand}
use Rattle.qir_module.specs.declared.instruction.Operand.TheVariants.{Register, Fixed}
use Rattle.qir_module.specs.declared.instruction.Opcode.{Opcode}
use Rattle.qir_module.specs.declared.instruction.Opcode.TheVariants.{And, Or, Xor}
use Rattle.qir_module.specs.declared.instruction.Arg.{Arg}
use Rattle.qir_module.specs.declared.instruction.Arg.TheVariants.{Number, Truth, Id, Text}
use Rattle.qir_module.specs.declared.instruction.Instr.{Instr}
use Rattle.qir_module.specs.declared.instruction.Instr.TheVariants.{Op, Zext, Trunc, Select, Call}
use Rattle.qir_module.specs.declared.instruction.Last.{Last}
use Rattle.qir_module.specs.declared.instruction.Last.TheVariants.{Jump, Branch, Return}
use Rattle.qir_module.specs.declared.function.Function.{Function}
use Rattle.qir_module.specs.declared.block.Phi.{Phi}
use Rattle.qir_module.specs.declared.block.Block.{Block}
use Rattle.qir_module.specs.declared.profile.Profile.{Profile}
use Rattle.qir_module.specs.Items.{items_of}

pub record Module : Type 0 where
  pub labels : List (List ℕ)
  pub blocks : List Block
  pub declarations : List Function
  pub profile : Profile
  pub qubits : ℕ
  pub results : ℕ
  pub major : ℕ
  pub minor : ℕ
  pub dynamic_qubits : Bool
  pub dynamic_results : Bool

-- ---- numbers, each within the range of its field

-- a register, a block's name, a qubit or a result, a label's number, a required number or a flag
abbrev pub IsNumber : ℕ → Type 0
IsNumber n = n < 2 ^ 32

-- a word is a whole number of 64 bits with sign
abbrev pub IsWordOperand : Operand → Type 0
IsWordOperand (Register r) = IsNumber r
IsWordOperand (Fixed z) = FitsSigned w64 z

-- a fixed truth value is 0 or 1
abbrev pub IsTruth : Operand → Type 0
IsTruth (Register r) = IsNumber r
IsTruth (Fixed z) = (z ≡ pos 0) ⊎ (z ≡ pos 1)

-- a truth value where the flag says so, else a word
abbrev pub IsTyped : Bool → Operand → Type 0
IsTyped true operand = IsTruth operand
IsTyped false operand = IsWordOperand operand

-- the function table has 37 rows
abbrev pub IsFunction : Function → Type 0
IsFunction f = f.0 < 37

-- ---- instructions

-- a binary instruction on truth values is `and`, `or` or `xor`
abbrev pub IsTruthOpcode : Bool → Opcode → Type 0
IsTruthOpcode false op = Unit {0}
IsTruthOpcode true And = Unit {0}
IsTruthOpcode true Or = Unit {0}
IsTruthOpcode true Xor = Unit {0}
IsTruthOpcode true _ = ⊥

abbrev pub IsShapedArg : Arg → Type 0
IsShapedArg (Number operand) = IsWordOperand operand
IsShapedArg (Truth operand) = IsTruth operand
IsShapedArg (Id n) = IsNumber n
IsShapedArg (Text k) = IsNumber k

-- the register of a call, if one takes its value
abbrev pub IsRegister : Option ℕ → Type 0
IsRegister None = Unit {0}
IsRegister (Some r) = IsNumber r

abbrev pub IsShapedInstr : Instr → Type 0
IsShapedInstr (Op r op truth left right) = IsNumber r × IsTruthOpcode truth op × IsTyped truth left × IsTyped truth right
IsShapedInstr (Zext r from) = IsNumber r × IsTruth from
IsShapedInstr (Trunc r from) = IsNumber r × IsWordOperand from
IsShapedInstr (Select r truth test chosen other) = IsNumber r × IsTruth test × IsTyped truth chosen × IsTyped truth other
IsShapedInstr (Call register function args) = IsRegister register × IsFunction function × AllByRecursion IsShapedArg args

abbrev pub IsShapedLast : Last → Type 0
IsShapedLast (Jump to) = IsNumber to
IsShapedLast (Branch test first second) = IsTruth test × IsNumber first × IsNumber second
IsShapedLast (Return code) = FitsSigned w64 code

-- ---- blocks

-- an operand, and the name of the block that it comes from
abbrev pub IsShapedEntry : Bool → Operand × ℕ → Type 0
IsShapedEntry truth entry = IsTyped truth entry.0 × IsNumber entry.1

-- a phi has an entry
abbrev pub IsShapedPhi : Phi → Type 0
IsShapedPhi p = IsNumber p.register × (0 < length p.entries) × AllByRecursion (IsShapedEntry (not p.number)) p.entries

abbrev pub IsShapedBlock : Block → Type 0
IsShapedBlock b =
    IsNumber b.name
    × (length b.phis + length b.body + 1 < 2 ^ 32)
    × AllByRecursion IsShapedPhi b.phis × AllByRecursion IsShapedInstr b.body × IsShapedLast b.last

-- ---- the module

-- a label is a list of bytes that ends with a zero byte
abbrev pub IsByte : ℕ → Type 0
IsByte byte = byte < 2 ^ 8

abbrev pub IsLabel : List ℕ → Type 0
IsLabel bytes = (length bytes < 2 ^ 32) × All IsByte bytes × (text : List ℕ) × (bytes ≡ text ++ 0 ∷ [])

pub record IsShaped (m : Module) : Type 0 where
  pub has_block : 0 < length m.blocks
  pub few_labels : length m.labels < 2 ^ 32
  pub few_blocks : length m.blocks < 2 ^ 32
  pub few_items : items_of m.blocks < 2 ^ 64
  pub each_label : AllByRecursion IsLabel m.labels
  pub each_block : AllByRecursion IsShapedBlock m.blocks
  pub each_declaration : AllByRecursion IsFunction m.declarations
  pub qubits : IsNumber m.qubits
  pub results : IsNumber m.results
  pub major : IsNumber m.major
  pub minor : IsNumber m.minor
