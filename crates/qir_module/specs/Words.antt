-- The words and texts that the grammar of QIR text knows, each with its spelling, and the tokens by the numbers
-- of their kinds.
use Rattle.std.specs.Prelude.{ℕ, zero, suc, ◌+◌, ◌^◌, ◌==◌, ◌&&◌, not, Bool, true, false, cond, nat_lt, ℤ, pos, negsuc, List, [], ◌∷◌, codes, Option, Some, None}
use Rattle.std.specs.List.{list_all}
use Rattle.std.specs.Char.{is_ascii_digit}
use Rattle.std.specs.Str.Parse.{digits_value}
use Rattle.qir_module.specs.declared.instruction.Opcode.{Opcode}
use Rattle.qir_module.specs.declared.instruction.Opcode.TheVariants.{Add, Sub, Mul, Sdiv, Srem, Udiv, Urem, Shl, Lshr, Ashr, And, Or, Xor, Eq, Ne, Slt, Sle, Sgt, Sge, Ult, Ule, Ugt, Uge}
use Rattle.qir_module.specs.declared.function.Function.{Function}
use Rattle.qir_module.specs.declared.profile.Profile.{Profile}
use Rattle.qir_module.specs.declared.profile.Profile.TheVariants.{Adaptive, Base}
use Rattle.qir_module.specs.Functions.{Row, row_of}
use Rattle.qir_module.specs.Tokens.{TokenKind, Token, leads_with_zero}
use Rattle.qir_module.specs.Tokens.{Word, Number, Register, Target, Block, Constant, Group, Flag, Named, FlagName, Text, Bytes, FlagText, Mark}

-- What a word is. The words of binary instructions are those on words of 64 bits alone, and those on truth values too.
pub data Reserved : Type 0 where
  Define : Reserved
  Declare : Reserved
  Attributes : Reserved
  Internal : Reserved
  ConstantWord : Reserved
  X : Reserved
  I1 : Reserved
  I8 : Reserved
  I32 : Reserved
  I64 : Reserved
  Ptr : Reserved
  Void : Reserved
  Null : Reserved
  Inttoptr : Reserved
  To : Reserved
  Label : Reserved
  True : Reserved
  False : Reserved
  Phi : Reserved
  Icmp : Reserved
  Zext : Reserved
  Trunc : Reserved
  Select : Reserved
  Call : Reserved
  Br : Reserved
  Ret : Reserved
  Arithmetic : (op : Opcode) → Reserved
  Logic : (op : Opcode) → Reserved
  Condition : (op : Opcode) → Reserved
  Other : Reserved

abbrev pub same : List ℕ → List ℕ → Bool
same [] [] = true
same (c ∷ cs) (d ∷ ds) = (c == d) && same cs ds
same _ _ = false

-- what a table has for a spelling, or else this
abbrev pub looked_up : {A : Type 0} → A → List (List ℕ × A) → List ℕ → A
looked_up other [] cs = other
looked_up other (row ∷ rows) cs = cond (same row.0 cs) row.1 (looked_up other rows cs)

-- the words of LLVM, with the operations and conditions of its instructions
abbrev pub words : List (List ℕ × Reserved)
words =
    (codes "define", Define) ∷ (codes "declare", Declare) ∷ (codes "attributes", Attributes)
    ∷ (codes "internal", Internal) ∷ (codes "constant", ConstantWord) ∷ (codes "x", X)
    ∷ (codes "i1", I1) ∷ (codes "i8", I8) ∷ (codes "i32", I32) ∷ (codes "i64", I64) ∷ (codes "ptr", Ptr) ∷ (codes "void", Void)
    ∷ (codes "null", Null) ∷ (codes "inttoptr", Inttoptr) ∷ (codes "to", To) ∷ (codes "label", Label) ∷ (codes "true", True) ∷ (codes "false", False)
    ∷ (codes "phi", Phi) ∷ (codes "icmp", Icmp) ∷ (codes "zext", Zext) ∷ (codes "trunc", Trunc) ∷ (codes "select", Select)
    ∷ (codes "call", Call) ∷ (codes "br", Br) ∷ (codes "ret", Ret)
    ∷ (codes "add", Arithmetic Add) ∷ (codes "sub", Arithmetic Sub) ∷ (codes "mul", Arithmetic Mul)
    ∷ (codes "sdiv", Arithmetic Sdiv) ∷ (codes "srem", Arithmetic Srem) ∷ (codes "udiv", Arithmetic Udiv) ∷ (codes "urem", Arithmetic Urem)
    ∷ (codes "shl", Arithmetic Shl) ∷ (codes "lshr", Arithmetic Lshr) ∷ (codes "ashr", Arithmetic Ashr)
    ∷ (codes "and", Logic And) ∷ (codes "or", Logic Or) ∷ (codes "xor", Logic Xor)
    ∷ (codes "eq", Condition Eq) ∷ (codes "ne", Condition Ne) ∷ (codes "slt", Condition Slt) ∷ (codes "sle", Condition Sle)
    ∷ (codes "sgt", Condition Sgt) ∷ (codes "sge", Condition Sge) ∷ (codes "ult", Condition Ult) ∷ (codes "ule", Condition Ule)
    ∷ (codes "ugt", Condition Ugt) ∷ (codes "uge", Condition Uge) ∷ []

abbrev pub word_of : List ℕ → Reserved
word_of spelling = looked_up Other words spelling

-- What a quoted text is. It is compared as it is spelled.
pub data Quoted : Type 0 where
  EntryPoint : Quoted
  Profiles : Quoted
  AProfile : (profile : Profile) → Quoted
  LabelingSchema : Quoted
  Labeled : Quoted
  RequiredQubits : Quoted
  RequiredResults : Quoted
  Irreversible : Quoted
  MajorVersion : Quoted
  MinorVersion : Quoted
  DynamicQubits : Quoted
  DynamicResults : Quoted
  -- a number below 2^32 in decimal digits, with no leading zero
  Numeral : (number : ℕ) → Quoted
  OtherText : Quoted

abbrev pub texts : List (List ℕ × Quoted)
texts =
    (codes "entry_point", EntryPoint) ∷ (codes "qir_profiles", Profiles) ∷ (codes "adaptive_profile", AProfile Adaptive) ∷ (codes "base_profile", AProfile Base)
    ∷ (codes "output_labeling_schema", LabelingSchema) ∷ (codes "labeled", Labeled) ∷ (codes "required_num_qubits", RequiredQubits) ∷ (codes "required_num_results", RequiredResults)
    ∷ (codes "irreversible", Irreversible) ∷ (codes "qir_major_version", MajorVersion) ∷ (codes "qir_minor_version", MinorVersion)
    ∷ (codes "dynamic_qubit_management", DynamicQubits) ∷ (codes "dynamic_result_management", DynamicResults) ∷ []

abbrev pub is_empty : List ℕ → Bool
is_empty [] = true
is_empty (c ∷ cs) = false

abbrev pub is_numeral : List ℕ → Bool
is_numeral cs = not (is_empty cs) && list_all is_ascii_digit cs && not (leads_with_zero cs) && nat_lt (digits_value 10 cs) (2 ^ 32)

abbrev pub text_of : List ℕ → Quoted
text_of body = cond (is_numeral body) (Numeral (digits_value 10 body)) (looked_up OtherText texts body)

-- the name of the function that a module defines
abbrev pub main_name : List ℕ
main_name = codes "main"

-- the name of the list of flags
abbrev pub flags_name : List ℕ
flags_name = codes "llvm.module.flags"

-- the row has this name
abbrev pub has_name : List ℕ → Option Row → Bool
has_name name None = false
has_name name (Some row) = same row.name name

-- the first of so many functions, from a place on, that has this name
abbrev pub named_from : ℕ → ℕ → List ℕ → Option Function
named_from zero place name = None
named_from (suc n) place name = cond (has_name name (row_of place)) (Some (record { 0 = place })) (named_from n (suc place) name)

-- the function of this name
abbrev pub function_named : List ℕ → Option Function
function_named name = named_from 37 0 name

-- ---- kinds as numbers: a mark is its character, and all others are above

abbrev pub reserved_class : Reserved → ℕ
reserved_class Define = 200
reserved_class Declare = 201
reserved_class Attributes = 202
reserved_class Internal = 203
reserved_class ConstantWord = 204
reserved_class X = 205
reserved_class I1 = 206
reserved_class I8 = 207
reserved_class I32 = 208
reserved_class I64 = 209
reserved_class Ptr = 210
reserved_class Void = 211
reserved_class Null = 212
reserved_class Inttoptr = 213
reserved_class To = 214
reserved_class Label = 215
reserved_class True = 216
reserved_class False = 217
reserved_class (Condition op) = 218
reserved_class Other = 219
reserved_class Phi = 220
reserved_class Icmp = 221
reserved_class Zext = 222
reserved_class Trunc = 223
reserved_class Select = 224
reserved_class Call = 225
reserved_class Br = 226
reserved_class Ret = 227
reserved_class (Arithmetic op) = 228
reserved_class (Logic op) = 229

abbrev pub quoted_class : Quoted → ℕ
quoted_class EntryPoint = 0
quoted_class Profiles = 1
quoted_class (AProfile profile) = 2
quoted_class LabelingSchema = 3
quoted_class Labeled = 4
quoted_class RequiredQubits = 5
quoted_class RequiredResults = 6
quoted_class Irreversible = 7
quoted_class MajorVersion = 8
quoted_class MinorVersion = 9
quoted_class DynamicQubits = 10
quoted_class DynamicResults = 11
quoted_class (Numeral number) = 12
quoted_class OtherText = 13

-- a quoted text, and one behind a `!`
abbrev pub text_class : Quoted → ℕ
text_class q = 300 + quoted_class q

abbrev pub flag_text_class : Quoted → ℕ
flag_text_class q = 320 + quoted_class q

-- each of the first numbers has a kind of its own
abbrev pub group_class : ℕ → ℕ
group_class zero = 130
group_class (suc zero) = 131
group_class _ = 132

abbrev pub flag_class : ℕ → ℕ
flag_class zero = 134
flag_class (suc zero) = 135
flag_class (suc (suc zero)) = 136
flag_class (suc (suc (suc zero))) = 137
flag_class _ = 138

-- a number by itself: 1, 7, another below 2^32, or none of these
abbrev pub number_class : ℤ → ℕ
number_class (negsuc n) = 143
number_class (pos n) = cond (n == 1) 140 (cond (n == 7) 141 (cond (nat_lt n (2 ^ 32)) 142 143))

abbrev pub name_class : List ℕ → ℕ
name_class name = cond (same main_name name) 150 151

abbrev pub flag_name_class : List ℕ → ℕ
flag_name_class name = cond (same flags_name name) 152 153

abbrev pub class_of : TokenKind → ℕ
class_of (Word spelling) = reserved_class (word_of spelling)
class_of (Number value) = number_class value
class_of (Register number) = 160
class_of (Target number) = 161
class_of (Block number) = 162
class_of (Constant number) = 163
class_of (Group number) = group_class number
class_of (Flag number) = flag_class number
class_of (Named word) = name_class word
class_of (FlagName word) = flag_name_class word
class_of (Text body) = text_class (text_of body)
class_of (Bytes body) = 164
class_of (FlagText body) = flag_text_class (text_of body)
class_of (Mark character) = cond (nat_lt character 128) character 129

abbrev pub kind : Token → ℕ
kind t = class_of t.kind
