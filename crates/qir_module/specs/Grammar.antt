-- The grammar of QIR text: the part of the LLVM Language Reference's syntax that a module of the Adaptive Profile
-- needs. Each part is one line of it, over tokens.
--
--   module = { "@N" "=" "internal" "constant" "[" K "x" "i8" "]" c"BYTES" }
--            "define" "i64" "@main" "(" ")" "#0" "{" block { block } "}"
--            { "declare" ret "@NAME" "(" [ type { "," type } ] ")" [ "#1" ] }
--            "attributes" "#0" "=" "{" "entry_point" "qir_profiles" = PROFILE "output_labeling_schema" = "labeled"
--               "required_num_qubits" = "N" "required_num_results" = "N" "}"            keys and values quoted
--            "attributes" "#1" "=" "{" "irreversible" "}"                                 quoted
--            "!llvm.module.flags" "=" "!" "{" !0 "," !1 "," !2 "," !3 "}"
--            !0 "=" "!" "{" "i32" 1 "," !"qir_major_version" "," "i32" N "}"
--            !1 "=" "!" "{" "i32" 7 "," !"qir_minor_version" "," "i32" N "}"
--            !2 "=" "!" "{" "i32" 1 "," !"dynamic_qubit_management" "," "i1" ( "true" | "false" ) "}"
--            !3 "=" "!" "{" "i32" 1 "," !"dynamic_result_management" "," "i1" ( "true" | "false" ) "}"
--   block  = "bN:" { phi } { instr } last
--   phi    = "%rN" "=" "phi" ( "i64" | "i1" ) entry { "," entry }
--   entry  = "[" V "," "%bN" "]"
--   instr  = "%rN" "=" OP ( "i64" | "i1" ) V "," V           with "i1" only `and`, `or` and `xor`
--          | "%rN" "=" "icmp" COND "i64" V "," V
--          | "%rN" "=" "zext" "i1" V "to" "i64"  |  "%rN" "=" "trunc" "i64" V "to" "i1"
--          | "%rN" "=" "select" "i1" V "," T V "," T V           T the same twice
--          | "%rN" "=" "call" "i1" "@NAME" "(" [ arg { "," arg } ] ")"
--          | "call" "void" "@NAME" "(" [ arg { "," arg } ] ")"
--   arg    = "i64" V | "i1" V | "ptr" ID | "ptr" "@N"
--   last   = "br" "label" "%bN" | "br" "i1" V "," "label" "%bN" "," "label" "%bN" | "ret" "i64" I
--   V      = "%rN", or a number where the type is i64, or `true` or `false` where it is i1
--   ID     = "null" | "inttoptr" "(" "i64" N "to" "ptr" ")"
--
-- N is a number below 2^32. What begins alike is written with the common part in front.
--
-- A text that is no module is refused by a rule of its own where only a value is wrong. For this the grammar is
-- stated twice, by one parameter. In the loose grammar the number of a label, of a group of attributes and of a
-- flag is any, the bytes of a label are any, the name of a called or declared function is any, the profile is any
-- quoted text, and any other word stands in the place of an instruction's.
use Rattle.std.specs.Prelude.{ℕ, suc, ◌^◌, ◌==◌, ◌&&◌, ◌||◌, not, Bool, true, false, cond, nat_lt, nat_eq, ℤ, pos, negsuc, List, [], ◌∷◌, length, map, Option, Some, None}
use Rattle.qq_base.specs.declared.refusal.Span.{Span}
use Rattle.qir_module.specs.declared.instruction.Operand.{Operand}
use Rattle.qir_module.specs.declared.instruction.Operand.TheVariants as o
use Rattle.qir_module.specs.declared.instruction.Opcode.{Opcode}
use Rattle.qir_module.specs.declared.instruction.Arg.{Arg}
use Rattle.qir_module.specs.declared.instruction.Arg.TheVariants as a
use Rattle.qir_module.specs.declared.instruction.Instr.{Instr}
use Rattle.qir_module.specs.declared.instruction.Instr.TheVariants as i
use Rattle.qir_module.specs.declared.instruction.Last.{Last}
use Rattle.qir_module.specs.declared.instruction.Last.TheVariants as l
use Rattle.qir_module.specs.declared.function.Function.{Function}
use Rattle.qir_module.specs.declared.block.Phi.{Phi}
use Rattle.qir_module.specs.declared.block.Block.{Block}
use Rattle.qir_module.specs.declared.profile.Profile.{Profile}
use Rattle.qir_module.specs.declared.profile.Profile.TheVariants.{Base}
use Rattle.qir_module.specs.Module.{Module}
use Rattle.qir_module.specs.Functions.{Kind, NumberKind, TruthKind, Row, row_of}
use Rattle.grammar_parts.specs.Part.{Part, nothing, never, one, then, either, many, repeated}
use Rattle.grammar_parts.specs.Kinds.{mark}
use Rattle.qir_module.specs.Tokens.{TokenKind, Token, bytes_meant}
use Rattle.qir_module.specs.Tokens as t
use Rattle.qir_module.specs.Words as w
use Rattle.qir_module.specs.Words.{Reserved, Quoted, word_of, text_of, function_named, reserved_class, text_class, flag_text_class, group_class, flag_class, kind}

-- ---- one token

-- a token of this kind
abbrev pub sign : ℕ → Part Token Token
sign k = mark kind k

-- one part behind another, whose value is all that is kept
infixr 20 ◌▸◌
abbrev pub ◌▸◌ : {A B : Type 0} → Part Token A → Part Token B → Part Token B
p ▸ q = then p (λ a. q)

abbrev pub word : Reserved → Part Token Token
word x = sign (reserved_class x)

abbrev pub quoted : Quoted → Part Token Token
quoted x = sign (text_class x)

abbrev pub flag_text : Quoted → Part Token Token
flag_text x = sign (flag_text_class x)

-- = ( ) [ ] { } , !
abbrev pub equals : Part Token Token
equals = sign 61

abbrev pub left_paren : Part Token Token
left_paren = sign 40

abbrev pub right_paren : Part Token Token
right_paren = sign 41

abbrev pub left_bracket : Part Token Token
left_bracket = sign 91

abbrev pub right_bracket : Part Token Token
right_bracket = sign 93

abbrev pub left_brace : Part Token Token
left_brace = sign 123

abbrev pub right_brace : Part Token Token
right_brace = sign 125

abbrev pub comma : Part Token Token
comma = sign 44

abbrev pub bang : Part Token Token
bang = sign 33

-- the names `@main` and `!llvm.module.flags`, and the numbers 1 and 7
abbrev pub main : Part Token Token
main = sign 150

abbrev pub flags_name : Part Token Token
flags_name = sign 152

abbrev pub number_one : Part Token Token
number_one = sign 140

abbrev pub number_seven : Part Token Token
number_seven = sign 141

abbrev pub group : ℕ → Part Token Token
group n = sign (group_class n)

abbrev pub flag : ℕ → Part Token Token
flag n = sign (flag_class n)

-- ---- what a token gives

abbrev pub number_at : TokenKind → Option ℤ
number_at (t.Number value) = Some value
number_at _ = None

abbrev pub small : ℤ → Option ℕ
small (pos n) = cond (nat_lt n (2 ^ 32)) (Some n) None
small (negsuc n) = None

abbrev pub small_at : TokenKind → Option ℕ
small_at (t.Number value) = small value
small_at _ = None

abbrev pub register_at : TokenKind → Option ℕ
register_at (t.Register n) = Some n
register_at _ = None

abbrev pub target_at : TokenKind → Option ℕ
target_at (t.Target n) = Some n
target_at _ = None

abbrev pub block_at : TokenKind → Option ℕ
block_at (t.Block n) = Some n
block_at _ = None

abbrev pub constant_at : TokenKind → Option ℕ
constant_at (t.Constant n) = Some n
constant_at _ = None

abbrev pub group_at : TokenKind → Option ℕ
group_at (t.Group n) = Some n
group_at _ = None

abbrev pub flag_at : TokenKind → Option ℕ
flag_at (t.Flag n) = Some n
flag_at _ = None

abbrev pub bytes_at : TokenKind → Option (List ℕ)
bytes_at (t.Bytes body) = Some (bytes_meant body)
bytes_at _ = None

abbrev pub reserved_at : TokenKind → Option Reserved
reserved_at (t.Word spelling) = Some (word_of spelling)
reserved_at _ = None

abbrev pub name_at : TokenKind → Option (List ℕ)
name_at (t.Named name) = Some name
name_at _ = None

abbrev pub text_at : TokenKind → Option Quoted
text_at (t.Text body) = Some (text_of body)
text_at _ = None

abbrev pub and_then : {A B : Type 0} → Option A → (A → Option B) → Option B
and_then None f = None
and_then (Some a) f = f a

abbrev pub arithmetic : Reserved → Option Opcode
arithmetic (w.Arithmetic op) = Some op
arithmetic _ = None

abbrev pub logic : Reserved → Option Opcode
logic (w.Logic op) = Some op
logic _ = None

abbrev pub condition : Reserved → Option Opcode
condition (w.Condition op) = Some op
condition _ = None

abbrev pub profile_in : Quoted → Option Profile
profile_in (w.AProfile profile) = Some profile
profile_in _ = None

abbrev pub numeral_in : Quoted → Option ℕ
numeral_in (w.Numeral n) = Some n
numeral_in _ = None

-- a token by what it gives
abbrev pub value_of : {A : Type 0} → (TokenKind → Option A) → Part Token A
value_of test = one (λ x. test x.kind)

abbrev pub number : Part Token ℤ
number = value_of number_at

abbrev pub small_number : Part Token ℕ
small_number = value_of small_at

abbrev pub register : Part Token ℕ
register = value_of register_at

abbrev pub target : Part Token ℕ
target = value_of target_at

abbrev pub numeral : Part Token ℕ
numeral = value_of (λ x. and_then (text_at x) numeral_in)

abbrev pub operation_word : (Reserved → Option Opcode) → Part Token Opcode
operation_word test = value_of (λ x. and_then (reserved_at x) test)

-- ---- what only the loose grammar takes

-- a value that passes, or in the loose grammar any
abbrev pub passing : {A : Type 0} → Bool → (A → Bool) → Option A → Option A
passing loose test None = None
passing loose test (Some a) = cond (loose || test a) (Some a) None

abbrev pub passing_value : {A : Type 0} → Bool → (A → Bool) → (TokenKind → Option A) → Part Token A
passing_value loose test from = value_of (λ x. passing loose test (from x))

-- the number of a label line, of a group and of a flag line
abbrev pub numbered : Bool → (TokenKind → Option ℕ) → ℕ → Part Token ℕ
numbered loose from k = passing_value loose (nat_eq k) from

-- the last byte is 0
abbrev pub ends_in_zero : List ℕ → Bool
ends_in_zero [] = false
ends_in_zero (c ∷ []) = c == 0
ends_in_zero (c ∷ d ∷ cs) = ends_in_zero (d ∷ cs)

abbrev pub is_count : ℤ → ℕ → Bool
is_count (pos k) n = k == n
is_count (negsuc k) n = false

-- the bytes of a label: as many as were stated, and the last one is 0
abbrev pub label_bytes : Bool → ℤ → Part Token (List ℕ)
label_bytes loose k = passing_value loose (λ bytes. is_count k (length bytes) && ends_in_zero bytes) bytes_at

-- the function of a name, with the place of the name; a name of no function stands for one behind the table
abbrev pub or_none : Option Function → Function
or_none None = record { 0 = 37 }
or_none (Some function) = function

abbrev pub named_function : Bool → List ℕ → Option Function
named_function false name = function_named name
named_function true name = Some (or_none (function_named name))

abbrev pub with_place : Span → Option Function → Option (Function × Span)
with_place at None = None
with_place at (Some function) = Some (function, at)

abbrev pub function_name : Bool → Part Token (Function × Span)
function_name loose = one (λ x. with_place x.at (and_then (name_at x.kind) (named_function loose)))

-- the profile; a text that names none stands for one
abbrev pub or_base : Option Profile → Profile
or_base None = Base
or_base (Some profile) = profile

abbrev pub profile_named : Bool → Quoted → Option Profile
profile_named false q = profile_in q
profile_named true q = Some (or_base (profile_in q))

abbrev pub profile : Bool → Part Token Profile
profile loose = value_of (λ x. and_then (text_at x) (profile_named loose))

-- the words that begin an instruction, a phi or a last instruction are from phi on
abbrev pub begins_item : Reserved → Bool
begins_item x = not (nat_lt (reserved_class x) 220)

abbrev pub stray_word : Reserved → Option Reserved
stray_word x = cond (begins_item x) None (Some x)

-- any other word in the place of an instruction's, behind which nothing stands
abbrev pub stray : {A : Type 0} → Bool → Part Token A
stray false = never
stray true = then (value_of (λ x. and_then (reserved_at x) stray_word)) (λ x. never)

-- ---- lists

-- item { "," item }
abbrev pub separated : {A : Type 0} → Part Token A → Part Token (List A)
separated item = then item (λ x. then (repeated (comma ▸ item)) (λ xs. nothing (x ∷ xs)))

-- "(" [ item { "," item } ] ")"
abbrev pub in_parens : {A : Type 0} → Part Token A → Part Token (List A)
in_parens item = left_paren ▸ then (either (separated item) (nothing [])) (λ xs. right_paren ▸ nothing xs)

-- ---- types and operands

-- a word, or a truth value where the flag says so
abbrev pub type_word : Bool → Reserved
type_word false = w.I64
type_word true = w.I1

-- one of the two types, and what stands behind it
abbrev pub typed : {A : Type 0} → (Bool → Part Token A) → Part Token A
typed p = either (word (type_word false) ▸ p false) (word (type_word true) ▸ p true)

abbrev pub truth : Part Token Bool
truth = either (word w.True ▸ nothing true) (word w.False ▸ nothing false)

abbrev pub truth_number : Bool → ℤ
truth_number false = pos 0
truth_number true = pos 1

abbrev pub fixed : Bool → Part Token Operand
fixed false = then number (λ z. nothing (o.Fixed z))
fixed true = then truth (λ b. nothing (o.Fixed (truth_number b)))

abbrev pub operand : Bool → Part Token Operand
operand is_truth = either (then register (λ r. nothing (o.Register r))) (fixed is_truth)

-- ---- instructions

abbrev pub binary : ℕ → Opcode → Bool → Part Token Instr
binary r op is_truth = then (operand is_truth) (λ x. comma ▸ then (operand is_truth) (λ y. nothing (i.Op r op is_truth x y)))

abbrev pub operation : ℕ → Part Token Instr
operation r =
    either (then (operation_word arithmetic) (λ op. word w.I64 ▸ binary r op false))
    (either (then (operation_word logic) (λ op. typed (binary r op)))
    (word w.Icmp ▸ then (operation_word condition) (λ op. word w.I64 ▸ binary r op false)))

abbrev pub conversion : ℕ → Part Token Instr
conversion r =
    either (word w.Zext ▸ word w.I1 ▸ then (operand true) (λ x. word w.To ▸ word w.I64 ▸ nothing (i.Zext r x)))
    (word w.Trunc ▸ word w.I64 ▸ then (operand false) (λ x. word w.To ▸ word w.I1 ▸ nothing (i.Trunc r x)))

abbrev pub choice : ℕ → Operand → Bool → Part Token Instr
choice r test is_truth = then (operand is_truth) (λ x. comma ▸ word (type_word is_truth) ▸ then (operand is_truth) (λ y. nothing (i.Select r is_truth test x y)))

abbrev pub selection : ℕ → Part Token Instr
selection r = word w.Select ▸ word w.I1 ▸ then (operand true) (λ test. comma ▸ typed (choice r test))

-- a pointer that is made of a number; `null` is made of 0
abbrev pub id : Part Token ℕ
id = either (word w.Null ▸ nothing 0) (word w.Inttoptr ▸ left_paren ▸ word w.I64 ▸ then small_number (λ n. word w.To ▸ word w.Ptr ▸ right_paren ▸ nothing n))

abbrev pub value_argument : Bool → Part Token Arg
value_argument false = then (operand false) (λ x. nothing (a.Number x))
value_argument true = then (operand true) (λ x. nothing (a.Truth x))

abbrev pub pointer_argument : Part Token Arg
pointer_argument = either (then id (λ n. nothing (a.Id n))) (then (value_of constant_at) (λ k. nothing (a.Text k)))

abbrev pub argument : Part Token Arg
argument = either (typed value_argument) (word w.Ptr ▸ pointer_argument)

-- what a call gives: i1 where a register takes it
abbrev pub given : Option ℕ → Reserved
given None = w.Void
given (Some r) = w.I1

-- What stands between the braces of a function is a list of blocks, and each block is a list of items.
pub data Item : Type 0 where
  AsPhi : Phi → Item
  AsInstr : Instr → Item

abbrev pub is_phi : Item → Bool
is_phi (AsPhi p) = true
is_phi (AsInstr n) = false

abbrev pub phis_of : List Item → List Phi
phis_of [] = []
phis_of (AsPhi p ∷ items) = p ∷ phis_of items
phis_of (AsInstr n ∷ items) = phis_of items

abbrev pub instrs_of : List Item → List Instr
instrs_of [] = []
instrs_of (AsPhi p ∷ items) = instrs_of items
instrs_of (AsInstr n ∷ items) = n ∷ instrs_of items

-- "[" V "," "%bN" "]"
abbrev pub entry : Bool → Part Token (Operand × ℕ)
entry is_truth = left_bracket ▸ then (operand is_truth) (λ x. comma ▸ then target (λ b. right_bracket ▸ nothing (x, b)))

abbrev pub phi_of : ℕ → Bool → Part Token Phi
phi_of r is_truth = then (separated (entry is_truth)) (λ es. nothing (record { register = r; number = not is_truth; entries = es }))

abbrev pub phi : ℕ → Part Token Phi
phi r = word w.Phi ▸ typed (phi_of r)

-- a phi, in front of all instructions
abbrev pub early_phi : Bool → ℕ → Part Token Item
early_phi false r = never
early_phi true r = then (phi r) (λ p. nothing (AsPhi p))

-- ---- the ends of blocks

abbrev pub label_target : Part Token ℕ
label_target = word w.Label ▸ target

abbrev pub branch : Part Token Last
branch = word w.I1 ▸ then (operand true) (λ test. comma ▸ then label_target (λ x. comma ▸ then label_target (λ y. nothing (l.Branch test x y))))

abbrev pub last : Part Token Last
last =
    either (word w.Br ▸ either (then label_target (λ x. nothing (l.Jump x))) branch)
    (word w.Ret ▸ word w.I64 ▸ then number (λ z. nothing (l.Return z)))

-- ---- items and blocks

module _ (loose : Bool) where
  abbrev pub call : Option ℕ → Part Token Instr
  call r = word w.Call ▸ word (given r) ▸ then (function_name loose) (λ f. then (in_parens argument) (λ xs. nothing (i.Call r f.0 xs)))

  -- behind "%rN" "="
  abbrev pub assigned : Bool → ℕ → Part Token Item
  assigned phis r =
      either (then (either (operation r) (either (conversion r) (either (selection r) (call (Some r))))) (λ n. nothing (AsInstr n)))
      (either (early_phi phis r) (stray loose))

  -- an item of a block, where the flag says whether all items so far are phis
  abbrev pub item : Bool → Part Token Item
  item phis =
      either (then register (λ r. equals ▸ assigned phis r))
      (either (then (call None) (λ n. nothing (AsInstr n))) (stray loose))

  -- ---- blocks

  abbrev pub items : Part Token (List Item)
  items = many item (λ phis x. phis && is_phi x) true

  abbrev pub block : Part Token Block
  block = then (value_of block_at) (λ n. then items (λ xs. then last (λ end. nothing (record { name = n; phis = phis_of xs; body = instrs_of xs; last = end }))))

  -- the function that a module defines, by its blocks
  abbrev pub function : Part Token (List Block)
  function =
      word w.Define ▸ word w.I64 ▸ main ▸ left_paren ▸ right_paren ▸ group 0 ▸ left_brace
      ▸ then block (λ b. then (repeated block) (λ bs. right_brace ▸ nothing (b ∷ bs)))

  -- ---- labels

  abbrev pub label : ℕ → Part Token (List ℕ)
  label k =
      numbered loose constant_at k ▸ equals ▸ word w.Internal ▸ word w.ConstantWord
      ▸ left_bracket ▸ then number (λ n. word w.X ▸ word w.I8 ▸ right_bracket ▸ label_bytes loose n)

  -- the k-th label has number k
  abbrev pub labels : Part Token (List (List ℕ))
  labels = many label (λ k bytes. suc k) 0

-- ---- declarations

-- how a type is written
pub data ValueType : Type 0 where
  WordType : ValueType
  TruthType : ValueType
  PointerType : ValueType

-- a declaration, with the place of its name, and whether it says that the function cannot be undone
pub record Signature : Type 0 where
  pub function : Function
  pub at : Span
  pub takes : List ValueType
  pub gives : Bool
  pub irreversible : Bool

abbrev pub type_of_kind : Kind → ValueType
type_of_kind NumberKind = WordType
type_of_kind TruthKind = TruthType
type_of_kind _ = PointerType

abbrev pub same_type : ValueType → ValueType → Bool
same_type WordType WordType = true
same_type TruthType TruthType = true
same_type PointerType PointerType = true
same_type _ _ = false

abbrev pub same_types : List ValueType → List ValueType → Bool
same_types [] [] = true
same_types (x ∷ xs) (y ∷ ys) = same_type x y && same_types xs ys
same_types _ _ = false

abbrev pub same_truth : Bool → Bool → Bool
same_truth true b = b
same_truth false b = not b

-- the declaration has the types of the function's row in the table, and its `#1`
abbrev pub is_declared_so : Option Row → Signature → Bool
is_declared_so None s = false
is_declared_so (Some row) s = same_types (map type_of_kind row.takes) s.takes && same_truth row.gives s.gives && same_truth row.irreversible s.irreversible

abbrev pub is_right : Signature → Bool
is_right s = is_declared_so (row_of s.function.0) s

abbrev pub all_right : List Signature → Bool
all_right [] = true
all_right (s ∷ ss) = is_right s && all_right ss

abbrev pub functions_of : List Signature → List Function
functions_of ss = map (λ s. s.function) ss

abbrev pub value_type : Part Token ValueType
value_type = either (word w.I64 ▸ nothing WordType) (either (word w.I1 ▸ nothing TruthType) (word w.Ptr ▸ nothing PointerType))

-- what a declared function gives: nothing, or a truth value
abbrev pub result_type : Part Token Bool
result_type = either (word w.Void ▸ nothing false) (word w.I1 ▸ nothing true)

abbrev pub undoing : Part Token Bool
undoing = either (group 1 ▸ nothing true) (nothing false)

abbrev pub signature : Bool → Part Token Signature
signature loose =
    word w.Declare ▸ then result_type (λ gives. then (function_name loose) (λ f. then (in_parens value_type) (λ types. then undoing (λ fixed.
    nothing (record { function = f.0; at = f.1; takes = types; gives = gives; irreversible = fixed })))))

-- declarations up to the first that is not the table's
abbrev pub signature_behind : Bool → Bool → Part Token Signature
signature_behind loose false = never
signature_behind loose true = signature loose

abbrev pub signatures : Bool → Part Token (List Signature)
signatures loose = many (signature_behind loose) (λ right s. right && is_right s) true

-- ---- the module up to its declarations

pub record Heading : Type 0 where
  pub labels : List (List ℕ)
  pub blocks : List Block
  pub signatures : List Signature

abbrev pub heading : Bool → Part Token Heading
heading loose = then (labels loose) (λ ls. then (function loose) (λ bs. then (signatures loose) (λ ss. nothing (record { labels = ls; blocks = bs; signatures = ss }))))

-- ---- attributes and flags

pub record Attributes : Type 0 where
  pub profile : Profile
  pub qubits : ℕ
  pub results : ℕ

-- a key and its value
abbrev pub keyed : {A : Type 0} → Quoted → Part Token A → Part Token A
keyed key value = quoted key ▸ equals ▸ value

abbrev pub attributes : Bool → Part Token Attributes
attributes loose =
    word w.Attributes ▸ numbered loose group_at 0 ▸ equals ▸ left_brace
    ▸ quoted w.EntryPoint ▸ then (keyed w.Profiles (profile loose)) (λ p. keyed w.LabelingSchema (quoted w.Labeled)
    ▸ then (keyed w.RequiredQubits numeral) (λ n. then (keyed w.RequiredResults numeral) (λ k. right_brace
    ▸ nothing (record { profile = p; qubits = n; results = k }))))

abbrev pub second_attributes : Bool → Part Token Token
second_attributes loose = word w.Attributes ▸ numbered loose group_at 1 ▸ equals ▸ left_brace ▸ quoted w.Irreversible ▸ right_brace

abbrev pub flag_list : Part Token Token
flag_list = flags_name ▸ equals ▸ bang ▸ left_brace ▸ flag 0 ▸ comma ▸ flag 1 ▸ comma ▸ flag 2 ▸ comma ▸ flag 3 ▸ right_brace

-- the k-th flag line: how flags of this kind behave where modules are linked, its name, and its value behind its type
abbrev pub flag_line : {A : Type 0} → Bool → ℕ → Part Token Token → Quoted → Reserved → Part Token A → Part Token A
flag_line loose k behaviour name type value =
    numbered loose flag_at k ▸ equals ▸ bang ▸ left_brace ▸ word w.I32 ▸ behaviour ▸ comma ▸ flag_text name ▸ comma
    ▸ word type ▸ then value (λ v. right_brace ▸ nothing v)

pub record Flags : Type 0 where
  pub major : ℕ
  pub minor : ℕ
  pub dynamic_qubits : Bool
  pub dynamic_results : Bool

abbrev pub flags : Bool → Part Token Flags
flags loose =
    flag_list
    ▸ then (flag_line loose 0 number_one w.MajorVersion w.I32 small_number) (λ major. then (flag_line loose 1 number_seven w.MinorVersion w.I32 small_number) (λ minor.
    then (flag_line loose 2 number_one w.DynamicQubits w.I1 truth) (λ qubits. then (flag_line loose 3 number_one w.DynamicResults w.I1 truth) (λ results.
    nothing (record { major = major; minor = minor; dynamic_qubits = qubits; dynamic_results = results })))))

-- ---- the module

abbrev pub module_of : Heading → Attributes → Flags → Module
module_of h x y = record {
  labels = h.labels;
  blocks = h.blocks;
  declarations = functions_of h.signatures;
  profile = x.profile;
  qubits = x.qubits;
  results = x.results;
  major = y.major;
  minor = y.minor;
  dynamic_qubits = y.dynamic_qubits;
  dynamic_results = y.dynamic_results;
}

-- what stands behind the declarations, where all of them are the table's
abbrev pub ending : Bool → Heading → Part Token Module
ending loose h = cond (all_right h.signatures) (then (attributes loose) (λ x. second_attributes loose ▸ then (flags loose) (λ y. nothing (module_of h x y)))) never

abbrev pub module_part : Bool → Part Token Module
module_part loose = then (heading loose) (ending loose)
