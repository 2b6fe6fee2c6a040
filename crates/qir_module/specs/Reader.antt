-- Serves private contracts: the readers of lists of tokens that stand for the grammar's parts, and what they
-- answer of a whole list. The code of the reader follows them, and laws say that they are right.
use Rattle.std.specs.Prelude.{ℕ, suc, ◌&&◌, Bool, true, false, cond, not, nat_eq, ℤ, List, [], ◌∷◌, ◌++◌, length, Option, Some, None, Result, Ok, Err}
use Rattle.qq_base.specs.declared.refusal.Span.{Span}
use Rattle.qir_module.specs.declared.instruction.Operand.{Operand}
use Rattle.qir_module.specs.declared.instruction.Operand.TheVariants as o
use Rattle.qir_module.specs.declared.instruction.Opcode.{Opcode}
use Rattle.qir_module.specs.declared.instruction.Arg.{Arg}
use Rattle.qir_module.specs.declared.instruction.Arg.TheVariants as a
use Rattle.qir_module.specs.declared.instruction.Instr.{Instr}
use Rattle.qir_module.specs.declared.instruction.Instr.TheVariants as i
use Rattle.qir_module.specs.declared.instruction.Last.{Last}
use Rattle.qir_module.specs.declared.instruction.Last.TheVariants as l
use Rattle.qir_module.specs.declared.function.Function.{Function}
use Rattle.qir_module.specs.declared.block.Phi.{Phi}
use Rattle.qir_module.specs.declared.block.Block.{Block}
use Rattle.qir_module.specs.declared.profile.Profile.{Profile}
use Rattle.qir_module.specs.Module.{Module}
use Rattle.grammar_parts.specs.Reading.{Refusal, syntax, deep, Outcome, Reader, done, ◌>>=◌, take_one, take_never, choose, take_many, take_repeated}
use Rattle.grammar_parts.specs.Kinds.{among, take_mark}
use Rattle.qir_module.specs.Tokens.{TokenKind, Token, Breach}
use Rattle.qir_module.specs.Lexer.{lexed}
use Rattle.qir_module.specs.Words as w
use Rattle.qir_module.specs.Words.{Reserved, Quoted, reserved_class, text_class, flag_text_class, group_class, flag_class, kind}
use Rattle.qir_module.specs.Grammar.{number_at, small_at, register_at, target_at, block_at, constant_at, group_at, flag_at, bytes_at, reserved_at, text_at, name_at, and_then, arithmetic, logic, condition, numeral_in, passing, is_count, ends_in_zero, named_function, with_place, profile_named, type_word, truth_number, given, Item, AsPhi, AsInstr, is_phi, phis_of, instrs_of, ValueType, WordType, TruthType, PointerType, Signature, is_right, all_right, Heading, Attributes, Flags, module_of}
use Rattle.qir_module.specs.Spoilt.{rule_of_value, place_at, first_wrong}

-- ---- the kinds of token that begin a part

abbrev pub word_kinds : Reserved → List ℕ
word_kinds x = reserved_class x ∷ []

abbrev pub register_kinds : List ℕ
register_kinds = 160 ∷ []

abbrev pub number_kinds : List ℕ
number_kinds = 140 ∷ 141 ∷ 142 ∷ 143 ∷ []

abbrev pub truth_kinds : List ℕ
truth_kinds = 216 ∷ 217 ∷ []

abbrev pub fixed_kinds : Bool → List ℕ
fixed_kinds false = number_kinds
fixed_kinds true = truth_kinds

abbrev pub operand_kinds : Bool → List ℕ
operand_kinds is_truth = register_kinds ++ fixed_kinds is_truth

-- the words that begin no instruction, no phi and no last instruction
abbrev pub stray_kinds : List ℕ
stray_kinds =
    200 ∷ 201 ∷ 202 ∷ 203 ∷ 204 ∷ 205 ∷ 206 ∷ 207 ∷ 208 ∷ 209 ∷ 210 ∷ 211 ∷ 212 ∷ 213 ∷ 214 ∷ 215 ∷ 216 ∷ 217 ∷ 218 ∷ 219 ∷ []

abbrev pub arithmetic_kinds : List ℕ
arithmetic_kinds = 228 ∷ []

abbrev pub logic_kinds : List ℕ
logic_kinds = 229 ∷ []

abbrev pub operation_kinds : List ℕ
operation_kinds = arithmetic_kinds ++ (logic_kinds ++ word_kinds w.Icmp)

abbrev pub conversion_kinds : List ℕ
conversion_kinds = word_kinds w.Zext ++ word_kinds w.Trunc

abbrev pub instruction_kinds : List ℕ
instruction_kinds = operation_kinds ++ (conversion_kinds ++ (word_kinds w.Select ++ word_kinds w.Call))

abbrev pub id_kinds : List ℕ
id_kinds = word_kinds w.Null ++ word_kinds w.Inttoptr

abbrev pub type_kinds : List ℕ
type_kinds = word_kinds w.I64 ++ word_kinds w.I1

abbrev pub argument_kinds : List ℕ
argument_kinds = type_kinds ++ word_kinds w.Ptr

abbrev pub value_type_kinds : List ℕ
value_type_kinds = word_kinds w.I64 ++ (word_kinds w.I1 ++ word_kinds w.Ptr)

abbrev pub item_kinds : List ℕ
item_kinds = register_kinds ++ (word_kinds w.Call ++ stray_kinds)

abbrev pub block_kinds : List ℕ
block_kinds = 162 ∷ []

abbrev pub label_kinds : List ℕ
label_kinds = 163 ∷ []

-- ---- one token

abbrev pub read_sign : ℕ → Reader Token Token
read_sign k = take_mark kind k

-- one reader behind another, whose value is all that is kept
infixr 10 ◌▹◌
abbrev pub ◌▹◌ : {A B : Type 0} → Reader Token A → Reader Token B → Reader Token B
r ▹ s = r >>= (λ a. s)

abbrev pub read_word : Reserved → Reader Token Token
read_word x = read_sign (reserved_class x)

abbrev pub read_quoted : Quoted → Reader Token Token
read_quoted x = read_sign (text_class x)

abbrev pub read_flag_text : Quoted → Reader Token Token
read_flag_text x = read_sign (flag_text_class x)

abbrev pub read_equals : Reader Token Token
read_equals = read_sign 61

abbrev pub read_left_paren : Reader Token Token
read_left_paren = read_sign 40

abbrev pub read_right_paren : Reader Token Token
read_right_paren = read_sign 41

abbrev pub read_left_bracket : Reader Token Token
read_left_bracket = read_sign 91

abbrev pub read_right_bracket : Reader Token Token
read_right_bracket = read_sign 93

abbrev pub read_left_brace : Reader Token Token
read_left_brace = read_sign 123

abbrev pub read_right_brace : Reader Token Token
read_right_brace = read_sign 125

abbrev pub read_comma : Reader Token Token
read_comma = read_sign 44

abbrev pub read_bang : Reader Token Token
read_bang = read_sign 33

abbrev pub read_main : Reader Token Token
read_main = read_sign 150

abbrev pub read_flags_name : Reader Token Token
read_flags_name = read_sign 152

abbrev pub read_number_one : Reader Token Token
read_number_one = read_sign 140

abbrev pub read_number_seven : Reader Token Token
read_number_seven = read_sign 141

abbrev pub read_group : ℕ → Reader Token Token
read_group n = read_sign (group_class n)

abbrev pub read_flag : ℕ → Reader Token Token
read_flag n = read_sign (flag_class n)

abbrev pub read_value : {A : Type 0} → (TokenKind → Option A) → Reader Token A
read_value test = take_one (λ x. test x.kind)

abbrev pub read_number : Reader Token ℤ
read_number = read_value number_at

abbrev pub read_small_number : Reader Token ℕ
read_small_number = read_value small_at

abbrev pub read_register : Reader Token ℕ
read_register = read_value register_at

abbrev pub read_target : Reader Token ℕ
read_target = read_value target_at

abbrev pub read_numeral : Reader Token ℕ
read_numeral = read_value (λ x. and_then (text_at x) numeral_in)

abbrev pub read_operation_word : (Reserved → Option Opcode) → Reader Token Opcode
read_operation_word test = read_value (λ x. and_then (reserved_at x) test)

-- ---- tokens of which only the value may be wrong

abbrev pub taken_strictly : {A : Type 0} → Token → List Token → Option A → Option A → Outcome Token A
taken_strictly x rest (Some a) wide = Ok (a, rest)
taken_strictly x rest None (Some a) = Err (deep (x ∷ rest))
taken_strictly x rest None None = Err (syntax (x ∷ rest))

-- the value by the first test; what has one by the second test alone is too much
abbrev pub take_strictly : {A : Type 0} → (Token → Option A) → (Token → Option A) → Reader Token A
take_strictly strict wide [] = Err (syntax [])
take_strictly strict wide (x ∷ rest) = taken_strictly x rest (strict x) (wide x)

abbrev pub read_passing : {A : Type 0} → (A → Bool) → (TokenKind → Option A) → Reader Token A
read_passing test from = take_strictly (λ x. passing false test (from x.kind)) (λ x. passing true test (from x.kind))

abbrev pub read_numbered : (TokenKind → Option ℕ) → ℕ → Reader Token ℕ
read_numbered from k = read_passing (nat_eq k) from

abbrev pub read_label_bytes : ℤ → Reader Token (List ℕ)
read_label_bytes k = read_passing (λ bytes. is_count k (length bytes) && ends_in_zero bytes) bytes_at

abbrev pub function_at : Bool → Token → Option (Function × Span)
function_at loose x = with_place x.at (and_then (name_at x.kind) (named_function loose))

abbrev pub read_function_name : Reader Token (Function × Span)
read_function_name = take_strictly (function_at false) (function_at true)

abbrev pub profile_at : Bool → Token → Option Profile
profile_at loose x = and_then (text_at x.kind) (profile_named loose)

abbrev pub read_profile : Reader Token Profile
read_profile = take_strictly (profile_at false) (profile_at true)

-- where another word is too much
abbrev pub read_stray : {A : Type 0} → Reader Token A
read_stray = take_never (among kind stray_kinds)

-- where nothing stands
abbrev pub read_nothing : {A : Type 0} → Reader Token A
read_nothing = take_never (λ x. false)

-- ---- lists

abbrev pub read_separated : {A : Type 0} → Reader Token A → Reader Token (List A)
read_separated item = item >>= (λ x. take_repeated (among kind (44 ∷ [])) (read_comma ▹ item) >>= (λ xs. done (x ∷ xs)))

-- the items begin with these kinds
abbrev pub read_in_parens : {A : Type 0} → List ℕ → Reader Token A → Reader Token (List A)
read_in_parens set item = read_left_paren ▹ (choose (among kind set) (read_separated item) (done []) >>= (λ xs. read_right_paren ▹ done xs))

-- ---- types and operands

abbrev pub read_typed : {A : Type 0} → (Bool → Reader Token A) → Reader Token A
read_typed r = choose (among kind (word_kinds w.I64)) (read_word w.I64 ▹ r false) (read_word w.I1 ▹ r true)

abbrev pub read_truth : Reader Token Bool
read_truth = choose (among kind (word_kinds w.True)) (read_word w.True ▹ done true) (read_word w.False ▹ done false)

abbrev pub read_fixed : Bool → Reader Token Operand
read_fixed false = read_number >>= (λ z. done (o.Fixed z))
read_fixed true = read_truth >>= (λ b. done (o.Fixed (truth_number b)))

unfoldable pub read_operand : Bool → Reader Token Operand
read_operand is_truth = choose (among kind register_kinds) (read_register >>= (λ r. done (o.Register r))) (read_fixed is_truth)

-- ---- instructions

unfoldable pub read_binary : ℕ → Opcode → Bool → Reader Token Instr
read_binary r op is_truth = read_operand is_truth >>= (λ x. read_comma ▹ (read_operand is_truth >>= (λ y. done (i.Op r op is_truth x y))))

unfoldable pub read_operation : ℕ → Reader Token Instr
read_operation r =
    choose (among kind arithmetic_kinds) (read_operation_word arithmetic >>= (λ op. read_word w.I64 ▹ read_binary r op false))
    (choose (among kind logic_kinds) (read_operation_word logic >>= (λ op. read_typed (read_binary r op)))
    (read_word w.Icmp ▹ (read_operation_word condition >>= (λ op. read_word w.I64 ▹ read_binary r op false))))

unfoldable pub read_conversion : ℕ → Reader Token Instr
read_conversion r =
    choose (among kind (word_kinds w.Zext)) (read_word w.Zext ▹ (read_word w.I1 ▹ (read_operand true >>= (λ x. read_word w.To ▹ (read_word w.I64 ▹ done (i.Zext r x))))))
    (read_word w.Trunc ▹ (read_word w.I64 ▹ (read_operand false >>= (λ x. read_word w.To ▹ (read_word w.I1 ▹ done (i.Trunc r x))))))

unfoldable pub read_choice : ℕ → Operand → Bool → Reader Token Instr
read_choice r test is_truth = read_operand is_truth >>= (λ x. read_comma ▹ (read_word (type_word is_truth) ▹ (read_operand is_truth >>= (λ y. done (i.Select r is_truth test x y)))))

unfoldable pub read_selection : ℕ → Reader Token Instr
read_selection r = read_word w.Select ▹ (read_word w.I1 ▹ (read_operand true >>= (λ test. read_comma ▹ read_typed (read_choice r test))))

unfoldable pub read_id : Reader Token ℕ
read_id = choose (among kind (word_kinds w.Null)) (read_word w.Null ▹ done 0)
    (read_word w.Inttoptr ▹ (read_left_paren ▹ (read_word w.I64 ▹ (read_small_number >>= (λ n. read_word w.To ▹ (read_word w.Ptr ▹ (read_right_paren ▹ done n)))))))

abbrev pub read_value_argument : Bool → Reader Token Arg
read_value_argument false = read_operand false >>= (λ x. done (a.Number x))
read_value_argument true = read_operand true >>= (λ x. done (a.Truth x))

abbrev pub read_pointer_argument : Reader Token Arg
read_pointer_argument = choose (among kind id_kinds) (read_id >>= (λ n. done (a.Id n))) (read_value constant_at >>= (λ k. done (a.Text k)))

unfoldable pub read_argument : Reader Token Arg
read_argument = choose (among kind type_kinds) (read_typed read_value_argument) (read_word w.Ptr ▹ read_pointer_argument)

unfoldable pub read_arguments : Reader Token (List Arg)
read_arguments = read_in_parens argument_kinds read_argument

unfoldable pub read_call : Option ℕ → Reader Token Instr
read_call r = read_word w.Call ▹ (read_word (given r) ▹ (read_function_name >>= (λ f. read_arguments >>= (λ xs. done (i.Call r f.0 xs)))))

unfoldable pub read_entry : Bool → Reader Token (Operand × ℕ)
read_entry is_truth = read_left_bracket ▹ (read_operand is_truth >>= (λ x. read_comma ▹ (read_target >>= (λ b. read_right_bracket ▹ done (x, b)))))

unfoldable pub read_phi_of : ℕ → Bool → Reader Token Phi
read_phi_of r is_truth = read_separated (read_entry is_truth) >>= (λ es. done (record { register = r; number = not is_truth; entries = es }))

abbrev pub read_phi : ℕ → Reader Token Phi
read_phi r = read_word w.Phi ▹ read_typed (read_phi_of r)

abbrev pub read_instruction : ℕ → Reader Token Instr
read_instruction r =
    choose (among kind operation_kinds) (read_operation r)
    (choose (among kind conversion_kinds) (read_conversion r)
    (choose (among kind (word_kinds w.Select)) (read_selection r) (read_call (Some r))))

-- where a phi may stand, and where none may
abbrev pub phi_kinds : Bool → List ℕ
phi_kinds false = []
phi_kinds true = word_kinds w.Phi

abbrev pub read_early_phi : Bool → ℕ → Reader Token Item
read_early_phi false r = read_nothing
read_early_phi true r = read_phi r >>= (λ p. done (AsPhi p))

unfoldable pub read_assigned : Bool → ℕ → Reader Token Item
read_assigned phis r =
    choose (among kind instruction_kinds) (read_instruction r >>= (λ n. done (AsInstr n)))
    (choose (among kind (phi_kinds phis)) (read_early_phi phis r) read_stray)

unfoldable pub read_item : Bool → Reader Token Item
read_item phis =
    choose (among kind register_kinds) (read_register >>= (λ r. read_equals ▹ read_assigned phis r))
    (choose (among kind (word_kinds w.Call)) (read_call None >>= (λ n. done (AsInstr n))) read_stray)

-- ---- blocks

abbrev pub read_label_target : Reader Token ℕ
read_label_target = read_word w.Label ▹ read_target

unfoldable pub read_branch : Reader Token Last
read_branch = read_word w.I1 ▹ (read_operand true >>= (λ test. read_comma ▹ (read_label_target >>= (λ x. read_comma ▹ (read_label_target >>= (λ y. done (l.Branch test x y)))))))

unfoldable pub read_last : Reader Token Last
read_last =
    choose (among kind (word_kinds w.Br)) (read_word w.Br ▹ choose (among kind (word_kinds w.Label)) (read_label_target >>= (λ x. done (l.Jump x))) read_branch)
    (read_word w.Ret ▹ (read_word w.I64 ▹ (read_number >>= (λ z. done (l.Return z)))))

-- the items from one on, where the flag says whether all before it are phis
abbrev pub next_phis : Bool → Item → Bool
next_phis phis x = phis && is_phi x

abbrev pub read_items_from : ℕ → Bool → Reader Token (List Item)
read_items_from n phis = take_many (λ s. among kind item_kinds) read_item next_phis n phis

unfoldable pub read_items : Reader Token (List Item)
read_items ts = read_items_from (length ts) true ts

unfoldable pub read_block : Reader Token Block
read_block = read_value block_at >>= (λ n. read_items >>= (λ xs. read_last >>= (λ end. done (record { name = n; phis = phis_of xs; body = instrs_of xs; last = end }))))

unfoldable pub read_blocks : Reader Token (List Block)
read_blocks = read_block >>= (λ b. take_repeated (among kind block_kinds) read_block >>= (λ bs. read_right_brace ▹ done (b ∷ bs)))

unfoldable pub read_function : Reader Token (List Block)
read_function = read_word w.Define ▹ (read_word w.I64 ▹ (read_main ▹ (read_left_paren ▹ (read_right_paren ▹ (read_group 0 ▹ (read_left_brace ▹ read_blocks))))))

-- ---- labels

unfoldable pub read_label : ℕ → Reader Token (List ℕ)
read_label k =
    read_numbered constant_at k ▹ (read_equals ▹ (read_word w.Internal ▹ (read_word w.ConstantWord
    ▹ (read_left_bracket ▹ (read_number >>= (λ n. read_word w.X ▹ (read_word w.I8 ▹ (read_right_bracket ▹ read_label_bytes n))))))))

abbrev pub next_label : ℕ → List ℕ → ℕ
next_label k bytes = suc k

abbrev pub read_labels_from : ℕ → ℕ → Reader Token (List (List ℕ))
read_labels_from n k = take_many (λ s. among kind label_kinds) read_label next_label n k

unfoldable pub read_labels : Reader Token (List (List ℕ))
read_labels ts = read_labels_from (length ts) 0 ts

-- ---- declarations

unfoldable pub read_value_type : Reader Token ValueType
read_value_type =
    choose (among kind (word_kinds w.I64)) (read_word w.I64 ▹ done WordType)
    (choose (among kind (word_kinds w.I1)) (read_word w.I1 ▹ done TruthType) (read_word w.Ptr ▹ done PointerType))

unfoldable pub read_result_type : Reader Token Bool
read_result_type = choose (among kind (word_kinds w.Void)) (read_word w.Void ▹ done false) (read_word w.I1 ▹ done true)

unfoldable pub read_undoing : Reader Token Bool
read_undoing = choose (among kind (group_class 1 ∷ [])) (read_group 1 ▹ done true) (done false)

unfoldable pub read_signature : Reader Token Signature
read_signature =
    read_word w.Declare ▹ (read_result_type >>= (λ gives. read_function_name >>= (λ f. read_in_parens value_type_kinds read_value_type >>= (λ types. read_undoing >>= (λ fixed.
    done (record { function = f.0; at = f.1; takes = types; gives = gives; irreversible = fixed }))))))

-- behind a declaration that is not the table's there is none
abbrev pub signature_kinds : Bool → List ℕ
signature_kinds false = []
signature_kinds true = word_kinds w.Declare

abbrev pub read_signature_behind : Bool → Reader Token Signature
read_signature_behind false = read_nothing
read_signature_behind true = read_signature

abbrev pub still_right : Bool → Signature → Bool
still_right right s = right && is_right s

abbrev pub read_signatures_from : ℕ → Bool → Reader Token (List Signature)
read_signatures_from n right = take_many (λ s. among kind (signature_kinds s)) read_signature_behind still_right n right

unfoldable pub read_signatures : Reader Token (List Signature)
read_signatures ts = read_signatures_from (length ts) true ts

unfoldable pub read_heading : Reader Token Heading
read_heading = read_labels >>= (λ ls. read_function >>= (λ bs. read_signatures >>= (λ ss. done (record { labels = ls; blocks = bs; signatures = ss }))))

-- ---- attributes and flags

abbrev pub read_keyed : {A : Type 0} → Quoted → Reader Token A → Reader Token A
read_keyed key value = read_quoted key ▹ (read_equals ▹ value)

unfoldable pub read_attributes : Reader Token Attributes
read_attributes =
    read_word w.Attributes ▹ (read_numbered group_at 0 ▹ (read_equals ▹ (read_left_brace
    ▹ (read_quoted w.EntryPoint ▹ (read_keyed w.Profiles read_profile >>= (λ p. read_keyed w.LabelingSchema (read_quoted w.Labeled)
    ▹ (read_keyed w.RequiredQubits read_numeral >>= (λ n. read_keyed w.RequiredResults read_numeral >>= (λ k. read_right_brace
    ▹ done (record { profile = p; qubits = n; results = k }))))))))))

unfoldable pub read_second_attributes : Reader Token Token
read_second_attributes = read_word w.Attributes ▹ (read_numbered group_at 1 ▹ (read_equals ▹ (read_left_brace ▹ (read_quoted w.Irreversible ▹ read_right_brace))))

unfoldable pub read_flag_list : Reader Token Token
read_flag_list =
    read_flags_name ▹ (read_equals ▹ (read_bang ▹ (read_left_brace ▹ (read_flag 0 ▹ (read_comma ▹ (read_flag 1 ▹ (read_comma
    ▹ (read_flag 2 ▹ (read_comma ▹ (read_flag 3 ▹ read_right_brace))))))))))

unfoldable pub read_flag_line : {A : Type 0} → ℕ → Reader Token Token → Quoted → Reserved → Reader Token A → Reader Token A
read_flag_line k behaviour name type value =
    read_numbered flag_at k ▹ (read_equals ▹ (read_bang ▹ (read_left_brace ▹ (read_word w.I32 ▹ (behaviour ▹ (read_comma ▹ (read_flag_text name ▹ (read_comma
    ▹ (read_word type ▹ (value >>= (λ v. read_right_brace ▹ done v)))))))))))

unfoldable pub read_flags : Reader Token Flags
read_flags =
    read_flag_list
    ▹ (read_flag_line 0 read_number_one w.MajorVersion w.I32 read_small_number >>= (λ major. read_flag_line 1 read_number_seven w.MinorVersion w.I32 read_small_number >>= (λ minor.
    read_flag_line 2 read_number_one w.DynamicQubits w.I1 read_truth >>= (λ qubits. read_flag_line 3 read_number_one w.DynamicResults w.I1 read_truth >>= (λ results.
    done (record { major = major; minor = minor; dynamic_qubits = qubits; dynamic_results = results }))))))

-- ---- the module

-- what stands behind declarations that are the table's
unfoldable pub read_ending : Heading → Reader Token Module
read_ending h = read_attributes >>= (λ x. read_second_attributes ▹ (read_flags >>= (λ y. done (module_of h x y))))

unfoldable pub read_module : Reader Token Module
read_module = read_heading >>= (λ h. cond (all_right h.signatures) (read_ending h) read_nothing)

-- ---- the answer of a whole list

-- a refusal of a part: only a value is wrong, or no part goes on
abbrev pub breach_at : List ℕ → Refusal Token → Breach
breach_at text (syntax rest) = record { rule = 5; at = place_at text rest }
breach_at text (deep []) = record { rule = 5; at = place_at text [] }
breach_at text (deep (x ∷ rest)) = record { rule = rule_of_value x.kind; at = x.at }

-- nothing stands behind a module
abbrev pub ended : List ℕ → Outcome Token Module → Result Module Breach
ended text (Ok (m, [])) = Ok m
ended text (Ok (m, x ∷ rest)) = Err (record { rule = 12; at = x.at })
ended text (Err refusal) = Err (breach_at text refusal)

-- a declaration is asked as soon as it is read
abbrev pub behind_heading : List ℕ → Heading → List Token → Option Signature → Result Module Breach
behind_heading text h rest (Some s) = Err (record { rule = 9; at = s.at })
behind_heading text h rest None = ended text (read_ending h rest)

abbrev pub answer_behind : List ℕ → Outcome Token Heading → Result Module Breach
answer_behind text (Ok (h, rest)) = behind_heading text h rest (first_wrong h.signatures)
answer_behind text (Err refusal) = Err (breach_at text refusal)

-- the module of the tokens of a text, or the first breach of a rule of modules
abbrev pub answer : List ℕ → List Token → Result Module Breach
answer text tokens = answer_behind text (read_heading tokens)

-- the module of a text, or its first breach
abbrev pub answer_of : List ℕ → Result (List Token) Breach → Result Module Breach
answer_of text (Ok tokens) = answer text tokens
answer_of text (Err breach) = Err breach

abbrev pub read_text : List ℕ → Result Module Breach
read_text text = answer_of text (lexed text)
