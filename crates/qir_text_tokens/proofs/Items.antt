-- The canonical text of operands and of the items of a block is read as their tokens.
use Rattle.std.proofs.Common.{◌≡◌, ℕ, zero, suc, Bool, true, false, not, List, [], ◌∷◌, ◌++◌, map, Some, None, sym, refl, ◌∙◌, subst, arith}
use Rattle.std.specs.Prelude.{codes, ℤ, pos, ◌⊎◌}
use Rattle.std.specs.List.{AllByRecursion}
use Rattle.std.specs.Fmt.{decimal}
use Rattle.std.proofs.Common.{inl, inr}
use Rattle.std.proofs.lemmas.List.{append_assoc}
use Rattle.std.proofs.lemmas.Int.{ints}
use Rattle.qir_module.specs.declared.instruction.Operand.{Operand}
use Rattle.qir_module.specs.declared.instruction.Operand.TheVariants as o
use Rattle.qir_module.specs.declared.instruction.Opcode.{Opcode}
use Rattle.qir_module.specs.declared.instruction.Opcode.TheVariants.{Add, Sub, Mul, Sdiv, Srem, Udiv, Urem, Shl, Lshr, Ashr, And, Or, Xor, Eq, Ne, Slt, Sle, Sgt, Sge, Ult, Ule, Ugt, Uge}
use Rattle.qir_module.specs.declared.instruction.Arg.{Arg}
use Rattle.qir_module.specs.declared.instruction.Arg.TheVariants as a
use Rattle.qir_module.specs.declared.instruction.Instr.{Instr}
use Rattle.qir_module.specs.declared.instruction.Instr.TheVariants as i
use Rattle.qir_module.specs.declared.instruction.Last.{Last}
use Rattle.qir_module.specs.declared.instruction.Last.TheVariants as l
use Rattle.qir_module.specs.declared.function.Function.{Function}
use Rattle.qir_module.specs.declared.block.Phi.{Phi}
use Rattle.qir_module.specs.Module.{IsNumber, IsTyped, IsTruth, IsShapedArg, IsShapedInstr, IsShapedLast, IsShapedPhi, IsShapedEntry, IsFunction}
use Rattle.qir_module.specs.Text.{comma_joined}
use Rattle.qir_module.specs.Tokens.{TokenKind}
use Rattle.qir_module.specs.Tokens as t
use Rattle.qir_module.specs.Written.{type_text, truth_text, fixed_text, operand_text, typed_text, id_text, register_text, target_text, opcode_text, assigned_text, arg_text, function_text, called_text, instr_text, last_text, entry_text, phi_text, row_name, gives_text}
use Rattle.qir_text_tokens.proofs.Passages.{Tokenizes, go, ◌▷◌}
use Rattle.qir_text_tokens.proofs.Ends.{End, AtBlank, AtComma, AtLine, AtParen, AtBrace, end_char, register_read, target_read, constant_read, number_read}
use Rattle.qir_text_tokens.proofs.Names.{name_read}
use Rattle.qir_text_tokens.proofs.Table.{row_at}
use Rattle.qir_text_tokens.specs.Signs.{joined_tokens, type_token, operand_token, typed_tokens, id_tokens, opcode_tokens, arg_tokens, function_token, called_tokens, instr_tokens, last_tokens, entry_tokens, phi_tokens}

-- ---- texts that are put together in another order

abbrev from_left : List ℕ → List (List ℕ) → List ℕ
from_left text [] = text
from_left text (next ∷ more) = from_left (text ++ next) more

abbrev from_right : List ℕ → List (List ℕ) → List ℕ
from_right text [] = text
from_right text (next ∷ more) = text ++ from_right next more

right_front : (a b : List ℕ) (more : List (List ℕ)) → from_right (a ++ b) more ≡ a ++ from_right b more
right_front a b [] = refl
right_front a b (next ∷ more) = append_assoc a b (from_right next more)

left_right : (a : List ℕ) (more : List (List ℕ)) → from_left a more ≡ from_right a more
left_right a [] = refl
left_right a (next ∷ more) = left_right (a ++ next) more ∙ right_front a next more

-- these texts one behind the other
pub in_turn : (a : List ℕ) (more : List (List ℕ)) {behind : List ℕ} {tokens : List TokenKind} → Tokenizes (from_right a more) tokens behind → Tokenizes (from_left a more) tokens behind
in_turn a more {behind} {tokens} x = subst (λ y. Tokenizes y tokens behind) (sym (left_right a more)) x

-- ---- types and operands

pub truth_read : (b : Bool) (e : End) (behind : List ℕ) → Tokenizes (truth_text b ++ end_char e ∷ behind) (t.Word (truth_text b) ∷ []) (end_char e ∷ behind)
truth_read true AtBlank behind = go 1 refl
truth_read true AtComma behind = go 1 refl
truth_read true AtLine behind = go 1 refl
truth_read true AtParen behind = go 1 refl
truth_read true AtBrace behind = go 1 refl
truth_read false AtBlank behind = go 1 refl
truth_read false AtComma behind = go 1 refl
truth_read false AtLine behind = go 1 refl
truth_read false AtParen behind = go 1 refl
truth_read false AtBrace behind = go 1 refl

fixed_truth_read : (z : ℤ) (e : End) (behind : List ℕ) → (z ≡ pos 0) ⊎ (z ≡ pos 1) → Tokenizes (fixed_text true z ++ end_char e ∷ behind) (t.Word (fixed_text true z) ∷ []) (end_char e ∷ behind)
fixed_truth_read z e behind (inl zero_is) = subst (λ (x : ℤ). Tokenizes (fixed_text true x ++ end_char e ∷ behind) (t.Word (fixed_text true x) ∷ []) (end_char e ∷ behind)) (sym zero_is) (truth_read false e behind)
fixed_truth_read z e behind (inr one_is) = subst (λ (x : ℤ). Tokenizes (fixed_text true x ++ end_char e ∷ behind) (t.Word (fixed_text true x) ∷ []) (end_char e ∷ behind)) (sym one_is) (truth_read true e behind)

pub operand_read : (truth : Bool) (operand : Operand) (e : End) (behind : List ℕ) → IsTyped truth operand → Tokenizes (operand_text truth operand ++ end_char e ∷ behind) (operand_token truth operand ∷ []) (end_char e ∷ behind)
operand_read true (o.Register r) e behind h = register_read r e behind h
operand_read false (o.Register r) e behind h = register_read r e behind h
operand_read true (o.Fixed z) e behind h = fixed_truth_read z e behind h
operand_read false (o.Fixed z) e behind h = number_read z e behind h

pub type_read : (truth : Bool) (behind : List ℕ) → Tokenizes (type_text truth ++ 32 ∷ behind) (type_token truth ∷ []) behind
type_read true behind = go 2 refl
type_read false behind = go 2 refl

pub typed_read : (truth : Bool) (operand : Operand) (e : End) (behind : List ℕ) → IsTyped truth operand → Tokenizes (typed_text truth operand ++ end_char e ∷ behind) (typed_tokens truth operand) (end_char e ∷ behind)
typed_read true operand e behind h = go 2 refl ▷ operand_read true operand e behind h
typed_read false operand e behind h = go 2 refl ▷ operand_read false operand e behind h

id_zero : (e : End) (behind : List ℕ) → Tokenizes (id_text 0 ++ end_char e ∷ behind) (id_tokens 0) (end_char e ∷ behind)
id_zero AtBlank behind = go 1 refl
id_zero AtComma behind = go 1 refl
id_zero AtLine behind = go 1 refl
id_zero AtParen behind = go 1 refl
id_zero AtBrace behind = go 1 refl

pub natural_read : (n : ℕ) (e : End) (behind : List ℕ) → IsNumber n → Tokenizes (decimal n ++ end_char e ∷ behind) (t.Number (pos n) ∷ []) (end_char e ∷ behind)
natural_read n e behind h = number_read (pos n) e behind (grind (arith, ints))

pub id_read : (n : ℕ) (e : End) (behind : List ℕ) → IsNumber n → Tokenizes (id_text n ++ end_char e ∷ behind) (id_tokens n) (end_char e ∷ behind)
id_read zero e behind h = id_zero e behind
id_read (suc n) e behind h =
    in_turn (codes "inttoptr (i64 ") (decimal (suc n) ∷ codes " to ptr)" ∷ (end_char e ∷ behind) ∷ [])
    (go 5 refl ▷ natural_read (suc n) AtBlank _ h ▷ go 5 refl)

-- ---- instructions

opcode_read : (op : Opcode) (behind : List ℕ) → Tokenizes (opcode_text op ++ 32 ∷ behind) (opcode_tokens op) behind
opcode_read Add behind = go 2 refl
opcode_read Sub behind = go 2 refl
opcode_read Mul behind = go 2 refl
opcode_read Sdiv behind = go 2 refl
opcode_read Srem behind = go 2 refl
opcode_read Udiv behind = go 2 refl
opcode_read Urem behind = go 2 refl
opcode_read Shl behind = go 2 refl
opcode_read Lshr behind = go 2 refl
opcode_read Ashr behind = go 2 refl
opcode_read And behind = go 2 refl
opcode_read Or behind = go 2 refl
opcode_read Xor behind = go 2 refl
opcode_read Eq behind = go 4 refl
opcode_read Ne behind = go 4 refl
opcode_read Slt behind = go 4 refl
opcode_read Sle behind = go 4 refl
opcode_read Sgt behind = go 4 refl
opcode_read Sge behind = go 4 refl
opcode_read Ult behind = go 4 refl
opcode_read Ule behind = go 4 refl
opcode_read Ugt behind = go 4 refl
opcode_read Uge behind = go 4 refl

-- a register, and what it is given
assigned_read : (r : ℕ) (value behind : List ℕ) {tokens : List TokenKind} → IsNumber r → Tokenizes (value ++ 10 ∷ behind) tokens (10 ∷ behind) → Tokenizes (assigned_text r value ++ 10 ∷ behind) (t.Register r ∷ t.Mark 61 ∷ tokens) (10 ∷ behind)
assigned_read r value behind h x =
    in_turn (register_text r) (codes " = " ∷ value ∷ (10 ∷ behind) ∷ [])
    (register_read r AtBlank _ h ▷ go 3 refl ▷ x)

op_read : (op : Opcode) (truth : Bool) (left right : Operand) (behind : List ℕ) → IsTyped truth left → IsTyped truth right →
    Tokenizes (opcode_text op ++ codes " " ++ typed_text truth left ++ codes ", " ++ operand_text truth right ++ 10 ∷ behind) (opcode_tokens op ++ (typed_tokens truth left ++ t.Mark 44 ∷ operand_token truth right ∷ [])) (10 ∷ behind)
op_read op truth left right behind h k =
    in_turn (opcode_text op) (codes " " ∷ typed_text truth left ∷ codes ", " ∷ operand_text truth right ∷ (10 ∷ behind) ∷ [])
    (opcode_read op _ ▷ typed_read truth left AtComma _ h ▷ go 2 refl ▷ operand_read truth right AtLine behind k)

select_read : (truth : Bool) (test chosen other : Operand) (behind : List ℕ) → IsTruth test → IsTyped truth chosen → IsTyped truth other →
    Tokenizes (codes "select " ++ typed_text true test ++ codes ", " ++ typed_text truth chosen ++ codes ", " ++ typed_text truth other ++ 10 ∷ behind)
    (t.Word (codes "select") ∷ typed_tokens true test ++ t.Mark 44 ∷ typed_tokens truth chosen ++ t.Mark 44 ∷ typed_tokens truth other) (10 ∷ behind)
select_read truth test chosen other behind h k l =
    in_turn (codes "select ") (typed_text true test ∷ codes ", " ∷ typed_text truth chosen ∷ codes ", " ∷ typed_text truth other ∷ (10 ∷ behind) ∷ [])
    (go 2 refl ▷ typed_read true test AtComma _ h ▷ go 2 refl ▷ typed_read truth chosen AtComma _ k ▷ go 2 refl ▷ typed_read truth other AtLine behind l)

-- items with a comma between each two
pub joined_read : {A : Type 0} (text : A → List ℕ) (tokens : A → List TokenKind) (good : A → Type 0) →
    ((x : A) (e : End) (behind : List ℕ) → good x → Tokenizes (text x ++ end_char e ∷ behind) (tokens x) (end_char e ∷ behind)) →
    (items : List A) (e : End) (behind : List ℕ) → AllByRecursion good items → Tokenizes (comma_joined (map text items) ++ end_char e ∷ behind) (joined_tokens (map tokens items)) (end_char e ∷ behind)
joined_read text tokens good each [] e behind h = go 0 refl
joined_read text tokens good each (x ∷ []) e behind h = each x e behind h.0
joined_read text tokens good each (x ∷ y ∷ items) e behind h =
    in_turn (text x) (codes ", " ∷ comma_joined (map text (y ∷ items)) ∷ (end_char e ∷ behind) ∷ [])
    (each x AtComma _ h.0 ▷ go 2 refl ▷ joined_read text tokens good each (y ∷ items) e behind h.1)

arg_read : (arg : Arg) (e : End) (behind : List ℕ) → IsShapedArg arg → Tokenizes (arg_text arg ++ end_char e ∷ behind) (arg_tokens arg) (end_char e ∷ behind)
arg_read (a.Number operand) e behind h = typed_read false operand e behind h
arg_read (a.Truth operand) e behind h = typed_read true operand e behind h
arg_read (a.Id n) e behind h = go 2 refl ▷ id_read n e behind h
arg_read (a.Text k) e behind h = go 2 refl ▷ constant_read k e behind h

pub gives_read : (b : Bool) (behind : List ℕ) → Tokenizes (gives_text b ++ 32 ∷ behind) (t.Word (gives_text b) ∷ []) behind
gives_read true behind = go 2 refl
gives_read false behind = go 2 refl

function_read : (function : Function) (behind : List ℕ) → IsFunction function → Tokenizes (function_text function ++ 40 ∷ behind) (function_token function ∷ []) (40 ∷ behind)
function_read function behind h =
    let found = row_at function.0 h in
    subst (λ row. Tokenizes (64 ∷ (row_name row ++ 40 ∷ behind)) (t.Named (row_name row) ∷ []) (40 ∷ behind)) (sym found.is)
    (name_read found.row.name behind found.begins found.continues)

called_read : (b : Bool) (function : Function) (args : List Arg) (behind : List ℕ) → IsFunction function → AllByRecursion IsShapedArg args →
    Tokenizes (called_text (gives_text b) function args ++ 10 ∷ behind) (called_tokens (gives_text b) function args) (10 ∷ behind)
called_read b function args behind h k =
    in_turn (codes "call ") (gives_text b ∷ codes " " ∷ function_text function ∷ codes "(" ∷ comma_joined (map arg_text args) ∷ codes ")" ∷ (10 ∷ behind) ∷ [])
    (go 2 refl ▷ gives_read b _ ▷ function_read function _ h ▷ go 1 refl ▷ joined_read arg_text arg_tokens IsShapedArg arg_read args AtParen (10 ∷ behind) k ▷ go 1 refl)

pub instr_read : (instr : Instr) (behind : List ℕ) → IsShapedInstr instr → Tokenizes (instr_text instr ++ 10 ∷ behind) (instr_tokens instr) (10 ∷ behind)
instr_read (i.Op r op truth left right) behind h = assigned_read r _ behind h.0 (op_read op truth left right behind h.2 h.3)
instr_read (i.Zext r from) behind h =
    assigned_read r _ behind h.0
    (in_turn (codes "zext ") (typed_text true from ∷ codes " to i64" ∷ (10 ∷ behind) ∷ []) (go 2 refl ▷ typed_read true from AtBlank _ h.1 ▷ go 4 refl))
instr_read (i.Trunc r from) behind h =
    assigned_read r _ behind h.0
    (in_turn (codes "trunc ") (typed_text false from ∷ codes " to i1" ∷ (10 ∷ behind) ∷ []) (go 2 refl ▷ typed_read false from AtBlank _ h.1 ▷ go 4 refl))
instr_read (i.Select r truth test chosen other) behind h = assigned_read r _ behind h.0 (select_read truth test chosen other behind h.1 h.2 h.3)
instr_read (i.Call None function args) behind h = called_read false function args behind h.1 h.2
instr_read (i.Call (Some r) function args) behind h = assigned_read r _ behind h.0 (called_read true function args behind h.1 h.2)

-- ---- the ends of blocks, and phis

pub last_read : (last : Last) (behind : List ℕ) → IsShapedLast last → Tokenizes (last_text last ++ 10 ∷ behind) (last_tokens last) (10 ∷ behind)
last_read (l.Jump to) behind h = go 4 refl ▷ target_read to AtLine behind h
last_read (l.Branch test first second) behind h =
    in_turn (codes "br ") (typed_text true test ∷ codes ", label " ∷ target_text first ∷ codes ", label " ∷ target_text second ∷ (10 ∷ behind) ∷ [])
    (go 2 refl ▷ typed_read true test AtComma _ h.0 ▷ go 4 refl ▷ target_read first AtComma _ h.1 ▷ go 4 refl ▷ target_read second AtLine behind h.2)
last_read (l.Return code) behind h = go 4 refl ▷ number_read code AtLine behind h

entry_read : (truth : Bool) (entry : Operand × ℕ) (e : End) (behind : List ℕ) → IsShapedEntry truth entry → Tokenizes (entry_text truth entry ++ end_char e ∷ behind) (entry_tokens truth entry) (end_char e ∷ behind)
entry_read truth entry e behind h =
    in_turn (codes "[ ") (operand_text truth entry.0 ∷ codes ", " ∷ target_text entry.1 ∷ codes " ]" ∷ (end_char e ∷ behind) ∷ [])
    (go 2 refl ▷ operand_read truth entry.0 AtComma _ h.0 ▷ go 2 refl ▷ target_read entry.1 AtBlank _ h.1 ▷ go 2 refl)

pub phi_read : (p : Phi) (behind : List ℕ) → IsShapedPhi p → Tokenizes (phi_text p ++ 10 ∷ behind) (phi_tokens p) (10 ∷ behind)
phi_read p behind h =
    let truth = not p.number in
    assigned_read p.register _ behind h.0
    (in_turn (codes "phi ") (type_text truth ∷ codes " " ∷ comma_joined (map (entry_text truth) p.entries) ∷ (10 ∷ behind) ∷ [])
    (go 2 refl ▷ type_read truth _ ▷ joined_read (entry_text truth) (entry_tokens truth) (IsShapedEntry truth) (entry_read truth) p.entries AtLine behind h.2))
