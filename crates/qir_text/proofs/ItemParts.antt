-- The tokens of operands and of the items of a block are the grammar's parts.
use Rattle.std.proofs.Common.{◌≡◌, ℕ, zero, suc, ◌<◌, ◌^◌, Bool, true, false, not, cond, List, [], ◌∷◌, ◌++◌, map, length, Option, Some, None, sym, refl, ap, ◌∙◌, subst, arith, inl, inr}
use Rattle.std.specs.Prelude.{codes, nat_lt, ℤ, pos, ◌⊎◌}
use Rattle.std.specs.List.{AllByRecursion}
use Rattle.std.proofs.lemmas.Bool.Decides.{nat_tests}
use Rattle.qq_base.specs.declared.refusal.Span.{Span}
use Rattle.qir_module.specs.declared.instruction.Operand.{Operand}
use Rattle.qir_module.specs.declared.instruction.Operand.TheVariants as o
use Rattle.qir_module.specs.declared.instruction.Opcode.{Opcode}
use Rattle.qir_module.specs.declared.instruction.Opcode.TheVariants.{Add, Sub, Mul, Sdiv, Srem, Udiv, Urem, Shl, Lshr, Ashr, And, Or, Xor, Eq, Ne, Slt, Sle, Sgt, Sge, Ult, Ule, Ugt, Uge}
use Rattle.qir_module.specs.declared.instruction.Arg.{Arg}
use Rattle.qir_module.specs.declared.instruction.Arg.TheVariants as a
use Rattle.qir_module.specs.declared.instruction.Instr.{Instr}
use Rattle.qir_module.specs.declared.instruction.Instr.TheVariants as i
use Rattle.qir_module.specs.declared.instruction.Last.{Last}
use Rattle.qir_module.specs.declared.instruction.Last.TheVariants as l
use Rattle.qir_module.specs.declared.function.Function.{Function}
use Rattle.qir_module.specs.declared.block.Phi.{Phi}
use Rattle.qir_module.specs.Module.{IsNumber, IsTyped, IsTruth, IsTruthOpcode, IsShapedArg, IsShapedInstr, IsShapedLast, IsShapedPhi, IsShapedEntry, IsFunction}
use Rattle.grammar_parts.specs.Part.{Part, then, either}
use Rattle.qir_module.specs.Tokens.{TokenKind, Token}
use Rattle.qir_module.specs.Tokens as t
use Rattle.qir_module.specs.Words.{word_of, function_named, class_of, reserved_class}
use Rattle.qir_module.specs.Written.{fixed_text}
use Rattle.qir_module.specs.Grammar.{arithmetic, logic, condition, typed, operand, fixed, binary, operation, conversion, choice, selection, id, argument, call, item, entry, phi_of, last, label_target, function_name, given, small, with_place, and_then, name_at, named_function, separated, AsPhi, AsInstr}
use Rattle.qir_text_tokens.specs.Signs.{kinds_of, equals, comma, joined_tokens, type_token, operand_token, typed_tokens, id_tokens, opcode_tokens, arg_tokens, called_tokens, instr_tokens, target_tokens, last_tokens, entry_tokens, phi_tokens}
use Rattle.qir_text.proofs.Known.{Known, tells}
use Rattle.qir_text.proofs.Making.{Makes, MakesSome, front_of, single, value_made, behind, nothing_made, then_made, with_value, left_made, right_made, separated_made, in_parens_made}

-- ---- types and operands

pub typed_made : {A : Type 0} (p : Bool → Part Token A) (truth : Bool) {tokens : List TokenKind} {x : A} → Makes (p truth) tokens x → Makes (typed p) (type_token truth ∷ tokens) x
typed_made p true m = right_made (behind refl m)
typed_made p false m = left_made (behind refl m)

fixed_truth_made : (z : ℤ) → (z ≡ pos 0) ⊎ (z ≡ pos 1) → Makes (fixed true) (t.Word (fixed_text true z) ∷ []) (o.Fixed z)
fixed_truth_made z (inl e) = subst (λ (x : ℤ). Makes (fixed true) (t.Word (fixed_text true x) ∷ []) (o.Fixed x)) (sym e) (then_made (right_made (behind refl (nothing_made refl))) (nothing_made refl))
fixed_truth_made z (inr e) = subst (λ (x : ℤ). Makes (fixed true) (t.Word (fixed_text true x) ∷ []) (o.Fixed x)) (sym e) (then_made (left_made (behind refl (nothing_made refl))) (nothing_made refl))

pub operand_made : (truth : Bool) (x : Operand) → IsTyped truth x → Makes (operand truth) (operand_token truth x ∷ []) x
operand_made truth (o.Register r) h = left_made (then_made (value_made _ refl) (nothing_made refl))
operand_made false (o.Fixed z) h = right_made (then_made (value_made _ refl) (nothing_made refl))
operand_made true (o.Fixed z) h = right_made (fixed_truth_made z h)

pub small_is : (n : ℕ) → IsNumber n → small (pos n) ≡ Some n
small_is n h = let below : nat_lt n (2 ^ 32) ≡ true = grind (arith, nat_tests) in ap (λ b. cond b (Some n) None) below

id_made : (n : ℕ) → IsNumber n → Makes id (id_tokens n) n
id_made zero h = left_made (behind refl (nothing_made refl))
id_made (suc n) h = right_made (behind refl (behind refl (behind refl (then_made (value_made _ (small_is (suc n) h)) (behind refl (behind refl (behind refl (nothing_made refl))))))))

-- ---- instructions

pub data OpcodeClass (op : Opcode) : Type 0 where
  IsArithmetic : (spelling : List ℕ) → opcode_tokens op ≡ t.Word spelling ∷ [] → arithmetic (word_of spelling) ≡ Some op → (IsTruthOpcode true op → ⊥) → OpcodeClass op
  IsLogic : (spelling : List ℕ) → opcode_tokens op ≡ t.Word spelling ∷ [] → logic (word_of spelling) ≡ Some op → OpcodeClass op
  IsCondition : (spelling : List ℕ) → opcode_tokens op ≡ t.Word (codes "icmp") ∷ t.Word spelling ∷ [] → condition (word_of spelling) ≡ Some op → (IsTruthOpcode true op → ⊥) → OpcodeClass op

opcode_class : (op : Opcode) → OpcodeClass op
opcode_class Add = IsArithmetic (codes "add") refl refl (λ h. h)
opcode_class Sub = IsArithmetic (codes "sub") refl refl (λ h. h)
opcode_class Mul = IsArithmetic (codes "mul") refl refl (λ h. h)
opcode_class Sdiv = IsArithmetic (codes "sdiv") refl refl (λ h. h)
opcode_class Srem = IsArithmetic (codes "srem") refl refl (λ h. h)
opcode_class Udiv = IsArithmetic (codes "udiv") refl refl (λ h. h)
opcode_class Urem = IsArithmetic (codes "urem") refl refl (λ h. h)
opcode_class Shl = IsArithmetic (codes "shl") refl refl (λ h. h)
opcode_class Lshr = IsArithmetic (codes "lshr") refl refl (λ h. h)
opcode_class Ashr = IsArithmetic (codes "ashr") refl refl (λ h. h)
opcode_class And = IsLogic (codes "and") refl refl
opcode_class Or = IsLogic (codes "or") refl refl
opcode_class Xor = IsLogic (codes "xor") refl refl
opcode_class Eq = IsCondition (codes "eq") refl refl (λ h. h)
opcode_class Ne = IsCondition (codes "ne") refl refl (λ h. h)
opcode_class Slt = IsCondition (codes "slt") refl refl (λ h. h)
opcode_class Sle = IsCondition (codes "sle") refl refl (λ h. h)
opcode_class Sgt = IsCondition (codes "sgt") refl refl (λ h. h)
opcode_class Sge = IsCondition (codes "sge") refl refl (λ h. h)
opcode_class Ult = IsCondition (codes "ult") refl refl (λ h. h)
opcode_class Ule = IsCondition (codes "ule") refl refl (λ h. h)
opcode_class Ugt = IsCondition (codes "ugt") refl refl (λ h. h)
opcode_class Uge = IsCondition (codes "uge") refl refl (λ h. h)

-- the tokens behind an operation
abbrev operands_tokens : Bool → Operand → Operand → List TokenKind
operands_tokens truth left right = typed_tokens truth left ++ comma ∷ operand_token truth right ∷ []

binary_made : (r : ℕ) (op : Opcode) (truth : Bool) (left right : Operand) → IsTyped truth left → IsTyped truth right → Makes (binary r op truth) (operand_token truth left ∷ comma ∷ operand_token truth right ∷ []) (i.Op r op truth left right)
binary_made r op truth left right h k = then_made (operand_made truth left h) (behind refl (then_made (operand_made truth right k) (nothing_made refl)))

operation_by : (r : ℕ) (op : Opcode) (truth : Bool) (left right : Operand) → IsTruthOpcode truth op → IsTyped truth left → IsTyped truth right → OpcodeClass op →
    Makes (operation r) (opcode_tokens op ++ operands_tokens truth left right) (i.Op r op truth left right)
operation_by r op true left right t h k (IsArithmetic spelling e f words) = absurd (words t)
operation_by r op false left right t h k (IsArithmetic spelling e f words) =
    subst (λ (x : List TokenKind). Makes (operation r) (x ++ operands_tokens false left right) (i.Op r op false left right)) (sym e)
    (left_made (then_made (value_made _ f) (behind refl (binary_made r op false left right h k))))
operation_by r op truth left right t h k (IsLogic spelling e f) =
    subst (λ (x : List TokenKind). Makes (operation r) (x ++ operands_tokens truth left right) (i.Op r op truth left right)) (sym e)
    (right_made (left_made (then_made (value_made _ f) (typed_made (binary r op) truth (binary_made r op truth left right h k)))))
operation_by r op true left right t h k (IsCondition spelling e f words) = absurd (words t)
operation_by r op false left right t h k (IsCondition spelling e f words) =
    subst (λ (x : List TokenKind). Makes (operation r) (x ++ operands_tokens false left right) (i.Op r op false left right)) (sym e)
    (right_made (right_made (behind refl (then_made (value_made _ f) (behind refl (binary_made r op false left right h k))))))

conversion_up : (r : ℕ) (x : Operand) → IsTruth x → Makes (conversion r) (t.Word (codes "zext") ∷ typed_tokens true x ++ t.Word (codes "to") ∷ t.Word (codes "i64") ∷ []) (i.Zext r x)
conversion_up r x h = left_made (behind refl (behind refl (then_made (operand_made true x h) (behind refl (behind refl (nothing_made refl))))))

conversion_down : (r : ℕ) (x : Operand) → IsTyped false x → Makes (conversion r) (t.Word (codes "trunc") ∷ typed_tokens false x ++ t.Word (codes "to") ∷ t.Word (codes "i1") ∷ []) (i.Trunc r x)
conversion_down r x h = right_made (behind refl (behind refl (then_made (operand_made false x h) (behind refl (behind refl (nothing_made refl))))))

choice_made : (r : ℕ) (truth : Bool) (test x y : Operand) → IsTyped truth x → IsTyped truth y → Makes (choice r test truth) (operand_token truth x ∷ comma ∷ typed_tokens truth y) (i.Select r truth test x y)
choice_made r true test x y h k = then_made (operand_made true x h) (behind refl (behind refl (then_made (operand_made true y k) (nothing_made refl))))
choice_made r false test x y h k = then_made (operand_made false x h) (behind refl (behind refl (then_made (operand_made false y k) (nothing_made refl))))

selection_made : (r : ℕ) (truth : Bool) (test x y : Operand) → IsTruth test → IsTyped truth x → IsTyped truth y →
    Makes (selection r) (t.Word (codes "select") ∷ typed_tokens true test ++ comma ∷ typed_tokens truth x ++ comma ∷ typed_tokens truth y) (i.Select r truth test x y)
selection_made r truth test x y h k l = behind refl (behind refl (then_made (operand_made true test h) (behind refl (typed_made (choice r test) truth (choice_made r truth test x y k l)))))

arg_made : (x : Arg) → IsShapedArg x → Makes argument (arg_tokens x) x
arg_made (a.Number x) h = left_made (left_made (behind refl (then_made (operand_made false x h) (nothing_made refl))))
arg_made (a.Truth x) h = left_made (right_made (behind refl (then_made (operand_made true x h) (nothing_made refl))))
arg_made (a.Id n) h = right_made (behind refl (left_made (with_value (id_made n h) refl)))
arg_made (a.Text k) h = right_made (behind refl (right_made (then_made (value_made _ refl) (nothing_made refl))))

-- a function by its name, wherever that stands
pub record Named (name : List ℕ) (function : Function) (xs : List Token) : Type 0 where
  pub at : Span
  pub derived : (function_name false).derives xs (function, at)

pub named_so : (name : List ℕ) (function : Function) (xs : List Token) → function_named name ≡ Some function → kinds_of xs ≡ t.Named name ∷ [] → Named name function xs
named_so name function xs e f =
    let x = single xs (t.Named name) f in
    record {
      at = x.token.at;
      derived = (x.token, x.is, ap (λ k. with_place x.token.at (and_then (name_at k) (named_function false))) x.kind_is ∙ ap (with_place x.token.at) e);
    }

name_then : {A : Type 0} {q : Function × Span → Part Token A} {name : List ℕ} {function : Function} {tokens : List TokenKind} {x : A} →
    function_named name ≡ Some function → ((at : Span) → Makes (q (function, at)) tokens x) → Makes (then (function_name false) q) (t.Named name ∷ tokens) x
name_then {name = name} {function = function} {tokens = tokens} e m = record {
  made = λ xs f.
      let s = front_of xs (t.Named name ∷ []) tokens f in
      let n = named_so name function s.first e s.first_are in
      (s.first, s.rest, (function, n.at), s.split, n.derived, (m n.at).made s.rest s.rest_are);
}

pub name_some : {A : Type 0} {q : Function × Span → Part Token A} {name : List ℕ} {function : Function} {tokens : List TokenKind} {P : A → Type 0} →
    function_named name ≡ Some function → ((at : Span) → MakesSome (q (function, at)) tokens P) → MakesSome (then (function_name false) q) (t.Named name ∷ tokens) P
name_some {name = name} {function = function} {tokens = tokens} e m = record {
  made = λ xs f.
      let s = front_of xs (t.Named name ∷ []) tokens f in
      let n = named_so name function s.first e s.first_are in
      let r = (m n.at).made s.rest s.rest_are in
      (r.0, (s.first, s.rest, (function, n.at), s.split, n.derived, r.1), r.2);
}

module _ (known : Known) where
  call_made : (r : Option ℕ) (gives : List ℕ) (function : Function) (args : List Arg) → class_of (t.Word gives) ≡ reserved_class (given r) → IsFunction function → AllByRecursion IsShapedArg args → Makes (call false r) (called_tokens gives function args) (i.Call r function args)
  call_made r gives function args e h k =
      behind refl (behind e (name_then ((tells known function h).told) (λ at. with_value (in_parens_made argument arg_tokens IsShapedArg arg_made args k) refl)))

  -- what stands behind a register
  behind_register : (phis : Bool) (r : ℕ) {tokens : List TokenKind} {x : Instr} → Makes (either (operation r) (either (conversion r) (either (selection r) (call false (Some r))))) tokens x → Makes (item false phis) (t.Register r ∷ equals ∷ tokens) (AsInstr x)
  behind_register phis r m = left_made (then_made (value_made _ refl) (behind refl (left_made (with_value m refl))))

  pub instr_made : (phis : Bool) (n : Instr) → IsShapedInstr n → Makes (item false phis) (instr_tokens n) (AsInstr n)
  instr_made phis (i.Op r op truth left right) h = behind_register phis r (left_made (operation_by r op truth left right h.1 h.2 h.3 (opcode_class op)))
  instr_made phis (i.Zext r from) h = behind_register phis r (right_made (left_made (conversion_up r from h.1)))
  instr_made phis (i.Trunc r from) h = behind_register phis r (right_made (left_made (conversion_down r from h.1)))
  instr_made phis (i.Select r truth test x y) h = behind_register phis r (right_made (right_made (left_made (selection_made r truth test x y h.1 h.2 h.3))))
  instr_made phis (i.Call None function args) h = right_made (left_made (with_value (call_made None (codes "void") function args refl h.1 h.2) refl))
  instr_made phis (i.Call (Some r) function args) h = behind_register phis r (right_made (right_made (right_made (call_made (Some r) (codes "i1") function args refl h.1 h.2))))

-- ---- phis, and the ends of blocks

entry_made : (truth : Bool) (x : Operand × ℕ) → IsShapedEntry truth x → Makes (entry truth) (entry_tokens truth x) x
entry_made truth x h = behind refl (then_made (operand_made truth x.0 h.0) (behind refl (then_made (value_made _ refl) (behind refl (nothing_made refl)))))

not_twice : (b : Bool) → not (not b) ≡ b
not_twice true = refl
not_twice false = refl

same_phi : (p : Phi) (b : Bool) → b ≡ p.number → record { register = p.register; number = b; entries = p.entries } ≡ p
same_phi p b e = ap (λ (x : Bool). record p { number = x }) e

entries_made : (truth : Bool) (entries : List (Operand × ℕ)) → 0 < length entries → AllByRecursion (IsShapedEntry truth) entries → Makes (separated (entry truth)) (joined_tokens (map (entry_tokens truth) entries)) entries
entries_made truth [] some h = absurd (omega arith)
entries_made truth (x ∷ xs) some h = separated_made (entry truth) (entry_tokens truth) (IsShapedEntry truth) (entry_made truth) x xs h

pub phi_made : (p : Phi) → IsShapedPhi p → Makes (item false true) (phi_tokens p) (AsPhi p)
phi_made p h =
    left_made (then_made (value_made _ refl) (behind refl (right_made (left_made (with_value
    (behind refl (typed_made (phi_of p.register) (not p.number) (with_value (entries_made (not p.number) p.entries h.1 h.2) (same_phi p (not (not p.number)) (not_twice p.number))))) refl)))))

target_made : (n : ℕ) → Makes label_target (target_tokens n) n
target_made n = behind refl (value_made _ refl)

pub last_made : (x : Last) → IsShapedLast x → Makes last (last_tokens x) x
last_made (l.Jump to) h = left_made (behind refl (left_made (then_made (target_made to) (nothing_made refl))))
last_made (l.Branch test first second) h =
    left_made (behind refl (right_made (behind refl (then_made (operand_made true test h.0) (behind refl (then_made (target_made first) (behind refl (then_made (target_made second) (nothing_made refl)))))))))
last_made (l.Return code) h = right_made (behind refl (behind refl (then_made (value_made _ refl) (nothing_made refl))))
