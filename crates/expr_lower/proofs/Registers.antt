-- Registers and what they hold, and straight runs.
use Rattle.std.proofs.Common.{◌≡◌, ℕ, zero, suc, ◌+◌, ◌<◌, ◌≤◌, if◌then◌else◌, Bool, true, false, List, [], ◌∷◌, ◌++◌, ℤ, pos, negsuc, Option, Some, None, refl, sym, ap, ◌∙◌, subst, arith}
use Rattle.std.specs.Prelude.{◌≤ℤ◌, ◌/◌, ◌%◌, ◌^◌, int_div, int_rem}
use Rattle.std.specs.Int.{w64, cast_signed, cast_unsigned, int_shl, int_shr}
use Rattle.std.proofs.lemmas.Int.{ints}
use Rattle.std.proofs.lemmas.Bool.{eq-eqb, ne_eqb, lt-ltb}
use Rattle.qir_module.specs.declared.instruction.Operand.{Operand}
use Rattle.qir_module.specs.declared.instruction.Operand.TheVariants.{Register, Fixed}
use Rattle.qir_module.specs.declared.instruction.Opcode.{Opcode}
use Rattle.qir_module.specs.declared.instruction.Opcode.TheVariants.{Add, Sub, Mul, Sdiv, Srem, Udiv, Urem, Shl, Lshr, Ashr, And, Or, Xor, Eq, Ne, Slt, Sle, Sgt, Sge, Ult, Ule, Ugt, Uge}
use Rattle.qir_module.specs.declared.instruction.Instr.{Instr}
use Rattle.qir_module.specs.declared.instruction.Instr.TheVariants.{Op, Zext, Trunc, Select}
use Rattle.qir_module.specs.Machine.{Value, Word, Holds, State, with_register, word_of, truth_of, word_in, truth_in, as_word, as_truth, value_in, on_words, on_truths, if_divisor, if_amount, with_both, extended, truncated, selected, Effect, Goes, Does, Shows, Measures, Fails, stored, effect_of, behind, run_rest}
use Rattle.core_ir.specs.WellFormed.{is_bitwise, is_comparison}
use Rattle.cell_operands.specs.Operands.{IsBelow}
use Rattle.expr_lower.specs.Lowered.{goes_on, then_state, straight, StraightRuns}

-- ---- registers

abbrev pub SameBelow : ℕ → State → State → Type 0
SameBelow next old new = (r : ℕ) → r < next → new.registers r ≡ old.registers r

pub register_here : (s : State) (r : ℕ) (v : Value) → (with_register s r v).registers r ≡ Some v
register_here s r v = ap (λ b. if b then Some v else s.registers r) (eq-eqb r r refl)

pub register_kept : (s : State) (r : ℕ) (v : Value) → SameBelow r s (with_register s r v)
register_kept s r v x l = ap (λ b. if b then Some v else s.registers x) (ne_eqb x r (λ e. absurd (omega (arith, e, l))))

register_value : (old new : State) (truth : Bool) (r : ℕ) → new.registers r ≡ old.registers r → value_in new truth (Register r) ≡ value_in old truth (Register r)
register_value old new true r same = ap (λ v. as_truth (truth_of v)) same
register_value old new false r same = ap (λ v. as_word (word_of v)) same

fixed_value : (old new : State) (truth : Bool) (z : ℤ) → value_in new truth (Fixed z) ≡ value_in old truth (Fixed z)
fixed_value old new true z = refl
fixed_value old new false z = refl

pub same_value : (next : ℕ) (old new : State) (truth : Bool) (o : Operand) → SameBelow next old new → IsBelow next o → value_in new truth o ≡ value_in old truth o
same_value next old new truth (Register r) same below = register_value old new truth r (same r below)
same_value next old new truth (Fixed z) same below = fixed_value old new truth z

-- ---- values by their types

abbrev pub TypeIs : Bool → Value → Type 0
TypeIs true (Holds b) = Unit {0}
TypeIs true (Word z) = ⊥
TypeIs false (Word z) = Unit {0}
TypeIs false (Holds b) = ⊥

pub value_here : (s : State) (r : ℕ) (v : Value) (truth : Bool) → TypeIs truth v → value_in (with_register s r v) truth (Register r) ≡ Some v
value_here s r (Holds b) true is = ap (λ x. as_truth (truth_of x)) (register_here s r (Holds b))
value_here s r (Word z) true is = absurd is
value_here s r (Word z) false is = ap (λ x. as_word (word_of x)) (register_here s r (Word z))
value_here s r (Holds b) false is = absurd is

as_truth_type : (x : Option Bool) (v : Value) → as_truth x ≡ Some v → TypeIs true v
as_truth_type None v e = cc
as_truth_type (Some b) (Holds a) e = tt
as_truth_type (Some b) (Word z) e = cc

as_word_type : (x : Option ℤ) (v : Value) → as_word x ≡ Some v → TypeIs false v
as_word_type None v e = cc
as_word_type (Some z) (Word y) e = tt
as_word_type (Some z) (Holds b) e = cc

pub value_type : (s : State) (truth : Bool) (o : Operand) (v : Value) → value_in s truth o ≡ Some v → TypeIs truth v
value_type s true o v e = as_truth_type (truth_in s o) v e
value_type s false o v e = as_word_type (word_in s o) v e

some_truth : (x : Option Bool) (b : Bool) → as_truth x ≡ Some (Holds b) → x ≡ Some b
some_truth None b e = cc
some_truth (Some a) b e = cc

some_word : (x : Option ℤ) (z : ℤ) → as_word x ≡ Some (Word z) → x ≡ Some z
some_word None z e = cc
some_word (Some y) z e = cc

-- a value of a type, as it is
pub is_truth : (v : Value) → TypeIs true v → (b : Bool) × (v ≡ Holds b)
is_truth (Holds b) is = (b, refl)
is_truth (Word z) is = absurd is

pub is_word : (v : Value) → TypeIs false v → (z : ℤ) × (v ≡ Word z)
is_word (Word z) is = (z, refl)
is_word (Holds b) is = absurd is

-- ---- instructions

-- a divisor is 1 or more, and a shift is by 0 to 63 places
abbrev pub SafeWord : Opcode → ℤ → Type 0
SafeWord Sdiv y = pos 1 ≤ℤ y
SafeWord Srem y = pos 1 ≤ℤ y
SafeWord Udiv y = pos 1 ≤ℤ y
SafeWord Urem y = pos 1 ≤ℤ y
SafeWord Shl y = (pos 0 ≤ℤ y) × (y ≤ℤ pos 63)
SafeWord Lshr y = (pos 0 ≤ℤ y) × (y ≤ℤ pos 63)
SafeWord Ashr y = (pos 0 ≤ℤ y) × (y ≤ℤ pos 63)
SafeWord _ y = Unit {0}

divides : (y : ℤ) (z : ℤ) → pos 1 ≤ℤ y → if_divisor y (Word z) ≡ Some (Word z)
divides (pos zero) z safe = absurd (omega (arith, ints))
divides (pos (suc n)) z safe = refl
divides (negsuc n) z safe = absurd (omega (arith, ints))

shifts : (y : ℤ) (f : ℕ → ℤ) → (pos 0 ≤ℤ y) × (y ≤ℤ pos 63) → (z : ℤ) × (if_amount y (λ n. Word (f n)) ≡ Some (Word z))
shifts (pos n) f safe = (f n, ap (λ b. if b then Some (Word (f n)) else None) (lt-ltb n 64 (let high : pos n ≤ℤ pos 63 = safe.1 in omega (arith, ints))))
shifts (negsuc n) f safe = let low : pos 0 ≤ℤ negsuc n = safe.0 in absurd (omega (arith, ints))

-- on safe words each instruction gives a value, a comparison a truth value
abbrev pub GivesWord : Opcode → ℤ → ℤ → Type 0
GivesWord op x y = (v : Value) × (on_words op x y ≡ Some v) × TypeIs (is_comparison op) v

by_divisor : (op : Opcode) (x y z : ℤ) → is_comparison op ≡ false → on_words op x y ≡ if_divisor y (Word z) → pos 1 ≤ℤ y → GivesWord op x y
by_divisor op x y z compares is safe = (Word z, is ∙ divides y z safe, subst (λ b. TypeIs b (Word z)) (sym compares) tt)

by_amount : (op : Opcode) (x y : ℤ) (f : ℕ → ℤ) → is_comparison op ≡ false → on_words op x y ≡ if_amount y (λ n. Word (f n)) → (pos 0 ≤ℤ y) × (y ≤ℤ pos 63) → GivesWord op x y
by_amount op x y f compares is safe = let s = shifts y f safe in (Word s.0, is ∙ s.1, subst (λ b. TypeIs b (Word s.0)) (sym compares) tt)

pub gives_word : (op : Opcode) (x y : ℤ) → SafeWord op y → GivesWord op x y
gives_word Add x y safe = (_, refl, tt)
gives_word Sub x y safe = (_, refl, tt)
gives_word Mul x y safe = (_, refl, tt)
gives_word Sdiv x y safe = by_divisor Sdiv x y (int_div x y) refl refl safe
gives_word Srem x y safe = by_divisor Srem x y (int_rem x y) refl refl safe
gives_word Udiv x y safe = by_divisor Udiv x y (cast_signed w64 ((cast_unsigned w64 x / cast_unsigned w64 y) % 2 ^ 64)) refl refl safe
gives_word Urem x y safe = by_divisor Urem x y (cast_signed w64 ((cast_unsigned w64 x % cast_unsigned w64 y) % 2 ^ 64)) refl refl safe
gives_word Shl x y safe = by_amount Shl x y (λ n. int_shl w64 x n) refl refl safe
gives_word Lshr x y safe = by_amount Lshr x y (λ n. cast_signed w64 ((cast_unsigned w64 x / 2 ^ n) % 2 ^ 64)) refl refl safe
gives_word Ashr x y safe = by_amount Ashr x y (λ n. int_shr x n) refl refl safe
gives_word And x y safe = (_, refl, tt)
gives_word Or x y safe = (_, refl, tt)
gives_word Xor x y safe = (_, refl, tt)
gives_word Eq x y safe = (_, refl, tt)
gives_word Ne x y safe = (_, refl, tt)
gives_word Slt x y safe = (_, refl, tt)
gives_word Sle x y safe = (_, refl, tt)
gives_word Sgt x y safe = (_, refl, tt)
gives_word Sge x y safe = (_, refl, tt)
gives_word Ult x y safe = (_, refl, tt)
gives_word Ule x y safe = (_, refl, tt)
gives_word Ugt x y safe = (_, refl, tt)
gives_word Uge x y safe = (_, refl, tt)

pub gives_truth : (op : Opcode) (a b : Bool) → is_bitwise op ≡ true → (c : Bool) × (on_truths op a b ≡ Some (Holds c))
gives_truth And a b bits = (_, refl)
gives_truth Or a b bits = (_, refl)
gives_truth Xor a b bits = (_, refl)
gives_truth _ a b bits = cc

-- what one instruction does
pub runs_words : (labels : ℕ) (s : State) (r : ℕ) (op : Opcode) (truth : Bool) (left right : Operand) (x y : ℤ) (v : Value) → truth ≡ false → value_in s truth left ≡ Some (Word x) → value_in s truth right ≡ Some (Word y) → on_words op x y ≡ Some v
    → straight labels (Op r op truth left right ∷ []) s ≡ Some (with_register s r v)
runs_words labels s r op true left right x y v is first second gives = cc
runs_words labels s r op false left right x y v is first second gives =
    ap (λ o. then_state (goes_on (stored s r (with_both o (word_in s right) (on_words op)))) (straight labels [])) (some_word (word_in s left) x first)
    ∙ ap (λ o. then_state (goes_on (stored s r (with_both (Some x) o (on_words op)))) (straight labels [])) (some_word (word_in s right) y second)
    ∙ ap (λ o. then_state (goes_on (stored s r o)) (straight labels [])) gives

pub runs_truths : (labels : ℕ) (s : State) (r : ℕ) (op : Opcode) (truth : Bool) (left right : Operand) (a b c : Bool) → truth ≡ true → value_in s truth left ≡ Some (Holds a) → value_in s truth right ≡ Some (Holds b) → on_truths op a b ≡ Some (Holds c)
    → straight labels (Op r op truth left right ∷ []) s ≡ Some (with_register s r (Holds c))
runs_truths labels s r op false left right a b c is first second gives = cc
runs_truths labels s r op true left right a b c is first second gives =
    ap (λ o. then_state (goes_on (stored s r (with_both o (truth_in s right) (on_truths op)))) (straight labels [])) (some_truth (truth_in s left) a first)
    ∙ ap (λ o. then_state (goes_on (stored s r (with_both (Some a) o (on_truths op)))) (straight labels [])) (some_truth (truth_in s right) b second)
    ∙ ap (λ o. then_state (goes_on (stored s r o)) (straight labels [])) gives

pub runs_widen : (labels : ℕ) (s : State) (r : ℕ) (from : Operand) (b : Bool) → value_in s true from ≡ Some (Holds b) → straight labels (Zext r from ∷ []) s ≡ Some (with_register s r (Word (if b then pos 1 else pos 0)))
runs_widen labels s r from b value = ap (λ o. then_state (goes_on (stored s r (extended o))) (straight labels [])) (some_truth (truth_in s from) b value)

pub runs_narrow : (labels : ℕ) (s : State) (r : ℕ) (from : Operand) (z : ℤ) → value_in s false from ≡ Some (Word z) → straight labels (Trunc r from ∷ []) s ≡ then_state (goes_on (stored s r (truncated (Some z)))) (straight labels [])
runs_narrow labels s r from z value = ap (λ o. then_state (goes_on (stored s r (truncated o))) (straight labels [])) (some_word (word_in s from) z value)

pub runs_choose : (labels : ℕ) (s : State) (r : ℕ) (truth : Bool) (test chosen other : Operand) (t : Bool) (v w : Value) → value_in s true test ≡ Some (Holds t) → value_in s truth chosen ≡ Some v → value_in s truth other ≡ Some w
    → straight labels (Select r truth test chosen other ∷ []) s ≡ Some (with_register s r (if t then v else w))
runs_choose labels s r truth test chosen other t v w first second third =
    ap (λ o. then_state (goes_on (stored s r (selected o (value_in s truth chosen) (value_in s truth other)))) (straight labels [])) (some_truth (truth_in s test) t first)
    ∙ ap (λ o. then_state (goes_on (stored s r (selected (Some t) o (value_in s truth other)))) (straight labels [])) second
    ∙ ap (λ o. then_state (goes_on (stored s r (selected (Some t) (Some v) o))) (straight labels [])) third

-- ---- one stretch behind another

some_same : (a b : State) → Some a ≡ Some b → a ≡ b
some_same a b e = cc

pub straight_append : (labels : ℕ) (code more : List Instr) (s mid : State) → straight labels code s ≡ Some mid → straight labels (code ++ more) s ≡ straight labels more mid
straight_append labels [] more s mid e = ap (straight labels more) (some_same s mid e)
straight_append labels (i ∷ is) more s mid e = on_state (goes_on (effect_of labels s i)) e (λ t h. straight_append labels is more t mid h)
  where
    on_state : (x : Option State) → then_state x (straight labels is) ≡ Some mid → ((t : State) → straight labels is t ≡ Some mid → straight labels (is ++ more) t ≡ straight labels more mid) → then_state x (straight labels (is ++ more)) ≡ straight labels more mid
    on_state None e next = cc
    on_state (Some t) e next = next t e

pub straight_runs : StraightRuns
straight_runs labels jump [] rest last s s' outcomes turns e = ap (λ t. run_rest labels jump rest last t outcomes turns) (some_same s s' e)
straight_runs labels jump (i ∷ is) rest last s s' outcomes turns e =
    on_effect (effect_of labels s i) e (λ t h. straight_runs labels jump is rest last t s' outcomes turns h)
  where
    on_effect : (x : Effect) → then_state (goes_on x) (straight labels is) ≡ Some s' → ((t : State) → straight labels is t ≡ Some s' → run_rest labels jump (is ++ rest) last t outcomes turns ≡ run_rest labels jump rest last s' outcomes turns)
        → behind x (run_rest labels jump (is ++ rest) last) outcomes turns ≡ run_rest labels jump rest last s' outcomes turns
    on_effect (Goes t) e next = next t e
    on_effect (Does event t) e next = cc
    on_effect (Shows shown t) e next = cc
    on_effect (Measures qubit result t) e next = cc
    on_effect Fails e next = cc
