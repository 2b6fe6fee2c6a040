-- In a module that passes, what is read is there and of its type, so that no instruction is stuck.
use Rattle.std.proofs.Common.{◌≡◌, ℕ, zero, suc, ◌<◌, ◌≤◌, ◌/◌, ◌^◌, Bool, true, false, ◌||◌, nat_lt, nat_le, if◌then◌else◌, ℤ, pos, negsuc, Option, Some, None, is_some, refl, sym, ap, ◌∙◌, arith}
use Rattle.std.proofs.lemmas.Bool.{ltb-true, lt-ltb, leb-true}
use Rattle.std.specs.Int.{w64, int_shl, int_shr, cast_unsigned}
use Rattle.std.specs.List.{list_all}
use Rattle.qir_module.specs.declared.instruction.Operand.{Operand}
use Rattle.qir_module.specs.declared.instruction.Operand.TheVariants.{Register, Fixed}
use Rattle.qir_module.specs.declared.instruction.Opcode.{Opcode}
use Rattle.qir_module.specs.declared.instruction.Opcode.TheVariants.{Add, Sub, Mul, Sdiv, Srem, Udiv, Urem, Shl, Lshr, Ashr, And, Or, Xor, Eq, Ne, Slt, Sle, Sgt, Sge, Ult, Ule, Ugt, Uge}
use Rattle.qir_module.specs.Module.{Module, IsTruthOpcode}
use Rattle.qir_module.specs.Machine.{Value, Word, Holds, State, word_of, truth_of, word_in, truth_in, as_word, as_truth, value_in, on_words, on_truths, with_both, unsigned_word, op_value, extended, truncated, selected}
use Rattle.qir_module.specs.Carried.{Thing, TheRegister, TheResult}
use Rattle.qir_module.specs.Passes.{Passes, assigned_as, has_type, register_in, compares, divides, shifts, is_fixed_between}
use Rattle.qir_machine.proofs.SpotFacts.{and_left, and_right}
use Rattle.qir_machine.proofs.UniqueTypes.{one_type_each}

-- ---- what a state has

abbrev pub is_truth : Value → Bool
is_truth (Word z) = false
is_truth (Holds b) = true

abbrev pub has : State → Thing → Bool
has s (TheRegister r) = is_some (s.registers r)
has s (TheResult k) = is_some (s.results k)

-- each register holds a value of the type that it is assigned with
pub record IsTyped (m : Module) (s : State) : Type 0 where
  pub typed : (r : ℕ) (v : Value) → s.registers r ≡ Some v → assigned_as m (is_truth v) r ≡ true

pub record IsSound (m : Module) (s : State) (known : Thing → Bool) : Type 0 where
  pub types : IsTyped m s
  pub there : (t : Thing) → known t ≡ true → has s t ≡ true

-- an operand that has the type of its use, and of which the register was assigned
pub record IsReadable (m : Module) (s : State) (o : Operand × Bool) : Type 0 where
  pub type : has_type m o.0 o.1 ≡ true
  pub there : list_all (has s) (register_in o.0) ≡ true

register_there : (s : State) (r : ℕ) → list_all (has s) (register_in (Register r)) ≡ true → (v : Value) × (s.registers r ≡ Some v)
register_there s r is = by_value (s.registers r) refl (and_left (has s (TheRegister r)) true is)
  where
    by_value : (o : Option Value) → s.registers r ≡ o → is_some (s.registers r) ≡ true → (v : Value) × (s.registers r ≡ Some v)
    by_value None e some = absurd (let wrong : false ≡ true = sym (ap is_some e) ∙ some in cc)
    by_value (Some v) e some = (v, e)

pub truth_there : (m : Module) (s : State) (o : Operand) → Passes m → IsTyped m s → IsReadable m s (o, true) → (b : Bool) × (truth_in s o ≡ Some b)
truth_there m s (Register r) passes types readable = by_value (register_there s r readable.there)
  where
    by_value : (v : Value) × (s.registers r ≡ Some v) → (b : Bool) × (truth_in s (Register r) ≡ Some b)
    by_value (Word z, is) = absurd (one_type_each m r passes readable.type (types.typed r (Word z) is))
    by_value (Holds b, is) = (b, ap truth_of is)
truth_there m s (Fixed (pos zero)) passes types readable = (false, refl)
truth_there m s (Fixed (pos (suc zero))) passes types readable = (true, refl)
truth_there m s (Fixed (pos (suc (suc n)))) passes types readable = absurd (let few : suc (suc n) < 2 = ltb-true (suc (suc n)) 2 readable.type in omega arith)
truth_there m s (Fixed (negsuc n)) passes types readable = absurd (let wrong : false ≡ true = readable.type in cc)

pub word_there : (m : Module) (s : State) (o : Operand) → Passes m → IsTyped m s → IsReadable m s (o, false) → (z : ℤ) × (word_in s o ≡ Some z)
word_there m s (Register r) passes types readable = by_value (register_there s r readable.there)
  where
    by_value : (v : Value) × (s.registers r ≡ Some v) → (z : ℤ) × (word_in s (Register r) ≡ Some z)
    by_value (Word z, is) = (z, ap word_of is)
    by_value (Holds b, is) = absurd (one_type_each m r passes (types.typed r (Holds b) is) readable.type)
word_there m s (Fixed z) passes types readable = (z, refl)

-- a value of the type that the flag says
pub record IsValue (value : Option Value) (truth : Bool) : Type 0 where
  pub v : Value
  pub is : value ≡ Some v
  pub type : is_truth v ≡ truth

pub value_there : (m : Module) (s : State) (truth : Bool) (o : Operand) → Passes m → IsTyped m s → IsReadable m s (o, truth) → IsValue (value_in s truth o) truth
value_there m s true o passes types readable = let found = truth_there m s o passes types readable in record { v = Holds found.0; is = ap as_truth found.1; type = refl }
value_there m s false o passes types readable = let found = word_there m s o passes types readable in record { v = Word found.0; is = ap as_word found.1; type = refl }

-- ---- the values of instructions

divisor_there : (s : State) (right : Operand) (most : ℕ) (y : ℤ) → is_fixed_between 1 most right ≡ true → word_in s right ≡ Some y → (n : ℕ) × (y ≡ pos (suc n))
divisor_there s (Register r) most y fits is = absurd (let wrong : false ≡ true = fits in cc)
divisor_there s (Fixed (pos zero)) most y fits is = absurd (let least : 1 ≤ 0 = leb-true 1 0 (and_left (nat_le 1 0) (nat_le 0 most) fits) in omega arith)
divisor_there s (Fixed (pos (suc n))) most y fits is = (n, let same : pos (suc n) ≡ y = cc in sym same)
divisor_there s (Fixed (negsuc n)) most y fits is = absurd (let wrong : false ≡ true = fits in cc)

amount_there : (s : State) (right : Operand) (y : ℤ) → is_fixed_between 0 63 right ≡ true → word_in s right ≡ Some y → (n : ℕ) × (y ≡ pos n) × (nat_lt n 64 ≡ true)
amount_there s (Register r) y fits is = absurd (let wrong : false ≡ true = fits in cc)
amount_there s (Fixed (pos n)) y fits is =
    let few : n ≤ 63 = leb-true n 63 (and_right (nat_le 0 n) (nat_le n 63) fits) in
    (n, (let same : pos n ≡ y = cc in sym same), lt-ltb n 64 (omega arith))
amount_there s (Fixed (negsuc n)) y fits is = absurd (let wrong : false ≡ true = fits in cc)

-- what constants an instruction asks for
abbrev pub divisor_fits : Opcode → Operand → Bool
divisor_fits op right = if divides op then is_fixed_between 1 0x7fff_ffff_ffff_ffff right else true

abbrev pub amount_fits : Opcode → Operand → Bool
amount_fits op right = if shifts op then is_fixed_between 0 63 right else true

word_value : (op : Opcode) (s : State) (right : Operand) (x y : ℤ) → word_in s right ≡ Some y → divisor_fits op right ≡ true → amount_fits op right ≡ true → IsValue (on_words op x y) (compares op)
word_value Add s right x y is d a = record { v = _; is = refl; type = refl }
word_value Sub s right x y is d a = record { v = _; is = refl; type = refl }
word_value Mul s right x y is d a = record { v = _; is = refl; type = refl }
word_value Sdiv s right x y is d a = let n = divisor_there s right _ y d is in record { v = _; is = ap (on_words Sdiv x) n.1; type = refl }
word_value Srem s right x y is d a = let n = divisor_there s right _ y d is in record { v = _; is = ap (on_words Srem x) n.1; type = refl }
word_value Udiv s right x y is d a = let n = divisor_there s right _ y d is in record { v = _; is = ap (on_words Udiv x) n.1; type = refl }
word_value Urem s right x y is d a = let n = divisor_there s right _ y d is in record { v = _; is = ap (on_words Urem x) n.1; type = refl }
word_value Shl s right x y is d a = let n = amount_there s right y a is in record { v = Word (int_shl w64 x n.0); is = ap (on_words Shl x) n.1 ∙ ap (λ (b : Bool). if b then Some (Word (int_shl w64 x n.0)) else None) n.2; type = refl }
word_value Lshr s right x y is d a = let n = amount_there s right y a is in record { v = unsigned_word (cast_unsigned w64 x / 2 ^ n.0); is = ap (on_words Lshr x) n.1 ∙ ap (λ (b : Bool). if b then Some (unsigned_word (cast_unsigned w64 x / 2 ^ n.0)) else None) n.2; type = refl }
word_value Ashr s right x y is d a = let n = amount_there s right y a is in record { v = Word (int_shr x n.0); is = ap (on_words Ashr x) n.1 ∙ ap (λ (b : Bool). if b then Some (Word (int_shr x n.0)) else None) n.2; type = refl }
word_value And s right x y is d a = record { v = _; is = refl; type = refl }
word_value Or s right x y is d a = record { v = _; is = refl; type = refl }
word_value Xor s right x y is d a = record { v = _; is = refl; type = refl }
word_value Eq s right x y is d a = record { v = _; is = refl; type = refl }
word_value Ne s right x y is d a = record { v = _; is = refl; type = refl }
word_value Slt s right x y is d a = record { v = _; is = refl; type = refl }
word_value Sle s right x y is d a = record { v = _; is = refl; type = refl }
word_value Sgt s right x y is d a = record { v = _; is = refl; type = refl }
word_value Sge s right x y is d a = record { v = _; is = refl; type = refl }
word_value Ult s right x y is d a = record { v = _; is = refl; type = refl }
word_value Ule s right x y is d a = record { v = _; is = refl; type = refl }
word_value Ugt s right x y is d a = record { v = _; is = refl; type = refl }
word_value Uge s right x y is d a = record { v = _; is = refl; type = refl }

truth_value : (op : Opcode) (a b : Bool) → IsTruthOpcode true op → IsValue (on_truths op a b) true
truth_value And a b is = record { v = _; is = refl; type = refl }
truth_value Or a b is = record { v = _; is = refl; type = refl }
truth_value Xor a b is = record { v = _; is = refl; type = refl }
truth_value Add a b is = absurd is
truth_value Sub a b is = absurd is
truth_value Mul a b is = absurd is
truth_value Sdiv a b is = absurd is
truth_value Srem a b is = absurd is
truth_value Udiv a b is = absurd is
truth_value Urem a b is = absurd is
truth_value Shl a b is = absurd is
truth_value Lshr a b is = absurd is
truth_value Ashr a b is = absurd is
truth_value Eq a b is = absurd is
truth_value Ne a b is = absurd is
truth_value Slt a b is = absurd is
truth_value Sle a b is = absurd is
truth_value Sgt a b is = absurd is
truth_value Sge a b is = absurd is
truth_value Ult a b is = absurd is
truth_value Ule a b is = absurd is
truth_value Ugt a b is = absurd is
truth_value Uge a b is = absurd is

along : (value other : Option Value) (truth : Bool) → value ≡ other → IsValue other truth → IsValue value truth
along value other truth same found = record { v = found.v; is = same ∙ found.is; type = found.type }

pub op_there : (m : Module) (s : State) (op : Opcode) (truth : Bool) (left right : Operand) → Passes m → IsTyped m s → IsTruthOpcode truth op → divisor_fits op right ≡ true → amount_fits op right ≡ true
    → IsReadable m s (left, truth) → IsReadable m s (right, truth) → IsValue (op_value s op truth left right) (truth || compares op)
op_there m s op true left right passes types opcode d a l r =
    let x = truth_there m s left passes types l in
    let y = truth_there m s right passes types r in
    along _ (on_truths op x.0 y.0) true (ap (λ o. with_both o (truth_in s right) (on_truths op)) x.1 ∙ ap (λ o. with_both (Some x.0) o (on_truths op)) y.1) (truth_value op x.0 y.0 opcode)
op_there m s op false left right passes types opcode d a l r =
    let x = word_there m s left passes types l in
    let y = word_there m s right passes types r in
    along _ (on_words op x.0 y.0) (compares op) (ap (λ o. with_both o (word_in s right) (on_words op)) x.1 ∙ ap (λ o. with_both (Some x.0) o (on_words op)) y.1) (word_value op s right x.0 y.0 y.1 d a)

pub extended_there : (m : Module) (s : State) (from : Operand) → Passes m → IsTyped m s → IsReadable m s (from, true) → IsValue (extended (truth_in s from)) false
extended_there m s from passes types readable = let x = truth_there m s from passes types readable in record { v = _; is = ap extended x.1; type = refl }

pub truncated_there : (m : Module) (s : State) (from : Operand) → Passes m → IsTyped m s → IsReadable m s (from, false) → IsValue (truncated (word_in s from)) true
truncated_there m s from passes types readable = let x = word_there m s from passes types readable in record { v = _; is = ap truncated x.1; type = refl }

chosen_type : (test truth : Bool) (x y : Value) → is_truth x ≡ truth → is_truth y ≡ truth → is_truth (if test then x else y) ≡ truth
chosen_type true truth x y a b = a
chosen_type false truth x y a b = b

pub selected_there : (m : Module) (s : State) (truth : Bool) (test chosen other : Operand) → Passes m → IsTyped m s → IsReadable m s (test, true) → IsReadable m s (chosen, truth) → IsReadable m s (other, truth)
    → IsValue (selected (truth_in s test) (value_in s truth chosen) (value_in s truth other)) truth
selected_there m s truth test chosen other passes types t c o =
    let b = truth_there m s test passes types t in
    let x = value_there m s truth chosen passes types c in
    let y = value_there m s truth other passes types o in
    record {
      v = if b.0 then x.v else y.v;
      is = ap (λ q. selected q (value_in s truth chosen) (value_in s truth other)) b.1 ∙ ap (λ q. selected (Some b.0) q (value_in s truth other)) x.is ∙ ap (λ q. selected (Some b.0) (Some x.v) q) y.is;
      type = chosen_type b.0 truth x.v y.v x.type y.type;
    }
