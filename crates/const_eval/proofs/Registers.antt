-- Registers of bits as constants.
use Rattle.std.proofs.Common.{◌≡◌, ℕ, true, not, Result, Err, IfOk, map, reverse, Ok, Some, sym, ap, subst}
use Rattle.qq_base.specs.declared.refusal.Span.{Span}
use Rattle.qasm_ast.specs.declared.expr.UnaryOp.TheVariants.{Complement}
use Rattle.qasm_types.specs.declared.ty.Ty.TheVariants as t
use Rattle.qasm_types.specs.Values.{Register, apply_unary, cast}
use Rattle.const_eval.specs.declared.constant.Const.{Const}
use Rattle.const_eval.specs.declared.constant.Const.TheVariants as c
use Rattle.const_eval.specs.declared.constant.BitRegister.{BitRegister}
use Rattle.qasm_types.specs.Plans.{casts}
use Rattle.const_eval.specs.Constant.{whole_in}
use Rattle.const_eval.specs.Results.{constant_in_range}
use Rattle.const_eval.specs.Seen.{constant_of}
use Rattle.const_eval.proofs.BitNumbers.{bits_of-same, complement_of_text, length-turned}

pub complement_of_register : (k : Const) (b r : BitRegister) (place : Span) → k ≡ c.Bits b → r.text ≡ map not b.text
    → constant_in_range place (constant_of k).type (apply_unary Complement (constant_of k).type (constant_of k).value) ≡ Ok (constant_of (c.Bits r))
complement_of_register k b r place same e =
    let P : Const → Type 0 = λ x. constant_in_range place (constant_of x).type (apply_unary Complement (constant_of x).type (constant_of x).value) ≡ Ok (constant_of (c.Bits r)) in
    subst P (sym same) (λ i. Ok (record { type = t.Bits (length-turned b.text r.text e i); value = Register (complement_of_text b.text r.text e i) }))

pub copied_register : {E : Type 0} (k : Const) (b : BitRegister) (w : ℕ) (r : Result BitRegister E) → k ≡ c.Bits b → casts (constant_of k).type (whole_in (constant_of k)) (t.Bits w) ≡ true
    → IfOk r (λ copy. copy.text ≡ b.text) → IfOk r (λ bits. cast (constant_of k).type (constant_of k).value (t.Bits w) ≡ Some (Register (reverse bits.text)))
copied_register k b w (Ok x) same row e =
    let P : Const → Type 0 = λ y. casts (constant_of y).type (whole_in (constant_of y)) (t.Bits w) ≡ true → cast (constant_of y).type (constant_of y).value (t.Bits w) ≡ Some (Register (reverse x.text)) in
    subst P (sym same) (λ h. ap (λ xs. Some (Register xs)) (bits_of-same b.text x.text w e h)) row
copied_register k b w (Err x) same row e = tt
