use Rattle.std.proofs.Common.{◌≡◌, ◌∙◌, ◌-◌, ◌/◌, ◌*ℤ◌, None, Some, sym, ap, arith}
use Rattle.std.specs.Int.{w128}
use Rattle.std.proofs.lemmas.Int.{to_z-of_z, fits_signed_from_abs}
use Rattle.qasm_types.specs.Values.{power}
use Rattle.const_eval.specs.Numbered.{in_range}
use Rattle.const_eval.proofs.Powers.{in_range-some, power-even_none, power-even_some, power-odd_none, power-odd_some}
use Rattle.const_eval.proofs.whole.+power.Goals as goal

pub returns-in_err-product : goal.returns-in_err-product
returns-in_err-product t c =
    let x = c.args.base in
    let e = to_z-of_z w128 x c.ranges.base in
    let none : in_range (x *ℤ x) ≡ None = sym (c.product.ensures ∙ (λ i. in_range (e i *ℤ e i))) ∙ c.in_err-product.was in
    c.from_residual.ensures ∙ sym (power-even_none x c.args.exponent (omega arith) c.if-exponent-eq0.false none)

pub returns-in_err-power : goal.returns-in_err-power
returns-in_err-power t c =
    let x = c.args.base in
    let n = c.args.exponent in
    let e = to_z-of_z w128 x c.ranges.base in
    let none : in_range (power x (n - 1)) ≡ None = sym (c.power-else-exponent-eq0-2.ensures ∙ ap (λ z. in_range (power z (n - 1))) e) ∙ c.in_err-power.was in
    c.from_residual-in_err-power.ensures ∙ sym (power-odd_none x n c.if-exponent-eq0.false none)

pub returns-in_ok-product : goal.returns-in_ok-product
returns-in_ok-product t c =
    let x = c.args.base in
    let n = c.args.exponent in
    let s = c.in_ok-product.field-0 in
    let e = to_z-of_z w128 x c.ranges.base in
    let some : in_range (x *ℤ x) ≡ Some s = sym (c.product.ensures ∙ (λ i. in_range (e i *ℤ e i))) ∙ c.in_ok-product.was in
    let facts = in_range-some (x *ℤ x) s some in
    let d = to_z-of_z w128 s (fits_signed_from_abs w128 s (omega (arith, facts.1))) in
    c.power.ensures ∙ ap (λ z. in_range (power z (n / 2))) d ∙ ap in_range (power-even_some x s n (omega arith) facts.0)

pub returns-in_ok-power : goal.returns-in_ok-power
returns-in_ok-power t c =
    let x = c.args.base in
    let n = c.args.exponent in
    let s = c.in_ok-power.field-0 in
    let e = to_z-of_z w128 x c.ranges.base in
    let some : in_range (power x (n - 1)) ≡ Some s = sym (c.power-else-exponent-eq0-2.ensures ∙ ap (λ z. in_range (power z (n - 1))) e) ∙ c.in_ok-power.was in
    let facts = in_range-some (power x (n - 1)) s some in
    let d = to_z-of_z w128 s (fits_signed_from_abs w128 s (omega (arith, facts.1))) in
    c.product-else-exponent-eq0-2.ensures ∙ (λ i. in_range (e i *ℤ d i)) ∙ ap in_range (power-odd_some x s n c.if-exponent-eq0.false facts.0)
