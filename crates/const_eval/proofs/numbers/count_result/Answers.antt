use Rattle.std.proofs.Common.{◌≡◌, ◌∙◌, pos, false, true, sym, ap}
use Rattle.std.specs.Int.{w128}
use Rattle.std.specs.Int.RustNames.{int_le, int_lt}
use Rattle.std.proofs.lemmas.Int.{to_z-of_z}
use Rattle.qasm_types.specs.Operators.{group_of}
use Rattle.const_eval.proofs.NumberRows.{far_amount, shifted_out_of_angle}
use Rattle.const_eval.proofs.numbers.count_result.Goals as goal

pub returns-in-ShiftLeft-2 : goal.returns-in-ShiftLeft-2
returns-in-ShiftLeft-2 c = λ n l.
    let y = c.args.y in
    let same = to_z-of_z w128 y c.ranges.y in
    let below : int_lt y (pos 0) ≡ false = ap (λ z. int_lt z (pos 0)) (sym same) ∙ c.if-y-lt0.false in
    let far : int_le (pos 32) y ≡ true = ap (λ z. int_le (pos 32) z) (sym same) ∙ c.if-y-ge32.true in
    shifted_out_of_angle c.args.op c.args.x y n c.in-ShiftLeft-2.is below (far_amount y far) (c.requires.shifted (ap group_of c.in-ShiftLeft-2.is)).0 l
