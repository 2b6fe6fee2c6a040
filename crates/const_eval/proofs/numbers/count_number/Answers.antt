use Rattle.std.proofs.Common.{◌∙◌, sym}
use Rattle.std.specs.Int.{w128}
use Rattle.std.specs.Option.{option_and_then}
use Rattle.std.proofs.lemmas.Int.{to_z-of_z}
use Rattle.qasm_types.specs.declared.ty.Ty.TheVariants as t
use Rattle.qasm_types.specs.Values.{reduced_to, result_on_numbers}
use Rattle.const_eval.proofs.numbers.count_number.Goals as goal

pub returns-in-None-clause-value : goal.returns-in-None-clause-value
returns-in-None-clause-value c =
    let same_x = to_z-of_z w128 c.args.x c.ranges.x in
    let same_y = to_z-of_z w128 c.args.y c.ranges.y in
    (λ i. option_and_then (reduced_to (t.Angle c.args.width)) (result_on_numbers c.args.op (sym same_x i) (sym same_y i))) ∙ c.in-None.ensures c.args.width c.requires.width
