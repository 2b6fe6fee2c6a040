use Rattle.std.proofs.Common.{◌∙◌, ap, ap₂}
use Rattle.std.specs.Option.{option_map, option_or}
use Rattle.qasm_types.specs.OpPlan.{types_of}
use Rattle.qasm_types.proofs.Choices.{option_map-or}
use Rattle.qasm_types.proofs.plan.bitwise_plan.Goals as goal

pub returns : goal.returns
returns c =
    let rest = ap (option_map types_of) c.or.ensures ∙ option_map-or types_of c.bits_plan.result c.truth_with_word.result ∙ ap₂ option_or c.bits_plan.ensures c.truth_with_word.ensures in
    ap (option_map types_of) c.or-2.ensures ∙ option_map-or types_of c.rest_plan.result c.or.result ∙ ap₂ option_or c.rest_plan.ensures rest
