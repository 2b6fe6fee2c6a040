use Rattle.std.proofs.Common.{rules, arith}
use Rattle.lower_cases.proofs.Bounds.{weight_light}
use Rattle.lower_cases.proofs.limits.is_light.Goals as goal

pub returns : goal.returns
returns c =
    λ light. weight_light c.args.core.now c.in_ok-assigned.field-0.items c.deref.result.now c.len-opened.result c.working-working.result c.len-outputs.result (search rules) (search rules) (search rules) (search rules) (omega arith)
    c.in_ok-assigned.ensures.exact (c.is_enough.ensures light)
