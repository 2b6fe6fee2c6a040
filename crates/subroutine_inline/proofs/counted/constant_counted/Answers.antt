use Rattle.qasm_ast.specs.View.{tree_in}
use Rattle.const_eval.specs.ConstantWalk.{constant_walk}
use Rattle.const_eval.specs.Meaning.{meaning_in}
use Rattle.const_eval.specs.Seen.{constant_of}
use Rattle.std.proofs.Common.{false}
use Rattle.subroutine_inline.proofs.Counting.{constant_passed, paid_answer}
use Rattle.subroutine_inline.proofs.counted.constant_counted.Goals as goal

pub returns-in-Ok-clause-answer : goal.returns-in-Ok-clause-answer
returns-in-Ok-clause-answer g c =
    (paid_answer (record { left = c.args.left.now; place = c.expr.result.now.at }) (constant_walk (meaning_in c.args.program.now (g.S.Constants.names c.args.scope.now)) false (tree_in c.args.program.now c.args.id.0))
    (constant_of c.in-Ok.value) c.constant_at.new.budget c.in-Ok.ensures).0

pub returns-in-Ok-clause-cost : goal.returns-in-Ok-clause-cost
returns-in-Ok-clause-cost g c =
    (paid_answer (record { left = c.args.left.now; place = c.expr.result.now.at }) (constant_walk (meaning_in c.args.program.now (g.S.Constants.names c.args.scope.now)) false (tree_in c.args.program.now c.args.id.0))
    (constant_of c.in-Ok.value) c.constant_at.new.budget c.in-Ok.ensures).1

pub returns-in-Err-Refused-clause-cost : goal.returns-in-Err-Refused-clause-cost
returns-in-Err-Refused-clause-cost g c =
    let stopped = rw c.in-Err-Refused.field-0-is at c.in-Err-Refused.ensures in
    constant_passed (meaning_in c.args.program.now (g.S.Constants.names c.args.scope.now)) (tree_in c.args.program.now c.args.id.0) (record { left = c.args.left.now; place = c.expr.result.now.at })
    _ c.const_value.result stopped c.const_value.ensures
