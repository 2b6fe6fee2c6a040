use Rattle.std.proofs.Common.{pos, refl}
use Rattle.const_eval.specs.Meaning.{meaning_in}
use Rattle.gate_arguments.specs.Environment.{declarations_in}
use Rattle.gate_arguments.specs.Seen.{scope_names, scope_seen}
use Rattle.subroutine_inline.proofs.Naming.{means_answer}
use Rattle.subroutine_inline.proofs.called.definition_scope.Goals as goal

pub returns-clause-answer : goal.returns-clause-answer
returns-clause-answer g c =
    let p = c.args.program.now in
    let answer = rw c.new.ensures.items at (c.body_scope.ensures.answer (λ k. pos 0)) in
    means_answer (λ s. s.env) c.args.env
    (λ s. scope_seen p (λ k. pos 0) (g.E.Constants.names c.args.env.now) (g.E.GateEnv.callables c.args.env.now) (g.E.GateEnv.operands c.args.env.now) (g.E.GateEnv.inside c.args.env.now) s.body)
    (λ r s. meaning_in p (scope_names (g.E.Constants.names r.now) (g.E.GateEnv.inside r.now) s.body)) (λ s. refl)
    (declarations_in p (g.E.GateEnv.inside c.args.env.now)) _ c.args.def c.body_scope.result c.body_scope.ensures.env answer
