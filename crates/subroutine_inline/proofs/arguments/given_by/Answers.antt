use Rattle.std.proofs.Common.{ℕ, ◌<◌, List, length, get_or, Result, ap, sym, subst, ◌∙◌, arith}
use Rattle.std.proofs.lemmas.Result.{err_from_is_err_and}
use Rattle.qq_base.specs.declared.rule.Rule.{Rule}
use Rattle.qq_base.specs.declared.run.QubitId.{QubitId}
use Rattle.qasm_ast.specs.Tree.{Called}
use Rattle.alias_resolve.specs.Places.{Selected}
use Rattle.const_eval.specs.Answers.{Fails}
use Rattle.const_eval.specs.Meaning.{Meaning, meaning_in}
use Rattle.gate_arguments.specs.Environment.{operand_in}
use Rattle.subroutine_inline.specs.Seen.{given_seen}
use Rattle.subroutine_inline.proofs.Giving.{given_fails, given_step}
use Rattle.subroutine_inline.proofs.arguments.given_by.Goals as goal

pub loop-k-preserved : goal.loop-k-preserved
loop-k-preserved g c =
    let p = c.args.program.now in
    let means : List ℕ → Meaning = meaning_in p (g.E.Constants.names c.args.env.now) in
    let registers : Called → Result (Selected QubitId) Rule = operand_in p (g.E.GateEnv.operands c.args.env.now) in
    let all = c.deref-id-items.result.now in
    let same = c.deref-id-items.ensures.value ∙ c.ids.view_is in
    let count = ap length same in
    let k = c.loop-k.k in
    let within : k < length all = omega arith in
    let read = c.index.ensures ∙ ap (λ ps. get_or ps k c.index.result.now) c.params.view_is in
    let step = given_step p means registers c.args.params.now c.args.ids.now c.args.taken.now k c.index.result.now _ _ (omega (arith, count, c.requires.params)) (omega (arith, count)) (omega (arith, count, c.requires.taken))
    (given_seen c.loop-k.given) (given_seen c.give.new.given) all same c.index.result.now read c.in_ok-give.ensures.answer in
    record {
      due = c.loop-k.invariant.due ∙ step.0;
      cost = omega (arith, step.1, c.in_ok-give.ensures.cost, c.loop-k.invariant.cost);
      classical = c.in_ok-give.ensures.classical c.loop-k.invariant.classical;
      qubits = c.in_ok-give.ensures.qubits c.loop-k.invariant.qubits;
    }

pub returns-in_err-give-clause-answer : goal.returns-in_err-give-clause-answer
returns-in_err-give-clause-answer g c =
    let q = err_from_is_err_and c.from_residual.result c.from_residual.ensures.1 in
    let p = c.args.program.now in
    let means : List ℕ → Meaning = meaning_in p (g.E.Constants.names c.args.env.now) in
    let registers : Called → Result (Selected QubitId) Rule = operand_in p (g.E.GateEnv.operands c.args.env.now) in
    let all = c.deref-id-items.result.now in
    let same = c.deref-id-items.ensures.value ∙ c.ids.view_is in
    let count = ap length same in
    let k = c.loop-k.k in
    let within : k < length all = omega arith in
    let read = c.index.ensures ∙ ap (λ ps. get_or ps k c.index.result.now) c.params.view_is in
    let fails = given_fails p means registers c.args.params.now c.args.ids.now c.args.taken.now k c.index.result.now _ _ (omega (arith, count, c.requires.params)) (omega (arith, count)) (omega (arith, count, c.requires.taken))
    (given_seen c.loop-k.given) (given_seen c.loop-k.given) all same c.index.result.now read c.in_err-give.field-0.0 c.in_err-give.ensures.answer in
    rw (q.1, q.2) (subst (λ r. Fails c.in_err-give.field-0.0 r) (sym c.loop-k.invariant.due) fails)
