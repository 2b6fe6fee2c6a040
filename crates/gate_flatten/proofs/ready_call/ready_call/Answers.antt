use Rattle.std.proofs.Common.{◌≡◌, ◌+◌, ◌-◌, suc, length, arith, ◌∙◌, sym}
use Rattle.gate_flatten.proofs.Calling.{fails_at_modifiers, fails_at_gate, too_deep, fails_at_ready, fails_at_operands, fails_at_times, goes_on, paid_less}
use Rattle.gate_flatten.proofs.Preparing.{err_exit, qubits_fit, times_fail, times_known}
use Rattle.gate_flatten.proofs.Stepping.{ready_count}
use Rattle.gate_flatten.specs.Expand.{qubit_count}
use Rattle.gate_lists.specs.Modifiers.{control_count}
use Rattle.gate_flatten.specs.Served.{count_of, ready_seen}
use Rattle.gate_flatten.proofs.ready_call.ready_call.Goals as goal

pub returns-in_err-modifiers-clause-fails : goal.returns-in_err-modifiers-clause-fails
returns-in_err-modifiers-clause-fails g c = err_exit _ _ _ c.from_residual.ensures.1 (λ worths. fails_at_modifiers _ _ _ _ _ _ _ c.in_err-modifiers.ensures)

pub returns-in_err-gate-clause-fails : goal.returns-in_err-gate-clause-fails
returns-in_err-gate-clause-fails g c = err_exit _ _ _ c.from_residual-in_err-gate.ensures.1 (λ worths. fails_at_gate _ _ _ _ _ _ _ c.in_ok-modifiers.ensures _ _ c.in_err-gate.ensures.answer)

pub returns-then-levels-eq0-clause-fails : goal.returns-then-levels-eq0-clause-fails
returns-then-levels-eq0-clause-fails g c = λ worths. rw (c.refused.ensures, c.if-levels-eq0.true) (too_deep _ _ _ _ _ _ _ c.in_ok-modifiers.ensures _ c.in_ok-gate.ensures.answer)

pub returns-in_err-ready-clause-fails : goal.returns-in_err-ready-clause-fails
returns-in_err-ready-clause-fails g c =
    let more : c.args.levels ≡ suc (c.args.levels - 1) = omega arith in
    err_exit _ _ _ c.from_residual-in_err-ready.ensures.1 (λ worths. rw more (fails_at_ready _ _ _ _ _ _ _ c.in_ok-modifiers.ensures _ c.in_ok-gate.ensures.answer _ _ (c.in_err-ready.ensures.answer worths)))

pub returns-in_err-operands-clause-fails : goal.returns-in_err-operands-clause-fails
returns-in_err-operands-clause-fails g c =
    let more : c.args.levels ≡ suc (c.args.levels - 1) = omega arith in
    err_exit _ _ _ c.from_residual-in_err-operands.ensures.1 (λ worths. rw more (fails_at_operands _ _ _ _ _ _ _ c.in_ok-modifiers.ensures _ c.in_ok-gate.ensures.answer _ _ (c.in_ok-ready.ensures.answer worths) _ c.in_err-operands.ensures.answer))

pub returns-in_err-times-clause-fails : goal.returns-in_err-times-clause-fails
returns-in_err-times-clause-fails g c =
    let more : c.args.levels ≡ suc (c.args.levels - 1) = omega arith in
    err_exit _ _ _ c.from_residual-in_err-times.ensures.1 (λ worths.
    let own : c.qubit_count.result ≡ qubit_count (ready_seen c.args.around.now.program.now worths c.in_ok-ready.ready) = c.qubit_count.ensures ∙ sym (ready_count c.args.around.now.program.now worths c.in_ok-ready.ready) in
    rw more (fails_at_times _ _ _ _ _ _ _ c.in_ok-modifiers.ensures _ c.in_ok-gate.ensures.answer _ _ (c.in_ok-ready.ensures.answer worths) _ _ c.in_ok-operands.ensures.answer _
    (times_fail _ _ own _ _ _ _ _ (rw (c.deref.ensures.value, c.deref-2.ensures.value) at c.in_err-times.ensures.answer))))

pub returns-clause-goes_on : goal.returns-clause-goes_on
returns-clause-goes_on g c =
    let more : c.args.levels ≡ suc (c.args.levels - 1) = omega arith in
    λ worths.
    let own : c.qubit_count.result ≡ qubit_count (ready_seen c.args.around.now.program.now worths c.in_ok-ready.ready) = c.qubit_count.ensures ∙ sym (ready_count c.args.around.now.program.now worths c.in_ok-ready.ready) in
    goes_on _ _ _ _ _ _ _ c.in_ok-modifiers.ensures _ c.in_ok-gate.ensures.answer _ _ (c.in_ok-ready.ensures.answer worths) _ _ c.in_ok-operands.ensures.answer _ _ more
    (times_known _ _ own _ _ _ _ _ (rw (c.deref.ensures.value, c.deref-2.ensures.value) at c.in_ok-times.ensures.answer))

pub returns-clause-fits : goal.returns-clause-fits
returns-clause-fits g c =
    let known = rw (c.deref.ensures.value, c.deref-2.ensures.value) at c.in_ok-times.ensures.count in
    let times = rw (c.deref.ensures.value, c.deref-2.ensures.value) at c.in_ok-times.ensures.answer in
    let count : length c.in_ok-operands.operands.items ≡ control_count c.in_ok-modifiers.modifiers.items + count_of c.in_ok-ready.ready = omega (arith, known, c.qubit_count.ensures) in
    λ turns fit. record {
      ready = c.in_ok-ready.ensures.fits turns fit;
      qubits = qubits_fit _ _ _ _ _ c.in_ok-operands.ensures.ones count times;
    }

pub returns-clause-paid : goal.returns-clause-paid
returns-clause-paid g c =
    let first = paid_less _ _ _ _ c.in_ok-modifiers.ensures in
    let second = paid_less _ _ _ _ c.in_ok-operands.ensures.answer in
    omega (arith, first, second)
