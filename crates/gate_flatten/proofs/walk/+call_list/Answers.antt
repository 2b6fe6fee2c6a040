use Rattle.std.proofs.Common.{◌≡◌, ◌<◌, ◌≤◌, ◌-◌, ℕ, ℤ, pos, List, length, map, ap, arith, ◌∙◌, refl, rules}
use Rattle.std.proofs.Common.{Result}
use Rattle.qq_base.specs.declared.rule.Rule.{Rule}
use Rattle.qq_base.specs.declared.run.QubitId.{QubitId}
use Rattle.qasm_ast.specs.declared.expr.OperandName.{OperandName}
use Rattle.qasm_ast.specs.Whole.{Source}
use Rattle.alias_resolve.specs.Places.{Selected}
use Rattle.const_eval.specs.declared.environment.Callable.{Callable}
use Rattle.const_eval.specs.Meaning.{Meaning}
use Rattle.const_eval.specs.Seen.{MeaningInside}
use Rattle.gate_arguments.specs.Environment.{declarations_in}
use Rattle.gate_arguments.specs.Seen.{open_in, scope_seen}
use Rattle.gate_flatten.specs.Expand as spec
use Rattle.gate_flatten.specs.Expand.{applied}
use Rattle.gate_flatten.specs.Served.{count_of, member_by, placed_seen, ready_seen}
use Rattle.gate_lists.specs.Modifiers.{control_count}
use Rattle.gate_flatten.proofs.Bodies.{all_statements, all_applications}
use Rattle.gate_lists.specs.Turns.{worth_at}
use Rattle.gate_lists.specs.Worths.{worth_at-AreWorths}
use Rattle.gate_flatten.proofs.Calling.{asked_then, asked_fails, paid_less}
use Rattle.gate_flatten.proofs.Counting.{arguments_count}
use Rattle.gate_flatten.proofs.Inside.{application_fits, front_count, inside_later, operands_answered, own_count, ready_later}
use Rattle.gate_flatten.proofs.Exits.{answers_from, at_exit}
use Rattle.gate_flatten.proofs.Growing.{worths_before, kept_twice, grows_same, grows_paid, grows_more, grows_on, leaves_exit, leaves_on, leaves_modified}
use Rattle.gate_flatten.proofs.Membering.{arguments_fail, behind_arguments, barrier_fails, barrier_done, other_member}
use Rattle.gate_flatten.proofs.Stepping.{body_goes_on, body_fails, body_unpaid, body_starts, qubits_fail, application_goes_on, application_is_refused, applications_start, list_fails, list_modified, names_are_new, names_fail}
use Rattle.gate_flatten.proofs.walk.+call_list.Goals as goal

-- ---- a call

pub call_list-returns-in_err-made-clause-answer : goal.call_list-returns-in_err-made-clause-answer
call_list-returns-in_err-made-clause-answer g t c = λ given worths are. at_exit _ _ _ _ c.from_residual.ensures.1 (c.in_err-made.ensures.fails worths)

pub call_list-returns-in_err-made-clause-leaves : goal.call_list-returns-in_err-made-clause-leaves
call_list-returns-in_err-made-clause-leaves g t c = leaves_exit _ _ _ _ c.from_residual.ensures.1 (λ k t e. e)

pub call_list-loop-k-init : goal.call_list-loop-k-init
call_list-loop-k-init g t c =
    let p : Source = c.args.around.now.program.now in
    let names : List (ℕ × Meaning) = g.E.Constants.names c.args.scope.now.env.now in
    let callables : List (ℕ × Callable) = g.E.GateEnv.callables c.args.scope.now.env.now in
    let operands : List (OperandName × Result (Selected QubitId) Rule) = g.E.GateEnv.operands c.args.scope.now.env.now in
    let inside : List ((ℕ × ℕ) × MeaningInside) = g.E.GateEnv.inside c.args.scope.now.env.now in
    record {
      due = λ given worths are. rw c.new-list.ensures.items (applications_start (applied (declarations_in p inside) (member_by p names callables operands inside worths (c.args.levels - 1)) (open_in c.args.scope.now.body) (ready_seen p worths c.in_ok-made.made.ready) c.in_ok-made.made.modifiers.items) (map placed_seen c.in_ok-made.made.operands.items) c.in_ok-made.made.times c.ready_call.new.budget);
      leaves = rw c.new-list.ensures.items (grows_same _);
      args = refl;
    }

pub call_list-returns-in_err-qubits-clause-answer : goal.call_list-returns-in_err-qubits-clause-answer
call_list-returns-in_err-qubits-clause-answer g t c = λ given worths are.
    let p : Source = c.args.around.now.program.now in
    let names : List (ℕ × Meaning) = g.E.Constants.names c.args.scope.now.env.now in
    let callables : List (ℕ × Callable) = g.E.GateEnv.callables c.args.scope.now.env.now in
    let operands : List (OperandName × Result (Selected QubitId) Rule) = g.E.GateEnv.operands c.args.scope.now.env.now in
    let inside : List ((ℕ × ℕ) × MeaningInside) = g.E.GateEnv.inside c.args.scope.now.env.now in
    at_exit _ _ _ _ c.from_residual-in_err-qubits.ensures.1 (rw (c.in_ok-made.ensures.goes_on worths)
    (qubits_fail (declarations_in p inside) (member_by p names callables operands inside worths (c.args.levels - 1)) (open_in c.args.scope.now.body) (ready_seen p worths c.in_ok-made.made.ready) c.in_ok-made.made.modifiers.items worths (map placed_seen c.in_ok-made.made.operands.items) c.in_ok-made.made.times _ c.loop-k.list.items c.loop-k.k c.loop-k.work.budget (c.loop-k.invariant.due given worths are) c.loop-k-test.true _ (rw c.deref.ensures.value at c.in_err-qubits.ensures)))

pub call_list-returns-in_err-qubits-clause-leaves : goal.call_list-returns-in_err-qubits-clause-leaves
call_list-returns-in_err-qubits-clause-leaves g t c = leaves_exit _ _ _ _ c.from_residual-in_err-qubits.ensures.1 c.loop-k.invariant.leaves.kept

pub call_list-returns-in_err-more-clause-answer : goal.call_list-returns-in_err-more-clause-answer
call_list-returns-in_err-more-clause-answer g t c = λ given worths are.
    let p : Source = c.args.around.now.program.now in
    let names : List (ℕ × Meaning) = g.E.Constants.names c.args.scope.now.env.now in
    let callables : List (ℕ × Callable) = g.E.GateEnv.callables c.args.scope.now.env.now in
    let operands : List (OperandName × Result (Selected QubitId) Rule) = g.E.GateEnv.operands c.args.scope.now.env.now in
    let inside : List ((ℕ × ℕ) × MeaningInside) = g.E.GateEnv.inside c.args.scope.now.env.now in
    let before = worths_before given worths _ _ c.in_err-more.ensures.leaves.kept are in
    at_exit _ _ _ _ c.from_residual-in_err-more.ensures.1 (rw (c.in_ok-made.ensures.goes_on worths)
    (application_is_refused (declarations_in p inside) (member_by p names callables operands inside worths (c.args.levels - 1)) (open_in c.args.scope.now.body) (ready_seen p worths c.in_ok-made.made.ready) c.in_ok-made.made.modifiers.items worths (map placed_seen c.in_ok-made.made.operands.items) c.in_ok-made.made.times _ c.loop-k.list.items c.loop-k.k c.loop-k.work.budget (c.loop-k.invariant.due given worths before) c.loop-k-test.true c.in_ok-qubits.qubits.items (rw c.deref.ensures.value at c.in_ok-qubits.ensures) _ (rw (c.deref-in-loop-k.ensures.value, c.deref-in-loop-k-2.ensures.value) at (c.in_err-more.ensures.answer given worths are))))

pub call_list-returns-in_err-more-clause-leaves : goal.call_list-returns-in_err-more-clause-leaves
call_list-returns-in_err-more-clause-leaves g t c = leaves_exit _ _ _ _ c.from_residual-in_err-more.ensures.1 (kept_twice _ _ _ c.loop-k.invariant.leaves.kept c.in_err-more.ensures.leaves.kept)

pub call_list-returns-in_err-append-clause-leaves : goal.call_list-returns-in_err-append-clause-leaves
call_list-returns-in_err-append-clause-leaves g t c = leaves_exit _ _ _ _ c.from_residual-in_err-append.ensures.1 (kept_twice _ _ _ c.loop-k.invariant.leaves.kept c.in_ok-more.ensures.leaves.kept)

pub call_list-loop-k-preserved : goal.call_list-loop-k-preserved
call_list-loop-k-preserved g t c =
    let p : Source = c.args.around.now.program.now in
    let names : List (ℕ × Meaning) = g.E.Constants.names c.args.scope.now.env.now in
    let callables : List (ℕ × Callable) = g.E.GateEnv.callables c.args.scope.now.env.now in
    let operands : List (OperandName × Result (Selected QubitId) Rule) = g.E.GateEnv.operands c.args.scope.now.env.now in
    let inside : List ((ℕ × ℕ) × MeaningInside) = g.E.GateEnv.inside c.args.scope.now.env.now in
    rw (c.in_ok-append.ensures, c.deref-in-loop-k-3.ensures.value) (record {
      due = λ given worths are.
          application_goes_on (declarations_in p inside) (member_by p names callables operands inside worths (c.args.levels - 1)) (open_in c.args.scope.now.body) (ready_seen p worths c.in_ok-made.made.ready) c.in_ok-made.made.modifiers.items worths (map placed_seen c.in_ok-made.made.operands.items) c.in_ok-made.made.times _ c.loop-k.list.items c.loop-k.k c.loop-k.work.budget (c.loop-k.invariant.due given worths (worths_before given worths _ _ c.in_ok-more.ensures.leaves.kept are)) c.loop-k-test.true
          c.in_ok-qubits.qubits.items (rw c.deref.ensures.value at c.in_ok-qubits.ensures) c.in_ok-more.more.items _ (rw (c.deref-in-loop-k.ensures.value, c.deref-in-loop-k-2.ensures.value) at (c.in_ok-more.ensures.answer given worths are));
      leaves = grows_more _ _ _ _ _ c.loop-k.invariant.leaves c.in_ok-more.ensures.leaves.grown;
      args = c.in_ok-more.ensures.leaves.args ∙ c.loop-k.invariant.args;
    })

pub call_list-returns-clause-answer : goal.call_list-returns-clause-answer
call_list-returns-clause-answer g t c = λ given worths are.
    let p : Source = c.args.around.now.program.now in
    let names : List (ℕ × Meaning) = g.E.Constants.names c.args.scope.now.env.now in
    let callables : List (ℕ × Callable) = g.E.GateEnv.callables c.args.scope.now.env.now in
    let operands : List (OperandName × Result (Selected QubitId) Rule) = g.E.GateEnv.operands c.args.scope.now.env.now in
    let inside : List ((ℕ × ℕ) × MeaningInside) = g.E.GateEnv.inside c.args.scope.now.env.now in
    let none : c.in_ok-made.made.times - c.loop-k.k ≡ 0 = omega arith in
    c.in_ok-made.ensures.goes_on worths ∙ c.loop-k.invariant.due given worths are ∙ all_applications (applied (declarations_in p inside) (member_by p names callables operands inside worths (c.args.levels - 1)) (open_in c.args.scope.now.body) (ready_seen p worths c.in_ok-made.made.ready) c.in_ok-made.made.modifiers.items) (map placed_seen c.in_ok-made.made.operands.items) _ c.loop-k.k _ c.loop-k.work.budget none

pub call_list-returns-clause-leaves : goal.call_list-returns-clause-leaves
call_list-returns-clause-leaves g t c =
    record {
      kept = c.loop-k.invariant.leaves.kept;
      grown = grows_on _ _ _ _ (grows_paid c.args.work.now c.ready_call.new.budget c.in_ok-made.ensures.paid) c.loop-k.invariant.leaves;
      args = c.loop-k.invariant.args;
    }

pub call_list-ready_call-requires-clause-call : goal.call_list-ready_call-requires-clause-call
call_list-ready_call-requires-clause-call g t c = c.requires.call

pub call_list-ready_call-requires-clause-served : goal.call_list-ready_call-requires-clause-served
call_list-ready_call-requires-clause-served g t c = c.requires.served

pub call_list-ready_call-requires-clause-operands : goal.call_list-ready_call-requires-clause-operands
call_list-ready_call-requires-clause-operands g t c = c.requires.operands

pub call_list-ready_call-requires-clause-count : goal.call_list-ready_call-requires-clause-count
call_list-ready_call-requires-clause-count g t c = c.requires.count

pub call_list-overflow_sub-deeper : goal.call_list-overflow_sub-deeper
call_list-overflow_sub-deeper g t c = omega (arith, c.in_ok-made.ensures.deep)

pub call_list-applied_list-requires : goal.call_list-applied_list-requires
call_list-applied_list-requires g t c =
    let p : Source = c.args.around.now.program.now in
    let names : List (ℕ × Meaning) = g.E.Constants.names c.args.scope.now.env.now in
    let callables : List (ℕ × Callable) = g.E.GateEnv.callables c.args.scope.now.env.now in
    let operands : List (OperandName × Result (Selected QubitId) Rule) = g.E.GateEnv.operands c.args.scope.now.env.now in
    let inside : List ((ℕ × ℕ) × MeaningInside) = g.E.GateEnv.inside c.args.scope.now.env.now in
    let fits = c.in_ok-made.ensures.fits (length c.args.work.now.turns.items.items) c.requires.arguments in
    let qubits = application_fits p (length c.args.work.now.turns.items.items) c.loop-k.k c.in_ok-made.made c.in_ok-qubits.qubits.items fits c.loop-k-test.true (rw c.deref.ensures.value at c.in_ok-qubits.ensures) in
    λ κs within. (first_of (search rules, omega (arith, c.decreases, c.in_ok-made.ensures.deep)), (within, (c.requires.served, (ready_later p _ _ c.in_ok-made.made.ready c.loop-k.invariant.leaves.more fits.ready, rw (c.deref-in-loop-k.ensures.value, c.deref-in-loop-k-2.ensures.value) qubits))))

pub call_list-returns-in_err-append-clause-answer : goal.call_list-returns-in_err-append-clause-answer
call_list-returns-in_err-append-clause-answer g t c = λ given worths are. at_exit _ _ _ _ c.from_residual-in_err-append.ensures.1 tt

-- ---- one application

pub applied_list-returns-in_err-list-clause-answer : goal.applied_list-returns-in_err-list-clause-answer
applied_list-returns-in_err-list-clause-answer g t c = λ given worths are.
    let p : Source = c.args.around.now.program.now in
    let names : List (ℕ × Meaning) = g.E.Constants.names c.args.scope.now.env.now in
    let callables : List (ℕ × Callable) = g.E.GateEnv.callables c.args.scope.now.env.now in
    let operands : List (OperandName × Result (Selected QubitId) Rule) = g.E.GateEnv.operands c.args.scope.now.env.now in
    let inside : List ((ℕ × ℕ) × MeaningInside) = g.E.GateEnv.inside c.args.scope.now.env.now in
    let count : control_count c.args.modifiers.now ≡ length c.args.qubits.now - c.qubit_count.result = omega (arith, c.requires.qubits, c.qubit_count.ensures) in
    at_exit _ _ _ _ c.from_residual.ensures.1
    (list_fails (declarations_in p inside) (member_by p names callables operands inside worths c.args.levels) (open_in c.args.scope.now.body) (ready_seen p worths c.args.ready.now) c.args.modifiers.now c.args.qubits.now c.split_at.result.1.now c.split_at.result.0.now (length c.args.qubits.now - c.qubit_count.result) count c.split_at.ensures.back c.split_at.ensures.front _ _ (c.in_err-list.ensures.answer given worths are))

pub applied_list-returns-in_err-list-clause-leaves : goal.applied_list-returns-in_err-list-clause-leaves
applied_list-returns-in_err-list-clause-leaves g t c = leaves_exit _ _ _ _ c.from_residual.ensures.1 c.in_err-list.ensures.leaves.kept

pub applied_list-returns-clause-answer : goal.applied_list-returns-clause-answer
applied_list-returns-clause-answer g t c = λ given worths are.
    let p : Source = c.args.around.now.program.now in
    let names : List (ℕ × Meaning) = g.E.Constants.names c.args.scope.now.env.now in
    let callables : List (ℕ × Callable) = g.E.GateEnv.callables c.args.scope.now.env.now in
    let operands : List (OperandName × Result (Selected QubitId) Rule) = g.E.GateEnv.operands c.args.scope.now.env.now in
    let inside : List ((ℕ × ℕ) × MeaningInside) = g.E.GateEnv.inside c.args.scope.now.env.now in
    let count : control_count c.args.modifiers.now ≡ length c.args.qubits.now - c.qubit_count.result = omega (arith, c.requires.qubits, c.qubit_count.ensures) in
    list_modified (declarations_in p inside) (member_by p names callables operands inside worths c.args.levels) (open_in c.args.scope.now.body) (ready_seen p worths c.args.ready.now) c.args.modifiers.now c.args.qubits.now c.split_at.result.1.now c.split_at.result.0.now (length c.args.qubits.now - c.qubit_count.result) count c.split_at.ensures.back c.split_at.ensures.front _ _ _ _ _ _
    (c.in_ok-list.ensures.answer given worths are) (c.modified_list.ensures.exact worths)

pub applied_list-returns-clause-leaves : goal.applied_list-returns-clause-leaves
applied_list-returns-clause-leaves g t c = leaves_modified c.args.work.now c.gate_list.new.work c.modified_list.new.budget c.in_ok-list.list.items c.modified_list.result c.in_ok-list.ensures.leaves.grown c.in_ok-list.ensures.leaves.args c.modified_list.ensures.named c.modified_list.ensures.paid

pub applied_list-overflow_sub-qubits : goal.applied_list-overflow_sub-qubits
applied_list-overflow_sub-qubits g t c = omega arith

pub applied_list-split_at-requires : goal.applied_list-split_at-requires
applied_list-split_at-requires g t c = omega arith

pub applied_list-gate_list-requires : goal.applied_list-gate_list-requires
applied_list-gate_list-requires g t c =
    let at : length c.args.qubits.now - c.qubit_count.result ≡ length c.args.qubits.now - count_of c.args.ready.now = omega (arith, c.qubit_count.ensures) in
    λ κs within. (first_of (search rules, omega (arith, c.decreases)), (within, (c.requires.served, (c.requires.ready, own_count c.args.qubits.now c.split_at.result.1.now (length c.args.qubits.now - c.qubit_count.result) (count_of c.args.ready.now) (control_count c.args.modifiers.now) c.requires.qubits at c.split_at.ensures.back))))

pub applied_list-modified_list-requires : goal.applied_list-modified_list-requires
applied_list-modified_list-requires g t c =
    let at : length c.args.qubits.now - c.qubit_count.result ≡ length c.args.qubits.now - count_of c.args.ready.now = omega (arith, c.qubit_count.ensures) in
    front_count c.args.qubits.now c.split_at.result.0.now (length c.args.qubits.now - c.qubit_count.result) (count_of c.args.ready.now) (control_count c.args.modifiers.now) c.requires.qubits at c.split_at.ensures.front

-- ---- the list of a gate

pub gate_list-returns-in-Table-clause-answer : goal.gate_list-returns-in-Table-clause-answer
gate_list-returns-in-Table-clause-answer g t c = λ given worths are. rw c.in-Table.is (rw c.deref.ensures.value at (c.one_instruction.ensures.answer worths))

pub gate_list-returns-in-Table-clause-leaves : goal.gate_list-returns-in-Table-clause-leaves
gate_list-returns-in-Table-clause-leaves g t c = c.one_instruction.ensures.leaves

pub gate_list-returns-in_err-inner-in-Defined-clause-answer : goal.gate_list-returns-in_err-inner-in-Defined-clause-answer
gate_list-returns-in_err-inner-in-Defined-clause-answer g t c = λ given worths are.
    at_exit _ _ _ _ c.from_residual.ensures.1 (rw c.in-Defined.is (asked_fails _ _ _ _ (names_fail _ _ _ (c.in_err-inner-in-Defined.ensures.answer worths))))

pub gate_list-returns-in_err-inner-in-Defined-clause-leaves : goal.gate_list-returns-in_err-inner-in-Defined-clause-leaves
gate_list-returns-in_err-inner-in-Defined-clause-leaves g t c = leaves_exit _ _ _ _ c.from_residual.ensures.1 (λ k t e. e)

pub gate_list-returns-in_ok-inner-in-Defined-clause-leaves : goal.gate_list-returns-in_ok-inner-in-Defined-clause-leaves
gate_list-returns-in_ok-inner-in-Defined-clause-leaves g t c = c.body_list.ensures.leaves

pub gate_list-returns-in_ok-inner-in-Defined-clause-answer : goal.gate_list-returns-in_ok-inner-in-Defined-clause-answer
gate_list-returns-in_ok-inner-in-Defined-clause-answer g t c = λ given worths are.
    let new = names_are_new _ _ _ (c.in_ok-inner-in-Defined.ensures.answer worths) in
    let inner = rw c.in_ok-inner-in-Defined.ensures.env at (c.body_list.ensures.answer given worths are) in
    rw (c.in-Defined.is, asked_then _ _ _ _ new.0, new.1) inner

pub gate_list-one_instruction-requires-clause-of_table : goal.gate_list-one_instruction-requires-clause-of_table
gate_list-one_instruction-requires-clause-of_table g t c = (rw c.in-Table.is at c.requires.ready).0

pub gate_list-one_instruction-requires-clause-count : goal.gate_list-one_instruction-requires-clause-count
gate_list-one_instruction-requires-clause-count g t c = (rw c.in-Table.is at c.requires.qubits) ∙ (rw c.in-Table.is at c.requires.ready).2

pub gate_list-one_instruction-requires-clause-args : goal.gate_list-one_instruction-requires-clause-args
gate_list-one_instruction-requires-clause-args g t c = rw c.deref.ensures.value (rw c.in-Table.is at c.requires.ready).1

pub gate_list-one_instruction-requires-clause-named : goal.gate_list-one_instruction-requires-clause-named
gate_list-one_instruction-requires-clause-named g t c = rw c.deref.ensures.value (rw c.in-Table.is at c.requires.ready).3

pub gate_list-body_scope-requires-clause-inside : goal.gate_list-body_scope-requires-clause-inside
gate_list-body_scope-requires-clause-inside g t c = c.requires.served.has_inside

pub gate_list-body_scope-requires-clause-definition : goal.gate_list-body_scope-requires-clause-definition
gate_list-body_scope-requires-clause-definition g t c = (rw c.in-Defined.is at c.requires.ready).0.definition

pub gate_list-body_scope-requires-clause-params : goal.gate_list-body_scope-requires-clause-params
gate_list-body_scope-requires-clause-params g t c = (rw c.in-Defined.is at c.requires.ready).0.params

pub gate_list-body_scope-requires-clause-names : goal.gate_list-body_scope-requires-clause-names
gate_list-body_scope-requires-clause-names g t c = (rw c.in-Defined.is at c.requires.ready).0.names

pub gate_list-body_scope-requires-clause-arguments : goal.gate_list-body_scope-requires-clause-arguments
gate_list-body_scope-requires-clause-arguments g t c = (rw c.in-Defined.is at c.requires.ready).1

pub gate_list-body_scope-requires-clause-qubits : goal.gate_list-body_scope-requires-clause-qubits
gate_list-body_scope-requires-clause-qubits g t c = rw c.in-Defined.is at c.requires.qubits

pub gate_list-body_list-requires : goal.gate_list-body_list-requires
gate_list-body_list-requires g t c =
    let fits = rw c.in-Defined.is at c.requires.ready in
    λ κs within. (
      first_of (search rules, omega (arith, c.decreases)),
      (
        within,
        (
          fits.0.body,
          rw c.in_ok-inner-in-Defined.ensures.env (record {
            served = record { has_names = c.in_ok-inner-in-Defined.ensures.names; has_callables = c.in_ok-inner-in-Defined.ensures.callables; has_inside = c.requires.served.has_inside };
            turns_fit = c.in_ok-inner-in-Defined.ensures.turns (length c.args.work.now.turns.items.items) fits.2;
            has_operands = c.in_ok-inner-in-Defined.ensures.operands;
          }),
        ),
      ),
    )

pub gate_list-slice_bounds-body_scope-end : goal.gate_list-slice_bounds-body_scope-end
gate_list-slice_bounds-body_scope-end g t c = refl

-- ---- a body

pub body_list-returns-in_err-more-clause-leaves : goal.body_list-returns-in_err-more-clause-leaves
body_list-returns-in_err-more-clause-leaves g t c = leaves_exit _ _ _ _ c.from_residual-in_err-more.ensures.1 (kept_twice _ _ _ c.loop-id.invariant.leaves.kept c.in_err-more.ensures.leaves.kept)

pub body_list-returns-clause-answer : goal.body_list-returns-clause-answer
body_list-returns-clause-answer g t c = λ given worths are.
    let p : Source = c.args.around.now.program.now in
    let names : List (ℕ × Meaning) = g.E.Constants.names c.args.scope.now.env.now in
    let callables : List (ℕ × Callable) = g.E.GateEnv.callables c.args.scope.now.env.now in
    let operands : List (OperandName × Result (Selected QubitId) Rule) = g.E.GateEnv.operands c.args.scope.now.env.now in
    let inside : List ((ℕ × ℕ) × MeaningInside) = g.E.GateEnv.inside c.args.scope.now.env.now in
    let same : c.deref-id-items.result.now ≡ c.args.body.now = cc in
    let le : length c.args.body.now ≤ c.loop-id.id-index = omega (arith, ap length same) in
    c.loop-id.invariant.due given worths are ∙ all_statements p (member_by p names callables operands inside worths c.args.levels (scope_seen p worths names callables operands inside c.args.scope.now.body)) c.args.body.now _ c.loop-id.id-index _ le

pub body_list-returns-clause-leaves : goal.body_list-returns-clause-leaves
body_list-returns-clause-leaves g t c = record { kept = c.loop-id.invariant.leaves.kept; grown = c.loop-id.invariant.leaves; args = c.loop-id.invariant.args }

pub body_list-loop-id-init : goal.body_list-loop-id-init
body_list-loop-id-init g t c =
    let p : Source = c.args.around.now.program.now in
    let names : List (ℕ × Meaning) = g.E.Constants.names c.args.scope.now.env.now in
    let callables : List (ℕ × Callable) = g.E.GateEnv.callables c.args.scope.now.env.now in
    let operands : List (OperandName × Result (Selected QubitId) Rule) = g.E.GateEnv.operands c.args.scope.now.env.now in
    let inside : List ((ℕ × ℕ) × MeaningInside) = g.E.GateEnv.inside c.args.scope.now.env.now in
    record {
      due = λ given worths are. rw c.new-list.ensures.items (body_starts p (member_by p names callables operands inside worths c.args.levels (scope_seen p worths names callables operands inside c.args.scope.now.body)) c.args.body.now c.args.work.now.budget);
      leaves = rw c.new-list.ensures.items (grows_same _);
      args = refl;
    }

pub body_list-returns-in_err-spend-clause-leaves : goal.body_list-returns-in_err-spend-clause-leaves
body_list-returns-in_err-spend-clause-leaves g t c = leaves_exit _ _ _ _ c.from_residual.ensures.1 c.loop-id.invariant.leaves.kept

pub body_list-returns-in_err-append-clause-leaves : goal.body_list-returns-in_err-append-clause-leaves
body_list-returns-in_err-append-clause-leaves g t c = leaves_exit _ _ _ _ c.from_residual-in_err-append.ensures.1 (kept_twice _ _ _ c.loop-id.invariant.leaves.kept c.in_ok-more.ensures.leaves.kept)

pub body_list-returns-in_err-spend-clause-answer : goal.body_list-returns-in_err-spend-clause-answer
body_list-returns-in_err-spend-clause-answer g t c = λ given worths are.
    let p : Source = c.args.around.now.program.now in
    let names : List (ℕ × Meaning) = g.E.Constants.names c.args.scope.now.env.now in
    let callables : List (ℕ × Callable) = g.E.GateEnv.callables c.args.scope.now.env.now in
    let operands : List (OperandName × Result (Selected QubitId) Rule) = g.E.GateEnv.operands c.args.scope.now.env.now in
    let inside : List ((ℕ × ℕ) × MeaningInside) = g.E.GateEnv.inside c.args.scope.now.env.now in
    let same : c.deref-id-items.result.now ≡ c.args.body.now = cc in
    let lt : c.loop-id.id-index < length c.args.body.now = omega (arith, ap length same) in
    at_exit _ _ _ _ c.from_residual.ensures.1 (rw c.in_err-spend.ensures.refused
    (body_unpaid p (member_by p names callables operands inside worths c.args.levels (scope_seen p worths names callables operands inside c.args.scope.now.body)) worths c.args.body.now _ c.loop-id.list.items c.loop-id.id-index (record { 0 = 0 }) c.loop-id.work.budget (c.loop-id.invariant.due given worths are) lt c.in_err-spend.ensures.passed))

pub body_list-returns-in_err-more-clause-answer : goal.body_list-returns-in_err-more-clause-answer
body_list-returns-in_err-more-clause-answer g t c = λ given worths are.
    let p : Source = c.args.around.now.program.now in
    let names : List (ℕ × Meaning) = g.E.Constants.names c.args.scope.now.env.now in
    let callables : List (ℕ × Callable) = g.E.GateEnv.callables c.args.scope.now.env.now in
    let operands : List (OperandName × Result (Selected QubitId) Rule) = g.E.GateEnv.operands c.args.scope.now.env.now in
    let inside : List ((ℕ × ℕ) × MeaningInside) = g.E.GateEnv.inside c.args.scope.now.env.now in
    let same : c.deref-id-items.result.now ≡ c.args.body.now = cc in
    let lt : c.loop-id.id-index < length c.args.body.now = omega (arith, ap length same) in
    let before = worths_before given worths _ _ c.in_err-more.ensures.leaves.kept are in
    at_exit _ _ _ _ c.from_residual-in_err-more.ensures.1
    (body_fails p (member_by p names callables operands inside worths c.args.levels (scope_seen p worths names callables operands inside c.args.scope.now.body)) worths c.args.body.now _ c.loop-id.list.items c.loop-id.id-index _ c.loop-id.work.budget (c.loop-id.invariant.due given worths before) lt
    c.spend.new.self _ c.in_ok-spend.ensures.paid c.in_ok-spend.ensures.rest (rw same at (c.in_err-more.ensures.answer given worths are)))

pub body_list-loop-id-preserved : goal.body_list-loop-id-preserved
body_list-loop-id-preserved g t c =
    let p : Source = c.args.around.now.program.now in
    let names : List (ℕ × Meaning) = g.E.Constants.names c.args.scope.now.env.now in
    let callables : List (ℕ × Callable) = g.E.GateEnv.callables c.args.scope.now.env.now in
    let operands : List (OperandName × Result (Selected QubitId) Rule) = g.E.GateEnv.operands c.args.scope.now.env.now in
    let inside : List ((ℕ × ℕ) × MeaningInside) = g.E.GateEnv.inside c.args.scope.now.env.now in
    let same : c.deref-id-items.result.now ≡ c.args.body.now = cc in
    let lt : c.loop-id.id-index < length c.args.body.now = omega (arith, ap length same) in
    let less : c.spend.new.self.left ≤ c.loop-id.work.budget.left = rw c.in_ok-spend.ensures.rest (omega arith) in
    rw (c.in_ok-append.ensures, c.deref.ensures.value) (record {
      due = λ given worths are.
          body_goes_on p (member_by p names callables operands inside worths c.args.levels (scope_seen p worths names callables operands inside c.args.scope.now.body)) worths c.args.body.now _ c.loop-id.list.items c.loop-id.id-index _ c.loop-id.work.budget
          (c.loop-id.invariant.due given worths (worths_before given worths _ _ c.in_ok-more.ensures.leaves.kept are)) lt
          c.in_ok-more.more.items c.spend.new.self _ c.in_ok-spend.ensures.paid c.in_ok-spend.ensures.rest (rw same at (c.in_ok-more.ensures.answer given worths are));
      leaves = grows_more _ _ _ _ _ c.loop-id.invariant.leaves (grows_on _ _ _ _ (grows_paid c.loop-id.work c.spend.new.self less) c.in_ok-more.ensures.leaves.grown);
      args = c.in_ok-more.ensures.leaves.args ∙ c.loop-id.invariant.args;
    })

pub body_list-member_list-requires : goal.body_list-member_list-requires
body_list-member_list-requires g t c =
    let p : Source = c.args.around.now.program.now in
    let names : List (ℕ × Meaning) = g.E.Constants.names c.args.scope.now.env.now in
    let callables : List (ℕ × Callable) = g.E.GateEnv.callables c.args.scope.now.env.now in
    let operands : List (OperandName × Result (Selected QubitId) Rule) = g.E.GateEnv.operands c.args.scope.now.env.now in
    let inside : List ((ℕ × ℕ) × MeaningInside) = g.E.GateEnv.inside c.args.scope.now.env.now in
    let same : c.deref-id-items.result.now ≡ c.args.body.now = cc in
    let lt : c.loop-id.id-index < length c.args.body.now = omega (arith, ap length same) in
    λ κs within. (first_of (search rules, omega (arith, c.decreases)), (within, (rw same (c.requires.in_range.each c.loop-id.id-index _ lt), inside_later p names callables operands inside _ _ c.args.scope.now.body c.loop-id.invariant.leaves.more c.requires.inside)))

pub body_list-returns-in_err-append-clause-answer : goal.body_list-returns-in_err-append-clause-answer
body_list-returns-in_err-append-clause-answer g t c = λ given worths are. at_exit _ _ _ _ c.from_residual-in_err-append.ensures.1 tt

-- ---- a statement of a body

pub member_list-returns-in_err-arguments-in-GateCall-clause-leaves : goal.member_list-returns-in_err-arguments-in-GateCall-clause-leaves
member_list-returns-in_err-arguments-in-GateCall-clause-leaves g t c = leaves_exit _ _ _ _ c.from_residual.ensures.1 c.in_err-arguments-in-GateCall.ensures.kept.kept

pub member_list-returns-in_ok-arguments-in-GateCall-clause-leaves : goal.member_list-returns-in_ok-arguments-in-GateCall-clause-leaves
member_list-returns-in_ok-arguments-in-GateCall-clause-leaves g t c = leaves_on c.args.work.now c.arguments_at.new.work c.call_list.new.work c.call_list.result c.in_ok-arguments-in-GateCall.ensures.grown c.in_ok-arguments-in-GateCall.ensures.args c.call_list.ensures.leaves

pub member_list-returns-in_err-arguments-in-GateCall-clause-answer : goal.member_list-returns-in_err-arguments-in-GateCall-clause-answer
member_list-returns-in_err-arguments-in-GateCall-clause-answer g t c = λ given worths are.
    let p : Source = c.args.around.now.program.now in
    let names : List (ℕ × Meaning) = g.E.Constants.names c.args.scope.now.env.now in
    let callables : List (ℕ × Callable) = g.E.GateEnv.callables c.args.scope.now.env.now in
    let operands : List (OperandName × Result (Selected QubitId) Rule) = g.E.GateEnv.operands c.args.scope.now.env.now in
    let inside : List ((ℕ × ℕ) × MeaningInside) = g.E.GateEnv.inside c.args.scope.now.env.now in
    at_exit _ _ _ _ c.from_residual.ensures.1 (arguments_fail p (declarations_in p inside) (spec.call_list (declarations_in p inside) c.args.levels) (scope_seen p worths names callables operands inside c.args.scope.now.body) c.args.id.0 c.stmt.result.now c.stmt.ensures.tree c.args.work.now.budget c.args.work.now.budget _ _ _ _ c.in-GateCall.is _ (c.in_err-arguments-in-GateCall.ensures.answer given worths are))

pub member_list-returns-in_err-_qubits-in-Barrier-clause-leaves : goal.member_list-returns-in_err-_qubits-in-Barrier-clause-leaves
member_list-returns-in_err-_qubits-in-Barrier-clause-leaves g t c = leaves_exit _ _ _ _ c.from_residual-in_err-_qubits-in-Barrier.ensures.1 (λ k t e. e)

pub member_list-returns-in_ok-arguments-in-GateCall-clause-answer : goal.member_list-returns-in_ok-arguments-in-GateCall-clause-answer
member_list-returns-in_ok-arguments-in-GateCall-clause-answer g t c = λ given worths are.
    let p : Source = c.args.around.now.program.now in
    let names : List (ℕ × Meaning) = g.E.Constants.names c.args.scope.now.env.now in
    let callables : List (ℕ × Callable) = g.E.GateEnv.callables c.args.scope.now.env.now in
    let operands : List (OperandName × Result (Selected QubitId) Rule) = g.E.GateEnv.operands c.args.scope.now.env.now in
    let inside : List ((ℕ × ℕ) × MeaningInside) = g.E.GateEnv.inside c.args.scope.now.env.now in
    let before = worths_before given worths _ _ c.call_list.ensures.leaves.kept are in
    let answer = rw c.deref.ensures.value at (c.call_list.ensures.answer given worths are) in
    answers_from _ _ _ _ (behind_arguments p (declarations_in p inside) (spec.call_list (declarations_in p inside) c.args.levels) (scope_seen p worths names callables operands inside c.args.scope.now.body) c.args.id.0 c.stmt.result.now c.stmt.ensures.tree c.args.work.now.budget c.arguments_at.new.work.budget _ _ _ _ c.in-GateCall.is _ (c.in_ok-arguments-in-GateCall.ensures.answer given worths before)) answer

pub member_list-stmt-requires : goal.member_list-stmt-requires
member_list-stmt-requires g t c = c.requires.in_range

pub member_list-arguments_at-requires-clause-in_range : goal.member_list-arguments_at-requires-clause-in_range
member_list-arguments_at-requires-clause-in_range g t c = (rw c.in-GateCall.is at c.stmt.ensures.fits).2

pub member_list-arguments_at-requires-clause-names : goal.member_list-arguments_at-requires-clause-names
member_list-arguments_at-requires-clause-names g t c = c.requires.inside.served.has_names

pub member_list-arguments_at-requires-clause-turns : goal.member_list-arguments_at-requires-clause-turns
member_list-arguments_at-requires-clause-turns g t c = c.requires.inside.turns_fit

pub member_list-operands_at-requires-clause-in_range : goal.member_list-operands_at-requires-clause-in_range
member_list-operands_at-requires-clause-in_range g t c = rw c.in-Barrier.is at c.stmt.ensures.fits

pub member_list-operands_at-requires-clause-names : goal.member_list-operands_at-requires-clause-names
member_list-operands_at-requires-clause-names g t c = c.requires.inside.served.has_names

pub member_list-operands_at-requires-clause-answered : goal.member_list-operands_at-requires-clause-answered
member_list-operands_at-requires-clause-answered g t c =
    let p : Source = c.args.around.now.program.now in
    let names : List (ℕ × Meaning) = g.E.Constants.names c.args.scope.now.env.now in
    let callables : List (ℕ × Callable) = g.E.GateEnv.callables c.args.scope.now.env.now in
    let operands : List (OperandName × Result (Selected QubitId) Rule) = g.E.GateEnv.operands c.args.scope.now.env.now in
    let inside : List ((ℕ × ℕ) × MeaningInside) = g.E.GateEnv.inside c.args.scope.now.env.now in
    operands_answered (length p.names) (length p.exprs) operands inside c.args.scope.now.body _ c.requires.inside.has_operands (rw c.in-Barrier.is at c.stmt.ensures.fits)

pub member_list-call_list-requires : goal.member_list-call_list-requires
member_list-call_list-requires g t c =
    let p : Source = c.args.around.now.program.now in
    let names : List (ℕ × Meaning) = g.E.Constants.names c.args.scope.now.env.now in
    let callables : List (ℕ × Callable) = g.E.GateEnv.callables c.args.scope.now.env.now in
    let operands : List (OperandName × Result (Selected QubitId) Rule) = g.E.GateEnv.operands c.args.scope.now.env.now in
    let inside : List ((ℕ × ℕ) × MeaningInside) = g.E.GateEnv.inside c.args.scope.now.env.now in
    let fits = rw c.in-GateCall.is at c.stmt.ensures.fits in
    let given : ℕ → ℤ = λ k. pos 0 in
    let worths : ℕ → ℤ = worth_at given c.arguments_at.new.work.turns.items.items in
    let are = worth_at-AreWorths given c.arguments_at.new.work.turns.args c.arguments_at.new.work.turns.items.items c.arguments_at.new.work.turns.fit in
    let count = arguments_count p (scope_seen p worths names callables operands inside c.args.scope.now.body) worths _ c.in_ok-arguments-in-GateCall.arguments.items _ _ (c.in_ok-arguments-in-GateCall.ensures.answer given worths are) in
    λ κs within. (
      first_of (search rules, omega (arith, c.decreases)),
      (
        within,
        (
          record { mods = fits.0; name = fits.1; args = fits.2; operands = fits.3 },
          (
            c.requires.inside.served,
            (
              operands_answered (length p.names) (length p.exprs) operands inside c.args.scope.now.body _ c.requires.inside.has_operands fits.3,
              (rw c.deref.ensures.value count, rw c.deref.ensures.value c.in_ok-arguments-in-GateCall.ensures.fit),
            ),
          ),
        ),
      ),
    )

pub member_list-returns-in_err-_qubits-in-Barrier-clause-answer : goal.member_list-returns-in_err-_qubits-in-Barrier-clause-answer
member_list-returns-in_err-_qubits-in-Barrier-clause-answer g t c = λ given worths are.
    let p : Source = c.args.around.now.program.now in
    let names : List (ℕ × Meaning) = g.E.Constants.names c.args.scope.now.env.now in
    let callables : List (ℕ × Callable) = g.E.GateEnv.callables c.args.scope.now.env.now in
    let operands : List (OperandName × Result (Selected QubitId) Rule) = g.E.GateEnv.operands c.args.scope.now.env.now in
    let inside : List ((ℕ × ℕ) × MeaningInside) = g.E.GateEnv.inside c.args.scope.now.env.now in
    at_exit _ _ _ _ c.from_residual-in_err-_qubits-in-Barrier.ensures.1 (barrier_fails p (declarations_in p inside) (spec.call_list (declarations_in p inside) c.args.levels) (scope_seen p worths names callables operands inside c.args.scope.now.body) c.args.id.0 c.stmt.result.now c.stmt.ensures.tree c.args.work.now.budget c.args.work.now.budget _ c.in-Barrier.is _ c.in_err-_qubits-in-Barrier.ensures.answer)

pub member_list-returns-in_ok-_qubits-in-Barrier-clause-answer : goal.member_list-returns-in_ok-_qubits-in-Barrier-clause-answer
member_list-returns-in_ok-_qubits-in-Barrier-clause-answer g t c = λ given worths are.
    let p : Source = c.args.around.now.program.now in
    let names : List (ℕ × Meaning) = g.E.Constants.names c.args.scope.now.env.now in
    let callables : List (ℕ × Callable) = g.E.GateEnv.callables c.args.scope.now.env.now in
    let operands : List (OperandName × Result (Selected QubitId) Rule) = g.E.GateEnv.operands c.args.scope.now.env.now in
    let inside : List ((ℕ × ℕ) × MeaningInside) = g.E.GateEnv.inside c.args.scope.now.env.now in
    rw c.new.ensures.items (barrier_done p (declarations_in p inside) (spec.call_list (declarations_in p inside) c.args.levels) (scope_seen p worths names callables operands inside c.args.scope.now.body) c.args.id.0 c.stmt.result.now c.stmt.ensures.tree c.args.work.now.budget c.operands_at.new.budget _ c.in-Barrier.is _ c.in_ok-_qubits-in-Barrier.ensures.answer)

pub member_list-returns-in_ok-_qubits-in-Barrier-clause-leaves : goal.member_list-returns-in_ok-_qubits-in-Barrier-clause-leaves
member_list-returns-in_ok-_qubits-in-Barrier-clause-leaves g t c = record { kept = λ k t e. e; grown = rw c.new.ensures.items (grows_paid c.args.work.now c.operands_at.new.budget (paid_less _ _ _ _ c.in_ok-_qubits-in-Barrier.ensures.answer)); args = refl }

pub member_list-returns-in_default : goal.member_list-returns-in_default
member_list-returns-in_default g t c =
    let p : Source = c.args.around.now.program.now in
    let names : List (ℕ × Meaning) = g.E.Constants.names c.args.scope.now.env.now in
    let callables : List (ℕ × Callable) = g.E.GateEnv.callables c.args.scope.now.env.now in
    let operands : List (OperandName × Result (Selected QubitId) Rule) = g.E.GateEnv.operands c.args.scope.now.env.now in
    let inside : List ((ℕ × ℕ) × MeaningInside) = g.E.GateEnv.inside c.args.scope.now.env.now in
    record {
      answer = λ given worths are. rw c.new-in_default.ensures.items (other_member p (declarations_in p inside) (spec.call_list (declarations_in p inside) c.args.levels) (scope_seen p worths names callables operands inside c.args.scope.now.body) c.args.id.0 c.stmt.result.now c.stmt.ensures.tree c.args.work.now.budget c.args.work.now.budget c.in_default.not-GateCall c.in_default.not-Barrier);
      leaves = record { kept = λ k t e. e; grown = rw c.new-in_default.ensures.items (grows_same _); args = refl };
    }
