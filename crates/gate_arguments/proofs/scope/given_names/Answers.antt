use Rattle.std.proofs.Common.{◌∷◌, [], length, map, ap, ◌∙◌}
use Rattle.std.specs.List.{range_with_len}
use Rattle.std.proofs.lemmas.Result.{err_from_is_err_and}
use Rattle.gate_arguments.specs.declared.scope.Given.TheVariants as gives
use Rattle.gate_arguments.proofs.Entered.{both_enter, first_fails, places_count, second_fails}
use Rattle.gate_arguments.proofs.scope.given_names.Goals as goal

pub enter_each-requires-clause-count : goal.enter_each-requires-clause-count
enter_each-requires-clause-count c = ap length (c.deref.ensures.value ∙ c.in_ok-places.ensures) ∙ places_count 0 c.args.arguments ∙ c.requires.arguments

pub returns-in_err-enter_each : goal.returns-in_err-enter_each
returns-in_err-enter_each c =
    let p = err_from_is_err_and c.from_residual-in_err-enter_each.result c.from_residual-in_err-enter_each.ensures.1 in
    rw (p.1, p.2)
    (first_fails c.in_ok-given.given ([] ∷ []) c.in_ok-given.ensures c.args.signature.params.now c.args.signature.qubits.now c.deref.result.now (map gives.Argument (range_with_len 0 c.args.arguments)) (map gives.Qubit c.args.qubits.now)
    (c.deref.ensures.value ∙ c.in_ok-places.ensures) (places_count 0 c.args.arguments ∙ c.requires.arguments) c.in_err-enter_each.field-0.0 c.in_err-enter_each.ensures.answer)

pub returns-in_err-enter_each-2 : goal.returns-in_err-enter_each-2
returns-in_err-enter_each-2 c =
    let p = err_from_is_err_and c.from_residual-in_err-enter_each-2.result c.from_residual-in_err-enter_each-2.ensures.1 in
    rw (p.1, p.2)
    (second_fails c.in_ok-given.given ([] ∷ []) c.in_ok-given.ensures c.args.signature.params.now c.args.signature.qubits.now c.deref.result.now (map gives.Argument (range_with_len 0 c.args.arguments)) (map gives.Qubit c.args.qubits.now)
    (c.deref.ensures.value ∙ c.in_ok-places.ensures) (places_count 0 c.args.arguments ∙ c.requires.arguments) c.enter_each.new.given c.in_ok-enter_each.ensures.answer c.deref-2.result.now (c.deref-2.ensures.value ∙ c.in_ok-values.ensures)
    c.in_err-enter_each-2.field-0.0 c.in_err-enter_each-2.ensures.answer)

pub returns : goal.returns
returns c =
    both_enter c.in_ok-given.given ([] ∷ []) c.in_ok-given.ensures c.args.signature.params.now c.args.signature.qubits.now c.deref.result.now (map gives.Argument (range_with_len 0 c.args.arguments)) (map gives.Qubit c.args.qubits.now)
    (c.deref.ensures.value ∙ c.in_ok-places.ensures) (places_count 0 c.args.arguments ∙ c.requires.arguments) c.enter_each.new.given c.in_ok-enter_each.ensures.answer c.deref-2.result.now (c.deref-2.ensures.value ∙ c.in_ok-values.ensures)
    c.enter_each-2.new.given c.in_ok-enter_each-2.ensures.answer
