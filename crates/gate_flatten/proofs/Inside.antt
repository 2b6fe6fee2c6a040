-- What is asked of calls in the body of a gate, and that it holds when turns were made.
use Rattle.std.proofs.Common.{◌≡◌, ℕ, ◌+◌, ◌<◌, ◌≤◌, List, [], length, map, take, drop, All, Option, Some, None, Ok, ◌∙◌, arith, ◌-◌, length-drop}
use Rattle.std.proofs.lemmas.List.{length-take}
use Rattle.qq_base.specs.declared.rule.Rule.{Rule}
use Rattle.qq_base.specs.declared.run.QubitId.{QubitId}
use Rattle.std.specs.Prelude.{Result}
use Rattle.qasm_ast.specs.declared.expr.OperandName.{OperandName}
use Rattle.qasm_ast.specs.declared.expr.OperandRef.{OperandRef}
use Rattle.qasm_ast.specs.Whole.{Source, AllOf, NameFits, OperandFits}
use Rattle.alias_resolve.specs.Places.{Selected}
use Rattle.const_eval.specs.declared.environment.Callable.{Callable}
use Rattle.const_eval.specs.Meaning.{Meaning}
use Rattle.const_eval.specs.Seen.{MeaningInside}
use Rattle.gate_lists.specs.Modifiers.{control_count}
use Rattle.gate_arguments.specs.declared.scope.Body.{Body}
use Rattle.gate_arguments.specs.Seen.{HasOperand, TurnsFit}
use Rattle.gate_flatten.specs.declared.gate.Ready.{Ready}
use Rattle.gate_flatten.specs.declared.gate.Ready.TheVariants as ready
use Rattle.gate_flatten.specs.declared.ready_call.Prepared.{Prepared}
use Rattle.gate_flatten.specs.Applications.{application, distinct}
use Rattle.gate_flatten.specs.Served.{AnswersOperand, PreparedFits, ReadyFits, ServedBody, count_of, placed_seen}
use Rattle.gate_flatten.proofs.Applying.{distinct_count}
use Rattle.gate_flatten.proofs.Growing.{all_named_later, arguments_later}

pub ready_later : (p : Source) (n m : ℕ) (r : Ready) → n ≤ m → ReadyFits p n r → ReadyFits p m r
ready_later p n m (ready.Table gate args count) le h = (h.0, h.1, h.2, all_named_later n m _ le h.3)
ready_later p n m (ready.Defined d arguments) le h = (h.0, h.1, arguments_later n m _ le h.2)

turns_later : (n m : ℕ) (body : Option Body) → n ≤ m → TurnsFit n body → TurnsFit m body
turns_later n m None le h = h
turns_later n m (Some b) le h = arguments_later n m _ le h

-- the operands of a statement in a body
pub operands_answered : (names exprs : ℕ) (operands : List (OperandName × Result (Selected QubitId) Rule)) (inside : List ((ℕ × ℕ) × MeaningInside)) (body : Option Body) (os : List OperandRef)
    → ((name : OperandName) → NameFits names name → HasOperand operands inside body name) → AllOf (OperandFits names exprs) os → All (AnswersOperand operands inside body) os
operands_answered names exprs operands inside body os answered fits = λ k d lt. answered _ (fits.each k d lt).name

module _ (p : Source) (names : List (ℕ × Meaning)) (callables : List (ℕ × Callable)) (operands : List (OperandName × Result (Selected QubitId) Rule)) (inside : List ((ℕ × ℕ) × MeaningInside)) where
  pub inside_later : (n m : ℕ) (body : Option Body) → n ≤ m → ServedBody p names callables operands inside n body → ServedBody p names callables operands inside m body
  inside_later n m body le h = record { served = h.served; turns_fit = turns_later n m body le h.turns_fit; has_operands = h.has_operands }

-- the qubits of an application are as many as its modifiers and its gate take
pub application_fits : (p : Source) (turns k : ℕ) (call : Prepared) (qs : List QubitId) → PreparedFits p turns call → k < call.times → distinct [] (application (map placed_seen call.operands.items) k) ≡ Ok qs
    → length qs ≡ control_count call.modifiers.items + count_of call.ready
application_fits p turns k call qs fits lt e = distinct_count [] _ qs e ∙ fits.qubits k lt

-- the qubits of the gate, and those of the controls in front of them
module _ (qs some : List QubitId) (n count controls : ℕ) (all : length qs ≡ controls + count) (at : n ≡ length qs - count) where
  pub own_count : some ≡ drop n qs → length some ≡ count
  own_count e = rw e (omega (arith, length-drop n qs))

  pub front_count : some ≡ take n qs → length some ≡ controls
  front_count e = rw e (omega (arith, length-take n qs))
