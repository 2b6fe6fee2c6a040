-- The run of statements: a flow, new frames, events, the outcomes that are left and the turns that are left. A list of
-- statements goes on while the flow is next.
--
-- The recursion is on the turns, then on the calls that may still be open, then on the statement.
use Rattle.std.specs.Prelude.{ℕ, zero, suc, ◌*◌, ◌-◌, ◌^◌, Bool, true, false, List, [], ◌∷◌, map, ℤ, pos, Option, Some, None, Result, Ok, Err}
use Rattle.qq_base.specs.declared.refusal.Refusal.{Refusal}
use Rattle.qq_base.specs.declared.refusal.Span.{Span}
use Rattle.qq_base.specs.declared.run.QubitId.{QubitId}
use Rattle.qq_base.specs.declared.run.Event.{Event}
use Rattle.qq_base.specs.declared.run.Event.TheVariants as event
use Rattle.qasm_ast.specs.declared.expr.BinaryOp.{BinaryOp}
use Rattle.qasm_ast.specs.Tree.{Tree, call, Trees, no_tree, a_tree, Maybe, Name, Scalar, Operand, Value, expression, measured, Change, Parameter, Statement, include, qubits, variable, constant, output, alias, gate, subroutine, gate_call, barrier, reset, measurement, assign, invoke, branch, while, for_range, for_set, break, continue, end, give, cut_off, Statements, no_statement, a_statement}
use Rattle.qasm_types.specs.declared.ty.Ty.{Ty}
use Rattle.qasm_types.specs.declared.ty.Ty.TheVariants as t
use Rattle.qasm_types.specs.Values.{Count, Value as AValue}
use Rattle.alias_resolve.specs.Numbers.{numbers_from}
use Rattle.alias_resolve.specs.Places.{Selected}
use Rattle.const_eval.specs.Constant.{Constant, whole}
use Rattle.const_eval.specs.IsConstant.{is_constant}
use Rattle.scope_env.specs.OpenScopes.{Named, Sealed, find}
use Rattle.const_eval.specs.ConstantWalk.{qubits_walk}
use Rattle.const_eval.specs.ConstantPlaces.{is_static}
use Rattle.const_eval.specs.Operands.{operand_in}
use Rattle.const_eval.specs.Things.{Thing, Fixed, Variable, Qubits, Alias, DefinedGate, DefinedSubroutine, Subroutine, known, means_in, declared_qubits, next_qubits}
use Rattle.const_eval.specs.Binding.{Taken, TakesValue, TakesQubits, all_taken_walk, result_walk, seen_by}
use Rattle.const_eval.specs.Values.{Frames, TypedValue, zero_of, value_or, no_items, cast_to, number_in, constant_by, value_in, test, value_at, step_in, type_in, qubits_in}
use Rattle.source_meaning.specs.Library.{included, with_rows}
use Rattle.source_meaning.specs.ConstantUses.{changed, are_fixed_in}
use Rattle.source_meaning.specs.GateCalls.{Expands, turn, event_of}
use Rattle.source_meaning.specs.Declarations.{all_of, constant_declared_walk}
use Rattle.source_meaning.specs.Flow.{Flow, Next, Broke, Continued, Returned, Ending, Out, Runs, flows, goes_on, behind, on_next, closed, in_scope, choose, while_run, with_value, each_turn, each_copy, counter, fixed}
use Rattle.source_meaning.specs.Storing.{Into, Nowhere, ADeclared, ATarget, store, cast_value, Stores, Returns, measure}

-- ---- gate calls

-- the turn of an angle of n bits: its count, in units of 2^-32 turn
abbrev pub turn_of_value : Ty → AValue → ℤ
turn_of_value (t.Angle n) (Count c) = pos (c * 2 ^ (32 - n))
turn_of_value type x = pos 0

-- the value of an argument: a constant is kept exactly, and else it is a turn
abbrev pub argument_value : Frames → Tree → Constant
argument_value frames a = of (is_constant (means_in frames) a)
  where
    of : Bool → Constant
    of true = constant_by (means_in frames) a
    of false = turn (turn_of_value (value_in frames a).type (value_in frames a).value)

abbrev pub argument_values : Frames → Trees → List Constant
argument_values frames no_tree = []
argument_values frames (a_tree a as') = argument_value frames a ∷ argument_values frames as'

-- one event per instruction
abbrev pub gate_events : Expands → Frames → List Change → Name → Trees → List Operand → List Event
gate_events expand frames changes name as' os =
    map event_of (value_or (expand (known frames) (record { changes = changes; name = name; arguments = as'; values = argument_values frames as'; operands = os })).answer [])

-- ---- calls

abbrev pub parameter_thing : Frames → Tree → Taken → Thing AValue
parameter_thing frames a (TakesValue type) = Variable type (value_at frames type a).value
parameter_thing frames a (TakesQubits count single) = Alias (record { items = (argument_qubits (operand_in a)).items; single = single })
  where
    argument_qubits : Result Operand Refusal → Selected QubitId
    argument_qubits (Ok o) = qubits_in frames o
    argument_qubits (Err e) = no_items

-- the parameters with what their arguments give in the caller's frames
abbrev pub bind : Frames → List Parameter → Trees → List Taken → Frames → Frames
bind callers (p ∷ ps) (a_tree a as') (x ∷ xs) frames = bind callers ps as' xs (Named (p.name).text (parameter_thing callers a x) frames)
bind callers _ _ _ frames = frames

abbrev pub taken_in : List ℕ → Subroutine → Frames → List Taken
taken_in name f frames = value_or (all_taken_walk (means_in (seen_by name frames)) f.params).answer []

abbrev pub result_in : List ℕ → Subroutine → Frames → Option Ty
result_in name f frames = value_or (result_walk (means_in (seen_by name frames)) f.result).answer None

-- the value cast to the result type
abbrev pub result_value : Option Ty → TypedValue → TypedValue
result_value None v = v
result_value (Some type) v = cast_to type v

abbrev pub ended_call : Option Ty → Into → Flow → Out → Out
ended_call result into (Returned (Some v)) o = record o { flow = Next; frames = store into (cast_value (result_value result v)) o.frames }
ended_call result into (Returned None) o = record o { flow = Next }
ended_call result into _ o = o

-- Behind a called body: its frame is gone, and what it returned is stored.
abbrev pub called : Option Ty → Into → Out → Out
called result into o = ended_call result into o.flow (closed o)

-- ---- statements

-- qubits with the next ids
abbrev pub with_qubits : Maybe → Name → Frames → Frames
with_qubits width name frames = of (value_or (qubits_walk (means_in frames) false width).answer (0, true))
  where
    of : ℕ × Bool → Frames
    of q = Named name.text (Qubits (record { items = next_qubits (declared_qubits frames) q.0; single = q.1 })) frames

abbrev pub with_constant : Scalar → Name → Tree → Frames → Frames
with_constant type name a frames = Named name.text (Fixed (value_or (constant_declared_walk (means_in frames) type a).answer (whole (pos 0)))) frames

abbrev pub with_alias : Name → List Operand → Frames → Frames
with_alias name os frames = Named name.text (Alias (record { items = all_of (map (qubits_in frames) os); single = false })) frames

abbrev pub with_zero : Scalar → Name → Frames → Frames
with_zero type name frames = Named name.text (Variable (type_in frames type) (zero_of (type_in frames type))) frames

abbrev pub resets : List QubitId → List Event
resets qs = map (λ (q : QubitId). event.Reset q) qs

-- the values of a range, whose start and stop are cast to the variable's type
abbrev pub range_in : Frames → Ty → Tree → Maybe → Tree → List ℤ
range_in frames type start step stop = numbers_from (number_in (value_at frames type start)) (step_in frames step) (number_in (value_at frames type stop))

abbrev pub members_in : Frames → Ty → Trees → List ℤ
members_in frames type no_tree = []
members_in frames type (a_tree a as') = number_in (value_at frames type a) ∷ members_in frames type as'

-- a `for` over a range, static or running
abbrev pub range_run : Span → Scalar → Name → Tree → Maybe → Tree → Statements → Runs → Runs
range_run place type name start step stop body once frames outcomes turns =
    choose (is_static (are_fixed_in name.text body) (means_in frames) start step stop)
    (each_copy (with_value name fixed once) (range_in frames (type_in frames type) start step stop))
    (each_turn place (with_value name (counter (type_in frames type)) once) (range_in frames (type_in frames type) start step stop))
    frames outcomes turns

module _ (expand : Expands) (deeper : Option (Statements → Runs)) where
  -- a called body is run by `deeper`
  abbrev pub body_run : Statements → Runs
  body_run body = of deeper
    where
      of : Option (Statements → Runs) → Runs
      of None = flows Next
      of (Some runs) = runs body

  abbrev pub call_found : List ℕ → Trees → Into → Option (Thing AValue) → Runs
  call_found name as' into (Some (DefinedSubroutine f)) frames outcomes turns =
      called (result_in name f frames) into (body_run f.body (bind frames f.params as' (taken_in name f frames) (Sealed (seen_by name frames) frames)) outcomes turns)
  call_found name as' into _ frames outcomes turns = flows Next frames outcomes turns

  -- a call binds its arguments and runs the body; the value goes where it is stored
  abbrev pub call_run : List ℕ → Trees → Into → Runs
  call_run name as' into frames outcomes turns = call_found name as' into (find name frames) frames outcomes turns

  -- an expression that is stored, or a call
  abbrev pub expression_run : Tree → Into → Runs
  expression_run (call name as' place) into frames outcomes turns = call_run name as' into frames outcomes turns
  expression_run a into frames outcomes turns = flows Next (store into (cast_value (value_in frames a)) frames) outcomes turns

  abbrev pub value_run : Span → Value → Into → Runs
  value_run place (expression a) into = expression_run a into
  value_run place (measured o) into = measure place o (Stores into)

  -- `x op= e` is `x op e`
  abbrev pub assign_run : Span → Operand → Option BinaryOp → Value → Runs
  assign_run place target (Some o) (expression a) = expression_run (changed target o a) (ATarget target)
  assign_run place target _ value = value_run place value (ATarget target)

  abbrev pub declare_run : Span → Scalar → Name → Option Value → Runs
  declare_run place type name None frames outcomes turns = flows Next (with_zero type name frames) outcomes turns
  declare_run place type name (Some value) frames outcomes turns = value_run place value (ADeclared name.text (type_in frames type)) frames outcomes turns

  abbrev pub measure_run : Span → Operand → Option Operand → Runs
  measure_run place o None = measure place o (Stores Nowhere)
  measure_run place o (Some target) = measure place o (Stores (ATarget target))

  abbrev pub return_run : Span → Option Value → Runs
  return_run place None frames outcomes turns = flows (Returned None) frames outcomes turns
  return_run place (Some (expression a)) frames outcomes turns = flows (Returned (Some (value_in frames a))) frames outcomes turns
  return_run place (Some (measured o)) frames outcomes turns = measure place o (Returns (qubits_in frames o).single) frames outcomes turns

  abbrev mutual
    pub run_statement : Statement → Runs
    run_statement (include place close) frames outcomes turns = goes_on (with_rows included) frames outcomes turns
    run_statement (qubits type name place close) frames outcomes turns = goes_on (with_qubits type.width name) frames outcomes turns
    run_statement (variable type name value place close) frames outcomes turns = declare_run place type name value frames outcomes turns
    run_statement (constant type name a place close) frames outcomes turns = goes_on (with_constant type name a) frames outcomes turns
    run_statement (output type name place close) frames outcomes turns = goes_on (with_zero type name) frames outcomes turns
    run_statement (alias name os place close) frames outcomes turns = goes_on (with_alias name os) frames outcomes turns
    run_statement (gate name params qs body place close) frames outcomes turns = goes_on (Named name.text (DefinedGate (record { params = params; qubits = qs; body = body }))) frames outcomes turns
    run_statement (subroutine name params result body place close) frames outcomes turns =
        goes_on (Named name.text (DefinedSubroutine (record { params = params; result = result; body = body; close = close }))) frames outcomes turns
    run_statement (gate_call changes name as' os place close) frames outcomes turns =
        behind (gate_events expand frames changes name as' os) (flows Next frames outcomes turns)
    run_statement (barrier os place close) frames outcomes turns = flows Next frames outcomes turns
    run_statement (reset o place close) frames outcomes turns = behind (resets (qubits_in frames o).items) (flows Next frames outcomes turns)
    run_statement (measurement o target place close) frames outcomes turns = measure_run place o target frames outcomes turns
    run_statement (assign target o value place close) frames outcomes turns = assign_run place target o value frames outcomes turns
    run_statement (invoke a place close) frames outcomes turns = expression_run a Nowhere frames outcomes turns
    run_statement (branch a taken other place close) frames outcomes turns =
        choose (test frames a) (in_scope (run_statements taken)) (in_scope (run_statements other)) frames outcomes turns
    run_statement (while a body place close) frames outcomes turns = while_run place a (in_scope (run_statements body)) frames outcomes turns
    run_statement (for_range type name start step stop body place close) frames outcomes turns = range_run place type name start step stop body (run_statements body) frames outcomes turns
    run_statement (for_set type name as' body place close) frames outcomes turns =
        each_copy (with_value name fixed (run_statements body)) (members_in frames (type_in frames type) as') frames outcomes turns
    run_statement (break place close) frames outcomes turns = flows Broke frames outcomes turns
    run_statement (continue place close) frames outcomes turns = flows Continued frames outcomes turns
    run_statement (end place close) frames outcomes turns = flows Ending frames outcomes turns
    run_statement (give value place close) frames outcomes turns = return_run place value frames outcomes turns
    run_statement cut_off frames outcomes turns = flows Next frames outcomes turns

    pub run_statements : Statements → Runs
    run_statements no_statement frames outcomes turns = flows Next frames outcomes turns
    run_statements (a_statement s ss) frames outcomes turns = on_next (run_statement s frames outcomes turns) (run_statements ss)

-- the run where so many calls may be open
abbrev pub run_at : Expands → ℕ → Statements → Runs
run_at expand zero = run_statements expand None
run_at expand (suc n) = run_statements expand (Some (run_at expand n))
