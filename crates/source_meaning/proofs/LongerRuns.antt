-- More turns and further outcomes: an ended run stays, and the events of a run begin those of a longer one.
use Rattle.std.proofs.Common.{◌≡◌, ℕ, zero, suc, ◌+◌, ◌≤◌, Bool, List, [], ◌++◌, Option, Some, None, refl, sym, ap, ◌∙◌, subst, arith}
use Rattle.qq_base.specs.declared.refusal.Span.{Span}
use Rattle.qq_base.specs.declared.run.Event.{Event}
use Rattle.qq_base.specs.Seen.{Ending as Fate, Ended}
use Rattle.qasm_ast.specs.declared.expr.BinaryOp.{BinaryOp}
use Rattle.qasm_ast.specs.Tree.{Tree, call, Trees, Maybe, Name, Scalar, Operand, Value, expression, measured, Statement, include, qubits, variable, constant, output, alias, gate, subroutine, gate_call, barrier, reset, measurement, assign, invoke, branch, while, for_range, for_set, break, continue, end, give, cut_off, Statements, no_statement, a_statement}
use Rattle.qasm_types.specs.Values.{Value as AValue}
use Rattle.scope_env.specs.OpenScopes.{Named, Sealed, find}
use Rattle.const_eval.specs.Things.{Thing, Fixed, Variable, Counter, Qubits, Alias, TargetRow, DefinedGate, DefinedSubroutine, means_in}
use Rattle.const_eval.specs.ConstantPlaces.{is_static}
use Rattle.const_eval.specs.Binding.{most_calls, seen_by}
use Rattle.const_eval.specs.Values.{Frames, value_in, test, type_in, qubits_in}
use Rattle.source_meaning.specs.Library.{predefined, included, with_rows}
use Rattle.source_meaning.specs.ConstantUses.{changed, are_fixed_in}
use Rattle.source_meaning.specs.GateCalls.{Expands}
use Rattle.source_meaning.specs.Flow.{Flow, Next, Broke, Continued, Returned, Ending, Asking, Spent, Out, Runs, flows, in_scope, with_value, each_turn, each_copy, counter, fixed}
use Rattle.source_meaning.specs.Storing.{Into, Nowhere, ADeclared, ATarget, store, cast_value, Purpose, Stores, Returns, measure}
use Rattle.source_meaning.specs.Run.{gate_events, taken_in, result_in, bind, with_qubits, with_constant, with_alias, with_zero, resets, range_in, members_in, range_run, body_run, call_found, call_run, expression_run, value_run, assign_run, declare_run, measure_run, return_run, run_statement, run_statements, run_at}
use Rattle.source_meaning.specs.Source.{Output, seen_of, outputs, program_run, source_run}
use Rattle.source_meaning.specs.Laws.{Begins}
use Rattle.source_meaning.proofs.Longer.{out, begins_itself, Extends, Regular, called_extends, called_falls, regular_flows, regular_moved, regular_goes_on, regular_behind, regular_in_scope, regular_next, regular_choose}
use Rattle.source_meaning.proofs.Loops.{regular_copies, regular_turns, regular_with_value, regular_while, measuring_extends, measuring_falls}

module _ (others : List Bool) (extra : ℕ) where
  regular_measure : (place : Span) (o : Operand) (purpose : Frames → Purpose) → Regular others extra (λ frames outcomes turns. measure place o (purpose frames) frames outcomes turns)
  regular_measure place o purpose = record {
    extends = λ frames outcomes turns. measuring_extends others extra place (qubits_in frames o).items [] (purpose frames) frames outcomes turns;
    falls = λ frames outcomes turns. measuring_falls others extra place (qubits_in frames o).items [] (purpose frames) frames outcomes turns;
  }

  -- called bodies go on
  abbrev AreRegular : Option (Statements → Runs) → Type 0
  AreRegular None = Unit {0}
  AreRegular (Some runs) = (body : Statements) → Regular others extra (runs body)

  regular_body : (expand : Expands) (deeper : Option (Statements → Runs)) → AreRegular deeper → (body : Statements) → Regular others extra (body_run expand deeper body)
  regular_body expand None h body = regular_flows others extra Next
  regular_body expand (Some runs) h body = h body

  module _ (expand : Expands) (deeper : Option (Statements → Runs)) (bodies : AreRegular deeper) where
    found_extends : (name : List ℕ) (as' : Trees) (into : Into) (thing : Option (Thing AValue)) (frames : Frames) (outcomes : List Bool) (turns : ℕ)
        → Extends others extra (call_found expand deeper name as' into thing frames outcomes turns) (call_found expand deeper name as' into thing frames (outcomes ++ others) (turns + extra))
    found_extends name as' into (Some (DefinedSubroutine f)) frames outcomes turns =
        called_extends others extra (result_in name f frames) into _ _ ((regular_body expand deeper bodies f.body).extends (bind frames f.params as' (taken_in name f frames) (Sealed (seen_by name frames) frames)) outcomes turns)
    found_extends name as' into None frames outcomes turns = refl
    found_extends name as' into (Some (Fixed c)) frames outcomes turns = refl
    found_extends name as' into (Some (Variable type v)) frames outcomes turns = refl
    found_extends name as' into (Some (Counter type v)) frames outcomes turns = refl
    found_extends name as' into (Some (Qubits s)) frames outcomes turns = refl
    found_extends name as' into (Some (Alias s)) frames outcomes turns = refl
    found_extends name as' into (Some (TargetRow row)) frames outcomes turns = refl
    found_extends name as' into (Some (DefinedGate g)) frames outcomes turns = refl

    found_falls : (name : List ℕ) (as' : Trees) (into : Into) (thing : Option (Thing AValue)) (frames : Frames) (outcomes : List Bool) (turns : ℕ)
        → (call_found expand deeper name as' into thing frames outcomes turns).turns ≤ turns
    found_falls name as' into (Some (DefinedSubroutine f)) frames outcomes turns =
        let o = body_run expand deeper f.body (bind frames f.params as' (taken_in name f frames) (Sealed (seen_by name frames) frames)) outcomes turns in
        let h : o.turns ≤ turns = (regular_body expand deeper bodies f.body).falls (bind frames f.params as' (taken_in name f frames) (Sealed (seen_by name frames) frames)) outcomes turns in
        subst (λ n. n ≤ turns) (sym (called_falls others extra (result_in name f frames) into o.flow o.frames o.outcomes o.turns o.events)) h
    found_falls name as' into None frames outcomes turns = omega arith
    found_falls name as' into (Some (Fixed c)) frames outcomes turns = omega arith
    found_falls name as' into (Some (Variable type v)) frames outcomes turns = omega arith
    found_falls name as' into (Some (Counter type v)) frames outcomes turns = omega arith
    found_falls name as' into (Some (Qubits s)) frames outcomes turns = omega arith
    found_falls name as' into (Some (Alias s)) frames outcomes turns = omega arith
    found_falls name as' into (Some (TargetRow row)) frames outcomes turns = omega arith
    found_falls name as' into (Some (DefinedGate g)) frames outcomes turns = omega arith

    regular_call : (name : List ℕ) (as' : Trees) (into : Into) → Regular others extra (call_run expand deeper name as' into)
    regular_call name as' into = record {
      extends = λ frames outcomes turns. found_extends name as' into (find name frames) frames outcomes turns;
      falls = λ frames outcomes turns. found_falls name as' into (find name frames) frames outcomes turns;
    }

    regular_expression : (a : Tree) (into : Into) → Regular others extra (expression_run expand deeper a into)
    regular_expression (call name as' place) into = regular_call name as' into
    regular_expression a into = regular_goes_on others extra (λ frames. store into (cast_value (value_in frames a)) frames)

    regular_value : (place : Span) (value : Value) (into : Into) → Regular others extra (value_run expand deeper place value into)
    regular_value place (expression a) into = regular_expression a into
    regular_value place (measured o) into = regular_measure place o (λ frames. Stores into)

    regular_assign : (place : Span) (target : Operand) (o : Option BinaryOp) (value : Value) → Regular others extra (assign_run expand deeper place target o value)
    regular_assign place target None (expression a) = regular_expression a (ATarget target)
    regular_assign place target None (measured m) = regular_measure place m (λ frames. Stores (ATarget target))
    regular_assign place target (Some o) (expression a) = regular_expression (changed target o a) (ATarget target)
    regular_assign place target (Some o) (measured m) = regular_measure place m (λ frames. Stores (ATarget target))

    regular_declare : (place : Span) (type : Scalar) (name : Name) (value : Option Value) → Regular others extra (declare_run expand deeper place type name value)
    regular_declare place type name None = regular_goes_on others extra (with_zero type name)
    regular_declare place type name (Some value) = record {
      extends = λ frames outcomes turns. (regular_value place value (ADeclared name.text (type_in frames type))).extends frames outcomes turns;
      falls = λ frames outcomes turns. (regular_value place value (ADeclared name.text (type_in frames type))).falls frames outcomes turns;
    }

    regular_measurement : (place : Span) (o : Operand) (target : Option Operand) → Regular others extra (measure_run expand deeper place o target)
    regular_measurement place o None = regular_measure place o (λ frames. Stores Nowhere)
    regular_measurement place o (Some target) = regular_measure place o (λ frames. Stores (ATarget target))

    regular_return : (place : Span) (value : Option Value) → Regular others extra (return_run expand deeper place value)
    regular_return place None = regular_flows others extra (Returned None)
    regular_return place (Some (expression a)) = regular_moved others extra (λ frames. Returned (Some (value_in frames a))) (λ frames. frames)
    regular_return place (Some (measured o)) = regular_measure place o (λ frames. Returns (qubits_in frames o).single)

    regular_range : (place : Span) (type : Scalar) (name : Name) (start : Tree) (step : Maybe) (stop : Tree) (body : Statements) (once : Runs) → Regular others extra once
        → Regular others extra (range_run place type name start step stop body once)
    regular_range place type name start step stop body once r = regular_choose others extra
        (λ frames. is_static (are_fixed_in name.text body) (means_in frames) start step stop)
        (λ frames. each_copy (with_value name fixed once) (range_in frames (type_in frames type) start step stop))
        (λ frames. each_turn place (with_value name (counter (type_in frames type)) once) (range_in frames (type_in frames type) start step stop))
        (λ frames. regular_copies others extra (with_value name fixed once) (regular_with_value others extra name fixed once r) (range_in frames (type_in frames type) start step stop))
        (λ frames. regular_turns others extra place (with_value name (counter (type_in frames type)) once) (regular_with_value others extra name (counter (type_in frames type)) once r) (range_in frames (type_in frames type) start step stop))

    regular_set : (type : Scalar) (name : Name) (as' : Trees) (once : Runs) → Regular others extra once
        → Regular others extra (λ frames outcomes turns. each_copy (with_value name fixed once) (members_in frames (type_in frames type) as') frames outcomes turns)
    regular_set type name as' once r = record {
      extends = λ frames outcomes turns. (regular_copies others extra (with_value name fixed once) (regular_with_value others extra name fixed once r) (members_in frames (type_in frames type) as')).extends frames outcomes turns;
      falls = λ frames outcomes turns. (regular_copies others extra (with_value name fixed once) (regular_with_value others extra name fixed once r) (members_in frames (type_in frames type) as')).falls frames outcomes turns;
    }

    mutual
      regular_statement : (s : Statement) → Regular others extra (run_statement expand deeper s)
      regular_statement (include place close) = regular_goes_on others extra (with_rows included)
      regular_statement (qubits type name place close) = regular_goes_on others extra (with_qubits type.width name)
      regular_statement (variable type name value place close) = regular_declare place type name value
      regular_statement (constant type name a place close) = regular_goes_on others extra (with_constant type name a)
      regular_statement (output type name place close) = regular_goes_on others extra (with_zero type name)
      regular_statement (alias name os place close) = regular_goes_on others extra (with_alias name os)
      regular_statement (gate name params qs body place close) = regular_goes_on others extra (Named name.text (DefinedGate (record { params = params; qubits = qs; body = body })))
      regular_statement (subroutine name params result body place close) =
          regular_goes_on others extra (Named name.text (DefinedSubroutine (record { params = params; result = result; body = body; close = close })))
      regular_statement (gate_call changes name as' os place close) = regular_behind others extra (λ frames. gate_events expand frames changes name as' os) (flows Next) (regular_flows others extra Next)
      regular_statement (barrier os place close) = regular_flows others extra Next
      regular_statement (reset o place close) = regular_behind others extra (λ frames. resets (qubits_in frames o).items) (flows Next) (regular_flows others extra Next)
      regular_statement (measurement o target place close) = regular_measurement place o target
      regular_statement (assign target o value place close) = regular_assign place target o value
      regular_statement (invoke a place close) = regular_expression a Nowhere
      regular_statement (branch a taken other place close) = regular_choose others extra (λ frames. test frames a)
          (λ frames. in_scope (run_statements expand deeper taken)) (λ frames. in_scope (run_statements expand deeper other))
          (λ frames. regular_in_scope others extra (run_statements expand deeper taken) (regular_statements taken)) (λ frames. regular_in_scope others extra (run_statements expand deeper other) (regular_statements other))
      regular_statement (while a body place close) =
          regular_while others extra place a (in_scope (run_statements expand deeper body)) (regular_in_scope others extra (run_statements expand deeper body) (regular_statements body))
      regular_statement (for_range type name start step stop body place close) = regular_range place type name start step stop body (run_statements expand deeper body) (regular_statements body)
      regular_statement (for_set type name as' body place close) = regular_set type name as' (run_statements expand deeper body) (regular_statements body)
      regular_statement (break place close) = regular_flows others extra Broke
      regular_statement (continue place close) = regular_flows others extra Continued
      regular_statement (end place close) = regular_flows others extra Ending
      regular_statement (give value place close) = regular_return place value
      regular_statement cut_off = regular_flows others extra Next

      regular_statements : (ss : Statements) → Regular others extra (run_statements expand deeper ss)
      regular_statements no_statement = regular_flows others extra Next
      regular_statements (a_statement s ss) = regular_next others extra (run_statement expand deeper s) (run_statements expand deeper ss) (regular_statement s) (regular_statements ss)

  regular_at : (expand : Expands) (calls : ℕ) (ss : Statements) → Regular others extra (run_at expand calls ss)
  regular_at expand zero ss = regular_statements expand None tt ss
  regular_at expand (suc calls) ss = regular_statements expand (Some (run_at expand calls)) (regular_at expand calls) ss

  -- ---- what is seen

  abbrev IsEnded : Fate → Type 0
  IsEnded Ended = Unit {0}
  IsEnded fate = ⊥

  ended_at : (listed : List Output) (f : Flow) (frames : Frames) (outcomes : List Bool) (turns : ℕ) (events : List Event) (longer : Out)
      → Extends others extra (out f frames outcomes turns events) longer → IsEnded (seen_of listed (out f frames outcomes turns events)).fate
      → seen_of listed longer ≡ seen_of listed (out f frames outcomes turns events)
  ended_at listed Next frames outcomes turns events longer e ended = ap (seen_of listed) e
  ended_at listed Broke frames outcomes turns events longer e ended = absurd ended
  ended_at listed Continued frames outcomes turns events longer e ended = absurd ended
  ended_at listed (Returned v) frames outcomes turns events longer e ended = absurd ended
  ended_at listed Ending frames outcomes turns events longer e ended = ap (seen_of listed) e
  ended_at listed (Asking place) frames outcomes turns events longer e ended = absurd ended
  ended_at listed (Spent place) frames outcomes turns events longer e ended = absurd ended

  -- the events alone
  same_begins : (events : List Event) (longer o : Out) → o.events ≡ events → longer ≡ o → Begins events longer.events
  same_begins events longer o is e = begins_itself events longer.events (ap (λ (l : Out). l.events) e ∙ is)

  begins_at : (f : Flow) (frames : Frames) (outcomes : List Bool) (turns : ℕ) (events : List Event) (longer : Out)
      → Extends others extra (out f frames outcomes turns events) longer → Begins events longer.events
  begins_at Next frames outcomes turns events longer e = same_begins events longer _ refl e
  begins_at Broke frames outcomes turns events longer e = same_begins events longer _ refl e
  begins_at Continued frames outcomes turns events longer e = same_begins events longer _ refl e
  begins_at (Returned v) frames outcomes turns events longer e = same_begins events longer _ refl e
  begins_at Ending frames outcomes turns events longer e = same_begins events longer _ refl e
  begins_at (Asking place) frames outcomes turns events longer b = b
  begins_at (Spent place) frames outcomes turns events longer b = b

module _ (expand : Expands) (top : Statements) (place : Span) (outcomes others : List Bool) (turns extra : ℕ) where
  abbrev short : Out
  short = program_run expand top place outcomes turns

  longer_is : Extends others extra short (program_run expand top place (outcomes ++ others) (turns + extra))
  longer_is = (regular_at others extra expand most_calls top).extends predefined outcomes turns

  pub ended_runs_stay : (source_run expand top place outcomes turns).fate ≡ Ended → source_run expand top place (outcomes ++ others) (turns + extra) ≡ source_run expand top place outcomes turns
  ended_runs_stay ended =
      ended_at others extra (outputs expand top place) short.flow short.frames short.outcomes short.turns short.events (program_run expand top place (outcomes ++ others) (turns + extra)) longer_is
      (subst (IsEnded others extra) (sym ended) tt)

  pub events_go_on : Begins (source_run expand top place outcomes turns).events (source_run expand top place (outcomes ++ others) (turns + extra)).events
  events_go_on = begins_at others extra short.flow short.frames short.outcomes short.turns short.events (program_run expand top place (outcomes ++ others) (turns + extra)) longer_is
