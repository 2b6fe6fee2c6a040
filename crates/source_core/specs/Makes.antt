-- The elaboration of statements, in the shape of the walk: each line of one has its line in the other. A part refuses what the walk
-- refuses, comes to the same sums, and makes statements of the core.
use Rattle.std.specs.Prelude.{ℕ, zero, suc, ◌+◌, Bool, true, false, not, ◌&&◌, ◌||◌, List, [], ◌∷◌, ◌++◌, length, zip, ℤ, pos, Option, Some, None}
use Rattle.qq_base.specs.declared.refusal.Span.{Span}
use Rattle.qq_base.specs.declared.rule.Rule.TheVariants.{SizeMismatch, ReturnMissing, ReturnPlace, LoopPlace, CallPlace, OutputPlace, DeclarationPlace}
use Rattle.qq_base.specs.declared.run.QubitId.{QubitId}
use Rattle.qasm_ast.specs.declared.expr.BinaryOp.{BinaryOp}
use Rattle.qasm_ast.specs.Tree.{Tree, call, Trees, Maybe, Name, Scalar, Operand, Value, expression, measured, Change, Parameter, Statement, include, qubits, variable, constant, output, alias, gate, subroutine, gate_call, barrier, reset, measurement, assign, invoke, branch, while, for_range, for_set, break, continue, end, give, cut_off, Statements, no_statement, a_statement, place_of, place_of_statement}
use Rattle.qasm_types.specs.declared.ty.Ty.{Ty}
use Rattle.qasm_types.specs.Types.{cells_of}
use Rattle.alias_resolve.specs.Places.{Selected}
use Rattle.core_ir.specs.declared.expression.CellKind.TheVariants.{Number as NumberKind}
use Rattle.core_ir.specs.Tree.{Expr}
use Rattle.scope_env.specs.OpenScopes.{OpenScopes, Named, Sealed, close}
use Rattle.const_eval.specs.Constant.{whole}
use Rattle.const_eval.specs.Walk.{asked, at_once}
use Rattle.const_eval.specs.ConstantWalk.{qubits_walk}
use Rattle.const_eval.specs.ConstantPlaces.{is_static}
use Rattle.const_eval.specs.Selecting.{type_of_selected}
use Rattle.const_eval.specs.Typed.{Typed, Exactly, Computed, is_angle}
use Rattle.const_eval.specs.ExprWalk.{cast_walk, cast_expr_walk}
use Rattle.const_eval.specs.Operands.{wires_of_all}
use Rattle.const_eval.specs.Ranges.{is_true, counter_type_walk, bounds_walk, static_range_walk, step_walk, running_range_walk}
use Rattle.const_eval.specs.Things.{Fixed, Variable, Counter, Qubits, Alias, DefinedGate, DefinedSubroutine, known, means_in, types_in, declared_qubits, next_qubits}
use Rattle.const_eval.specs.Values.{value_or}
use Rattle.const_eval.specs.Binding.{Bound, ToValue, ToQubits, call_binding_walk, arguments_walk, wires_of_arguments, has_result, seen_by}
use Rattle.cell_exprs.specs.Parts.{single_part}
use Rattle.source_meaning.specs.ConstantUses.{are_fixed_in, any_jumps, changed}
use Rattle.source_meaning.specs.Library.{included, with_rows}
use Rattle.source_meaning.specs.GateCalls.{Expands}
use Rattle.source_meaning.specs.Walk as walk_parts
use Rattle.source_meaning.specs.Declarations as declarations
use Rattle.source_meaning.specs.Walk.{Position, InSubroutine, Within, below, in_loop_body, in_called_body, returns_right}
use Rattle.source_meaning.specs.Targets.{target_walk, changed_walk, same_size}
use Rattle.source_meaning.specs.Targets as targets
use Rattle.source_core.specs.Core.{If, Leave, assigned, block_where}
use Rattle.source_core.specs.Cells.{Held, cells_from, zero_parts, zeros_since, zeros_from}
use Rattle.source_core.specs.Made.{Makes, gives, refuses, after, where_right, either, looking, changes, emits, emit, captured, wrapped, by_walk, charged, walks, spend, spend_cells, spend_joint, count_sites, use_wires, in_scopes, in_scope, declare, next_cell, take_cells, take_typed, put_back}
use Rattle.source_core.specs.Parts.{cast_in, condition_in, arguments_in, target_cells, type_of_target, Origin, of_parts, of_cells, stored, measured_into, measured_only, resets_of}
use Rattle.source_core.specs.Gates.{Lists, Listed, turn_parts, listed_body}
use Rattle.source_core.specs.Jumps.{Jumps, jump, global_jumps, loop_jumps, copy_jumps, call_jumps, while_core, for_core}

-- ---- declarations

abbrev pub make_include : Span → Makes (Unit {0})
make_include place = after (by_walk (declarations.walk_include place)) (λ _. in_scopes (with_rows included))

abbrev pub new_qubits : Name → ℕ → Bool → OpenScopes Held → OpenScopes Held
new_qubits name n single scopes = Named name.text (Qubits (record { items = next_qubits (declared_qubits scopes) n; single = single })) scopes

abbrev pub make_new_qubits : Name → ℕ → Bool → Makes (Unit {0})
make_new_qubits name n single = after (by_walk (declarations.walk_new_qubits name n single)) (λ _. in_scopes (new_qubits name n single))

abbrev pub make_const : Span → Scalar → Name → Tree → Makes (Unit {0})
make_const statement type name a =
    after (walks statement (λ scopes. declarations.constant_declared_walk (means_in scopes) type a)) (λ c.
    declare name (Fixed c))

abbrev pub make_alias : Span → Name → List Operand → Makes (Unit {0})
make_alias statement name os =
    after (by_walk (declarations.walk_operands statement os)) (λ ss.
    after (charged statement (asked (declarations.joined [] os ss))) (λ qs.
    declare name (Alias (record { items = qs; single = false }))))

-- A variable, with its first cell: it takes its cells behind its value.
abbrev pub make_variable : Span → Name → Ty → Makes ℕ
make_variable statement name type =
    after next_cell (λ c.
    after (declare name (Variable type c)) (λ _.
    after (take_typed type) (λ _.
    after (spend statement (cells_of type)) (λ _.
    gives c))))

abbrev pub make_stored_variable : Span → Name → Ty → Origin → Makes (Unit {0})
make_stored_variable statement name type origin =
    after (make_variable statement name type) (λ c.
    emits (assigned (stored (cells_from c type) origin)))

abbrev pub make_zero_variable : Span → Name → Ty → Makes (Unit {0})
make_zero_variable statement name type = make_stored_variable statement name type (of_parts (zero_parts type))

-- ---- measurements

abbrev pub make_acted : Span → Operand → Makes (Selected QubitId)
make_acted statement o = by_walk (targets.walk_acted statement o)

abbrev pub make_measured_variable : Span → Name → Ty → Selected QubitId → Makes (Unit {0})
make_measured_variable statement name type s =
    after (by_walk (targets.walk_measured_variable statement name type s)) (λ _.
    after next_cell (λ c.
    after (in_scopes (Named name.text (Variable type c))) (λ _.
    after (take_typed type) (λ _.
    emits (measured_into s.items (cells_from c type))))))

abbrev pub emit_measured : Operand → Selected QubitId → Makes (Unit {0})
emit_measured target s = looking (λ scopes. emits (measured_into s.items (target_cells scopes target)))

abbrev pub make_measured_target : Span → Operand → Operand → Makes (Unit {0})
make_measured_target statement target o =
    after (walks statement (λ scopes. target_walk true scopes target)) (λ type.
    after (make_acted statement o) (λ s.
    where_right (same_size type s) SizeMismatch target.place (emit_measured target s)))

abbrev pub make_measurement : Span → Operand → Option Operand → Makes (Unit {0})
make_measurement statement o None = after (make_acted statement o) (λ s. emits (measured_only s.items))
make_measurement statement o (Some target) =
    after (make_acted statement o) (λ s.
    after (walks statement (λ scopes. target_walk true scopes target)) (λ type.
    where_right (same_size type s) SizeMismatch target.place (emit_measured target s)))

-- ---- gate calls

-- the instructions of a call, behind the turns that they name, which take cells
abbrev pub make_listed : Trees → Listed → Makes (Unit {0})
make_listed as' list =
    after (take_cells (length list.turns) NumberKind) (λ c.
    looking (λ scopes. emits (listed_body (turn_parts scopes as') c list)))

abbrev pub make_gate_call : Expands → Lists → Span → List Change → Name → Trees → List Operand → Makes (Unit {0})
make_gate_call expand lists statement changed name as' os =
    after (walks statement (λ scopes. walk_parts.gate_arguments_walk scopes as')) (λ values.
    after (walks statement (λ scopes. expand scopes (record { changes = changed; name = name; arguments = as'; values = values; operands = os }))) (λ instructions.
    after (count_sites (length instructions)) (λ _.
    after (use_wires (wires_of_all os)) (λ _.
    looking (λ scopes. make_listed as' (lists (known scopes) (record { changes = changed; name = name; arguments = as'; values = values; operands = os })))))))

-- ---- `return`

-- what is returned is stored, and all cells of the called body are put back, at once
abbrev pub emit_result : Jumps → Ty → Origin → Makes (Unit {0})
emit_result j type origin = looking (λ scopes. emits (assigned (stored (cells_from j.result type) origin ++ zeros_since j.call_since scopes)))

-- measured bits stand in cells of their own before they are cast
abbrev pub make_measured_result : Jumps → Ty → Selected QubitId → Makes (Unit {0})
make_measured_result j type s =
    after (take_typed (type_of_selected s)) (λ c.
    after (emits (measured_into s.items (cells_from c (type_of_selected s)))) (λ _.
    emit_result j type (of_cells (type_of_selected s) c type)))

abbrev pub make_returned : Span → Jumps → Within → Option Value → Makes (Unit {0})
make_returned statement j (InSubroutine (Some type)) (Some (expression a)) =
    after (walks statement (λ scopes. cast_expr_walk (means_in scopes) (types_in scopes) false type a)) (λ _.
    after (spend statement (cells_of type)) (λ _.
    looking (λ scopes. emit_result j type (of_parts (cast_in scopes false type a)))))
make_returned statement j (InSubroutine (Some type)) (Some (measured o)) =
    after (make_acted statement o) (λ s.
    after (charged statement (cast_walk type o.place (Computed (type_of_selected s)))) (λ _.
    after (spend statement (cells_of type)) (λ _.
    make_measured_result j type s)))
make_returned statement j _ _ = put_back j.call_since

-- ---- types and conditions

abbrev pub make_type : Span → Scalar → Makes Ty
make_type statement type = by_walk (walk_parts.walk_type statement type)

abbrev pub make_condition : Span → Tree → Makes Typed
make_condition statement a = by_walk (walk_parts.walk_condition statement a)

-- ---- parameters and results of calls

abbrev pub make_parameter : Parameter → Bound → Makes (List ℕ)
make_parameter p (ToQubits s) = after (declare p.name (Alias s)) (λ _. gives [])
make_parameter p (ToValue type) =
    after next_cell (λ c.
    after (declare p.name (Variable type c)) (λ _.
    after (take_typed type) (λ _.
    gives (cells_from c type))))

-- the parameters in text order, with the cells of those that are values
abbrev pub make_parameters : List Parameter → List Bound → Makes (List ℕ)
make_parameters [] bs = gives []
make_parameters (p ∷ ps) [] = gives []
make_parameters (p ∷ ps) (b ∷ bs) =
    after (make_parameter p b) (λ cs.
    after (make_parameters ps bs) (λ ds.
    gives (cs ++ ds)))

abbrev pub enter_made_body : List ℕ → Makes (Unit {0})
enter_made_body name = in_scopes (λ scopes. Sealed (seen_by name scopes) scopes)

abbrev pub take_result : Option Ty → Makes ℕ
take_result None = next_cell
take_result (Some type) = take_typed type

-- ---- statements

abbrev pub Maker : Type 0
Maker = Position → Jumps → Statements → Makes Bool

abbrev pub no_return : Makes (Unit {0}) → Makes Bool
no_return part = after part (λ _. gives false)

-- ---- loops

-- the body of a loop, which knows the cell that is next where it begins
abbrev pub LoopBody : Type 0
LoopBody = ℕ → Makes Bool

abbrev pub make_loop_body : LoopBody → Makes Bool
make_loop_body body = after next_cell (λ c. in_scope (body c))

abbrev pub make_copies : (ℤ → Makes Bool) → List ℤ → Makes (Unit {0})
make_copies copy [] = gives tt
make_copies copy (z ∷ zs) = after (copy z) (λ _. make_copies copy zs)

-- a copy of the body of a static `for`: a block where the body has jumps of this loop
abbrev pub make_copy : Span → Name → Bool → LoopBody → ℤ → Makes Bool
make_copy statement name has_jumps body z =
    after (spend statement 1) (λ _.
    after (either has_jumps (spend_joint statement) (gives tt)) (λ _.
    in_scope (after (in_scopes (Named name.text (Fixed (whole z)))) (λ _. wrapped (block_where has_jumps) (make_loop_body body)))))

-- all copies: where the body has jumps of this loop, and there is a copy, a block that `break` leaves
abbrev pub has_copies : List ℤ → Bool
has_copies [] = false
has_copies (z ∷ zs) = true

abbrev pub make_all_copies : Span → Name → Bool → LoopBody → List ℤ → Makes (Unit {0})
make_all_copies statement name has_jumps body zs = wrapped (block_where (has_jumps && has_copies zs)) (make_copies (make_copy statement name has_jumps body) zs)

-- the body of a running `for`, with its variable and its three cells
abbrev pub make_turns : Span → Name → Ty → ℤ → Expr → Expr → LoopBody → Makes (Unit {0})
make_turns statement name type step start stop body =
    in_scope (
    after next_cell (λ c.
    after (declare name (Counter type c)) (λ _.
    after (take_cells 3 NumberKind) (λ _.
    after (spend_joint statement) (λ _.
    after (wrapped (for_core step c start stop) (make_loop_body body)) (λ _.
    gives tt))))))

abbrev pub step_by : OpenScopes Held → Maybe → ℤ
step_by scopes step = value_or (step_walk (means_in scopes) step).answer (pos 1)

abbrev pub make_range : Span → Scalar → Name → Tree → Maybe → Tree → (is_used has_jumps : Bool) → (copied turned : LoopBody) → Makes (Unit {0})
make_range statement type name start step stop is_used has_jumps copied turned =
    after (walks statement (λ scopes. counter_type_walk (means_in scopes) type)) (λ to.
    looking (λ scopes. either (is_static is_used (means_in scopes) start step stop)
    (after (charged statement (static_range_walk (means_in scopes) to start step stop)) (make_all_copies statement name has_jumps copied))
    (after (charged statement (running_range_walk (means_in scopes) (types_in scopes) type to start step stop)) (λ _.
    make_turns statement name to (step_by scopes step) (single_part (cast_in scopes false to start)) (single_part (cast_in scopes false to stop)) turned))))

abbrev pub make_set : Span → Scalar → Name → Trees → (has_jumps : Bool) → (copied : LoopBody) → Makes (Unit {0})
make_set statement type name as' has_jumps copied =
    after (walks statement (λ scopes. counter_type_walk (means_in scopes) type)) (λ to.
    after (walks statement (λ scopes. bounds_walk (means_in scopes) to as')) (make_all_copies statement name has_jumps copied))

-- ---- branches

abbrev pub make_branches : Span → Expr → Makes Bool → Makes Bool → Typed → Makes Bool
make_branches statement test taken other (Exactly c) = either (is_true c) taken other
make_branches statement test taken other (Computed type) =
    after (spend_joint statement) (λ _.
    after (captured taken) (λ r.
    after (captured other) (λ s.
    after (emit (If test r.1 s.1)) (λ _.
    gives (r.0 && s.0)))))

module _ (expand : Expands) (lists : Lists) (deeper : Option Maker) where
  abbrev pub make_body : Position → Jumps → Statements → Makes Bool
  make_body p j body = of deeper
    where
      of : Option Maker → Makes Bool
      of None = gives true
      of (Some maker) = maker p j body

  -- a called body, whose cells are put back at its end
  abbrev pub make_called : Position → Jumps → Statements → Makes Bool
  make_called p j body =
      after (make_body p j body) (λ returns.
      after (put_back j.call_since) (λ _.
      gives returns))

  -- a call, with what its result is and the first of the cells that it stands in behind the call
  abbrev pub make_call : Span → Position → Jumps → Bool → List ℕ → Trees → Span → Makes (Option Ty × ℕ)
  make_call statement p j wanted name as' place =
      after (walks statement (λ scopes. at_once (call_binding_walk wanted p.opened scopes name as' place))) (λ b.
      after (walks statement (λ scopes. arguments_walk (means_in scopes) (types_in scopes) as' b.bound)) (λ _.
      after (use_wires (wires_of_arguments as' b.bound)) (λ _.
      looking (λ callers.
      after (enter_made_body name) (λ _.
      after (take_result b.result) (λ r.
      after next_cell (λ first.
      after (make_parameters (b.subroutine).params b.bound) (λ cells.
      after (spend_joint statement) (λ _.
      after (emits (assigned (zip cells (arguments_in callers as' b.bound)))) (λ _.
      after (wrapped (block_where true) (make_called (in_called_body name b.result p) (call_jumps r first j) (b.subroutine).body)) (λ returns.
      where_right (not (has_result b.subroutine) || returns) ReturnMissing (b.subroutine).close (
      after (in_scopes close) (λ _.
      gives (b.result, r))))))))))))))

  -- the value of a call, cast to the type of what it is stored in
  abbrev pub make_result : Span → Ty → Span → Option Ty × ℕ → Makes Origin
  make_result statement to place r = of r.0
    where
      of : Option Ty → Makes Origin
      of None = gives (of_parts [])
      of (Some type) = after (charged statement (cast_walk to place (Computed type))) (λ _. gives (of_cells type r.1 to))

  -- an expression that is stored, or a call
  abbrev pub make_stored : Span → Position → Jumps → Bool → Ty → Tree → Makes Origin
  make_stored statement p j exact to (call name as' place) = after (make_call statement p j true name as' place) (λ r. make_result statement to place r)
  make_stored statement p j exact to a =
      after (walks statement (λ scopes. cast_expr_walk (means_in scopes) (types_in scopes) exact to a)) (λ _.
      looking (λ scopes. gives (of_parts (cast_in scopes exact to a))))

  -- a declared variable with its initial value; the value of an angle leaves no remainders
  abbrev pub make_initial : Span → Position → Jumps → Name → Ty → Option Value → Makes (Unit {0})
  make_initial statement p j name type None = make_zero_variable statement name type
  make_initial statement p j name type (Some (expression a)) =
      after (make_stored statement p j (is_angle type) type a) (λ origin. make_stored_variable statement name type origin)
  make_initial statement p j name type (Some (measured o)) = after (make_acted statement o) (λ s. make_measured_variable statement name type s)

  abbrev pub emit_target : Operand → Origin → Makes (Unit {0})
  emit_target target origin = looking (λ scopes. emits (assigned (stored (target_cells scopes target) origin)))

  abbrev pub make_assigned : Span → Position → Jumps → Operand → Option BinaryOp → Value → Makes (Unit {0})
  make_assigned statement p j target None (expression a) =
      after (walks statement (λ scopes. target_walk false scopes target)) (λ type.
      after (make_stored statement p j false type a) (λ origin.
      emit_target target origin))
  make_assigned statement p j target (Some o) (expression a) =
      after (walks statement (λ scopes. changed_walk scopes target o a)) (λ _.
      looking (λ scopes. emit_target target (of_parts (cast_in scopes false (type_of_target scopes target) (changed target o a)))))
  make_assigned statement p j target _ (measured o) = make_measured_target statement target o

  -- the value of a call by itself is dropped
  abbrev pub drop_result : Option Ty × ℕ → Makes (Unit {0})
  drop_result r = of r.0
    where
      of : Option Ty → Makes (Unit {0})
      of None = gives tt
      of (Some type) = emits (assigned (zeros_from r.1 type))

  abbrev pub make_invoked : Span → Position → Jumps → Tree → Makes (Unit {0})
  make_invoked statement p j (call name as' place) = after (make_call statement p j false name as' place) drop_result
  make_invoked statement p j a = refuses CallPlace (place_of a)

  abbrev mutual
    pub make_statement : Position → Jumps → Statement → Makes Bool
    make_statement p j (include place close) = where_right p.at_top DeclarationPlace place (no_return (make_include place))
    make_statement p j (qubits type name place close) =
        where_right p.at_top DeclarationPlace place (
        after (walks place (λ scopes. qubits_walk (means_in scopes) false type.width)) (λ q.
        no_return (make_new_qubits name q.0 q.1)))
    make_statement p j (variable type name value place close) =
        after (make_type place type) (λ to. no_return (make_initial place p j name to value))
    make_statement p j (constant type name a place close) = no_return (make_const place type name a)
    make_statement p j (output type name place close) =
        where_right p.at_top OutputPlace place (
        after (make_type place type) (λ to.
        after (make_zero_variable place name to) (λ _.
        no_return (changes (λ w. record w { outputs = w.outputs ++ name.text ∷ [] })))))
    make_statement p j (alias name os place close) = no_return (make_alias place name os)
    make_statement p j (gate name params qs body place close) =
        where_right p.at_top DeclarationPlace place (no_return (declare name (DefinedGate (record { params = params; qubits = qs; body = body }))))
    make_statement p j (subroutine name params result body place close) =
        where_right p.at_top DeclarationPlace place (
        no_return (declare name (DefinedSubroutine (record { params = params; result = result; body = body; close = close }))))
    make_statement p j (gate_call changed name as' os place close) = no_return (make_gate_call expand lists place changed name as' os)
    make_statement p j (barrier os place close) = after (by_walk (declarations.walk_operands place os)) (λ ss. gives false)
    make_statement p j (reset o place close) = after (make_acted place o) (λ s. after (emits (resets_of s.items)) (λ _. gives false))
    make_statement p j (measurement o target place close) = no_return (make_measurement place o target)
    make_statement p j (assign target o value place close) = no_return (make_assigned place p j target o value)
    make_statement p j (invoke a place close) = no_return (make_invoked place p j a)
    make_statement p j (branch a taken other place close) =
        looking (λ scopes.
        after (make_condition place a) (make_branches place (condition_in scopes a) (in_scope (make_statements (below p) j taken)) (in_scope (make_statements (below p) j other))))
    make_statement p j (while a body place close) =
        looking (λ scopes.
        after (make_condition place a) (λ _.
        after (spend_joint place) (λ _.
        after (wrapped (while_core (condition_in scopes a)) (make_loop_body (λ c. make_statements (in_loop_body p) (loop_jumps c j) body))) (λ _.
        gives false))))
    make_statement p j (for_range type name start step stop body place close) =
        no_return (make_range place type name start step stop (are_fixed_in name.text body) (any_jumps body)
        (λ c. make_statements (in_loop_body p) (copy_jumps (any_jumps body) c j) body)
        (λ c. make_statements (in_loop_body p) (loop_jumps c j) body))
    make_statement p j (for_set type name as' body place close) =
        no_return (make_set place type name as' (any_jumps body) (λ c. make_statements (in_loop_body p) (copy_jumps (any_jumps body) c j) body))
    make_statement p j (break place close) =
        where_right p.in_loop LoopPlace place (no_return (after (spend_cells place) (λ _. after (put_back j.loop_since) (λ _. emit (jump j.break_to)))))
    make_statement p j (continue place close) =
        where_right p.in_loop LoopPlace place (no_return (after (spend_cells place) (λ _. after (put_back j.loop_since) (λ _. emit (jump j.continue_to)))))
    make_statement p j (end place close) =
        after (spend_cells place) (λ _.
        after (changes (λ w. record w { ends = w.ends + 1 })) (λ _.
        after (put_back j.end_since) (λ _.
        after (emit (Leave j.end_to)) (λ _.
        gives true))))
    make_statement p j (give value place close) =
        where_right (returns_right p.within value) ReturnPlace place (
        after (make_returned place j p.within value) (λ _.
        after (spend_cells place) (λ _.
        after (emit (Leave j.return_to)) (λ _.
        gives true))))
    make_statement p j cut_off = gives false

    pub make_statements : Position → Jumps → Statements → Makes Bool
    make_statements p j no_statement = gives false
    make_statements p j (a_statement s ss) =
        after (spend (place_of_statement s) 1) (λ _.
        after next_cell (λ c.
        after (make_statement p (global_jumps p.at_top c j) s) (λ r.
        after (make_statements p j ss) (λ returns.
        gives (r || returns)))))

-- the elaboration where so many calls may be open
abbrev pub makes_at : Expands → Lists → ℕ → Maker
makes_at expand lists zero = make_statements expand lists None
makes_at expand lists (suc n) = make_statements expand lists (Some (makes_at expand lists n))
