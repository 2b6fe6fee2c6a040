-- The walk of statements: the first rule that a program breaks, in the order of its text, and what the program costs.
--
-- An `if` with a constant condition is its taken branch. Any other branch, and the body of a `while` or a running `for`, is walked
-- once; a static `for` once per value; a called body once per call. A definition is entered under its name and not walked.
use Rattle.std.specs.Prelude.{ℕ, zero, suc, ◌+◌, Bool, true, false, not, ◌&&◌, ◌||◌, List, [], ◌∷◌, ◌++◌, length, ℤ, pos, Option, Some, None, Result, Ok}
use Rattle.qq_base.specs.declared.refusal.Refusal.{Refusal}
use Rattle.qq_base.specs.declared.refusal.Span.{Span}
use Rattle.qq_base.specs.declared.rule.Rule.TheVariants.{TypeMismatch, ReturnMissing, ReturnPlace, LoopPlace, CallPlace, OutputPlace, DeclarationPlace}
use Rattle.qasm_ast.specs.declared.expr.BinaryOp.{BinaryOp}
use Rattle.qasm_ast.specs.Tree.{Tree, call, Trees, no_tree, a_tree, Maybe, Name, Scalar, Operand, Value, expression, measured, Change, Statement, include, qubits, variable, constant, output, alias, gate, subroutine, gate_call, barrier, reset, measurement, assign, invoke, branch, while, for_range, for_set, break, continue, end, give, cut_off, Statements, no_statement, a_statement, place_of, place_of_statement}
use Rattle.qasm_types.specs.declared.ty.Ty.{Ty}
use Rattle.qasm_types.specs.Types.{cells_of}
use Rattle.scope_env.specs.OpenScopes.{OpenScopes, Named, close}
use Rattle.const_eval.specs.Constant.{Constant, whole}
use Rattle.const_eval.specs.Refusing.{where_allowed}
use Rattle.const_eval.specs.Walk.{Walk, asked, done, then_walk, at_once}
use Rattle.const_eval.specs.ConstantWalk.{type_walk, qubits_walk}
use Rattle.const_eval.specs.ConstantPlaces.{is_static}
use Rattle.const_eval.specs.Selecting.{type_of_selected}
use Rattle.const_eval.specs.Typed.{Typed, Exactly, Computed, is_angle}
use Rattle.const_eval.specs.ExprWalk.{expr_walk, cast_walk, cast_expr_walk}
use Rattle.const_eval.specs.Operands.{wires_of_all}
use Rattle.const_eval.specs.Ranges.{condition_walk, is_true, counter_type_walk, bounds_walk, static_range_walk, running_range_walk}
use Rattle.const_eval.specs.Things.{Fixed, Counter, DefinedGate, DefinedSubroutine, Known, means_in, types_in}
use Rattle.const_eval.specs.Binding.{call_binding_walk, arguments_walk, wires_of_arguments, has_result}
use Rattle.source_meaning.specs.ConstantUses.{are_fixed_in, any_jumps}
use Rattle.source_meaning.specs.Walked.{Walks, gives, refuses, after, where_right, either, looking, changes, charged, walks, spend, spend_cells, spend_joint, count_sites, use_wires, in_scopes, in_scope}
use Rattle.source_meaning.specs.GateCalls.{Expands, turn}
use Rattle.source_meaning.specs.Declarations.{declare, enter_parameters, enter_body, walk_include, walk_new_qubits, walk_const, walk_operands, walk_alias}
use Rattle.source_meaning.specs.Targets.{walk_acted, walk_variable, walk_measured_variable, target_walk, walk_measured_target, walk_measurement, changed_walk}

-- ---- where a statement stands

-- in no subroutine, or in one with or without a result
pub data Within : Type 0 where
  NoSubroutine : Within
  InSubroutine : (result : Option Ty) → Within

pub record Position : Type 0 where
  pub at_top : Bool
  pub in_loop : Bool
  pub within : Within
  -- the subroutines whose calls are open
  pub opened : List (List ℕ)

abbrev pub top_level : Position
top_level = record { at_top = true; in_loop = false; within = NoSubroutine; opened = [] }

abbrev pub below : Position → Position
below p = record p { at_top = false }

abbrev pub in_loop_body : Position → Position
in_loop_body p = record p { at_top = false; in_loop = true }

abbrev pub in_called_body : List ℕ → Option Ty → Position → Position
in_called_body name result p = record { at_top = false; in_loop = false; within = InSubroutine result; opened = name ∷ p.opened }

-- ---- gate calls

-- an argument is a constant, or has a turn: it is an `angle[n]`
abbrev pub gate_argument : Span → Typed → Result Constant Refusal
gate_argument place (Exactly c) = Ok c
gate_argument place (Computed type) = where_allowed (is_angle type) TypeMismatch place (Ok (turn (pos 0)))

abbrev pub gate_arguments_walk : OpenScopes Known → Trees → Walk (List Constant)
gate_arguments_walk scopes no_tree = done []
gate_arguments_walk scopes (a_tree a as') =
    then_walk (expr_walk (means_in scopes) (types_in scopes) true a) (λ x.
    then_walk (asked (gate_argument (place_of a) x)) (λ y.
    then_walk (gate_arguments_walk scopes as') (λ ys.
    done (y ∷ ys))))

-- `expand` gives the walk of the instructions of a call
abbrev pub walk_gate_call : Expands → Span → List Change → Name → Trees → List Operand → Walks (Unit {0})
walk_gate_call expand statement changed name as' os =
    after (walks statement (λ scopes. gate_arguments_walk scopes as')) (λ values.
    after (walks statement (λ scopes. expand scopes (record { changes = changed; name = name; arguments = as'; values = values; operands = os }))) (λ instructions.
    after (count_sites (length instructions)) (λ _.
    use_wires (wires_of_all os))))

-- ---- `return`

-- there is a value exactly where the subroutine has a result
abbrev pub returns_right : Within → Option Value → Bool
returns_right NoSubroutine value = false
returns_right (InSubroutine None) None = true
returns_right (InSubroutine (Some type)) (Some value) = true
returns_right (InSubroutine _) _ = false

-- the value is cast to the result's type
abbrev pub walk_returned : Span → Within → Option Value → Walks (Unit {0})
walk_returned statement (InSubroutine (Some type)) (Some (expression a)) =
    after (walks statement (λ scopes. cast_expr_walk (means_in scopes) (types_in scopes) false type a)) (λ _.
    spend statement (cells_of type))
walk_returned statement (InSubroutine (Some type)) (Some (measured o)) =
    after (walk_acted statement o) (λ s.
    after (charged statement (cast_walk type o.place (Computed (type_of_selected s)))) (λ _.
    spend statement (cells_of type)))
walk_returned statement _ _ = gives tt

-- ---- types and conditions

abbrev pub walk_type : Span → Scalar → Walks Ty
walk_type statement type = walks statement (λ scopes. type_walk (means_in scopes) false type.base type.place type.width)

abbrev pub walk_condition : Span → Tree → Walks Typed
walk_condition statement a = walks statement (λ scopes. condition_walk (means_in scopes) (types_in scopes) a)

-- ---- statements

-- A list of statements gives whether it returns on every way: a statement of it does. `return` and `end` do, an `if` does where
-- both its branches do, or its one taken branch; loops do not.
abbrev pub Walker : Type 0
Walker = Position → Statements → Walks Bool

abbrev pub no_return : Walks (Unit {0}) → Walks Bool
no_return part = after part (λ _. gives false)

abbrev pub copies_each : (ℤ → Walks Bool) → List ℤ → Walks (Unit {0})
copies_each copy [] = gives tt
copies_each copy (z ∷ zs) = after (copy z) (λ _. copies_each copy zs)

-- One copy of the body of a static `for`, with its variable as a constant. Where the body has a `break` or a `continue` of this loop, the
-- ways of the copy join behind it.
abbrev pub walk_copy : Span → Name → Bool → Walks Bool → ℤ → Walks Bool
walk_copy statement name has_jumps body z =
    after (spend statement 1) (λ _.
    after (either has_jumps (spend_joint statement) (gives tt)) (λ _.
    in_scope (after (in_scopes (Named name.text (Fixed (whole z)))) (λ _. in_scope body))))

-- the body of a running `for`, with its variable and its three cells
abbrev pub walk_turns : Span → Name → Ty → Walks Bool → Walks (Unit {0})
walk_turns statement name type body =
    in_scope (
    after (declare name (Counter type tt)) (λ _.
    after (spend_joint statement) (λ _.
    after (in_scope body) (λ _.
    gives tt))))

-- A `for` over a range, static or running. `is_used` says that its variable is used in a constant place of its body.
abbrev pub walk_range : Span → Scalar → Name → Tree → Maybe → Tree → (is_used has_jumps : Bool) → Walks Bool → Walks (Unit {0})
walk_range statement type name start step stop is_used has_jumps body =
    after (walks statement (λ scopes. counter_type_walk (means_in scopes) type)) (λ to.
    looking (λ scopes. either (is_static is_used (means_in scopes) start step stop)
    (after (charged statement (static_range_walk (means_in scopes) to start step stop)) (copies_each (walk_copy statement name has_jumps body)))
    (after (charged statement (running_range_walk (means_in scopes) (types_in scopes) type to start step stop)) (λ _.
    walk_turns statement name to body))))

-- a `for` over a set, which is static
abbrev pub walk_set : Span → Scalar → Name → Trees → (has_jumps : Bool) → Walks Bool → Walks (Unit {0})
walk_set statement type name as' has_jumps body =
    after (walks statement (λ scopes. counter_type_walk (means_in scopes) type)) (λ to.
    after (walks statement (λ scopes. bounds_walk (means_in scopes) to as')) (λ zs.
    copies_each (walk_copy statement name has_jumps body) zs))

-- the taken branch, or both
abbrev pub walk_branches : Span → Walks Bool → Walks Bool → Typed → Walks Bool
walk_branches statement taken other (Exactly c) = either (is_true c) taken other
walk_branches statement taken other (Computed type) =
    after (spend_joint statement) (λ _. after taken (λ r. after other (λ s. gives (r && s))))

module _ (expand : Expands) (deeper : Option Walker) where
  -- A called body is walked by `deeper`. There is none where no more calls may be open, and a call is refused there before its body is
  -- walked.
  abbrev pub walk_body : Position → Statements → Walks Bool
  walk_body p body = of deeper
    where
      of : Option Walker → Walks Bool
      of None = gives true
      of (Some walker) = walker p body

  -- a call, and what its result is
  abbrev pub walk_call : Span → Position → Bool → List ℕ → Trees → Span → Walks (Option Ty)
  walk_call statement p wanted name as' place =
      after (walks statement (λ scopes. at_once (call_binding_walk wanted p.opened scopes name as' place))) (λ b.
      after (walks statement (λ scopes. arguments_walk (means_in scopes) (types_in scopes) as' b.bound)) (λ _.
      after (use_wires (wires_of_arguments as' b.bound)) (λ _.
      after (enter_body name) (λ _.
      after (enter_parameters (b.subroutine).params b.bound) (λ _.
      after (spend_joint statement) (λ _.
      after (walk_body (in_called_body name b.result p) (b.subroutine).body) (λ returns.
      where_right (not (has_result b.subroutine) || returns) ReturnMissing (b.subroutine).close (
      after (in_scopes close) (λ _.
      gives b.result)))))))))

  -- the value of a call, cast to the type of what it is stored in
  abbrev pub walk_result : Span → Ty → Span → Option Ty → Walks (Unit {0})
  walk_result statement to place None = gives tt
  walk_result statement to place (Some type) = after (charged statement (cast_walk to place (Computed type))) (λ _. gives tt)

  -- an expression that is stored, or a call
  abbrev pub walk_stored : Span → Position → Bool → Ty → Tree → Walks (Unit {0})
  walk_stored statement p exact to (call name as' place) = after (walk_call statement p true name as' place) (λ type. walk_result statement to place type)
  walk_stored statement p exact to a = after (walks statement (λ scopes. cast_expr_walk (means_in scopes) (types_in scopes) exact to a)) (λ _. gives tt)

  -- a declared variable with its initial value; the value of an angle leaves no remainders
  abbrev pub walk_initial : Span → Position → Name → Ty → Option Value → Walks (Unit {0})
  walk_initial statement p name type None = walk_variable statement name type
  walk_initial statement p name type (Some (expression a)) = after (walk_stored statement p (is_angle type) type a) (λ _. walk_variable statement name type)
  walk_initial statement p name type (Some (measured o)) = after (walk_acted statement o) (λ s. walk_measured_variable statement name type s)

  abbrev pub walk_assigned : Span → Position → Operand → Option BinaryOp → Value → Walks (Unit {0})
  walk_assigned statement p target None (expression a) = after (walks statement (λ scopes. target_walk false scopes target)) (λ type. walk_stored statement p false type a)
  walk_assigned statement p target (Some o) (expression a) = walks statement (λ scopes. changed_walk scopes target o a)
  walk_assigned statement p target _ (measured o) = walk_measured_target statement target o

  abbrev pub walk_invoked : Span → Position → Tree → Walks (Unit {0})
  walk_invoked statement p (call name as' place) = after (walk_call statement p false name as' place) (λ _. gives tt)
  -- the expression of a call by itself is one, as the invariant of `Program` says
  walk_invoked statement p a = refuses CallPlace (place_of a)

  abbrev mutual
    -- a statement behind its 1
    pub walk_statement : Position → Statement → Walks Bool
    walk_statement p (include place close) = where_right p.at_top DeclarationPlace place (no_return (walk_include place))
    walk_statement p (qubits type name place close) =
        where_right p.at_top DeclarationPlace place (
        after (walks place (λ scopes. qubits_walk (means_in scopes) false type.width)) (λ q.
        no_return (walk_new_qubits name q.0 q.1)))
    walk_statement p (variable type name value place close) =
        after (walk_type place type) (λ to. no_return (walk_initial place p name to value))
    walk_statement p (constant type name a place close) = no_return (walk_const place type name a)
    walk_statement p (output type name place close) =
        where_right p.at_top OutputPlace place (
        after (walk_type place type) (λ to.
        after (walk_variable place name to) (λ _.
        no_return (changes (λ w. record w { outputs = w.outputs ++ name.text ∷ [] })))))
    walk_statement p (alias name os place close) = no_return (walk_alias place name os)
    walk_statement p (gate name params qs body place close) =
        where_right p.at_top DeclarationPlace place (no_return (declare name (DefinedGate (record { params = params; qubits = qs; body = body }))))
    walk_statement p (subroutine name params result body place close) =
        where_right p.at_top DeclarationPlace place (
        no_return (declare name (DefinedSubroutine (record { params = params; result = result; body = body; close = close }))))
    walk_statement p (gate_call changed name as' os place close) = no_return (walk_gate_call expand place changed name as' os)
    walk_statement p (barrier os place close) = after (walk_operands place os) (λ ss. gives false)
    walk_statement p (reset o place close) = after (walk_acted place o) (λ s. gives false)
    walk_statement p (measurement o target place close) = no_return (walk_measurement place o target)
    walk_statement p (assign target o value place close) = no_return (walk_assigned place p target o value)
    walk_statement p (invoke a place close) = no_return (walk_invoked place p a)
    walk_statement p (branch a taken other place close) =
        after (walk_condition place a) (walk_branches place (in_scope (walk_statements (below p) taken)) (in_scope (walk_statements (below p) other)))
    walk_statement p (while a body place close) =
        after (walk_condition place a) (λ _.
        after (spend_joint place) (λ _.
        after (in_scope (walk_statements (in_loop_body p) body)) (λ _.
        gives false)))
    walk_statement p (for_range type name start step stop body place close) =
        no_return (walk_range place type name start step stop (are_fixed_in name.text body) (any_jumps body) (walk_statements (in_loop_body p) body))
    walk_statement p (for_set type name as' body place close) =
        no_return (walk_set place type name as' (any_jumps body) (walk_statements (in_loop_body p) body))
    walk_statement p (break place close) = where_right p.in_loop LoopPlace place (no_return (spend_cells place))
    walk_statement p (continue place close) = where_right p.in_loop LoopPlace place (no_return (spend_cells place))
    walk_statement p (end place close) = after (spend_cells place) (λ _. after (changes (λ w. record w { ends = w.ends + 1 })) (λ _. gives true))
    walk_statement p (give value place close) =
        where_right (returns_right p.within value) ReturnPlace place (
        after (walk_returned place p.within value) (λ _.
        after (spend_cells place) (λ _.
        gives true)))
    walk_statement p cut_off = gives false

    pub walk_statements : Position → Statements → Walks Bool
    walk_statements p no_statement = gives false
    walk_statements p (a_statement s ss) =
        after (spend (place_of_statement s) 1) (λ _.
        after (walk_statement p s) (λ r.
        after (walk_statements p ss) (λ returns.
        gives (r || returns))))

-- the walk where so many calls may be open
abbrev pub walk_at : Expands → ℕ → Walker
walk_at expand zero = walk_statements expand None
walk_at expand (suc n) = walk_statements expand (Some (walk_at expand n))
