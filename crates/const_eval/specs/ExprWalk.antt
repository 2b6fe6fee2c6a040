-- The walk of an expression: what is known of it before the run, or the first rule that it breaks, with what its nodes
-- cost. The operands of an operator come before its own rules, and a node's cost behind them. A constant expression that is
-- no part of a larger one is worth its constant; its nodes are one sum behind that.
--
-- An expression declares no name, so its walk is one over what names mean. The walk of the statement in which it stands adds
-- its cost to the sums of the program.
use Rattle.std.specs.Prelude.{ℕ, ◌+◌, Bool, not, ◌&&◌, List, pos, Result, Ok}
use Rattle.qq_base.specs.declared.refusal.Refusal.{Refusal}
use Rattle.qq_base.specs.declared.refusal.Span.{Span}
use Rattle.qq_base.specs.declared.rule.Rule.TheVariants.{Unknown, WrongKind, NoCast}
use Rattle.qasm_ast.specs.declared.expr.BinaryOp.{BinaryOp}
use Rattle.qasm_ast.specs.Tree.{Called, word, qubit, Tree, named, unary, binary, cast, Brackets, no_bracket, a_bracket, place_of}
use Rattle.qasm_types.specs.declared.ty.Ty.{Ty}
use Rattle.qasm_types.specs.Operators.{group_of}
use Rattle.qasm_types.specs.Types.{cells_of}
use Rattle.qasm_types.specs.Plans.{casts}
use Rattle.const_eval.specs.Meaning.{Meaning, Held, Running, OtherThing, Nothing}
use Rattle.const_eval.specs.Refusing.{refused}
use Rattle.const_eval.specs.Walk.{Walk, asked, done, behind, then_walk, walk_where, either_walk}
use Rattle.const_eval.specs.IsConstant.{is_constant}
use Rattle.const_eval.specs.ConstCast.{cast_of_constant}
use Rattle.const_eval.specs.ConstOperators.{binary_result}
use Rattle.const_eval.specs.ConstantWalk.{constant_walk, indexes_walk, type_walk}
use Rattle.const_eval.specs.Selecting.{is_indexed, is_register_type, selected_places, type_of_selected}
use Rattle.const_eval.specs.Typed.{Typed, Exactly, Computed, is_power, operator_type, unary_type, cast_cost}

-- a node that is no constant counts 1 and the cells of its type, behind its rules
abbrev pub computed_node : Ty → Walk Typed
computed_node type = behind (1 + cells_of type) (done (Computed type))

-- the type of the value that a name means, where `type` is that of a run-time value
abbrev pub type_of_meaning : Span → Ty → Meaning → Result Ty Refusal
type_of_meaning place type (Held c) = Ok c.type
type_of_meaning place type Running = Ok type
type_of_meaning place type OtherThing = refused WrongKind place
type_of_meaning place type Nothing = refused Unknown place

-- an operator, with the places of the expression and of its operands
abbrev pub operator_walk : BinaryOp → Span → Typed → Span → Typed → Span → Walk Typed
operator_walk o place a left b right = then_walk (asked (operator_type o place a left b right)) computed_node

-- A value cast to a type, with the place at which the rules of the cast stand. The cost of the cast comes behind them.
abbrev pub cast_walk : Ty → Span → Typed → Walk Typed
cast_walk to place (Exactly c) =
    then_walk (asked (cast_of_constant c to place)) (λ d.
    behind (cast_cost c.type to) (done (Exactly d)))
cast_walk to place (Computed from) =
    walk_where (casts from (pos 0) to) NoCast place (
    behind (cast_cost from to) (done (Computed to)))

-- `means` says what each name means, `types` of which type each run-time value is, and `exact` forbids remainders of whole
-- constants
module _ (means : List ℕ → Meaning) (types : List ℕ → Ty) (exact : Bool) where
  -- ---- names

  -- the type of the value that a name stands for; a qubit is none
  abbrev pub type_of_name : Span → Called → Result Ty Refusal
  type_of_name place (word text) = type_of_meaning place (types text) (means text)
  type_of_name place (qubit n) = refused WrongKind place

  -- behind the node of the name: its brackets, and the node of what they select
  abbrev pub selected_walk : Span → Ty → Brackets → Walk Typed
  selected_walk place type no_bracket = done (Computed type)
  selected_walk place type (a_bracket b bs) =
      then_walk (indexes_walk means exact (a_bracket b bs)) (λ values.
      then_walk (asked (selected_places place (a_bracket b bs) type values)) (λ places.
      computed_node (type_of_selected places)))

  abbrev pub name_walk : Called → Brackets → Span → Walk Typed
  name_walk name index place =
      then_walk (asked (type_of_name place name)) (λ type.
      walk_where (not (is_indexed index && not (is_register_type type))) WrongKind place (
      then_walk (computed_node type) (λ _.
      selected_walk place type index)))

  -- ---- expressions

  -- a constant expression
  abbrev pub exactly_walk : Tree → Walk Typed
  exactly_walk a = then_walk (constant_walk means exact a) (λ c. done (Exactly c))

  -- a constant expression is worth its constant; another is walked by its parts
  abbrev pub by_parts : Tree → Walk Typed → Walk Typed
  by_parts a parts = either_walk (is_constant means a) (exactly_walk a) parts

  -- both operands of `**` are constant, and so is the power
  abbrev pub power_walk : BinaryOp → Span → Tree → Tree → Walk Typed
  power_walk o place a b =
      then_walk (constant_walk means exact a) (λ x.
      then_walk (constant_walk means exact b) (λ y.
      then_walk (asked (binary_result exact o place x (place_of a) y (place_of b))) (λ c.
      done (Exactly c))))

  abbrev pub expr_walk : Tree → Walk Typed
  expr_walk (named name index operand place) = by_parts (named name index operand place) (name_walk name index place)
  expr_walk (unary o a place) =
      by_parts (unary o a place) (
      then_walk (expr_walk a) (λ x.
      then_walk (asked (unary_type o place x)) computed_node))
  expr_walk (binary o a b place) =
      by_parts (binary o a b place) (
      either_walk (is_power (group_of o)) (power_walk o place a b) (
      then_walk (expr_walk a) (λ x.
      then_walk (expr_walk b) (λ y.
      operator_walk o place x (place_of a) y (place_of b)))))
  expr_walk (cast base width type_place a place) =
      by_parts (cast base width type_place a place) (
      then_walk (type_walk means exact base type_place width) (λ type.
      then_walk (expr_walk a) (λ x.
      then_walk (cast_walk type place x) (λ _.
      computed_node type))))
  -- a literal is constant, and a call may stand in no expression: it is refused as in a constant
  expr_walk a = exactly_walk a

  -- an expression that is cast to a type: the rules of the cast stand at the expression
  abbrev pub cast_expr_walk : Ty → Tree → Walk Typed
  cast_expr_walk to a = then_walk (expr_walk a) (λ x. cast_walk to (place_of a) x)
