-- Serves private contracts: what the elaboration makes of an expression, as a function on its tree. The parts of an expression are one
-- expression over cells for each cell of its type. Where the walk of the expression is refused they mean nothing.
use Rattle.std.specs.Prelude.{ℕ, Bool, ◌||◌, if◌then◌else◌, List, [], map, unsigned_abs, Option, Some, None}
use Rattle.std.specs.List.{range_with_len}
use Rattle.qq_base.specs.declared.refusal.Span.{Span}
use Rattle.qasm_ast.specs.declared.expr.Base.{Base}
use Rattle.qasm_ast.specs.declared.expr.BinaryOp.{BinaryOp}
use Rattle.qasm_ast.specs.declared.expr.UnaryOp.{UnaryOp}
use Rattle.qasm_ast.specs.Tree.{Called, word, qubit, Tree, named, unary, binary, cast, Maybe, Brackets, no_bracket, a_bracket}
use Rattle.qasm_types.specs.declared.ty.Ty.{Ty}
use Rattle.qasm_types.specs.declared.ty.Ty.TheVariants as t
use Rattle.qasm_types.specs.Types.{cells_of}
use Rattle.qasm_types.specs.Operators.{group_of}
use Rattle.qasm_types.specs.Plans.{unary_plan}
use Rattle.qasm_types.specs.Values.{Value, taken}
use Rattle.qasm_types.specs.Values as value
use Rattle.alias_resolve.specs.Places.{items_at, positions_of}
use Rattle.core_ir.specs.Tree.{Expr, Cell}
use Rattle.const_eval.specs.Constant.{Constant}
use Rattle.const_eval.specs.ConstOperators.{Row}
use Rattle.const_eval.specs.ConstantWalk.{indexes_walk, type_walk}
use Rattle.const_eval.specs.ExprWalk.{expr_walk}
use Rattle.const_eval.specs.Meaning.{Meaning, Held, Running}
use Rattle.const_eval.specs.Selecting.{bits_of_type}
use Rattle.const_eval.specs.Typed.{Typed, Exactly, Computed, type_of, whole_of_typed, divides, shifts, row_for}
use Rattle.const_eval.specs.Values.{or_zero, value_or, no_items}
use Rattle.cell_exprs.specs.Parts.{fixed_parts, cast_parts, applied_parts, scaled_parts, unary_parts}
use Rattle.expr_parts.specs.declared.environment.Variable.{Variable}
use Rattle.expr_parts.specs.Variables.{type_of_variable}

-- a whole constant and a fraction of pi have no cells
abbrev pub parts_at : Ty → Value → List Expr
parts_at t.Whole x = []
parts_at t.Pi x = []
parts_at type x = fixed_parts x

abbrev pub constant_parts : Constant → List Expr
constant_parts c = parts_at c.type c.value

-- the cells of a variable
abbrev pub variable_parts : Variable → List Expr
variable_parts v = map (λ (c : ℕ). Cell c) (range_with_len v.first (cells_of v.ty))

abbrev pub meant_parts : Meaning → Option Variable → List Expr
meant_parts (Held c) v = constant_parts c
meant_parts Running (Some v) = variable_parts v
meant_parts _ v = []

-- a constant is worth its own parts, whatever its tree is
abbrev pub settled_parts : Typed → List Expr → List Expr
settled_parts (Exactly c) parts = constant_parts c
settled_parts (Computed type) parts = parts

-- an operand at the type at which an operator takes it; a constant is taken before the run
abbrev pub taken_parts : Typed → List Expr → Ty → List Expr
taken_parts (Exactly c) parts type = fixed_parts (or_zero type (taken c.type c.value type))
taken_parts (Computed a) parts type = cast_parts a type parts

-- a value cast to a type
abbrev pub cast_typed_parts : Typed → List Expr → Ty → List Expr
cast_typed_parts (Exactly c) parts to = parts_at to (or_zero to (value.cast c.type c.value to))
cast_typed_parts (Computed a) parts to = cast_parts a to parts

-- an operator by its row: a divisor and an amount are whole constants
abbrev pub operator_parts : BinaryOp → Row → Typed → List Expr → Typed → List Expr → List Expr
operator_parts o None a xs b ys = []
operator_parts o (Some row) a xs b ys =
    if divides (group_of o) || shifts (group_of o)
    then scaled_parts o row.2 (taken_parts a xs row.0) (unsigned_abs (whole_of_typed b))
    else applied_parts o row.0 row.2 (taken_parts a xs row.0) (taken_parts b ys row.1)

abbrev pub unary_typed_parts : UnaryOp → Option Ty → Typed → List Expr → List Expr
unary_typed_parts o None a xs = []
unary_typed_parts o (Some m) a xs = unary_parts o (type_of a) m xs

-- `means` says what each name means, `variable` which variable it is, and `exact` forbids remainders of whole constants
module _ (means : List ℕ → Meaning) (variable : List ℕ → Option Variable) (exact : Bool) where
  abbrev pub types_by : List ℕ → Ty
  types_by text = type_of_variable (variable text)

  -- what the walk knows of an expression
  abbrev pub typed_by : Tree → Typed
  typed_by a = value_or (expr_walk means types_by exact a).answer (Computed t.Bool)

  abbrev pub written_by : Base → Span → Maybe → Ty
  written_by base place width = value_or (type_walk means exact base place width).answer t.Bool

  abbrev pub name_parts : Called → List Expr
  name_parts (word text) = meant_parts (means text) (variable text)
  name_parts (qubit n) = []

  abbrev pub name_type : Called → Ty
  name_type (word text) = types_by text
  name_type (qubit n) = t.Bool

  -- what brackets select of a register's parts
  abbrev pub selected_parts : Ty → Brackets → List Expr → List Expr
  selected_parts type no_bracket parts = parts
  selected_parts type (a_bracket b bs) parts =
      items_at parts (value_or (positions_of (bits_of_type type) (value_or (indexes_walk means exact (a_bracket b bs)).answer [])) no_items).items

  abbrev pub parts_of : Tree → List Expr
  parts_of (named name index operand place) =
      settled_parts (typed_by (named name index operand place)) (selected_parts (name_type name) index (name_parts name))
  parts_of (unary o a place) =
      settled_parts (typed_by (unary o a place)) (unary_typed_parts o (unary_plan o (type_of (typed_by a)) (whole_of_typed (typed_by a))) (typed_by a) (parts_of a))
  parts_of (binary o a b place) =
      settled_parts (typed_by (binary o a b place)) (operator_parts o (row_for o (typed_by a) (typed_by b)) (typed_by a) (parts_of a) (typed_by b) (parts_of b))
  parts_of (cast base width type_place a place) =
      settled_parts (typed_by (cast base width type_place a place)) (cast_typed_parts (typed_by a) (parts_of a) (written_by base type_place width))
  parts_of a = settled_parts (typed_by a) []
