-- The variables that names mean, and stores of cells that agree with the values of names.
use Rattle.std.specs.Prelude.{◌≡◌, ℕ, ◌+◌, ◌<◌, List, length, drop, take, slice_get, nat_eq, Option, Some, None}
use Rattle.std.specs.Map.{lookup}
use Rattle.std.specs.Option.{option_and_then}
use Rattle.qasm_ast.specs.Whole.{Source}
use Rattle.qasm_ast.specs.View.{number_of}
use Rattle.qasm_types.specs.declared.ty.Ty.{Ty}
use Rattle.qasm_types.specs.declared.ty.Ty.TheVariants as t
use Rattle.qasm_types.specs.Types.{cells_of}
use Rattle.qasm_types.specs.Values.{IsValueOf}
use Rattle.core_ir.specs.declared.expression.CellKind.{CellKind}
use Rattle.core_ir.specs.Run.{Cells}
use Rattle.const_eval.specs.Meaning.{Meaning, Held, Running, OtherThing, Nothing}
use Rattle.const_eval.specs.Values.{TypedValue}
use Rattle.expr_parts.specs.declared.environment.Variable.{Variable}
use Rattle.cell_exprs.specs.CellValues.{cells_of_value, kind_of_type}
use Rattle.cell_exprs.specs.Laws.{IsInCells}

-- the variable that the name with this text means, if it means one
abbrev pub variable_in : Source → List (ℕ × Variable) → List ℕ → Option Variable
variable_in p variables text = option_and_then (λ n. lookup (nat_eq n) variables) (number_of p.names text)

-- its type; of any other name no walk asks it, and `bool` stands for it
abbrev pub type_of_variable : Option Variable → Ty
type_of_variable None = t.Bool
type_of_variable (Some v) = v.ty

abbrev pub types_in : Source → List (ℕ × Variable) → List ℕ → Ty
types_in p variables text = type_of_variable (variable_in p variables text)

-- ---- what is asked of an environment

-- the cells of a variable are there, from its first on, and are of its type's kind
pub record VariableFits (cells : List CellKind) (v : Variable) : Type 0 where
  pub type : IsInCells v.ty
  pub there : (k : ℕ) → k < cells_of v.ty → slice_get cells (v.first + k) ≡ Some (kind_of_type v.ty)

-- a name is that of a variable exactly where it means a run-time value
abbrev pub NameFits : List CellKind → Option Meaning → Option Variable → Type 0
NameFits cells (Some Running) (Some v) = VariableFits cells v
NameFits cells (Some Running) None = ⊥
NameFits cells _ (Some v) = ⊥
NameFits cells _ None = Unit {0}

abbrev pub HasVariables : Source → List CellKind → List (ℕ × Meaning) → List (ℕ × Variable) → Type 0
HasVariables p cells names variables = (n : ℕ) → n < length p.names → NameFits cells (lookup (nat_eq n) names) (lookup (nat_eq n) variables)

-- the variables that names mean have types whose values are in cells
abbrev pub IsMeant : Meaning → Option Variable → Type 0
IsMeant (Held c) v = Unit {0}
IsMeant Running (Some v) = IsInCells v.ty
IsMeant Running None = ⊥
IsMeant OtherThing v = Unit {0}
IsMeant Nothing v = Unit {0}

abbrev pub AreMeant : (List ℕ → Meaning) → (List ℕ → Option Variable) → Type 0
AreMeant means variable = (text : List ℕ) → IsMeant (means text) (variable text)

-- ---- stores

-- the cells of a variable have the value of its name
pub record HasItsValue (store : Cells) (v : Variable) (x : TypedValue) : Type 0 where
  pub type : x.type ≡ v.ty
  pub value : IsValueOf v.ty x.value
  pub cells : take (cells_of v.ty) (drop v.first store) ≡ cells_of_value x.value

abbrev pub NameAgrees : Meaning → Option Variable → Cells → TypedValue → Type 0
NameAgrees (Held c) v cells x = x ≡ c
NameAgrees Running (Some v) cells x = HasItsValue cells v x
NameAgrees Running None cells x = Unit {0}
NameAgrees OtherThing v cells x = Unit {0}
NameAgrees Nothing v cells x = Unit {0}

-- A store agrees with the values of names: the name of a constant has its value, and the cells of a variable have that of its name.
abbrev pub Agrees : (List ℕ → Meaning) → (List ℕ → Option Variable) → (List ℕ → TypedValue) → Cells → Type 0
Agrees means variable held cells = (text : List ℕ) → NameAgrees (means text) (variable text) cells (held text)
