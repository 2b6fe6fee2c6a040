-- What the elaboration makes of the values that statements have: expressions over the cells of the names in the open scopes, and stores of
-- them.
use Rattle.std.specs.Prelude.{ℕ, ◌+◌, Bool, false, List, [], ◌∷◌, ◌++◌, map, zip, Option, Some, None}
use Rattle.qq_base.specs.declared.run.QubitId.{QubitId}
use Rattle.qasm_ast.specs.Tree.{Called, word, qubit, Tree, Trees, a_tree, Brackets, no_bracket, a_bracket, Operand}
use Rattle.qasm_types.specs.declared.ty.Ty.{Ty}
use Rattle.qasm_types.specs.declared.ty.Ty.TheVariants as t
use Rattle.alias_resolve.specs.Places.{Selected, positions_of}
use Rattle.core_ir.specs.Tree.{Expr, Cell}
use Rattle.scope_env.specs.OpenScopes.{OpenScopes, find}
use Rattle.const_eval.specs.ConstantWalk.{indexes_walk}
use Rattle.const_eval.specs.Selecting.{bits_of_type, type_of_selected}
use Rattle.const_eval.specs.Typed.{Typed}
use Rattle.const_eval.specs.Things.{Variable, Counter, means_in}
use Rattle.const_eval.specs.Values.{value_or, no_items}
use Rattle.const_eval.specs.Binding.{Bound, ToValue, ToQubits}
use Rattle.cell_exprs.specs.Parts.{single_part, cast_parts}
use Rattle.expr_parts.specs.declared.environment.Variable.{Variable as Place}
use Rattle.expr_parts.specs.TreeParts.{cast_typed_parts, typed_by, parts_of}
use Rattle.source_core.specs.Core.{Reset, Measure, Body, no_core, a_core}
use Rattle.source_core.specs.Cells.{Held, cells_from, zeros_from}

-- ---- the cells of names

abbrev pub place_of_thing : Option Held → Option Place
place_of_thing (Some (Variable type c)) = Some (record { ty = type; first = c })
place_of_thing (Some (Counter type c)) = Some (record { ty = type; first = c })
place_of_thing _ = None

abbrev pub cells_read : List ℕ → List Expr
cells_read cells = map (λ (c : ℕ). Cell c) cells

-- ---- expressions

module _ (scopes : OpenScopes Held) where
  abbrev pub place_in : List ℕ → Option Place
  place_in text = place_of_thing (find text scopes)

  -- the parts of an expression, and what is known of it before the run
  abbrev pub parts_in : Bool → Tree → List Expr
  parts_in exact a = parts_of (means_in scopes) place_in exact a

  abbrev pub typed_in : Bool → Tree → Typed
  typed_in exact a = typed_by (means_in scopes) place_in exact a

  -- the parts of an expression that is cast to a type
  abbrev pub cast_in : Bool → Ty → Tree → List Expr
  cast_in exact to a = cast_typed_parts (typed_in exact a) (parts_in exact a) to

  abbrev pub condition_in : Tree → Expr
  condition_in a = single_part (cast_in false t.Bool a)

  -- the value arguments, cast to their parameters' types, one behind the other
  abbrev pub arguments_in : Trees → List Bound → List Expr
  arguments_in (a_tree a as') (ToValue type ∷ bs) = cast_in false type a ++ arguments_in as' bs
  arguments_in (a_tree a as') (ToQubits s ∷ bs) = arguments_in as' bs
  arguments_in _ _ = []

  -- ---- targets

  -- the places that a target's brackets select of n
  abbrev pub places_by : ℕ → Brackets → Selected ℕ
  places_by n index = value_or (positions_of n (value_or (indexes_walk (means_in scopes) false index).answer [])) no_items

  abbrev pub cells_by : Brackets → Ty → ℕ → List ℕ
  cells_by no_bracket type c = cells_from c type
  cells_by (a_bracket b bs) type c = map (λ (p : ℕ). c + p) (places_by (bits_of_type type) (a_bracket b bs)).items

  abbrev pub type_by : Brackets → Ty → Ty
  type_by no_bracket type = type
  type_by (a_bracket b bs) type = type_of_selected (places_by (bits_of_type type) (a_bracket b bs))

  abbrev pub target_cells_of : Brackets → Option Held → List ℕ
  target_cells_of index (Some (Variable type c)) = cells_by index type c
  target_cells_of index _ = []

  -- the cells of what is assigned, in order: of two that are one the later is stored
  abbrev pub target_cells : Operand → List ℕ
  target_cells o = of o.name
    where
      of : Called → List ℕ
      of (word text) = target_cells_of o.index (find text scopes)
      of (qubit n) = []

  abbrev pub target_type_of : Brackets → Option Held → Ty
  target_type_of index (Some (Variable type c)) = type_by index type
  target_type_of index _ = t.Bool

  abbrev pub type_of_target : Operand → Ty
  type_of_target o = of o.name
    where
      of : Called → Ty
      of (word text) = target_type_of o.index (find text scopes)
      of (qubit n) = t.Bool

-- ---- what is stored

-- The parts of a value that is stored, and the cells in which it was kept until then, with zeros: they are put back where it is stored.
pub record Origin : Type 0 where
  pub parts : List Expr
  pub kept : List (ℕ × Expr)

abbrev pub of_parts : List Expr → Origin
of_parts parts = record { parts = parts; kept = [] }

-- a value that is kept in cells of its own, cast to a type
abbrev pub of_cells : Ty → ℕ → Ty → Origin
of_cells type c to = record { parts = cast_parts type to (cells_read (cells_from c type)); kept = zeros_from c type }

-- a value and the cells that it goes to
abbrev pub stored : List ℕ → Origin → List (ℕ × Expr)
stored cells origin = zip cells origin.parts ++ origin.kept

-- ---- qubits

-- each qubit into its cell
abbrev pub measured_into : List QubitId → List ℕ → Body
measured_into (q ∷ qs) (c ∷ cs) = a_core (Measure q (Some c)) (measured_into qs cs)
measured_into qs cs = no_core

abbrev pub measured_only : List QubitId → Body
measured_only [] = no_core
measured_only (q ∷ qs) = a_core (Measure q None) (measured_only qs)

abbrev pub resets_of : List QubitId → Body
resets_of [] = no_core
resets_of (q ∷ qs) = a_core (Reset q) (resets_of qs)
