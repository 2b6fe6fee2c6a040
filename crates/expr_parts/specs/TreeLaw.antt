-- The parts of an expression that the walk accepts have the cells of its value, in each store that agrees with the values of names.
use Rattle.std.specs.Prelude.{◌≡◌, ℕ, Bool, true, false, List, map, Option, Ok}
use Rattle.qasm_ast.specs.Tree.{Tree, unary, binary, cast}
use Rattle.qasm_types.specs.Types.{IsType}
use Rattle.qasm_types.specs.Values.{IsValueOf}
use Rattle.core_ir.specs.Tree.{Expr}
use Rattle.core_ir.specs.Run.{Cells, value_of}
use Rattle.const_eval.specs.Constant.{Constant}
use Rattle.const_eval.specs.ConstValue.{constant_value}
use Rattle.const_eval.specs.ExprWalk.{expr_walk}
use Rattle.const_eval.specs.IsConstant.{is_constant}
use Rattle.const_eval.specs.Meaning.{Meaning}
use Rattle.const_eval.specs.Typed.{Typed, type_of}
use Rattle.const_eval.specs.Values.{TypedValue, evaluated}
use Rattle.expr_parts.specs.declared.environment.Variable.{Variable}
use Rattle.expr_parts.specs.Cells.{cells_of_typed}
use Rattle.expr_parts.specs.Variables.{Agrees, AreMeant}
use Rattle.expr_parts.specs.TreeParts.{types_by, parts_of}

-- each constant that the elaboration meets in a tree is a value of its type
module _ (means : List ℕ → Meaning) (exact : Bool) where
  abbrev pub IsSound : Tree → Type 0
  IsSound a = is_constant means a ≡ true → (c : Constant) → constant_value means exact a ≡ Ok c → IsType c.type × IsValueOf c.type c.value

  abbrev pub AreSound : Tree → Type 0
  AreSound (unary o a place) = IsSound (unary o a place) × (is_constant means (unary o a place) ≡ false → AreSound a)
  AreSound (binary o a b place) = IsSound (binary o a b place) × (is_constant means (binary o a b place) ≡ false → AreSound a × AreSound b)
  AreSound (cast base width type_place a place) = IsSound (cast base width type_place a place) × (is_constant means (cast base width type_place a place) ≡ false → AreSound a)
  AreSound a = IsSound a

abbrev pub TreePartsHaveValues : Type 0
TreePartsHaveValues = (means : List ℕ → Meaning) (variable : List ℕ → Option Variable) (exact : Bool) (held : List ℕ → TypedValue) (cells : Cells) (a : Tree) (known : Typed)
    → AreMeant means variable → Agrees means variable held cells → AreSound means exact a → (expr_walk means (types_by means variable exact) exact a).answer ≡ Ok known
    → ((evaluated means held a).type ≡ type_of known) × (map (λ (e : Expr). value_of e cells) (parts_of means variable exact a) ≡ cells_of_typed (evaluated means held a))
