-- What an expression or an operand is depends on what the names in it mean, and on no other name.
use Rattle.std.specs.Prelude.{◌≡◌, ℕ, ◌<◌, Bool, true, List, length, is_some, Result}
use Rattle.qq_base.specs.declared.refusal.Span.{Span}
use Rattle.qq_base.specs.declared.rule.Rule.{Rule}
use Rattle.qq_base.specs.declared.run.QubitId.{QubitId}
use Rattle.qasm_ast.specs.declared.expr.Base.{Base}
use Rattle.qasm_ast.specs.Tree.{Called, Tree, Maybe, Brackets, Operand}
use Rattle.qasm_ast.specs.Whole.{Source, IsProgram}
use Rattle.qasm_ast.specs.View.{number_of, tree_in}
use Rattle.qasm_types.specs.declared.ty.Ty.{Ty}
use Rattle.alias_resolve.specs.Places.{Selected}
use Rattle.const_eval.specs.Meaning.{Meaning}
use Rattle.const_eval.specs.IsConstant.{is_constant}
use Rattle.const_eval.specs.ConstValue.{constant_value}
use Rattle.const_eval.specs.ConstantWalk.{constant_walk, whole_walk, indexes_walk, type_walk, qubits_walk}
use Rattle.const_eval.specs.ExprWalk.{expr_walk}
use Rattle.const_eval.specs.Operands.{operand_walk}
use Rattle.const_eval.specs.Values.{TypedValue, evaluated}
use Rattle.expr_names.specs.Names.{CalledIs, NamesAre, WidthNamesAre, BracketNamesAre, OperandNamesAre}

-- two ways to say what names are, where they agree on each name of the kind
abbrev pub Agree : {A : Type 0} → (List ℕ → Bool) → (List ℕ → A) → (List ℕ → A) → Type 0
Agree is f g = (text : List ℕ) → is text ≡ true → f text ≡ g text

-- `is` says which names stand in a tree, and `means` and `other` what names mean
module _ (is : List ℕ → Bool) (means other : List ℕ → Meaning) where
  pub record ConstantsRestOnNames : Type 0 where
    pub constancy : (a : Tree) → NamesAre is a → is_constant means a ≡ is_constant other a
    pub value : (exact : Bool) (a : Tree) → NamesAre is a → constant_value means exact a ≡ constant_value other exact a
    pub walk : (exact : Bool) (a : Tree) → NamesAre is a → constant_walk means exact a ≡ constant_walk other exact a
    pub whole : (exact : Bool) (a : Tree) → NamesAre is a → whole_walk means exact a ≡ whole_walk other exact a
    pub indexes : (exact : Bool) (index : Brackets) → BracketNamesAre is index → indexes_walk means exact index ≡ indexes_walk other exact index
    pub type : (exact : Bool) (base : Base) (place : Span) (width : Maybe) → WidthNamesAre is width → type_walk means exact base place width ≡ type_walk other exact base place width
    pub qubits : (exact : Bool) (width : Maybe) → WidthNamesAre is width → qubits_walk means exact width ≡ qubits_walk other exact width

  -- the walk of an expression, where the types of run-time values agree too
  abbrev pub WalksRestOnNames : Type 0
  WalksRestOnNames = (types others : List ℕ → Ty) → Agree is types others
      → (exact : Bool) (a : Tree) → NamesAre is a → expr_walk means types exact a ≡ expr_walk other others exact a

  -- its value in a run, where the values of names agree too
  abbrev pub ValuesRestOnNames : Type 0
  ValuesRestOnNames = (held others : List ℕ → TypedValue) → Agree is held others
      → (a : Tree) → NamesAre is a → evaluated means held a ≡ evaluated other others a

  -- and an operand, where the qubits that names stand for agree too
  abbrev pub OperandsRestOnNames : Type 0
  OperandsRestOnNames = (qubits others : Called → Result (Selected QubitId) Rule) → ((name : Called) → CalledIs is name → qubits name ≡ others name)
      → (o : Operand) → OperandNamesAre is o → operand_walk means qubits o ≡ operand_walk other others o

-- ---- the names of a program

-- a text is the name with some number
abbrev pub is_name_of : Source → List ℕ → Bool
is_name_of p text = is_some (number_of p.names text)

-- each name in an expression of a program is one of the program's
abbrev pub TreesNameTheirNames : Type 0
TreesNameTheirNames = (p : Source) → IsProgram p → (id : ℕ) → id < length p.exprs → NamesAre (is_name_of p) (tree_in p id)
