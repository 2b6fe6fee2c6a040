-- How tall expressions are, and what holds of every expression of a program.
--
-- A chain of operators of one level is a tree that leans to the left: it is as tall as the chain is long. So the height of
-- an expression is bounded by its levels and by the limit on chains together.
use Rattle.std.specs.Prelude.{ℕ, suc, max, List, [], ◌∷◌, Option, Some, None}
use Rattle.qasm_ast.specs.Tree.{Tree, named, wire, number, truth, bit_string, unary, binary, cast, call, cut, Trees, no_tree, a_tree, Maybe, absent, present, Bracket, position, range, members, Brackets, no_bracket, a_bracket, Scalar, Operand, Value, expression, measured, Change, inverse, power, control, Parameter, Statement, include, qubits, variable, constant, output, alias, gate, subroutine, gate_call, barrier, reset, measurement, assign, invoke, branch, while, for_range, for_set, break, continue, end, give, cut_off, Statements, no_statement, a_statement}

abbrev mutual
  -- the number of nodes on the longest way down
  pub height_of : Tree → ℕ
  height_of (named name index place place') = suc (brackets_height index)
  height_of (wire n place) = 1
  height_of (number n place) = 1
  height_of (truth b place) = 1
  height_of (bit_string bs place) = 1
  height_of (unary o a place) = suc (height_of a)
  height_of (binary o a b place) = suc (max (height_of a) (height_of b))
  height_of (cast base width place a place') = suc (max (maybe_height width) (height_of a))
  height_of (call name as' place) = suc (trees_height as')
  height_of cut = 0

  pub trees_height : Trees → ℕ
  trees_height no_tree = 0
  trees_height (a_tree a as') = max (height_of a) (trees_height as')

  pub maybe_height : Maybe → ℕ
  maybe_height absent = 0
  maybe_height (present a) = height_of a

  pub bracket_height : Bracket → ℕ
  bracket_height (position a) = height_of a
  bracket_height (range start step stop place) = max (maybe_height start) (max (maybe_height step) (maybe_height stop))
  bracket_height (members as') = trees_height as'

  pub brackets_height : Brackets → ℕ
  brackets_height no_bracket = 0
  brackets_height (a_bracket b bs) = max (bracket_height b) (brackets_height bs)

-- it holds of each of these
abbrev pub Each : {A : Type 0} → (A → Type 0) → List A → Type 0
Each P [] = Unit {0}
Each P (a ∷ as') = P a × Each P as'

abbrev pub IfSome : {A : Type 0} → (A → Type 0) → Option A → Type 0
IfSome P None = Unit {0}
IfSome P (Some a) = P a

-- P holds of every expression, of the parts of statements first
module _ (P : Tree → Type 0) where
  abbrev pub EveryTree : Trees → Type 0
  EveryTree no_tree = Unit {0}
  EveryTree (a_tree a as') = P a × EveryTree as'

  abbrev pub EveryMaybe : Maybe → Type 0
  EveryMaybe absent = Unit {0}
  EveryMaybe (present a) = P a

  abbrev pub EveryBracket : Bracket → Type 0
  EveryBracket (position a) = P a
  EveryBracket (range start step stop place) = EveryMaybe start × EveryMaybe step × EveryMaybe stop
  EveryBracket (members as') = EveryTree as'

  abbrev pub EveryBrackets : Brackets → Type 0
  EveryBrackets no_bracket = Unit {0}
  EveryBrackets (a_bracket b bs) = EveryBracket b × EveryBrackets bs

  abbrev pub EveryScalar : Scalar → Type 0
  EveryScalar type = EveryMaybe type.width

  abbrev pub EveryOperand : Operand → Type 0
  EveryOperand o = EveryBrackets o.index

  abbrev pub EveryValue : Value → Type 0
  EveryValue (expression a) = P a
  EveryValue (measured o) = EveryOperand o

  abbrev pub EveryParameter : Parameter → Type 0
  EveryParameter p = EveryScalar p.type

  abbrev pub EveryChange : Change → Type 0
  EveryChange (inverse place) = Unit {0}
  EveryChange (power a place) = P a
  EveryChange (control a place) = EveryMaybe a

  abbrev mutual
    pub EveryOf : Statement → Type 0
    EveryOf (include place close) = Unit {0}
    EveryOf (qubits type name place close) = EveryScalar type
    EveryOf (variable type name value place close) = EveryScalar type × IfSome EveryValue value
    EveryOf (constant type name a place close) = EveryScalar type × P a
    EveryOf (output type name place close) = EveryScalar type
    EveryOf (alias name os place close) = Each EveryOperand os
    EveryOf (gate name params qs body place close) = Every body
    EveryOf (subroutine name params result body place close) = Each EveryParameter params × IfSome EveryScalar result × Every body
    EveryOf (gate_call changes name as' os place close) = Each EveryChange changes × EveryTree as' × Each EveryOperand os
    EveryOf (barrier os place close) = Each EveryOperand os
    EveryOf (reset o place close) = EveryOperand o
    EveryOf (measurement o target place close) = EveryOperand o × IfSome EveryOperand target
    EveryOf (assign target o value place close) = EveryOperand target × EveryValue value
    EveryOf (invoke a place close) = P a
    EveryOf (branch a taken other place close) = P a × Every taken × Every other
    EveryOf (while a body place close) = P a × Every body
    EveryOf (for_range type name start step stop body place close) = EveryScalar type × P start × EveryMaybe step × P stop × Every body
    EveryOf (for_set type name as' body place close) = EveryScalar type × EveryTree as' × Every body
    EveryOf (break place close) = Unit {0}
    EveryOf (continue place close) = Unit {0}
    EveryOf (end place close) = Unit {0}
    EveryOf (give value place close) = IfSome EveryValue value
    EveryOf cut_off = Unit {0}

    pub Every : Statements → Type 0
    Every no_statement = Unit {0}
    Every (a_statement s ss) = EveryOf s × Every ss
