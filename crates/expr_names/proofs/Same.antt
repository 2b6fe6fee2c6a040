-- Definitions on expressions give the same where what names mean agrees on the names that stand there.
use Rattle.std.proofs.Common.{◌≡◌, ℕ, Bool, true, false, not, ◌&&◌, List, refl, ap, Result, Ok, Err}
use Rattle.qq_base.specs.declared.refusal.Refusal.{Refusal}
use Rattle.qq_base.specs.declared.refusal.Span.{Span}
use Rattle.qasm_ast.specs.declared.expr.Base.{Base}
use Rattle.qasm_ast.specs.Tree.{Called, word, qubit, Tree, named, wire, number, truth, bit_string, unary, binary, cast, call, cut, Trees, no_tree, a_tree, Maybe, absent, present, Bracket, position, range, members, Brackets, no_bracket, a_bracket, place_of}
use Rattle.qasm_types.specs.declared.ty.Ty.{Ty}
use Rattle.const_eval.specs.Meaning.{Meaning, is_held}
use Rattle.const_eval.specs.IsConstant.{is_called_constant, is_constant, are_constant, is_constant_maybe, is_constant_bracket, are_constant_brackets}
use Rattle.const_eval.specs.ConstValue.{called_constant, value, written_type, index_values, index_value, end_value, member_values, constant_value}
use Rattle.const_eval.specs.ConstantWalk.{constant_walk, whole_walk, end_walk, members_walk, index_walk, indexes_walk, type_walk, qubits_walk}
use Rattle.const_eval.specs.Walk.{Walk, asked, then_walk, walk_where}
use Rattle.const_eval.specs.Typed.{Typed}
use Rattle.const_eval.specs.Selecting.{is_indexed, is_register_type}
use Rattle.qasm_ast.specs.declared.expr.BinaryOp.{BinaryOp}
use Rattle.qq_base.specs.declared.rule.Rule.TheVariants.{WrongKind}
use Rattle.const_eval.specs.ExprWalk.{computed_node, by_parts, type_of_name, selected_walk, name_walk, exactly_walk, power_walk, expr_walk}
use Rattle.const_eval.specs.Values.{TypedValue, constant_or, indexed, value_of_name, evaluated}
use Rattle.expr_names.specs.Names.{CalledIs, NamesAre, AllNamesAre, WidthNamesAre, IndexNamesAre, BracketNamesAre}
use Rattle.expr_names.specs.Laws.{Agree, ConstantsRestOnNames, WalksRestOnNames, ValuesRestOnNames, OperandsRestOnNames}

-- a walk, and what is made of its answer
then_same : {A B : Type 0} (w : Walk A) (f g : A → Walk B) → ((a : A) → f a ≡ g a) → then_walk w f ≡ then_walk w g
then_same {A = A} w f g same = by w.answer
  where
    by : (answer : Result A Refusal) → then_walk (record { cost = w.cost; answer = answer }) f ≡ then_walk (record { cost = w.cost; answer = answer }) g
    by (Ok a) = rw (same a) refl
    by (Err e) = refl

module _ (known : List ℕ → Bool) (means other : List ℕ → Meaning) (agree : Agree known means other) where
  -- ---- which are constant

  called_constancy : (name : Called) → CalledIs known name → is_called_constant means name ≡ is_called_constant other name
  called_constancy (word text) is = ap is_held (agree text is)
  called_constancy (qubit n) is = refl

  mutual
    constancy : (a : Tree) → NamesAre known a → is_constant means a ≡ is_constant other a
    constancy (named name index o place) is = rw (called_constancy name is.0, brackets_constancy index is.1) refl
    constancy (wire n place) is = refl
    constancy (number n place) is = refl
    constancy (truth b place) is = refl
    constancy (bit_string bits place) is = refl
    constancy (unary o a place) is = constancy a is
    constancy (binary o a b place) is = rw (constancy a is.0, constancy b is.1) refl
    constancy (cast base width type_place a place) is = rw (maybe_constancy width is.0, constancy a is.1) refl
    constancy (call name as' place) is = refl
    constancy cut is = refl

    all_constancy : (as' : Trees) → AllNamesAre known as' → are_constant means as' ≡ are_constant other as'
    all_constancy no_tree is = refl
    all_constancy (a_tree a as') is = rw (constancy a is.0, all_constancy as' is.1) refl

    maybe_constancy : (a : Maybe) → WidthNamesAre known a → is_constant_maybe means a ≡ is_constant_maybe other a
    maybe_constancy absent is = refl
    maybe_constancy (present a) is = constancy a is

    bracket_constancy : (b : Bracket) → IndexNamesAre known b → is_constant_bracket means b ≡ is_constant_bracket other b
    bracket_constancy (position a) is = constancy a is
    bracket_constancy (range start step stop place) is = rw (maybe_constancy start is.0, maybe_constancy step is.1, maybe_constancy stop is.2) refl
    bracket_constancy (members as') is = all_constancy as' is

    brackets_constancy : (bs : Brackets) → BracketNamesAre known bs → are_constant_brackets means bs ≡ are_constant_brackets other bs
    brackets_constancy no_bracket is = refl
    brackets_constancy (a_bracket b bs) is = rw (bracket_constancy b is.0, brackets_constancy bs is.1) refl

  -- ---- what constants are worth

  module _ (exact : Bool) where
    module _ (whole_place : Span) where
      called_same : (place : Span) (name : Called) → CalledIs known name → called_constant means whole_place place name ≡ called_constant other whole_place place name
      called_same place (word text) is = rw (agree text is) refl
      called_same place (qubit n) is = refl

      mutual
        value_same : (a : Tree) → NamesAre known a → value means exact whole_place a ≡ value other exact whole_place a
        value_same (named name index o place) is = rw (called_same place name is.0, index_values_same index is.1) refl
        value_same (wire n place) is = refl
        value_same (number n place) is = refl
        value_same (truth b place) is = refl
        value_same (bit_string bits place) is = refl
        value_same (unary o a place) is = rw (value_same a is) refl
        value_same (binary o a b place) is = rw (value_same a is.0, value_same b is.1) refl
        value_same (cast base width type_place a place) is = rw (written_same base type_place width is.0, value_same a is.1) refl
        value_same (call name as' place) is = rw (agree name is.0) refl
        value_same cut is = refl

        written_same : (base : Base) (place : Span) (width : Maybe) → WidthNamesAre known width → written_type means exact whole_place base width place ≡ written_type other exact whole_place base width place
        written_same base place absent is = refl
        written_same base place (present a) is = rw (value_same a is) refl

        index_values_same : (bs : Brackets) → BracketNamesAre known bs → index_values means exact whole_place bs ≡ index_values other exact whole_place bs
        index_values_same no_bracket is = refl
        index_values_same (a_bracket b bs) is = rw (index_value_same b is.0, index_values_same bs is.1) refl

        index_value_same : (b : Bracket) → IndexNamesAre known b → index_value means exact whole_place b ≡ index_value other exact whole_place b
        index_value_same (position a) is = rw (value_same a is) refl
        index_value_same (range start step stop place) is = rw (end_value_same start is.0, end_value_same step is.1, end_value_same stop is.2) refl
        index_value_same (members as') is = rw (member_values_same as' is) refl

        end_value_same : (a : Maybe) → WidthNamesAre known a → end_value means exact whole_place a ≡ end_value other exact whole_place a
        end_value_same absent is = refl
        end_value_same (present a) is = rw (value_same a is) refl

        member_values_same : (as' : Trees) → AllNamesAre known as' → member_values means exact whole_place as' ≡ member_values other exact whole_place as'
        member_values_same no_tree is = refl
        member_values_same (a_tree a as') is = rw (value_same a is.0, member_values_same as' is.1) refl

    -- ---- walks of constants

    constant_same : (a : Tree) → NamesAre known a → constant_value means exact a ≡ constant_value other exact a
    constant_same a is = value_same (place_of a) a is

    constant_walk_same : (a : Tree) → NamesAre known a → constant_walk means exact a ≡ constant_walk other exact a
    constant_walk_same a is = rw (constant_same a is) refl

    whole_walk_same : (a : Tree) → NamesAre known a → whole_walk means exact a ≡ whole_walk other exact a
    whole_walk_same a is = rw (constant_same a is) refl

    end_walk_same : (a : Maybe) → WidthNamesAre known a → end_walk means exact a ≡ end_walk other exact a
    end_walk_same absent is = refl
    end_walk_same (present a) is = rw (constant_same a is) refl

    members_walk_same : (as' : Trees) → AllNamesAre known as' → members_walk means exact as' ≡ members_walk other exact as'
    members_walk_same no_tree is = refl
    members_walk_same (a_tree a as') is = rw (whole_walk_same a is.0, members_walk_same as' is.1) refl

    index_walk_same : (b : Bracket) → IndexNamesAre known b → index_walk means exact b ≡ index_walk other exact b
    index_walk_same (position a) is = rw (constant_same a is) refl
    index_walk_same (range start step stop place) is = rw (end_walk_same start is.0, end_walk_same step is.1, end_walk_same stop is.2) refl
    index_walk_same (members as') is = rw (members_walk_same as' is) refl

    indexes_walk_same : (bs : Brackets) → BracketNamesAre known bs → indexes_walk means exact bs ≡ indexes_walk other exact bs
    indexes_walk_same no_bracket is = refl
    indexes_walk_same (a_bracket b bs) is = rw (index_walk_same b is.0, indexes_walk_same bs is.1) refl

    type_walk_same : (base : Base) (place : Span) (width : Maybe) → WidthNamesAre known width → type_walk means exact base place width ≡ type_walk other exact base place width
    type_walk_same base place absent is = refl
    type_walk_same base place (present a) is = rw (constant_same a is) refl

    qubits_walk_same : (width : Maybe) → WidthNamesAre known width → qubits_walk means exact width ≡ qubits_walk other exact width
    qubits_walk_same absent is = refl
    qubits_walk_same (present a) is = rw (constant_same a is) refl

  pub constants_rest : ConstantsRestOnNames known means other
  constants_rest = record {
    constancy = constancy;
    value = constant_same;
    walk = constant_walk_same;
    whole = whole_walk_same;
    indexes = indexes_walk_same;
    type = type_walk_same;
    qubits = qubits_walk_same;
  }

  -- ---- walks of expressions

  module _ (types others : List ℕ → Ty) (alike : Agree known types others) (exact : Bool) where
    name_type_same : (place : Span) (name : Called) → CalledIs known name → type_of_name means types exact place name ≡ type_of_name other others exact place name
    name_type_same place (word text) is = rw (agree text is, alike text is) refl
    name_type_same place (qubit n) is = refl

    selected_walk_same : (place : Span) (type : Ty) (bs : Brackets) → BracketNamesAre known bs → selected_walk means types exact place type bs ≡ selected_walk other others exact place type bs
    selected_walk_same place type no_bracket is = refl
    selected_walk_same place type (a_bracket b bs) is = rw (indexes_walk_same exact (a_bracket b bs) is) refl

    exactly_walk_same : (a : Tree) → NamesAre known a → exactly_walk means types exact a ≡ exactly_walk other others exact a
    exactly_walk_same a is = rw (constant_same exact a is) refl

    by_parts_same : (a : Tree) → NamesAre known a → (parts theirs : Walk Typed) → parts ≡ theirs → by_parts means types exact a parts ≡ by_parts other others exact a theirs
    by_parts_same a is parts theirs e = rw (constancy a is, constant_same exact a is, e) refl

    power_same : (o : BinaryOp) (place : Span) (a b : Tree) → NamesAre known a → NamesAre known b → power_walk means types exact o place a b ≡ power_walk other others exact o place a b
    power_same o place a b is are = rw (constant_same exact a is, constant_same exact b are) refl

    name_walk_same : (name : Called) (bs : Brackets) (place : Span) → CalledIs known name → BracketNamesAre known bs → name_walk means types exact name bs place ≡ name_walk other others exact name bs place
    name_walk_same name bs place is are = rw (name_type_same place name is) (then_same (asked (type_of_name other others exact place name)) _ _ (λ type. by type (not (is_indexed bs && not (is_register_type type)))))
      where
        by : (type : Ty) (b : Bool) → walk_where b WrongKind place (then_walk (computed_node type) (λ _. selected_walk means types exact place type bs)) ≡ walk_where b WrongKind place (then_walk (computed_node type) (λ _. selected_walk other others exact place type bs))
        by type b = rw (selected_walk_same place type bs are) refl

    expr_walk_same : (a : Tree) → NamesAre known a → expr_walk means types exact a ≡ expr_walk other others exact a
    expr_walk_same (named name index o place) is = by_parts_same (named name index o place) is _ _ (name_walk_same name index place is.0 is.1)
    expr_walk_same (wire n place) is = refl
    expr_walk_same (number n place) is = refl
    expr_walk_same (truth b place) is = refl
    expr_walk_same (bit_string bits place) is = refl
    expr_walk_same (unary o a place) is = by_parts_same (unary o a place) is _ _ (rw (expr_walk_same a is) refl)
    expr_walk_same (binary o a b place) is = by_parts_same (binary o a b place) is _ _ (rw (power_same o place a b is.0 is.1, expr_walk_same a is.0, expr_walk_same b is.1) refl)
    expr_walk_same (cast base width type_place a place) is = by_parts_same (cast base width type_place a place) is _ _ (rw (type_walk_same exact base type_place width is.0, expr_walk_same a is.1) refl)
    expr_walk_same (call name as' place) is = exactly_walk_same (call name as' place) is
    expr_walk_same cut is = refl

  -- ---- values

  module _ (held others : List ℕ → TypedValue) (alike : Agree known held others) where
    name_value_same : (name : Called) → CalledIs known name → value_of_name means held name ≡ value_of_name other others name
    name_value_same (word text) is = alike text is
    name_value_same (qubit n) is = refl

    or_same : (a : Tree) → NamesAre known a → (parts theirs : TypedValue) → parts ≡ theirs → constant_or means a parts ≡ constant_or other a theirs
    or_same a is parts theirs e = by (is_constant other a) refl
      where
        by : (b : Bool) → is_constant other a ≡ b → constant_or means a parts ≡ constant_or other a theirs
        by true p = rw (constancy a is, p, constant_same false a is) refl
        by false p = rw (constancy a is, p) e

    indexed_same : (bs : Brackets) (x : TypedValue) → BracketNamesAre known bs → indexed means bs x ≡ indexed other bs x
    indexed_same no_bracket x is = refl
    indexed_same (a_bracket b bs) x is = rw (indexes_walk_same false (a_bracket b bs) is) refl

    evaluated_same : (a : Tree) → NamesAre known a → evaluated means held a ≡ evaluated other others a
    evaluated_same (named name index o place) is = or_same (named name index o place) is _ _ (rw (name_value_same name is.0) (indexed_same index (value_of_name other others name) is.1))
    evaluated_same (wire n place) is = refl
    evaluated_same (number n place) is = refl
    evaluated_same (truth b place) is = refl
    evaluated_same (bit_string bits place) is = refl
    evaluated_same (unary o a place) is = or_same (unary o a place) is _ _ (rw (evaluated_same a is) refl)
    evaluated_same (binary o a b place) is = or_same (binary o a b place) is _ _ (rw (evaluated_same a is.0, evaluated_same b is.1) refl)
    evaluated_same (cast base width type_place a place) is = or_same (cast base width type_place a place) is _ _ (rw (type_walk_same false base type_place width is.0, evaluated_same a is.1) refl)
    evaluated_same (call name as' place) is = rw (constant_same false (call name as' place) is) refl
    evaluated_same cut is = refl

  pub walks_rest : WalksRestOnNames known means other
  walks_rest = expr_walk_same

  pub values_rest : ValuesRestOnNames known means other
  values_rest = evaluated_same

  -- ---- operands

  pub operands_rest : OperandsRestOnNames known means other
  operands_rest qubits others alike o is = rw (alike o.name is.0, indexes_walk_same false o.index is.1) refl
