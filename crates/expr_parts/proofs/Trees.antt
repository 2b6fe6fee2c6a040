-- The parts of an expression have its value: an induction on its tree.
use Rattle.std.proofs.Common.{◌≡◌, ℕ, ◌^◌, ◌<◌, ◌≤◌, ◌⊎◌, inl, inr, ⊎_elim, nat_le, int_le, unsigned_abs, Bool, true, false, not, ◌&&◌, ◌||◌, List, [], ◌∷◌, length, map, ℤ, pos, negsuc, Option, Some, None, Ok, refl, sym, ap, subst, ◌∙◌, arith}
use Rattle.std.proofs.lemmas.Bool.{leb-true}
use Rattle.std.specs.Option.{option_and_then}
use Rattle.qq_base.specs.declared.refusal.Span.{Span}
use Rattle.qq_base.specs.declared.rule.Rule.TheVariants.{NoCast, WrongKind, Unknown, WidthRange}
use Rattle.qasm_ast.specs.declared.expr.Base.{Base}
use Rattle.qasm_ast.specs.declared.expr.Base.TheVariants as b
use Rattle.qasm_ast.specs.declared.expr.BinaryOp.{BinaryOp}
use Rattle.qasm_ast.specs.declared.expr.UnaryOp.{UnaryOp}
use Rattle.qasm_ast.specs.Tree.{word, qubit, Tree, named, wire, number, truth, bit_string, unary, binary, cast, call, cut, Maybe, Brackets, no_bracket, a_bracket, Bracket, present, absent, place_of}
use Rattle.qasm_types.specs.declared.ty.Ty.{Ty}
use Rattle.qasm_types.specs.declared.ty.Ty.TheVariants as t
use Rattle.qasm_types.specs.Types.{IsType}
use Rattle.qasm_types.specs.Laws.{CastsGiveValues, OperandsAreTakenAsValues, OperatorsGiveValues, PlansAreRows, UnaryOperatorsGiveValues, UnaryPlansAreRows}
use Rattle.qasm_types.specs.Operators.{group_of, HasRow, Shift}
use Rattle.qasm_types.specs.Plans.{operator_plan, unary_plan, casts}
use Rattle.qasm_types.specs.Values.{Value, IsValueOf, apply, apply_unary, taken, result_of}
use Rattle.qasm_types.specs.Values as value
use Rattle.qir_module.specs.Machine.{Holds}
use Rattle.core_ir.specs.Tree.{Expr}
use Rattle.core_ir.specs.Run.{Cells, value_of}
use Rattle.const_eval.specs.WalkLaws.{ConstantsAreConstant}
use Rattle.const_eval.specs.Constant.{Constant, whole, whole_in, bits_in}
use Rattle.const_eval.specs.ConstCast.{plain_type, type_at, sized_type, whole_at, is_width, type_of_width}
use Rattle.const_eval.specs.ConstantWalk.{constant_walk, indexes_walk, type_walk}
use Rattle.const_eval.specs.ExprWalk.{expr_walk, name_walk, cast_walk, operator_walk, power_walk, computed_node, type_of_meaning, selected_walk}
use Rattle.const_eval.specs.IsConstant.{is_constant, is_constant_maybe}
use Rattle.const_eval.specs.Meaning.{Meaning, Held, Running, OtherThing, Nothing}
use Rattle.const_eval.specs.Refusing.{refused, where_allowed}
use Rattle.const_eval.specs.Selecting.{is_indexed, is_register_type, bits_of_type, type_of_selected, selected_places}
use Rattle.const_eval.specs.Typed.{Typed, Exactly, Computed, type_of, whole_of_typed, unary_type, operator_type, row_for, taken_typed, divides, shifts, is_power, is_divisor, is_amount, shifted_width}
use Rattle.const_eval.specs.ConstOperators.{taken_at}
use Rattle.const_eval.specs.Values.{TypedValue, typed, evaluated, unary_on, unary_by, binary_on, binary_by, or_zero, value_or, cast_to, indexed, typed_bits, no_items}
use Rattle.const_eval.specs.Walk.{Walk, asked, done, then_walk, walk_where, either_walk}
use Rattle.machine_words.specs.Laws.{NumbersAreKept}
use Rattle.cell_exprs.specs.CellValues.{cells_of_value}
use Rattle.cell_exprs.specs.Laws.{HaveValue, IsInCells, FixedPartsHaveValues, CastPartsHaveValues, OperatorPartsHaveValues, ScaledPartsHaveValues, ShiftedPartsHaveValues, UnaryPartsHaveValues, RowsTakeCasts, TakesCasts, IsOneWord, IsShift, ScaleFits}
use Rattle.cell_exprs.specs.Parts.{fixed_parts, cast_parts, scaled_parts, unary_parts}
use Rattle.expr_parts.specs.declared.environment.Variable.{Variable}
use Rattle.expr_parts.specs.Cells.{cells_at, cells_of_typed}
use Rattle.expr_parts.specs.Variables.{Agrees, AreMeant, IsMeant, NameAgrees, HasItsValue, type_of_variable}
use Rattle.expr_parts.specs.TreeParts.{types_by, typed_by, parts_of, variable_parts, selected_parts, name_parts, name_type, meant_parts, parts_at, constant_parts, settled_parts, unary_typed_parts, cast_typed_parts, taken_parts, operator_parts, written_by}
use Rattle.expr_parts.specs.TreeLaw.{IsSound, AreSound}
use Rattle.expr_parts.proofs.Constancy.{fine, ok_then, ok_allowed, both_true}
use Rattle.expr_parts.proofs.Inexact.{walk_then, walk_allowed, constant_answer, constant_inexact, type_inexact, indexes_inexact}
use Rattle.expr_parts.proofs.Dividing.{Scales, InRange, scaled_row, taken_number}
use Rattle.expr_parts.proofs.Reading.{items_mapped}
use Rattle.expr_parts.proofs.Facts.{okay, ok_is, no_refusal, not_not_is, where_selected_is, both_of, truth_or_false, never, where_typed_is, no_whole, one_is_type, cells_type, casts_in_cells, taken_is_cast, taken_at_is, RowOf, row_of, plain_group, WholeWithin, whole_within, scales_divides, shift_group, fits_divide, fits_shift, is_shift, width_few, chosen_parts, number_at, Runs, unary_in_cells, cast_some, variable_read}
use Rattle.expr_parts.proofs.Selecting.{IsSelection, items_count, positions_below}
use Rattle.alias_resolve.specs.Places.{Selected, items_at, and_then, positions_of, selected_of}
use Rattle.alias_resolve.specs.declared.index.IndexValue.{IndexValue}

-- the laws below
pub record Laws : Type 0 where
  pub plans : PlansAreRows
  pub unary_plans : UnaryPlansAreRows
  pub fixed : FixedPartsHaveValues
  pub casts : CastPartsHaveValues
  pub operators : OperatorPartsHaveValues
  pub scaled : ScaledPartsHaveValues
  pub shifted : ShiftedPartsHaveValues
  pub unaries : UnaryPartsHaveValues
  pub rows : RowsTakeCasts
  pub cast_values : CastsGiveValues
  pub taken_values : OperandsAreTakenAsValues
  pub operator_values : OperatorsGiveValues
  pub unary_values : UnaryOperatorsGiveValues
  pub constants : ConstantsAreConstant
  pub kept : NumbersAreKept

module _ (laws : Laws) (means : List ℕ → Meaning) (variable : List ℕ → Option Variable) (exact : Bool) (held : List ℕ → TypedValue) (cells : Cells)
    (meant : AreMeant means variable) (agrees : Agrees means variable held cells) where
  abbrev walk : Tree → Walk Typed
  walk a = expr_walk means (types_by means variable exact) exact a

  abbrev worth : Tree → TypedValue
  worth a = evaluated means held a

  abbrev parts : Tree → List Expr
  parts a = parts_of means variable exact a

  abbrev Knows : Tree → Typed → Type 0
  Knows a (Exactly c) = (worth a ≡ c) × IsType c.type × IsValueOf c.type c.value × (is_constant means a ≡ true)
  Knows a (Computed type) = Runs cells (worth a) (parts a) type

  typed_is : (a : Tree) (known : Typed) → (walk a).answer ≡ Ok known → typed_by means variable exact a ≡ known
  typed_is a known e = ap (λ r. value_or r (Computed t.Bool)) e

  -- ---- constants

  constant_known : (a : Tree) (known : Typed) → is_constant means a ≡ true → IsSound means exact a → (walk a).answer ≡ Ok known → Knows a known
  constant_known a known k sound e =
      let e1 : (then_walk (constant_walk means exact a) (λ c. done (Exactly c))).answer ≡ Ok known = sym (ap (λ (w : Walk Typed). w.answer) (laws.constants.walked means (types_by means variable exact) exact a k)) ∙ e in
      let (c, is, e2) = walk_then (constant_walk means exact a) (λ c. done (Exactly c)) known e1 in
      let found = constant_answer means exact a c is in
      let (constant, again) = fine means exact (place_of a) a c found in
      let (ty, v) = sound k c found in
      let same : worth a ≡ c = laws.constants.in_runs means held a k ∙ ap (λ r. value_or r (whole (pos 0))) again in
      let P : Typed → Type 0 = λ x. Knows a x in
      subst P (ok_is e2) (same, ty, v, k)

  -- ---- unary operators

  unary_worth : (o : UnaryOp) (a : Tree) (place : Span) → is_constant means (unary o a place) ≡ false → worth (unary o a place) ≡ unary_on o (worth a)
  unary_worth o a place k = rw k refl

  unary_walk : (o : UnaryOp) (a : Tree) (place : Span) → is_constant means (unary o a place) ≡ false → walk (unary o a place) ≡ then_walk (walk a) (λ x. then_walk (asked (unary_type o place x)) computed_node)
  unary_walk o a place k = rw k refl

  unary_known : (o : UnaryOp) (a : Tree) (place : Span) (known : Typed) → is_constant means (unary o a place) ≡ false → ((k : Typed) → (walk a).answer ≡ Ok k → Knows a k) → (walk (unary o a place)).answer ≡ Ok known → Knows (unary o a place) known
  unary_known o a place known k ih e =
      let e0 = sym (ap (λ (w : Walk Typed). w.answer) (unary_walk o a place k)) ∙ e in
      let (ta, ea, e1) = walk_then (walk a) (λ x. then_walk (asked (unary_type o place x)) computed_node) known e0 in
      let (type, et, e2) = walk_then (asked (unary_type o place ta)) computed_node known e1 in
      let P : Typed → Type 0 = λ x. Knows (unary o a place) x in
      subst P (ok_is e2) (by ta ea (ih ta ea) type et (ok_is e2))
    where
      by : (ta : Typed) → (walk a).answer ≡ Ok ta → Knows a ta → (type : Ty) → unary_type o place ta ≡ Ok type → Computed type ≡ known → Runs cells (worth (unary o a place)) (parts (unary o a place)) type
      by (Exactly c) ea (same, ty, v, constant) type et kn = absurd (never (is_constant means a) constant k)
      by (Computed type_a) ea runs type et kn =
          let plan = where_typed_is place (unary_plan o type_a (pos 0)) type et in
          let (z, ez, hz) = laws.unaries cells o type_a type (pos 0) (worth a).value (parts a) plan runs.in_cells runs.valued runs.have in
          let w = no_whole (worth a) type_a runs.typed runs.in_cells in
          let value_is : worth (unary o a place) ≡ typed type z =
          unary_worth o a place k ∙ (λ i. unary_by o (worth a) (unary_plan o (runs.typed i) (w i))) ∙ ap (unary_by o (worth a)) plan ∙ ap (λ x. typed type (or_zero type x)) ez in
          let known_is : (walk (unary o a place)).answer ≡ Ok (Computed type) = e ∙ ap Ok (sym kn) in
          let parts_is : parts (unary o a place) ≡ unary_parts o type_a type (parts a) =
          (λ i. settled_parts (typed_is (unary o a place) (Computed type) known_is i) (unary_typed_parts o (unary_plan o (type_of (typed_is a (Computed type_a) ea i)) (whole_of_typed (typed_is a (Computed type_a) ea i))) (typed_is a (Computed type_a) ea i) (parts a)))
          ∙ ap (λ x. unary_typed_parts o x (Computed type_a) (parts a)) plan in
          record {
            typed = ap (λ (x : TypedValue). x.type) value_is;
            in_cells = unary_in_cells o type_a type (pos 0) plan runs.in_cells;
            valued = let Q : TypedValue → Type 0 = λ x. IsValueOf type x.value in subst Q (sym value_is) (laws.unary_values o type_a type (pos 0) (worth a).value z (laws.unary_plans o type_a (pos 0) type plan) runs.valued ez);
            have = (λ i. map (λ (e : Expr). value_of e cells) (parts_is i)) ∙ hz ∙ ap (λ (x : TypedValue). cells_of_value x.value) (sym value_is);
          }

  -- ---- casts

  -- a written type is one whose values are in cells
  written_in_cells : (base : Base) (place : Span) (width : Maybe) (type : Ty) → (type_walk means exact base place width).answer ≡ Ok type → IsInCells type
  written_in_cells base place absent type e = plain base e
    where
      plain : (base : Base) → type_at place (plain_type base) ≡ Ok type → IsInCells type
      plain b.Bool e = subst IsInCells (ok_is e) one_is_type
      plain b.Bit e = subst IsInCells (ok_is e) one_is_type
      plain b.Int e = subst IsInCells (ok_is e) (omega arith, omega arith)
      plain b.Uint e = subst IsInCells (ok_is e) (omega arith, omega arith)
      plain b.Angle e = subst IsInCells (ok_is e) (omega arith, omega arith)
      plain b.Qubit e = absurd cc
  written_in_cells base place (present width) type e =
      let (c, is, e1) = walk_then (constant_walk means exact width) (λ c. asked (sized_type base place (place_of width) c)) type e in
      let (z, ez, e2) = ok_then (whole_at (place_of width) c) (λ z. where_allowed (is_width base z) WidthRange (place_of width) (type_at place (type_of_width base (unsigned_abs z)))) type e1 in
      let (fits, e3) = ok_allowed (is_width base z) WidthRange (place_of width) (type_at place (type_of_width base (unsigned_abs z))) type e2 in
      sized base z fits e3
    where
      bounds : (z : ℤ) (g : ℕ) → (int_le (pos 1) z && int_le z (pos g)) ≡ true → (1 ≤ unsigned_abs z) × (unsigned_abs z ≤ g)
      bounds (pos n) g h = let (x, y) = both_of (nat_le 1 n) (nat_le n g) h in (leb-true 1 n x, leb-true n g y)
      bounds (negsuc n) g h = absurd cc

      sized : (base : Base) (z : ℤ) → is_width base z ≡ true → type_at place (type_of_width base (unsigned_abs z)) ≡ Ok type → IsInCells type
      sized b.Bool z h e = subst IsInCells (ok_is e) one_is_type
      sized b.Bit z h e = subst IsInCells (ok_is e) one_is_type
      sized b.Int z h e = subst IsInCells (ok_is e) (bounds z 64 h)
      sized b.Uint z h e = subst IsInCells (ok_is e) (bounds z 64 h)
      sized b.Angle z h e = subst IsInCells (ok_is e) (bounds z 32 h)
      sized b.Qubit z h e = absurd cc

  cast_worth : (base : Base) (width : Maybe) (type_place : Span) (a : Tree) (place : Span) (type : Ty) → is_constant means (cast base width type_place a place) ≡ false → (type_walk means false base type_place width).answer ≡ Ok type
      → worth (cast base width type_place a place) ≡ cast_to type (worth a)
  cast_worth base width type_place a place type k e = rw (k, e) refl

  cast_is_walk : (base : Base) (width : Maybe) (type_place : Span) (a : Tree) (place : Span) → is_constant means (cast base width type_place a place) ≡ false
      → walk (cast base width type_place a place) ≡ then_walk (type_walk means exact base type_place width) (λ type. then_walk (walk a) (λ x. then_walk (cast_walk type place x) (λ _. computed_node type)))
  cast_is_walk base width type_place a place k = rw k refl

  cast_known : (base : Base) (width : Maybe) (type_place : Span) (a : Tree) (place : Span) (known : Typed) → is_constant means (cast base width type_place a place) ≡ false → ((k : Typed) → (walk a).answer ≡ Ok k → Knows a k)
      → (walk (cast base width type_place a place)).answer ≡ Ok known → Knows (cast base width type_place a place) known
  cast_known base width type_place a place known k ih e =
      let e0 = sym (ap (λ (w : Walk Typed). w.answer) (cast_is_walk base width type_place a place k)) ∙ e in
      let (type, et, e1) = walk_then (type_walk means exact base type_place width) (λ type. then_walk (walk a) (λ x. then_walk (cast_walk type place x) (λ _. computed_node type))) known e0 in
      let (ta, ea, e2) = walk_then (walk a) (λ x. then_walk (cast_walk type place x) (λ _. computed_node type)) known e1 in
      let (tc, ec, e3) = walk_then (cast_walk type place ta) (λ _. computed_node type) known e2 in
      let P : Typed → Type 0 = λ x. Knows (cast base width type_place a place) x in
      subst P (ok_is e3) (by ta ea (ih ta ea) type et tc ec (ok_is e3))
    where
      by : (ta : Typed) → (walk a).answer ≡ Ok ta → Knows a ta → (type : Ty) → (type_walk means exact base type_place width).answer ≡ Ok type → (tc : Typed) → (cast_walk type place ta).answer ≡ Ok tc → Computed type ≡ known
          → Runs cells (worth (cast base width type_place a place)) (parts (cast base width type_place a place)) type
      by (Exactly c) ea (same, ty, v, constant) type et tc ec kn =
          let (width_constant, again) = type_inexact means exact base type_place width type et in
          absurd (never (is_constant_maybe means width && is_constant means a) (both_true (is_constant_maybe means width) (is_constant means a) width_constant constant) k)
      by (Computed type_a) ea runs type et tc ec kn =
          let (width_constant, again) = type_inexact means exact base type_place width type et in
          let (has, e4) = walk_allowed (casts type_a (pos 0) type) NoCast place _ tc ec in
          let there = written_in_cells base type_place width type et in
          let (y, ey) = cast_some type_a type (worth a).value runs.in_cells there runs.valued in
          let have = laws.casts cells type_a type (pos 0) (worth a).value y (parts a) runs.in_cells there has runs.valued runs.have ey in
          let value_is : worth (cast base width type_place a place) ≡ typed type y =
          cast_worth base width type_place a place type k again ∙ (λ i. typed type (or_zero type (value.cast (runs.typed i) (worth a).value type))) ∙ ap (λ o. typed type (or_zero type o)) ey in
          let known_is : (walk (cast base width type_place a place)).answer ≡ Ok (Computed type) = e ∙ ap Ok (sym kn) in
          let written : written_by means variable exact base type_place width ≡ type = ap (λ r. value_or r t.Bool) et in
          let parts_is : parts (cast base width type_place a place) ≡ cast_parts type_a type (parts a) =
          (λ i. settled_parts (typed_is (cast base width type_place a place) (Computed type) known_is i) (cast_typed_parts (typed_is a (Computed type_a) ea i) (parts a) (written i))) in
          record {
            typed = ap (λ (x : TypedValue). x.type) value_is;
            in_cells = there;
            valued = let Q : TypedValue → Type 0 = λ x. IsValueOf type x.value in subst Q (sym value_is) (laws.cast_values type_a type (worth a).value y runs.valued ey);
            have = (λ i. map (λ (e : Expr). value_of e cells) (parts_is i)) ∙ have ∙ ap (λ (x : TypedValue). cells_of_value x.value) (sym value_is);
          }

  -- ---- names

  -- the walk of a name alone, by what it means
  abbrev alone_walk : List ℕ → Span → Meaning → Walk Typed
  alone_walk text place m =
      then_walk (asked (type_of_meaning place (types_by means variable exact text) m)) (λ type.
      walk_where (not (is_indexed no_bracket && not (is_register_type type))) WrongKind place (
      then_walk (computed_node type) (λ _.
      selected_walk means (types_by means variable exact) exact place type no_bracket)))

  alone_is_walk : (text : List ℕ) (operand place : Span) → is_constant means (named (word text) no_bracket operand place) ≡ false → walk (named (word text) no_bracket operand place) ≡ alone_walk text place (means text)
  alone_is_walk text operand place k = rw k refl

  alone_worth : (text : List ℕ) (operand place : Span) → is_constant means (named (word text) no_bracket operand place) ≡ false → worth (named (word text) no_bracket operand place) ≡ held text
  alone_worth text operand place k = rw k refl

  named_alone : (text : List ℕ) (operand place : Span) (known : Typed) → is_constant means (named (word text) no_bracket operand place) ≡ false → (walk (named (word text) no_bracket operand place)).answer ≡ Ok known
      → Knows (named (word text) no_bracket operand place) known
  named_alone text operand place known k e = by (means text) refl (variable text) refl
    where
      a : Tree
      a = named (word text) no_bracket operand place

      answer_by : (m : Meaning) → means text ≡ m → (alone_walk text place m).answer ≡ Ok known
      answer_by m em = sym (ap (λ (w : Walk Typed). w.answer) (alone_is_walk text operand place k ∙ ap (alone_walk text place) em)) ∙ e

      by : (m : Meaning) → means text ≡ m → (v : Option Variable) → variable text ≡ v → Knows (named (word text) no_bracket operand place) known
      by (Held c) em v ev = let yes : is_constant means (named (word text) no_bracket operand place) ≡ true = rw em refl in absurd (never _ yes k)
      by OtherThing em v ev = let e1 : refused WrongKind place ≡ okay known = answer_by OtherThing em in absurd (no_refusal WrongKind place known e1)
      by Nothing em v ev = let e1 : refused Unknown place ≡ okay known = answer_by Nothing em in absurd (no_refusal Unknown place known e1)
      by Running em None ev =
          let no : IsMeant Running None = subst (λ (o : Option Variable). IsMeant Running o) ev (subst (λ (m : Meaning). IsMeant m (variable text)) em (meant text)) in
          absurd no
      by Running em (Some v) ev =
          let there : IsInCells v.ty = subst (λ (o : Option Variable). IsMeant Running o) ev (subst (λ (m : Meaning). IsMeant m (variable text)) em (meant text)) in
          let has : HasItsValue cells v (held text) = subst (λ (o : Option Variable). NameAgrees Running o cells (held text)) ev (subst (λ (m : Meaning). NameAgrees m (variable text) cells (held text)) em (agrees text)) in
          let known_is : Computed (types_by means variable exact text) ≡ known = ok_is (answer_by Running em) in
          let type_is : types_by means variable exact text ≡ v.ty = ap type_of_variable ev in
          let value_is = alone_worth text operand place k in
          let parts_is : parts (named (word text) no_bracket operand place) ≡ variable_parts v =
          ap (λ x. settled_parts x (meant_parts (means text) (variable text))) (typed_is (named (word text) no_bracket operand place) known e ∙ sym known_is) ∙ (λ i. meant_parts (em i) (ev i)) in
          let P : Typed → Type 0 = λ x. Knows (named (word text) no_bracket operand place) x in
          let Q : Ty → Type 0 = λ x. Runs cells (worth (named (word text) no_bracket operand place)) (parts (named (word text) no_bracket operand place)) x in
          subst P known_is (subst Q (sym type_is) (record {
            typed = ap (λ (x : TypedValue). x.type) value_is ∙ has.type;
            in_cells = there;
            valued = let R : TypedValue → Type 0 = λ x. IsValueOf v.ty x.value in subst R (sym value_is) has.value;
            have = (λ i. map (λ (e : Expr). value_of e cells) (parts_is i)) ∙ variable_read cells v (held text) there has ∙ ap (λ (x : TypedValue). cells_of_value x.value) (sym value_is);
          }))

  -- a name with brackets
  abbrev indexed_walk : List ℕ → Brackets → Span → Meaning → Walk Typed
  indexed_walk text index place m =
      then_walk (asked (type_of_meaning place (types_by means variable exact text) m)) (λ type.
      walk_where (not (is_indexed index && not (is_register_type type))) WrongKind place (
      then_walk (computed_node type) (λ _.
      selected_walk means (types_by means variable exact) exact place type index)))

  indexed_is_walk : (text : List ℕ) (index : Brackets) (operand place : Span) → is_constant means (named (word text) index operand place) ≡ false → walk (named (word text) index operand place) ≡ indexed_walk text index place (means text)
  indexed_is_walk text index operand place k = rw k refl

  indexed_worth : (text : List ℕ) (index : Brackets) (operand place : Span) → is_constant means (named (word text) index operand place) ≡ false → worth (named (word text) index operand place) ≡ indexed means index (held text)
  indexed_worth text index operand place k = rw k refl

  -- what is selected of bits, as a value
  bits_run : (bits : List Bool) (places : Selected ℕ) (ps : List Expr) → HaveValue cells ps (value.Register bits) → IsSelection (length bits) places
      → Runs cells (typed_bits (record { items = items_at bits places.items; single = places.single })) (items_at ps places.items) (type_of_selected places)
  bits_run bits places ps h good = by places.single (items_at bits places.items) places.items good.1 (items_count bits places.items good.0) gathered
    where
      gathered : map (λ (e : Expr). value_of e cells) (items_at ps places.items) ≡ map Holds (items_at bits places.items)
      gathered = sym (items_mapped (λ (e : Expr). value_of e cells) ps places.items) ∙ ap (λ r. items_at r places.items) h ∙ items_mapped Holds bits places.items

      by : (single : Bool) (found : List Bool) (at : List ℕ) → (single ≡ true → length at ≡ 1) → length found ≡ length at → map (λ (e : Expr). value_of e cells) (items_at ps places.items) ≡ map Holds found
          → Runs cells (typed_bits (record { items = found; single = single })) (items_at ps places.items) (type_of_selected (record { items = at; single = single }))
      by true [] at one count have = let single = one refl in absurd (omega arith)
      by true (x ∷ []) at one count have = record { typed = refl; in_cells = one_is_type; valued = tt; have = have }
      by true (x ∷ (y ∷ found)) at one count have = let single = one refl in absurd (omega arith)
      by false found at one count have = record { typed = ap t.Bits count; in_cells = one_is_type; valued = count; have = have }

  -- what the walk of a name with brackets finds
  record Opened (text : List ℕ) (index : Brackets) (place : Span) (m : Meaning) (known : Typed) : Type 0 where
    pub type : Ty
    pub meant_type : type_of_meaning place (types_by means variable exact text) m ≡ Ok type
    pub register : is_register_type type ≡ true
    pub values : List IndexValue
    pub walked : (indexes_walk means exact index).answer ≡ Ok values
    pub places : Selected ℕ
    pub selected : positions_of (bits_of_type type) values ≡ Ok places
    pub result : Computed (type_of_selected places) ≡ known

  opened : (text : List ℕ) (b : Bracket) (bs : Brackets) (place : Span) (m : Meaning) (known : Typed) → (indexed_walk text (a_bracket b bs) place m).answer ≡ Ok known → Opened text (a_bracket b bs) place m known
  opened text b bs place m known e =
      let (type, et, e1) = walk_then (asked (type_of_meaning place (types_by means variable exact text) m)) (λ type.
      walk_where (not (is_indexed (a_bracket b bs) && not (is_register_type type))) WrongKind place (
      then_walk (computed_node type) (λ _.
      selected_walk means (types_by means variable exact) exact place type (a_bracket b bs)))) known e in
      let (register, e2) = walk_allowed (not (is_indexed (a_bracket b bs) && not (is_register_type type))) WrongKind place (then_walk (computed_node type) (λ _. selected_walk means (types_by means variable exact) exact place type (a_bracket b bs))) known e1 in
      let (u, eu, e3) = walk_then (computed_node type) (λ _. selected_walk means (types_by means variable exact) exact place type (a_bracket b bs)) known e2 in
      let (values, ev, e4) = walk_then (indexes_walk means exact (a_bracket b bs)) (λ values. then_walk (asked (selected_places place (a_bracket b bs) type values)) (λ places. computed_node (type_of_selected places))) known e3 in
      let (places, ep, e5) = walk_then (asked (selected_places place (a_bracket b bs) type values)) (λ places. computed_node (type_of_selected places)) known e4 in
      record {
        type = type;
        meant_type = et;
        register = not_not_is (is_register_type type) register;
        values = values;
        walked = ev;
        places = places;
        selected = where_selected_is place (a_bracket b bs) (positions_of (bits_of_type type) values) places ep;
        result = ok_is e5;
      }

  named_indexed : (text : List ℕ) (b : Bracket) (bs : Brackets) (operand place : Span) (known : Typed) → is_constant means (named (word text) (a_bracket b bs) operand place) ≡ false
      → (walk (named (word text) (a_bracket b bs) operand place)).answer ≡ Ok known → Knows (named (word text) (a_bracket b bs) operand place) known
  named_indexed text b bs operand place known k e = by (means text) refl (variable text) refl
    where
      answer_by : (m : Meaning) → means text ≡ m → (indexed_walk text (a_bracket b bs) place m).answer ≡ Ok known
      answer_by m em = sym (ap (λ (w : Walk Typed). w.answer) (indexed_is_walk text (a_bracket b bs) operand place k ∙ ap (indexed_walk text (a_bracket b bs) place) em)) ∙ e

      -- a register of bits
      register : (v : Variable) → means text ≡ Running → variable text ≡ Some v → IsInCells v.ty → HasItsValue cells v (held text) → Opened text (a_bracket b bs) place Running known → (n : ℕ) → v.ty ≡ t.Bits n
          → (x : Value) → (held text).value ≡ x → IsValueOf (t.Bits n) x → Knows (named (word text) (a_bracket b bs) operand place) known
      register v em ev there has o n ty (value.Register bits) is count =
          let type_is : o.type ≡ t.Bits (length bits) = sym (ok_is o.meant_type) ∙ ap type_of_variable ev ∙ ty ∙ ap t.Bits (sym count) in
          let types_is : types_by means variable exact text ≡ t.Bits (length bits) = ap type_of_variable ev ∙ ty ∙ ap t.Bits (sym count) in
          let selected : positions_of (length bits) o.values ≡ Ok o.places = ap (λ c. positions_of (bits_of_type c) o.values) (sym type_is) ∙ o.selected in
          let good = positions_below (length bits) o.values o.places selected in
          let have : HaveValue cells (variable_parts v) (value.Register bits) = variable_read cells v (held text) there has ∙ ap cells_of_value is in
          let run = bits_run bits o.places (variable_parts v) have good in
          let (constant, again) = indexes_inexact means exact (a_bracket b bs) o.values o.walked in
          let bits_is : bits_in (held text) ≡ bits = ap (λ w. bits_in (record { type = (held text).type; value = w })) is in
          let worth_is : worth (named (word text) (a_bracket b bs) operand place) ≡ typed_bits (record { items = items_at bits o.places.items; single = o.places.single }) =
          indexed_worth text (a_bracket b bs) operand place k
          ∙ (λ i. typed_bits (value_or (selected_of (bits_is i) (value_or (again i) [])) no_items))
          ∙ ap (λ r. typed_bits (value_or (and_then r (λ places. Ok (record { items = items_at bits places.items; single = places.single }))) no_items)) selected in
          let known_is : Computed (type_of_selected o.places) ≡ known = o.result in
          let parts_is : parts (named (word text) (a_bracket b bs) operand place) ≡ items_at (variable_parts v) o.places.items =
          ap (λ x. settled_parts x (selected_parts means variable exact (types_by means variable exact text) (a_bracket b bs) (meant_parts (means text) (variable text)))) (typed_is (named (word text) (a_bracket b bs) operand place) known e ∙ sym known_is)
          ∙ (λ i. items_at (meant_parts (em i) (ev i)) (value_or (positions_of (bits_of_type (types_is i)) (value_or (o.walked i) [])) no_items).items)
          ∙ ap (λ r. items_at (variable_parts v) (value_or r no_items).items) selected in
          let P : Typed → Type 0 = λ x. Knows (named (word text) (a_bracket b bs) operand place) x in
          let R : List Expr → Type 0 = λ ps. Runs cells (worth (named (word text) (a_bracket b bs) operand place)) ps (type_of_selected o.places) in
          let S : TypedValue → Type 0 = λ x. Runs cells x (items_at (variable_parts v) o.places.items) (type_of_selected o.places) in
          subst P known_is (subst R (sym parts_is) (subst S (sym worth_is) run))
      register v em ev there has o n ty _ is count = absurd count

      by_type : (v : Variable) → means text ≡ Running → variable text ≡ Some v → IsInCells v.ty → HasItsValue cells v (held text) → Opened text (a_bracket b bs) place Running known → (ty : Ty) → v.ty ≡ ty → is_register_type ty ≡ true
          → Knows (named (word text) (a_bracket b bs) operand place) known
      by_type v em ev there has o (t.Bits n) ty reg = register v em ev there has o n ty (held text).value refl (subst (λ (c : Ty). IsValueOf c (held text).value) ty has.value)
      by_type v em ev there has o _ ty reg = absurd cc

      by : (m : Meaning) → means text ≡ m → (v : Option Variable) → variable text ≡ v → Knows (named (word text) (a_bracket b bs) operand place) known
      by (Held c) em v ev =
          let o = opened text b bs place (Held c) known (answer_by (Held c) em) in
          let (constant, again) = indexes_inexact means exact (a_bracket b bs) o.values o.walked in
          let yes : is_constant means (named (word text) (a_bracket b bs) operand place) ≡ true = rw (em, constant) refl in
          absurd (never _ yes k)
      by OtherThing em v ev = let e1 : refused WrongKind place ≡ okay known = answer_by OtherThing em in absurd (no_refusal WrongKind place known e1)
      by Nothing em v ev = let e1 : refused Unknown place ≡ okay known = answer_by Nothing em in absurd (no_refusal Unknown place known e1)
      by Running em None ev =
          let no : IsMeant Running None = subst (λ (o : Option Variable). IsMeant Running o) ev (subst (λ (m : Meaning). IsMeant m (variable text)) em (meant text)) in
          absurd no
      by Running em (Some v) ev =
          let there : IsInCells v.ty = subst (λ (o : Option Variable). IsMeant Running o) ev (subst (λ (m : Meaning). IsMeant m (variable text)) em (meant text)) in
          let has : HasItsValue cells v (held text) = subst (λ (o : Option Variable). NameAgrees Running o cells (held text)) ev (subst (λ (m : Meaning). NameAgrees m (variable text) cells (held text)) em (agrees text)) in
          let o = opened text b bs place Running known (answer_by Running em) in
          let type_is : o.type ≡ v.ty = sym (ok_is o.meant_type) ∙ ap type_of_variable ev in
          by_type v em ev there has o v.ty refl (ap is_register_type (sym type_is) ∙ o.register)

  qubit_known : (n : ℕ) (index : Brackets) (operand place : Span) (known : Typed) → is_constant means (named (qubit n) index operand place) ≡ false → (walk (named (qubit n) index operand place)).answer ≡ Ok known → ⊥
  qubit_known n index operand place known k e =
      let is : walk (named (qubit n) index operand place) ≡ name_walk means (types_by means variable exact) exact (qubit n) index place = rw k refl in
      let e1 : refused WrongKind place ≡ okay known = sym (ap (λ (w : Walk Typed). w.answer) is) ∙ e in
      no_refusal WrongKind place known e1

  -- ---- operators on two operands

  -- an operand at the type at which it is taken
  operand : (a : Tree) (ta : Typed) (left : Span) (l : Ty) → Knows a ta → taken_typed left ta l ≡ Ok tt → IsType l → (IsInCells (type_of ta) → casts (type_of ta) (whole_of_typed ta) l ≡ true)
      → (x : Value) × (taken (worth a).type (worth a).value l ≡ Some x) × IsValueOf l x × HaveValue cells (taken_parts ta (parts a) l) x
  operand a (Exactly c) left l (same, ty, v, k) e tl has =
      let (x, ex, e1) = ok_then (taken_at left (taken c.type c.value l)) (λ x. Ok tt) tt e in
      let found = taken_at_is left (taken c.type c.value l) x ex in
      (x, (λ i. taken (same i).type (same i).value l) ∙ found, laws.taken_values c.type l c.value x v found, ap (λ o. map (λ (e : Expr). value_of e cells) (fixed_parts (or_zero l o))) found ∙ laws.fixed cells x)
  operand a (Computed type) left l runs e tl has =
      let there = casts_in_cells type l runs.in_cells tl (has runs.in_cells) in
      let (x, ex) = cast_some type l (worth a).value runs.in_cells there runs.valued in (
        x,
        (λ i. taken (runs.typed i) (worth a).value l) ∙ taken_is_cast type l (worth a).value runs.in_cells ∙ ex,
        laws.cast_values type l (worth a).value x runs.valued ex,
        laws.casts cells type l (pos 0) (worth a).value x (parts a) runs.in_cells there (has runs.in_cells) runs.valued runs.have ex,
      )

  type_known : (a : Tree) (ta : Typed) → Knows a ta → (worth a).type ≡ type_of ta
  type_known a (Exactly c) (same, ty, v, k) = ap (λ (x : TypedValue). x.type) same
  type_known a (Computed type) runs = runs.typed

  whole_known : (a : Tree) (ta : Typed) → Knows a ta → whole_in (worth a) ≡ whole_of_typed ta
  whole_known a (Exactly c) (same, ty, v, k) = ap whole_in same
  whole_known a (Computed type) runs = no_whole (worth a) type runs.typed runs.in_cells

  is_type_known : (a : Tree) (ta : Typed) → Knows a ta → IsType (type_of ta)
  is_type_known a (Exactly c) (same, ty, v, k) = ty
  is_type_known a (Computed type) runs = cells_type type runs.in_cells

  valued_known : (a : Tree) (ta : Typed) → Knows a ta → IsValueOf (worth a).type (worth a).value
  valued_known a (Exactly c) (same, ty, v, k) = subst (λ (x : TypedValue). IsValueOf x.type x.value) (sym same) v
  valued_known a (Computed type) runs = subst (λ (c : Ty). IsValueOf c (worth a).value) (sym runs.typed) runs.valued

  -- one of two operands is known at the run alone
  one_runs : (o : BinaryOp) (a b : Tree) (place : Span) (ta tb : Typed) → is_constant means (binary o a b place) ≡ false → Knows a ta → Knows b tb → IsInCells (type_of ta) ⊎ IsInCells (type_of tb)
  one_runs o a b place (Computed type) tb k p q = inl p.in_cells
  one_runs o a b place (Exactly c) (Computed type) k p q = inr q.in_cells
  one_runs o a b place (Exactly c) (Exactly d) k (s1, t1, v1, k1) (s2, t2, v2, k2) = absurd (never (is_constant means a && is_constant means b) (both_true (is_constant means a) (is_constant means b) k1 k2) k)

  binary_worth : (o : BinaryOp) (a b : Tree) (place : Span) → is_constant means (binary o a b place) ≡ false → worth (binary o a b place) ≡ binary_on o (worth a) (worth b)
  binary_worth o a b place k = rw k refl

  abbrev running_walk : BinaryOp → Tree → Tree → Span → Walk Typed
  running_walk o a b place = then_walk (walk a) (λ x. then_walk (walk b) (λ y. operator_walk o place x (place_of a) y (place_of b)))

  binary_is_walk : (o : BinaryOp) (a b : Tree) (place : Span) → is_constant means (binary o a b place) ≡ false
      → walk (binary o a b place) ≡ either_walk (is_power (group_of o)) (power_walk means (types_by means variable exact) exact o place a b) (running_walk o a b place)
  binary_is_walk o a b place k = rw k refl

  -- a power is constant
  no_power : (o : BinaryOp) (a b : Tree) (place : Span) (known : Typed) → is_constant means (binary o a b place) ≡ false → (power_walk means (types_by means variable exact) exact o place a b).answer ≡ Ok known → ⊥
  no_power o a b place known k e =
      let (x, ex, e1) = walk_then (constant_walk means exact a) _ known e in
      let (y, ey, e2) = walk_then (constant_walk means exact b) _ known e1 in
      let (k1, again) = constant_inexact means exact a x ex in
      let (k2, too) = constant_inexact means exact b y ey in
      never (is_constant means a && is_constant means b) (both_true (is_constant means a) (is_constant means b) k1 k2) k

  -- the value of an operator with its row, on operands that are taken
  row_worth : (o : BinaryOp) (a b : Tree) (place : Span) (ta tb : Typed) (row : Ty × Ty × Ty) (x y z : Value) → is_constant means (binary o a b place) ≡ false → Knows a ta → Knows b tb → row_for o ta tb ≡ Some row
      → taken (worth a).type (worth a).value row.0 ≡ Some x → taken (worth b).type (worth b).value row.1 ≡ Some y → apply o row.2 x y ≡ Some z → worth (binary o a b place) ≡ typed row.2 z
  row_worth o a b place ta tb row x y z k p q found ex ey ez =
      binary_worth o a b place k
      ∙ (λ i. binary_by o (worth a) (worth b) (operator_plan (group_of o) (type_known a ta p i) (whole_known a ta p i) (type_known b tb q i) (whole_known b tb q i)))
      ∙ ap (binary_by o (worth a) (worth b)) found
      ∙ (λ i. typed row.2 (or_zero row.2 (option_and_then (λ w. option_and_then (apply o row.2 w) (ey i)) (ex i))))
      ∙ ap (λ r. typed row.2 (or_zero row.2 r)) ez

  row_parts : (o : BinaryOp) (a b : Tree) (place : Span) (ta tb : Typed) (row : Ty × Ty × Ty) (type : Ty) → (walk a).answer ≡ Ok ta → (walk b).answer ≡ Ok tb → (walk (binary o a b place)).answer ≡ Ok (Computed type) → row_for o ta tb ≡ Some row
      → parts (binary o a b place) ≡ operator_parts o (Some row) ta (parts a) tb (parts b)
  row_parts o a b place ta tb row type ea eb e found =
      (λ i. settled_parts (typed_is (binary o a b place) (Computed type) e i) (operator_parts o (row_for o (typed_is a ta ea i) (typed_is b tb eb i)) (typed_is a ta ea i) (parts a) (typed_is b tb eb i) (parts b)))
      ∙ ap (λ r. operator_parts o r ta (parts a) tb (parts b)) found

  binary_known : (o : BinaryOp) (a b : Tree) (place : Span) (known : Typed) → is_constant means (binary o a b place) ≡ false
      → ((k : Typed) → (walk a).answer ≡ Ok k → Knows a k) → ((k : Typed) → (walk b).answer ≡ Ok k → Knows b k)
      → (walk (binary o a b place)).answer ≡ Ok known → Knows (binary o a b place) known
  binary_known o a b place known k left right e = by (is_power (group_of o)) refl (sym (ap (λ (w : Walk Typed). w.answer) (binary_is_walk o a b place k)) ∙ e)
    where
      running : (ta tb : Typed) → (walk a).answer ≡ Ok ta → (walk b).answer ≡ Ok tb → (type : Ty) → RowOf o (place_of a) ta (place_of b) tb type → Computed type ≡ known → is_power (group_of o) ≡ false
          → Runs cells (worth (binary o a b place)) (parts (binary o a b place)) type
      running ta tb ea eb type r kn np =
          let p = left ta ea in
          let q = right tb eb in
          let has = laws.plans (group_of o) (type_of ta) (type_of tb) (whole_of_typed ta) (whole_of_typed tb) r.row r.found in
          let takes = laws.rows (group_of o) (type_of ta) (type_of tb) r.row.0 r.row.1 r.row.2 (whole_of_typed ta) (whole_of_typed tb) has (is_type_known a ta p) (is_type_known b tb q) in
          let (x, ex, vx, hx) = operand a ta (place_of a) r.row.0 p r.left_taken takes.left takes.casts_left in
          let (y, ey, vy, hy) = operand b tb (place_of b) r.row.1 q r.right_taken takes.right takes.casts_right in
          let run = one_runs o a b place ta tb k p q in
          let there = takes.in_cells run in
          let (z, ez, hz) = applied ta tb r has takes p q x y vx vy ey hx hy run there np in
          let value_is = row_worth o a b place ta tb r.row x y z k p q r.found ex ey ez in
          let known_is : (walk (binary o a b place)).answer ≡ Ok (Computed type) = e ∙ ap Ok (sym kn) in
          let parts_is = row_parts o a b place ta tb r.row type ea eb known_is r.found in
          let valued = laws.operator_values o (type_of ta) (type_of tb) r.row.0 r.row.1 r.row.2 (whole_of_typed ta) (whole_of_typed tb) x y z has vx vy ez in
          let Q : Ty → Type 0 = λ m. Runs cells (worth (binary o a b place)) (parts (binary o a b place)) m in
          subst Q r.result (record {
            typed = ap (λ (w : TypedValue). w.type) value_is;
            in_cells = there;
            valued = let R : TypedValue → Type 0 = λ w. IsValueOf r.row.2 w.value in subst R (sym value_is) valued;
            have = (λ i. map (λ (e : Expr). value_of e cells) (parts_is i)) ∙ hz ∙ ap (λ (w : TypedValue). cells_of_value w.value) (sym value_is);
          })
        where
          applied : (ta tb : Typed) (r : RowOf o (place_of a) ta (place_of b) tb type) → HasRow (group_of o) (type_of ta) (whole_of_typed ta) (type_of tb) (whole_of_typed tb) r.row.0 r.row.1 r.row.2
              → TakesCasts (type_of ta) (whole_of_typed ta) (type_of tb) (whole_of_typed tb) r.row.0 r.row.1 r.row.2 → Knows a ta → Knows b tb → (x y : Value) → IsValueOf r.row.0 x → IsValueOf r.row.1 y
              → taken (worth b).type (worth b).value r.row.1 ≡ Some y
              → HaveValue cells (taken_parts ta (parts a) r.row.0) x → HaveValue cells (taken_parts tb (parts b) r.row.1) y → IsInCells (type_of ta) ⊎ IsInCells (type_of tb) → IsInCells r.row.2 → is_power (group_of o) ≡ false
              → (z : Value) × (apply o r.row.2 x y ≡ Some z) × HaveValue cells (operator_parts o (Some r.row) ta (parts a) tb (parts b)) z
          applied ta tb r has takes p q x y vx vy ey hx hy run there np = kind (divides (group_of o)) refl (shifts (group_of o)) refl
            where
              shifted : (n m : ℕ) (w : Value) → IsShift o → IsValueOf (t.Bits m) w → HaveValue cells (taken_parts ta (parts a) r.row.0) w
                  → (z : Value) × (apply o (t.Bits m) w (value.Number (pos n)) ≡ Some z) × HaveValue cells (scaled_parts o (t.Bits m) (taken_parts ta (parts a) r.row.0) n) z
              shifted n m (value.Register bits) s v h =
                  let P : ℕ → Type 0 = λ k. (z : Value) × (apply o (t.Bits k) (value.Register bits) (value.Number (pos n)) ≡ Some z) × HaveValue cells (scaled_parts o (t.Bits k) (taken_parts ta (parts a) r.row.0) n) z in
                  subst P v (laws.shifted cells o n bits (taken_parts ta (parts a) r.row.0) s h)
              shifted n m _ s v h = absurd v

              scaled : (low high : ℕ) → WholeWithin low high tb → Scales (group_of o) → ((group_of o ≡ Shift) ⊎ (high ≤ 2 ^ 63)) → ((n : ℕ) → low ≤ n → n < high → IsOneWord r.row.2 → r.row.0 ≡ r.row.2 → ScaleFits o n) → (divides (group_of o) || shifts (group_of o)) ≡ true
                  → (z : Value) × (apply o r.row.2 x y ≡ Some z) × HaveValue cells (operator_parts o (Some r.row) ta (parts a) tb (parts b)) z
              scaled low high w scales few fits cond =
                  let in_a : IsInCells (type_of ta) = ⊎_elim (λ h. h) (λ h. absurd (subst IsInCells w.type h)) run in
                  let most : (group_of o ≡ Shift) ⊎ (w.n < 2 ^ 63) = ⊎_elim (λ h. inl h) (λ h. let less = w.most in inr (omega arith)) few in
                  let sr = scaled_row (group_of o) (type_of ta) (type_of tb) r.row.0 r.row.1 r.row.2 (whole_of_typed ta) (whole_of_typed tb) w.n has scales w.worth most w.type in_a (is_type_known a ta p) takes.result in
                  let type_is : (worth b).type ≡ t.Whole = type_known b tb q ∙ w.type in
                  let number_is : (worth b).value ≡ value.Number (pos w.n) = number_at (worth b).type (worth b).value type_is (valued_known b tb q) ∙ ap value.Number (whole_known b tb q ∙ w.worth) in
                  let moved : taken (worth b).type (worth b).value r.row.1 ≡ taken t.Whole (value.Number (pos w.n)) r.row.1 = λ i. taken (type_is i) (number_is i) r.row.1 in
                  let here : taken t.Whole (value.Number (pos w.n)) r.row.1 ≡ Some y = sym moved ∙ ey in
                  let y_is : y ≡ value.Number (pos w.n) = taken_number laws.kept r.row.1 (pos w.n) y (subst (λ (v : ℤ). (r.row.1 ≡ t.Whole) ⊎ InRange r.row.1 v) w.worth sr.right) here in
                  let vz : IsValueOf r.row.2 x = subst (λ (c : Ty). IsValueOf c x) sr.same vx in
                  let parts_are : map (λ (e : Expr). value_of e cells) (chosen_parts o r.row (taken_parts ta (parts a) r.row.0) (taken_parts tb (parts b) r.row.1) (divides (group_of o) || shifts (group_of o)) (whole_of_typed tb)) ≡ map (λ (e : Expr). value_of e cells) (scaled_parts o r.row.2 (taken_parts ta (parts a) r.row.0) w.n) =
                  λ i. map (λ (e : Expr). value_of e cells) (chosen_parts o r.row (taken_parts ta (parts a) r.row.0) (taken_parts tb (parts b) r.row.1) (cond i) (w.worth i)) in
                  ⊎_elim
                  (λ one. let (z, ez, hz) = laws.scaled cells o r.row.2 w.n x (taken_parts ta (parts a) r.row.0) (fits w.n w.least w.most one sr.same) one vz hx in (z, ap (apply o r.row.2 x) y_is ∙ ez, parts_are ∙ hz))
                  (λ (shift, n, em).
                  let vb : IsValueOf (t.Bits n) x = subst (λ (c : Ty). IsValueOf c x) em vz in
                  let Q : Ty → Type 0 = λ c. (z : Value) × (apply o c x (value.Number (pos w.n)) ≡ Some z) × HaveValue cells (scaled_parts o c (taken_parts ta (parts a) r.row.0) w.n) z in
                  let (z, ez, hz) = subst Q (sym em) (shifted w.n n x (is_shift o shift) vb hx) in
                  (z, ap (apply o r.row.2 x) y_is ∙ ez, parts_are ∙ hz))
                  sr.kind

              kind : (d : Bool) → divides (group_of o) ≡ d → (s : Bool) → shifts (group_of o) ≡ s → (z : Value) × (apply o r.row.2 x y ≡ Some z) × HaveValue cells (operator_parts o (Some r.row) ta (parts a) tb (parts b)) z
              kind false ed false es =
                  let plain = plain_group (group_of o) ed es np in
                  let (z, ez, hz) = laws.operators cells o (type_of ta) (type_of tb) r.row.0 r.row.1 r.row.2 (whole_of_typed ta) (whole_of_typed tb) x y (taken_parts ta (parts a) r.row.0) (taken_parts tb (parts b) r.row.1)
                  has plain run takes.left takes.right there vx vy hx hy in
                  (z, ez, (λ i. map (λ (e : Expr). value_of e cells) (chosen_parts o r.row (taken_parts ta (parts a) r.row.0) (taken_parts tb (parts b) r.row.1) (ed i || es i) (whole_of_typed tb))) ∙ hz)
              kind true ed s es =
                  let divisor : is_divisor tb ≡ true = sym (ap (λ d. not d || is_divisor tb) ed) ∙ r.divisor in
                  let most : 2 ^ 63 ≤ 2 ^ 63 = omega arith in
                  scaled 1 (2 ^ 63) (whole_within 1 (2 ^ 63) tb divisor) (scales_divides (group_of o) ed) (inr most) (λ n l h one same. fits_divide o n ed l h) (ap (λ d. d || shifts (group_of o)) ed)
              kind false ed true es =
                  let amount : is_amount r.row.0 tb ≡ true = sym (ap (λ d. not d || is_amount r.row.0 tb) es) ∙ r.amount in
                  let shift = shift_group (group_of o) es in
                  scaled 0 (shifted_width r.row.0) (whole_within 0 (shifted_width r.row.0) tb amount) (subst Scales (sym shift) tt) (inl shift)
                  (λ n l h one same. let few = width_few r.row.2 one in let wide : shifted_width r.row.0 ≡ shifted_width r.row.2 = ap shifted_width same in fits_shift o n es (omega arith)) (λ i. ed i || es i)

      by : (power : Bool) → is_power (group_of o) ≡ power → (either_walk (is_power (group_of o)) (power_walk means (types_by means variable exact) exact o place a b) (running_walk o a b place)).answer ≡ Ok known → Knows (binary o a b place) known
      by true ep e0 =
          let e1 : (power_walk means (types_by means variable exact) exact o place a b).answer ≡ Ok known = sym (ap (λ c. (either_walk c (power_walk means (types_by means variable exact) exact o place a b) (running_walk o a b place)).answer) ep) ∙ e0 in
          absurd (no_power o a b place known k e1)
      by false ep e0 =
          let e1 : (running_walk o a b place).answer ≡ Ok known = sym (ap (λ c. (either_walk c (power_walk means (types_by means variable exact) exact o place a b) (running_walk o a b place)).answer) ep) ∙ e0 in
          let (ta, ea, e2) = walk_then (walk a) (λ x. then_walk (walk b) (λ y. operator_walk o place x (place_of a) y (place_of b))) known e1 in
          let (tb, eb, e3) = walk_then (walk b) (λ y. operator_walk o place ta (place_of a) y (place_of b)) known e2 in
          let (type, et, e4) = walk_then (asked (operator_type o place ta (place_of a) tb (place_of b))) computed_node known e3 in
          let P : Typed → Type 0 = λ x. Knows (binary o a b place) x in
          subst P (ok_is e4) (running ta tb ea eb type (row_of o place ta (place_of a) tb (place_of b) type et) (ok_is e4) ep)

  -- ---- all trees

  either_known : (a : Tree) (known : Typed) → IsSound means exact a → (is_constant means a ≡ false → Knows a known) → (walk a).answer ≡ Ok known → Knows a known
  either_known a known own running e = ⊎_elim (λ k. constant_known a known k own e) running (truth_or_false (is_constant means a))

  -- what is walked as a constant alone
  exactly_known : (a : Tree) (known : Typed) → IsSound means exact a → (then_walk (constant_walk means exact a) (λ c. done (Exactly c))).answer ≡ Ok known → (walk a).answer ≡ Ok known → Knows a known
  exactly_known a known own e1 e =
      let (c, is, e2) = walk_then (constant_walk means exact a) (λ c. done (Exactly c)) known e1 in
      let (constant, again) = constant_inexact means exact a c is in
      constant_known a known constant own e

  known_of : (a : Tree) (known : Typed) → AreSound means exact a → (walk a).answer ≡ Ok known → Knows a known
  known_of (named (word text) no_bracket operand place) known sound e = either_known (named (word text) no_bracket operand place) known sound (λ k. named_alone text operand place known k e) e
  known_of (named (word text) (a_bracket b bs) operand place) known sound e = either_known (named (word text) (a_bracket b bs) operand place) known sound (λ k. named_indexed text b bs operand place known k e) e
  known_of (named (qubit n) index operand place) known sound e = either_known (named (qubit n) index operand place) known sound (λ k. absurd (qubit_known n index operand place known k e)) e
  known_of (unary o a place) known sound e = either_known (unary o a place) known sound.0 (λ k. unary_known o a place known k (λ j ej. known_of a j (sound.1 k) ej) e) e
  known_of (binary o a b place) known sound e = either_known (binary o a b place) known sound.0 (λ k. binary_known o a b place known k (λ j ej. known_of a j (sound.1 k).0 ej) (λ j ej. known_of b j (sound.1 k).1 ej) e) e
  known_of (cast base width type_place a place) known sound e = either_known (cast base width type_place a place) known sound.0 (λ k. cast_known base width type_place a place known k (λ j ej. known_of a j (sound.1 k) ej) e) e
  known_of (wire n place) known sound e = exactly_known (wire n place) known sound e e
  known_of (number n place) known sound e = exactly_known (number n place) known sound e e
  known_of (truth b place) known sound e = exactly_known (truth b place) known sound e e
  known_of (bit_string bits place) known sound e = exactly_known (bit_string bits place) known sound e e
  known_of (call name as' place) known sound e = exactly_known (call name as' place) known sound e e
  known_of cut known sound e = exactly_known cut known sound e e

  -- a constant has its own parts
  constant_have : (c : Constant) → map (λ (e : Expr). value_of e cells) (constant_parts c) ≡ cells_of_typed c
  constant_have c = by c.type c.value
    where
      by : (type : Ty) (x : Value) → map (λ (e : Expr). value_of e cells) (parts_at type x) ≡ cells_at type x
      by t.Whole x = refl
      by t.Pi x = refl
      by _ x = laws.fixed cells x

  in_cells_at : (type : Ty) (x : Value) → IsInCells type → cells_of_value x ≡ cells_at type x
  in_cells_at t.Whole x h = absurd h
  in_cells_at t.Pi x h = absurd h
  in_cells_at _ x h = refl

  settled : (a : Tree) (c : Constant) → is_constant means a ≡ true → typed_by means variable exact a ≡ Exactly c → parts a ≡ constant_parts c
  settled (named name index operand place) c k e =
      ap (λ x. settled_parts x (selected_parts means variable exact (name_type means variable exact name) index (name_parts means variable exact name))) e
  settled (unary o a place) c k e =
      let ta = typed_by means variable exact a in
      ap (λ x. settled_parts x (unary_typed_parts o (unary_plan o (type_of ta) (whole_of_typed ta)) ta (parts a))) e
  settled (binary o a b place) c k e =
      let ta = typed_by means variable exact a in
      let tb = typed_by means variable exact b in
      ap (λ x. settled_parts x (operator_parts o (row_for o ta tb) ta (parts a) tb (parts b))) e
  settled (cast base width type_place a place) c k e =
      ap (λ x. settled_parts x (cast_typed_parts (typed_by means variable exact a) (parts a) (written_by means variable exact base type_place width))) e
  settled (wire n place) c k e = ap (λ x. settled_parts x []) e
  settled (number n place) c k e = ap (λ x. settled_parts x []) e
  settled (truth b place) c k e = ap (λ x. settled_parts x []) e
  settled (bit_string bits place) c k e = ap (λ x. settled_parts x []) e
  settled (call name as' place) c k e = ap (λ x. settled_parts x []) e
  settled cut c k e = ap (λ x. settled_parts x []) e

  shown : (a : Tree) (known : Typed) → (walk a).answer ≡ Ok known → Knows a known → ((worth a).type ≡ type_of known) × (map (λ (e : Expr). value_of e cells) (parts a) ≡ cells_of_typed (worth a))
  shown a (Exactly c) e (same, ty, v, k) =
      (ap (λ (x : TypedValue). x.type) same, ap (map (λ (e : Expr). value_of e cells)) (settled a c k (typed_is a (Exactly c) e)) ∙ constant_have c ∙ ap cells_of_typed (sym same))
  shown a (Computed type) e runs =
      (runs.typed, runs.have ∙ in_cells_at (worth a).type (worth a).value (subst IsInCells (sym runs.typed) runs.in_cells))

pub tree_known : (laws : Laws) (means : List ℕ → Meaning) (variable : List ℕ → Option Variable) (exact : Bool) (held : List ℕ → TypedValue) (cells : Cells) (a : Tree) (known : Typed)
    → AreMeant means variable → Agrees means variable held cells → AreSound means exact a → (expr_walk means (types_by means variable exact) exact a).answer ≡ Ok known
    → ((evaluated means held a).type ≡ type_of known) × (map (λ (e : Expr). value_of e cells) (parts_of means variable exact a) ≡ cells_of_typed (evaluated means held a))
tree_known laws means variable exact held cells a known meant agrees sound e =
    shown laws means variable exact held cells meant agrees a known e (known_of laws means variable exact held cells meant agrees a known sound e)
