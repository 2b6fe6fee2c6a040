-- What rows, casts and whole constants say, of types and values alone.
use Rattle.std.proofs.Common.{◌≡◌, ℕ, ◌^◌, ◌<◌, ◌≤◌, ◌⊎◌, inl, inr, nat_le, nat_lt, int_le, int_lt, unsigned_abs, Bool, true, false, not, ◌&&◌, ◌||◌, if◌then◌else◌, List, [], ◌∷◌, length, map, get_or, ℤ, pos, negsuc, Option, Some, None, Result, Ok, Err, refl, sym, ap, subst, ◌∙◌, arith}
use Rattle.std.proofs.lemmas.List.{length-map}
use Rattle.std.proofs.lemmas.Bool.{leb-true, ltb-true}
use Rattle.std.specs.List.{range_with_len}
use Rattle.qq_base.specs.declared.refusal.Refusal.{Refusal}
use Rattle.qq_base.specs.declared.refusal.Span.{Span}
use Rattle.qq_base.specs.declared.rule.Rule.{Rule}
use Rattle.qq_base.specs.declared.rule.Rule.TheVariants.{TypeMismatch, ConstDivide, DivisorRange, ShiftRange}
use Rattle.qasm_ast.specs.declared.expr.BinaryOp.{BinaryOp}
use Rattle.qasm_ast.specs.declared.expr.BinaryOp.TheVariants as two
use Rattle.qasm_ast.specs.declared.expr.UnaryOp.{UnaryOp}
use Rattle.qasm_ast.specs.declared.expr.UnaryOp.TheVariants as op
use Rattle.qasm_ast.specs.Tree.{Brackets}
use Rattle.qasm_types.specs.declared.ty.Ty.{Ty}
use Rattle.qasm_types.specs.declared.ty.Ty.TheVariants as t
use Rattle.qasm_types.specs.Types.{IsType, cells_of}
use Rattle.qasm_types.specs.Operators.{group_of, Group, Quotient, Rest, Shift, Power}
use Rattle.qasm_types.specs.Plans.{unary_plan, complements, negates, casts}
use Rattle.qasm_types.specs.Values.{Value, IsValueOf, apply, apply_unary, taken, result_of}
use Rattle.qasm_types.specs.Values as value
use Rattle.qir_module.specs.Machine.{Word, Holds}
use Rattle.core_ir.specs.Tree.{Expr, Cell}
use Rattle.core_ir.specs.Run.{Cells, value_of}
use Rattle.const_eval.specs.Constant.{is_whole, whole_in}
use Rattle.const_eval.specs.Refusing.{refused, go_on, where_allowed}
use Rattle.const_eval.specs.Selecting.{where_selected}
use Rattle.const_eval.specs.Typed.{Typed, Exactly, Computed, type_of, whole_of_typed, where_typed, operator_type, row_for, taken_typed, divides, shifts, is_power, is_part, is_divisor, is_amount, is_whole_within, is_constant_zero, shifted_width}
use Rattle.const_eval.specs.ConstOperators.{Row, has_row, present_row, taken_at}
use Rattle.const_eval.specs.Values.{TypedValue}
use Rattle.cell_exprs.specs.CellValues.{cells_of_value}
use Rattle.cell_exprs.specs.Laws.{HaveValue, IsInCells, IsPlain, IsOneWord, IsShift, ScaleFits}
use Rattle.cell_exprs.specs.Parts.{applied_parts, scaled_parts}
use Rattle.expr_parts.specs.declared.environment.Variable.{Variable}
use Rattle.expr_parts.specs.Variables.{HasItsValue}
use Rattle.expr_parts.specs.TreeParts.{variable_parts}
use Rattle.expr_parts.proofs.Constancy.{ok_then, ok_allowed}
use Rattle.expr_parts.proofs.Dividing.{Scales}
use Rattle.expr_parts.proofs.Reading.{read_range}
use Rattle.alias_resolve.specs.declared.select.SelectFault.{SelectFault}
use Rattle.alias_resolve.specs.declared.select.SelectFault.TheVariants as fault

-- ---- small facts

abbrev pub okay : {A : Type 0} → A → Result A Refusal
okay a = Ok a

pub ok_is : {A : Type 0} {x y : A} → okay x ≡ okay y → x ≡ y
ok_is e = cc

pub no_refusal : {A : Type 0} (rule : Rule) (place : Span) (x : A) → refused rule place ≡ okay x → ⊥
no_refusal rule place x e = cc

pub not_not_is : (r : Bool) → not (true && not r) ≡ true → r ≡ true
not_not_is true e = refl
not_not_is false e = absurd cc

pub where_selected_is : {A : Type 0} (place : Span) (index : Brackets) (r : Result A SelectFault) (s : A) → where_selected place index r ≡ okay s → r ≡ Ok s
where_selected_is place index (Ok a) s e = let same = ok_is e in ap Ok same
where_selected_is place index (Err (fault.NotRegister n)) s e = absurd cc
where_selected_is place index (Err (fault.StepZero n)) s e = absurd cc
where_selected_is place index (Err (fault.IndexRange n member)) s e = absurd cc
where_selected_is place index (Err fault.Memory) s e = absurd cc

pub both_of : (x y : Bool) → (x && y) ≡ true → (x ≡ true) × (y ≡ true)
both_of true y e = (refl, e)
both_of false y e = absurd cc

pub truth_or_false : (b : Bool) → (b ≡ true) ⊎ (b ≡ false)
truth_or_false true = inl refl
truth_or_false false = inr refl

pub never : (b : Bool) → b ≡ true → b ≡ false → ⊥
never b p q = cc

pub where_typed_is : (place : Span) (o : Option Ty) (m : Ty) → where_typed place o ≡ Ok m → o ≡ Some m
where_typed_is place None m e = absurd cc
where_typed_is place (Some k) m e = let same = ok_is e in ap Some same

pub no_whole_at : (type : Ty) (x : Value) → IsInCells type → whole_in (record { type = type; value = x }) ≡ pos 0
no_whole_at t.Whole x h = absurd h
no_whole_at _ x h = refl

pub no_whole : (a : TypedValue) (type : Ty) → a.type ≡ type → IsInCells type → whole_in a ≡ pos 0
no_whole a type e h = no_whole_at a.type a.value (subst IsInCells (sym e) h)

pub if_some : {A : Type 0} (b : Bool) (x m : A) → (if b then Some x else None) ≡ Some m → x ≡ m
if_some true x m e = cc
if_some false x m e = absurd cc

pub one_is_type : (1 ≤ 1) × (1 ≤ 1)
one_is_type = (omega arith, omega arith)

pub cells_type : (type : Ty) → IsInCells type → IsType type
cells_type t.Whole h = absurd h
cells_type t.Pi h = absurd h
cells_type _ h = h

-- ---- operands that are taken

pub no_cast_whole : (a : Ty) → IsInCells a → casts a (pos 0) t.Whole ≡ true → ⊥
no_cast_whole t.Whole h e = h
no_cast_whole t.Pi h e = h
no_cast_whole _ h e = cc

pub no_cast_pi : (a : Ty) → IsInCells a → casts a (pos 0) t.Pi ≡ true → ⊥
no_cast_pi t.Whole h e = h
no_cast_pi t.Pi h e = h
no_cast_pi _ h e = cc

pub casts_in_cells : (a l : Ty) → IsInCells a → IsType l → casts a (pos 0) l ≡ true → IsInCells l
casts_in_cells a t.Whole h ty e = absurd (no_cast_whole a h e)
casts_in_cells a t.Pi h ty e = absurd (no_cast_pi a h e)
casts_in_cells a _ h ty e = ty

pub taken_is_cast : (a l : Ty) (x : Value) → IsInCells a → taken a x l ≡ value.cast a x l
taken_is_cast t.Pi l x h = absurd h
taken_is_cast _ l x h = refl

pub taken_at_is : (place : Span) (o : Option Value) (y : Value) → taken_at place o ≡ Ok y → o ≡ Some y
taken_at_is place None y e = absurd cc
taken_at_is place (Some x) y e = let same = ok_is e in ap Some same

pub present_is : (place : Span) (o : Row) (row : Ty × Ty × Ty) → present_row place o ≡ Ok row → o ≡ Some row
present_is place None row e = absurd cc
present_is place (Some k) row e = let same = ok_is e in ap Some same

-- what an operator's own rules say where none is broken
pub record RowOf (o : BinaryOp) (left : Span) (a : Typed) (right : Span) (b : Typed) (type : Ty) : Type 0 where
  pub row : Ty × Ty × Ty
  pub found : row_for o a b ≡ Some row
  pub left_taken : taken_typed left a row.0 ≡ Ok tt
  pub right_taken : taken_typed right b row.1 ≡ Ok tt
  pub divisor : (not (divides (group_of o)) || is_divisor b) ≡ true
  pub amount : (not (shifts (group_of o)) || is_amount row.0 b) ≡ true
  pub result : row.2 ≡ type

pub row_of : (o : BinaryOp) (place : Span) (a : Typed) (left : Span) (b : Typed) (right : Span) (type : Ty) → operator_type o place a left b right ≡ Ok type → RowOf o left a right b type
row_of o place a left b right type e =
    let h1 = ok_allowed (has_row (row_for o a b) || (is_part a || is_part b)) TypeMismatch place divided type e in
    let h2 = ok_allowed (not (divides (group_of o) && is_constant_zero b)) ConstDivide right (go_on (present_row place (row_for o a b)) with_row) type h1.1 in
    let (row, er, e3) = ok_then (present_row place (row_for o a b)) with_row type h2.1 in
    let (u, eu, e4) = ok_then (taken_typed left a row.0) (λ _. with_left row) type e3 in
    let (w, ew, e5) = ok_then (taken_typed right b row.1) (λ _. with_both row) type e4 in
    let h6 = ok_allowed (not (divides (group_of o)) || is_divisor b) DivisorRange right (where_allowed (not (shifts (group_of o)) || is_amount row.0 b) ShiftRange right (Ok row.2)) type e5 in
    let h7 = ok_allowed (not (shifts (group_of o)) || is_amount row.0 b) ShiftRange right (Ok row.2) type h6.1 in
    record { row = row; found = present_is place (row_for o a b) row er; left_taken = eu; right_taken = ew; divisor = h6.0; amount = h7.0; result = ok_is h7.1 }
  where
    with_both : Ty × Ty × Ty → Result Ty Refusal
    with_both row = where_allowed (not (divides (group_of o)) || is_divisor b) DivisorRange right (where_allowed (not (shifts (group_of o)) || is_amount row.0 b) ShiftRange right (Ok row.2))

    with_left : Ty × Ty × Ty → Result Ty Refusal
    with_left row = go_on (taken_typed right b row.1) (λ _. with_both row)

    with_row : Ty × Ty × Ty → Result Ty Refusal
    with_row row = go_on (taken_typed left a row.0) (λ _. with_left row)

    divided : Result Ty Refusal
    divided = where_allowed (not (divides (group_of o) && is_constant_zero b)) ConstDivide right (go_on (present_row place (row_for o a b)) with_row)

pub plain_group : (g : Group) → divides g ≡ false → shifts g ≡ false → is_power g ≡ false → IsPlain g
plain_group Quotient p q r = cc
plain_group Rest p q r = cc
plain_group Shift p q r = cc
plain_group Power p q r = cc
plain_group _ p q r = tt

-- ---- divisors and amounts

-- what a whole constant in a range is
pub record WholeWithin (low high : ℕ) (b : Typed) : Type 0 where
  pub n : ℕ
  pub worth : whole_of_typed b ≡ pos n
  pub type : type_of b ≡ t.Whole
  pub least : low ≤ n
  pub most : n < high

pub whole_within : (low high : ℕ) (b : Typed) → is_whole_within (pos low) (pos high) b ≡ true → WholeWithin low high b
whole_within low high (Exactly c) e = by c.type c.value e
  where
    number : (z : ℤ) → (int_le (pos low) z && int_lt z (pos high)) ≡ true → (n : ℕ) × (z ≡ pos n) × (low ≤ n) × (n < high)
    number (pos n) e = let (x, y) = both_of (nat_le low n) (nat_lt n high) e in (n, refl, leb-true low n x, ltb-true n high y)
    number (negsuc n) e = absurd cc

    by : (type : Ty) (x : Value) → (is_whole (record { type = type; value = x }) && (int_le (pos low) (whole_in (record { type = type; value = x })) && int_lt (whole_in (record { type = type; value = x })) (pos high))) ≡ true
        → WholeWithin low high (Exactly (record { type = type; value = x }))
    by t.Whole x e = let (n, is, l, h) = number (value.number_of x) e in record { n = n; worth = is; type = refl; least = l; most = h }
    by t.Bool x e = absurd cc
    by _ x e = absurd cc
whole_within low high (Computed type) e = absurd cc

pub scales_divides : (g : Group) → divides g ≡ true → Scales g
scales_divides Quotient e = tt
scales_divides Rest e = tt
scales_divides _ e = absurd cc

pub shift_group : (g : Group) → shifts g ≡ true → g ≡ Shift
shift_group Shift e = refl
shift_group _ e = absurd cc

pub fits_divide : (o : BinaryOp) (n : ℕ) → divides (group_of o) ≡ true → 1 ≤ n → n < 2 ^ 63 → ScaleFits o n
fits_divide two.Divide n e l h = (l, h)
fits_divide two.Remainder n e l h = (l, h)
fits_divide _ n e l h = absurd cc

pub fits_shift : (o : BinaryOp) (n : ℕ) → shifts (group_of o) ≡ true → n < 64 → ScaleFits o n
fits_shift two.ShiftLeft n e h = h
fits_shift two.ShiftRight n e h = h
fits_shift _ n e h = absurd cc

pub is_shift : (o : BinaryOp) → group_of o ≡ Shift → IsShift o
is_shift two.ShiftLeft e = tt
is_shift two.ShiftRight e = tt
is_shift _ e = absurd cc

pub width_few : (m : Ty) → IsOneWord m → shifted_width m ≤ 64
width_few (t.Int n) h = h.1
width_few (t.Uint n) h = h.1
width_few (t.Angle n) h = omega (arith, h.1)
width_few t.Turn h = omega arith
width_few _ h = absurd h

-- the parts of an operator, by its kind
abbrev pub chosen_parts : BinaryOp → Ty × Ty × Ty → List Expr → List Expr → Bool → ℤ → List Expr
chosen_parts o row xs ys c v = if c then scaled_parts o row.2 xs (unsigned_abs v) else applied_parts o row.0 row.2 xs ys

pub number_at : (type : Ty) (x : Value) → type ≡ t.Whole → IsValueOf type x → x ≡ value.Number (whole_in (record { type = type; value = x }))
number_at t.Whole (value.Number z) e v = refl
number_at t.Whole _ e v = absurd v
number_at t.Bool x e v = absurd cc
number_at _ x e v = absurd cc

-- what is known of an expression whose value is in cells
pub record Runs (cells : Cells) (v : TypedValue) (parts : List Expr) (type : Ty) : Type 0 where
  pub typed : v.type ≡ type
  pub in_cells : IsInCells type
  pub valued : IsValueOf type v.value
  pub have : HaveValue cells parts v.value

pub unary_in_cells : (o : UnaryOp) (a m : Ty) (v : ℤ) → unary_plan o a v ≡ Some m → IsInCells a → IsInCells m
unary_in_cells op.Not a m v e h = subst IsInCells (if_some (casts a v t.Bool) t.Bool m e) one_is_type
unary_in_cells op.Complement a m v e h = subst IsInCells (if_some (complements a) a m e) h
unary_in_cells op.Negate a m v e h = subst IsInCells (if_some (negates a) a m e) h

-- a cast between values in cells has a value
pub cast_some : (a b : Ty) (x : Value) → IsInCells a → IsInCells b → IsValueOf a x → (y : Value) × (value.cast a x b ≡ Some y)
cast_some t.Whole b x h k v = absurd h
cast_some t.Pi b x h k v = absurd h
cast_some a t.Whole x h k v = absurd k
cast_some a t.Pi x h k v = absurd k
cast_some a t.Bool x h k v = (_, refl)
cast_some (t.Angle m) (t.Angle n) (value.Count c) h k v = (_, refl)
cast_some (t.Angle m) (t.Angle n) _ h k v = absurd v
cast_some a b x h k v = (_, refl)

-- a value has as many cells as its type
pub cells_count : (type : Ty) (x : Value) → IsInCells type → IsValueOf type x → length (cells_of_value x) ≡ cells_of type
cells_count t.Bool (value.Truth b) h v = refl
cells_count t.Bit (value.Truth b) h v = refl
cells_count (t.Bits n) (value.Register bits) h v = length-map bits Holds ∙ v
cells_count (t.Int n) (value.Number z) h v = refl
cells_count (t.Uint n) (value.Number z) h v = refl
cells_count (t.Angle n) (value.Count c) h v = refl
cells_count t.Turn (value.Units z) h v = refl
cells_count t.Whole x h v = absurd h
cells_count t.Pi x h v = absurd h
cells_count _ _ h v = absurd v

pub map_cells : (cells : Cells) (ks : List ℕ) → map (λ (e : Expr). value_of e cells) (map (λ (c : ℕ). Cell c) ks) ≡ map (λ (k : ℕ). get_or cells k (Word (pos 0))) ks
map_cells cells [] = refl
map_cells cells (k ∷ ks) = ap (λ r. get_or cells k (Word (pos 0)) ∷ r) (map_cells cells ks)

pub variable_read : (cells : Cells) (v : Variable) (x : TypedValue) → IsInCells v.ty → HasItsValue cells v x → HaveValue cells (variable_parts v) x.value
variable_read cells v x h has =
    map_cells cells (range_with_len v.first (cells_of v.ty)) ∙ read_range (Word (pos 0)) cells v.first (cells_of v.ty) (cells_of_value x.value) has.cells (cells_count v.ty x.value h has.value)
