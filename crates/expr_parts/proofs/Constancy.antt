-- What has a constant is constant, and a constant that leaves no remainder is the same where remainders may be left.
use Rattle.std.proofs.Common.{◌≡◌, ℕ, Bool, true, false, not, ◌&&◌, ◌||◌, List, ℤ, Option, Result, Ok, Err, refl, ◌∙◌}
use Rattle.qq_base.specs.declared.refusal.Refusal.{Refusal}
use Rattle.qq_base.specs.declared.refusal.Span.{Span}
use Rattle.qq_base.specs.declared.rule.Rule.{Rule}
use Rattle.qq_base.specs.declared.rule.Rule.TheVariants.{TypeMismatch, ConstRange, ConstDivide, ShiftRange}
use Rattle.qasm_ast.specs.declared.expr.Base.{Base}
use Rattle.qasm_ast.specs.declared.expr.BinaryOp.{BinaryOp}
use Rattle.qasm_ast.specs.Tree.{Called, word, qubit, Tree, named, wire, number, truth, bit_string, unary, binary, cast, call, cut, Trees, no_tree, a_tree, Maybe, absent, present, Bracket, position, range, members, Brackets, no_bracket, a_bracket, place_of}
use Rattle.qasm_types.specs.declared.ty.Ty.{Ty}
use Rattle.qasm_types.specs.Operators.{group_of, Group, Quotient, Rest}
use Rattle.alias_resolve.specs.declared.index.IndexValue.{IndexValue}
use Rattle.const_eval.specs.Constant.{Constant, is_part_of_pi}
use Rattle.const_eval.specs.ConstOperators.{Row, has_row, has_exponent, has_amount, has_divisor, is_zero, leaves_rest, present_row, row_at, binary_result}
use Rattle.const_eval.specs.ConstValue.{value, written_type, index_values, index_value, end_value, member_values, called_constant, called_in_constant, meant}
use Rattle.const_eval.specs.IsConstant.{is_constant, are_constant, is_constant_maybe, is_constant_bracket, are_constant_brackets, is_called_constant}
use Rattle.const_eval.specs.Meaning.{Meaning, Held, Running, OtherThing, Nothing, is_held}
use Rattle.const_eval.specs.Refusing.{go_on, where_allowed}

-- ---- answers that are no refusals

pub ok_then : {A B : Type 0} (r : Result A Refusal) (f : A → Result B Refusal) (b : B) → go_on r f ≡ Ok b → (a : A) × (r ≡ Ok a) × (f a ≡ Ok b)
ok_then (Ok a) f b e = (a, refl, e)
ok_then (Err refusal) f b e = absurd cc

pub ok_allowed : {A : Type 0} (b : Bool) (rule : Rule) (place : Span) (r : Result A Refusal) (a : A) → where_allowed b rule place r ≡ Ok a → (b ≡ true) × (r ≡ Ok a)
ok_allowed true rule place r a e = (refl, e)
ok_allowed false rule place r a e = absurd cc

pub both_true : (x y : Bool) → x ≡ true → y ≡ true → (x && y) ≡ true
both_true x y p q = rw (p, q) refl

-- ---- operators

divisor_inexact : (exact : Bool) (g : Group) (a b : Constant) → has_divisor exact g a b ≡ true → has_divisor false g a b ≡ true
divisor_inexact false g a b h = h
divisor_inexact true Quotient a b h = kept (not (is_zero b)) (not (true && leaves_rest a b)) h
  where
    kept : (z l : Bool) → (z && l) ≡ true → (z && true) ≡ true
    kept true l h = refl
    kept false l h = h
divisor_inexact true Rest a b h = h
divisor_inexact true _ a b h = refl

-- what is asked behind the divisor
abbrev behind_divisor : BinaryOp → Span → Constant → Span → Row → Result (Ty × Ty × Ty) Refusal
behind_divisor o place b right row = go_on (present_row place row) (λ types. where_allowed (has_amount (group_of o) b) ShiftRange right (Ok types))

row_inexact : (exact : Bool) (o : BinaryOp) (place : Span) (a b : Constant) (right : Span) (row : Row) (types : Ty × Ty × Ty) → row_at exact o place a b right row ≡ Ok types → row_at false o place a b right row ≡ Ok types
row_inexact exact o place a b right row types e =
    let h1 = ok_allowed (has_row row || (is_part_of_pi a || is_part_of_pi b)) TypeMismatch place (where_allowed (has_exponent (group_of o) b) ConstRange place (where_allowed (has_divisor exact (group_of o) a b) ConstDivide right (behind_divisor o place b right row))) types e in
    let h2 = ok_allowed (has_exponent (group_of o) b) ConstRange place (where_allowed (has_divisor exact (group_of o) a b) ConstDivide right (behind_divisor o place b right row)) types h1.1 in
    let h3 = ok_allowed (has_divisor exact (group_of o) a b) ConstDivide right (behind_divisor o place b right row) types h2.1 in
    let h4 = divisor_inexact exact (group_of o) a b h3.0 in
    (λ i. where_allowed (h1.0 i) TypeMismatch place (where_allowed (h2.0 i) ConstRange place (where_allowed (h4 i) ConstDivide right (behind_divisor o place b right row)))) ∙ h3.1

binary_inexact : (exact : Bool) (o : BinaryOp) (place : Span) (a : Constant) (left : Span) (b : Constant) (right : Span) (c : Constant) → binary_result exact o place a left b right ≡ Ok c → binary_result false o place a left b right ≡ Ok c
binary_inexact exact o place a left b right c e =
    let (types, h, e1) = ok_then _ _ _ e in
    let h1 = row_inexact exact o place a b right _ types h in
    rw h1 e1

module _ (means : List ℕ → Meaning) (exact : Bool) (wp : Span) where
  meant_is_held : (place : Span) (m : Meaning) (c : Constant) → meant wp place m ≡ Ok c → is_held m ≡ true
  meant_is_held place (Held k) c e = refl
  meant_is_held place Running c e = absurd cc
  meant_is_held place OtherThing c e = absurd cc
  meant_is_held place Nothing c e = absurd cc

  called_fine : (place : Span) (name : Called) (c : Constant) → called_constant means wp place name ≡ Ok c → is_called_constant means name ≡ true
  called_fine place (word text) c e = meant_is_held place (means text) c e
  called_fine place (qubit n) c e = absurd cc

  no_call : (place : Span) (m : Meaning) (c : Constant) → called_in_constant place m ≡ Ok c → ⊥
  no_call place Nothing c e = cc
  no_call place OtherThing c e = cc
  no_call place (Held k) c e = cc
  no_call place Running c e = cc

  mutual
    pub fine : (a : Tree) (c : Constant) → value means exact wp a ≡ Ok c → (is_constant means a ≡ true) × (value means false wp a ≡ Ok c)
    fine (named name index operand place) c e =
        let (k, called, e1) = ok_then _ _ _ e in
        let (allowed, e2) = ok_allowed _ _ _ _ _ e1 in
        let (values, found, e3) = ok_then _ _ _ e2 in
        let (constant, again) = fine_brackets index values found in
        (both_true (is_called_constant means name) (are_constant_brackets means index) (called_fine place name k called) constant, rw (called, allowed, again) e3)
    fine (wire n place) c e = absurd cc
    fine (number n place) c e = (refl, e)
    fine (truth b place) c e = (refl, e)
    fine (bit_string bits place) c e = (refl, e)
    fine (unary o a place) c e =
        let (x, is, e1) = ok_then _ _ _ e in
        let (constant, again) = fine a x is in
        (constant, rw again e1)
    fine (binary o a b place) c e =
        let (x, is, e1) = ok_then _ _ _ e in
        let (y, also, e2) = ok_then _ _ _ e1 in
        let (first, again) = fine a x is in
        let (second, too) = fine b y also in
        (both_true (is_constant means a) (is_constant means b) first second, rw (again, too) (binary_inexact exact o place x (place_of a) y (place_of b) c e2))
    fine (cast base width type_place a place) c e =
        let (type, typed, e1) = ok_then _ _ _ e in
        let (x, is, e2) = ok_then _ _ _ e1 in
        let (first, again) = fine_type base width type_place type typed in
        let (second, too) = fine a x is in
        (both_true (is_constant_maybe means width) (is_constant means a) first second, rw (again, too) e2)
    fine (call name as' place) c e = absurd (no_call place (means name) c e)
    fine cut c e = absurd cc

    pub fine_type : (base : Base) (width : Maybe) (place : Span) (type : Ty) → written_type means exact wp base width place ≡ Ok type → (is_constant_maybe means width ≡ true) × (written_type means false wp base width place ≡ Ok type)
    fine_type base absent place type e = (refl, e)
    fine_type base (present width) place type e =
        let (n, is, e1) = ok_then _ _ _ e in
        let (constant, again) = fine width n is in
        (constant, rw again e1)

    pub fine_brackets : (index : Brackets) (values : List IndexValue) → index_values means exact wp index ≡ Ok values → (are_constant_brackets means index ≡ true) × (index_values means false wp index ≡ Ok values)
    fine_brackets no_bracket values e = (refl, e)
    fine_brackets (a_bracket b bs) values e =
        let (v, is, e1) = ok_then _ _ _ e in
        let (vs, also, e2) = ok_then _ _ _ e1 in
        let (first, again) = fine_bracket b v is in
        let (second, too) = fine_brackets bs vs also in
        (both_true (is_constant_bracket means b) (are_constant_brackets means bs) first second, rw (again, too) e2)

    fine_bracket : (b : Bracket) (v : IndexValue) → index_value means exact wp b ≡ Ok v → (is_constant_bracket means b ≡ true) × (index_value means false wp b ≡ Ok v)
    fine_bracket (position a) v e =
        let (z, is, e1) = ok_then _ _ _ e in
        let (x, found, e2) = ok_then _ _ _ is in
        let (constant, again) = fine a x found in
        (constant, rw (again, e2) e1)
    fine_bracket (range start step stop at') v e =
        let (x, is, e1) = ok_then _ _ _ e in
        let (y, also, e2) = ok_then _ _ _ e1 in
        let (z, last, e3) = ok_then _ _ _ e2 in
        let (first, again) = fine_end start x is in
        let (second, too) = fine_end step y also in
        let (third, three) = fine_end stop z last in
        (both_true (is_constant_maybe means start) (is_constant_maybe means step && is_constant_maybe means stop) first (both_true (is_constant_maybe means step) (is_constant_maybe means stop) second third), rw (again, too, three) e3)
    fine_bracket (members as') v e =
        let (zs, is, e1) = ok_then _ _ _ e in
        let (constant, again) = fine_members as' zs is in
        (constant, rw again e1)

    fine_end : (a : Maybe) (z : Option ℤ) → end_value means exact wp a ≡ Ok z → (is_constant_maybe means a ≡ true) × (end_value means false wp a ≡ Ok z)
    fine_end absent z e = (refl, e)
    fine_end (present a) z e =
        let (n, is, e1) = ok_then _ _ _ e in
        let (x, found, e2) = ok_then _ _ _ is in
        let (constant, again) = fine a x found in
        (constant, rw (again, e2) e1)

    fine_members : (as' : Trees) (zs : List ℤ) → member_values means exact wp as' ≡ Ok zs → (are_constant means as' ≡ true) × (member_values means false wp as' ≡ Ok zs)
    fine_members no_tree zs e = (refl, e)
    fine_members (a_tree a as') zs e =
        let (n, is, e1) = ok_then _ _ _ e in
        let (ns, also, e2) = ok_then _ _ _ e1 in
        let (x, found, e3) = ok_then _ _ _ is in
        let (first, again) = fine a x found in
        let (second, too) = fine_members as' ns also in
        (both_true (is_constant means a) (are_constant means as') first second, rw (again, e3, too) e2)
