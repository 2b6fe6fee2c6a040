-- Walks of constants: where they are not refused, what they walk is constant, and they answer the same where remainders may be left.
use Rattle.std.proofs.Common.{◌≡◌, ℕ, Bool, true, false, ◌&&◌, List, ℤ, Option, Result, Ok, Err, refl, ap, ◌∙◌}
use Rattle.qq_base.specs.declared.refusal.Refusal.{Refusal}
use Rattle.qq_base.specs.declared.refusal.Span.{Span}
use Rattle.qq_base.specs.declared.rule.Rule.{Rule}
use Rattle.qasm_ast.specs.declared.expr.Base.{Base}
use Rattle.qasm_ast.specs.Tree.{Tree, Trees, no_tree, a_tree, Maybe, absent, present, Bracket, position, range, members, Brackets, no_bracket, a_bracket, place_of}
use Rattle.qasm_types.specs.declared.ty.Ty.{Ty}
use Rattle.alias_resolve.specs.declared.index.IndexValue.{IndexValue}
use Rattle.const_eval.specs.Constant.{Constant}
use Rattle.const_eval.specs.ConstValue.{constant_value}
use Rattle.const_eval.specs.ConstantWalk.{constant_walk, whole_walk, end_walk, members_walk, index_walk, indexes_walk, type_walk}
use Rattle.const_eval.specs.IsConstant.{is_constant, are_constant, is_constant_maybe, is_constant_bracket, are_constant_brackets}
use Rattle.const_eval.specs.Meaning.{Meaning}
use Rattle.const_eval.specs.Walk.{Walk, then_walk, walk_where}
use Rattle.expr_parts.proofs.Constancy.{fine}

-- ---- answers of walks that are not refused

then_answer : {A B : Type 0} (cost : ℕ) (r : Result A Refusal) (f : A → Walk B) (b : B) → (then_walk (record { cost = cost; answer = r }) f).answer ≡ Ok b → (a : A) × (r ≡ Ok a) × ((f a).answer ≡ Ok b)
then_answer cost (Ok a) f b e = (a, refl, e)
then_answer cost (Err refusal) f b e = absurd cc

pub walk_then : {A B : Type 0} (w : Walk A) (f : A → Walk B) (b : B) → (then_walk w f).answer ≡ Ok b → (a : A) × (w.answer ≡ Ok a) × ((f a).answer ≡ Ok b)
walk_then w f b e = then_answer w.cost w.answer f b e

answer_then : {A B : Type 0} (cost : ℕ) (r : Result A Refusal) (f : A → Walk B) (a : A) (b : B) → r ≡ Ok a → (f a).answer ≡ Ok b → (then_walk (record { cost = cost; answer = r }) f).answer ≡ Ok b
answer_then cost (Ok x) f a b is e = let same : x ≡ a = cc in ap (λ y. (f y).answer) same ∙ e
answer_then cost (Err refusal) f a b is e = absurd cc

pub then_walks : {A B : Type 0} (w : Walk A) (f : A → Walk B) (a : A) (b : B) → w.answer ≡ Ok a → (f a).answer ≡ Ok b → (then_walk w f).answer ≡ Ok b
then_walks w f a b is e = answer_then w.cost w.answer f a b is e

pub walk_allowed : {A : Type 0} (b : Bool) (rule : Rule) (place : Span) (w : Walk A) (a : A) → (walk_where b rule place w).answer ≡ Ok a → (b ≡ true) × (w.answer ≡ Ok a)
walk_allowed true rule place w a e = (refl, e)
walk_allowed false rule place w a e = absurd cc

both_true : (x y : Bool) → x ≡ true → y ≡ true → (x && y) ≡ true
both_true x y p q = rw (p, q) refl

module _ (means : List ℕ → Meaning) (exact : Bool) where
  pub constant_answer : (a : Tree) (c : Constant) → (constant_walk means exact a).answer ≡ Ok c → constant_value means exact a ≡ Ok c
  constant_answer a c e = by (constant_value means exact a) refl
    where
      by : (r : Result Constant Refusal) → constant_value means exact a ≡ r → constant_value means exact a ≡ Ok c
      by (Ok k) is = let same = rw is at e in is ∙ same
      by (Err refusal) is = let no = rw is at e in absurd cc

  -- a constant
  pub constant_inexact : (a : Tree) (c : Constant) → (constant_walk means exact a).answer ≡ Ok c → (is_constant means a ≡ true) × ((constant_walk means false a).answer ≡ Ok c)
  constant_inexact a c e =
      let (constant, again) = fine means exact (place_of a) a c (constant_answer a c e) in
      (constant, rw again refl)

  pub whole_inexact : (a : Tree) (z : ℤ) → (whole_walk means exact a).answer ≡ Ok z → (is_constant means a ≡ true) × ((whole_walk means false a).answer ≡ Ok z)
  whole_inexact a z e =
      let (c, is, e1) = walk_then (constant_walk means exact a) _ z e in
      let (constant, again) = constant_inexact a c is in
      (constant, then_walks (constant_walk means false a) _ c z again e1)

  -- the indexes in brackets
  end_inexact : (a : Maybe) (z : Option ℤ) → (end_walk means exact a).answer ≡ Ok z → (is_constant_maybe means a ≡ true) × ((end_walk means false a).answer ≡ Ok z)
  end_inexact absent z e = (refl, e)
  end_inexact (present a) z e =
      let (n, is, e1) = walk_then (whole_walk means exact a) _ z e in
      let (constant, again) = whole_inexact a n is in
      (constant, then_walks (whole_walk means false a) _ n z again e1)

  members_inexact : (as' : Trees) (zs : List ℤ) → (members_walk means exact as').answer ≡ Ok zs → (are_constant means as' ≡ true) × ((members_walk means false as').answer ≡ Ok zs)
  members_inexact no_tree zs e = (refl, e)
  members_inexact (a_tree a as') zs e =
      let (n, is, e1) = walk_then (whole_walk means exact a) _ zs e in
      let (ns, also, e2) = walk_then (members_walk means exact as') _ zs e1 in
      let (first, again) = whole_inexact a n is in
      let (second, too) = members_inexact as' ns also in
      (both_true (is_constant means a) (are_constant means as') first second, then_walks (whole_walk means false a) _ n zs again (then_walks (members_walk means false as') _ ns zs too e2))

  index_inexact : (b : Bracket) (v : IndexValue) → (index_walk means exact b).answer ≡ Ok v → (is_constant_bracket means b ≡ true) × ((index_walk means false b).answer ≡ Ok v)
  index_inexact (position a) v e =
      let (n, is, e1) = walk_then (whole_walk means exact a) _ v e in
      let (constant, again) = whole_inexact a n is in
      (constant, then_walks (whole_walk means false a) _ n v again e1)
  index_inexact (range start step stop at') v e =
      let (x, is, e1) = walk_then (end_walk means exact start) _ v e in
      let (y, also, e2) = walk_then (end_walk means exact step) _ v e1 in
      let (z, last, e3) = walk_then (end_walk means exact stop) _ v e2 in
      let (first, again) = end_inexact start x is in
      let (second, too) = end_inexact step y also in
      let (third, three) = end_inexact stop z last in (
        both_true (is_constant_maybe means start) (is_constant_maybe means step && is_constant_maybe means stop) first (both_true (is_constant_maybe means step) (is_constant_maybe means stop) second third),
        then_walks (end_walk means false start) _ x v again (then_walks (end_walk means false step) _ y v too (then_walks (end_walk means false stop) _ z v three e3)),
      )
  index_inexact (members as') v e =
      let (zs, is, e1) = walk_then (members_walk means exact as') _ v e in
      let (constant, again) = members_inexact as' zs is in
      (constant, then_walks (members_walk means false as') _ zs v again e1)

  pub indexes_inexact : (index : Brackets) (values : List IndexValue) → (indexes_walk means exact index).answer ≡ Ok values → (are_constant_brackets means index ≡ true) × ((indexes_walk means false index).answer ≡ Ok values)
  indexes_inexact no_bracket values e = (refl, e)
  indexes_inexact (a_bracket b bs) values e =
      let (v, is, e1) = walk_then (index_walk means exact b) _ values e in
      let (vs, also, e2) = walk_then (indexes_walk means exact bs) _ values e1 in
      let (first, again) = index_inexact b v is in
      let (second, too) = indexes_inexact bs vs also in
      (both_true (is_constant_bracket means b) (are_constant_brackets means bs) first second, then_walks (index_walk means false b) _ v values again (then_walks (indexes_walk means false bs) _ vs values too e2))

  -- a type with its width
  pub type_inexact : (base : Base) (place : Span) (width : Maybe) (type : Ty) → (type_walk means exact base place width).answer ≡ Ok type → (is_constant_maybe means width ≡ true) × ((type_walk means false base place width).answer ≡ Ok type)
  type_inexact base place absent type e = (refl, e)
  type_inexact base place (present width) type e =
      let (c, is, e1) = walk_then (constant_walk means exact width) _ type e in
      let (constant, again) = constant_inexact width c is in
      (constant, then_walks (constant_walk means false width) _ c type again e1)
