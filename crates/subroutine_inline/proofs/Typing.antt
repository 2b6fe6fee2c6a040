-- Types with a width that is no width of theirs.
use Rattle.std.proofs.Common.{◌≡◌, ℕ, Bool, true, false, List, ℤ, unsigned_abs, Result, Ok, Err, refl, ap, ◌∙◌}
use Rattle.qq_base.specs.declared.refusal.Fault.{Fault}
use Rattle.qq_base.specs.declared.refusal.Fault.TheVariants as fault
use Rattle.qq_base.specs.declared.refusal.Refusal.{Refusal}
use Rattle.qq_base.specs.declared.refusal.Span.{Span}
use Rattle.qq_base.specs.declared.rule.Rule.TheVariants.{WidthRange}
use Rattle.qasm_ast.specs.declared.expr.Base.{Base}
use Rattle.qasm_ast.specs.Tree.{Tree, present, place_of}
use Rattle.const_eval.specs.Answers.{Fails}
use Rattle.const_eval.specs.Constant.{Constant}
use Rattle.const_eval.specs.ConstantWalk.{constant_walk, type_walk}
use Rattle.const_eval.specs.ConstCast.{whole_at, is_width, type_at, type_of_width, sized_type}
use Rattle.const_eval.specs.Meaning.{Meaning}
use Rattle.const_eval.specs.Refusing.{go_on, where_allowed}
use Rattle.const_eval.specs.Walk.{asked}
use Rattle.subroutine_inline.specs.Seen.{width_at}
use Rattle.subroutine_inline.proofs.Counting.{answer_then}

module _ (base : Base) (place width_place : Span) where
  allowed : (t : Bool) (n : ℕ) → where_allowed t WidthRange width_place (type_at place (type_of_width base n)) ≡ go_on (where_allowed t WidthRange width_place (Ok n)) (λ m. type_at place (type_of_width base m))
  allowed true n = refl
  allowed false n = refl

  behind_whole : (r : Result ℤ Refusal) → go_on r (λ z. where_allowed (is_width base z) WidthRange width_place (type_at place (type_of_width base (unsigned_abs z))))
      ≡ go_on (go_on r (λ z. where_allowed (is_width base z) WidthRange width_place (Ok (unsigned_abs z)))) (λ n. type_at place (type_of_width base n))
  behind_whole (Ok z) = allowed (is_width base z) (unsigned_abs z)
  behind_whole (Err e) = refl

  sized_by_width : (c : Constant) → sized_type base place width_place c ≡ go_on (width_at base width_place c) (λ n. type_at place (type_of_width base n))
  sized_by_width c = behind_whole (whole_at width_place c)

  width_stops : (c : Constant) (why : Fault) → Fails why (width_at base width_place c) → Fails why (sized_type base place width_place c)
  width_stops c fault.Memory e = tt
  width_stops c (fault.Refused refusal) e = sized_by_width c ∙ ap (λ r. go_on r (λ n. type_at place (type_of_width base n))) e

pub width_fails : (means : List ℕ → Meaning) (base : Base) (place : Span) (t : Tree) (c : Constant) (why : Fault) → (constant_walk means false t).answer ≡ Ok c
    → Fails why (width_at base (place_of t) c) → Fails why (type_walk means false base place (present t)).answer
width_fails means base place t c why known e =
    rw (answer_then (λ x. asked (sized_type base place (place_of t) x)) (constant_walk means false t) c known) (width_stops base place (place_of t) c why e)
