-- The walk of conditions, and of the ranges and sets of a `for` (OpenQASM 3.0 specification, "Classical instructions").
use Rattle.std.specs.Prelude.{ℕ, ◌^◌, nat_le, Bool, false, not, List, [], ◌∷◌, ℤ, pos, unsigned_abs}
use Rattle.std.specs.Ordering.{int_eq}
use Rattle.qq_base.specs.declared.rule.Rule.TheVariants.{TypeMismatch, StepZero, LoopWidth}
use Rattle.qasm_ast.specs.Tree.{Tree, Trees, no_tree, a_tree, Maybe, absent, present, Scalar, place_of}
use Rattle.qasm_types.specs.declared.ty.Ty.{Ty}
use Rattle.qasm_types.specs.declared.ty.Ty.TheVariants as t
use Rattle.qasm_types.specs.Plans.{is_word}
use Rattle.qasm_types.specs.Types.{width_of}
use Rattle.qasm_types.specs.Values.{number_of}
use Rattle.alias_resolve.specs.Numbers.{numbers_from}
use Rattle.const_eval.specs.Constant.{Constant, whole_in}
use Rattle.const_eval.specs.Meaning.{Meaning}
use Rattle.const_eval.specs.ConstCast.{cast_of_constant}
use Rattle.const_eval.specs.Walk.{Walk, asked, done, then_walk, walk_where}
use Rattle.const_eval.specs.ConstantWalk.{constant_walk, whole_walk, type_walk}
use Rattle.const_eval.specs.Typed.{Typed}
use Rattle.const_eval.specs.ExprWalk.{cast_expr_walk}

abbrev pub is_true : Constant → Bool
is_true c = not (int_eq (number_of c.value) (pos 0))

module _ (means : List ℕ → Meaning) where
  -- the type of a `for` variable, which is a word
  abbrev pub counter_type_walk : Scalar → Walk Ty
  counter_type_walk type =
      then_walk (type_walk means false type.base type.place type.width) (λ to.
      walk_where (is_word to) TypeMismatch type.place (done to))

  -- a constant start, stop or member, cast to the variable's type
  abbrev pub bound_walk : Ty → Tree → Walk ℤ
  bound_walk type a =
      then_walk (constant_walk means false a) (λ c.
      then_walk (asked (cast_of_constant c type (place_of a))) (λ d.
      done (whole_in d)))

  abbrev pub bounds_walk : Ty → Trees → Walk (List ℤ)
  bounds_walk type no_tree = done []
  bounds_walk type (a_tree a as') =
      then_walk (bound_walk type a) (λ z.
      then_walk (bounds_walk type as') (λ zs.
      done (z ∷ zs)))

  -- a step is not 0, and a missing one is 1
  abbrev pub step_walk : Maybe → Walk ℤ
  step_walk absent = done (pos 1)
  step_walk (present a) =
      then_walk (whole_walk means false a) (λ z.
      walk_where (not (int_eq z (pos 0))) StepZero (place_of a) (done z))

  -- the values of a static range
  abbrev pub static_range_walk : Ty → Tree → Maybe → Tree → Walk (List ℤ)
  static_range_walk type start step stop =
      then_walk (bound_walk type start) (λ a.
      then_walk (step_walk step) (λ k.
      then_walk (bound_walk type stop) (λ b.
      done (numbers_from a k b))))

  -- the step of a running range is at most 2^31 in size
  abbrev pub small_step : Maybe → ℤ → Walk (Unit {0})
  small_step absent z = done tt
  small_step (present a) z = walk_where (nat_le (unsigned_abs z) (2 ^ 31)) LoopWidth (place_of a) (done tt)

  module _ (types : List ℕ → Ty) where
    -- a condition is cast to `bool`
    abbrev pub condition_walk : Tree → Walk Typed
    condition_walk a = cast_expr_walk means types false t.Bool a

    -- the range of a running `for`, whose variable has at most 32 bits: its start and stop are cast to the variable's type
    abbrev pub running_range_walk : Scalar → Ty → Tree → Maybe → Tree → Walk (Unit {0})
    running_range_walk written type start step stop =
        walk_where (nat_le (width_of type) 32) LoopWidth written.place (
        then_walk (cast_expr_walk means types false type start) (λ _.
        then_walk (step_walk step) (λ k.
        then_walk (small_step step k) (λ _.
        then_walk (cast_expr_walk means types false type stop) (λ _.
        done tt)))))
