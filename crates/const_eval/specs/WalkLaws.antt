-- Laws of walks: the limit of costs, the walk of a constant, and its value in a run.
use Rattle.std.specs.Prelude.{◌≡◌, ℕ, ◌<◌, ◌≤◌, Bool, true, List, Ok}
use Rattle.qq_base.specs.declared.refusal.Span.{Span}
use Rattle.qq_base.specs.declared.rule.Rule.TheVariants.{TooLarge}
use Rattle.qasm_ast.specs.Tree.{Tree}
use Rattle.qasm_types.specs.declared.ty.Ty.{Ty}
use Rattle.const_eval.specs.Meaning.{Meaning}
use Rattle.const_eval.specs.Refusing.{refused, go_on}
use Rattle.const_eval.specs.IsConstant.{is_constant}
use Rattle.const_eval.specs.Walk.{Walk, done, then_walk, within_budget}
use Rattle.const_eval.specs.ConstantWalk.{constant_walk}
use Rattle.const_eval.specs.Typed.{Exactly}
use Rattle.const_eval.specs.ExprWalk.{expr_walk}
use Rattle.const_eval.specs.Values.{TypedValue, constant_by, evaluated}

-- A walk whose cost passes the budget is refused for that, whatever it answers; any other has its answer, and its cost.
pub record BudgetsAreKept (A : Type 0) : Type 0 where
  pub over : (budget : ℕ) (place : Span) (w : Walk A) → budget < w.cost → within_budget budget place w ≡ refused TooLarge place
  pub kept : (budget : ℕ) (place : Span) (w : Walk A) → w.cost ≤ budget → within_budget budget place w ≡ go_on w.answer (λ a. Ok (a, w.cost))

-- One walk behind another costs both, and it does not matter which two of three are taken together.
pub record WalksAreJoined (A B C : Type 0) : Type 0 where
  pub nothing : (w : Walk A) → then_walk w done ≡ w
  pub in_order : (w : Walk A) (f : A → Walk B) (g : B → Walk C) → then_walk (then_walk w f) g ≡ then_walk w (λ a. then_walk (f a) g)

-- A constant expression is worth its constant, whatever names of run-time values there are: in the walk, with the cost of its
-- nodes, and in a run.
pub record ConstantsAreConstant : Type 0 where
  pub walked : (means : List ℕ → Meaning) (types : List ℕ → Ty) (exact : Bool) (a : Tree) → is_constant means a ≡ true →
      expr_walk means types exact a ≡ then_walk (constant_walk means exact a) (λ c. done (Exactly c))
  pub in_runs : (means : List ℕ → Meaning) (held : List ℕ → TypedValue) (a : Tree) → is_constant means a ≡ true →
      evaluated means held a ≡ constant_by means a
