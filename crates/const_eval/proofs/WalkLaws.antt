-- The laws of walks.
use Rattle.std.proofs.Common.{◌≡◌, ℕ, ◌+◌, ◌<◌, ◌≤◌, Bool, true, List, Result, Ok, Err, refl, ap, add_assoc, arith}
use Rattle.std.proofs.lemmas.Bool.{lt-ltb, le-ltb}
use Rattle.qq_base.specs.declared.refusal.Refusal.{Refusal}
use Rattle.qq_base.specs.declared.refusal.Span.{Span}
use Rattle.qq_base.specs.declared.rule.Rule.TheVariants.{TooLarge}
use Rattle.qasm_ast.specs.Tree.{Tree, named, wire, number, truth, bit_string, unary, binary, cast, call, cut}
use Rattle.qasm_types.specs.declared.ty.Ty.{Ty}
use Rattle.const_eval.specs.Meaning.{Meaning}
use Rattle.const_eval.specs.Refusing.{refused, go_on}
use Rattle.const_eval.specs.IsConstant.{is_constant}
use Rattle.const_eval.specs.Walk.{Walk, done, behind, then_walk, within_budget}
use Rattle.const_eval.specs.ConstantWalk.{constant_walk}
use Rattle.const_eval.specs.Typed.{Exactly}
use Rattle.const_eval.specs.ExprWalk.{expr_walk}
use Rattle.const_eval.specs.Values.{TypedValue, constant_by, evaluated}

module _ {A : Type 0} where
  pub over-budget : (budget : ℕ) (place : Span) (w : Walk A) → budget < w.cost → within_budget budget place w ≡ refused TooLarge place
  over-budget budget place w more = rw (lt-ltb budget w.cost more) refl

  with_answer : (budget cost : ℕ) (place : Span) (answer : Result A Refusal) → cost ≤ budget → within_budget budget place (record { cost = cost; answer = answer }) ≡ go_on answer (λ a. Ok (a, cost))
  with_answer budget cost place (Ok a) few = rw (le-ltb budget cost few) refl
  with_answer budget cost place (Err refusal) few = rw (le-ltb budget cost few) refl

  pub within-budget : (budget : ℕ) (place : Span) (w : Walk A) → w.cost ≤ budget → within_budget budget place w ≡ go_on w.answer (λ a. Ok (a, w.cost))
  within-budget budget place w few = with_answer budget w.cost place w.answer few

  nothing_behind : (cost : ℕ) (answer : Result A Refusal) → then_walk (record { cost = cost; answer = answer }) done ≡ record { cost = cost; answer = answer }
  nothing_behind cost (Ok a) = let same : cost + 0 ≡ cost = omega arith in rw same refl
  nothing_behind cost (Err refusal) = refl

  pub then_done : (w : Walk A) → then_walk w done ≡ w
  then_done w = nothing_behind w.cost w.answer

module _ {A B C : Type 0} (f : A → Walk B) (g : B → Walk C) where
  second : (m n : ℕ) (answer : Result B Refusal) →
      then_walk (record { cost = m + n; answer = answer }) g ≡ behind m (then_walk (record { cost = n; answer = answer }) g)
  second m n (Ok b) = ap (λ k. record { cost = k; answer = (g b).answer }) (add_assoc m n (g b).cost)
  second m n (Err refusal) = refl

  first : (cost : ℕ) (answer : Result A Refusal) →
      then_walk (then_walk (record { cost = cost; answer = answer }) f) g ≡ then_walk (record { cost = cost; answer = answer }) (λ a. then_walk (f a) g)
  first cost (Ok a) = second cost (f a).cost (f a).answer
  first cost (Err refusal) = refl

  pub then_then : (w : Walk A) → then_walk (then_walk w f) g ≡ then_walk w (λ a. then_walk (f a) g)
  then_then w = first w.cost w.answer

module _ (means : List ℕ → Meaning) where
  pub constant_walked : (types : List ℕ → Ty) (exact : Bool) (a : Tree) → is_constant means a ≡ true →
      expr_walk means types exact a ≡ then_walk (constant_walk means exact a) (λ c. done (Exactly c))
  constant_walked types exact (named name index operand place) e = rw e refl
  constant_walked types exact (wire n place) e = refl
  constant_walked types exact (number n place) e = refl
  constant_walked types exact (truth b place) e = refl
  constant_walked types exact (bit_string bits place) e = refl
  constant_walked types exact (unary o a place) e = rw e refl
  constant_walked types exact (binary o a b place) e = rw e refl
  constant_walked types exact (cast base width type_place a place) e = rw e refl
  constant_walked types exact (call name as' place) e = refl
  constant_walked types exact cut e = refl

  pub constant_evaluated : (held : List ℕ → TypedValue) (a : Tree) → is_constant means a ≡ true → evaluated means held a ≡ constant_by means a
  constant_evaluated held (named name index operand place) e = rw e refl
  constant_evaluated held (wire n place) e = refl
  constant_evaluated held (number n place) e = refl
  constant_evaluated held (truth b place) e = refl
  constant_evaluated held (bit_string bits place) e = refl
  constant_evaluated held (unary o a place) e = rw e refl
  constant_evaluated held (binary o a b place) e = rw e refl
  constant_evaluated held (cast base width type_place a place) e = rw e refl
  constant_evaluated held (call name as' place) e = refl
  constant_evaluated held cut e = refl
