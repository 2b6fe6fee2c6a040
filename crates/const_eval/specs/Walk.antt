-- Walks: what a walk has cost when it ends, and its answer, or the first rule that is broken. A walk does one thing after
-- another. Where a rule is broken it ends, and what would come behind costs nothing.
use Rattle.std.specs.Prelude.{ℕ, ◌+◌, nat_lt, Bool, true, false, List, [], ◌∷◌, ◌++◌, Result, Ok, Err}
use Rattle.qq_base.specs.declared.refusal.Refusal.{Refusal}
use Rattle.qq_base.specs.declared.refusal.Span.{Span}
use Rattle.qq_base.specs.declared.rule.Rule.{Rule}
use Rattle.qq_base.specs.declared.rule.Rule.TheVariants.{TooLarge}
use Rattle.const_eval.specs.Refusing.{refused}

pub record Walk (A : Type 0) : Type 0 where
  pub cost : ℕ
  pub answer : Result A Refusal

-- an answer that costs nothing
abbrev pub asked : {A : Type 0} → Result A Refusal → Walk A
asked answer = record { cost = 0; answer = answer }

abbrev pub done : {A : Type 0} → A → Walk A
done a = asked (Ok a)

-- a cost, and then a walk
abbrev pub behind : {A : Type 0} → ℕ → Walk A → Walk A
behind n w = record { cost = n + w.cost; answer = w.answer }

-- a walk, and then what is made of its answer
abbrev continued : {A B : Type 0} → ℕ → Result A Refusal → (A → Walk B) → Walk B
continued cost (Ok a) f = behind cost (f a)
continued cost (Err refusal) f = record { cost = cost; answer = Err refusal }

abbrev pub then_walk : {A B : Type 0} → Walk A → (A → Walk B) → Walk B
then_walk w f = continued w.cost w.answer f

-- a walk where something is allowed, and else the refusal
abbrev pub walk_where : {A : Type 0} → Bool → Rule → Span → Walk A → Walk A
walk_where true rule place w = w
walk_where false rule place w = asked (refused rule place)

-- one of two walks
abbrev pub either_walk : {A : Type 0} → Bool → Walk A → Walk A → Walk A
either_walk true one other = one
either_walk false one other = other

-- a walk whose cost is added as one sum, behind all that is asked in it
abbrev pub at_once : {A : Type 0} → Walk A → Walk A
at_once w = then_walk (asked w.answer) (λ a. behind w.cost (done a))

-- the walks of the members of a list, one after another, with their answers joined
abbrev pub each_in_turn : {A B : Type 0} → (A → Walk (List B)) → List A → Walk (List B)
each_in_turn f [] = done []
each_in_turn f (a ∷ as') =
    then_walk (f a) (λ xs.
    then_walk (each_in_turn f as') (λ ys.
    done (xs ++ ys)))

-- ---- the limit of costs

abbrev with_cost : {A : Type 0} → ℕ → Result A Refusal → Result (A × ℕ) Refusal
with_cost cost (Ok a) = Ok (a, cost)
with_cost cost (Err refusal) = Err refusal

abbrev where_paid : {A : Type 0} → Bool → Span → Walk A → Result (A × ℕ) Refusal
where_paid true place w = refused TooLarge place
where_paid false place w = with_cost w.cost w.answer

-- The answer of a walk and its cost, where the cost does not pass the budget. A walk whose cost passes it is refused at
-- the place, whatever would be refused later, since the cost stands when a rule is broken.
abbrev pub within_budget : {A : Type 0} → ℕ → Span → Walk A → Result (A × ℕ) Refusal
within_budget budget place w = where_paid (nat_lt budget w.cost) place w
