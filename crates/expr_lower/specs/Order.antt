-- For private contracts only: the expressions that are reached, in the order of their numbers.
use Rattle.std.specs.Prelude.{◌≡◌, ◌⊎◌, ℕ, ◌<◌, true, List, [], ◌∷◌, length, slice_get}
use Rattle.std.specs.List.{AllByRecursion}
use Rattle.std.specs.Ordering.{nat_cmp}
use Rattle.std.specs.BTreeSet.{insert_key}
use Rattle.core_ir.specs.declared.expression.CoreExpr.{CoreExpr}
use Rattle.core_ir.specs.Size.{operands_of, is_reached}

abbrev pub Among : ℕ → List ℕ → Type 0
Among k [] = ⊥
Among k (x ∷ xs) = (k ≡ x) ⊎ Among k xs

-- each number is below all behind it
abbrev pub Rises : List ℕ → Type 0
Rises [] = Unit {0}
Rises (x ∷ xs) = AllByRecursion (λ y. x < y) xs × Rises xs

-- all that the roots reach, each once
pub record IsOrder (exprs : List CoreExpr) (roots order : List ℕ) : Type 0 where
  pub rises : Rises order
  pub within : AllByRecursion (λ k. k < length exprs) order
  pub reached : AllByRecursion (λ k. is_reached exprs roots k ≡ true) order
  pub closed : (k : ℕ) → Among k order → AllByRecursion (λ j. Among j order) (operands_of (slice_get exprs k))
  pub has_roots : AllByRecursion (λ e. Among e order) roots

-- ---- on the way there

abbrev pub head_or : ℕ → List ℕ → ℕ
head_or n [] = n
head_or n (x ∷ xs) = x

-- numbers put into an ascending list of them
abbrev pub put_all : List ℕ → List ℕ → List ℕ
put_all keys [] = keys
put_all keys (x ∷ xs) = put_all (insert_key nat_cmp keys x) xs

-- what is taken so far reaches down to what is pending, all of which stands below it
pub record Collects (exprs : List CoreExpr) (roots keys order : List ℕ) : Type 0 where
  pub rises : Rises order
  pub within : AllByRecursion (λ k. k < length exprs) order
  pub reached : AllByRecursion (λ k. is_reached exprs roots k ≡ true) order
  pub closed : (k : ℕ) → Among k order → AllByRecursion (λ j. Among j order ⊎ Among j keys) (operands_of (slice_get exprs k))
  pub has_roots : AllByRecursion (λ e. Among e order ⊎ Among e keys) roots
  pub pending : AllByRecursion (λ q. (q < head_or (length exprs) order) × (is_reached exprs roots q ≡ true)) keys
