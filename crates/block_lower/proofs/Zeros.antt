-- The node of an expression tells whether it is the constant 0 or false.
use Rattle.std.proofs.Common.{◌≡◌, ℕ, zero, suc, ◌<◌, ◌≤◌, Bool, true, false, List, [], ◌∷◌, length, get_or, ℤ, pos, negsuc, Option, Some, None, refl, ap, ◌∙◌, arith}
use Rattle.std.specs.Prelude.{slice_get, IsTrue, ◌↔◌}
use Rattle.std.proofs.lemmas.Option.{slice_get-get_or}
use Rattle.core_ir.specs.declared.expression.CoreExpr.{CoreExpr}
use Rattle.core_ir.specs.declared.expression.CoreExpr.TheVariants.{Cell as CellNode, Truth as TruthNode, Number as NumberNode, Op as OpNode, Widen as WidenNode, Narrow as NarrowNode, Choose as ChooseNode}
use Rattle.core_ir.specs.Tree.{Expr, node_expr, expr_within, expr_of}
use Rattle.core_ir.specs.Ways.{is_zero}
use Rattle.block_lower.specs.Marks.{is_zero_node}

-- whatever the trees of the expressions are that it names
any_tree : (tree : ℕ → Expr) (node : CoreExpr) → is_zero (node_expr tree (Some node)) ≡ is_zero_node node
any_tree tree (CellNode c) = refl
any_tree tree (TruthNode b) = refl
any_tree tree (NumberNode z) = refl
any_tree tree (OpNode op a b) = refl
any_tree tree (WidenNode a) = refl
any_tree tree (NarrowNode a) = refl
any_tree tree (ChooseNode test a b) = refl

pub zero_at : (exprs : List CoreExpr) (e : ℕ) (d : CoreExpr) → e < length exprs → is_zero (expr_of exprs e) ≡ is_zero_node (get_or exprs e d)
unfolding expr_of
zero_at exprs e d l = ap (λ (o : Option CoreExpr). is_zero (node_expr (expr_within exprs e) o)) (slice_get-get_or exprs e d l) ∙ any_tree (expr_within exprs e) (get_or exprs e d)

get_past : (exprs : List CoreExpr) (e : ℕ) → length exprs ≤ e → slice_get exprs e ≡ None
get_past [] e le = refl
get_past (x ∷ exprs) zero le = absurd (omega (arith, le))
get_past (x ∷ exprs) (suc e) le = get_past exprs e (omega (arith, le))

pub zero_past : (exprs : List CoreExpr) (e : ℕ) → length exprs ≤ e → is_zero (expr_of exprs e) ≡ false
unfolding expr_of
zero_past exprs e le = ap (λ (o : Option CoreExpr). is_zero (node_expr (expr_within exprs e) o)) (get_past exprs e le)

-- a word is compared with 0
pub zero_word : (b : Bool) (z : ℤ) → (IsTrue b ↔ (z ≡ pos 0)) → b ≡ is_zero_node (NumberNode z)
zero_word b (pos zero) is = is.1 refl
zero_word true (pos (suc n)) is = absurd (positive n (is.0 refl))
  where
    positive : (n : ℕ) → pos (suc n) ≡ pos 0 → ⊥
    positive n same = omega (arith, same_number n same)
      where
        same_number : (n : ℕ) → pos (suc n) ≡ pos 0 → suc n ≡ 0
        same_number n same = cc
zero_word false (pos (suc n)) is = refl
zero_word true (negsuc n) is = absurd (negative n (is.0 refl))
  where
    negative : (n : ℕ) → negsuc n ≡ pos 0 → ⊥
    negative n same = cc
zero_word false (negsuc n) is = refl
