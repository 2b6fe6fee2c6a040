-- Operands put into a row, one cell after the other.
use Rattle.std.proofs.Common.{◌≡◌, ℕ, zero, suc, ◌+◌, ◌<◌, ◌≤◌, List, [], ◌∷◌, length, get_or, drop, refl, sym, ap, ◌∙◌, arith}
use Rattle.std.specs.Prelude.{slice_set}
use Rattle.qir_module.specs.declared.instruction.Operand.{Operand}
use Rattle.block_graph.specs.Lowering.{stored}
use Rattle.block_lower.specs.Kept.{placed, pair_cells}

further : (i : ℕ) → suc (i + 1) ≡ suc i + 1
further i = omega arith

pub place_one : (cells : List ℕ) (operands row : List Operand) (i d : ℕ) (e : Operand) → i < length cells → i < length operands
    → placed (drop i cells) (drop i operands) row ≡ placed (drop (i + 1) cells) (drop (i + 1) operands) (slice_set row (get_or cells i d) (get_or operands i e))
place_one [] operands row i d e l m = absurd (omega (arith, l))
place_one (c ∷ cells) [] row i d e l m = absurd (omega (arith, m))
place_one (c ∷ cells) (o ∷ operands) row zero d e l m = refl
place_one (c ∷ cells) (o ∷ operands) row (suc i) d e l m =
    place_one cells operands row i d e (omega (arith, l)) (omega (arith, m))
    ∙ ap (λ (n : ℕ). placed (drop n (c ∷ cells)) (drop n (o ∷ operands)) (slice_set row (get_or cells i d) (get_or operands i e))) (further i)

past : (operands : List Operand) (i : ℕ) → length operands ≤ i → drop i operands ≡ []
past [] zero le = refl
past [] (suc i) le = refl
past (o ∷ operands) zero le = absurd (omega (arith, le))
past (o ∷ operands) (suc i) le = past operands i (omega (arith, le))

no_more : (cells : List ℕ) (row : List Operand) → placed cells [] row ≡ row
no_more [] row = refl
no_more (c ∷ cells) row = refl

pub place_none : (cells : List ℕ) (operands row : List Operand) (i : ℕ) → length operands ≤ i → placed (drop i cells) (drop i operands) row ≡ placed (drop (i + 1) cells) (drop (i + 1) operands) row
place_none cells operands row i le =
    ap (λ (os : List Operand). placed (drop i cells) os row) (past operands i le) ∙ no_more (drop i cells) row
    ∙ sym (ap (λ (os : List Operand). placed (drop (i + 1) cells) os row) (past operands (i + 1) (omega (arith, le))) ∙ no_more (drop (i + 1) cells) row)

-- operands of pairs are put into the pairs' cells
pub stored_is : (pairs : List (ℕ × ℕ)) (operands values : List Operand) → stored pairs operands values ≡ placed (pair_cells pairs) operands values
stored_is [] operands values = refl
stored_is (p ∷ pairs) [] values = refl
stored_is (p ∷ pairs) (o ∷ operands) values = stored_is pairs operands (slice_set values p.0 o)
