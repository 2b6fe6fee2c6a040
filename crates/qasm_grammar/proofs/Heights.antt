-- The expressions of a program are bounded in height.
use Rattle.std.proofs.Common.{◌≡◌, ℕ, zero, suc, ◌+◌, ◌*◌, ◌≤◌, List, Option, Some, refl, subst, arith}
use Rattle.qasm_lexer.specs.declared.token.Token.{Token}
use Rattle.qasm_ast.specs.Tree.{Tree, trees, Statements}
use Rattle.qasm_expr.specs.Grammar.{arguments, expr}
use Rattle.qasm_grammar.specs.Parts.{inner}
use Rattle.qasm_grammar.specs.Whole.{IsProgramOf}
use Rattle.qasm_grammar.specs.Height.{height_of, Every}
use Rattle.qasm_grammar.proofs.Holding.{Holds, holds_never, holds_wider}
use Rattle.qasm_grammar.proofs.Everywhere.{IsCall, arguments_every, program_every}
use Rattle.qasm_grammar.proofs.ExprHeights.{least, tallest, IsLow, IsInner, trees_low, some_height, expr_low}

tallest_is : (limit room : ℕ) → tallest limit room ≡ suc limit * suc room
tallest_is limit zero = omega arith
tallest_is limit (suc room) = omega (arith, tallest_is limit room)

tallest_grows : (limit room top : ℕ) → room ≤ top → tallest limit room ≤ tallest limit top
tallest_grows limit zero zero le = omega arith
tallest_grows limit zero (suc top) le = omega (arith, tallest_grows limit zero top (omega arith))
tallest_grows limit (suc room) zero le = absurd (omega (arith, le))
tallest_grows limit (suc room) (suc top) le = omega (arith, tallest_grows limit room top (omega (arith, le)))

module _ (text : List ℕ) (limit top : ℕ) where
  low_to : (room : ℕ) → room ≤ top → Holds (expr text (Some limit) room) (IsLow (tallest limit top))
  low_to room le = holds_wider (expr_low text limit room) (λ e h. omega (arith, h, tallest_grows limit room top le))

  inner_low : (room : ℕ) → Holds (inner text (Some limit) room) (IsInner (least limit room))
  inner_low zero = holds_never
  inner_low (suc room) = holds_wider (expr_low text limit room) (λ e h. omega (arith, h))

  calls_low : (room : ℕ) → room ≤ top → Holds (arguments text room (inner text (Some limit) room)) (IsCall (IsLow (tallest limit top)))
  calls_low room le = holds_wider (arguments_every (IsInner (least limit room)) text room (inner_low room))
      (λ es h name place. omega (arith, trees_low (least limit room) (some_height text limit room) (trees es) h, tallest_grows limit room top le))

  pub expressions_low : (tokens : List Token) (ss : Statements) → IsProgramOf text (Some limit) top tokens ss → Every (λ e. height_of e ≤ suc limit * suc top) ss
  expressions_low tokens ss d = subst (λ n. Every (λ e. height_of e ≤ n) ss) (tallest_is limit top) ((program_every (IsLow (tallest limit top)) text (Some limit) low_to calls_low).holds tokens ss d)
