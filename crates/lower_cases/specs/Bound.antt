-- For private contracts only: what is asked of cores, by recursions that the code follows.
use Rattle.std.specs.Prelude.{◌≢◌, ℕ, ◌+◌, ◌*◌, ◌≤◌, All, List, [], ◌∷◌, length, Option, Some, None}
use Rattle.std.specs.List.{AllByRecursion}
use Rattle.qq_base.specs.declared.run.QubitId.{QubitId}
use Rattle.core_ir.specs.Core.{Core}
use Rattle.core_ir.specs.Size.{knots}
use Rattle.core_ir.specs.WellFormed.{IsWellFormed, GatesDiffer, IsSafe}
use Rattle.core_ir.specs.Tree.{Stmt, Skip, Seq, Assign, Gate, Reset, Measure, If, Block, Loop, Leave, Again}
use Rattle.lower_cases.specs.declared.limits.Prices.{Prices}

-- what a statement costs with those within it, by these prices
abbrev pub price_of : Prices → Stmt → ℕ
price_of p Skip = 0
price_of p (Seq a b) = price_of p a + price_of p b
price_of p (Assign pairs) = p.assign
price_of p (Gate leaf) = p.gate
price_of p (Reset qubit) = p.reset
price_of p (Measure qubit into) = p.measure
price_of p (If test a b) = p.choice + price_of p a + price_of p b
price_of p (Block a) = p.block + price_of p a
price_of p (Loop a) = p.repeat + price_of p a
price_of p (Leave k) = p.jump
price_of p (Again k) = p.jump

-- no less than weights, where so many cells are open everywhere and each statement reaches so many expressions that work
abbrev pub weights : ℕ → ℕ → Prices
weights cells working = record {
  assign = working;
  gate = 1 + working;
  reset = 1;
  measure = 2;
  choice = 6 + working + 2 * cells;
  block = 2 + cells;
  repeat = 4 + 2 * cells;
  jump = 1 + cells;
}

-- no less than knots
abbrev pub most_knots : Prices
most_knots = record { assign = 0; gate = 0; reset = 0; measure = 0; choice = 3; block = 1; repeat = 2; jump = 0 }

-- what is left of a budget, if it is enough for a price
abbrev pub LeavesOf : ℕ → ℕ → Option ℕ → Type 0
LeavesOf price budget None = Unit {0}
LeavesOf price budget (Some left) = price + left ≤ budget

-- no two of the qubits are the same
abbrev pub AreDistinct : List QubitId → Type 0
AreDistinct [] = Unit {0}
AreDistinct (q ∷ qs) = AllByRecursion (λ (r : QubitId). q.0 ≢ r.0) qs × AreDistinct qs

-- all that a core meets which fits, apart from its weight and from how its end is reached
pub record IsPlain (core : Core) : Type 0 where
  pub well_formed : IsWellFormed core
  pub differ : All GatesDiffer core.stmts
  pub safe : IsSafe core.exprs
  pub few_cells : length core.cells ≤ 2147483648
  pub few_exprs : length core.exprs ≤ 4000000000
  pub few_stmts : length core.stmts ≤ 1048576
  pub few_labels : length core.labels ≤ 16384
  pub few_qubits : core.qubits ≤ 1024
  pub few_knots : knots core ≤ 16001
