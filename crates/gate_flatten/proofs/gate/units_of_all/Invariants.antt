use Rattle.std.proofs.Common.{◌≡◌, ℕ, ℤ, All, length}
use Rattle.qasm_ast.specs.View.{trees_in}
use Rattle.gate_lists.specs.Amounts.{IsNamed}
use Rattle.gate_arguments.specs.Arguments.{places_of, units_of_all}
use Rattle.gate_arguments.specs.Seen.{arguments_seen, ArgumentFits}
use Rattle.gate_flatten.proofs.Readying.{units_from}
use Rattle.gate_flatten.proofs.gate.units_of_all.Given as goal

-- the units that were found, in front of those that are left
abbrev pub invariant-loop-k : goal.invariant-loop-k
invariant-loop-k l = record {
  due : (worths : ℕ → ℤ) → units_of_all (places_of (trees_in l.program l.args)) (arguments_seen worths l.arguments) ≡ units_from l.program worths l.args l.arguments l.amounts.items l.k;
  count : length l.amounts.items ≡ l.k;
  named : (turns : ℕ) → All (ArgumentFits turns) l.arguments → All (IsNamed turns) l.amounts.items;
}
