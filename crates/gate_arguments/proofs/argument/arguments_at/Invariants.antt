use Rattle.std.proofs.Common.{◌≡◌, ℕ, ℤ, All, [], drop, length}
use Rattle.qasm_ast.specs.View.{trees_in}
use Rattle.gate_lists.specs.Growing.{AreWorths, Grows}
use Rattle.gate_lists.specs.Paid.{paid_from}
use Rattle.gate_arguments.specs.Arguments.{arguments_walk}
use Rattle.gate_arguments.specs.Kept.{KeepsTurns}
use Rattle.gate_arguments.specs.Seen.{ArgumentFits, arguments_seen, scope_seen}
use Rattle.gate_arguments.proofs.Walking.{behind}
use Rattle.gate_arguments.proofs.argument.arguments_at.Given as goal

-- the arguments that were found, in front of those that are left
abbrev pub invariant-loop-id : goal.invariant-loop-id
invariant-loop-id g l = record {
  due : (given worths : ℕ → ℤ) → AreWorths given worths l.work.turns.items.items
      → paid_from l.initial.work.budget (arguments_walk (scope_seen l.program worths (g.E.Constants.names l.scope.env.now) (g.E.GateEnv.callables l.scope.env.now) (g.E.GateEnv.operands l.scope.env.now) (g.E.GateEnv.inside l.scope.env.now) l.scope.body) (trees_in l.program l.ids))
      ≡ behind (arguments_seen worths l.arguments.items) (paid_from l.work.budget (arguments_walk (scope_seen l.program worths (g.E.Constants.names l.scope.env.now) (g.E.GateEnv.callables l.scope.env.now) (g.E.GateEnv.operands l.scope.env.now) (g.E.GateEnv.inside l.scope.env.now) l.scope.body) (trees_in l.program (drop l.id-index l.ids))));
  kept : KeepsTurns l.initial.work.turns.items.items l.work.turns.items.items;
  args : l.work.turns.args ≡ l.initial.work.turns.args;
  grown : Grows l.initial.work l.work [];
  fit : All (ArgumentFits (length l.work.turns.items.items)) l.arguments.items;
}
