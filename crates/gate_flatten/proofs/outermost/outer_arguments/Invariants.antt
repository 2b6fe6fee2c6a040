use Rattle.std.proofs.Common.{◌≡◌, ◌≤◌, ℕ, All, length, take, ℤ}
use Rattle.gate_lists.specs.Growing.{AreWorths}
use Rattle.gate_lists.specs.Turns.{made_count}
use Rattle.gate_arguments.specs.Seen.{ArgumentFits, arguments_seen}
use Rattle.gate_flatten.specs.Seen.{outer_arguments}
use Rattle.gate_flatten.proofs.outermost.outer_arguments.Given as goal

-- the arguments so far are the first ones of the call
abbrev pub invariant-loop-k : goal.invariant-loop-k
invariant-loop-k g l = record {
  worths : (given worths : ℕ → ℤ) → AreWorths given worths l.turns.items.items → arguments_seen worths l.arguments.items ≡ outer_arguments given 0 (take l.k (g.E.CallEnv.outers l.env));
  count : length l.arguments.items ≡ l.k;
  fit : All (ArgumentFits (length l.turns.items.items)) l.arguments.items;
  outers : made_count l.turns.items.items ≡ 0;
  args : l.turns.args ≤ l.k;
}
