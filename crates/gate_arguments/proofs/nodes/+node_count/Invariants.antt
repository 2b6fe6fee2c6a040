use Rattle.std.proofs.Common.{◌≡◌, ◌+◌, ◌*◌, ◌≤◌, drop, min}
use Rattle.qasm_ast.specs.Size.{size_of, trees_size, maybe_size, bracket_size, brackets_size}
use Rattle.qasm_ast.specs.View.{tree_in, trees_in, maybe_in, bracket_in, brackets_in}
use Rattle.const_eval.specs.Nodes.{trees_nodes, brackets_nodes}
use Rattle.gate_arguments.proofs.nodes.+node_count.Given as goal

abbrev pub decreases-node_count : goal.decreases-node_count
decreases-node_count l = 2 * size_of (tree_in l.program.now l.id.0)

abbrev pub decreases-maybe_count : goal.decreases-maybe_count
decreases-maybe_count l = 2 * maybe_size (maybe_in l.program.now l.id)

abbrev pub decreases-nodes_count : goal.decreases-nodes_count
decreases-nodes_count l = 2 * trees_size (trees_in l.program.now l.ids.now)

abbrev pub decreases-selecting_count : goal.decreases-selecting_count
decreases-selecting_count l = 2 * brackets_size (brackets_in l.program.now l.index.now) + 1

abbrev pub decreases-brackets_count : goal.decreases-brackets_count
decreases-brackets_count l = 2 * brackets_size (brackets_in l.program.now l.index.now)

abbrev pub decreases-bracket_count : goal.decreases-bracket_count
decreases-bracket_count l = 2 * bracket_size (bracket_in l.program.now l.index.now)

-- the nodes that were counted, and those that are left
abbrev pub invariant-nodes_count-loop-id : goal.invariant-nodes_count-loop-id
invariant-nodes_count-loop-id l = record {
  within : l.count ≤ l.most;
  due : min (trees_nodes (trees_in l.program l.ids)) l.most ≡ min (l.count + trees_nodes (trees_in l.program (drop l.id-index l.ids))) l.most;
}

abbrev pub invariant-brackets_count-loop-bracket : goal.invariant-brackets_count-loop-bracket
invariant-brackets_count-loop-bracket l = record {
  within : l.count ≤ l.most;
  due : min (brackets_nodes (brackets_in l.program l.index)) l.most ≡ min (l.count + brackets_nodes (brackets_in l.program (drop l.bracket-index l.index))) l.most;
}
