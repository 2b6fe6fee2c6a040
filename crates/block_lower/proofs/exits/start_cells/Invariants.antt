use Rattle.std.proofs.Common.{◌≡◌, take}
use Rattle.std.specs.Prelude.{filter}
use Rattle.core_ir.specs.Tree.{body_of}
use Rattle.block_graph.specs.Lowering.{start_needs}
use Rattle.block_lower.proofs.exits.start_cells.Given as goal

abbrev pub invariant-loop-c : goal.invariant-loop-c
invariant-loop-c l = l.cells.items ≡ filter (start_needs l.core.exprs (body_of l.core.stmts l.body) l.values) (take l.c-index l.c-items)
