use Rattle.qasm_ast.proofs.Levels.{depth_seen}
use Rattle.qasm_ast.proofs.program.Program.new.Goals as goal

pub invariant_of-result : goal.invariant_of-result
invariant_of-result c = (
  c.requires,
  depth_seen (record { names = c.args.names.items; exprs = c.args.exprs.items; stmts = c.args.stmts.items; top = c.args.top; end = c.args.end }) _ _ c.in_ok-bodies.bodies.items _ c.level_of_body-depth.result
      c.deref-2.ensures.value c.deref-4.ensures.value c.requires c.in_ok-bodies.ensures c.deref-5.ensures.value c.level_of_body-depth.ensures,
)
