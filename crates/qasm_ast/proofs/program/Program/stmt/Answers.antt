use Rattle.std.proofs.Common.{◌≡◌, Some, slice_get, ap, subst}
use Rattle.qasm_ast.specs.Whole.{Source, IsProgram}
use Rattle.qasm_ast.proofs.Nodes.{found_in, statement_in-node, place-stmt, close-stmt, stmt_fits}
use Rattle.qasm_ast.proofs.program.Program.stmt.Goals as goal

pub returns : goal.returns
returns c =
    let p : Source = c.args.self.now in
    let n = c.args.id.0 in
    let whole : IsProgram p = subst IsProgram c.self.view_is c.self.invariant.0 in
    let found : slice_get p.stmts n ≡ Some c.index.result.now = found_in _ _ _ _ (ap (λ (q : Source). q.stmts) c.self.view_is) c.requires c.index.ensures in
    record {
      found = found;
      tree = statement_in-node p whole n c.index.result.now c.requires found;
      place = place-stmt p whole n c.index.result.now c.requires found;
      close = close-stmt p whole n c.index.result.now c.requires found;
      fits = stmt_fits p whole n c.index.result.now c.requires found;
      whole = whole;
    }
