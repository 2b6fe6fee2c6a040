use Rattle.std.proofs.Common.{◌≡◌, Some, slice_get, ap, subst}
use Rattle.qasm_ast.specs.Whole.{Source, IsProgram}
use Rattle.qasm_ast.proofs.Naming.{text_at-found, number_of-found}
use Rattle.qasm_ast.proofs.Nodes.{found_in}
use Rattle.qasm_ast.proofs.program.Program.name.Goals as goal

pub returns-clause-text : goal.returns-clause-text
returns-clause-text c =
    let found : slice_get c.args.self.now.names c.args.number ≡ Some c.index.result.now = found_in _ _ _ _ (ap (λ (p : Source). p.names) c.self.view_is) c.requires c.index.ensures in
    text_at-found c.args.self.now.names c.args.number c.index.result.now found

pub returns-clause-number : goal.returns-clause-number
returns-clause-number c =
    let found : slice_get c.args.self.now.names c.args.number ≡ Some c.index.result.now = found_in _ _ _ _ (ap (λ (p : Source). p.names) c.self.view_is) c.requires c.index.ensures in
    let whole : IsProgram c.args.self.now = subst IsProgram c.self.view_is c.self.invariant.0 in
    number_of-found c.args.self.now.names c.args.number c.index.result.now whole.names_differ c.requires found
