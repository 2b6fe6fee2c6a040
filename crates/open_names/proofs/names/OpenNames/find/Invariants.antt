use Rattle.std.proofs.Common.{reverse}
use Rattle.scope_env.specs.OpenScopes.{find}
use Rattle.qasm_ast.specs.Tree.{text_at}
use Rattle.open_names.specs.Texts.{texts}
use Rattle.open_names.specs.Standing.{shown}
use Rattle.open_names.proofs.Asked.{AreLeft}
use Rattle.open_names.proofs.names.OpenNames.find.Given as goal

abbrev pub invariant-loop-scope : goal.invariant-loop-scope
invariant-loop-scope g l =
    let ts = texts l.self-inside.program.now in
    let globals = l.self-inside.globals in
    AreLeft ts l.name globals (find (text_at ts l.name) (shown ts globals (reverse l.self-inside.inner.items))) l.scope-iterator.iter.rest.now
