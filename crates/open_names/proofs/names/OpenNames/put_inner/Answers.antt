use Rattle.std.proofs.Common.{◌≡◌, suc, ◌-◌, length, Ok, Err, is_some, nat_eq, sym, arith}
use Rattle.std.proofs.lemmas.Grind.{common_steps}
use Rattle.std.specs.Map.{lookup}
use Rattle.scope_env.specs.declared.scope.DeclareFault.TheVariants.{Redeclared}
use Rattle.open_names.specs.Keeping.{standing_of}
use Rattle.open_names.proofs.Last.{Ends}
use Rattle.open_names.proofs.Put.{told_by, IsKey-of, Stands-of, is_here-of, IsKept-last, Stands-last, is_here-last, read_at}
use Rattle.open_names.proofs.names.OpenNames.put_inner.Goals as goal

pub returns-in_err-declare-clause-redeclared : goal.returns-in_err-declare-clause-redeclared
returns-in_err-declare-clause-redeclared g c =
    let s = standing_of c.self.inside in
    let is_key = IsKey-of s c.args.self.now c.self.view_is c.args.key c.requires.key in
    let items = c.self.inside.inner.items in
    let long : suc (c.len-last.result - 1) ≡ length items = grind (arith, common_steps) in
    let last : Ends items (c.len-last.result - 1) c.index_mut.result.now = read_at items (c.len-last.result - 1) c.index_mut.result.now long c.index_mut.ensures.value in
    let same : c.from_residual.result ≡ c.declare.result = grind (arith, common_steps) in
    told_by c.declare.result c.from_residual.result (Err (Redeclared c.args.slot)) (is_some (lookup (nat_eq c.args.key) c.index_mut.result.now.names)) _ same
    (is_here-of s c.args.self.now c.self.view_is c.args.key _ (is_here-last s.program s.globals items (c.len-last.result - 1) c.index_mut.result.now last c.args.key c.self.inside.counts c.self.invariant is_key))
    c.declare.ensures.redeclared

pub invariant_of-self-2 : goal.invariant_of-self-2
invariant_of-self-2 g c =
    let s = standing_of c.self.inside in
    let is_key = IsKey-of s c.args.self.now c.self.view_is c.args.key c.requires.key in
    let items = c.self.inside.inner.items in
    let long : suc (c.len-last.result - 1) ≡ length items = grind (arith, common_steps) in
    let last : Ends items (c.len-last.result - 1) c.index_mut.result.now = read_at items (c.len-last.result - 1) c.index_mut.result.now long c.index_mut.ensures.value in
    IsKept-last s.program s.globals items (c.len-last.result - 1) c.index_mut.result.now last c.args.key c.args.slot c.declare.new.self c.in_ok-declare.ensures.ok c.self.inside.counts c.with-counts.result c.with-counts.ensures.cells c.with-counts.ensures.qubits is_key c.self.invariant

pub returns-clause-ok : goal.returns-clause-ok
returns-clause-ok g c =
    let s = standing_of c.self.inside in
    let items = c.self.inside.inner.items in
    let long : suc (c.len-last.result - 1) ≡ length items = grind (arith, common_steps) in
    let last : Ends items (c.len-last.result - 1) c.index_mut.result.now = read_at items (c.len-last.result - 1) c.index_mut.result.now long c.index_mut.ensures.value in
    Stands-of s c.args.self.now _ c.self.view_is c.args.key c.args.slot (Stands-last s.program s.globals items (c.len-last.result - 1) c.index_mut.result.now last c.args.key c.args.slot c.declare.new.self c.in_ok-declare.ensures.ok)

pub returns-clause-redeclared : goal.returns-clause-redeclared
returns-clause-redeclared g c =
    let s = standing_of c.self.inside in
    let is_key = IsKey-of s c.args.self.now c.self.view_is c.args.key c.requires.key in
    let items = c.self.inside.inner.items in
    let long : suc (c.len-last.result - 1) ≡ length items = grind (arith, common_steps) in
    let last : Ends items (c.len-last.result - 1) c.index_mut.result.now = read_at items (c.len-last.result - 1) c.index_mut.result.now long c.index_mut.ensures.value in
    told_by c.declare.result (Ok tt) (Err (Redeclared c.args.slot)) (is_some (lookup (nat_eq c.args.key) c.index_mut.result.now.names)) _ (sym c.in_ok-declare.was)
    (is_here-of s c.args.self.now c.self.view_is c.args.key _ (is_here-last s.program s.globals items (c.len-last.result - 1) c.index_mut.result.now last c.args.key c.self.inside.counts c.self.invariant is_key))
    c.declare.ensures.redeclared
