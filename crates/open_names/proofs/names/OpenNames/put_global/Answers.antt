use Rattle.std.proofs.Common.{◌≡◌, [], Ok, Err, is_some, nat_eq, sym, ap, ◌∙◌, arith}
use Rattle.std.proofs.lemmas.Grind.{common_steps}
use Rattle.std.specs.Map.{lookup}
use Rattle.scope_env.specs.declared.scope.DeclareFault.TheVariants.{Redeclared}
use Rattle.open_names.specs.Standing.{Standing}
use Rattle.open_names.specs.Keeping.{standing_of}
use Rattle.open_names.proofs.Put.{told_by, IsKey-of, is_here-of, is_here-top}
use Rattle.open_names.proofs.names.OpenNames.put_global.Goals as goal

pub returns-in_err-declare-clause-redeclared : goal.returns-in_err-declare-clause-redeclared
returns-in_err-declare-clause-redeclared g c =
    let s = standing_of c.self.inside in
    let is_key = IsKey-of s c.args.self.now c.self.view_is c.args.key c.requires.key in
    let top : s.inner ≡ [] = ap (λ (u : Standing g.row.A.Denot). u.inner) c.self.view_is ∙ c.requires.top in
    let same : c.from_residual.result ≡ c.declare.result = grind (arith, common_steps) in
    told_by c.declare.result c.from_residual.result (Err (Redeclared c.args.slot)) (is_some (lookup (nat_eq c.args.key) c.self.inside.globals)) _ same
    (is_here-of s c.args.self.now c.self.view_is c.args.key _ (is_here-top s c.self.inside.counts c.self.invariant c.args.key is_key top))
    c.declare.ensures.redeclared

pub returns-clause-redeclared : goal.returns-clause-redeclared
returns-clause-redeclared g c =
    let s = standing_of c.self.inside in
    let is_key = IsKey-of s c.args.self.now c.self.view_is c.args.key c.requires.key in
    let top : s.inner ≡ [] = ap (λ (u : Standing g.row.A.Denot). u.inner) c.self.view_is ∙ c.requires.top in
    told_by c.declare.result (Ok tt) (Err (Redeclared c.args.slot)) (is_some (lookup (nat_eq c.args.key) c.self.inside.globals)) _ (sym c.in_ok-declare.was)
    (is_here-of s c.args.self.now c.self.view_is c.args.key _ (is_here-top s c.self.inside.counts c.self.invariant c.args.key is_key top))
    c.declare.ensures.redeclared
