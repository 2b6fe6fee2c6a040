use Rattle.std.proofs.Common.{◌≡◌, [], ◌∷◌, ◌++◌, None, Some, nat_eq, refl, sym, ◌∙◌, arith}
use Rattle.std.proofs.lemmas.Grind.{common_steps}
use Rattle.std.specs.Map.{lookup}
use Rattle.qasm_ast.specs.Tree.{text_at}
use Rattle.scope_env.specs.OpenScopes.{find}
use Rattle.open_names.specs.Texts.{texts}
use Rattle.open_names.specs.Standing.{shown}
use Rattle.open_names.specs.Keeping.{standing_of}
use Rattle.open_names.proofs.Asked.{by_text, asked_find, key_of, whole-inside, AreLeft-around, whole-globals}
use Rattle.open_names.proofs.names.OpenNames.find.Goals as goal

pub loop-scope-init : goal.loop-scope-init
loop-scope-init g c =
    let e : c.into_iter-scope-iterator.result.iter.rest.now ≡ c.self.inside.inner.items = cc in
    rw e (refl, c.self.invariant.inner)

pub returns-in-Some-find : goal.returns-in-Some-find
returns-in-Some-find g c =
    let s = standing_of c.self.inside in
    let ts = texts s.program in
    let last : c.loop-scope.scope-iterator.iter.rest.now ≡ c.next.new.self.iter.rest.now ++ c.in-Some.scope.now ∷ [] = grind (arith, common_steps) in
    let found : lookup (nat_eq c.args.name) c.in-Some.scope.now.names ≡ Some c.in-Some-find.slot.now = grind (arith, common_steps) in
    let is_key = key_of s c.args.self.now c.self.inside.counts c.self.invariant c.self.view_is c.args.name c.requires in
    by_text asked_find s c.args.self.now c.args.name (Some c.in-Some-find.slot.now) c.self.view_is c.requires (λ _.
    sym (whole-inside ts c.args.name s.globals (find (text_at ts c.args.name) (shown ts s.globals s.inner)) is_key c.loop-scope.scope-iterator.iter.rest.now c.next.new.self.iter.rest.now c.in-Some.scope.now last c.loop-scope.invariant c.in-Some-find.slot.now found))

pub loop-scope-preserved : goal.loop-scope-preserved
loop-scope-preserved g c =
    let s = standing_of c.self.inside in
    let ts = texts s.program in
    let last : c.loop-scope.scope-iterator.iter.rest.now ≡ c.next.new.self.iter.rest.now ++ c.in-Some.scope.now ∷ [] = grind (arith, common_steps) in
    let none : lookup (nat_eq c.args.name) c.in-Some.scope.now.names ≡ None = grind (arith, common_steps) in
    let is_key = key_of s c.args.self.now c.self.inside.counts c.self.invariant c.self.view_is c.args.name c.requires in
    AreLeft-around ts c.args.name s.globals (find (text_at ts c.args.name) (shown ts s.globals s.inner)) is_key c.loop-scope.scope-iterator.iter.rest.now c.next.new.self.iter.rest.now c.in-Some.scope.now last c.loop-scope.invariant none

pub returns : goal.returns
returns g c =
    let s = standing_of c.self.inside in
    let ts = texts s.program in
    let none : c.loop-scope.scope-iterator.iter.rest.now ≡ [] = grind (arith, common_steps) in
    let is_key = key_of s c.args.self.now c.self.inside.counts c.self.invariant c.self.view_is c.args.name c.requires in
    by_text asked_find s c.args.self.now c.args.name _ c.self.view_is c.requires (λ _.
    c.find-2.ensures ∙ sym (whole-globals ts c.args.name s.globals (find (text_at ts c.args.name) (shown ts s.globals s.inner)) is_key c.loop-scope.scope-iterator.iter.rest.now none c.self.invariant.globals c.loop-scope.invariant))
