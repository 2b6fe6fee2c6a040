use Rattle.std.proofs.Common.{◌≡◌, true, false, ◌+◌, sym, ◌∙◌, ap, subst}
use Rattle.qasm_ast.specs.Tree.{text_at}
use Rattle.scope_env.specs.OpenScopes.{is_here}
use Rattle.open_names.specs.Texts.{texts, standard_names}
use Rattle.open_names.specs.Standing.{Standing, scopes_of}
use Rattle.open_names.proofs.Rows.{has_one-there, has_one-later}
use Rattle.open_names.proofs.names.OpenNames.has_library.Goals as goal

pub returns-then-has : goal.returns-then-has
returns-then-has g c =
    let v = c.args.self.now in
    let text : text_at (texts v.program) c.standard_key-key.result ≡ text_at standard_names (c.loop-place.place + 6) =
    subst (λ (u : Standing g.row.A.Denot). text_at (texts u.program) c.standard_key-key.result ≡ text_at standard_names (c.loop-place.place + 6)) c.self.view_is c.standard_key-key.ensures.text in
    let there : is_here (text_at standard_names (c.loop-place.place + 6)) (scopes_of v) ≡ true = ap (λ t. is_here t (scopes_of v)) (sym text) ∙ sym c.has.ensures ∙ c.if-has.true in
    sym (c.loop-place.invariant ∙ has_one-there (scopes_of v) c.loop-place.place c.loop-place-test.true there)

pub loop-place-preserved : goal.loop-place-preserved
loop-place-preserved g c =
    let v = c.args.self.now in
    let text : text_at (texts v.program) c.standard_key-key.result ≡ text_at standard_names (c.loop-place.place + 6) =
    subst (λ (u : Standing g.row.A.Denot). text_at (texts u.program) c.standard_key-key.result ≡ text_at standard_names (c.loop-place.place + 6)) c.self.view_is c.standard_key-key.ensures.text in
    let absent : is_here (text_at standard_names (c.loop-place.place + 6)) (scopes_of v) ≡ false = ap (λ t. is_here t (scopes_of v)) (sym text) ∙ sym c.has.ensures ∙ c.if-has.false in
    c.loop-place.invariant ∙ has_one-later (scopes_of v) c.loop-place.place c.loop-place-test.true absent
