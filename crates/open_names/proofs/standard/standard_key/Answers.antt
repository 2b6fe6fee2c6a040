use Rattle.std.proofs.Common.{◌≡◌, ◌+◌, length, ap, sym, ◌∙◌, subst, arith}
use Rattle.std.proofs.lemmas.Slice.Eq.{bytes_eq-Decides}
use Rattle.qasm_ast.specs.Whole.{Source}
use Rattle.qasm_ast.specs.Tree.{text_at}
use Rattle.open_names.specs.Texts.{texts}
use Rattle.open_names.specs.Keys.{IsKey}
use Rattle.open_names.proofs.Texts.{IsKey-name}
use Rattle.open_names.proofs.Asked.{text-name}
use Rattle.open_names.proofs.StandardNames.{IsKey-standard, text_at-standard}
use Rattle.open_names.proofs.standard.standard_key.Goals as goal

pub returns-then-eq-clause-key : goal.returns-then-eq-clause-key
returns-then-eq-clause-key c =
    let count_is : c.len-count.result ≡ length c.args.program.now.names = c.len-count.ensures ∙ c.program.inside.names.ok.0 ∙ ap (λ (q : Source). length q.names) c.program.view_is in
    IsKey-name c.args.program.now c.loop-number.number c.name.ensures.whole (omega (arith, count_is, c.loop-number-test.true))

pub returns-then-eq-clause-text : goal.returns-then-eq-clause-text
returns-then-eq-clause-text c =
    let count_is : c.len-count.result ≡ length c.args.program.now.names = c.len-count.ensures ∙ c.program.inside.names.ok.0 ∙ ap (λ (q : Source). length q.names) c.program.view_is in
    let texts_are : c.as_slice.result.now ≡ c.standard_text-text.result.now = (bytes_eq-Decides c.as_slice.result.now c.standard_text-text.result.now).0 (sym c.eq.ensures ∙ c.if-eq.true) in
    let same : c.name.result.now ≡ c.standard_text-text.result.now = sym (c.as_slice.ensures.value ∙ c.behind-program.view_is) ∙ texts_are in
    text-name c.args.program.now c.loop-number.number (omega (arith, count_is, c.loop-number-test.true)) ∙ c.name.ensures.text ∙ same ∙ c.standard_text-text.ensures

pub returns-clause-key : goal.returns-clause-key
returns-clause-key c =
    let p = c.args.program.now in
    let count_is : c.len-count.result ≡ length p.names = c.len-count.ensures ∙ c.program.inside.names.ok.0 ∙ ap (λ (q : Source). length q.names) c.program.view_is in
    let number_is : length p.names + c.args.index ≡ c.len-count.result + c.from.result = omega (arith, count_is, c.from.ensures) in
    subst (IsKey (texts p)) number_is (IsKey-standard p c.args.index c.requires.index (λ k less same.
    c.loop-number.invariant k (omega (arith, count_is, less, c.loop-number-test.false)) (same ∙ sym c.standard_text-text.ensures)))

pub returns-clause-text : goal.returns-clause-text
returns-clause-text c =
    let p = c.args.program.now in
    let count_is : c.len-count.result ≡ length p.names = c.len-count.ensures ∙ c.program.inside.names.ok.0 ∙ ap (λ (q : Source). length q.names) c.program.view_is in
    let number_is : length p.names + c.args.index ≡ c.len-count.result + c.from.result = omega (arith, count_is, c.from.ensures) in
    ap (text_at (texts p)) (sym number_is) ∙ text_at-standard p c.args.index c.requires.index
