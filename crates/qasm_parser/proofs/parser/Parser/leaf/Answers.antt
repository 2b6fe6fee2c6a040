use Rattle.std.proofs.Common.{◌≡◌, Some, sym, ap, subst, ◌∙◌}
use Rattle.qasm_lexer.specs.Sizes.{bytes_of}
use Rattle.qasm_expr.specs.TokenKinds.{bits_of}
use Rattle.qasm_parser.specs.State.{State, IsSpelled}
use Rattle.qasm_parser.proofs.Leaves.{text_leaf, plain_is_leaf}
use Rattle.qasm_parser.proofs.parser.Parser.leaf.Goals as goal

pub returns-in-Some-clause-leaf : goal.returns-in-Some-clause-leaf
returns-in-Some-clause-leaf c =
    let some : bits_of (bytes_of c.self.inside.text.now c.args.token) ≡ Some c.in-Some.found = ap bits_of (sym c.spelling.ensures) ∙ sym c.in_ok-bits.ensures.value ∙ c.in-Some.is in
    let spelled : IsSpelled c.self.inside.text.now c.args.token = subst (λ (s : State). IsSpelled s.text c.args.token) (sym c.self.view_is) c.requires in
    rw (sym c.self.view_is) (text_leaf c.self.inside.text.now c.args.token c.args.token.kind c.in-Some.found (sym c.is_text.ensures ∙ c.if-is_text.true) some (spelled.bits c.in-Some.found some))

pub returns-clause-leaf : goal.returns-clause-leaf
returns-clause-leaf c = plain_is_leaf c.args.self.now.text c.args.token c.plain_literal.result c.plain_literal.ensures (sym c.is_text.ensures ∙ c.if-is_text.false)
