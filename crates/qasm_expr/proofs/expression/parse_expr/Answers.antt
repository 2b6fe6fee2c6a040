use Rattle.std.proofs.Common.{◌-◌, Some, Ok, Err, drop, sym, subst, arith}
use Rattle.qasm_ast.specs.declared.expr.ExprId.{ExprId}
use Rattle.qasm_ast.specs.Tree.{Tree}
use Rattle.qasm_expr.specs.Answer.{IsAnswer}
use Rattle.qasm_expr.specs.Reader.{read_expr}
use Rattle.qasm_expr.specs.Seen.{Cut, Gives, Sees}
use Rattle.qasm_expr.proofs.Cuts.{cut_of}
use Rattle.qasm_expr.proofs.Told.{answered}
use Rattle.qasm_expr.proofs.expression.parse_expr.Goals as goal

pub expr-requires-clause-cut : goal.expr-requires-clause-cut
expr-requires-clause-cut c = subst (λ text. Cut text c.args.tokens.now) (sym c.as_bytes.ensures.value) (cut_of c.args.text.now c.args.tokens.now c.requires.size c.requires.lexed)

pub expr-requires-clause-nodes : goal.expr-requires-clause-nodes
expr-requires-clause-nodes c = let cut = cut_of c.args.text.now c.args.tokens.now c.requires.size c.requires.lexed in omega (arith, cut.few)

pub expr-requires-clause-names : goal.expr-requires-clause-names
expr-requires-clause-names c = let cut = cut_of c.args.text.now c.args.tokens.now c.requires.size c.requires.lexed in omega (arith, cut.few)

pub returns-in-Ok-clause-answer : goal.returns-in-Ok-clause-answer
returns-in-Ok-clause-answer c = subst (λ text. IsAnswer text c.args.tokens.now c.args.from (64 - c.args.level) c.expr.new.names.keys c.expr.new.nodes.items (Ok c.in-Ok.found)) c.as_bytes.ensures.value
    (answered c.as_bytes.result.now c.args.tokens.now c.args.from c.expr.new.names.keys c.expr.new.nodes.items (64 - c.args.level) (Ok c.in-Ok.found) c.in-Ok.ensures.gives)

pub returns-in-Err-clause-answer : goal.returns-in-Err-clause-answer
returns-in-Err-clause-answer c =
    let gives = subst (λ text. Gives (λ (x : ExprId) (a : Tree). Sees c.expr.new.names.keys c.expr.new.nodes.items x.0 a) c.args.tokens.now c.args.from (read_expr text (Some 64) (64 - c.args.level) (drop c.args.from c.args.tokens.now)) (Err c.in-Err.stop)) c.as_bytes.ensures.value c.in-Err.ensures.gives in
    subst (λ fault. IsAnswer c.args.text.now c.args.tokens.now c.args.from (64 - c.args.level) c.expr.new.names.keys c.expr.new.nodes.items (Err fault)) (sym c.fault_of.ensures)
    (answered c.args.text.now c.args.tokens.now c.args.from c.expr.new.names.keys c.expr.new.nodes.items (64 - c.args.level) (Err c.in-Err.stop) gives)
