use Rattle.std.proofs.Common.{◌≡◌, ◌-◌, Some, Ok, Err, length, drop, refl, sym, ap, subst, ◌∙◌, arith}
use Rattle.qq_base.specs.declared.refusal.Fault.{Fault}
use Rattle.qasm_expr.specs.Answer.{Tells}
use Rattle.qasm_expr.specs.Reader.{read_expr}
use Rattle.qasm_expr.specs.Seen.{Cut}
use Rattle.qasm_parser.specs.State.{resumed}
use Rattle.qasm_parser.proofs.Telling.{tells, grown}
use Rattle.qasm_parser.proofs.expression.parse_expr.Goals as goal

pub resume-parser-requires-clause-cut : goal.resume-parser-requires-clause-cut
resume-parser-requires-clause-cut c = subst (λ text. Cut text c.args.tokens.now) (sym c.as_bytes.ensures.value) (c.tokens_are_cut.ensures c.args.text.now c.args.tokens.now c.requires.size c.requires.lexed)

pub resume-parser-requires-clause-names : goal.resume-parser-requires-clause-names
resume-parser-requires-clause-names c =
    let cut = c.tokens_are_cut.ensures c.args.text.now c.args.tokens.now c.requires.size c.requires.lexed in
    let same : c.replace-old_names.result.keys ≡ c.args.names.now.keys = rw c.replace-old_names.ensures.value refl in
    omega (arith, cut.few, ap length same)

pub resume-parser-requires-clause-exprs : goal.resume-parser-requires-clause-exprs
resume-parser-requires-clause-exprs c =
    let cut = c.tokens_are_cut.ensures c.args.text.now c.args.tokens.now c.requires.size c.requires.lexed in
    let same : c.replace-old_nodes.result.items ≡ c.args.nodes.now.items = rw c.replace-old_nodes.ensures.value refl in
    omega (arith, cut.few, ap length same)

pub returns-in-Ok-clause-answer : goal.returns-in-Ok-clause-answer
returns-in-Ok-clause-answer c =
    let is : c.resume-parser.result ≡ resumed c.args.text.now c.args.tokens.now c.args.from c.args.names.now.keys c.args.nodes.now.items = c.resume-parser.ensures ∙ rw (c.as_bytes.ensures.value, c.replace-old_names.ensures.value, c.replace-old_nodes.ensures.value) refl in (
      read_expr c.args.text.now (Some 64) (64 - c.args.level) (drop c.args.from c.args.tokens.now),
      c.expressions_are_read_exactly.ensures c.args.text.now (Some 64) (64 - c.args.level) (drop c.args.from c.args.tokens.now),
      tells c.args.text.now c.args.tokens.now c.args.from (64 - c.args.level) _ _ _ _ c.resume-parser.result c.expr-found.new.self is c.lists-new_names.ensures.names c.lists-new_names.ensures.exprs (Ok c.in-Ok.id) c.in-Ok.ensures c.at-at.result c.at-at.ensures.within c.at-at.ensures.here,
    )

pub returns-in-Ok-clause-grows : goal.returns-in-Ok-clause-grows
returns-in-Ok-clause-grows c =
    let is : c.resume-parser.result ≡ resumed c.args.text.now c.args.tokens.now c.args.from c.args.names.now.keys c.args.nodes.now.items = c.resume-parser.ensures ∙ rw (c.as_bytes.ensures.value, c.replace-old_names.ensures.value, c.replace-old_nodes.ensures.value) refl in
    grown c.args.text.now c.args.tokens.now c.args.from (64 - c.args.level) _ _ _ _ c.resume-parser.result c.expr-found.new.self is c.lists-new_names.ensures.names c.lists-new_names.ensures.exprs (Ok c.in-Ok.id) c.in-Ok.ensures

pub returns-in-Err-clause-answer : goal.returns-in-Err-clause-answer
returns-in-Err-clause-answer c =
    let is : c.resume-parser.result ≡ resumed c.args.text.now c.args.tokens.now c.args.from c.args.names.now.keys c.args.nodes.now.items = c.resume-parser.ensures ∙ rw (c.as_bytes.ensures.value, c.replace-old_names.ensures.value, c.replace-old_nodes.ensures.value) refl in (
      read_expr c.args.text.now (Some 64) (64 - c.args.level) (drop c.args.from c.args.tokens.now),
      c.expressions_are_read_exactly.ensures c.args.text.now (Some 64) (64 - c.args.level) (drop c.args.from c.args.tokens.now),
      subst (λ (fault : Fault). Tells c.args.text.now c.args.tokens.now c.lists-new_names.result.0.keys c.lists-new_names.result.1.items (read_expr c.args.text.now (Some 64) (64 - c.args.level) (drop c.args.from c.args.tokens.now)) (Err fault)) (sym c.fault_of.ensures)
          (tells c.args.text.now c.args.tokens.now c.args.from (64 - c.args.level) _ _ _ _ c.resume-parser.result c.expr-found.new.self is c.lists-new_names.ensures.names c.lists-new_names.ensures.exprs (Err c.in-Err.stop) c.in-Err.ensures c.at-at.result c.at-at.ensures.within c.at-at.ensures.here),
    )

pub returns-in-Err-clause-grows : goal.returns-in-Err-clause-grows
returns-in-Err-clause-grows c =
    let is : c.resume-parser.result ≡ resumed c.args.text.now c.args.tokens.now c.args.from c.args.names.now.keys c.args.nodes.now.items = c.resume-parser.ensures ∙ rw (c.as_bytes.ensures.value, c.replace-old_names.ensures.value, c.replace-old_nodes.ensures.value) refl in
    grown c.args.text.now c.args.tokens.now c.args.from (64 - c.args.level) _ _ _ _ c.resume-parser.result c.expr-found.new.self is c.lists-new_names.ensures.names c.lists-new_names.ensures.exprs (Err c.in-Err.stop) c.in-Err.ensures
