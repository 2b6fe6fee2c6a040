use Rattle.std.proofs.Common.{◌≡◌, Some, take, drop, sym, subst}
use Rattle.qq_base.specs.declared.refusal.Fault.TheVariants.{Refused}
use Rattle.qasm_grammar.specs.Answer.{rule_of}
use Rattle.program_parser.specs.Refusing.{IsFault}
use Rattle.program_parser.proofs.Programs.{fault_syntax}
use Rattle.program_parser.proofs.refusal.fault_of.Goals as goal

pub returns-in-Ok : goal.returns-in-Ok
returns-in-Ok c =
    let rule = subst (λ text. c.in-Ok.rule ≡ rule_of text (Some 64) 64 (take c.args.at c.args.tokens.now) (drop c.args.at c.args.tokens.now)) c.as_bytes.ensures.value c.in-Ok.ensures in
    subst (λ stop. IsFault c.args.text.now c.args.tokens.now c.args.at stop (Refused (record { rule = c.in-Ok.rule; at = c.place_at.result }))) (sym c.in-Syntax.is)
    (fault_syntax c.args.text.now c.args.tokens.now c.args.at c.in-Ok.rule c.place_at.result c.requires.within rule c.place_at.ensures)
