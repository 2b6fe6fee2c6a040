use Rattle.std.proofs.Common.{◌+◌, ◌<◌, length, drop, ap, sym, ◌∙◌, arith}
use Rattle.qasm_lexer.specs.declared.token.Token.{Token}
use Rattle.grammar_parts.specs.Reading.{take_one}
use Rattle.qasm_grammar.specs.Parts.{version_of}
use Rattle.qasm_stmt.proofs.Versions.{here_at, version_here}
use Rattle.qasm_stmt.proofs.whole.version_number.Goals as goal

pub returns-in-Version-clause-gives : goal.returns-in-Version-clause-gives
returns-in-Version-clause-gives c =
    let lt : c.args.from < length c.args.tokens.now = omega arith in
    let h = here_at c.args.tokens.now c.args.from _ lt in
    (h.token, tt, omega arith, h.inside, ap (take_one version_of) h.here ∙ version_here h.token (drop (c.args.from + 1) c.args.tokens.now) c.in-Version.major c.in-Version.minor (sym (ap (λ (x : Token). x.kind) h.is) ∙ c.in-Version.is) c.if-major-eq3.true (sym c.is_zero.ensures ∙ c.if-is_zero.true))
