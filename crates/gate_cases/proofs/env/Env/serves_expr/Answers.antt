use Rattle.std.proofs.Common.{◌≡◌, length, ap, sym, ◌∙◌, rules, arith}
use Rattle.std.proofs.lemmas.Bool.{eqb-true}
use Rattle.qasm_ast.specs.Whole.{Source}
use Rattle.gate_cases.proofs.Served.{names_told}
use Rattle.gate_cases.proofs.env.Env.serves_expr.Goals as goal

pub returns-then-expr-len-clause-names : goal.returns-then-expr-len-clause-names
returns-then-expr-len-clause-names c same =
    let lengths : c.len-then-expr-len.result ≡ c.len-then-expr-len-2.result = eqb-true c.len-then-expr-len.result c.len-then-expr-len-2.result same in
    let seen : c.program.inside.names.items ≡ c.args.program.now.names = ap (λ (p : Source). p.names) c.program.view_is in
    let here : length c.args.self.now.entries.items ≡ c.len-then-expr-len.result = first_of (search rules, omega arith) in
    let there : length c.program.inside.names.items ≡ c.len-then-expr-len-2.result = first_of (search rules, omega arith) in
    names_told c.args.program.now c.args.self.now.entries.items (here ∙ lengths ∙ sym there ∙ ap length seen)
