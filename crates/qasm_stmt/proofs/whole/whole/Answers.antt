use Rattle.std.proofs.Common.{List, Vec, Global, Option, Some, drop, refl, le_refl, arith}
use Rattle.std.proofs.lemmas.Result.{err_from_is_err_and}
use Rattle.qasm_ast.specs.declared.stmt.StmtId.{StmtId}
use Rattle.qasm_ast.specs.Tree.{Statements}
use Rattle.qasm_lexer.specs.declared.token.Token.{Token}
use Rattle.qasm_expr.proofs.Exits.{exit}
use Rattle.qasm_grammar.specs.Parts.{Opened, opened_statements}
use Rattle.qasm_grammar.specs.Reader.{read_version, read_all_stmts, read_program}
use Rattle.qasm_stmt.specs.Seen.{Any, IsStatements}
use Rattle.qasm_stmt.proofs.Programs.{gives_then}
use Rattle.qasm_stmt.proofs.whole.whole.Goals as goal

pub returns-in_err-from-clause-gives : goal.returns-in_err-from-clause-gives
unfolding read_program
returns-in_err-from-clause-gives c =
    let p = err_from_is_err_and c.from_residual.result c.from_residual.ensures.1 in
    rw (p.1, p.2) (exit (Any {X = Unit {0}} {A = Option Token}) (λ (v : Vec StmtId Global) (ss : Statements). IsStatements c.args.arena.now v.items ss) c.args.tokens.now 0 0 (read_version c.args.text.now c.args.tokens.now) _ c.in_err-from.field-0.0 (λ x h. rw h refl) (le_refl 0) c.in_err-from.ensures.gives)

pub returns-clause-gives : goal.returns-clause-gives
unfolding read_program
returns-clause-gives c =
    let v = c.in_ok-from.ensures.gives in
    gives_then (λ (v : Vec StmtId Global) (os : List Opened). IsStatements c.stmts.new.arena v.items (opened_statements os)) (λ (v : Vec StmtId Global) (ss : Statements). IsStatements c.stmts.new.arena v.items ss) c.args.tokens.now 0 c.in_ok-from.from (read_all_stmts c.args.text.now (Some 64) 64 (drop c.in_ok-from.from c.args.tokens.now)) _ opened_statements c.stmts.result (λ x os h. h) (omega arith) (λ os rest h. rw (v.4, h) refl) (λ x h. rw (v.4, h) refl) c.stmts.ensures.gives
