use Rattle.std.proofs.Common.{Some, length, ap, arith}
use Rattle.qq_base.specs.declared.refusal.Span.{Span}
use Rattle.qasm_ast.specs.declared.expr.ExprKind.TheVariants as e
use Rattle.qasm_ast.specs.declared.expr.Base.TheVariants as b
use Rattle.qasm_ast.specs.declared.expr.UnaryOp.TheVariants as u
use Rattle.qasm_ast.specs.declared.stmt.StmtKind.TheVariants as s
use Rattle.qasm_ast.specs.declared.stmt.ValueRef.TheVariants as v
use Rattle.qasm_ast.proofs.Sample.{sample_whole}
use Rattle.qasm_ast.proofs.program.tests.sample.Goals as goal

abbrev place : Span
place = record { line = 1; column = 1 }

pub new-requires : goal.new-requires
new-requires c =
    sample_whole c.in_ok-vec.field-0.items
    (record { kind = e.Whole 8; at = place })
    (record { kind = e.Unary u.Negate (record { 0 = 0 }); at = place })
    (record { kind = s.Variable (record { base = b.Int; width = Some (record { 0 = 0 }); at = place }) (record { name = 0; at = place }) (Some (v.Expr (record { 0 = 1 }))); at = place; close = place })
    tt (omega arith)
    (record { classical = λ h. cc; fits = record { bool = tt; width = omega arith } }, omega arith, omega arith)
    _ (omega (arith, ap length c.in_ok-vec.ensures.items)) c.in_ok-names.ensures.items c.in_ok-exprs.ensures.items c.in_ok-stmts.ensures.items c.in_ok-vec-2.ensures.items
