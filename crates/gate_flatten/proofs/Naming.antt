-- The gate that a name calls.
use Rattle.std.proofs.Common.{◌≡◌, ℕ, ◌<◌, true, false, not, List, map, length, Some, Ok, refl, ap, ◌∙◌, subst, arith}
use Rattle.std.specs.Prelude.{slice_get}
use Rattle.qq_base.specs.declared.refusal.Span.{Span}
use Rattle.qq_base.specs.declared.rule.Rule.TheVariants.{Unknown, WrongKind, Recursion}
use Rattle.qq_base.specs.declared.run.GateId.{GateId}
use Rattle.gate_table.specs.declared.table.Row.{Row}
use Rattle.gate_table.specs.Table.{row_of, rows}
use Rattle.qasm_ast.specs.declared.stmt.Declared.{Declared}
use Rattle.qasm_ast.specs.declared.stmt.Stmt.{Stmt}
use Rattle.qasm_ast.specs.declared.stmt.StmtId.{StmtId}
use Rattle.qasm_ast.specs.declared.stmt.StmtKind.{StmtKind}
use Rattle.qasm_ast.specs.declared.stmt.StmtKind.TheVariants as s
use Rattle.qasm_ast.specs.Tree.{stmt_of}
use Rattle.qasm_ast.specs.View.{tree_in, name_in, statement_in, statements_in, stmt_in}
use Rattle.qasm_ast.specs.Whole.{Source, AllOf, IsStmt, IsGateMember}
use Rattle.const_eval.specs.declared.environment.Callable.{Callable}
use Rattle.const_eval.specs.declared.environment.Callable.TheVariants as callable
use Rattle.const_eval.specs.Refusing.{refused, where_allowed}
use Rattle.gate_arguments.specs.Scope.{Declarations, is_open}
use Rattle.gate_flatten.specs.Expand.{TableGate, DefinedGate, of_table, of_program, gate_called}

module _ (declared : Declarations) (open_gates : List StmtId) (place : Span) (called c : Callable) (same : called ≡ c) where
  pub calls_row : (id : GateId) (row : Row) → c ≡ callable.Row id → row_of id.0 ≡ Some row → gate_called declared open_gates place called ≡ Ok (TableGate id.0 row)
  calls_row id row is e = rw (same, is) (ap (of_table place id.0) e)

  pub calls_defined : (id : StmtId) → c ≡ callable.Defined id → gate_called declared open_gates place called ≡ of_program place id (declared.definition id) open_gates
  calls_defined id is = rw (same, is) refl

  pub calls_other : c ≡ callable.Other → gate_called declared open_gates place called ≡ refused WrongKind place
  calls_other is = rw (same, is) refl

  pub calls_unknown : c ≡ callable.Unknown → gate_called declared open_gates place called ≡ refused Unknown place
  calls_unknown is = rw (same, is) refl

-- ---- definitions

module _ (p : Source) (place : Span) (def : StmtId) (open_gates : List StmtId) (stmt : Stmt) (seen : statement_in p def.0 ≡ stmt_in p stmt) where
  module _ (name : Declared) (params names : List Declared) (body : List StmtId) (is : stmt.kind ≡ s.Gate name params names body) where
    gate_is : of_program place def (statement_in p def.0) open_gates
        ≡ where_allowed (not (is_open def open_gates)) Recursion place (Ok (DefinedGate def (map (name_in p) params) (map (name_in p) names) (statements_in p body)))
    gate_is = rw (seen, is) refl

    pub defines_gate : is_open def open_gates ≡ false → of_program place def (statement_in p def.0) open_gates ≡ Ok (DefinedGate def (map (name_in p) params) (map (name_in p) names) (statements_in p body))
    defines_gate closed = gate_is ∙ rw closed refl

    pub calls_itself : is_open def open_gates ≡ true → of_program place def (statement_in p def.0) open_gates ≡ refused Recursion place
    calls_itself opened = gate_is ∙ rw opened refl

  no_gate : (kind : StmtKind) (at close : Span) → ((name : Declared) (params names : List Declared) (body : List StmtId) → kind ≡ s.Gate name params names body → ⊥)
      → of_program place def (stmt_of p.names (tree_in p) (statement_in p) kind at close) open_gates ≡ refused WrongKind place
  no_gate (s.Gate name params names body) at close other = absurd (other name params names body refl)
  no_gate _ at close other = refl

  pub defines_other : ((name : Declared) (params names : List Declared) (body : List StmtId) → stmt.kind ≡ s.Gate name params names body → ⊥)
      → of_program place def (statement_in p def.0) open_gates ≡ refused WrongKind place
  defines_other other = rw seen (no_gate stmt.kind stmt.at stmt.close other)

-- the statements of a body are statements of the program
pub members_fit : (p : Source) (n : ℕ) (body : List StmtId) → n < length p.stmts → AllOf (IsGateMember p.stmts n) body → AllOf (IsStmt (length p.stmts)) body
members_fit p n body lt all = record { count = all.count; each = λ k d less. let one = (all.each k d less).0 in omega arith }

pub table_row : (found : List Row) (id : ℕ) (row : Row) → found ≡ rows → slice_get found id ≡ Some row → row_of id ≡ Some row
table_row found id row e f = subst (λ (rs : List Row). slice_get rs id ≡ Some row) e f
