-- A statement in the body of a gate.
use Rattle.std.proofs.Common.{◌≡◌, ℕ, List, [], map, Ok, refl, ap, ◌∙◌}
use Rattle.qq_base.specs.declared.refusal.Fault.{Fault}
use Rattle.qq_base.specs.declared.refusal.Span.{Span}
use Rattle.qq_base.specs.declared.run.QubitId.{QubitId}
use Rattle.qasm_ast.specs.declared.expr.ExprId.{ExprId}
use Rattle.qasm_ast.specs.declared.expr.OperandRef.{OperandRef}
use Rattle.qasm_ast.specs.declared.stmt.Declared.{Declared}
use Rattle.qasm_ast.specs.declared.stmt.Modifier.{Modifier}
use Rattle.qasm_ast.specs.declared.stmt.Stmt.{Stmt}
use Rattle.qasm_ast.specs.declared.stmt.StmtKind.{StmtKind}
use Rattle.qasm_ast.specs.declared.stmt.StmtKind.TheVariants as s
use Rattle.qasm_ast.specs.Tree.{stmt_of}
use Rattle.qasm_ast.specs.View.{tree_in, trees_in, change_in, name_in, operand_in, statement_in, stmt_in}
use Rattle.qasm_ast.specs.Whole.{Source}
use Rattle.alias_resolve.specs.Places.{Selected}
use Rattle.const_eval.specs.Answers.{Fails}
use Rattle.const_eval.specs.Constant.{Constant}
use Rattle.const_eval.specs.Walk.{Walk, done, then_walk}
use Rattle.gate_lists.specs.declared.budget.Budget.{Budget}
use Rattle.gate_lists.specs.Instructions.{Instruction}
use Rattle.gate_lists.specs.Paid.{paid_from, paid_then, paid_asked, fails_then}
use Rattle.gate_arguments.specs.Arguments.{arguments_walk}
use Rattle.gate_arguments.specs.Scope.{Declarations, Scope}
use Rattle.gate_flatten.specs.Applications.{Placed, placed_operands}
use Rattle.gate_flatten.specs.Expand.{Call, call_of, member_list}

module _ (p : Source) (declared : Declarations) (go : Scope → Call → List Constant → Walk (List Instruction)) (scope : Scope) (n : ℕ) (stmt : Stmt) (seen : statement_in p n ≡ stmt_in p stmt) (b b1 : Budget) where
  module _ (mods : List Modifier) (name : Declared) (args : List ExprId) (os : List OperandRef) (is : stmt.kind ≡ s.GateCall mods name args os) where
    abbrev pub called_here : List Constant → Walk (List Instruction)
    called_here cs = go scope (call_of (map (change_in p) mods) (name_in p name) (trees_in p args) (map (operand_in p) os)) cs

    call_is : member_list declared go scope (statement_in p n) ≡ then_walk (arguments_walk scope (trees_in p args)) called_here
    call_is = rw (seen, is) refl

    pub arguments_fail : (why : Fault) → Fails why (paid_from b (arguments_walk scope (trees_in p args))) → Fails why (paid_from b (member_list declared go scope (statement_in p n)))
    arguments_fail why e = rw call_is (fails_then b (arguments_walk scope (trees_in p args)) called_here why e)

    pub behind_arguments : (cs : List Constant) → paid_from b (arguments_walk scope (trees_in p args)) ≡ Ok (cs, b1) → paid_from b (member_list declared go scope (statement_in p n)) ≡ paid_from b1 (called_here cs)
    behind_arguments cs e = ap (paid_from b) call_is ∙ paid_then b b1 (arguments_walk scope (trees_in p args)) called_here cs e

  module _ (os : List OperandRef) (is : stmt.kind ≡ s.Barrier os) where
    abbrev nothing : List (Placed (Selected QubitId)) → Walk (List Instruction)
    nothing found = done []

    barrier_is : member_list declared go scope (statement_in p n) ≡ then_walk (placed_operands scope.means scope.qubits (map (operand_in p) os)) nothing
    barrier_is = rw (seen, is) refl

    pub barrier_fails : (why : Fault) → Fails why (paid_from b (placed_operands scope.means scope.qubits (map (operand_in p) os))) → Fails why (paid_from b (member_list declared go scope (statement_in p n)))
    barrier_fails why e = rw barrier_is (fails_then b (placed_operands scope.means scope.qubits (map (operand_in p) os)) nothing why e)

    pub barrier_done : (found : List (Placed (Selected QubitId))) → paid_from b (placed_operands scope.means scope.qubits (map (operand_in p) os)) ≡ Ok (found, b1) → paid_from b (member_list declared go scope (statement_in p n)) ≡ Ok ([], b1)
    barrier_done found e = ap (paid_from b) barrier_is ∙ paid_then b b1 (placed_operands scope.means scope.qubits (map (operand_in p) os)) nothing found e ∙ paid_asked b1 []

  no_member : (kind : StmtKind) (at close : Span)
      → ((mods : List Modifier) (name : Declared) (args : List ExprId) (os : List OperandRef) → kind ≡ s.GateCall mods name args os → ⊥)
      → ((os : List OperandRef) → kind ≡ s.Barrier os → ⊥)
      → member_list declared go scope (stmt_of p.names (tree_in p) (statement_in p) kind at close) ≡ done []
  no_member (s.GateCall mods name args os) at close call barrier = absurd (call mods name args os refl)
  no_member (s.Barrier os) at close call barrier = absurd (barrier os refl)
  no_member _ at close call barrier = refl

  pub other_member : ((mods : List Modifier) (name : Declared) (args : List ExprId) (os : List OperandRef) → stmt.kind ≡ s.GateCall mods name args os → ⊥)
      → ((os : List OperandRef) → stmt.kind ≡ s.Barrier os → ⊥)
      → paid_from b (member_list declared go scope (statement_in p n)) ≡ Ok ([], b)
  other_member call barrier = ap (paid_from b) (rw seen (no_member stmt.kind stmt.at stmt.close call barrier)) ∙ paid_asked b []
