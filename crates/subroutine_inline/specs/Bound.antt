-- What a call of a subroutine binds: the walk of the call up to its classical arguments, in the order of the walk, with the numbers
-- by which the nodes of the program and the names of parameters are found.
use Rattle.std.specs.Prelude.{ℕ, min, List, [], ◌∷◌, Option, Some, None, Result, Ok, slice_get}
use Rattle.qq_base.specs.declared.refusal.Refusal.{Refusal}
use Rattle.qq_base.specs.declared.rule.Rule.{Rule}
use Rattle.qq_base.specs.declared.rule.Rule.TheVariants.{CallPlace}
use Rattle.qq_base.specs.declared.run.QubitId.{QubitId}
use Rattle.qasm_ast.specs.declared.expr.Expr.{Expr}
use Rattle.qasm_ast.specs.declared.expr.ExprId.{ExprId}
use Rattle.qasm_ast.specs.declared.expr.ExprKind.{ExprKind}
use Rattle.qasm_ast.specs.declared.expr.ExprKind.TheVariants as e
use Rattle.qasm_ast.specs.declared.expr.OperandName.{OperandName}
use Rattle.qasm_ast.specs.declared.expr.TypeRef.{TypeRef}
use Rattle.qasm_ast.specs.declared.stmt.Declared.{Declared}
use Rattle.qasm_ast.specs.declared.stmt.Stmt.{Stmt}
use Rattle.qasm_ast.specs.declared.stmt.StmtId.{StmtId}
use Rattle.qasm_ast.specs.declared.stmt.StmtKind.{StmtKind}
use Rattle.qasm_ast.specs.declared.stmt.StmtKind.TheVariants as s
use Rattle.qasm_ast.specs.Tree.{Tree, call, place_of}
use Rattle.qasm_ast.specs.Whole.{Source}
use Rattle.qasm_ast.specs.View.{tree_in}
use Rattle.qasm_types.specs.declared.ty.Ty.{Ty}
use Rattle.alias_resolve.specs.Places.{Selected}
use Rattle.const_eval.specs.declared.environment.Callable.{Callable}
use Rattle.const_eval.specs.Binding.{Binding, Bound, ToValue, ToQubits, binding_walk}
use Rattle.const_eval.specs.Meaning.{Meaning}
use Rattle.const_eval.specs.Refusing.{refused, go_on}
use Rattle.const_eval.specs.Seen.{MeaningInside}
use Rattle.const_eval.specs.Walk.{Walk, asked, done, then_walk}
use Rattle.gate_arguments.specs.Environment.{declarations_in, scope_in}
use Rattle.gate_arguments.specs.Scope.{Declarations, Scope, meaning_around}
use Rattle.subroutine_inline.specs.Called.{subroutine_called}

-- ---- the walk

-- what names mean in the types of a definition
abbrev pub means_inside : Declarations → StmtId → List ℕ → Meaning
means_inside declared id text = meaning_around (declared.inside id text)

-- The walk of a call up to its classical arguments, and the statement that defines the subroutine. `scope` says what names mean
-- where the call stands, and `opened` are the definitions of the subroutines whose calls are open.
abbrev pub call_walk : Declarations → Scope → List StmtId → Tree → Walk (StmtId × Binding)
call_walk declared scope opened (call name as' place) =
    then_walk (asked (subroutine_called declared.definition opened place (scope.called name))) (λ d.
    then_walk (binding_walk scope.means scope.qubits (means_inside declared d.id) (Ok d.subroutine) as' place) (λ b.
    done (d.id, b)))
-- another expression is no call
call_walk declared scope opened a = asked (refused CallPlace (place_of a))

-- ---- what is bound, by the numbers of nodes and names

-- the parameters that a statement declares, as they are written
abbrev pub parameters_of : Option Stmt → List (TypeRef × Declared)
parameters_of None = []
parameters_of (Some stmt) = of stmt.kind
  where
    of : StmtKind → List (TypeRef × Declared)
    of (s.Def name params result body) = params
    of _ = []

-- the arguments of a call
abbrev pub arguments_of : Option Expr → List ExprId
arguments_of None = []
arguments_of (Some node) = of node.kind
  where
    of : ExprKind → List ExprId
    of (e.Call name ids) = ids
    of _ = []

-- the names of the parameters that take values, in order, with their types and arguments
abbrev pub values_given : List (TypeRef × Declared) → List ExprId → List Bound → List (ℕ × Ty × ExprId)
values_given (p ∷ ps) (a ∷ as') (ToValue type ∷ bs) = (p.1.name, type, a) ∷ values_given ps as' bs
values_given (p ∷ ps) (a ∷ as') (ToQubits s ∷ bs) = values_given ps as' bs
values_given _ _ _ = []

-- and of those that take qubits, with what they name
abbrev pub qubits_given : List (TypeRef × Declared) → List ExprId → List Bound → List (ℕ × Selected QubitId)
qubits_given (p ∷ ps) (a ∷ as') (ToValue type ∷ bs) = qubits_given ps as' bs
qubits_given (p ∷ ps) (a ∷ as') (ToQubits s ∷ bs) = (p.1.name, s) ∷ qubits_given ps as' bs
qubits_given _ _ _ = []

-- a greater cost is given as this: it is over that of any program
abbrev pub most_counted : ℕ
most_counted = 250001

pub record BoundCall : Type 0 where
  pub def : StmtId
  pub classical : List (ℕ × Ty × ExprId)
  pub qubits : List (ℕ × Selected QubitId)
  pub result : Option Ty
  pub cost : ℕ

abbrev pub bound_call : (params : List (TypeRef × Declared)) → List ExprId → ℕ → StmtId → Binding → BoundCall
bound_call params ids cost id b = record {
  def = id;
  classical = values_given params ids b.bound;
  qubits = qubits_given params ids b.bound;
  result = b.result;
  cost = min cost most_counted;
}

-- what a walk of a call with these arguments binds
abbrev pub bound_by : Source → List ExprId → Walk (StmtId × Binding) → Result BoundCall Refusal
bound_by p ids w = go_on w.answer (λ b. Ok (bound_call (parameters_of (slice_get p.stmts b.0.0)) ids w.cost b.0 b.1))

-- What `bind_call` answers of the expression with this number, by the meanings of an environment.
abbrev pub due_binding : Source → ℕ → List (ℕ × Meaning) → List (ℕ × Callable) → List (OperandName × Result (Selected QubitId) Rule) → List ((ℕ × ℕ) × MeaningInside) → List StmtId → Result BoundCall Refusal
due_binding p n names callables operands inside opened =
    bound_by p (arguments_of (slice_get p.exprs n)) (call_walk (declarations_in p inside) (scope_in p names callables operands) opened (tree_in p n))
