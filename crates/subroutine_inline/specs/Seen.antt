-- What a binding of the code is seen as, and what holds of it. The rest serves private contracts alone: what parameters and
-- arguments are seen as.
use Rattle.std.specs.Prelude.{ℕ, ◌<◌, List, [], ◌∷◌, ◌++◌, map, length, All, slice_get, unsigned_abs, Option, Some, None, Result, Ok}
use Rattle.std.specs.Option.{unwrap_or}
use Rattle.qq_base.specs.declared.refusal.Refusal.{Refusal}
use Rattle.qq_base.specs.declared.refusal.Span.{Span}
use Rattle.qq_base.specs.declared.rule.Rule.TheVariants.{WidthRange}
use Rattle.qq_base.specs.declared.run.QubitId.{QubitId}
use Rattle.qasm_ast.specs.declared.expr.Base.{Base}
use Rattle.qasm_ast.specs.declared.expr.ExprId.{ExprId}
use Rattle.qasm_ast.specs.declared.expr.TypeRef.{TypeRef}
use Rattle.qasm_ast.specs.declared.stmt.Declared.{Declared}
use Rattle.qasm_ast.specs.declared.stmt.Stmt.{Stmt}
use Rattle.qasm_ast.specs.declared.stmt.StmtId.{StmtId}
use Rattle.qasm_ast.specs.declared.stmt.StmtKind.{StmtKind}
use Rattle.qasm_ast.specs.declared.stmt.StmtKind.TheVariants as s
use Rattle.qasm_ast.specs.Whole.{Source}
use Rattle.qasm_ast.specs.View.{statement_in}
use Rattle.qasm_ast.specs.Tree.{no_statement}
use Rattle.qasm_types.specs.declared.ty.Ty.{Ty}
use Rattle.qasm_types.specs.Types.{IsType}
use Rattle.alias_resolve.specs.declared.select.QubitList.{QubitList}
use Rattle.alias_resolve.specs.Places.{Selected}
use Rattle.alias_resolve.specs.Seen.{seen_qubits}
use Rattle.const_eval.specs.Binding.{Taken, TakesValue, TakesQubits, Bound, ToValue, ToQubits}
use Rattle.const_eval.specs.Constant.{Constant}
use Rattle.const_eval.specs.ConstCast.{whole_at, is_width}
use Rattle.const_eval.specs.Refusing.{go_on, where_allowed}
use Rattle.const_eval.specs.Things.{Subroutine}
use Rattle.subroutine_inline.specs.declared.binding.Binding.{Binding}
use Rattle.subroutine_inline.specs.declared.parameters.Taken.{Taken as Takes}
use Rattle.subroutine_inline.specs.declared.parameters.Taken.TheVariants as takes
use Rattle.subroutine_inline.specs.declared.arguments.Given.{Given}
use Rattle.subroutine_inline.specs.Bound.{BoundCall, values_given, qubits_given}
use Rattle.subroutine_inline.specs.Called.{subroutine_of}

-- ---- bindings

abbrev pub qubits_seen : List (ℕ × QubitList) → List (ℕ × Selected QubitId)
qubits_seen qs = map {A = ℕ × QubitList} {B = ℕ × Selected QubitId} (λ q. (q.0, seen_qubits q.1)) qs

abbrev pub seen_binding : Binding → BoundCall
seen_binding b = record { def = b.def; classical = b.classical.items; qubits = qubits_seen b.qubits.items; result = b.result; cost = b.cost }

-- a parameter and its argument are those of the program, and its type is one
abbrev pub ValueFits : Source → ℕ × Ty × ExprId → Type 0
ValueFits p v = (v.0 < length p.names) × IsType v.1 × (v.2.0 < length p.exprs)

abbrev pub NameFits : Source → ℕ × QubitList → Type 0
NameFits p q = q.0 < length p.names

-- a subroutine is defined by the statement
abbrev pub IsSubroutine : Option Stmt → Type 0
IsSubroutine None = ⊥
IsSubroutine (Some stmt) = of stmt.kind
  where
    of : StmtKind → Type 0
    of (s.Def name params result body) = Unit {0}
    of _ = ⊥

abbrev pub ResultFits : Option Ty → Type 0
ResultFits None = Unit {0}
ResultFits (Some type) = IsType type

pub record BindingFits (p : Source) (b : Binding) : Type 0 where
  pub def : IsSubroutine (slice_get p.stmts b.def.0)
  pub classical : All (ValueFits p) b.classical.items
  pub qubits : All (NameFits p) b.qubits.items
  pub result : ResultFits b.result

-- ---- subroutines

abbrev pub no_subroutine : Subroutine
no_subroutine = record { params = []; result = None; body = no_statement; close = record { line = 0; column = 0 } }

-- the subroutine that a statement of the program defines
abbrev pub subroutine_in : Source → StmtId → Subroutine
subroutine_in p id = unwrap_or (subroutine_of (statement_in p id.0)) no_subroutine

-- ---- parameters

abbrev pub taken_seen : Takes → Taken
taken_seen (takes.Value type) = TakesValue type
taken_seen (takes.Qubits count single) = TakesQubits count single

abbrev pub TakenFits : Takes → Type 0
TakenFits (takes.Value type) = IsType type
TakenFits (takes.Qubits count single) = Unit {0}

-- a width that is a whole number from 1 to the greatest of its base
abbrev pub width_at : Base → Span → Constant → Result ℕ Refusal
width_at base place c =
    go_on (whole_at place c) (λ z.
    where_allowed (is_width base z) WidthRange place (Ok (unsigned_abs z)))

-- ---- arguments

-- what parameters are given, values and qubits apart
pub record Shared : Type 0 where
  pub classical : List (ℕ × Ty × ExprId)
  pub qubits : List (ℕ × Selected QubitId)

abbrev pub given_seen : Given → Shared
given_seen given = record { classical = given.classical.items; qubits = qubits_seen given.qubits.items }

abbrev pub shared : List (TypeRef × Declared) → List ExprId → List Bound → Shared
shared params ids bs = record { classical = values_given params ids bs; qubits = qubits_given params ids bs }

-- one parameter more, with the number of its name and its argument
abbrev pub with_bound : Shared → ℕ → ExprId → Bound → Shared
with_bound given name id (ToValue type) = record { classical = given.classical ++ (name, type, id) ∷ []; qubits = given.qubits }
with_bound given name id (ToQubits s) = record { classical = given.classical; qubits = given.qubits ++ (name, s) ∷ [] }
