-- What is asked of the environment of a call, that it answers for what occurs in the program, and which answers it may give.
use Rattle.std.specs.Prelude.{◌≡◌, ℕ, ◌<◌, ◌≤◌, true, List, length, slice_get, IsSomeAnd, nat_eq, Option, Some, None, Result, Ok, Err}
use Rattle.std.specs.Map.{lookup}
use Rattle.qq_base.specs.declared.rule.Rule.{Rule}
use Rattle.qq_base.specs.declared.run.QubitId.{QubitId}
use Rattle.qasm_ast.specs.declared.stmt.Stmt.{Stmt}
use Rattle.qasm_ast.specs.declared.stmt.StmtKind.{StmtKind}
use Rattle.qasm_ast.specs.declared.stmt.StmtKind.TheVariants as s
use Rattle.qasm_ast.specs.Whole.{Source}
use Rattle.alias_resolve.specs.Places.{Selected}
use Rattle.const_eval.specs.declared.environment.Callable.{Callable}
use Rattle.const_eval.specs.declared.environment.Callable.TheVariants as callable
use Rattle.const_eval.specs.Seen.{MeaningInside, CalledInside, is_same_place}

-- a gate or a subroutine
abbrev pub IsDefinition : Option Stmt → Type 0
IsDefinition None = ⊥
IsDefinition (Some stmt) = of stmt.kind
  where
    of : StmtKind → Type 0
    of (s.Gate name params qs body) = Unit {0}
    of (s.Def name params result body) = Unit {0}
    of _ = ⊥

-- ---- answers

abbrev pub CallableFits : Source → Callable → Type 0
CallableFits p (callable.Row gate) = gate.0 < 31
CallableFits p (callable.Defined id) = IsDefinition (slice_get p.stmts id.0)
CallableFits p _ = Unit {0}

abbrev pub InsideFits : Source → MeaningInside → Type 0
InsideFits p (CalledInside c) = CallableFits p c
InsideFits p _ = Unit {0}

-- a register has at most 1,024 qubits, and what is single is one
abbrev pub QubitsFit : Result (Selected QubitId) Rule → Type 0
QubitsFit (Ok found) = (length found.items ≤ 1024) × (found.single ≡ true → length found.items ≡ 1)
QubitsFit (Err rule) = Unit {0}

-- ---- maps

-- of each name of the program it is said what it calls
abbrev pub HasCallables : Source → List (ℕ × Callable) → Type 0
HasCallables p callables = (n : ℕ) → n < length p.names → IsSomeAnd (lookup (nat_eq n) callables) (CallableFits p)

-- and what it means in each definition
abbrev pub HasInside : Source → List ((ℕ × ℕ) × MeaningInside) → Type 0
HasInside p inside = (d n : ℕ) → IsDefinition (slice_get p.stmts d) → n < length p.names → IsSomeAnd (lookup (is_same_place (d, n)) inside) (InsideFits p)
