-- The expressions that statements name are there.
use Rattle.std.proofs.Common.{◌≡◌, ℕ, zero, suc, ◌<◌, ◌≤◌, ⊎_elim, All, List, [], ◌∷◌, length, get_or, Option, Some, None, refl, sym, ap, ◌∙◌, subst, arith}
use Rattle.std.specs.Prelude.{slice_get}
use Rattle.std.specs.List.{AllByRecursion, flat_map}
use Rattle.std.proofs.lemmas.Bool.{cases_lt}
use Rattle.std.proofs.lemmas.List.Elements.{recursion_from_All, All-from_recursion}
use Rattle.gate_table.specs.Table.{row_of}
use Rattle.gate_table.specs.declared.table.Row.{Row}
use Rattle.core_ir.specs.declared.expression.CellKind.{CellKind}
use Rattle.core_ir.specs.declared.expression.CellKind.TheVariants.{Truth as TruthKind, Number as NumberKind}
use Rattle.core_ir.specs.declared.expression.CoreExpr.{CoreExpr}
use Rattle.core_ir.specs.declared.statement.CoreStmt.{CoreStmt}
use Rattle.core_ir.specs.declared.statement.GateArg.{GateArg}
use Rattle.core_ir.specs.declared.statement.GateArg.TheVariants.{Unused, Units, Running}
use Rattle.core_ir.specs.declared.statement.LeafCall.{LeafCall}
use Rattle.core_ir.specs.Core.{Core}
use Rattle.core_ir.specs.Tree.{node_expr, expr_within, expr_of}
use Rattle.core_ir.specs.Size.{running_in, pair_exprs, leaf_exprs}
use Rattle.core_ir.specs.WellFormed.{kind_of, kind_at, PairFits, ArgsFit, TakesRow, LeafFits, StmtFits, IsWellFormed}

get_past : {A : Type 0} (xs : List A) (k : ℕ) → length xs ≤ k → slice_get xs k ≡ None
get_past [] k le = refl
get_past (x ∷ xs) zero le = absurd (omega (arith, le))
get_past (x ∷ xs) (suc k) le = get_past xs k (omega (arith, le))

no_kind : (core : Core) (e : ℕ) → length core.exprs ≤ e → kind_at core e ≡ None
unfolding expr_of
no_kind core e le = ap (λ (o : Option CoreExpr). kind_of core.cells (node_expr (expr_within core.exprs e) o)) (get_past core.exprs e le)

none_some : (kind : CellKind) → None ≡ Some kind → ⊥
none_some kind e = cc

pub kind_within : (core : Core) (e : ℕ) (kind : CellKind) → kind_at core e ≡ Some kind → e < length core.exprs
kind_within core e kind is = ⊎_elim (λ lt. lt) (λ past. absurd (none_some kind (sym (no_kind core e past) ∙ is))) (cases_lt e (length core.exprs))

pub truth_within : (core : Core) (e : ℕ) → kind_at core e ≡ Some TruthKind → e < length core.exprs
truth_within core e is = kind_within core e TruthKind is

abbrev IsIn : Core → ℕ → Type 0
IsIn core e = e < length core.exprs

pairs_in : (core : Core) (pairs : List (ℕ × ℕ)) → AllByRecursion (PairFits core) pairs → AllByRecursion (IsIn core) (pair_exprs pairs)
pairs_in core [] fit = tt
pairs_in core (p ∷ pairs) fit = (kind_within core p.1 fit.0.kind fit.0.value, pairs_in core pairs fit.1)

pub pairs_within : (core : Core) (pairs : List (ℕ × ℕ)) → All (PairFits core) pairs → All (λ e. e < length core.exprs) (pair_exprs pairs)
pairs_within core pairs fit = All-from_recursion (IsIn core) (pair_exprs pairs) (pairs_in core pairs (recursion_from_All (PairFits core) pairs fit))

args_in : (core : Core) (n : ℕ) (args : List GateArg) → ArgsFit core n args → AllByRecursion (IsIn core) (flat_map running_in args)
args_in core n [] fit = tt
args_in core zero (Unused ∷ args) fit = args_in core zero args fit.1
args_in core zero (Units z ∷ args) fit = args_in core zero args fit.1
args_in core zero (Running e ∷ args) fit = absurd (unused e fit.0)
  where
    unused : (e : ℕ) → Running e ≡ Unused → ⊥
    unused e same = cc
args_in core (suc n) (Unused ∷ args) fit = args_in core n args fit.1
args_in core (suc n) (Units z ∷ args) fit = args_in core n args fit.1
args_in core (suc n) (Running e ∷ args) fit = (kind_within core e NumberKind fit.0, args_in core n args fit.1)

row_in : (core : Core) (leaf : LeafCall) (row : Option Row) → TakesRow core leaf row → AllByRecursion (IsIn core) (leaf_exprs leaf)
row_in core leaf None takes = absurd takes
row_in core leaf (Some row) takes = args_in core row.params leaf.args takes.0

pub leaf_within : (core : Core) (leaf : LeafCall) → LeafFits core leaf → All (λ e. e < length core.exprs) (leaf_exprs leaf)
leaf_within core leaf fits = All-from_recursion (IsIn core) (leaf_exprs leaf) (row_in core leaf (row_of leaf.gate.0) fits.1)

-- ---- the statements of a core

at_recursion : (P : CoreStmt → Type 0) (stmts : List CoreStmt) (k : ℕ) (d : CoreStmt) → AllByRecursion P stmts → k < length stmts → P (get_or stmts k d)
at_recursion P [] k d all l = absurd (omega (arith, l))
at_recursion P (s ∷ stmts) zero d all l = all.0
at_recursion P (s ∷ stmts) (suc k) d all l = at_recursion P stmts k d all.1 (omega (arith, l))

pub stmt_fits : (core : Core) (k : ℕ) (s : CoreStmt) → IsWellFormed core → k < length core.stmts → s ≡ get_or core.stmts k s → StmtFits core s
stmt_fits core k s fits l is = subst (StmtFits core) (sym is) (at_recursion (StmtFits core) core.stmts k s (recursion_from_All (StmtFits core) core.stmts fits.stmts) l)
