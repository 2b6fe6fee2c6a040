-- For private contracts only: where an expression's kind comes from.
use Rattle.std.specs.Prelude.{ℕ, if◌then◌else◌, List, Option, Some, slice_get}
use Rattle.core_ir.specs.declared.expression.CellKind.{CellKind}
use Rattle.core_ir.specs.declared.expression.CellKind.TheVariants.{Truth as TruthKind, Number as NumberKind}
use Rattle.core_ir.specs.declared.expression.CoreExpr.{CoreExpr}
use Rattle.core_ir.specs.declared.expression.CoreExpr.TheVariants.{Cell as CellNode, Truth as TruthNode, Number as NumberNode, Op as OpNode, Widen as WidenNode, Narrow as NarrowNode, Choose as ChooseNode}
use Rattle.core_ir.specs.declared.kind.Source.{Source}
use Rattle.core_ir.specs.declared.kind.Source.TheVariants.{Known, Same}
use Rattle.core_ir.specs.Tree.{expr_of}
use Rattle.core_ir.specs.WellFormed.{is_bitwise, is_comparison, op_kind, widen_kind, narrow_kind, choose_kind, kind_of}

abbrev pub source_of : List CellKind → CoreExpr → Source
source_of cells (CellNode c) = Known (slice_get cells c)
source_of cells (TruthNode b) = Known (Some TruthKind)
source_of cells (NumberNode z) = Known (Some NumberKind)
source_of cells (OpNode op a b) = if is_bitwise op then Same a else Known (Some (if is_comparison op then TruthKind else NumberKind))
source_of cells (WidenNode a) = Known (Some NumberKind)
source_of cells (NarrowNode a) = Known (Some TruthKind)
source_of cells (ChooseNode test a b) = Same a

-- the kind of an expression by its number
abbrev pub kind_number : List CellKind → List CoreExpr → ℕ → Option CellKind
kind_number cells exprs k = kind_of cells (expr_of exprs k)

-- the kind of an expression, where those of the expressions that it names are given
abbrev pub node_kind : List CellKind → (ℕ → Option CellKind) → CoreExpr → Option CellKind
node_kind cells kinds (CellNode c) = slice_get cells c
node_kind cells kinds (TruthNode b) = Some TruthKind
node_kind cells kinds (NumberNode z) = Some NumberKind
node_kind cells kinds (OpNode op a b) = op_kind op (kinds a) (kinds b)
node_kind cells kinds (WidenNode a) = widen_kind (kinds a)
node_kind cells kinds (NarrowNode a) = narrow_kind (kinds a)
node_kind cells kinds (ChooseNode test a b) = choose_kind (kinds test) (kinds a) (kinds b)
