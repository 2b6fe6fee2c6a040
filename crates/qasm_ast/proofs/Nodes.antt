-- What the nodes of a program show.
use Rattle.std.proofs.Common.{◌≡◌, ℕ, ◌<◌, List, length, Some, slice_get, get_or, refl, ap, subst, ◌∙◌, arith}
use Rattle.qq_base.specs.declared.refusal.Span.{Span}
use Rattle.qasm_ast.specs.declared.expr.Expr.{Expr}
use Rattle.qasm_ast.specs.declared.expr.ExprKind.{ExprKind}
use Rattle.qasm_ast.specs.declared.expr.ExprKind.TheVariants as e
use Rattle.qasm_ast.specs.declared.stmt.Stmt.{Stmt}
use Rattle.qasm_ast.specs.declared.stmt.StmtKind.{StmtKind}
use Rattle.qasm_ast.specs.declared.stmt.StmtKind.TheVariants as s
use Rattle.qasm_ast.specs.Tree.{Tree, node_of, place_of, stmt_of, place_of_statement, close_of_statement}
use Rattle.qasm_ast.specs.Whole.{Source, IsProgram, ExprFits, StmtFits}
use Rattle.qasm_ast.specs.View.{tree_in, statement_in, expr_in, stmt_in}
use Rattle.qasm_ast.proofs.Steps.{tree_of-unfolds}
use Rattle.qasm_ast.proofs.Levels.{read_at, statement_of-unfolds}

-- a member that is read from a list
pub found_in : {X : Type 0} (xs ys : List X) (n : ℕ) (x : X) → xs ≡ ys → n < length ys → x ≡ get_or xs n x → slice_get ys n ≡ Some x
found_in xs ys n x e lt h = read_at ys n x lt (subst (λ zs. x ≡ get_or zs n x) e h)

pub place-node : (names : List (List ℕ)) (sub : ℕ → Tree) (kind : ExprKind) (at' : Span) → place_of (node_of names sub kind at') ≡ at'
place-node names sub (e.Name o) at' = refl
place-node names sub (e.Hardware k) at' = refl
place-node names sub (e.Whole k) at' = refl
place-node names sub (e.Truth b) at' = refl
place-node names sub (e.Bits bs) at' = refl
place-node names sub (e.Unary op a) at' = refl
place-node names sub (e.Binary op a b) at' = refl
place-node names sub (e.Cast type a) at' = refl
place-node names sub (e.Call k ids) at' = refl

module _ (p : Source) (whole : IsProgram p) (n : ℕ) where
  module _ (x : Expr) (lt : n < length p.exprs) (found : slice_get p.exprs n ≡ Some x) where
    pub tree_in-node : tree_in p n ≡ expr_in p x
    tree_in-node = tree_of-unfolds p.names p.exprs whole.exprs_fit n x lt found

    pub place-expr : place_of (tree_in p n) ≡ x.at
    place-expr = ap place_of tree_in-node ∙ place-node p.names (tree_in p) x.kind x.at

    pub expr_fits : ExprFits (length p.names) n x.kind
    expr_fits = whole.exprs_fit n x (omega arith) found

  module _ (x : Stmt) (lt : n < length p.stmts) (found : slice_get p.stmts n ≡ Some x) where
    pub statement_in-node : statement_in p n ≡ stmt_in p x
    statement_in-node = statement_of-unfolds p.names p.exprs p.stmts whole.stmts_fit n x lt found

    pub place-stmt : place_of_statement (statement_in p n) ≡ x.at
    place-stmt = ap place_of_statement statement_in-node ∙ places x.kind
      where
        places : (kind : StmtKind) → place_of_statement (stmt_of p.names (tree_in p) (statement_in p) kind x.at x.close) ≡ x.at
        places s.Include = refl
        places (s.Qubit _ _) = refl
        places (s.Variable _ _ _) = refl
        places (s.Constant _ _ _) = refl
        places (s.Output _ _) = refl
        places (s.Let _ _) = refl
        places (s.Gate _ _ _ _) = refl
        places (s.Def _ _ _ _) = refl
        places (s.GateCall _ _ _ _) = refl
        places (s.Barrier _) = refl
        places (s.Reset _) = refl
        places (s.Measure _ _) = refl
        places (s.Assign _ _ _) = refl
        places (s.Call _) = refl
        places (s.If _ _ _) = refl
        places (s.While _ _) = refl
        places (s.ForRange _ _ _ _ _ _) = refl
        places (s.ForSet _ _ _ _) = refl
        places s.Break = refl
        places s.Continue = refl
        places s.End = refl
        places (s.Return _) = refl

    pub close-stmt : close_of_statement (statement_in p n) ≡ x.close
    close-stmt = ap close_of_statement statement_in-node ∙ closes x.kind
      where
        closes : (kind : StmtKind) → close_of_statement (stmt_of p.names (tree_in p) (statement_in p) kind x.at x.close) ≡ x.close
        closes s.Include = refl
        closes (s.Qubit _ _) = refl
        closes (s.Variable _ _ _) = refl
        closes (s.Constant _ _ _) = refl
        closes (s.Output _ _) = refl
        closes (s.Let _ _) = refl
        closes (s.Gate _ _ _ _) = refl
        closes (s.Def _ _ _ _) = refl
        closes (s.GateCall _ _ _ _) = refl
        closes (s.Barrier _) = refl
        closes (s.Reset _) = refl
        closes (s.Measure _ _) = refl
        closes (s.Assign _ _ _) = refl
        closes (s.Call _) = refl
        closes (s.If _ _ _) = refl
        closes (s.While _ _) = refl
        closes (s.ForRange _ _ _ _ _ _) = refl
        closes (s.ForSet _ _ _ _) = refl
        closes s.Break = refl
        closes s.Continue = refl
        closes s.End = refl
        closes (s.Return _) = refl

    pub stmt_fits : StmtFits (length p.names) p.exprs p.stmts n x.kind
    stmt_fits = whole.stmts_fit n x found
