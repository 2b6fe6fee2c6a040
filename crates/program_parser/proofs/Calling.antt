-- The node of a call of a subroutine.
use Rattle.std.proofs.Common.{◌≡◌, ℕ, suc, Vec, Global, ◌<◌, ◌++◌, List, [], length, Option, Some, None, refl, sym, ap, ◌∙◌, append-nil, arith}
use Rattle.std.specs.Prelude.{slice_get}
use Rattle.qq_base.specs.declared.refusal.Span.{Span}
use Rattle.qasm_ast.specs.declared.expr.Expr.{Expr}
use Rattle.qasm_ast.specs.declared.expr.ExprId.{ExprId}
use Rattle.qasm_ast.specs.declared.expr.ExprKind.{ExprKind}
use Rattle.qasm_ast.specs.declared.expr.ExprKind.TheVariants as e
use Rattle.qasm_ast.specs.declared.stmt.Declared.{Declared}
use Rattle.qasm_ast.specs.Tree.{Tree, Trees, Name, call, trees, trees_at, node_of, seen_node, tree_at}
use Rattle.qasm_ast.specs.Whole.{IsCall}
use Rattle.qasm_grammar.specs.Parts.{declared}
use Rattle.qasm_parser.specs.State.{State, Lasts, MayAdd}
use Rattle.qasm_parser.proofs.Listing.{some_fuel}
use Rattle.program_parser.specs.World.{World, From, Stands, sub_in}
use Rattle.program_parser.specs.Shows.{NameIn, TreesIn}
use Rattle.program_parser.proofs.Standing.{world_of, from_here}

-- it names what is there
module _ (s : State) (x : Declared) (w : List ℕ × Span) (xs : Vec ExprId Global) (ts : List Tree) (h : Stands NameIn s x (declared w)) (g : Stands TreesIn s xs ts) where
  pub may_call : MayAdd s (e.Call x.name xs.items)
  may_call = λ names le.
      let p = h.holds (world_of s) (from_here s) in
      let q = g.holds (world_of s) (from_here s) in
      (omega (arith, p.0, le), q.0)

  pub call_lasts : Lasts s (λ names sub. node_of names sub (e.Call x.name xs.items) x.at ≡ call w.0 (trees ts) w.1)
  call_lasts = record {
    holds = λ more_names more_exprs steps enough.
        let v : World = record { names = s.names ++ more_names; exprs = s.exprs ++ more_exprs; stmts = s.stmts; steps = steps; stmt_steps = suc; known = length s.names; count = length s.stmts } in
        let f : From s v = record { more_names = more_names; more_exprs = more_exprs; more_stmts = []; names = refl; exprs = refl; stmts = sym (append-nil s.stmts); enough = enough; stmts_enough = λ k lt. omega arith; known = omega arith; count = omega arith } in
        let p = h.holds v f in
        let q = g.holds v f in
        ap (λ (n : Name). call n.text (trees_at (sub_in v) xs.items) n.place) p.1 ∙ ap (λ l. call w.0 l w.1) q.1;
  }

-- a node that is shown as a call is one
module _ (names : List (List ℕ)) (sub : ℕ → Tree) (name : List ℕ) (ts : Trees) (place : Span) where
  kind_called : (kind : ExprKind) (at' : Span) → node_of names sub kind at' ≡ call name ts place → IsCall (Some (record { kind = kind; at = at' }))
  kind_called (e.Call k ids) at' h = tt
  kind_called _ at' h = absurd (cc)

  called : (o : Option Expr) → seen_node names sub o ≡ call name ts place → IsCall o
  called None h = absurd (cc)
  called (Some node) h = kind_called node.kind node.at h

pub is_call : (s : State) (w : World) (f : From s w) (id : ℕ) (name : List ℕ) (ts : Trees) (place : Span) → id < length s.exprs → sub_in w id ≡ call name ts place → IsCall (slice_get w.exprs id)
is_call s w f id name ts place lt h =
    let steps : id < w.steps id = f.enough id lt in
    let m = some_fuel (w.steps id) (omega arith) in
    called w.names (tree_at w.names w.exprs m.0) name ts place (slice_get w.exprs id) (sym (ap (λ n. tree_at w.names w.exprs n id) m.1) ∙ h)
