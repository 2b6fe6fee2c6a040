-- Statements that have bodies, from what their parts stand for.
use Rattle.std.proofs.Common.{◌≡◌, Bool, List, length, Option, Some, None, refl, ap}
use Rattle.qq_base.specs.declared.refusal.Span.{Span}
use Rattle.qasm_ast.specs.declared.expr.ExprId.{ExprId}
use Rattle.qasm_ast.specs.declared.expr.TypeRef.{TypeRef}
use Rattle.qasm_ast.specs.declared.stmt.StmtId.{StmtId}
use Rattle.qasm_ast.specs.declared.stmt.StmtKind.TheVariants as s
use Rattle.qasm_ast.specs.declared.stmt.Declared.{Declared}
use Rattle.qasm_ast.specs.Tree.{Tree, Name, name_of, Scalar, scalar_of, Parameter, parameter_of, Statements, if_some, branch, while, subroutine, gate}
use Rattle.qasm_ast.specs.Whole.{IfThere, DeclaredFits, TypeFits, ParamFits}
use Rattle.qasm_grammar.specs.Parts as p
use Rattle.qasm_grammar.specs.Grammar.{for_of}
use Rattle.qasm_stmt.specs.declared.arena.Arena.{Arena}
use Rattle.qasm_stmt.specs.declared.turns.LoopOver.{LoopOver}
use Rattle.qasm_stmt.specs.declared.turns.LoopOver.TheVariants as u
use Rattle.qasm_stmt.specs.declared.block.Block.{Block}
use Rattle.qasm_stmt.specs.Seen.{IsList, IfBoth, Sound, Grown, tree, IsTree, IsName, IsType, IsParameter, IsTurns, IsLine, IsOpenLine, IsStatements, IsGateBody}
use Rattle.qasm_stmt.proofs.Growing.{each_on, tree_later, maybe_later, trees_later}
use Rattle.qasm_stmt.proofs.Showing.{map_each, fits_each}

pub close_same : (a b : Option Span) (place other : Span) → a ≡ b → place ≡ other → p.close_or a place ≡ p.close_or b other
close_same a b place other e f = rw (e, f) refl

pub turns_later : {a b : Arena} (s : Sound a) (g : Grown a b) (x : LoopOver) (r : p.Turns) → IsTurns a x r → IsTurns b x r
turns_later s g (u.Range start step stop) (p.over_range first middle last) h = (tree_later s g start first h.0, maybe_later s g step middle h.1, tree_later s g stop last h.2)
turns_later s g (u.Set ids) (p.over_set ts) h = trees_later s g ids ts h
turns_later s g (u.Range start step stop) (p.over_set ts) h = absurd h
turns_later s g (u.Set ids) (p.over_range first middle last) h = absurd h

pub list_on : {X A : Type 0} (R S : X → A → Type 0) (xs : List X) (as' : List A) → ((x : X) (a : A) → R x a → S x a) → IsList R xs as' → IsList S xs as'
list_on R S xs as' f h = (h.0, each_on R S f xs as' h.1)

if_both_fits : {X A : Type 0} (P : X → Type 0) (f : X → A) (x : Option X) (a : Option A) → IfBoth (λ x a. P x × (f x ≡ a)) x a → IfThere P x × (if_some f x ≡ a)
if_both_fits P f None None h = (tt, refl)
if_both_fits P f (Some x) (Some a) h = (h.0, ap Some h.1)
if_both_fits P f None (Some a) h = absurd h
if_both_fits P f (Some x) None h = absurd h

module _ (a : Arena) (at' close place end : Span) (here : at' ≡ place) (there : close ≡ end) where
  pub branch_line : (test : ExprId) (taken other : List StmtId) (e : Tree) (ss us : Statements) → IsTree a test e → IsStatements a taken ss → IsStatements a other us → IsLine a (record { kind = s.If test taken other; at = at'; close = close }) (branch e ss us place end)
  branch_line test taken other e ss us t y n = ((t.0, y.0, n.0), rw (t.1, y.1, n.1, here, there) refl)

  pub while_line : (test : ExprId) (body : List StmtId) (e : Tree) (ss : Statements) → IsTree a test e → IsStatements a body ss → IsLine a (record { kind = s.While test body; at = at'; close = close }) (while e ss place end)
  while_line test body e ss t y = ((t.0, y.0), rw (t.1, y.1, here, there) refl)

  pub subroutine_line : (name : Declared) (params : List (TypeRef × Declared)) (result : Option TypeRef) (body : List StmtId) (x : Name) (ps : List Parameter) (r : Option Scalar) (ss : Statements) → IsName a name x → IsList (IsParameter a) params ps → IfBoth (IsType a) result r → IsStatements a body ss → IsLine a (record { kind = s.Def name params result body; at = at'; close = close }) (subroutine x ps r ss place end)
  subroutine_line name params result body x ps r ss n l t y =
      let whole = fits_each (ParamFits (length a.names.keys) (length a.exprs.items)) (parameter_of a.names.keys (tree a)) params ps l in
      let shown = map_each (ParamFits (length a.names.keys) (length a.exprs.items)) (parameter_of a.names.keys (tree a)) params ps l.1 in
      let type = if_both_fits (TypeFits (length a.exprs.items)) (scalar_of a.names.keys (tree a)) result r t in
      ((n.0, whole, type.0, y.0), rw (n.1, shown, type.1, y.1, here, there) refl)

  pub gate_line : (name : Declared) (params qubits : List Declared) (body : Block) (x : Name) (ps qs : List Name) (c : p.Block) → IsName a name x → IsList (IsName a) params ps → IsList (IsName a) qubits qs → IsGateBody a body c → IsLine a (record { kind = s.Gate name params qubits body.statements.items; at = at'; close = close }) (gate x ps qs c.statements place end)
  gate_line name params qubits body x ps qs c n l m y =
      let fits = fits_each (DeclaredFits (length a.names.keys)) (name_of a.names.keys (tree a)) in
      let shown = map_each (DeclaredFits (length a.names.keys)) (name_of a.names.keys (tree a)) in
      ((n.0, fits params ps l, fits qubits qs m, y.0), rw (n.1, shown params ps l.1, shown qubits qs m.1, y.1, here, there) refl)

-- a `for`, by what it goes over
module _ (a : Arena) (at' close place : Span) (here : at' ≡ place) (type : TypeRef) (name : Declared) (body : List StmtId) (is_open : Bool) (t : Scalar) (x : Name) (c : p.Body) (there : close ≡ p.close_or c.close place) (open' : is_open ≡ c.is_open) (ht : IsType a type t) (hx : IsName a name x) (hc : IsStatements a body c.statements) where
  pub range_line : (start : ExprId) (step : Option ExprId) (stop : ExprId) (r : p.Turns) → IsTurns a (u.Range start step stop) r → IsOpenLine a (record { kind = s.ForRange type name start step stop body; at = at'; close = close }, is_open) (for_of t x r c place)
  range_line start step stop (p.over_range first middle last) h = (((ht.0, hx.0, h.0.0, h.1.0, h.2.0, hc.0), rw (ht.1, hx.1, h.0.1, h.1.1, h.2.1, hc.1, here, there) refl), open')
  range_line start step stop (p.over_set ts) h = absurd h

  pub set_line : (ids : List ExprId) (r : p.Turns) → IsTurns a (u.Set ids) r → IsOpenLine a (record { kind = s.ForSet type name ids body; at = at'; close = close }, is_open) (for_of t x r c place)
  set_line ids (p.over_set ts) h = (((ht.0, hx.0, h.0, hc.0), rw (ht.1, hx.1, h.1, hc.1, here, there) refl), open')
  set_line ids (p.over_range first middle last) h = absurd h
