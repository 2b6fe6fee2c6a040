-- Names that calls and assignments begin with, and what is made of them.
use Rattle.std.proofs.Common.{◌≡◌, ℕ, ◌<◌, ◌++◌, Vec, Global, List, [], ◌∷◌, length, Some, slice_get, refl, sym, ap, subst, ◌∙◌, length-append, arith}
use Rattle.qq_base.specs.declared.refusal.Span.{Span}
use Rattle.qasm_ast.specs.declared.expr.Expr.{Expr}
use Rattle.qasm_ast.specs.declared.expr.ExprId.{ExprId}
use Rattle.qasm_ast.specs.declared.expr.ExprKind.TheVariants as e
use Rattle.qasm_ast.specs.declared.expr.IndexRef.{IndexRef}
use Rattle.qasm_ast.specs.declared.expr.OperandName.TheVariants as o
use Rattle.qasm_ast.specs.declared.stmt.Declared.{Declared}
use Rattle.qasm_ast.specs.declared.stmt.Modifier.{Modifier}
use Rattle.qasm_ast.specs.declared.stmt.Modifier.TheVariants as h
use Rattle.qasm_ast.specs.declared.stmt.StmtKind.TheVariants as s
use Rattle.qasm_ast.specs.Tree.{Tree, trees, call, Bracket, Name, Change, change_of, tree_at, invoke}
use Rattle.qasm_ast.specs.Whole.{AllOf, IsExpr, DeclaredFits, ModifierFits, IsCall as IsCallNode}
use Rattle.qasm_ast.proofs.Steps.{ids_same, tree_at-enough, tree_of-node}
use Rattle.qasm_expr.specs.Answer.{Grows}
use Rattle.qasm_expr.proofs.Growing.{grows_add, last_found}
use Rattle.qasm_grammar.specs.Grammar.{at_one}
use Rattle.qasm_grammar.specs.Parts.{Call, declared, operand_at, place_of_change, place_of_call, call_statement}
use Rattle.qasm_stmt.specs.declared.arena.Arena.{Arena}
use Rattle.qasm_stmt.specs.declared.calls.GateCall.{GateCall}
use Rattle.qasm_stmt.specs.Seen.{Each, IsList, Sound, tree, IsTree, IsName, IsBrackets, IsOperand, IsChange, IsCall, IsLine, line_of, at_modifier, at_call, statement_of_call}
use Rattle.qasm_stmt.proofs.Growing.{grown_by, sound_by, tree_later}
use Rattle.qasm_stmt.proofs.Showing.{trees_each, map_each, fits_each}
use Rattle.qasm_stmt.proofs.Lines.{operands_whole}

module _ (a : Arena) where
  -- ---- targets

  pub target_shows : (name : Declared) (x : List ℕ × Span) (index : List IndexRef) (bs : List Bracket) → IsName a name (declared x) → IsBrackets a index bs → IsOperand a (record { name = o.Name name.name; index = index; at = name.at }) (operand_at x bs)
  target_shows name x index bs n i = (record { name = n.0; index = i.0 }, rw (ap (λ (m : Name). m.text) n.1, i.1, ap (λ (m : Name). m.place) n.1) refl)

  -- ---- calls of gates

  modifier_place : (x : Modifier) → at_modifier x ≡ place_of_change (change_of a.names.keys (tree a) x)
  modifier_place (h.Inv place) = refl
  modifier_place (h.Pow id place) = refl
  modifier_place (h.Ctrl id place) = refl

  call_place : (xs : List Modifier) (hs : List Change) (d : Declared) (n : Name) → Each (IsChange a) xs hs → IsName a d n → at_call xs d ≡ place_of_call hs n
  call_place [] [] d n e s = ap (λ (m : Name). m.place) s.1
  call_place (x ∷ xs) (h ∷ hs) d n e s = modifier_place x ∙ ap place_of_change e.0.1
  call_place [] (h ∷ hs) d n e s = absurd e
  call_place (x ∷ xs) [] d n e s = absurd e

  pub call_shows : (c : GateCall) (k : Call) → IsCall a c k → IsLine a (statement_of_call c) (call_statement k)
  call_shows c k s =
      let changes : AllOf (ModifierFits (length a.exprs.items)) c.mods.items = fits_each (ModifierFits (length a.exprs.items)) (change_of a.names.keys (tree a)) c.mods.items k.changes s.changes in
      let arguments : AllOf (IsExpr (length a.exprs.items)) c.args.items = fits_each (IsExpr (length a.exprs.items)) (λ x. tree a x.0) c.args.items k.arguments s.arguments in
      let operands = operands_whole a c.operands.items k.operands s.operands in
      let changed = map_each (ModifierFits (length a.exprs.items)) (change_of a.names.keys (tree a)) c.mods.items k.changes s.changes.1 in
      let place = call_place c.mods.items k.changes c.gate k.name s.changes.1 s.name in
      ((changes, s.name.0, arguments, operands.0), rw (changed, s.name.1, trees_each a c.args.items k.arguments s.arguments.1, operands.1, place) refl)

-- ---- calls of subroutines

-- a call is added to the expressions
module _ (a : Arena) (sound : Sound a) (x : Declared) (args : List ExprId) (ts : List Tree) (new : Vec Expr Global) (known : DeclaredFits (length a.names.keys) x) (seen : IsList (IsTree a) args ts) (added : new.items ≡ a.exprs.items ++ record { kind = e.Call x.name args; at = x.at } ∷ []) where
  abbrev pub with_call : Arena
  with_call = record { names = a.names; exprs = new; stmts = a.stmts }

  all_below : AllOf (IsExpr (length a.exprs.items)) args
  all_below = fits_each (IsExpr (length a.exprs.items)) (λ y. tree a y.0) args ts seen

  call_grows : Grows a.names.keys a.names.keys a.exprs.items new.items
  call_grows = grows_add a.names.keys a.exprs.items new.items (e.Call x.name args) x.at added (known, all_below)

  pub with_call_sound : Sound with_call
  with_call_sound = sound_by a with_call sound call_grows refl

  module _ (w : List ℕ × Span) (name : IsName a x (declared w)) (id : ExprId) (number : id.0 ≡ length a.exprs.items) where
    here : slice_get new.items id.0 ≡ Some (record { kind = e.Call x.name args; at = x.at })
    here = last_found a.exprs.items new.items _ id.0 added number

    arguments_same : (k : ℕ) → k < id.0 → tree_at a.names.keys new.items id.0 k ≡ tree a k
    arguments_same k lt =
        tree_at-enough a.names.keys new.items with_call_sound.exprs id.0 k lt (omega (arith, number, ap length added, length-append a.exprs.items (record { kind = e.Call x.name args; at = x.at } ∷ [])))
        ∙ (tree_later sound (grown_by a with_call call_grows refl) (record { 0 = k }) (tree a k) (omega (arith, number), refl)).1

    call_seen : tree with_call id.0 ≡ call w.0 (trees ts) w.1
    call_seen =
        tree_of-node a.names.keys new.items with_call_sound.exprs id.0 _ here
        ∙ rw (ids_same a.names.keys [] (tree a) (tree_at a.names.keys new.items id.0) id.0 arguments_same args (subst (λ n. AllOf (IsExpr n) args) (sym number) all_below).each, trees_each a args ts seen.1, ap (λ (m : Name). m.text) name.1, ap (λ (m : Name). m.place) name.1) refl

    pub invoke_shows : IsLine with_call (line_of (s.Call id) x.at) (at_one (invoke (call w.0 (trees ts) w.1)) w.1)
    invoke_shows = ((omega (arith, number, ap length added, length-append a.exprs.items (record { kind = e.Call x.name args; at = x.at } ∷ [])), subst IsCallNode (sym here) tt), rw (call_seen, ap (λ (m : Name). m.place) name.1) refl)
