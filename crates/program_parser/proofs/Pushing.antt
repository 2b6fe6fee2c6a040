-- Statements that are added to their list.
use Rattle.std.proofs.Common.{◌≡◌, ℕ, suc, ◌≤◌, ◌<◌, ◌++◌, Bool, List, [], ◌∷◌, length, Some, refl, sym, ap, subst, ◌∙◌, append-nil, append_assoc, length-append, arith}
use Rattle.std.specs.Prelude.{slice_get}
use Rattle.qasm_ast.specs.declared.stmt.Stmt.{Stmt}
use Rattle.qasm_ast.specs.declared.stmt.StmtId.{StmtId}
use Rattle.qasm_ast.specs.Tree.{Statement, stmt_at, seen_stmt}
use Rattle.qasm_ast.specs.Whole.{IsGateStmt}
use Rattle.qasm_grammar.specs.Parts.{Opened}
use Rattle.qasm_parser.specs.State.{State, MayPush, Pushed}
use Rattle.qasm_parser.proofs.Listing.{some_fuel}
use Rattle.program_parser.specs.World.{World, From, Stands, sub_in, body_in}
use Rattle.program_parser.specs.Shows.{LineIn, StatementIn, MemberIn}
use Rattle.program_parser.specs.Nesting.{GateLineIn, OpenLineIn, OpenedIn}
use Rattle.program_parser.proofs.Standing.{from_on}

-- what stands for a statement may be added
pub may_push : (s : State) (x : Stmt) (t : Statement) → Stands LineIn s x t → MayPush s x.kind
may_push s x t h = λ names more_exprs more_stmts le.
    let w : World = record { names = s.names; exprs = s.exprs ++ more_exprs; stmts = s.stmts ++ more_stmts; steps = suc; stmt_steps = suc; known = names; count = length s.stmts } in
    (h.holds w (record { more_names = []; more_exprs = more_exprs; more_stmts = more_stmts; names = sym (append-nil s.names); exprs = refl; stmts = refl; enough = λ k lt. omega arith; stmts_enough = λ k lt. omega arith; known = le; count = omega arith })).0

-- a statement behind the others
behind_them : {X : Type 0} (xs more : List X) (x : X) → slice_get (xs ++ x ∷ more) (length xs) ≡ Some x
behind_them [] more x = refl
behind_them (y ∷ xs) more x = behind_them xs more x

-- the world, where bodies are looked at so many steps down
abbrev pub down_to : World → ℕ → World
down_to w n = record { names = w.names; exprs = w.exprs; stmts = w.stmts; steps = w.steps; stmt_steps = λ k. n; known = w.known; count = w.count }

from_down : (s : State) (w : World) (n : ℕ) → From s w → length s.stmts ≤ n → From s (down_to w n)
from_down s w n f le = record { more_names = f.more_names; more_exprs = f.more_exprs; more_stmts = f.more_stmts; names = f.names; exprs = f.exprs; stmts = f.stmts; enough = f.enough; stmts_enough = λ k lt. omega (arith, le, lt); known = f.known; count = f.count }

module _ (a b : State) (x : Stmt) (id : StmtId) (p : Pushed x a b id) (w : World) (f : From b w) where
  is_there : slice_get w.stmts id.0 ≡ Some x
  is_there =
      let all : w.stmts ≡ a.stmts ++ x ∷ f.more_stmts = f.stmts ∙ ap (λ l. l ++ f.more_stmts) p.stmts ∙ append_assoc a.stmts (x ∷ []) f.more_stmts in
      ap (λ l. slice_get l id.0) all ∙ ap (slice_get (a.stmts ++ x ∷ f.more_stmts)) p.number ∙ behind_them a.stmts f.more_stmts x

  is_known : id.0 < length b.stmts
  is_known = omega (arith, p.number, ap length p.stmts, length-append a.stmts (x ∷ []))

  pub fuel : (n : ℕ) × (w.stmt_steps id.0 ≡ suc n)
  fuel = some_fuel (w.stmt_steps id.0) (let lt : id.0 < w.stmt_steps id.0 = f.stmts_enough id.0 is_known in omega arith)

  pub from_pushed : From a (down_to w fuel.0)
  unfolding fuel is_known
  from_pushed =
      let lt : id.0 < w.stmt_steps id.0 = f.stmts_enough id.0 is_known in
      let is : w.stmt_steps id.0 ≡ suc fuel.0 = fuel.1 in
      from_down a w fuel.0 (from_on p.after.longer f) (omega (arith, p.number))

  seen_pushed : (t : Statement) → LineIn (down_to w fuel.0) x t → body_in w id.0 ≡ t
  unfolding fuel is_known
  seen_pushed t l =
      ap (λ n. stmt_at w.names (sub_in w) w.stmts n id.0) fuel.1
      ∙ ap (seen_stmt w.names (sub_in w) (stmt_at w.names (sub_in w) w.stmts fuel.0)) is_there
      ∙ l.1

  pub statement_pushed : (t : Statement) → LineIn (down_to w fuel.0) x t → StatementIn w id t
  statement_pushed t l = (omega (arith, is_known, f.count), seen_pushed t l)

  pub member_pushed : (t : Statement) → GateLineIn (down_to w fuel.0) x t → MemberIn w id t
  member_pushed t l = ((omega (arith, is_known, f.count), subst IsGateStmt (sym is_there) l.1), seen_pushed t l.0)

module _ (a b : State) (x : Stmt) (id : StmtId) (t : Statement) (p : Pushed x a b id) where
  pub pushed_stands : Stands LineIn a x t → Stands StatementIn b id t
  pushed_stands h = record { holds = λ w f. statement_pushed a b x id p w f t (h.holds _ (from_pushed a b x id p w f)) }

  pub member_stands : Stands GateLineIn a x t → Stands MemberIn b id t
  member_stands h = record { holds = λ w f. member_pushed a b x id p w f t (h.holds _ (from_pushed a b x id p w f)) }

-- ---- with whether a statement ends in an `if` that has no `else`

pub open_line : (a : State) (x : Stmt) (is_open : Bool) (t : Opened) → Stands OpenLineIn a (x, is_open) t → Stands LineIn a x t.0
open_line a x is_open t h = record { holds = λ w f. (h.holds w f).0 }

pub opened_stands : (a b : State) (x : Stmt) (is_open : Bool) (id : StmtId) (t : Opened) → Pushed x a b id → Stands OpenLineIn a (x, is_open) t → Stands OpenedIn b (id, is_open) t
opened_stands a b x is_open id t p h = record { holds = λ w f. ((pushed_stands a b x id t.0 p (open_line a x is_open t h)).holds w f, (h.holds w (from_on p.after.longer f)).1) }
