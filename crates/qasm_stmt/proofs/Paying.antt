-- Each statement that is added takes a token.
use Rattle.std.proofs.Common.{◌≡◌, ℕ, ◌+◌, ◌≤◌, ◌<◌, ◌∷◌, [], length, ap, subst, sym, length-append, arith}
use Rattle.qasm_ast.specs.declared.stmt.Stmt.{Stmt}
use Rattle.qasm_ast.specs.declared.stmt.StmtId.{StmtId}
use Rattle.qasm_stmt.specs.declared.arena.Arena.{Arena}
use Rattle.qasm_stmt.specs.Seen.{Few, Paid, Spare, Pushed}

-- ---- a statement that is added

module _ (a b c : Arena) (x : Stmt) (id : StmtId) (from to : ℕ) (p : Pushed b c x id) (spare : Spare a b from to) where
  one_more : length c.stmts.items ≡ length b.stmts.items + 1
  one_more = omega (arith, ap length p.stmts, length-append b.stmts.items (x ∷ []))

  pub pushed_paid : Paid a c from to
  pushed_paid = omega (arith, one_more, spare)

  -- it leaves the other lists as they were
  pub pushed_few : Few a from → Few b to → Few c to
  pushed_few old few = (subst (λ l. length l ≤ to) (sym p.names) few.0, subst (λ l. length l ≤ to) (sym p.exprs) few.1, omega (arith, one_more, spare, old.2))

-- ---- a line that adds no statement

pub kept_spare : (a b : Arena) (from to : ℕ) → b.stmts.items ≡ a.stmts.items → from < to → Spare a b from to
kept_spare a b from to kept lt = omega (arith, ap length kept, lt)
