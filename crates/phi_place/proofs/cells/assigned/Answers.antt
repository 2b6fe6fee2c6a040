use Rattle.std.proofs.Common.{arith, sym, subst}
use Rattle.std.specs.Prelude.{Contains}
use Rattle.std.proofs.lemmas.List.Filters.{dedup_is}
use Rattle.std.proofs.lemmas.List.Kept.{Contains-dedup_nat, Contains-from_dedup}
use Rattle.std.proofs.lemmas.List.Sorted.{Contains-permutation, IsPermutation-sym}
use Rattle.std.proofs.lemmas.Map.Keys.{IsStrictlyIncreasing-dedup}
use Rattle.core_ir.specs.Tree.{sequence, stmt_of}
use Rattle.phi_place.proofs.Listed.{listed_all, listed_assigns, assigns_listed}
use Rattle.phi_place.proofs.cells.assigned.Goals as goal

pub returns-clause-ascends : goal.returns-clause-ascends
returns-clause-ascends c = rw (dedup_is _ _ _ c.dedup.ensures.filtered) (IsStrictlyIncreasing-dedup _ c.sort_unstable.ensures.sorted)

pub returns-clause-exact : goal.returns-clause-exact
returns-clause-exact c = λ cell.
    let is = dedup_is _ _ _ c.dedup.ensures.filtered in
    let moved = c.sort_unstable.ensures.permutation in
    let listed = listed_all (stmt_of c.args.core.now.stmts) c.args.body.now c.loop-k.cells.items c.loop-k.k-index (omega arith) c.loop-k.invariant in (
      (λ has. listed_assigns (sequence (stmt_of c.args.core.now.stmts) c.args.body.now) cell (subst (λ xs. Contains xs cell) listed (Contains-permutation _ _ cell (IsPermutation-sym _ _ moved) (Contains-from_dedup _ _ cell (rw is at has))))),
      (λ assigned. rw is (Contains-dedup_nat _ cell (Contains-permutation _ _ cell moved (subst (λ xs. Contains xs cell) (sym listed) (assigns_listed (sequence (stmt_of c.args.core.now.stmts) c.args.body.now) cell assigned))))),
    )
