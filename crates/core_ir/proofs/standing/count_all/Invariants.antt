use Rattle.std.proofs.Common.{◌≡◌, ℕ, ◌+◌, ◌<◌, ◌≤◌, min, length, get_or, drop}
use Rattle.core_ir.specs.WellFormed.{bodies_in, times}
use Rattle.core_ir.proofs.standing.count_all.Given as goal

-- the counts so far and what is left of the statements are all
abbrev pub invariant-loop-stmt : goal.invariant-loop-stmt
invariant-loop-stmt l = record {
  few : (i : ℕ) → i < length l.seen → get_or l.seen i 0 ≤ 2;
  counts : (i : ℕ) → i < length l.seen → min 2 (get_or l.seen i 0 + times (l.start + i) (bodies_in (drop l.stmt-index l.stmts))) ≡ min 2 (get_or l.initial.seen i 0 + times (l.start + i) (bodies_in l.stmts));
}
