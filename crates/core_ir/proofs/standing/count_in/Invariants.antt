use Rattle.std.proofs.Common.{◌≡◌, ℕ, ◌+◌, ◌<◌, ◌≤◌, min, length, get_or, drop}
use Rattle.core_ir.specs.WellFormed.{times}
use Rattle.core_ir.proofs.standing.count_in.Given as goal

-- the counts so far and what is left of the body are all
abbrev pub invariant-loop-j : goal.invariant-loop-j
invariant-loop-j l = record {
  few : (i : ℕ) → i < length l.seen → get_or l.seen i 0 ≤ 2;
  counts : (i : ℕ) → i < length l.seen → min 2 (get_or l.seen i 0 + times (l.start + i) (drop l.j-index l.body)) ≡ min 2 (get_or l.initial.seen i 0 + times (l.start + i) l.body);
}
