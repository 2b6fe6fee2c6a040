use Rattle.std.proofs.Common.{◌≡◌, ap, sym, subst, ◌∙◌, arith}
use Rattle.std.specs.List.{range_with_len}
use Rattle.std.specs.List.Sorted.{IsStrictlyIncreasing}
use Rattle.block_lower.proofs.Shortening.{range_rises}
use Rattle.block_lower.proofs.joins.first_numbers.Goals as goal

pub returns-clause-ascends : goal.returns-clause-ascends
returns-clause-ascends c = subst IsStrictlyIncreasing (sym c.loop-k.invariant) (range_rises c.loop-k.k)
