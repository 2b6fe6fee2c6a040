use Rattle.std.proofs.Common.{ℕ, List, arith}
use Rattle.std.specs.Prelude.{Contains}
use Rattle.std.proofs.lemmas.List.Filters.{dedup_is}
use Rattle.std.proofs.lemmas.List.Kept.{Contains-dedup_nat}
use Rattle.std.proofs.lemmas.List.Sorted.{Contains-permutation}
use Rattle.std.proofs.lemmas.Map.Keys.{IsStrictlyIncreasing-dedup}
use Rattle.block_lower.proofs.Keeping.{unlisted}
use Rattle.block_lower.proofs.joins.all_listed.Goals as goal

pub returns-clause-ascends : goal.returns-clause-ascends
returns-clause-ascends c = rw (dedup_is _ _ _ c.dedup.ensures.filtered) (IsStrictlyIncreasing-dedup _ c.sort_unstable.ensures.sorted)

pub returns-clause-all : goal.returns-clause-all
returns-clause-all c = λ x none k d l.
    let is = dedup_is _ _ _ c.dedup.ensures.filtered in
    c.loop-way.invariant x (unlisted c.loop-way.cells.items c.dedup.new.self.items x (λ has. rw is (Contains-dedup_nat _ x (Contains-permutation _ _ x c.sort_unstable.ensures.permutation has))) none) k d (omega (arith, l))
