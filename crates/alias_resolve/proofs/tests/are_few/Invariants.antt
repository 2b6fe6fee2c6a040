use Rattle.std.proofs.Common.{ℕ, ◌<◌, get_or}
use Rattle.alias_resolve.specs.declared.index.IndexValue.{IndexValue}
use Rattle.alias_resolve.specs.Places.{HasFewMembers}
use Rattle.alias_resolve.proofs.tests.are_few.Given as goal

abbrev pub invariant-loop-bracket : goal.invariant-loop-bracket
invariant-loop-bracket l = (k : ℕ) (d : IndexValue) → k < l.bracket-index → HasFewMembers (get_or l.brackets k d)
