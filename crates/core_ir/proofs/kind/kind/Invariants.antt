use Rattle.std.proofs.Common.{◌≡◌, ◌≤◌}
use Rattle.core_ir.specs.Kinds.{kind_number}
use Rattle.core_ir.proofs.kind.kind.Given as goal

-- the expression at hand has the kind that is asked for
abbrev pub invariant-loop-kind : goal.invariant-loop-kind
invariant-loop-kind l = (l.at ≤ l.e) × (kind_number l.cells l.exprs l.at ≡ kind_number l.cells l.exprs l.e)

abbrev pub decreases-loop-kind : goal.decreases-loop-kind
decreases-loop-kind l = l.at
