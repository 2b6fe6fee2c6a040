use Rattle.core_ir.specs.WellFormed.{ExprsFit}
use Rattle.core_ir.proofs.well_formed.exprs_fit.Given as goal

abbrev pub invariant-loop-k : goal.invariant-loop-k
invariant-loop-k l = ExprsFit l.core.cells l.core.exprs l.k
