-- A core that fits, as code holds it, is one that the laws of the block graph speak of.
use Rattle.std.proofs.Common.{◌+◌, ◌<◌, ◌^◌, List, ◌∷◌, [], ◌++◌, map, pos, length, Option, Some, None, arith, length-append}
use Rattle.qir_module.specs.declared.instruction.Last.TheVariants.{Return}
use Rattle.core_ir.specs.declared.program.Output.{Output}
use Rattle.core_ir.specs.Core.{Core}
use Rattle.core_ir.specs.Tree.{program_of}
use Rattle.core_ir.specs.WellFormed.{Fits}
use Rattle.expr_lower.specs.Coded.{coded, CodesExpressions}
use Rattle.block_graph.specs.Bounds.{IsHeld}
use Rattle.block_graph.specs.Laws.{IsLowerable, WorkIsSmall}
use Rattle.block_graph.specs.Work.{Open, Work}
use Rattle.block_graph.specs.Lowering.{when_open, lower_of, first_work, record_call, end_work}
use Rattle.block_lower.specs.Parts.{IsSmall}
use Rattle.block_lower.proofs.Labels.{lower_makes}

pub lowerable : (core : Core) → Fits core → IsHeld core → CodesExpressions → IsLowerable core (coded core)
lowerable core fits held codes =
    let is = codes core fits.well_formed fits.safe held.exprs in
    record { fits = fits; held = held; coder_fits = record { constants = is.constants; lowers = is.lowers } }

pub program_small : (core : Core) → WorkIsSmall → IsLowerable core (coded core) → IsSmall (lower_of core (coded core) (program_of core) (first_work (length core.cells)))
program_small core law is =
    let small = law core (coded core) is in
    let made = lower_makes core (coded core) (program_of core) (first_work (length core.cells)) in
    record {
      next = omega (arith, small.next, is.fits.light);
      results = omega (arith, small.results, is.fits.light);
      blocks = omega (arith, small.done, is.fits.few_knots);
      labels = omega (arith, made.labels, is.fits.few_knots);
    }

-- where the program ends there is at most one block more
pub ended_few : (outputs : List Output) (v : Work) (now : Option Open) → length v.done < 2 ^ 28 → length (when_open now v (end_work outputs v)).done < 2 ^ 32
ended_few outputs v None few = omega (arith, few)
ended_few outputs v (Some o) few = omega (arith, few, length-append v.done (record { phis = o.phis; body = o.body ++ map (record_call o.values) outputs; last = Return (pos 0) } ∷ []))
