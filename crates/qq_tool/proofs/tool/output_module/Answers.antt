use Rattle.std.proofs.Common.{refl}
use Rattle.qir_module.specs.Machine.{machine_run}
use Rattle.qq_tool.specs.Tasks.{bits_of}
use Rattle.qq_tool.proofs.Tasks.{verify_given, run_given}
use Rattle.qq_tool.proofs.tool.output_module.Goals as goal

pub returns-in-Verify : goal.returns-in-Verify
returns-in-Verify g c = verify_given c.args.task c.args.«module».now _ _ c.in-Verify.is c.tell.ensures.told

pub returns-in-Run : goal.returns-in-Run
returns-in-Run g c =
    run_given c.args.task _ c.args.«module».now (machine_run c.args.«module».now (bits_of c.in-Run.outcomes.now) c.in-Run.turns).fate _ _ _ c.in-Run.is (λ s is. (is, refl)) (λ s is. is.0) c.show_run.ensures.told c.show_run.ensures.settled
