-- For private contracts alone: an effect that was taken, with whatever is left behind it.
use Rattle.std.specs.Prelude.{Bool, Option, Some, None}
use Rattle.qq_base.specs.declared.run.Step.{Step}
use Rattle.qir_module.specs.Machine.{State, Effect, Later, behind}
use Rattle.qir_machine.specs.Steps.{Remains, AreSame, IsStep}

-- nothing is seen, or a step
abbrev pub IsShown : Remains → Option Bool → Option Step → Remains → Type 0
IsShown old given None new = AreSame old new
IsShown old given (Some step) new = IsStep old given step new

abbrev pub IsPerformed : Effect → Later → Option Bool → Option Step → State → Type 0
IsPerformed effect later given step s = IsShown (behind effect later) given step (later s)
