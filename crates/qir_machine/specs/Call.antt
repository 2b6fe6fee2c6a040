-- For private contracts alone: what a call's function takes is what the buffer holds.
use Rattle.std.specs.Prelude.{ℕ, List}
use Rattle.qir_module.specs.declared.instruction.Arg.{Arg}
use Rattle.qir_module.specs.declared.function.Function.{Function}
use Rattle.qir_module.specs.Functions.{row_of}
use Rattle.qir_module.specs.Machine.{State, all_given}
use Rattle.qir_module.specs.Passes.{takes_of}
use Rattle.qir_machine.specs.declared.given.Arguments.{Arguments}
use Rattle.qir_machine.specs.Given.{AreRead}

-- all arguments of a call of a function could be read, and the buffer holds them
abbrev pub IsGiven : ℕ → State → Function → List Arg → Arguments → Type 0
IsGiven labels s function args all = AreRead (all_given labels s (takes_of (row_of function.0)) args) all
