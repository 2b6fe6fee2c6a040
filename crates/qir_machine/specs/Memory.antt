-- For private contracts alone: the state that the code's tables of registers and results hold.
use Rattle.qir_module.specs.Machine.{State}
use Rattle.qir_machine.specs.declared.memory.Memory.{Memory}
use Rattle.qir_machine.specs.Remaining.{stored_in}

abbrev pub state_of : Memory → State
state_of memory = stored_in memory.registers.items memory.results.items
