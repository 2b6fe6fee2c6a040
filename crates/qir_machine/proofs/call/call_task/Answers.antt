use Rattle.std.proofs.Common.{arith}
use Rattle.qir_machine.proofs.Calls.{gate_call}
use Rattle.qir_machine.proofs.call.call_task.Goals as goal

pub returns-in_default-clause-runs : goal.returns-in_default-clause-runs
returns-in_default-clause-runs c = λ labels s args r. gate_call labels s _ args _ (omega arith) (omega arith) r
