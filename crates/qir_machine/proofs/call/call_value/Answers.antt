use Rattle.std.proofs.Common.{sym}
use Rattle.qir_machine.proofs.Calls.{value_call_fails}
use Rattle.qir_machine.proofs.call.call_value.Goals as goal

pub returns-then-function-ne1-clause-runs : goal.returns-then-function-ne1-clause-runs
returns-then-function-ne1-clause-runs c = λ labels args r. sym (value_call_fails labels _ _ _ args c.if-function-ne1.true c.requires)
