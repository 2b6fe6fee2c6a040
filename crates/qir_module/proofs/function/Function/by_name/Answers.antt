use Rattle.std.proofs.Common.{arith}
use Rattle.qir_module.specs.Functions.{rows}
use Rattle.qir_module.proofs.FunctionNames.{named_at}
use Rattle.qir_module.proofs.function.Function.by_name.Goals as goal

pub returns-clause-none : goal.returns-clause-none
returns-clause-none c =
    λ place is. c.loop-place.invariant place (omega (arith, (named_at rows place c.args.name.now is).0, c.loop-place-test.false)) is
