use Rattle.std.proofs.Common.{◌≡◌, drop}
use Rattle.qir_module.specs.Passes.{some_returns}
use Rattle.profile_check.proofs.records.some_returns.Given as goal

abbrev pub invariant-loop-block : goal.invariant-loop-block
invariant-loop-block l = some_returns (drop l.block-index l.blocks) ≡ some_returns l.blocks
