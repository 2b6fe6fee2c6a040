use Rattle.std.proofs.Common.{◌≡◌, min, take, slice_index}
use Rattle.qasm_ast.specs.Level.{greatest}
use Rattle.qasm_ast.specs.Shallow.{param_level}
use Rattle.qasm_ast.proofs.level.level_of_params.Given as goal

abbrev pub invariant-loop-param : goal.invariant-loop-param
invariant-loop-param l = l.most ≡ min 65 (greatest (param_level (slice_index l.levels)) (take l.param-index l.param-items))
