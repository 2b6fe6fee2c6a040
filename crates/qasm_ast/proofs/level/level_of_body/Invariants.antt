use Rattle.std.proofs.Common.{◌≡◌, min, take, slice_index}
use Rattle.qasm_ast.specs.Shallow.{body_level}
use Rattle.qasm_ast.proofs.level.level_of_body.Given as goal

abbrev pub invariant-loop-id : goal.invariant-loop-id
invariant-loop-id l = l.most ≡ min 65 (body_level (slice_index l.levels) (take l.id-index l.id-items))
