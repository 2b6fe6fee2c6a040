use Rattle.std.proofs.Common.{max, slice_index, ◌∙◌, arith}
use Rattle.qasm_ast.specs.Shallow.{given_level, refs_level}
use Rattle.qasm_ast.proofs.Seen.{mods-cut}
use Rattle.qasm_ast.proofs.level.level_of_gate_call.Goals as goal

pub returns : goal.returns
returns c =
    c.level_of_mods.ensures
    ∙ mods-cut (slice_index c.args.levels.now) c.args.mods.now c.max-inside.result (max (given_level (slice_index c.args.levels.now) c.args.args.now) (refs_level (slice_index c.args.levels.now) c.args.operands.now)) (omega arith)
