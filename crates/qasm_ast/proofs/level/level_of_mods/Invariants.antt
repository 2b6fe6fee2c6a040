use Rattle.std.proofs.Common.{◌≡◌, ◌≤◌, min, drop, vec_len, slice_index}
use Rattle.qasm_ast.specs.Shallow.{mods_level}
use Rattle.qasm_ast.proofs.level.level_of_mods.Given as goal

abbrev pub invariant-loop-left : goal.invariant-loop-left
invariant-loop-left l = record {
  within : l.left ≤ vec_len l.mods-inside.items;
  same : l.level ≡ min 65 (mods_level (slice_index l.levels) (drop l.left l.mods-inside.items.items) l.fn.inside);
}

abbrev pub decreases-loop-left : goal.decreases-loop-left
decreases-loop-left l = l.left
