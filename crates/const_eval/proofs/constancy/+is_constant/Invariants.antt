use Rattle.std.proofs.Common.{◌≡◌, drop}
use Rattle.qasm_ast.specs.Size.{size_of, trees_size, maybe_size, bracket_size, brackets_size}
use Rattle.qasm_ast.specs.View.{tree_in, trees_in, maybe_in, bracket_in, brackets_in}
use Rattle.const_eval.specs.Meaning.{meaning_in}
use Rattle.const_eval.specs.IsConstant.{are_constant, are_constant_brackets}
use Rattle.const_eval.proofs.constancy.+is_constant.Given as goal

abbrev pub decreases-is_constant : goal.decreases-is_constant
decreases-is_constant g l = size_of (tree_in l.program.now l.expr.0)

abbrev pub decreases-are_constant : goal.decreases-are_constant
decreases-are_constant g l = trees_size (trees_in l.program.now l.ids.now)

abbrev pub decreases-is_constant_if_some : goal.decreases-is_constant_if_some
decreases-is_constant_if_some g l = maybe_size (maybe_in l.program.now l.id)

abbrev pub decreases-is_constant_bracket : goal.decreases-is_constant_bracket
decreases-is_constant_bracket g l = bracket_size (bracket_in l.program.now l.index.now)

abbrev pub decreases-are_constant_brackets : goal.decreases-are_constant_brackets
decreases-are_constant_brackets g l = brackets_size (brackets_in l.program.now l.index.now)

-- all members so far are constant
abbrev pub invariant-are_constant-loop-id : goal.invariant-are_constant-loop-id
invariant-are_constant-loop-id g l = let means = meaning_in l.program (g.E.Constants.names l.env) in are_constant means (trees_in l.program l.ids) ≡ are_constant means (trees_in l.program (drop l.id-index l.ids))

abbrev pub invariant-are_constant_brackets-loop-bracket : goal.invariant-are_constant_brackets-loop-bracket
invariant-are_constant_brackets-loop-bracket g l = let means = meaning_in l.program (g.E.Constants.names l.env) in are_constant_brackets means (brackets_in l.program l.index) ≡ are_constant_brackets means (brackets_in l.program (drop l.bracket-index l.index))
