use Rattle.std.proofs.Common.{◌≡◌, drop}
use Rattle.qasm_ast.specs.Size.{size_of, trees_size, maybe_size, bracket_size, brackets_size}
use Rattle.qasm_ast.specs.View.{tree_in, trees_in, maybe_in, bracket_in, brackets_in}
use Rattle.qasm_ast.specs.Walks.{occurs_in_any, occurs_in_brackets}
use Rattle.qasm_ast.proofs.walks.+occurs.Given as goal

abbrev pub decreases-occurs : goal.decreases-occurs
decreases-occurs l = size_of (tree_in l.program.now l.id.0)

abbrev pub decreases-occurs_in_any : goal.decreases-occurs_in_any
decreases-occurs_in_any l = trees_size (trees_in l.program.now l.ids.now)

abbrev pub decreases-occurs_in_some : goal.decreases-occurs_in_some
decreases-occurs_in_some l = maybe_size (maybe_in l.program.now l.id)

abbrev pub decreases-occurs_in_bracket : goal.decreases-occurs_in_bracket
decreases-occurs_in_bracket l = bracket_size (bracket_in l.program.now l.index.now)

abbrev pub decreases-occurs_in_brackets : goal.decreases-occurs_in_brackets
decreases-occurs_in_brackets l = brackets_size (brackets_in l.program.now l.index.now)

-- the name occurs in no member so far
abbrev pub invariant-occurs_in_any-loop-id : goal.invariant-occurs_in_any-loop-id
invariant-occurs_in_any-loop-id l = occurs_in_any l.text (trees_in l.program l.ids) ≡ occurs_in_any l.text (trees_in l.program (drop l.id-index l.ids))

abbrev pub invariant-occurs_in_brackets-loop-bracket : goal.invariant-occurs_in_brackets-loop-bracket
invariant-occurs_in_brackets-loop-bracket l = occurs_in_brackets l.text (brackets_in l.program l.index) ≡ occurs_in_brackets l.text (brackets_in l.program (drop l.bracket-index l.index))
