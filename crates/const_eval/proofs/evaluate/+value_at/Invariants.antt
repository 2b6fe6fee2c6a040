use Rattle.std.proofs.Common.{◌≡◌, ◌+◌, ◌*◌, drop, length, All}
use Rattle.qasm_ast.specs.Size.{size_of, trees_size, maybe_size, bracket_size, brackets_size}
use Rattle.qasm_ast.specs.View.{tree_in, trees_in, maybe_in, bracket_in, brackets_in}
use Rattle.alias_resolve.specs.Places.{HasFewMembers}
use Rattle.const_eval.specs.Meaning.{meaning_in}
use Rattle.const_eval.proofs.Walking.{behind, members_from, indexes_from}
use Rattle.const_eval.proofs.evaluate.+value_at.Given as goal

abbrev pub decreases-value_at : goal.decreases-value_at
decreases-value_at g l = 2 * size_of (tree_in l.program.now l.id.0)

abbrev pub decreases-named_value : goal.decreases-named_value
decreases-named_value g l = 2 * brackets_size (brackets_in l.program.now l.operand.now.index) + 1

abbrev pub decreases-written_type : goal.decreases-written_type
decreases-written_type g l = 2 * maybe_size (maybe_in l.program.now l.ty.now.width)

abbrev pub decreases-whole_value : goal.decreases-whole_value
decreases-whole_value g l = 2 * size_of (tree_in l.program.now l.id.0) + 1

abbrev pub decreases-end_value : goal.decreases-end_value
decreases-end_value g l = 2 * maybe_size (maybe_in l.program.now l.id)

abbrev pub decreases-member_values : goal.decreases-member_values
decreases-member_values g l = 2 * trees_size (trees_in l.program.now l.ids.now)

abbrev pub decreases-index_value : goal.decreases-index_value
decreases-index_value g l = 2 * bracket_size (bracket_in l.program.now l.index.now)

abbrev pub decreases-index_values : goal.decreases-index_values
decreases-index_values g l = 2 * brackets_size (brackets_in l.program.now l.index.now)

-- the members that were found, in front of those that are left
abbrev pub invariant-member_values-loop-id : goal.invariant-member_values-loop-id
invariant-member_values-loop-id g l = let means = meaning_in l.program (g.E.Constants.names l.env) in
    record {
      due : members_from l.program means l.outer.exact l.outer.place l.ids ≡ behind l.members.items (members_from l.program means l.outer.exact l.outer.place (drop l.id-index l.ids));
      count : length l.members.items ≡ l.id-index;
    }

-- the values that were found, in front of those that are left
abbrev pub invariant-index_values-loop-bracket : goal.invariant-index_values-loop-bracket
invariant-index_values-loop-bracket g l = let means = meaning_in l.program (g.E.Constants.names l.env) in
    record {
      due : indexes_from l.program means l.outer.exact l.outer.place l.index ≡ behind l.values.items (indexes_from l.program means l.outer.exact l.outer.place (drop l.bracket-index l.index));
      count : length l.values.items ≡ l.bracket-index;
      few : All HasFewMembers l.values.items;
    }
