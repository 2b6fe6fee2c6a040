use Rattle.std.proofs.Common.{◌+◌, ◌≤◌, Some, length}
use Rattle.qasm_grammar.specs.Reader.{read_call}
use Rattle.qasm_parser.specs.State.{After}
use Rattle.program_parser.specs.World.{Stands}
use Rattle.program_parser.specs.Shows.{ChangeIn}
use Rattle.program_parser.proofs.Changing.{Changing}
use Rattle.program_parser.proofs.calls.call.Given as goal

abbrev pub invariant-mods : goal.invariant-mods
invariant-mods l = record {
  changing : Changing l.fn.parser.text (Stands ChangeIn l.parser) (read_call l.fn.parser.text (Some 64) l.room l.fn.parser.left) l.mods.items l.left l.parser.left;
  count : length l.mods.items + length l.parser.left ≤ length l.fn.parser.left;
  after : After 0 0 l.fn.parser l.parser;
}

abbrev pub decreases-mods : goal.decreases-mods
decreases-mods l = length l.parser.left
