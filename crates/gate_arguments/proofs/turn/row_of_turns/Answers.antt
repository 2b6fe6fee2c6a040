use Rattle.gate_arguments.proofs.TurnRows.{difference_of_turns}
use Rattle.gate_arguments.proofs.turn.row_of_turns.Goals as goal

pub returns-in-Subtract-clause-answer : goal.returns-in-Subtract-clause-answer
returns-in-Subtract-clause-answer c = λ worths. rw c.in-Subtract.is (difference_of_turns c.args.operator.at c.args.operator.left c.args.operator.right (worths c.args.a) (worths c.args.b))
