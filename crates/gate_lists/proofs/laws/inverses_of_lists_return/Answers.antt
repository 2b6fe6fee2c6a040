use Rattle.gate_lists.proofs.Returning.{inverses_return}
use Rattle.gate_lists.proofs.laws.inverses_of_lists_return.Goals as goal

pub returns : goal.returns
returns c = inverses_return c.inverses_return.ensures
