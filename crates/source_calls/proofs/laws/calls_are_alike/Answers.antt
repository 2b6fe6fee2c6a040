use Rattle.source_calls.proofs.Alike.{expansion_same}
use Rattle.source_calls.proofs.laws.calls_are_alike.Goals as goal

pub returns : goal.returns
returns c is pair one other alike =
    expansion_same is pair one other alike (c.expressions_rest_on_their_names.ensures.constants is) (c.expressions_rest_on_their_names.ensures.operands is)
