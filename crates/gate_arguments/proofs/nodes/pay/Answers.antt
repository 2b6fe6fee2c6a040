use Rattle.gate_arguments.proofs.Paying.{paid_for}
use Rattle.gate_arguments.proofs.nodes.pay.Goals as goal

pub returns : goal.returns
returns c = paid_for c.args.budget.now c.spend.new.self c.args.cost c.spend.result c.spend.ensures.paid c.spend.ensures.rest c.spend.ensures.passed c.spend.ensures.refused
