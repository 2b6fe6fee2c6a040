use Rattle.std.proofs.Common.{sym, ap, arith, of_z}
use Rattle.std.specs.Int.{w128}
use Rattle.std.proofs.lemmas.Int.{ints}
use Rattle.const_eval.proofs.Powers.{where_amount-beyond}
use Rattle.const_eval.proofs.whole.shifted_left.Goals as goal

pub returns-then-amount-ge64 : goal.returns-then-amount-ge64
returns-then-amount-ge64 c = sym (where_amount-beyond c.args.number c.args.amount (λ e. c.if-number-eq0.false (ap (of_z w128) e)) (omega (arith, ints)))
