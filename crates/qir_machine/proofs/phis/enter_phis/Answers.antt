use Rattle.std.proofs.Common.{Some, refl, ap}
use Rattle.qir_machine.specs.Remaining.{value_of}
use Rattle.qir_machine.proofs.Entering.{taken_by_values, stored_front}
use Rattle.qir_machine.proofs.phis.enter_phis.Goals as goal

pub returns-then-not-read_phis-clause-state : goal.returns-then-not-read_phis-clause-state
returns-then-not-read_phis-clause-state c = rw (taken_by_values c.args.phis.now, c.if-not-read_phis.ensures.values) refl

pub returns-clause-state : goal.returns-clause-state
returns-clause-state c = rw (taken_by_values c.args.phis.now, c.if-not-read_phis.ensures.values, c.store_phis.ensures.state, c.deref.ensures.value) (ap (λ s. Some s) (stored_front value_of c.args.phis.now _ _))
