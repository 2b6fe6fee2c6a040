use Rattle.run_text.proofs.Prints.{printed_none, printed_then}
use Rattle.run_text.proofs.laws.texts_are_joined.Goals as goal

pub returns-clause-none : goal.returns-clause-none
returns-clause-none c = printed_none

pub returns-clause-both : goal.returns-clause-both
returns-clause-both c = λ first middle last text more p q. printed_then p q
