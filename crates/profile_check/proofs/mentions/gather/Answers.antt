use Rattle.std.proofs.Common.{[]}
use Rattle.profile_check.proofs.mentions.gather.Goals as goal

pub returns-clause-registers : goal.returns-clause-registers
returns-clause-registers c = (c.in_ok-visit_all.ensures [] (c.new.ensures.registers, c.new-2.ensures.results)).0.mentions

pub returns-clause-results : goal.returns-clause-results
returns-clause-results c = (c.in_ok-visit_all.ensures [] (c.new.ensures.registers, c.new-2.ensures.results)).1.mentions
