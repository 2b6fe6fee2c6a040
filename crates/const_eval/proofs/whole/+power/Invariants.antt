use Rattle.const_eval.proofs.whole.+power.Given as goal

abbrev pub decreases-power : goal.decreases-power
decreases-power l = l.exponent
