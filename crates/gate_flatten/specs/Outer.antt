-- What an environment says of an argument of the outermost call.
use Rattle.const_eval.specs.Constant.{Constant}
use Rattle.const_eval.specs.Seen.{constant_of}
use Rattle.gate_flatten.specs.declared.environment.OuterArg.{OuterArg}
use Rattle.gate_flatten.specs.declared.environment.OuterArg.TheVariants as outer

pub data OuterMeaning : Type 0 where
  FixedOuter : Constant → OuterMeaning
  RunningOuter : OuterMeaning

abbrev pub outer_of : OuterArg → OuterMeaning
outer_of (outer.Fixed c) = FixedOuter (constant_of c.now)
outer_of outer.Running = RunningOuter
