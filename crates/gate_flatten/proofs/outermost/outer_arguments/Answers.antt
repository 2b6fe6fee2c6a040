use Rattle.std.proofs.Common.{◌<◌, ◌∙◌, length, get_or, arith}
use Rattle.std.proofs.lemmas.Option.{slice_get-get_or}
use Rattle.gate_flatten.specs.Outer.{RunningOuter}
use Rattle.gate_flatten.proofs.Outering.{one_outer_more, worths_kept, count_more, fit_more}
use Rattle.gate_flatten.proofs.outermost.outer_arguments.Goals as goal

pub loop-k-preserved : goal.loop-k-preserved
loop-k-preserved g c =
    let outers = g.E.CallEnv.outers c.args.env.now in
    let within : c.loop-k.k < length outers = omega (arith, c.requires.all) in
    let m = get_or outers c.loop-k.k RunningOuter in
    let there = slice_get-get_or outers c.loop-k.k RunningOuter within in
    let old = c.loop-k.turns.items.items in
    let new = c.outer_argument.new.turns.items.items in
    record {
      worths = λ given worths are.
          rw c.in_ok-push.ensures
          (one_outer_more given worths outers c.loop-k.arguments.items c.loop-k.k m c.in_ok-argument.argument there
          (c.loop-k.invariant.worths given worths (worths_kept given worths old new c.in_ok-argument.ensures.kept are))
          (c.in_ok-argument.ensures.worth given worths m are there));
      count = rw c.in_ok-push.ensures (count_more c.loop-k.arguments.items c.in_ok-argument.argument c.loop-k.k c.loop-k.invariant.count);
      fit = rw c.in_ok-push.ensures (fit_more old new c.loop-k.arguments.items c.in_ok-argument.argument c.in_ok-argument.ensures.kept c.loop-k.invariant.fit c.in_ok-argument.ensures.fits);
      outers = c.in_ok-argument.ensures.outers ∙ c.loop-k.invariant.outers;
      args = c.in_ok-argument.ensures.args;
    }
