use Rattle.std.proofs.Common.{subst, Bool, List, ℕ, Option}
use Rattle.qir_machine.specs.Remaining.{remaining}
use Rattle.qir_machine.specs.Steps.{IsStep}
use Rattle.run_text.specs.Printing.{Prints}
use Rattle.qq_tool.specs.Playing.{Played}
use Rattle.qq_tool.proofs.Playing.{desk_of, way_starts, way_goes_on, way_ends}
use Rattle.qq_tool.proofs.run.play.Goals as goal

pub loop-machine-init : goal.loop-machine-init
loop-machine-init g c = way_starts _ (c.texts_are_joined.ensures.none _)

pub loop-machine-preserved : goal.loop-machine-preserved
loop-machine-preserved g c =
    let taken = g.O.Sink.taken in
    let faults = g.O.Sink.faults in
    let start : Played = record { remains = remaining c.args.machine.now; going = c.args.show.now; taken = taken c.args.out.now; faults = faults c.args.out.now } in
    let now : Played = record { remains = remaining c.loop-machine.machine; going = c.loop-machine.show; taken = taken c.loop-machine.out; faults = faults c.loop-machine.out } in
    let next : Played = record { remains = remaining c.step-step.new.self; going = c.take.new.self; taken = taken c.take.new.out; faults = faults c.take.new.out } in
    let step = subst (λ (given : Option Bool). IsStep now.remains given c.step-step.result next.remains) c.outcome.ensures c.step-step.ensures.step in
    let made = c.in_default.ensures now.remains next.remains step c.step-step.ensures.records_last in
    way_goes_on c.texts_are_joined.ensures.both start now next c.loop-machine.invariant made.0 made.1 made.2

pub returns-in-Some : goal.returns-in-Some
returns-in-Some g c =
    let taken = g.O.Sink.taken in
    let faults = g.O.Sink.faults in
    let start : Played = record { remains = remaining c.args.machine.now; going = c.args.show.now; taken = taken c.args.out.now; faults = faults c.args.out.now } in
    let now : Played = record { remains = remaining c.loop-machine.machine; going = c.loop-machine.show; taken = taken c.loop-machine.out; faults = faults c.loop-machine.out } in
    let end : Played = record { remains = remaining c.step-step.new.self; going = c.take.new.self; taken = taken c.take.new.out; faults = faults c.take.new.out } in
    let step = subst (λ (given : Option Bool). IsStep now.remains given c.step-step.result end.remains) c.outcome.ensures c.step-step.ensures.step in
    let made = c.in-Some.ensures now.remains end.remains step c.step-step.ensures.records_last in
    let prints = subst (λ (text : List ℕ). Prints (desk_of now) text (desk_of end)) made.2.1 made.1 in
    way_ends c.texts_are_joined.ensures.both start now end c.in-Some.fate c.loop-machine.invariant prints made.2.2
