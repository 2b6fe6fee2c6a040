use Rattle.qir_machine.specs.Remaining.{remaining}
use Rattle.run_text.specs.Showing.{steps_of}
use Rattle.qq_tool.specs.Playing.{IsOnWay}
use Rattle.qq_tool.proofs.run.play.Given as goal

abbrev pub invariant-loop-machine : goal.invariant-loop-machine
invariant-loop-machine g l =
    let taken = g.O.Sink.taken in
    let faults = g.O.Sink.faults in
    IsOnWay
    (record { remains = remaining l.fn.machine; going = l.fn.show; taken = taken l.fn.out; faults = faults l.fn.out })
    (record { remains = remaining l.machine; going = l.show; taken = taken l.out; faults = faults l.out })

abbrev pub decreases-loop-machine : goal.decreases-loop-machine
decreases-loop-machine g l = steps_of (remaining l.machine) l.show
