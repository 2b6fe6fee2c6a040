use Rattle.std.proofs.Common.{take}
use Rattle.std.specs.List.{flat_map}
use Rattle.run_text.specs.Shown.{further_text}
use Rattle.run_text.specs.Printing.{Prints, desk}
use Rattle.run_text.proofs.printer.Printer.put_furthers.Given as goal

abbrev pub invariant-loop-angle : goal.invariant-loop-angle
invariant-loop-angle g l =
    let taken = g.O.Sink.taken in
    let faults = g.O.Sink.faults in
    Prints (desk (taken l.fn.out) (faults l.fn.out) l.fn.self) (flat_map further_text (take l.angle-index l.angles)) (desk (taken l.out) (faults l.out) l.self)
